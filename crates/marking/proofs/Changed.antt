-- What may happen between two steps keeps what holds of a collection that marks.
use Rattle.std.proofs.Common.{◌≡◌, ◌⊎◌, inl, inr, arith, List, [], ◌∷◌, ◌++◌, refl, sym, ◌∙◌, subst, true, Option, Some, None}
use Rattle.marking.proofs.Words.{Changes, Colours, Grey, IsColoured, IsLeft, IsMarked, IsMarking, IsToRead, IsWaiting, OwesNothing, Puid, Rescue, State, Waits, is_index_there, is_remembered, is_there, object_at}
use Rattle.std.proofs.Common.{ℕ, ◌≤◌, length-append}
use Rattle.cfs_base.specs.declared.kind.Kind.TheVariants as kinds
use Rattle.marking.proofs.Leaves.{kind_there, there_kind}
use Rattle.marking.proofs.Reaches.{reach_more}

-- rescues that come after others
pub waits_first : (ws vs : List Rescue) (index : Option Puid) (x : Puid) → Waits ws index x → Waits (ws ++ vs) index x
waits_first [] vs index x h = absurd h
waits_first (w ∷ ws) vs index x (inl here) = inl here
waits_first (w ∷ ws) vs index x (inr later) = inr (waits_first ws vs index x later)

pub waits_then : (ws vs : List Rescue) (index : Option Puid) (x : Puid) → Waits vs index x → Waits (ws ++ vs) index x
waits_then [] vs index x h = h
waits_then (w ∷ ws) vs index x h = inr (waits_then ws vs index x h)

pub waits_either : (ws vs : List Rescue) (index : Option Puid) (x : Puid) → Waits (ws ++ vs) index x → Waits ws index x ⊎ Waits vs index x
waits_either [] vs index x h = inr h
waits_either (w ∷ ws) vs index x (inl here) = inl (inl here)
waits_either (w ∷ ws) vs index x (inr later) = elim (waits_either ws vs index x later) [ inl a ↦ inl (inr a) | inr b ↦ inr b ]

-- what is to be read at a place is so at each that comes later
pub read_later : (grey : List Grey) (from : Option Puid) (place later : ℕ) → place ≤ later → IsToRead grey from place → IsToRead grey from later
read_later [] from place later le h = h
read_later (e ∷ es) from place later le (inl here) = inl (here.0, omega (arith, here.1, le))
read_later (e ∷ es) from place later le (inr rest) = inr (read_later es from place later le rest)

module _ (s t : State) (more : List Rescue) (change : Changes s t more) where
  pub there_still : (x : Puid) → is_there s.graph x ≡ true → is_there t.graph x ≡ true
  there_still x h = let kind = there_kind (object_at s.graph x) h in kind_there (object_at t.graph x) kind.0 (change.kinds x kind.0 kind.1)

  index_still : (index : Option Puid) → is_index_there s.graph index ≡ true → is_index_there t.graph index ≡ true
  index_still None h = refl
  index_still (Some i) h = there_still i h

  module _ (c : Colours) (waiting : List Rescue) (is : IsColoured s OwesNothing c waiting) where
    rescued : (index : Option Puid) (x : Puid) → Waits (waiting ++ more) index x → (is_remembered t.collection index x ≡ true) × (is_index_there t.graph index ≡ true)
    rescued index x w = elim (waits_either waiting more index x w) [
      | inl old ↦ let was = is.rescues index x old in (change.memory index x was.0, index_still index was.1)
      | inr new ↦ change.rescues index x new
    ]

    change_coloured : IsColoured t OwesNothing c (waiting ++ more)
    change_coloured = record {
      covered = λ from leaf x found live. elim (change.found from leaf x found) [
        | inl old ↦ elim (is.covered from old.before x old.there live) [
          | inl (IsMarked m) ↦ inl (IsMarked m)
          | inl (IsWaiting w) ↦ inl (IsWaiting (waits_first waiting more from x w))
          | inl (IsLeft l) ↦ inl (IsLeft (read_later c.grey from old.before leaf old.earlier l))
          | inr none ↦ inr none
        ]
        | inr new ↦ inl (IsWaiting (waits_then waiting more from x new))
      ];
      known = λ b m. let x = is.known b m in (x.0, x.1, there_still x.0 x.2, reach_more s.collection t.collection change.memory x.0 x.3);
      grey = λ i h. let was = is.grey i h in (was.0, change.kinds i kinds.Index was.1);
      once = is.once;
      rescues = rescued;
      stands = λ from leaf x found. elim (change.found from leaf x found) [
        | inl old ↦ change.memory from x (is.stands from old.before x old.there)
        | inr new ↦ (change.rescues from x new).0
      ];
    }

  pub changes_keep : (c : Colours) (waiting : List Rescue) → IsMarking s c waiting → IsMarking t c (waiting ++ more)
  changes_keep c waiting is = record {
    root_marked = subst (λ (r : Puid). c.marked r.block ≡ true) (sym change.root) is.root_marked;
    coloured = change_coloured c waiting is.coloured;
  }

-- one change after another
pub changes_then : (s t u : State) (more yet : List Rescue) → Changes s t more → Changes t u yet → Changes s u (more ++ yet)
changes_then s t u more yet one two = record {
  root = two.root ∙ one.root;
  kinds = λ x kind h. two.kinds x kind (one.kinds x kind h);
  found = λ from leaf x h. elim (two.found from leaf x h) [
    | inl mid ↦ elim (one.found from mid.before x mid.there) [
      | inl old ↦ inl (record { before = old.before; earlier = omega (arith, old.earlier, mid.earlier); there = old.there })
      | inr new ↦ inr (waits_first more yet from x new)
    ]
    | inr new ↦ inr (waits_then more yet from x new)
  ];
  rescues = λ index x h. elim (waits_either more yet index x h) [
    | inl first ↦ let was = one.rescues index x first in (two.memory index x was.0, index_still t u yet two index was.1)
    | inr later ↦ two.rescues index x later
  ];
  memory = λ index x h. two.memory index x (one.memory index x h);
  leaves = λ c. omega (arith, one.leaves c, two.leaves c);
  unread = λ c. omega (arith, one.unread c, two.unread c, length-append more yet);
}
