-- Where nothing is grey and no rescue waits, exactly the objects that aren't marked may vanish.
use Rattle.std.proofs.Common.{◌≡◌, ◌⊎◌, inl, inr, ℕ, List, [], ◌∷◌, refl, sym, ◌∙◌, ap, subst, Bool, true, false, cond, not, Option, Some, None}
use Rattle.marking.proofs.Words.{Along, Collection, Colours, Grey, IsKept, IsLeft, IsMarked, IsMarking, IsToRead, IsWaiting, MayVanish, Puid, Rescue, Start, State, draft_at, filter, graph_pairs, has_pair, ids_of, is_among, is_found, is_live, is_marking, is_there, is_there-ids, list_any-append, object_at, or_cases, or_left, or_right, own_part, pairs_of, rises-filter, same_puid, same_puid_is, unmarked}
use Rattle.std.proofs.Common.{◌+◌, ◌&&◌}
use Rattle.ufs_model.specs.declared.collection.Collection.TheVariants as collections
use Rattle.marking.proofs.Wells.{IsWell}
use Rattle.ufs_model.specs.State.{draft_pairs}
use Rattle.marking.proofs.Wells.{found_kind, draft_inside}
use Rattle.marking.proofs.Places.{at_own, draft_stands}
use Rattle.cfs_base.specs.declared.kind.Kind.TheVariants as kinds
use Rattle.marking.proofs.Reaches.{WasReached}
use Rattle.marking.proofs.Leaves.{pair_leaf, refers_leaf, kind_there}

-- ---- of a list goes what fails a test, and no more

module _ (M : Puid → Bool) where
  abbrev gone : List Puid → List Puid
  gone ids = filter (λ x. not (M x)) ids

  gone_fails : (x : Puid) (ids : List Puid) → is_among x (gone ids) ≡ true → (is_among x ids ≡ true) × (M x ≡ false)
  gone_fails x [] h = cc
  gone_fails x (y ∷ ys) h = elim (M y) as (λ m. M y ≡ m → is_among x (cond (not m) (y ∷ gone ys) (gone ys)) ≡ true → (is_among x (y ∷ ys) ≡ true) × (M x ≡ false)) [
    | true ↦ λ is later. let rest = gone_fails x ys later in (or_right (same_puid x y) _ rest.0, rest.1)
    | false ↦ λ is at. elim (or_cases (same_puid x y) (is_among x (gone ys)) at) [
      | inl here ↦ (or_left _ (is_among x ys) here, ap M (same_puid_is x y here) ∙ is)
      | inr later ↦ let rest = gone_fails x ys later in (or_right (same_puid x y) _ rest.0, rest.1)
    ]
  ] refl h

  stays : (x : Puid) (ids : List Puid) → M x ≡ true → is_among x (gone ids) ≡ false
  stays x ids m = at (is_among x (gone ids)) refl
    where
      at : (b : Bool) → is_among x (gone ids) ≡ b → b ≡ false
      at true is = let out = (gone_fails x ids is).1 in cc
      at false is = refl

  goes : (x : Puid) (ids : List Puid) → is_among x ids ≡ true → M x ≡ false → is_among x (gone ids) ≡ true
  goes x [] h out = cc
  goes x (y ∷ ys) h out = elim (M y) as (λ m. M y ≡ m → is_among x (cond (not m) (y ∷ gone ys) (gone ys)) ≡ true) [
    | true ↦ λ is. elim (or_cases (same_puid x y) (is_among x ys) h) [ inl here ↦ (let in_it : M x ≡ true = ap M (same_puid_is x y here) ∙ is in cc) | inr later ↦ goes x ys later out ]
    | false ↦ λ is. elim (or_cases (same_puid x y) (is_among x ys) h) [ inl here ↦ or_left _ (is_among x (gone ys)) here | inr later ↦ or_right (same_puid x y) _ (goes x ys later out) ]
  ] refl

  goes_or_stays : (x : Puid) (ids : List Puid) → is_among x ids ≡ true → (is_among x (gone ids) ≡ true) ⊎ (M x ≡ true)
  goes_or_stays x ids at = elim (M x) as (λ m. M x ≡ m → (is_among x (gone ids) ≡ true) ⊎ (M x ≡ true)) [ true ↦ λ is. inr is | false ↦ λ is. inl (goes x ids at is) ] refl

-- ---- a collection that has reached something marks

reaches_marking : (k : Collection) (x : Puid) → WasReached k x → is_marking k ≡ true
reaches_marking (collections.Marking edges starts) x h = refl
reaches_marking collections.None x (Start h) = cc
reaches_marking collections.None x (Along {i} before pair) = reaches_marking collections.None i before
reaches_marking collections.Sweeping x (Start h) = cc
reaches_marking collections.Sweeping x (Along {i} before pair) = reaches_marking collections.Sweeping i before

pub marks : (s : State) (c : Colours) (waiting : List Rescue) → IsMarking s c waiting → is_marking s.collection ≡ true
marks s c waiting is = let y = is.coloured.known s.graph.root.block is.root_marked in reaches_marking s.collection y.0 y.3

-- ---- nothing is left to read

none_to_read : (grey : List Grey) (from : Option Puid) (leaf : ℕ) → grey ≡ [] → ¬ IsToRead grey from leaf
none_to_read [] from leaf is h = h
none_to_read (e ∷ es) from leaf is h = cc

module _ (s : State) (well : IsWell s) (c : Colours) (none : c.grey ≡ []) (is : IsMarking s c []) where
  abbrev M : Puid → Bool
  M x = c.marked x.block

  -- what is found is marked
  found_marked : (from : Option Puid) (leaf : ℕ) (x : Puid) → is_found s from leaf x ≡ true → is_live from c ≡ true → M x ≡ true
  found_marked from leaf x found live = elim (is.coloured.covered from leaf x found live) [
    | inl (IsMarked m) ↦ m
    | inl (IsWaiting w) ↦ absurd w
    | inl (IsLeft l) ↦ absurd (none_to_read c.grey from leaf none l)
    | inr owed ↦ absurd owed
  ]

  -- a pair that stands now is found somewhere
  pair_found : (i x : Puid) → has_pair (pairs_of s) i x ≡ true → (place : ℕ) × (is_found s (Some i) place x ≡ true)
  pair_found i x at = elim (or_cases _ _ (sym (list_any-append (λ (e : Puid × Puid). same_puid i e.0 && same_puid x e.1) (graph_pairs s.graph) (draft_pairs s.grants)) ∙ at)) [
    | inl own ↦ let leaf = pair_leaf s.graph well.ordered i x own in (own_part + leaf.0, at_own (draft_at s.grants i) (object_at s.graph i) leaf.0 x leaf.1)
    | inr drafted ↦
        let leaf = refers_leaf (draft_at s.grants i) x (well.pairs i x drafted) in
        let stands = draft_stands (draft_at s.grants i) (object_at s.graph i) leaf.0 x (draft_inside s well i x leaf.0 leaf.1) leaf.1 in
        (stands.place, stands.there)
  ]

  along : (i x : Puid) → has_pair (pairs_of s) i x ≡ true → M i ≡ true → M x ≡ true
  along i x at m = let place = pair_found i x at in found_marked (Some i) place.0 x place.1 m

  kept_marked : (x : Puid) → IsKept s x → M x ≡ true
  kept_marked x (Start at) = found_marked None 0 x at refl
  kept_marked x (Along {i} before pair) = along i x pair (kept_marked i before)

  -- what is marked was reached
  was_reached : (x : Puid) → is_there s.graph x ≡ true → M x ≡ true → WasReached s.collection x
  was_reached x there m = let y = is.coloured.known x.block m in subst (λ (k : Puid). WasReached s.collection k) (well.alone y.0 x y.2 there y.1) y.3

  abbrev out : List Puid
  out = unmarked c (ids_of s.graph)

  pub condemned_may_vanish : MayVanish s out
  condemned_may_vanish = record {
    marking = marks s c [] is;
    rising = rises-filter (λ x. not (M x)) (ids_of s.graph) well.ordered;
    there = λ x at. is_there-ids s.graph x ∙ (gone_fails M x (ids_of s.graph) at).0;
    none_kept = λ x kept. stays M x (ids_of s.graph) (kept_marked x kept);
    none_referred = λ i x at left.
        let place = pair_found i x at in
        elim (goes_or_stays M i (ids_of s.graph) (sym (is_there-ids s.graph i) ∙ kind_there (object_at s.graph i) kinds.Index (found_kind s well i place.0 x place.1))) [
          | inl goes ↦ cc
          | inr m ↦ stays M x (ids_of s.graph) (along i x at m)
        ];
    all_cut_off = λ x cut. elim (goes_or_stays M x (ids_of s.graph) (sym (is_there-ids s.graph x) ∙ cut.there)) [
      | inl goes ↦ goes
      | inr m ↦ absurd (cut.cut_off (was_reached x cut.there m))
    ];
  }
