-- How much a collection has left: no step adds to it, and each takes from it.
use Rattle.std.proofs.Common.{◌≡◌, ℕ, zero, suc, ◌+◌, ◌*◌, ◌/◌, ◌<◌, ◌≤◌, ◌==◌, ◌||◌, nat_lt, Bool, true, false, cond, List, [], ◌∷◌, length, Option, Some, None, refl, sym, ap, ◌∙◌, subst, arith, inl, inr}
use Rattle.collector_steps.proofs.Words.{Collecting, Colours, Grey, IfSome, IsPhaseOf, Kind, Listing, Pass, Phase, Puid, Rescue, all_shaded, cases_lt, colours_in, first_grey, first_is, is_listing, directory_kind, left_in, most_steps, moved, nat_tests, next_phase, none_marked, read, reads_left, reads_of, rescued, same_Some, same_puid, shaded, shaded_in, steps_left, sum_by, sum_by-cons, unmarked_below, volume_of, waiting_in}
use Rattle.std.proofs.lemmas.Bool.{ltb-true}
use Rattle.marking.specs.Colours.{cursor_of, draft_over, ended_from, is_index, moved_at, shaded_as, with_cursor}
use Rattle.marking.specs.Leaves.{own_part}
use Rattle.marking.specs.Steps.{is_live}
use Rattle.collector_steps.specs.declared.phase.Phase.TheVariants as phases
use Rattle.collector_steps.proofs.Shaded.{kind_below}

-- ---- marks

-- one block more is marked
module _ (block : ℕ) (marked : ℕ → Bool) where
  abbrev more : ℕ → Bool
  more n = (n == block) || marked n

  same_below : (n : ℕ) → n ≤ block → unmarked_below n more ≡ unmarked_below n marked
  unfolding unmarked_below
  same_below zero le = refl
  same_below (suc n) le =
      let other : (n == block) ≡ false = grind (arith, nat_tests) in
      let before = same_below n (omega (arith, le)) in
      rw (other, before) refl

  one_less : (n : ℕ) → block < n → marked block ≡ false → unmarked_below n more + 1 ≡ unmarked_below n marked
  unfolding unmarked_below
  one_less zero inside none = absurd (omega (arith, inside))
  one_less (suc n) inside none = elim (cases_lt block n) [
    | inl less ↦
        let other : (n == block) ≡ false = grind (arith, nat_tests) in
        let before = one_less n less none in
        rw other (omega (arith, before))
    | inr last ↦
        let here : n ≡ block = omega (arith, inside, last) in
        let before = same_below n (omega (arith, here)) in
        let yes : (n == block) ≡ true = grind (arith, nat_tests) in
        let no : marked n ≡ false = ap marked here ∙ none in
        rw (yes, no) (omega (arith, before))
  ]

none_below : (n : ℕ) → unmarked_below n none_marked.marked ≤ n
unfolding unmarked_below
none_below zero = omega arith
none_below (suc n) = let before = none_below n in omega (arith, before)

-- ---- shading

module _ (blocks : ℕ) where
  -- the first grey index is read on, or to its end
  with_first : (c : Colours) (e : Grey) (rest : List Grey) → c.grey ≡ e ∷ rest → reads_left blocks c ≡ 30721 * unmarked_below blocks c.marked + (reads_of e + sum_by reads_of rest)
  unfolding reads_left
  with_first c e rest is = ap (λ es. 30721 * unmarked_below blocks c.marked + sum_by reads_of es) is ∙ ap (λ n. 30721 * unmarked_below blocks c.marked + n) (sum_by-cons reads_of e rest)

  moved_on : (c : Colours) (e : Grey) (rest : List Grey) → c.grey ≡ e ∷ rest → (next : Option ℕ) → IfSome next (λ n. (e.cursor < n) × (n ≤ 30720)) → reads_left blocks (moved next c) < reads_left blocks c
  unfolding reads_left
  moved_on c e rest is None less =
      let before = with_first c e rest is in
      let after : (moved None c).grey ≡ rest = ap (λ es. (moved None (record c { grey = es })).grey) is in
      rw after (omega (arith, before))
  moved_on c e rest is (Some n) less =
      let f : Grey = record { id = e.id; cursor = n } in
      let before = with_first c e rest is in
      let after : (moved (Some n) c).grey ≡ f ∷ rest = ap (λ es. (moved (Some n) (record c { grey = es })).grey) is in
      let now = sum_by-cons reads_of f rest in
      rw after (omega (arith, before, now, less.0, less.1))

  pub none_left : (c : Colours) → c.marked ≡ none_marked.marked → c.grey ≡ [] → reads_left blocks c ≤ 30721 * blocks
  unfolding reads_left
  none_left c marked grey = rw (marked, grey) (let few = none_below blocks in omega (arith, few))

  shaded_less : (id : Puid) (kind : Kind) (c : Colours) → id.block < blocks → reads_left blocks (shaded id kind c) ≤ reads_left blocks c
  unfolding reads_left
  shaded_less id kind c inside = at (c.marked id.block) refl
    where
      new : Bool → Colours
      new true = c
      new false = record { marked = λ block. (block == id.block) || c.marked block; grey = cond (is_index kind) (record { id = id; cursor = 0 } ∷ c.grey) c.grey }

      at : (b : Bool) → c.marked id.block ≡ b → reads_left blocks (cond b c (record { marked = λ block. (block == id.block) || c.marked block; grey = cond (is_index kind) (record { id = id; cursor = 0 } ∷ c.grey) c.grey })) ≤ reads_left blocks c
      at true is = omega arith
      at false is =
          let less = one_less id.block c.marked blocks inside is in
          elim (is_index kind) as (λ i. 30721 * unmarked_below blocks (λ block. (block == id.block) || c.marked block) + sum_by reads_of (cond i (record { id = id; cursor = 0 } ∷ c.grey) c.grey) ≤ 30721 * unmarked_below blocks c.marked + sum_by reads_of c.grey) [
            | true ↦ (let one = sum_by-cons reads_of (record { id = id; cursor = 0 }) c.grey in omega (arith, one, less))
            | false ↦ omega (arith, less)
          ]

  module _ (directory : Listing) (is : is_listing directory ≡ true) (room : directory.room ≤ blocks) where
    as_found : (found : Option Kind) (id : Puid) (c : Colours) → directory_kind directory.named id ≡ found → reads_left blocks (shaded_as found id c) ≤ reads_left blocks c
    as_found None id c at = omega arith
    as_found (Some kind) id c at = let below = kind_below directory id kind is at in shaded_less id kind c (omega (arith, below, room))

    one_shaded : (id : Puid) (c : Colours) → reads_left blocks (shaded_in directory.named id c) ≤ reads_left blocks c
    one_shaded id c = as_found (directory_kind directory.named id) id c refl

    pub all_less : (ids : List Puid) (c : Colours) → reads_left blocks (all_shaded directory.named ids c) ≤ reads_left blocks c
    all_less [] c = omega arith
    all_less (id ∷ ids) c =
        let rest = all_less ids (shaded_in directory.named id c) in
        let one = one_shaded id c in
        omega (arith, rest, one)

    pub rescued_less : (r : Rescue) (c : Colours) → reads_left blocks (rescued directory.named r c) ≤ reads_left blocks c
    rescued_less r c = elim (is_live r.index c) as (λ b. reads_left blocks (cond b (shaded_in directory.named r.id c) c) ≤ reads_left blocks c) [ true ↦ one_shaded r.id c | false ↦ omega arith ]

    -- the first grey index goes on at a later place, or it ends
    pub read_less : (c : Colours) (e : Grey) (ids : List Puid) (next : Option ℕ) → first_grey c ≡ Some e → IfSome next (λ n. (e.cursor < n) × (n ≤ 30720))
        → reads_left blocks (read directory.named (ids, next) c) < reads_left blocks c
    read_less c e ids next first on =
        let all = first_is c e first in
        let shades = all_less ids (moved next c) in
        let moves = moved_on c e all.0 all.1 next on in
        omega (arith, shades, moves)

-- ---- a draft ends

-- a cursor goes on to a later place
reads_moved : (i : Puid) (to : ℕ) (es : List Grey) (cursor : ℕ) → cursor_of es i ≡ Some cursor → cursor ≤ to → sum_by reads_of (moved_at i to es) ≤ sum_by reads_of es
reads_moved i to [] cursor is le = cc
reads_moved i to (e ∷ es) cursor is le = elim (same_puid i e.id) as (λ b. cond b (Some e.cursor) (cursor_of es i) ≡ Some cursor
    → sum_by reads_of (cond b (record { id = e.id; cursor = to } ∷ es) (e ∷ moved_at i to es)) ≤ sum_by reads_of (e ∷ es)) [
      | true ↦ λ here. (let same = same_Some e.cursor cursor here in omega (arith, same, sum_by-cons reads_of e es, sum_by-cons reads_of (record { id = e.id; cursor = to }) es, le))
      | false ↦ λ later. (let rest = reads_moved i to es cursor later le in omega (arith, rest, sum_by-cons reads_of e es, sum_by-cons reads_of e (moved_at i to es)))
    ] is

pub ended_less : (blocks : ℕ) (i : Puid) (c : Colours) → reads_left blocks (draft_over i c) ≤ reads_left blocks c
unfolding reads_left
ended_less blocks i c = at (cursor_of c.grey i) refl
  where
    at : (o : Option ℕ) → cursor_of c.grey i ≡ o → reads_left blocks (ended_from o i c) ≤ reads_left blocks c
    at None is = omega arith
    at (Some cursor) is = elim (nat_lt cursor own_part) as (λ b. nat_lt cursor own_part ≡ b → reads_left blocks (cond b (with_cursor i own_part c) c) ≤ reads_left blocks c) [
      | true ↦ λ less. (let before = ltb-true cursor own_part less in let fewer = reads_moved i own_part c.grey cursor is (omega (arith, before)) in omega (arith, fewer))
      | false ↦ λ past. omega arith
    ] refl

-- ---- the steps

marking_left : (k : Collecting) → k.phase ≡ phases.Marking → steps_left k ≡ left_in phases.Marking k
marking_left k is = ap (λ p. left_in p k) is

module _ (k l : Collecting) (volume : volume_of l ≡ volume_of k) where
  -- less is left to read, or to take
  pub marks_less : k.phase ≡ phases.Marking → l.phase ≡ k.phase → reads_left (volume_of k) (colours_in l) + length (waiting_in l) < reads_left (volume_of k) (colours_in k) + length (waiting_in k) → steps_left l < steps_left k
  marks_less marks phase less =
      let before = marking_left k marks in
      let after = marking_left l (phase ∙ marks) in
      let same : reads_left (volume_of l) (colours_in l) ≡ reads_left (volume_of k) (colours_in l) = ap (λ n. reads_left n (colours_in l)) volume in
      omega (arith, before, after, same, less, volume)

  -- a draft ended
  pub ends_less : (i : Puid) → l.phase ≡ k.phase → colours_in l ≡ draft_over i (colours_in k) → waiting_in l ≡ waiting_in k → steps_left l ≤ steps_left k
  ends_less i phase colours waits = subst (λ p. left_in p l ≤ steps_left k) (sym phase) (at k.phase)
    where
      at : (p : Phase) → left_in p l ≤ left_in p k
      at phases.Idle = omega arith
      at phases.Marking =
          let less = ended_less (volume_of k) i (colours_in k) in
          let now : reads_left (volume_of l) (colours_in l) ≡ reads_left (volume_of k) (draft_over i (colours_in k)) = ap (λ n. reads_left n (colours_in l)) volume ∙ ap (reads_left (volume_of k)) colours in
          omega (arith, less, now, ap length waits, volume)
      at (phases.Inner c) = omega (arith, volume)
      at (phases.Roots c) = omega (arith, volume)
      at phases.Swept = omega arith

  -- a rescue was taken
  pub takes_less : (directory : Listing) → is_listing directory ≡ true → directory.room ≤ volume_of k → k.phase ≡ phases.Marking → l.phase ≡ k.phase → ¬ (waiting_in k ≡ [])
      → ((r : Rescue) (rest : List Rescue) → waiting_in k ≡ r ∷ rest → (waiting_in l ≡ rest) × (colours_in l ≡ rescued directory.named r (colours_in k))) → steps_left l < steps_left k
  takes_less directory is room marks phase waits taken = at (waiting_in k) refl
    where
      at : (ws : List Rescue) → waiting_in k ≡ ws → steps_left l < steps_left k
      at [] none = absurd (waits none)
      at (r ∷ rest) some =
          let two = taken r rest some in
          let less = rescued_less (volume_of k) directory is room r (colours_in k) in
          let now = ap (reads_left (volume_of k)) two.1 in
          marks_less marks phase (omega (arith, less, now, ap length two.0, ap length some))

  -- nothing is left to read or to take
  pub condemns_less : k.phase ≡ phases.Marking → l.phase ≡ phases.Inner 0 → steps_left l < steps_left k
  condemns_less marks phase =
      let before = marking_left k marks in
      let after = ap (λ p. left_in p l) phase in
      omega (arith, before, after, volume)

  sweeps : (pass : Pass) (p : Phase) → IsPhaseOf pass p → left_in (next_phase (volume_of k / 64) p) l < left_in p k
  sweeps pass phases.Idle of = absurd of
  sweeps pass phases.Marking of = absurd of
  sweeps pass (phases.Inner c) of = elim (nat_lt (c + 1) (volume_of k / 64)) as (λ b. nat_lt (c + 1) (volume_of k / 64) ≡ b → left_in (cond b (phases.Inner (c + 1)) (phases.Roots 0)) l < left_in (phases.Inner c) k) [
    | true ↦ λ less. (let within : c + 1 < volume_of k / 64 = grind (arith, nat_tests) in omega (arith, within, volume))
    | false ↦ λ last. omega (arith, volume)
  ] refl
  sweeps pass (phases.Roots c) of = elim (nat_lt (c + 1) (volume_of k / 64)) as (λ b. nat_lt (c + 1) (volume_of k / 64) ≡ b → left_in (cond b (phases.Roots (c + 1)) phases.Swept) l < left_in (phases.Roots c) k) [
    | true ↦ λ less. (let within : c + 1 < volume_of k / 64 = grind (arith, nat_tests) in omega (arith, within, volume))
    | false ↦ λ last. omega (arith, volume)
  ] refl
  sweeps pass phases.Swept of = absurd of

  -- a cylinder was swept
  pub sweeps_less : (pass : Pass) → IsPhaseOf pass k.phase → l.phase ≡ next_phase (volume_of k / 64) k.phase → steps_left l < steps_left k
  sweeps_less pass of phase = subst (λ p. left_in p l < steps_left k) (sym phase) (sweeps pass k.phase of)

-- a collection begins
pub begins_with : (l : Collecting) (directory : Listing) (roots : List Puid) → is_listing directory ≡ true → directory.room ≤ volume_of l → l.phase ≡ phases.Marking → waiting_in l ≡ [] → colours_in l ≡ all_shaded directory.named roots none_marked
    → steps_left l < most_steps (volume_of l)
begins_with l directory roots is room phase none colours =
    let now = marking_left l phase in
    let first = none_left (volume_of l) none_marked refl refl in
    let less = all_less (volume_of l) directory is room roots none_marked in
    let same = ap (reads_left (volume_of l)) colours in
    omega (arith, now, first, less, same, ap length none)
