-- Each step of a collection keeps what holds of one that marks.
use Rattle.std.proofs.Common.{◌≡◌, ◌⊎◌, inl, inr, ℕ, ◌+◌, ◌<◌, ◌≤◌, ◌==◌, List, [], ◌∷◌, refl, sym, ◌∙◌, ap, subst, arith, Bool, true, false, cond, Option, Some, None}
use Rattle.marking.proofs.Words.{IsDirectoryOf, AreOnce, Colours, Grey, Index, IsColoured, IsCovered, IsDraftIndex, IsGrey, IsLeft, IsMarked, IsMarking, IsToRead, IsWaiting, Kind, OwesNothing, Object, Owed, Puid, Rescue, Start, State, all_shaded, among_itself, and_parts, cases_eq, draft_at, draft_step, eq-eqb, eqb-true, find, first_grey, graph_pairs, has_number, has_pair, if_held, in_leaf, is_among, is_found, is_live, is_remembered, is_some, is_there, joined_has, le-leb, leaf_ids, leb-true, list_all, list_any-append, ltb-true, moved, moved_first, nat_le, nat_lt, next_held, none_marked, numbers_rise, object_at, open_ids, or_cases, or_left, or_right, own_part, own_step, pairs_of, read, rescued, same_Some, same_puid, scanned, shaded_in, starts_now, step_of}
use Rattle.std.proofs.Common.{◌-◌, ◌&&◌}
use Rattle.std.proofs.lemmas.Bool.{lt-ltb}
use Rattle.ufs_model.specs.declared.collection.Collection.TheVariants as collections
use Rattle.ufs_model.specs.declared.object.Object.TheVariants as objects
use Rattle.marking.proofs.Wells.{IsWell}
use Rattle.marking.proofs.Leaves.{leaf_pair}
use Rattle.ufs_model.specs.State.{draft_pairs}
use Rattle.ufs_model.proofs.Drafts.{draft_pair}
use Rattle.marking.proofs.Wells.{draft_inside}
use Rattle.marking.proofs.Places.{StandsAt, InDraft, InOwn, stands_at, at_own, draft_stands}
use Rattle.marking.proofs.Leaves.{leaf_refers}
use Rattle.marking.proofs.Shades.{IsMore, more_itself, shade_more, all_more, one_marked, all_marked, one_keeps, all_keep}
use Rattle.marking.proofs.Reaches.{WasReached, live_reached}

-- what was owed is covered
pay : (s : State) (owed : Owed) (c : Colours) (waiting : List Rescue) → IsColoured s owed c waiting
    → ((from : Option Puid) (leaf : ℕ) (x : Puid) → is_found s from leaf x ≡ true → is_live from c ≡ true → owed from leaf x → c.marked x.block ≡ true) → IsColoured s OwesNothing c waiting
pay s owed c waiting is settle = record {
  covered = λ from leaf x found live. elim (is.covered from leaf x found live) [ inl covered ↦ inl covered | inr due ↦ inl (IsMarked (settle from leaf x found live due)) ];
  known = is.known;
  grey = is.grey;
  once = is.once;
  rescues = is.rescues;
  stands = is.stands;
}

-- ---- it begins

abbrev pub begun : State → State
begun s = record s { collection = collections.Marking (pairs_of s) (starts_now s) }

pub begun_well : (s : State) → IsWell s → IsWell (begun s)
begun_well s well = record {
  ordered = well.ordered;
  alone = well.alone;
  closed = found;
  held = well.held;
  rising = well.rising;
  draft_held = well.draft_held;
  draft_rising = well.draft_rising;
  inside = well.inside;
  holds = well.holds;
  kinds = well.kinds;
  pairs = well.pairs;
  drafts = well.drafts;
  no_other = well.no_other;
  fewer = well.fewer;
  put = well.put;
}
  where
    found : (from : Option Puid) (place : ℕ) (x : Puid) → is_found (begun s) from place x ≡ true → is_there s.graph x ≡ true
    found None place x h = well.closed None place x h
    found (Some i) place x h = well.closed (Some i) place x h

module _ (s : State) (well : IsWell s) (directory : List (Puid × Kind)) (are : IsDirectoryOf directory s.graph) (roots : List Puid) (all : (x : Puid) → is_among x roots ≡ is_among x (starts_now s)) where
  abbrev first : Owed
  first from leaf x = from ≡ None

  nothing_yet : IsColoured (begun s) first none_marked []
  nothing_yet = record { covered = covered; known = λ b h. cc; grey = λ i h. elim h [ ]; once = tt; rescues = λ index x h. elim h [ ]; stands = stands }
    where
      covered : (from : Option Puid) (leaf : ℕ) (x : Puid) → is_found (begun s) from leaf x ≡ true → is_live from none_marked ≡ true → IsCovered none_marked [] from leaf x ⊎ (from ≡ None)
      covered None leaf x found live = inr refl
      covered (Some i) leaf x found live = cc

      stands : (from : Option Puid) (leaf : ℕ) (x : Puid) → is_found (begun s) from leaf x ≡ true → is_remembered (begun s).collection from x ≡ true
      stands None leaf x found = found
      stands (Some i) place x found =
          list_any-append (λ (e : Puid × Puid). same_puid i e.0 && same_puid x e.1) (graph_pairs s.graph) (draft_pairs s.grants)
          ∙ elim (stands_at (draft_at s.grants i) (object_at s.graph i) place x found) [
            | InDraft less at none ↦ or_right (has_pair (graph_pairs s.graph) i x) _ (draft_pair s.grants i x (leaf_refers (draft_at s.grants i) place x at))
            | InOwn leaf same at ↦ or_left _ (has_pair (draft_pairs s.grants) i x) (leaf_pair s.graph well.ordered i x leaf at)
          ]

  pub begin_keeps : IsMarking (begun s) (all_shaded directory roots none_marked) []
  begin_keeps = record {
    root_marked = marked s.graph.root (joined_has (open_ids s) (s.graph.root ∷ []) s.graph.root (among_itself s.graph.root []));
    coloured = pay (begun s) first (all_shaded directory roots none_marked) [] shaded settle;
  }
    where
      marked : (x : Puid) → is_among x (starts_now s) ≡ true → (all_shaded directory roots none_marked).marked x.block ≡ true
      marked x h = all_marked s directory are roots none_marked x (all x ∙ h) (well.closed None 0 x h)

      shaded : IsColoured (begun s) first (all_shaded directory roots none_marked) []
      shaded = all_keep (begun s) directory are (begun_well s well) first [] roots none_marked (λ x h. Start (sym (all x) ∙ h)) nothing_yet

      settle : (from : Option Puid) (leaf : ℕ) (x : Puid) → is_found (begun s) from leaf x ≡ true → is_live from (all_shaded directory roots none_marked) ≡ true → from ≡ None → (all_shaded directory roots none_marked).marked x.block ≡ true
      settle None leaf x found live due = marked x found
      settle (Some i) leaf x found live due = cc

-- ---- a rescue is taken

abbrev of_rescue : Rescue → Owed
of_rescue r from leaf x = (r.index ≡ from) × (r.id ≡ x)

module _ (s : State) (well : IsWell s) (directory : List (Puid × Kind)) (are : IsDirectoryOf directory s.graph) (r : Rescue) (rest : List Rescue) (c : Colours) where
  dropped : IsColoured s OwesNothing c (r ∷ rest) → IsColoured s (of_rescue r) c rest
  dropped is = record {
    covered = λ from leaf x found live. elim (is.covered from leaf x found live) [
      | inl (IsMarked m) ↦ inl (IsMarked m)
      | inl (IsWaiting (inl here)) ↦ inr here
      | inl (IsWaiting (inr later)) ↦ inl (IsWaiting later)
      | inl (IsLeft l) ↦ inl (IsLeft l)
      | inr none ↦ absurd none
    ];
    known = is.known;
    grey = is.grey;
    once = is.once;
    rescues = λ index x h. is.rescues index x (inr h);
    stands = is.stands;
  }

  rescued_more : IsMore c (rescued directory r c)
  rescued_more = elim (is_live r.index c) as (λ t. IsMore c (cond t (shaded_in directory r.id c) c)) [ true ↦ shade_more _ r.id c | false ↦ more_itself c ]

  take_coloured : IsColoured s OwesNothing c (r ∷ rest) → IsColoured s OwesNothing (rescued directory r c) rest
  take_coloured is =
      elim (is_live r.index c) as (λ t. is_live r.index c ≡ t → IsColoured s OwesNothing (cond t (shaded_in directory r.id c) c) rest) [
        | true ↦ λ live.
            let two = is.rescues r.index r.id (inl (refl, refl)) in
            let reached = live_reached s OwesNothing c (r ∷ rest) well is r.index r.id live two.0 two.1 in
            pay s (of_rescue r) (shaded_in directory r.id c) rest (one_keeps s directory are well (of_rescue r) rest r.id c reached (dropped is))
            (λ from leaf x found now due. subst (λ (y : Puid). (shaded_in directory y c).marked x.block ≡ true) (sym due.1) (one_marked s directory are x c (well.closed from leaf x found)))
        | false ↦ λ dead. pay s (of_rescue r) c rest (dropped is) (λ from leaf x found live due. let now : is_live r.index c ≡ true = subst (λ (f : Option Puid). is_live f c ≡ true) (sym due.0) live in cc)
      ] refl

  pub take_keeps : IsMarking s c (r ∷ rest) → IsMarking s (rescued directory r c) rest
  take_keeps is = record { root_marked = rescued_more.marks s.graph.root.block is.root_marked; coloured = take_coloured is.coloured }

-- ---- the next held leaf of an index

pub find_on : (from leaf : ℕ) (held : List ℕ) → find (nat_le from) held ≡ Some leaf → (from ≤ leaf) × (has_number leaf held ≡ true)
find_on from leaf [] h = cc
find_on from leaf (n ∷ ns) h = elim (nat_le from n) as (λ t. nat_le from n ≡ t → cond t (Some n) (find (nat_le from) ns) ≡ Some leaf → (from ≤ leaf) × (has_number leaf (n ∷ ns) ≡ true)) [
  | true ↦ λ is here. let same : n ≡ leaf = same_Some n leaf here in (omega (arith, leb-true from n is), or_left (n == leaf) (has_number leaf ns) (eq-eqb n leaf same))
  | false ↦ λ is later. let rest = find_on from leaf ns later in (rest.0, or_right (n == leaf) (has_number leaf ns) rest.1)
] refl h

in_rest : (n l : ℕ) (ns : List ℕ) → list_all (nat_lt n) ns ≡ true → has_number l ns ≡ true → n < l
in_rest n l [] all h = cc
in_rest n l (m ∷ ms) all h =
    let two = and_parts (nat_lt n m) (list_all (nat_lt n) ms) all in
    elim (or_cases (m == l) (has_number l ms) h) [ inl here ↦ omega (arith, ltb-true n m two.0, eqb-true m l here) | inr later ↦ in_rest n l ms two.1 later ]

pub find_least : (from leaf : ℕ) (held : List ℕ) → numbers_rise held ≡ true → find (nat_le from) held ≡ Some leaf → (l : ℕ) → has_number l held ≡ true → from ≤ l → leaf ≤ l
find_least from leaf [] up h l at on = cc
find_least from leaf (n ∷ ns) up h l at on =
    let two = and_parts (list_all (nat_lt n) ns) (numbers_rise ns) up in
    elim (nat_le from n) as (λ t. nat_le from n ≡ t → cond t (Some n) (find (nat_le from) ns) ≡ Some leaf → leaf ≤ l) [
      | true ↦ λ is here. let same : n ≡ leaf = same_Some n leaf here in
          elim (or_cases (n == l) (has_number l ns) at) [ inl now ↦ omega (arith, eqb-true n l now) | inr later ↦ omega (arith, in_rest n l ns two.0 later) ]
      | false ↦ λ is rest. elim (or_cases (n == l) (has_number l ns) at) [
        | inl now ↦ absurd (let yes : nat_le from n ≡ true = le-leb from n (omega (arith, eqb-true n l now)) in cc)
        | inr later ↦ find_least from leaf ns two.1 rest l later on
      ]
    ] refl h

pub find_none : (from : ℕ) (held : List ℕ) → find (nat_le from) held ≡ None → (l : ℕ) → has_number l held ≡ true → ¬ (from ≤ l)
find_none from [] h l at on = cc
find_none from (n ∷ ns) h l at on = elim (nat_le from n) as (λ t. nat_le from n ≡ t → cond t (Some n) (find (nat_le from) ns) ≡ None → ⊥) [
  | true ↦ λ is here. cc
  | false ↦ λ is rest. elim (or_cases (n == l) (has_number l ns) at) [
    | inl now ↦ let yes : nat_le from n ≡ true = le-leb from n (omega (arith, eqb-true n l now)) in cc
    | inr later ↦ find_none from ns rest l later on
  ]
] refl h

-- ---- a leaf is read

abbrev of_leaf : Puid → ℕ → Owed
of_leaf i leaf from l x = (Some i ≡ from) × (l ≡ leaf)

-- the next place is not past this one
abbrev pub GoesOn : Option ℕ → ℕ → Type 0
GoesOn None place = ⊥
GoesOn (Some next) place = next ≤ place

-- what stands at a place from the cursor on a step reads, or it is read later
abbrev IsMet : List Puid × Option ℕ → Puid → ℕ → Type 0
IsMet step x place = (is_among x step.0 ≡ true) ⊎ GoesOn step.1 place

held_on : (i : Index) (from leaf place : ℕ) → has_number leaf i.held ≡ true → from ≤ leaf → (to : ℕ) → to ≤ place → GoesOn (if_held i from to) place
held_on i from leaf place held on to le = elim (next_held from i) as (λ o. next_held from i ≡ o → GoesOn (cond (is_some o) (Some to) None) place) [
  | None ↦ λ none. absurd (find_none from i.held none leaf held on)
  | Some n ↦ λ some. le
] refl

own_meets : (i : Index) (from leaf : ℕ) (x : Puid) → numbers_rise i.held ≡ true → has_number leaf i.held ≡ true → is_among x (leaf_ids i leaf) ≡ true → from ≤ leaf → IsMet (own_step i (next_held from i)) x (own_part + leaf)
own_meets i from leaf x up held h on = elim (next_held from i) as (λ o. next_held from i ≡ o → IsMet (own_step i o) x (own_part + leaf)) [
  | None ↦ λ none. absurd (find_none from i.held none leaf held on)
  | Some first ↦ λ next.
      let least : first ≤ leaf = find_least from first i.held up next leaf held on in
      elim (cases_eq first leaf) [
        | inl same ↦ inl (subst (λ (l : ℕ). is_among x (leaf_ids i l) ≡ true) (sym same) h)
        | inr other ↦ inr (held_on i (first + 1) leaf (own_part + leaf) held (omega (arith, least, other)) (own_part + (first + 1)) (omega (arith, least, other)))
      ]
] refl

draft_meets : (d i : Index) (from leaf : ℕ) (x : Puid) → numbers_rise d.held ≡ true → has_number leaf d.held ≡ true → is_among x (leaf_ids d leaf) ≡ true → from ≤ leaf → IsMet (draft_step d i (next_held from d)) x leaf
draft_meets d i from leaf x up held h on = elim (next_held from d) as (λ o. next_held from d ≡ o → IsMet (draft_step d i o) x leaf) [
  | None ↦ λ none. absurd (find_none from d.held none leaf held on)
  | Some first ↦ λ next.
      let least : first ≤ leaf = find_least from first d.held up next leaf held on in
      elim (cases_eq first leaf) [
        | inl same ↦ inl (subst (λ (l : ℕ). is_among x (leaf_ids d l) ≡ true) (sym same) h)
        | inr other ↦ inr (elim (next_held (first + 1) d) as (λ o. next_held (first + 1) d ≡ o → GoesOn (cond (is_some o) (Some (first + 1)) (if_held i 0 own_part)) leaf) [
          | None ↦ λ none. absurd (find_none (first + 1) d.held none leaf held (omega (arith, least, other)))
          | Some n ↦ λ some. omega (arith, least, other)
        ] refl)
      ]
] refl

-- the index itself comes after its draft
draft_passes : (d i : Index) (from leaf : ℕ) → ((l : ℕ) → has_number l d.held ≡ true → l < own_part) → has_number leaf i.held ≡ true → GoesOn (draft_step d i (next_held from d)).1 (own_part + leaf)
draft_passes d i from leaf inside held = elim (next_held from d) as (λ o. next_held from d ≡ o → GoesOn (draft_step d i o).1 (own_part + leaf)) [
  | None ↦ λ none. held_on i 0 leaf (own_part + leaf) held (omega arith) own_part (omega arith)
  | Some first ↦ λ next.
      let less : first < own_part = inside first (find_on from first d.held next).1 in
      elim (next_held (first + 1) d) as (λ o. GoesOn (cond (is_some o) (Some (first + 1)) (if_held i 0 own_part)) (own_part + leaf)) [
        | None ↦ held_on i 0 leaf (own_part + leaf) held (omega arith) own_part (omega arith)
        | Some n ↦ omega (arith, less)
      ]
] refl

module _ (s : State) (well : IsWell s) (id : Puid) (i : Index) (at : object_at s.graph id ≡ Some (objects.Index i)) (draft : Option Index) (is_draft : IsDraftIndex (draft_at s.grants id) draft) where
  own_leaf : (leaf : ℕ) (x : Puid) → in_leaf (object_at s.graph id) leaf x ≡ true → is_among x (leaf_ids i leaf) ≡ true
  own_leaf leaf x h = subst (λ (here : Option Object). in_leaf here leaf x ≡ true) at h

  pub step_meets : (cursor place : ℕ) (x : Puid) → is_found s (Some id) place x ≡ true → cursor ≤ place → IsMet (step_of draft i cursor) x place
  step_meets cursor place x found on = which draft is_draft (stands_at (draft_at s.grants id) (object_at s.graph id) place x found)
    where
      own : (leaf : ℕ) → place ≡ own_part + leaf → in_leaf (object_at s.graph id) leaf x ≡ true → IsMet (own_step i (next_held (cursor - own_part) i)) x place
      own leaf same h =
          subst (λ (p : ℕ). IsMet (own_step i (next_held (cursor - own_part) i)) x p) (sym same)
          (own_meets i (cursor - own_part) leaf x (well.rising id i at) (well.held id x i leaf at (own_leaf leaf x h)) (own_leaf leaf x h) (omega (arith, on, same)))

      which : (draft : Option Index) → IsDraftIndex (draft_at s.grants id) draft → StandsAt (draft_at s.grants id) (object_at s.graph id) place x → IsMet (step_of draft i cursor) x place
      which None none (InDraft less h other) = let no : in_leaf None place x ≡ true = ap (λ o. in_leaf o place x) (sym none) ∙ h in cc
      which None none (InOwn leaf same h) = own leaf same h
      which (Some d) is (InDraft less h other) =
          let in_d : is_among x (leaf_ids d place) ≡ true = subst (λ (here : Option Object). in_leaf here place x ≡ true) is h in
          rw (lt-ltb cursor own_part (omega (arith, on, less))) (draft_meets d i cursor place x (well.draft_rising id d is) (well.draft_held id x d place is in_d) in_d on)
      which (Some d) is (InOwn leaf same h) = elim (nat_lt cursor own_part) as (λ b. IsMet (cond b (draft_step d i (next_held cursor d)) (own_step i (next_held (cursor - own_part) i))) x place) [
        | true ↦ inr (subst (λ (p : ℕ). GoesOn (draft_step d i (next_held cursor d)).1 p) (sym same) (draft_passes d i cursor leaf (λ l. well.inside id d l is) (well.held id x i leaf at (own_leaf leaf x h))))
        | false ↦ own leaf same h
      ]

  -- what a step reads stands somewhere
  pub step_stands : (cursor : ℕ) (x : Puid) → is_among x (step_of draft i cursor).0 ≡ true → (place : ℕ) × (is_found s (Some id) place x ≡ true)
  step_stands cursor x h = which draft is_draft h
    where
      own : (o : Option ℕ) → is_among x (own_step i o).0 ≡ true → (place : ℕ) × (is_found s (Some id) place x ≡ true)
      own None h = cc
      own (Some leaf) h = (own_part + leaf, at_own (draft_at s.grants id) (object_at s.graph id) leaf x (subst (λ (here : Option Object). in_leaf here leaf x ≡ true) (sym at) h))

      drafted : (d : Index) → draft_at s.grants id ≡ Some (objects.Index d) → (o : Option ℕ) → is_among x (draft_step d i o).0 ≡ true → (place : ℕ) × (is_found s (Some id) place x ≡ true)
      drafted d is None h = cc
      drafted d is (Some leaf) h =
          let in_d : in_leaf (draft_at s.grants id) leaf x ≡ true = subst (λ (here : Option Object). in_leaf here leaf x ≡ true) (sym is) h in
          let it = draft_stands (draft_at s.grants id) (object_at s.graph id) leaf x (draft_inside s well id x leaf in_d) in_d in
          (it.place, it.there)

      which : (draft : Option Index) → IsDraftIndex (draft_at s.grants id) draft → is_among x (step_of draft i cursor).0 ≡ true → (place : ℕ) × (is_found s (Some id) place x ≡ true)
      which None none h = own (next_held (cursor - own_part) i) h
      which (Some d) is h = elim (nat_lt cursor own_part) as (λ b. is_among x (cond b (draft_step d i (next_held cursor d)) (own_step i (next_held (cursor - own_part) i))).0 ≡ true → (place : ℕ) × (is_found s (Some id) place x ≡ true)) [
        | true ↦ drafted d is (next_held cursor d)
        | false ↦ own (next_held (cursor - own_part) i)
      ] h

-- what a step reads is owed
abbrev of_ids : Puid → List Puid → Owed
of_ids id ids from place x = (Some id ≡ from) × (is_among x ids ≡ true)

module _ (s : State) (well : IsWell s) (waiting : List Rescue) (marked : ℕ → Bool) (e : Grey) (rest : List Grey) (i : Index) (at : object_at s.graph e.id ≡ Some (objects.Index i))
    (draft : Option Index) (is_draft : IsDraftIndex (draft_at s.grants e.id) draft) (is : IsColoured s OwesNothing (record { marked = marked; grey = e ∷ rest }) waiting) where
  abbrev before : Colours
  before = record { marked = marked; grey = e ∷ rest }

  abbrev step : List Puid × Option ℕ
  step = step_of draft i e.cursor

  owes : IsColoured s (of_ids e.id step.0) (moved step.1 before) waiting
  owes = record {
    covered = λ from place x found live. elim (is.covered from place x found (stays_live from live)) [
      | inl (IsMarked m) ↦ inl (IsMarked m)
      | inl (IsWaiting w) ↦ inl (IsWaiting w)
      | inl (IsLeft (inl here)) ↦ its from place x found here
      | inl (IsLeft (inr later)) ↦ inl (IsLeft (others step.1 from place later))
      | inr none ↦ absurd none
    ];
    known = is.known;
    grey = λ j h. is.grey j (greys step.1 j h);
    once = once step.1;
    rescues = is.rescues;
    stands = is.stands;
  }
    where
      stays_live : (from : Option Puid) → is_live from (moved step.1 before) ≡ true → is_live from before ≡ true
      stays_live None live = refl
      stays_live (Some j) live = live

      goes_on : (next : Option ℕ) (place : ℕ) → GoesOn next place → IsToRead (moved_first next (e ∷ rest)) (Some e.id) place
      goes_on None place h = absurd h
      goes_on (Some n) place h = inl (refl, h)

      its : (from : Option Puid) (place : ℕ) (x : Puid) → is_found s from place x ≡ true → (Some e.id ≡ from) × (e.cursor ≤ place) → IsCovered (moved step.1 before) waiting from place x ⊎ of_ids e.id step.0 from place x
      its from place x found here = elim (step_meets s well e.id i at draft is_draft e.cursor place x (subst (λ (f : Option Puid). is_found s f place x ≡ true) (sym here.0) found) here.1) [
        | inl read ↦ inr (here.0, read)
        | inr later ↦ inl (IsLeft (subst (λ (f : Option Puid). IsToRead (moved_first step.1 (e ∷ rest)) f place) here.0 (goes_on step.1 place later)))
      ]

      others : (n : Option ℕ) (from : Option Puid) (place : ℕ) → IsToRead rest from place → IsToRead (moved_first n (e ∷ rest)) from place
      others None from place h = h
      others (Some to) from place h = inr h

      greys : (n : Option ℕ) (j : Puid) → IsGrey (moved_first n (e ∷ rest)) j → IsGrey (e ∷ rest) j
      greys None j h = inr h
      greys (Some to) j h = h

      once : (n : Option ℕ) → AreOnce (moved_first n (e ∷ rest))
      once None = is.once.1
      once (Some to) = is.once

  -- each object in it was reached, and is then marked
  read_coloured : (directory : List (Puid × Kind)) → IsDirectoryOf directory s.graph → IsColoured s OwesNothing (read directory step before) waiting
  read_coloured directory are =
      let to = moved step.1 before in
      let reached : (x : Puid) → is_among x step.0 ≡ true → WasReached s.collection x = λ x h.
      let place = step_stands s well e.id i at draft is_draft e.cursor x h in
      live_reached s OwesNothing before waiting well is (Some e.id) x (is.grey e.id (inl refl)).0 (is.stands (Some e.id) place.0 x place.1) (ap is_some at) in
      pay s (of_ids e.id step.0) (all_shaded directory step.0 to) waiting (all_keep s directory are well (of_ids e.id step.0) waiting step.0 to reached owes)
      (λ from place x found live due. all_marked s directory are step.0 to x due.1 (well.closed from place x found))

scan_at : (s : State) → IsWell s → (directory : List (Puid × Kind)) → IsDirectoryOf directory s.graph → (waiting : List Rescue) (c : Colours) (e : Grey) (rest : List Grey) (i : Index) (draft : Option Index)
    → object_at s.graph e.id ≡ Some (objects.Index i) → IsDraftIndex (draft_at s.grants e.id) draft → IsMarking s (record c { grey = e ∷ rest }) waiting → IsMarking s (scanned directory draft i e.cursor (record c { grey = e ∷ rest })) waiting
scan_at s well directory are waiting c e rest i draft at is_draft is = record {
  root_marked = (all_more directory (step_of draft i e.cursor).0 (moved (step_of draft i e.cursor).1 (record c { grey = e ∷ rest }))).marks s.graph.root.block is.root_marked;
  coloured = read_coloured s well waiting c.marked e rest i at draft is_draft is.coloured directory are;
}

pub first_is : (c : Colours) (e : Grey) → first_grey c ≡ Some e → (rest : List Grey) × (c.grey ≡ e ∷ rest)
first_is c e h = go c.grey refl h
  where
    go : (grey : List Grey) → c.grey ≡ grey → first_grey (record c { grey = grey }) ≡ Some e → (rest : List Grey) × (c.grey ≡ e ∷ rest)
    go [] is h = cc
    go (d ∷ ds) is h = (ds, is ∙ ap (λ (k : Grey). k ∷ ds) (same_Some _ _ h))

pub scan_keeps : (s : State) → IsWell s → (directory : List (Puid × Kind)) → IsDirectoryOf directory s.graph → (waiting : List Rescue) (c : Colours) (e : Grey) (i : Index) (draft : Option Index) → first_grey c ≡ Some e
    → object_at s.graph e.id ≡ Some (objects.Index i) → IsDraftIndex (draft_at s.grants e.id) draft → IsMarking s c waiting → IsMarking s (scanned directory draft i e.cursor c) waiting
scan_keeps s well directory are waiting c e i draft first at is_draft is =
    let f = first_is c e first in
    subst (λ (grey : List Grey). IsMarking s (scanned directory draft i e.cursor (record c { grey = grey })) waiting) (sym f.1)
    (scan_at s well directory are waiting c e f.0 i draft at is_draft (subst (λ (grey : List Grey). IsMarking s (record c { grey = grey }) waiting) f.1 is))

-- the first grey index is marked
pub first_marked : (s : State) (c : Colours) (waiting : List Rescue) (e : Grey) → first_grey c ≡ Some e → IsColoured s OwesNothing c waiting → c.marked e.id.block ≡ true
first_marked s c waiting e first is = let f = first_is c e first in (is.grey e.id (subst (λ (grey : List Grey). IsGrey grey e.id) (sym f.1) (inl refl))).0
