-- Drafts, each the only one on its object.
use Rattle.std.proofs.Common.{◌≡◌, inl, inr, ℕ, zero, suc, List, [], ◌∷◌, ◌++◌, set, refl, sym, ◌∙◌, ap, subst, Bool, true, false, cond, ◌||◌, ◌&&◌, not, Option, Some, None}
use Rattle.std.specs.Prelude.{is_some, is_none, find, filter, map, slice_get}
use Rattle.std.specs.List.{list_all, list_any, position_or_len}
use Rattle.std.proofs.lemmas.Bool.{and_parts, and_from, or_cases, or_left, or_right, cases_Bool}
use Rattle.std.proofs.lemmas.List.Folds.{find_at, list_any-append, list_all-append}
use Rattle.std.proofs.lemmas.Option.{same_Some}
use Rattle.cfs_base.specs.declared.identifier.Puid.{Puid}
use Rattle.cfs_base.specs.declared.identifier.Tuid.{Tuid}
use Rattle.ufs_model.specs.declared.object.Object.{Object}
use Rattle.ufs_model.specs.declared.object.Draft.{Draft}
use Rattle.ufs_model.specs.declared.object.Grant.{Grant}
use Rattle.ufs_model.specs.Identifier.{same_puid, is_among}
use Rattle.ufs_model.specs.Numbers.{numbers_rise}
use Rattle.ufs_model.specs.Graph.{Graph, object_at, has_pair, referred, with_object}
use Rattle.ufs_model.specs.State.{is_grant, with_draft, object_in, draft_at, drafted, draft_pairs}
use Rattle.ufs_model.specs.Refusal.{is_reading}
use Rattle.ufs_model.specs.WellFormed.{draws_of, may_share, are_granted, is_grant_in, is_open_so, is_draft_of}
use Rattle.ufs_model.proofs.Tests.{all_found, all_filter}
use Rattle.ufs_model.proofs.Grants.{all_at, all_set, with_draft-set}
use Rattle.ufs_model.proofs.Graphs.{refers, pairs_of_one, object_at-with_object}
use Rattle.ufs_model.proofs.Reached.{same_puid_is, same_puid_itself, all_pairs}

abbrev apart : Grant → Grant → Bool
apart g h = not (same_puid h.id g.id) || (is_none g.draft && is_none h.draft)

abbrev has_it : Puid → Grant → Bool
has_it i g = same_puid i g.id && is_some g.draft

-- of two grants on one object neither has a draft
abbrev pub are_alone : List Grant → Bool
are_alone [] = true
are_alone (g ∷ gs) = list_all (apart g) gs && are_alone gs

no_both : (o : Option Draft) → is_some o ≡ true → is_none o ≡ true → ⊥
no_both None some none = cc
no_both (Some d) some none = cc

-- two that are apart have no draft where they are on one object
not_apart : (g h : Grant) → apart g h ≡ true → same_puid h.id g.id ≡ true → (is_none g.draft ≡ true) × (is_none h.draft ≡ true)
not_apart g h is same = elim (or_cases (not (same_puid h.id g.id)) (is_none g.draft && is_none h.draft) is) [
  | inl other ↦ (let no : not true ≡ true = ap not (sym same) ∙ other in cc)
  | inr none ↦ and_parts (is_none g.draft) (is_none h.draft) none
]

-- what stands below a grant on its object has no draft, where either has one
none_below : (g : Grant) (gs : List Grant) (i : Puid) → list_all (apart g) gs ≡ true → same_puid i g.id ≡ true → draft_at gs i ≡ None
none_below g [] i all same = refl
none_below g (h ∷ hs) i all same =
    let two = and_parts (apart g h) (list_all (apart g) hs) all in
    elim (has_it i h) as (λ b. has_it i h ≡ b → cond b (object_in h.draft) (draft_at hs i) ≡ None) [
      | true ↦ λ has.
          let parts = and_parts (same_puid i h.id) (is_some h.draft) has in
          let one : same_puid h.id g.id ≡ true = subst (λ (k : Puid). same_puid k g.id ≡ true) (same_puid_is i h.id parts.0) same in
          absurd (no_both h.draft parts.1 (not_apart g h two.0 one).1)
      | false ↦ λ has. none_below g hs i two.1 same
    ] refl

in_object : (o : Option Draft) (d : Draft) → o ≡ Some d → object_in o ≡ Some d.object
in_object o d is = ap object_in is

module _ (M : Grant → Bool) (g : Grant) where
  -- the draft of a grant that is found is that of its object
  pub its_draft : (gs : List Grant) (d : Draft) → are_alone gs ≡ true → find M gs ≡ Some g → g.draft ≡ Some d → draft_at gs g.id ≡ Some d.object
  its_draft [] d alone found is = cc
  its_draft (y ∷ ys) d alone found is =
      let two = and_parts (list_all (apart y) ys) (are_alone ys) alone in
      elim (M y) as (λ b. cond b (Some y) (find M ys) ≡ Some g → draft_at (y ∷ ys) g.id ≡ Some d.object) [
        | true ↦ λ here. let same : y ≡ g = same_Some y g here in
            subst (λ (z : Grant). draft_at (z ∷ ys) g.id ≡ Some d.object) (sym same) (rw (same_puid_itself g.id, is) refl)
        | false ↦ λ later. elim (has_it g.id y) as (λ b. has_it g.id y ≡ b → cond b (object_in y.draft) (draft_at ys g.id) ≡ Some d.object) [
          | true ↦ λ has.
              let parts = and_parts (same_puid g.id y.id) (is_some y.draft) has in
              absurd (no_both y.draft parts.1 (not_apart y g (all_found (apart y) M ys g later two.0).1 parts.0).0)
          | false ↦ λ has. its_draft ys d two.1 later is
        ] refl
      ] found

  -- where a grant that is found has none, its object has none
  pub no_other : (gs : List Grant) → are_alone gs ≡ true → find M gs ≡ Some g → g.draft ≡ None → draft_at gs g.id ≡ None
  no_other [] alone found is = cc
  no_other (y ∷ ys) alone found is =
      let two = and_parts (list_all (apart y) ys) (are_alone ys) alone in
      elim (M y) as (λ b. cond b (Some y) (find M ys) ≡ Some g → draft_at (y ∷ ys) g.id ≡ None) [
        | true ↦ λ here. let same : y ≡ g = same_Some y g here in
            subst (λ (z : Grant). list_all (apart z) ys ≡ true → draft_at (z ∷ ys) g.id ≡ None) (sym same) (λ all. rw (same_puid_itself g.id, is) (none_below g ys g.id all (same_puid_itself g.id))) two.0
        | false ↦ λ later. elim (has_it g.id y) as (λ b. has_it g.id y ≡ b → cond b (object_in y.draft) (draft_at ys g.id) ≡ None) [
          | true ↦ λ has.
              let parts = and_parts (same_puid g.id y.id) (is_some y.draft) has in
              absurd (no_both y.draft parts.1 (not_apart y g (all_found (apart y) M ys g later two.0).1 parts.0).0)
          | false ↦ λ has. no_other ys two.1 later is
        ] refl
      ] found

-- fewer grants have no other drafts
pub fewer_drafts : (p : Grant → Bool) (gs : List Grant) (i : Puid) (o : Object) → are_alone gs ≡ true → draft_at (filter p gs) i ≡ Some o → draft_at gs i ≡ Some o
fewer_drafts p [] i o alone h = h
fewer_drafts p (y ∷ ys) i o alone h =
    let two = and_parts (list_all (apart y) ys) (are_alone ys) alone in
    elim (p y) as (λ b. draft_at (cond b (y ∷ filter p ys) (filter p ys)) i ≡ Some o → draft_at (y ∷ ys) i ≡ Some o) [
      | true ↦ elim (has_it i y) as (λ b. cond b (object_in y.draft) (draft_at (filter p ys) i) ≡ Some o → cond b (object_in y.draft) (draft_at ys i) ≡ Some o) [
        | true ↦ λ here. here
        | false ↦ λ later. fewer_drafts p ys i o two.1 later
      ]
      | false ↦ λ later. let rest = fewer_drafts p ys i o two.1 later in
          elim (has_it i y) as (λ b. has_it i y ≡ b → cond b (object_in y.draft) (draft_at ys i) ≡ Some o) [
            | true ↦ λ has. let none = none_below y ys i two.0 (and_parts (same_puid i y.id) (is_some y.draft) has).0 in (let no : None ≡ Some o = sym none ∙ rest in cc)
            | false ↦ λ has. rest
          ] refl
    ] h

-- another draft is put in its place
set_draft : (gs : List Grant) (n : ℕ) (g : Grant) (old d : Draft) (i : Puid) → are_alone gs ≡ true → slice_get gs n ≡ Some g → g.draft ≡ Some old
    → draft_at (set gs n (record g { draft = Some d })) i ≡ cond (same_puid i g.id) (Some d.object) (draft_at gs i)
set_draft [] n g old d i alone at is = cc
set_draft (y ∷ ys) zero g old d i alone at is =
    let same : y ≡ g = same_Some y g at in
    subst (λ (z : Grant). cond (same_puid i g.id && true) (Some d.object) (draft_at ys i) ≡ cond (same_puid i g.id) (Some d.object) (draft_at (z ∷ ys) i)) (sym same)
    (rw is (elim (same_puid i g.id) as (λ b. cond (b && true) (Some d.object) (draft_at ys i) ≡ cond b (Some d.object) (cond (b && true) (Some old.object) (draft_at ys i))) [ true ↦ refl | false ↦ refl ]))
set_draft (y ∷ ys) (suc n) g old d i alone at is =
    let two = and_parts (list_all (apart y) ys) (are_alone ys) alone in
    let rest = set_draft ys n g old d i two.1 at is in
    elim (has_it i y) as (λ b. has_it i y ≡ b → cond b (object_in y.draft) (draft_at (set ys n (record g { draft = Some d })) i) ≡ cond (same_puid i g.id) (Some d.object) (cond b (object_in y.draft) (draft_at ys i))) [
      | true ↦ λ has.
          let parts = and_parts (same_puid i y.id) (is_some y.draft) has in
          elim (same_puid i g.id) as (λ b. same_puid i g.id ≡ b → object_in y.draft ≡ cond b (Some d.object) (object_in y.draft)) [
            | true ↦ λ here.
                let one : same_puid g.id y.id ≡ true = subst (λ (k : Puid). same_puid k y.id ≡ true) (same_puid_is i g.id here) parts.0 in
                absurd (no_both y.draft parts.1 (not_apart y g (all_at (apart y) ys n g two.0 at) one).0)
            | false ↦ λ other. refl
          ] refl
      | false ↦ λ has. rest
    ] refl

pub draft_put : (who : ℕ) (t : Tuid) (gs : List Grant) (g : Grant) (old d : Draft) (i : Puid) → are_alone gs ≡ true → numbers_rise (draws_of gs) ≡ true → find (is_grant who t) gs ≡ Some g → g.draft ≡ Some old
    → draft_at (with_draft who t d gs) i ≡ cond (same_puid i g.id) (Some d.object) (draft_at gs i)
draft_put who t gs g old d i alone up found is =
    let n = position_or_len (is_grant who t) gs in
    let at : slice_get gs n ≡ Some g = sym (find_at (is_grant who t) gs) ∙ found in
    ap (λ hs. draft_at hs i) (with_draft-set who t d gs n g up at (all_found (λ x. true) (is_grant who t) gs g found (all_true gs)).0) ∙ set_draft gs n g old d i alone at is
  where
    all_true : (gs : List Grant) → list_all (λ x. true) gs ≡ true
    all_true [] = refl
    all_true (g ∷ gs) = all_true gs

-- ---- pairs of drafts

drafted_is : (g : Grant) (x : Puid) → is_among x (drafted g) ≡ refers (object_in g.draft) x
drafted_is g x = elim g.draft as (λ (d : Option Draft). is_among x (elim d as (λ (o : Option Draft). List Puid) [ None ↦ [] | Some d ↦ referred d.object ]) ≡ refers (object_in d) x) [ None ↦ refl | Some d ↦ refl ]

pairs_head : (i x : Puid) (g : Grant) (gs : List Grant) → has_pair (draft_pairs (g ∷ gs)) i x ≡ ((same_puid i g.id && refers (object_in g.draft) x) || has_pair (draft_pairs gs) i x)
pairs_head i x g gs =
    list_any-append (λ (p : Puid × Puid). same_puid i p.0 && same_puid x p.1) (map (λ y. (g.id, y)) (drafted g)) (draft_pairs gs)
    ∙ ap (λ r. r || has_pair (draft_pairs gs) i x) (pairs_of_one i x g.id (drafted g) ∙ ap (λ b. same_puid i g.id && b) (drafted_is g x))

has_draft : (o : Option Draft) (x : Puid) → refers (object_in o) x ≡ true → is_some o ≡ true
has_draft None x h = cc
has_draft (Some d) x h = refl

pub pair_of_draft : (gs : List Grant) (i x : Puid) → are_alone gs ≡ true → has_pair (draft_pairs gs) i x ≡ true → refers (draft_at gs i) x ≡ true
pair_of_draft [] i x alone h = cc
pair_of_draft (y ∷ ys) i x alone h =
    let two = and_parts (list_all (apart y) ys) (are_alone ys) alone in
    elim (or_cases (same_puid i y.id && refers (object_in y.draft) x) (has_pair (draft_pairs ys) i x) (sym (pairs_head i x y ys) ∙ h)) [
      | inl here ↦
          let parts = and_parts (same_puid i y.id) (refers (object_in y.draft) x) here in
          rw (parts.0, has_draft y.draft x parts.1) parts.1
      | inr later ↦
          let rest = pair_of_draft ys i x two.1 later in
          elim (has_it i y) as (λ b. has_it i y ≡ b → refers (cond b (object_in y.draft) (draft_at ys i)) x ≡ true) [
            | true ↦ λ has. (let none = none_below y ys i two.0 (and_parts (same_puid i y.id) (is_some y.draft) has).0 in let no : false ≡ true = ap (λ o. refers o x) (sym none) ∙ rest in cc)
            | false ↦ λ has. rest
          ] refl
    ]

pub draft_pair : (gs : List Grant) (i x : Puid) → refers (draft_at gs i) x ≡ true → has_pair (draft_pairs gs) i x ≡ true
draft_pair [] i x h = cc
draft_pair (y ∷ ys) i x h =
    pairs_head i x y ys ∙ elim (has_it i y) as (λ b. has_it i y ≡ b → refers (cond b (object_in y.draft) (draft_at ys i)) x ≡ true
    → ((same_puid i y.id && refers (object_in y.draft) x) || has_pair (draft_pairs ys) i x) ≡ true) [
      | true ↦ λ has here. or_left (same_puid i y.id && refers (object_in y.draft) x) _ (and_from (same_puid i y.id) _ (and_parts (same_puid i y.id) (is_some y.draft) has).0 here)
      | false ↦ λ has later. or_right _ (has_pair (draft_pairs ys) i x) (draft_pair ys i x later)
    ] refl h

-- a draft is one of its object
pub draft_of_object : (g : Graph) (gs : List Grant) (i : Puid) (o : Object) → list_all (is_grant_in g) gs ≡ true → draft_at gs i ≡ Some o → (own : Object) × (object_at g i ≡ Some own) × (is_draft_of own o ≡ true)
draft_of_object g [] i o all h = cc
draft_of_object g (y ∷ ys) i o all h =
    let two = and_parts (is_grant_in g y) (list_all (is_grant_in g) ys) all in
    elim (has_it i y) as (λ b. has_it i y ≡ b → cond b (object_in y.draft) (draft_at ys i) ≡ Some o → (own : Object) × (object_at g i ≡ Some own) × (is_draft_of own o ≡ true)) [
      | true ↦ λ has here.
          let same = same_puid_is i y.id (and_parts (same_puid i y.id) (is_some y.draft) has).0 in
          subst (λ (k : Puid). (own : Object) × (object_at g k ≡ Some own) × (is_draft_of own o ≡ true)) (sym same) (at (object_at g y.id) refl y.draft two.0 here)
      | false ↦ λ has later. draft_of_object g ys i o two.1 later
    ] refl h
  where
    at : (own : Option Object) → object_at g y.id ≡ own → (d : Option Draft) → is_open_so own d ≡ true → object_in d ≡ Some o → (it : Object) × (object_at g y.id ≡ Some it) × (is_draft_of it o ≡ true)
    at None there d so is = cc
    at (Some own) there None so is = cc
    at (Some own) there (Some d) so is = (own, there, subst (λ (x : Object). is_draft_of own x ≡ true) (same_Some d.object o is) so)

-- ---- grants that stand together

abbrev is_writing : Grant → Bool
is_writing g = is_none g.draft || not (is_reading g.mode)

none_reads : (g : Grant) → is_writing g ≡ true → is_reading g.mode ≡ true → is_none g.draft ≡ true
none_reads g writes reads = elim (or_cases (is_none g.draft) (not (is_reading g.mode)) writes) [ inl none ↦ none | inr other ↦ (let no : not true ≡ true = ap not (sym reads) ∙ other in cc) ]

record Granted (g : Grant) (gs : List Grant) : Type 0 where
  writes : is_writing g ≡ true
  share : list_all (may_share g) gs ≡ true
  rest : are_granted gs ≡ true

granted_parts : (g : Grant) (gs : List Grant) → are_granted (g ∷ gs) ≡ true → Granted g gs
granted_parts g gs h =
    let last = and_parts (is_writing g && list_all (may_share g) gs) (are_granted gs) h in
    let first = and_parts (is_writing g) (list_all (may_share g) gs) last.0 in
    record { writes = first.0; share = first.1; rest = last.1 }

granted_whole : (g : Grant) (gs : List Grant) → Granted g gs → are_granted (g ∷ gs) ≡ true
granted_whole g gs p = and_from (is_writing g && list_all (may_share g) gs) (are_granted gs) (and_from (is_writing g) (list_all (may_share g) gs) p.writes p.share) p.rest

shared_apart : (g h : Grant) → is_writing g ≡ true → is_writing h ≡ true → may_share g h ≡ true → apart g h ≡ true
shared_apart g h one two share = elim (or_cases (not (same_puid h.id g.id)) (is_reading g.mode && is_reading h.mode) share) [
  | inl other ↦ or_left (not (same_puid h.id g.id)) _ other
  | inr both ↦ let read = and_parts (is_reading g.mode) (is_reading h.mode) both in or_right (not (same_puid h.id g.id)) _ (and_from (is_none g.draft) (is_none h.draft) (none_reads g one read.0) (none_reads h two read.1))
]

all_apart : (g : Grant) (gs : List Grant) → is_writing g ≡ true → list_all (may_share g) gs ≡ true → are_granted gs ≡ true → list_all (apart g) gs ≡ true
all_apart g [] one share rest = refl
all_apart g (h ∷ hs) one share rest =
    let two = and_parts (may_share g h) (list_all (may_share g) hs) share in
    let its = granted_parts h hs rest in
    and_from (apart g h) (list_all (apart g) hs) (shared_apart g h one its.writes two.0) (all_apart g hs one two.1 its.rest)

-- who has a draft is alone
pub granted_alone : (gs : List Grant) → are_granted gs ≡ true → are_alone gs ≡ true
granted_alone [] h = refl
granted_alone (g ∷ gs) h = let its = granted_parts g gs h in and_from (list_all (apart g) gs) (are_alone gs) (all_apart g gs its.writes its.share its.rest) (granted_alone gs its.rest)

-- another draft in the place of one
pub granted_set : (gs : List Grant) (n : ℕ) (g : Grant) (old d : Draft) → are_granted gs ≡ true → slice_get gs n ≡ Some g → g.draft ≡ Some old → are_granted (set gs n (record g { draft = Some d })) ≡ true
granted_set [] n g old d h at is = cc
granted_set (y ∷ ys) zero g old d h at is =
    let same : y ≡ g = same_Some y g at in
    let its = granted_parts g ys (subst (λ (z : Grant). are_granted (z ∷ ys) ≡ true) same h) in
    let writes : not (is_reading g.mode) ≡ true = subst (λ (o : Option Draft). (is_none o || not (is_reading g.mode)) ≡ true) is its.writes in
    granted_whole (record g { draft = Some d }) ys (record { writes = writes; share = its.share; rest = its.rest })
granted_set (y ∷ ys) (suc n) g old d h at is =
    let its = granted_parts y ys h in
    granted_whole y (set ys n (record g { draft = Some d })) (record { writes = its.writes; share = all_set (may_share y) ys n (record g { draft = Some d }) its.share (all_at (may_share y) ys n g its.share at); rest = granted_set ys n g old d its.rest at is })

pub granted_put : (who : ℕ) (t : Tuid) (gs : List Grant) (g : Grant) (old d : Draft) → are_granted gs ≡ true → numbers_rise (draws_of gs) ≡ true → find (is_grant who t) gs ≡ Some g → g.draft ≡ Some old → are_granted (with_draft who t d gs) ≡ true
granted_put who t gs g old d h up found is =
    let n = position_or_len (is_grant who t) gs in
    let at : slice_get gs n ≡ Some g = sym (find_at (is_grant who t) gs) ∙ found in
    ap are_granted (with_draft-set who t d gs n g up at (all_found (λ x. true) (is_grant who t) gs g found (every gs)).0) ∙ granted_set gs n g old d h at is
  where
    every : (gs : List Grant) → list_all (λ x. true) gs ≡ true
    every [] = refl
    every (g ∷ gs) = every gs

-- fewer
pub granted_filter : (p : Grant → Bool) (gs : List Grant) → are_granted gs ≡ true → are_granted (filter p gs) ≡ true
granted_filter p [] h = refl
granted_filter p (g ∷ gs) h =
    let its = granted_parts g gs h in
    elim (p g) as (λ b. are_granted (cond b (g ∷ filter p gs) (filter p gs)) ≡ true) [
      | true ↦ granted_whole g (filter p gs) (record { writes = its.writes; share = all_filter (may_share g) p gs its.share; rest = granted_filter p gs its.rest })
      | false ↦ granted_filter p gs its.rest
    ]

-- one more, which each of them may share with
pub granted_push : (gs : List Grant) (g : Grant) → are_granted gs ≡ true → is_writing g ≡ true → list_all (λ h. may_share h g) gs ≡ true → are_granted (gs ++ g ∷ []) ≡ true
granted_push [] g h one share = and_from (is_writing g && true) true (and_from (is_writing g) true one refl) refl
granted_push (y ∷ ys) g h one share =
    let its = granted_parts y ys h in
    let two = and_parts (may_share y g) (list_all (λ h. may_share h g) ys) share in
    granted_whole y (ys ++ g ∷ []) (record { writes = its.writes; share = list_all-append (may_share y) ys (g ∷ []) ∙ and_from (list_all (may_share y) ys) (may_share y g && true) its.share (and_from (may_share y g) true two.0 refl); rest = granted_push ys g its.rest one two.1 })

-- where an object is not open, or only for reading, it has no draft
pub not_open : (gs : List Grant) (id : Puid) → list_any (λ (g : Grant). same_puid id g.id) gs ≡ false → draft_at gs id ≡ None
not_open [] id h = refl
not_open (g ∷ gs) id h = elim (same_puid id g.id) as (λ b. same_puid id g.id ≡ b → draft_at (g ∷ gs) id ≡ None) [
  | true ↦ λ is. (let yes : list_any (λ (x : Grant). same_puid id x.id) (g ∷ gs) ≡ true = or_left (same_puid id g.id) _ is in cc)
  | false ↦ λ is. rw is (not_open gs id (rw is at h))
] refl

pub not_written : (gs : List Grant) (id : Puid) → are_granted gs ≡ true → list_any (λ (g : Grant). same_puid id g.id && not (is_reading g.mode)) gs ≡ false → draft_at gs id ≡ None
not_written [] id all h = refl
not_written (g ∷ gs) id all h =
    let its = granted_parts g gs all in
    elim (cases_Bool (same_puid id g.id && not (is_reading g.mode))) [
      | inl writes ↦ (let no : list_any (λ (x : Grant). same_puid id x.id && not (is_reading x.mode)) (g ∷ gs) ≡ true = or_left (same_puid id g.id && not (is_reading g.mode)) _ writes in cc)
      | inr other ↦
          let rest = not_written gs id its.rest (rw other at h) in
          elim (has_it id g) as (λ b. has_it id g ≡ b → cond b (object_in g.draft) (draft_at gs id) ≡ None) [
            | true ↦ λ has.
                let parts = and_parts (same_puid id g.id) (is_some g.draft) has in
                let reads : not (is_reading g.mode) ≡ false = subst (λ (b : Bool). (b && not (is_reading g.mode)) ≡ false) parts.0 other in
                absurd (no_both g.draft parts.1 (none_reads g its.writes (not_false_is (is_reading g.mode) reads)))
            | false ↦ λ has. rest
          ] refl
    ]
  where
    not_false_is : (b : Bool) → not b ≡ false → b ≡ true
    not_false_is true h = refl
    not_false_is false h = cc

-- drafts are of their objects still where another object stands of which they are drafts
pub replaced_grants : (g : Graph) (id : Puid) (new : Object) (gs : List Grant) → are_alone gs ≡ true → list_all (is_grant_in g) gs ≡ true → ((d : Object) → draft_at gs id ≡ Some d → is_draft_of new d ≡ true)
    → list_all (is_grant_in (with_object g id new)) gs ≡ true
replaced_grants g id new [] alone all still = refl
replaced_grants g id new (y ∷ ys) alone all still =
    let two = and_parts (is_grant_in g y) (list_all (is_grant_in g) ys) all in
    let apart_y = and_parts (list_all (apart y) ys) (are_alone ys) alone in
    and_from (is_grant_in (with_object g id new) y) (list_all (is_grant_in (with_object g id new)) ys)
    (ap (λ o. is_open_so o y.draft) (object_at-with_object g id new y.id)
    ∙ elim (same_puid y.id id) as (λ b. same_puid y.id id ≡ b → is_open_so (cond b (Some new) (object_at g y.id)) y.draft ≡ true) [
      | true ↦ λ same. at y.draft refl (subst (λ (k : Puid). same_puid id k ≡ true) (sym (same_puid_is y.id id same)) (same_puid_itself id))
      | false ↦ λ other. two.0
    ] refl)
    (replaced_grants g id new ys apart_y.1 two.1 (λ d is. elim (has_it id y) as (λ b. has_it id y ≡ b → is_draft_of new d ≡ true) [
      | true ↦ λ has. (let none = none_below y ys id apart_y.0 (and_parts (same_puid id y.id) (is_some y.draft) has).0 in let no : None ≡ Some d = sym none ∙ is in cc)
      | false ↦ λ has. still d (rw has is)
    ] refl))
  where
    at : (o : Option Draft) → y.draft ≡ o → same_puid id y.id ≡ true → is_open_so (Some new) o ≡ true
    at None is here = refl
    at (Some d) is here = still d.object (rw (here, is) refl)

-- each of the pairs of drafts, by the drafts
pub pairs_closed_by : (P : Puid → Bool) (gs : List Grant) → are_alone gs ≡ true → ((i x : Puid) → refers (draft_at gs i) x ≡ true → P x ≡ true) → list_all (λ e. P e.1) (draft_pairs gs) ≡ true
pairs_closed_by P gs alone each = all_pairs (λ _. P) (draft_pairs gs) (λ i x pair. each i x (pair_of_draft gs i x alone pair))

-- who has a pair is open
pub draft_open : (gs : List Grant) (i x : Puid) → has_pair (draft_pairs gs) i x ≡ true → is_among i (map (λ g. g.id) gs) ≡ true
draft_open [] i x h = cc
draft_open (g ∷ gs) i x h = elim (or_cases (same_puid i g.id && refers (object_in g.draft) x) (has_pair (draft_pairs gs) i x) (sym (pairs_head i x g gs) ∙ h)) [
  | inl now ↦ or_left (same_puid i g.id) _ (and_parts (same_puid i g.id) (refers (object_in g.draft) x) now).0
  | inr rest ↦ or_right (same_puid i g.id) _ (draft_open gs i x rest)
]
