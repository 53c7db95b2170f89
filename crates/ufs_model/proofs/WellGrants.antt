-- Granting, a closed grant, a commit and a session that leaves keep a state well-formed.
use Rattle.std.proofs.Common.{◌≡◌, inl, inr, ℕ, ◌+◌, List, [], ◌∷◌, refl, sym, ◌∙◌, ap, subst, Bool, true, false, cond, not, ◌&&◌, Some, None, Option}
use Rattle.ufs_model.proofs.Words.{Direct, Draft, Grant, IsState, Mode, Object, Puid, State, Tuid, after_leave, and_from, closed, committed, filter, first_draft, grant_of, granted, is_draft_of, is_grant, is_grant_in, is_none, is_object, is_open_so, is_some, is_there, list_all, list_all-append, nat_le, object_at, or_left, or_right, same_puid, takes_draft, with_object, word, ◌==◌}
use Rattle.std.proofs.Common.{◌++◌, ◌||◌}
use Rattle.std.specs.List.{list_any}
use Rattle.cfs_base.specs.declared.kind.Mode.TheVariants as modes
use Rattle.std.proofs.lemmas.Option.{same_Some}
use Rattle.std.proofs.lemmas.Bool.{cases_Bool}
use Rattle.ufs_model.specs.State.{draft_at, draft_pairs, object_in}
use Rattle.ufs_model.specs.Refusal.{meets_a_grant, is_reading}
use Rattle.ufs_model.specs.WellFormed.{may_share, are_granted}
use Rattle.ufs_model.proofs.Tests.{all_filter}
use Rattle.ufs_model.proofs.Reached.{each_pair}
use Rattle.ufs_model.proofs.Drafts.{its_draft, fewer_drafts, draft_pair, granted_alone, granted_filter, granted_push, pairs_closed_by}
use Rattle.ufs_model.proofs.Graphs.{object_there, refers}
use Rattle.ufs_model.proofs.WellGraphs.{graph_refers, object_whole}
use Rattle.ufs_model.proofs.Grants.{draws-filter, rise-filter, drawn-push, rise-grant}
use Rattle.ufs_model.proofs.WellStates.{open_there, replaced_state, self_draft, draft_alike, grant_found}

whole_open : (o : Object) (mode : Mode) → is_object o ≡ true → is_open_so (Some o) (first_draft mode (Some o)) ≡ true
whole_open o mode whole = elim (takes_draft mode (Some o)) as (λ b. takes_draft mode (Some o) ≡ b → is_open_so (Some o) (cond b (Some (record { object = o; fresh = [] })) None) ≡ true) [
  | true ↦ λ takes. self_draft o whole
  | false ↦ λ takes. refl
] refl

-- a draft is for writing
drafts_write : (o : Object) (mode : Mode) → (is_none (first_draft mode (Some o)) || not (is_reading mode)) ≡ true
drafts_write o modes.Reading = refl
drafts_write o modes.Writing = or_right (is_none (first_draft modes.Writing (Some o))) true refl

-- who may be opened beside others shares with each
all_share : (gs : List Grant) (g : Grant) (s : State) → s.grants ≡ gs → meets_a_grant s (not (is_reading g.mode)) (Direct g.id) ≡ false → list_all (λ h. may_share h g) gs ≡ true
all_share gs g s is free = at g.mode refl (subst (λ (hs : List Grant). meets_a_grant (record s { grants = hs }) (not (is_reading g.mode)) (Direct g.id) ≡ false) is free)
  where
    writers : (hs : List Grant) → list_any (λ (h : Grant). same_puid g.id h.id) hs ≡ false → list_all (λ h. may_share h g) hs ≡ true
    writers [] none = refl
    writers (h ∷ hs) none = elim (cases_Bool (same_puid g.id h.id)) [
      | inl on ↦ (let no : list_any (λ (k : Grant). same_puid g.id k.id) (h ∷ hs) ≡ true = or_left (same_puid g.id h.id) _ on in cc)
      | inr other ↦ and_from (may_share h g) (list_all (λ k. may_share k g) hs) (or_left (not (same_puid g.id h.id)) (is_reading h.mode && is_reading g.mode) (ap not other)) (writers hs (rw other at none))
    ]

    readers : is_reading g.mode ≡ true → (hs : List Grant) → list_any (λ (h : Grant). same_puid g.id h.id && not (is_reading h.mode)) hs ≡ false → list_all (λ h. may_share h g) hs ≡ true
    readers reads [] none = refl
    readers reads (h ∷ hs) none = elim (cases_Bool (same_puid g.id h.id && not (is_reading h.mode))) [
      | inl on ↦ (let no : list_any (λ (k : Grant). same_puid g.id k.id && not (is_reading k.mode)) (h ∷ hs) ≡ true = or_left (same_puid g.id h.id && not (is_reading h.mode)) _ on in cc)
      | inr other ↦ and_from (may_share h g) (list_all (λ k. may_share k g) hs) (one (same_puid g.id h.id) (is_reading h.mode) other) (readers reads hs (rw other at none))
    ]
      where
        one : (a b : Bool) → (a && not b) ≡ false → (not a || (b && is_reading g.mode)) ≡ true
        one false b h = refl
        one true true h = rw reads refl
        one true false h = cc

    at : (m : Mode) → g.mode ≡ m → meets_a_grant (record s { grants = gs }) (not (is_reading g.mode)) (Direct g.id) ≡ false → list_all (λ h. may_share h g) gs ≡ true
    at modes.Reading reads none = readers (ap is_reading reads) gs (subst (λ (m : Mode). meets_a_grant (record s { grants = gs }) (not (is_reading m)) (Direct g.id) ≡ false) reads none)
    at modes.Writing reads none = writers gs (subst (λ (m : Mode). meets_a_grant (record s { grants = gs }) (not (is_reading m)) (Direct g.id) ≡ false) reads none)

pub granted_keeps : (seed : ℕ) (s : State) (who : ℕ) (id : Puid) (mode : Mode) → IsState s → is_there s.graph id ≡ true → meets_a_grant s (not (is_reading mode)) (Direct id) ≡ false → IsState (granted seed s who id mode).1
granted_keeps seed s who id mode h there free = record {
  graph = h.graph;
  grants = list_all-append (is_grant_in s.graph) s.grants (grant ∷ []) ∙ and_from (list_all (is_grant_in s.graph) s.grants) (is_grant_in s.graph grant && true) h.grants (and_from (is_grant_in s.graph grant) true new refl);
  closed = pairs_closed_by (is_there s.graph) (s.grants ++ grant ∷ []) (granted_alone (s.grants ++ grant ∷ []) granted) refer;
  alone = granted;
  rising = rise-grant s.grants grant s.drawn refl h.drawn h.rising;
  drawn = drawn-push s.grants grant s.drawn refl h.drawn;
}
  where
    grant : Grant
    grant = record { tuid = record { draw = s.drawn + 1; word = word seed (s.drawn + 1) }; session = who; id = id; mode = mode; draft = first_draft mode (object_at s.graph id) }

    at : (o : Object) × (object_at s.graph id ≡ Some o)
    at = object_there s.graph id there

    new : is_grant_in s.graph grant ≡ true
    new = rw at.1 (whole_open at.0 mode (object_whole s.graph h.graph id at.0 at.1))

    granted : are_granted (s.grants ++ grant ∷ []) ≡ true
    granted = granted_push s.grants grant h.alone (rw at.1 (drafts_write at.0 mode)) (all_share s.grants grant s refl free)

    first_refers : (mode : Mode) (o : Option Object) (x : Puid) → refers (object_in (first_draft mode o)) x ≡ true → refers o x ≡ true
    first_refers mode None x r = cc
    first_refers mode (Some o) x r = elim (takes_draft mode (Some o)) as (λ b. refers (object_in (cond b (Some (record { object = o; fresh = [] })) None)) x ≡ true → refers (Some o) x ≡ true) [
      | true ↦ λ now. now
      | false ↦ λ now. cc
    ] r

    refer : (i x : Puid) → refers (draft_at (s.grants ++ grant ∷ []) i) x ≡ true → is_there s.graph x ≡ true
    refer i x r = pushed s.grants (λ r. each_pair (λ _. is_there s.graph) (draft_pairs s.grants) i x h.closed (draft_pair s.grants i x r)) r
      where
        pushed : (gs : List Grant) → (refers (draft_at gs i) x ≡ true → is_there s.graph x ≡ true) → refers (draft_at (gs ++ grant ∷ []) i) x ≡ true → is_there s.graph x ≡ true
        pushed [] was r = elim (same_puid i id && is_some grant.draft) as (λ b. refers (cond b (object_in grant.draft) None) x ≡ true → is_there s.graph x ≡ true) [
          | true ↦ λ now. graph_refers s.graph h.graph id x (first_refers mode (object_at s.graph id) x now)
          | false ↦ λ now. cc
        ] r
        pushed (y ∷ ys) was r = elim (same_puid i y.id && is_some y.draft) as (λ b. (refers (cond b (object_in y.draft) (draft_at ys i)) x ≡ true → is_there s.graph x ≡ true)
            → refers (cond b (object_in y.draft) (draft_at (ys ++ grant ∷ []) i)) x ≡ true → is_there s.graph x ≡ true) [
              | true ↦ λ old now. old now
              | false ↦ λ old now. pushed ys old now
            ] was r

-- fewer grants
fewer : (s : State) (M : Grant → Bool) → IsState s → IsState (record s { grants = filter M s.grants })
fewer s M h = record {
  graph = h.graph;
  grants = all_filter (is_grant_in s.graph) M s.grants h.grants;
  closed = pairs_closed_by (is_there s.graph) (filter M s.grants) (granted_alone (filter M s.grants) (granted_filter M s.grants h.alone)) refer;
  alone = granted_filter M s.grants h.alone;
  rising = rise-filter M s.grants h.rising;
  drawn = draws-filter M (λ draw. nat_le draw s.drawn) s.grants h.drawn;
}
  where
    refer : (i x : Puid) → refers (draft_at (filter M s.grants) i) x ≡ true → is_there s.graph x ≡ true
    refer i x r = at (draft_at (filter M s.grants) i) refl r
      where
        at : (o : Option Object) → draft_at (filter M s.grants) i ≡ o → refers o x ≡ true → is_there s.graph x ≡ true
        at None is r = cc
        at (Some o) is r = each_pair (λ _. is_there s.graph) (draft_pairs s.grants) i x h.closed (draft_pair s.grants i x (ap (λ d. refers d x) (fewer_drafts M s.grants i o (granted_alone s.grants h.alone) is) ∙ r))

pub leave_keeps : (s : State) (who : ℕ) → IsState s → IsState (after_leave s who)
leave_keeps s who h = fewer s (λ g. not (g.session == who)) h

committed_keeps : (s : State) (who : ℕ) (t : Tuid) → IsState s → IsState (record s { graph = committed (grant_of s who t) s.graph })
committed_keeps s who t h = with_grant (grant_of s who t) refl
  where
    with_draft' : (g : Grant) (d : Option Draft) → grant_of s who t ≡ Some g → g.draft ≡ d → is_open_so (object_at s.graph g.id) d ≡ true → IsState (record s { graph = elim d [ None ↦ s.graph | Some x ↦ with_object s.graph g.id x.object ] })
    with_draft' g None found has is = h
    with_draft' g (Some d) found has is =
        let at = open_there (object_at s.graph g.id) (Some d) is in
        let two = draft_alike at.0 d.object (sym (ap (λ o. is_open_so o (Some d)) at.1) ∙ is) in
        let its = its_draft (is_grant who t) g s.grants d (granted_alone s.grants h.alone) found has in
        replaced_state s g.id at.0 d.object h at.1 two.0 two.1 (λ x r. each_pair (λ _. is_there s.graph) (draft_pairs s.grants) g.id x h.closed (draft_pair s.grants g.id x (ap (λ o. refers o x) its ∙ r)))
        (λ e other. let same : d.object ≡ e = same_Some d.object e (sym its ∙ other) in subst (λ (x : Object). is_draft_of d.object x ≡ true) same (self_draft d.object two.1))

    with_grant : (found : Option Grant) → grant_of s who t ≡ found → IsState (record s { graph = committed found s.graph })
    with_grant None is = h
    with_grant (Some g) is = with_draft' g g.draft is refl (grant_found s who t g h is).1

pub closed_keeps : (s : State) (who : ℕ) (t : Tuid) (commit : Bool) → IsState s → IsState (closed s who t commit)
closed_keeps s who t true h = fewer (record s { graph = committed (grant_of s who t) s.graph }) (λ g. not (is_grant who t g)) (committed_keeps s who t h)
closed_keeps s who t false h = fewer s (λ g. not (is_grant who t g)) h
