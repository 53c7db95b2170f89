-- Calls that change the grants, and no draft.
use Rattle.std.proofs.Common.{◌≤◌, ◌≡◌, ℕ, List, [], ◌∷◌, ◌++◌, length, Bool, true, false, cond, ◌&&◌, Option, Some, None, is_some, refl, sym, ◌∙◌, ap, subst, arith, ◌+◌, append-nil, filter, find, map, nat_le, not}
use Rattle.cfs_core.proofs.Words.{and_parts, changes_begin, Draft, Drafting, Drafts, Event, Ghosts, Grant, Holds, Image, is_grant, IsState, list_all, nat_tests, next, no_drafts, Opened, or_parts, State, Tuid, with_opened}
use Rattle.open_table.specs.declared.grant.OpenGrant as handles
use Rattle.open_table.specs.Grants as tables
use Rattle.cfs_core.specs.Calls.{MakesEvent}
use Rattle.cfs_core.specs.Kernel.{Kernel, Handle, grants_in, is_drawn_by}
use Rattle.cfs_core.specs.Handles.{have_draft, handles_but}
use Rattle.cyl_alloc.specs.Left.{LeftCommit}
use Rattle.cfs_core.specs.StandsFor.{AreDraftsOf, HasDraftOf, ServesIs, StoresState, bare, drafts_of_handles, end_in, free_to_come, free_with, opened_if, with_opened_if}
use Rattle.cfs_core.proofs.Drafted.{drafts_beside}
use Rattle.cfs_core.proofs.Moved.{HasStepped, IsStepped, makes_stepped, stores_stepped}
use Rattle.cfs_core.proofs.Serving.{account, nothing_left}
use Rattle.ufs_model.specs.State.{draft_at}

-- each is drawn where more are drawn
pub drawn_more : (ss : List Handle) (n m : ℕ) → m ≡ n + 1 → list_all (is_drawn_by n) ss ≡ true → list_all (is_drawn_by m) ss ≡ true
drawn_more [] n m more is = refl
drawn_more (x ∷ ss) n m more is =
    let two = and_parts (is_drawn_by n x) (list_all (is_drawn_by n) ss) is in
    let below : is_drawn_by m x ≡ true = further x.grant.tuid.draw n m more two.0 in rw (below, drawn_more ss n m more two.1) refl
  where
    further : (d n m : ℕ) → m ≡ n + 1 → nat_le d n ≡ true → nat_le d m ≡ true
    further d n m more le = grind (arith, nat_tests)

pub grants_push : (ss : List Handle) (x : Handle) → grants_in (ss ++ x ∷ []) ≡ grants_in ss ++ x.grant ∷ []
grants_push [] x = refl
grants_push (y ∷ ss) x = ap (λ more. y.grant ∷ more) (grants_push ss x)

-- a grant whose handle has no draft has none
pub draft_none : (ds : Drafts) (who : ℕ) (t : Tuid) (ss : List Handle) (grants : List Grant) → grants_in ss ≡ map bare grants → AreDraftsOf ds ss grants → have_draft (tables.is_session_grant who t) ss ≡ false
    → (x : Grant) → find (is_grant who t) grants ≡ Some x → x.draft ≡ None
draft_none ds who t [] [] table are none x found = cc
draft_none ds who t [] (y ∷ grants) table are none x found = absurd are
draft_none ds who t (handle ∷ ss) [] table are none x found = cc
draft_none ds who t (handle ∷ ss) (y ∷ grants) table are none x found =
    let head : handle.grant ≡ bare y = cc in
    let tail : grants_in ss ≡ map bare grants = cc in
    let two = or_parts (tables.is_session_grant who t handle.grant && is_some handle.drafting) (have_draft (tables.is_session_grant who t) ss) none in
    at (draft_none ds who t ss grants tail are.1 two.1 x) (is_grant who t y) (subst (λ (e : handles.OpenGrant). (tables.is_session_grant who t e && is_some handle.drafting) ≡ false) head two.0) found
  where
    here : (drafting : Option Drafting) (d : Option Draft) → is_some drafting ≡ false → HasDraftOf ds handle drafting d → d ≡ None
    here None None none has = refl
    here None (Some d) none has = absurd has
    here (Some drafting) d none has = cc

    at : (find (is_grant who t) grants ≡ Some x → x.draft ≡ None) → (b : Bool) → (b && is_some handle.drafting) ≡ false → cond b (Some y) (find (is_grant who t) grants) ≡ Some x → x.draft ≡ None
    at rest true quiet found = (let same : y ≡ x = cc in ap (λ (e : Grant). e.draft) (sym same) ∙ here handle.drafting y.draft quiet are.0)
    at rest false quiet found = rest found

-- ---- the drafts of other grants

-- the grants after a call have the drafts of those before it
pub record KeepsDrafts (ss left : List Handle) (grants after : List Grant) : Type 0 where
  pub same : drafts_of_handles left after ≡ drafts_of_handles ss grants
  pub have : (ds : Drafts) → AreDraftsOf ds ss grants → AreDraftsOf ds left after

-- one more, with this draft, or with none
module _ (handle : Handle) (grant : Grant) where
  pub push_opened : (e : Opened) → opened_if handle.drafting grant.draft ≡ Some e → (ss : List Handle) (grants : List Grant) → grants_in ss ≡ map bare grants → draft_at grants handle.grant.id ≡ None
      → drafts_of_handles (ss ++ handle ∷ []) (grants ++ grant ∷ []) ≡ with_opened handle.grant.id e (drafts_of_handles ss grants)
  push_opened e is ss grants table none =
      drafts_beside handle.grant.id (Some e) [] (handle ∷ []) [] (grant ∷ []) (ap (λ o. with_opened_if handle.grant.id o no_drafts) is) ss grants table none
      ∙ ap (with_opened handle.grant.id e) (ap (λ zs. drafts_of_handles zs (grants ++ [])) (append-nil ss) ∙ ap (drafts_of_handles ss) (append-nil grants))

  pub push_bare : opened_if handle.drafting grant.draft ≡ None → (ss : List Handle) (grants : List Grant) → grants_in ss ≡ map bare grants → drafts_of_handles (ss ++ handle ∷ []) (grants ++ grant ∷ []) ≡ drafts_of_handles ss grants
  push_bare is [] [] table = ap (λ o. with_opened_if handle.grant.id o no_drafts) is
  push_bare is [] (x ∷ grants) table = cc
  push_bare is (x ∷ ss) [] table = cc
  push_bare is (x ∷ ss) (y ∷ grants) table = (let tail : grants_in ss ≡ map bare grants = cc in ap (with_opened_if x.grant.id (opened_if x.drafting y.draft)) (push_bare is ss grants tail))

module _ (test : handles.OpenGrant → Bool) where
  abbrev left_of : List Grant → List Grant
  left_of grants = filter (λ grant. not (test (bare grant))) grants

  but_have : (ds : Drafts) (ss : List Handle) (grants : List Grant) → grants_in ss ≡ map bare grants → AreDraftsOf ds ss grants → AreDraftsOf ds (handles_but test ss) (left_of grants)
  but_have ds [] [] table are = tt
  but_have ds [] (y ∷ grants) table are = absurd are
  but_have ds (x ∷ ss) [] table are = absurd are
  but_have ds (x ∷ ss) (y ∷ grants) table are =
      let head : x.grant ≡ bare y = cc in
      let tail : grants_in ss ≡ map bare grants = cc in
      rw (← head) (at (but_have ds ss grants tail are.1) (test x.grant))
    where
      at : AreDraftsOf ds (handles_but test ss) (left_of grants) → (b : Bool) → AreDraftsOf ds (cond (not b) (x ∷ handles_but test ss) (handles_but test ss)) (cond (not b) (y ∷ left_of grants) (left_of grants))
      at rest true = rest
      at rest false = (are.0, rest)

  but_same : (ds : Drafts) (ss : List Handle) (grants : List Grant) → grants_in ss ≡ map bare grants → AreDraftsOf ds ss grants → have_draft test ss ≡ false
      → drafts_of_handles (handles_but test ss) (left_of grants) ≡ drafts_of_handles ss grants
  but_same ds [] [] table are none = refl
  but_same ds [] (y ∷ grants) table are none = absurd are
  but_same ds (x ∷ ss) [] table are none = absurd are
  but_same ds (x ∷ ss) (y ∷ grants) table are none =
      let head : x.grant ≡ bare y = cc in
      let tail : grants_in ss ≡ map bare grants = cc in
      let two = or_parts (test x.grant && is_some x.drafting) (have_draft test ss) none in
      rw (← head) (at (but_same ds ss grants tail are.1 two.1) (test x.grant) two.0)
    where
      gone : (drafting : Option Drafting) (d : Option Draft) → is_some drafting ≡ false → opened_if drafting d ≡ None
      gone None d none = refl
      gone (Some drafting) d none = cc

      at : drafts_of_handles (handles_but test ss) (left_of grants) ≡ drafts_of_handles ss grants → (b : Bool) → (b && is_some x.drafting) ≡ false
          → drafts_of_handles (cond (not b) (x ∷ handles_but test ss) (handles_but test ss)) (cond (not b) (y ∷ left_of grants) (left_of grants)) ≡ drafts_of_handles (x ∷ ss) (y ∷ grants)
      at rest true bare = rest ∙ sym (ap (λ o. with_opened_if x.grant.id o (drafts_of_handles ss grants)) (gone x.drafting y.draft bare))
      at rest false bare = ap (with_opened_if x.grant.id (opened_if x.drafting y.draft)) rest

  -- fewer, of which those that go have none
  pub but_keeps : (ds : Drafts) (ss : List Handle) (grants : List Grant) → grants_in ss ≡ map bare grants → AreDraftsOf ds ss grants → have_draft test ss ≡ false → KeepsDrafts ss (handles_but test ss) grants (left_of grants)
  but_keeps ds ss grants table are none = record { same = but_same ds ss grants table are none; have = λ es. but_have es ss grants table }

  pub but_table : (ss : List Handle) (grants : List Grant) → grants_in ss ≡ map bare grants → grants_in (handles_but test ss) ≡ map bare (left_of grants)
  but_table [] [] table = refl
  but_table [] (y ∷ grants) table = cc
  but_table (x ∷ ss) [] table = cc
  but_table (x ∷ ss) (y ∷ grants) table =
      let head : x.grant ≡ bare y = cc in
      let tail : grants_in ss ≡ map bare grants = cc in
      rw (← head) (at head (but_table ss grants tail) (test x.grant))
    where
      at : x.grant ≡ bare y → grants_in (handles_but test ss) ≡ map bare (left_of grants) → (b : Bool)
          → grants_in (cond (not b) (x ∷ handles_but test ss) (handles_but test ss)) ≡ map bare (cond (not b) (y ∷ left_of grants) (left_of grants))
      at head rest true = rest
      at head rest false = rw (head, rest) refl

-- ---- the state with these grants

-- the Free blocks are the same, whoever has a grant
pub free_handled : {D : Type 0} (g : Ghosts D) (k : Kernel D) (handles : List Handle) (w : Option LeftCommit) → free_with g (record k { handles = handles }) w ≡ free_with g k w
free_handled g k handles None = refl
free_handled g k handles (Some l) = refl

module _ {D : Type 0} (g : Ghosts D) (k : Kernel D) (left : List Handle) (s after : State) (serves : ServesIs g k s) (is : IsStepped k (record k { handles = left }) s after s.graph) (state : IsState after) (keeps : KeepsDrafts k.handles left s.grants after.grants) where
  abbrev new : Kernel D
  new = record k { handles = left }

  abbrev ds : Drafts
  ds = drafts_of_handles k.handles s.grants

  has : HasStepped g k.space.left k new s s.graph (λ entry. false) ds
  has = record {
    store = serves.store;
    only = changes_begin (λ entry. false) (end_in g k) s.graph (account g k s serves).holds;
    these = record { there = λ entry is made. let no : true ≡ false = sym is in cc; more = λ r had. had };
  }

  four : 4 ≤ free_to_come g new
  four = subst (λ (f : ℕ). 4 ≤ f) (sym (free_handled g k left k.space.left)) serves.four

  pub stores_after : StoresState g new after
  stores_after = stores_stepped g k new s after s.graph serves (λ entry. false) ds has is state keeps.same (keeps.have ds serves.drafts) four

  pub makes_after : ((d : D) (t : ℕ) (c : Image) → g.left_since d t c → length c ≡ g.blocks d) → length (g.content k.disk) ≡ g.blocks k.disk → (e : Event) → next k.words.seed s e ≡ Some after → MakesEvent g k.space.left k new s e
  makes_after left_sized wide e step = makes_stepped g k new s after s.graph serves (λ entry. false) ds has is state keeps.same (keeps.have ds serves.drafts) four left_sized wide e step refl (nothing_left g k.disk (λ c. Holds c s.graph))
