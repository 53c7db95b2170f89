-- Drafts as they stand between two calls.
use Rattle.std.proofs.Common.{◌≡◌, ℕ, ◌+◌, ◌*◌, ◌<◌, List, [], ◌∷◌, ◌++◌, Bool, true, false, cond, ◌&&◌, length, Option, Some, None, refl, sym, ◌∙◌, ap, subst, arith, filter, find, is_none, is_some, map, nat_lt, option_and_then, option_to_list}
use Rattle.cfs_core.proofs.Words.{and_parts, are_granted, Draft, Drafting, Drafts, Grant, Graph, graph_blocks, ids_of, is_grant_in, Kept, list_all, list_all-append, Listing, nat_tests, no_drafts, Object, object_at, open_there, opened_as, Puid, rises, sum_by, sum_by-cons, taken_with}
use Rattle.open_table.specs.declared.grant.OpenGrant as handles
use Rattle.vol_owners.specs.Room as owners
use Rattle.cfs_core.specs.declared.collecting.Collections.{Collections}
use Rattle.cfs_core.specs.Room.{blocks_of_grant}
use Rattle.cfs_core.specs.StandsFor.{AreDraftsOf, HasDraftOf, bare, drafts_of_handles, opened_if, with_opened_if}
use Rattle.cfs_core.specs.Kernel.{IsSizedKernel, Handle, is_drawn_by, is_ready, is_ready_for, grants_in}
use Rattle.cfs_core.specs.Handles.{drafting_at, is_drawn, handles_but, with_drafting, ChangesHeld, IsOnDisk}
use Rattle.cfs_core.proofs.Drafted.{core_has_none, none_beside}
use Rattle.cfs_core.specs.Drafts.{StaysOf}
use Rattle.ufs_model.specs.State.{draft_at}

pub record IsReadyFor (blocks : ℕ) (d : Drafting) : Type 0 where
  pub on_disk : d.at < blocks
  pub shadow : (s : ℕ) × (d.shadow ≡ Some s)
  pub bare : d.created ≡ None

pub ready_for : (blocks : ℕ) (d : Drafting) → is_ready_for blocks d ≡ true → IsReadyFor blocks d
ready_for blocks d is =
    let two = and_parts _ (is_none d.created) is in
    let one = and_parts (nat_lt d.at blocks) (is_some d.shadow) two.0 in
    record { on_disk = less d.at blocks one.0; shadow = some d.shadow one.1; bare = none d.created two.1 }
  where
    less : (a b : ℕ) → nat_lt a b ≡ true → a < b
    less a b h = grind (arith, nat_tests)

    some : (o : Option ℕ) → is_some o ≡ true → (s : ℕ) × (o ≡ Some s)
    some None h = cc
    some (Some s) h = (s, refl)

    none : (o : Option ℕ) → is_none o ≡ true → o ≡ None
    none None h = refl
    none (Some s) h = cc

pub never_none : {A : Type 0} (o : Option ℕ) (s : ℕ) → o ≡ None → o ≡ Some s → A
never_none o s none some = let no : None ≡ Some s = sym none ∙ some in cc

pub for_ready : (blocks : ℕ) (d : Drafting) → IsReadyFor blocks d → is_ready_for blocks d ≡ true
for_ready blocks d r = at (less d.at blocks r.on_disk) d.shadow r.shadow.1 d.created r.bare
  where
    less : (a b : ℕ) → a < b → nat_lt a b ≡ true
    less a b h = grind (arith, nat_tests)

    at : nat_lt d.at blocks ≡ true → (o : Option ℕ) → o ≡ Some r.shadow.0 → (p : Option ℕ) → p ≡ None → (nat_lt d.at blocks && is_some o && is_none p) ≡ true
    at below (Some s) is None none = rw below refl
    at below None is p none = cc
    at below (Some s) is (Some c) none = cc

-- the draft of a handle is ready where all are
pub ready_at : (blocks draw : ℕ) (ss : List Handle) → list_all (is_ready blocks) ss ≡ true → (d : Drafting) → drafting_at ss draw ≡ Some d → is_ready_for blocks d ≡ true
ready_at blocks draw [] all d is = cc
ready_at blocks draw (handle ∷ ss) all d is =
    let two = and_parts (is_ready blocks handle) (list_all (is_ready blocks) ss) all in
    elim (is_drawn draw handle) as (λ b. option_and_then (λ (e : Handle). e.drafting) (cond b (Some handle) (find (is_drawn draw) ss)) ≡ Some d → is_ready_for blocks d ≡ true) [
      | true ↦ λ h. here handle.drafting two.0 h
      | false ↦ λ h. ready_at blocks draw ss two.1 d h
    ] is
  where
    here : (o : Option Drafting) → is_ready blocks (record handle { drafting = o }) ≡ true → o ≡ Some d → is_ready_for blocks d ≡ true
    here None h same = cc
    here (Some e) h same = let one : e ≡ d = cc in subst (λ (x : Drafting). is_ready_for blocks x ≡ true) one h

-- where the draft of one draw is taken, what holds of all handles but for their drafts still does
pub all_taken : (test : Handle → Bool) (draw : ℕ) → ((handle : Handle) → test handle ≡ true → test (record { grant = handle.grant; drafting = None }) ≡ true) → (ss : List Handle) → list_all test ss ≡ true
    → list_all test (with_drafting draw None ss) ≡ true
all_taken test draw bare [] all = refl
all_taken test draw bare (handle ∷ ss) all =
    let two = and_parts (test handle) (list_all test ss) all in
    elim (is_drawn draw handle) as (λ b. (test (cond b (record { grant = handle.grant; drafting = None }) handle) && list_all test (with_drafting draw None ss)) ≡ true) [
      | true ↦ rw (bare handle two.0, all_taken test draw bare ss two.1) refl
      | false ↦ rw (two.0, all_taken test draw bare ss two.1) refl
    ]

pub ready_taken : (blocks draw : ℕ) (ss : List Handle) → list_all (is_ready blocks) ss ≡ true → list_all (is_ready blocks) (with_drafting draw None ss) ≡ true
ready_taken blocks draw ss all = all_taken (is_ready blocks) draw (λ handle is. refl) ss all

-- where another draft that is ready is put in its place
pub ready_put : (blocks draw : ℕ) (d : Drafting) → is_ready_for blocks d ≡ true → (ss : List Handle) → list_all (is_ready blocks) ss ≡ true → list_all (is_ready blocks) (with_drafting draw (Some d) ss) ≡ true
ready_put blocks draw d is [] all = refl
ready_put blocks draw d is (handle ∷ ss) all =
    let two = and_parts (is_ready blocks handle) (list_all (is_ready blocks) ss) all in
    elim (is_drawn draw handle) as (λ b. (is_ready blocks (cond b (record { grant = handle.grant; drafting = Some d }) handle) && list_all (is_ready blocks) (with_drafting draw (Some d) ss)) ≡ true) [
      | true ↦ rw (is, ready_put blocks draw d is ss two.1) refl
      | false ↦ rw (two.0, ready_put blocks draw d is ss two.1) refl
    ]

pub drawn_put : (n draw : ℕ) (what : Option Drafting) (ss : List Handle) → list_all (is_drawn_by n) ss ≡ true → list_all (is_drawn_by n) (with_drafting draw what ss) ≡ true
drawn_put n draw what [] all = refl
drawn_put n draw what (handle ∷ ss) all =
    let two = and_parts (is_drawn_by n handle) (list_all (is_drawn_by n) ss) all in
    elim (is_drawn draw handle) as (λ b. (is_drawn_by n (cond b (record { grant = handle.grant; drafting = what }) handle) && list_all (is_drawn_by n) (with_drafting draw what ss)) ≡ true) [
      | true ↦ rw (two.0, drawn_put n draw what ss two.1) refl
      | false ↦ rw (two.0, drawn_put n draw what ss two.1) refl
    ]

pub drawn_taken : (n draw : ℕ) (ss : List Handle) → list_all (is_drawn_by n) ss ≡ true → list_all (is_drawn_by n) (with_drafting draw None ss) ≡ true
drawn_taken n draw ss all = all_taken (is_drawn_by n) draw (λ handle is. is) ss all

pub all_push : (test : Handle → Bool) (ss : List Handle) (x : Handle) → list_all test ss ≡ true → test x ≡ true → list_all test (ss ++ x ∷ []) ≡ true
all_push test ss x all is = list_all-append test ss (x ∷ []) ∙ rw (all, is) refl

pub all_filter : {X : Type 0} (P M : X → Bool) (xs : List X) → list_all P xs ≡ true → list_all P (filter M xs) ≡ true
all_filter P M [] is = refl
all_filter P M (x ∷ xs) is =
    let two = and_parts (P x) (list_all P xs) is in
    elim (M x) as (λ b. list_all P (cond b (x ∷ filter M xs) (filter M xs)) ≡ true) [
      | true ↦ rw (two.0, all_filter P M xs two.1) refl
      | false ↦ all_filter P M xs two.1
    ]

-- ---- what a core keeps on any disk

module _ {D : Type 0} {blocks : D → ℕ} {d : D} {directory : Listing} {before : Kept} {ss : List Handle} {drawn : ℕ} {c : Collections} (sized : IsSizedKernel blocks d directory before ss drawn c) where
  -- with other handles, on a disk of its size
  pub sized_with : (e : D) (after : Kept) (new : List Handle) (more : ℕ) → blocks e ≡ blocks d → length after.free ≡ length before.free → list_all (is_drawn_by more) new ≡ true → list_all (is_ready directory.room) new ≡ true → IsSizedKernel blocks e directory after new more c
  sized_with e after new more size cylinders drawn_all ready = record {
    size = size ∙ sized.size ∙ ap (λ (n : ℕ). 64 * n) (sym cylinders);
    room = sized.room ∙ sym size;
    some = sized.some;
    kept = sized.kept;
    drawn_all = drawn_all;
    ready = ready;
  }

  -- with another draft in the place of one
  pub sized_put : {So : Drafting → Drafting → Type 0} (draw : ℕ) (new : List Handle) (changed : ChangesHeld draw ss new So) → StaysOf changed.was changed.now → (e : D) (after : Kept) → blocks e ≡ blocks d → length after.free ≡ length before.free → IsSizedKernel blocks e directory after new drawn c
  sized_put draw new changed stays e after size cylinders =
      let ready = ready_for directory.room changed.was (ready_at directory.room draw ss sized.ready changed.was changed.has) in
      let still = for_ready directory.room changed.now (record { on_disk = omega (arith, ready.on_disk, stays.at); shadow = (ready.shadow.0, stays.shadow ∙ ready.shadow.1); bare = stays.created ∙ ready.bare }) in
      sized_with e after new drawn size cylinders (ap (list_all (is_drawn_by drawn)) changed.with_it ∙ drawn_put drawn draw (Some changed.now) ss sized.drawn_all)
      (ap (list_all (is_ready directory.room)) changed.with_it ∙ ready_put directory.room draw changed.now still ss sized.ready)

  -- each draft is on a disk of its size
  pub all_on_disk : (draw size : ℕ) → size ≡ blocks d → IsOnDisk ss draw size
  all_on_disk draw size is = λ w has. subst (λ n. w.at < n) (sized.room ∙ sym is) (ready_for directory.room w (ready_at directory.room draw ss sized.ready w has)).on_disk

  -- without a draft, and with fewer handles
  pub sized_taken : (draw : ℕ) (new : List Handle) → new ≡ with_drafting draw None ss → IsSizedKernel blocks d directory before new drawn c
  sized_taken draw new is = sized_with d before new drawn refl refl (ap (list_all (is_drawn_by drawn)) is ∙ drawn_taken drawn draw ss sized.drawn_all) (ap (list_all (is_ready directory.room)) is ∙ ready_taken directory.room draw ss sized.ready)

  pub sized_but : (test : handles.OpenGrant → Bool) (new : List Handle) → new ≡ handles_but test ss → IsSizedKernel blocks d directory before new drawn c
  sized_but test new is = sized_with d before new drawn refl refl (ap (list_all (is_drawn_by drawn)) is ∙ all_filter (is_drawn_by drawn) _ ss sized.drawn_all) (ap (list_all (is_ready directory.room)) is ∙ all_filter (is_ready directory.room) _ ss sized.ready)

-- ---- what drafts take

-- no drafts take no block
pub none_take : (ids : List Puid) → sum_by (λ id. owners.draft_blocks_if (no_drafts id)) ids ≡ 0
none_take [] = refl
none_take (id ∷ ids) = omega (arith, sum_by-cons (λ (x : Puid). owners.draft_blocks_if (no_drafts x)) id ids, none_take ids)

-- beside the objects it is what the grants take
module _ (graph : Graph) (up : rises (ids_of graph) ≡ true) (blocks : ℕ) (ds : Drafts) where
  pub drafts_take : (ss : List Handle) (grants : List Grant) → list_all (is_ready blocks) ss ≡ true → grants_in ss ≡ map bare grants → AreDraftsOf ds ss grants → list_all (is_grant_in graph) grants ≡ true → are_granted grants ≡ true
      → owners.blocks_taken graph (drafts_of_handles ss grants) ≡ graph_blocks graph + sum_by blocks_of_grant grants
  drafts_take [] [] all table are there alone = omega (arith, none_take (ids_of graph))
  drafts_take [] (x ∷ grants) all table are there alone = absurd are
  drafts_take (handle ∷ ss) [] all table are there alone = absurd are
  drafts_take (handle ∷ ss) (x ∷ grants) all table are there alone =
      let head : handle.grant ≡ bare x = cc in
      let tail : grants_in ss ≡ map bare grants = cc in
      let two = and_parts (is_ready blocks handle) (list_all (is_ready blocks) ss) all in
      let so = and_parts (is_grant_in graph x) (list_all (is_grant_in graph) grants) there in
      let rest = drafts_take ss grants two.1 tail are.1 so.1 (and_parts _ (are_granted grants) alone).1 in
      let o = open_there (object_at graph x.id) x.draft so.0 in
      omega (
        arith,
        rest,
        sum_by-cons blocks_of_grant x grants,
        one o.0 (ap (λ (e : handles.OpenGrant). object_at graph e.id) head ∙ o.1)
            (core_has_none handle.grant.id ss grants tail (subst (λ (e : handles.OpenGrant). draft_at grants e.id ≡ None) (sym head) (none_beside x grants [] alone).1))
            handle.drafting x.draft two.0 are.0,
      )
    where
      one : (object : Object) → object_at graph handle.grant.id ≡ Some object → drafts_of_handles ss grants handle.grant.id ≡ None
          → (o : Option Drafting) (d : Option Draft) → is_ready blocks (record handle { drafting = o }) ≡ true → HasDraftOf ds handle o d
          → owners.blocks_taken graph (with_opened_if handle.grant.id (opened_if o d) (drafts_of_handles ss grants)) ≡ owners.blocks_taken graph (drafts_of_handles ss grants) + blocks_of_grant (record x { draft = d })
      one object at none None None is has = omega arith
      one object at none None (Some d) is has = absurd has
      one object at none (Some o) None is has = absurd has
      one object at none (Some o) (Some d) is has =
          let ready = ready_for blocks o is in
          omega (
            arith,
            taken_with graph (drafts_of_handles ss grants) handle.grant.id object (Some (opened_as o d)) up at,
            ap owners.draft_blocks_if none,
            ap (λ (c : Option ℕ). length (option_to_list c)) ready.shadow.1,
            ap (λ (c : Option ℕ). length (option_to_list c)) ready.bare,
          )
