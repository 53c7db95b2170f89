-- How a call ends that changes a file which has no draft: a normal one in place, a special one as one commit.
use Rattle.std.proofs.Common.{◌≡◌, ◌⊎◌, inl, inr, ℕ, ◌+◌, ◌<◌, ◌≤◌, [], length, true, false, Some, None, Result, Ok, Err, IsTrue, refl, sym, ◌∙◌, ap, subst, arith, List, ◌∷◌, sum, Option}
use Rattle.cfs_core.proofs.Words.{blocks_of, Change, changed_object, closed_graph, File, FileKind, Fill, FitsDisk, Ghosts, Holds, HoldsOfEither, Image}
use Rattle.cfs_core.proofs.Words.{IsInside, IsPartly, Kept, Leaves, MayChangeFile, MayLeaveFile, Need, need_for, need_of, Object, object_whole, OnlyReads, outcome_of, Overwrite, Puid, refusal_of, Refused, Request}
use Rattle.cfs_core.proofs.Words.{SetSize, State, target, wider, with_object, MapEntry, ChangesOnly, of_owner, Reply, Draft, has_met_damage, reads_then, stopped_after_reads}
use Rattle.cfs_base.specs.Run.{Tells}
use Rattle.cfs_base.specs.declared.kind.FileKind.TheVariants as kinds
use Rattle.cfs_base.specs.declared.refusal.Refused.TheVariants as refusals
use Rattle.ufs_model.specs.declared.asked.Event.TheVariants as events
use Rattle.ufs_model.specs.declared.asked.Reply.TheVariants as replies
use Rattle.ufs_model.specs.declared.object.Object.TheVariants as objects
use Rattle.cfs_core.specs.Calls.{Answers, ByWant, EndsSo, IsInDoubt, IsShortOfBlocks, IsWant, Tries, Undone, RequestWent, done_or, leaves_all}
use Rattle.cfs_core.specs.Damage.{IsDamageTold}
use Rattle.file_ops.specs.Limits.{drafted_calls}
use Rattle.file_ops.specs.Changes.{ChangesFile, ChangesSo, ClaimsFor, EndsChange, claims_beside, LeavesFileCommit}
use Rattle.cfs_core.specs.Kernel.{Kernel}
use Rattle.cfs_core.specs.Looks.{IsCalmCause, KnowsObject, ReachesAll}
use Rattle.std.specs.Prelude.{IfOk, IsSome, ◌≢◌, Bool, is_some, not}
use Rattle.block_tree.specs.declared.root.Root.{Root}
use Rattle.cyl_alloc.specs.Left.{LeftCommit, block_shown}
use Rattle.intentions.proofs.Shown.{store_tells}
use Rattle.normal_files.specs.Standing.{IsRootAt}
use Rattle.intentions.specs.Left.{final_image}
use Rattle.cfs_core.specs.Commits.{commits}
use Rattle.cfs_core.specs.Finished.{FinishesLeft, refused_since, since}
use Rattle.cfs_core.specs.StandsFor.{CoreServes, ServesIs, drafts_of_handles}
use Rattle.cfs_core.specs.Ways.{Reaches}
use Rattle.cfs_core.proofs.Damages.{far_on_disk, told_of_file, told_of_read, told_then}
use Rattle.cfs_core.proofs.Joined.{done_decides, done_never, ends_since, serves_mid, since_none, went_since}
use Rattle.cfs_core.proofs.Went.{went_done, went_so, went_then}
use Rattle.cfs_core.specs.Writes.{changes_disk}
use Rattle.cfs_core.proofs.After.{absurd_keeps, ends}
use Rattle.cfs_core.proofs.Answering.{disk_failed, failing, failing_cause, full_still, memory}
use Rattle.cfs_core.proofs.Views.{knows_that, object_view}
use Rattle.cfs_core.proofs.Changed.{object_did, object_in_doubt}
use Rattle.cfs_core.proofs.Committed.{IsCut, LeavesThese}
use Rattle.cfs_core.proofs.Grown.{replaced_blocks}
use Rattle.cfs_core.proofs.Refusing.{put_is}
use Rattle.cfs_core.proofs.Serving.{fits, may_fit, running, serves_is, serves_on, stays}
use Rattle.cfs_core.specs.Claimed.{ClaimsStay, is_set_size, TakesForRequest, claims_for, claims_in_file, claims_through, is_beside, owners_of, claims_in_place, claims_in_draft, drafting_of, root_reached}
use Rattle.cfs_core.proofs.Claimed.{Commits, claims_all, claims_only, claims_put, takes_alone, takes_last}
use Rattle.ufs_model.specs.Need.{is_normal}
use Rattle.normal_files.specs.Order as plain
use Rattle.ufs_model.specs.State.{file_seen}
use Rattle.std.specs.Option.{option_map_or}
use Rattle.leaf_changes.specs.Tops.{Top, disk_top}
use Rattle.cfs_core.proofs.FileChange.{IsChanging, few, file_of, is_file, itself, need_told, rising_of, same_kinds, same_need, still_closed}

-- ---- the call

module _ {D : Type 0} (g : Ghosts D) (left_sized : (d : D) (t : ℕ) (c : Image) → g.left_since d t c → length c ≡ g.blocks d) (sized : (d : D) → IsTrue (g.honest d) → length (g.content d) ≡ g.blocks d)
    (k : Kernel D) (d : D) (space : Kept) (id : Puid) (kind : FileKind) (change : Change) (request : Request) (is : IsChanging request change)
    (result : Result (Unit {0}) Refused) (changes : ChangesFile g id.block kind 4 change k.disk d k.space space result) where
  abbrev new : Kernel D
  new = record k { disk = d; space = space }

  module _ (s : State) (who : ℕ) (f : File) (serves : CoreServes g k s) (none : k.stop ≡ None) (reach : Reaches s who request id (objects.File f)) (shut : (drafts_of_handles k.handles s.grants) id ≡ None) (kind_is : f.kind ≡ kind) (inside : IsInside change (objects.File f))
      (goes : refusal_of s who request ≡ None) where
    abbrev o : Object
    o = changed_object change (objects.File f)

    abbrev may : MayChangeFile g id.block kind change k.disk k.space
    may = record { view = object_view g k s serves id (objects.File f) reach.there; shut = shut; file = f; is = refl; kind_is = kind_is; inside = inside }

    goes_so : ChangesSo may 4 d space result
    goes_so = changes.goes may

    need : need_of s who request ≡ need_for kind change f
    need = is.need s who ∙ need_told s who (target request) id f kind change reach.name reach.bare reach.there kind_is

    size : g.blocks d ≡ g.blocks k.disk
    size = changes.ends.calls.same.size

    wide : length (g.content k.disk) ≡ g.blocks d
    wide = sized k.disk serves.store.carries.tells.honest ∙ sym size

    fits_cut : need_for kind change f + 4 ≤ sum k.space.free → (x : File) → HoldsOfEither f (file_of change f) x → FitsDisk (g.blocks d) (with_object s.graph id (objects.File x))
    fits_cut free x either = may_fit g k s serves (with_object s.graph id (objects.File x)) (need_for kind change f) (g.blocks d) (still_closed s.graph (closed_graph s.graph serves.state.graph) id f x reach.there)
        (replaced_blocks s.graph id (objects.File f) (objects.File x) (need_for kind change f) serves.store.ordered reach.there (few kind change f x either)) free wide

    cut : need_for kind change f + 4 ≤ sum k.space.free → kind ≡ kinds.Normal → (c : Image) → IsPartly c s.graph id f (file_of change f) → IsCut (g.blocks d) s who request replies.Done c
    cut free normal c partly = record {
      done = refl;
      id = id;
      was = f;
      now = file_of change f;
      file = partly.file;
      changes = record { allowed = goes; named_is = reach.name; there = reach.there; normal = kind_is ∙ normal; change = change; change_is = is.change_is; after = is_file change f };
      between = partly.between;
      fits = fits_cut free partly.file partly.either;
      holds = partly.holds;
    }

    left : need_for kind change f + 4 ≤ sum k.space.free → LeavesThese g k.disk d s who request replies.Done (with_object s.graph id o)
    left free = wider g k.disk d _ _ goes_so.leaves (λ c left. by c kind change refl refl left)
      where
        by : (c : Image) (x : FileKind) (y : Change) → kind ≡ x → change ≡ y → MayLeaveFile x y s.graph id f c → (Holds c s.graph ⊎ Holds c (with_object s.graph id o)) ⊎ IsCut (g.blocks d) s who request replies.Done c
        by c kinds.Special y at same either = inl (subst (λ (z : Change). Holds c s.graph ⊎ Holds c (with_object s.graph id (changed_object z (objects.File f)))) (sym same) either)
        by c kinds.Normal (Overwrite offset bytes) at same partly = inr (cut free at c (subst (λ (z : Change). IsPartly c s.graph id f (file_of z f)) (sym same) partly))
        by c kinds.Normal (SetSize bytes) at same partly = inr (cut free at c (subst (λ (z : Change). IsPartly c s.graph id f (file_of z f)) (sym same) partly))
        by c kinds.Normal (Fill slot what) at same holds = inl (inl holds)

    abbrev after : State
    after = record s { graph = with_object s.graph id o }

    out : outcome_of k.words.seed s who request 0 ≡ (replies.Done, after)
    out = is.outcome k.words.seed s who 0 ∙ ap (λ (t : State). (replies.Done, t)) (put_is s who (target request) id (objects.File f) change reach.name reach.bare reach.there)

    more : blocks_of o ≤ blocks_of (objects.File f) + need_for kind change f
    more = subst (λ (x : Object). blocks_of x ≤ blocks_of (objects.File f) + need_for kind change f) (sym (is_file change f))
        (few kind change f (file_of change f) (itself change f (rising_of f (object_whole s.graph serves.state.graph id (objects.File f) reach.there))))

    roomy : need_for kind change f + 4 ≤ sum k.space.free → ¬ IsShortOfBlocks s who request (sum k.space.free)
    roomy free short = omega (arith, short.few, need, free)

    as_it_was : (space ≡ k.space) × OnlyReads g drafted_calls k.disk d → new ≡ record k { disk = d }
    as_it_was two = ap (λ (x : Kept). record k { disk = d; space = x }) two.0

    full : (n : Need) → (n ≡ record { free = sum k.space.free; need = need_for kind change f }) × (sum k.space.free < need_for kind change f + 4) → (space ≡ k.space) × OnlyReads g drafted_calls k.disk d → Answers g None k new s who request (replies.Full n)
    full n told two =
        let need_is : n.need ≡ need_of s who request = ap (λ (x : Need). x.need) told.0 ∙ sym need in
        let free_is : n.free ≡ sum k.space.free = ap (λ (x : Need). x.free) told.0 in
        record {
          event = stays g drafted_calls k new two.1 (as_it_was two) s serves left_sized (sized k.disk serves.store.carries.tells.honest) (events.Ask who request (replies.Full n))
              (is.full k.words.seed s who n (running g k s serves none) goes need_is (omega (arith, told.1, need_is, free_is, need)));
          still = λ all. let no : false ≡ true = all in cc;
          full = λ _. full_still g left_sized sized drafted_calls k new two.1 (as_it_was two) s who serves none refl;
          taken = λ done. let no : false ≡ true = done in cc;
          noted = λ done. let no : false ≡ true = done in cc;
          owed = ByWant goes (record { delete = is.delete; few = omega (arith, told.1, need) })
              (ap (λ (x : Need). replies.Full x) told.0 ∙ ap (λ (x : ℕ). replies.Full (record { free = sum k.space.free; need = x })) (sym need));
        }

    doubtful : (need_for kind change f + 4 ≤ sum k.space.free) ⊎ Leaves g k.disk d (λ c. Holds c s.graph) → IsInDoubt g k new s who request
    doubtful (inl free) = object_in_doubt g left_sized sized k new size refl none s after who request serves id (objects.File f) o reach.there (same_kinds change f) (need_for kind change f) more goes is.makes (is.speaks who) out
        (record { graph = refl; grants = refl; drawn = refl; stopped = refl; sweeping = refl }) (roomy free) free (left free)
    doubtful (inr still) = record {
      allowed = goes;
      drawn = refl;
      named = refl;
      grants = refl;
      leaves = wider g k.disk d _ _ still (λ c holds. record { graph = s.graph; may = Undone; fits = fits g k s serves (g.blocks d) wide; holds = holds });
    }

    takes : ChangesOnly (λ entry. of_owner id.block entry) (g.content k.disk) (final_image g d space) → ClaimsFor kind change id.block f (g.content k.disk) (final_image g d space) → TakesForRequest k.handles s who request replies.Done (g.content k.disk) (final_image g d space)
    takes only order = elim (by kind change kind_is order) [
      | inl two ↦ takes_alone k.handles s who request replies.Done (g.content k.disk) (final_image g d space) (is.alone s who ∙ beside_is ∙ ap not two.1)
          (subst (λ (cs : List MapEntry). ClaimsStay (is_set_size request) cs (owners_of s who request replies.Done) (g.content k.disk) (final_image g d space)) (sym claims_are) (subst (λ (ns : List ℕ). ClaimsStay (is_set_size request) (claims_in_file id.block change f) ns (g.content k.disk) (final_image g d space)) (sym owners_are) two.0))
      | inr last ↦ takes_last k.handles s who request replies.Done (g.content k.disk) (final_image g d space) (claims_in_file id.block change f) (id.block ∷ []) id.block claims_are owners_are root_is (is.alone s who ∙ beside_is ∙ ap not last.0) last.1
    ]
      where
        root_is : root_reached s who (target request) ≡ id.block
        root_is = rw reach.name refl

        file_is : file_seen s who (target request) ≡ f
        file_is = rw (reach.bare, reach.name, reach.there) refl

        in_place : claims_through k.handles s who (target request) change ≡ claims_in_file id.block change f
        in_place =
            ap (λ (o : Option Draft). elim o [ None ↦ claims_in_file (root_reached s who (target request)) change (file_seen s who (target request)) | Some e ↦ option_map_or (claims_in_draft change e) (drafting_of k.handles (target request)) [] ]) reach.bare
            ∙ ap (λ n. claims_in_file n change (file_seen s who (target request))) root_is ∙ ap (claims_in_file id.block change) file_is

        claims_are : claims_for k.handles s who request replies.Done ≡ claims_in_file id.block change f
        claims_are = is.claims k.handles s who replies.Done ∙ in_place

        owners_are : owners_of s who request replies.Done ≡ id.block ∷ []
        owners_are = rw (is.makes, reach.name) refl

        beside_is : is_beside s who (target request) ≡ not (is_normal (objects.File f))
        beside_is = rw (reach.bare, reach.name, reach.there) refl

        normal_is : f.kind ≡ kinds.Normal → is_normal (objects.File f) ≡ true
        normal_is at = ap (λ (x : FileKind). elim x [ kinds.Normal ↦ true | kinds.Special ↦ false ]) at

        special_is : f.kind ≡ kinds.Special → is_normal (objects.File f) ≡ false
        special_is at = ap (λ (x : FileKind). elim x [ kinds.Normal ↦ true | kinds.Special ↦ false ]) at

        so : (y : Change) (x : FileKind) → f.kind ≡ x → claims_in_file id.block y f ≡ elim x [ kinds.Normal ↦ claims_in_place id.block y f | kinds.Special ↦ claims_beside id.block y f ]
        so y x at = ap (λ (z : FileKind). elim z [ kinds.Normal ↦ claims_in_place id.block y f | kinds.Special ↦ claims_beside id.block y f ]) at

        by : (x : FileKind) (y : Change) → f.kind ≡ x → ClaimsFor x y id.block f (g.content k.disk) (final_image g d space) → (ClaimsStay (is_set_size request) (claims_in_file id.block y f) (id.block ∷ []) (g.content k.disk) (final_image g d space) × (is_normal (objects.File f) ≡ true)) ⊎ (is_normal (objects.File f) ≡ false) × Commits (claims_in_file id.block y f) (id.block ∷ []) id.block (g.content k.disk) (final_image g d space)
        by kinds.Normal (Overwrite offset bytes) at claimed = inl (subst (λ (cs : List MapEntry). ClaimsStay (is_set_size request) cs (id.block ∷ []) (g.content k.disk) (final_image g d space)) (sym (so (Overwrite offset bytes) kinds.Normal at)) (claims_all (plain.claims_of id.block f offset (length bytes)) (id.block ∷ []) (g.content k.disk) (final_image g d space) claimed), normal_is at)
        by kinds.Normal (SetSize n) at none = inl (subst (λ (cs : List MapEntry). ClaimsStay (is_set_size request) cs (id.block ∷ []) (g.content k.disk) (final_image g d space)) (sym (so (SetSize n) kinds.Normal at)) (claims_only (id.block ∷ []) (g.content k.disk) (final_image g d space) only), normal_is at)
        by kinds.Normal (Fill slot what) at none = inl (subst (λ (cs : List MapEntry). ClaimsStay (is_set_size request) cs (id.block ∷ []) (g.content k.disk) (final_image g d space)) (sym (so (Fill slot what) kinds.Normal at)) (claims_only (id.block ∷ []) (g.content k.disk) (final_image g d space) only), normal_is at)
        by kinds.Special y at beside = inr (special_is at, subst (λ (cs : List MapEntry). Commits cs (id.block ∷ []) id.block (g.content k.disk) (final_image g d space)) (sym (so y kinds.Special at)) (claims_put id.block (claims_beside id.block y f) (g.content k.disk) (final_image g d space) beside))

    -- a special file's commit is noted; a normal file's change is none
    noted : (x : FileKind) → kind ≡ x → LeavesFileCommit x id.block space.left → commits s who request ≡ true → IsSome space.left
    noted kinds.Special at left some = subst (λ (w : Option LeftCommit). IsSome w) (sym left.1.is) refl
    noted kinds.Normal at left some =
        let none_of : is_beside s who (target request) ≡ false = rw (reach.bare, reach.name, reach.there, kind_is ∙ at) refl in
        let no : true ≡ false = sym some ∙ is.commits_is s who ∙ none_of in cc

    did_so : (r : Result (Unit {0}) Refused) → r ≡ result → EndsSo g None k new s who request (done_or r)
    did_so (Ok u) same =
        let done = rw (← same) at goes_so.done in
        let free = rw (← same) at goes_so.room in
        object_did g left_sized sized k new size refl none s after who request serves id (objects.File f) o reach.there (same_kinds change f) (need_for kind change f) more goes is.makes (is.speaks who) out
        (record { graph = refl; grants = refl; drawn = refl; stopped = refl; sweeping = refl }) (roomy free) free (left free) done.store done.only
        (takes done.only (rw (← same) at goes_so.order)) (noted kind refl (rw (← same) at changes.ends.left))
    did_so (Err (refusals.Full n)) same = let told = (rw (← same) at goes_so.full) refl in full n (same_need n _ told.0, told.1) ((rw (← same) at changes.ends.untried) refl)
    did_so (Err (refusals.Disk false)) same = let two = (rw (← same) at changes.ends.untried) refl in disk_failed g left_sized sized drafted_calls k new two.1 (as_it_was two) s who serves none request
    did_so (Err (refusals.Disk true)) same = doubtful ((rw (← same) at goes_so.begun) refl)
    did_so (Err (refusals.Damaged damage)) same = let no : true ≡ false = rw (← same) at goes_so.sound in cc
    did_so (Err refusals.Memory) same = let two = (rw (← same) at changes.ends.untried) refl in memory g left_sized sized drafted_calls k new two.1 (as_it_was two) s who serves none request

    pub did : EndsSo g None k new s who request (done_or result)
    did = did_so result refl

-- a call that read the size first, or nothing; that carried out what was left; and that read the root again, or didn't
module _ {D : Type 0} (g : Ghosts D) (left_sized : (d : D) (t : ℕ) (c : Image) → g.left_since d t c → length c ≡ g.blocks d) (sized : (d : D) → IsTrue (g.honest d) → length (g.content d) ≡ g.blocks d)
    (k : Kernel D) (n : ℕ) (d0 : D) (first : OnlyReads g n k.disk d0) (d1 : D) (space1 : Kept) (tried : Bool) (fin : FinishesLeft g d0 d1 k.space space1 (Ok tried)) (m : ℕ) (d2 : D) (again : OnlyReads g m d1 d2)
    (id : Puid) (request : Request) (who : ℕ) (reaches : ReachesAll g objects.File k who request id) where
  abbrev before : Kernel D
  before = record k { disk = d0 }

  abbrev mid : Kernel D
  mid = record k { disk = d1; space = space1 }

  abbrev read : Kernel D
  read = record k { disk = d2; space = space1 }

  serves_before : (s : State) → ServesIs g k s → ServesIs g before s
  serves_before s serves = serves_on g n k before first refl s serves

  serves_there : (s : State) → ServesIs g k s → CoreServes g mid s
  serves_there s serves = serves_mid g before d1 space1 tried fin s (serves_before s serves)

  -- what was done then is what the call did
  module _ (new : Kernel D) (result : Result Reply Refused) (size : g.blocks new.disk ≡ g.blocks d1) (decides : IfOk result (λ reply. leaves_all reply ≡ false)) (never : result ≢ Err refusals.Memory) where
    ends_joined : (s : State) → ServesIs g k s → k.stop ≡ None → refusal_of s who request ≡ None → EndsSo g None mid new s who request result → EndsSo g k.space.left k new s who request (since tried result)
    ends_joined s serves none goes is = ends g n k d0 new first request k.space.left s who (since tried result)
        (ends_since g before d1 space1 tried fin left_sized sized new s who request (serves_before s serves) none goes result (λ some. decides) (λ some. never) size is)

    went_joined : RequestWent g mid new request result → RequestWent g k new request (since tried result)
    went_joined went = went_then g n k d0 new first request (since tried result) (went_since g before d1 space1 tried fin new request result went)

  -- the root couldn't be read again
  pub tries_unread : (e : Refused) → changes_disk k request ≡ true → ((f : File) → KnowsObject g d1 id.block (objects.File f) → has_met_damage e ≡ false) → IsCalmCause g id.block d1 d2 e → e ≢ refusals.Memory
      → ((s : State) → ServesIs g k s → refusal_of s who request ≡ None) → Tries g k read who request (Err (refused_since tried e))
  tries_unread e changes sound cause never goes = record {
    keeps = λ none. absurd_keeps changes none;
    ends = λ s serves none.
        let r = reaches.0 s serves in
        let now = serves_there s serves in
        let knows = knows_that g mid s (serves_is g mid s now) id (objects.File r.0) id.block (ap (λ (w : Option LeftCommit). block_shown w id.block) (sym fin.done)) r.1.there in
        ends_joined read (Err e) again.same.size tt other s serves none (goes s serves) (failing g left_sized sized m mid read again refl s who now none _ e cause (sound r.0 knows) request);
    went = went_joined read (Err e) again.same.size tt other (went_so g mid d2 space1 k.handles again.same.size again.faults again.images.later request (Err e) tt
        (failing_cause g mid read _ e cause request (λ damage why. told_of_read g mid read request id.block damage (inl reaches.1) why)));
  }
    where
      other : ◌≢◌ {A = Result Reply Refused} (Err e) (Err refusals.Memory)
      other = λ is. never (let same : e ≡ refusals.Memory = cc in same)

  -- changed from this root, of which a pointer may lead past the disk as it is then
  module _ (d : D) (space : Kept) (kind : FileKind) (change : Change) (is : IsChanging request change) (result : Result (Unit {0}) Refused) (top : Top) (at : top.block ≡ id.block) (end : EndsChange g top kind 4 change d2 d space1 space result) where
    abbrev changed_to : Kernel D
    changed_to = record k { disk = d; space = space }

    wants : (need : Need) → result ≡ Err (refusals.Full need) → IsWant (Some request) (sum space1.free) need
    wants need want = let why = rw want at end.refused in let kept = ((rw want at end.untried) refl).0 in (is.delete, why.0 ∙ ap (λ (x : Kept). sum x.free) kept, why.1)

    -- where nothing was left the call only read before
    went_bare : k.space.left ≡ None → ((size : ℕ) → top.IsFar size → (disk_top g id.block k.disk).IsFar size) → RequestWent g k changed_to request (done_or result)
    went_bare nothing far =
        let same = fin.none nothing in
        let all = reads_then g k.disk d0 d2 n m (n + m) first (subst (λ (x : D). OnlyReads g m x d2) same.0 again) (omega arith) in
        went_done g k d space k.handles (end.calls.same.size ∙ all.same.size) (omega (arith, all.faults, end.calls.faults)) (omega (arith, all.images.later, end.calls.later)) request result
        (λ b was. stopped_after_reads g k.disk d2 d (n + m) b all (rw was at end.refused))
        (λ damage met. told_of_file g (record k { disk = d2 }) changed_to (Some request) id.block (inl reaches.1) damage end.calls.same.size top at (IsDamageTold g k changed_to (Some request) damage) (told_then g k changed_to (n + m) d2 (Some request) damage all)
        (λ code block past. far_on_disk g k changed_to (Some request) id.block (inl reaches.1) damage (end.calls.same.size ∙ all.same.size) code block (far (g.blocks k.disk) (subst top.IsFar all.same.size past))) kind change is.wants (λ set. inr (is.sets ∙ set, refl)) (rw met at end.refused))
        (λ need want. subst (λ (x : Kept). IsWant (Some request) (sum x.free) need) same.1 (wants need want))

    went_mid : ((size : ℕ) → top.IsFar size → (disk_top g id.block d1).IsFar size) → RequestWent g mid changed_to request (done_or result)
    went_mid far = went_done g mid d space k.handles (end.calls.same.size ∙ again.same.size) (omega (arith, again.faults, end.calls.faults)) (omega (arith, again.images.later, end.calls.later)) request result
        (λ b was. stopped_after_reads g d1 d2 d m b again (rw was at end.refused))
        (λ damage met. told_of_file g read changed_to (Some request) id.block (inl reaches.1) damage end.calls.same.size top at (IsDamageTold g mid changed_to (Some request) damage) (told_then g mid changed_to m d2 (Some request) damage again)
        (λ code block past. far_on_disk g mid changed_to (Some request) id.block (inl reaches.1) damage (end.calls.same.size ∙ again.same.size) code block (far (g.blocks d1) (subst top.IsFar again.same.size past))) kind change is.wants (λ set. inr (is.sets ∙ set, refl)) (rw met at end.refused))
        wants

    pub tries_filed : changes_disk k request ≡ true → (Tells g k.disk → Tells g d1 → ChangesFile g id.block kind 4 change d2 d space1 space result) → (tried ≡ false → (size : ℕ) → top.IsFar size → (disk_top g id.block k.disk).IsFar size) → (tried ≡ true → (size : ℕ) → top.IsFar size → (disk_top g id.block d1).IsFar size)
        → (kind ≡ kinds.Special → result ≢ Err refusals.Memory) → ((s : State) (f : File) → ServesIs g k s → Reaches s who request id (objects.File f) → (drafts_of_handles k.handles s.grants) id ≡ None → (f.kind ≡ kind) × IsInside change (objects.File f) × (refusal_of s who request ≡ None))
        → Tries g k changed_to who request (since tried (done_or result))
    tries_filed writes changes far_bare far_mid special goes = record {
      keeps = λ none. absurd_keeps writes none;
      ends = λ s serves none.
          let r = reaches.0 s serves in
          let may = goes s r.0 serves r.1 r.2 in
          let now = serves_there s serves in
          ends_joined changed_to (done_or result) size (done_decides result) never s serves none may.2
          (ends g m mid d2 changed_to again request None s who (done_or result)
          (did g left_sized sized read d space id kind change request is result (changes (store_tells g s.graph (drafts_of_handles k.handles s.grants) k.disk k.space serves.store) now.store.carries.tells) s who r.0 (serves_on g m mid read again refl s now) none r.1 r.2 may.0 may.1 may.2));
      went = by k.space.left refl;
    }
      where
        size : g.blocks d ≡ g.blocks d1
        size = end.calls.same.size ∙ again.same.size

        never : done_or result ≢ Err refusals.Memory
        never = done_never result (λ wanted. special (rw wanted at end.refused) wanted)

        by : (w : Option LeftCommit) → k.space.left ≡ w → RequestWent g k changed_to request (since tried (done_or result))
        by None nothing =
            let bare : tried ≡ false = fin.told ∙ ap is_some nothing in
            subst (λ (b : Bool). RequestWent g k changed_to request (since b (done_or result))) (sym bare) (subst (RequestWent g k changed_to request) (sym (since_none (done_or result))) (went_bare nothing (far_bare bare)))
        by (Some l) left = went_joined changed_to (done_or result) size (done_decides result) never (went_mid (far_mid (fin.told ∙ ap is_some left)))

-- the root that is there: where nothing was left it is that which was read
pub root_there : (tried : Bool) (a b : Image) (at seen : ℕ) (was root : Root) → (tried ≡ true → IsRootAt b at root) → (tried ≡ false → (root ≡ was) × (b ≡ a) × (seen ≡ at)) → IsRootAt a seen was → IsRootAt b at root
root_there true a b at seen was root anew same is = anew refl
root_there false a b at seen was root anew same is = let three = same refl in rw (three.0, three.1, sym three.2) is
