-- Requests through a grant with a draft.
use Rattle.std.specs.Prelude.{◌≡◌, ◌≢◌, ℕ, ◌+◌, ◌*◌, ◌/◌, ◌<◌, ◌≤◌, Bool, true, false, List}
use Rattle.std.specs.Prelude.{length, sum, Result, Option, Some, None, IfErr, IfOk, IsSome, OnOk, ◌∷◌, [], option_map}
use Rattle.cfs_base.specs.Calls.{MakesAtMost, OnlyReads}
use Rattle.cfs_base.specs.declared.disk.Disk.{Ghosts}
use Rattle.cfs_base.specs.declared.identifier.Tuid.{Tuid}
use Rattle.cfs_base.specs.declared.refusal.Refused.{Refused}
use Rattle.cfs_base.specs.declared.refusal.Refused.TheVariants as refusals
use Rattle.cfs_base.specs.declared.refusal.Trouble.{Trouble}
use Rattle.cfs_base.specs.declared.refusal.Trouble.TheVariants as troubles
use Rattle.cyl_alloc.specs.Left.{LeftCommit}
use Rattle.cyl_alloc.specs.Space.{Kept}
use Rattle.open_table.specs.declared.grant.OpenGrant.{OpenGrant}
use Rattle.open_table.specs.Grants.{session_grant}
use Rattle.special_files.specs.Becomes.{DraftBecomes}
use Rattle.special_files.specs.Committing.{AbortEnds, CommitEnds, IsNoted, draft_top}
use Rattle.special_files.specs.Drafting.{Drafting, need_beside}
use Rattle.special_files.specs.Fills.{is_empty_already}
use Rattle.special_files.specs.Limits.{commit_calls, commit_tries, resize_calls, resize_tries}
use Rattle.special_files.specs.Refusal.{IsDraftRefusal, IsDraftTrouble, has_met_damage, is_full_refusal, top_of}
use Rattle.special_files.specs.View.{DraftSeen, DraftView, GoesHolding}
use Rattle.puid_space.specs.Directory.{directory_kind}
use Rattle.puid_space.specs.Kinds.{object_kind}
use Rattle.cfs_base.specs.declared.refusal.Need.{Need}
use Rattle.ufs_model.specs.declared.asked.Event.TheVariants as events
use Rattle.ufs_model.specs.declared.asked.Ref.TheVariants.{Through}
use Rattle.ufs_model.specs.declared.asked.Reply.{Reply}
use Rattle.ufs_model.specs.declared.asked.Reply.TheVariants as replies
use Rattle.ufs_model.specs.declared.asked.Request.{Request}
use Rattle.ufs_model.specs.declared.asked.Wanted.{Wanted}
use Rattle.ufs_model.specs.declared.change.Change.{Change}
use Rattle.ufs_model.specs.declared.change.Change.TheVariants.{Fill, Overwrite, SetSize}
use Rattle.ufs_model.specs.declared.object.Draft.{Draft}
use Rattle.ufs_model.specs.declared.object.File.{File}
use Rattle.ufs_model.specs.declared.object.Index.{Index}
use Rattle.ufs_model.specs.declared.object.Object.{Object}
use Rattle.ufs_model.specs.declared.object.Object.TheVariants as objects
use Rattle.ufs_model.specs.Limits.{reserve}
use Rattle.ufs_model.specs.Plain.{IsPlainReply, is_id}
use Rattle.ufs_model.specs.Need.{change_need, need_of}
use Rattle.ufs_model.specs.Next.{is_direct_delete, next}
use Rattle.ufs_model.specs.Outcome.{creates, outcome_of}
use Rattle.ufs_model.specs.Refusal.{refusal_of, target}
use Rattle.ufs_model.specs.State.{State, changed_draft, draft_of, grant_of, is_running, with_draft}
use Rattle.ufs_model.specs.declared.collection.Collection.{Collection}
use Rattle.ufs_model.specs.declared.object.Grant as grants
use Rattle.open_table.specs.Model.{shown, table_of}
use Rattle.std.specs.Option.{option_map_or}
use Rattle.ufs_model.specs.WellFormed.{IsSpeakable}
use Rattle.cfs_core.specs.Kernel.{Kernel, Handle, grants_in}
use Rattle.cfs_core.specs.Ways.{unfit_of}
use Rattle.cfs_core.specs.Calls.{EndsSo, RequestWent, looked}
use Rattle.cfs_core.specs.Looks.{IsDraftCause}
use Rattle.cfs_core.specs.Handles.{drafting_at}
use Rattle.cfs_core.specs.Claimed.{ClaimsStay, claims_for, claims_in_draft, commits_alone, is_set_size}
use Rattle.file_ops.specs.Changes.{is_resize}
use Rattle.cfs_core.specs.Commits.{commits}
use Rattle.cfs_core.specs.StandsFor.{ServesWith, sweeps_now}

-- the session has the grant, and it has a draft of an object of the kind that is wanted
pub record IsDrafted {D : Type 0} (k : Kernel D) (wants : Wanted) (who : ℕ) (t : Tuid) : Type 0 where
  pub grant : OpenGrant
  pub found : session_grant (grants_in k.handles) who t ≡ Some grant
  pub drafting : Drafting
  pub has : drafting_at k.handles t.draw ≡ Some drafting
  pub fit : unfit_of wants (directory_kind k.directory.named grant.id) ≡ None

-- there is no draft, or one of an object of a kind that isn't wanted
abbrev pub HasNoneOf : Wanted → Option Draft → Type 0
HasNoneOf wants None = Unit {0}
HasNoneOf wants (Some d) = ¬ (unfit_of wants (Some (object_kind d.object)) ≡ None)

-- A change of a file, or of a slot of an index that isn't an empty slot to be emptied.
abbrev pub IsChangeOf : Change → Object → Type 0
IsChangeOf (Fill slot what) o = (i : Index) × (o ≡ objects.Index i) × (is_empty_already i slot what ≡ false)
IsChangeOf (Overwrite offset bytes) o = (f : File) × (o ≡ objects.File f)
IsChangeOf (SetSize size) o = (f : File) × (o ≡ objects.File f)

-- the store has this draft, which has its shadow root, and this is a change of it
pub record KnowsDraft {D : Type 0} (g : Ghosts D) (change : Change) (disk : D) (space : Kept)
    (was : Drafting) : Type 0 where
  pub view : DraftView g disk space was
  pub shadow : (n : ℕ) × (was.shadow ≡ Some n)
  pub of_it : IsChangeOf change view.draft.object

-- The draft is the model's with this change. Its blocks were taken in their order, and as many as it needs were Free
-- beside the last four.
pub record IsAltered {D : Type 0} {g : Ghosts D} {old : D} {before : Kept} {was : Drafting}
    (v : DraftView g old before was) (change : Change) (new : D) (after : Kept) (now : Drafting) : Type 0 where
  pub becomes : DraftBecomes g v.graph v.ds v.id (changed_draft change v.draft) old new after now
  pub order : ClaimsStay (is_resize change) (claims_in_draft change v.draft was) (v.id.block ∷ []) (g.content old)
      (g.content new)
  pub room : need_beside change v.draft was + reserve ≤ sum before.free

-- how such a change of it ends, which is Full if fewer are Free
pub record AltersDraft {D : Type 0} {g : Ghosts D} {old : D} {before : Kept} {was : Drafting}
    (v : DraftView g old before was) (change : Change) (new : D) (after : Kept) (now : Drafting)
    (result : Result (Unit {0}) Refused) : Type 0 where
  pub goes : GoesHolding g v.graph (IsAltered v change new after now) old new result
  pub full : IfErr result (λ e. is_full_refusal e ≡ true
      → (e ≡ refusals.Full (record { free = sum before.free; need = need_beside change v.draft was }))
      × (sum before.free < need_beside change v.draft was + reserve))

-- it is still its object's draft, with its shadow root, and makes the same object
pub record StaysOf (was now : Drafting) : Type 0 where
  pub at : now.at ≡ was.at
  pub shadow : now.shadow ≡ was.shadow
  pub created : now.created ≡ was.created

-- For any draft, on any disk: if it is Full, or a call failed before anything was tried, all is as it was.
pub record ChangesDraft {D : Type 0} (g : Ghosts D) (change : Change) (old new : D) (before after : Kept)
    (was now : Drafting)
    (result : Result (Unit {0}) Refused) : Type 0 where
  pub alters : (k : KnowsDraft g change old before was) → AltersDraft k.view change new after now result
  pub untried : IfErr result (λ e. e ≡ refusals.Disk false
      → OnlyReads g resize_calls old new × (after ≡ before) × (now ≡ was))
  pub spared : IfErr result (λ e. is_full_refusal e ≡ true
      → OnlyReads g resize_calls old new × (after ≡ before) × (now ≡ was))
  pub refused : IfErr result (IsDraftRefusal g (top_of was) reserve old new after)
  pub stays : StaysOf was now
  pub cylinders : length after.free ≡ length before.free
  pub left : after.left ≡ before.left
  pub calls : MakesAtMost g resize_calls resize_tries old new

-- ---- a request through a grant with a draft

-- The request changes the draft of this grant so. It may change what the collection remembers, but not whether a
-- sweep goes on.
pub record IsAltering (s : State) (who : ℕ) (t : Tuid) (request : Request) (change : Change) : Type 0 where
  pub memory : Collection
  pub sweeps : sweeps_now memory ≡ sweeps_now s.collection
  pub outcome : (seed b : ℕ) (x : grants.Grant) (d : Draft) → grant_of s who t ≡ Some x → x.draft ≡ Some d
      → outcome_of seed s who request b ≡ (
        replies.Done,
        record s {
          grants = with_draft who t (changed_draft change d) s.grants;
          collection = memory;
        },
      )
  pub need : need_of s who request ≡ change_need s who (Through t) change
  pub makes : creates request ≡ false
  pub to : target request ≡ Through t
  pub claims : (handles : List Handle) (reply : Reply) (d : Draft) → draft_of s who (Through t) ≡ Some d
      → claims_for handles s who request reply
      ≡ option_map_or (claims_in_draft change d) (drafting_at handles t.draw) []
  pub resizes : is_set_size request ≡ is_resize change
  pub alone : (d : Draft) → draft_of s who (Through t) ≡ Some d → commits_alone s who request ≡ false
  pub commits_is : (d : Draft) → draft_of s who (Through t) ≡ Some d → commits s who request ≡ false
  pub delete : is_direct_delete request ≡ false
  pub full : (seed : ℕ) (n : Need) → is_running s ≡ true → refusal_of s who request ≡ None
      → n.need ≡ need_of s who request → n.free < n.need + reserve
      → next seed s (events.Ask who request (replies.Full n)) ≡ Some s
  pub speaks : IsSpeakable (events.Ask who request replies.Done)

-- it is such a request, of the kind of object that the draft is of, and isn't refused
pub record AltersSo (s : State) (who : ℕ) (t : Tuid) (change : Change) (request : Request) : Type 0 where
  pub alters : IsAltering s who t request change
  pub of_it : (d : Draft) → draft_of s who (Through t) ≡ Some d → IsChangeOf change d.object
  pub goes : refusal_of s who request ≡ None

-- a call that tries to do what is asked, if it may be done in the state
pub record TriesWhere {D : Type 0} (g : Ghosts D) (commit : Option LeftCommit) (old new : Kernel D) (who : ℕ)
    (request : Request) (may : State → Type 0) (result : Result Reply Refused) : Type 0 where
  pub ends : (s : State) → ServesWith g old s commit → old.stop ≡ None → may s
      → EndsSo g commit old new s who request result
  pub went : RequestWent g old new request result

-- to make such a change through a grant
abbrev pub TriesThroughWith : {D : Type 0} → Ghosts D → Option LeftCommit → (old new : Kernel D) → ℕ → Tuid → Change
    → Request → Result Reply Refused → Type 0
TriesThroughWith g commit old new who t change request result =
    TriesWhere g commit old new who request (λ s. AltersSo s who t change request) result

-- the session has the grant, as the state has it
pub record HasGrant {D : Type 0} (k : Kernel D) (who : ℕ) (t : Tuid) : Type 0 where
  pub found : IsSome (session_grant (grants_in k.handles) who t)
  pub law : (s : State) → session_grant (table_of s.grants) who t ≡ option_map shown (grant_of s who t)

-- ---- an object made in a draft

-- what a slot of a draft holds, as a reply
pub record LooksInDraft {D : Type 0} (g : Ghosts D) (slot : ℕ) (was : Drafting) (old new : D)
    (result : Result Reply Refused) : Type 0 where
  pub exact : (v : DraftSeen g old was) (i : Index) → v.draft.object ≡ objects.Index i
      → length i.slots ≡ was.root.size / 8 → IfOk result (λ reply. reply ≡ looked i slot)
  pub few : IfOk result (λ reply. is_id reply ≡ true → 8 * slot + 8 ≤ was.root.size)
  pub plain : IfOk result IsPlainReply
  pub sound : DraftSeen g old was → IfErr result (λ e. has_met_damage e ≡ false)
  pub cause : IfErr result (IsDraftCause g (top_of was) old new)
  pub reads : OnlyReads g 2 old new

-- the request makes an object in a draft of an index, and isn't refused
pub record MakesSo (s : State) (who : ℕ) (t : Tuid) (request : Request) : Type 0 where
  pub to : target request ≡ Through t
  pub index : (d : Draft) → draft_of s who (Through t) ≡ Some d → (i : Index) × (d.object ≡ objects.Index i)
  pub goes : refusal_of s who request ≡ None

-- a call that tries to make such an object
abbrev pub TriesMakingWith : {D : Type 0} → Ghosts D → Option LeftCommit → (old new : Kernel D) → ℕ → Tuid → Request
    → Result Reply Refused → Type 0
TriesMakingWith g commit old new who t request result =
    TriesWhere g commit old new who request (λ s. MakesSo s who t request) result

-- ---- how a draft ends

-- it becomes its object, or is given up
abbrev pub DraftEnds : {D : Type 0} {g : Ghosts D} {old : D} {before : Kept} {was : Drafting}
    → DraftView g old before was → (commit : Bool) → D → Kept → Result (Unit {0}) Trouble → Type 0
DraftEnds {g = g} {old = old} v true new after result =
    CommitEnds g v.graph v.ds v.id v.draft.object None old new after result
DraftEnds {g = g} {old = old} {was = was} v false new after result =
    AbortEnds g v.graph v.ds v.id was.created old new after result

abbrev pub LeavesDraftCommit : (commit : Bool) → ℕ → Option LeftCommit → Type 0
LeavesDraftCommit true at left = (l : LeftCommit) × IsNoted at left l
LeavesDraftCommit false at left = left ≡ None

pub record EndsDraft {D : Type 0} (g : Ghosts D) (commit : Bool) (was : Drafting) (old new : D) (before after : Kept)
    (result : Result (Unit {0}) Trouble) : Type 0 where
  pub ends : (v : DraftView g old before was) → DraftEnds v commit new after result
  -- a call that fails had tried something
  pub tried : IfErr result (λ t. t ≢ troubles.Disk false)
  pub refused : IfErr result (IsDraftTrouble g (draft_top was) old new after)
  pub cylinders : length after.free ≡ length before.free
  -- what is left of the commit is unfinished then, and an abort leaves nothing
  pub left : OnOk result (LeavesDraftCommit commit was.at after.left)
  pub calls : MakesAtMost g commit_calls commit_tries old new
