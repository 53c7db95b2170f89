-- What is asked of a file through a grant with a draft, whatever is left of a commit.
use Rattle.std.proofs.Common.{◌≡◌, inl, inr, ℕ, List, length, Bool, true, false, Option, Some, None, Result, Ok, Err, IsTrue, refl, sym, ◌∙◌, ap, subst, nat_lt, IfErr, IfOk}
use Rattle.std.specs.Prelude.{find, option_and_then}
use Rattle.cfs_base.proofs.Went.{reads_none}
use Rattle.cfs_core.proofs.Words.{Draft, draft_of, Drafting, File, file_to_leaves, Ghosts, Grant, grant_of, HasDraft, here, Image, has_met_damage, is_draft_of, is_range, is_reading, IsPlainReply, Object, object_at, OnlyReads, opened_as, refusal_of, Refused, Reply, State, the_draft, Through, Tuid, AFile}
use Rattle.special_files.specs.Refusal.{top_of}
use Rattle.cyl_alloc.specs.Left.{LeftCommit}
use Rattle.intentions.specs.Left.{coming}
use Rattle.ufs_model.specs.Limits.{most_bytes}
use Rattle.ufs_model.specs.declared.asked.Reply.TheVariants as replies
use Rattle.ufs_model.specs.declared.asked.Request.TheVariants as asks
use Rattle.ufs_model.specs.declared.object.Object.TheVariants as objects
use Rattle.cfs_core.specs.Calls.{Tries}
use Rattle.cfs_core.specs.Drafts.{IsDrafted}
use Rattle.cfs_core.specs.Kernel.{Kernel, Handle}
use Rattle.cfs_core.specs.Looks.{IsDraftCause, content_reply, measured}
use Rattle.cfs_core.specs.Handles.{drafting_at, is_drawn}
use Rattle.cfs_core.specs.StandsFor.{HasDraftOf, ServesIs, ServesWith, drafts_of_handles}
use Rattle.cfs_core.proofs.Answering.{seen as told, tries_so}
use Rattle.cfs_core.proofs.Fitting.{fit_there, held, tries_unseen}
use Rattle.cfs_core.proofs.Drafted.{drawn, has_draft, place_of, written}
use Rattle.cfs_core.proofs.Views.{FindsGrant, IsHeld, draft_seen, find_drawn, open_in, so, the_one}
use Rattle.special_files.specs.View.{DraftSeen}
use Rattle.cfs_core.proofs.Refusing.{IsSeen, file_there}
use Rattle.cfs_core.proofs.Serving.{account}

-- ---- kinds

-- the draft of a file is one
file_in : (f : File) (d : Object) → is_draft_of (objects.File f) d ≡ true → (e : File) × (d ≡ objects.File e)
file_in f (objects.File e) is = (e, refl)
file_in f (objects.Index i) is = cc

-- ---- a grant with a draft, as the core has it

module _ {D : Type 0} {w : Option LeftCommit} (g : Ghosts D) (k : Kernel D) (s : State) (serves : ServesWith g k s w) (who : ℕ) (t : Tuid) (was : Drafting) (held : IsHeld g k s who t was) where
  pub written_in : is_reading held.handle.grant.mode ≡ false
  written_in = written who t k.handles s.grants held.handle held.x held.place serves.drafts was held.before held.drafting held.draft_was

  pub writes_by : is_reading held.x.mode ≡ false
  writes_by = ap is_reading (sym (ap (λ e. e.mode) held.place.here)) ∙ written_in

  pub had : HasDraft (coming (g.content k.disk) w) held.handle.grant.id (opened_as was held.before)
  had = the_draft (coming (g.content k.disk) w) (drafts_of_handles k.handles s.grants) held.handle.grant.id was held.before (open_in g k s serves who t was held) ((account g k s serves).drafts held.handle.grant.id held.object held.there)

-- ---- a draft of a file

module _ {D : Type 0} {w : Option LeftCommit} (g : Ghosts D) (who : ℕ) (t : Tuid) (law : FindsGrant who t) (k : Kernel D) (drafted : IsDrafted k AFile who t) (s : State) (serves : ServesWith g k s w) where
  abbrev was : Drafting
  was = drafted.drafting

  abbrev it : IsHeld g k s who t was
  it = held g who t law k drafted s serves

  own : (f : File) × (it.object ≡ objects.File f)
  own = file_there it.object (fit_there g who t law k drafted s serves)

  there : object_at s.graph it.x.id ≡ Some (objects.File own.0)
  there = it.there_x ∙ ap (λ (y : Object). Some y) own.1

  pub file : (f : File) × (it.before.object ≡ objects.File f)
  file = file_in own.0 it.before.object (subst (λ (o : Object). is_draft_of o it.before.object ≡ true) own.1 (so g k s serves who t was it))

  -- its size is in the root that the object is to get
  pub size_is : was.root.size ≡ length file.0.bytes
  size_is = sym (file_to_leaves was.root _ file.0 ((had g k s serves who t was it).tree.object ∙ file.1)).size

  pub of_file : (d : Draft) → draft_of s who (Through t) ≡ Some d → (f : File) × (d.object ≡ objects.File f)
  of_file d has = (file.0, ap (λ (e : Draft). e.object) (the_one it d has) ∙ file.1)

  -- ---- what is asked of it

  pub size_told : (seed : ℕ) → IsSeen seed s who (asks.Size (Through t)) (measured file.0)
  size_told seed = inr (rw (it.found, there) refl, λ b. rw (it.found, it.draft_was, file.1) refl)

  pub read_told : (seed offset count : ℕ) → IsSeen seed s who (asks.Read (Through t) offset count) (content_reply file.0 offset count)
  read_told seed offset count = at (is_range (length file.0.bytes) offset count) refl
    where
      at : (b : Bool) → is_range (length file.0.bytes) offset count ≡ b → IsSeen seed s who (asks.Read (Through t) offset count) (content_reply file.0 offset count)
      at true is = inr (rw (it.found, there, it.draft_was, file.1, is) refl, λ b. rw (it.found, it.draft_was, file.1, is) refl)
      at false is = inl (rw (it.found, there, it.draft_was, file.1, is) refl)

  writes : is_reading it.x.mode ≡ false
  writes = writes_by g k s serves who t was it

  ranged : (offset count : ℕ) (b : Bool) → is_range was.root.size offset count ≡ b → is_range (length file.0.bytes) offset count ≡ b
  ranged offset count b is = ap (λ (n : ℕ). is_range n offset count) (sym size_is) ∙ is

  pub write_goes : (offset : ℕ) (bytes : List ℕ) → is_range was.root.size offset (length bytes) ≡ true → refusal_of s who (asks.Write (Through t) offset bytes) ≡ None
  write_goes offset bytes is = rw (it.found, there, writes, it.draft_was, file.1, ranged offset (length bytes) true is) refl

  pub write_range : (offset : ℕ) (bytes : List ℕ) → is_range was.root.size offset (length bytes) ≡ false → refusal_of s who (asks.Write (Through t) offset bytes) ≡ Some replies.Range
  write_range offset bytes is = rw (it.found, there, writes, it.draft_was, file.1, ranged offset (length bytes) false is) refl

  pub resize_goes : (size : ℕ) → nat_lt most_bytes size ≡ false → refusal_of s who (asks.Resize (Through t) size) ≡ None
  resize_goes size is = rw (it.found, there, writes, is) refl

  pub resize_range : (size : ℕ) → nat_lt most_bytes size ≡ true → refusal_of s who (asks.Resize (Through t) size) ≡ Some replies.Range
  resize_range size is = rw (it.found, there, writes, is) refl

-- ---- a grant without a draft

pub undrafted : {D : Type 0} (g : Ghosts D) (k : Kernel D) (s : State) → ServesIs g k s → (who : ℕ) (t : Tuid) → drafting_at k.handles t.draw ≡ None → draft_of s who (Through t) ≡ None
undrafted g k s serves who t none = at (grant_of s who t) refl
  where
    at : (o : Option Grant) → grant_of s who t ≡ o → option_and_then (λ (x : Grant). x.draft) o ≡ None
    at None found = refl
    at (Some x) found =
        let two = place_of who t k.handles s.grants x serves.front.grants serves.state.rising found in
        let is_none : two.0.drafting ≡ None = sym (ap (option_and_then (λ (e : Handle). e.drafting)) (ap (find (is_drawn t.draw)) two.1.handles_are ∙ find_drawn t.draw two.0 two.1.ss2 two.1.ss1 (drawn who t k.handles s.grants two.0 x two.1) two.1.none_first)) ∙ none in
        bare_handle two.0 x.draft (subst (λ (o : Option Drafting). HasDraftOf (drafts_of_handles k.handles s.grants) two.0 o x.draft) is_none (has_draft who t k.handles s.grants two.0 x two.1 serves.drafts))
      where
        bare_handle : (here : Handle) (d : Option Draft) → HasDraftOf (drafts_of_handles k.handles s.grants) here None d → d ≡ None
        bare_handle here None it_has = refl
        bare_handle here (Some d) it_has = absurd it_has

-- ---- calls that only read

module _ {D : Type 0} (g : Ghosts D) (left_sized : (d : D) (t : ℕ) (c : Image) → g.left_since d t c → length c ≡ g.blocks d) (sized : (d : D) → IsTrue (g.honest d) → length (g.content d) ≡ g.blocks d)
    (who : ℕ) (t : Tuid) (law : FindsGrant who t) (k : Kernel D) (drafted : IsDrafted k AFile who t) where
  pub tries_size : Tries g k k who (asks.Size (Through t)) (Ok (replies.Number drafted.drafting.root.size))
  tries_size = tries_so g left_sized sized 0 k k (reads_none g 0 k.disk) refl who (asks.Size (Through t)) (Ok (replies.Number drafted.drafting.root.size))
      (λ s serves none. told g left_sized sized 0 k k (reads_none g 0 k.disk) refl s who serves none (asks.Size (Through t)) (replies.Number drafted.drafting.root.size) refl refl refl refl
      (subst (IsSeen k.words.seed s who (asks.Size (Through t))) (ap replies.Number (sym (size_is g who t law k drafted s serves))) (size_told g who t law k drafted s serves k.words.seed)))
      tt tt

  pub tries_read : (n : ℕ) (d : D) → OnlyReads g n k.disk d → (offset count : ℕ) (result : Result Reply Refused)
      → ((v : DraftSeen g k.disk drafted.drafting) (f : File) → v.draft.object ≡ objects.File f → length f.bytes ≡ drafted.drafting.root.size → IfOk result (λ reply. reply ≡ content_reply f offset count)) → IfOk result IsPlainReply
      → (DraftSeen g k.disk drafted.drafting → IfErr result (λ e. has_met_damage e ≡ false)) → IfErr result (IsDraftCause g (top_of drafted.drafting) k.disk d) → Tries g k (record k { disk = d }) who (asks.Read (Through t) offset count) result
  tries_read n d reads offset count (Ok reply) exact plain sound cause = tries_so g left_sized sized n k (record k { disk = d }) reads refl who (asks.Read (Through t) offset count) (Ok reply)
      (λ s serves none.
      let f = file g who t law k drafted s serves in
      told g left_sized sized n k (record k { disk = d }) reads refl s who serves none (asks.Read (Through t) offset count) reply refl refl refl refl
      (subst (IsSeen k.words.seed s who (asks.Read (Through t) offset count)) (sym (exact (draft_seen g k s serves who t drafted.drafting (held g who t law k drafted s serves)) f.0 f.1 (sym (size_is g who t law k drafted s serves)))) (read_told g who t law k drafted s serves k.words.seed offset count)))
      plain tt
  tries_read n d reads offset count (Err e) exact plain sound cause = tries_unseen g left_sized sized who t law k drafted n d reads (asks.Read (Through t) offset count) e sound cause
