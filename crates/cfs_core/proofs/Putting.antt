-- What the store says of a slot that is filled or emptied, as the core has it.
use Rattle.std.proofs.Common.{◌≡◌, inl, ℕ, ◌+◌, ◌<◌, ◌≤◌, length, true, false, Option, None, Some, Result, Ok, Err, IsTrue, refl, sym, ◌∙◌, ap, subst, arith, sum, ◌⊎◌, inr, [], ◌∷◌, is_none, ◌/◌, set, IsSome}
use Rattle.cfs_base.proofs.Went.{reads_none}
use Rattle.cfs_core.proofs.Words.{creates, Ghosts, Image, Index, index_with, IsSpeakable, Kept, Need, OnlyReads, outcome_of, stopped_after_reads, Puid, PutsSlot, Ref, refusal_of, Refused, Request, State, with_object, Object, Holds, slot_of, target, object_at-with_object, same_puid_itself, need_of, Direct, Through}
use Rattle.cfs_base.specs.declared.refusal.Refused.TheVariants as refusals
use Rattle.ufs_model.specs.declared.asked.Event.TheVariants as events
use Rattle.ufs_model.specs.declared.asked.Reply.TheVariants as replies
use Rattle.ufs_model.specs.declared.asked.Request.TheVariants as asks
use Rattle.ufs_model.specs.declared.object.Object.TheVariants as objects
use Rattle.cyl_alloc.specs.Left.{LeftCommit}
use Rattle.intentions.specs.Left.{StoreIs, coming, final_image}
use Rattle.index_ops.specs.Changes.{LeavesCommit, ChangesLeaf, FillsIndex, leaf_and_node}
use Rattle.cfs_core.specs.Calls.{ByWant, EndsSo, IsShortOfBlocks, RequestWent, TriesOnWith, done_or, delete_floor}
use Rattle.cfs_core.proofs.Stored.{account_in}
use Rattle.block_tree.specs.declared.root.Root.{Root}
use Rattle.cfs_base.specs.Run.{Tells}
use Rattle.normal_files.specs.Standing.{IsRootAt}
use Rattle.puid_space.specs.Directory.{has_root_in}
use Rattle.special_files.specs.Drafting.{begun_at}
use Rattle.cfs_core.specs.Kernel.{Kernel}
use Rattle.cfs_core.specs.StandsFor.{CoreServes, drafts_of_handles}
use Rattle.cfs_core.specs.Ways.{Reaches}
use Rattle.cfs_core.proofs.Answering.{disk_failed, full_still}
use Rattle.cfs_core.proofs.Changed.{object_did, object_in_doubt}
use Rattle.cfs_core.proofs.Committed.{LeavesThese, uncut}
use Rattle.cfs_core.proofs.Grown.{added_by, filled_blocks}
use Rattle.cfs_core.proofs.Refusing.{delete_full, delete_need, Puts, retain_full, retain_need}
use Rattle.cfs_core.proofs.Damages.{told_of_index}
use Rattle.cfs_core.proofs.Went.{went_done, went_so}
use Rattle.cfs_core.proofs.Serving.{running, stays}
use Rattle.std.proofs.lemmas.List.{get_or-set_same}
use Rattle.std.proofs.lemmas.Option.{unwrap_or-slice_get}
use Rattle.cfs_core.specs.Claimed.{TakesForRequest, claims_for, commits_alone, owners_of, root_reached}
use Rattle.cfs_core.proofs.Claimed.{Commits, claims_then, takes_last}
use Rattle.cfs_core.proofs.Views.{slot_view}
use Rattle.vol_image.proofs.Unique.{held_object}
use Rattle.ufs_model.specs.State.{the_index}
use Rattle.index_ops.specs.Changes as ops

module _ {D : Type 0} (g : Ghosts D) (left_sized : (d : D) (t : ℕ) (c : Image) → g.left_since d t c → length c ≡ g.blocks d) (sized : (d : D) → IsTrue (g.honest d) → length (g.content d) ≡ g.blocks d)
    (k : Kernel D) (d : D) (space : Kept) (index : Puid) (slot : ℕ) (what : Option Puid) (request : Request) (makes : creates request ≡ false)
    (speaks : IsSpeakable (events.Ask 0 request replies.Done)) (result : Result (Unit {0}) Refused) (root : Root) (puts : PutsSlot g (begun_at index.block None root) slot what k.disk d k.space space result)
    (out : (s : State) (who : ℕ) (i : Index) → CoreServes g k s → Reaches s who request index (objects.Index i)
    → (outcome_of k.words.seed s who request 0 ≡ (replies.Done, (outcome_of k.words.seed s who request 0).1)) × Puts s (outcome_of k.words.seed s who request 0).1 index (index_with i slot what))
    (room : (s : State) (who : ℕ) (i : Index) → CoreServes g k s → Reaches s who request index (objects.Index i) → (¬ IsShortOfBlocks s who request (sum k.space.free)) × (added_by what + 4 ≤ sum k.space.free))
    (claims : (s : State) (who : ℕ) (i : Index) → Reaches s who request index (objects.Index i) → (claims_for k.handles s who request replies.Done ≡ leaf_and_node (slot / 64) (root_reached s who (target request))) × (owners_of s who request replies.Done ≡ root_reached s who (target request) ∷ []) × (commits_alone s who request ≡ true))
    (holds : (s : State) (who : ℕ) (i : Index) → Reaches s who request index (objects.Index i) → refusal_of s who request ≡ None → what ≡ None → is_none (slot_of i slot) ≡ false) where
  abbrev new : Kernel D
  new = record k { disk = d; space = space }

  module _ (s : State) (who : ℕ) (i : Index) (serves : CoreServes g k s) (none : k.stop ≡ None) (reach : Reaches s who request index (objects.Index i)) (shut : (drafts_of_handles k.handles s.grants) index ≡ None) (inside : slot < length i.slots) (goes : refusal_of s who request ≡ None) (rooted : IsRootAt (g.content k.disk) index.block root) where
    fills : FillsIndex (slot_view g k s serves index i reach.there shut slot inside) what d space result
    fills = puts.fills (slot_view g k s serves index i reach.there shut slot inside) rooted

    size : g.blocks d ≡ g.blocks k.disk
    size = puts.calls.same.size

    speak : (w : ℕ) → IsSpeakable (events.Ask w request replies.Done)
    speak w = speaks

    left : LeavesThese g k.disk d s who request replies.Done (with_object s.graph index (index_with i slot what))
    left = uncut g k.disk d s who request replies.Done _ fills.leaves

    -- one that was emptied held something, so the content isn't as it was
    not_still : {A : Type 0} → StoreIs g (with_object s.graph index (index_with i slot what)) (drafts_of_handles k.handles s.grants) d space → (what ≡ None) × (final_image g d space ≡ g.content k.disk) → A
    not_still store two =
        let h = with_object s.graph index (index_with i slot what) in
        let one = held_object (g.content k.disk) s.graph h index (objects.Index i) (index_with i slot what) serves.store.account.holds (subst (λ (c : Image). Holds c h) two.1 (account_in g h (drafts_of_handles k.handles s.grants) d space space.left store).holds) reach.there
        (object_at-with_object s.graph index (index_with i slot what) index ∙ rw (same_puid_itself index) refl) in
        let none : slot_of i slot ≡ None = ap (λ (o : Object). slot_of (the_index o) slot) one ∙ unwrap_or-slice_get (set i.slots slot what) slot None ∙ get_or-set_same i.slots slot what None inside ∙ two.0 in
        let no : true ≡ false = sym (ap is_none none) ∙ holds s who i reach goes two.0 in cc

    takes : StoreIs g (with_object s.graph index (index_with i slot what)) (drafts_of_handles k.handles s.grants) d space → ChangesLeaf g (slot / 64) index.block what k.disk d space → TakesForRequest k.handles s who request replies.Done (g.content k.disk) (final_image g d space)
    takes store leaf =
        let at : root_reached s who (target request) ≡ index.block = rw reach.name refl in
        takes_last k.handles s who request replies.Done (g.content k.disk) (final_image g d space) (leaf_and_node (slot / 64) index.block) (index.block ∷ []) index.block ((claims s who i reach).0 ∙ ap (leaf_and_node (slot / 64)) at) ((claims s who i reach).1 ∙ ap (λ n. n ∷ []) at) at (claims s who i reach).2 (by leaf.takes)
      where
        by : ((what ≡ None) × (final_image g d space ≡ g.content k.disk)) ⊎ ops.TakesEntries (leaf_and_node (slot / 64) index.block) index.block [] (g.content k.disk) (final_image g d space)
            → Commits (leaf_and_node (slot / 64) index.block) (index.block ∷ []) index.block (g.content k.disk) (final_image g d space)
        by (inl still) = not_still store still
        by (inr taken) = claims_then (leaf_and_node (slot / 64) index.block) index.block [] (g.content k.disk) (final_image g d space) taken

    -- a commit is noted, since something changed
    noted : StoreIs g (with_object s.graph index (index_with i slot what)) (drafts_of_handles k.handles s.grants) d space → LeavesCommit index.block what space.left → (space.left ≡ None → g.content d ≡ g.content k.disk) → IsSome space.left
    noted store (inr two) still = subst (λ (w : Option LeftCommit). IsSome w) (sym two.1.is) refl
    noted store (inl two) still = not_still store (two.0, ap (coming (g.content d)) two.1 ∙ still two.1)

    put_so : (r : Result (Unit {0}) Refused) → r ≡ result → EndsSo g None k new s who request (done_or r)
    put_so (Ok u) is =
        let changes = rw (← is) at fills.done in
        let leaf = rw (← is) at fills.leaf in
        object_did g left_sized sized k new size refl none s (outcome_of k.words.seed s who request 0).1 who request serves index (objects.Index i) (index_with i slot what) reach.there refl (added_by what) (filled_blocks i slot what) goes makes (speak who)
        (out s who i serves reach).0 (out s who i serves reach).1 (room s who i serves reach).0 (room s who i serves reach).1 left changes.store changes.only (takes changes.store leaf) (λ _. noted changes.store (rw (← is) at puts.left) (λ nothing. rw (← is) at (puts.still nothing)))
    put_so (Err (refusals.Full need)) is = absurd (rw (← is) at puts.refused)
    put_so (Err (refusals.Disk false)) is = let two = (rw (← is) at puts.untried) refl in disk_failed g left_sized sized 8 k new two.1 (ap (λ (x : Kept). record k { disk = d; space = x }) two.0) s who serves none request
    put_so (Err (refusals.Disk true)) is = object_in_doubt g left_sized sized k new size refl none s (outcome_of k.words.seed s who request 0).1 who request serves index (objects.Index i) (index_with i slot what) reach.there refl (added_by what) (filled_blocks i slot what) goes makes (speak who)
        (out s who i serves reach).0 (out s who i serves reach).1 (room s who i serves reach).0 (room s who i serves reach).1 left
    put_so (Err (refusals.Damaged damage)) is = let no : true ≡ false = rw (← is) at fills.sound in cc
    put_so (Err refusals.Memory) is = absurd (rw (← is) at puts.refused)

    pub put_ends : EndsSo g None k new s who request (done_or result)
    put_ends = put_so result refl

  -- on any disk, told of a core from which only reads were made, of which the root was there
  pub put_went : (base : Kernel D) (n : ℕ) → OnlyReads g n base.disk k.disk → has_root_in base.directory.named index.block ≡ true → (Tells g base.disk → IsRootAt (g.content base.disk) index.block root) → RequestWent g base (record base { disk = d; space = space }) request (done_or result)
  put_went base n reads named rooted = went_done g base d space base.handles (puts.calls.same.size ∙ reads.same.size) (omega (arith, reads.faults, puts.calls.faults)) (omega (arith, reads.images.later, puts.calls.later)) request result
      (λ tried is. stopped_after_reads g base.disk k.disk d n tried reads (rw is at puts.refused))
      (λ damage is. told_of_index g n base (record base { disk = d; space = space }) k.disk reads (Some request) index.block root (inl named) rooted damage puts.calls.same.size (rw is at puts.refused))
      (λ need is. absurd (rw is at puts.refused))

-- ---- too few blocks are Free

module _ {D : Type 0} (g : Ghosts D) (left_sized : (d : D) (t : ℕ) (c : Image) → g.left_since d t c → length c ≡ g.blocks d) (sized : (d : D) → IsTrue (g.honest d) → length (g.content d) ≡ g.blocks d)
    (k : Kernel D) (d : D) (space : Kept) (same_disk : d ≡ k.disk) (same_space : space ≡ k.space) (index : Puid) (to : Ref) (slot : ℕ) (id : Puid) (few : sum k.space.free < 7) where
  abbrev request : Request
  request = asks.Retain to slot id

  abbrev need : Need
  need = record { free = sum k.space.free; need = 3 }

  reads : OnlyReads g 0 k.disk d
  reads = subst (λ x. OnlyReads g 0 k.disk x) (sym same_disk) (reads_none g 0 k.disk)

  as_it_was : record k { disk = d; space = space } ≡ record k { disk = d }
  as_it_was = ap (λ (x : Kept). record k { disk = d; space = x }) same_space

  pub tries_full : TriesOnWith g None k (record k { disk = d; space = space }) index slot request (Err (refusals.Full need))
  tries_full = record {
    ends = λ s who i serves none reach shut inside goes. record {
      event = stays g 0 k (record k { disk = d; space = space }) reads as_it_was s serves left_sized (sized k.disk serves.store.carries.tells.honest) (events.Ask who request (replies.Full need))
          (retain_full k.words.seed s who to index i slot (sum k.space.free) id reach (running g k s serves none) goes few);
      still = λ all. let no : false ≡ true = all in cc;
      full = λ full. full_still g left_sized sized 0 k (record k { disk = d; space = space }) reads as_it_was s who serves none refl;
      taken = λ done. let no : false ≡ true = done in cc;
      noted = λ done. let no : false ≡ true = done in cc;
      owed = ByWant goes (record { delete = refl; few = omega (arith, few, retain_need k.words.seed s who to index i slot id reach) })
          (ap (λ (n : ℕ). replies.Full (record { free = sum k.space.free; need = n })) (sym (retain_need k.words.seed s who to index i slot id reach)));
    };
    went = λ named. went_so g k d space k.handles (ap g.blocks same_disk) reads.faults reads.images.later request (Err (refusals.Full need)) tt (refl, refl, omega (arith, few));
  }

-- ---- a delete that goes through a grant without a draft

-- beside so many blocks as must stay Free
pub not_short : (s : State) (who : ℕ) (to : Ref) (slot floor free : ℕ) → floor ≡ delete_floor to → 3 + floor ≤ free → need_of s who (asks.Delete to slot) ≡ 3 → ¬ IsShortOfBlocks s who (asks.Delete to slot) free
not_short s who (Direct x) slot floor free is room need = λ short. let no = short.delete in cc
not_short s who (Through t) slot floor free is room need = λ short. omega (arith, short.few, room, is, need)

-- too few are Free
pub delete_short : {D : Type 0} (g : Ghosts D) (left_sized : (d : D) (t : ℕ) (c : Image) → g.left_since d t c → length c ≡ g.blocks d) (sized : (d : D) → IsTrue (g.honest d) → length (g.content d) ≡ g.blocks d)
    (k : Kernel D) (index : Puid) (to : Ref) (slot floor : ℕ) → floor ≡ delete_floor to → sum k.space.free < 3 + floor → 3 ≤ sum k.space.free
    → TriesOnWith g None k k index slot (asks.Delete to slot) (Err (refusals.Full (record { free = sum k.space.free; need = 3 })))
delete_short g left_sized sized k index (Direct x) slot floor is less enough = absurd (omega (arith, is, less, enough))
delete_short g left_sized sized k index (Through t) slot floor is less enough = record {
  ends = λ s who i serves none reach shut inside goes.
      let need = delete_need k.words.seed s who (Through t) index i slot reach in
      record {
        event = stays g 0 k k (reads_none g 0 k.disk) refl s serves left_sized (sized k.disk serves.store.carries.tells.honest) (events.Ask who request (replies.Full full))
            (delete_full k.words.seed s who (Through t) index i slot (sum k.space.free) reach (running g k s serves none) goes refl few);
        still = λ all. let no : false ≡ true = all in cc;
        full = λ full. full_still g left_sized sized 0 k k (reads_none g 0 k.disk) refl s who serves none refl;
        taken = λ done. let no : false ≡ true = done in cc;
        noted = λ done. let no : false ≡ true = done in cc;
        owed = ByWant goes (record { delete = refl; few = omega (arith, few, need) }) (ap (λ (n : ℕ). replies.Full (record { free = sum k.space.free; need = n })) (sym need));
      };
  went = λ named. went_so g k k.disk k.space k.handles refl (omega arith) (omega arith) request (Err (refusals.Full full)) tt (refl, refl, omega (arith, few));
}
  where
    request : Request
    request = asks.Delete (Through t) slot

    full : Need
    full = record { free = sum k.space.free; need = 3 }

    few : sum k.space.free < 7
    few = omega (arith, is, less)
