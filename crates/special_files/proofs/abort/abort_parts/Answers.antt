use Rattle.std.proofs.Common.{◌≡◌, ◌≢◌, ℕ, ◌+◌, ◌*◌, ◌<◌, false, length, refl, sym, ◌∙◌, ap, subst, arith}
use Rattle.special_files.proofs.Words.{All, AreOnDisk, AreTaken, FarMade, FarRoots, FarShadow, Image, IsDraftTrouble, Trouble, abort_calls, abort_tries, all_ok, changed_reads, draft_top, is_damage, makes_then, number_if, opened_as, parts_top, reads_make, roots_top, still_tells, tells_on, then, tried_then}
use Rattle.cfs_base.specs.declared.refusal.Trouble.TheVariants as troubles
use Rattle.special_files.proofs.abort.CommitAbort.{abort_since, abort_stops, still_view}
use Rattle.special_files.proofs.commit.CommitCalls.{aborts_stopped, far_trouble}
use Rattle.special_files.proofs.CommitDone.{makes_more}
use Rattle.special_files.proofs.CommitDraft.{after_damage, below_all, far_apart, finish_apart, finish_tried, known_apart, shadow_below, tried_apart}
use Rattle.special_files.proofs.commit.CommitStore.{made_below}
use Rattle.cfs_base.proofs.Went.{makes_none}
use Rattle.special_files.proofs.Endings.{trouble_after_tried}
use Rattle.special_files.proofs.View.{view_reads}
use Rattle.special_files.proofs.abort.abort_parts.Goals as goal
use Rattle.special_files.proofs.Refusals.{trouble_as}

-- ---- a part that leads past the disk

pub returns-in-Err : goal.returns-in-Err
returns-in-Err g c =
    let far = c.in-Err.ensures.far in
    record {
      ends = λ was v parts. absurd (omega (arith, shadow_below v far.0.n (parts.shadow_is ∙ far.0.is), g.met.D.Disk.sized c.args.disk.now v.store.carries.tells.honest, far.0.far));
      call = λ was parts. aborts_stopped parts (far_trouble g.D.Disk _ c.args.disk.now c.args.space.now c.in-Err.trouble (FarShadow far.0) far.1) (far_apart c.args.at.0 c.in-Err.trouble far.1) (makes_none g.D.Disk c.args.disk.now abort_calls abort_tries);
    }

pub returns-in-Err-part_on_disk : goal.returns-in-Err-part_on_disk
returns-in-Err-part_on_disk g c =
    let far = c.in-Err-part_on_disk.ensures.far in
    record {
      ends = λ was v parts. absurd (omega (arith, made_below v far.0.n (parts.created_is ∙ far.0.is), g.met.D.Disk.sized c.args.disk.now v.store.carries.tells.honest, far.0.far));
      call = λ was parts. aborts_stopped parts (far_trouble g.D.Disk _ c.args.disk.now c.args.space.now c.in-Err-part_on_disk.trouble (FarMade far.0) far.1) (far_apart c.args.at.0 c.in-Err-part_on_disk.trouble far.1) (makes_none g.D.Disk c.args.disk.now abort_calls abort_tries);
    }

-- ---- a call of the disk fails

pub returns-in-Err-barrier : goal.returns-in-Err-barrier
returns-in-Err-barrier g c = record {
  ends = λ was v parts. abort_stops c.barrier.ensures.images (ap is_damage c.in-Err-barrier.ensures.refused);
  call = λ was parts. aborts_stopped parts
      (subst (IsDraftTrouble g.D.Disk (parts_top c.args.at.0 (number_if c.args.shadow) c.args.own.now c.args.root.now (number_if c.args.created)) c.args.disk.now c.barrier.new.disk c.args.space.now) (sym c.in-Err-barrier.ensures.refused) c.in-Err-barrier.ensures.stopped)
      (known_apart c.in-Err-barrier.trouble c.in-Err-barrier.ensures.refused) (makes_more g.D.Disk c.args.disk.now c.barrier.new.disk 1 1 abort_calls abort_tries (omega arith) (omega arith) c.barrier.ensures.calls);
}

pub changed-requires : goal.changed-requires
changed-requires g c = omega (arith, c.requires.on_disk, c.barrier.ensures.calls.same.size)

pub returns-in-Err-changed : goal.returns-in-Err-changed
returns-in-Err-changed g c =
    let reads = c.changed.ensures.reads in
    record {
      ends = λ was v parts. abort_stops
          (then g.D.Disk c.args.disk.now c.barrier.new.disk c.changed.new.disk (λ k. ⊥) (λ k. ⊥) c.barrier.ensures.images reads.images (λ k no. no))
          (subst (λ (t : Trouble). is_damage t ≡ false) (sym c.after_try.ensures) (after_damage c.in-Err-changed.trouble (c.in-Err-changed.ensures.sound c.args.space.now was (still_view v c.barrier.ensures.content c.barrier.ensures.told c.barrier.ensures.images c.barrier.ensures.calls.same) parts.own_is parts.root_is)));
      call = λ was parts. aborts_stopped parts
          (subst (IsDraftTrouble g.D.Disk (parts_top c.args.at.0 (number_if c.args.shadow) c.args.own.now c.args.root.now (number_if c.args.created)) c.args.disk.now c.changed.new.disk c.args.space.now) (sym c.after_try.ensures)
          (trouble_after_tried g.D.Disk (parts_top c.args.at.0 (number_if c.args.shadow) c.args.own.now c.args.root.now (number_if c.args.created)) 0 c.args.disk.now c.barrier.new.disk c.changed.new.disk c.args.space.now 1 1 c.barrier.ensures.calls c.barrier.ensures.made c.barrier.ensures.told c.in-Err-changed.trouble
          (trouble_as g.D.Disk (roots_top c.args.at.0 c.args.own.now c.args.root.now) (parts_top c.args.at.0 (number_if c.args.shadow) c.args.own.now c.args.root.now (number_if c.args.created)) refl c.barrier.new.disk c.changed.new.disk c.args.space.now FarRoots c.in-Err-changed.trouble (c.in-Err-changed.ensures.refused c.args.space.now))))
          (subst (λ (t : Trouble). t ≢ troubles.Disk false) (sym c.after_try.ensures) (tried_apart c.in-Err-changed.trouble))
          (makes_then g.D.Disk c.args.disk.now c.barrier.new.disk c.changed.new.disk 1 changed_reads abort_calls 1 0 abort_tries c.barrier.ensures.calls (reads_make g.D.Disk c.barrier.new.disk c.changed.new.disk changed_reads reads) (omega arith) (omega arith));
    }

pub give_up-requires : goal.give_up-requires
give_up-requires g c =
    let size = c.changed.ensures.reads.same.size ∙ c.barrier.ensures.calls.same.size in
    record {
      size = size ∙ c.requires.size;
      taken_on_disk = subst (λ (k : ℕ). All (λ n. n < k) c.as_slice.result.now) (sym c.changed.ensures.reads.same.size) (below_all _ _ (subst (AreOnDisk (g.D.Disk.blocks c.barrier.new.disk)) (sym c.as_slice.ensures) c.in-Ok-changed.ensures.on_disk.0));
      shadow_on_disk = λ n is. omega (arith, c.in-Ok.ensures.on_disk n is, size);
      created_on_disk = λ n is. omega (arith, c.in-Ok-part_on_disk.ensures.on_disk n is, size);
    }

pub returns : goal.returns
returns g c =
    let reads = c.changed.ensures.reads in
    let room = c.in-Ok-changed.ensures.room in
    let nt = length c.as_slice.result.now in
    let first = makes_then g.D.Disk c.args.disk.now c.barrier.new.disk c.changed.new.disk 1 changed_reads (1 + changed_reads) 1 0 1 c.barrier.ensures.calls (reads_make g.D.Disk c.barrier.new.disk c.changed.new.disk changed_reads reads) (omega arith) (omega arith) in
    let tried = tried_then g.D.Disk c.args.disk.now c.barrier.new.disk c.changed.new.disk changed_reads 0 c.barrier.ensures.made (reads_make g.D.Disk c.barrier.new.disk c.changed.new.disk changed_reads reads) in
    let all_tried = tried_then g.D.Disk c.args.disk.now c.changed.new.disk c.give_up.new.disk (2 * nt + (2 + 2)) (nt + (1 + 1)) tried c.give_up.ensures.calls in
    record {
      ends = λ was v parts.
          let still = still_view v c.barrier.ensures.content c.barrier.ensures.told c.barrier.ensures.images c.barrier.ensures.calls.same in
          let lists = (c.in-Ok-changed.ensures.changed c.args.space.now was still parts.own_is parts.root_is).takes in
          abort_since (reads.content ∙ c.barrier.ensures.content) (then g.D.Disk c.args.disk.now c.barrier.new.disk c.changed.new.disk (λ k. ⊥) (λ k. ⊥) c.barrier.ensures.images reads.images (λ k no. no))
          (c.give_up.ensures.ends was (view_reads still reads) parts.shadow_is parts.created_is
          (subst (λ (i : Image). AreTaken i v.id (opened_as was v.draft) c.as_slice.result.now) (sym reads.content) (subst (AreTaken (g.D.Disk.content c.barrier.new.disk) v.id (opened_as was v.draft)) (sym c.as_slice.ensures) lists)));
      call = λ was parts. record {
        refused = finish_tried g.D.Disk (draft_top was) c.args.disk.now c.changed.new.disk c.give_up.new.disk c.give_up.new.space (1 + changed_reads) 1 (2 * nt + (2 + 2)) (nt + (1 + 1)) first
            (λ tells. tells_on g.D.Disk c.barrier.new.disk c.changed.new.disk c.give_up.new.disk changed_reads reads (still_tells g.D.Disk tells c.barrier.ensures.told c.barrier.ensures.calls.same)) c.give_up.ensures.calls all_tried c.give_up.result (c.give_up.ensures.fails was.at);
        tried = finish_apart g.D.Disk c.args.at.0 c.changed.new.disk c.give_up.new.disk c.give_up.new.space c.give_up.result (c.give_up.ensures.fails c.args.at.0);
        made = all_ok c.give_up.result all_tried;
        cylinders = c.give_up.ensures.cylinders;
        left = c.give_up.ensures.left;
        calls = makes_then g.D.Disk c.args.disk.now c.changed.new.disk c.give_up.new.disk (1 + changed_reads) (2 * nt + (2 + 2)) abort_calls 1 (nt + (1 + 1)) abort_tries first c.give_up.ensures.calls (omega (arith, room.0, ap (length {A = ℕ}) c.as_slice.ensures)) (omega (arith, room.0, ap (length {A = ℕ}) c.as_slice.ensures));
      };
    }
