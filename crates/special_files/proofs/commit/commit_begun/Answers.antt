use Rattle.std.proofs.Common.{◌≡◌, ◌≢◌, ℕ, ◌+◌, ◌*◌, ◌<◌, false, length, refl, sym, ◌∙◌, ap, subst, arith}
use Rattle.special_files.proofs.Words.{All, AreOnDisk, Holds, IsChanged, IsDraftTrouble, Tells, Trouble, all_ok, begun_calls, begun_tries, changed_reads, is_damage, makes_then, opened_as, reads_make, root_spelling, roots_top, still_tells, tells_on, then, tried_then}
use Rattle.cfs_base.specs.declared.refusal.Trouble.TheVariants as troubles
use Rattle.special_files.proofs.CommitDraft.{after_damage, below_all, finish_apart, finish_tried, shadow_leaves, shadow_reads, shadow_stands, shadow_view, tried_apart}
use Rattle.special_files.proofs.commit.CommitCalls.{commits_stopped}
use Rattle.special_files.proofs.commit.CommitStore.{commit_ends, commit_stops}
use Rattle.special_files.proofs.CommitDone.{makes_more}
use Rattle.special_files.proofs.Endings.{trouble_after_tried}
use Rattle.special_files.proofs.commit.commit_begun.Goals as goal

pub returns-in-Err : goal.returns-in-Err
returns-in-Err g c = record {
  commits = λ was v made parts makes. commit_stops (shadow_leaves v parts.shadow_is c.write_own.ensures.images) refl;
  ends = commits_stopped c.in-Err.ensures.stopped (makes_more g.D.Disk c.args.disk.now c.write_own.new.disk 1 1 begun_calls begun_tries (omega arith) (omega arith) c.write_own.ensures.calls);
  untried = λ same. cc;
}

pub changed-requires : goal.changed-requires
changed-requires g c = omega (arith, c.requires.on_disk, c.write_own.ensures.calls.same.size)

pub returns-in-Err-changed : goal.returns-in-Err-changed
returns-in-Err-changed g c =
    let told = c.in-Ok.ensures.told in
    let reads = c.changed.ensures.reads in
    record {
      commits = λ was v made parts makes. commit_stops
          (then g.D.Disk c.args.disk.now c.write_own.new.disk c.changed.new.disk (λ k. Holds k v.graph) (λ k. ⊥) (shadow_leaves v parts.shadow_is c.write_own.ensures.images) reads.images (λ k no. absurd no))
          (subst (λ (t : Trouble). is_damage t ≡ false) (sym c.after_try.ensures) (after_damage c.in-Err-changed.trouble (c.in-Err-changed.ensures.sound c.args.space.now was (shadow_view v parts.shadow_is c.in-Ok.ensures) parts.own_is parts.root_is)));
      ends = commits_stopped
          (subst (IsDraftTrouble g.D.Disk (roots_top c.args.at.0 c.args.own.now c.args.root.now) c.args.disk.now c.changed.new.disk c.args.space.now) (sym c.after_try.ensures)
          (trouble_after_tried g.D.Disk (roots_top c.args.at.0 c.args.own.now c.args.root.now) 0 c.args.disk.now c.write_own.new.disk c.changed.new.disk c.args.space.now 1 1 c.write_own.ensures.calls c.write_own.ensures.tried told c.in-Err-changed.trouble (c.in-Err-changed.ensures.refused c.args.space.now)))
          (makes_then g.D.Disk c.args.disk.now c.write_own.new.disk c.changed.new.disk 1 changed_reads begun_calls 1 0 begun_tries c.write_own.ensures.calls (reads_make g.D.Disk c.write_own.new.disk c.changed.new.disk changed_reads reads) (omega arith) (omega arith));
      untried = subst (λ (t : Trouble). t ≢ troubles.Disk false) (sym c.after_try.ensures) (tried_apart c.in-Err-changed.trouble);
    }

pub finish-requires : goal.finish-requires
finish-requires g c =
    let size = c.changed.ensures.reads.same.size ∙ c.write_own.ensures.calls.same.size in
    let lists = c.in-Ok-changed.ensures.on_disk in
    record {
      size = size ∙ c.requires.size;
      on_disk = omega (arith, c.requires.on_disk, size);
      shadow_on_disk = omega (arith, c.requires.shadow_on_disk, size);
      taken_on_disk = subst (λ (k : ℕ). All (λ n. n < k) c.changed.new.taken) (sym c.changed.ensures.reads.same.size) (below_all _ _ lists.0);
      dropped_on_disk = subst (λ (k : ℕ). All (λ n. n < k) c.as_slice.result.now) (sym c.changed.ensures.reads.same.size) (below_all _ _ (subst (AreOnDisk (g.D.Disk.blocks c.write_own.new.disk)) (sym c.as_slice.ensures) lists.1));
      created_on_disk = λ n is. omega (arith, c.requires.created_on_disk n is, size);
      left = c.requires.left;
      few = omega (arith, c.in-Ok-changed.ensures.room.0, c.in-Ok-changed.ensures.room.1, ap (length {A = ℕ}) c.as_slice.ensures);
    }

pub returns : goal.returns
returns g c =
    let told = c.in-Ok.ensures.told in
    let reads = c.changed.ensures.reads in
    let room = c.in-Ok-changed.ensures.room in
    let first = makes_then g.D.Disk c.args.disk.now c.write_own.new.disk c.changed.new.disk 1 changed_reads (1 + changed_reads) 1 0 1 c.write_own.ensures.calls (reads_make g.D.Disk c.write_own.new.disk c.changed.new.disk changed_reads reads) (omega arith) (omega arith) in
    let calls = makes_then g.D.Disk c.args.disk.now c.changed.new.disk c.finish.new.disk (1 + changed_reads) (2 * length c.as_slice.result.now + 4) begun_calls 1 (length c.as_slice.result.now + 3) begun_tries first c.finish.ensures.calls (omega (arith, room.0, room.1, ap (length {A = ℕ}) c.as_slice.ensures)) (omega (arith, room.0, room.1, ap (length {A = ℕ}) c.as_slice.ensures)) in
    let tells_amid = λ (tells : Tells g.D.Disk c.args.disk.now). tells_on g.D.Disk c.write_own.new.disk c.changed.new.disk c.finish.new.disk changed_reads reads (still_tells g.D.Disk tells told c.write_own.ensures.calls.same) in
    let tried = tried_then g.D.Disk c.args.disk.now c.write_own.new.disk c.finish.new.disk begun_calls begun_tries c.write_own.ensures.tried (makes_then g.D.Disk c.write_own.new.disk c.changed.new.disk c.finish.new.disk changed_reads (2 * length c.as_slice.result.now + 4) begun_calls 0 (length c.as_slice.result.now + 3) begun_tries (reads_make g.D.Disk c.write_own.new.disk c.changed.new.disk changed_reads reads) c.finish.ensures.calls (omega (arith, room.0, room.1, ap (length {A = ℕ}) c.as_slice.ensures)) (omega (arith, room.0, room.1, ap (length {A = ℕ}) c.as_slice.ensures))) in
    record {
      commits = λ was v made parts makes.
          let lists = c.in-Ok-changed.ensures.changed c.args.space.now was (shadow_view v parts.shadow_is c.in-Ok.ensures) parts.own_is parts.root_is in
          let stands = shadow_stands v parts.shadow_is c.in-Ok.ensures c.changed.new.taken c.as_slice.result.now (c.encode-content.ensures.spelled ∙ ap root_spelling (sym parts.root_is))
          (subst (IsChanged (g.D.Disk.content c.write_own.new.disk) v.id (opened_as was v.draft) c.changed.new.taken) (sym c.as_slice.ensures) lists) in
          commit_ends (shadow_reads stands reads) parts.created_is made makes (v.opened.at ∙ parts.at_is) c.finish.ensures.finishes;
      ends = record {
        refused = finish_tried g.D.Disk (roots_top c.args.at.0 c.args.own.now c.args.root.now) c.args.disk.now c.changed.new.disk c.finish.new.disk c.finish.new.space (1 + changed_reads) 1 _ _ first tells_amid c.finish.ensures.calls tried c.finish.result c.finish.ensures.fails;
        made = all_ok c.finish.result tried;
        settled = λ tells. c.finish.ensures.settled (tells_amid tells);
        cylinders = c.finish.ensures.cylinders;
        left = c.finish.ensures.left;
        calls = calls;
      };
      untried = finish_apart g.D.Disk c.args.at.0 c.changed.new.disk c.finish.new.disk c.finish.new.space c.finish.result c.finish.ensures.fails;
    }
