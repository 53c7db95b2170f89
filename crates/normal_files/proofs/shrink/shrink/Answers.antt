use Rattle.std.proofs.Common.{rules}
use Rattle.normal_files.proofs.Words.{◌≡◌, ◌∙◌, ap, false, true, ℕ, IsTrue, List, set, subst, Ghosts, HasTried, Leaves, MakesAtMost, OnlyReads, is_damage, trouble_after_try}
use Rattle.normal_files.proofs.Come.{come_reads, come_then}
use Rattle.normal_files.specs.Frees.{HasBegun}
use Rattle.normal_files.specs.Steps.{HasCome}
use Rattle.normal_files.proofs.FileCalls.{becomes_on, cut_of, drop_troubled, images_read, later_ends, near_of, next_root, none_on, read_troubled, root_images, shrunk_ends, stop_troubled, trim_images}
use Rattle.normal_files.proofs.Refusals.{stopped_later, tells_after}
use Rattle.cfs_base.proofs.Went.{told_as}
use Rattle.cfs_base.proofs.Passed.{is_passed, mapped, tells_err}
use Rattle.normal_files.proofs.shrink.shrink.Goals as goal
use Rattle.normal_files.proofs.shrink.shrink.Goals.{After-map_err}
use Rattle.leaf_changes.specs.Tops.{root_top}

pub returns-in_err-end-clause-shrunk : goal.returns-in_err-end-clause-shrunk
returns-in_err-end-clause-shrunk g c = λ v less. rw (is_passed c.from_residual.result c.in_err-end.field-0.0 c.from_residual.ensures.1) ((
  record { done = tt; images = images_read c.in_err-end.ensures.reads _ },
  tt,
  c.in_err-end.ensures.sound v.store.carries.tells (near_of v.has _ (g.met.D.Disk.sized c.args.disk.now v.store.carries.tells.honest)),
))

pub returns-in_err-end-clause-refused : goal.returns-in_err-end-clause-refused
returns-in_err-end-clause-refused g c = rw (is_passed c.from_residual.result c.in_err-end.field-0.0 c.from_residual.ensures.1) (read_troubled g.D.Disk (root_top c.args.at.0 c.args.root.now) c.args.disk.now c.read_end.new.disk c.in_err-end.field-0.0 c.in_err-end.ensures.refused)

pub returns-in_err-trim-clause-shrunk : goal.returns-in_err-trim-clause-shrunk
returns-in_err-trim-clause-shrunk g c = λ v less.
    rw (is_passed c.from_residual-in_err-trim.result c.in_err-trim.field-0.0 c.from_residual-in_err-trim.ensures.1) (let z = cut_of c.in_ok-end.ensures.reads v less c.in_ok-end.ensures.read (c.in_ok-end.ensures.end v.store.carries.tells) (c.encode-content.ensures.accepted (next_root v.has c.requires.allowed c.in_ok-end.ensures.read.cuts_root)).good in
    (becomes_on c.in_ok-end.ensures.reads v (record { done = tt; images = trim_images z c.trim.new.disk c.in_err-trim.ensures.images }), tt, ap is_damage c.in_err-trim.ensures.tried))

pub returns-in_err-trim-clause-refused : goal.returns-in_err-trim-clause-refused
returns-in_err-trim-clause-refused g c = rw (is_passed c.from_residual-in_err-trim.result c.in_err-trim.field-0.0 c.from_residual-in_err-trim.ensures.1) (stop_troubled g.D.Disk (root_top c.args.at.0 c.args.root.now) c.args.disk.now c.trim.new.disk c.in_err-trim.field-0.0 (stopped_later g.D.Disk c.args.disk.now c.read_end.new.disk c.trim.new.disk c.in_err-trim.field-0.0 c.in_ok-end.ensures.reads c.in_err-trim.ensures.stopped))

pub returns-in_err-write_through-clause-shrunk : goal.returns-in_err-write_through-clause-shrunk
returns-in_err-write_through-clause-shrunk g c = λ v less.
    let z = cut_of c.in_ok-end.ensures.reads v less c.in_ok-end.ensures.read (c.in_ok-end.ensures.end v.store.carries.tells) (c.encode-content.ensures.accepted (next_root v.has c.requires.allowed c.in_ok-end.ensures.read.cuts_root)).good in
    let settled = c.in_ok-trim.ensures.settled (tells_after g.D.Disk c.args.disk.now c.read_end.new.disk c.in_ok-end.ensures.reads v.store.carries.tells) in
    let spelt = c.encode-content.ensures.spelled in rw (is_passed c.from_residual-in_err-write_through.result c.in_err-write_through.field-0.0 c.from_residual-in_err-write_through.ensures.1) (
      becomes_on c.in_ok-end.ensures.reads v (record {
        done = tt;
        images = root_images z c.in_ok-trim.ensures.images c.in_ok-trim.ensures.done
            (subst (λ (s : List ℕ). Leaves g.D.Disk c.trim.new.disk c.write_through.new.disk (λ e. e ≡ set (g.D.Disk.content c.trim.new.disk) c.args.at.0 s)) spelt (c.write_through.ensures.images settled));
      }),
      tt,
      ap is_damage c.in_err-write_through.ensures.failed,
    )

since : (g : _) (c : After-map_err g) → c.map_err.result ≡ told_as trouble_after_try c.free_past.result
since g c = mapped trouble_after_try _ _ c.map_err.ensures.cases (λ e k is. search rules)

pub returns-clause-shrunk : goal.returns-clause-shrunk
returns-clause-shrunk g c = λ v less.
    let z = cut_of c.in_ok-end.ensures.reads v less c.in_ok-end.ensures.read (c.in_ok-end.ensures.end v.store.carries.tells) (c.encode-content.ensures.accepted (next_root v.has c.requires.allowed c.in_ok-end.ensures.read.cuts_root)).good in
    let settled = c.in_ok-trim.ensures.settled (tells_after g.D.Disk c.args.disk.now c.read_end.new.disk c.in_ok-end.ensures.reads v.store.carries.tells) in
    let spelt = c.encode-content.ensures.spelled in
    let done = c.in_ok-write_through.ensures.done settled in
    let all = shrunk_ends z c.in_ok-trim.ensures.images c.in_ok-trim.ensures.done
    (subst (λ (s : List ℕ). Leaves g.D.Disk c.trim.new.disk c.write_through.new.disk (λ e. e ≡ set (g.D.Disk.content c.trim.new.disk) c.args.at.0 s)) spelt (c.in_ok-write_through.ensures.images settled))
    (done.0 ∙ ap (λ (s : List ℕ). set (g.D.Disk.content c.trim.new.disk) c.args.at.0 s) spelt) done.1 c.free_past.ensures.frees in
    rw (since g c) (later_ends v _ c.free_past.result (becomes_on c.in_ok-end.ensures.reads v all.0, none_on c.in_ok-end.ensures.reads c.free_past.new.disk c.free_past.result all.1, all.2))

-- the first calls of it, of which none failed
begun : {D : Type 0} {g : Ghosts D} {old mid trimmed now : D} → OnlyReads g 2 old mid → ((b : ℕ) → IsTrue (g.told mid b) → IsTrue (g.told trimmed b)) → MakesAtMost g 3 3 mid trimmed → HasTried g mid trimmed → HasCome g 2 2 true trimmed now → HasBegun g old now
begun reads told calls tried last = record {
  n = 7;
  t = 5;
  went = come_then true true (come_then false true (come_reads reads) (record { told = told; knows = tried; refused = tt; untried = tt; moves = tt; calls = calls })) last;
}

pub returns-clause-refused : goal.returns-clause-refused
returns-clause-refused g c = tells_err _ _ trouble_after_try c.free_past.result _ (since g c) (drop_troubled g.D.Disk (root_top c.args.at.0 c.args.root.now) c.args.disk.now c.free_past.new.disk c.free_past.result
    (begun c.in_ok-end.ensures.reads c.in_ok-trim.ensures.told c.in_ok-trim.ensures.calls c.in_ok-trim.ensures.made c.in_ok-write_through.ensures.ends) c.free_past.ensures.follows) (λ e why. why)
