use Rattle.std.proofs.Common.{arith, Some, ◌∙◌, ap, sym}
use Rattle.block_tree.specs.Reads.{is_damage}
use Rattle.cfs_base.specs.Disk.{Image, block_at}
use Rattle.cfs_base.proofs.Passed.{is_passed}
use Rattle.finisher.proofs.Calls.{goes_reads, goes_then, goes_told, reads_end}
use Rattle.finisher.proofs.part.copy_read.Goals as goal

pub returns-clause-goes : goal.returns-clause-goes
returns-clause-goes g c = λ l space un root shadow.
    let d0 = c.args.disk.now in
    let d1 = c.read_shadow.new.disk in
    let d2 = c.copy.new.disk in
    let reads = c.in_ok-read_shadow.ensures.reads in
    goes_told g.D.Disk d0 d2 space space (Some l) _ c.copy.result (λ tells.
    goes_then g.D.Disk d0 d1 d2 space space space (Some l) (Some l) _ c.copy.result (goes_reads g.D.Disk d0 d1 d2 1 reads space (Some l))
    (c.copy.ensures.goes l space un root (ap (λ (i : Image). block_at i l.shadow) reads.content ∙ ap (block_at (g.D.Disk.content d0)) shadow ∙ sym (c.in_ok-read_shadow.ensures.content tells))))

pub returns-clause-ends : goal.returns-clause-ends
returns-clause-ends g c = λ k. reads_end g.D.Disk c.args.disk.now c.read_shadow.new.disk c.copy.new.disk 1 c.in_ok-read_shadow.ensures.reads 2 2 3 k c.copy.result (c.copy.ensures.ends k) c.copy.ensures.told (omega arith)

pub returns-in_err-read_shadow-clause-goes : goal.returns-in_err-read_shadow-clause-goes
returns-in_err-read_shadow-clause-goes g c = λ l space un root shadow. rw (is_passed _ _ c.from_residual.ensures.1) (record {
  goes = λ graph was. tt;
  comes = λ graph was. tt;
  leaves = (goes_reads g.D.Disk c.args.disk.now c.read_shadow.new.disk c.read_shadow.new.disk 1 c.in_err-read_shadow.ensures.reads space (Some l)).leaves;
  sound = λ graph was. ap is_damage c.in_err-read_shadow.ensures.refused.0;
  store = λ graph drafts was. tt;
})
