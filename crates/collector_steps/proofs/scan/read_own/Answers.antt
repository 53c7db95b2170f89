use Rattle.std.proofs.Common.{◌≡◌, subst, sym}
use Rattle.cfs_base.specs.Disk.{Image}
use Rattle.collector_steps.proofs.Words.{IsRootBlock, Tells, block_at, err_from_is_err_and, root_spelling, tells_on}
use Rattle.collector_steps.proofs.Damage.{first_refused, own_refused}
use Rattle.collector_steps.proofs.Found.{alive_there, own_found, own_on}
use Rattle.collector_steps.proofs.scan.read_own.Goals as goal

pub returns-in_err-root-clause-refused : goal.returns-in_err-root-clause-refused
returns-in_err-root-clause-refused g c = λ draft.
    let p = err_from_is_err_and c.from_residual.result c.from_residual.ensures.1 in
    rw (p.1, p.2)
    (first_refused g.D.Disk c.args.block c.args.disk.now c.read_root.new.disk draft c.in_err-root.field-0.0
    c.in_err-root.ensures.refused)

pub returns-in_err-step-clause-refused : goal.returns-in_err-step-clause-refused
returns-in_err-step-clause-refused g c = λ draft.
    let p = err_from_is_err_and c.from_residual-in_err-step.result c.from_residual-in_err-step.ensures.1 in
    let old = c.args.disk.now in
    let root = c.in_ok-root.root in
    let spelled : Tells g.D.Disk old → root_spelling root ≡ block_at (g.D.Disk.content old) c.args.block = λ tells.
    sym (c.in_ok-root.ensures.root tells).spelled in
    rw (p.1, p.2)
    (own_refused g.D.Disk c.args.block old c.read_root.new.disk c.next_leaf.new.disk draft 1 c.read_root.ensures.reads
    root c.in_err-step.field-0.0 spelled c.in_err-step.ensures.refused)

pub returns-clause-found : goal.returns-clause-found
returns-clause-found g c = λ tells alive.
    let old = c.args.disk.now in
    let mid = c.read_root.new.disk in
    let reads = c.read_root.ensures.reads in
    let root = c.in_ok-root.root in
    let on = tells_on g.D.Disk old mid mid 1 reads tells in
    let is : IsRootBlock (block_at (g.D.Disk.content mid) c.args.block) root =
    subst (λ (image : Image). IsRootBlock (block_at image c.args.block) root) (sym reads.content)
    (c.in_ok-root.ensures.root tells) in
    own_found g.D.Disk old mid 1 c.args.block root reads is c.args.from c.next_leaf.new.into c.in_ok-step.step
    c.after_own.result
    (c.in_ok-step.ensures.step on (alive_there g.D.Disk old mid 1 c.args.block root reads is alive))
    (c.in_ok-step.ensures.content on) c.after_own.ensures

pub returns-clause-on : goal.returns-clause-on
returns-clause-on g c = rw c.after_own.ensures (own_on c.args.from c.in_ok-step.step c.in_ok-step.ensures.inside)
