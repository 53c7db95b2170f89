use Rattle.std.proofs.Common.{inr, List, ℕ, sym, subst}
use Rattle.cfs_check.specs.Repair.{IsRootIn, Mends}
use Rattle.cfs_recover.proofs.Keepings.{keeps_wrote, leads_tried}
use Rattle.cfs_check.proofs.Written.{root_step}
use Rattle.cfs_check.proofs.repair.write_root.Goals as goal

pub returns-in_err-write-clause-leads : goal.returns-in_err-write-clause-leads
returns-in_err-write-clause-leads g c graph b start run root =
    let its = subst (λ (x : List ℕ). IsRootIn graph b c.args.block x) (sym c.block.ensures) root in
    leads_tried g.D.Disk (Mends graph b) start c.args.disk.now c.write.new.self c.args.block c.block.result.now run (root_step graph b c.args.block c.block.result.now its)
    c.in_err-write.ensures.either c.write.ensures.images

pub returns-clause-leads : goal.returns-clause-leads
returns-clause-leads g c graph b start run root =
    let its = subst (λ (x : List ℕ). IsRootIn graph b c.args.block x) (sym c.block.ensures) root in
    leads_tried g.D.Disk (Mends graph b) start c.args.disk.now c.write.new.self c.args.block c.block.result.now run (root_step graph b c.args.block c.block.result.now its)
    (inr c.in_ok-write.ensures.written) c.write.ensures.images

pub returns-clause-keeps : goal.returns-clause-keeps
returns-clause-keeps g c graph b start run root =
    let its = subst (λ (x : List ℕ). IsRootIn graph b c.args.block x) (sym c.block.ensures) root in
    keeps_wrote g.D.Disk (Mends graph b) start c.args.disk.now c.write.new.self c.args.block c.block.result.now run (root_step graph b c.args.block c.block.result.now its)
    c.write.ensures.images c.write.ensures.same c.in_ok-write.ensures.written c.in_ok-write.ensures.told
