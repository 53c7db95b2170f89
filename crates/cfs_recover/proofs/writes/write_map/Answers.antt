use Rattle.std.proofs.Common.{◌*◌, ◌<◌, inr, List, ℕ, length, sym, subst, arith}
use Rattle.cfs_recover.proofs.Words.{IsTidyMap, Tidies}
use Rattle.cfs_recover.proofs.Keepings.{keeps_wrote, leads_tried}
use Rattle.cfs_recover.proofs.Tidyings.{tidies_write}
use Rattle.cfs_recover.proofs.writes.write_map.Goals as goal

pub returns-in_err-write-clause-leads : goal.returns-in_err-write-clause-leads
returns-in_err-write-clause-leads g c a graph start run tidy =
    let below : 64 * c.args.cylinder < length a = omega (arith, c.requires.on_disk, g.met.D.Disk.sized c.args.disk.now run.tells.honest, run.content.size) in
    let map = subst (λ (b : List ℕ). IsTidyMap a graph c.args.cylinder b) (sym c.encode.ensures.spelled) tidy in
    leads_tried g.D.Disk (Tidies a graph) start c.args.disk.now c.write.new.self (64 * c.args.cylinder) c.encode.result run
    (λ k tidies. tidies_write a graph k c.args.cylinder c.encode.result tidies (omega (arith, below, tidies.size)) map)
    c.in_err-write.ensures.either c.write.ensures.images

pub returns-clause-leads : goal.returns-clause-leads
returns-clause-leads g c a graph start run tidy =
    let below : 64 * c.args.cylinder < length a = omega (arith, c.requires.on_disk, g.met.D.Disk.sized c.args.disk.now run.tells.honest, run.content.size) in
    let map = subst (λ (b : List ℕ). IsTidyMap a graph c.args.cylinder b) (sym c.encode.ensures.spelled) tidy in
    leads_tried g.D.Disk (Tidies a graph) start c.args.disk.now c.write.new.self (64 * c.args.cylinder) c.encode.result run
    (λ k tidies. tidies_write a graph k c.args.cylinder c.encode.result tidies (omega (arith, below, tidies.size)) map)
    (inr c.in_ok-write.ensures.written) c.write.ensures.images

pub returns-clause-keeps : goal.returns-clause-keeps
returns-clause-keeps g c a graph start run tidy =
    let below : 64 * c.args.cylinder < length a = omega (arith, c.requires.on_disk, g.met.D.Disk.sized c.args.disk.now run.tells.honest, run.content.size) in
    let map = subst (λ (b : List ℕ). IsTidyMap a graph c.args.cylinder b) (sym c.encode.ensures.spelled) tidy in
    keeps_wrote g.D.Disk (Tidies a graph) start c.args.disk.now c.write.new.self (64 * c.args.cylinder) c.encode.result run
    (λ k tidies. tidies_write a graph k c.args.cylinder c.encode.result tidies (omega (arith, below, tidies.size)) map)
    c.write.ensures.images c.write.ensures.same c.in_ok-write.ensures.written c.in_ok-write.ensures.told
