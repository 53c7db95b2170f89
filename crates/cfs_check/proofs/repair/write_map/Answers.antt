use Rattle.std.proofs.Common.{◌*◌, ◌<◌, inr, length, refl, sym, ◌∙◌, arith}
use Rattle.std.specs.Cmp.Lexicographic.{same_text}
use Rattle.cfs_recover.proofs.Keepings.{keeps_wrote, leads_tried}
use Rattle.cfs_check.specs.Repair.{MendsMaps}
use Rattle.cfs_check.proofs.Written.{map_step}
use Rattle.cfs_check.proofs.repair.write_map.Goals as goal

pub returns-then-eq-clause-written : goal.returns-then-eq-clause-written
returns-then-eq-clause-written g c = inr (refl, sym c.block.ensures ∙ sym (same_text _ _ (sym c.if-eq.true ∙ c.eq.ensures)) ∙ c.mended_map-map.ensures)

pub returns-in_err-write-clause-leads : goal.returns-in_err-write-clause-leads
returns-in_err-write-clause-leads g c graph b start run is =
    let below : 64 * c.args.cylinder < length b = omega (arith, c.requires.inside, c.requires.size, g.met.D.Disk.sized c.args.disk.now run.tells.honest, run.content.0.size) in
    leads_tried g.D.Disk (MendsMaps graph b) start c.args.disk.now c.write.new.self (64 * c.args.cylinder) c.mended_map-map.result run
    (map_step graph b c.args.cylinder c.mended_map-map.result below (is ∙ sym c.mended_map-map.ensures))
    c.in_err-write.ensures.either c.write.ensures.images

pub returns-clause-leads : goal.returns-clause-leads
returns-clause-leads g c graph b start run is =
    let below : 64 * c.args.cylinder < length b = omega (arith, c.requires.inside, c.requires.size, g.met.D.Disk.sized c.args.disk.now run.tells.honest, run.content.0.size) in
    leads_tried g.D.Disk (MendsMaps graph b) start c.args.disk.now c.write.new.self (64 * c.args.cylinder) c.mended_map-map.result run
    (map_step graph b c.args.cylinder c.mended_map-map.result below (is ∙ sym c.mended_map-map.ensures))
    (inr c.in_ok-write.ensures.written) c.write.ensures.images

pub returns-clause-keeps : goal.returns-clause-keeps
returns-clause-keeps g c graph b start run is =
    let below : 64 * c.args.cylinder < length b = omega (arith, c.requires.inside, c.requires.size, g.met.D.Disk.sized c.args.disk.now run.tells.honest, run.content.0.size) in
    keeps_wrote g.D.Disk (MendsMaps graph b) start c.args.disk.now c.write.new.self (64 * c.args.cylinder) c.mended_map-map.result run
    (map_step graph b c.args.cylinder c.mended_map-map.result below (is ∙ sym c.mended_map-map.ensures))
    c.write.ensures.images c.write.ensures.same c.in_ok-write.ensures.written c.in_ok-write.ensures.told
