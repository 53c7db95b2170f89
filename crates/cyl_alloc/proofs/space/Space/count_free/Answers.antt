use Rattle.std.proofs.Common.{◌*◌, ◌∙◌, ap, arith}
use Rattle.cyl_alloc.proofs.Words.{free_in_cylinder}
use Rattle.cyl_alloc.proofs.Entries.{free_count}
use Rattle.cyl_alloc.proofs.space.Space.count_free.Goals as goal

pub returns-clause-counted : goal.returns-clause-counted
returns-clause-counted g c tells =
    let image = g.D.Disk.content c.args.disk.now in
    c.free_count.ensures.count ∙ free_count image (64 * c.args.cylinder) c.in_ok-map.map (c.in_ok-map.ensures.map tells) ∙ ap (free_in_cylinder image) (omega arith)
