use Rattle.std.proofs.Common.{◌∙◌, ◌+◌, ◌*◌, ◌/◌, ℕ, ap, arith, length, sym}
use Rattle.collector_steps.proofs.Words.{IsSweptOf, Kept, Tells, err_from_is_err_and, free_in_cylinder, length-set, map_spelling}
use Rattle.collector_steps.proofs.Cylinders.{done, none_went, read_refused, write_refused}
use Rattle.collector_steps.proofs.Written.{unswept_so}
use Rattle.collector_steps.proofs.sweep.sweep_cylinder.Goals as goal

pub returns-in_err-map : goal.returns-in_err-map
returns-in_err-map g c =
    let p = err_from_is_err_and c.from_residual.result c.from_residual.ensures.1 in
    let d = c.args.disk.now in
    rw (p.1, p.2)
    (read_refused g.D.Disk c.args.directory.now.named c.args.pass c.args.cylinder c.kinds_follow_the_graph.ensures.root d c.read_map.new.disk c.args.space.now c.in_err-map.ensures.reads c.in_err-map.field-0.0
    c.in_err-map.ensures.untried (omega (arith, c.requires.size, c.requires.on_disk)) (λ tells. g.met.D.Disk.sized d tells.honest) c.in_err-map.ensures.refused)

pub returns-then-freed-eq0 : goal.returns-then-freed-eq0
returns-then-freed-eq0 g c =
    let directory = c.args.directory.now.named in
    let d = c.args.disk.now in
    let same : Tells g.D.Disk d → IsSweptOf directory c.args.pass c.args.cylinder (g.D.Disk.content d) (g.D.Disk.content d) = λ tells.
    unswept_so directory c.args.pass (g.D.Disk.content d) c.args.cylinder c.in_ok-map.map (c.in_ok-map.ensures.map tells) (omega (arith, c.requires.size, c.requires.on_disk, g.met.D.Disk.sized d tells.honest))
    (sym c.sweep_map-freed.ensures.count ∙ c.if-freed-eq0.true) in
    none_went g.D.Disk directory c.args.pass c.args.cylinder c.kinds_follow_the_graph.ensures.root d c.read_map.new.disk c.args.space.now c.read_map.ensures.reads same

pub returns-in-Err : goal.returns-in-Err
returns-in-Err g c =
    let d = c.args.disk.now in
    write_refused g.D.Disk c.args.directory.now.named c.args.pass c.args.cylinder c.kinds_follow_the_graph.ensures.root d c.read_map.new.disk c.args.space.now c.read_map.ensures.reads c.write_block.new.disk c.in_ok-map.map
    c.encode.result (c.encode.ensures.spelled ∙ ap map_spelling c.sweep_map-freed.ensures.swept) c.in_ok-map.ensures.map (omega (arith, c.requires.size, c.requires.on_disk)) (λ tells. g.met.D.Disk.sized d tells.honest) (λ none. c.if-freed-eq0.false (c.sweep_map-freed.ensures.count ∙ none))
    c.write_block.ensures.leaves c.write_block.ensures.calls c.in-Err.ensures.failed

pub returns-in-Ok : goal.returns-in-Ok
returns-in-Ok g c =
    let d = c.args.disk.now in
    done g.D.Disk c.args.directory.now.named c.args.pass c.args.cylinder c.kinds_follow_the_graph.ensures.root d c.read_map.new.disk c.args.space.now c.read_map.ensures.reads c.write_block.new.disk c.in_ok-map.map
    c.encode.result (c.encode.ensures.spelled ∙ ap map_spelling c.sweep_map-freed.ensures.swept) c.in_ok-map.ensures.map (omega (arith, c.requires.size, c.requires.on_disk)) (λ tells. g.met.D.Disk.sized d tells.honest) (λ none. c.if-freed-eq0.false (c.sweep_map-freed.ensures.count ∙ none))
    c.write_block.ensures.leaves c.write_block.ensures.calls c.gave.new.self c.in-Ok.ensures.content c.in-Ok.ensures.carries
    (ap (λ (k : Kept). length k.free) c.gave.ensures.given ∙ length-set c.args.space.now.free _ _)
    (ap (λ (k : Kept). k.left) c.gave.ensures.given)
    (λ image other are elsewhere more. c.gave.ensures.counts image other are elsewhere (more ∙ ap (λ (n : ℕ). free_in_cylinder image (64 * c.args.cylinder / 64) + n) (sym c.sweep_map-freed.ensures.count)))
