use Rattle.std.proofs.Common.{◌≡◌, ◌/◌, ℕ, length, ◌∙◌, ap, arith}
use Rattle.cyl_map.proofs.Words.{first_chunks}
use Rattle.cyl_map.specs.Map as spec
use Rattle.cyl_map.proofs.map.eights.Goals as goal

pub returns-clause-each : goal.returns-clause-each
unfolding spec.eights
returns-clause-each c =
    let count : length c.args.block.now / 8 ≡ 64 = omega arith in
    c.as_chunks.ensures.front ∙ ap (λ (n : ℕ). first_chunks 8 n c.args.block.now) count
