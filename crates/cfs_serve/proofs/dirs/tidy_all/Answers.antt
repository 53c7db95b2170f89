use Rattle.std.proofs.Common.{subst, Ok, arith}
use Rattle.cfs_serve.proofs.NamesEnd as ended
use Rattle.cfs_serve.proofs.Tidied.{idle_made, step_made}
use Rattle.cfs_core.specs.Tidy.{TidiesVolume}
use Rattle.cfs_serve.specs.Tidied.{After, Begun}
use Rattle.cfs_serve.proofs.dirs.tidy_all.Goals as goal

pub parts-init : goal.parts-init
parts-init g c = record { made = Begun }

pub parts-preserved : goal.parts-preserved
parts-preserved g c =
    let tidy = c.in_default.field-0 in
    let did : TidiesVolume g.D.Disk c.parts.core c.tidy.new.self (Ok tidy) = subst (λ r. TidiesVolume g.D.Disk c.parts.core c.tidy.new.self r) c.in_default.is c.tidy.ensures in
    record { made = After c.parts.invariant.made (step_made g.D.Disk c.parts.core c.tidy.new.self tidy (let some = c.parts-test.true in let is = c.parts_left.ensures.is in omega (arith, some, is)) did) }

pub returns-in-Ok : goal.returns-in-Ok
returns-in-Ok g c =
    let tidy = c.in-Ok.field-0 in
    let did : TidiesVolume g.D.Disk c.parts.core c.tidy-2.new.self (Ok tidy) = subst (λ r. TidiesVolume g.D.Disk c.parts.core c.tidy-2.new.self r) c.in-Ok.is c.tidy-2.ensures in
    record { mid = c.parts.core; parts = c.parts.invariant.made; ends = idle_made g.D.Disk c.parts.core c.tidy-2.new.self tidy (let none = c.parts-test.false in let is = c.parts_left.ensures.is in omega (arith, none, is)) did }
