use Rattle.std.proofs.Common.{◌≡◌, Some, None, Option, IsSome, Ok, Err, arith, ap, ◌<◌, refl}
use Rattle.cyl_alloc.specs.Left.{LeftCommit, parts_left}
use Rattle.cfs_serve.specs.Turns.{Tidied, Stepped}
use Rattle.cfs_serve.proofs.server.turn_of.Goals as goal

-- something is left exactly where a part is
some_left : (o : Option LeftCommit) → 0 < parts_left o → IsSome o
some_left None more = absurd (omega (arith, more))
some_left (Some l) more = refl

none_left : (o : Option LeftCommit) → (0 < parts_left o → ⊥) → o ≡ None
none_left None few = refl
none_left (Some l) few = absurd (few (omega arith))

pub returns-in-Ok : goal.returns-in-Ok
returns-in-Ok g c = Tidied (Ok c.in-Ok.field-0) refl (some_left _ (omega (arith, c.parts_left.ensures, c.if-parts_left-gt0.true))) c.in-Ok.ensures

pub returns-in-Err : goal.returns-in-Err
returns-in-Err g c = Tidied (Err c.in-Err.fault) (ap Err c.fault_of.ensures) (some_left _ (omega (arith, c.parts_left.ensures, c.if-parts_left-gt0.true))) c.in-Err.ensures

pub collect-requires : goal.collect-requires
collect-requires g c = record { left = none_left _ (λ more. absurd (omega (arith, more, c.parts_left.ensures, c.if-parts_left-gt0.false))) }

pub returns-in-Ok-collect : goal.returns-in-Ok-collect
returns-in-Ok-collect g c = Stepped (Ok c.in-Ok-collect.step) refl (none_left _ (λ more. absurd (omega (arith, more, c.parts_left.ensures, c.if-parts_left-gt0.false)))) c.in-Ok-collect.ensures

pub returns-in-Err-collect : goal.returns-in-Err-collect
returns-in-Err-collect g c = Stepped (Err c.in-Err-collect.fault) refl (none_left _ (λ more. absurd (omega (arith, more, c.parts_left.ensures, c.if-parts_left-gt0.false)))) c.in-Err-collect.ensures
