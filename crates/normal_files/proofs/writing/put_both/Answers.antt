use Rattle.normal_files.proofs.Words.{Bool, ◌∙◌, sym, subst, arith, ◌*◌, ◌-◌, false}
use Rattle.normal_files.specs.Steps.{HasCome, Stops}
use Rattle.normal_files.proofs.Come.{come_err, come_none, come_then, come_within}
use Rattle.normal_files.proofs.WriteParts.{amid_at}
use Rattle.normal_files.proofs.writing.put_both.Goals as goal

pub returns-in-Err-clause-puts : goal.returns-in-Err-clause-puts
returns-in-Err-clause-puts g c = λ r w kept amid low_is high_is. c.in-Err.ensures.puts r w kept low_is (amid_at (sym c.requires.parts.first) amid)

pub returns-in-Err-clause-ends : goal.returns-in-Err-clause-ends
returns-in-Err-clause-ends g c = come_err false (come_none g.D.Disk c.args.disk.now 0 0) c.in-Err.ensures.ends (omega (arith, c.requires.parts.next, c.requires.parts.high_read.some)) (omega (arith, c.requires.parts.next, c.requires.parts.high_read.some))

pub returns-in-Ok-put-clause-puts : goal.returns-in-Ok-put-clause-puts
returns-in-Ok-put-clause-puts g c = λ r w kept amid low_is high_is.
    let low = c.in-Ok.ensures.puts r w kept low_is (amid_at (sym c.requires.parts.first) amid) in
    let high = c.in-Ok-put.ensures.puts r w kept high_is (amid_at (sym c.requires.parts.next) low.0) in
    (amid_at c.requires.parts.last high.0, λ m. high.1 m ∙ low.1 m)

pub returns-in-Ok-put-clause-ends : goal.returns-in-Ok-put-clause-ends
returns-in-Ok-put-clause-ends g c =
    let parts = c.requires.parts in
    subst (λ (b : Bool). HasCome g.D.Disk (2 * (c.args.high.now.leaves.to - c.args.low.now.leaves.from)) (c.args.high.now.leaves.to - c.args.low.now.leaves.from) b c.args.disk.now c.put-in-Ok.new.disk) (sym c.either.ensures)
    (come_within (come_then c.in-Ok.tried c.in-Ok-put.now c.in-Ok.ensures.ends c.in-Ok-put.ensures.ends) (omega (arith, parts.next, parts.low_read.some, parts.high_read.some)) (omega (arith, parts.next, parts.low_read.some, parts.high_read.some)))

pub returns-in-Err-put-clause-puts : goal.returns-in-Err-put-clause-puts
returns-in-Err-put-clause-puts g c = λ r w kept amid low_is high_is. c.in-Err-put.ensures.puts r w kept high_is (amid_at (sym c.requires.parts.next) (c.in-Ok.ensures.puts r w kept low_is (amid_at (sym c.requires.parts.first) amid)).0)

pub returns-in-Err-put-clause-ends : goal.returns-in-Err-put-clause-ends
returns-in-Err-put-clause-ends g c =
    let parts = c.requires.parts in
    subst (Stops g.D.Disk (2 * (c.args.high.now.leaves.to - c.args.low.now.leaves.from)) (c.args.high.now.leaves.to - c.args.low.now.leaves.from) c.args.disk.now c.put-in-Ok.new.disk) (sym c.after.ensures)
    (come_err c.in-Ok.tried c.in-Ok.ensures.ends c.in-Err-put.ensures.ends (omega (arith, parts.next, parts.low_read.some, parts.high_read.some)) (omega (arith, parts.next, parts.low_read.some, parts.high_read.some)))
