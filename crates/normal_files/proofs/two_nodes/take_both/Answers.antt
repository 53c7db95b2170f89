use Rattle.normal_files.proofs.Words.{◌∙◌, ap, sym, subst, arith, ◌-◌, ◌*◌, ◌+◌, Refused}
use Rattle.normal_files.specs.Ends.{Halts, is_damaged}
use Rattle.normal_files.specs.Parts.{part_need}
use Rattle.normal_files.proofs.Ending.{gone_err, gone_then, gone_within, still_sound}
use Rattle.normal_files.proofs.two_nodes.take_both.Goals as goal

pub returns-in-Err-clause-ends : goal.returns-in-Err-clause-ends
returns-in-Err-clause-ends g c = gone_within c.in-Err.ensures.ends (omega arith) (omega arith) (omega arith)

pub returns-in-Ok-take-clause-takes : goal.returns-in-Ok-take-clause-takes
returns-in-Ok-take-clause-takes g c = λ w may.
    let one = c.in-Ok.ensures.takes w may in
    let two = c.in-Ok-take.ensures.takes w one.0 in
    (two.0, record { mid = g.D.Disk.content c.take.new.disk; low_has = one.1.0; low_whole = one.1.1; high_has = two.1.0; high_whole = two.1.1 })

pub returns-in-Ok-take-clause-ends : goal.returns-in-Ok-take-clause-ends
returns-in-Ok-take-clause-ends g c = gone_then c.in-Ok.next.grown c.in-Ok-take.second.grown c.in-Ok.ensures.ends c.in-Ok-take.ensures.ends

pub returns-in-Err-take-clause-takes : goal.returns-in-Err-take-clause-takes
returns-in-Err-take-clause-takes g c = λ w may.
    let two = c.in-Err-take.ensures.takes w (c.in-Ok.ensures.takes w may).0 in
    (two.0, ap is_damaged c.refused.ensures ∙ still_sound c.in-Ok.next.grown c.in-Err-take.error two.1)

pub returns-in-Err-take-clause-ends : goal.returns-in-Err-take-clause-ends
returns-in-Err-take-clause-ends g c =
    subst (λ (e : Refused). Halts g.D.Disk
    (5 * (c.args.low.now.leaves.to - c.args.low.now.leaves.from) + 1 + (5 * (c.args.high.now.leaves.to - c.args.high.now.leaves.from) + 1))
    (3 * (c.args.low.now.leaves.to - c.args.low.now.leaves.from) + 1 + (3 * (c.args.high.now.leaves.to - c.args.high.now.leaves.from) + 1))
    (part_need c.args.root.now c.args.low.now + part_need c.args.root.now c.args.high.now) c.args.disk.now c.take-2.new.disk c.args.space.now c.take-2.new.space e) (sym c.refused.ensures)
    (gone_err c.in-Ok.next.grown c.in-Err-take.error c.in-Ok.ensures.ends c.in-Err-take.ensures.ends)
