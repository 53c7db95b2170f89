use Rattle.normal_files.proofs.Words.{refl}
use Rattle.normal_files.proofs.Come.{come_none}
use Rattle.normal_files.proofs.PutParts.{one_absent, one_done, one_leaves, one_long}
use Rattle.cfs_base.proofs.Passed.{is_passed}
use Rattle.normal_files.proofs.part.Part.put_one.Goals as goal

pub returns-then-block-eq0-clause-puts : goal.returns-then-block-eq0-clause-puts
returns-then-block-eq0-clause-puts g c = λ r w kept is amid. (one_absent c.requires.read is c.requires.from c.requires.to c.block-block.ensures.block amid c.if-block-eq0.true, λ m. refl)

pub returns-then-block-eq0-clause-ends : goal.returns-then-block-eq0-clause-ends
returns-then-block-eq0-clause-ends g c = come_none g.D.Disk c.args.disk.now 2 1

pub returns-clause-puts : goal.returns-clause-puts
returns-clause-puts g c = λ r w kept is amid.
    one_done c.requires.read is c.requires.from c.requires.to c.block-block.ensures.block amid c.if-block-eq0.false (c.in_ok-put_leaf.ensures.put amid.tells (one_long c.requires.read is c.requires.from c.requires.to c.block-block.ensures.block amid c.if-block-eq0.false)) refl

pub returns-clause-ends : goal.returns-clause-ends
returns-clause-ends g c = record { told = c.in_ok-put_leaf.ensures.told; knows = c.in_ok-put_leaf.ensures.tried; refused = tt; untried = tt; moves = tt; calls = c.in_ok-put_leaf.ensures.calls }

pub returns-in_err-put_leaf-clause-puts : goal.returns-in_err-put_leaf-clause-puts
returns-in_err-put_leaf-clause-puts g c = λ r w kept is amid. rw (is_passed c.from_residual.result c.in_err-put_leaf.field-0.0 c.from_residual.ensures.1) (one_leaves c.requires.read is c.requires.from c.requires.to c.block-block.ensures.block amid c.if-block-eq0.false (c.in_err-put_leaf.ensures.put amid.tells (one_long c.requires.read is c.requires.from c.requires.to c.block-block.ensures.block amid c.if-block-eq0.false)))
