use Rattle.std.proofs.Common.{arith}
use Rattle.cfs_base.proofs.Passed.{is_passed}
use Rattle.special_files.proofs.creating.NewRoots.{claimed, root_entry, unclaimed}
use Rattle.special_files.proofs.creating.claim_root.Goals as goal

pub returns-clause-claims : goal.returns-clause-claims
returns-clause-claims g c = λ graph ds store least. claimed store least (root_entry c.args.block.0 c.requires.some (omega arith)) tt c.took.new.self c.in_ok-intend_claim.ensures c.took.ensures.taken

pub returns-in_err-intend_claim-clause-claims : goal.returns-in_err-intend_claim-clause-claims
returns-in_err-intend_claim-clause-claims g c = λ graph ds store least. rw (is_passed _ _ c.from_residual.ensures.1)
    (unclaimed store least (root_entry c.args.block.0 c.requires.some (omega arith)) c.in_err-intend_claim.field-0.0 c.args.space.now c.in_err-intend_claim.ensures)
