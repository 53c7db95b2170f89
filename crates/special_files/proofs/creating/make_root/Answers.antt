use Rattle.std.proofs.Common.{arith}
use Rattle.cfs_base.proofs.Passed.{is_passed}
use Rattle.special_files.proofs.Endings.{ends_wider, then_written}
use Rattle.special_files.proofs.creating.NewRoots.{root_entry, root_made}
use Rattle.special_files.proofs.creating.make_root.Goals as goal

pub write_root-requires : goal.write_root-requires
write_root-requires g c = omega (arith, c.requires.on_disk, (c.in_ok-claim_root.ensures.ends 0).calls.same.size)

pub returns-clause-made : goal.returns-clause-made
returns-clause-made g c = λ graph ds store least. root_made store least (root_entry c.args.block.0 c.requires.some (omega arith)) c.args.root.now (c.in_ok-claim_root.ensures.claims graph ds store least) c.write_root.result c.write_root.ensures.writes

pub returns-clause-ends : goal.returns-clause-ends
returns-clause-ends g c = λ at. then_written 3 2 (c.in_ok-claim_root.ensures.ends at) c.in_ok-claim_root.ensures.tried c.write_root.ensures.writes (omega arith) (omega arith)

pub returns-in_err-claim_root-clause-ends : goal.returns-in_err-claim_root-clause-ends
returns-in_err-claim_root-clause-ends g c = λ at. rw (is_passed _ _ c.from_residual.ensures.1) (let ends = c.in_err-claim_root.ensures.ends at in ends_wider 0 3 2 1 ends (omega arith) (omega arith) ends.moves.takes)

pub returns-in_err-claim_root-clause-made : goal.returns-in_err-claim_root-clause-made
returns-in_err-claim_root-clause-made g c = λ graph ds store least. rw (is_passed _ _ c.from_residual.ensures.1) (let ends = c.in_err-claim_root.ensures.claims graph ds store least in record { done = tt; leaves = ends.leaves; sound = ends.sound })
