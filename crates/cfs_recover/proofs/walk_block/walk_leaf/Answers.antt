use Rattle.std.proofs.Common.{sym, subst, arith}
use Rattle.cfs_recover.proofs.Words.{IsFaultOf}
use Rattle.cfs_recover.proofs.Good.{leaf_on}
use Rattle.cfs_recover.proofs.Objects.{block_kept, late_leaf}
use Rattle.cfs_recover.proofs.Refused.{told_err, told_on}
use Rattle.cfs_recover.proofs.walk_block.walk_leaf.Goals as goal

pub returns-in_err-check_leaf-clause-told : goal.returns-in_err-check_leaf-clause-told
returns-in_err-check_leaf-clause-told g c image owner done stored walk has last =
    told_err _ _ _ _ c.from_residual.ensures.1
    (subst (IsFaultOf image) (sym c.in_err-check_leaf.ensures.0) (late_leaf image owner c.args.root.now c.args.twig has last (omega (arith, stored.size, c.requires.there)) c.in_err-check_leaf.ensures.1))

pub returns-in_err-read_leaf-clause-told : goal.returns-in_err-read_leaf-clause-told
returns-in_err-read_leaf-clause-told g c image owner done stored walk has last =
    told_on _ _ _ _ _ c.from_residual-in_err-read_leaf.ensures.1 (c.in_err-read_leaf.ensures.told image owner done stored walk has last) (λ d wrong. wrong)

pub hold-requires : goal.hold-requires
hold-requires g c = omega (arith, c.requires.there, c.requires.room, c.in_ok-read_leaf.ensures.grows.room)

pub returns-clause-told : goal.returns-clause-told
returns-clause-told g c image owner done stored walk has last =
    let read = c.in_ok-read_leaf.ensures.told image owner done stored walk has last in (
      c.hold.ensures.told image done read.0 (block_kept image owner c.args.root.now c.args.twig has (omega (arith, stored.size, c.requires.there))),
      leaf_on image owner c.args.root.now _ _ c.hold.ensures.grows _ _ (record { within = c.in_ok-check_leaf.ensures; read = read.1 }),
    )
