use Rattle.std.proofs.Common.{◌<◌, length, List, ℕ, sym, ◌∙◌, subst, arith}
use Rattle.cfs_recover.proofs.Words.{HasNoRoot, IsFaultOf, IsRootBlock}
use Rattle.cfs_recover.proofs.Opened.{item_no_root, item_other_word}
use Rattle.cfs_recover.proofs.Refused.{told_err}
use Rattle.cfs_recover.proofs.walk_object.own_root.Goals as goal

pub returns-in_err-own-clause-told : goal.returns-in_err-own-clause-told
returns-in_err-own-clause-told g c image stored found =
    let below : c.args.item.block < length image = omega (arith, stored.size, c.requires) in
    let none = subst HasNoRoot (c.in_ok-content.ensures.told image stored) c.in_err-own.ensures.1 in
    told_err _ _ _ _ c.from_residual-in_err-own.ensures.1
    (subst (IsFaultOf image) (sym c.in_err-own.ensures.0) (item_no_root image c.args.walk.now c.args.item found below none))

pub returns-then-not-lists-clause-told : goal.returns-then-not-lists-clause-told
returns-then-not-lists-clause-told g c image stored found =
    item_other_word image c.args.walk.now c.args.item found c.in_ok-own.own
    (subst (λ (b : List ℕ). IsRootBlock b c.in_ok-own.own) (c.in_ok-content.ensures.told image stored) c.in_ok-own.ensures)
    (sym c.lists.ensures.lists ∙ c.if-not-lists.true)
