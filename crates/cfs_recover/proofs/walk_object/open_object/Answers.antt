use Rattle.std.proofs.Common.{◌<◌, length, sym, subst, arith}
use Rattle.cfs_recover.proofs.Words.{IsFaultOf}
use Rattle.cfs_recover.proofs.Opened.{no_head, no_root_index, not_its_own, opened}
use Rattle.cfs_recover.proofs.Refused.{told_err, told_on}
use Rattle.cfs_recover.proofs.walk_object.open_object.Goals as goal

pub returns-in_err-check_spot-clause-told : goal.returns-in_err-check_spot-clause-told
returns-in_err-check_spot-clause-told g c image label stored are standing has own =
    let below : c.args.item.block < length image = omega (arith, stored.size, c.requires.on_disk) in
    told_err _ _ _ _ c.from_residual.ensures.1
    (not_its_own image c.args.item c.args.own.now own below _ (c.in_err-check_spot.ensures.told image are))

pub returns-in_err-head-clause-told : goal.returns-in_err-head-clause-told
returns-in_err-head-clause-told g c image label stored are standing has own =
    let below : c.args.item.block < length image = omega (arith, stored.size, c.requires.on_disk) in
    told_on _ _ _ _ _ c.from_residual-in_err-head.ensures.1 (c.in_err-head.ensures.told image stored are standing own.spelled)
    (no_head image c.args.item c.args.own.now own below (c.in_ok-check_spot.ensures.told image are).owned)

pub returns-in_err-check_sort-clause-told : goal.returns-in_err-check_sort-clause-told
returns-in_err-check_sort-clause-told g c image label stored are standing has own =
    let below : c.args.item.block < length image = omega (arith, stored.size, c.requires.on_disk) in
    let wrong = c.in_err-check_sort.ensures in
    told_err _ _ _ _ c.from_residual-in_err-check_sort.ensures.1
    (subst (IsFaultOf image) (sym wrong.0) (no_root_index image c.args.item c.args.own.now own below (c.in_ok-check_spot.ensures.told image are).owned c.in_ok-head.head (c.in_ok-head.ensures.told image stored are standing own.spelled) wrong.1 wrong.2))

pub returns-clause-told : goal.returns-clause-told
returns-clause-told g c image label stored are standing has own =
    let below : c.args.item.block < length image = omega (arith, stored.size, c.requires.on_disk) in
    opened image c.args.item c.args.own.now own below (c.in_ok-check_spot.ensures.told image are).owned c.in_ok-head.head (c.in_ok-head.ensures.told image stored are standing own.spelled) c.in_ok-check_sort.ensures
