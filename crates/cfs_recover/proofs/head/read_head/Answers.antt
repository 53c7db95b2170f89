use Rattle.std.proofs.Common.{◌<◌, sym, subst, arith, length, List}
use Rattle.cfs_recover.proofs.Words.{HasNoneLike, HeadFault, IsLike}
use Rattle.cfs_recover.proofs.Refused.{told_err}
use Rattle.cfs_recover.proofs.Heads.{no_bit, stands_as, head_own, head_shadow, none_like}
use Rattle.cfs_recover.proofs.head.read_head.Goals as goal

pub returns-then-not-is_committed-clause-told : goal.returns-then-not-is_committed-clause-told
returns-then-not-is_committed-clause-told g c image stored are standing spelled =
    let inside : c.args.block < length image = omega (arith, stored.size, c.requires.on_disk) in
    let none = no_bit image c.args.maps.now are c.args.block inside c.entry_at.result c.entry_at.ensures (sym c.if-not-is_committed.ensures) in
    head_own image c.args.block c.args.own.now none spelled

pub returns-in-None-clause-told : goal.returns-in-None-clause-told
returns-in-None-clause-told g c image stored are standing spelled =
    let inside : c.args.block < length image = omega (arith, stored.size, c.requires.on_disk) in
    let below : c.args.block < length c.args.standing.now = omega (arith, c.requires.on_disk, c.requires.standing) in
    let none = stands_as image c.args.maps.now are c.args.block inside c.entry_at.result c.entry_at.ensures c.args.standing.now _ standing below (sym c.if-not-is_committed.ensures) c.in-None.ensures.of in
    head_own image c.args.block c.args.own.now none spelled

pub returns-in-Several-clause-told : goal.returns-in-Several-clause-told
returns-in-Several-clause-told g c image stored are standing spelled =
    let inside : c.args.block < length image = omega (arith, stored.size, c.requires.on_disk) in
    let below : c.args.block < length c.args.standing.now = omega (arith, c.requires.on_disk, c.requires.standing) in
    HeadFault.TwoShadows (stands_as image c.args.maps.now are c.args.block inside c.entry_at.result c.entry_at.ensures c.args.standing.now _ standing below (sym c.if-not-is_committed.ensures) c.in-Several.ensures.of)

pub returns-in_err-root-in-One-clause-told : goal.returns-in_err-root-in-One-clause-told
returns-in_err-root-in-One-clause-told g c image stored are standing spelled =
    let inside : c.args.block < length image = omega (arith, stored.size, c.requires.on_disk) in
    let below : c.args.block < length c.args.standing.now = omega (arith, c.requires.on_disk, c.requires.standing) in
    let one = stands_as image c.args.maps.now are c.args.block inside c.entry_at.result c.entry_at.ensures c.args.standing.now _ standing below (sym c.if-not-is_committed.ensures) c.in-One.ensures.of in
    let none = subst (HasNoneLike c.args.own.now) (c.in_ok-content-in-One.ensures.told image stored) c.in_err-root-in-One.ensures.1 in
    told_err _ _ _ _ c.from_residual-in_err-root-in-One.ensures.1
    (subst (HeadFault image c.args.block c.args.own.now) (sym c.in_err-root-in-One.ensures.0) (none_like image c.args.block c.args.own.now c.in-One.shadow one none))

pub returns-in_ok-root-in-One-clause-told : goal.returns-in_ok-root-in-One-clause-told
returns-in_ok-root-in-One-clause-told g c image stored are standing spelled =
    let inside : c.args.block < length image = omega (arith, stored.size, c.requires.on_disk) in
    let below : c.args.block < length c.args.standing.now = omega (arith, c.requires.on_disk, c.requires.standing) in
    let one = stands_as image c.args.maps.now are c.args.block inside c.entry_at.result c.entry_at.ensures c.args.standing.now _ standing below (sym c.if-not-is_committed.ensures) c.in-One.ensures.of in
    let root = c.in_ok-root-in-One.root in
    let like = subst (λ (content : List _). IsLike c.args.own.now content root) (c.in_ok-content-in-One.ensures.told image stored) c.in_ok-root-in-One.ensures in
    head_shadow image c.args.block c.args.own.now c.in-One.shadow root one like
