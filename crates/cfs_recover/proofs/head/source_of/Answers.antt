use Rattle.std.proofs.Common.{◌<◌, ap, sym, length, arith}
use Rattle.cfs_recover.proofs.Words.{first_or}
use Rattle.cfs_recover.proofs.Heads.{no_bit, stands_as}
use Rattle.cfs_recover.proofs.head.source_of.Goals as goal

pub returns-then-not-is_committed : goal.returns-then-not-is_committed
returns-then-not-is_committed c image are standing one =
    let inside : c.args.block < length image = omega (arith, are.size, c.requires.below, c.requires.maps) in
    sym (ap (first_or c.args.block) (no_bit image c.args.maps.now are c.args.block inside c.entry_at.result c.entry_at.ensures (sym c.if-not-is_committed.ensures)))

pub returns-in-None : goal.returns-in-None
returns-in-None c image are standing one =
    let inside : c.args.block < length image = omega (arith, are.size, c.requires.below, c.requires.maps) in
    sym (ap (first_or c.args.block) (stands_as image c.args.maps.now are c.args.block inside c.entry_at.result c.entry_at.ensures c.args.standing.now _ standing c.requires.below (sym c.if-not-is_committed.ensures) c.in-None.ensures.of))

pub returns-in-Several : goal.returns-in-Several
returns-in-Several c image are standing one =
    let inside : c.args.block < length image = omega (arith, are.size, c.requires.below, c.requires.maps) in
    let several = stands_as image c.args.maps.now are c.args.block inside c.entry_at.result c.entry_at.ensures c.args.standing.now _ standing c.requires.below (sym c.if-not-is_committed.ensures) c.in-Several.ensures.of in
    absurd (omega (arith, several, one))

pub returns-in-One : goal.returns-in-One
returns-in-One c image are standing one =
    let inside : c.args.block < length image = omega (arith, are.size, c.requires.below, c.requires.maps) in
    sym (ap (first_or c.args.block) (stands_as image c.args.maps.now are c.args.block inside c.entry_at.result c.entry_at.ensures c.args.standing.now _ standing c.requires.below (sym c.if-not-is_committed.ensures) c.in-One.ensures.of))
