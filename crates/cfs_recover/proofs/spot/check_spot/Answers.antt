use Rattle.std.proofs.Common.{◌<◌, length, sym, subst, arith, rules, Option}
use Rattle.cfs_recover.proofs.Words.{BelongsTo, EntryPart, SpotFault}
use Rattle.cfs_recover.proofs.InMemory.{part_is}
use Rattle.cfs_recover.proofs.spot.check_spot.Goals as goal

pub returns-then-spot-maps-clause-told : goal.returns-then-spot-maps-clause-told
returns-then-spot-maps-clause-told c image are = SpotFault.PastDisk (omega (arith, are.size))

pub returns-then-not-belongs-clause-told : goal.returns-then-not-belongs-clause-told
returns-then-not-belongs-clause-told c image are =
    let inside : c.args.spot.block < length image = omega (arith, are.size) in
    SpotFault.NotOwned inside (λ is.
    let no = c.if-not-belongs.ensures.1 (subst (λ (p : Option EntryPart). BelongsTo c.args.spot.owner c.args.spot.place p)
    (sym (part_is image c.args.maps.now are c.args.spot.block inside c.entry_at-entry.result c.entry_at-entry.ensures)) is) in cc)

pub returns-clause-told : goal.returns-clause-told
returns-clause-told c image are =
    let inside : c.args.spot.block < length image = omega (arith, are.size) in
    record {
      on_disk = inside;
      owned = subst (λ (p : Option EntryPart). BelongsTo c.args.spot.owner c.args.spot.place p)
          (part_is image c.args.maps.now are c.args.spot.block inside c.entry_at-entry.result c.entry_at-entry.ensures)
          (c.if-not-belongs.ensures.0 (search rules));
    }
