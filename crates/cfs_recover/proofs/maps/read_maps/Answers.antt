use Rattle.std.proofs.Common.{◌≡◌, ◌+◌, ◌*◌, ◌<◌, ℕ, List, length, ap, arith, length-append}
use Rattle.cfs_recover.proofs.Words.{AllMayStand, IsMap, MapEntry, block_at, map_spelling, reads_then}
use Rattle.cfs_recover.proofs.Grounded.{one_more_map}
use Rattle.cfs_recover.proofs.Refused.{stored_on}
use Rattle.cfs_recover.proofs.maps.read_maps.Goals as goal

pub loop-cylinder-preserved : goal.loop-cylinder-preserved
loop-cylinder-preserved g c =
    let old = c.args.disk.now in
    let mid = c.loop-cylinder.disk in
    let n = c.loop-cylinder.cylinder in
    let before = c.loop-cylinder.invariant in
    record {
      reads = reads_then g.D.Disk old mid c.read_good_map.new.disk n 1 (n + 1) before.reads c.in_ok-map.ensures.reads (omega arith);
      count = omega (arith, before.count, ap (length {A = List MapEntry}) c.in_ok-push.ensures.items, length-append {A = List MapEntry});
      told = λ image stored. one_more_map (λ (j : ℕ) (m : List MapEntry). IsMap m × (block_at image (64 * j) ≡ map_spelling m) × AllMayStand j m)
          c.loop-cylinder.maps.items c.push.new.self.items n c.in_ok-map.map c.in_ok-push.ensures.items before.count (before.told image stored)
          (c.in_ok-map.ensures.told image (stored_on g.D.Disk old mid n image before.reads stored));
    }

pub returns-clause-told : goal.returns-clause-told
returns-clause-told g c image stored =
    let before = c.loop-cylinder.invariant in
    let n = c.loop-cylinder.cylinder in
    let within : (j : ℕ) → j < length c.loop-cylinder.maps.items → j < n = λ j less. omega (arith, less, before.count) in (
      record {
        size = omega (arith, stored.size, c.requires.size, before.count, c.loop-cylinder-test.false, c.loop-cylinder.auto.cylinder-end);
        map = λ j less. (before.told image stored j (within j less)).0;
        spelled = λ j less. (before.told image stored j (within j less)).1;
      },
      λ j less. (before.told image stored j (within j less)).2,
    )
