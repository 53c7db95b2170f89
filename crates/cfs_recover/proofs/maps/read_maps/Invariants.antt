use Rattle.std.proofs.Common.{◌≡◌, ◌*◌, ◌<◌, ℕ, [], length, get_or}
use Rattle.cfs_recover.proofs.Words.{AllMayStand, Image, IsMap, OnlyReads, Stores, block_at, map_spelling}
use Rattle.cfs_recover.proofs.maps.read_maps.Given as goal

abbrev pub invariant-loop-cylinder : goal.invariant-loop-cylinder
invariant-loop-cylinder g l = record {
  reads : OnlyReads g.D.Disk l.cylinder l.initial.disk l.disk;
  count : length l.maps.items ≡ l.cylinder;
  told : (image : Image) → Stores g.D.Disk l.initial.disk image → (j : ℕ) → j < l.cylinder → IsMap (get_or l.maps.items j [])
      × (block_at image (64 * j) ≡ map_spelling (get_or l.maps.items j [])) × AllMayStand j (get_or l.maps.items j []);
}
