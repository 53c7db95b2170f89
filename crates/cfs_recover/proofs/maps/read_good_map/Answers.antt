use Rattle.std.proofs.Common.{◌*◌, ◌+◌, ◌≤◌, length, arith}
use Rattle.cfs_recover.proofs.Grounded.{entry_fault, map_is, no_map}
use Rattle.cfs_recover.proofs.Refused.{told_err}
use Rattle.cfs_recover.proofs.maps.read_good_map.Goals as goal

pub returns-in_err-check_map-in-Ok-clause-told : goal.returns-in_err-check_map-in-Ok-clause-told
returns-in_err-check_map-in-Ok-clause-told g c image stored =
    let inside : 64 * c.args.cylinder + 64 ≤ length image = omega (arith, stored.size, c.requires.on_disk) in
    let is = map_is g.D.Disk c.args.disk.now image c.args.cylinder c.in-Ok.map stored c.in-Ok.ensures.map in
    told_err _ _ _ _ c.from_residual.ensures.1 (entry_fault image c.args.cylinder c.in-Ok.map is.0 is.1 inside _ c.in_err-check_map-in-Ok.ensures)

pub returns-in-Err-Damaged-clause-told : goal.returns-in-Err-Damaged-clause-told
returns-in-Err-Damaged-clause-told g c image stored =
    no_map g.D.Disk c.args.disk.now image c.args.cylinder c.in-Err-Damaged.damage stored (omega (arith, stored.size, c.requires.on_disk)) (rw c.in-Err-Damaged.field-0-is at c.in-Err-Damaged.ensures.refused)
