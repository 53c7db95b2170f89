use Rattle.std.proofs.Common.{arith}
use Rattle.cyl_map.proofs.Words.{nat_tests}
use Rattle.cyl_map.proofs.RowReads.{passes_spelled, spelled_passes}
use Rattle.cyl_map.proofs.row.Row.spells.Goals as goal

pub returns : goal.returns
returns c = (
  λ is. passes_spelled c.args.self.now c.args.bytes.now c.from_be_bytes-owner.result c.told-bytes c.fits-bytes (omega (arith, c.from_be_bytes-owner.ensures)) c.from_be_bytes-owner.type_inv
      (record {
        low = grind (arith, nat_tests);
        high = grind (arith, nat_tests);
        bit = grind (arith, nat_tests);
        kind = grind (arith, nat_tests);
        within = grind (arith, nat_tests);
        owned = grind (arith, nat_tests);
      }),
  λ is.
      let passes = spelled_passes c.args.self.now c.args.bytes.now is in
      grind (arith, nat_tests),
)
