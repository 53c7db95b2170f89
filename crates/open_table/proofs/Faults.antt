-- Grants that may be acquired.
use Rattle.std.proofs.Common.{◌≡◌, ℕ, ◌<◌, Bool, true, false, cond, Option, Some, None, refl, arith}
use Rattle.open_table.proofs.Words.{MOST_GRANTS, Mode, fault_by, nat_le, nat_tests}
use Rattle.open_table.specs.declared.fault.AcquireFault.TheVariants as faults

pub none_against : (m : Option Mode) (count : ℕ) → fault_by m count ≡ None → m ≡ None
none_against (Some x) count is = cc
none_against None count is = refl

pub few_by : (m : Option Mode) (count : ℕ) → fault_by m count ≡ None → count < MOST_GRANTS
few_by (Some x) count is = cc
few_by None count is = below count (at (nat_le MOST_GRANTS count) is)
  where
    at : (b : Bool) → cond b (Some faults.Grants) None ≡ None → b ≡ false
    at true h = cc
    at false h = refl

    below : (n : ℕ) → nat_le MOST_GRANTS n ≡ false → n < MOST_GRANTS
    below n is = grind (arith, nat_tests)
