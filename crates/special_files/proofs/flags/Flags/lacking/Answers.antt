use Rattle.std.proofs.Common.{ℕ, length, sym, ◌∙◌, ap, arith}
use Rattle.special_files.proofs.Words.{one_unless}
use Rattle.special_files.proofs.Levels.{none_unset, one_at_most, unset_last}
use Rattle.special_files.proofs.flags.Flags.lacking.Goals as goal

pub loop-at-init : goal.loop-at-init
loop-at-init c = record { from = omega arith; count = sym (ap (length {A = ℕ}) (none_unset c.args.self.now c.args.from)); most = omega arith }

pub loop-at-preserved : goal.loop-at-preserved
loop-at-preserved c =
    let inv = c.loop-at.invariant in
    let one = c.one_unless-count.ensures ∙ ap one_unless c.has.ensures in
    record {
      from = omega (arith, inv.from);
      count = omega (arith, inv.count, one, unset_last c.args.self.now c.args.from c.loop-at.at inv.from);
      most = omega (arith, inv.most, inv.from, c.one_unless-count.ensures, one_at_most c.has.result);
    }
