use Rattle.std.proofs.Common.{ℕ, sym, subst}
use Rattle.intentions.proofs.Words.{ChangesBit, with_bit}
use Rattle.intentions.proofs.Committed.{commits_by}
use Rattle.intentions.proofs.bit.commit.Goals as goal

pub returns : goal.returns
returns g c =
    let old = c.args.disk.now in
    let new = c.change_bit.new.disk in
    let result = c.change_bit.result in
    let bit = c.change_bit.ensures.changes in
    record {
      changes = bit;
      commits = λ graph id was o s same run at draft.
          (commits_by g.D.Disk old new graph id result was o s (subst (λ (n : ℕ). ChangesBit g.D.Disk n (λ e. with_bit e) old new result) (sym same) bit) run at draft).0;
      holds = λ graph id was o s same run at draft.
          (commits_by g.D.Disk old new graph id result was o s (subst (λ (n : ℕ). ChangesBit g.D.Disk n (λ e. with_bit e) old new result) (sym same) bit) run at draft).1;
    }
