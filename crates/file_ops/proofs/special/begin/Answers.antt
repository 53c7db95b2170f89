use Rattle.std.proofs.Common.{sym, subst}
use Rattle.special_files.specs.Begins.{BeginsDirect}
use Rattle.special_files.proofs.Begun.{direct_begins, own_root}
use Rattle.special_files.proofs.View.{read_leaves, read_refused}
use Rattle.file_ops.proofs.special.begin.Goals as goal

pub returns-in_err-root-clause-begins : goal.returns-in_err-root-clause-begins
returns-in_err-root-clause-begins g c = λ kept v. let own = own_root v in read_refused c.in_err-root.ensures.reads _ _ c.from_residual.ensures.1 (c.in_err-root.ensures.sound own.0 v.store.carries.tells own.1)

pub returns-clause-begins : goal.returns-clause-begins
returns-clause-begins g c = λ kept v.
    let reads = c.in_ok-root.ensures.reads in
    record {
      done = subst (BeginsDirect v c.read_root.new.disk kept) (sym c.direct.ensures) (direct_begins v reads c.in_ok-root.root (c.in_ok-root.ensures.root v.store.carries.tells));
      leaves = read_leaves reads;
      sound = tt;
    }
