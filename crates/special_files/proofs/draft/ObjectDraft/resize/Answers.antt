use Rattle.std.proofs.Common.{◌≤◌, refl, sym, ap, subst, arith}
use Rattle.special_files.proofs.Words.{Drafting, Resized, has_met_damage}
use Rattle.cfs_base.proofs.Went.{reads_none}
use Rattle.special_files.proofs.Refusals.{if_err, on_ok}
use Rattle.special_files.proofs.shrink.ShrinkRun.{grown_call}
use Rattle.special_files.proofs.shrink.Sized.{grown_full, grown_resized}
use Rattle.special_files.proofs.View.{read_leaves}
use Rattle.special_files.proofs.draft.ObjectDraft.resize.Goals as goal

-- ---- to no less

pub returns-then-self-size : goal.returns-then-self-size
returns-then-self-size g c =
    let more : c.args.self.now.root.size ≤ c.args.size = omega (arith, c.if-self-size.true, ap (λ (w : Drafting). w.root.size) c.self.view_is) in
    record {
      goes = λ v. record {
        done = on_ok c.grow.result (λ is f file. subst (Resized g.D.Disk v.graph v.ds v.id v.draft c.args.size c.args.floor c.args.disk.now c.args.disk.now c.args.space.now c.args.space.now c.args.self.now) (sym is.0) (grown_resized v f file c.args.size more c.requires.limit c.args.floor _ refl is.1)) c.grow.ensures.done;
        leaves = read_leaves (reads_none g.D.Disk 0 c.args.disk.now);
        sound = if_err c.grow.result (λ e is. ap has_met_damage is.0) c.grow.ensures.full;
      };
      full = λ v f file. if_err c.grow.result (λ e is full. grown_full v f file c.args.size more c.requires.limit c.args.floor _ e refl is.0 is.1) c.grow.ensures.full;
      call = grown_call g.D.Disk c.args.disk.now c.args.space.now c.args.size c.args.floor c.args.self.now c.grow.new.self c.grow.result (on_ok c.grow.result (λ is. is.0) c.grow.ensures.done) c.grow.ensures.kept c.grow.ensures.full;
      grown = λ any. (refl, refl);
    }

-- ---- to less

pub returns : goal.returns
returns g c = record {
  goes = c.shrink.ensures.goes;
  full = c.shrink.ensures.full;
  call = c.shrink.ensures.calls;
  grown = λ more. absurd (omega (arith, more, c.if-self-size.false, ap (λ (w : Drafting). w.root.size) c.self.view_is));
}
