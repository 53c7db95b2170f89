use Rattle.std.proofs.Common.{◌≡◌, true, is_some, refl, ap}
use Rattle.cfs_base.proofs.Went.{makes_none}
use Rattle.cfs_core.proofs.Words.{Drafting}
use Rattle.cfs_core.proofs.MayOpen.{begun_open, refusal_so}
use Rattle.cfs_core.proofs.Openings.{or_memory}
use Rattle.cfs_base.proofs.Passed.{is_passed}
use Rattle.cfs_core.proofs.granting.first_draft.Goals as goal

pub returns-in_default-clause-begins : goal.returns-in_default-clause-begins
returns-in_default-clause-begins g c = record {
  ends = λ v shut. (ap is_some c.in_default.is, refl, refl);
  ready = tt;
  cause = tt;
  left = refl;
  calls = makes_none g.D.Disk c.args.disk.now 3 1;
}

pub returns-clause-begins : goal.returns-clause-begins
returns-clause-begins g c =
    let wants : is_some c.args.room ≡ true = ap is_some c.in-Some.is in
    let call = c.in_ok-begin.ensures.call in
    let begun = call.begun in
    let bare = ap (λ (w : Drafting). w.created) begun.1 in
    record {
      ends = λ v shut. let goes = c.in_ok-begin.ensures.begins v in
          (wants, record { opens = goes.done (shut wants); opened = begun_open g.D.Disk v begun.0 c.in_ok-begin.field-0 begun.1 (shut wants); bare = bare; leaves = goes.leaves; free = call.room });
      ready = (wants, ap (λ (w : Drafting). w.at) begun.1, (begun.0, ap (λ (w : Drafting). w.shadow) begun.1), bare);
      cause = tt;
      left = call.left;
      calls = call.calls;
    }

pub returns-in_err-begin-clause-begins : goal.returns-in_err-begin-clause-begins
returns-in_err-begin-clause-begins g c =
    let call = c.in_err-begin.ensures.call in
    rw (is_passed _ _ c.from_residual.ensures.1) (record {
      ends = λ v shut. let goes = c.in_err-begin.ensures.begins v in refusal_so g.D.Disk v c.begin.new.disk c.begin.new.space (is_some c.args.room) (ap is_some c.in-Some.is) c.in_err-begin.field-0.0 call goes.sound goes.leaves;
      ready = tt;
      cause = or_memory g.D.Disk c.args.at.0 4 c.args.disk.now c.begin.new.disk c.args.space.now c.begin.new.space c.in_err-begin.field-0.0 call;
      left = call.left;
      calls = call.calls;
    })

pub returns-in_err-begin-clause-never : goal.returns-in_err-begin-clause-never
returns-in_err-begin-clause-never g c =
    rw (is_passed _ _ c.from_residual.ensures.1) (λ is. rw is at c.in_err-begin.ensures.call.refused)

pub returns-in_err-begin-clause-cylinders : goal.returns-in_err-begin-clause-cylinders
returns-in_err-begin-clause-cylinders g c = c.in_err-begin.ensures.call.cylinders

pub returns-clause-cylinders : goal.returns-clause-cylinders
returns-clause-cylinders g c = c.in_ok-begin.ensures.call.cylinders
