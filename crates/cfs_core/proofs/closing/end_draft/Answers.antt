use Rattle.std.proofs.Common.{None, sym, ◌∙◌, subst, arith}
use Rattle.cfs_base.proofs.Went.{makes_within}
use Rattle.cfs_core.specs.Drafts.{EndsDraft}
use Rattle.cfs_core.proofs.Readied.{never_none, ready_for}
use Rattle.intentions.proofs.Changes.{all_ok}
use Rattle.special_files.specs.Limits.{abort_calls, abort_tries, commit_calls, commit_tries}
use Rattle.cfs_core.proofs.closing.end_draft.Goals as goal

pub commit-requires : goal.commit-requires
commit-requires g c =
    let ready = ready_for _ c.args.draft c.requires.ready in
    record { on_disk = ready.on_disk; size = c.requires.size; room = λ none. never_none c.args.draft.shadow ready.shadow.0 none ready.shadow.1; left = c.requires.left }

pub abort-requires : goal.abort-requires
abort-requires g c = record { on_disk = (ready_for _ c.args.draft c.requires.ready).on_disk; size = c.requires.size }

pub returns-then-not-commit : goal.returns-then-not-commit
returns-then-not-commit g c =
    let call = c.abort.ensures.call in
    subst (λ b. EndsDraft g.D.Disk b c.args.draft c.args.disk.now c.abort.new.disk c.args.space.now c.abort.new.space c.abort.result) (sym c.if-not-commit.true) (record {
      ends = c.abort.ensures.aborts;
      tried = call.tried;
      refused = call.refused;
      cylinders = call.cylinders;
      left = all_ok c.abort.result (call.left ∙ c.requires.left);
      calls = makes_within g.D.Disk c.args.disk.now c.abort.new.disk abort_calls abort_tries commit_calls commit_tries (omega arith) (omega arith) call.calls;
    })

pub returns : goal.returns
returns g c =
    let ready = ready_for _ c.args.draft c.requires.ready in
    let call = c.commit.ensures.call in
    subst (λ b. EndsDraft g.D.Disk b c.args.draft c.args.disk.now c.commit.new.disk c.args.space.now c.commit.new.space c.commit.result) (sym c.if-not-commit.false) (record {
      ends = λ v. c.commit.ensures.commits v None ready.bare;
      tried = call.tried (λ none. never_none c.args.draft.shadow ready.shadow.0 none ready.shadow.1);
      refused = call.ends.refused;
      cylinders = call.ends.cylinders;
      left = call.ends.left;
      calls = call.ends.calls;
    })
