use Rattle.std.proofs.Common.{arith}
use Rattle.cfs_core.proofs.Words.{SetSize}
use Rattle.cfs_core.specs.Claimed.{claims_in_draft}
use Rattle.cfs_core.proofs.Claimed.{claims_dropped}
use Rattle.cfs_core.proofs.Rewritten.{changes_so, goes_on, resized_stays, spared_one}
use Rattle.intentions.proofs.Changes.{all_ok}
use Rattle.special_files.proofs.Refusals.{if_err}
use Rattle.special_files.specs.Refusal.{top_of}
use Rattle.cfs_core.proofs.drafting.set_size.Goals as goal

pub returns : goal.returns
returns g c =
    let G = g.D.Disk in
    let call = c.resize.ensures.call in
    changes_so G (SetSize c.args.size) c.args.disk.now c.resize.new.disk c.args.space.now c.resize.new.space c.args.draft.now c.resize.new.self c.resize.result (omega arith) (omega arith)
    (λ knows. let v = knows.view in record {
      goes = goes_on (c.resize.ensures.goes v) (all_ok c.resize.result (λ p. let done = p knows.of_it.0 knows.of_it.1 in record {
        becomes = done.becomes;
        order = claims_dropped v.id.block (claims_in_draft (SetSize c.args.size) v.draft c.args.draft.now) (G.content c.args.disk.now) (G.content c.resize.new.disk) done.order;
        room = done.room;
      }));
      full = if_err c.resize.result (λ e is full. let all = is full in (all.is, all.less)) (c.resize.ensures.full v knows.of_it.0 knows.of_it.1);
    })
    call.ends call.kept (spared_one G (top_of c.args.draft.now) 0 0 0 c.args.disk.now c.resize.new.disk c.args.space.now c.resize.new.space c.args.draft.now c.resize.new.self c.resize.result call.spared)
    (resized_stays c.args.size c.args.draft.now c.resize.new.self c.resize.result call.stays)
