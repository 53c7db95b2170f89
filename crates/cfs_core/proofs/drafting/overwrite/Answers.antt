use Rattle.std.proofs.Common.{[], ◌∷◌, length, arith, subst, sym}
use Rattle.cfs_base.proofs.Went.{reads_none}
use Rattle.cfs_core.proofs.Words.{OnlyReads, Overwrite}
use Rattle.cfs_core.specs.Claimed.{claims_in_draft}
use Rattle.cfs_core.proofs.Claimed.{claims_all}
use Rattle.cfs_core.proofs.Handled.{on_ok}
use Rattle.cfs_core.proofs.Rewritten.{changes_so, few_leaves, goes_on, stays_of}
use Rattle.special_files.proofs.Refusals.{if_err}
use Rattle.special_files.specs.Limits.{resize_calls}
use Rattle.cfs_core.proofs.drafting.overwrite.Goals as goal

pub returns : goal.returns
returns g c =
    let few = few_leaves c.args.offset (length c.args.bytes.now) c.requires.most in
    let G = g.D.Disk in
    let call = c.write.ensures.call in
    changes_so G (Overwrite c.args.offset c.args.bytes.now) c.args.disk.now c.write.new.disk c.args.space.now c.write.new.space c.args.draft.now c.write.new.self c.write.result (omega (arith, few)) (omega (arith, few))
    (λ knows. let v = knows.view in record {
      goes = goes_on (c.write.ensures.goes v) (on_ok c.write.result (λ room done. record {
        becomes = done.becomes knows.of_it.0 knows.of_it.1;
        order = claims_all (claims_in_draft (Overwrite c.args.offset c.args.bytes.now) v.draft c.args.draft.now) (v.id.block ∷ []) (G.content c.args.disk.now) (G.content c.write.new.disk) done.order;
        room = room;
      }) (call.room v.ds v.id v.draft v.opened));
      full = if_err c.write.result (λ e is full. (is full).3 v.ds v.id v.draft v.opened) call.full;
    })
    call.ends call.kept (if_err c.write.result (λ e is full. let all = is full in (subst (OnlyReads G resize_calls c.args.disk.now) (sym all.0) (reads_none G resize_calls c.args.disk.now), all.1, all.2)) call.full) (stays_of call.stays)
