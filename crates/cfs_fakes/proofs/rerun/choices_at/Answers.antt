use Rattle.std.proofs.Common.{◌≡◌, List, take, sym, subst, ap, ◌∙◌}
use Rattle.std.proofs.lemmas.List.{take_all}
use Rattle.cfs_fakes.specs.declared.kept.KeptCall.{KeptCall}
use Rattle.cfs_fakes.specs.Replay.{DiskState, zeros, made, made_at, replayed_calls, choices_of}
use Rattle.cfs_base.proofs.Replays.{replay_take}
use Rattle.cfs_fakes.proofs.rerun.choices_at.Goals as goal

pub loop-kept-preserved : goal.loop-kept-preserved
loop-kept-preserved c =
    let start = zeros c.args.blocks in
    let calls = c.args.calls.now in
    let at = replay_take made_at made start c.args.at calls c.loop-kept.kept-index c.kept-item.result c.loop-kept-test.true c.kept-item.is in
    subst (λ (s : DiskState). c.waiting_after-count.result ≡ choices_of s c.args.block) (sym at) (c.waiting_after-count.ensures (replayed_calls start c.args.at (take c.loop-kept.kept-index calls)) c.loop-kept.invariant)

pub returns : goal.returns
returns c = c.loop-kept.invariant ∙ ap (λ (l : List KeptCall). choices_of (replayed_calls (zeros c.args.blocks) c.args.at l) c.args.block) (take_all c.loop-kept.kept-index c.args.calls.now c.loop-kept-test.false)
