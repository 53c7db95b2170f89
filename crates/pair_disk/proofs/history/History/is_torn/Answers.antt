use Rattle.std.proofs.Common.{take, sym, ◌∙◌, ap}
use Rattle.pair_disk.proofs.Words.{TornState, replayed_writes, unwritten}
use Rattle.pair_disk.proofs.Replays.{gone_on, gone_through}
use Rattle.pair_disk.proofs.history.History.is_torn.Goals as goal

pub loop-kept-preserved : goal.loop-kept-preserved
loop-kept-preserved c =
    let h = c.args.self.now in
    let i = c.loop-kept.kept-index in
    let first : TornState = unwritten h.first.items in
    let more = gone_on first c.args.at h.kept.items c.deref-kept-items.result.now c.deref-kept-items.ensures.value i c.kept-item.result c.loop-kept-test.true c.kept-item.is in
    c.torn_after-torn.ensures (replayed_writes first c.args.at (take i h.kept.items)) c.loop-kept.invariant ∙ sym (ap (λ (r : TornState). r.torn c.args.block) more)

pub returns : goal.returns
returns c =
    let h = c.args.self.now in
    let all = gone_through (unwritten h.first.items) c.args.at h.kept.items c.deref-kept-items.result.now c.deref-kept-items.ensures.value c.loop-kept.kept-index c.loop-kept-test.false in
    c.loop-kept.invariant ∙ ap (λ (r : TornState). r.torn c.args.block) all
