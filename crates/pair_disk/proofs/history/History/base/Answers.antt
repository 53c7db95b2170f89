use Rattle.std.proofs.Common.{◌≡◌, take, IfOk, Ok, Err, Result, sym, ◌∙◌, ap}
use Rattle.pair_disk.proofs.Words.{TornState, replayed_writes, unwritten}
use Rattle.pair_disk.proofs.Replays.{gone_on, gone_through}
use Rattle.pair_disk.proofs.history.History.base.Goals as goal

pub loop-kept-preserved : goal.loop-kept-preserved
loop-kept-preserved c =
    let h = c.args.self.now in
    let i = c.loop-kept.kept-index in
    let first : TornState = unwritten h.first.items in
    let more = gone_on first c.args.at h.kept.items c.deref-kept-items.result.now c.deref-kept-items.ensures.value i c.kept-item.result c.loop-kept-test.true c.kept-item.is in
    c.base_after-base.ensures (replayed_writes first c.args.at (take i h.kept.items)) c.loop-kept.invariant ∙ sym (ap (λ (r : TornState). r.base) more)

if_ok : {V E : Type 0} (P Q : V → Type 0) (r : Result V E) → IfOk r P → ((v : V) → P v → Q v) → IfOk r Q
if_ok P Q (Ok v) p to = to v p
if_ok P Q (Err e) p to = tt

pub returns : goal.returns
returns c =
    let h = c.args.self.now in
    let first : TornState = unwritten h.first.items in
    let all = gone_through first c.args.at h.kept.items c.deref-kept-items.result.now c.deref-kept-items.ensures.value c.loop-kept.kept-index c.loop-kept-test.false in
    let is = c.loop-kept.invariant ∙ ap (λ (r : TornState). r.base) all in
    if_ok (λ v. v.items ≡ c.loop-kept.base.now.items) (λ v. v.items ≡ (replayed_writes first c.args.at h.kept.items).base) c.copy.result c.copy.ensures (λ v same. same ∙ is)
