use Rattle.std.proofs.Common.{◌≡◌, ℕ, List, set, ◌∙◌, ap, subst}
use Rattle.pair_disk.proofs.Words.{Image, PutsBelow, gate_at, half_at, pairs_in}
use Rattle.pair_disk.proofs.Calls.{half_changes, on_ok, replaced, replaces}
use Rattle.pair_disk.proofs.Counts.{on_err, tries_then}
use Rattle.pair_disk.proofs.below.replace.Goals as goal

pub returns-in_err-write_through-clause-changes : goal.returns-in_err-write_through-clause-changes
returns-in_err-write_through-clause-changes g c =
    let old = c.args.lower.now in
    let new = c.write_through.new.lower in
    let laws = g.met.T.TornDisk in
    half_changes g.T.TornDisk laws.only_honest laws.may_stay c.args.at.0 old new c.requires.flushed c.args.hidden c.requires.hidden (λ i. i ≡ set (pairs_in (g.T.TornDisk.content old)) c.args.at.0 c.args.from.now)
    (subst (λ (k : ℕ). PutsBelow g.T.TornDisk k old new) c.at.ensures c.write_through.ensures.writes)

pub returns-clause-changes : goal.returns-clause-changes
returns-clause-changes g c =
    let old = c.args.lower.now in
    let mid = c.write_through.new.lower in
    let new = c.write_through-2.new.lower in
    let laws = g.met.T.TornDisk in
    let first : PutsBelow g.T.TornDisk (half_at c.args.hidden c.args.at.0) old mid = subst (λ (k : ℕ). PutsBelow g.T.TornDisk k old mid) c.at.ensures c.write_through.ensures.writes in
    let put : ℕ → Image = λ k. set (g.T.TornDisk.content old) k c.args.from.now in
    let written : g.T.TornDisk.content mid ≡ put (half_at c.args.hidden c.args.at.0) = subst (λ (k : ℕ). g.T.TornDisk.content mid ≡ put k) c.at.ensures c.in_ok-write_through.ensures.written in
    replaces g.T.TornDisk laws.only_honest laws.may_stay laws.sized c.args.at.0 c.args.from.now c.args.hidden old mid new c.requires.on_disk c.requires.flushed c.requires.hidden first written c.in_ok-write_through.ensures.flushed
    (subst (λ (k : ℕ). PutsBelow g.T.TornDisk k mid new) c.gate_of.ensures c.write_through-2.ensures.writes)

pub returns-clause-replaced : goal.returns-clause-replaced
returns-clause-replaced g c =
    let old = c.args.lower.now in
    let mid = c.write_through.new.lower in
    let laws = g.met.T.TornDisk in
    let below : Image = g.T.TornDisk.content mid in
    let first : PutsBelow g.T.TornDisk (half_at c.args.hidden c.args.at.0) old mid = subst (λ (k : ℕ). PutsBelow g.T.TornDisk k old mid) c.at.ensures c.write_through.ensures.writes in
    let put : ℕ → Image = λ k. set (g.T.TornDisk.content old) k c.args.from.now in
    let written : g.T.TornDisk.content mid ≡ put (half_at c.args.hidden c.args.at.0) = subst (λ (k : ℕ). g.T.TornDisk.content mid ≡ put k) c.at.ensures c.in_ok-write_through.ensures.written in
    on_ok c.write_through-2.result c.write_through-2.ensures.written (λ is tells.
    replaced g.T.TornDisk laws.only_honest laws.may_stay laws.sized c.args.at.0 c.args.from.now c.args.hidden old mid c.write_through-2.new.lower c.requires.on_disk c.requires.flushed c.requires.hidden first written tells
    (is ∙ ap (λ (k : ℕ). set below k c.gate.result) c.gate_of.ensures ∙ ap (λ (b : List ℕ). set below (gate_at c.args.at.0) b) c.gate.ensures))

pub returns-clause-stopped : goal.returns-clause-stopped
returns-clause-stopped g c = on_err c.write_through-2.result c.write_through-2.ensures.stopped (λ some.
    tries_then g.T.TornDisk c.args.lower.now c.write_through.new.lower c.write_through-2.new.lower 2 2 c.in_ok-write_through.ensures.made some)
