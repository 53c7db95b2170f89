use Rattle.std.proofs.Common.{◌≡◌, ◌<◌, ◌/◌, ℕ, Bool, IsTrue, [], length, sym, ◌∙◌, ap, subst, arith, if◌then◌else◌}
use Rattle.pair_disk.proofs.Words.{Half, Image, and_parts, block_at, gate_at, half_at, pairs-at, pairs_in, shown_half_of}
use Rattle.pair_disk.proofs.Calls.{on_ok}
use Rattle.pair_disk.proofs.pair.PairDiskDisk.read.Goals as goal

pub returns-clause-bytes : goal.returns-clause-bytes
returns-clause-bytes g c = on_ok c.read.result c.read.ensures.bytes (λ reads tells.
    let d = c.args.self.now in
    let below : Image = g.T.TornDisk.content d.lower in
    let n = c.args.at.0 in
    let half : ℕ = half_at (shown_half_of below n) n in
    let is = and_parts (g.T.TornDisk.told d.lower (gate_at n)) (g.T.TornDisk.told d.lower half) tells in
    let honest : IsTrue (g.T.TornDisk.honest d.lower) = g.met.T.TornDisk.only_honest d.lower (gate_at n) is.0 in
    let on : n < length below / 3 = omega (arith, g.met.T.TornDisk.sized d.lower honest, d.size, c.requires) in
    let here : c.at.result.0 ≡ half = c.at.ensures ∙ ap (λ (h : Half). half_at h n) (c.in_ok-shown.ensures.shown is.0) in
    let told = c.shown_half.ensures.stays.told half is.1 in
    reads (subst (λ (k : ℕ). IsTrue (g.T.TornDisk.told c.shown_half.new.lower k)) (sym here) told)
    ∙ ap (λ (i : Image). block_at i c.at.result.0) c.shown_half.ensures.stays.content ∙ ap (λ (k : ℕ). block_at below k) here ∙ sym (pairs-at below n on)
    ∙ sym (ap (λ (b : Bool). block_at (if b then pairs_in below else []) n) honest))
