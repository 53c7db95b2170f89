use Rattle.std.proofs.Common.{◌≡◌, ℕ, ◌+◌, ◌/◌, ◌<◌, Bool, true, false, cond, [], ◌∷◌, length, get_or, set, refl, sym, subst, arith}
use Rattle.cyl_alloc.specs.Space.{HasMoreFree}
use Rattle.cyl_map.specs.Mapped.{IsMapped}
use Rattle.cyl_map.specs.Volume.{map_of}
use Rattle.intentions.proofs.Runs.{few_freed, flips_more, flips_none, runs_begin, runs_on}
use Rattle.intentions.specs.Turned.{turned}
use Rattle.intentions.specs.Runs.{KeepsFree}
use Rattle.intentions.specs.declared.change.EntryChange.{EntryChange}
use mir.Val.{bool_byte}
use Rattle.intentions.proofs.run.change_first.Goals as goal

pub loop-count-init : goal.loop-count-init
loop-count-init c = record {
  flips = flips_none c.args.rule c.args.first c.args.blocks.now c.args.map.now c.requires.spells;
  runs = sym (runs_begin c.args.first c.args.blocks.now c.requires.first);
}

byte : (b : Bool) → bool_byte b ≡ cond b 1 0
byte true = refl
byte false = refl

pub loop-count-preserved : goal.loop-count-preserved
loop-count-preserved c =
    let rule = c.args.rule in
    let i = c.loop-count.count in
    let ns = c.args.blocks.now in
    let m = get_or ns i 0 in
    let n = c.args.first in
    let made = c.flip_in-is_freed.ensures in
    let value = c.of.ensures.value in
    let below : i < length ns = c.loop-count-test.true in
    let here : m / 64 ≡ n / 64 = omega (arith, c.if-block-first.false) in
    let in_map : map_of m ≡ map_of n = omega (arith, here) in
    record {
      flips = flips_more rule n i c.loop-count.freed ns c.args.map.now c.loop-count.map c.flip_in-is_freed.new.map c.requires.spells c.loop-count.invariant.flips below m refl here made.spells c.saturating_add-freed.result
          (λ image same. subst (λ (h : EntryChange). IsMapped (turned (λ k. h) (m ∷ [])) image (set image (map_of m) c.flip_in-is_freed.new.map)) value (made.now image same))
          (λ stays image other same has.
          let more = made.freed (subst KeepsFree (sym value) stays) image other n c.loop-count.freed in_map same has in
          let few = few_freed image (set other (map_of m) c.flip_in-is_freed.new.map) n (c.loop-count.freed + cond c.flip_in-is_freed.result 1 0) more in
          let given : c.loop-count.freed + cond c.flip_in-is_freed.result 1 0 ≡ c.saturating_add-freed.result = omega (arith, few, c.saturating_add-freed.ensures, byte c.flip_in-is_freed.result) in
          subst (λ (k : ℕ). HasMoreFree image n k (set other (map_of m) c.flip_in-is_freed.new.map)) given more);
      runs = omega (arith, runs_on (n / 64) m i ns below refl here, c.loop-count.invariant.runs);
    }
