use Rattle.std.proofs.Common.{rules, ◌≡◌, true, false, refl}
use Rattle.trail_text.proofs.Words.{codes, is}
use Rattle.trail_text.proofs.read_ask.request_of.Goals as goal

pub returns-then-eq-2 : goal.returns-then-eq-2
returns-then-eq-2 c =
    let first : is c.args.verb.now (codes "create-file") ≡ false = search rules in
    let second : is c.args.verb.now (codes "create-index") ≡ true = search rules in
    rw (c.number_in-slots.ensures, c.ref_in-index.ensures, c.number_in-slot.ensures, first, second) refl

pub returns-then-eq-3 : goal.returns-then-eq-3
returns-then-eq-3 c =
    let first : is c.args.verb.now (codes "create-file") ≡ false = search rules in
    let second : is c.args.verb.now (codes "create-index") ≡ false = search rules in
    let third : is c.args.verb.now (codes "open") ≡ true = search rules in
    rw (c.id_in-id.ensures, c.mode_in-mode.ensures, first, second, third) refl
