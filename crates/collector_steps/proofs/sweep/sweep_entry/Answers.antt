use Rattle.std.proofs.Common.{◌≡◌, ◌∙◌, ap, get_or, set, sym, cond, Bool, false}
use Rattle.collector_steps.proofs.Words.{unheld_entry, get_or_from_slice_get, goes, set-get_or}
use Rattle.collector_steps.proofs.sweep.sweep_entry.Goals as goal

pub returns-else-goes-clause-goes : goal.returns-else-goes-clause-goes
returns-else-goes-clause-goes c = c.goes-goes.ensures ∙ ap (goes c.args.directory.now.named c.args.pass) (sym (get_or_from_slice_get c.args.map.now c.args.place c.get.result unheld_entry c.get.ensures.got))

pub returns-else-goes-clause-swept : goal.returns-else-goes-clause-swept
returns-else-goes-clause-swept c =
    let directory = c.args.directory.now.named in
    let e = get_or c.args.map.now c.args.place unheld_entry in
    let stays : goes directory c.args.pass e ≡ false = sym (returns-else-goes-clause-goes c) ∙ c.if-goes.false in
    sym (ap (set c.args.map.now c.args.place) (ap (λ (t : Bool). cond t unheld_entry e) stays) ∙ set-get_or c.args.map.now c.args.place unheld_entry)
