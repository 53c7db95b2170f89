use Rattle.std.proofs.Common.{◌%◌, Some, refl, ◌∙◌, ap, sym, subst, arith}
use Rattle.intentions.proofs.Words.{IsEntry, entries_of, entry_is, get_or-entries_of, length-entries_of}
use Rattle.intentions.proofs.entry.read_entry.Goals as goal

pub returns-clause-entry : goal.returns-clause-entry
returns-clause-entry g c = λ tells.
    let n = c.args.block.0 in
    let e = c.entry_in.result in
    let map = c.load_map.new.map in
    entry_is (g.D.Disk.content c.args.disk.now) n (entries_of map) (c.in_ok-load_map.ensures.map tells) n e refl
    ∙ ap Some (get_or-entries_of map (n % 64) e (omega arith) ∙ sym c.entry_in.ensures)

pub returns-clause-valid : goal.returns-clause-valid
returns-clause-valid g c =
    let at = c.args.block.0 % 64 in
    let e = c.entry_in.result in
    let map = c.load_map.new.map in
    subst IsEntry (get_or-entries_of map at e (omega arith) ∙ sym c.entry_in.ensures)
    (c.in_ok-load_map.ensures.spells.entries.each at e (omega (arith, length-entries_of map)))
