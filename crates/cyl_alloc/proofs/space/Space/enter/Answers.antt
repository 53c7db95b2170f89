use Rattle.std.proofs.Common.{◌∙◌, ap, sym, subst, rules}
use Rattle.cyl_alloc.proofs.Words.{Image, IsMapOf, Kept, after_taking, entered, entries_of, is_free_entry, reads_make, then_tried, with_entry}
use Rattle.cyl_alloc.proofs.Counted.{counts_taken, counts_along}
use Rattle.cyl_alloc.proofs.Entries.{some_entry}
use Rattle.cyl_alloc.proofs.space.Space.enter.Goals as goal

pub returns : goal.returns
returns g c = record {
  enters = record {
    entered = search rules;
    on_disk = search rules;
    whole = search rules;
    told = search rules;
    made = then_tried g.D.Disk c.args.disk.now c.least.new.disk c.store_entry.new.disk 1 0 (reads_make g.D.Disk c.args.disk.now c.least.new.disk 1 c.in_ok-block.ensures.reads) c.in-Ok.ensures.made;
    counts = λ tells counts.
        let image = g.D.Disk.content c.args.disk.now in
        let n = c.in_ok-block.block in
        let e = entered c.args.state c.args.place c.args.owner in
        let same = c.least.ensures.reads.content in
        let is = subst (λ (i : Image). IsMapOf i n (entries_of c.least.new.map)) (sym same) (c.in_ok-block.ensures.map tells) in
        let wrote = c.in-Ok.ensures.written is ∙ ap (λ (i : Image). with_entry i n e) same in
        let old = some_entry image n (c.in_ok-block.ensures.whole tells) in
        let free = sym (ap is_free_entry old.1) ∙ (c.in_ok-block.ensures.found tells counts).free in
        counts_along _ _ _ _ (counts_taken image c.args.self.now n old.0 e counts old.1 c.requires.entry free c.requires.taken).0 wrote (c.took.ensures.taken ∙ ap (λ (kept : Kept). after_taking kept n) c.self.view_is);
    taken = search rules;
    kept = search rules;
    cylinders = search rules;
    left = search rules;
    full = search rules;
    refused = search rules;
    unless_tried = search rules;
    images = search rules;
    calls = search rules;
  };
}

pub returns-in_default : goal.returns-in_default
returns-in_default g c = record {
  enters = record {
    entered = search rules;
    on_disk = search rules;
    whole = search rules;
    told = search rules;
    made = search rules;
    counts = search rules;
    taken = search rules;
    kept = search rules;
    cylinders = search rules;
    left = search rules;
    full = search rules;
    refused = search rules;
    unless_tried = search rules;
    images = search rules;
    calls = search rules;
  };
}
