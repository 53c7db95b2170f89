use Rattle.std.proofs.Common.{◌∙◌, ap, sym, subst, refl}
use Rattle.cyl_alloc.proofs.Words.{Image, IsMapOf, Kept, after_giving, entries_of, unheld_entry, is_free_entry, with_entry}
use Rattle.cyl_alloc.proofs.Counted.{counts_given, counts_along}
use Rattle.cyl_alloc.proofs.Entries.{some_entry}
use Rattle.cyl_alloc.proofs.space.Space.release.Goals as goal

pub returns-clause-counts : goal.returns-clause-counts
returns-clause-counts g c tells counts held =
    let image = g.D.Disk.content c.args.disk.now in
    let n = c.args.block.0 in
    let same = c.load_map.ensures.reads.content in
    let is = subst (λ (i : Image). IsMapOf i n (entries_of c.load_map.new.map)) (sym same) (c.in_ok-load_map.ensures.map tells) in
    let wrote = c.in-Ok.ensures.written is ∙ ap (λ (i : Image). with_entry i n unheld_entry) same in
    let old = some_entry image n (c.in_ok-load_map.ensures.whole tells) in
    counts_along _ _ _ _ (counts_given image c.args.self.now n old.0 unheld_entry counts old.1 (record { in_table = refl }) (sym (ap is_free_entry old.1) ∙ held) refl).0 wrote (c.gave.ensures.given ∙ ap (λ (kept : Kept). after_giving kept n 1) c.self.view_is)
