use Rattle.std.proofs.Common.{◌≡◌, sym, subst, rules}
use Rattle.cfs_base.proofs.Passed.{passed}
use Rattle.intentions.proofs.Words.{ChangesEntry, Image, IsMapOf, Leaves, MapEntry, Written, entries_of, left_now, map_of, map_with, with_entry}
use Rattle.intentions.specs.Entries as entries
use Rattle.intentions.proofs.Changes.{nothing_more, refused_after_reads, rewrites}
use Rattle.intentions.proofs.entry.change_entry.Goals as goal

pub returns-in_err-put_entry-clause-changes : goal.returns-in_err-put_entry-clause-changes
returns-in_err-put_entry-clause-changes g c =
    let old = c.args.disk.now in
    let read = c.read_entry.new.disk in
    let new = c.put_entry.new.disk in
    let n = c.args.block.0 in
    let reads = c.in_ok-entry.ensures.reads in
    passed (ChangesEntry {A = MapEntry} g.D.Disk n (λ e. entries.changed_entry c.args.how e) old new) _ _ c.from_residual-in_err-put_entry.ensures.1 (rewrites g.D.Disk n (λ e. entries.changed_entry c.args.how e) c.in_ok-entry.entry old read new _ (record {
      reads = reads;
      here = c.in_ok-entry.ensures.entry;
      whole = c.in_ok-entry.ensures.whole;
      written = tt;
      told = tt;
      images = λ tells. subst (λ (e : MapEntry). Leaves g.D.Disk read new (Written (left_now g.D.Disk read) (map_of n) (map_with (g.D.Disk.content read) n e))) c.of-now.ensures.value
          (c.put_entry.ensures.images (subst (λ (i : Image). IsMapOf i n (entries_of c.read_entry.new.map)) (sym reads.content) (c.in_ok-entry.ensures.map tells)));
      refused = refused_after_reads g.D.Disk old read new 1 n _ reads c.in_err-put_entry.ensures.refused;
      by = c.in_err-put_entry.ensures.tried;
      tried = c.put_entry.ensures.made;
      calls = c.put_entry.ensures.calls;
    }))

pub returns-clause-changes : goal.returns-clause-changes
returns-clause-changes g c =
    let old = c.args.disk.now in
    let read = c.read_entry.new.disk in
    let new = c.put_entry.new.disk in
    let n = c.args.block.0 in
    let reads = c.in_ok-entry.ensures.reads in
    let value = c.of-now.ensures.value in
    rewrites g.D.Disk n (λ e. entries.changed_entry c.args.how e) c.in_ok-entry.entry old read new _ (record {
      reads = reads;
      here = c.in_ok-entry.ensures.entry;
      whole = c.in_ok-entry.ensures.whole;
      written = λ tells. subst (λ (e : MapEntry). g.D.Disk.content new ≡ with_entry (g.D.Disk.content read) n e) value
          (c.in_ok-put_entry.ensures.written (subst (λ (i : Image). IsMapOf i n (entries_of c.read_entry.new.map)) (sym reads.content) (c.in_ok-entry.ensures.map tells)));
      told = c.in_ok-put_entry.ensures.told;
      images = λ tells. subst (λ (e : MapEntry). Leaves g.D.Disk read new (Written (left_now g.D.Disk read) (map_of n) (map_with (g.D.Disk.content read) n e))) value
          (c.put_entry.ensures.images (subst (λ (i : Image). IsMapOf i n (entries_of c.read_entry.new.map)) (sym reads.content) (c.in_ok-entry.ensures.map tells)));
      refused = tt;
      by = tt;
      tried = c.put_entry.ensures.made;
      calls = c.put_entry.ensures.calls;
    })

pub returns-in_err-entry-clause-changes : goal.returns-in_err-entry-clause-changes
returns-in_err-entry-clause-changes g c =
    let old = c.args.disk.now in
    let new = c.read_entry.new.disk in
    let reads = c.in_err-entry.ensures.reads in
    record {
      put = search rules;
      told = search rules;
      tried = search rules;
      images = λ tells e here. nothing_more g.D.Disk old new _ reads.images;
      keeps = search rules;
      leaves = λ course e fit run here may. nothing_more g.D.Disk old new _ reads.images;
      carries = search rules;
      holds = λ graph e run here may. nothing_more g.D.Disk old new _ reads.images;
      refused = search rules;
      unless_tried = search rules;
      whole = search rules;
      whole_tried = search rules;
      calls = search rules;
    }
