use Rattle.std.proofs.Common.{◌≡◌, true, subst, rules}
use Rattle.cfs_base.proofs.Passed.{passed}
use Rattle.cfs_base.specs.declared.refusal.Trouble.TheVariants as trouble
use Rattle.intentions.proofs.Words.{IfErr, IsGoodMap, Leaves, MapEntry, OnOk, Tells, entries_of, with_entry}
use Rattle.intentions.specs.Entries as entries
use Rattle.intentions.proofs.Changes.{nothing_more, rewrites_bit}
use Rattle.intentions.proofs.bit.change_bit.Goals as goal

pub returns : goal.returns
returns g c =
    let read = c.read_entry.new.disk in
    let new = c.put_between.new.disk in
    let n = c.args.root.0 in
    let value = c.of-now.ensures.value in
    record {
      changes = rewrites_bit g.D.Disk n (λ e. entries.changed_entry c.args.how e) c.in_ok-entry.entry (entries_of c.read_entry.new.map) c.args.disk.now read new c.put_between.result c.in_ok-entry.ensures.reads
          c.in_ok-entry.ensures.entry c.in_ok-entry.ensures.map c.in_ok-entry.ensures.whole
          (λ is. subst (λ (e : MapEntry). OnOk c.put_between.result (g.D.Disk.content new ≡ with_entry (g.D.Disk.content read) n e)) value (c.put_between.ensures.written is))
          c.put_between.ensures.told c.put_between.ensures.settled
          (λ tells is. subst (λ (e : MapEntry). Leaves g.D.Disk read new (λ k. k ≡ with_entry (g.D.Disk.content read) n e)) value (c.put_between.ensures.images tells is))
          c.put_between.ensures.refused c.put_between.ensures.stopped c.put_between.ensures.made c.put_between.ensures.calls;
    }

pub returns-in_err-entry : goal.returns-in_err-entry
returns-in_err-entry g c =
    let old = c.args.disk.now in
    let new = c.read_entry.new.disk in
    let reads = c.in_err-entry.ensures.reads in
    record {
      changes = record {
        put = search rules;
        told = search rules;
        settled = search rules;
        tried = search rules;
        images = λ tells e here. nothing_more g.D.Disk old new _ reads.images;
        keeps = search rules;
        leaves = λ course e fit run here may. nothing_more g.D.Disk old new _ reads.images;
        refused = search rules;
        unless_tried = search rules;
        whole = search rules;
        whole_tried = passed (λ r. IfErr r (λ t. t ≡ trouble.Disk true → Tells g.D.Disk old → IsGoodMap (g.D.Disk.content old) c.args.root.0)) c.from_residual.result c.in_err-entry.field-0.0 c.from_residual.ensures.1 (λ is. absurd (let no = c.in_err-entry.ensures.untried in cc));
        calls = search rules;
      };
    }
