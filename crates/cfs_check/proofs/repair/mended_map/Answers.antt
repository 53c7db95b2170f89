use Rattle.std.proofs.Common.{◌≡◌, ◌+◌, ◌*◌, ℕ, List, length, take, replicate, sym, ◌∙◌, ap, subst, arith}
use Rattle.std.proofs.lemmas.List.{length-replicate}
use Rattle.cyl_map.proofs.Maps.{length-spelling}
use Rattle.cyl_map.specs.Entry.{IsEntry, spelling}
use Rattle.cyl_map.specs.Map.{map_spelling}
use Rattle.cyl_map.specs.Volume.{with_bytes}
use Rattle.cyl_map.specs.declared.entry.MapEntry.{MapEntry}
use Rattle.cfs_check.specs.Repair.{entries_below, mended_entry}
use Rattle.cfs_check.proofs.MapBytes.{all_spelled, more_spelled, none_spelled, put_long}
use Rattle.cfs_check.proofs.repair.mended_map.Goals as goal

pub loop-entry-init : goal.loop-entry-init
loop-entry-init c = record {
  long = ap length c.zero-map.ensures ∙ length-replicate {A = ℕ} 512 0;
  done = none_spelled c.args.uses.now c.args.cylinder c.zero-map.result;
}

pub put_in-requires-clause-entry : goal.put_in-requires-clause-entry
put_in-requires-clause-entry c =
    subst IsEntry (sym (c.mended_entry.ensures ∙ ap mended_entry c.of-used.ensures)) (c.requires.entries (64 * c.args.cylinder + c.loop-entry.entry))

pub loop-entry-preserved : goal.loop-entry-preserved
loop-entry-preserved c =
    let k = c.loop-entry.entry in
    let map = c.loop-entry.map in
    let entry = c.mended_entry.ensures ∙ ap mended_entry c.of-used.ensures in
    record {
      long = ap length c.put_in.ensures ∙ put_long map (spelling c.mended_entry.result) k c.loop-entry.invariant.long (omega arith) (length-spelling c.mended_entry.result);
      done =
          ap (take (8 * (k + 1))) (c.put_in.ensures ∙ ap (λ (e : MapEntry). with_bytes map k (spelling e)) entry)
          ∙ more_spelled c.args.uses.now c.args.cylinder k map c.loop-entry.invariant.long (omega arith) c.loop-entry.invariant.done;
    }

pub returns : goal.returns
returns c = all_spelled c.args.uses.now c.args.cylinder c.loop-entry.entry c.loop-entry.map (omega arith) c.loop-entry.invariant.long c.loop-entry.invariant.done
