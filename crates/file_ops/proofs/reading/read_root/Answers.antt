use Rattle.file_ops.proofs.Words.{sym, ◌∙◌, ap, Root, file_to_leaves, one_root_block}
use Rattle.normal_files.proofs.Refusals.{root_trouble}
use Rattle.file_ops.proofs.Views.{file_at}
use Rattle.intentions.proofs.Shown.{shown_tells}
use Rattle.file_ops.proofs.reading.read_root.Goals as goal
use Rattle.leaf_changes.specs.Tops.{still_top}

pub returns-in-Ok-clause-size : goal.returns-in-Ok-clause-size
returns-in-Ok-clause-size g c = λ v f is.
    let file = file_at v is in
    record {
      size_is = ap (λ (r : Root). r.size) (one_root_block _ c.in-Ok.root file.root (c.in-Ok.ensures.root (shown_tells v.shown)) file.tree.spelled) ∙ sym (file_to_leaves file.root _ f file.tree.object).size;
      sound = tt;
    }

pub returns-in-Err-clause-size : goal.returns-in-Err-clause-size
returns-in-Err-clause-size g c = λ v f is.
    let file = file_at v is in
    record { size_is = tt; sound = c.in-Err.ensures.sound file.root (shown_tells v.shown) file.tree.spelled }

pub returns-in-Err-clause-refused : goal.returns-in-Err-clause-refused
returns-in-Err-clause-refused g c = root_trouble g.D.Disk (still_top c.args.at.0) c.args.disk.now c.read_root.new.disk c.in-Err.trouble c.in-Err.ensures.refused
