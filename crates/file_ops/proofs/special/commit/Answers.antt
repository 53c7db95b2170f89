use Rattle.file_ops.proofs.Words.{◌≡◌, None, Bool, true, false, refl, inl, if◌then◌else◌, refused_by, trouble_after_try, Ghosts, Kept, Trouble, IsDraftTrouble, has_met_damage}
use Rattle.block_tree.specs.Reads.{is_damage}
use Rattle.file_ops.specs.Changes.{IsCommitRefusal}
use Rattle.leaf_changes.specs.Tops.{Top}
use Rattle.special_files.specs.Committing.{draft_top}
use Rattle.cfs_base.specs.declared.refusal.Refused.TheVariants as refused
use Rattle.cfs_base.specs.declared.refusal.Trouble.TheVariants as trouble
use Rattle.file_ops.proofs.special.commit.Goals as goal

-- the trouble of a commit, told as one of the whole change
abbrev since : Bool → Trouble → Trouble
since wrote t = if wrote then trouble_after_try t else t

so_since : {D : Type 0} (g : Ghosts D) (at : Top) (old new : D) (before after : Kept) (wrote : Bool) (t : Trouble) → IsDraftTrouble g at old new after t
    → IsCommitRefusal g at wrote old new before after (refused_by (since wrote t)) × (refused_by (since wrote t) ≡ refused.Disk false → t ≡ trouble.Disk false) × (is_damage t ≡ false → has_met_damage (refused_by (since wrote t)) ≡ false)
so_since g at old new before after true (trouble.Disk tried) is = ((tried, refl, is), λ same. cc, λ none. refl)
so_since g at old new before after true (trouble.Damaged damage) is = (inl is, λ same. cc, λ none. none)
so_since g at old new before after false (trouble.Disk tried) is = ((tried, refl, is), λ same. cc, λ none. refl)
so_since g at old new before after false (trouble.Damaged damage) is = (inl is, λ same. cc, λ none. none)

pub returns-in-Ok-clause-commits : goal.returns-in-Ok-clause-commits
returns-in-Ok-clause-commits g c = λ v none. let e = c.in-Ok.ensures.commits v None none in record { done = e.done; leaves = e.leaves; sound = λ free. tt }

pub returns-in-Err : goal.returns-in-Err
returns-in-Err g c =
    let e = c.in-Err.ensures.call in
    let so = so_since g.D.Disk (draft_top c.args.draft) c.args.disk.now c.commit.new.disk c.args.space.now c.commit.new.space c.args.wrote c.in-Err.trouble e.ends.refused in
    rw c.since.ensures (record {
      commits = λ v none. let x = c.in-Err.ensures.commits v None none in record { done = tt; leaves = x.leaves; sound = λ free. so.2 x.sound };
      call = record { refused = so.0; untried = λ same. e.untried (so.1 same); cylinders = e.ends.cylinders; left = tt; bit = tt; calls = e.ends.calls };
    })
