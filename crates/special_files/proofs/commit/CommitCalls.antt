-- How commits and aborts end on any disk.
use Rattle.std.proofs.Common.{◌≡◌, ◌≢◌, Option, false, ℕ, ◌+◌, ◌≤◌, Err, refl, sym, subst, arith}
use Rattle.special_files.proofs.Words.{AbortCall, AreDraftParts, Drafting, draft_top, parts_top, CommitsSo, FarRoot, Ghosts, IsDraftTrouble, IsNoted, Kept, MakesAtMost, OnOk, OnlyReads, Result, Top, Trouble, far_root, makes_then, reads_make, tells_on, then_tried, abort_calls, abort_tries}
use Rattle.block_tree.specs.declared.root.Root as roots
use Rattle.cfs_base.specs.declared.refusal.Trouble.TheVariants as trouble
use Rattle.cyl_alloc.specs.Left.{LeftCommit}
use Rattle.cfs_base.proofs.Went.{makes_none}
use Rattle.special_files.proofs.Refusals.{if_err, on_ok, trouble_after_reads, trouble_as}

pub far_trouble : {D : Type 0} (g : Ghosts D) (at : Top) (d : D) (kept : Kept) (t : Trouble) → at.IsFar (g.blocks d) → t ≡ far_root at.block → IsDraftTrouble g at d d kept t
far_trouble g at d kept t far is = subst (IsDraftTrouble g at d d kept) (sym is) (FarRoot refl refl far)

-- the root block as its parts tell it
pub top_of_parts : {was : Drafting} {at : ℕ} {shadow : Option ℕ} {own root : roots.Root} {created : Option ℕ} → AreDraftParts was at shadow own root created → parts_top at shadow own root created ≡ draft_top was
top_of_parts p = sym (λ i. parts_top (p.at_is i) (p.shadow_is i) (p.own_is i) (p.root_is i) (p.created_is i))

module _ {D : Type 0} {g : Ghosts D} where
  -- refused, with the counts as they were
  pub commits_stopped : {at : Top} {n s : ℕ} {d0 d1 : D} {kept : Kept} {t : Trouble} → IsDraftTrouble g at d0 d1 kept t → MakesAtMost g n s d0 d1 → CommitsSo g at n s d0 d1 kept kept (Err t)
  commits_stopped is calls = record { refused = is; made = tt; settled = λ tells. tt; cylinders = refl; left = tt; calls = calls }

  -- a part of the draft leads past the disk
  pub commits_far : {at : Top} (n s : ℕ) {d : D} {kept : Kept} {t : Trouble} → at.IsFar (g.blocks d) → t ≡ far_root at.block → CommitsSo g at n s d d kept kept (Err t)
  commits_far {at} n s {d} {kept} {t} far is = commits_stopped (far_trouble g at d kept t far is) (makes_none g d n s)

  -- an abort that was refused, with the counts as they were
  pub aborts_stopped : {was : Drafting} {at : ℕ} {shadow : Option ℕ} {own root : roots.Root} {created : Option ℕ} {d0 d1 : D} {kept : Kept} {t : Trouble} → AreDraftParts was at shadow own root created → IsDraftTrouble g (parts_top at shadow own root created) d0 d1 kept t
      → t ≢ trouble.Disk false → MakesAtMost g abort_calls abort_tries d0 d1 → AbortCall g was d0 d1 kept kept (Err t)
  aborts_stopped {d0 = d0} {d1} {kept} {t} parts is tried calls = record { refused = subst (λ (top : Top). IsDraftTrouble g top d0 d1 kept t) (top_of_parts parts) is; tried = tried; made = tt; cylinders = refl; left = refl; calls = calls }

  -- after calls that only read, as one of another root at the block, which leads past the disk where this one does
  pub commits_on : {at now : Top} {n m s : ℕ} {d0 d1 d2 : D} {k0 k1 : Kept} {r : Result (Unit {0}) Trouble} → OnlyReads g n d0 d1 → at.block ≡ now.block → (at.IsFar (g.blocks d2) → now.IsFar (g.blocks d2)) → CommitsSo g at m s d1 d2 k0 k1 r
      → (most tries : ℕ) → n + m ≤ most → s ≤ tries → CommitsSo g now most tries d0 d2 k0 k1 r
  commits_on {at} {now} {n} {m} {s} {d0} {d1} {d2} {k1 = k1} {r} reads same on is most tries le lt = record {
    refused = if_err r (λ t why. trouble_as g at now same d0 d2 k1 on t (trouble_after_reads g at d0 d1 d2 k1 n t reads why)) is.refused;
    made = on_ok r (λ tried. then_tried g d0 d1 d2 n 0 (reads_make g d0 d1 n reads) tried) is.made;
    settled = λ tells. is.settled (tells_on g d0 d1 d1 n reads tells);
    cylinders = is.cylinders;
    left = subst (λ (b : ℕ). OnOk r ((l : LeftCommit) × IsNoted b k1.left l)) same is.left;
    calls = makes_then g d0 d1 d2 n m most 0 s tries (reads_make g d0 d1 n reads) is.calls le (omega (arith, lt));
  }
