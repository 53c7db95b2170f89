-- One refusal told as another.
use Rattle.normal_files.proofs.Words.{◌≡◌, ◌+◌, ℕ, false, refl, subst, arith, OnlyReads, Tells, reads_then, stopped_after_reads, tells_on, Ghosts, Damage, Trouble, Image, leaf_pointers, is_damage, HasStoppedBy, ap, Far, FarLeaf, IsNodeTrouble, IsRootTrouble, ◌∙◌}
use Rattle.normal_files.specs.Refusal.{IsDamage, IsTrouble, FarNode, FarRoot, NoRoot}
use Rattle.block_tree.specs.Along.{FarBelow, FarTop, IsWayTrouble}
use Rattle.block_tree.specs.declared.root.Root as roots
use Rattle.block_tree.specs.Reads.{IsPast}
use Rattle.block_tree.specs.Root.{IsRootBlock}
use Rattle.block_tree.specs.declared.root.Root.{Root}
use Rattle.cfs_base.specs.Disk.{block_at}
use Rattle.leaf_changes.specs.Tops.{IsFarBlock, Top, root_top}
use Rattle.cfs_base.specs.declared.refusal.Trouble.TheVariants as trouble

-- ---- blocks that were read

-- no root stands there
pub root_trouble : {D : Type 0} (g : Ghosts D) (at : Top) (old new : D) (t : Trouble) → IsRootTrouble g at.block old new t → IsTrouble g at old new t
root_trouble g at old new (trouble.Disk tried) is = is.1
root_trouble g at old new (trouble.Damaged damage) is = NoRoot (ap (λ (d : Damage). d.code) is.0) (ap (λ (d : Damage). d.block) is.0) is.1

-- the pointer to a node that a root has, or one of the node's own, leads past the disk
pub node_trouble : {D : Type 0} (g : Ghosts D) (block : ℕ) (at : Top) (old new : D) (t : Trouble) → (IsPast (g.blocks old) block → at.IsFar (g.blocks old)) → IsNodeTrouble g block at.block old new t → IsTrouble g at old new t
node_trouble g block at old new (trouble.Disk tried) far is = is.1
node_trouble g block at old new (trouble.Damaged damage) far (Far is past) = FarRoot (ap (λ (d : Damage). d.code) is) (ap (λ (d : Damage). d.block) is) (far past)
node_trouble g block at old new (trouble.Damaged damage) any (FarLeaf is far) = FarNode (ap (λ (d : Damage). d.code) is) (λ tells. rw (ap (λ (d : Damage). d.block) is) (far tells))

-- the pointer of a root along a way, or one of a node below it
pub way_refused : {D : Type 0} (g : Ghosts D) (at : ℕ) (root : roots.Root) (old new : D) (t : Trouble) → IsWayTrouble g at root old new t → IsTrouble g (root_top at root) old new t
way_refused g at root old new (trouble.Disk tried) is = is.1
way_refused g at root old new (trouble.Damaged damage) (FarTop k is past) = FarRoot (ap (λ (d : Damage). d.code) is) (ap (λ (d : Damage). d.block) is) (k, past)
way_refused g at root old new (trouble.Damaged damage) (FarBelow code far) = FarNode code far

-- ---- after calls that only read

module _ {D : Type 0} (g : Ghosts D) (at : Top) (old mid new : D) where
  damage_since : (n : ℕ) (damage : Damage) → OnlyReads g n old mid → IsDamage g at mid damage → IsDamage g at old damage
  damage_since n damage reads (NoRoot code block why) = NoRoot code block (λ tells root. rw (← reads.content) (why (tells_on g old mid new n reads tells) root))
  damage_since n damage reads (FarRoot code block far) = FarRoot code block (subst at.IsFar reads.same.size far)
  damage_since n damage reads (FarNode code why) =
      FarNode code (λ tells. subst (λ (i : Image). IsFarBlock (g.blocks old) i leaf_pointers damage.block) reads.content
      (subst (λ (size : ℕ). IsFarBlock size (g.content mid) leaf_pointers damage.block) reads.same.size (why (tells_on g old mid new n reads tells))))

  pub trouble_after_reads : (n : ℕ) (t : Trouble) → OnlyReads g n old mid → IsTrouble g at mid new t → IsTrouble g at old new t
  trouble_after_reads n (trouble.Disk tried) reads is = stopped_after_reads g old mid new n tried reads is
  trouble_after_reads n (trouble.Damaged damage) reads is = damage_since n damage reads is

-- the same of another root at the block, which leads past the disk where this one does
module _ {D : Type 0} (g : Ghosts D) {at now : Top} (same : at.block ≡ now.block) (old : D) (on : at.IsFar (g.blocks old) → now.IsFar (g.blocks old)) where
  pub damage_as : (damage : Damage) → IsDamage g at old damage → IsDamage g now old damage
  damage_as damage (NoRoot code block why) = NoRoot code (block ∙ same) (subst (λ (n : ℕ). Tells g old → (root : Root) → ¬ IsRootBlock (block_at (g.content old) n) root) same why)
  damage_as damage (FarRoot code block far) = FarRoot code (block ∙ same) (on far)
  damage_as damage (FarNode code why) = FarNode code why

-- one read more
pub reads_one : {D : Type 0} {n : ℕ} (g : Ghosts D) (old mid new : D) → OnlyReads g n old mid → OnlyReads g 1 mid new → OnlyReads g (n + 1) old new
reads_one {n = n} g old mid new first last = reads_then g old mid new n 1 (n + 1) first last (omega arith)

pub tells_after : {D : Type 0} {n : ℕ} (g : Ghosts D) (old mid : D) → OnlyReads g n old mid → Tells g old → Tells g mid
tells_after {n = n} g old mid reads tells = tells_on g old mid mid n reads tells

-- ---- a device call failed

pub stopped_is : {D : Type 0} (g : Ghosts D) (at : Top) (old new : D) (t : Trouble) → HasStoppedBy g old new t → IsTrouble g at old new t
stopped_is g at old new (trouble.Disk tried) is = is
stopped_is g at old new (trouble.Damaged damage) is = absurd is

pub stopped_undamaged : {D : Type 0} (g : Ghosts D) (old new : D) (t : Trouble) → HasStoppedBy g old new t → is_damage t ≡ false
stopped_undamaged g old new (trouble.Disk tried) is = refl
stopped_undamaged g old new (trouble.Damaged damage) is = absurd is

pub stopped_later : {D : Type 0} {n : ℕ} (g : Ghosts D) (old mid new : D) (t : Trouble) → OnlyReads g n old mid → HasStoppedBy g mid new t → HasStoppedBy g old new t
stopped_later {n = n} g old mid new (trouble.Disk tried) reads is = stopped_after_reads g old mid new n tried reads is
stopped_later g old mid new (trouble.Damaged damage) reads is = absurd is
