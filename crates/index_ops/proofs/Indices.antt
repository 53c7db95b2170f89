-- An index that the store has, as it is read.
use Rattle.index_ops.proofs.Words.{◌≡◌, ◌≢◌, ℕ, zero, suc, ◌/◌, ◌%◌, ◌<◌, false, List, length, refl, sym, ◌∙◌, ap, subst, arith, OnlyReads, AreBlocks, Image, block_at, Tells, Ghosts, Damage, Trouble, failed_after, tells_on, IsFault, IsPast, TreeFault, IsRootBlock, root_spelling, PastOn, bytes_in, leaf_bytes, leaf_block, levels_of, path_to, tree_of, content_is, index_to_leaves, is_damage, Index, Object, slot_of, IsTree, leaf_content, leaf_in, slot_in, held_at, tree_in, held, GivesIndex}
use Rattle.block_tree.proofs.Trees.{leaf_bytes_is}
use Rattle.intentions.proofs.Shown.{root_tree, shown_tells}
use Rattle.special_files.specs.View.{ShownView}
use Rattle.block_tree.specs.declared.root.Root.{Root}
use Rattle.index_ops.specs.Causes.{IsFarLeaf, IsLeafTrouble}
use Rattle.block_tree.specs.Reads.{trouble_of}
use Rattle.block_tree.specs.declared.follow.Pointer.{Pointer}
use Rattle.std.specs.Prelude.{[], ◌∷◌, ◌++◌}
use Rattle.cfs_base.specs.declared.refusal.Trouble.TheVariants as trouble
use Rattle.block_tree.specs.declared.fault.TreeFault.TheVariants as faults
use Rattle.ufs_model.specs.declared.object.Object.TheVariants as objects

-- what a pointer leads to, read
block_content : (image : Image) (fill v : ℕ) → AreBlocks image → (v ≢ 0 → v < length image) → leaf_content fill (held_at image v) ≡ bytes_in image fill v
block_content image fill zero blocks below = refl
block_content image fill (suc v) blocks below = content_is fill (held_at image (suc v)) (block_at image (suc v)) refl (blocks (suc v) (below (λ none. cc))).long

-- ---- its tree

module _ (image : Image) (owner : ℕ) (o : Object) (root : Root) (tree : IsTree (length image) owner (tree_in image (root_spelling root)) root o) where
  -- no pointer leads past the disk
  near : (path : List ℕ) (block : ℕ) → tree_of image (root_spelling root) path ≡ block → ¬ IsPast (length image) block
  near path zero leads past = past.0 refl
  near path (suc v) leads past = omega (arith, tree.on_disk path (held image (suc v)) (ap (held_at image) leads), past.1)

  far_not : (at leaf : ℕ) (damage : Damage) → ¬ IsFarLeaf image (length image) at root leaf damage
  far_not at leaf damage far = near (far.past.path ++ far.past.k ∷ []) far.pointer.block (sym (ap (λ (p : Pointer). p.block) far.past.is)) far.past.past

  below : (leaf : ℕ) → leaf_block image (root_spelling root) leaf ≢ 0 → leaf_block image (root_spelling root) leaf < length image
  below leaf some = by (leaf_block image (root_spelling root) leaf) refl some
    where
      by : (v : ℕ) → leaf_block image (root_spelling root) leaf ≡ v → v ≢ 0 → v < length image
      by zero leads other = absurd (other refl)
      by (suc v) leads other = tree.on_disk (path_to (levels_of (root_spelling root)) leaf) (held image (suc v)) (ap (held_at image) leads)

  -- of an index
  module _ (i : Index) (is : o ≡ objects.Index i) where
    gives : GivesIndex root (leaf_in (tree_in image (root_spelling root))) i
    gives = index_to_leaves root (leaf_in (tree_in image (root_spelling root))) i (tree.object ∙ is)

    pub slots_are : root.size / 8 ≡ length i.slots
    slots_are = sym gives.size

    pub slot_is : AreBlocks image → (slot : ℕ) → slot < length i.slots → slot_in (leaf_bytes image (root_spelling root) (slot / 64)) (slot % 64) ≡ slot_of i slot
    slot_is blocks slot inside =
        ap (λ (c : List ℕ). slot_in c (slot % 64)) (leaf_bytes_is image root (slot / 64) ∙ sym (block_content image root.fill (leaf_block image (root_spelling root) (slot / 64)) blocks (below (slot / 64))))
        ∙ sym (gives.slots slot (omega (arith, inside, gives.size)))

-- ---- so no damage is met

pub leaf_sound : {D : Type 0} {g : Ghosts D} {d : D} {at : ℕ} (v : ShownView g d at) → g.blocks d ≡ length (g.content d) → (root : Root) → IsRootBlock (block_at (g.content d) at) root → (leaf : ℕ) (new : D) (t : Trouble) → IsLeafTrouble g at root leaf d new t → is_damage t ≡ false
leaf_sound v size root is leaf new (trouble.Disk tried) bad = refl
leaf_sound {g = g} {d} {at} v size root is leaf new (trouble.Damaged damage) bad =
    absurd (far_not (g.content d) v.id.block v.object root (root_tree v.shown root is) at leaf damage (subst (λ (n : ℕ). IsFarLeaf (g.content d) n at root leaf damage) size (bad.1 (shown_tells v.shown))))

-- ---- a trouble of one call is one of the whole

-- a leaf of an index whose root was read
pub leaf_trouble : {D : Type 0} (g : Ghosts D) (at : ℕ) (old new : D) (root : Root) (leaf : ℕ) (fault : TreeFault) → IsFault g old new (PastOn (g.content old) (g.blocks old) (root_spelling root) leaf) fault
    → IsLeafTrouble g at root leaf old new (trouble_of at fault)
leaf_trouble g at old new root leaf faults.Disk failed = (refl, failed)
leaf_trouble g at old new root leaf (faults.BadPointer block holder) past = (refl, λ tells. record { pointer = record { holder = holder; block = block }; past = past.1 tells; block = refl })
