-- What is read of a draft's leaves.
use Rattle.std.proofs.Common.{◌≡◌, ℕ, zero, suc, ◌+◌, ◌-◌, ◌*◌, ◌/◌, ◌<◌, ◌≤◌, List, [], ◌∷◌, length, refl, sym, ◌∙◌, ap, subst, arith, slice_range}
use Rattle.special_files.proofs.Words.{AreBlocks, Drafting, File, Ghosts, Image, IsNear, IsNearTree, IsRead, IsReadTo, IsSafe, IsTree, Way, Object, OnlyReads, Tells, block_at, bytes_in, content_is, file_to_leaves, held, held_at, leaf_content, leaves_at, leaves_in, leaves_below, length-overlaid, pointer_to_node, read_all, read_more, reads_then, root_spelling, tree_in, tree_of, with_leaf_copied, leaf_block, leaf_pointers, zeros}
use Rattle.ufs_model.specs.declared.object.Object.TheVariants as objects
use Rattle.block_tree.specs.declared.root.Root as roots
use Rattle.special_files.proofs.Fresh.{read_leaf_is}
use Rattle.special_files.proofs.View.{tree_reads}
use Rattle.special_files.specs.View.{HasTree}
use Rattle.special_files.proofs.Trees.{node_at}

-- what a pointer leads to, read
block_content : (image : Image) (fill v : ℕ) → AreBlocks image → v < length image → leaf_content fill (held_at image v) ≡ bytes_in image fill v
block_content image fill zero blocks below = refl
block_content image fill (suc v) blocks below = content_is fill (held_at image (suc v)) (block_at image (suc v)) refl (blocks (suc v) below).long

-- a leaf of this block, read
pub leaf_read_is : (image : Image) (root : roots.Root) (leaf n : ℕ) → AreBlocks image → n ≡ leaf_block image (root_spelling root) leaf → n < length image → bytes_in image root.fill n ≡ leaf_content root.fill (leaves_below image root leaf)
leaf_read_is image root leaf n blocks is below = sym (block_content image root.fill n blocks below) ∙ ap (λ (v : ℕ). leaf_content root.fill (held_at image v)) is

-- ---- leaf after leaf

-- the leaves from the one at the offset on and before this one are read into a part of the file
pub record ReadTo {D : Type 0} (g : Ghosts D) (drafting : Drafting) (offset leaf : ℕ) (initial : List ℕ) (old now : D) (way : Way) (part : List ℕ) : Type 0 where
  pub from : offset / 512 ≤ leaf
  pub reads : OnlyReads g (2 * (leaf - offset / 512)) old now
  pub long : length part ≡ length initial
  pub safe : IsSafe (g.blocks now) drafting way
  pub told : HasTree g old drafting → IsRead (g.content old) drafting way × IsReadTo leaf drafting.root.fill (leaves_below (g.content old) drafting.root) offset part

module _ {D : Type 0} (g : Ghosts D) (drafting : Drafting) (offset leaf : ℕ) (initial : List ℕ) (d0 d1 : D) (way : Way) (part : List ℕ) (to : ReadTo g drafting offset leaf initial d0 d1 way part) where
  pub read_then : (d2 : D) (next : Way) (content after : List ℕ) → OnlyReads g 2 d1 d2 → IsSafe (g.blocks d1) drafting next
      → (HasTree g d1 drafting → IsRead (g.content d1) drafting way → content ≡ leaf_content drafting.root.fill (leaves_below (g.content d1) drafting.root leaf))
      → (Tells g d1 → IsRead (g.content d1) drafting way → IsRead (g.content d1) drafting next) → after ≡ with_leaf_copied leaf content offset part → ReadTo g drafting offset (leaf + 1) initial d0 d2 next after
  read_then d2 next content after reads safe bytes node same = record {
    from = omega (arith, to.from);
    reads = reads_then g d0 d1 d2 (2 * (leaf - offset / 512)) 2 (2 * (leaf + 1 - offset / 512)) to.reads reads (omega (arith, to.from));
    long = ap (length {A = ℕ}) same ∙ length-overlaid offset part (512 * leaf) content ∙ to.long;
    safe = subst (λ (size : ℕ). IsSafe size drafting next) (sym reads.same.size) safe;
    told = λ v.
        let before = to.told v in
        let w = tree_reads v to.reads in
        let is = subst (λ (i : Image). IsRead i drafting way) (sym to.reads.content) before.0 in
        let there : content ≡ leaf_content drafting.root.fill (leaves_below (g.content d0) drafting.root leaf) = bytes w is ∙ ap (λ (i : Image). leaf_content drafting.root.fill (leaves_below i drafting.root leaf)) to.reads.content in (
          subst (λ (i : Image). IsRead i drafting next) to.reads.content (node w.tells is),
          subst (IsReadTo (leaf + 1) drafting.root.fill (leaves_below (g.content d0) drafting.root) offset) (sym (same ∙ ap (λ (c : List ℕ). with_leaf_copied leaf c offset part) there))
              (read_more drafting.root.fill (leaves_below (g.content d0) drafting.root) offset part leaf before.1),
        );
  }

-- the whole part
pub read_whole : {D : Type 0} {g : Ghosts D} {d0 : D} {drafting : Drafting} (v : HasTree g d0 drafting) (f : File) (offset leaf : ℕ) (initial : List ℕ) (d1 : D) (way : Way) (part : List ℕ) → v.object ≡ objects.File f
    → ReadTo g drafting offset leaf initial d0 d1 way part → leaves_in (offset + length initial) ≤ leaf → offset + length initial ≤ drafting.root.size → part ≡ slice_range f.bytes offset (offset + length initial)
read_whole {g = g} {d0} {drafting} v f offset leaf initial d1 way part file to all within =
    let gives = file_to_leaves drafting.root (leaves_below (g.content d0) drafting.root) f (v.tree.object ∙ file) in
    subst (λ (n : ℕ). part ≡ slice_range f.bytes offset (offset + n)) to.long (read_all drafting.root (leaves_below (g.content d0) drafting.root) f offset part gives (omega (arith, within, to.long))
    (λ k inside early. (to.told v).1 k inside (omega (arith, early, all, ap (λ (n : ℕ). leaves_in (offset + n)) to.long))))

-- ---- a draft's nodes are near

-- a pointer of a tree leads to the disk, or nowhere
pointer_near : (image : Image) (size owner : ℕ) (content : List ℕ) (root : roots.Root) (o : Object) → IsTree size owner (tree_in image content) root o → 0 < size → (p : List ℕ) → tree_of image content p < size
pointer_near image size owner content root o tree some p = by (tree_of image content p) refl
  where
    by : (v : ℕ) → tree_of image content p ≡ v → tree_of image content p < size
    by zero none = omega (arith, none, some)
    by (suc v) is = let below : suc v < size = tree.on_disk p (held image (suc v)) (ap (held_at image) is) in omega (arith, is, below)

pub node_near : (image : Image) (size owner : ℕ) (drafting : Drafting) (o : Object) → IsTree (length image) owner (tree_in image (root_spelling drafting.root)) drafting.root o → length image ≡ size → 0 < size → (n : ℕ) → IsNear size image (pointer_to_node drafting.root n)
node_near image size owner drafting o tree long some n =
    let content = root_spelling drafting.root in
    let near = λ (p : List ℕ). pointer_near image (length image) owner content drafting.root o tree (omega (arith, long, some)) p in
    record {
      here = omega (arith, near (n ∷ []), node_at image drafting.root tree.spelled.good.0 n, long);
      leaves = λ k. omega (arith, near (n ∷ k ∷ []), read_leaf_is image drafting.root tree.spelled.good.0 n k (leaves_at image (pointer_to_node drafting.root n)) refl, long);
    }

-- so is each node of its tree
pub tree_near : (image : Image) (size owner : ℕ) (drafting : Drafting) (o : Object) → IsTree (length image) owner (tree_in image (root_spelling drafting.root)) drafting.root o → length image ≡ size → 0 < size → IsNearTree size image (root_spelling drafting.root)
tree_near image size owner drafting o tree long some [] few = record { here = some; leaves = λ k. omega (arith, zeros leaf_pointers.count k, some) }
tree_near image size owner drafting o tree long some (n ∷ []) few = subst (IsNear size image) (sym (node_at image drafting.root tree.spelled.good.0 n)) (node_near image size owner drafting o tree long some n)
tree_near image size owner drafting o tree long some (n ∷ k ∷ path) few = absurd (omega (arith, few))
