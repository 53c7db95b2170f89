-- A root that leads past the disk, as the disk has it.
use Rattle.std.proofs.Common.{ap, subst, ◌∙◌, sym, ◌≤◌, ℕ, List, get_or}
use Rattle.cfs_base.specs.Disk.{Image, block_at}
use Rattle.block_tree.proofs.Spellings.{nodes_of}
use Rattle.block_tree.specs.Pointers.{node_pointers, pointers_of}
use Rattle.block_tree.specs.Root.{IsRootBlock}
use Rattle.block_tree.specs.declared.root.Root.{Root}
use Rattle.leaf_changes.specs.Tops.{IsFarBlock, IsFarRoot}

pub far_block : (size at : ℕ) (image : Image) (root : Root) → IsRootBlock (block_at image at) root → IsFarRoot size root → IsFarBlock size image node_pointers at
far_block size at image root is far =
    (far.0, subst (λ (ns : List ℕ). size ≤ get_or ns far.0 0) (nodes_of root is.good.0 ∙ ap (pointers_of node_pointers) (sym is.spelled)) far.1.1)
