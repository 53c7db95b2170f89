-- Pointers to leaves that were taken: in a node that there was, or to a new node in the root.
use Rattle.std.specs.Prelude.{ℕ, ◌==◌, if◌then◌else◌, set}
use Rattle.cfs_base.specs.Disk.{Image}
use Rattle.block_tree.specs.Node.{node_spelling}
use Rattle.block_tree.specs.Root.{root_spelling}
use Rattle.block_tree.specs.Way.{with_node}
use Rattle.normal_files.specs.Laid.{node_of}
use Rattle.normal_files.specs.Plans.{Plan}
use Rattle.block_tree.specs.declared.root.Root as roots

-- the root, once it leads to node n as it is to be
abbrev pub linked_root : roots.Root → ℕ → Plan → roots.Root
linked_root root n next = if next.grown then (if node_of root n == 0 then with_node root n next.block else root)
    else root

-- the image once the node, or the root at a block, is written
abbrev pub linked_image : Image → (at : ℕ) → roots.Root → ℕ → Plan → Image
linked_image a at root n next =
    if next.grown then (if node_of root n == 0 then set a at (root_spelling (with_node root n next.block))
    else set a next.block (node_spelling next.node)) else a
