-- The node at the end of a way.
use Rattle.normal_files.proofs.Words.{◌≡◌, ℕ, ◌/◌, ◌%◌, ◌<◌, List, length, get_or, All, ◌∙◌, ap, arith, Image, leaf_pointers, node_levels, path_to, leaves_at}
use Rattle.block_tree.specs.Along.{IsTo, IsTopWithin, IsWay, IsWayWithin, pointer_on}
use Rattle.block_tree.specs.Path.{SamePlaces, path_of}
use Rattle.block_tree.specs.declared.along.Way.{Way}
use Rattle.block_tree.specs.declared.root.Root as roots
use Rattle.normal_files.specs.Laid.{node_of}
use Rattle.normal_files.specs.Ways.{IsToNode}
use Rattle.block_tree.specs.Along.{way_leaves}
use Rattle.normal_files.proofs.LeafReads.{one_node_path}

-- ---- where no node was read yet

pub unread_way : (image : Image) (root : roots.Root) (way : Way) → way.read ≡ 0 → IsWay image root way
unread_way image root way none d less = absurd (omega (arith, none, less))

pub unread_top : (size : ℕ) (root : roots.Root) (way : Way) → way.read ≡ 0 → IsTopWithin size root way
unread_top size root way none some = absurd (omega (arith, none, some))

-- all paths share no place
pub no_places : (p q : List ℕ) → SamePlaces 0 p q
no_places p q d less = absurd (omega (arith, less))

-- ---- the node

pub way_count : (way : Way) → length (way_leaves way) ≡ leaf_pointers.count
way_count way = (way.good.each 0 (omega arith)).count

-- its pointers lead to blocks of the disk
pub all_near : (size : ℕ) (way : Way) → IsWayWithin size way → way.read ≡ node_levels → All (λ n. n < size) (way_leaves way)
all_near size way within whole = within 0 (omega (arith, whole))

-- ---- a way to a leaf

-- the root's pointer on it is that to its node
pub way_top : (root : roots.Root) (way : Way) (leaf : ℕ) → IsTo leaf way → pointer_on root way 0 ≡ node_of root (leaf / leaf_pointers.count)
unfolding path_to
way_top root way leaf to = ap (λ (p : List ℕ). get_or root.nodes (get_or p 0 0) 0) to.path

-- the node is the one to which it leads
pub way_own : (image : Image) (root : roots.Root) (way : Way) (leaf : ℕ) → IsTo leaf way → IsWay image root way → way_leaves way ≡ leaves_at image (node_of root (leaf / leaf_pointers.count))
way_own image root way leaf to is = is 0 (omega (arith, to.whole)) ∙ ap (leaves_at image) (way_top root way leaf to)

-- the places on the way to a leaf
pub way_places : (way : Way) (leaf : ℕ) → way.path ≡ path_of leaf → (get_or way.path 0 0 ≡ leaf / leaf_pointers.count) × (get_or way.path 1 0 ≡ leaf % leaf_pointers.count)
unfolding path_to
way_places way leaf is = (ap (λ (p : List ℕ). get_or p 0 0) is, ap (λ (p : List ℕ). get_or p 1 0) is ∙ omega arith)

-- a way to the node of a leaf is one to the node of each other of it
pub to_other : (leaf other : ℕ) (way : Way) → leaf / leaf_pointers.count ≡ other / leaf_pointers.count → IsToNode leaf way → IsToNode other way
to_other leaf other way same to = record { path = λ d less. to.path d less ∙ one_node_path leaf other same d less; whole = to.whole }
