-- What a way to a leaf of a draft has read.
use Rattle.std.proofs.Common.{◌≡◌, ℕ, zero, suc, ◌/◌, ◌%◌, ◌<◌, List, get_or, ◌∙◌, ap, subst, arith}
use Rattle.special_files.proofs.Words.{All, Damage, FarNode, FarRoot, Ghosts, HasNode, Image, IsDraftTrouble, IsSafeIn, Kept, Trouble, Way, leaf_pointers, leaves_at, way_leaves, node_number, path_to, root_top, slice_index}
use Rattle.block_tree.specs.Along.{FarBelow, FarTop, IsTo, IsWay, IsWayTrouble}
use Rattle.block_tree.specs.Path.{no_node}
use Rattle.block_tree.specs.declared.root.Root as roots
use Rattle.cfs_base.specs.declared.refusal.Trouble.TheVariants as trouble

-- the places of the path
pub to_node : (way : Way) (leaf : ℕ) → IsTo leaf way → node_number way ≡ leaf / leaf_pointers.count
unfolding path_to
to_node way leaf to = ap (λ (p : List ℕ). get_or p 0 0) to.path

pub to_place : (way : Way) (leaf : ℕ) → IsTo leaf way → get_or way.path 1 0 ≡ leaf % leaf_pointers.count
unfolding path_to
to_place way leaf to = ap (λ (p : List ℕ). get_or p 1 0) to.path ∙ (let e : leaf % leaf_pointers.count / 1 ≡ leaf % leaf_pointers.count = omega arith in e)

pub has_node : (way : Way) (leaf : ℕ) → IsTo leaf way → HasNode (leaf / leaf_pointers.count) way
has_node way leaf to = record { number_is = to_node way leaf to; some = omega (arith, to.whole) }

-- the node that was read
pub node_is_read : (image : Image) (root : roots.Root) (way : Way) (n : ℕ) → HasNode n way → IsWay image root way → way_leaves way ≡ leaves_at image (slice_index root.nodes n)
node_is_read image root way n has is = is 0 has.some ∙ ap (λ (m : ℕ). leaves_at image (slice_index root.nodes m)) has.number_is

pub way_is : (image : Image) (root : roots.Root) (way : Way) → way_leaves way ≡ leaves_at image (slice_index root.nodes (node_number way)) → IsWay image root way
way_is image root way node zero less = node
way_is image root way node (suc d) less = absurd (omega (arith, less, way.good.most))

pub end_is_read : (way : Way) (leaf : ℕ) → IsTo leaf way → get_or (way_leaves way) (get_or way.path 1 0) 0 ≡ slice_index (way_leaves way) (leaf % leaf_pointers.count)
end_is_read way leaf to = ap (slice_index (way_leaves way)) (to_place way leaf to)

-- on any disk
pub node_is_safe : (size : ℕ) (root : roots.Root) (way : Way) (n : ℕ) → HasNode n way → IsSafeIn size root way → slice_index root.nodes n < size
node_is_safe size root way n has safe = subst (λ (m : ℕ). slice_index root.nodes m < size) has.number_is (safe.1 has.some)

pub leaves_are_safe : (size : ℕ) (root : roots.Root) (way : Way) (n : ℕ) → HasNode n way → IsSafeIn size root way → All (λ m. m < size) (way_leaves way)
leaves_are_safe size root way n has safe = safe.0 0 has.some

pub way_is_safe : (size : ℕ) (root : roots.Root) (way : Way) → slice_index root.nodes (node_number way) < size → All (λ n. n < size) (way_leaves way) → IsSafeIn size root way
way_is_safe size root way node leaves = (each, λ some. node)
  where
    each : (d : ℕ) → d < way.read → All (λ n. n < size) (get_or way.nodes d no_node).leaves
    each zero less = leaves
    each (suc d) less = absurd (omega (arith, less, way.good.most))

-- where nothing was read
pub way_of_none : (image : Image) (root : roots.Root) (way : Way) → way.read ≡ 0 → IsWay image root way
way_of_none image root way none d less = absurd (omega (arith, none, less))

pub safe_of_none : (size : ℕ) (root : roots.Root) (way : Way) → way.read ≡ 0 → IsSafeIn size root way
safe_of_none size root way none = (λ d less. absurd (omega (arith, none, less)), λ some. absurd (omega (arith, none, some)))

-- why a node along it can't be read
pub way_refused : {D : Type 0} (g : Ghosts D) (at : ℕ) (root : roots.Root) (old new : D) (kept : Kept) (t : Trouble) → g.blocks new ≡ g.blocks old → g.content new ≡ g.content old → IsWayTrouble g at root old new t → IsDraftTrouble g (root_top at root) old new kept t
way_refused g at root old new kept (trouble.Disk tried) size same is = is.1
way_refused g at root old new kept (trouble.Damaged damage) size same (FarTop k is past) = FarRoot (ap (λ (d : Damage). d.code) is) (ap (λ (d : Damage). d.block) is) (rw size (k, past))
way_refused g at root old new kept (trouble.Damaged damage) size same (FarBelow code far) = FarNode code (λ tells. rw (size, same) (far tells))
