-- The blocks of an object's tree, in the order in which its pointers lead to them.
use Rattle.std.specs.Prelude.{ℕ, zero, suc, ◌+◌, ◌*◌, List, [], ◌∷◌, ◌++◌}
use Rattle.cfs_base.specs.Disk.{Image, block_at}
use Rattle.block_tree.specs.Pointers.{Level, levels_below, node_levels, node_pointers, pointers_of}
use Rattle.block_tree.specs.declared.root.Root.{Root}
use Rattle.vol_image.specs.Fault.{Shows, reader, shown_root, shown_tree}
use Rattle.vol_image.specs.Reading.{leaf_in, object_with}
use Rattle.vol_image.specs.Seen.{place_above}
pub use Rattle.cfs_check.specs.declared.twig.Extent.{Extent}
pub use Rattle.cfs_check.specs.declared.twig.Stem.{Stem}
pub use Rattle.cfs_check.specs.declared.twig.Twig.{Twig}

abbrev pub extent_of : Root → Extent
extent_of root = record { kind = root.kind; fill = root.fill; size = root.size }

-- the block to which a pointer leads, above these levels, with this number there
abbrev pub twig : Stem → List Level → (holder number block : ℕ) → Twig
twig stem levels holder number block = record {
  spot = record { holder = holder; block = block; owner = stem.owner; place = place_above levels number };
  extent = stem.extent;
}

-- all blocks to which pointers lead, each with all below it, numbered from `first` on
abbrev pub rows : Image → Stem → List Level → (holder first : ℕ) → (pointers : List ℕ) → List Twig
rows image stem levels holder first [] = []
rows image stem levels holder first (zero ∷ ps) = rows image stem levels holder (first + 1) ps
rows image stem [] holder first (suc p ∷ ps) =
    twig stem [] holder first (suc p) ∷ rows image stem [] holder (first + 1) ps
rows image stem (l ∷ ls) holder first (suc p ∷ ps) =
    twig stem (l ∷ ls) holder first (suc p)
    ∷ (rows image stem ls (suc p) (first * l.count) (pointers_of l (block_at image (suc p)))
    ++ rows image stem (l ∷ ls) holder (first + 1) ps)

-- all blocks to which one pointer leads
abbrev pub one_row : Image → Stem → List Level → (holder number block : ℕ) → List Twig
one_row image stem levels holder number block = rows image stem levels holder number (block ∷ [])

-- all blocks below the root by which an object is read
abbrev pub twigs_of : Image → (r : ℕ) → Root → List Twig
twigs_of image r root = rows image (record { owner = r; extent = extent_of root }) (levels_below node_levels)
    (reader image r) 0 (pointers_of node_pointers (shown_root image r))

-- the object with this root block is shown, and read by this root
abbrev pub IsShownBy : Image → (r : ℕ) → Root → Type 0
IsShownBy image r root = Shows image r root (object_with root (leaf_in (shown_tree image r)))
