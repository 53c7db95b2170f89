-- Pointers that are followed along a path, node by node.
use Rattle.std.specs.Prelude.{◌≡◌, ◌⊎◌, ℕ, ◌/◌, ◌%◌, List, [], ◌∷◌, Option, Some, get_or}
use Rattle.cfs_base.specs.Disk.{Image}
use Rattle.block_tree.specs.Pointers.{Level, width}
use Rattle.block_tree.specs.Reads.{IsPast}
use Rattle.block_tree.specs.Tree.{end_of, path_to}
use Rattle.block_tree.specs.declared.follow.Pointer.{Pointer}

-- the pointer at a place of the node to which another leads; a pointer in block 0 leads nowhere
abbrev pub next_pointer : Image → Level → Pointer → ℕ → Pointer
next_pointer image level p k =
    record { holder = Some p.block; block = end_of image (level ∷ []) p.block (k ∷ []) }

-- the pointer at the end of a path that begins at a pointer
abbrev pub pointer_from : Image → List Level → Pointer → List ℕ → Pointer
pointer_from image levels p [] = p
pointer_from image [] p (k ∷ path) = record { holder = Some p.block; block = 0 }
pointer_from image (level ∷ levels) p (k ∷ path) = pointer_from image levels (next_pointer image level p k) path

-- a pointer on such a path, other than the last, is past the end of a disk of this size
abbrev pub PastFrom : Image → List Level → ℕ → Pointer → List ℕ → Pointer → Type 0
PastFrom image levels size p [] q = ⊥
PastFrom image [] size p (k ∷ path) q = ⊥
PastFrom image (level ∷ levels) size p (k ∷ path) q =
    ((q ≡ p) × IsPast size p.block) ⊎ PastFrom image levels size (next_pointer image level p k) path q

-- ---- the leaves below pointers, of which this node has a number

-- the first pointer on the path of a leaf among them
abbrev pub first_pointer : Option ℕ → List ℕ → List Level → ℕ → Pointer
first_pointer holder pointers levels leaf =
    record { holder = holder; block = get_or pointers (leaf / width levels) 0 }

-- the pointer at the end of that path
abbrev pub pointer_below : Image → Option ℕ → List ℕ → List Level → ℕ → Pointer
pointer_below image holder pointers levels leaf =
    pointer_from image levels (first_pointer holder pointers levels leaf) (path_to levels (leaf % width levels))
