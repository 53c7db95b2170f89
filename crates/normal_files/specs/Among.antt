-- Images that a change of a file in place may leave: all other objects stay, and so do the file's root and nodes.
use Rattle.std.specs.Prelude.{◌≡◌, ◌≢◌, ◌⊎◌, ℕ, ◌+◌, ◌*◌, ◌<◌, List, [], ◌∷◌}
use Rattle.block_tree.specs.Pointers.{leaf_pointers}
use Rattle.cfs_base.specs.Disk.{Image, block_at}
use Rattle.cfs_base.specs.declared.identifier.Puid.{Puid}
use Rattle.leaf_changes.specs.Bytes.{patched}
use Rattle.ufs_model.specs.Graph.{Graph, without}
use Rattle.vol_image.specs.Frame.{Frames}
use Rattle.vol_image.specs.Part.{SameAt, part_at}
use Rattle.vol_image.specs.Reading.{leaf_content}
use Rattle.normal_files.specs.Laid.{leaf_of, leaves_of, node_of}
use Rattle.block_tree.specs.declared.root.Root as roots

-- each held leaf, given by its number, has bytes with P
pub record IsAmong (a : Image) (graph : Graph) (id : Puid) (root : roots.Root) (P : ℕ → List ℕ → Type 0)
    (c : Image) : Type 0 where
  pub frames : Frames a (without graph (id ∷ [])) c
  pub root_kept : SameAt a c id.block
  pub nodes : (n : ℕ) → node_of root n ≢ 0 → SameAt a c (node_of root n)
  pub parts : (n k : ℕ) → k < leaf_pointers.count → leaf_of a root n k ≢ 0
      → part_at c (leaf_of a root n k) ≡ part_at a (leaf_of a root n k)
  pub bytes : (n k : ℕ) → k < leaf_pointers.count → leaf_of a root n k ≢ 0
      → P (leaf_pointers.count * n + k) (block_at c (leaf_of a root n k))

-- what a leaf reads as before bytes are written at an offset, and after
abbrev pub leaf_before : Image → roots.Root → ℕ → List ℕ
leaf_before a root leaf = leaf_content root.fill (leaves_of a root leaf)

abbrev pub leaf_after : Image → roots.Root → (offset : ℕ) → (bytes : List ℕ) → ℕ → List ℕ
leaf_after a root offset bytes leaf = patched leaf offset bytes (leaf_before a root leaf)

-- either of these
abbrev pub IsEither : Image → roots.Root → ℕ → List ℕ → ℕ → List ℕ → Type 0
IsEither a root offset bytes leaf content =
    (content ≡ leaf_before a root leaf) ⊎ (content ≡ leaf_after a root offset bytes leaf)
