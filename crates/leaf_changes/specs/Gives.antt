-- The object that a root and leaves give: byte by byte, or slot by slot.
use Rattle.std.specs.Prelude.{◌≡◌, ℕ, ◌/◌, ◌%◌, ◌<◌, length, get_or, Option}
use Rattle.cfs_base.specs.declared.kind.Kind.{Kind}
use Rattle.cfs_base.specs.declared.kind.Kind.TheVariants as kinds
use Rattle.cfs_base.specs.declared.kind.FileKind.{FileKind}
use Rattle.cfs_base.specs.declared.kind.FileKind.TheVariants as file_kinds
use Rattle.block_tree.specs.declared.root.Root.{Root}
use Rattle.ufs_model.specs.declared.object.File.{File}
use Rattle.ufs_model.specs.declared.object.Index.{Index}
use Rattle.ufs_model.specs.Object.{slot_of}
use Rattle.vol_image.specs.Seen.{Held}
use Rattle.vol_image.specs.Reading.{leaf_content, slot_in, held_in}
use Rattle.leaf_changes.specs.Leaves.{leaf_byte}

-- the kind of a file among the kinds of objects
abbrev pub kind_of : FileKind → Kind
kind_of file_kinds.Normal = kinds.Normal
kind_of file_kinds.Special = kinds.Special

pub record GivesFile (root : Root) (leaf : ℕ → Option Held) (f : File) : Type 0 where
  pub kind : root.kind ≡ kind_of f.kind
  pub fill : f.fill ≡ root.fill
  pub size : length f.bytes ≡ root.size
  pub bytes : (k : ℕ) → k < root.size → get_or f.bytes k 0 ≡ leaf_byte root.fill leaf k
  pub held : f.held ≡ held_in root leaf

pub record GivesIndex (root : Root) (leaf : ℕ → Option Held) (i : Index) : Type 0 where
  pub kind : root.kind ≡ kinds.Index
  pub size : length i.slots ≡ root.size / 8
  pub slots : (s : ℕ) → s < root.size / 8 → slot_of i s ≡ slot_in (leaf_content root.fill (leaf (s / 64))) (s % 64)
  pub held : i.held ≡ held_in root leaf
