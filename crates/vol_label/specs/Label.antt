-- The labels that there are, and the 512 bytes of each.
use Rattle.std.specs.Prelude.{◌≡◌, ◌≢◌, ℕ, ◌<◌, ◌≤◌, ◌^◌, Bool, true, false, ◌||◌, ◌==◌, List, ◌++◌, take, drop}
use Rattle.std.specs.Prelude.{replicate, codes}
use Rattle.std.specs.Int.{to_be_bytes, from_be_bytes, w32}
use Rattle.vol_label.specs.declared.label.Label.{Label}

-- the versions that are read; volumes of the first have no wide objects
abbrev pub is_version : ℕ → Bool
is_version n = (n == 1) || (n == 2)

-- a volume has 1 to 65,536 cylinders, and the root index is in block 2
pub record IsLabel (label : Label) : Type 0 where
  pub version : is_version label.version ≡ true
  pub some : 1 ≤ label.cylinders
  pub at_most : label.cylinders ≤ 65536
  pub root : label.root.block ≡ 2
  pub word : label.root.word < 2 ^ 32

abbrev pub magic : List ℕ
magic = codes "CFS1"

-- the bytes of a label: magic, version, cylinders, the identifier of the root index, and zeros
unfoldable pub spelling : Label → List ℕ
spelling label =
    magic ++ (to_be_bytes w32 label.version ++ (to_be_bytes w32 label.cylinders ++ (to_be_bytes w32 label.root.block
    ++ (to_be_bytes w32 label.root.word ++ replicate 492 0))))

-- a label of another version
pub record IsOtherVersion (block : List ℕ) (found : ℕ) : Type 0 where
  pub magic_stands : take 4 block ≡ magic
  pub here : from_be_bytes w32 (take 4 (drop 4 block)) ≡ found
  pub other : is_version found ≡ false

-- neither a label nor one of another version
pub record IsNoVolume (block : List ℕ) : Type 0 where
  pub no_label : (label : Label) → IsLabel label → block ≢ spelling label
  pub no_version : (found : ℕ) → ¬ IsOtherVersion block found
