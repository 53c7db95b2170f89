-- A root, and the block that spells it.
use Rattle.std.specs.Prelude.{◌≡◌, ℕ, ◌%◌, ◌<◌, ◌≤◌, ◌^◌, List, [], ◌∷◌, ◌++◌, length, replicate}
use Rattle.std.specs.List.{All}
use Rattle.std.specs.Int.{to_be_bytes, w32, w64}
use Rattle.cfs_base.specs.declared.kind.Kind.{Kind}
use Rattle.cfs_base.specs.declared.kind.Kind.TheVariants.{Normal, Special, Index}
use Rattle.block_tree.specs.declared.root.Root.{Root}
use Rattle.block_tree.specs.Pointers.{node_pointers, numbers_spelling, size_limit}
use Rattle.block_tree.specs.Prefix.{IsFirstMisspelt}

-- ---- which values are roots

-- an index has no fill byte
abbrev pub IsFill : Kind → ℕ → Type 0
IsFill kind fill = kind ≡ Index → fill ≡ 0

-- no size is above the limit, and an index has at least one slot, of 8 bytes each
pub record IsSize (kind : Kind) (size : ℕ) : Type 0 where
  pub limit : size ≤ size_limit
  pub slots : kind ≡ Index → (8 ≤ size) × (size % 8 ≡ 0)

-- a root that a block may hold
pub record IsRoot (root : Root) : Type 0 where
  pub fill : IsFill root.kind root.fill
  pub size : IsSize root.kind root.size

-- a root whose fields are numbers of their widths
pub record Fits (root : Root) : Type 0 where
  pub fill : root.fill < 2 ^ 8
  pub word : root.word < 2 ^ 32
  pub count : length root.nodes ≡ node_pointers.count
  pub nodes : All (λ n. n < 2 ^ 32) root.nodes

-- ---- its bytes

abbrev pub kind_code : Kind → ℕ
kind_code Normal = 1
kind_code Special = 2
kind_code Index = 3

-- kind, fill byte, two zero bytes, random word, size, 16 zero bytes, and the pointers to nodes
unfoldable pub root_spelling : Root → List ℕ
root_spelling root =
    (kind_code root.kind ∷ root.fill ∷ 0 ∷ 0 ∷ []) ++ to_be_bytes w32 root.word ++ to_be_bytes w64 root.size
    ++ replicate 16 0 ++ numbers_spelling root.nodes

-- ---- a block and its root

abbrev pub IsGoodRoot : Root → Type 0
IsGoodRoot root = Fits root × IsRoot root

-- the block spells this root
pub record IsRootBlock (block : List ℕ) (root : Root) : Type 0 where
  pub good : IsGoodRoot root
  pub spelled : block ≡ root_spelling root

-- Some root block begins with the bytes before this place, and none with the bytes up to it and with it.
abbrev pub IsFirstBadByte : List ℕ → ℕ → Type 0
IsFirstBadByte block byte = IsFirstMisspelt IsGoodRoot root_spelling block byte
