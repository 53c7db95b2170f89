-- A tree in which the blocks of one path are replaced.
use Rattle.std.specs.Prelude.{◌≡◌, ◌≢◌, ◌⊎◌, ℕ, ◌<◌, ◌≤◌, List, [], ◌∷◌, set, slice_index}
use Rattle.cfs_base.specs.Disk.{Image, block_at}
use Rattle.block_tree.specs.Pointers.{Level, leaf_pointers, levels_below, node_levels, node_pointers}
use Rattle.block_tree.specs.Tree.{end_of, pointer, tree_of}
use Rattle.block_tree.specs.declared.node.Node.{Node}
use Rattle.block_tree.specs.declared.root.Root.{Root}

-- ---- one block: another child at a place

abbrev pub with_node : Root → ℕ → ℕ → Root
with_node root n block = record root { nodes = set root.nodes n block }

abbrev pub with_leaf : Node → ℕ → ℕ → Node
with_leaf node k block = record { leaves = set node.leaves k block }

-- no child from a place on, and the same before it
pub record CutsNode (old : Node) (from : ℕ) (new : Node) : Type 0 where
  pub before : (k : ℕ) → k < from → slice_index new.leaves k ≡ slice_index old.leaves k
  pub past : (k : ℕ) → from ≤ k → k < leaf_pointers.count → slice_index new.leaves k ≡ 0

pub record CutsRoot (old : Root) (from : ℕ) (new : Root) : Type 0 where
  pub kind : new.kind ≡ old.kind
  pub fill : new.fill ≡ old.fill
  pub word : new.word ≡ old.word
  pub size : new.size ≡ old.size
  pub before : (n : ℕ) → n < from → slice_index new.nodes n ≡ slice_index old.nodes n
  pub past : (n : ℕ) → from ≤ n → n < node_pointers.count → slice_index new.nodes n ≡ 0

-- only the pointer at one place differs
abbrev pub SetsOne : (ℕ → ℕ) → (place block : ℕ) → (ℕ → ℕ) → Type 0
SetsOne old k x new = (new k ≡ x) × ((j : ℕ) → j ≢ k → new j ≡ old j)

-- ---- the blocks of a path

-- the pointers of a block; those of block 0 are all 0
abbrev pub pointers_in : Image → Level → ℕ → ℕ → ℕ
pointers_in image level n k = end_of image (level ∷ []) n (k ∷ [])

-- From pointers in image a to pointers in image b the path leads through these blocks, one at each of its places.
-- Each of them, and the holder of the first pointer, has the next at its place, and else the pointers of the block
-- that was there.
abbrev pub LeadsTo : (a b : Image) → List Level → (old new : ℕ → ℕ) → (path blocks : List ℕ) → Type 0
LeadsTo a b levels old new [] blocks = ⊥
LeadsTo a b levels old new (k ∷ path) [] = ⊥
LeadsTo a b levels old new (k ∷ []) (x ∷ blocks) = SetsOne old k x new × (blocks ≡ [])
LeadsTo a b [] old new (k ∷ i ∷ path) (x ∷ blocks) = ⊥
LeadsTo a b (level ∷ levels) old new (k ∷ i ∷ path) (x ∷ blocks) =
    SetsOne old k x new × LeadsTo a b levels (pointers_in a level (old k)) (pointers_in b level x) (i ∷ path) blocks

-- ---- the tree

-- two paths part: neither leads on from the other's end
abbrev pub Part : List ℕ → List ℕ → Type 0
Part [] q = ⊥
Part (k ∷ p) [] = ⊥
Part (k ∷ p) (j ∷ q) = (j ≢ k) ⊎ ((j ≡ k) × Part p q)

-- the last of a list
abbrev pub IsLast : List ℕ → ℕ → Type 0
IsLast [] n = ⊥
IsLast (x ∷ []) n = x ≡ n
IsLast (x ∷ y ∷ xs) n = IsLast (y ∷ xs) n

-- In image b there is a root in which the path of the old one leads through these blocks. What is in image a on any
-- path that parts from it has its content.
pub record IsPut (a b : Image) (old new : List ℕ) (path blocks : List ℕ) : Type 0 where
  pub leads : LeadsTo a b (levels_below node_levels) (pointer node_pointers old) (pointer node_pointers new) path blocks
  pub stays : (q : List ℕ) → Part path q → tree_of a old q ≢ 0
      → block_at b (tree_of a old q) ≡ block_at a (tree_of a old q)

-- ---- cut

-- no pointer from a place on, and the same before it
abbrev pub CutsAt : (old : ℕ → ℕ) → (place : ℕ) → (new : ℕ → ℕ) → Type 0
CutsAt old k new = ((j : ℕ) → j < k → new j ≡ old j) × ((j : ℕ) → k ≤ j → new j ≡ 0)

-- the pointer at a place differs, there is none past it, and those before it are the same
abbrev pub CutsPast : (old : ℕ → ℕ) → (place block : ℕ) → (new : ℕ → ℕ) → Type 0
CutsPast old k x new = (new k ≡ x) × ((j : ℕ) → j < k → new j ≡ old j) × ((j : ℕ) → k < j → new j ≡ 0)

-- From pointers in image a to pointers in image b the path is cut at its end. It leads through these blocks, one at
-- each of its places but the last. Each of them, and the holder of the first pointer, has the next at its place and
-- no pointer past it. The last has none from the path's last place on.
abbrev pub CutsTo : (a b : Image) → List Level → (old new : ℕ → ℕ) → (path blocks : List ℕ) → Type 0
CutsTo a b levels old new [] blocks = ⊥
CutsTo a b levels old new (k ∷ []) [] = CutsAt old k new
CutsTo a b levels old new (k ∷ []) (x ∷ blocks) = ⊥
CutsTo a b levels old new (k ∷ i ∷ path) [] = ⊥
CutsTo a b [] old new (k ∷ i ∷ path) (x ∷ blocks) = ⊥
CutsTo a b (level ∷ levels) old new (k ∷ i ∷ path) (x ∷ blocks) =
    CutsPast old k x new × CutsTo a b levels (pointers_in a level (old k)) (pointers_in b level x) (i ∷ path) blocks

-- what is before the end of a path, and what is there or past it
abbrev pub IsBefore : List ℕ → List ℕ → Type 0
IsBefore [] q = ⊥
IsBefore (k ∷ p) [] = ⊥
IsBefore (k ∷ []) (j ∷ q) = j < k
IsBefore (k ∷ i ∷ p) (j ∷ q) = (j < k) ⊎ ((j ≡ k) × IsBefore (i ∷ p) q)

abbrev pub IsFrom : List ℕ → List ℕ → Type 0
IsFrom [] q = ⊥
IsFrom (k ∷ p) [] = ⊥
IsFrom (k ∷ []) (j ∷ q) = k ≤ j
IsFrom (k ∷ i ∷ p) (j ∷ q) = (k < j) ⊎ ((j ≡ k) × IsFrom (i ∷ p) q)

-- In image b there is a root in which the old one's path is cut. What is in image a before its end has its content.
pub record IsCut (a b : Image) (old new : List ℕ) (path blocks : List ℕ) : Type 0 where
  pub cuts : CutsTo a b (levels_below node_levels) (pointer node_pointers old) (pointer node_pointers new) path blocks
  pub stays : (q : List ℕ) → IsBefore path q → tree_of a old q ≢ 0
      → block_at b (tree_of a old q) ≡ block_at a (tree_of a old q)
