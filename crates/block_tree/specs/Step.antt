-- One step over the held leaves of a tree: the next of them, and where the one after it is to be looked for.
use Rattle.std.specs.Prelude.{◌≡◌, ◌≢◌, ℕ, zero, suc, ◌+◌, ◌*◌, ◌/◌, ◌%◌, ◌<◌, ◌≤◌, List, []}
use Rattle.std.specs.Prelude.{◌∷◌, ◌++◌, length, get_or, Option, Some, None, IfSome}
use Rattle.cfs_base.specs.Disk.{Image}
use Rattle.block_tree.specs.declared.follow.Pointer.{Pointer}
use Rattle.block_tree.specs.declared.step.HeldStep.{HeldStep}
use Rattle.block_tree.specs.declared.step.LeafStep.{LeafStep}
use Rattle.block_tree.specs.declared.walk.HeldLeaf.{HeldLeaf}
use Rattle.block_tree.specs.Reads.{leaves_at}
use Rattle.block_tree.specs.Follow.{PastFrom, first_pointer, pointer_below}
use Rattle.block_tree.specs.Pointers.{Level, leaf_pointers, levels_below, node_levels, node_pointers, pointers_of}
use Rattle.block_tree.specs.Pointers.{width}
use Rattle.block_tree.specs.Tree.{EachLeaf, end_of, leaf_block, leaf_count, path_to}

-- ---- over leaves whose blocks a function gives

-- no leaf from `from` up to `to` is held
abbrev pub NoneOf : (ℕ → ℕ) → ℕ → ℕ → Type 0
NoneOf block from to = EachLeaf from to (λ leaf. block leaf ≡ 0)

-- some leaf from `from` on is held, below `count`
pub record SomeOf (block : ℕ → ℕ) (count from : ℕ) : Type 0 where
  pub leaf : ℕ
  pub on : from ≤ leaf
  pub inside : leaf < count
  pub held : block leaf ≢ 0

-- the first held leaf from `from` on
pub record IsNextLeaf (block : ℕ → ℕ) (count from : ℕ) (held : HeldLeaf) : Type 0 where
  pub on : from ≤ held.leaf
  pub inside : held.leaf < count
  pub block_is : block held.leaf ≡ held.block
  pub is_held : held.block ≢ 0
  pub before : NoneOf block from held.leaf

-- up to where the next is to be looked for, or to the end
abbrev pub upto : (count : ℕ) → Option ℕ → ℕ
upto count None = count
upto count (Some n) = n

-- what is found of the leaves up to `to`: only the first held one, or that none is held
abbrev pub IsFoundOf : (ℕ → ℕ) → (from : ℕ) → Option HeldStep → (to : ℕ) → Type 0
IsFoundOf block from (Some step) to = IsNextLeaf block to from step.held × NoneOf block (step.held.leaf + 1) to
IsFoundOf block from None to = NoneOf block from to

-- What a step says of the leaves from `from` on: which of those are held that are before the place where the next is
-- to be looked for.
pub record IsSteppedOf (block : ℕ → ℕ) (count from : ℕ) (step : LeafStep) : Type 0 where
  pub found : IsFoundOf block from step.found (upto count step.next)
  pub most : upto count step.next ≤ count

-- the step finds a leaf, if there is one
abbrev pub IsSureStep : LeafStep → Type 0
IsSureStep step = step.found ≡ None → step.next ≡ None

-- a held leaf from `from` on, below `count`, and its block
pub record IsHeldAmong (count from : ℕ) (step : HeldStep) : Type 0 where
  pub on : from ≤ step.held.leaf
  pub inside : step.held.leaf < count
  pub is_held : step.held.block ≢ 0

-- On any disk what is found is a leaf from `from` on, and the next is looked for past it. If none is found, it is
-- looked for at the first leaf of a node.
pub record IsStepWithin (count from : ℕ) (step : LeafStep) : Type 0 where
  pub found : IfSome step.found (IsHeldAmong count from)
  pub next : IfSome step.next (λ n. (from < n) × (n < count))
  pub turns : step.found ≡ None → IfSome step.next (λ n. n % leaf_pointers.count ≡ 0)

-- ---- in a tree

abbrev pub NoneHeld : Image → List ℕ → ℕ → ℕ → Type 0
NoneHeld image root from to = NoneOf (leaf_block image root) from to

abbrev pub SomeHeld : Image → List ℕ → ℕ → Type 0
SomeHeld image root from = SomeOf (leaf_block image root) (leaf_count root) from

abbrev pub IsStepped : Image → List ℕ → ℕ → LeafStep → Type 0
IsStepped image root from step = IsSteppedOf (leaf_block image root) (leaf_count root) from step

-- ---- in lists of pointers

-- no pointer from a place on is other than 0
abbrev pub NoneSet : List ℕ → ℕ → Type 0
NoneSet pointers from = (i : ℕ) → from ≤ i → get_or pointers i 0 ≡ 0

-- some pointer from a place on is other than 0
pub record SomeSet (pointers : List ℕ) (from : ℕ) : Type 0 where
  pub place : ℕ
  pub on : from ≤ place
  pub inside : place < length pointers
  pub set : get_or pointers place 0 ≢ 0

-- the first place from `from` on with a pointer that isn't 0
abbrev pub IsFirstSet : List ℕ → ℕ → Option ℕ → Type 0
IsFirstSet pointers from (Some k) = (from ≤ k) × (k < length pointers) × (get_or pointers k 0 ≢ 0)
    × ((i : ℕ) → from ≤ i → i < k → get_or pointers i 0 ≡ 0)
IsFirstSet pointers from None = NoneSet pointers from

-- ---- below pointers, of which their holder has a number

-- the block of a leaf
abbrev pub block_below : Image → Option ℕ → List ℕ → List Level → ℕ → ℕ
block_below image holder pointers levels leaf = (pointer_below image holder pointers levels leaf).block

-- each block on a path that begins at block n leads on to a leaf, or is one
abbrev pub NoDeadEndFrom : Image → List Level → ℕ → Type 0
NoDeadEndFrom image levels n =
    (path : List ℕ) → end_of image levels n path ≢ 0 → length path < length levels
    → (j : ℕ) × (end_of image levels n (path ++ j ∷ []) ≢ 0)

-- so does each block below these pointers
abbrev pub NoDeadEndBelow : Image → List Level → List ℕ → Type 0
NoDeadEndBelow image levels pointers = (k : ℕ) → NoDeadEndFrom image levels (get_or pointers k 0)

-- A leaf at which a step begins: if the pointer above it is set, at each level, some leaf from it on is held below
-- that pointer.
abbrev pub IsPlacedBelow : Image → (height : ℕ) → List ℕ → ℕ → Type 0
IsPlacedBelow image zero pointers from = Unit {0}
IsPlacedBelow image (suc h) pointers from =
    let w = width (levels_below (suc h)) in
    let p = get_or pointers (from / w) 0 in
    p ≢ 0 → SomeOf (block_below image (Some p) (leaves_at image p) (levels_below h)) w (from % w)
    × IsPlacedBelow image h (leaves_at image p) (from % w)

-- the same, and some leaf from it on is held
abbrev pub IsPlacedAmong : Image → (height : ℕ) → Option ℕ → List ℕ → (count : ℕ) → ℕ → Type 0
IsPlacedAmong image h holder pointers count from =
    SomeOf (block_below image holder pointers (levels_below h)) count from × IsPlacedBelow image h pointers from

-- the leaf's pointer is the tree's
abbrev pub IsThere : Image → Option ℕ → List ℕ → List Level → HeldStep → Type 0
IsThere image holder pointers levels step =
    record { holder = step.holder; block = step.held.block } ≡ pointer_below image holder pointers levels step.held.leaf

-- no pointer above a leaf is past the end
abbrev pub HasNearPathBelow : Image → (size : ℕ) → Option ℕ → List ℕ → List Level → ℕ → Type 0
HasNearPathBelow image size holder pointers levels leaf =
    (p : Pointer) → ¬ PastFrom image levels size (first_pointer holder pointers levels leaf)
    (path_to levels (leaf % width levels)) p

-- the leaf is absent, and no pointer above it is past the end
abbrev pub IsQuietBelow : Image → (size : ℕ) → Option ℕ → List ℕ → List Level → ℕ → Type 0
IsQuietBelow image size holder pointers levels leaf =
    (block_below image holder pointers levels leaf ≡ 0) × HasNearPathBelow image size holder pointers levels leaf

-- the first pointer above a leaf from `from` on that is past the end: all leaves before that leaf are quiet
pub record IsPastBelow (image : Image) (size : ℕ) (holder : Option ℕ) (pointers : List ℕ) (levels : List Level)
    (from : ℕ) (p : Pointer) : Type 0 where
  pub leaf : ℕ
  pub on : from ≤ leaf
  pub inside : leaf < length pointers * width levels
  pub past : PastFrom image levels size (first_pointer holder pointers levels leaf)
      (path_to levels (leaf % width levels)) p
  pub before : EachLeaf from leaf (IsQuietBelow image size holder pointers levels)

-- what a step says of `count` leaves
pub record IsStepBelow (image : Image) (size : ℕ) (holder : Option ℕ) (pointers : List ℕ) (h count from : ℕ)
    (step : LeafStep) : Type 0 where
  pub stepped : IsSteppedOf (block_below image holder pointers (levels_below h)) count from step
  pub followed : EachLeaf from (upto count step.next) (HasNearPathBelow image size holder pointers (levels_below h))
  pub there : IfSome step.found (IsThere image holder pointers (levels_below h))
  pub sure : NoDeadEndBelow image (levels_below h) pointers → IsPlacedBelow image h pointers from → IsSureStep step
  -- a step can begin where the next leaf is to be looked for
  pub sought : NoDeadEndBelow image (levels_below h) pointers
      → IfSome step.next (IsPlacedAmong image h holder pointers count)

-- the first leaf below the next set pointer after a place; each pointer is above `width` leaves
abbrev pub IsLaterBase : List ℕ → (place width : ℕ) → Option ℕ → Type 0
IsLaterBase pointers place width (Some n) = (k : ℕ) × IsFirstSet pointers (place + 1) (Some k) × (n ≡ k * width)
IsLaterBase pointers place width None = NoneSet pointers (place + 1)

-- a step below the pointer whose first leaf is `base`, as one below all of them
abbrev pub found_at : ℕ → Option HeldStep → Option HeldStep
found_at base None = None
found_at base (Some step) = Some (record {
  held = record { leaf = base + step.held.leaf; block = step.held.block };
  holder = step.holder;
})

abbrev pub sought_at : ℕ → (later : Option ℕ) → Option ℕ → Option ℕ
sought_at base later None = later
sought_at base later (Some n) = Some (base + n)

abbrev pub step_at : ℕ → (later : Option ℕ) → LeafStep → LeafStep
step_at base later below = record { found = found_at base below.found; next = sought_at base later below.next }

-- ---- below a root

-- a leaf at which a step begins in a tree
abbrev pub IsPlaced : Image → List ℕ → ℕ → Type 0
IsPlaced image root from = IsPlacedBelow image node_levels (pointers_of node_pointers root) from
