-- The part that a block plays in an object: what its entry says of it, except for the state, as long as it isn't
-- Free.
use Rattle.std.specs.Prelude.{◌≡◌, ◌≢◌, ℕ, Bool, true, false, ◌&&◌, ◌||◌, ◌==◌, ◌%◌, Option, Some, None}
use Rattle.cfs_base.specs.Disk.{Image, block_at}
use Rattle.cfs_base.specs.declared.kind.Place.{Place}
use Rattle.cfs_base.specs.declared.kind.Place.TheVariants.{Root, ShadowRoot, Node, Leaf, Span}
use Rattle.cyl_map.specs.declared.state.BlockState.{BlockState}
use Rattle.cyl_map.specs.declared.state.BlockState.TheVariants.{Free, Allocated, IntendAllocate, IntendDeallocate}
use Rattle.cyl_map.specs.declared.entry.MapEntry.{MapEntry}
use Rattle.cyl_map.specs.Volume.{entry_in}

pub record EntryPart : Type 0 where
  pub committed : Bool
  pub place : Option Place
  pub owner : ℕ

abbrev pub part_in : BlockState → Bool → Option Place → ℕ → Option EntryPart
part_in Free bit place owner = None
part_in Allocated bit place owner = Some (record { committed = bit; place = place; owner = owner })
part_in IntendAllocate bit place owner = Some (record { committed = bit; place = place; owner = owner })
part_in IntendDeallocate bit place owner = Some (record { committed = bit; place = place; owner = owner })

abbrev pub part_of : Option MapEntry → Option EntryPart
part_of None = None
part_of (Some e) = part_in e.state e.committed e.place e.owner

-- the part of a block, or none if the block is Free
abbrev pub part_at : Image → ℕ → Option EntryPart
part_at image n = part_of (entry_in image n)

-- the block has this owner, and this place in it
pub record BelongsTo (owner : ℕ) (place : Place) (part : Option EntryPart) : Type 0 where
  pub is : EntryPart
  pub here : part ≡ Some is
  pub owner_is : is.owner ≡ owner
  pub place_is : is.place ≡ Some place

-- the commit bit is set
abbrev pub is_committed : Option EntryPart → Bool
is_committed None = false
is_committed (Some p) = p.committed

-- the entry of a root has the root's own block as its owner
abbrev pub OwnsItself : ℕ → MapEntry → Type 0
OwnsItself n e = e.place ≡ Some Root → e.owner ≡ n

abbrev pub RootsOwnThemselves : Image → Type 0
RootsOwnThemselves image = (n : ℕ) (e : MapEntry) → entry_in image n ≡ Some e → OwnsItself n e

-- two images agree on a block: on its part and its content
pub record SameAt (a b : Image) (n : ℕ) : Type 0 where
  pub part : part_at b n ≡ part_at a n
  pub content : block_at b n ≡ block_at a n

-- ---- blocks of nobody

-- a map block, or the label
abbrev pub is_fixed : ℕ → Bool
is_fixed n = (n % 64 == 0) || (n == 1)

-- the entry of such a block
abbrev pub reserved : MapEntry
reserved = record { state = Allocated; committed = false; place = None; owner = 0 }

-- ---- shadow roots

abbrev is_intended : BlockState → Bool
is_intended Free = false
is_intended Allocated = false
is_intended IntendAllocate = true
is_intended IntendDeallocate = false

abbrev is_shadow_place : Option Place → Bool
is_shadow_place None = false
is_shadow_place (Some Root) = false
is_shadow_place (Some ShadowRoot) = true
is_shadow_place (Some (Node n)) = false
is_shadow_place (Some (Leaf n)) = false
is_shadow_place (Some (Span n)) = false

-- a block with this entry is a shadow root that stands for the object with this root block
abbrev pub stands_for : ℕ → Option MapEntry → Bool
stands_for r None = false
stands_for r (Some e) = is_intended e.state && (is_shadow_place e.place && (e.owner == r))

-- ---- blocks that somebody owns

-- the block's entry has this owner
pub record IsTaken (image : Image) (n owner : ℕ) : Type 0 where
  pub is : MapEntry
  pub here : entry_in image n ≡ Some is
  pub taken : is.state ≢ Free
  pub placed : is.place ≢ None
  pub owned : is.owner ≡ owner
