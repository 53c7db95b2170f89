-- The owner of a block, and what the block is for, as its entry says.
use Rattle.std.specs.Prelude.{ℕ, Bool, true, false, not, ◌&&◌, ◌==◌, is_some, count_by, Option, Some, None}
use Rattle.std.specs.List.{range_with_len}
use Rattle.cfs_base.specs.Disk.{Image}
use Rattle.cfs_base.specs.declared.kind.Place.{Place}
use Rattle.cfs_base.specs.declared.kind.Place.TheVariants.{Root, ShadowRoot, Node, Leaf, Span}
use Rattle.cyl_map.specs.declared.state.BlockState.{BlockState}
use Rattle.cyl_map.specs.declared.state.BlockState.TheVariants.{Free, Allocated, IntendAllocate, IntendDeallocate}
use Rattle.cyl_map.specs.declared.entry.MapEntry.{MapEntry}
use Rattle.cyl_map.specs.Map.{is_free_state}
use Rattle.cyl_map.specs.Volume.{entry_in}
use Rattle.ufs_model.specs.Graph.{Graph, has_block}

-- ---- what a block is for: a test of its state

-- an object has it
abbrev pub is_had : BlockState → Bool
is_had Free = false
is_had Allocated = true
is_had IntendAllocate = false
is_had IntendDeallocate = false

-- a draft that isn't committed yet has it
abbrev pub is_meant : BlockState → Bool
is_meant Free = false
is_meant Allocated = false
is_meant IntendAllocate = true
is_meant IntendDeallocate = false

-- it is to become Free once a commit is through
abbrev pub is_leaving : BlockState → Bool
is_leaving Free = false
is_leaving Allocated = false
is_leaving IntendAllocate = false
is_leaving IntendDeallocate = true

abbrev pub is_taken : BlockState → Bool
is_taken state = not (is_free_state state)

-- ---- who owns it

-- the entry is that of a block with a place in some object, in such a state
abbrev pub is_placed : (BlockState → Bool) → Option MapEntry → Bool
is_placed test None = false
is_placed test (Some e) = test e.state && is_some e.place

abbrev pub owner_of : Option MapEntry → ℕ
owner_of None = 0
owner_of (Some e) = e.owner

-- the owner has the block with this entry, in such a state
abbrev pub is_owned_by : (BlockState → Bool) → ℕ → Option MapEntry → Bool
is_owned_by test r entry = is_placed test entry && (r == owner_of entry)

abbrev pub is_root_place : Option Place → Bool
is_root_place None = false
is_root_place (Some Root) = true
is_root_place (Some ShadowRoot) = false
is_root_place (Some (Node n)) = false
is_root_place (Some (Leaf n)) = false
is_root_place (Some (Span n)) = false

-- the entry is that of a root block, in such a state
abbrev pub is_root : (BlockState → Bool) → Option MapEntry → Bool
is_root test None = false
is_root test (Some e) = test e.state && is_root_place e.place

-- the root of an object that a draft makes, which isn't committed yet
abbrev pub is_made : Option MapEntry → Bool
is_made entry = is_root is_meant entry

-- a block of an owner that is no object of the graph and isn't made: such blocks are still to be swept
abbrev pub is_stray : Graph → Option MapEntry → Bool
is_stray g entry = is_placed is_taken entry && (not (is_made entry) && not (has_block g.objects (owner_of entry)))

abbrev pub stray_blocks : Image → Graph → ℕ → ℕ
stray_blocks image g size = count_by (λ n. is_stray g (entry_in image n)) (range_with_len 0 size)
