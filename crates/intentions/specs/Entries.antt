-- The entries that intentions write. An entry that a call doesn't fit stays as it is.
use Rattle.std.specs.Prelude.{true, false, Option, Some, None}
use Rattle.cfs_base.specs.declared.kind.Place.{Place}
use Rattle.cfs_base.specs.declared.kind.Place.TheVariants.{Root, ShadowRoot, Node, Leaf, Span}
use Rattle.cyl_map.specs.declared.state.BlockState.{BlockState}
use Rattle.cyl_map.specs.declared.state.BlockState.TheVariants.{Free, Allocated, IntendAllocate, IntendDeallocate}
use Rattle.cyl_map.specs.declared.entry.MapEntry.{MapEntry}
use Rattle.cyl_map.specs.Entry.{IsEntry}
use Rattle.cyl_alloc.specs.Space.{unheld_entry, intended}
use Rattle.intentions.specs.declared.change.EntryChange.{EntryChange}
use Rattle.intentions.specs.declared.change.EntryChange.TheVariants.{Claim, Release, SetBit, ClearBit, Finish, Undo}

-- the same entry in another state
abbrev pub restated : BlockState → MapEntry → MapEntry
restated s e = record e { state = s }

-- a node or leaf that a commit is to give up
abbrev pub released_in : BlockState → MapEntry → MapEntry
released_in Free e = e
released_in Allocated e = restated IntendDeallocate e
released_in IntendAllocate e = restated IntendDeallocate e
released_in IntendDeallocate e = e

abbrev pub released_at : Option Place → MapEntry → MapEntry
released_at None e = e
released_at (Some Root) e = e
released_at (Some ShadowRoot) e = e
released_at (Some (Node n)) e = released_in e.state e
released_at (Some (Leaf n)) e = released_in e.state e
released_at (Some (Span n)) e = released_in e.state e

abbrev pub released : MapEntry → MapEntry
released e = released_at e.place e

-- a root with its commit bit
abbrev pub with_bit_at : Option Place → MapEntry → MapEntry
with_bit_at None e = e
with_bit_at (Some Root) e = record e { committed = true }
with_bit_at (Some ShadowRoot) e = e
with_bit_at (Some (Node n)) e = e
with_bit_at (Some (Leaf n)) e = e
with_bit_at (Some (Span n)) e = e

abbrev pub with_bit : MapEntry → MapEntry
with_bit e = with_bit_at e.place e

abbrev pub without_bit : MapEntry → MapEntry
without_bit e = record e { committed = false }

-- an intention that is carried out
abbrev pub finished_in : BlockState → MapEntry → MapEntry
finished_in Free e = e
finished_in Allocated e = e
finished_in IntendAllocate e = restated Allocated e
finished_in IntendDeallocate e = unheld_entry

abbrev pub finished : MapEntry → MapEntry
finished e = finished_in e.state e

-- an intention that is taken back
abbrev pub undone_in : BlockState → MapEntry → MapEntry
undone_in Free e = e
undone_in Allocated e = e
undone_in IntendAllocate e = unheld_entry
undone_in IntendDeallocate e = restated Allocated e

abbrev pub undone : MapEntry → MapEntry
undone e = undone_in e.state e

-- the entry after a change
abbrev pub changed_entry : EntryChange → MapEntry → MapEntry
changed_entry (Claim place owner) e = intended place owner
changed_entry Release e = released e
changed_entry SetBit e = with_bit e
changed_entry ClearBit e = without_bit e
changed_entry Finish e = finished e
changed_entry Undo e = undone e

-- the entry of a claim is valid
abbrev pub FitsEntry : EntryChange → Type 0
FitsEntry (Claim place owner) = IsEntry (intended place owner)
FitsEntry Release = Unit {0}
FitsEntry SetBit = Unit {0}
FitsEntry ClearBit = Unit {0}
FitsEntry Finish = Unit {0}
FitsEntry Undo = Unit {0}
