-- The entries of version 1, whose objects had at most 120 nodes and no spans.
use Rattle.std.specs.Prelude.{ℕ, true, false, List, [], ◌∷◌, ◌++◌, Some, None, IsTrue}
use Rattle.std.specs.List.{list_any}
use Rattle.std.specs.Int.{to_be_bytes, w16, w32}
use Rattle.cfs_base.specs.declared.kind.Place.TheVariants.{Root, ShadowRoot, Node, Leaf}
use Rattle.cyl_map.specs.declared.state.BlockState.TheVariants.{Free, Allocated, IntendAllocate, IntendDeallocate}
use Rattle.cyl_map.specs.declared.entry.MapEntry.{MapEntry}
use Rattle.cyl_map.specs.declared.row.Row.{Row}
use Rattle.cyl_map.specs.Entry.{first_byte, is_of, place_code, place_number, row}

abbrev pub narrow_table : List Row
narrow_table =
    row Free Allocated None false false
    ∷ row Allocated IntendAllocate (Some Root) true true
    ∷ row Allocated IntendAllocate (Some ShadowRoot) true false
    ∷ row Allocated IntendDeallocate (Some (Node 119)) true false
    ∷ row Allocated IntendDeallocate (Some (Leaf 15359)) true false
    ∷ []

pub record IsNarrowEntry (e : MapEntry) : Type 0 where
  pub in_table : IsTrue (list_any (λ row. is_of row e) narrow_table)

abbrev pub narrow_spelling : MapEntry → List ℕ
narrow_spelling e = first_byte e.state e.committed ∷ place_code e.place
    ∷ (to_be_bytes w16 (place_number e.place) ++ to_be_bytes w32 e.owner)
