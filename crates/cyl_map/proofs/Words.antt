-- What lemmas of this crate name of the crates below, and of its own definitions.
pub use Rattle.cfs_base.specs.Disk.{Image, block_at}
pub use Rattle.cfs_base.specs.declared.kind.Place.{Place}
pub use Rattle.cfs_base.specs.declared.kind.Place.TheVariants.{Leaf, Node, Root, ShadowRoot, Span}
pub use Rattle.cyl_map.specs.Entry.{IsEntry, first_byte, is_entry, is_of, lets_owner, lets_place, lets_state, place_byte, place_code, place_number, row, state_code, table}
unfoldable pub use Rattle.cyl_map.specs.Entry.{spelling}
pub use Rattle.cyl_map.specs.Map.{AreEntries, IsFirstBadEntry, IsMap, SpellsMap, bytes_at, entries_of, entry_at, map_spelling}
unfoldable pub use Rattle.cyl_map.specs.Map.{eights}
pub use Rattle.cyl_map.specs.Reading.{BeginsEntry, IsFirstBad, place_of, said_by, state_of}
unfoldable pub use Rattle.cyl_map.specs.Reading.{entry_of}
pub use Rattle.cyl_map.specs.Row.{BeginsEntryOf, IsFirstBadOf, IsFirstOfOwner, IsSpelledBy}
pub use Rattle.cyl_map.specs.Version1.{IsNarrowEntry, narrow_spelling, narrow_table}
pub use Rattle.cyl_map.specs.Volume.{map_of}
unfoldable pub use Rattle.cyl_map.specs.Volume.{entry_in, with_bytes, with_entry}
pub use Rattle.cyl_map.specs.declared.entry.BadEntry.{BadEntry}
pub use Rattle.cyl_map.specs.declared.entry.MapEntry.{MapEntry}
pub use Rattle.cyl_map.specs.declared.map.BadMap.{BadMap}
pub use Rattle.cyl_map.specs.declared.row.Row.{Row}
pub use Rattle.cyl_map.specs.declared.state.BlockState.{BlockState}
pub use Rattle.cyl_map.specs.declared.state.BlockState.TheVariants.{Allocated, Free, IntendAllocate, IntendDeallocate}
pub use Rattle.std.proofs.Math.Seq.{drop-append-add, drop-append_seam, take-append-add, take-append_seam}
pub use Rattle.std.proofs.lemmas.Bool.{cases_lt}
pub use Rattle.std.proofs.lemmas.Bool.Decides.{nat_tests}
pub use Rattle.std.proofs.lemmas.List.{drop-append-le, drop-drop, drop-take, drop_at, get_or-map, get_or-set_other, get_or-set_same, get_or_past, length-map, length-take, take-append-drop, take-append-le, take-take, take_at, take_more}
pub use Rattle.std.proofs.lemmas.List.Elements.{All-set}
pub use Rattle.std.proofs.lemmas.List.Folds.{list_any-append}
pub use Rattle.std.proofs.lemmas.List.Recursion.{or_at}
pub use Rattle.std.proofs.lemmas.List.Sums.{prefix_len-le-length, sum_by-cons}
pub use Rattle.std.proofs.lemmas.Nat.{be_bytes_8, from_be_bytes-to_be_bytes_2, from_be_bytes-to_be_bytes_4}
pub use Rattle.std.proofs.lemmas.Option.{slice_get-get_or}
pub use Rattle.std.proofs.lemmas.Slice.Eq.{bytes_eq-Decides}
pub use Rattle.std.specs.List.{list_all, list_any, prefix_len}
pub use Rattle.std.specs.Prelude.{All, IsNone, IsSome, nat_le, nat_lt}
pub use Rattle.std.specs.Simd.{first_chunks}
pub use Rattle.std.specs.Str.{bytes_eq}
