-- What lemmas of this crate name of the crates below, and of its own definitions.
pub use Rattle.cfs_base.proofs.Calls.{reads_make, reads_then, tells_on, then_tried}
pub use Rattle.cfs_base.specs.Calls.{OnlyReads}
pub use Rattle.cfs_base.specs.Disk.{Image, Written, block_at}
pub use Rattle.cfs_base.specs.Refusals.{refused_by}
pub use Rattle.cfs_base.specs.Run.{Leaves, Tells, left_now}
pub use Rattle.cfs_base.specs.declared.disk.Disk.{Ghosts}
pub use Rattle.cfs_base.specs.declared.refusal.Trouble.{Trouble}
pub use Rattle.cyl_alloc.specs.Counts.{AreSums, IsFirstAbove, AreFreeCounts, group_sum}
pub use Rattle.cyl_alloc.specs.Maps.{IsMapOf}
pub use Rattle.cyl_alloc.specs.Refusals.{IsFindRefusal, IsMapTrouble}
pub use Rattle.cyl_alloc.specs.Space.{AreCounts, IsBadMap, IsFreeElsewhere, IsGoodMap, IsLeastFree, IsMiscounted, Kept, after_giving, after_taking, count_at, entered, unheld_entry, with_count}
unfoldable pub use Rattle.cyl_alloc.specs.Space.{free_in_cylinder}
pub use Rattle.cyl_map.proofs.Entries.{entry_of_bad}
pub use Rattle.cyl_map.proofs.FreeEntries.{none_counted, position-map}
pub use Rattle.cyl_map.proofs.Maps.{IsMap-set, entry_at-map_spelling, length-entries_of, spells_these}
pub use Rattle.cyl_map.proofs.Volumes.{entry_in-with_entry_other, entry_in-with_entry_same, length-with_entry, map_in_image, map_spelling-set}
pub use Rattle.cyl_map.specs.Entry.{IsEntry}
unfoldable pub use Rattle.cyl_map.specs.Entry.{spelling}
pub use Rattle.cyl_map.specs.Map.{IsFirstBadEntry, SpellsMap, entries_of, entry_at, free_entries, is_free, map_spelling}
pub use Rattle.cyl_map.specs.Reading.{said_by}
pub use Rattle.cyl_map.specs.Volume.{free_from, is_free_entry, is_free_in, map_of, map_with}
unfoldable pub use Rattle.cyl_map.specs.Volume.{entry_in, with_bytes, with_entry}
pub use Rattle.cyl_map.specs.declared.entry.MapEntry.{MapEntry}
pub use Rattle.std.proofs.Math.Seq.{take-length, take-set-lt}
pub use Rattle.std.proofs.lemmas.Bool.{cases_eq, cases_lt}
pub use Rattle.std.proofs.lemmas.Grind.{get_or_default_zero}
pub use Rattle.std.proofs.lemmas.List.{drop-set-add, drop-set-lt, get_or-drop, get_or-replicate, get_or-set_other, get_or-set_same, get_or-take, get_or_default, get_or_past, length-replicate, length-take, same_lists, take-set-le}
pub use Rattle.std.proofs.lemmas.List.Elements.{All-replicate, All-set}
pub use Rattle.std.proofs.lemmas.List.FromFn.{length-range_with_len}
pub use Rattle.std.proofs.lemmas.List.Quantifiers.{position-Some}
pub use Rattle.std.proofs.lemmas.List.Sums.{count_by-le-length, get_or-le-sum_by, sum_by-cons, sum_by-le, sum_by-set, sum_by-take-drop, sum_by-take-le, sum_by_more}
pub use Rattle.std.specs.List.{range_with_len}
pub use Rattle.std.specs.Prelude.{IsNone, IsSome, OnOk, sum}
pub use Rattle.std.specs.Simd.{first_chunks}
