-- What lemmas of this crate name of the crates below, and of its own definitions.
pub use Rattle.block_tree.specs.Pointers.{number_at}
pub use Rattle.block_tree.specs.declared.root.Root.{Root}
pub use Rattle.cfs_base.specs.declared.identifier.Puid.{Puid}
pub use Rattle.cfs_base.specs.declared.kind.FileKind.{FileKind}
pub use Rattle.cfs_base.specs.declared.kind.Kind.{Kind}
pub use Rattle.leaf_changes.specs.Bytes.{IsSlot, patched, slot_spelling, with_leaf_copied}
unfoldable pub use Rattle.leaf_changes.specs.Bytes.{cut, overlaid, with_slot}
pub use Rattle.leaf_changes.specs.Changes.{SetsSize}
pub use Rattle.leaf_changes.specs.Gives.{GivesFile, GivesIndex, kind_of}
pub use Rattle.leaf_changes.specs.Leaves.{FillsSlot, IsReadTo, LeavesFit, Shrinks, WritesLeaves, WritesTo, bytes_held, cut_held, leaf_byte}
pub use Rattle.std.proofs.lemmas.Bool.{and_parts, cases_eq, cases_lt, eqb-true, false_from_ne_true, lt-ltb, ltb-true}
pub use Rattle.std.proofs.lemmas.Bool.Decides.{nat_tests}
pub use Rattle.std.proofs.lemmas.List.{drop-drop, drop-take, ext_get_or, get_or-append_right, get_or-drop, get_or-replicate, get_or-set_other, get_or-set_same, get_or-take, get_or_append_left, length-append, length-drop, length-replicate, length-take, places, same_lists, set-get_or, take-take, take_all, take_at}
pub use Rattle.std.proofs.lemmas.List.FromFn.{get_or-map-range_with_len, length-map-range_with_len}
pub use Rattle.std.proofs.lemmas.Nat.{from_be_bytes-to_be_bytes_4}
pub use Rattle.std.specs.Int.{from_be_bytes, to_be_bytes, w32, w64}
pub use Rattle.std.specs.List.{flat_map, range_with_len}
pub use Rattle.std.specs.Prelude.{filter, is_some, nat_le, nat_lt, unwrap_or}
pub use Rattle.ufs_model.specs.Numbers.{has_number, numbers_rise, with_number, with_numbers}
pub use Rattle.ufs_model.specs.Object.{changed_object, filled, held_leaves, leaves_in, resized, size_of, touched, written}
pub use Rattle.ufs_model.specs.declared.change.Change.TheVariants.{Fill, Overwrite, SetSize}
pub use Rattle.ufs_model.specs.declared.object.File.{File}
pub use Rattle.ufs_model.specs.declared.object.Index.{Index}
pub use Rattle.ufs_model.specs.declared.object.Object.{Object}
pub use Rattle.vol_image.proofs.Rising.{filter-rises, here, in_cons, in_filter, in_numbers, in_with, later, numbers-rise, same_numbers, to_filter, to_numbers, with_itself, with_number-rises, with_others}
pub use Rattle.vol_image.specs.Reading.{file_bytes, held_in, leaf_content, slot_in}
unfoldable pub use Rattle.vol_image.specs.Reading.{object_with}
pub use Rattle.vol_image.specs.Seen.{Held}
pub use Rattle.vol_image.specs.Survives.{IsBetween, leaf_of_file}
