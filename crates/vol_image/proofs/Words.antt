-- What lemmas of this crate name of the crates below, and of its own definitions.
pub use Rattle.block_tree.proofs.Spellings.{one_root}
pub use Rattle.block_tree.proofs.Walks.{count_is}
pub use Rattle.block_tree.specs.Pointers.{Level, leaf_pointers, node_pointers, number_at, width}
unfoldable pub use Rattle.block_tree.specs.Pointers.{pointers_of}
pub use Rattle.block_tree.specs.Root.{IsRoot, IsRootBlock}
pub use Rattle.block_tree.specs.Tree.{below, end_of, pointer, tree_of}
unfoldable pub use Rattle.block_tree.specs.Tree.{levels_of, path_to}
pub use Rattle.cfs_base.proofs.Runs.{on, then, wider}
pub use Rattle.cfs_base.specs.Disk.{Image, IsSameDisk, Nothing, Written, block_at}
pub use Rattle.cfs_base.specs.Run.{IsSettled, Leaves, left_now}
pub use Rattle.cfs_base.specs.declared.disk.Disk.{Ghosts}
pub use Rattle.cfs_base.specs.declared.identifier.Puid.{Puid}
pub use Rattle.cfs_base.specs.declared.kind.Kind.{Kind}
pub use Rattle.cfs_base.specs.declared.kind.Kind.TheVariants.{Index, Normal, Special}
pub use Rattle.cfs_base.specs.declared.kind.Place.{Place}
pub use Rattle.cfs_base.specs.declared.kind.Place.TheVariants.{Leaf, Node, Root, ShadowRoot, Span}
pub use Rattle.cyl_map.proofs.Volumes.{block_at-with_entry, entry_in-set, entry_in-with_entry_other, entry_in-with_entry_same, length-with_entry, map_in_image, same_or_not}
pub use Rattle.cyl_map.specs.Entry.{IsEntry, place_number}
pub use Rattle.cyl_map.specs.Map.{entry_at}
pub use Rattle.cyl_map.specs.Volume.{AreMaps, map_of}
unfoldable pub use Rattle.cyl_map.specs.Volume.{entry_in, with_entry}
pub use Rattle.cyl_map.specs.declared.entry.MapEntry.{MapEntry}
pub use Rattle.cyl_map.specs.declared.state.BlockState.{BlockState}
pub use Rattle.cyl_map.specs.declared.state.BlockState.TheVariants.{Allocated, Free, IntendAllocate, IntendDeallocate}
pub use Rattle.std.proofs.Math.Arith.{mod-mul}
pub use Rattle.std.proofs.Math.Nat.{div-div-eq-div-mul, div-lt_iff_lt-mul, div-one, mod-eq_of_lt, mod-lt, mul-le-mul_right, mul-pos, mul_assoc, mul_comm}
pub use Rattle.std.proofs.Math.Path.{fun_ext}
pub use Rattle.std.proofs.lemmas.Bool.{and_parts, cases_eq, cases_lt, or_cases, or_left, or_right}
pub use Rattle.std.proofs.lemmas.Bool.Decides.{nat_tests}
pub use Rattle.std.proofs.lemmas.List.{drop-replicate, get_or-set_other, get_or-set_same, get_or_past, length-append, replicate-append-replicate, set_past, take_all}
pub use Rattle.std.proofs.lemmas.List.FromFn.{length-map-range_with_len}
pub use Rattle.std.proofs.lemmas.Nat.{div-mul-add, mod-mul-add}
pub use Rattle.std.proofs.lemmas.Option.{none-some, same_Some}
pub use Rattle.std.specs.Int.{from_be_bytes, w32}
pub use Rattle.std.specs.List.{filter_map, flat_map, range_with_len, sum_by}
pub use Rattle.std.specs.Prelude.{filter, is_some, map, slice_get}
pub use Rattle.ufs_model.specs.Graph.{Graph, graph_pairs, has_pair, ids_of, is_there, object_at, referred, with_object, without}
pub use Rattle.ufs_model.specs.Identifier.{is_among, rises, same_puid}
pub use Rattle.ufs_model.specs.Numbers.{branches, has_number, numbers_rise, parents}
pub use Rattle.ufs_model.specs.Object.{blocks_of, held_leaves, held_levels, inner_levels, leaves_in, new_file, new_index}
pub use Rattle.ufs_model.specs.Reach.{reached, rooted}
pub use Rattle.ufs_model.specs.declared.limits.TheConstants.{FAN_OUT}
pub use Rattle.ufs_model.specs.declared.object.Object.{Object}
pub use Rattle.vol_image.specs.Commit.{IsDraft, IsReadBy, MaySettle, Settles, with_commit_bit, root_from_source}
pub use Rattle.vol_image.specs.Count.{blocks_held, held_at_depth, levels_held}
pub use Rattle.vol_image.specs.Frame.{ChangesMaps, Frames, IsAtRest, IsBlockOf, IsHeldBy, IsLoose, MayChange, StandsForNone}
pub use Rattle.vol_image.specs.Part.{BelongsTo, IsTaken, OwnsItself, EntryPart, RootsOwnThemselves, SameAt, is_committed, is_fixed, part_at, part_in, part_of, stands_for}
pub use Rattle.vol_image.specs.Reading.{IsTree, bare_object, held_in, leaf_content, leaf_in, slot_in}
unfoldable pub use Rattle.vol_image.specs.Reading.{object_with}
pub use Rattle.vol_image.specs.Run.{Carries, Within}
pub use Rattle.vol_image.specs.Seen.{Held, Tree, held_at, place_above, place_from, tree_in}
unfoldable pub use Rattle.vol_image.specs.Seen.{place_at}
pub use Rattle.vol_image.specs.Sight.{Sight, first_or, source}
unfoldable pub use Rattle.vol_image.specs.Sight.{shadows, sight}
pub use Rattle.vol_image.specs.Sound.{Holds, IsBareRoot, IsClosedGraph, IsLabelOf, IsSoundAs, LeavesFour, ReadsAs, rooted_part}
pub use Rattle.vol_label.proofs.Labels.{says}
pub use Rattle.vol_label.specs.declared.label.Label.{Label}
