-- What lemmas of this crate name of the crates below, and of its own definitions.
pub use Rattle.block_tree.specs.Pointers.{Level, width}
pub use Rattle.block_tree.specs.Root.{IsRootBlock}
pub use Rattle.block_tree.specs.Tree.{tree_of}
unfoldable pub use Rattle.block_tree.specs.Tree.{levels_of, path_to}
pub use Rattle.cfs_base.specs.Disk.{Image, block_at}
pub use Rattle.cfs_base.specs.declared.identifier.Puid.{Puid}
pub use Rattle.cfs_base.specs.declared.kind.Place.{Place}
pub use Rattle.cfs_base.specs.declared.kind.Place.TheVariants.{Leaf, Node, Root, ShadowRoot, Span}
pub use Rattle.cyl_map.proofs.Volumes.{block_at-with_entry, entry_in-set, entry_in-with_entry_other, entry_in-with_entry_same, length-with_entry, same_or_not}
pub use Rattle.cyl_map.specs.Entry.{IsEntry}
pub use Rattle.cyl_map.specs.Volume.{AreMaps, free_from, is_free_entry, is_free_in}
unfoldable pub use Rattle.cyl_map.specs.Volume.{entry_in, with_entry}
pub use Rattle.cyl_map.specs.declared.entry.MapEntry.{MapEntry}
pub use Rattle.cyl_map.specs.declared.state.BlockState.{BlockState}
pub use Rattle.cyl_map.specs.declared.state.BlockState.TheVariants.{Allocated, Free, IntendAllocate, IntendDeallocate}
pub use Rattle.std.proofs.Math.Path.{fun_ext}
pub use Rattle.std.proofs.lemmas.Bool.{and_from, and_left, and_parts, both_ways, cases_Bool, cases_eq, cases_lt, eq-eqb, eqb-true, false_from_ne_true, ne_eqb, not-true, not_from_false, or_cases, or_left, or_parts, or_right}
pub use Rattle.std.proofs.lemmas.Bool.Decides.{nat_tests}
pub use Rattle.std.proofs.lemmas.List.{get_or-set_other, length-map}
pub use Rattle.std.proofs.lemmas.List.Folds.{list_any-append}
pub use Rattle.std.proofs.lemmas.List.Sums.{sum_by-cons}
pub use Rattle.std.proofs.lemmas.Nat.{div-mul-add, mod-mul-add}
pub use Rattle.std.proofs.lemmas.Option.{same_Some}
pub use Rattle.std.specs.List.{list_all, list_any, range_with_len, sum_by}
pub use Rattle.std.specs.Map.{keys_of}
pub use Rattle.std.specs.Ordering.{is_eq, is_lt}
pub use Rattle.std.specs.Prelude.{IsSome, filter, is_some, map, option_to_list}
pub use Rattle.std.specs.declared.cmp.Ordering.{Ordering}
pub use Rattle.std.specs.declared.cmp.Ordering.TheVariants.{Equal, Greater, Less}
pub use Rattle.ufs_model.proofs.WellGraphs.{still_there}
pub use Rattle.ufs_model.specs.Graph.{Graph, has_block, ids_of, is_free_root, is_there, object_at, with_object, without}
pub use Rattle.ufs_model.specs.Identifier.{is_among, puid_cmp, rises, same_puid}
pub use Rattle.ufs_model.specs.Numbers.{has_number, numbers_rise}
pub use Rattle.ufs_model.specs.Object.{blocks_of}
pub use Rattle.ufs_model.specs.Reach.{rooted}
pub use Rattle.ufs_model.specs.declared.object.Object.{Object}
pub use Rattle.vol_image.proofs.AtRoot.{no_shadows}
pub use Rattle.vol_image.proofs.Changes.{hold_fewer, object_put, other_is, others, same_block}
pub use Rattle.vol_image.proofs.Counts.{blocks_are}
pub use Rattle.vol_image.proofs.Graphs.{found, is_there-ids, object_at-with_object, object_at-without, object_there, there_from}
pub use Rattle.vol_image.proofs.Law.{frames_hold, same_blocks, same_shadows, same_sight}
pub use Rattle.vol_image.proofs.Parts.{below_apart, in_image, is_inner, object_taken, place_inner, root_placed, shadow_taken, taken_apart, tree_placed}
pub use Rattle.vol_image.proofs.Paths.{digits_below, held_there, length-path_to}
pub use Rattle.vol_image.proofs.Places.{IsPath, below_is_path, one_path, same_levels, same_path}
pub use Rattle.vol_image.proofs.Reached.{same_puid_is, same_puid_itself}
pub use Rattle.vol_image.proofs.Rising.{above, filter-rises, here, in_cons, in_filter, in_map, in_numbers, later, numbers-rise, to_filter, to_map, to_numbers}
pub use Rattle.vol_image.proofs.Steps.{entry_maps, entry_own, not_label, not_map}
pub use Rattle.vol_image.proofs.Views.{held, held_block, held_is, same_tree}
pub use Rattle.vol_image.specs.Count.{held_at_depth, levels_held}
pub use Rattle.vol_image.specs.Frame.{Frames, IsAtRest, IsBlockOf}
pub use Rattle.vol_image.specs.Part.{IsTaken, OwnsItself, RootsOwnThemselves, SameAt, is_committed, is_fixed, part_of, stands_for}
pub use Rattle.vol_image.specs.Reading.{IsTree}
pub use Rattle.vol_image.specs.Seen.{Held, Tree, held_at, tree_in}
pub use Rattle.vol_image.specs.Sight.{first_or, source}
unfoldable pub use Rattle.vol_image.specs.Sight.{sight}
pub use Rattle.vol_image.specs.Sound.{Holds, ReadsAs, graph_blocks}
pub use Rattle.vol_owners.specs.Account.{Accounts, Drafts, HasDraft, HasDraftIf, HasItsBlocks, IsMadeBy, IsMadeRoot, IsSwept, Opened, StandsIn, content_of, created_if, is_meant_for, levels_standing, passes, standing_at, with_draft_if, with_opened, without_draft}
pub use Rattle.vol_owners.specs.Change.{ChangesOnly, IsOfThese, IsOpenTo, Misses, OwnsNothing, Sweeps, of_draft, of_drafts, of_owner, of_owners}
pub use Rattle.vol_owners.specs.Owner.{is_had, is_leaving, is_made, is_meant, is_owned_by, is_placed, is_root, is_root_place, is_stray, is_taken, owner_of, stray_blocks}
pub use Rattle.vol_owners.specs.Room.{blocks_taken, draft_blocks_if, is_of_draft, is_of_object, one_of}
