-- What lemmas of this crate name of the crates below, and of its own definitions.
pub use Rattle.block_tree.proofs.Walks.{count_is}
pub use Rattle.block_tree.specs.Pointers.{leaf_limit, leaf_pointers, node_pointers, number_at}
unfoldable pub use Rattle.block_tree.specs.Pointers.{pointers_of}
pub use Rattle.block_tree.specs.Reads.{IsFault, IsRootTrouble, trouble_of}
pub use Rattle.block_tree.specs.Root.{IsRootBlock}
unfoldable pub use Rattle.block_tree.specs.Root.{root_spelling}
pub use Rattle.block_tree.specs.Step.{IsNextLeaf, IsPlaced, IsStepped, IsSureStep, NoneHeld, SomeHeld}
pub use Rattle.block_tree.specs.Walk.{IsFirstPast}
pub use Rattle.block_tree.specs.Tree.{HasNoDeadEnd, LeadsPast, leaf_block, tree_of}
unfoldable pub use Rattle.block_tree.specs.Tree.{levels_of, path_to}
pub use Rattle.block_tree.specs.declared.fault.TreeFault.{TreeFault}
pub use Rattle.block_tree.specs.declared.root.Root.{Root}
pub use Rattle.block_tree.specs.declared.step.HeldStep.{HeldStep}
pub use Rattle.block_tree.specs.declared.step.LeafStep.{LeafStep}
pub use Rattle.cfs_base.proofs.Calls.{makes_then, reads_make, reads_then, stopped_after_reads, tells_on}
pub use Rattle.cfs_base.proofs.Runs.{then, wider}
pub use Rattle.cfs_base.specs.Calls.{HasStopped, MakesAtMost, OnlyReads}
pub use Rattle.cfs_base.specs.Disk.{AreBlocks, Image, Nothing, block_at}
pub use Rattle.cfs_base.specs.Outside.{count_after}
pub use Rattle.cfs_base.specs.Refusals.{trouble_had_tried}
pub use Rattle.cfs_base.specs.Run.{Leaves, Tells}
pub use Rattle.cfs_base.specs.declared.disk.Disk.{Ghosts}
pub use Rattle.cfs_base.specs.declared.identifier.Puid.{Puid}
pub use Rattle.cfs_base.specs.declared.kind.FileKind.{FileKind}
pub use Rattle.cfs_base.specs.declared.kind.Kind.{Kind}
pub use Rattle.cfs_base.specs.declared.refusal.Trouble.{Trouble}
pub use Rattle.collector_marks.specs.Kept.{blocks_marked, colours_of}
pub use Rattle.collector_steps.specs.Collecting.{Collecting, Collects, IsCollecting, AreStepsWithin, Serves, colours_in, volume_of, waiting_in}
pub use Rattle.collector_steps.specs.Left.{cylinders_of, left_in, most_steps, reads_of, steps_left}
unfoldable pub use Rattle.collector_steps.specs.Left.{reads_left, unmarked_below}
pub use Rattle.collector_steps.specs.Scan.{IsDamaged, IsScanTrouble, NoRoot, PastDisk}
unfoldable pub use Rattle.collector_steps.specs.Scan.{ids_from}
pub use Rattle.collector_steps.specs.Steady.{IsPhaseReady}
pub use Rattle.collector_steps.specs.Sweep.{IsSweptOf, MayBegin, NoInner, NoStray, goes, is_of_pass, swept, swept_map}
pub use Rattle.collector_steps.specs.Swept.{HasSwept, IsDamageTrouble, IsPhaseOf, IsSweep, cylinder_of, next_phase}
pub use Rattle.collector_steps.specs.contracts.collector.Collector.{the_view}
pub use Rattle.collector_steps.specs.declared.phase.Phase.{Phase}
pub use Rattle.collector_steps.specs.declared.sweep.Pass.{Pass}
pub use Rattle.cyl_alloc.proofs.Entries.{entry_is, free_count}
pub use Rattle.cyl_alloc.proofs.Ranges.{count-cons, one}
pub use Rattle.cyl_alloc.specs.Maps.{IsMapOf}
pub use Rattle.cyl_alloc.specs.Refusals.{IsMapTrouble}
pub use Rattle.cyl_alloc.specs.Space.{AreCounts, IsFreeElsewhere, Kept, unheld_entry}
unfoldable pub use Rattle.cyl_alloc.specs.Space.{free_in_cylinder}
pub use Rattle.cyl_map.specs.Entry.{IsEntry}
pub use Rattle.cyl_map.specs.Map.{IsMap, entry_at, free_entries, is_free, is_free_state, map_spelling}
pub use Rattle.cyl_map.specs.Volume.{is_free_entry, map_of}
unfoldable pub use Rattle.cyl_map.specs.Volume.{entry_in}
pub use Rattle.cyl_map.specs.declared.entry.MapEntry.{MapEntry}
pub use Rattle.cyl_map.specs.declared.state.BlockState.{BlockState}
pub use Rattle.cyl_map.specs.declared.state.BlockState.TheVariants.{Allocated, Free, IntendAllocate, IntendDeallocate}
pub use Rattle.marking.proofs.Asked.{allowed}
pub use Rattle.marking.proofs.Condemned.{condemned_may_vanish}
pub use Rattle.marking.proofs.Leaves.{index_there}
pub use Rattle.marking.proofs.Paces.{pace_begin, pace_end, pace_ended, pace_scan, pace_take, scan_is}
pub use Rattle.marking.proofs.Steps.{begin_keeps, begun, find_least, find_none, find_on, first_is, first_marked, scan_keeps, take_keeps}
pub use Rattle.marking.proofs.Wells.{well}
pub use Rattle.marking.specs.Colours.{Colours, all_shaded, first_grey, moved, none_marked, shaded, shaded_in}
pub use Rattle.marking.specs.Leaves.{leaf_ids}
pub use Rattle.marking.specs.Marking.{IsGrey, IsMarking}
pub use Rattle.marking.specs.Pace.{IsPaced}
pub use Rattle.marking.specs.Steps.{IsDirectoryOf, next_held, read, rescued, scanned, unmarked}
pub use Rattle.marking.specs.declared.memory.Grey.{Grey}
pub use Rattle.marking.specs.declared.memory.Rescue.{Rescue}
pub use Rattle.puid_space.specs.Directory.{Listing, blocks_rise, has_root_in, is_listing, kept_by, directory_kind, taken_by}
pub use Rattle.puid_space.specs.Kinds.{object_kind, kinds_of}
pub use Rattle.std.proofs.lemmas.Bool.{and_from, and_parts, both_ways, cases_eq, cases_lt, eq-eqb, false_from_ne_true, ltb-false, not-true, or_left, true_from_ne_false}
pub use Rattle.std.proofs.lemmas.Bool.Decides.{nat_tests}
pub use Rattle.std.proofs.lemmas.List.{append-nil, at_drop_more, drop_all, drop_more, get_or-append-add, get_or-drop, get_or-map, get_or-set_other, get_or-set_same, get_or-take, get_or_append_left, get_or_at, get_or_default, get_or_past, length-append, length-drop, length-map, length-replicate, length-set, length-take, set-get_or, take_all, take_at}
pub use Rattle.std.proofs.lemmas.List.Edits.{map_over_more}
pub use Rattle.std.proofs.lemmas.List.Elements.{All-map}
pub use Rattle.std.proofs.lemmas.List.FromFn.{get_or-map-range_with_len, length-map-range_with_len}
pub use Rattle.std.proofs.lemmas.List.Sums.{count_by_more_no, count_by_more_yes, sum_by-cons}
pub use Rattle.std.proofs.lemmas.Option.{get_or_from_slice_get, same_Some}
pub use Rattle.std.proofs.lemmas.Result.{err_from_is_err_and}
pub use Rattle.std.specs.List.{cons_option, filter_map, flat_map, list_all, range_with_len, sum_by}
pub use Rattle.std.specs.Map.{keys_of}
pub use Rattle.std.specs.Prelude.{IfSome, IsFalse, IsSome, IsTrue, filter, option_map, option_to_list, slice_get}
pub use Rattle.ufs_model.proofs.Reached.{same_puid_is}
pub use Rattle.ufs_model.proofs.Rising.{filter-rises, in_filter, in_numbers, numbers-rise, to_filter, to_numbers}
pub use Rattle.ufs_model.specs.Graph.{Graph, has_block, ids_of, object_at, without}
pub use Rattle.ufs_model.specs.Identifier.{is_among, rises, same_puid}
pub use Rattle.ufs_model.specs.Numbers.{has_number, numbers_rise}
pub use Rattle.ufs_model.specs.Object.{leaves_in}
pub use Rattle.ufs_model.specs.State.{State, the_index}
pub use Rattle.ufs_model.specs.Vanish.{MayVanish}
pub use Rattle.ufs_model.specs.WellFormed.{IsState}
pub use Rattle.ufs_model.specs.declared.object.Index.{Index}
pub use Rattle.ufs_model.specs.declared.object.Object.{Object}
pub use Rattle.vol_image.proofs.AtRoot.{read_by_root}
pub use Rattle.vol_image.proofs.Carries.{carries_on, carries_write, write_leaves}
pub use Rattle.vol_image.proofs.Parts.{in_image}
pub use Rattle.vol_image.proofs.Runs.{both_ok}
pub use Rattle.vol_image.proofs.Views.{held}
pub use Rattle.vol_image.specs.Frame.{Frames}
pub use Rattle.vol_image.specs.Part.{OwnsItself, is_committed, is_fixed, part_at, reserved}
pub use Rattle.vol_image.specs.Reading.{IsTree, file_bytes, held_in, leaf_content, leaf_in, leaves_content, slot_in}
unfoldable pub use Rattle.vol_image.specs.Reading.{object_with}
pub use Rattle.vol_image.specs.Run.{Carries}
pub use Rattle.vol_image.specs.Seen.{Held, held_at, tree_in}
unfoldable pub use Rattle.vol_image.specs.Sight.{sight}
pub use Rattle.vol_image.specs.Sound.{Holds}
pub use Rattle.vol_owners.proofs.Entries.{owner_is, root_owner, root_placed, root_real}
pub use Rattle.vol_owners.proofs.Kept.{frames_others}
pub use Rattle.vol_owners.proofs.Keys.{block_there}
pub use Rattle.vol_owners.proofs.Steps.{sweep_goes_on}
pub use Rattle.vol_owners.specs.Account.{Accounts, Drafts, HasRoot, IsSwept}
pub use Rattle.vol_owners.specs.Change.{ChangesOnly, IsOpenTo, Misses, Sweeps}
pub use Rattle.vol_owners.specs.Owner.{is_had, is_made, is_meant, is_placed, is_root, is_root_place, is_stray, is_taken, owner_of}
