-- The words of the crates below that most proofs cite, passed on from one place. Declares nothing.
pub use Rattle.block_tree.proofs.Spellings.{leaves_of as node_leaves, nodes_of, one_root, leaves_of as spells_leaves}
pub use Rattle.block_tree.proofs.Nodes.{leaves_there, length-leaves, nothing_below, pointed, two_levels, zeros}
pub use Rattle.block_tree.proofs.Trees.{leaf_is, node_block, path_is}
pub use Rattle.block_tree.specs.Node.{IsNode, node_spelling}
pub use Rattle.block_tree.specs.Pointers.{leaf_limit, leaf_pointers, node_levels, node_pointers, number_at, numbers_from, size_limit}
unfoldable pub use Rattle.block_tree.specs.Pointers.{pointers_of}
pub use Rattle.block_tree.specs.Reads.{HasStoppedBy, Far, FarLeaf, IsNear, IsNodeTrouble, IsRootTrouble, is_damage, leaves_at}
pub use Rattle.block_tree.specs.Root.{IsGoodRoot, IsRoot, IsRootBlock, root_spelling}
pub use Rattle.block_tree.specs.Tree.{bytes_in, end_of, leaf_block, pointer, tree_of}
unfoldable pub use Rattle.block_tree.specs.Tree.{levels_of, path_to}
pub use Rattle.cfs_base.proofs.Calls.{makes_then, reads_make, reads_then, reads_within, stopped_after_reads, stopped_after_try, tells_on, tried_then}
pub use Rattle.cfs_base.proofs.Runs.{on, still_tells, then, wider}
pub use Rattle.cfs_base.specs.Calls.{HasTried, MakesAtMost, OnlyReads}
pub use Rattle.cfs_base.specs.Disk.{AreBlocks, Image, IsSameDisk, Nothing, Written, block_at}
pub use Rattle.cfs_base.specs.Refusals.{after_try, had_tried, refused_by, trouble_after_try, trouble_had_tried}
pub use Rattle.cfs_base.specs.Run.{IsSettled, Leaves, Tells, left_now}
pub use Rattle.cfs_base.specs.declared.disk.Disk.{Ghosts}
pub use Rattle.cfs_base.specs.declared.identifier.BlockNo.{BlockNo}
pub use Rattle.cfs_base.specs.declared.identifier.Puid.{Puid}
pub use Rattle.cfs_base.specs.declared.kind.FileKind.{FileKind}
pub use Rattle.cfs_base.specs.declared.kind.Place.{Place}
pub use Rattle.cfs_base.specs.declared.kind.Place.TheVariants.{Leaf, Node, Root, ShadowRoot}
pub use Rattle.cfs_base.specs.declared.refusal.Damage.{Damage}
pub use Rattle.cfs_base.specs.declared.refusal.Refused.{Refused}
pub use Rattle.cfs_base.specs.declared.refusal.Trouble.{Trouble}
pub use Rattle.claims.proofs.Claims.{claims_then}
pub use Rattle.claims.specs.Claims.{AreClaimed}
pub use Rattle.cyl_alloc.specs.Enters.{Enters, EntryWritten}
pub use Rattle.cyl_alloc.specs.Refusals.{IsFindRefusal}
pub use Rattle.cyl_alloc.specs.Space.{AreCounts, IsBadMap, IsLeastFree, Kept, allocated, unheld_entry}
unfoldable pub use Rattle.cyl_alloc.specs.Space.{free_in_cylinder}
pub use Rattle.cyl_map.proofs.Volumes.{block_at-with_entry, entry_in-set, entry_in-with_entry_other, entry_in-with_entry_same, entry_in_table, length-with_entry, map_in_image, same_or_not}
pub use Rattle.cyl_map.specs.Entry.{IsEntry}
pub use Rattle.cyl_map.specs.Volume.{AreMaps, entry_in, is_free_entry, is_free_in, map_of, map_with}
unfoldable pub use Rattle.cyl_map.specs.Volume.{with_entry}
pub use Rattle.cyl_map.specs.declared.entry.MapEntry.{MapEntry}
pub use Rattle.cyl_map.specs.declared.state.BlockState.{BlockState}
pub use Rattle.cyl_map.specs.declared.state.BlockState.TheVariants.{Allocated, Free, IntendAllocate, IntendDeallocate}
pub use Rattle.intentions.specs.Store.{StoreHas}
pub use Rattle.leaf_changes.proofs.Between.{between, leaf_of, mixed_fit}
pub use Rattle.leaf_changes.proofs.Contents.{content_is, length-leaf_content, same_content}
pub use Rattle.leaf_changes.proofs.Fits.{same_fit, same_object}
pub use Rattle.leaf_changes.proofs.Given.{file_to_leaves, same_kind, some_file}
pub use Rattle.leaf_changes.proofs.HeldNumbers.{first_to_last, held_each, in_touched, to_touched}
pub use Rattle.leaf_changes.proofs.Overlays.{laid, laid_outside, length-overlaid, over_early, over_past}
pub use Rattle.leaf_changes.proofs.ReadParts.{read_all, read_more}
pub use Rattle.leaf_changes.proofs.Resized.{cut_fit, cut_object, grown_fit, grown_object}
pub use Rattle.leaf_changes.proofs.Written.{writes_fit, writes_object}
pub use Rattle.leaf_changes.specs.Bytes.{cut, overlaid, patched, with_leaf_copied}
pub use Rattle.leaf_changes.specs.Changes.{SetsSize}
pub use Rattle.leaf_changes.specs.Gives.{GivesFile, kind_of}
pub use Rattle.leaf_changes.specs.Leaves.{IsReadTo, LeavesFit, Shrinks, WritesLeaves, bytes_held, cut_held}
pub use Rattle.std.proofs.Common.{Bool, Err, IsTrue, List, None, Ok, Option, Some, [], ap, arith, below_more, cond, eq-eqb, false, get_or, get_or-set_other, get_or-set_same, inl, inr, is_some, length, refl, replicate, set, subst, suc, sym, true, zero, ℕ, ⊎_elim, ◌%◌, ◌*◌, ◌++◌, ◌+◌, ◌-◌, ◌/◌, ◌<◌, ◌^◌, ◌∙◌, ◌∷◌, ◌≡◌, ◌≢◌, ◌≤◌, ◌⊎◌}
pub use Rattle.std.proofs.Math.ListN.{length-set}
pub use Rattle.std.proofs.Math.Path.{fun_ext}
pub use Rattle.std.proofs.lemmas.Bool.{and_from, and_parts, both_ways, cases_Bool, cases_eq, cases_lt, eqb-true, false_from_ne_true, le-leb, lt-ltb, ne_eqb}
pub use Rattle.std.proofs.lemmas.Bool.Decides.{nat_tests}
pub use Rattle.std.proofs.lemmas.List.{ext_get_or, get_or-replicate, get_or_past, length-replicate, take_at}
pub use Rattle.std.proofs.lemmas.List.Elements.{All-from_get_or, All-replicate, All-set}
pub use Rattle.std.proofs.lemmas.List.FromFn.{length-map-range_with_len}
pub use Rattle.std.proofs.lemmas.List.Sums.{length-filter}
pub use Rattle.std.proofs.lemmas.Option.{same_Some}
pub use Rattle.std.specs.List.{All, range_with_len}
pub use Rattle.std.specs.Prelude.{IfErr, IfOk, IsSome, OnOk, Result, count_by, filter, if◌then◌else◌, map, max, min, nat_le, nat_lt, not, slice_index, slice_range, sum, ◌&&◌, ◌==◌, ◌||◌}
pub use Rattle.std.specs.Result.{IsErrAnd}
pub use Rattle.ufs_model.proofs.Graphs.{object_at-with_object, rises-with_object}
pub use Rattle.ufs_model.proofs.Reached.{same_puid_is, same_puid_itself}
pub use Rattle.ufs_model.proofs.Rising.{filter-rises, here, in_filter, in_map, in_numbers, in_withs, numbers-rise, same_numbers, to_filter, to_map, to_numbers, to_withs, with_numbers-rise}
pub use Rattle.ufs_model.specs.Graph.{Graph, object_at, with_object}
pub use Rattle.ufs_model.specs.Identifier.{same_puid}
pub use Rattle.ufs_model.specs.Numbers.{branches, has_number, lacking, missing, numbers_rise, parents}
pub use Rattle.ufs_model.specs.Object.{changed_object, held_levels, leaves_in, resized, touched, written}
pub use Rattle.ufs_model.specs.declared.change.Change.TheVariants.{Overwrite, SetSize}
pub use Rattle.ufs_model.specs.declared.object.File.{File}
pub use Rattle.ufs_model.specs.declared.object.Object.{Object}
pub use Rattle.vol_image.proofs.AtRoot.{no_shadows, read_by_root, reads_by_root}
pub use Rattle.vol_image.proofs.Carries.{carried, carries_on, carries_settled}
pub use Rattle.vol_image.proofs.Changes.{hold_others, object_put, other_at, other_is, others, owned_is_loose}
pub use Rattle.vol_image.proofs.Claims.{free_stands_for_none, loose_entry}
pub use Rattle.vol_image.proofs.Law.{framed_sight, frames_hold, same_blocks}
pub use Rattle.vol_image.proofs.Parts.{IsPlaced, free_is_loose, in_image, placed, shadow_entry, taken_apart}
pub use Rattle.vol_image.proofs.Places.{leaf_place, node_place}
pub use Rattle.vol_image.proofs.Paths.{held_some, held_there, some_held}
pub use Rattle.vol_image.proofs.Runs.{begins, stays, tried, wrote}
pub use Rattle.vol_image.proofs.Steps.{entry_mixed, frames_begin, frames_content, frames_entry, frames_fewer, frames_mix, not_map}
pub use Rattle.vol_image.proofs.Views.{held, held_is}
pub use Rattle.vol_image.specs.Frame.{Frames, IsBlockOf, IsLoose}
pub use Rattle.vol_image.specs.Part.{BelongsTo, IsTaken, SameAt, is_committed, part_at, part_of, stands_for}
pub use Rattle.vol_image.specs.Reading.{IsTree, leaf_content, leaf_in, object_with}
pub use Rattle.vol_image.specs.Run.{Carries}
pub use Rattle.vol_image.specs.Seen.{Held, held_at, tree_in}
unfoldable pub use Rattle.vol_image.specs.Seen.{place_at}
pub use Rattle.vol_image.specs.Sight.{first_or, source}
unfoldable pub use Rattle.vol_image.specs.Sight.{sight}
pub use Rattle.vol_image.specs.Sound.{Holds, ReadsAs}
pub use Rattle.vol_image.specs.Survives.{leaf_of_file}
pub use Rattle.vol_owners.proofs.Changes.{changes_begin, changes_content, changes_entry, changes_then}
pub use Rattle.vol_owners.proofs.Entries.{free_unowned, taken_of}
pub use Rattle.vol_owners.proofs.Steps.{changes_in_place}
pub use Rattle.vol_owners.specs.Account.{Accounts, Drafts, HasDraftIf, HasItsBlocks, is_meant_for}
pub use Rattle.vol_owners.specs.Change.{ChangesOnly, IsOpenTo, of_owner}
pub use Rattle.vol_owners.specs.Owner.{is_had, is_leaving, is_meant, is_owned_by, is_placed, is_taken, owner_of}
