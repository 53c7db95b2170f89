-- What lemmas of this crate name of the crates below, and of its own definitions.
pub use Rattle.block_tree.proofs.Spellings.{nodes_of, one_root}
pub use Rattle.block_tree.proofs.Trees.{end_is, node_block, path_is}
pub use Rattle.block_tree.proofs.Nodes.{leaves_there, length-leaves, nothing_below, pointed, two_levels, zeros}
pub use Rattle.block_tree.specs.Along.{IsNearTree, IsTo, IsWay, way_leaves}
pub use Rattle.block_tree.specs.declared.along.Way.{Way}
pub use Rattle.block_tree.specs.Pointers.{leaf_limit, leaf_pointers, node_pointers, number_at, size_limit, width}
unfoldable pub use Rattle.block_tree.specs.Pointers.{pointers_of}
pub use Rattle.block_tree.specs.Root.{Fits, IsGoodRoot, IsRoot, IsRootBlock, root_spelling}
pub use Rattle.block_tree.specs.Tree.{bytes_in, end_of, leaf_block, pointer, tree_of}
unfoldable pub use Rattle.block_tree.specs.Tree.{levels_of, path_to}
pub use Rattle.cfs_base.proofs.Calls.{makes_then, reads_make, reads_then, reads_within, stopped_after_reads, stopped_after_try, tells_on, then_tried, tried_then}
pub use Rattle.cfs_base.proofs.Runs.{still_tells, then, wider}
pub use Rattle.cfs_base.specs.Calls.{HasTried, MakesAtMost, OnlyReads}
pub use Rattle.cfs_base.specs.Disk.{AreBlocks, Image, IsSameDisk, Nothing, Written, block_at}
pub use Rattle.cfs_base.specs.Refusals.{after_try, had_tried, refused_by, trouble_after_try, trouble_had_tried}
pub use Rattle.cfs_base.specs.Run.{IsSettled, Leaves, Tells, left_now}
pub use Rattle.cfs_base.specs.declared.disk.Disk.{Ghosts}
pub use Rattle.cfs_base.specs.declared.identifier.BlockNo.{BlockNo}
pub use Rattle.cfs_base.specs.declared.identifier.Puid.{Puid}
pub use Rattle.cfs_base.specs.declared.kind.FileKind.{FileKind}
pub use Rattle.cfs_base.specs.declared.kind.Place.{Place}
pub use Rattle.cfs_base.specs.declared.kind.Place.TheVariants.{Leaf, Node, Root, ShadowRoot, Span}
pub use Rattle.cfs_base.specs.declared.refusal.Damage.{Damage}
pub use Rattle.cfs_base.specs.declared.refusal.Need.{Need}
pub use Rattle.cfs_base.specs.declared.refusal.Refused.{Refused}
pub use Rattle.cfs_base.specs.declared.refusal.Trouble.{Trouble}
pub use Rattle.claims.proofs.Claims.{claimed_by, claims_then, written_same}
pub use Rattle.claims.specs.Claims.{AreClaimed, SameEntries}
pub use Rattle.cyl_alloc.proofs.Counted.{counts_given, counts_same}
pub use Rattle.cyl_alloc.proofs.Entries.{some_entry}
pub use Rattle.cyl_alloc.proofs.Miscounts.{miscounted_as}
pub use Rattle.cyl_alloc.specs.Enters.{Enters, EntryWritten}
pub use Rattle.cyl_alloc.specs.Refusals.{IsFindRefusal, IsMapTrouble}
pub use Rattle.cyl_alloc.specs.Space.{AreCounts, IsBadMap, IsLeastFree, IsMiscounted, Kept, after_giving, after_taking, unheld_entry, intended}
pub use Rattle.cyl_map.proofs.Volumes.{block_at-with_entry, entry_in-set, entry_in-with_entry_other, entry_in-with_entry_same, entry_in_table, length-with_entry, map_in_image, same_or_not}
pub use Rattle.cyl_map.specs.Entry.{IsEntry}
pub use Rattle.cyl_map.specs.Map.{is_free, is_free_state}
pub use Rattle.cyl_map.specs.Volume.{AreMaps, entry_in, is_free_entry, is_free_in, map_of, map_with}
unfoldable pub use Rattle.cyl_map.specs.Volume.{with_entry}
pub use Rattle.cyl_map.specs.declared.entry.MapEntry.{MapEntry}
pub use Rattle.cyl_map.specs.declared.state.BlockState.{BlockState}
pub use Rattle.cyl_map.specs.declared.state.BlockState.TheVariants.{Allocated, Free, IntendAllocate, IntendDeallocate}
pub use Rattle.intentions.proofs.Changes.{all_ok, on_ok}
pub use Rattle.intentions.proofs.Committed.{commits, copied_settles, copies, object_at_put, still_to_finish}
pub use Rattle.intentions.proofs.Courses.{carries_framed, keeps_frame, on_entry}
pub use Rattle.intentions.proofs.Settling.{may_clear, may_finish, may_finish_made, may_release, may_take_back, may_undo}
pub use Rattle.intentions.proofs.Valid.{bit_valid, finished_part, no_shadow_stands, released_keeps, undone_stands, undone_valid}
pub use Rattle.intentions.specs.Calls.{ChangesBit, ChangesEntry}
pub use Rattle.intentions.specs.Commit.{Commits, Copies, IsToFinish}
pub use Rattle.intentions.specs.Course.{Course, Frame, IsCourse, IsOn, Keeps, MayPut, Settling}
pub use Rattle.intentions.specs.Entries.{changed_entry, finished, finished_in, released, released_at, released_in, undone, undone_in, with_bit, with_bit_at, without_bit}
pub use Rattle.intentions.specs.Turned.{MayTurn, changed_if, turned}
pub use Rattle.intentions.specs.Store.{StoreHas}
pub use Rattle.intentions.specs.declared.change.EntryChange.{EntryChange}
pub use Rattle.intentions.specs.declared.change.EntryChange.TheVariants.{ClearBit, Finish, Release, SetBit, Undo}
pub use Rattle.leaf_changes.proofs.Contents.{content_is, held_is, length-leaf_content, past_size, same_held}
pub use Rattle.leaf_changes.proofs.Fits.{same_object}
pub use Rattle.leaf_changes.proofs.Given.{file_to_leaves, index_to_leaves}
pub use Rattle.leaf_changes.proofs.HeldNumbers.{all-rise, held_of, in_all, in_held, in_touched, to_all, to_held, to_touched}
pub use Rattle.leaf_changes.proofs.Overlays.{length-overlaid, over_byte, over_past}
pub use Rattle.leaf_changes.proofs.ReadParts.{read_all, read_more}
pub use Rattle.leaf_changes.proofs.Resized.{cut_fit, cut_object, grown_fit, grown_object}
pub use Rattle.leaf_changes.proofs.SlotBytes.{same_slot}
pub use Rattle.leaf_changes.proofs.Slotted.{empty_stays, slot_fit, slot_object}
pub use Rattle.leaf_changes.proofs.Written.{writes_begin, writes_more, writes_object}
pub use Rattle.leaf_changes.specs.Bytes.{IsSlot, patched, with_leaf_copied, with_slot}
unfoldable pub use Rattle.leaf_changes.specs.Bytes.{cut, overlaid}
pub use Rattle.leaf_changes.specs.Changes.{SetsSize}
pub use Rattle.leaf_changes.specs.Gives.{GivesIndex, kind_of}
pub use Rattle.leaf_changes.specs.Leaves.{FillsSlot, IsReadTo, LeavesFit, Shrinks, WritesTo, bytes_held, cut_held}
pub use Rattle.special_files.specs.Becomes.{DraftBecomes}
pub use Rattle.special_files.specs.Begins.{BeginsDirect, BeginsDraft}
pub use Rattle.special_files.specs.Calls.{Claims, GetsDraftNode, Had, SetsFlags, SetsFresh, WritesDraftBlock}
pub use Rattle.special_files.specs.Changed.{AreDropped, AreOnDisk, AreTaken, IsChanged, in_node, pointer_table, unlike}
unfoldable pub use Rattle.special_files.specs.Changed.{all_unlike}
pub use Rattle.special_files.specs.Committing.{AbortCall, AbortEnds, AreDraftParts, Decided, CommitEnds, Committed, Dropped, CommitCall, CommitFails, CommitsSo, FinishesCommit, Flips, FlipsRun, IsEntered, IsNoted, IsOldOrNew, IsReady, Makes, Making, TakesShadow, bit_set, far_root, given_all, puid_at, making_root, undoing, with_making, FarMade, FarRoots, FarShadow, draft_top, parts_top}
pub use Rattle.special_files.specs.Drafting.{Drafting, HasNoneFresh, IsOpen, begun_at, fresh_of, is_fresh_leaf, is_fresh_node, draft_takes, leaves_take, need_beside, pointer_to_node, number_if, one_unless, opened_as, shadow_count, shadow_need}
unfoldable pub use Rattle.special_files.specs.Drafting.{none_of, set_in, unset_in}
pub use Rattle.special_files.specs.Ends.{EndsCall}
pub use Rattle.special_files.specs.Fills.{FillCall, FillsDraft, FillsIfIndex, IsNearSwap, IsSwapped, dropped_by, filled_draft, is_empty_already}
pub use Rattle.special_files.specs.Leaves.{PutsAt, SameBeside, draft_in, leaves_below, object_below}
pub use Rattle.special_files.specs.Limits.{abort_calls, abort_tries, begun_calls, begun_tries, blocks_limit, changed_reads, commit_calls, commit_tries, drop_calls, drop_tries, node_blocks, resize_calls, resize_tries}
pub use Rattle.special_files.specs.Nodes.{HasNode, IsRead, IsSafe, IsSafeIn, node_number}
pub use Rattle.special_files.specs.Order.{ClaimsAndDrops, claims_anew, claims_by_leaf, leaf_claims, node_claims}
pub use Rattle.special_files.specs.Puts.{FitsLeaf, LeafCall, PutsLeaf, StaysBut, drafts_with}
pub use Rattle.block_tree.specs.Reads.{Far, FarLeaf, IsNear, IsNodeTrouble, IsRootTrouble, is_damage, leaves_at}
pub use Rattle.special_files.specs.Refusal.{FarNode, FarRoot, IsDraftDamage, IsDraftRefusal, IsDraftTrouble, NoMap, NoRoot, OpenMap, OtherCount, has_met_damage, is_full_refusal, nodes_top, roots_top, refusal_after, top_of}
pub use Rattle.leaf_changes.specs.Tops.{IsFarRoot, Top, root_top, still_top}
pub use Rattle.special_files.specs.Shed.{AreShed, Cuts, CutsIf, CutsRootAt, DropCall, DropsFrom, Forgets, HasParts, IsBorder, IsCutHere, IsFullFor, IsPathPast, IsPlan, IsShed, IsShortNode, IsToldByNodes, KeepsOne, NoBlock, NoWrite, Put, PutsWithin, ResizeCall, Resized, Spares, Whole, Within, border_claims, border_takes, cut_takes, is_stale_cut, last_draft_leaf, last_draft_node, list_if, plan_needs, shrink_takes, sized}
unfoldable pub use Rattle.special_files.specs.Shed.{fresh_in}
pub use Rattle.special_files.specs.Store.{Steps}
pub use Rattle.special_files.specs.View.{DraftSeen, DraftView, GoesHolding, GoesTo, HasTree, ObjectView}
pub use Rattle.special_files.specs.Writes.{WriteCall, WritesDraft, leaves_written, write_need}
pub use Rattle.special_files.specs.declared.fill.Swap.{Swap}
pub use Rattle.special_files.specs.declared.shrink.Plan.{Plan}
pub use Rattle.std.proofs.Math.Nat.{div-one}
pub use Rattle.std.proofs.Math.Path.{fun_ext}
pub use Rattle.std.proofs.Math.Seq.{drop-length}
pub use Rattle.std.proofs.lemmas.Bool.{and_from, and_left, and_parts, both_ways, cases_Bool, cases_lt, eqb-false, eqb-true, false_from_ne_true, false≢true, le-leb, leb-true, lt-ltb, ltb-false, ltb-true, ne_eqb, or_cases, or_left, or_right}
pub use Rattle.std.proofs.lemmas.Bool.Decides.{nat_tests}
pub use Rattle.std.proofs.lemmas.List.{append-nil, at_drop_more, drop_all, get_or-append_right, get_or-replicate, get_or_past, length-replicate, length-take, replicate-append-replicate, set-append_left, set-get_or, take-append-drop, take_more}
pub use Rattle.std.proofs.lemmas.List.Elements.{All-append, All-cons, All-from_get_or, All-get_or, All-nil, All-set}
pub use Rattle.std.proofs.lemmas.List.FromFn.{length-map-range_with_len}
pub use Rattle.std.proofs.lemmas.List.Recursion.{is_count_by}
pub use Rattle.std.proofs.lemmas.List.Sums.{sum_by-cons}
pub use Rattle.std.proofs.lemmas.Option.{none-some, same_Some}
pub use Rattle.std.specs.List.{All, count_by, range_with_len, sum_by}
pub use Rattle.std.specs.Prelude.{IfErr, IfOk, IsSome, OnOk, Result, filter, is_none, is_some, map, nat_le, nat_lt, option_to_list, slice_index, sum, ◌&&◌, ◌==◌, ◌||◌}
pub use Rattle.std.specs.Result.{IsErrAnd}
pub use Rattle.ufs_model.proofs.Graphs.{rises-with_object}
pub use Rattle.ufs_model.specs.Graph.{Graph, object_at, with_object}
pub use Rattle.ufs_model.specs.Identifier.{rises, same_puid}
pub use Rattle.ufs_model.specs.Numbers.{branches, first_level, has_number, lacking, merged, missing, next_levels, numbers_rise, parents, shared, with_numbers, within}
pub use Rattle.ufs_model.specs.Object.{changed_object, cut_leaf, filled, fresh_after, held_leaves, held_levels, held_nodes, inner_levels, leaves_in, resize_anew, size_of, slot_of, touched, written_anew}
pub use Rattle.ufs_model.specs.State.{changed_draft}
pub use Rattle.ufs_model.specs.declared.change.Change.TheVariants.{Fill, Overwrite, SetSize}
pub use Rattle.ufs_model.specs.declared.object.Draft.{Draft}
pub use Rattle.ufs_model.specs.declared.object.File.{File}
pub use Rattle.ufs_model.specs.declared.object.Index.{Index}
pub use Rattle.ufs_model.specs.declared.object.Object.{Object}
pub use Rattle.vol_image.proofs.AtRest.{rest_loose}
pub use Rattle.vol_image.proofs.AtRoot.{bare_reads, below_none, no_shadows}
pub use Rattle.vol_image.proofs.Carries.{carries_on}
pub use Rattle.vol_image.proofs.Changes.{object_made}
pub use Rattle.vol_image.proofs.Claims.{loose_entry}
pub use Rattle.vol_image.proofs.Counts.{blocks_counted}
pub use Rattle.vol_image.proofs.Graphs.{object_at-with_object}
pub use Rattle.vol_image.proofs.Law.{frames_hold}
pub use Rattle.vol_image.proofs.Parts.{IsPlaced, below_apart, free_is_loose, in_image, is_inner, place_inner, root_placed, shadow_taken, taken_apart, tree_placed}
pub use Rattle.vol_image.proofs.Paths.{held_there}
pub use Rattle.vol_image.proofs.Places.{below_is_path, leaf_place, node_place, one_path, same_levels}
pub use Rattle.vol_image.proofs.Reached.{same_puid_is}
pub use Rattle.vol_image.proofs.Rising.{filter-rises, here, in_cons, in_filter, in_map, in_numbers, in_withs, numbers-rise, same_numbers, to_filter, to_map, to_numbers, to_withs, with_numbers-rise}
pub use Rattle.vol_image.proofs.Steps.{frames_back, frames_begin, frames_content, frames_then, frames_write, not_label, not_map}
pub use Rattle.vol_image.proofs.Unique.{one_root_block}
pub use Rattle.vol_image.proofs.Views.{held, held_block, same_tree}
pub use Rattle.vol_image.specs.Commit.{IsDraft, Settles, with_commit_bit}
pub use Rattle.vol_image.specs.Count.{held_at_depth, levels_held}
pub use Rattle.vol_image.specs.Frame.{Frames, IsBlockOf, IsLoose, StandsForNone}
pub use Rattle.vol_image.specs.Part.{BelongsTo, IsTaken, RootsOwnThemselves, SameAt, is_committed, is_fixed, part_at, part_in, part_of, reserved, stands_for}
pub use Rattle.vol_image.specs.Reading.{IsTree, bare_object, held_in, leaf_content, object_with, slot_in}
pub use Rattle.vol_image.specs.Run.{Carries}
pub use Rattle.vol_image.specs.Seen.{Held, Tree, held_at, tree_in}
unfoldable pub use Rattle.vol_image.specs.Seen.{place_at}
pub use Rattle.vol_image.specs.Sight.{first_or, source}
unfoldable pub use Rattle.vol_image.specs.Sight.{sight}
pub use Rattle.vol_image.specs.Sound.{Holds, IsBareRoot, ReadsAs}
pub use Rattle.vol_owners.proofs.Changes.{changes_begin, changes_content, changes_entry, changes_then, changes_wider}
pub use Rattle.vol_owners.proofs.Differ.{Differ, append_differ, has-append}
pub use Rattle.vol_owners.proofs.Differing.{at_rest, meant_differs, not_meant_is_own, own_tree, stands_some}
pub use Rattle.vol_owners.proofs.Entries.{free_unowned, had_not_meant, had_or_meant, of_taken, owner_is, placed_taken, root_owner, stands_meant, taken_of, the_entry}
pub use Rattle.vol_owners.proofs.Kept.{block_kept, blocks_kept}
pub use Rattle.vol_owners.proofs.Owned.{same_sums, shadow_apart}
pub use Rattle.vol_owners.proofs.Owners.{drafts_miss}
pub use Rattle.vol_owners.proofs.Steps.{creation_goes_on, draft_goes_on, making_begins, making_ends, object_changes_on}
pub use Rattle.vol_owners.specs.Account.{Accounts, Drafts, HasDraft, HasDraftIf, HasItsBlocks, IsMadeRoot, Opened, StandsIn, content_of, created_if, is_meant_for, levels_standing, no_drafts, numbers_differ, passes, standing_at, with_opened, without_draft}
pub use Rattle.vol_owners.specs.Change.{ChangesOnly, IsOpenTo, OwnsNothing, of_draft, of_drafts, of_owners}
pub use Rattle.vol_owners.specs.Owner.{is_had, is_leaving, is_made, is_meant, is_owned_by, is_placed, is_root_place, is_taken, owner_of}
