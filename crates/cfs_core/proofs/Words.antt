-- The words of the crates below that the lemmas here cite, passed on from one place. Declares nothing.
pub use Rattle.block_tree.specs.Tree.{levels_of}
pub use Rattle.cfs_base.proofs.Calls.{reads_make, reads_then, reads_within, stopped_after_reads}
pub use Rattle.cfs_base.proofs.Runs.{then, wider}
pub use Rattle.cfs_base.specs.Calls.{HasFailed, HasStopped, MakesAtMost, OnlyReads}
pub use Rattle.cfs_base.specs.Disk.{AreBlocks, Image, block_at}
pub use Rattle.cfs_base.specs.Outside.{count_after}
pub use Rattle.cfs_base.specs.Refusals.{had_tried, refused_by, trouble_had_tried}
pub use Rattle.cfs_base.specs.Run.{IsSettled, Leaves, left_now}
pub use Rattle.cfs_base.specs.declared.disk.Disk.{Ghosts}
pub use Rattle.cfs_base.specs.declared.identifier.Puid.{Puid}
pub use Rattle.cfs_base.specs.declared.identifier.Tuid.{Tuid}
pub use Rattle.cfs_base.specs.declared.kind.FileKind.{FileKind}
pub use Rattle.cfs_base.specs.declared.kind.Kind.{Kind}
pub use Rattle.cfs_base.specs.declared.kind.Mode.{Mode}
pub use Rattle.cfs_base.specs.declared.kind.Mode.TheVariants.{Reading, Writing}
pub use Rattle.cfs_base.specs.declared.refusal.Need.{Need}
pub use Rattle.cfs_base.specs.declared.refusal.Refused.{Refused}
pub use Rattle.cfs_base.specs.declared.refusal.Trouble.{Trouble}
pub use Rattle.cfs_recover.specs.Recovered.{IsRecovered}
pub use Rattle.collector_marks.specs.Kept.{colours_of}
pub use Rattle.collector_steps.proofs.Shaded.{kind_below}
pub use Rattle.collector_steps.proofs.Sweeping.{goes_stray, stray_goes}
pub use Rattle.collector_steps.specs.Collecting.{Collecting, Collects, IsAsBefore, IsCollecting, AreStepsWithin, colours_in, volume_of, waiting_in}
pub use Rattle.collector_steps.specs.Left.{cylinders_of, events_left, left_in, most_steps, reads_left, steps_left}
pub use Rattle.collector_steps.specs.Scan.{IsDamaged, IsScanTrouble}
pub use Rattle.collector_steps.specs.Sweep.{IsSweptOf, NoInner, NoStray, goes, is_of_pass, swept}
pub use Rattle.collector_steps.specs.Swept.{HasSwept, IsPhaseOf, cylinder_of, next_phase}
pub use Rattle.collector_steps.specs.declared.phase.Phase.{Phase}
pub use Rattle.collector_steps.specs.declared.sweep.Pass.{Pass}
pub use Rattle.cyl_alloc.proofs.Counted.{sum_is}
pub use Rattle.cyl_alloc.specs.Refusals.{IsMapTrouble}
pub use Rattle.cyl_alloc.specs.Space.{AreCounts, IsLeastFree, Kept, unheld_entry}
pub use Rattle.cyl_map.specs.Volume.{entry_in, free_from, is_free_entry, is_free_in}
pub use Rattle.cyl_map.specs.declared.entry.MapEntry.{MapEntry}
pub use Rattle.file_ops.specs.Changes.{ChangesFile, EndsChange, MayChangeFile, MayLeaveFile, need_for}
pub use Rattle.file_ops.specs.Files.{IsReadRefusal}
pub use Rattle.index_ops.specs.Changes.{HasSlot, IsIndexRefusal, PutsSlot, index_with}
pub use Rattle.index_ops.specs.Creates.{PutsObject, with_made}
pub use Rattle.intentions.specs.Store.{StoreHas}
pub use Rattle.leaf_changes.proofs.Contents.{absent_byte, held_byte}
pub use Rattle.leaf_changes.proofs.Given.{file_to_leaves, index_to_leaves, slot_get}
pub use Rattle.leaf_changes.proofs.HeldNumbers.{held-rise, to_held}
pub use Rattle.leaf_changes.proofs.SlotBytes.{same_slot}
pub use Rattle.leaf_changes.specs.Gives.{GivesFile, GivesIndex}
pub use Rattle.marking.proofs.Asked.{allowed, ask_changes}
pub use Rattle.marking.proofs.Changed.{changes_keep}
pub use Rattle.marking.proofs.Paces.{pace_change}
pub use Rattle.marking.proofs.Wells.{well}
pub use Rattle.marking.specs.Colours.{Colours}
pub use Rattle.marking.specs.Marking.{IsMarking}
pub use Rattle.marking.specs.Meanwhile.{Changes, is_carried_out, rescues_of}
pub use Rattle.marking.specs.Pace.{IsPaced}
pub use Rattle.marking.specs.declared.memory.Rescue.{Rescue}
pub use Rattle.normal_files.specs.Standing.{HoldsOfEither, IsPartly}
pub use Rattle.normal_files.specs.Touched.{leaves_touched, nodes_touched}
pub use Rattle.open_table.proofs.Lists.{session_grant-first, grants_of-fewer, without_session-none, without_session-without_grant}
pub use Rattle.open_table.specs.Grants.{collides, conflicts, fault_by, fault_of, few_each, first_grant, session_grant, grants_of, is_grant_table, mode_against, open_mode, none_collide, tuids_differ, without_grant}
pub use Rattle.open_table.specs.Model.{is_writing, shown, table_of}
pub use Rattle.open_table.specs.declared.fault.AcquireFault.{AcquireFault}
pub use Rattle.open_table.specs.declared.fault.NoGrant.{NoGrant}
pub use Rattle.puid_space.proofs.Graphs.{insert_entry-same, keys_of-kinds_in, directory_kind-kinds_in, kinds_in-insert_entry}
pub use Rattle.puid_space.specs.Directory.{Listing, has_root_in, kept_by, directory_kind}
pub use Rattle.puid_space.specs.Draw.{Draws}
pub use Rattle.puid_space.specs.Kinds.{object_kind, kinds_of}
pub use Rattle.special_files.proofs.Begun.{begun_fresh, store_reads}
pub use Rattle.special_files.proofs.Levels.{length-none}
pub use Rattle.special_files.proofs.PutStore.{the_draft}
pub use Rattle.special_files.specs.Becomes.{DraftBecomes}
pub use Rattle.special_files.specs.Committing.{Committed, Dropped, IsOldOrNew}
pub use Rattle.special_files.specs.Creates.{IsOpenMap, made_of}
pub use Rattle.special_files.specs.Drafting.{Drafting, IsOpen, begun_at, fresh_of, need_beside, opened_as, shadow_need}
pub use Rattle.special_files.specs.Ends.{EndsCall}
pub use Rattle.block_tree.specs.Reads.{is_damage}
pub use Rattle.special_files.specs.Refusal.{IsDraftTrouble, has_met_damage, is_full_refusal}
pub use Rattle.special_files.specs.Shed.{Resizes}
pub use Rattle.std.proofs.Math.Seq.{take-append_seam}
pub use Rattle.std.proofs.lemmas.Bool.{and_from, and_left, and_parts, and_right, both_ways, cases_Bool, cases_lt, eq-eqb, eqb-true, false_from_ne_true, le-leb, lt-ltb, ltb-true, ne_eqb, not-false, not-true, or_cases, or_from, or_left, or_parts, or_right, true≢false}
pub use Rattle.std.proofs.lemmas.Bool.Decides.{nat_tests}
pub use Rattle.std.proofs.lemmas.Grind.{common_steps}
pub use Rattle.std.proofs.lemmas.List.{append_assoc, map-append, take_all, take_more}
pub use Rattle.std.proofs.lemmas.List.Elements.{filter-append}
pub use Rattle.std.proofs.lemmas.List.Folds.{list_all-append, list_any-append}
pub use Rattle.std.proofs.lemmas.List.Sums.{sum_by-append, sum_by-cons}
pub use Rattle.std.proofs.lemmas.Option.{get_or_from_slice_get, slice_get_within}
pub use Rattle.std.proofs.lemmas.Result.{err_from_is_err_and}
pub use Rattle.std.specs.BTreeMap.{insert_entry, is_at}
pub use Rattle.std.specs.HashMap.{get, spare}
pub use Rattle.std.specs.List.{list_all, list_any, range_with_len, sum_by}
pub use Rattle.std.specs.Map.{keys_of, lookup, set_value}
pub use Rattle.std.specs.Ordering.{match_ordering}
pub use Rattle.survival.proofs.Calls.{call, done, keeps, loose}
pub use Rattle.survival.specs.Call.{After, Before, Cut, CutInDoubt, Early, InDoubt, Late}
pub use Rattle.survival.specs.Held.{FitsDisk, HoldsSome}
pub use Rattle.ufs_model.proofs.Entries.{insert_entry-there}
pub use Rattle.ufs_model.proofs.Graphs.{found, index_has_pair, is_there-ids, object_at-with_object, object_at-without, object_there, pair_from_index, rises-with_object, rises-without, sorted_from_rises}
pub use Rattle.ufs_model.proofs.KeepsStates.{next_keeps, opening_state}
pub use Rattle.ufs_model.proofs.Legal.{answer_legal, outcome_legal, refused_answer, refused_plain}
pub use Rattle.ufs_model.proofs.Outcomes.{IsOfPart, edge_stays, outcome_leaves, outcome_plain, start_stays}
pub use Rattle.ufs_model.proofs.Reached.{all_among, all_pairs, each_among, joined_has, joined_has_new, joined_within}
pub use Rattle.ufs_model.proofs.Rising.{above, all_numbers, filter-rises, here, in_cons, in_filter, in_map, in_with, in_withs, later, numbers-rise, same_numbers, to_filter, to_map, to_withs, with_itself, with_number-rises, with_numbers-rise, with_others, withs-rise}
pub use Rattle.ufs_model.proofs.RootBlocks.{has_block-still}
pub use Rattle.ufs_model.proofs.Tests.{all_filter}
pub use Rattle.ufs_model.proofs.Vanishing.{kept_stays, may_vanish_test, open_kept}
pub use Rattle.ufs_model.proofs.WellGrants.{closed_keeps, granted_keeps}
pub use Rattle.ufs_model.proofs.WellGraphs.{closed_graph, object_whole, still_there}
pub use Rattle.ufs_model.proofs.WellStates.{grant_found, open_there, put_draft-at, put_object-at, seen_draft, seen_object}
pub use Rattle.ufs_model.specs.Graph.{Graph, IsGraph, blocks_differ, graph_pairs, has_block, ids_of, is_free_root, is_root_index, is_there, object_at, referred, with_object, without}
pub use Rattle.ufs_model.specs.Identifier.{is_among, puid_cmp, rises, same_puid, same_tuid}
pub use Rattle.ufs_model.specs.Need.{change_need, is_normal, need_of, one_if, takes_draft}
pub use Rattle.ufs_model.specs.Next.{by_outcome, is_outcome, next, same_reply}
pub use Rattle.ufs_model.specs.Numbers.{branches, first_level, has_number, lacking, merged, missing, next_levels, numbers_rise, parents, shared, with_number, with_numbers, within}
pub use Rattle.ufs_model.specs.Object.{IsInside, blocks_of, byte_may_stand, changed_object, each_from, filled, held_levels, is_object, leaves_in, new_file, new_index, resized, slot_may_stand, slot_of, touched, written, written_anew}
pub use Rattle.ufs_model.specs.Outcome.{block_named, changed, closed, committed, created, creates, draws, first_draft, granted, outcome_of, slot_reply}
pub use Rattle.ufs_model.specs.Plain.{IsPlainReply, is_id}
pub use Rattle.ufs_model.specs.Reach.{starts_now}
pub use Rattle.ufs_model.specs.Refusal.{goes_nowhere, goes_through_reading, has_all_grants, has_no_slot, has_no_such_grant, is_for_reading, is_locked, is_open, is_open_for_writing, is_range, is_reading, is_unwanted_file, is_unwanted_index, meets_a_grant, refusal_of, slot_named, target, wanted}
pub use Rattle.ufs_model.specs.State.{State, after_leave, changed_draft, draft_of, grant_of, is_grant, is_running, named, object_of, open_ids, pairs_of, put, seen, stopped_at, with_draft}
pub use Rattle.ufs_model.specs.Vanish.{MayVanish, is_marking}
pub use Rattle.ufs_model.specs.WellFormed.{IsSpeakable, IsState, are_granted, draws_of, is_draft_of, is_grant_in, is_open_so, may_share, same_kind}
pub use Rattle.ufs_model.specs.Word.{word}
pub use Rattle.ufs_model.specs.declared.asked.Event.{Event}
pub use Rattle.ufs_model.specs.declared.asked.Ref.{Ref}
pub use Rattle.ufs_model.specs.declared.asked.Ref.TheVariants.{Direct, Through}
pub use Rattle.ufs_model.specs.declared.asked.Reply.{Reply}
pub use Rattle.ufs_model.specs.declared.asked.Request.{Request}
pub use Rattle.ufs_model.specs.declared.asked.Wanted.{Wanted}
pub use Rattle.ufs_model.specs.declared.asked.Wanted.TheVariants.{AFile, AnIndex, Either}
pub use Rattle.ufs_model.specs.declared.change.Change.{Change}
pub use Rattle.ufs_model.specs.declared.change.Change.TheVariants.{Fill, Overwrite, SetSize}
pub use Rattle.ufs_model.specs.declared.collection.Collection.{Collection}
pub use Rattle.ufs_model.specs.declared.limits.TheConstants.{MOST_GRANTS}
pub use Rattle.ufs_model.specs.declared.object.Draft.{Draft}
pub use Rattle.ufs_model.specs.declared.object.File.{File}
pub use Rattle.ufs_model.specs.declared.object.Grant.{Grant}
pub use Rattle.ufs_model.specs.declared.object.Index.{Index}
pub use Rattle.ufs_model.specs.declared.object.Object.{Object}
pub use Rattle.vol_image.proofs.AtRoot.{no_shadows}
pub use Rattle.vol_image.proofs.Carries.{carries_fewer}
pub use Rattle.vol_image.proofs.Changes.{same_block}
pub use Rattle.vol_image.proofs.Counts.{blocks_are}
pub use Rattle.vol_image.proofs.Law.{frames_hold}
pub use Rattle.vol_image.proofs.Parts.{in_image}
pub use Rattle.vol_image.proofs.Paths.{held_there}
pub use Rattle.vol_image.proofs.Reached.{same_puid_is, same_puid_itself}
pub use Rattle.vol_image.proofs.Unique.{reading_is_one}
pub use Rattle.vol_image.proofs.Views.{held, held_is}
pub use Rattle.vol_image.specs.Frame.{IsHeldBy}
pub use Rattle.vol_image.specs.Part.{is_fixed, part_at, part_of, reserved, stands_for}
pub use Rattle.vol_image.specs.Reading.{IsTree, held_in, leaf_content, leaf_in, slot_in}
pub use Rattle.vol_image.specs.Seen.{Held, held_at, tree_in}
pub use Rattle.vol_image.specs.Sight.{first_or, source}
pub use Rattle.vol_image.specs.Sound.{Holds, IsClosedGraph, IsSoundAs, ReadsAs, graph_blocks}
pub use Rattle.vol_image.specs.Survives.{ChangesInPlace, IsBetween, change_of}
pub use Rattle.vol_label.specs.declared.label.Label.{Label}
pub use Rattle.vol_owners.proofs.Changes.{changes_begin}
pub use Rattle.vol_owners.proofs.Differ.{Differ, append_differ, count_of_these, has-append}
pub use Rattle.vol_owners.proofs.Differing.{not_meant_is_own, stands_some}
pub use Rattle.vol_owners.proofs.Drafts.{with_again, with_here, without_with}
pub use Rattle.vol_owners.proofs.Entries.{free_unplaced, had_not_meant}
pub use Rattle.vol_owners.proofs.Keys.{block_there, differs, object_of_block}
pub use Rattle.vol_owners.proofs.Owned.{same_sums}
pub use Rattle.vol_owners.proofs.Rooms.{free_is_root, no_strays, one_use, room}
pub use Rattle.vol_owners.proofs.Standing.{blocks_standing, is_standing, length-down, levels_all, standing_differ, standing_is}
pub use Rattle.vol_owners.proofs.Steps.{vanish_goes_on}
pub use Rattle.vol_owners.proofs.Strays.{stays_swept, stray_was, strays_stay}
pub use Rattle.vol_owners.proofs.Sums.{ones_le}
pub use Rattle.vol_owners.proofs.Taken.{taken_more, taken_put, taken_with}
pub use Rattle.vol_owners.specs.Account.{Accounts, Drafts, HasDraft, HasDraftIf, HasItsBlocks, IsSwept, Opened, StandsIn, content_of, is_meant_for, levels_standing, no_drafts, with_draft_if, with_opened, without_draft}
pub use Rattle.vol_owners.specs.Change.{ChangesOnly, IsOfThese, of_draft, of_drafts, of_owner, of_owners}
pub use Rattle.vol_owners.specs.Owner.{is_had, is_made, is_meant, is_placed, is_root, is_stray, is_taken, owner_of, stray_blocks}
pub use Rattle.vol_owners.specs.Room.{blocks_taken, draft_blocks, draft_blocks_if, is_of_draft, is_of_object, one_of}
