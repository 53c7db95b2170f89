-- The words of the crates below that the proofs cite, passed on from one place. Declares nothing.
pub use Rattle.block_tree.specs.Pointers.{node_pointers, pointers_of}
pub use Rattle.block_tree.specs.Root.{IsRootBlock, root_spelling}
pub use Rattle.cfs_base.proofs.Calls.{makes_then, reads_make, reads_then, reads_within, tried_then}
pub use Rattle.cfs_base.proofs.Runs.{then, wider}
pub use Rattle.cfs_base.specs.Calls.{HasStopped, HasTried, MakesAtMost, OnlyReads}
pub use Rattle.cfs_base.specs.Disk.{Image, block_at}
pub use Rattle.cfs_base.specs.Refusals.{after_try, refused_by}
pub use Rattle.cfs_base.specs.Run.{IsSettled, Leaves, left_now}
pub use Rattle.cfs_base.specs.declared.disk.Disk.{Ghosts}
pub use Rattle.cfs_base.specs.declared.identifier.BlockNo.{BlockNo}
pub use Rattle.cfs_base.specs.declared.identifier.Puid.{Puid}
pub use Rattle.cfs_base.specs.declared.refusal.Refused.{Refused}
pub use Rattle.cfs_base.specs.declared.refusal.Trouble.{Trouble}
pub use Rattle.claims.specs.Claims.{IsClaimed}
pub use Rattle.cyl_alloc.proofs.Counted.{counts_content}
pub use Rattle.cyl_alloc.specs.Enters.{Enters, EntryWritten}
pub use Rattle.cyl_alloc.specs.Space.{AreCounts, IsLeastFree, Kept}
pub use Rattle.cyl_map.proofs.Volumes.{entry_in-set, entry_in-with_entry_other, entry_in-with_entry_same, length-with_entry, map_in_image, same_or_not}
pub use Rattle.cyl_map.specs.Entry.{IsEntry}
pub use Rattle.cyl_map.specs.Volume.{entry_in, is_free_entry, map_of, map_with}
unfoldable pub use Rattle.cyl_map.specs.Volume.{with_entry}
pub use Rattle.cyl_map.specs.declared.entry.MapEntry.{MapEntry}
pub use Rattle.cyl_map.specs.declared.state.BlockState.TheVariants.{Free}
pub use Rattle.special_files.specs.Creates.{HasImage, IsOpenMap}
pub use Rattle.intentions.proofs.Turned.{first_number}
pub use Rattle.intentions.specs.Store.{StoreHas}
pub use Rattle.leaf_changes.proofs.Given.{index_to_leaves}
pub use Rattle.special_files.proofs.Amid.{framed_carries, framed_holds, written_framed}
pub use Rattle.special_files.proofs.CommitDone.{makes_more}
pub use Rattle.special_files.proofs.Endings.{ends_as, ends_err, ends_then, ends_wider, enters_ends, not_untried, stays_itself, still_ends, still_room, still_sound, then_written, under_floor}
pub use Rattle.special_files.proofs.Made.{bare_has, bare_unmeant}
pub use Rattle.special_files.proofs.Meant.{free_is}
pub use Rattle.special_files.proofs.PutCall.{find_sound}
pub use Rattle.special_files.proofs.Refusals.{refusal_after_reads}
pub use Rattle.special_files.proofs.WriteLeaf.{ends_since}
pub use Rattle.special_files.specs.Calls.{WritesDraftBlock}
pub use Rattle.special_files.specs.Committing.{CommitEnds, IsEntered, as_refused, puid_at}
pub use Rattle.special_files.specs.Drafting.{Drafting, draft_takes}
pub use Rattle.special_files.specs.Ends.{EndsCall}
pub use Rattle.special_files.specs.Leaves.{leaves_below}
pub use Rattle.special_files.specs.Puts.{StaysBut}
pub use Rattle.special_files.specs.Refusal.{IsDraftRefusal, has_met_damage, is_full_refusal}
pub use Rattle.special_files.specs.View.{GoesHolding, DraftView}
pub use Rattle.special_files.specs.declared.fill.Swap.{Swap}
pub use Rattle.std.proofs.Common.{rules, Bool, Err, IsTrue, List, None, Ok, Option, Some, [], ap, arith, cond, eq-eqb, false, inl, inr, length, lt-ltb, refl, set, subst, sym, true, ℕ, ⊎_elim, ◌%◌, ◌+◌, ◌/◌, ◌<◌, ◌^◌, ◌∙◌, ◌∷◌, ◌≡◌, ◌≢◌, ◌≤◌, ◌⊎◌}
pub use Rattle.std.proofs.lemmas.Bool.{and_parts, both_ways, cases_lt, eqb-true, false_from_ne_true, ne_eqb, or_cases, or_left, or_right}
pub use Rattle.std.proofs.lemmas.List.{get_or-set_same}
pub use Rattle.std.specs.Prelude.{IfErr, IfOk, OnErr, Result, is_some, sum, ◌==◌, ◌||◌}
pub use Rattle.std.specs.Result.{IsErrAnd}
pub use Rattle.ufs_model.proofs.Graphs.{object_at-with_object, rises-with_object}
pub use Rattle.ufs_model.proofs.WellGraphs.{still_there}
pub use Rattle.ufs_model.specs.Graph.{Graph, has_block, ids_of, object_at, with_object}
pub use Rattle.ufs_model.specs.Identifier.{rises, same_puid}
pub use Rattle.ufs_model.specs.Numbers.{has_number}
pub use Rattle.ufs_model.specs.declared.object.Object.{Object}
pub use Rattle.vol_image.proofs.AtRest.{loose_stays}
pub use Rattle.vol_image.proofs.AtRoot.{bare_reads}
pub use Rattle.vol_image.proofs.Carries.{carries_settled}
pub use Rattle.vol_image.proofs.Changes.{object_put, other_is, others}
pub use Rattle.vol_image.proofs.Claims.{loose_entry}
pub use Rattle.vol_image.proofs.Parts.{free_is_loose, in_image}
pub use Rattle.vol_image.proofs.Reached.{same_puid_is}
pub use Rattle.vol_image.proofs.Steps.{frames_begin, frames_content, not_map}
pub use Rattle.vol_image.specs.Frame.{Frames, IsLoose, StandsForNone}
pub use Rattle.vol_image.specs.Part.{part_of}
pub use Rattle.vol_image.specs.Reading.{bare_object}
pub use Rattle.vol_image.specs.Sight.{sight}
pub use Rattle.vol_image.specs.Sound.{Holds, IsBareRoot, ReadsAs}
pub use Rattle.vol_owners.proofs.Changes.{changes_content, changes_entry, changes_then, changes_wider}
pub use Rattle.vol_owners.proofs.Entries.{made_not_free, of_taken}
pub use Rattle.vol_owners.proofs.Kept.{frames_others}
pub use Rattle.vol_owners.proofs.Keys.{block_there, each_put, object_at_put, object_of_block}
pub use Rattle.vol_owners.proofs.Owners.{accounts_go_on, list_misses, no_draft, object_goes_on, object_stands}
pub use Rattle.vol_owners.proofs.Rooms.{owns_nothing}
pub use Rattle.vol_owners.specs.Account.{Accounts, Drafts, HasDraftIf, HasItsBlocks, IsMadeBy, is_meant_for}
pub use Rattle.vol_owners.specs.Change.{ChangesOnly, IsOpenTo, of_draft, of_owner}
pub use Rattle.vol_owners.specs.Owner.{is_had, is_leaving, is_meant, is_owned_by, is_placed, is_taken}
