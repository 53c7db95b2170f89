-- The words of the crates below that most proofs cite, passed on from one place. Declares nothing.
pub use Rattle.block_tree.specs.Reads.{IsFault, IsPast, is_damage}
pub use Rattle.block_tree.specs.Root.{IsRootBlock, root_spelling}
pub use Rattle.block_tree.specs.Tree.{PastOn, bytes_in, leaf_block, leaf_bytes, levels_of, path_to, tree_of}
pub use Rattle.block_tree.specs.declared.fault.TreeFault.{TreeFault}
pub use Rattle.cfs_base.proofs.Calls.{failed_after, reads_make, reads_then, tells_on, then_tried}
pub use Rattle.cfs_base.proofs.Runs.{then, wider}
pub use Rattle.cfs_base.specs.Calls.{HasTried, OnlyReads}
pub use Rattle.cfs_base.specs.Disk.{AreBlocks, Image, Nothing, block_at}
pub use Rattle.cfs_base.specs.Refusals.{refused_by, trouble_after_try}
pub use Rattle.cfs_base.specs.Run.{Leaves, Tells}
pub use Rattle.cfs_base.specs.declared.disk.Disk.{Ghosts}
pub use Rattle.cfs_base.specs.declared.identifier.Puid.{Puid}
pub use Rattle.cfs_base.specs.declared.kind.Place.TheVariants.{Leaf, Node}
pub use Rattle.cfs_base.specs.declared.refusal.Damage.{Damage}
pub use Rattle.cfs_base.specs.declared.refusal.Refused.{Refused}
pub use Rattle.cfs_base.specs.declared.refusal.Trouble.{Trouble}
pub use Rattle.claims.specs.Claims.{AreClaimed}
pub use Rattle.cyl_alloc.specs.Space.{AreCounts, IsLeastFree, Kept, intended}
pub use Rattle.cyl_map.specs.Volume.{is_free_in}
pub use Rattle.cyl_map.specs.declared.entry.MapEntry.{MapEntry}
pub use Rattle.intentions.specs.Store.{StoreHas}
pub use Rattle.leaf_changes.proofs.Contents.{content_is}
pub use Rattle.leaf_changes.proofs.Given.{index_to_leaves}
pub use Rattle.leaf_changes.specs.Gives.{GivesIndex}
pub use Rattle.special_files.proofs.Begun.{begun_fresh, store_reads}
pub use Rattle.special_files.proofs.Endings.{trouble_after_tried}
pub use Rattle.special_files.proofs.Levels.{length-none, none_is}
pub use Rattle.special_files.proofs.Refusals.{refusal_after_reads, refusal_of}
pub use Rattle.special_files.specs.Committing.{Committed, IsOldOrNew, Makes, Making, puid_at}
pub use Rattle.special_files.specs.Drafting.{Drafting, IsOpen, begun_at, fresh_of, opened_as}
pub use Rattle.special_files.specs.Ends.{EndsCall}
pub use Rattle.special_files.specs.Fills.{filled_draft}
pub use Rattle.special_files.specs.Leaves.{SameBeside, leaves_below}
pub use Rattle.special_files.specs.Order.{leaf_claims}
pub use Rattle.special_files.specs.Refusal.{IsDraftRefusal, IsDraftTrouble, has_met_damage, is_full_refusal}
pub use Rattle.special_files.specs.declared.fill.Swap.{Swap}
pub use Rattle.std.proofs.Common.{rules, Err, List, None, Ok, Option, Some, [], ap, arith, cond, false, get_or, inl, inr, length, refl, subst, suc, sym, true, zero, ℕ, ⊎_elim, ◌%◌, ◌*◌, ◌+◌, ◌/◌, ◌<◌, ◌∙◌, ◌∷◌, ◌≡◌, ◌≢◌, ◌≤◌, ◌⊎◌}
pub use Rattle.std.proofs.lemmas.Bool.{and_from, and_parts}
pub use Rattle.std.specs.Prelude.{IfOk, Result, is_some, option_to_list}
pub use Rattle.ufs_model.proofs.Graphs.{object_at-with_object, rises-with_object, same_entries}
pub use Rattle.ufs_model.specs.Graph.{Graph, ids_of, object_at, with_object}
pub use Rattle.ufs_model.specs.Identifier.{rises, same_puid}
pub use Rattle.ufs_model.specs.Object.{slot_of}
pub use Rattle.ufs_model.specs.declared.object.Draft.{Draft}
pub use Rattle.ufs_model.specs.declared.object.Index.{Index}
pub use Rattle.ufs_model.specs.declared.object.Object.{Object}
pub use Rattle.vol_image.proofs.Carries.{carries_on}
pub use Rattle.vol_image.proofs.Reached.{same_puid_is}
pub use Rattle.vol_image.proofs.Unique.{one_root_block}
pub use Rattle.vol_image.proofs.Views.{held}
pub use Rattle.vol_image.specs.Reading.{IsTree, bare_object, leaf_content, leaf_in, object_with, slot_in}
pub use Rattle.vol_image.specs.Seen.{Tree, held_at, tree_in}
pub use Rattle.vol_image.specs.Sound.{Holds}
pub use Rattle.vol_owners.proofs.Changes.{changes_begin, changes_then, changes_wider}
pub use Rattle.vol_owners.proofs.Drafts.{with_again, with_here, without_with}
pub use Rattle.vol_owners.proofs.Entries.{placed_taken}
pub use Rattle.vol_owners.specs.Account.{Accounts, Drafts, Opened, with_opened, without_draft}
pub use Rattle.vol_owners.specs.Change.{ChangesOnly, of_drafts, of_owner, of_owners}
pub use Rattle.vol_owners.specs.Owner.{is_meant, is_placed, is_taken}
