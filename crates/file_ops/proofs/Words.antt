-- The words of the crates below that most proofs cite, passed on from one place. Declares nothing.
pub use Rattle.block_tree.specs.Root.{IsRootBlock}
pub use Rattle.block_tree.specs.declared.root.Root.{Root}
pub use Rattle.cfs_base.proofs.Calls.{makes_then, reads_make, reads_then, reads_within, stopped_after_reads, stopped_after_try, tells_on, then_tried}
pub use Rattle.cfs_base.proofs.Runs.{still_tells, then, wider}
pub use Rattle.cfs_base.specs.Calls.{HasStopped, HasTried, MakesAtMost, OnlyReads}
pub use Rattle.cfs_base.specs.Disk.{Image, block_at}
pub use Rattle.cfs_base.specs.Refusals.{refused_by, trouble_after_try}
pub use Rattle.cfs_base.specs.Run.{Leaves, Tells}
pub use Rattle.cfs_base.specs.declared.disk.Disk.{Ghosts}
pub use Rattle.cfs_base.specs.declared.identifier.Puid.{Puid}
pub use Rattle.cfs_base.specs.declared.kind.FileKind.{FileKind}
pub use Rattle.cfs_base.specs.declared.refusal.Damage.{Damage}
pub use Rattle.cfs_base.specs.declared.refusal.Refused.{Refused}
pub use Rattle.cfs_base.specs.declared.refusal.Trouble.{Trouble}
pub use Rattle.claims.specs.Claims.{AreClaimed}
pub use Rattle.cyl_alloc.proofs.Counted.{sum_is}
pub use Rattle.cyl_alloc.specs.Space.{Kept}
pub use Rattle.cyl_map.specs.declared.entry.MapEntry.{MapEntry}
pub use Rattle.leaf_changes.proofs.Given.{file_to_leaves}
pub use Rattle.cfs_base.proofs.Went.{makes_within, reads_none}
pub use Rattle.normal_files.specs.WriteRefusal.{TellsNeed, is_untried}
pub use Rattle.special_files.proofs.Begun.{begun_fresh}
pub use Rattle.special_files.proofs.Levels.{length-none}
pub use Rattle.special_files.proofs.Refusals.{damage_since, if_err, on_ok, refusal_after_reads}
pub use Rattle.special_files.specs.Becomes.{DraftBecomes}
pub use Rattle.special_files.specs.Committing.{IsOldOrNew}
pub use Rattle.special_files.specs.Drafting.{Drafting, HasNoneFresh, IsOpen, begun_at, need_beside, opened_as, shadow_need}
pub use Rattle.special_files.specs.Ends.{EndsCall}
pub use Rattle.special_files.specs.Order.{ClaimsAndDrops, claims_by_leaf}
pub use Rattle.special_files.specs.Refusal.{IsDraftTrouble, has_met_damage, is_full_refusal}
pub use Rattle.std.proofs.Common.{Bool, Err, None, Ok, Option, Some, ap, arith, drop, false, inl, inr, length, refl, subst, sym, take, true, ℕ, ◌++◌, ◌+◌, ◌-◌, ◌/◌, ◌<◌, ◌∙◌, ◌≡◌, ◌≤◌}
pub use Rattle.std.proofs.Math.Seq.{take-append_seam}
pub use Rattle.std.proofs.lemmas.Bool.{and_from, and_parts}
pub use Rattle.std.proofs.lemmas.List.Sums.{sum_by-cons}
pub use Rattle.std.specs.List.{sum_by}
pub use Rattle.std.specs.Prelude.{IfErr, OnOk, Result, if◌then◌else◌, nat_lt, option_to_list, slice_range, sum}
pub use Rattle.ufs_model.specs.Graph.{Graph, object_at, with_object}
pub use Rattle.ufs_model.specs.Numbers.{has_number, missing, with_numbers, within}
pub use Rattle.ufs_model.specs.Object.{changed_object, fresh_after, leaves_in, written_anew}
pub use Rattle.ufs_model.specs.State.{changed_draft}
pub use Rattle.ufs_model.specs.declared.change.Change.{Change}
pub use Rattle.ufs_model.specs.declared.change.Change.TheVariants.{Overwrite, SetSize}
pub use Rattle.ufs_model.specs.declared.object.Draft.{Draft}
pub use Rattle.ufs_model.specs.declared.object.File.{File}
pub use Rattle.ufs_model.specs.declared.object.Object.{Object}
pub use Rattle.vol_image.proofs.Unique.{one_root_block}
pub use Rattle.vol_image.specs.Sound.{Holds}
pub use Rattle.vol_owners.proofs.Changes.{changes_then, changes_wider}
pub use Rattle.vol_owners.proofs.Drafts.{with_again, with_here, without_with}
pub use Rattle.vol_owners.proofs.Entries.{placed_taken}
pub use Rattle.vol_owners.specs.Account.{Drafts, Opened, with_opened}
pub use Rattle.vol_owners.specs.Change.{ChangesOnly, of_draft, of_owner}
pub use Rattle.vol_owners.specs.Owner.{is_meant, is_placed, is_taken, owner_of}
