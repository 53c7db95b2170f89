-- What lemmas of this crate name of the crates below, and of its own definitions.
unfoldable pub use Rattle.block_tree.specs.Tree.{levels_of}
pub use Rattle.cfs_base.proofs.Calls.{makes_then, reads_make, stopped_after_reads, tells_on}
pub use Rattle.cfs_base.proofs.Runs.{on, still_tells, then, wider}
pub use Rattle.cfs_base.specs.Calls.{HasStopped, HasTried, MakesAtMost, OnlyReads}
pub use Rattle.cfs_base.specs.Disk.{Image, IsSameDisk, Nothing, Written, block_at}
pub use Rattle.cfs_base.specs.Refusals.{trouble_had_tried}
pub use Rattle.cfs_base.specs.Run.{IsSettled, Leaves, Tells, left_now}
pub use Rattle.cfs_base.specs.declared.disk.Disk.{Ghosts}
pub use Rattle.cfs_base.specs.declared.identifier.Puid.{Puid}
pub use Rattle.cfs_base.specs.declared.kind.Place.{Place}
pub use Rattle.cfs_base.specs.declared.kind.Place.TheVariants.{Leaf, Node, Root, ShadowRoot, Span}
pub use Rattle.cfs_base.specs.declared.refusal.Trouble.{Trouble}
pub use Rattle.cyl_alloc.proofs.Entries.{entry_is}
pub use Rattle.cyl_alloc.specs.Maps.{IsMapOf}
pub use Rattle.cyl_alloc.specs.Refusals.{IsMapTrouble}
pub use Rattle.cyl_alloc.specs.Space.{IsBadMap, IsGoodMap, intended}
pub use Rattle.cyl_map.proofs.Maps.{get_or-entries_of, length-entries_of}
pub use Rattle.cyl_map.proofs.Volumes.{entry_in-set, entry_in-with_entry_other, entry_in_table, map_in_image, same_or_not}
pub use Rattle.cyl_map.specs.Entry.{IsEntry, is_entry}
pub use Rattle.cyl_map.specs.Map.{entries_of}
pub use Rattle.cyl_map.specs.Volume.{map_of, map_with}
unfoldable pub use Rattle.cyl_map.specs.Volume.{entry_in, with_entry}
pub use Rattle.cyl_map.specs.declared.entry.MapEntry.{MapEntry}
pub use Rattle.cyl_map.specs.declared.state.BlockState.{BlockState}
pub use Rattle.cyl_map.specs.declared.state.BlockState.TheVariants.{Allocated, Free, IntendAllocate, IntendDeallocate}
pub use Rattle.intentions.specs.Calls.{ChangesBit, ChangesEntry}
pub use Rattle.intentions.specs.Commit.{Commits, Copies, IsCommitted, IsToFinish, OrFinished}
pub use Rattle.intentions.specs.Course.{Course, Frame, IsCopied, IsCourse, IsOn, Keeps, MayPut, Settling, graph_of}
pub use Rattle.intentions.specs.Entries.{finished, finished_in, released, released_at, undone, undone_in, with_bit, with_bit_at, without_bit}
pub use Rattle.std.proofs.lemmas.Bool.{false≢true}
pub use Rattle.std.proofs.lemmas.List.{get_or-set_other, get_or-set_same}
pub use Rattle.std.proofs.lemmas.Option.{same_Some}
pub use Rattle.std.specs.Prelude.{IfErr, OnErr, OnOk}
pub use Rattle.ufs_model.specs.Graph.{Graph, object_at, with_object, without}
pub use Rattle.ufs_model.specs.Identifier.{same_puid}
pub use Rattle.ufs_model.specs.declared.object.Object.{Object}
pub use Rattle.vol_image.proofs.Carries.{carries_settled}
pub use Rattle.vol_image.proofs.Changes.{hold_fewer, other_is, owned_is_loose, same_block}
pub use Rattle.vol_image.proofs.Commits.{committed_holds, copied_holds, read_by}
pub use Rattle.vol_image.proofs.Graphs.{object_at-with_object}
pub use Rattle.vol_image.proofs.Law.{frames_hold, same_shadows}
pub use Rattle.vol_image.proofs.Parts.{IsPlaced, below_apart, in_image, is_inner, place_inner, placed, root_placed, shadow_entry, shadow_taken, taken_apart, taken_part, tree_placed}
pub use Rattle.vol_image.proofs.Reached.{same_puid_is, same_puid_itself}
pub use Rattle.vol_image.proofs.Runs.{both_ok}
pub use Rattle.vol_image.proofs.Settles.{settled_holds, settles_begins, settles_on, settles_write}
pub use Rattle.vol_image.proofs.Steps.{frames_back, frames_begin, frames_entry, frames_then, frames_write, not_map}
pub use Rattle.vol_image.proofs.Views.{same_tree}
pub use Rattle.vol_image.specs.Commit.{IsDraft, MaySettle, Settles, with_commit_bit}
pub use Rattle.vol_image.specs.Frame.{Frames, IsLoose, StandsForNone}
pub use Rattle.vol_image.specs.Part.{IsTaken, OwnsItself, SameAt, is_fixed, part_in, part_of, stands_for}
pub use Rattle.vol_image.specs.Reading.{IsTree}
pub use Rattle.vol_image.specs.Run.{Carries}
pub use Rattle.vol_image.specs.Seen.{Held, Tree, tree_in}
unfoldable pub use Rattle.vol_image.specs.Seen.{place_at}
pub use Rattle.vol_image.specs.Sight.{first_or, source}
unfoldable pub use Rattle.vol_image.specs.Sight.{sight}
pub use Rattle.vol_image.specs.Sound.{Holds, ReadsAs}
