-- What lemmas of this crate name of the crates below, and of its own definitions.
pub use Rattle.cfs_base.specs.Outside.{count_after}
pub use Rattle.cfs_base.specs.declared.identifier.Puid.{Puid}
pub use Rattle.cfs_base.specs.declared.identifier.Tuid.{Tuid}
pub use Rattle.cfs_base.specs.declared.kind.FileKind.{FileKind}
pub use Rattle.cfs_base.specs.declared.kind.Kind.{Kind}
pub use Rattle.cfs_base.specs.declared.kind.Mode.{Mode}
pub use Rattle.marking.specs.Colours.{Colours, all_shaded, cursor_of, draft_over, ended_from, first_grey, is_index, kind_among, moved, moved_at, moved_first, none_marked, shaded, shaded_as, shaded_in, with_cursor}
pub use Rattle.marking.specs.Leaves.{at_place, file_kind, in_leaf, is_found, kind_at, kind_standing, leaf_ids, own_part}
pub use Rattle.marking.specs.Marking.{AreOnce, IsColoured, IsCovered, IsGrey, IsLeft, IsMarked, IsMarking, IsToRead, IsWaiting, OwesNothing, Owed, Waits, is_index_there, is_remembered}
pub use Rattle.marking.specs.Meanwhile.{Changes, IsFoundBy, is_carried_out, rescues_of}
pub use Rattle.marking.specs.Pace.{IsPaced, added_with, index_leaves, read_in, read_of, read_so_far, unread, unread_at, unread_of}
pub use Rattle.marking.specs.Steps.{IsDirectoryOf, IsDraftIndex, after_draft, draft_step, if_held, is_live, next_held, own_step, read, rescued, scanned, step_of, unmarked}
pub use Rattle.marking.specs.declared.memory.Grey.{Grey}
pub use Rattle.marking.specs.declared.memory.Rescue.{Rescue}
pub use Rattle.std.proofs.lemmas.Bool.{and_from, and_parts, cases_eq, eq-eqb, eqb-true, le-leb, leb-true, or_cases, or_left, or_right}
pub use Rattle.std.proofs.lemmas.Bool.Decides.{nat_tests}
pub use Rattle.std.proofs.lemmas.List.{append-nil, drop-drop, length-drop, length-take, map-append, take-append-drop}
pub use Rattle.std.proofs.lemmas.List.Elements.{filter_map-append}
pub use Rattle.std.proofs.lemmas.List.Folds.{list_any-append}
pub use Rattle.std.proofs.lemmas.List.Sums.{sum_by-cons}
pub use Rattle.std.proofs.lemmas.Option.{same_Some}
pub use Rattle.std.specs.BTreeMap.{insert_entry, is_at}
pub use Rattle.std.specs.List.{filter_map, list_all, sum_by}
pub use Rattle.std.specs.Map.{lookup}
pub use Rattle.std.specs.Ordering.{is_eq, match_ordering}
pub use Rattle.std.specs.Prelude.{filter, find, if◌then◌else◌, is_none, is_some, map, nat_le, nat_lt, replicate}
pub use Rattle.std.specs.declared.cmp.Ordering.TheVariants.{Equal, Greater, Less}
pub use Rattle.ufs_model.proofs.Graphs.{has_pair-refers, is_there-ids, object_at-with_object, object_there, pair_from_index, refers, rises-filter, there_from}
pub use Rattle.ufs_model.proofs.Reached.{among_itself, joined_has, joined_has_new, joined_within, same_puid_is, same_puid_itself, within_one}
pub use Rattle.ufs_model.proofs.RootBlocks.{has_block-there}
pub use Rattle.ufs_model.proofs.Tests.{all_found, each_drop, each_take}
pub use Rattle.ufs_model.proofs.WellGraphs.{closed_graph, graph_refers, object_whole, one_block}
pub use Rattle.ufs_model.specs.Graph.{Graph, graph_pairs, has_block, has_pair, ids_of, is_free_root, is_there, object_at, with_object}
pub use Rattle.ufs_model.specs.Identifier.{is_among, puid_cmp, rises, same_puid}
pub use Rattle.ufs_model.specs.Next.{allowed_if, by_outcome, is_outcome, next, same_reply}
pub use Rattle.ufs_model.specs.Numbers.{has_number, numbers_rise, parents, with_number}
pub use Rattle.ufs_model.specs.Object.{blocks_of, changed_object, each_from, filled, is_object, leaf_of_slot, new_file, new_index, slot_may_stand}
pub use Rattle.ufs_model.specs.Outcome.{block_named, changed, creates, outcome_of, with_edge, with_start}
pub use Rattle.ufs_model.specs.Reach.{Along, IsKept, IsReached, Start, starts_now}
pub use Rattle.ufs_model.specs.Refusal.{conditions, first_of, has_no_grant, has_no_object, refusal_of}
pub use Rattle.ufs_model.specs.State.{State, after_leave, changed_draft, draft_at, draft_of, grant_of, is_grant, named, open_ids, pairs_of, put, seen, stopped_at}
pub use Rattle.ufs_model.specs.Vanish.{MayVanish, edges, is_marking, starts}
pub use Rattle.ufs_model.specs.WellFormed.{IsState, is_grant_in, is_open_so, same_kind}
unfoldable pub use Rattle.ufs_model.specs.Word.{word}
pub use Rattle.ufs_model.specs.declared.asked.Ref.{Ref}
pub use Rattle.ufs_model.specs.declared.asked.Ref.TheVariants.{Direct, Through}
pub use Rattle.ufs_model.specs.declared.asked.Reply.{Reply}
pub use Rattle.ufs_model.specs.declared.asked.Request.{Request}
pub use Rattle.ufs_model.specs.declared.change.Change.{Change}
pub use Rattle.ufs_model.specs.declared.change.Change.TheVariants.{Fill, Overwrite, SetSize}
pub use Rattle.ufs_model.specs.declared.collection.Collection.{Collection}
pub use Rattle.ufs_model.specs.declared.object.Draft.{Draft}
pub use Rattle.ufs_model.specs.declared.object.File.{File}
pub use Rattle.ufs_model.specs.declared.object.Grant.{Grant}
pub use Rattle.ufs_model.specs.declared.object.Index.{Index}
pub use Rattle.ufs_model.specs.declared.object.Object.{Object}
pub use borrow.Author.Tests.{ltb-true}
