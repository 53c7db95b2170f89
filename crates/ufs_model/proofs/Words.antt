-- What lemmas of this crate name of the crates below, and of its own definitions.
pub use Rattle.cfs_base.specs.declared.identifier.Puid.{Puid}
pub use Rattle.cfs_base.specs.declared.identifier.Tuid.{Tuid}
pub use Rattle.cfs_base.specs.declared.kind.FileKind.{FileKind}
pub use Rattle.cfs_base.specs.declared.kind.Mode.{Mode}
pub use Rattle.cfs_base.specs.declared.refusal.NoMemory.{NoMemory}
pub use Rattle.rand_chacha.specs.ChaCha.{ChaCha, next_word}
pub use Rattle.std.proofs.Math.Seq.{drop-cons, paste, take-suc}
pub use Rattle.std.proofs.lemmas.Bool.{and_from, and_parts, both_ways, cases_Bool, cases_lt, cases_order, eq-eqb, eqb-true, le-leb, leb-false, leb-true, lt-ltb, ltb-false, ltb-true, ne_eqb, not-false, not-true, or_cases, or_left, or_right}
pub use Rattle.std.proofs.lemmas.Bool.Decides.{nat_tests}
pub use Rattle.std.proofs.lemmas.Cmp.{alike_right, nat_cmp_total, on_total, then_total, tied_itself}
pub use Rattle.std.proofs.lemmas.Fn.{filter_same}
pub use Rattle.std.proofs.lemmas.List.{append-nil, drop_all, length-map, length-replicate, length-reverse, length-take, length-take-le, map-append, reverse-append, take-append-drop, take_all}
pub use Rattle.std.proofs.lemmas.List.Edits.{paste_more}
pub use Rattle.std.proofs.lemmas.List.Folds.{find_at, list_all-append, list_all-map, list_any-append, list_any_more}
pub use Rattle.std.proofs.lemmas.List.Recursion.{and_at, and_from_places}
pub use Rattle.std.proofs.lemmas.List.Sorted.{searched}
pub use Rattle.std.proofs.lemmas.Map.{keys-set_value}
pub use Rattle.std.proofs.lemmas.Map.Entries.{lookup-filter-keys}
pub use Rattle.std.proofs.lemmas.Map.Lookups.{CmpEqualImpliesEq, exact_pairs, exact_unsigned}
pub use Rattle.std.proofs.lemmas.Map.Made.{filter_same_pairs, is_some-lookup}
pub use Rattle.std.proofs.lemmas.Option.{get_or_from_slice_get, none-some, same_Some, slice_get_past, slice_get_read}
pub use Rattle.std.proofs.lemmas.Result.{IfOk-weaker, on_err_weaker, on_ok_weaker}
pub use Rattle.std.specs.BTreeMap.{insert_entry, is_at}
pub use Rattle.std.specs.BTreeMap.Range.{entries_between, range_contains}
pub use Rattle.std.specs.BTreeSet.{BTreeSet}
pub use Rattle.std.specs.Cmp.{IsTotalOrder}
pub use Rattle.std.specs.List.{AllByRecursion, filter_map, find, flat_map, join_with_byte, list_all, list_any, position, position_or_len, range_with_len, remove}
pub use Rattle.std.specs.List.Sorted.{IsBinarySearchResult}
pub use Rattle.std.specs.Map.{keys_of, lookup, set_value}
pub use Rattle.std.specs.Option.{option_copied, option_map_or}
pub use Rattle.std.specs.Ordering.{eq_by_cmp, is_eq, is_lt, match_ordering, nat_cmp, ordering_reverse}
pub use Rattle.std.specs.Prelude.{All, Err, IfNone, IfOk, MatchResult, Ok, OnErr, Result, codes, filter, insert, is_none, is_some, nat_le, nat_lt, option_and_then, option_map, unwrap_or, ◌==◌}
pub use Rattle.std.specs.Result.{result_unwrap_or}
pub use Rattle.std.specs.Str.{bytes_eq}
pub use Rattle.std.specs.declared.cmp.Ordering.{Ordering}
pub use Rattle.std.specs.declared.cmp.Ordering.TheVariants.{Equal, Greater, Less}
pub use Rattle.std.specs.declared.ops.Bound.TheVariants.{Excluded, Included}
pub use Rattle.ufs_model.specs.Followed.{HasRoom, IsReachedBy, IsSpread, after_seen, beside, collection_of, edges_from, edges_of, seen_end, is_done, leads_to, leads_within, refuses, seen_by, with_seen}
pub use Rattle.ufs_model.specs.Graph.{Graph, IsClosedGraph, IsGraph, IsLeastFreeRoot, blocks_differ, fresh_graph, graph_pairs, has_block, has_pair, ids_of, is_free_root, is_graph, is_root_index, is_there, object_at, referred, with_object, without}
pub use Rattle.ufs_model.specs.Identifier.{ids_rise, is_among, joined, puid_cmp, rise_from, rises, same_puid, same_tuid}
pub use Rattle.ufs_model.specs.Limits.{most_at_once, reserve}
pub use Rattle.ufs_model.specs.Names.{Names, bind, is_name, no_names}
pub use Rattle.ufs_model.specs.Need.{need_of, takes_draft}
pub use Rattle.ufs_model.specs.Next.{allowed_if, answered, by_outcome, goes_through, is_direct_delete, is_full, is_idle, is_outcome, is_refusal, is_sweeping, next, parts_of, same_reply}
pub use Rattle.ufs_model.specs.Numbers.{first_level, has_number, lacking, merged, missing, numbers_rise, parents, shared, with_number, with_numbers, within}
pub use Rattle.ufs_model.specs.Object.{Change, Fill, IsInside, Overwrite, SetSize, blocks_of, byte_may_stand, changed_object, cut_leaf, each_from, filled, held_leaves, held_nodes, is_object, leaves_in, new_file, new_index, resize_anew, resized, slot_may_stand, slot_of, touched, written}
pub use Rattle.ufs_model.specs.Outcome.{block_named, changed, closed, committed, created, creates, draws, first_draft, granted, outcome_of, slot_reply, with_edge, with_start}
pub use Rattle.ufs_model.specs.Plain.{IsAnswer, IsDraftPlace, IsPlainReply, Server, is_id, refused_or, with_new_in_draft}
pub use Rattle.ufs_model.specs.Printed.{printed_replies, reply_line}
pub use Rattle.ufs_model.specs.Reach.{Along, IsKept, IsReached, kept, reached, rooted, starts_now, targets}
pub use Rattle.ufs_model.specs.Refusal.{conditions, finds_empty, first_of, goes_nowhere, has_no_grant, has_no_object, has_no_slot, has_no_such_grant, is_beyond, is_out_of_range, is_range, is_reading, is_unwanted_file, meets_a_grant, names_file, refusal_of, retains_nothing, target, wanted}
pub use Rattle.ufs_model.specs.Run.{replay, replay_from}
pub use Rattle.ufs_model.specs.Script.{request_lines}
pub use Rattle.ufs_model.specs.Spoken.{Bad, Is, Reading, Unbound, all_forms, reading_of}
pub use Rattle.ufs_model.specs.State.{State, after_leave, changed_draft, draft_at, draft_of, draft_pairs, drafted, file_seen, grant_of, index_seen, is_grant, is_running, named, object_in, object_of, open_ids, opening, pairs_of, put, put_draft, put_object, seen, stopped_at, the_file, the_index, with_draft}
pub use Rattle.ufs_model.specs.Turns.{AreTurns}
pub use Rattle.ufs_model.specs.Vanish.{IsCutOff, MayVanish, are_no_starts, are_there, edges, has_all_cut_off, has_no_kept, is_cut_off, is_marking, leaves_no_reference, may_vanish, reached_since, starts}
pub use Rattle.ufs_model.specs.WellFormed.{IsSpeakable, IsState, are_granted, draws_of, is_draft_of, is_grant_in, is_open_so, may_share, same_kind, stores_bytes}
pub use Rattle.ufs_model.specs.Word.{Drawing}
unfoldable pub use Rattle.ufs_model.specs.Word.{word, words_from}
pub use Rattle.ufs_model.specs.contracts.server.Server.{the_view}
pub use Rattle.ufs_model.specs.declared.asked.Event.{Event}
pub use Rattle.ufs_model.specs.declared.asked.Ref.{Ref}
pub use Rattle.ufs_model.specs.declared.asked.Ref.TheVariants.{Direct, Through}
pub use Rattle.ufs_model.specs.declared.asked.Reply.{Reply}
pub use Rattle.ufs_model.specs.declared.asked.Request.{Request}
pub use Rattle.ufs_model.specs.declared.asked.Wanted.TheVariants.{AnIndex}
pub use Rattle.ufs_model.specs.declared.collection.Collection.{Collection}
pub use Rattle.ufs_model.specs.declared.object.Draft.{Draft}
pub use Rattle.ufs_model.specs.declared.object.File.{File}
pub use Rattle.ufs_model.specs.declared.object.Grant.{Grant}
pub use Rattle.ufs_model.specs.declared.object.Index.{Index}
pub use Rattle.ufs_model.specs.declared.object.Object.{Object}
pub use Rattle.ufs_model.specs.declared.progress.Progress.{Progress}
pub use Rattle.ufs_model.specs.declared.progress.Seen.{Seen}
pub use Rattle.ufs_model.specs.declared.progress.Seen.TheVariants.{Edge, Start}
