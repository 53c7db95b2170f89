-- What lemmas of this crate name of the crates below, and of its own definitions.
pub use Rattle.block_tree.proofs.Spellings.{nodes_of}
pub use Rattle.block_tree.specs.Pointers.{Level, leaf_limit, leaf_pointers, levels_below, node_levels, node_pointers, number_at, width}
unfoldable pub use Rattle.block_tree.specs.Pointers.{pointers_of}
pub use Rattle.block_tree.specs.Root.{IsGoodRoot, IsRootBlock}
unfoldable pub use Rattle.block_tree.specs.Root.{root_spelling}
pub use Rattle.block_tree.specs.Tree.{end_of, pointer, tree_of}
unfoldable pub use Rattle.block_tree.specs.Tree.{levels_of, path_to}
pub use Rattle.block_tree.specs.declared.root.Root.{Root}
pub use Rattle.cfs_base.proofs.Calls.{makes_then, reads_then, reads_within, tells_on}
pub use Rattle.cfs_base.proofs.Runs.{on, then, wider}
pub use Rattle.cfs_base.specs.Calls.{MakesAtMost, OnlyReads}
pub use Rattle.cfs_base.specs.Disk.{AreBlocks, Image, IsSameDisk, Nothing, Written, block_at}
pub use Rattle.cfs_base.specs.Run.{IsSettled, Leaves, Tells, left_now}
pub use Rattle.cfs_base.specs.declared.disk.Disk.{Ghosts}
pub use Rattle.cfs_base.specs.declared.identifier.Puid.{Puid}
pub use Rattle.cfs_base.specs.declared.kind.Kind.{Kind}
pub use Rattle.cfs_base.specs.declared.kind.Place.{Place}
pub use Rattle.cfs_base.specs.declared.kind.Place.TheVariants.{Leaf, Node, ShadowRoot, Span}
pub use Rattle.cfs_base.specs.declared.refusal.Damage.{Damage}
pub use Rattle.cfs_recover.specs.Checks.{HasNoneLike, HeadFault, IsFilled, IsHead, IsInPlace, IsLike, IsNotFilled, SpotFault}
pub use Rattle.cfs_recover.specs.Copies.{AreCopies, AreKeptPieces, BeginsAnew, BeginsWithout, HasCopy, HasKept, Piece, all_pieces, head_piece, copies_for, node_piece, piece_at, pieces_of}
unfoldable pub use Rattle.cfs_recover.specs.Copies.{copies_before, node_pieces}
pub use Rattle.cfs_recover.specs.Entries.{AreStanding, EntryFault, IsShadow, MayStand, damage, standing_below}
pub use Rattle.cfs_recover.specs.Found.{AreNamed, AreNoted, ByLabel, BySlot, Grows, IsClash, IsFaultOf, IsFoundItem, IsNamed, IsNextItem, IsNotedIn, IsWalkedObject, IsWalk, holds, lists}
pub use Rattle.cfs_recover.specs.Grounds.{AllMapsStand, AllMayStand, AreGrounds, HasEntryFault, HasNoLabel, HasVersion, IsLabelled, IsOpenFault}
pub use Rattle.cfs_recover.specs.Keeps.{AreAllCopies, AreCopiesOf, AreKeptFor, AreWritten, IsCopyOf, IsNamedCopy, RunKeeps, Leads}
pub use Rattle.cfs_recover.specs.Recovered.{IsClean, IsRecovered, IsUntouched, WritesWhatDiffers, one_if_changed}
unfoldable pub use Rattle.cfs_recover.specs.Recovered.{changed_maps}
pub use Rattle.cfs_recover.specs.Refusals.{IsCaused, NamesDamage, TellsNothing}
pub use Rattle.cfs_recover.specs.Sized.{IsSized}
pub use Rattle.cfs_recover.specs.Standing.{Shadow, one_more, shadow_of}
pub use Rattle.cfs_recover.specs.Stored.{AreMapsOf, Stores}
pub use Rattle.cfs_recover.specs.Survey.{IsIn, IsSurvey}
pub use Rattle.cfs_recover.specs.Tidy.{AreCopied, AreMarked, AreTidied, CopiesRoots, HasTidied, IsHeldIn, IsMapIn, IsTidied, IsTidiedMap, IsTidy, IsTidyMap, IsTidying, Tidies, tidied}
pub use Rattle.cfs_recover.specs.Walk.{AreGood, AreGoodBelow, HasBlock, HasPointers, IsCopy, IsGood, IsGoodAt, IsGoodLeaf, IsGoodTree, IsOpened, IsOwn, IsShown, Walks, id_of, reads_by_height, reads_of_object, object_shown}
pub use Rattle.cfs_recover.specs.declared.copies.Copied.{Copied}
pub use Rattle.cfs_recover.specs.declared.fault.RecoverFault.{RecoverFault}
pub use Rattle.cfs_recover.specs.declared.found.Found.{Found}
pub use Rattle.cfs_recover.specs.declared.found.Walk.{Walk}
pub use Rattle.cfs_recover.specs.declared.head.Head.{Head}
pub use Rattle.cfs_recover.specs.declared.spot.Spot.{Spot}
pub use Rattle.cfs_recover.specs.declared.standing.Shadow.TheVariants.{One, Several}
pub use Rattle.cfs_recover.specs.declared.survey.Survey.{Survey}
pub use Rattle.cfs_recover.specs.declared.survey.Walked.{Walked}
pub use Rattle.cfs_recover.specs.declared.walk_below.Branch.{Branch}
pub use Rattle.cfs_recover.specs.declared.walk_below.Twig.{Twig}
pub use Rattle.cyl_alloc.proofs.Entries.{free_count}
pub use Rattle.cyl_alloc.specs.Maps.{IsMapOf}
pub use Rattle.cyl_alloc.specs.Refusals.{IsNoMap}
pub use Rattle.cyl_alloc.specs.Space.{AreCounts, IsBadMap, Kept, after_giving, unheld_entry}
unfoldable pub use Rattle.cyl_alloc.specs.Space.{free_in_cylinder}
pub use Rattle.cyl_map.proofs.Maps.{entries_read}
pub use Rattle.cyl_map.proofs.Volumes.{entry_in_table, map_in_image, same_or_not}
pub use Rattle.cyl_map.specs.Entry.{IsEntry, is_entry, place_number}
pub use Rattle.cyl_map.specs.Map.{IsMap, entry_at, free_entries, is_free, map_spelling}
pub use Rattle.cyl_map.specs.Volume.{AreMaps, map_of}
unfoldable pub use Rattle.cyl_map.specs.Volume.{entry_in}
pub use Rattle.cyl_map.specs.declared.entry.MapEntry.{MapEntry}
pub use Rattle.cyl_map.specs.declared.state.BlockState.{BlockState}
pub use Rattle.cyl_map.specs.declared.state.BlockState.TheVariants.{Allocated, Free, IntendAllocate, IntendDeallocate}
pub use Rattle.leaf_changes.proofs.Contents.{content_is}
pub use Rattle.leaf_changes.proofs.Given.{index_to_leaves, some_file, some_index}
pub use Rattle.puid_space.proofs.Graphs.{directory_kind-kinds_in, kinds_in-filter, kinds_in-insert_entry}
pub use Rattle.puid_space.specs.Directory.{Listing, blocks_rise, has_root_in, is_listing, directory_kind, without_id}
pub use Rattle.puid_space.specs.Kinds.{object_kind, kinds_of}
pub use Rattle.std.proofs.Math.ListN.{drop_of_length-le}
pub use Rattle.std.proofs.Math.Nat.{add-mul, div-add-mod', mod-lt, mul-le-mul_left, mul-le-mul_right, mul_assoc}
pub use Rattle.std.proofs.Math.Path.{fun_ext}
pub use Rattle.std.proofs.Math.Seq.{drop-cons, get_or-append_seam}
pub use Rattle.std.proofs.lemmas.Bool.{and_from, and_parts, cases_eq, cases_lt, eq-eqb, eqb-true, false_from_ne_true, ne_eqb, or_cases, or_right}
pub use Rattle.std.proofs.lemmas.Bool.Decides.{nat_tests}
pub use Rattle.std.proofs.lemmas.Grind.{flat_map-append, get_or_default_zero, same_number_lists}
pub use Rattle.std.proofs.lemmas.List.{drop-replicate, get_or-replicate, get_or_append_left, get_or_past, length-map, length-replicate, map-set, take-replicate}
pub use Rattle.std.proofs.lemmas.List.Elements.{All-get_or}
pub use Rattle.std.proofs.lemmas.List.FromFn.{length-map-range_with_len}
pub use Rattle.std.proofs.lemmas.List.Sums.{count_by-le-length, sum_by-cons}
pub use Rattle.std.proofs.lemmas.Map.Entries.{lookup-filter-keys}
pub use Rattle.std.proofs.lemmas.Map.Made.{is_some-lookup}
pub use Rattle.std.proofs.lemmas.Nat.{div-mul-add, mod-mul-add}
pub use Rattle.std.proofs.lemmas.Option.{get_or_from_slice_get, none-some, same_Some, slice_get-get_or, slice_get_within}
pub use Rattle.std.specs.BTreeMap.{insert_entry, is_at}
pub use Rattle.std.specs.Cmp.Lexicographic.{same_text}
pub use Rattle.std.specs.Int.{from_be_bytes, w32, w64}
pub use Rattle.std.specs.List.{All, filter_map, list_all, list_any, range_with_len, sum_by}
pub use Rattle.std.specs.Map.{keys_of}
pub use Rattle.std.specs.Prelude.{IfErr, IfOk, IsSome, MatchResult, Ok, OnOk, Result, filter, nat_lt, option_map, slice_get, unwrap_or}
pub use Rattle.std.specs.Result.{IsErrAnd}
pub use Rattle.ufs_model.proofs.Entries.{lookup-insert_entry, lookup-insert_same}
pub use Rattle.ufs_model.proofs.Graphs.{index_has_pair, object_at-with_object, object_at-without, object_there, pair_from_index, rises-with_object, rises-without}
pub use Rattle.ufs_model.proofs.Reached.{among_itself, each_among, same_puid_is, same_puid_itself}
pub use Rattle.ufs_model.proofs.Rising.{here, numbers_more}
pub use Rattle.ufs_model.specs.Graph.{Graph, graph_pairs, has_block, has_pair, is_there, object_at, referred, with_object, without}
pub use Rattle.ufs_model.specs.Identifier.{is_among, puid_cmp, rises, same_puid}
pub use Rattle.ufs_model.specs.Numbers.{has_number}
pub use Rattle.ufs_model.specs.Object.{blocks_of, leaves_in, new_index, slot_of}
pub use Rattle.ufs_model.specs.Reach.{rooted}
pub use Rattle.ufs_model.specs.declared.object.Object.{Object}
pub use Rattle.vol_image.proofs.Alone.{one_at_most}
pub use Rattle.vol_image.proofs.AtRoot.{no_shadows}
pub use Rattle.vol_image.proofs.Carries.{carries_settled}
pub use Rattle.vol_image.proofs.Changes.{same_block}
pub use Rattle.vol_image.proofs.Counts.{blocks_are}
pub use Rattle.vol_image.proofs.Faults.{only_one, reader_is, refers_at, standing_is}
pub use Rattle.vol_image.proofs.Law.{same_shadows}
pub use Rattle.std.proofs.lemmas.List.FromFn.{get_or-map-range_with_len}
pub use Rattle.vol_image.proofs.Parts.{IsPlaced, below_apart, in_image, is_inner, not_root, place_inner, root_placed, shadow_entry, shadow_taken, source_is, taken_apart, taken_part, tree_placed}
pub use Rattle.vol_image.proofs.Paths.{digits_below, held_some, held_there, length-path_to, path_more, width_more}
pub use Rattle.vol_image.proofs.Rising.{to_filter, to_numbers}
pub use Rattle.vol_image.proofs.Rooted.{root_is_rooted, rooted_is_closed}
pub use Rattle.vol_image.proofs.Steps.{not_map}
pub use Rattle.vol_image.proofs.Unique.{found_next, one_root_block, one_root_index, reading_is_one}
pub use Rattle.vol_image.proofs.Views.{held, held_is, same_tree}
pub use Rattle.vol_image.specs.Fault.{AsRoot, Fault, HasLabel, HasLeaf, HasNoRoot, HasRootSlots, InTree, IsKeptBlock, IsReachedIn, IsShownGraph, IsShownRoot, IsSameSort, IsUsed, LeavesBlocks, NamesRoot, NamesNothing, Next, ObjectFault, Shows, TheRoot, has_own_bit, holder, one_or, reader, shown_root, shown_tree}
unfoldable pub use Rattle.vol_image.specs.Fault.{standing}
pub use Rattle.vol_image.specs.Frame.{IsBlockOf}
pub use Rattle.vol_image.specs.Part.{BelongsTo, EntryPart, SameAt, is_committed, is_fixed, part_at, part_of, reserved, stands_for}
pub use Rattle.vol_image.specs.Reading.{IsTree, leaf_content, leaf_in, slot_in}
unfoldable pub use Rattle.vol_image.specs.Reading.{object_with}
pub use Rattle.vol_image.specs.Seen.{Held, Tree, held_at, place_above, place_from, tree_in}
unfoldable pub use Rattle.vol_image.specs.Seen.{place_at}
pub use Rattle.vol_image.specs.Sight.{first_or, source, source_tree}
unfoldable pub use Rattle.vol_image.specs.Sight.{shadows, sight}
pub use Rattle.vol_image.specs.Sound.{Holds, IsClosedGraph, IsSoundAs, LeavesFour, ReadsAs, graph_blocks}
pub use Rattle.vol_label.proofs.Labels.{made_is, says}
pub use Rattle.vol_label.specs.Label.{IsOtherVersion}
pub use Rattle.vol_label.specs.declared.label.Label.{Label}
pub use Rattle.vol_owners.proofs.Keys.{block_there, count_owned, owned_sum_by, sum_objects}
pub use Rattle.vol_owners.proofs.Owned.{count_with_tree}
pub use Rattle.vol_owners.proofs.Rooms.{fixed_count, fixed_one}
pub use Rattle.vol_owners.proofs.Standing.{levels_all}
pub use Rattle.vol_owners.proofs.Sums.{count_in, run-suc, run_ones, run_same, sum_both, sum_each, sum_run}
pub use Rattle.vol_owners.specs.Account.{Accounts, HasItsBlocks, HasRoot, IsSwept, StandsIn, no_drafts}
pub use Rattle.vol_owners.specs.Owner.{is_had, is_leaving, is_made, is_meant, is_owned_by, is_placed, is_root, is_root_place, is_stray, is_taken, owner_of}
pub use Rattle.vol_owners.specs.Room.{one_of}
