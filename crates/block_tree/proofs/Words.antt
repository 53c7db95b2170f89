-- What lemmas of this crate name of the crates below, and of its own definitions.
pub use Rattle.block_tree.specs.Node.{IsNode, node_spelling}
pub use Rattle.block_tree.specs.Pointers.{Level, leaf_limit, leaf_pointers, levels_below, node_levels, node_pointers, number_at, numbers_from, numbers_spelling, width}
unfoldable pub use Rattle.block_tree.specs.Pointers.{pointers_of}
pub use Rattle.block_tree.specs.Prefix.{IsFirstMisspelt}
pub use Rattle.block_tree.specs.Reads.{IsFault, IsPast, leaves_at}
pub use Rattle.block_tree.specs.Root.{Fits, IsFill, IsFirstBadByte, IsGoodRoot, IsRootBlock, IsSize, kind_code}
unfoldable pub use Rattle.block_tree.specs.Root.{root_spelling}
pub use Rattle.block_tree.specs.Follow.{PastFrom, first_pointer, next_pointer, pointer_below, pointer_from}
pub use Rattle.block_tree.specs.Step.{IsFirstSet, IsPlaced, IsStepped, NoneHeld, NoneSet, SomeHeld, SomeSet}
pub use Rattle.block_tree.specs.Tree.{AreQuiet, EachLeaf, HasNoDeadEnd, HasNearPath, IsLeafPointer, PastAbove, PastOn, bytes_in, end_of, leaves_with_blocks, leaf_block, leaf_bytes, leaf_count, pointer, tree_of}
unfoldable pub use Rattle.block_tree.specs.Tree.{levels_of, path_to}
pub use Rattle.block_tree.specs.Walk.{IsFirstHeld, IsFirstPast}
pub use Rattle.block_tree.specs.declared.fault.TreeFault.{TreeFault}
pub use Rattle.block_tree.specs.declared.follow.Pointer.{Pointer}
pub use Rattle.block_tree.specs.declared.node.Node.{Node}
pub use Rattle.block_tree.specs.declared.root.BadRoot.{BadRoot}
pub use Rattle.block_tree.specs.declared.root.Root.{Root}
pub use Rattle.block_tree.specs.declared.root.TheConstants.{SIZE_LIMIT}
pub use Rattle.block_tree.specs.declared.step.HeldStep.{HeldStep}
pub use Rattle.block_tree.specs.declared.step.LeafStep.{LeafStep}
pub use Rattle.block_tree.specs.declared.walk.HeldLeaf.{HeldLeaf}
pub use Rattle.cfs_base.proofs.Calls.{failed_after, reads_then, reads_within, stopped_after_reads, tells_on}
pub use Rattle.cfs_base.specs.Calls.{OnlyReads}
pub use Rattle.cfs_base.specs.Disk.{Image, block_at}
pub use Rattle.cfs_base.specs.Run.{Tells}
pub use Rattle.cfs_base.specs.declared.disk.Disk.{Ghosts}
pub use Rattle.cfs_base.specs.declared.kind.Kind.{Kind}
pub use Rattle.cfs_base.specs.declared.kind.Kind.TheVariants.{Index, Normal, Special}
pub use Rattle.std.proofs.Math.Nat.{div-div-eq-div-mul, div-eq_of_lt, div-one, mod-lt, mul-div_cancel, mul-mod_left, one-le-pow, pow-suc}
pub use Rattle.std.proofs.Math.Seq.{take-add}
pub use Rattle.std.proofs.lemmas.Bool.{cases_eq, cases_lt, cases_order}
pub use Rattle.std.proofs.lemmas.Grind.{common_steps}
pub use Rattle.std.proofs.lemmas.List.{drop-drop, drop-take, drop_all, drop_at, drop_more, ext_get_or, get_or-drop, get_or-replicate, get_or-take, get_or_past, length-take, take-append-drop, take-replicate, take-take, take_all, take_at, take_more}
pub use Rattle.std.proofs.lemmas.List.Concat.{flat_map-append}
pub use Rattle.std.proofs.lemmas.List.Elements.{All-from_get_or, All-get_or, All-replicate}
pub use Rattle.std.proofs.lemmas.List.FromFn.{fill_by_all, get_or-map-range_with_len, length-map-range_with_len, map-range_with_len_more}
pub use Rattle.std.proofs.lemmas.Nat.{be_bytes_4, div-add-mod', div_below, from_be_bytes-to_be_bytes_4, from_be_bytes-to_be_bytes_8, le-div, mul-le}
pub use Rattle.std.proofs.lemmas.Result.{IfOk-weaker, err_from_is_err_and, on_ok_weaker}
pub use Rattle.std.specs.Int.{from_be_bytes, to_be_bytes, w32, w64}
pub use Rattle.std.specs.List.{All, range_with_len}
pub use Rattle.std.specs.Prelude.{Err, IfErr, IfSome, MatchResult, Ok, Result}
