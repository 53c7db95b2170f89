-- What lemmas of this crate name of the crates below, and of its own definitions.
pub use Rattle.cfs_base.proofs.Replays.{before_later, before_more, left_earlier, left_kept, left_now_kept, left_pass, replay_kept, replay_later, replay_more, replay_take}
pub use Rattle.cfs_base.proofs.Stretches.{joined, lifted, widened}
pub use Rattle.cfs_base.specs.Disk.{AreBlocks, Image, IsBlock, IsSameDisk, LeavesOnly, Nothing, Written, block_at}
pub use Rattle.cfs_base.specs.Replay.{Left, after_before, all_before}
pub use Rattle.cfs_base.specs.declared.block.Block.{Block}
pub use Rattle.pair_disk.specs.Below.{ChangesPair, PutsBelow, Stays}
pub use Rattle.pair_disk.specs.History.{history_clock, count_of, history_left, torn_now}
pub use Rattle.pair_disk.specs.Laws.{half_on, length-pairs, pairs-at}
pub use Rattle.pair_disk.specs.Pair.{IsFlushed, PairLeft, gate_at, gate_for, half_at, other_half, shown_by, shown_half_of, shown_in, tells_both, tells_pair}
unfoldable pub use Rattle.pair_disk.specs.Pair.{pairs_in}
pub use Rattle.pair_disk.specs.Replay.{HasSize, IsTornImage, IsOfBlocks, TornState, torn_next, torn_by, call_moment, may_tear, picked, replayed_writes, unwritten}
pub use Rattle.pair_disk.specs.Stays.{stays_image}
pub use Rattle.pair_disk.specs.Torn.{Torn}
pub use Rattle.pair_disk.specs.declared.half.Half.{Half}
pub use Rattle.pair_disk.specs.declared.half.Half.TheVariants.{First, Second}
pub use Rattle.pair_disk.specs.declared.history.History.{History}
pub use Rattle.pair_disk.specs.declared.kept.Call.{Call}
pub use Rattle.pair_disk.specs.declared.kept.Call.TheVariants.{Barrier, Write}
pub use Rattle.pair_disk.specs.declared.kept.KeptCall.{KeptCall}
pub use Rattle.pair_disk.specs.declared.kept.TornPick.{TornPick}
pub use Rattle.pair_disk.specs.declared.torn_disk.TornDisk.{Ghosts}
pub use Rattle.pair_disk.specs.declared.torn_memory.TornMemory.{TornMemory}
pub use Rattle.std.proofs.Math.Seq.{drop-cons}
pub use Rattle.std.proofs.lemmas.Bool.{and_from, and_parts, cases_eq}
pub use Rattle.std.proofs.lemmas.Bool.Decides.{nat_tests}
pub use Rattle.std.proofs.lemmas.List.{drop_all, set-get_or, take_all}
