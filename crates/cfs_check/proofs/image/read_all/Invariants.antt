use Rattle.std.proofs.Common.{◌≡◌, length, map, take}
use Rattle.cfs_base.specs.Calls.{OnlyReads}
use Rattle.cfs_base.specs.Run.{Tells}
use Rattle.cfs_check.specs.Sized.{AreSized, word_in}
use Rattle.cfs_check.proofs.image.read_all.Given as goal

abbrev pub invariant-loop-at : goal.invariant-loop-at
invariant-loop-at g l = record {
  reads : OnlyReads g.D.Disk l.at l.initial.disk l.disk;
  count : length l.blocks.items ≡ l.at;
  words : length l.words.items ≡ l.at;
  words_are : l.words.items ≡ map word_in l.blocks.items;
  whole : AreSized l.blocks.items;
  told : Tells g.D.Disk l.initial.disk → l.blocks.items ≡ take l.at (g.D.Disk.content l.initial.disk);
}
