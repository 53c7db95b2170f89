use Rattle.cfs_recover.proofs.Tidyings.{copies_begin, copies_sound, copies_write}
use Rattle.cfs_recover.proofs.laws.copies_keep_the_reading.Goals as goal

pub returns : goal.returns
returns c = record {
  sound = λ a b g. copies_sound a g b;
  begin = copies_begin;
  write = λ a c g. copies_write a g c;
}
