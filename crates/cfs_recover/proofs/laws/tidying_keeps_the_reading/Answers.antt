use Rattle.cfs_recover.proofs.TidyEntries.{tidied_is_tidy}
use Rattle.cfs_recover.proofs.Tidyings.{tidies_begin, tidies_sound, tidies_write}
use Rattle.cfs_recover.proofs.laws.tidying_keeps_the_reading.Goals as goal

pub returns : goal.returns
returns c = record {
  sound = λ a b g. tidies_sound a g b;
  begin = tidies_begin;
  write = λ a c g. tidies_write a g c;
  entries = tidied_is_tidy;
}
