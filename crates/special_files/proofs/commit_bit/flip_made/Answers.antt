use Rattle.std.proofs.Common.{Ok, Option, ap, subst, sym}
use Rattle.special_files.proofs.Words.{BlockNo, Flips, number_if, option_to_list}
use Rattle.special_files.proofs.commit.CommitRuns.{no_flips}
use Rattle.special_files.proofs.commit_bit.flip_made.Goals as goal

pub flip-requires-clause-on_disk : goal.flip-requires-clause-on_disk
flip-requires-clause-on_disk g c = c.requires.on_disk _ (ap number_if c.in-Some.is)

pub returns-in-Some : goal.returns-in-Some
returns-in-Some g c = record {
  flips = subst (λ (x : Option BlockNo). Flips g.D.Disk 2 1 c.args.how (option_to_list (number_if x)) c.args.disk.now c.flip.new.disk c.flip.result) (sym c.in-Some.is) c.flip.ensures.flips;
}

pub returns-in-None : goal.returns-in-None
returns-in-None g c = record {
  flips = subst (λ (x : Option BlockNo). Flips g.D.Disk 2 1 c.args.how (option_to_list (number_if x)) c.args.disk.now c.args.disk.now (Ok tt)) (sym c.in-None.is) (no_flips g.D.Disk c.args.how c.args.disk.now 2 1);
}
