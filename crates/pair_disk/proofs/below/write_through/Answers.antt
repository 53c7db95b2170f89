use Rattle.pair_disk.proofs.Words.{PutsBelow}
use Rattle.pair_disk.proofs.Calls.{then_stays}
use Rattle.pair_disk.proofs.below.write_through.Goals as goal

pub returns-in_err-write-clause-writes : goal.returns-in_err-write-clause-writes
returns-in_err-write-clause-writes g c =
    let is = c.write.ensures in
    record {
      put = λ tells. let torn = c.in_err-write.ensures.torn tells in (torn.0, torn.2);
      told_others = is.told_others;
      images = is.images;
      keeps = is.keeps;
      same = is.same;
      faults = is.counts.no_fewer;
      clock = is.counts.clock;
    }

pub returns-clause-writes : goal.returns-clause-writes
returns-clause-writes g c =
    let is = c.write.ensures in
    let old = c.args.lower.now in
    let writes : PutsBelow g.T.TornDisk c.args.at.0 old c.write.new.self = record {
      put = λ tells. (c.args.from.now, c.in_ok-write.ensures.written);
      told_others = is.told_others;
      images = is.images;
      keeps = is.keeps;
      same = is.same;
      faults = is.counts.no_fewer;
      clock = is.counts.clock;
    } in
    let then = c.barrier.ensures in
    then_stays g.T.TornDisk c.args.at.0 old c.write.new.self c.barrier.new.self writes (record { content = then.content; told = then.told; images = then.images; keeps = then.keeps; same = then.same; faults = then.counts.no_fewer })
