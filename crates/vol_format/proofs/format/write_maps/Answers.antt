use Rattle.std.proofs.Common.{◌+◌, IsTrue, refl, sym, ◌∙◌, subst, arith}
use Rattle.cfs_base.proofs.Calls.{makes_then}
use Rattle.vol_format.proofs.Entries.{entries_more}
use Rattle.vol_format.proofs.format.write_maps.Goals as goal

pub loop-cylinder-init : goal.loop-cylinder-init
loop-cylinder-init g c = record {
  calls = record { later = omega arith; keeps = λ at i le was. was; same = record { size = refl; honesty = refl; telling = refl }; faults = omega arith; calls = omega arith; tries = omega arith; no_fewer = omega arith };
  stays = λ start run. run;
  entries = λ honest n none. absurd (omega (arith, none));
}

pub loop-cylinder-preserved : goal.loop-cylinder-preserved
loop-cylinder-preserved g c =
    let n = c.loop-cylinder.cylinder in
    let before = c.loop-cylinder.invariant in
    let done = c.in_ok-write_beside.ensures in
    record {
      calls = makes_then g.D.Disk c.args.disk.now c.loop-cylinder.disk c.write_beside.new.disk n 1 (n + 1) n 1 (n + 1) before.calls done.calls (omega arith) (omega arith);
      stays = λ start run. done.stays start (before.stays start run);
      entries = λ honest k below.
          let size = g.met.D.Disk.sized c.loop-cylinder.disk (subst IsTrue (sym before.calls.same.honesty) honest) in
          entries_more (g.D.Disk.content c.loop-cylinder.disk) (g.D.Disk.content c.write_beside.new.disk) n c.encode.result done.written (omega (arith, size, before.calls.same.size, c.requires.size)) (before.entries honest)
          (λ j small. c.encode.ensures.entries j small ∙ c.fresh_map.ensures j small) k below;
    }

pub returns-in_err-write_beside-clause-stays : goal.returns-in_err-write_beside-clause-stays
returns-in_err-write_beside-clause-stays g c start run = c.in_err-write_beside.ensures.stays start (c.loop-cylinder.invariant.stays start run)
