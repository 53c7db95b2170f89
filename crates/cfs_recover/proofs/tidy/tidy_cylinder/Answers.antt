use Rattle.std.proofs.Common.{ℕ, ◌+◌, ◌*◌, ◌≤◌, List, sym, ◌∙◌, ap, subst, arith}
use Rattle.cfs_recover.proofs.Words.{block_at, one_if_changed, Kept, map_spelling}
use Rattle.cfs_recover.proofs.TidyCylinders.{free_most, given_here, given_others, given_size, written_here, written_others}
use Rattle.cfs_recover.proofs.tidy.tidy_cylinder.Goals as goal

pub returns-clause-tidied : goal.returns-clause-tidied
returns-clause-tidied g c inside none was =
    let tidy = c.in_ok-tidy.tidy in
    let is = c.in_ok-tidy.ensures.tidied in
    record {
      tidy = tidy;
      tidied = is;
      spelled = written_here (g.D.Disk.content c.args.disk.now) (g.D.Disk.content c.write_tidy.new.disk) c.args.cylinder c.args.map.now tidy c.in_ok-tidy.ensures.written inside was;
      free = given_here c.args.space.now c.gave.new.self c.args.cylinder c.free_count.result c.gave.ensures.given c.requires.counted none
          (omega (arith, c.free_count.ensures.count, free_most c.args.held.now c.args.cylinder c.args.map.now tidy is)) ∙ c.free_count.ensures.count;
    }

pub returns-clause-others : goal.returns-clause-others
returns-clause-others g c n other =
    written_others (g.D.Disk.content c.args.disk.now) (g.D.Disk.content c.write_tidy.new.disk) c.args.cylinder c.args.map.now c.in_ok-tidy.tidy c.in_ok-tidy.ensures.written n other

pub returns-clause-counts : goal.returns-clause-counts
returns-clause-counts g c k other = given_others c.args.space.now c.gave.new.self c.args.cylinder c.free_count.result c.gave.ensures.given k other

pub returns-clause-size : goal.returns-clause-size
returns-clause-size g c = given_size c.args.space.now c.gave.new.self c.args.cylinder c.free_count.result c.gave.ensures.given

pub returns-clause-left : goal.returns-clause-left
returns-clause-left g c = ap (λ (k : Kept). k.left) c.gave.ensures.given

pub returns-clause-differs : goal.returns-clause-differs
returns-clause-differs g c inside was =
    let here = written_here (g.D.Disk.content c.args.disk.now) (g.D.Disk.content c.write_tidy.new.disk) c.args.cylinder c.args.map.now c.in_ok-tidy.tidy c.in_ok-tidy.ensures.written inside was in
    subst (λ (b : List ℕ). g.D.Disk.tries c.write_tidy.new.disk ≤ g.D.Disk.tries c.args.disk.now + one_if_changed b (block_at (g.D.Disk.content c.write_tidy.new.disk) (64 * c.args.cylinder))) (sym was)
    (subst (λ (b : List ℕ). g.D.Disk.tries c.write_tidy.new.disk ≤ g.D.Disk.tries c.args.disk.now + one_if_changed (map_spelling c.args.map.now) b) (sym here) c.in_ok-tidy.ensures.differs)
