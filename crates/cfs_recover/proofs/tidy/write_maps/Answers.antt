use Rattle.std.proofs.Common.{◌≡◌, ℕ, ◌+◌, ◌*◌, ◌<◌, ◌≤◌, List, [], length, get_or, refl, sym, ◌∙◌, ap, subst, arith}
use Rattle.cfs_recover.proofs.Words.{HasTidied, Image, IsMapIn, MapEntry, Tidies, block_at, changed_maps, makes_then, map_spelling}
use Rattle.cfs_base.proofs.Went.{makes_none}
use Rattle.cfs_recover.proofs.Keepings.{keeps_begin, keeps_lead}
use Rattle.cfs_recover.proofs.TidyCylinders.{changed_more, map_in, none_counted, none_size, the_map, tidied_more}
use Rattle.cfs_recover.proofs.Tidyings.{tidies_begin}
use Rattle.cfs_recover.proofs.tidy.write_maps.Goals as goal

pub loop-cylinder-init : goal.loop-cylinder-init
loop-cylinder-init g c = record {
  calls = makes_none g.D.Disk c.args.disk.now 0 0;
  size = none_size (length c.args.maps.now) c.args.space.now.free c.requires.none;
  left = refl;
  zero = λ k le. none_counted (length c.args.maps.now) k c.args.space.now.free c.requires.none;
  keeps = λ a graph settled is tidying are. (
    keeps_begin g.D.Disk (Tidies a graph) c.args.disk.now settled (subst (Tidies a graph) (sym is) (tidies_begin a graph tidying.holds)),
    λ k none. absurd (omega (arith, none)),
    λ k le. ap (λ (i : Image). block_at i (64 * k)) is,
    omega arith,
  );
}

pub loop-cylinder-preserved : goal.loop-cylinder-preserved
loop-cylinder-preserved g c =
    let n = c.loop-cylinder.cylinder in
    let maps = c.args.maps.now in
    let held = c.args.held.now in
    let before = c.loop-cylinder.invariant in
    let inside : n < length maps = omega arith in
    let map = c.index-maps-cylinder.result in
    let here : get_or maps n [] ≡ map = the_map maps n map _ inside c.index-maps-cylinder.is in
    let done = c.in_ok-tidy_cylinder.ensures in
    record {
      calls = makes_then g.D.Disk c.args.disk.now c.loop-cylinder.disk c.tidy_cylinder.new.disk n 1 (n + 1) n 1 (n + 1) before.calls done.calls (omega arith) (omega arith);
      size = done.size ∙ before.size;
      left = done.left ∙ before.left;
      zero = λ k le. done.counts k (λ same. absurd (omega (arith, same, le))) ∙ before.zero k (omega (arith, le));
      keeps = λ a graph settled is tidying are.
          let were = before.keeps a graph settled is tidying are in
          let size = g.met.D.Disk.sized c.loop-cylinder.disk were.0.tells.honest in
          let within : 64 * n < length (g.D.Disk.content c.loop-cylinder.disk) = omega (arith, size, before.calls.same.size, c.requires.maps, inside) in
          let spelled = were.2 n (omega arith) ∙ are.spelled n inside ∙ ap map_spelling here in
          let tidied = done.tidied within (before.zero n (omega arith)) spelled in (
            done.keeps a graph c.args.disk.now were.0 tidying (subst (λ (m : List MapEntry). IsMapIn a n m) here (map_in a maps are n inside)),
            tidied_more (g.D.Disk.content c.loop-cylinder.disk) (g.D.Disk.content c.tidy_cylinder.new.disk) maps held c.loop-cylinder.space.free c.tidy_cylinder.new.space.free n were.1 done.others done.counts
                (subst (λ (m : List MapEntry). HasTidied (g.D.Disk.content c.tidy_cylinder.new.disk) n m held (get_or c.tidy_cylinder.new.space.free n 0)) (sym here) tidied),
            λ k le. done.others (64 * k) (λ same. absurd (omega (arith, same, le))) ∙ were.2 k (omega (arith, le)),
            changed_more a (g.D.Disk.content c.loop-cylinder.disk) (g.D.Disk.content c.tidy_cylinder.new.disk) n (g.D.Disk.tries c.tidy_cylinder.new.disk) (g.D.Disk.tries c.args.disk.now)
                (were.2 n (omega arith)) done.others (omega (arith, were.3, done.differs within spelled)),
          );
    }

pub returns-in_err-tidy_cylinder-clause-leads : goal.returns-in_err-tidy_cylinder-clause-leads
returns-in_err-tidy_cylinder-clause-leads g c a graph settled is tidying are =
    let n = c.loop-cylinder.cylinder in
    let maps = c.args.maps.now in
    let inside : n < length maps = omega arith in
    let here : get_or maps n [] ≡ c.index-maps-cylinder.result = the_map maps n c.index-maps-cylinder.result _ inside c.index-maps-cylinder.is in
    c.in_err-tidy_cylinder.ensures.leads a graph c.args.disk.now (c.loop-cylinder.invariant.keeps a graph settled is tidying are).0 tidying
    (subst (λ (m : List MapEntry). IsMapIn a n m) here (map_in a maps are n inside))

pub returns-clause-leads : goal.returns-clause-leads
returns-clause-leads g c a graph settled is tidying are =
    keeps_lead g.D.Disk (Tidies a graph) c.args.disk.now c.loop-cylinder.disk (c.loop-cylinder.invariant.keeps a graph settled is tidying are).0

pub returns-clause-keeps : goal.returns-clause-keeps
returns-clause-keeps g c a graph settled is tidying are =
    let were = c.loop-cylinder.invariant.keeps a graph settled is tidying are in (
      were.0,
      λ k less. were.1 k (omega (arith, less)),
      subst (λ (n : ℕ). g.D.Disk.tries c.loop-cylinder.disk ≤ g.D.Disk.tries c.args.disk.now + changed_maps a (g.D.Disk.content c.loop-cylinder.disk) n) (omega arith) were.3,
    )
