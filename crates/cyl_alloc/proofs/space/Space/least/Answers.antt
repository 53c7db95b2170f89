use Rattle.std.proofs.Common.{◌∙◌, ◌*◌, ℕ, List, ap, sym, subst, refl, inr, arith, Some}
use Rattle.cyl_alloc.proofs.Words.{IsFirstAbove, Kept, entries_of, sum}
use Rattle.cyl_alloc.proofs.Counted.{is_least, none_in_map}
use Rattle.cyl_alloc.proofs.Finds.{first_at}
use Rattle.cyl_alloc.proofs.Sums.{none_above}
use Rattle.cyl_alloc.proofs.space.Space.least.Goals as goal

pub returns-in_default-clause-refused : goal.returns-in_default-clause-refused
returns-in_default-clause-refused g c = (refl, refl, ap (λ (kept : Kept). sum kept.free) (sym c.self.view_is) ∙ none_above c.self.inside.counts c.in_default.ensures.first)

pub returns-clause-found : goal.returns-clause-found
returns-clause-found g c tells counts =
    let above = subst (λ (l : List ℕ). IsFirstAbove l (Some c.in-Some.cylinder)) (ap (λ (kept : Kept). kept.free) c.self.view_is) c.in-Some.ensures.first in
    is_least (g.D.Disk.content c.args.disk.now) c.args.self.now c.in-Some.cylinder c.in-Some-first_free.entry (entries_of c.load_map.new.map) counts above (c.in_ok-load_map.ensures.map tells) (sym c.in-Some-first_free.ensures.first)

pub returns-in_default-first_free-clause-refused : goal.returns-in_default-first_free-clause-refused
returns-in_default-first_free-clause-refused g c =
    let above = subst (λ (l : List ℕ). IsFirstAbove l (Some c.in-Some.cylinder)) (ap (λ (kept : Kept). kept.free) c.self.view_is) c.in-Some.ensures.first in
    record {
      block = omega arith;
      on_disk = omega (arith, above.0, c.requires.size);
      first = first_at c.args.self.now.free c.in-Some.cylinder (64 * c.in-Some.cylinder) above refl;
      why = inr (
        refl,
        record {
          map = omega arith;
          counted = (first_at c.args.self.now.free c.in-Some.cylinder (64 * c.in-Some.cylinder) above refl).1;
          none = λ tells. none_in_map (g.D.Disk.content c.args.disk.now) (64 * c.in-Some.cylinder) (entries_of c.load_map.new.map) (c.in_ok-load_map.ensures.map tells) (c.in_default-first_free.ensures.none.0 refl);
        },
      );
    }
