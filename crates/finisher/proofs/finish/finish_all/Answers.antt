use Rattle.std.proofs.Common.{◌≡◌, ◌∙◌, ◌*◌, inl, inr, ℕ, Ok, Err, Option, refl, rules, sym, ap, subst, is_some}
use Rattle.std.specs.Prelude.{IsSome}
use Rattle.std.proofs.lemmas.Bool.{cases_Bool}
use Rattle.std.proofs.lemmas.Result.{MatchResult-weaker}
use Rattle.block_tree.specs.Reads.{is_damage}
use Rattle.cyl_alloc.specs.Left.{LeftCommit}
use Rattle.cyl_alloc.specs.Space.{Kept}
use Rattle.cfs_base.proofs.Runs.{still_tells}
use Rattle.cfs_base.specs.Calls.{MakesAtMost}
use Rattle.finisher.specs.Runs.{Spends, calls_by_map, tries_by_map}
use Rattle.cfs_base.proofs.Passed.{is_passed, mapped_err, mapped_ok, passed}
use Rattle.finisher.proofs.Calls.{goes_since, goes_then, made_all, made_err, made_then, none_left, since_damage, since_parts, some_left}
use Rattle.finisher.specs.Going.{Ends, calls_left, tries_left}
use Rattle.cfs_base.specs.declared.refusal.Trouble.{Trouble}
use Rattle.finisher.proofs.Runs.{by_blocks, in_one_map, spends_last, spends_then, spent}
use Rattle.finisher.proofs.finish.finish_all.Goals as goal

pub parts-preserved : goal.parts-preserved
parts-preserved g c =
    let was = c.parts.invariant in
    let some = some_left c.parts.space.left c.unfinished.result c.unfinished.ensures c.parts-test.true in
    let l = some.0 in
    let there : IsSome c.parts.space.left = subst (λ (w : Option LeftCommit). IsSome w) (sym some.1) refl in
    let part = rw (mapped_ok _ _ _ c.in_ok-map_err.ensures.cases) at c.advance.ensures in
    let ends = part.ends in
    let d0 = c.args.disk.now in
    let d1 = c.parts.disk in
    let d2 = c.advance.new.disk in
    record {
      goes = goes_then g.D.Disk d0 d1 d2 c.args.space.now c.parts.space c.advance.new.space c.args.space.now.left c.parts.space.left c.advance.new.space.left (Ok tt) was.goes part.goes;
      size = ends.calls.same.size ∙ was.size ∙ ap (λ (k : ℕ). 64 * k) (sym ends.moves);
      made = made_then g.D.Disk d0 d1 d2 c.args.space.now c.parts.space c.advance.new.space c.parts.tried was.made ends;
      begun = λ no. cc;
      some = λ yes. elim (cases_Bool c.parts.tried) [
        | inl begun ↦ was.some begun
        | inr first ↦ subst (λ (k : Kept). IsSome k.left) (was.begun first).1 there
      ];
      settled = λ yes none tells. part.settled none (still_tells g.D.Disk tells was.made.went.told was.spends.made.same);
      spends = spends_then g.D.Disk d0 d1 d2 c.args.space.now.left c.parts.space.left was.spends c.advance.new.space.left part.spends;
    }

-- the part that was refused
refused : (g : _) (c : goal.After-from_residual g) → (t : Trouble) × (c.advance.result ≡ Err t) × (c.in_err-map_err.field-0.0 ≡ since_parts c.parts.tried t)
refused g c = mapped_err (since_parts c.parts.tried) _ _ (MatchResult-weaker c.advance.result c.in_err-map_err.ensures.cases (λ x p. p) (λ e q. search rules))

-- what was made until then
refused_calls : (g : _) (c : goal.After-from_residual g) → MakesAtMost g.D.Disk (calls_by_map c.args.space.now.left) (tries_by_map c.args.space.now.left) c.args.disk.now c.advance.new.disk
refused_calls g c =
    let some = some_left c.parts.space.left c.unfinished.result c.unfinished.ensures c.parts-test.true in
    spends_last g.D.Disk c.args.disk.now c.parts.disk c.advance.new.disk c.args.space.now.left c.parts.space.left c.parts.invariant.spends some.0 some.1 c.advance.ensures.ends.calls

pub returns-in_err-map_err-clause-goes : goal.returns-in_err-map_err-clause-goes
returns-in_err-map_err-clause-goes g c = rw (is_passed _ _ c.from_residual.ensures.1)
    (let d0 = c.args.disk.now in
    let d2 = c.advance.new.disk in
    let was = refused g c in
    goes_since g.D.Disk d0 d2 c.args.space.now c.advance.new.space c.args.space.now.left c.advance.new.space.left c.advance.new.space.left was.0 _ (ap is_damage was.2 ∙ since_damage c.parts.tried was.0)
    (goes_then g.D.Disk d0 c.parts.disk d2 c.args.space.now c.parts.space c.advance.new.space c.args.space.now.left c.parts.space.left c.advance.new.space.left (Err was.0) c.parts.invariant.goes (rw was.1 at c.advance.ensures.goes)))

pub returns-in_err-map_err-clause-by_map : goal.returns-in_err-map_err-clause-by_map
returns-in_err-map_err-clause-by_map g c = refused_calls g c

pub returns-in_err-map_err-clause-ends : goal.returns-in_err-map_err-clause-ends
returns-in_err-map_err-clause-ends g c =
    let d0 = c.args.disk.now in
    let d2 = c.advance.new.disk in
    let k0 = c.args.space.now in
    let k2 = c.advance.new.space in
    let w = k0.left in
    let was = refused g c in
    passed (Ends g.D.Disk (calls_left w) (tries_left w) d0 d2 k0 k2) _ _ (rw was.2 at c.from_residual.ensures.1)
    (made_err g.D.Disk d0 c.parts.disk d2 k0 c.parts.space k2 (calls_left w) (tries_left w) c.parts.tried was.0 c.parts.invariant.made (rw was.1 at c.advance.ensures.ends) (by_blocks g.D.Disk d0 d2 w (refused_calls g c)))

pub returns-in_err-map_err-clause-one_map : goal.returns-in_err-map_err-clause-one_map
returns-in_err-map_err-clause-one_map g c = λ l cylinder is all. in_one_map g.D.Disk c.args.disk.now c.advance.new.disk c.args.space.now.left (refused_calls g c) l cylinder is all

-- what was made until nothing is left
all_calls : (g : _) (c : goal.After-parts g) → MakesAtMost g.D.Disk (calls_by_map c.args.space.now.left) (tries_by_map c.args.space.now.left) c.args.disk.now c.parts.disk
all_calls g c =
    let none = none_left c.parts.space.left c.unfinished.result c.unfinished.ensures c.parts-test.false in
    spent g.D.Disk c.args.disk.now c.parts.disk c.args.space.now.left (subst (λ (w : Option LeftCommit). Spends g.D.Disk c.args.disk.now c.parts.disk c.args.space.now.left w) none c.parts.invariant.spends)

pub returns-clause-by_map : goal.returns-clause-by_map
returns-clause-by_map g c = all_calls g c

pub returns-clause-ends : goal.returns-clause-ends
returns-clause-ends g c =
    let k0 = c.args.space.now in
    let w = k0.left in
    let none = none_left c.parts.space.left c.unfinished.result c.unfinished.ensures c.parts-test.false in
    let same : c.parts.tried ≡ is_some w = elim (cases_Bool c.parts.tried) [
      | inl begun ↦ begun ∙ sym (c.parts.invariant.some begun)
      | inr first ↦ first ∙ sym (ap is_some (sym (ap (λ (k : Kept). k.left) (c.parts.invariant.begun first).1) ∙ none))
    ] in
    made_all g.D.Disk c.args.disk.now c.parts.disk k0 c.parts.space (calls_left w) (tries_left w) c.parts.tried c.parts.invariant.made same (by_blocks g.D.Disk c.args.disk.now c.parts.disk w (all_calls g c))

pub returns-clause-one_map : goal.returns-clause-one_map
returns-clause-one_map g c = λ l cylinder is all. in_one_map g.D.Disk c.args.disk.now c.parts.disk c.args.space.now.left (all_calls g c) l cylinder is all
