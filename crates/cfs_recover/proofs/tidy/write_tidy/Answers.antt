use Rattle.std.proofs.Common.{◌≡◌, inr, Bool, cond, refl, sym, ◌∙◌, ap, arith}
use Rattle.cfs_recover.proofs.Words.{one_if_changed, map_spelling, same_text}
use Rattle.cfs_recover.proofs.TidyMaps.{tidy_map_comes}
use Rattle.cfs_recover.proofs.tidy.write_tidy.Goals as goal

pub returns-then-eq-clause-differs : goal.returns-then-eq-clause-differs
returns-then-eq-clause-differs g c = omega arith

pub returns-in_err-write_map-clause-leads : goal.returns-in_err-write_map-clause-leads
returns-in_err-write_map-clause-leads g c a graph start run tidying here =
    c.in_err-write_map.ensures.leads a graph start run (tidy_map_comes a graph c.args.cylinder c.args.map.now c.tidy_map-tidy.result c.args.held.now tidying here c.tidy_map-tidy.ensures)

pub returns-clause-keeps : goal.returns-clause-keeps
returns-clause-keeps g c a graph start run tidying here =
    c.in_ok-write_map.ensures.keeps a graph start run (tidy_map_comes a graph c.args.cylinder c.args.map.now c.tidy_map-tidy.result c.args.held.now tidying here c.tidy_map-tidy.ensures)

pub returns-clause-leads : goal.returns-clause-leads
returns-clause-leads g c a graph start run tidying here =
    c.in_ok-write_map.ensures.leads a graph start run (tidy_map_comes a graph c.args.cylinder c.args.map.now c.tidy_map-tidy.result c.args.held.now tidying here c.tidy_map-tidy.ensures)

pub returns-then-eq-clause-written : goal.returns-then-eq-clause-written
returns-then-eq-clause-written g c = inr (refl, same_text _ _ (sym c.if-eq.true ∙ c.eq.ensures))

pub returns-clause-differs : goal.returns-clause-differs
returns-clause-differs g c =
    let one : one_if_changed (map_spelling c.args.map.now) (map_spelling c.tidy_map-tidy.result) ≡ 1 = ap (λ (t : Bool). cond t 0 1) (sym c.eq.ensures ∙ c.if-eq.false) in
    omega (arith, one, c.write_map.ensures.calls.tries)
