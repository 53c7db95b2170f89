use Rattle.cfs_base.proofs.Went.{reads_none}
use Rattle.index_ops.proofs.Words.{rules, is_some, ◌≡◌, ◌∙◌, None, Some, sym, ap, subst, Drafting, Trouble, refused_by, trouble_after_try}
use Rattle.index_ops.specs.Changes.{FillsIndex, IsIndexRefusal}
use Rattle.index_ops.proofs.Begun.{commit_refused, index_refusal}
use Rattle.index_ops.proofs.Filling.{fill_commits, fill_settles, fill_stops}
use Rattle.cfs_base.proofs.Passed.{mapped, tells_err, passed}
use Rattle.leaf_changes.specs.Tops.{root_top}
use Rattle.special_files.specs.Refusal.{top_of}
use Rattle.std.specs.Prelude.{IfErr}
use Rattle.index_ops.proofs.changing.put.Goals as goal

pub returns-in_err-swap-clause-fills : goal.returns-in_err-swap-clause-fills
returns-in_err-swap-clause-fills g c = λ h own. passed (FillsIndex h c.args.what c.fill.new.disk c.fill.new.space) _ _ c.from_residual.ensures.1
    (fill_stops h c.args.what c.requires.begun own c.fill.new.disk c.fill.new.space c.fill.new.self c.in_err-swap.field-0.0 c.in_err-swap.ensures.goes)

pub returns-in_err-swap-clause-refused : goal.returns-in_err-swap-clause-refused
returns-in_err-swap-clause-refused g c =
    let spare = c.in_err-swap.ensures.call.room (search rules) in
    passed (λ r. IfErr r (IsIndexRefusal g.D.Disk (root_top c.args.draft.at c.args.draft.own) c.args.disk.now c.fill.new.disk c.fill.new.space)) _ _ c.from_residual.ensures.1
    (index_refusal g.D.Disk c.args.disk.now c.args.disk.now c.fill.new.disk c.fill.new.space c.args.draft c.requires.begun 0 (reads_none g.D.Disk 0 c.args.disk.now) c.in_err-swap.field-0.0 (c.in_err-swap.ensures.call.ends.refused, spare))

pub returns-in_default-clause-fills : goal.returns-in_default-clause-fills
returns-in_default-clause-fills g c = λ h own.
    let call = c.in_ok-swap.ensures.call in
    let spared = call.spared c.in_default.is in
    fill_settles h c.args.what c.requires.begun own c.fill.new.disk c.fill.new.space c.fill.new.self (rw c.in_default.is at c.in_ok-swap.ensures.goes) spared.0 spared.1 spared.2 c.requires.left (call.empty c.in_default.is) c.settle.result c.settle.ensures

pub returns-clause-fills : goal.returns-clause-fills
returns-clause-fills g c = λ h own.
    let stays = c.in_ok-swap.ensures.call.stays in
    let begun = c.requires.begun in
    subst (FillsIndex h c.args.what c.commit_swap.new.disk c.commit_swap.new.space) (sym (mapped (λ (t : Trouble). refused_by (trouble_after_try t)) _ _ c.map_err.ensures.cases (λ e k is. search rules)))
    (fill_commits h c.args.what begun own c.fill.new.disk c.fill.new.space c.fill.new.self c.in-Some.swap (rw c.in-Some.is at c.in_ok-swap.ensures.goes) (stays.created ∙ ap (λ (x : Drafting). x.created) begun) (stays.shadow ∙ ap (λ (x : Drafting). x.shadow) begun) c.commit_swap.result c.commit_swap.ensures.commits)

pub returns-clause-refused : goal.returns-clause-refused
returns-clause-refused g c =
    let G = g.D.Disk in
    let was = c.args.draft in
    let d0 = c.args.disk.now in
    let d3 = c.commit_swap.new.disk in
    let now = c.fill.new.self in
    let call = c.in_ok-swap.ensures.call in
    let none = call.stays.created ∙ ap (λ (x : Drafting). x.created) c.requires.begun in
    let tried = call.tried (ap is_some c.in-Some.is) in
    let since = λ (t : Trouble). refused_by (trouble_after_try t) in
    tells_err _ (IsIndexRefusal G (root_top was.at was.own) d0 d3 c.commit_swap.new.space) since c.commit_swap.result _ (mapped since _ _ c.map_err.ensures.cases (λ e k is. search rules)) c.commit_swap.ensures.call.refused (λ t why.
    index_refusal G d0 d0 d3 c.commit_swap.new.space was c.requires.begun 0 (reads_none G 0 d0) _
    (commit_refused G (top_of was) d0 c.fill.new.disk d3 c.args.space.now c.fill.new.space c.commit_swap.new.space 8 4 _ _ call.ends tried now.at now.created call.stays.at
    (λ far. let no : None ≡ Some far.n = sym none ∙ far.is in cc) t why))
