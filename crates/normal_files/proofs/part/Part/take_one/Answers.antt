use Rattle.normal_files.proofs.Words.{◌≡◌, ◌∙◌, inl, inr, refl, ℕ, ap, sym, eq-eqb, arith, ◌/◌, ◌%◌, Bool, subst, true, ne_eqb, leaf_pointers}
use Rattle.block_tree.specs.Way.{with_node}
use Rattle.normal_files.specs.Ends.{Halts, HasGone}
use Rattle.normal_files.specs.Plans.{Plan, plan_of}
use Rattle.normal_files.specs.Takes.{is_held, leaf_takes}
use Rattle.normal_files.proofs.Led.{led_more}
use Rattle.normal_files.proofs.TakeOne.{at_leaf, one_taken}
use Rattle.normal_files.proofs.TakeRun.{held_passed}
use Rattle.cfs_base.proofs.Passed.{is_passed}
use Rattle.normal_files.proofs.part.Part.take_one.Goals as goal

pub returns-then-block-ne0-clause-takes : goal.returns-then-block-ne0-clause-takes
returns-then-block-ne0-clause-takes g c = λ d kept before w may.
    let on = before w may in
    (on.0, held_passed on.1 (c.args.leaf % leaf_pointers.count) (at_leaf c.requires.read c.args.leaf c.requires.from c.requires.to) (omega arith) (λ none. c.if-block-ne0.true (c.block.ensures.block ∙ none)))

pub returns-then-block-ne0-clause-ends : goal.returns-then-block-ne0-clause-ends
returns-then-block-ne0-clause-ends g c = inl (ne_eqb _ 0 (λ none. c.if-block-ne0.true (c.block.ensures.block ∙ none)), refl, refl, refl)

pub returns-clause-takes : goal.returns-clause-takes
returns-clause-takes g c = λ d kept before w may.
    let on = before w may in
    let now = c.in_ok-taken.ensures.takes w on.0 in
    let number : c.args.self.now.number ≡ c.args.leaf / leaf_pointers.count = omega (arith, c.requires.read.from, c.requires.read.to, c.requires.from, c.requires.to) in (
      now.0,
      one_taken on.1 c.requires.read c.requires.from c.requires.to (sym c.block.ensures.block ∙ c.if-block-ne0.false) now.1 c.block-2.ensures c.is_held-held.ensures refl (c.with.ensures.plan c.args.self.now.number number),
    )

pub returns-clause-root : goal.returns-clause-root
returns-clause-root g c = λ lead same is.
    let n = c.args.self.now.number in
    let number : n ≡ c.args.leaf / leaf_pointers.count = omega (arith, c.requires.read.from, c.requires.read.to, c.requires.from, c.requires.to) in
    let plan = c.with.ensures.plan n number in
    c.with.ensures.root ∙ ap (λ (m : ℕ). with_node c.args.next.root m c.in_ok-taken.taken.node) (sym number)
    ∙ led_more lead n (plan_of n c.args.next) c.args.next.root c.in_ok-taken.taken.node (plan_of n c.with.result) (omega (arith, c.requires.read.number)) refl is
    (λ held. c.in_ok-taken.ensures.kept (c.is_held-held.ensures ∙ ap (λ (m : ℕ). is_held m c.args.next.grown) (sym same) ∙ held) ∙ c.block-2.ensures) (ap (λ (p : Plan). p.grown) plan) (ap (λ (p : Plan). p.block) plan)

pub returns-clause-ends : goal.returns-clause-ends
returns-clause-ends g c =
    let number : c.args.self.now.number ≡ c.args.leaf / leaf_pointers.count = omega (arith, c.requires.read.from, c.requires.read.to, c.requires.from, c.requires.to) in
    inr (eq-eqb _ 0 (sym c.block.ensures.block ∙ c.if-block-ne0.false), ap (λ (m : Plan). m.grown) (c.with.ensures.plan c.args.self.now.number number), subst (λ (h : Bool). HasGone g.D.Disk 5 3 (leaf_takes h) true c.args.disk.now c.take_leaf.new.disk c.args.space.now c.take_leaf.new.space) c.is_held-held.ensures c.in_ok-taken.ensures.ends)

pub returns-in_err-taken-clause-takes : goal.returns-in_err-taken-clause-takes
returns-in_err-taken-clause-takes g c = λ d kept before w may. rw (is_passed c.from_residual.result c.in_err-taken.field-0.0 c.from_residual.ensures.1) (c.in_err-taken.ensures.takes w (before w may).0)

pub returns-in_err-taken-clause-ends : goal.returns-in_err-taken-clause-ends
returns-in_err-taken-clause-ends g c = rw (is_passed c.from_residual.result c.in_err-taken.field-0.0 c.from_residual.ensures.1) ((eq-eqb _ 0 (sym c.block.ensures.block ∙ c.if-block-ne0.false), subst (λ (h : Bool). Halts g.D.Disk 5 3 (leaf_takes h) c.args.disk.now c.take_leaf.new.disk c.args.space.now c.take_leaf.new.space c.in_err-taken.field-0.0) c.is_held-held.ensures c.in_err-taken.ensures.ends))
