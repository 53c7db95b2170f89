use Rattle.std.proofs.Common.{ℕ, ◌*◌, subst, Option, Some}
use Rattle.block_tree.proofs.Words.{AreQuiet, Err, IsFirstPast, err_from_is_err_and, node_levels, root_spelling}
use Rattle.block_tree.proofs.Faults.{later_fault}
use Rattle.block_tree.proofs.Walks.{IsStepOn, IsWalked, passed, past_on, walk_finds, walk_goes_on}
use Rattle.block_tree.specs.Step.{upto}
use Rattle.block_tree.specs.Tree.{leaf_count}
use Rattle.block_tree.proofs.walk.walk_held.Goals as goal

pub returns-in_err-step-clause-refused : goal.returns-in_err-step-clause-refused
returns-in_err-step-clause-refused g c =
    let image = g.D.Disk.content c.args.disk.now in
    let size = g.D.Disk.blocks c.args.disk.now in
    let root = root_spelling c.args.root.now in
    let so = subst (IsWalked g.D.Disk (root_spelling c.args.root.now) c.args.from c.args.disk.now c.loop-next.disk) c.in-Some.is c.loop-next.invariant in
    let reads = so.reads in
    let p = err_from_is_err_and c.from_residual.result c.from_residual.ensures.1 in
    rw (p.1, p.2) (later_fault {X = ℕ} g.D.Disk c.args.disk.now c.loop-next.disk c.step_held.new.disk (node_levels * passed c.args.from (Some c.in-Some.at)) (λ i n. IsFirstPast i n root c.in-Some.at) (IsFirstPast image size root c.args.from) (Err c.in_err-step.field-0.0) reads
    (λ p tells far past. past_on image size root c.args.from c.in-Some.at so.on.0 (so.quiet tells) p past) c.in_err-step.ensures.refused)

pub returns-in-Some-found-clause-found : goal.returns-in-Some-found-clause-found
returns-in-Some-found-clause-found g c tells =
    let so = subst (IsWalked g.D.Disk (root_spelling c.args.root.now) c.args.from c.args.disk.now c.loop-next.disk) c.in-Some.is c.loop-next.invariant in
    let told = c.in_ok-step.ensures in
    let is : IsStepOn g.D.Disk (root_spelling c.args.root.now) c.in-Some.at c.loop-next.disk c.step_held.new.disk c.in_ok-step.step = record { steps = told.step; followed = told.followed; sure = told.sure; sought = told.sought; within = told.within; reads = told.reads } in
    walk_finds g.D.Disk (root_spelling c.args.root.now) c.args.from c.in-Some.at c.args.disk.now c.loop-next.disk c.step_held.new.disk so c.in_ok-step.step is tells c.in-Some-found.found c.in-Some-found.is

pub loop-next-preserved : goal.loop-next-preserved
loop-next-preserved g c =
    let so = subst (IsWalked g.D.Disk (root_spelling c.args.root.now) c.args.from c.args.disk.now c.loop-next.disk) c.in-Some.is c.loop-next.invariant in
    let told = c.in_ok-step.ensures in
    let is : IsStepOn g.D.Disk (root_spelling c.args.root.now) c.in-Some.at c.loop-next.disk c.step_held.new.disk c.in_ok-step.step = record { steps = told.step; followed = told.followed; sure = told.sure; sought = told.sought; within = told.within; reads = told.reads } in
    walk_goes_on g.D.Disk (root_spelling c.args.root.now) c.args.from c.in-Some.at c.args.disk.now c.loop-next.disk c.step_held.new.disk so c.in_ok-step.step is c.in_default-found.is

pub returns-clause-found : goal.returns-clause-found
returns-clause-found g c tells = subst (λ (o : Option ℕ). AreQuiet (g.D.Disk.content c.args.disk.now) (g.D.Disk.blocks c.args.disk.now) (root_spelling c.args.root.now) c.args.from (upto (leaf_count (root_spelling c.args.root.now)) o)) c.in_default.is (c.loop-next.invariant.quiet tells)
