use Rattle.std.proofs.Common.{◌≡◌, ◌*◌, ℕ, arith, length, subst, IfOk, IfSome, None}
use Rattle.block_tree.proofs.Words.{EachLeaf, IfOk-weaker, IsFirstPast, HasNearPath, IsLeafPointer, IsPlaced, IsStepped, LeafStep, SomeHeld, Tells, leaf_count, leaf_limit, levels_below, node_levels, root_spelling, width}
use Rattle.block_tree.proofs.Faults.{refused_as}
use Rattle.block_tree.proofs.RootSteps.{followed_root, past_root, sought_root, stepped_root, sure_root, there_root}
use Rattle.block_tree.specs.Step.{IsPastBelow, IsStepBelow, IsSureStep, IsStepWithin, upto}
use Rattle.block_tree.proofs.step.step_held.Goals as goal
use Rattle.block_tree.proofs.step.step_held.Goals.{After-step_below}

-- what the step below the root's pointers tells
told : (g : _) (c : After-step_below g) (P : LeafStep → Type 0)
    → ((step : LeafStep) → IsStepBelow (g.D.Disk.content c.args.disk.now) (g.D.Disk.blocks c.args.disk.now) None c.args.root.now.nodes node_levels (length c.args.root.now.nodes * width (levels_below node_levels)) c.args.from step → P step)
    → Tells g.D.Disk c.args.disk.now → IfOk c.step_below.result P
told g c P more tells = IfOk-weaker c.step_below.result (IsStepBelow (g.D.Disk.content c.args.disk.now) (g.D.Disk.blocks c.args.disk.now) None c.args.root.now.nodes node_levels (length c.args.root.now.nodes * width (levels_below node_levels)) c.args.from) P more (c.step_below.ensures.step tells)

pub returns-clause-step : goal.returns-clause-step
returns-clause-step g c = told g c (IsStepped (g.D.Disk.content c.args.disk.now) (root_spelling c.args.root.now) c.args.from) (stepped_root (g.D.Disk.content c.args.disk.now) (g.D.Disk.blocks c.args.disk.now) c.args.root.now (omega arith) c.step_below.ensures.fit c.args.from)

pub returns-clause-followed : goal.returns-clause-followed
returns-clause-followed g c = told g c (λ step. EachLeaf c.args.from (upto (leaf_count (root_spelling c.args.root.now)) step.next) (HasNearPath (g.D.Disk.content c.args.disk.now) (g.D.Disk.blocks c.args.disk.now) (root_spelling c.args.root.now)))
    (followed_root (g.D.Disk.content c.args.disk.now) (g.D.Disk.blocks c.args.disk.now) c.args.root.now (omega arith) c.step_below.ensures.fit c.args.from)

pub returns-clause-sure : goal.returns-clause-sure
returns-clause-sure g c tells alive placed = told g c IsSureStep (λ step is. sure_root (g.D.Disk.content c.args.disk.now) (g.D.Disk.blocks c.args.disk.now) c.args.root.now (omega arith) c.step_below.ensures.fit c.args.from step is alive placed) tells

pub returns-clause-sought : goal.returns-clause-sought
returns-clause-sought g c tells alive = told g c (λ step. IfSome step.next (λ n. IsPlaced (g.D.Disk.content c.args.disk.now) (root_spelling c.args.root.now) n × SomeHeld (g.D.Disk.content c.args.disk.now) (root_spelling c.args.root.now) n))
    (λ step is. sought_root (g.D.Disk.content c.args.disk.now) (g.D.Disk.blocks c.args.disk.now) c.args.root.now (omega arith) c.step_below.ensures.fit c.args.from step is alive) tells

pub returns-clause-there : goal.returns-clause-there
returns-clause-there g c = told g c (λ step. IfSome step.found (λ s. IsLeafPointer (g.D.Disk.content c.args.disk.now) (root_spelling c.args.root.now) s.held.leaf (record { holder = s.holder; block = s.held.block })))
    (there_root (g.D.Disk.content c.args.disk.now) (g.D.Disk.blocks c.args.disk.now) c.args.root.now (omega arith) c.step_below.ensures.fit c.args.from)

pub returns-clause-within : goal.returns-clause-within
returns-clause-within g c = subst (λ (n : ℕ). IfOk c.step_below.result (IsStepWithin n c.args.from)) (let e : length c.args.root.now.nodes * width (levels_below node_levels) ≡ leaf_limit = omega arith in e) c.step_below.ensures.within

pub returns-clause-refused : goal.returns-clause-refused
returns-clause-refused g c =
    let image = g.D.Disk.content c.args.disk.now in
    let size = g.D.Disk.blocks c.args.disk.now in
    let root = c.args.root.now in
    refused_as g.D.Disk c.args.disk.now c.step_below.new.disk (IsPastBelow image size None root.nodes (levels_below node_levels) c.args.from) (IsFirstPast image size (root_spelling root) c.args.from) c.step_below.result
    (λ p past. past_root image size root (omega arith) c.step_below.ensures.fit c.args.from p) c.step_below.ensures.refused
