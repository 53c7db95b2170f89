use Rattle.std.proofs.Common.{rules}
use Rattle.normal_files.proofs.Words.{Err, ◌≡◌, ◌∙◌, ℕ, List, get_or, ap, refl, subst, arith, Refused}
use Rattle.normal_files.specs.Ends.{refused_after}
use Rattle.normal_files.specs.Laid.{node_of}
use Rattle.normal_files.specs.Plans.{plan_of}
use Rattle.normal_files.proofs.Ways.{to_other}
use Rattle.normal_files.specs.Takes.{HasTaken}
use Rattle.normal_files.proofs.Ending.{gone_none, still_sound}
use Rattle.normal_files.proofs.TakeOne.{run_ends, run_passed, run_stops, taken_begins}
use Rattle.cfs_base.proofs.Passed.{fine, handed, is_passed, mapped}
use Rattle.normal_files.proofs.part.Part.take_leaves.Goals as goal
use Rattle.normal_files.proofs.part.Part.take_leaves.Goals.{After-from_residual}

pub loop-leaf-init : goal.loop-leaf-init
loop-leaf-init g c = record {
  size = refl;
  cylinders = refl;
  left = refl;
  near = λ some. let same = c.requires.leads some in let near = c.requires.near some in omega (arith, same, near);
  grown = λ yes. cc;
  takes = λ w may. (may, taken_begins (g.D.Disk.content c.args.disk.now) c.args.patch.now.at.0 c.args.patch.now.root.now.fill c.args.patch.now.offset c.args.patch.now.bytes.now c.args.self.now (node_of c.args.patch.now.root.now c.args.self.now.number) (node_of c.args.lead c.args.self.now.number) c.requires.stays);
  way = λ some. let to = c.requires.read.leads some in record { path = λ d less. ap (λ (p : List ℕ). get_or p d 0) to.path; whole = to.whole };
  root = refl;
  run = gone_none g.D.Disk c.args.disk.now c.args.space.now _ _ _;
}

pub take_one-requires-clause-way : goal.take_one-requires-clause-way
take_one-requires-clause-way g c =
    to_other c.args.self.now.leaves.from c.loop-leaf.leaf c.loop-leaf.next.way (omega (arith, c.loop-leaf.auto.leaf, c.loop-leaf-test.true, c.requires.read.from, c.requires.read.to)) (c.loop-leaf.invariant.way (omega (arith, c.loop-leaf.auto.leaf, c.loop-leaf-test.true)))

pub loop-leaf-preserved : goal.loop-leaf-preserved
loop-leaf-preserved g c =
    let is = fine (refused_after c.loop-leaf.next.grown) c.take_one.result _ _ (mapped (refused_after c.loop-leaf.next.grown) _ _ c.map_err.ensures.cases (λ e k is. search rules)) c.in_ok-next.was in record {
      size = c.take_one.ensures.size ∙ c.loop-leaf.invariant.size;
      cylinders = c.take_one.ensures.cylinders ∙ c.loop-leaf.invariant.cylinders;
      left = c.take_one.ensures.left ∙ c.loop-leaf.invariant.left;
      near = λ some. let less = (rw is at c.take_one.ensures.near) (let was = c.loop-leaf.invariant.near some in omega (arith, was, c.loop-leaf.invariant.size)) in omega (arith, less, c.loop-leaf.invariant.size);
      grown = λ yes. omega (arith, c.loop-leaf.auto.leaf);
      takes = (rw is at c.take_one.ensures.takes) c.args.disk.now c.args.space.now c.loop-leaf.invariant.takes;
      way = λ some. to_other c.loop-leaf.leaf c.args.self.now.leaves.from c.in_ok-next.next.way (omega (arith, c.loop-leaf.auto.leaf, c.loop-leaf-test.true, c.requires.read.from, c.requires.read.to)) (rw is at c.take_one.ensures.way);
      root = (rw is at c.take_one.ensures.root) c.args.lead (c.requires.leads (omega (arith, c.loop-leaf.auto.leaf, c.loop-leaf-test.true))) c.loop-leaf.invariant.root;
      run = run_passed c.args.patch.now.root.now c.args.self.now c.loop-leaf.leaf c.loop-leaf.next c.loop-leaf.auto.leaf c.loop-leaf.invariant.run c.in_ok-next.next (rw is at c.take_one.ensures.ends);
    }

-- why a leaf isn't taken
why : (g : _) (c : After-from_residual g) → (e : Refused) × (c.take_one.result ≡ Err e) × (c.from_residual.result ≡ Err (refused_after c.loop-leaf.next.grown e))
why g c =
    let no = handed (refused_after c.loop-leaf.next.grown) c.take_one.result _ _ (mapped (refused_after c.loop-leaf.next.grown) _ _ c.map_err.ensures.cases (λ e k is. search rules)) c.in_err-next.was in
    (no.0, no.1, is_passed c.from_residual.result c.in_err-next.field-0.0 c.from_residual.ensures.1 ∙ ap Err no.2)

pub returns-in_err-next-clause-takes : goal.returns-in_err-next-clause-takes
returns-in_err-next-clause-takes g c = λ w may.
    let no = why g c in
    let two = rw no.1 at (c.take_one.ensures.takes c.args.disk.now c.args.space.now c.loop-leaf.invariant.takes w may) in
    rw no.2 (two.0, still_sound c.loop-leaf.next.grown no.0 two.1)

pub returns-in_err-next-clause-ends : goal.returns-in_err-next-clause-ends
returns-in_err-next-clause-ends g c =
    let no = why g c in
    rw no.2 (run_stops c.args.patch.now.root.now c.args.self.now c.loop-leaf.leaf c.loop-leaf.next c.loop-leaf.auto.leaf c.loop-leaf.invariant.run no.0 (omega (arith, c.loop-leaf-test.true)) (rw no.1 at c.take_one.ensures.ends))

pub returns-clause-takes : goal.returns-clause-takes
returns-clause-takes g c = λ w may.
    let last : c.loop-leaf.leaf ≡ c.args.self.now.leaves.to = omega (arith, c.loop-leaf-test.false, c.loop-leaf.auto.leaf-end, c.requires.read.some) in
    let all = c.loop-leaf.invariant.takes w may in
    (all.0, subst (λ (m : ℕ). HasTaken (g.D.Disk.content c.args.disk.now) (g.D.Disk.content c.loop-leaf.disk) c.args.patch.now.at.0 c.args.patch.now.root.now.fill c.args.patch.now.offset c.args.patch.now.bytes.now c.args.self.now (node_of c.args.patch.now.root.now c.args.self.now.number) m (plan_of c.args.self.now.number c.loop-leaf.next)) last all.1)

pub returns-clause-near : goal.returns-clause-near
returns-clause-near g c = λ yes.
    let less = c.loop-leaf.invariant.grown yes in
    c.loop-leaf.invariant.near (omega (arith, less, c.loop-leaf-test.false, c.loop-leaf.auto.leaf-end, c.requires.read.some))

pub returns-clause-ends : goal.returns-clause-ends
returns-clause-ends g c =
    let last : c.loop-leaf.leaf ≡ c.args.self.now.leaves.to = omega (arith, c.loop-leaf-test.false, c.loop-leaf.auto.leaf-end, c.requires.read.some) in
    run_ends c.args.patch.now.root.now c.args.self.now c.loop-leaf.leaf c.loop-leaf.next c.loop-leaf.auto.leaf c.loop-leaf.invariant.run last c.loop-leaf.invariant.grown
