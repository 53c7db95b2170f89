use Rattle.std.proofs.Common.{rules}
use Rattle.normal_files.proofs.Words.{Ok, Err, Trouble, Some, ap, ◌≡◌, ℕ, ◌∙◌, refl, sym, subst, arith}
use Rattle.normal_files.specs.Steps.{IsAmid, told_after}
use Rattle.normal_files.proofs.Come.{come_err, come_none, come_then, come_within, done_as}
use Rattle.cfs_base.proofs.Passed.{fine, handed, is_passed, mapped}
use Rattle.normal_files.proofs.part.Part.put.Goals as goal
use Rattle.normal_files.proofs.part.Part.put.Goals.{After-from_residual, After-either-tried}

pub loop-leaf-init : goal.loop-leaf-init
loop-leaf-init g c = record { come = come_none g.D.Disk c.args.disk.now _ _; size = refl; puts = λ r w kept is amid. (amid, λ m. refl) }

went : (g : _) (c : After-either-tried g) → c.put_one.result ≡ Ok c.in_ok-now.now
went g c = fine (told_after c.loop-leaf.tried) c.put_one.result _ _ (mapped (told_after c.loop-leaf.tried) _ _ c.map_err.ensures.cases (λ e k is. search rules)) c.in_ok-now.was

pub loop-leaf-preserved : goal.loop-leaf-preserved
loop-leaf-preserved g c = record {
  come = done_as (ap Some (sym c.either-tried.ensures)) (come_within (come_then c.loop-leaf.tried c.in_ok-now.now c.loop-leaf.invariant.come (rw (went g c) at c.put_one.ensures.ends)) (omega (arith, c.loop-leaf.auto.leaf)) (omega (arith, c.loop-leaf.auto.leaf)));
  size = c.put_one.ensures.size ∙ c.loop-leaf.invariant.size;
  puts = λ r w kept is amid.
      let was = c.loop-leaf.invariant.puts r w kept is amid in
      let now = rw (went g c) at (c.put_one.ensures.puts r w kept is was.0) in
      (now.0, λ m. now.1 m ∙ was.1 m);
}

-- why not
why : (g : _) (c : After-from_residual g) → (e : Trouble) × (c.put_one.result ≡ Err e) × (c.from_residual.result ≡ Err (told_after c.loop-leaf.tried e))
why g c =
    let no = handed (told_after c.loop-leaf.tried) c.put_one.result _ _ (mapped (told_after c.loop-leaf.tried) _ _ c.map_err.ensures.cases (λ e k is. search rules)) c.in_err-now.was in
    (no.0, no.1, is_passed c.from_residual.result c.in_err-now.field-0.0 c.from_residual.ensures.1 ∙ ap Err no.2)

pub returns-in_err-now-clause-puts : goal.returns-in_err-now-clause-puts
returns-in_err-now-clause-puts g c = λ r w kept is amid. rw (why g c).2 (rw (why g c).1 at (c.put_one.ensures.puts r w kept is (c.loop-leaf.invariant.puts r w kept is amid).0))

pub returns-in_err-now-clause-ends : goal.returns-in_err-now-clause-ends
returns-in_err-now-clause-ends g c =
    let no = why g c in
    rw no.2 (come_err c.loop-leaf.tried c.loop-leaf.invariant.come (rw no.1 at c.put_one.ensures.ends) (omega (arith, c.loop-leaf-test.true, c.loop-leaf.auto.leaf)) (omega (arith, c.loop-leaf-test.true, c.loop-leaf.auto.leaf)))

pub returns-clause-puts : goal.returns-clause-puts
returns-clause-puts g c = λ r w kept is amid.
    let last : c.loop-leaf.leaf ≡ c.args.self.now.leaves.to = omega (arith, c.loop-leaf-test.false, c.loop-leaf.auto.leaf-end, c.requires.read.some) in
    let all = c.loop-leaf.invariant.puts r w kept is amid in
    (subst (λ (m : ℕ). IsAmid w c.args.offset c.args.bytes.now m c.loop-leaf.disk kept) last all.0, all.1)

pub returns-clause-ends : goal.returns-clause-ends
returns-clause-ends g c =
    let last : c.loop-leaf.leaf ≡ c.args.self.now.leaves.to = omega (arith, c.loop-leaf-test.false, c.loop-leaf.auto.leaf-end, c.requires.read.some) in
    come_within c.loop-leaf.invariant.come (omega (arith, last)) (omega (arith, last))
