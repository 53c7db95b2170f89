use Rattle.normal_files.proofs.Words.{◌≡◌, ℕ, ◌/◌, ◌∙◌, ap, arith, leaf_pointers, leaves_at}
use Rattle.normal_files.specs.Laid.{node_of}
use Rattle.normal_files.proofs.Refusals.{way_refused}
use Rattle.normal_files.proofs.Ways.{no_places, unread_top, unread_way, way_own, way_top}
use Rattle.cfs_base.proofs.Passed.{is_passed}
use Rattle.normal_files.proofs.part.Part.read.Goals as goal

pub returns-in_err-get-clause-refused : goal.returns-in_err-get-clause-refused
returns-in_err-get-clause-refused g c = rw (is_passed c.from_residual.result c.in_err-get.field-0.0 c.from_residual.ensures.1) (way_refused g.D.Disk c.args.at.0 c.args.root.now c.args.disk.now c.get.new.disk c.in_err-get.field-0.0 c.in_err-get.ensures.refused)

pub returns-in_err-get-clause-reads : goal.returns-in_err-get-clause-reads
returns-in_err-get-clause-reads g c = c.in_err-get.ensures.reads 0 (omega arith) (no_places _ _)

pub returns-in_ok-get-clause-reads : goal.returns-in_ok-get-clause-reads
returns-in_ok-get-clause-reads g c = c.in_ok-get.ensures.reads 0 (omega arith) (no_places _ _)

pub returns-in_ok-get-clause-part : goal.returns-in_ok-get-clause-part
returns-in_ok-get-clause-part g c = λ tells. record {
  own = λ some.
      let image = g.D.Disk.content c.args.disk.now in
      let leaf = c.of_node-leaves.result.from in
      let number : leaf / leaf_pointers.count ≡ c.args.number = omega (arith, some, c.of_node-leaves.ensures.from, c.of_node-leaves.ensures.to) in
      way_own image c.args.root.now c.get.new.self leaf c.in_ok-get.ensures.to (c.in_ok-get.ensures.way tells (unread_way image c.args.root.now c.new-way.result c.new-way.ensures))
      ∙ ap (λ (n : ℕ). leaves_at image (node_of c.args.root.now n)) number;
}

pub returns-in_ok-get-clause-there : goal.returns-in_ok-get-clause-there
returns-in_ok-get-clause-there g c = λ some.
    let leaf = c.of_node-leaves.result.from in
    let number : leaf / leaf_pointers.count ≡ c.args.number = omega (arith, some, c.of_node-leaves.ensures.from, c.of_node-leaves.ensures.to) in
    let same = way_top c.args.root.now c.get.new.self leaf c.in_ok-get.ensures.to ∙ ap (node_of c.args.root.now) number in
    let top = c.in_ok-get.ensures.top (unread_top (g.D.Disk.blocks c.args.disk.now) c.args.root.now c.new-way.result c.new-way.ensures) (omega (arith, c.in_ok-get.ensures.to.whole)) in
    omega (arith, same, top)
