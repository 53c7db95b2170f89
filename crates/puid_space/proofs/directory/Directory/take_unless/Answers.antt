use Rattle.std.proofs.Common.{◌∙◌, ◌<◌, sym, ap, length, ◌++◌, true, false, arith}
use Rattle.puid_space.proofs.Words.{Listing, kept_by, taken_by}
use Rattle.puid_space.proofs.Taken.{IsTaken-empty, IsTaken-kept, IsTaken-gone, IsTaken-all_kept, IsTaken-all_gone, one_at_least}
use Rattle.puid_space.proofs.Opened.{cell-at}
use Rattle.puid_space.proofs.directory.Directory.take_unless.Goals as goal

pub loop-block-preserved-in_default : goal.loop-block-preserved-in_default
loop-block-preserved-in_default g c =
    let room = ap (λ (d : Listing). d.room) c.self.view_is in
    let inside : c.loop-block.block < length c.loop-block.self-inside.cells.items = omega (arith, c.loop-block.self-inside.cells.ok.0, c.loop-block.invariant.3) in
    let none = cell-at c.loop-block.self-inside.cells.items _ c.loop-block.block inside c.index.ensures c.in_default.is in
    (IsTaken-empty c.loop-block.invariant.0 none, c.loop-block.invariant.1, c.loop-block.invariant.2, c.loop-block.invariant.3)

pub loop-block-preserved-then-is_kept : goal.loop-block-preserved-then-is_kept
loop-block-preserved-then-is_kept g c =
    let room = ap (λ (d : Listing). d.room) c.self.view_is in
    let inside : c.loop-block.block < length c.loop-block.self-inside.cells.items = omega (arith, c.loop-block.self-inside.cells.ok.0, c.loop-block.invariant.3) in
    let some = cell-at c.loop-block.self-inside.cells.items _ c.loop-block.block inside c.index.ensures c.in-Some.is in
    let below : c.loop-block.block < c.args.self.now.room = omega arith in (
      IsTaken-kept c.loop-block.invariant.0 c.in-Some.cell some (λ test says. sym (says c.loop-block.block true below c.if-is_kept.ensures)),
      c.loop-block.invariant.1,
      c.loop-block.invariant.2,
      c.loop-block.invariant.3,
    )

pub overflow_sub-self : goal.overflow_sub-self
overflow_sub-self g c =
    let room = ap (λ (d : Listing). d.room) c.self.view_is in
    let inside : c.loop-block.block < length c.loop-block.self-inside.cells.items = omega (arith, c.loop-block.self-inside.cells.ok.0, c.loop-block.invariant.3) in
    let some = cell-at c.loop-block.self-inside.cells.items _ c.loop-block.block inside c.index.ensures c.in-Some.is in
    omega (arith, one_at_least c.loop-block.invariant.0 c.in-Some.cell some inside)

pub push_reserved-requires : goal.push_reserved-requires
push_reserved-requires g c =
    let room = ap (λ (d : Listing). d.room) c.self.view_is in
    let inside : c.loop-block.block < length c.loop-block.self-inside.cells.items = omega (arith, c.loop-block.self-inside.cells.ok.0, c.loop-block.invariant.3) in
    let some = cell-at c.loop-block.self-inside.cells.items _ c.loop-block.block inside c.index.ensures c.in-Some.is in
    omega (arith, one_at_least c.loop-block.invariant.0 c.in-Some.cell some inside, c.loop-block.invariant.1)

pub loop-block-preserved : goal.loop-block-preserved
loop-block-preserved g c =
    let room = ap (λ (d : Listing). d.room) c.self.view_is in
    let inside : c.loop-block.block < length c.loop-block.self-inside.cells.items = omega (arith, c.loop-block.self-inside.cells.ok.0, c.loop-block.invariant.3) in
    let some = cell-at c.loop-block.self-inside.cells.items _ c.loop-block.block inside c.index.ensures c.in-Some.is in
    let below : c.loop-block.block < c.args.self.now.room = omega arith in (
      rw c.push_reserved.ensures.items (IsTaken-gone c.loop-block.invariant.0 c.in-Some.cell some inside (λ test says. sym (says c.loop-block.block false below c.if-is_kept.ensures))),
      omega (arith, one_at_least c.loop-block.invariant.0 c.in-Some.cell some inside, c.loop-block.invariant.1),
      c.push_reserved.ensures.capacity ∙ c.loop-block.invariant.2,
      c.loop-block.invariant.3,
    )

pub returns-clause-named : goal.returns-clause-named
returns-clause-named g c = λ test says.
    IsTaken-all_kept c.loop-block.invariant.0 (omega (arith, c.self.inside.cells.ok.0)) test says ∙ ap (λ (d : Listing). kept_by test d.named) c.self.view_is

pub returns-clause-gone : goal.returns-clause-gone
returns-clause-gone g c = λ test says.
    IsTaken-all_gone c.loop-block.invariant.0 (omega (arith, c.self.inside.cells.ok.0)) test says ∙ ap (λ (d : Listing). c.args.gone.now.items ++ taken_by test d.named) c.self.view_is
