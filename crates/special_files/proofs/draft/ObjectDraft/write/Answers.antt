use Rattle.std.proofs.Common.{inl, inr, ℕ, ◌*◌, ◌/◌, length, nat_lt, sym, ◌∙◌, ap, arith, rules}
use Rattle.cfs_base.proofs.Passed.{is_passed, mapped_err, mapped_ok}
use Rattle.special_files.proofs.Words.{Drafting, has_met_damage, refusal_after}
use Rattle.special_files.proofs.View.{read_leaves}
use Rattle.cfs_base.proofs.Went.{reads_none}
use Rattle.special_files.proofs.write.WriteRuns.{err_call, err_goes, need_told, run_begin, run_call, run_goes, run_more, write_full}
use Rattle.special_files.proofs.draft.ObjectDraft.write.Goals as goal
use Rattle.std.proofs.lemmas.Bool.{cases_lt}
use Rattle.std.proofs.lemmas.Result.{MatchResult-weaker}

-- ---- too few blocks are Free

pub returns-in_err-has_room : goal.returns-in_err-has_room
returns-in_err-has_room g c = rw (is_passed _ _ c.from_residual.ensures.1) (record {
  goes = λ v. record { done = tt; leaves = read_leaves (reads_none g.D.Disk 0 c.args.disk.now); sound = ap has_met_damage c.in_err-has_room.ensures.full.0 };
  call = write_full g.D.Disk c.args.disk.now c.args.space.now c.args.self.now c.args.offset c.args.bytes.now c.args.floor _ c.in_err-has_room.field-0.0
      (λ ds id d opened. need_told ds id c.args.self.now d c.args.offset c.args.bytes.now c.leaves_in-to.result c.need_to_write.result opened c.leaves_in-to.ensures c.need_to_write.ensures.some c.need_to_write.ensures.none) c.in_err-has_room.ensures.full.0 c.in_err-has_room.ensures.full.1;
})

pub loop-leaf-init : goal.loop-leaf-init
loop-leaf-init g c =
    run_begin g.D.Disk c.args.offset c.args.bytes.now c.leaves_in-to.result c.args.disk.now c.args.space.now c.args.self.now c.new-way.result (omega (arith, c.leaves_in-to.ensures))
    (omega (arith, c.leaves_in-to.ensures, c.requires.within, ap (λ (d : Drafting). d.root.size) c.self.view_is, c.self.invariant.3)) c.new-way.ensures
    (ap (λ (d : Drafting). length d.leaves) (sym c.self.view_is) ∙ c.self.invariant.1) (ap (λ (d : Drafting). length d.nodes) (sym c.self.view_is) ∙ c.self.invariant.2)
    (λ less. omega (arith, c.need_to_write.ensures.some less, c.in_ok-has_room.ensures.room))
    (elim (cases_lt (c.args.offset / 512) c.leaves_in-to.result) [ inl less ↦ omega (arith, c.need_to_write.ensures.some less, c.in_ok-has_room.ensures.room) | inr past ↦ omega (arith, c.need_to_write.ensures.none past, c.in_ok-has_room.ensures.room) ])

pub write_leaf-requires-clause-size : goal.write_leaf-requires-clause-size
write_leaf-requires-clause-size g c = c.loop-leaf.invariant.ends.calls.same.size ∙ c.requires.size ∙ ap (λ (n : ℕ). 64 * n) (sym c.loop-leaf.invariant.ends.moves.cylinders)

pub write_leaf-requires-clause-some : goal.write_leaf-requires-clause-some
write_leaf-requires-clause-some g c = omega (arith, c.requires.on_disk, c.loop-leaf.invariant.ends.calls.same.size)

pub write_leaf-requires-clause-safe : goal.write_leaf-requires-clause-safe
write_leaf-requires-clause-safe g c = c.loop-leaf.invariant.safe

-- ---- a leaf refused

pub returns-in_err-map_err : goal.returns-in_err-map_err
returns-in_err-map_err g c = rw (is_passed _ _ c.from_residual-in_err-map_err.ensures.1)
    (let was = mapped_err (refusal_after (nat_lt (c.args.offset / 512) c.loop-leaf.leaf-counter)) _ _ (MatchResult-weaker c.write_leaf.result c.in_err-map_err.ensures.cases (λ x p. p) (λ e q. search rules)) in
    let leaf = rw was.1 at c.write_leaf.ensures in
    record {
      goes = λ v. err_goes c.loop-leaf.invariant c.loop-leaf-test.true leaf.calls _ was.2 v c.requires.within leaf.goes c.leaves_in-to.ensures;
      call = err_call c.loop-leaf.invariant c.loop-leaf-test.true leaf.calls _ was.2 c.args.floor c.leaves_in-to.ensures;
    })

-- ---- leaf after leaf

pub loop-leaf-preserved : goal.loop-leaf-preserved
loop-leaf-preserved g c =
    let leaf = rw (mapped_ok _ _ _ c.in_ok-map_err.ensures.cases) at c.write_leaf.ensures in
    run_more c.loop-leaf.invariant c.loop-leaf-test.true leaf.calls leaf.goes c.leaves_in-to.ensures

pub returns : goal.returns
returns g c = record {
  goes = λ v. run_goes c.loop-leaf.invariant (omega (arith, c.loop-leaf-test.false)) c.leaves_in-to.ensures v c.requires.within;
  call = run_call c.loop-leaf.invariant (omega (arith, c.loop-leaf-test.false)) c.leaves_in-to.ensures c.args.floor _
      (λ ds id d opened. need_told ds id c.args.self.now d c.args.offset c.args.bytes.now c.leaves_in-to.result c.need_to_write.result opened c.leaves_in-to.ensures c.need_to_write.ensures.some c.need_to_write.ensures.none) c.in_ok-has_room.ensures.room;
}
