use Rattle.std.proofs.Common.{◌≡◌, inl, inr, ℕ, ◌+◌, ◌<◌, ◌≤◌, length, get_or, drop, Some, sym, ◌∙◌, ap, subst, arith}
use Rattle.cfs_recover.proofs.Words.{AreWritten, Copied, CopiesRoots, Found, IsCopyOf, RunKeeps, all_pieces, cases_eq, copies_before, makes_then, slice_get, source}
use Rattle.cfs_base.proofs.Went.{makes_none}
use Rattle.cfs_recover.proofs.Keepings.{written_more}
use Rattle.cfs_recover.proofs.Kept.{copy_next, item_at, own_next}
use Rattle.cfs_recover.proofs.Pieces.{none_is, pieces_anew, some_is}
use Rattle.cfs_recover.proofs.writes.write_roots.Goals as goal

pub loop-item-init : goal.loop-item-init
unfolding copies_before
loop-item-init g c = record {
  calls = makes_none g.D.Disk c.args.disk.now 0 0;
  keeps = λ a graph start copies run kept. (run, (λ k d less at. absurd (omega (arith, less))), c.as_slice-kept.ensures.value ∙ kept.kept.spelled, omega arith);
}

pub loop-item-preserved-in_default : goal.loop-item-preserved-in_default
loop-item-preserved-in_default g c =
    let w = c.args.walked.now in
    let k = c.loop-item.item-index in
    let none : Found = record { block = 0; by = 0 } in
    let x : Found = get_or c.deref-item-items.result.now k none in
    let at : slice_get w.walk.found.items k ≡ Some x = item_at c.deref-item-items.result.now w.walk.found.items k none c.deref-item-items.ensures.value c.loop-item-test.true in
    let before = c.loop-item.invariant in
    record {
      calls = makes_then g.D.Disk c.args.disk.now c.loop-item.disk c.loop-item.disk k 1 (k + 1) k 1 (k + 1) before.calls (makes_none g.D.Disk c.loop-item.disk 1 1) (omega arith) (omega arith);
      keeps = λ a graph start copies run kept.
          let were = before.keeps a graph start copies run kept in
          let shown = kept.shown k x at in
          elim (cases_eq (source a x.block) x.block) [
            | inl own ↦ subst (λ (n : ℕ). RunKeeps g.D.Disk (CopiesRoots a graph) start c.loop-item.disk × AreWritten a copies (g.D.Disk.content c.loop-item.disk) n
                × (c.loop-item.kept.now ≡ all_pieces (drop n copies)) × (g.D.Disk.tries c.loop-item.disk ≤ g.D.Disk.tries c.args.disk.now + n))
                (sym (own_next a graph c.args.maps.now w copies kept k x at own)) were
            | inr other ↦
                let next = copy_next a graph c.args.maps.now w copies kept k x at other in
                absurd (none_is c.in_default.is (c.next_copy.ensures.copied a next.copy _ shown other next.block next.named (were.2 ∙ next.pieces) (pieces_anew (drop (copies_before a w.walk.found.items k + 1) copies))).0)
          ];
    }

pub loop-item-preserved : goal.loop-item-preserved
loop-item-preserved g c =
    let w = c.args.walked.now in
    let k = c.loop-item.item-index in
    let none : Found = record { block = 0; by = 0 } in
    let x : Found = get_or c.deref-item-items.result.now k none in
    let at : slice_get w.walk.found.items k ≡ Some x = item_at c.deref-item-items.result.now w.walk.found.items k none c.deref-item-items.ensures.value c.loop-item-test.true in
    let before = c.loop-item.invariant in
    record {
      calls = makes_then g.D.Disk c.args.disk.now c.loop-item.disk c.write_root.new.disk k 1 (k + 1) k 1 (k + 1) before.calls c.in_ok-write_root.ensures.calls (omega arith) (omega arith);
      keeps = λ a graph start copies run kept.
          let were = before.keeps a graph start copies run kept in
          let shown = kept.shown k x at in
          elim (cases_eq (source a x.block) x.block) [
            | inl own ↦ absurd (some_is c.in-Some.is (c.next_copy.ensures.own a shown own))
            | inr other ↦
                let n = copies_before a w.walk.found.items k in
                let next = copy_next a graph c.args.maps.now w copies kept k x at other in
                let found = (c.in-Some.ensures.copied a next.copy _ shown other next.block next.named (were.2 ∙ next.pieces) (pieces_anew (drop (n + 1) copies))).1 in
                let copy : IsCopyOf a graph c.in-Some.copied = subst (IsCopyOf a graph) (sym found.0) (kept.all.each n next.copy next.here) in
                let wrote = c.in_ok-write_root.ensures.keeps a graph start were.0 copy in
                let size = g.met.D.Disk.sized c.loop-item.disk were.0.tells.honest in
                let inside : c.in-Some.copied.block < length (g.D.Disk.content c.loop-item.disk) =
                omega (arith, ap (λ (d : Copied). d.block) found.0, next.block, w.walk.sized.each k x at, w.walk.sized.marks, c.requires.size.held, size, before.calls.same.size) in
                let written = written_more a graph copies (g.D.Disk.content c.loop-item.disk) (g.D.Disk.content c.write_root.new.disk) n c.in-Some.copied kept.all.each were.1 (next.here ∙ ap Some (sym found.0)) c.in_ok-write_root.ensures.written inside in
                subst (λ (m : ℕ). RunKeeps g.D.Disk (CopiesRoots a graph) start c.write_root.new.disk × AreWritten a copies (g.D.Disk.content c.write_root.new.disk) m
                × (c.in-Some.rest.now ≡ all_pieces (drop m copies)) × (g.D.Disk.tries c.write_root.new.disk ≤ g.D.Disk.tries c.args.disk.now + m))
                (sym next.more) (wrote, written, found.1, omega (arith, were.3, c.in_ok-write_root.ensures.calls.tries))
          ];
    }

pub returns-in_err-write_root-clause-leads : goal.returns-in_err-write_root-clause-leads
returns-in_err-write_root-clause-leads g c a graph start copies run kept =
    let w = c.args.walked.now in
    let k = c.loop-item.item-index in
    let none : Found = record { block = 0; by = 0 } in
    let x : Found = get_or c.deref-item-items.result.now k none in
    let at : slice_get w.walk.found.items k ≡ Some x = item_at c.deref-item-items.result.now w.walk.found.items k none c.deref-item-items.ensures.value c.loop-item-test.true in
    let before = c.loop-item.invariant in
    let were = before.keeps a graph start copies run kept in
    let shown = kept.shown k x at in
    elim (cases_eq (source a x.block) x.block) [
      | inl own ↦ absurd (some_is c.in-Some.is (c.next_copy.ensures.own a shown own))
      | inr other ↦
          let n = copies_before a w.walk.found.items k in
          let next = copy_next a graph c.args.maps.now w copies kept k x at other in
          let found = (c.in-Some.ensures.copied a next.copy _ shown other next.block next.named (were.2 ∙ next.pieces) (pieces_anew (drop (n + 1) copies))).1 in
          c.in_err-write_root.ensures.leads a graph start were.0 (subst (IsCopyOf a graph) (sym found.0) (kept.all.each n next.copy next.here))
    ]

pub returns-clause-keeps : goal.returns-clause-keeps
returns-clause-keeps g c a graph start copies run kept =
    let w = c.args.walked.now in
    let were = c.loop-item.invariant.keeps a graph start copies run kept in
    let end : c.loop-item.item-index ≡ length w.walk.found.items = omega (arith, c.loop-item-test.false, c.loop-item.auto.item-index-end, ap length c.deref-item-items.ensures.value) in
    let all : copies_before a w.walk.found.items c.loop-item.item-index ≡ length copies = ap (copies_before a w.walk.found.items) end ∙ sym kept.kept.count in
    (were.0, subst (AreWritten a copies (g.D.Disk.content c.loop-item.disk)) all were.1, omega (arith, were.3, all))

pub returns-clause-leads : goal.returns-clause-leads
returns-clause-leads g c a graph start copies run kept =
    let were = c.loop-item.invariant.keeps a graph start copies run kept in record { content = were.0.content; leaves = were.0.leaves }
