use Rattle.std.proofs.Common.{◌∙◌, ◌+◌, ◌++◌, ◌≤◌, ℕ, List, ap, ap₂, arith, count_by, length, map, sym}
use Rattle.collector_steps.proofs.Words.{MapEntry, append-nil, drop_all, goes, swept, take_all}
use Rattle.collector_steps.proofs.Maps.{next_swept, none_more, one_more, whole}
use Rattle.collector_steps.proofs.sweep.sweep_map.Goals.{then-sweep_entry, else-sweep_entry}
use Rattle.collector_steps.proofs.sweep.sweep_map.Goals as goal

pub loop-place-preserved : goal.loop-place-preserved
loop-place-preserved c =
    let directory = c.args.directory.now.named in
    let f = swept directory c.args.pass in
    let p = goes directory c.args.pass in
    let xs = c.args.map.now in
    let before = c.loop-place.invariant in
    let room = c.sweep_entry.ensures.map.long in
    record {
      so_far = c.sweep_entry.ensures.swept ∙ next_swept f p xs c.loop-place.map c.loop-place.place before.so_far room c.loop-place-test.true;
      count = elim c.if-sweep_entry.branch [
        | then-sweep_entry w ↦ w.freed-is ∙ ap (λ (n : ℕ). n + 1) before.count ∙ sym (one_more f p xs c.loop-place.map c.loop-place.place before.so_far room c.loop-place-test.true (sym c.sweep_entry.ensures.goes ∙ w.if-sweep_entry.true))
        | else-sweep_entry w ↦ w.freed-is ∙ before.count ∙ sym (none_more f p xs c.loop-place.map c.loop-place.place before.so_far room c.loop-place-test.true (sym c.sweep_entry.ensures.goes ∙ w.if-sweep_entry.false))
      ];
      few = elim c.if-sweep_entry.branch [
        | then-sweep_entry w ↦ omega (arith, w.freed-is, before.few)
        | else-sweep_entry w ↦ omega (arith, w.freed-is, before.few)
      ];
      long = λ some. whole f p xs c.loop-place.map c.loop-place.place before.so_far room c.loop-place-test.true;
    }

-- all 64
all : (c : goal.After-loop-place) → length c.args.map.now ≤ c.loop-place.place
all c = omega (arith, c.loop-place-test.false, c.loop-place.invariant.long (omega (arith, c.loop-place-test.false)))

pub returns-clause-swept : goal.returns-clause-swept
returns-clause-swept c =
    let f = swept c.args.directory.now.named c.args.pass in
    c.loop-place.invariant.so_far
    ∙ ap₂ (λ (front back : List MapEntry). map f front ++ back) (take_all c.loop-place.place c.args.map.now (all c)) (drop_all c.loop-place.place c.args.map.now (all c))
    ∙ append-nil (map f c.args.map.now)

pub returns-clause-count : goal.returns-clause-count
returns-clause-count c = c.loop-place.invariant.count ∙ ap (count_by (goes c.args.directory.now.named c.args.pass)) (take_all c.loop-place.place c.args.map.now (all c))
