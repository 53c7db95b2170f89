use Rattle.std.proofs.Common.{suc, set, ap, sym, [], ◌∷◌, ◌++◌, ◌∙◌, ◌≡◌, arith}
use Rattle.std.specs.Fmt.{decimal}
use Rattle.std.specs.Prelude.{codes, replicate}
use Rattle.cfs_workload.specs.declared.act.Left.TheVariants.{Nothing}
use Rattle.cfs_workload.specs.Workload.{lines_from}
use Rattle.std.proofs.lemmas.List.{append-nil, append_assoc}
use Rattle.cfs_workload.proofs.Lines.{one_more}
use Rattle.cfs_workload.proofs.session.script.Goals as goal

pub lines-init : goal.lines-init
lines-init c n all =
    let first = rw c.in_ok-first.was at c.format.ensures.ok in
    let text = c.in_ok-text.ensures.items ∙ c.as_bytes.ensures.value ∙ first in
    let count : n ≡ c.args.count = omega (arith, all) in
    rw (c.in_ok-push.ensures.items, text, count) (append_assoc (codes "create-index top 64 root " ++ decimal c.args.session) (10 ∷ []) (lines_from c.args.seed c.args.session 0 c.args.count (replicate 64 Nothing)))

pub lines-preserved : goal.lines-preserved
lines-preserved c n all =
    let line = c.as_bytes-in-lines.ensures.value ∙ (rw c.in_ok-line.was at c.line_of.ensures) in
    let text = rw c.in_ok-extend_from_slice.was at c.extend_from_slice.ensures.items in
    let more = one_more c.args.seed c.args.session c.lines.place n c.lines.left (set c.lines.left c.slot_in-slot.result c.left_after.result)
    c.lines.text.items c.as_bytes-in-lines.result.now c.word_of-word.result c.slot_in-slot.result c.act_of-act.result c.word_of-word.ensures
    c.slot_in-slot.ensures.slot c.act_of-act.ensures (rw (← c.size_in.ensures) line) (ap (set c.lines.left c.slot_in-slot.result) c.left_after.ensures) in
    rw (c.in_ok-push-2.ensures.items, text) (more ∙ c.lines.invariant (suc n) (omega (arith, all)))

pub returns : goal.returns
returns c = sym (append-nil c.lines.text.items) ∙ c.lines.invariant 0 (omega (arith, c.lines.auto.place-end, c.lines-test.false))
