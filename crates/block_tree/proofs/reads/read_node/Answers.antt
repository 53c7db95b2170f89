use Rattle.std.proofs.Common.{List, length, ℕ, ◌<◌, ◌^◌, get_or, sym, ◌∙◌, ap, subst, arith}
use Rattle.std.proofs.lemmas.List.{length-replicate}
use Rattle.block_tree.proofs.Words.{All, All-replicate, leaf_pointers, pointers_of}
use Rattle.block_tree.proofs.Nodes.{leaves_there}
use Rattle.block_tree.proofs.reads.read_node.Goals as goal

pub returns-then-block-eq0-clause-leaves : goal.returns-then-block-eq0-clause-leaves
returns-then-block-eq0-clause-leaves g c = subst (All (λ n. n < g.D.Disk.blocks c.args.disk.now)) (sym c.empty.ensures) (All-replicate (λ n. n < g.D.Disk.blocks c.args.disk.now) leaf_pointers.count 0 c.requires)

pub returns-then-leads_past-clause-sound : goal.returns-then-leads_past-clause-sound
returns-then-leads_past-clause-sound g c = λ tells near.
    let past = c.leads_past.ensures.past c.if-leads_past.true in
    let content = c.in-Ok.ensures.bytes (tells.told c.args.block) in
    let same = c.decode-node.ensures.pointers ∙ ap (pointers_of leaf_pointers) content ∙ sym (leaves_there (g.D.Disk.content c.args.disk.now) c.args.block c.if-block-eq0.false) in
    let below : get_or c.decode-node.result.leaves past.0 0 < g.D.Disk.blocks c.args.disk.now = subst (λ (ns : List ℕ). get_or ns past.0 0 < g.D.Disk.blocks c.args.disk.now) (sym same) (near.leaves past.0) in
    absurd (omega (arith, past.1, below))

pub returns-then-block-eq0-clause-count : goal.returns-then-block-eq0-clause-count
returns-then-block-eq0-clause-count g c = ap (length {A = ℕ}) c.empty.ensures ∙ length-replicate {A = ℕ} leaf_pointers.count 0

pub returns-then-block-eq0-clause-good : goal.returns-then-block-eq0-clause-good
returns-then-block-eq0-clause-good g c = record {
  count = returns-then-block-eq0-clause-count g c;
  fit = subst (All (λ n. n < 2 ^ 32)) (sym c.empty.ensures) (All-replicate (λ n. n < 2 ^ 32) leaf_pointers.count 0 (omega arith));
}
