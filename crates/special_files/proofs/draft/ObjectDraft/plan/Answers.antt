use Rattle.std.proofs.Common.{◌-◌, ◌∙◌, ap, ℕ, ◌/◌, ◌+◌, length, sym, subst, arith}
use Rattle.special_files.proofs.Ways.{way_of_none}
use Rattle.block_tree.specs.declared.node.Node.{Node}
use Rattle.special_files.proofs.Words.{IsCutHere, IsTo, Drafting, IsBorder, IsPlan, both_ways, is_full_refusal, last_draft_node, shadow_need, shrink_takes, way_leaves, leaf_pointers}
use Rattle.special_files.proofs.shrink.ShrinkCall.{resize_stopped, call_full}
use Rattle.special_files.proofs.View.{view_tree}
use Rattle.special_files.proofs.WriteLeaf.{goes_stopped, not_full}
use Rattle.special_files.proofs.draft.ObjectDraft.plan.Goals as goal

-- ---- the node couldn't be read

pub returns-in-Err-clause-goes : goal.returns-in-Err-clause-goes
returns-in-Err-clause-goes g c = λ v. goes_stopped c.in-Err.ensures.turns.reads c.in-Err.trouble _ c.from.ensures (c.in-Err.ensures.turns.sound (view_tree v) (way_of_none (g.D.Disk.content c.args.disk.now) c.args.self.now.root c.new-way.result c.new-way.ensures))

pub returns-in-Err-clause-full : goal.returns-in-Err-clause-full
returns-in-Err-clause-full g c = λ v f file full. absurd (both_ways _ (ap is_full_refusal c.from.ensures ∙ not_full c.in-Err.trouble) full)

pub returns-in-Err-clause-calls : goal.returns-in-Err-clause-calls
returns-in-Err-clause-calls g c = resize_stopped c.in-Err.ensures.turns.reads c.args.size c.args.floor c.args.self.now c.args.space.now c.in-Err.trouble _ c.from.ensures (c.in-Err.ensures.turns.refused _)

-- ---- too few blocks are Free

pub returns-in-Err-has_room-clause-full : goal.returns-in-Err-has_room-clause-full
returns-in-Err-has_room-clause-full g c = λ v f file full.
    let was = c.args.self.now in
    let last = c.saturating_sub-last.ensures ∙ ap (λ (t : ℕ). t - 1) c.leaves_in-to.ensures in
    let number = ap (λ (n : ℕ). n / leaf_pointers.count) last in
    let border = subst (λ (t : ℕ). IsBorder (way_leaves c.turn_to.new.way) (last_draft_node c.args.size) t c.border-from.result) c.leaves_in-to.ensures (subst (λ (n : ℕ). IsBorder (way_leaves c.turn_to.new.way) n c.leaves_in-to.result c.border-from.result) number
    (subst (λ (node : Node). IsBorder node.leaves (c.saturating_sub-last.result / leaf_pointers.count) c.leaves_in-to.result c.border-from.result) c.node.ensures c.border-from.ensures)) in
    let plan : IsPlan g.D.Disk c.args.size was c.args.disk.now c.turn_to.new.disk (record { way = c.turn_to.new.way; from = c.border-from.result; cut = c.is_cut-cut.result }) = record {
      reads = c.in-Ok.ensures.turns.reads;
      less = c.requires.less;
      limit = omega (arith, ap (λ (w : Drafting). w.root.size) c.self.view_is, c.self.invariant.3);
      nodes = ap (λ (w : Drafting). length w.nodes) (sym c.self.view_is) ∙ c.self.invariant.2;
      read_is = λ tells. c.in-Ok.ensures.turns.node tells (way_of_none (g.D.Disk.content c.args.disk.now) c.args.self.now.root c.new-way.result c.new-way.ensures);
      safe = c.in-Ok.ensures.turns.safe;
      to = subst (λ (l : ℕ). IsTo l c.turn_to.new.way) last c.in-Ok.ensures.turns.to;
      border = border;
      cuts = subst (λ (node : Node). IsCutHere c.args.size node.leaves c.is_cut-cut.result) c.node-2.ensures c.is_cut-cut.ensures;
    } in
    call_full plan v c.args.floor _ _ (c.need_at-need.ensures ∙ ap (λ (n : ℕ). shrink_takes was c.is_cut-cut.result c.border-from.result (c.args.size / 512) n + shadow_need was) number) c.in-Err-has_room.ensures.full.0 c.in-Err-has_room.ensures.full.1 f file
