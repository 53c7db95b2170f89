use Rattle.std.proofs.Common.{◌≡◌, ℕ, ◌/◌, ◌%◌, get_or, set, sym, ◌∙◌, ap, subst, arith}
use Rattle.block_tree.specs.Way.{with_node}
use Rattle.block_tree.specs.declared.node.Node.{Node}
use Rattle.special_files.proofs.Words.{Drafting, IsTo, WritesDraftBlock, leaf_pointers, way_leaves}
use Rattle.special_files.proofs.Endings.{gets_ends}
use Rattle.special_files.proofs.Ways.{end_is_read, has_node, node_is_safe, to_node, to_place}
use Rattle.special_files.proofs.PutCall.{adopts_adds, adopts_stays, again_call, again_goes, claim_call, claim_goes, first_call, first_goes, gets_below, new_call, new_goes, node_call, node_goes, second_call, second_goes}
use Rattle.special_files.proofs.draft.ObjectDraft.put_leaf.Goals as goal

-- ---- over the draft's own leaf

pub returns-then-has_fresh_leaf-clause-goes : goal.returns-then-has_fresh_leaf-clause-goes
returns-then-has_fresh_leaf-clause-goes g c = λ v is fits.
    again_goes v c.args.way.now c.args.leaf is c.requires.below c.requires.to (sym c.has_fresh_leaf.ensures ∙ c.if-has_fresh_leaf.true) c.write_own.new.disk c.args.content.now fits _ (subst (λ (x : ℕ). WritesDraftBlock g.D.Disk x c.args.content.now c.args.disk.now c.write_own.new.disk c.write_own.result) (c.end.ensures ∙ end_is_read c.args.way.now c.args.leaf c.requires.to) c.write_own.ensures)

pub returns-then-has_fresh_leaf-clause-calls : goal.returns-then-has_fresh_leaf-clause-calls
returns-then-has_fresh_leaf-clause-calls g c =
    again_call c.args.space.now c.args.way.now _ c.args.content.now (sym c.has_fresh_leaf.ensures ∙ c.if-has_fresh_leaf.true) c.requires.to c.requires.safe (subst (λ (x : ℕ). WritesDraftBlock g.D.Disk x c.args.content.now c.args.disk.now c.write_own.new.disk c.write_own.result) (c.end.ensures ∙ end_is_read c.args.way.now c.args.leaf c.requires.to) c.write_own.ensures)

-- ---- a block claimed for the leaf, and one for its node

pub returns-in-Err-clause-goes : goal.returns-in-Err-clause-goes
returns-in-Err-clause-goes g c = λ v is fits. claim_goes v c.args.way.now c.args.leaf is c.requires.below c.requires.to c.claim.new.disk c.claim.new.space _ c.in-Err.ensures

pub returns-in-Err-clause-calls : goal.returns-in-Err-clause-calls
returns-in-Err-clause-calls g c = claim_call c.args.self.now c.args.leaf (sym c.has_fresh_leaf.ensures ∙ c.if-has_fresh_leaf.false) c.args.way.now _ c.in-Err.ensures

pub returns-in-Err-node_block-clause-goes : goal.returns-in-Err-node_block-clause-goes
returns-in-Err-node_block-clause-goes g c = λ v is fits.
    node_goes v c.args.way.now c.args.leaf is c.requires.below c.requires.to c.claim.new.disk c.node_block.new.disk c.claim.new.space c.node_block.new.space c.in-Ok.block c.in-Ok.ensures _ _ c.after_try.ensures c.in-Err-node_block.ensures

pub returns-in-Err-node_block-clause-calls : goal.returns-in-Err-node_block-clause-calls
returns-in-Err-node_block-clause-calls g c =
    node_call c.args.self.now c.args.leaf (sym c.has_fresh_leaf.ensures ∙ c.if-has_fresh_leaf.false) c.args.way.now c.node_block.new.disk c.node_block.new.space c.in-Ok.block c.in-Ok.ensures _ _ c.after_try.ensures c.in-Err-node_block.ensures

-- ---- the leaf written, and the node

pub returns-in-Err-write_own-clause-goes : goal.returns-in-Err-write_own-clause-goes
returns-in-Err-write_own-clause-goes g c = λ v is fits.
    first_goes v c.args.way.now c.args.leaf is c.requires.below c.requires.to c.claim.new.disk c.node_block.new.disk c.claim.new.space c.node_block.new.space c.in-Ok.block c.in-Ok.ensures
    c.in-Ok-node_block.node c.in-Ok-node_block.ensures c.write_own-2.new.disk c.args.content.now _ c.in-Err-write_own.ensures

pub returns-in-Err-write_own-clause-calls : goal.returns-in-Err-write_own-clause-calls
returns-in-Err-write_own-clause-calls g c =
    first_call c.args.self.now c.args.leaf (sym c.has_fresh_leaf.ensures ∙ c.if-has_fresh_leaf.false) c.args.way.now c.node_block.new.disk c.node_block.new.space c.in-Ok.block c.in-Ok.ensures
    c.in-Ok-node_block.node c.in-Ok-node_block.ensures c.write_own-2.new.disk c.args.content.now _ c.in-Err-write_own.ensures

pub returns-in-Err-write_own-2-clause-goes : goal.returns-in-Err-write_own-2-clause-goes
returns-in-Err-write_own-2-clause-goes g c = λ v is fits.
    second_goes v c.args.way.now c.args.leaf is c.requires.below c.requires.to c.claim.new.disk c.node_block.new.disk c.claim.new.space c.node_block.new.space c.in-Ok.block c.in-Ok.ensures
    c.in-Ok-node_block.node c.in-Ok-node_block.ensures c.write_own-2.new.disk c.args.content.now c.in-Ok-write_own.ensures c.write_own-3.new.disk c.encode.result _ c.in-Err-write_own-2.ensures

pub returns-in-Err-write_own-2-clause-calls : goal.returns-in-Err-write_own-2-clause-calls
returns-in-Err-write_own-2-clause-calls g c =
    second_call c.args.self.now c.args.leaf (sym c.has_fresh_leaf.ensures ∙ c.if-has_fresh_leaf.false) _ c.node_block.new.disk c.node_block.new.space c.in-Ok.block c.in-Ok.ensures
    c.in-Ok-node_block.node c.in-Ok-node_block.ensures c.write_own-2.new.disk c.args.content.now c.in-Ok-write_own.ensures c.write_own-3.new.disk c.encode.result _ c.in-Err-write_own-2.ensures

pub write_own-requires-3 : goal.write_own-requires-3
write_own-requires-3 g c =
    let below = node_is_safe (g.D.Disk.blocks c.args.disk.now) c.args.self.now.root c.args.way.now (c.args.leaf / leaf_pointers.count) (has_node c.args.way.now c.args.leaf c.requires.to) c.requires.safe in
    let first = c.in-Ok.ensures.calls.same.size in
    let second = (gets_ends c.in-Ok-node_block.ensures).calls.same.size in
    omega (arith, gets_below g.D.Disk (c.args.leaf / leaf_pointers.count) c.claim.new.disk c.node_block.new.disk c.claim.new.space c.node_block.new.space c.args.self.now c.in-Ok-node_block.node (omega (arith, below, first)) c.in-Ok-node_block.ensures, second, c.in-Ok-write_own.ensures.calls.same.size)

pub returns-clause-goes : goal.returns-clause-goes
returns-clause-goes g c = λ v is fits.
    let leaf = c.args.leaf in
    let way = c.args.way.now in
    let next = c.put.new.self in
    let block = c.in-Ok.block.0 in
    let node = c.in-Ok-node_block.node.0 in
    let next_to : IsTo leaf next = record { path = c.put.ensures.path ∙ c.requires.to.path; whole = c.put.ensures.read ∙ c.requires.to.whole } in
    let put : way_leaves next ≡ set (way_leaves way) (leaf % leaf_pointers.count) block = ap (λ (n : Node). n.leaves) (c.put.ensures.nodes 0 (omega arith)) ∙ ap (λ (k : ℕ). set (way_leaves way) k block) (to_place way leaf c.requires.to) in
    let root : c.put.new.root ≡ with_node c.args.self.now.root (leaf / leaf_pointers.count) node = c.put.ensures.root ∙ ap (λ (w : Drafting). with_node w.root (get_or way.path 0 0) node) c.self.view_is ∙ ap (λ (n : ℕ). with_node c.args.self.now.root n node) (to_node way leaf c.requires.to) in
    let pointers = sym put ∙ ap (λ (n : Node). n.leaves) (sym c.node.ensures) ∙ c.encode.ensures.pointers in
    new_goes v way leaf is c.requires.below c.requires.to c.claim.new.disk c.node_block.new.disk c.claim.new.space c.node_block.new.space c.in-Ok.block c.in-Ok.ensures
    c.in-Ok-node_block.node c.in-Ok-node_block.ensures c.write_own-2.new.disk c.args.content.now c.in-Ok-write_own.ensures c.write_own-3.new.disk c.encode.result
    (sym c.has_fresh_leaf.ensures ∙ c.if-has_fresh_leaf.false) c.add.new.self next next_to put c.in-Ok-write_own-2.ensures pointers (adopts_stays node c.add.ensures root) (adopts_adds c.add.ensures root) fits

pub returns-clause-calls : goal.returns-clause-calls
returns-clause-calls g c =
    let leaf = c.args.leaf in
    let way = c.args.way.now in
    let next = c.put.new.self in
    let block = c.in-Ok.block.0 in
    let node = c.in-Ok-node_block.node.0 in
    let next_to : IsTo leaf next = record { path = c.put.ensures.path ∙ c.requires.to.path; whole = c.put.ensures.read ∙ c.requires.to.whole } in
    let put : way_leaves next ≡ set (way_leaves way) (leaf % leaf_pointers.count) block = ap (λ (n : Node). n.leaves) (c.put.ensures.nodes 0 (omega arith)) ∙ ap (λ (k : ℕ). set (way_leaves way) k block) (to_place way leaf c.requires.to) in
    let root : c.put.new.root ≡ with_node c.args.self.now.root (leaf / leaf_pointers.count) node = c.put.ensures.root ∙ ap (λ (w : Drafting). with_node w.root (get_or way.path 0 0) node) c.self.view_is ∙ ap (λ (n : ℕ). with_node c.args.self.now.root n node) (to_node way leaf c.requires.to) in
    new_call c.args.self.now leaf (sym c.has_fresh_leaf.ensures ∙ c.if-has_fresh_leaf.false) way c.node_block.new.disk c.node_block.new.space c.in-Ok.block c.in-Ok.ensures
    c.in-Ok-node_block.node c.in-Ok-node_block.ensures c.write_own-2.new.disk c.args.content.now c.in-Ok-write_own.ensures c.write_own-3.new.disk c.encode.result
    c.add.new.self next c.requires.safe c.requires.to next_to put c.in-Ok-write_own-2.ensures (adopts_stays node c.add.ensures root) (adopts_adds c.add.ensures root)
