use Rattle.std.proofs.Common.{◌≡◌, ◌*◌, ◌∙◌, sym, subst, arith, rules, inl, inr, refl}
use Rattle.special_files.proofs.Words.{Image, IsNear, pointer_to_node, roots_top, nodes_top}
use Rattle.block_tree.specs.declared.root.Root as roots
use Rattle.special_files.proofs.changed.ChangedRun.{ListedTo, both_near, listed_all, listed_none, listed_then, still_tells}
use Rattle.special_files.proofs.Refusals.{trouble_after_reads, trouble_as}
use Rattle.special_files.proofs.changed.changed.Goals as goal

pub loop-number-init : goal.loop-number-init
loop-number-init g c = listed_none g.D.Disk c.args.own.now c.args.root.now c.args.disk.now c.clear.new.self c.clear-2.new.self c.clear.ensures c.clear-2.ensures (search rules)

pub returns-in-Err-clause-refused : goal.returns-in-Err-clause-refused
returns-in-Err-clause-refused g c = λ kept.
    trouble_after_reads g.D.Disk (roots_top c.args.at.0 c.args.own.now c.args.root.now) c.args.disk.now c.loop-number.disk c.add_changed.new.disk kept (2 * c.loop-number.number) c.in-Err.trouble c.loop-number.invariant.reads
    (trouble_as g.D.Disk (nodes_top c.args.at.0 (pointer_to_node c.args.own.now c.loop-number.number) (pointer_to_node c.args.root.now c.loop-number.number)) (roots_top c.args.at.0 c.args.own.now c.args.root.now) refl c.loop-number.disk c.add_changed.new.disk kept
    (λ far. elim far [ inl past ↦ inl (c.loop-number.number, past) | inr past ↦ inr (c.loop-number.number, past) ]) c.in-Err.trouble (c.in-Err.ensures.refused kept))

pub returns-in-Err-clause-sound : goal.returns-in-Err-clause-sound
returns-in-Err-clause-sound g c = λ space was v own root.
    let d0 = c.args.disk.now in
    let d1 = c.loop-number.disk in
    let inv = c.loop-number.invariant in
    let size = g.met.D.Disk.sized d0 v.store.carries.tells.honest ∙ sym inv.reads.same.size in
    let near = both_near g.D.Disk v.graph v.ds space v.id v.object was v.draft d0 v.store v.at v.opened (g.D.Disk.blocks d1) c.loop-number.number size (omega (arith, c.requires, inv.reads.same.size)) in
    let now : (r : roots.Root) → IsNear (g.D.Disk.blocks d1) (g.D.Disk.content d0) (pointer_to_node r c.loop-number.number) → IsNear (g.D.Disk.blocks d1) (g.D.Disk.content d1) (pointer_to_node r c.loop-number.number) =
    λ r is. subst (λ (i : Image). IsNear (g.D.Disk.blocks d1) i (pointer_to_node r c.loop-number.number)) (sym inv.reads.content) is in
    let at_root : (r s : roots.Root) → r ≡ s → IsNear (g.D.Disk.blocks d1) (g.D.Disk.content d0) (pointer_to_node r c.loop-number.number) → IsNear (g.D.Disk.blocks d1) (g.D.Disk.content d1) (pointer_to_node s c.loop-number.number) =
    λ r s same is. now s (subst (λ (t : roots.Root). IsNear (g.D.Disk.blocks d1) (g.D.Disk.content d0) (pointer_to_node t c.loop-number.number)) same is) in
    c.in-Err.ensures.sound (still_tells g.D.Disk c.args.own.now c.args.root.now c.loop-number.number d0 d1 c.loop-number.taken c.loop-number.dropped inv v.store.carries.tells)
    (at_root was.own c.args.own.now own near.0) (at_root was.root c.args.root.now root near.1)

pub loop-number-preserved : goal.loop-number-preserved
loop-number-preserved g c =
    listed_then g.D.Disk c.args.own.now c.args.root.now c.loop-number.number c.args.disk.now c.loop-number.disk c.loop-number.taken c.loop-number.dropped c.loop-number.invariant
    c.add_changed.new.disk c.add_changed.new.taken c.add_changed.new.dropped c.in-Ok.ensures.reads c.in-Ok.ensures.takes c.in-Ok.ensures.drops c.in-Ok.ensures.taken c.in-Ok.ensures.dropped

pub returns-clause-changed : goal.returns-clause-changed
returns-clause-changed g c = λ space was v own root.
    let d0 = c.args.disk.now in
    let ends = c.loop-number.invariant in
    let one = subst (λ (r : roots.Root). ListedTo g.D.Disk r c.args.root.now c.loop-number.number d0 c.loop-number.disk c.loop-number.taken c.loop-number.dropped) (sym own) ends in
    let two = subst (λ (r : roots.Root). ListedTo g.D.Disk was.own r c.loop-number.number d0 c.loop-number.disk c.loop-number.taken c.loop-number.dropped) (sym root) one in
    listed_all g.D.Disk v.graph v.ds space v.id v.object was v.draft d0 v.store v.at v.opened c.loop-number.number c.loop-number.disk c.loop-number.taken c.loop-number.dropped two (omega (arith, c.loop-number-test.false, c.loop-number.auto.number-end))
