use Rattle.std.proofs.Common.{◌+◌, ◌<◌, ℕ, length, refl, sym, ◌∙◌, ap, subst, arith}
use Rattle.block_tree.proofs.Words.{All, leaves_at}
use Rattle.block_tree.proofs.Descents.{each_node, good_more, more_read, read_more, way_trouble}
use Rattle.block_tree.specs.Reads.{IsNear, IsNodeTrouble}
use Rattle.block_tree.proofs.along.Way.go_down.Goals as goal

pub returns-in-Err-clause-refused : goal.returns-in-Err-clause-refused
returns-in-Err-clause-refused g c =
    way_trouble g.D.Disk c.args.at.0 c.args.root.now c.args.self.now c.holder-holder.result.0 c.args.self.now.read c.args.disk.now c.read_node.new.disk c.in-Err.trouble (omega arith) c.requires.within c.requires.some c.holder-holder.ensures
    (subst (λ (b : ℕ). IsNodeTrouble g.D.Disk b c.holder-holder.result.0 c.args.disk.now c.read_node.new.disk c.in-Err.trouble) c.pointer-block.ensures.pointer c.in-Err.ensures.refused)

pub returns-in-Err-clause-sound : goal.returns-in-Err-clause-sound
returns-in-Err-clause-sound g c tells near = c.in-Err.ensures.sound tells (subst (IsNear (g.D.Disk.blocks c.args.disk.now) (g.D.Disk.content c.args.disk.now)) (sym c.pointer-block.ensures.pointer) near)

pub invariant_of-self : goal.invariant_of-self
invariant_of-self g c = record { good = good_more c.args.self.now c.in-Ok.node c.in-Ok.ensures.good (omega (arith, c.requires.more)) (omega (arith, c.requires.more)) }

pub returns-clause-way : goal.returns-clause-way
returns-clause-way g c tells is =
    let old = c.args.self.now in
    let image = g.D.Disk.content c.args.disk.now in
    let inside : old.read < length old.nodes = omega (arith, c.requires.more) in
    read_more c.args.root.now old (more_read old c.in-Ok.node (good_more old c.in-Ok.node c.in-Ok.ensures.good c.requires.more inside)) c.in-Ok.node refl refl inside image refl
    (c.in-Ok.ensures.node tells ∙ ap (leaves_at image) c.pointer-block.ensures.pointer) is

pub returns-clause-within : goal.returns-clause-within
returns-clause-within g c =
    let old = c.args.self.now in
    let inside : old.read < length old.nodes = omega (arith, c.requires.more) in
    each_node c.args.root.now old (more_read old c.in-Ok.node (good_more old c.in-Ok.node c.in-Ok.ensures.good c.requires.more inside)) c.in-Ok.node refl refl inside
    (λ n. All (λ leaf. leaf < g.D.Disk.blocks c.args.disk.now) n.leaves) (old.read + 1) c.in-Ok.ensures.leaves (λ d less other. c.requires.within d (omega (arith, less, other)))
