use Rattle.std.proofs.Common.{◌≡◌, ◌+◌, ◌<◌, ℕ, List, length, get_or, take, refl, sym, ◌∙◌, ap, subst, arith}
use Rattle.block_tree.proofs.Words.{All, Image, Node, length-take, node_levels, reads_then, reads_within, tells_on}
use Rattle.cfs_base.proofs.Went.{reads_none}
use Rattle.block_tree.proofs.Descents.{HasTop, last_below, leaf_on, length-path, on_way, way_trouble_after}
use Rattle.block_tree.specs.Along.{IsTopWithin, IsWay, IsWayWithin, pointer_on}
use Rattle.block_tree.specs.Path.{SamePlaces, no_node}
use Rattle.block_tree.specs.Reads.{IsNear}
use Rattle.block_tree.proofs.along.Way.get.Goals as goal

pub loop-depth-init : goal.loop-depth-init
loop-depth-init g c = record {
  read = refl;
  path = c.turn.ensures.path ∙ c.path_of.ensures.path;
  within = λ d less. subst (λ (ns : List Node). All (λ n. n < g.D.Disk.blocks c.args.disk.now) (get_or ns d no_node).leaves) (sym c.turn.ensures.nodes) (c.requires.within d (omega (arith, less, c.turn.ensures.less)));
  way = λ tells is. is;
  top = λ is. is;
  reads = reads_none g.D.Disk _ c.args.disk.now;
}

pub loop-depth-preserved : goal.loop-depth-preserved
loop-depth-preserved g c =
    let d = c.args.disk.now in
    let mid = c.loop-depth.disk in
    let before = c.loop-depth.invariant in
    let done = c.in-Ok.ensures in
    let size = before.reads.same.size in
    record {
      read = done.read ∙ ap (λ (n : ℕ). n + 1) before.read;
      path = done.path ∙ before.path;
      within = subst (λ (n : ℕ). IsWayWithin n c.go_down.new.self) size done.within;
      way = λ tells is.
          let was = before.way tells is in
          subst (λ (i : Image). IsWay i c.args.root.now c.go_down.new.self) before.reads.content
          (done.way (tells_on g.D.Disk d mid mid _ before.reads tells) (subst (λ (i : Image). IsWay i c.args.root.now c.loop-depth.self) (sym before.reads.content) was));
      top = λ is. subst (λ (n : ℕ). IsTopWithin n c.args.root.now c.go_down.new.self) size (done.top_within (subst (λ (n : ℕ). IsTopWithin n c.args.root.now c.loop-depth.self) (sym size) (before.top is)));
      reads = reads_then g.D.Disk d mid c.go_down.new.disk _ 1 _ before.reads done.reads (omega (arith, c.loop-depth.auto.depth));
    }

pub returns-in-Err-clause-refused : goal.returns-in-Err-clause-refused
returns-in-Err-clause-refused g c = way_trouble_after g.D.Disk c.args.at.0 c.args.root.now c.args.disk.now c.loop-depth.disk c.go_down.new.disk _ c.in-Err.trouble c.loop-depth.invariant.reads c.in-Err.ensures.refused

pub returns-in-Err-clause-within : goal.returns-in-Err-clause-within
returns-in-Err-clause-within g c = subst (λ (n : ℕ). IsWayWithin n c.go_down.new.self) c.loop-depth.invariant.reads.same.size c.in-Err.ensures.within

pub returns-in-Err-clause-top : goal.returns-in-Err-clause-top
returns-in-Err-clause-top g c is =
    let before = c.loop-depth.invariant in
    let size = before.reads.same.size in
    subst (λ (n : ℕ). IsTopWithin n c.args.root.now c.go_down.new.self) size
    (c.in-Err.ensures.top_within (subst (λ (n : ℕ). IsTopWithin n c.args.root.now c.loop-depth.self) (sym size) (before.top (c.turn.ensures.top (g.D.Disk.blocks c.args.disk.now) c.args.root.now is))))

pub returns-in-Err-clause-way : goal.returns-in-Err-clause-way
returns-in-Err-clause-way g c tells is =
    let before = c.loop-depth.invariant in
    subst (λ (i : Image). IsWay i c.args.root.now c.go_down.new.self) before.reads.content
    (c.in-Err.ensures.way (tells_on g.D.Disk c.args.disk.now c.loop-depth.disk c.loop-depth.disk _ before.reads tells) (subst (λ (i : Image). IsWay i c.args.root.now c.loop-depth.self) (sym before.reads.content) (before.way tells (c.turn.ensures.way (g.D.Disk.content c.args.disk.now) c.args.root.now is))))

pub returns-in-Err-clause-sound : goal.returns-in-Err-clause-sound
returns-in-Err-clause-sound g c tells is near =
    let image = g.D.Disk.content c.args.disk.now in
    let before = c.loop-depth.invariant in
    let way = c.loop-depth.self in
    let was = before.way tells (c.turn.ensures.way image c.args.root.now is) in
    let top : HasTop c.args.root.now way = record { count = omega arith; long = ap length before.path ∙ length-path c.args.leaf; place = way.good.places.top; small = c.in-Err.ensures.top } in
    let less : way.read < node_levels = omega (arith, before.read, c.loop-depth-test.true) in
    let here = on_way image c.args.root.now way top was way.read (omega arith) (omega (arith, less)) in
    let deep = near (take (way.read + 1) way.path) (omega (arith, length-take (way.read + 1) way.path, less)) in
    c.in-Err.ensures.sound (tells_on g.D.Disk c.args.disk.now c.loop-depth.disk c.loop-depth.disk _ before.reads tells)
    (subst (λ (size : ℕ). IsNear size (g.D.Disk.content c.loop-depth.disk) (pointer_on c.args.root.now way way.read)) (sym before.reads.same.size)
    (subst (λ (i : Image). IsNear (g.D.Disk.blocks c.args.disk.now) i (pointer_on c.args.root.now way way.read)) (sym before.reads.content)
    (subst (IsNear (g.D.Disk.blocks c.args.disk.now) image) (sym here) deep)))

pub returns-in-Err-clause-reads : goal.returns-in-Err-clause-reads
returns-in-Err-clause-reads g c n most same =
    let from = c.turn.ensures.most n most (subst (SamePlaces n c.args.self.now.path) (sym c.path_of.ensures.path) same) in
    reads_then g.D.Disk c.args.disk.now c.loop-depth.disk c.go_down.new.disk _ 1 _ c.loop-depth.invariant.reads c.in-Err.ensures.reads (omega (arith, from, c.loop-depth-test.true, c.loop-depth.auto.depth))

pub returns-clause-block : goal.returns-clause-block
returns-clause-block g c tells is =
    let image = g.D.Disk.content c.args.disk.now in
    let before = c.loop-depth.invariant in
    let way = c.loop-depth.self in
    let top : HasTop c.args.root.now way = record { count = omega arith; long = ap length before.path ∙ length-path c.args.leaf; place = way.good.places.top; small = c.pointer.ensures.top } in
    let whole : way.read ≡ node_levels = omega (arith, before.read, c.loop-depth-test.false, way.good.most, c.loop-depth.auto.depth) in
    c.pointer.ensures.pointer ∙ leaf_on image c.args.root.now way c.args.leaf top (before.way tells (c.turn.ensures.way image c.args.root.now is)) (record { path = before.path; whole = whole })

pub returns-clause-way : goal.returns-clause-way
returns-clause-way g c tells is = c.loop-depth.invariant.way tells (c.turn.ensures.way (g.D.Disk.content c.args.disk.now) c.args.root.now is)

pub returns-clause-top : goal.returns-clause-top
returns-clause-top g c is = c.loop-depth.invariant.top (c.turn.ensures.top (g.D.Disk.blocks c.args.disk.now) c.args.root.now is)

pub returns-clause-to : goal.returns-clause-to
returns-clause-to g c = record { path = c.loop-depth.invariant.path; whole = omega (arith, c.loop-depth.invariant.read, c.loop-depth-test.false, c.loop-depth.self.good.most, c.loop-depth.auto.depth) }

pub returns-clause-there : goal.returns-clause-there
returns-clause-there g c =
    let whole : c.loop-depth.self.read ≡ node_levels = omega (arith, c.loop-depth.invariant.read, c.loop-depth-test.false, c.loop-depth.self.good.most, c.loop-depth.auto.depth) in
    subst (λ (n : ℕ). n < g.D.Disk.blocks c.args.disk.now) (sym c.pointer.ensures.pointer) (last_below (g.D.Disk.blocks c.args.disk.now) c.args.root.now c.loop-depth.self c.loop-depth.invariant.within c.requires.some whole)

pub returns-clause-within : goal.returns-clause-within
returns-clause-within g c = c.loop-depth.invariant.within

pub returns-clause-reads : goal.returns-clause-reads
returns-clause-reads g c n most same =
    let from = c.turn.ensures.most n most (subst (SamePlaces n c.args.self.now.path) (sym c.path_of.ensures.path) same) in
    reads_within g.D.Disk c.args.disk.now c.loop-depth.disk _ _ (omega (arith, from, c.loop-depth.auto.depth, c.loop-depth.invariant.read, c.loop-depth.self.good.most)) c.loop-depth.invariant.reads
