use Rattle.normal_files.proofs.Words.{◌≡◌, ℕ, ◌%◌, ◌∙◌, true, List, get_or, ap, sym, arith, get_or-set_same, leaf_pointers, node_levels}
use Rattle.block_tree.specs.Path.{no_node}
use Rattle.block_tree.specs.Way.{with_node, with_leaf}
use Rattle.block_tree.specs.declared.node.Node as nodes
use Rattle.block_tree.specs.declared.root.Root as roots
use Rattle.normal_files.specs.Laid.{node_of}
use Rattle.normal_files.specs.Plans.{Plan}
use Rattle.block_tree.specs.Along.{way_node}
use Rattle.normal_files.proofs.Ways.{way_places}
use Rattle.normal_files.proofs.next.Next.with.Goals as goal

pub put-requires : goal.put-requires
put-requires c = let most = c.turn_to.ensures.most node_levels (omega (arith, c.requires.way.whole)) c.requires.way.path in omega (arith, most, c.turn_to.new.self.good.most)

abbrev plan_at : ℕ → nodes.Node → Plan
plan_at block node = record { block = block; node = node; grown = true }

pub returns-clause-plan : goal.returns-clause-plan
returns-clause-plan c = λ n is.
    let leaf = c.args.leaf in
    let x = c.args.taken.leaf in
    let y = c.args.taken.node in
    let places = way_places c.turn_to.new.self leaf c.turn_to.ensures.path in
    let block : node_of c.put.new.root n ≡ y =
    ap (λ (r : roots.Root). node_of r n) c.put.ensures.root ∙ ap (λ (m : ℕ). node_of (with_node c.args.self.root m y) n) (places.0 ∙ sym is)
    ∙ get_or-set_same c.args.self.root.nodes n y 0 (omega (arith, is, c.requires.below)) in
    let node : way_node c.put.new.self ≡ with_leaf (way_node c.args.self.way) (leaf % leaf_pointers.count) x =
    c.put.ensures.nodes 0 (omega arith) ∙ ap (λ (k : ℕ). with_leaf (way_node c.turn_to.new.self) k x) places.1
    ∙ ap (λ (ns : List nodes.Node). with_leaf (get_or ns 0 no_node) (leaf % leaf_pointers.count) x) c.turn_to.ensures.nodes in
    ap (λ (m : ℕ). plan_at m (way_node c.put.new.self)) block ∙ ap (plan_at y) node

pub returns-clause-root : goal.returns-clause-root
returns-clause-root c =
    c.put.ensures.root ∙ ap (λ (m : ℕ). with_node c.args.self.root m c.args.taken.node) (way_places c.turn_to.new.self c.args.leaf c.turn_to.ensures.path).0

pub returns-clause-way : goal.returns-clause-way
returns-clause-way c =
    let most = c.turn_to.ensures.most node_levels (omega (arith, c.requires.way.whole)) c.requires.way.path in
    record { path = λ d less. ap (λ (p : List ℕ). get_or p d 0) (c.put.ensures.path ∙ c.turn_to.ensures.path); whole = omega (arith, c.put.ensures.read, most, c.turn_to.new.self.good.most) }
