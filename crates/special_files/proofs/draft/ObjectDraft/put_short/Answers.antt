use Rattle.std.proofs.Common.{ℕ, ◌%◌, List, refl, sym, ◌∙◌, ap, subst, arith}
use Rattle.block_tree.specs.Along.{CutsRootPast}
use Rattle.block_tree.specs.declared.node.Node.{Node}
use Rattle.special_files.proofs.Words.{IsShortNode, NoBlock, NoWrite, Put, leaf_pointers, way_leaves, slice_index}
use Rattle.special_files.proofs.draft.ObjectDraft.put_short.Goals as goal

pub cut-requires : goal.cut-requires
cut-requires g c = omega (arith, c.requires.here.some, c.args.way.now.good.most)

pub returns-in-Err-clause-puts : goal.returns-in-Err-clause-puts
returns-in-Err-clause-puts g c = NoBlock c.in-Err.error c.in-Err.ensures refl

pub returns-in-Ok-write_own-clause-puts : goal.returns-in-Ok-write_own-clause-puts
returns-in-Ok-write_own-clause-puts g c =
    let cuts = (c.cut.ensures.nodes 0 (omega arith)).last (omega arith) in
    let short : IsShortNode (way_leaves c.args.way.now) (c.args.from % leaf_pointers.count) c.encode.result = record {
      before = λ j less. ap (λ (ns : List ℕ). slice_index ns j) (sym c.encode.ensures.pointers) ∙ ap (λ (n : Node). slice_index n.leaves j) c.node.ensures ∙ cuts.0 j less;
      past = λ j late below. ap (λ (ns : List ℕ). slice_index ns j) (sym c.encode.ensures.pointers) ∙ ap (λ (n : Node). slice_index n.leaves j) c.node.ensures ∙ cuts.1 j late;
    } in
    Put c.node_block.new.disk c.in-Ok.block c.encode.result c.in-Ok.ensures short c.in-Ok-write_own.ensures refl

pub returns-in-Ok-write_own-clause-root : goal.returns-in-Ok-write_own-clause-root
returns-in-Ok-write_own-clause-root g c = subst (λ (n : ℕ). CutsRootPast c.args.root.now n c.in-Ok.block.0 c.cut.new.root) c.requires.here.number_is c.cut.ensures.root

pub returns-in-Err-write_own-clause-puts : goal.returns-in-Err-write_own-clause-puts
returns-in-Err-write_own-clause-puts g c =
    let cuts = (c.cut.ensures.nodes 0 (omega arith)).last (omega arith) in
    let short : IsShortNode (way_leaves c.args.way.now) (c.args.from % leaf_pointers.count) c.encode.result = record {
      before = λ j less. ap (λ (ns : List ℕ). slice_index ns j) (sym c.encode.ensures.pointers) ∙ ap (λ (n : Node). slice_index n.leaves j) c.node.ensures ∙ cuts.0 j less;
      past = λ j late below. ap (λ (ns : List ℕ). slice_index ns j) (sym c.encode.ensures.pointers) ∙ ap (λ (n : Node). slice_index n.leaves j) c.node.ensures ∙ cuts.1 j late;
    } in
    NoWrite c.node_block.new.disk c.in-Ok.block c.encode.result c.in-Err-write_own.error c.in-Ok.ensures short c.in-Err-write_own.ensures refl
