use Rattle.std.proofs.Common.{◌≡◌, ◌≢◌, inl, inr, ℕ, ◌/◌, ◌%◌, length, refl, arith}
use Rattle.std.proofs.lemmas.Result.{IfOk-weaker}
use Rattle.block_tree.specs.Along.{CutsRootPast}
use Rattle.block_tree.specs.Way.{CutsRoot}
use Rattle.block_tree.specs.declared.root.Root as roots
use Rattle.special_files.proofs.Words.{BlockNo, CutsRootAt, Whole, Within, cases_lt, get_or_past, leaf_pointers, node_pointers}
use Rattle.special_files.proofs.draft.ObjectDraft.put_within.Goals as goal

-- cut within a node
cut_within : (from block : ℕ) (old new : roots.Root) → from % leaf_pointers.count ≢ 0 → CutsRootPast old (from / leaf_pointers.count) block new → CutsRootAt from block old new
cut_within from block old new within cuts = record {
  kind = cuts.kind;
  fill = cuts.fill;
  word = cuts.word;
  size = cuts.size;
  before = λ m less. cuts.nodes.1 m (omega (arith, less, within));
  past = λ m over. cuts.nodes.2 m (omega (arith, over, within));
  here = λ any. cuts.nodes.0;
}

-- cut between two nodes
cut_between : (from block : ℕ) (old new : roots.Root) → from % leaf_pointers.count ≡ 0 → length new.nodes ≡ node_pointers.count → CutsRoot old (from / leaf_pointers.count) new → CutsRootAt from block old new
cut_between from block old new whole count cuts = record {
  kind = cuts.kind;
  fill = cuts.fill;
  word = cuts.word;
  size = cuts.size;
  before = λ m less. cuts.before m (omega (arith, less));
  past = λ m over. elim (cases_lt m node_pointers.count) [ inl inside ↦ cuts.past m (omega (arith, over, whole)) inside | inr out ↦ get_or_past new.nodes m 0 (omega (arith, out, count)) ];
  here = λ within. absurd (within whole);
}

pub returns-then-from-eq0-clause-puts : goal.returns-then-from-eq0-clause-puts
returns-then-from-eq0-clause-puts g c = Whole (record { 0 = 0 }) (omega arith) refl refl refl

pub returns-then-from-eq0-clause-root : goal.returns-then-from-eq0-clause-root
returns-then-from-eq0-clause-root g c = cut_between c.args.from 0 c.args.root.now c.cut.result (omega arith) (omega arith) c.cut.ensures.cut

pub returns-clause-puts : goal.returns-clause-puts
returns-clause-puts g c = Within (λ whole. omega (arith, whole)) c.put_short.ensures.puts

pub returns-clause-root : goal.returns-clause-root
returns-clause-root g c =
    IfOk-weaker c.put_short.result (λ (block : BlockNo). CutsRootPast c.args.root.now (c.args.from / leaf_pointers.count) block.0 c.put_short.new.root) (λ (block : BlockNo). CutsRootAt c.args.from block.0 c.args.root.now c.put_short.new.root)
    (λ block. cut_within c.args.from block.0 c.args.root.now c.put_short.new.root (λ whole. omega (arith, whole))) c.put_short.ensures.root
