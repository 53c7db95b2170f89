use Rattle.intentions.proofs.Reading.{store_reads}
use Rattle.intentions.proofs.Shown.{root_tree, shown_tells}
use Rattle.index_ops.proofs.Words.{ℕ, ◌/◌, ◌%◌, sym, ◌∙◌, ap, List, slot_in}
use Rattle.index_ops.proofs.Indices.{leaf_sound, slot_is}
use Rattle.cfs_base.proofs.Passed.{passed}
use Rattle.index_ops.specs.Reads.{FindsIn}
use Rattle.index_ops.proofs.reading.retrieve.Goals as goal

pub returns-clause-finds : goal.returns-clause-finds
returns-clause-finds g c = λ v i is rooted. record {
  found = λ inside.
      let d = c.args.disk.now in
      let tells = shown_tells v.shown in
      let root = c.args.root.now in
      c.slot_at.ensures ∙ ap (λ (b : List ℕ). slot_in b (c.args.slot % 64)) (c.in_ok-content.ensures.bytes tells)
      ∙ slot_is (g.D.Disk.content d) v.id.block v.object root (root_tree v.shown root rooted) i is (g.met.D.Disk.of_blocks d tells.honest) c.args.slot inside;
  sound = tt;
}

pub returns-clause-store : goal.returns-clause-store
returns-clause-store g c = λ graph ds space store. store_reads g.D.Disk graph c.args.disk.now c.leaf_content.new.disk space 2 c.leaf_content.ensures.reads ds space.left store

pub returns-in_err-content-clause-finds : goal.returns-in_err-content-clause-finds
returns-in_err-content-clause-finds g c = λ v i is rooted. passed (FindsIn i c.args.slot) _ _ c.from_residual.ensures.1 (record {
  found = λ inside. tt;
  sound = leaf_sound v (sym (g.met.D.Disk.sized c.args.disk.now (shown_tells v.shown).honest)) c.args.root.now rooted (c.args.slot / 64) c.leaf_content.new.disk c.in_err-content.field-0.0 c.in_err-content.ensures.refused;
})

pub returns-in_err-content-clause-store : goal.returns-in_err-content-clause-store
returns-in_err-content-clause-store g c = λ graph ds space store. store_reads g.D.Disk graph c.args.disk.now c.leaf_content.new.disk space 2 c.leaf_content.ensures.reads ds space.left store
