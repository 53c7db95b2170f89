use Rattle.std.proofs.Common.{subst, sym, ◌*◌, ◌-◌, ◌/◌, arith, rules}
use Rattle.intentions.proofs.Reading.{store_reads}
use Rattle.cfs_base.proofs.Passed.{is_passed}
use Rattle.special_files.proofs.read.ReadLeaves.{read_then, read_whole}
use Rattle.special_files.proofs.Refusals.{trouble_after_reads}
use Rattle.special_files.proofs.View.{seen_tree, tree_reads}
use Rattle.special_files.proofs.draft.ObjectDraft.read.Goals as goal
use Rattle.special_files.proofs.Words.{Image, IsRead, top_of}

-- ---- a leaf couldn't be read

pub returns-in_err-content-clause-reads : goal.returns-in_err-content-clause-reads
returns-in_err-content-clause-reads g c = λ v. rw (is_passed _ _ c.from_residual.ensures.1) (record {
  bytes = λ f file. tt;
  sound = (let reads = c.loop-leaf.invariant.reads in
      c.in_err-content.ensures.turns.sound (tree_reads (seen_tree v) reads) (subst (λ (i : Image). IsRead i c.args.self.now c.loop-leaf.way) (sym reads.content) (c.loop-leaf.invariant.told (seen_tree v)).0));
})

pub returns-in_err-content-clause-call : goal.returns-in_err-content-clause-call
returns-in_err-content-clause-call g c = rw (is_passed _ _ c.from_residual.ensures.1) (record {
  refused = λ kept.
      trouble_after_reads g.D.Disk (top_of c.args.self.now) c.args.disk.now c.loop-leaf.disk c.leaf_bytes.new.disk kept (2 * (c.loop-leaf.leaf - c.args.offset / 512)) c.in_err-content.field-0.0 c.loop-leaf.invariant.reads (c.in_err-content.ensures.turns.refused kept);
  untried = c.in_err-content.ensures.turns.untried;
  reads = search rules;
})

pub returns-in_err-content-clause-store : goal.returns-in_err-content-clause-store
returns-in_err-content-clause-store g c = λ graph ds space store.
    store_reads g.D.Disk graph c.loop-leaf.disk c.leaf_bytes.new.disk space 2 c.in_err-content.ensures.turns.reads ds space.left
    (store_reads g.D.Disk graph c.args.disk.now c.loop-leaf.disk space (2 * (c.loop-leaf.leaf - c.args.offset / 512)) c.loop-leaf.invariant.reads ds space.left store)

-- ---- leaf after leaf

pub loop-leaf-preserved : goal.loop-leaf-preserved
loop-leaf-preserved g c =
    read_then g.D.Disk c.args.self.now c.args.offset c.loop-leaf.leaf c.args.into.now c.args.disk.now c.loop-leaf.disk c.loop-leaf.way c.loop-leaf.into c.loop-leaf.invariant
    c.leaf_bytes.new.disk c.leaf_bytes.new.way c.in_ok-content.content c.read_part.new.part c.in_ok-content.ensures.turns.reads c.in_ok-content.ensures.turns.safe c.in_ok-content.ensures.bytes c.in_ok-content.ensures.turns.node c.read_part.ensures

pub returns-clause-reads : goal.returns-clause-reads
returns-clause-reads g c = λ v. record {
  bytes = λ f file. read_whole (seen_tree v) f c.args.offset c.loop-leaf.leaf c.args.into.now c.loop-leaf.disk c.loop-leaf.way c.loop-leaf.into file c.loop-leaf.invariant (omega (arith, c.leaves_in-leaf-end.ensures, c.loop-leaf-test.false)) c.requires.within;
  sound = tt;
}

pub returns-clause-store : goal.returns-clause-store
returns-clause-store g c = λ graph ds space store.
    store_reads g.D.Disk graph c.args.disk.now c.loop-leaf.disk space (2 * (c.loop-leaf.leaf - c.args.offset / 512)) c.loop-leaf.invariant.reads ds space.left store
