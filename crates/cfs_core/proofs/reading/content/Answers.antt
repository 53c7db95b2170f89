use Rattle.std.proofs.Common.{◌≡◌, ℕ, ◌+◌, length, true, refl, sym, ◌∙◌, ap, arith}
use Rattle.cfs_core.proofs.Words.{is_range, leaves_touched, nodes_touched, reads_then}
use Rattle.ufs_model.specs.declared.asked.Reply.TheVariants as replies
use Rattle.ufs_model.specs.declared.object.Object.TheVariants as objects
use Rattle.cfs_core.proofs.Calm.{calm_after, knows_on, range_parts, rooted}
use Rattle.cfs_core.proofs.Looked.{size_read}
use Rattle.leaf_changes.proofs.Tops.{far_block}
use Rattle.leaf_changes.specs.Tops.{root_top}
use Rattle.cfs_base.proofs.Calls.{reads_within}
use Rattle.cfs_base.proofs.Passed.{is_passed}
use Rattle.cfs_core.proofs.reading.content.Goals as goal

pub read-requires-clause-inside : goal.read-requires-clause-inside
read-requires-clause-inside g c = omega (arith, (range_parts c.args.root.now.size c.args.offset c.args.count (sym c.is_range.ensures ∙ c.if-not-is_range.false)).2, c.requires.limit)

pub returns-then-not-is_range-clause-exact : goal.returns-then-not-is_range-clause-exact
returns-then-not-is_range-clause-exact g c = λ old f read knows. rw (ap (λ (n : ℕ). is_range n c.args.offset c.args.count) (sym (size_read read f knows)) ∙ sym c.is_range.ensures ∙ c.if-not-is_range.true) refl

pub returns-then-not-is_range-clause-calm : goal.returns-then-not-is_range-clause-calm
returns-then-not-is_range-clause-calm g c = λ old read. record { reads = reads_within g.D.Disk old c.args.disk.now 1 (1 + nodes_touched c.args.offset c.args.count + leaves_touched c.args.offset c.args.count) (omega arith) read.reads; sound = λ f knows. tt; cause = tt }

pub returns-clause-exact : goal.returns-clause-exact
returns-clause-exact g c = λ old f read knows.
    let on = knows_on g.D.Disk 1 old c.args.disk.now c.args.file.0 (objects.File f) read.reads knows in
    let is : is_range (length f.bytes) c.args.offset c.args.count ≡ true = ap (λ (n : ℕ). is_range n c.args.offset c.args.count) (sym (size_read read f knows)) ∙ sym c.is_range.ensures ∙ c.if-not-is_range.false in
    ap replies.Content ((c.in_ok-bytes.ensures.read on.view f on.is (rooted g.D.Disk read.reads (objects.File f) knows read.rooted)).bytes (range_parts (length f.bytes) c.args.offset c.args.count is).2)
    ∙ rw is refl

pub returns-clause-calm : goal.returns-clause-calm
returns-clause-calm g c = λ old read. record {
  reads = reads_then g.D.Disk old c.args.disk.now c.read.new.disk 1 (nodes_touched c.args.offset c.args.count + leaves_touched c.args.offset c.args.count) (1 + nodes_touched c.args.offset c.args.count + leaves_touched c.args.offset c.args.count) read.reads c.read.ensures.reads (omega arith);
  sound = λ f knows. tt;
  cause = tt;
}

pub returns-in_err-bytes-clause-calm : goal.returns-in_err-bytes-clause-calm
returns-in_err-bytes-clause-calm g c =
    rw (is_passed _ _ c.from_residual.ensures.1) (λ old was. calm_after g.D.Disk objects.File 1 (nodes_touched c.args.offset c.args.count + leaves_touched c.args.offset c.args.count) (1 + nodes_touched c.args.offset c.args.count + leaves_touched c.args.offset c.args.count) c.args.file.0 old c.args.disk.now c.read.new.disk c.in_err-bytes.field-0.0
    was.reads c.read.ensures.reads (omega arith)
    (λ f knows.
    let on = knows_on g.D.Disk 1 old c.args.disk.now c.args.file.0 (objects.File f) was.reads knows in
    (c.in_err-bytes.ensures.read on.view f on.is (rooted g.D.Disk was.reads (objects.File f) knows was.rooted)).sound)
    c.in_err-bytes.ensures.untried (root_top c.args.file.0 c.args.root.now) refl
    (λ size far tells. far_block size c.args.file.0 (g.D.Disk.content old) c.args.root.now (was.rooted tells) far) c.in_err-bytes.ensures.refused)
