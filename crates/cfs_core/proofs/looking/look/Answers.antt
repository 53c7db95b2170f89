use Rattle.std.proofs.Common.{◌/◌, refl, sym, ◌∙◌, ap, arith}
use Rattle.cfs_base.proofs.Calls.{reads_within}
use Rattle.cfs_core.proofs.Words.{reads_then, slot_reply}
use Rattle.ufs_model.specs.declared.object.Object.TheVariants as objects
use Rattle.cfs_core.proofs.Looked.{above, below, beyond, found, slots_read}
use Rattle.cfs_core.proofs.Calm.{calm_leaf, knows_on, rooted}
use Rattle.cfs_base.proofs.Passed.{is_passed}
use Rattle.cfs_core.proofs.looking.look.Goals as goal

pub retrieve-requires : goal.retrieve-requires
retrieve-requires g c = omega (arith, c.has_slot.ensures.has c.if-not-has_slot.false, c.requires)

pub returns-then-not-has_slot-clause-exact : goal.returns-then-not-has_slot-clause-exact
returns-then-not-has_slot-clause-exact g c = λ old i read knows. beyond i c.args.slot (c.args.root.now.size / 8) (slots_read read i knows) (above c.args.slot (c.args.root.now.size / 8) (sym c.has_slot.ensures.decides ∙ c.if-not-has_slot.true))

pub returns-then-not-has_slot-clause-calm : goal.returns-then-not-has_slot-clause-calm
returns-then-not-has_slot-clause-calm g c = λ old read. record { reads = reads_within g.D.Disk old c.args.disk.now 1 3 (omega arith) read.reads; sound = λ i knows. tt; cause = tt }

pub returns-in-Some-clause-exact : goal.returns-in-Some-clause-exact
returns-in-Some-clause-exact g c = λ old i read knows. ap slot_reply (sym c.in-Some.is)
    ∙ found read c.args.slot c.in_ok-id.field-0 (below c.args.slot (c.args.root.now.size / 8) (sym c.has_slot.ensures.decides ∙ c.if-not-has_slot.false)) c.in_ok-id.ensures.finds i knows

pub returns-in-Some-clause-has : goal.returns-in-Some-clause-has
returns-in-Some-clause-has g c = λ is. c.has_slot.ensures.has c.if-not-has_slot.false

pub returns-in-Some-clause-calm : goal.returns-in-Some-clause-calm
returns-in-Some-clause-calm g c = λ old read. record { reads = reads_then g.D.Disk old c.args.disk.now c.retrieve.new.disk 1 2 3 read.reads c.retrieve.ensures.reads (omega arith); sound = λ i knows. tt; cause = tt }

pub returns-in-None-clause-exact : goal.returns-in-None-clause-exact
returns-in-None-clause-exact g c = λ old i read knows. ap slot_reply (sym c.in-None.is)
    ∙ found read c.args.slot c.in_ok-id.field-0 (below c.args.slot (c.args.root.now.size / 8) (sym c.has_slot.ensures.decides ∙ c.if-not-has_slot.false)) c.in_ok-id.ensures.finds i knows

pub returns-in-None-clause-calm : goal.returns-in-None-clause-calm
returns-in-None-clause-calm g c = λ old read. record { reads = reads_then g.D.Disk old c.args.disk.now c.retrieve.new.disk 1 2 3 read.reads c.retrieve.ensures.reads (omega arith); sound = λ i knows. tt; cause = tt }

pub returns-in_err-id-clause-calm : goal.returns-in_err-id-clause-calm
returns-in_err-id-clause-calm g c =
    rw (is_passed _ _ c.from_residual.ensures.1) (λ old read. calm_leaf g.D.Disk (c.args.slot / 64) c.args.index.0 c.args.root.now old c.args.disk.now c.retrieve.new.disk c.in_err-id.field-0.0 _ refl read c.retrieve.ensures.reads
    (λ i knows.
    let on = knows_on g.D.Disk 1 old c.args.disk.now c.args.index.0 (objects.Index i) read.reads knows in
    (c.in_err-id.ensures.finds on.view i on.is (rooted g.D.Disk read.reads (objects.Index i) knows read.rooted)).sound) c.in_err-id.ensures.refused)
