use Rattle.std.proofs.Common.{◌<◌, length, true, None, refl, sym, ◌∙◌, ap, subst, nat_lt}
use Rattle.cfs_base.proofs.Passed.{is_passed}
use Rattle.cyl_alloc.specs.Left.{block_shown}
use Rattle.ufs_model.specs.declared.asked.Reply.TheVariants as replies
use Rattle.ufs_model.specs.declared.asked.Request.TheVariants as asks
use Rattle.ufs_model.specs.declared.object.Object.TheVariants as objects
use Rattle.cfs_core.specs.Kernel.{Kernel}
use Rattle.cfs_core.specs.declared.way.Way.{Way}
use Rattle.cfs_core.proofs.Looked.{below, slots_read}
use Rattle.cfs_core.proofs.Makings.{few_slots, index_goes, index_makes, index_range, out_of_slots, some_slots}
use Rattle.cfs_core.proofs.Refusing.{beyond}
use Rattle.cfs_core.proofs.Views.{knows_that}
use Rattle.cfs_core.proofs.Came.{draft_there, drafted_there, held_there, near_there, object_there, read_there, refused_there, shown_there, tries_on, turned_there}
use Rattle.cfs_core.proofs.Words.{AnIndex}
use Rattle.cfs_core.proofs.kernel.Core.create_index.Goals as goal

pub returns-in_err-reply : goal.returns-in_err-reply
returns-in_err-reply g c = rw (is_passed _ _ c.from_residual.ensures.1) (c.in_err-reply.ensures (asks.CreateIndex c.args.slots c.args.to c.args.slot) (record { to = refl; each = λ s who. refl }))

pub returns-in-Refused : goal.returns-in-Refused
returns-in-Refused g c = refused_there g.D.Disk AnIndex (record { to = c.args.to; also = None; changes = true }) c.args.who c.args.self.now c.visit.new.self c.in_ok-reply.field-0 c.in_ok-reply.ensures c.in-Refused.reply c.in-Refused.is (asks.CreateIndex c.args.slots c.args.to c.args.slot) (record { to = refl; each = λ s who. refl })

pub create_index_drafted-requires-clause-holds : goal.create_index_drafted-requires-clause-holds
create_index_drafted-requires-clause-holds g c = held_there g.D.Disk AnIndex (record { to = c.args.to; also = None; changes = true }) c.args.who c.args.self.now c.visit.new.self c.in_ok-reply.field-0 c.in_ok-reply.ensures c.in-Draft.grant c.in-Draft.is

pub create_index_drafted-requires-clause-words : goal.create_index_drafted-requires-clause-words
create_index_drafted-requires-clause-words g c = subst (λ (k : Kernel _). k.words.drawn < 4294967295) (sym (draft_there g.D.Disk AnIndex (record { to = c.args.to; also = None; changes = true }) c.args.who c.args.self.now c.visit.new.self c.in_ok-reply.field-0 c.in_ok-reply.ensures c.in-Draft.grant c.in-Draft.is).0) c.requires.words

pub returns-in-Draft : goal.returns-in-Draft
returns-in-Draft g c = drafted_there g.D.Disk AnIndex (record { to = c.args.to; also = None; changes = true }) c.args.who c.args.self.now c.visit.new.self c.in_ok-reply.field-0 c.in_ok-reply.ensures c.in-Draft.grant c.in-Draft.is c.create_index_drafted.new.self c.create_index_drafted.result (λ to. asks.CreateIndex c.args.slots to c.args.slot) c.create_index_drafted.ensures

pub has_slot-requires : goal.has_slot-requires
has_slot-requires g c = (object_there g.D.Disk AnIndex (record { to = c.args.to; also = None; changes = true }) c.args.who c.args.self.now c.visit.new.self c.in_ok-reply.field-0 c.in_ok-reply.ensures c.in-Object.there c.in-Object.is).limit

pub make-requires-clause-on_disk : goal.make-requires-clause-on_disk
make-requires-clause-on_disk g c = near_there g.D.Disk AnIndex (record { to = c.args.to; also = None; changes = true }) c.args.who c.args.self.now c.visit.new.self c.in-Object.there (object_there g.D.Disk AnIndex (record { to = c.args.to; also = None; changes = true }) c.args.who c.args.self.now c.visit.new.self c.in_ok-reply.field-0 c.in_ok-reply.ensures c.in-Object.there c.in-Object.is)

pub make-requires-clause-some : goal.make-requires-clause-some
make-requires-clause-some g c = (object_there g.D.Disk AnIndex (record { to = c.args.to; also = None; changes = true }) c.args.who c.args.self.now c.visit.new.self c.in_ok-reply.field-0 c.in_ok-reply.ensures c.in-Object.there c.in-Object.is).reaches.some

pub make-requires-clause-within : goal.make-requires-clause-within
make-requires-clause-within g c = c.has_slot.ensures.has c.if-not-has_slot.false

pub make-requires-clause-limit : goal.make-requires-clause-limit
make-requires-clause-limit g c = (object_there g.D.Disk AnIndex (record { to = c.args.to; also = None; changes = true }) c.args.who c.args.self.now c.visit.new.self c.in_ok-reply.field-0 c.in_ok-reply.ensures c.in-Object.there c.in-Object.is).limit

pub make-requires-clause-words : goal.make-requires-clause-words
make-requires-clause-words g c = subst (λ (k : Kernel _). k.words.drawn < 4294967295) (sym (object_there g.D.Disk AnIndex (record { to = c.args.to; also = None; changes = true }) c.args.who c.args.self.now c.visit.new.self c.in_ok-reply.field-0 c.in_ok-reply.ensures c.in-Object.there c.in-Object.is).came.same) c.requires.words

pub returns-then-not-has_slot : goal.returns-then-not-has_slot
returns-then-not-has_slot g c =
    let way : Way = record { to = c.args.to; also = None; changes = true } in
    let new = c.visit.new.self in
    let there = c.in-Object.there in
    let visits = object_there g.D.Disk AnIndex way c.args.who c.args.self.now new c.in_ok-reply.field-0 c.in_ok-reply.ensures there c.in-Object.is in
    let at = block_shown new.space.left there.id.block in
    let read = read_there g.D.Disk g.met.D.Disk.left_sized g.met.D.Disk.sized AnIndex way c.args.who c.args.self.now new there visits new refl at refl in
    turned_there g.D.Disk g.met.D.Disk.left_sized g.met.D.Disk.sized AnIndex way c.args.who c.args.self.now new there visits new refl at refl (asks.CreateIndex c.args.slots c.args.to c.args.slot) (record { to = refl; each = λ s who. refl }) 1 new.disk replies.Slot tt read.reads
    (λ s i serves r knows. beyond 0 s c.args.who c.args.to there.id i (asks.CreateIndex c.args.slots c.args.to c.args.slot) c.args.slot r refl (ap (nat_lt c.args.slot) (sym (slots_read read i knows)) ∙ sym c.has_slot.ensures.decides ∙ c.if-not-has_slot.true))

pub returns-then-slots-eq0 : goal.returns-then-slots-eq0
returns-then-slots-eq0 g c =
    let way : Way = record { to = c.args.to; also = None; changes = true } in
    let new = c.visit.new.self in
    let there = c.in-Object.there in
    let visits = object_there g.D.Disk AnIndex way c.args.who c.args.self.now new c.in_ok-reply.field-0 c.in_ok-reply.ensures there c.in-Object.is in
    let at = block_shown new.space.left there.id.block in
    let read = read_there g.D.Disk g.met.D.Disk.left_sized g.met.D.Disk.sized AnIndex way c.args.who c.args.self.now new there visits new refl at refl in
    turned_there g.D.Disk g.met.D.Disk.left_sized g.met.D.Disk.sized AnIndex way c.args.who c.args.self.now new there visits new refl at refl (asks.CreateIndex c.args.slots c.args.to c.args.slot) (record { to = refl; each = λ s who. refl }) 1 new.disk replies.Range tt read.reads
    (λ s i serves r knows.
    let inside = below c.args.slot (length i.slots) (ap (nat_lt c.args.slot) (sym (slots_read read i knows)) ∙ sym c.has_slot.ensures.decides ∙ c.if-not-has_slot.false) in
    index_range s c.args.who c.args.to there.id i c.args.slot c.args.slots r inside (out_of_slots c.args.slots c.then-slots-eq0.either))

pub returns-else-slots-gt-MOST_SLOTS : goal.returns-else-slots-gt-MOST_SLOTS
returns-else-slots-gt-MOST_SLOTS g c =
    let way : Way = record { to = c.args.to; also = None; changes = true } in
    let new = c.visit.new.self in
    let there = c.in-Object.there in
    let visits = object_there g.D.Disk AnIndex way c.args.who c.args.self.now new c.in_ok-reply.field-0 c.in_ok-reply.ensures there c.in-Object.is in
    let at = block_shown new.space.left there.id.block in
    let read = read_there g.D.Disk g.met.D.Disk.left_sized g.met.D.Disk.sized AnIndex way c.args.who c.args.self.now new there visits new refl at refl in
    tries_on g.D.Disk c.args.self.now c.make.new.self c.args.who (asks.CreateIndex c.args.slots c.args.to c.args.slot) there.id c.args.slot c.make.result refl (visits.reaches.reached (asks.CreateIndex c.args.slots c.args.to c.args.slot) (record { to = refl; each = λ s who. refl })) (c.make.ensures 1 c.args.self.now (asks.CreateIndex c.args.slots c.args.to c.args.slot) (index_makes c.args.slots c.args.to c.args.slot) visits.came)
    (λ s i serves r.
    let inside = below c.args.slot (length i.slots) (ap (nat_lt c.args.slot) (sym (slots_read read i (knows_that g.D.Disk c.args.self.now s serves there.id (objects.Index i) at (shown_there g.D.Disk g.met.D.Disk.left_sized g.met.D.Disk.sized AnIndex way c.args.who c.args.self.now new there visits new refl at refl) r.there))) ∙ sym c.has_slot.ensures.decides ∙ c.if-not-has_slot.false) in
    (inside, index_goes s c.args.who c.args.to there.id i c.args.slot c.args.slots r inside (some_slots c.args.slots c.if-slots-eq0.false) (few_slots c.args.slots c.if-slots-gt-MOST_SLOTS.false)))
