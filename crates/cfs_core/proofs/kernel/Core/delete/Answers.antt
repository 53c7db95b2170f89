use Rattle.std.proofs.Common.{true, None, refl, sym, ◌∙◌, ap}
use Rattle.cfs_base.proofs.Passed.{is_passed}
use Rattle.ufs_model.specs.declared.asked.Request.TheVariants as asks
use Rattle.ufs_model.specs.declared.object.Object.TheVariants as objects
use Rattle.cfs_core.specs.Kernel.{Kernel}
use Rattle.cfs_core.specs.declared.way.Way.{Way}
use Rattle.cfs_core.proofs.Refusing.{delete_goes, delete_refused}
use Rattle.cfs_core.proofs.Views.{knows_that}
use Rattle.cfs_core.proofs.Came.{came_there, drafted_there, failed_there, held_there, object_there, read_there, refused_there, shown_there, tries_on, turned_there}
use Rattle.cfs_core.proofs.Words.{AnIndex, is_id}
use Rattle.cfs_core.proofs.kernel.Core.delete.Goals as goal

pub returns-in_err-reply : goal.returns-in_err-reply
returns-in_err-reply g c = rw (is_passed _ _ c.from_residual.ensures.1) (c.in_err-reply.ensures (asks.Delete c.args.to c.args.slot) (record { to = refl; each = λ s who. refl }))

pub returns-in-Refused : goal.returns-in-Refused
returns-in-Refused g c = refused_there g.D.Disk AnIndex (record { to = c.args.to; also = None; changes = true }) c.args.who c.args.self.now c.visit.new.self c.in_ok-reply.field-0 c.in_ok-reply.ensures c.in-Refused.reply c.in-Refused.is (asks.Delete c.args.to c.args.slot) (record { to = refl; each = λ s who. refl })

pub delete_draft-requires : goal.delete_draft-requires
delete_draft-requires g c = held_there g.D.Disk AnIndex (record { to = c.args.to; also = None; changes = true }) c.args.who c.args.self.now c.visit.new.self c.in_ok-reply.field-0 c.in_ok-reply.ensures c.in-Draft.grant c.in-Draft.is

pub returns-in-Draft : goal.returns-in-Draft
returns-in-Draft g c = drafted_there g.D.Disk AnIndex (record { to = c.args.to; also = None; changes = true }) c.args.who c.args.self.now c.visit.new.self c.in_ok-reply.field-0 c.in_ok-reply.ensures c.in-Draft.grant c.in-Draft.is c.delete_draft.new.self c.delete_draft.result (λ to. asks.Delete to c.args.slot) c.delete_draft.ensures

pub look-requires : goal.look-requires
look-requires g c = (object_there g.D.Disk AnIndex (record { to = c.args.to; also = None; changes = true }) c.args.who c.args.self.now c.visit.new.self c.in_ok-reply.field-0 c.in_ok-reply.ensures c.in-Object.there c.in-Object.is).limit

pub empty-requires-clause-on_disk : goal.empty-requires-clause-on_disk
empty-requires-clause-on_disk g c =
    let way : Way = record { to = c.args.to; also = None; changes = true } in
    let new = c.visit.new.self in
    let there = c.in-Object.there in
    let visits = object_there g.D.Disk AnIndex way c.args.who c.args.self.now new c.in_ok-reply.field-0 c.in_ok-reply.ensures there c.in-Object.is in
    let k : Kernel _ = record { disk = c.self.inside.disk; root = c.self.inside.root; directory = c.self.inside.directory; space = c.self.inside.space; words = c.self.inside.words; handles = c.self.inside.handles.handles; collections = c.self.inside.collections; stop = c.self.inside.stop } in
    let at = c.shown-at.result.0 in
    let read = read_there g.D.Disk g.met.D.Disk.left_sized g.met.D.Disk.sized AnIndex way c.args.who c.args.self.now new there visits k c.self.view_is at c.shown-at.ensures.shown in
    let calm = c.look.ensures.calm c.args.self.now.disk read in
    rw calm.reads.same.size visits.reaches.on_disk

pub empty-requires-clause-some : goal.empty-requires-clause-some
empty-requires-clause-some g c = (object_there g.D.Disk AnIndex (record { to = c.args.to; also = None; changes = true }) c.args.who c.args.self.now c.visit.new.self c.in_ok-reply.field-0 c.in_ok-reply.ensures c.in-Object.there c.in-Object.is).reaches.some

pub empty-requires-clause-within : goal.empty-requires-clause-within
empty-requires-clause-within g c = c.in_ok-reply-in-Object.ensures.has (sym c.holds_something.ensures ∙ c.if-not-holds_something.false)

pub empty-requires-clause-limit : goal.empty-requires-clause-limit
empty-requires-clause-limit g c = (object_there g.D.Disk AnIndex (record { to = c.args.to; also = None; changes = true }) c.args.who c.args.self.now c.visit.new.self c.in_ok-reply.field-0 c.in_ok-reply.ensures c.in-Object.there c.in-Object.is).limit

pub returns-in_err-reply-in-Object : goal.returns-in_err-reply-in-Object
returns-in_err-reply-in-Object g c =
    let way : Way = record { to = c.args.to; also = None; changes = true } in
    let new = c.visit.new.self in
    let there = c.in-Object.there in
    let visits = object_there g.D.Disk AnIndex way c.args.who c.args.self.now new c.in_ok-reply.field-0 c.in_ok-reply.ensures there c.in-Object.is in
    let k : Kernel _ = record { disk = c.self.inside.disk; root = c.self.inside.root; directory = c.self.inside.directory; space = c.self.inside.space; words = c.self.inside.words; handles = c.self.inside.handles.handles; collections = c.self.inside.collections; stop = c.self.inside.stop } in
    let at = c.shown-at.result.0 in
    let read = read_there g.D.Disk g.met.D.Disk.left_sized g.met.D.Disk.sized AnIndex way c.args.who c.args.self.now new there visits k c.self.view_is at c.shown-at.ensures.shown in
    let calm = c.look.ensures.calm c.args.self.now.disk read in
    rw (is_passed _ _ c.from_residual-in_err-reply-in-Object.ensures.1) (failed_there g.D.Disk g.met.D.Disk.left_sized g.met.D.Disk.sized AnIndex way c.args.who c.args.self.now new there visits k c.self.view_is at c.shown-at.ensures.shown (asks.Delete c.args.to c.args.slot) (record { to = refl; each = λ s who. refl }) 3 c.look.new.disk c.in_err-reply-in-Object.field-0.0 (c.in_err-reply-in-Object.ensures.calm c.args.self.now.disk read))

pub returns-then-not-holds_something : goal.returns-then-not-holds_something
returns-then-not-holds_something g c =
    let way : Way = record { to = c.args.to; also = None; changes = true } in
    let new = c.visit.new.self in
    let there = c.in-Object.there in
    let visits = object_there g.D.Disk AnIndex way c.args.who c.args.self.now new c.in_ok-reply.field-0 c.in_ok-reply.ensures there c.in-Object.is in
    let k : Kernel _ = record { disk = c.self.inside.disk; root = c.self.inside.root; directory = c.self.inside.directory; space = c.self.inside.space; words = c.self.inside.words; handles = c.self.inside.handles.handles; collections = c.self.inside.collections; stop = c.self.inside.stop } in
    let at = c.shown-at.result.0 in
    let read = read_there g.D.Disk g.met.D.Disk.left_sized g.met.D.Disk.sized AnIndex way c.args.who c.args.self.now new there visits k c.self.view_is at c.shown-at.ensures.shown in
    let calm = c.look.ensures.calm c.args.self.now.disk read in
    turned_there g.D.Disk g.met.D.Disk.left_sized g.met.D.Disk.sized AnIndex way c.args.who c.args.self.now new there visits k c.self.view_is at c.shown-at.ensures.shown (asks.Delete c.args.to c.args.slot) (record { to = refl; each = λ s who. refl }) 3 c.look.new.disk c.in_ok-reply-in-Object.reply c.in_ok-reply-in-Object.ensures.plain calm.reads
    (λ s i serves r knows. delete_refused c.args.self.now.words.seed s c.args.who c.args.to there.id i c.args.slot c.in_ok-reply-in-Object.reply r (c.in_ok-reply-in-Object.ensures.exact c.args.self.now.disk i read knows) (sym c.holds_something.ensures ∙ c.if-not-holds_something.true))

pub returns-else-not-holds_something : goal.returns-else-not-holds_something
returns-else-not-holds_something g c =
    let way : Way = record { to = c.args.to; also = None; changes = true } in
    let new = c.visit.new.self in
    let there = c.in-Object.there in
    let visits = object_there g.D.Disk AnIndex way c.args.who c.args.self.now new c.in_ok-reply.field-0 c.in_ok-reply.ensures there c.in-Object.is in
    let k : Kernel _ = record { disk = c.self.inside.disk; root = c.self.inside.root; directory = c.self.inside.directory; space = c.self.inside.space; words = c.self.inside.words; handles = c.self.inside.handles.handles; collections = c.self.inside.collections; stop = c.self.inside.stop } in
    let at = c.shown-at.result.0 in
    let read = read_there g.D.Disk g.met.D.Disk.left_sized g.met.D.Disk.sized AnIndex way c.args.who c.args.self.now new there visits k c.self.view_is at c.shown-at.ensures.shown in
    let calm = c.look.ensures.calm c.args.self.now.disk read in
    tries_on g.D.Disk c.args.self.now c.empty.new.self c.args.who (asks.Delete c.args.to c.args.slot) there.id c.args.slot c.empty.result refl (visits.reaches.reached (asks.Delete c.args.to c.args.slot) (record { to = refl; each = λ s who. refl }))
    (c.empty.ensures 3 c.args.self.now c.args.to c.floor_for.ensures (came_there g.D.Disk g.met.D.Disk.left_sized g.met.D.Disk.sized AnIndex way c.args.who c.args.self.now new there visits k c.self.view_is at c.shown-at.ensures.shown 3 c.look.new.disk calm.reads))
    (λ s i serves r.
    let exact = c.in_ok-reply-in-Object.ensures.exact c.args.self.now.disk i read (knows_that g.D.Disk c.args.self.now s serves there.id (objects.Index i) at (shown_there g.D.Disk g.met.D.Disk.left_sized g.met.D.Disk.sized AnIndex way c.args.who c.args.self.now new there visits k c.self.view_is at c.shown-at.ensures.shown) r.there) in
    let two = delete_goes c.args.self.now.words.seed s c.args.who c.args.to there.id i c.args.slot r (ap is_id (sym exact) ∙ sym c.holds_something.ensures ∙ c.if-not-holds_something.false) in
    (two.1, two.0))
