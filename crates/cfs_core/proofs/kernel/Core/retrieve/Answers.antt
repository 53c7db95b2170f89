use Rattle.std.proofs.Common.{false, None, refl}
use Rattle.cfs_base.proofs.Passed.{is_passed}
use Rattle.ufs_model.specs.declared.asked.Request.TheVariants as asks
use Rattle.cfs_core.specs.Calls.{looked}
use Rattle.cfs_core.specs.Kernel.{Kernel}
use Rattle.cfs_core.specs.declared.way.Way.{Way}
use Rattle.cfs_core.proofs.Refusing.{retrieve_seen}
use Rattle.cfs_core.proofs.Came.{drafted_there, held_there, object_there, read_there, refused_there, seen_there}
use Rattle.cfs_core.proofs.Words.{AnIndex}
use Rattle.cfs_core.proofs.kernel.Core.retrieve.Goals as goal

pub returns-in_err-reply : goal.returns-in_err-reply
returns-in_err-reply g c = rw (is_passed _ _ c.from_residual.ensures.1) (c.in_err-reply.ensures (asks.Retrieve c.args.to c.args.slot) (record { to = refl; each = λ s who. refl }))

pub returns-in-Refused : goal.returns-in-Refused
returns-in-Refused g c = refused_there g.D.Disk AnIndex (record { to = c.args.to; also = None; changes = false }) c.args.who c.args.self.now c.visit.new.self c.in_ok-reply.field-0 c.in_ok-reply.ensures c.in-Refused.reply c.in-Refused.is (asks.Retrieve c.args.to c.args.slot) (record { to = refl; each = λ s who. refl })

pub retrieve_draft-requires : goal.retrieve_draft-requires
retrieve_draft-requires g c = held_there g.D.Disk AnIndex (record { to = c.args.to; also = None; changes = false }) c.args.who c.args.self.now c.visit.new.self c.in_ok-reply.field-0 c.in_ok-reply.ensures c.in-Draft.grant c.in-Draft.is

pub returns-in-Draft : goal.returns-in-Draft
returns-in-Draft g c = drafted_there g.D.Disk AnIndex (record { to = c.args.to; also = None; changes = false }) c.args.who c.args.self.now c.visit.new.self c.in_ok-reply.field-0 c.in_ok-reply.ensures c.in-Draft.grant c.in-Draft.is c.retrieve_draft.new.self c.retrieve_draft.result (λ to. asks.Retrieve to c.args.slot) c.retrieve_draft.ensures

pub returns-in-Object : goal.returns-in-Object
returns-in-Object g c =
    let way : Way = record { to = c.args.to; also = None; changes = false } in
    let k : Kernel _ = record { disk = c.self.inside.disk; root = c.self.inside.root; directory = c.self.inside.directory; space = c.self.inside.space; words = c.self.inside.words; handles = c.self.inside.handles.handles; collections = c.self.inside.collections; stop = c.self.inside.stop } in
    let new = c.visit.new.self in
    let there = c.in-Object.there in
    let visits = object_there g.D.Disk AnIndex way c.args.who c.args.self.now new c.in_ok-reply.field-0 c.in_ok-reply.ensures there c.in-Object.is in
    let read = read_there g.D.Disk g.met.D.Disk.left_sized g.met.D.Disk.sized AnIndex way c.args.who c.args.self.now new there visits k c.self.view_is c.shown-at.result.0 c.shown-at.ensures.shown in
    seen_there g.D.Disk g.met.D.Disk.left_sized g.met.D.Disk.sized AnIndex way c.args.who c.args.self.now new there visits k c.self.view_is c.shown-at.result.0 c.shown-at.ensures.shown (asks.Retrieve c.args.to c.args.slot) (record { to = refl; each = λ s who. refl }) 3 c.look.new.disk (λ i. looked i c.args.slot) c.look.result refl (λ s. refl) (λ s reply. refl)
    (λ s i serves r. (refl, retrieve_seen c.args.self.now.words.seed s c.args.who c.args.to there.id i c.args.slot r)) c.look.ensures.plain (λ i knows. c.look.ensures.exact c.args.self.now.disk i read knows) (c.look.ensures.calm c.args.self.now.disk read)
