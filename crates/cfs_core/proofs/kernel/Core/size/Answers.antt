use Rattle.std.proofs.Common.{false, None, Ok, refl, ap}
use Rattle.cfs_base.proofs.Passed.{is_passed}
use Rattle.cyl_alloc.specs.Left.{block_shown}
use Rattle.ufs_model.specs.declared.asked.Reply.TheVariants as replies
use Rattle.ufs_model.specs.declared.asked.Request.TheVariants as asks
use Rattle.cfs_core.specs.Looks.{measured}
use Rattle.cfs_core.specs.declared.way.Way.{Way}
use Rattle.cfs_core.proofs.Looked.{size_read}
use Rattle.cfs_core.proofs.Refusing.{size_seen}
use Rattle.cfs_core.proofs.Came.{drafted_there, held_there, object_there, read_there, refused_there, seen_there}
use Rattle.cfs_core.proofs.Words.{AFile}
use Rattle.cfs_core.proofs.kernel.Core.size.Goals as goal

pub returns-in_err-reply : goal.returns-in_err-reply
returns-in_err-reply g c = rw (is_passed _ _ c.from_residual.ensures.1) (c.in_err-reply.ensures (asks.Size c.args.to) (record { to = refl; each = λ s who. refl }))

pub returns-in-Refused : goal.returns-in-Refused
returns-in-Refused g c = refused_there g.D.Disk AFile (record { to = c.args.to; also = None; changes = false }) c.args.who c.args.self.now c.visit.new.self c.in_ok-reply.field-0 c.in_ok-reply.ensures c.in-Refused.reply c.in-Refused.is (asks.Size c.args.to) (record { to = refl; each = λ s who. refl })

pub size_of_draft-requires : goal.size_of_draft-requires
size_of_draft-requires g c = held_there g.D.Disk AFile (record { to = c.args.to; also = None; changes = false }) c.args.who c.args.self.now c.visit.new.self c.in_ok-reply.field-0 c.in_ok-reply.ensures c.in-Draft.grant c.in-Draft.is

pub returns-in-Draft : goal.returns-in-Draft
returns-in-Draft g c = drafted_there g.D.Disk AFile (record { to = c.args.to; also = None; changes = false }) c.args.who c.args.self.now c.visit.new.self c.in_ok-reply.field-0 c.in_ok-reply.ensures c.in-Draft.grant c.in-Draft.is c.visit.new.self (Ok c.size_of_draft.result) (λ to. asks.Size to) c.size_of_draft.ensures

pub returns-in-Object : goal.returns-in-Object
returns-in-Object g c =
    let way : Way = record { to = c.args.to; also = None; changes = false } in
    let new = c.visit.new.self in
    let there = c.in-Object.there in
    let visits = object_there g.D.Disk AFile way c.args.who c.args.self.now new c.in_ok-reply.field-0 c.in_ok-reply.ensures there c.in-Object.is in
    let at = block_shown new.space.left there.id.block in
    let read = read_there g.D.Disk g.met.D.Disk.left_sized g.met.D.Disk.sized AFile way c.args.who c.args.self.now new there visits new refl at refl in
    seen_there g.D.Disk g.met.D.Disk.left_sized g.met.D.Disk.sized AFile way c.args.who c.args.self.now new there visits new refl at refl (asks.Size c.args.to) (record { to = refl; each = λ s who. refl }) 1 new.disk measured (Ok (replies.Number there.root.size)) refl (λ s. refl) (λ s reply. refl)
    (λ s f serves r. (refl, size_seen c.args.self.now.words.seed s c.args.who c.args.to there.id f r)) tt (λ f knows. ap replies.Number (size_read read f knows)) (record { reads = read.reads; sound = λ f knows. tt; cause = tt })
