use Rattle.std.proofs.Common.{sym, ◌∙◌, ap, subst, option_to_list}
use Rattle.ufs_model.specs.declared.asked.Reply.TheVariants as replies
use Rattle.cfs_core.specs.Asked.{Asks, reply_to}
use Rattle.cfs_core.specs.Kernel.{Kernel}
use Rattle.cfs_core.specs.Rescues.{HasRoomFor, ended_of, rescue_of}
use Rattle.cfs_core.proofs.Asked.{asks_answered, asks_refused, asks_starved, asks_stopped}
use Rattle.cfs_core.proofs.Lefts.{at_most_one}
use Rattle.cfs_core.proofs.kernel.Core.ask.Goals as goal

pub returns-in-Some : goal.returns-in-Some
returns-in-Some g c = asks_stopped g.D.Disk c.args.self.now c.args.who c.args.request.now c.in-Some.stop (ap (λ k. k.stop) (sym c.self.view_is) ∙ c.in-Some.is)

pub returns-in-Err : goal.returns-in-Err
returns-in-Err g c =
    let k : Kernel _ = record { disk = c.self.inside.disk; root = c.self.inside.root; directory = c.self.inside.directory; space = c.self.inside.space; words = c.self.inside.words; handles = c.self.inside.handles.handles; collections = c.self.inside.collections; stop = c.self.inside.stop } in
    subst (λ x. Asks g.D.Disk x (record k { collections = c.make_room.new.self }) c.args.who c.args.request.now replies.Memory) c.self.view_is
    (asks_starved g.D.Disk k c.make_room.new.self c.make_room.ensures.same c.make_room.ensures.called c.make_room.ensures.finished c.args.who c.args.request.now c.in_default.is)

pub tell-requires : goal.tell-requires
tell-requires g c = record { room = subst (λ x. HasRoomFor c.args.request.now x.collector) (sym c.answer.ensures.went.collections) c.in_default-make_room.ensures.room }

pub returns-in-Ok : goal.returns-in-Ok
returns-in-Ok g c =
    let k : Kernel _ = record { disk = c.self.inside.disk; root = c.self.inside.root; directory = c.self.inside.directory; space = c.self.inside.space; words = c.self.inside.words; handles = c.self.inside.handles.handles; collections = c.self.inside.collections; stop = c.self.inside.stop } in
    subst (λ r. Asks g.D.Disk c.args.self.now c.tell.new.self c.args.who c.args.request.now r) (sym c.tell.ensures.told)
    (subst (λ x. Asks g.D.Disk c.args.self.now x c.args.who c.args.request.now c.in-Ok.reply) (sym c.tell.ensures.new)
    (subst (λ x. Asks g.D.Disk x (record c.answer.new.self { collections = c.tell.new.self.collections }) c.args.who c.args.request.now c.in-Ok.reply) c.self.view_is
    (asks_answered g.D.Disk g.met.D.Disk.sized k c.make_room.new.self c.make_room.ensures.same c.make_room.ensures.called c.make_room.ensures.finished c.answer.new.self c.tell.new.self.collections c.args.who c.args.request.now c.in-Ok.reply (option_to_list (rescue_of c.aim-index.result c.args.request.now c.in-Ok.reply)) (ended_of c.closes-closed.result c.in-Ok.reply)
    (λ s serves. (c.aim-index.ensures s serves c.in-Ok.reply, c.closes-closed.ensures s serves c.in-Ok.reply)) c.tell.ensures.rescued c.tell.ensures.called c.tell.ensures.finished c.in_default.is (at_most_one (rescue_of c.aim-index.result c.args.request.now c.in-Ok.reply)) c.in-Ok.ensures)))

pub returns-in-Err-answer : goal.returns-in-Err-answer
returns-in-Err-answer g c =
    let k : Kernel _ = record { disk = c.self.inside.disk; root = c.self.inside.root; directory = c.self.inside.directory; space = c.self.inside.space; words = c.self.inside.words; handles = c.self.inside.handles.handles; collections = c.self.inside.collections; stop = c.self.inside.stop } in
    subst (λ r. Asks g.D.Disk c.args.self.now c.refuse.new.self c.args.who c.args.request.now r) (sym c.refuse.ensures.told)
    (subst (λ x. Asks g.D.Disk x c.refuse.new.self c.args.who c.args.request.now (reply_to c.in-Err-answer.refused (g.D.Disk.moment c.answer.new.self.disk))) c.self.view_is
    (asks_refused g.D.Disk g.met.D.Disk.left_sized g.met.D.Disk.sized k c.make_room.new.self c.make_room.ensures.same c.make_room.ensures.called c.make_room.ensures.finished c.answer.new.self c.answer.ensures.went.size c.args.who c.args.request.now c.in_default.is c.in-Err-answer.refused c.refuse.new.self c.refuse.ensures.stop c.in-Err-answer.ensures))
