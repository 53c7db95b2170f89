use Rattle.std.proofs.Common.{refl}
use Rattle.cfs_base.proofs.Passed.{is_passed}
use Rattle.ufs_model.specs.declared.asked.Request.TheVariants as asks
use Rattle.cfs_core.specs.Visits.{changing_way}
use Rattle.cfs_core.proofs.Came.{drafted_there, held_there, near_there, object_there, refused_there}
use Rattle.cfs_core.proofs.Words.{AFile}
use Rattle.cfs_core.proofs.kernel.Core.write.Goals as goal

pub returns-in_err-reply : goal.returns-in_err-reply
returns-in_err-reply g c = rw (is_passed _ _ c.from_residual.ensures.1) (c.in_err-reply.ensures (asks.Write c.args.to c.args.offset c.args.bytes.now) (record { to = refl; each = λ s who. refl }))

pub returns-in-Refused : goal.returns-in-Refused
returns-in-Refused g c = refused_there g.D.Disk AFile (changing_way c.args.to) c.args.who c.args.self.now c.visit.new.self c.in_ok-reply.field-0 c.in_ok-reply.ensures c.in-Refused.reply c.in-Refused.is (asks.Write c.args.to c.args.offset c.args.bytes.now) (record { to = refl; each = λ s who. refl })

pub write_draft-requires : goal.write_draft-requires
write_draft-requires g c = held_there g.D.Disk AFile (changing_way c.args.to) c.args.who c.args.self.now c.visit.new.self c.in_ok-reply.field-0 c.in_ok-reply.ensures c.in-Draft.grant c.in-Draft.is

pub returns-in-Draft : goal.returns-in-Draft
returns-in-Draft g c = drafted_there g.D.Disk AFile (changing_way c.args.to) c.args.who c.args.self.now c.visit.new.self c.in_ok-reply.field-0 c.in_ok-reply.ensures c.in-Draft.grant c.in-Draft.is c.write_draft.new.self c.write_draft.result (λ to. asks.Write to c.args.offset c.args.bytes.now) c.write_draft.ensures

pub write_object-requires-clause-on_disk : goal.write_object-requires-clause-on_disk
write_object-requires-clause-on_disk g c = near_there g.D.Disk AFile (changing_way c.args.to) c.args.who c.args.self.now c.visit.new.self c.in-Object.there (object_there g.D.Disk AFile (changing_way c.args.to) c.args.who c.args.self.now c.visit.new.self c.in_ok-reply.field-0 c.in_ok-reply.ensures c.in-Object.there c.in-Object.is)

pub write_object-requires-clause-some : goal.write_object-requires-clause-some
write_object-requires-clause-some g c = (object_there g.D.Disk AFile (changing_way c.args.to) c.args.who c.args.self.now c.visit.new.self c.in_ok-reply.field-0 c.in_ok-reply.ensures c.in-Object.there c.in-Object.is).reaches.some

pub write_object-requires-clause-fit : goal.write_object-requires-clause-fit
write_object-requires-clause-fit g c = (object_there g.D.Disk AFile (changing_way c.args.to) c.args.who c.args.self.now c.visit.new.self c.in_ok-reply.field-0 c.in_ok-reply.ensures c.in-Object.there c.in-Object.is).reaches.fit

pub write_object-requires-clause-limit : goal.write_object-requires-clause-limit
write_object-requires-clause-limit g c = (object_there g.D.Disk AFile (changing_way c.args.to) c.args.who c.args.self.now c.visit.new.self c.in_ok-reply.field-0 c.in_ok-reply.ensures c.in-Object.there c.in-Object.is).limit

pub returns-in-Object : goal.returns-in-Object
returns-in-Object g c = c.write_object.ensures c.args.self.now c.args.to c.args.who (object_there g.D.Disk AFile (changing_way c.args.to) c.args.who c.args.self.now c.visit.new.self c.in_ok-reply.field-0 c.in_ok-reply.ensures c.in-Object.there c.in-Object.is)
