use Rattle.std.proofs.Common.{refl, sym, subst}
use Rattle.ufs_model.specs.declared.asked.Request.TheVariants as asks
use Rattle.cfs_core.specs.Calls.{Tries}
use Rattle.cfs_core.specs.Visits.{ReachesSo, changing_way}
use Rattle.cfs_core.proofs.Words.{AFile}
use Rattle.cfs_core.proofs.kernel.Core.resize.Goals as goal

pub returns-in-Err : goal.returns-in-Err
returns-in-Err g c = c.in-Err.ensures.refused (asks.Resize c.args.to c.args.size) (record { to = refl; each = λ s who. refl })

pub resize_draft-requires : goal.resize_draft-requires
resize_draft-requires g c = (subst (ReachesSo g.D.Disk AFile (changing_way c.args.to) c.args.who c.args.self.now) c.in-Ok-Draft.field-0-is c.in-Ok-Draft.ensures.reached).holds

pub returns-in-Ok-Draft : goal.returns-in-Ok-Draft
returns-in-Ok-Draft g c =
    let reaches = (subst (ReachesSo g.D.Disk AFile (changing_way c.args.to) c.args.who c.args.self.now) c.in-Ok-Draft.field-0-is c.in-Ok-Draft.ensures.reached) in
    subst (λ to. Tries g.D.Disk c.args.self.now c.resize_draft.new.self c.args.who (asks.Resize to c.args.size) c.resize_draft.result) (sym reaches.through) (c.resize_draft.ensures c.args.who reaches.has)

pub resize_object-requires-clause-on_disk : goal.resize_object-requires-clause-on_disk
resize_object-requires-clause-on_disk g c = (subst (ReachesSo g.D.Disk AFile (changing_way c.args.to) c.args.who c.args.self.now) c.in-Ok-Object.field-0-is c.in-Ok-Object.ensures.reached).on_disk

pub resize_object-requires-clause-some : goal.resize_object-requires-clause-some
resize_object-requires-clause-some g c = (subst (ReachesSo g.D.Disk AFile (changing_way c.args.to) c.args.who c.args.self.now) c.in-Ok-Object.field-0-is c.in-Ok-Object.ensures.reached).some

pub resize_object-requires-clause-fit : goal.resize_object-requires-clause-fit
resize_object-requires-clause-fit g c = (subst (ReachesSo g.D.Disk AFile (changing_way c.args.to) c.args.who c.args.self.now) c.in-Ok-Object.field-0-is c.in-Ok-Object.ensures.reached).fit

pub returns-in-Ok-Object : goal.returns-in-Ok-Object
returns-in-Ok-Object g c = c.resize_object.ensures c.args.to c.args.who (subst (ReachesSo g.D.Disk AFile (changing_way c.args.to) c.args.who c.args.self.now) c.in-Ok-Object.field-0-is c.in-Ok-Object.ensures.reached)
