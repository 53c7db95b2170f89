use Rattle.std.proofs.Common.{refl, sym, subst, IsSome}
use Rattle.cfs_core.proofs.Words.{Through}
use Rattle.ufs_model.specs.declared.asked.Request.TheVariants as asks
use Rattle.cfs_core.specs.Calls.{Tries}
use Rattle.cfs_core.proofs.Indexed.{tries_retrieved}
use Rattle.cfs_core.proofs.kernel.Core.retrieve_draft.Goals as goal

pub look_drafted-requires : goal.look_drafted-requires
look_drafted-requires g c = subst (λ o. IsSome o) (sym c.requires.has) refl

pub returns : goal.returns
returns g c = λ who drafted. subst (λ x. Tries g.D.Disk c.args.self.now x who (asks.Retrieve (Through c.args.grant) c.args.slot) c.look_drafted.result) (sym c.look_drafted.ensures.same)
    (tries_retrieved g.D.Disk g.met.D.Disk.left_sized g.met.D.Disk.sized who c.args.grant (λ s. c.table_follows_the_model.ensures.found s who c.args.grant) c.args.self.now drafted c.look_drafted.new.self.disk c.args.slot c.look_drafted.result (c.look_drafted.ensures.looks drafted.drafting drafted.has))
