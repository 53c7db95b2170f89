use Rattle.std.proofs.Common.{length, subst}
use Rattle.cfs_core.specs.Kernel.{Kernel}
use Rattle.cfs_core.specs.StandsFor.{StandsFor}
use Rattle.ufs_model.specs.Asks.{IsAsked, IsExactIn}
use Rattle.ufs_model.specs.State.{State}
use Rattle.cfs_serve.proofs.watched.WatchedAsker.ask.Goals as goal

pub returns-clause-event : goal.returns-clause-event
returns-clause-event g c =
    subst (λ (k : Kernel g.row.D.Denot). (s : State) → StandsFor g.D.Disk k s → IsAsked (λ t. StandsFor g.D.Disk c.ask.new.self t) k.words.seed s c.args.who c.args.request.now c.ask.result)
    c.self.view_is c.ask.ensures.event

pub returns-clause-exact : goal.returns-clause-exact
returns-clause-exact g c =
    subst (λ (k : Kernel g.row.D.Denot). (s : State) → StandsFor g.D.Disk k s → IsExactIn (length k.space.free) s c.args.request.now c.ask.result)
    c.self.view_is c.ask.ensures.exact
