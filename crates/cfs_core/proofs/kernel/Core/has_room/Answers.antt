use Rattle.std.proofs.Common.{ap, refl, sym, ◌∙◌, arith}
use Rattle.cfs_core.proofs.Words.{list_all}
use Rattle.cfs_core.specs.Kernel.{is_ready}
use Rattle.cfs_core.proofs.Readied.{drafts_take}
use Rattle.cfs_core.specs.StandsFor.{free_to_come}
use Rattle.cfs_core.proofs.Serving.{ordered, room_is, room_with}
use Rattle.cfs_core.proofs.kernel.Core.has_room.Goals as goal

pub returns-clause-room : goal.returns-clause-room
returns-clause-room g c = λ s serves calm.
    let k = c.args.self.now in
    let ready = ap (λ x. list_all (is_ready x.directory.room) x.handles) (sym c.self.view_is) ∙ c.self.invariant.ready in
    omega (arith, room_is g.D.Disk k s serves (free_to_come g.D.Disk k) calm refl, drafts_take s.graph (ordered g.D.Disk k s serves) _ _ k.handles s.grants ready serves.front.grants serves.drafts serves.state.grants serves.state.alone)

pub returns-clause-lost : goal.returns-clause-lost
returns-clause-lost g c = λ s serves.
    let k = c.args.self.now in
    let ready = ap (λ x. list_all (is_ready x.directory.room) x.handles) (sym c.self.view_is) ∙ c.self.invariant.ready in
    omega (arith, room_with g.D.Disk k s serves, drafts_take s.graph (ordered g.D.Disk k s serves) _ _ k.handles s.grants ready serves.front.grants serves.drafts serves.state.grants serves.state.alone)
