use Rattle.std.proofs.Common.{◌≡◌, Some, None, refl, sym, ◌∙◌, ap, subst}
use Rattle.cfs_core.proofs.Words.{AFile, AnIndex, draft_of, Either, named, Object, object_kind, Wanted}
use Rattle.cfs_core.specs.Visits.{Sort, as_object}
use Rattle.cfs_core.specs.Ways.{Arrives, unfit_of}
use Rattle.cfs_core.proofs.Refusing.{file_there, index_there}
use Rattle.cfs_core.proofs.Serving.{kind_is, named_root}
use Rattle.cfs_core.proofs.Views.{shut_by}
use Rattle.cfs_core.proofs.Ways.{bare_of, reaches}
use Rattle.cfs_core.proofs.kernel.Core.reach.Goals as goal

-- what is there, where it is wanted
fits : (wants : Wanted) (o : Object) → unfit_of wants (Some (object_kind o)) ≡ None → (a : Sort wants) × (o ≡ as_object wants a)
fits AnIndex o is = index_there o is
fits AFile o is = file_there o is
fits Either o is = (o, refl)

pub returns-in-Some-clause-reached : goal.returns-in-Some-clause-reached
returns-in-Some-clause-reached g c = record { through = c.in-Some.ensures.through; has = c.in-Some.ensures.has; holds = c.in-Some.ensures.holds }

pub returns-in_ok-id-in-None-clause-reached : goal.returns-in_ok-id-in-None-clause-reached
returns-in_ok-id-in-None-clause-reached g c =
    let k = c.args.self.now in
    let id = c.in_ok-id-in-None.id in
    let kind = c.in_ok-id-in-None.kind in
    let came = c.in_ok-id-in-None.ensures in
    record {
      reached = λ request by. (
        (λ s serves.
            let arrived = came.arrived request by s serves in
            let fit = ap (λ x. unfit_of c.args.wants (Some x)) (kind_is g.D.Disk k s serves id arrived.0 kind came.kind arrived.1.there) ∙ came.wanted in
            let a = fits c.args.wants arrived.0 fit in
            let name = sym (ap (named s c.args.who) by.to) ∙ arrived.1.name in
            let bare = bare_of s c.args.who c.args.wants c.args.way.to id arrived.0 serves.state name arrived.1.there fit (c.in-None.ensures.bare s serves) in
            (a.0, reaches s c.args.who request id _ (subst (Arrives s c.args.who request id) a.1 arrived.1) (ap (draft_of s c.args.who) by.to ∙ bare), shut_by g.D.Disk k s serves c.args.who c.args.way.changes c.args.way.to id name bare (came.free s serves))),
        named_root k.directory.named id kind came.kind,
      );
      fit = came.wanted;
      kind_is = λ s o serves there. kind_is g.D.Disk k s serves id o kind came.kind there;
      on_disk = came.on_disk;
      some = came.some;
      also = came.also;
    }
