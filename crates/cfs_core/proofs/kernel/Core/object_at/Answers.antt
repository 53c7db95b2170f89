use Rattle.std.proofs.Common.{◌≡◌, Option, Some, None, Ok, Err, refl, sym, ◌∙◌, ap, subst}
use Rattle.cfs_core.proofs.Words.{Ghosts, Kind, directory_kind, object_kind, Object, object_at, Puid, Reply, State, Wanted}
use Rattle.ufs_model.specs.declared.asked.Reply.TheVariants as replies
use Rattle.cfs_core.specs.Kernel.{Kernel}
use Rattle.cfs_core.specs.StandsFor.{ServesIs}
use Rattle.cfs_core.specs.Ways.{unfit_of}
use Rattle.cfs_core.proofs.Answering.{tries_refusal, unfit_plain}
use Rattle.cfs_core.proofs.Serving.{kind_is, kind_there, object_listed}
use Rattle.cfs_core.proofs.Ways.{arrives, lacking, locked, no_name, read_only, refused_way, unfit_on_way}
use Rattle.cfs_base.proofs.Passed.{is_passed}
use Rattle.std.specs.Option.{ok_or}
use Rattle.cfs_core.specs.Calls.{Tries}
use Rattle.cfs_core.proofs.kernel.Core.object_at.Goals as goal

-- an object that is wanted is there, where its kind is listed
wanted_there : {D : Type 0} (g : Ghosts D) (k : Kernel D) (s : State) → ServesIs g k s → (id : Puid) (wants : Wanted) (found : Option Kind) (kind : Kind) → found ≡ directory_kind k.directory.named id → (found ≡ Some kind) × (unfit_of wants found ≡ None)
    → (o : Object) × (object_at s.graph id ≡ Some o) × (unfit_of wants (Some (object_kind o)) ≡ None)
wanted_there g k s serves id wants found kind is fit =
    let o = object_listed g k s serves id kind (sym is ∙ fit.0) in
    (o.0, o.1, ap (λ x. unfit_of wants (Some x)) (kind_is g k s serves id o.0 kind (sym is ∙ fit.0) o.1) ∙ ap (unfit_of wants) (sym fit.0) ∙ fit.1)

-- what an `ok_or` was called on
some_to : (o : Option Puid) (r : Reply) (id : Puid) → ok_or o r ≡ Ok id → o ≡ Some id
some_to None r id is = cc
some_to (Some x) r id is = cc

none_to : (o : Option Puid) (r k : Reply) → ok_or o r ≡ Err k → (o ≡ None) × (r ≡ k)
none_to None r k is = (refl, cc)
none_to (Some x) r k is = cc

pub returns-in_err-id-clause-refused : goal.returns-in_err-id-clause-refused
returns-in_err-id-clause-refused g c =
    let none = none_to c.goes_to.result replies.NoGrant c.in_err-id.field-0.0 (sym c.ok_or.ensures.value ∙ c.in_err-id.was) in
    rw (is_passed _ _ c.from_residual.ensures.1) (λ request by. subst (λ r. Tries g.D.Disk c.args.self.now c.args.self.now c.args.who request (Ok r)) none.1 (tries_refusal g.D.Disk g.met.D.Disk.left_sized g.met.D.Disk.sized c.args.self.now c.args.who request replies.NoGrant tt
    (λ s serves. refused_way s c.args.who request c.args.wants c.args.way by replies.NoGrant (no_name s c.args.who c.args.wants c.args.way (sym (c.goes_to.ensures s serves) ∙ none.0)))))

pub returns-then-lacks-clause-refused : goal.returns-then-lacks-clause-refused
returns-then-lacks-clause-refused g c = λ request by. tries_refusal g.D.Disk g.met.D.Disk.left_sized g.met.D.Disk.sized c.args.self.now c.args.who request replies.NoObject tt
    (λ s serves. refused_way s c.args.who request c.args.wants c.args.way by replies.NoObject
    (lacking s c.args.who c.args.wants c.args.way serves.state c.in_ok-id.id (sym (some_to c.goes_to.result replies.NoGrant c.in_ok-id.id (sym c.ok_or.ensures.value ∙ c.in_ok-id.was)) ∙ c.goes_to.ensures s serves) (sym (c.lacks.ensures.gone s serves) ∙ c.if-lacks.true)))

pub returns-in_err-kind-clause-refused : goal.returns-in_err-kind-clause-refused
returns-in_err-kind-clause-refused g c =
    rw (is_passed _ _ c.from_residual-in_err-kind.ensures.1) (λ request by. tries_refusal g.D.Disk g.met.D.Disk.left_sized g.met.D.Disk.sized c.args.self.now c.args.who request c.in_err-kind.field-0.0 (unfit_plain c.args.wants c.kind.result c.in_err-kind.field-0.0 c.in_err-kind.ensures.unfit)
    (λ s serves. refused_way s c.args.who request c.args.wants c.args.way by c.in_err-kind.field-0.0
    (unfit_on_way s c.args.who c.args.wants c.args.way serves.state c.in_ok-id.id (sym (some_to c.goes_to.result replies.NoGrant c.in_ok-id.id (sym c.ok_or.ensures.value ∙ c.in_ok-id.was)) ∙ c.goes_to.ensures s serves) (sym (c.lacks.ensures.gone s serves) ∙ c.if-lacks.false) c.in_err-kind.field-0.0
    (sym (ap (unfit_of c.args.wants) (c.kind.ensures.kind ∙ kind_there g.D.Disk c.args.self.now s serves c.in_ok-id.id)) ∙ c.in_err-kind.ensures.unfit))))

pub returns-then-may_only_read-clause-refused : goal.returns-then-may_only_read-clause-refused
returns-then-may_only_read-clause-refused g c = λ request by. tries_refusal g.D.Disk g.met.D.Disk.left_sized g.met.D.Disk.sized c.args.self.now c.args.who request replies.ReadOnly tt
    (λ s serves.
    let o = wanted_there g.D.Disk c.args.self.now s serves c.in_ok-id.id c.args.wants c.kind.result c.in_ok-kind.kind c.kind.ensures.kind c.in_ok-kind.ensures.fit in
    refused_way s c.args.who request c.args.wants c.args.way by replies.ReadOnly
    (read_only s c.args.who c.args.wants c.args.way serves.state c.in_ok-id.id (sym (some_to c.goes_to.result replies.NoGrant c.in_ok-id.id (sym c.ok_or.ensures.value ∙ c.in_ok-id.was)) ∙ c.goes_to.ensures s serves) (sym (c.lacks.ensures.gone s serves) ∙ c.if-lacks.false) o.0 o.1 o.2
    (sym (c.may_only_read.ensures s serves) ∙ c.if-may_only_read.true)))

pub returns-then-is_met-clause-refused : goal.returns-then-is_met-clause-refused
returns-then-is_met-clause-refused g c = λ request by. tries_refusal g.D.Disk g.met.D.Disk.left_sized g.met.D.Disk.sized c.args.self.now c.args.who request replies.Locked tt
    (λ s serves.
    let o = wanted_there g.D.Disk c.args.self.now s serves c.in_ok-id.id c.args.wants c.kind.result c.in_ok-kind.kind c.kind.ensures.kind c.in_ok-kind.ensures.fit in
    refused_way s c.args.who request c.args.wants c.args.way by replies.Locked
    (locked s c.args.who c.args.wants c.args.way serves.state c.in_ok-id.id (sym (some_to c.goes_to.result replies.NoGrant c.in_ok-id.id (sym c.ok_or.ensures.value ∙ c.in_ok-id.was)) ∙ c.goes_to.ensures s serves) (sym (c.lacks.ensures.gone s serves) ∙ c.if-lacks.false) o.0 o.1 o.2
    (sym (c.may_only_read.ensures s serves) ∙ c.if-may_only_read.false) (sym (c.is_met.ensures s serves) ∙ c.if-is_met.true)))

pub returns-clause-arrived : goal.returns-clause-arrived
returns-clause-arrived g c = λ request by s serves.
    let o = wanted_there g.D.Disk c.args.self.now s serves c.in_ok-id.id c.args.wants c.kind.result c.in_ok-kind.kind c.kind.ensures.kind c.in_ok-kind.ensures.fit in (
      o.0,
      arrives s c.args.who c.args.wants c.args.way serves.state c.in_ok-id.id (sym (some_to c.goes_to.result replies.NoGrant c.in_ok-id.id (sym c.ok_or.ensures.value ∙ c.in_ok-id.was)) ∙ c.goes_to.ensures s serves) (sym (c.lacks.ensures.gone s serves) ∙ c.if-lacks.false) o.0 o.1 o.2
          (sym (c.may_only_read.ensures s serves) ∙ c.if-may_only_read.false) (sym (c.is_met.ensures s serves) ∙ c.if-is_met.false) request by,
    )

pub returns-clause-free : goal.returns-clause-free
returns-clause-free g c = λ s serves. sym (c.is_met.ensures s serves) ∙ c.if-is_met.false
