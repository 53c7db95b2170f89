use Rattle.std.proofs.Common.{◌≡◌, Option, Some, None, true, false, is_none, is_some, refl, sym, ◌∙◌, ap, subst, option_copied, option_and_then, IsSome, arith}
use Rattle.cfs_core.proofs.Words.{draft_of, Grant, grant_of, Reply, session_grant, State}
use Rattle.cfs_core.specs.Ways.{unfit_of}
use Rattle.cfs_core.specs.Drafts.{HasNoneOf}
use Rattle.cfs_core.specs.Kernel.{grants_in}
use Rattle.cfs_core.specs.Handles.{drafting_at}
use Rattle.cfs_core.proofs.Reached.{undrafted}
use Rattle.cfs_core.proofs.Views.{held_in, none_there}
use Rattle.cfs_core.proofs.Fitting.{unfitted}
use Rattle.cfs_core.proofs.kernel.Core.drafted.Goals.{else-is_some-via-then-is_some+else-is_fit, else-is_some-via-else-is_some}
use Rattle.cfs_core.proofs.kernel.Core.drafted.Goals as goal

some_there : {A : Type 0} (o : Option A) → is_some o ≡ true → (x : A) × (o ≡ Some x)
some_there None is = cc
some_there (Some x) is = (x, refl)

none_is : {A : Type 0} (o : Option A) → is_some o ≡ false → o ≡ None
none_is None is = refl
none_is (Some x) is = cc

no_refusal : (o : Option Reply) → is_none o ≡ true → o ≡ None
no_refusal None is = refl
no_refusal (Some r) is = cc

pub returns-then-is_fit-clause-has : goal.returns-then-is_fit-clause-has
returns-then-is_fit-clause-has g c =
    let draft = some_there c.draft.result (sym c.is_some.ensures ∙ c.if-is_some.true) in
    record {
      grant = c.in_ok-found.found;
      found = ap (λ k. session_grant (grants_in k.handles) c.args.who c.in-Through.grant) (sym c.self.view_is) ∙ sym c.find.ensures ∙ c.in_ok-found.was;
      drafting = draft.0.now;
      has = ap (λ k. drafting_at k.handles c.in-Through.grant.draw) (sym c.self.view_is) ∙ sym c.draft.ensures ∙ ap option_copied draft.1;
      fit = ap (unfit_of c.args.wants) (sym c.kind.ensures.kind) ∙ no_refusal (unfit_of c.args.wants c.kind.result) (sym c.is_fit.ensures ∙ c.if-is_fit.true);
    }

pub returns-in_default-clause-bare : goal.returns-in_default-clause-bare
returns-in_default-clause-bare g c = λ s serves. subst (HasNoneOf c.args.wants) (sym (ap (draft_of s c.args.who) c.in_default.is)) tt

pub returns-in_err-found-clause-bare : goal.returns-in_err-found-clause-bare
returns-in_err-found-clause-bare g c = rw c.from_residual.ensures (λ s serves. subst (HasNoneOf c.args.wants) (sym (ap (draft_of s c.args.who) c.in-Through.is ∙ ap (option_and_then (λ (x : Grant). x.draft))
    (none_there (grant_of s c.args.who c.in-Through.grant) (sym c.in_err-found.was ∙ c.find.ensures ∙ ap (λ k. session_grant (grants_in k.handles) c.args.who c.in-Through.grant) c.self.view_is
    ∙ ap (λ gs. session_grant gs c.args.who c.in-Through.grant) serves.front.grants ∙ c.table_follows_the_model.ensures.found s c.args.who c.in-Through.grant)))) tt)

pub returns-then-is_fit-clause-holds : goal.returns-then-is_fit-clause-holds
returns-then-is_fit-clause-holds g c =
    let draft = some_there c.draft.result (sym c.is_some.ensures ∙ c.if-is_some.true) in
    record { drafting = draft.0.now; has = ap (λ k. drafting_at k.handles c.in-Through.grant.draw) (sym c.self.view_is) ∙ sym c.draft.ensures ∙ ap option_copied draft.1; within = omega arith }

pub returns-else-is_some-clause-bare : goal.returns-else-is_some-clause-bare
returns-else-is_some-clause-bare g c = λ s serves. subst (λ r. HasNoneOf c.args.wants (draft_of s c.args.who r)) (sym c.in-Through.is) (elim c.else-is_some.branch [
  | else-is_some-via-then-is_some+else-is_fit w ↦ (
      let draft = some_there c.draft.result (sym c.is_some.ensures ∙ w.if-is_some.true) in
      let found = ap (λ k. session_grant (grants_in k.handles) c.args.who c.in-Through.grant) (sym c.self.view_is) ∙ sym c.find.ensures ∙ c.in_ok-found.was in
      let has = ap (λ k. drafting_at k.handles c.in-Through.grant.draw) (sym c.self.view_is) ∙ sym c.draft.ensures ∙ ap option_copied draft.1 in
      let law = λ (s : State). c.table_follows_the_model.ensures.found s c.args.who c.in-Through.grant in
      unfitted g.D.Disk c.args.who c.in-Through.grant law c.args.self.now draft.0.now s serves
      (held_in g.D.Disk c.args.self.now c.args.who c.in-Through.grant draft.0.now has (subst (λ o. IsSome o) (sym found) refl) law s serves)
      c.in_ok-found.found found c.args.wants (λ none. let no : true ≡ false = sym (ap is_none (ap (unfit_of c.args.wants) w.kind.ensures.kind ∙ none)) ∙ sym w.is_fit.ensures ∙ w.if-is_fit.false in cc)
      )
  | else-is_some-via-else-is_some w ↦ subst (HasNoneOf c.args.wants) (sym (undrafted g.D.Disk c.args.self.now s serves c.args.who c.in-Through.grant
      (ap (λ k. drafting_at k.handles c.in-Through.grant.draw) (sym c.self.view_is) ∙ sym c.draft.ensures ∙ ap option_copied (none_is c.draft.result (sym c.is_some.ensures ∙ w.if-is_some.false))))) tt
])
