use Rattle.std.proofs.Common.{◌/◌, refl, sym, ◌∙◌, subst, arith, IsSome}
use Rattle.cfs_core.proofs.Words.{is_there, ltb-true, not-false, not-true, Through}
use Rattle.ufs_model.specs.declared.asked.Reply.TheVariants as replies
use Rattle.ufs_model.specs.declared.asked.Request.TheVariants as asks
use Rattle.cfs_core.proofs.After.{tries_where}
use Rattle.cfs_core.proofs.Answering.{tries_refusal}
use Rattle.cfs_core.proofs.Fitting.{has_grant}
use Rattle.cfs_core.proofs.Indexed.{beyond_retain, goes_retain, gone_retain, index, of_index}
use Rattle.cfs_core.proofs.Refilled.{retain_alters}
use Rattle.cfs_core.proofs.Views.{FindsGrant}
use Rattle.cfs_core.proofs.kernel.Core.retain_draft.Goals as goal

pub returns-then-lacks : goal.returns-then-lacks
returns-then-lacks g c = λ who drafted. tries_refusal g.D.Disk g.met.D.Disk.left_sized g.met.D.Disk.sized c.args.self.now who (asks.Retain (Through c.args.grant) c.args.slot c.args.id) replies.NoObject tt
    (λ s serves. gone_retain g.D.Disk who c.args.grant (λ s. c.table_follows_the_model.ensures.found s who c.args.grant) c.args.self.now drafted s serves c.args.slot c.args.id (not-true (is_there s.graph c.args.id) (sym (c.lacks.ensures.gone s serves) ∙ c.if-lacks.true)))

pub returns-then-not-has_drafted : goal.returns-then-not-has_drafted
returns-then-not-has_drafted g c = λ who drafted. tries_refusal g.D.Disk g.met.D.Disk.left_sized g.met.D.Disk.sized c.args.self.now who (asks.Retain (Through c.args.grant) c.args.slot c.args.id) replies.Slot tt
    (λ s serves. beyond_retain g.D.Disk who c.args.grant (λ s. c.table_follows_the_model.ensures.found s who c.args.grant) c.args.self.now drafted s serves c.args.slot c.args.id
    (not-false (is_there s.graph c.args.id) (sym (c.lacks.ensures.gone s serves) ∙ c.if-lacks.false)) (sym (c.has_drafted.ensures drafted.drafting drafted.has) ∙ c.if-not-has_drafted.true))

pub has_drafted-requires : goal.has_drafted-requires
has_drafted-requires g c = subst (λ o. IsSome o) (sym c.requires.has) refl

pub put_drafted-requires-clause-has : goal.put_drafted-requires-clause-has
put_drafted-requires-clause-has g c =
    let less = ltb-true c.args.slot (c.requires.drafting.root.size / 8) (sym (c.has_drafted.ensures c.requires.drafting c.requires.has) ∙ c.if-not-has_drafted.false) in
    record { drafting = c.requires.drafting; has = c.requires.has; within = omega (arith, less) }

pub put_drafted-requires-clause-slot : goal.put_drafted-requires-clause-slot
put_drafted-requires-clause-slot g c = let some = c.lacks.ensures.some c.if-lacks.false c.args.id refl in (omega (arith, some), omega arith, omega arith)

pub returns : goal.returns
returns g c = λ who drafted.
    let law : FindsGrant who c.args.grant = λ s. c.table_follows_the_model.ensures.found s who c.args.grant in
    tries_where refl (c.put_drafted.ensures who (asks.Retain (Through c.args.grant) c.args.slot c.args.id) (has_grant drafted law) refl) (λ s serves. record {
      alters = retain_alters s who c.args.grant c.args.slot c.args.id;
      of_it = λ d has. ((index g.D.Disk who c.args.grant law c.args.self.now drafted s serves).0, of_index g.D.Disk who c.args.grant law c.args.self.now drafted s serves d has, refl);
      goes = goes_retain g.D.Disk who c.args.grant law c.args.self.now drafted s serves c.args.slot c.args.id
          (not-false (is_there s.graph c.args.id) (sym (c.lacks.ensures.gone s serves) ∙ c.if-lacks.false)) (sym (c.has_drafted.ensures drafted.drafting drafted.has) ∙ c.if-not-has_drafted.false);
    })
