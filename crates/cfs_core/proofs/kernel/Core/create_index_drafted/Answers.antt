use Rattle.std.proofs.Common.{◌/◌, refl, sym, ◌∙◌, subst, arith, IsSome}
use Rattle.cfs_core.proofs.Words.{ltb-true, Through}
use Rattle.ufs_model.specs.declared.asked.Reply.TheVariants as replies
use Rattle.ufs_model.specs.declared.asked.Request.TheVariants as asks
use Rattle.cfs_core.proofs.After.{tries_where}
use Rattle.cfs_core.proofs.Answering.{tries_refusal}
use Rattle.cfs_core.proofs.Fitting.{has_grant}
use Rattle.cfs_core.proofs.Indexed.{beyond_index, goes_index, index, of_index, range_index}
use Rattle.cfs_core.proofs.Makings.{few_slots, index_makes, out_of_slots, some_slots}
use Rattle.cfs_core.proofs.Views.{FindsGrant}
use Rattle.cfs_core.proofs.kernel.Core.create_index_drafted.Goals as goal

pub returns-then-not-has_drafted : goal.returns-then-not-has_drafted
returns-then-not-has_drafted g c = λ who drafted. tries_refusal g.D.Disk g.met.D.Disk.left_sized g.met.D.Disk.sized c.args.self.now who (asks.CreateIndex c.args.slots (Through c.args.grant) c.args.slot) replies.Slot tt
    (λ s serves. beyond_index g.D.Disk who c.args.grant (λ s. c.table_follows_the_model.ensures.found s who c.args.grant) c.args.self.now drafted s serves c.args.slots c.args.slot (sym (c.has_drafted.ensures drafted.drafting drafted.has) ∙ c.if-not-has_drafted.true))

pub returns-then-slots-eq0 : goal.returns-then-slots-eq0
returns-then-slots-eq0 g c = λ who drafted. tries_refusal g.D.Disk g.met.D.Disk.left_sized g.met.D.Disk.sized c.args.self.now who (asks.CreateIndex c.args.slots (Through c.args.grant) c.args.slot) replies.Range tt
    (λ s serves. range_index g.D.Disk who c.args.grant (λ s. c.table_follows_the_model.ensures.found s who c.args.grant) c.args.self.now drafted s serves c.args.slots c.args.slot (sym (c.has_drafted.ensures drafted.drafting drafted.has) ∙ c.if-not-has_drafted.false) (out_of_slots c.args.slots c.then-slots-eq0.either))

pub has_drafted-requires : goal.has_drafted-requires
has_drafted-requires g c = subst (λ o. IsSome o) (sym c.requires.holds.has) refl

pub make_drafted-requires-clause-has : goal.make_drafted-requires-clause-has
make_drafted-requires-clause-has g c =
    let less = ltb-true c.args.slot (c.requires.holds.drafting.root.size / 8) (sym (c.has_drafted.ensures c.requires.holds.drafting c.requires.holds.has) ∙ c.if-not-has_drafted.false) in
    record { drafting = c.requires.holds.drafting; has = c.requires.holds.has; within = omega (arith, less) }

pub returns : goal.returns
returns g c = λ who drafted.
    let law : FindsGrant who c.args.grant = λ s. c.table_follows_the_model.ensures.found s who c.args.grant in
    tries_where refl (c.make_drafted.ensures who (asks.CreateIndex c.args.slots (Through c.args.grant) c.args.slot) (index_makes c.args.slots (Through c.args.grant) c.args.slot) (has_grant drafted law)) (λ s serves. record {
      to = refl;
      index = λ d has. ((index g.D.Disk who c.args.grant law c.args.self.now drafted s serves).0, of_index g.D.Disk who c.args.grant law c.args.self.now drafted s serves d has);
      goes = goes_index g.D.Disk who c.args.grant law c.args.self.now drafted s serves c.args.slots c.args.slot (sym (c.has_drafted.ensures drafted.drafting drafted.has) ∙ c.if-not-has_drafted.false) (some_slots c.args.slots c.if-slots-eq0.false) (few_slots c.args.slots c.if-slots-gt-MOST_SLOTS.false);
    })
