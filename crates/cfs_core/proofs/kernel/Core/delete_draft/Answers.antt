use Rattle.std.proofs.Common.{None, Ok, Err, refl, sym, ◌∙◌, ap, subst, IsSome}
use Rattle.cfs_core.proofs.Words.{Fill, is_id, Through}
use Rattle.ufs_model.specs.declared.asked.Request.TheVariants as asks
use Rattle.cfs_core.specs.Calls.{Tries}
use Rattle.cfs_core.specs.Drafts.{HasGrant, TriesThroughWith}
use Rattle.cfs_core.specs.Handles.{drafting_at}
use Rattle.cfs_core.proofs.After.{where_then}
use Rattle.cfs_core.proofs.Fitting.{has_grant}
use Rattle.cfs_core.proofs.Indexed.{exact_here, goes_delete, index, of_index, tries_undeleted, tries_unlooked}
use Rattle.cfs_core.proofs.Refilled.{delete_alters}
use Rattle.cfs_core.proofs.Views.{FindsGrant}
use Rattle.cfs_base.proofs.Passed.{is_passed}
use Rattle.cfs_core.proofs.kernel.Core.delete_draft.Goals as goal

pub look_drafted-requires : goal.look_drafted-requires
look_drafted-requires g c = subst (λ o. IsSome o) (sym c.requires.has) refl

pub returns-in_err-reply : goal.returns-in_err-reply
returns-in_err-reply g c = λ who drafted.
    let request = asks.Delete (Through c.args.grant) c.args.slot in
    rw (is_passed _ _ c.from_residual.ensures.1) (subst (λ x. Tries g.D.Disk c.args.self.now x who request (Err c.in_err-reply.field-0.0)) (sym c.look_drafted.ensures.same)
    (tries_unlooked g.D.Disk g.met.D.Disk.left_sized g.met.D.Disk.sized who c.args.grant (λ s. c.table_follows_the_model.ensures.found s who c.args.grant) c.args.self.now drafted c.look_drafted.new.self.disk c.args.slot c.look_drafted.result (c.look_drafted.ensures.looks drafted.drafting drafted.has) request c.in_err-reply.field-0.0 c.in_err-reply.was))

pub returns-else-holds_something : goal.returns-else-holds_something
returns-else-holds_something g c = λ who drafted.
    subst (λ x. Tries g.D.Disk c.args.self.now x who (asks.Delete (Through c.args.grant) c.args.slot) (Ok c.in_ok-reply.reply)) (sym c.look_drafted.ensures.same)
    (tries_undeleted g.D.Disk g.met.D.Disk.left_sized g.met.D.Disk.sized who c.args.grant (λ s. c.table_follows_the_model.ensures.found s who c.args.grant) c.args.self.now drafted c.look_drafted.new.self.disk c.args.slot c.look_drafted.result (c.look_drafted.ensures.looks drafted.drafting drafted.has) c.in_ok-reply.reply c.in_ok-reply.was
    (sym c.holds_something.ensures ∙ c.if-holds_something.false))

pub put_drafted-requires-clause-has : goal.put_drafted-requires-clause-has
put_drafted-requires-clause-has g c = record {
  drafting = c.requires.drafting;
  has = ap (λ x. drafting_at x.handles c.args.grant.draw) c.look_drafted.ensures.same ∙ c.requires.has;
  within = (rw c.in_ok-reply.was at (c.look_drafted.ensures.looks c.requires.drafting c.requires.has).few) (sym c.holds_something.ensures ∙ c.if-holds_something.true);
}

pub returns-then-holds_something : goal.returns-then-holds_something
returns-then-holds_something g c = λ who drafted.
    let k = c.args.self.now in
    let law : FindsGrant who c.args.grant = λ s. c.table_follows_the_model.ensures.found s who c.args.grant in
    let request = asks.Delete (Through c.args.grant) c.args.slot in
    let looks = c.look_drafted.ensures.looks drafted.drafting drafted.has in
    where_then g.D.Disk 2 k c.look_drafted.new.self.disk c.put_drafted.new.self looks.reads request who _ c.put_drafted.result refl
    (subst (λ x. TriesThroughWith g.D.Disk x.space.left x c.put_drafted.new.self who c.args.grant (Fill c.args.slot None) request c.put_drafted.result) c.look_drafted.ensures.same
    (c.put_drafted.ensures who request (subst (λ x. HasGrant x who c.args.grant) (sym c.look_drafted.ensures.same) (let has = has_grant drafted law in record { found = has.found; law = law })) refl))
    (λ s serves.
    let exact = rw c.in_ok-reply.was at (exact_here g.D.Disk g.met.D.Disk.left_sized g.met.D.Disk.sized who c.args.grant law k drafted c.look_drafted.new.self.disk c.args.slot c.look_drafted.result looks s serves) in
    let may = goes_delete g.D.Disk who c.args.grant law k drafted s serves c.args.slot (ap is_id (sym exact) ∙ sym c.holds_something.ensures ∙ c.if-holds_something.true) in
    record {
      alters = delete_alters s who c.args.grant c.args.slot;
      of_it = λ d has. ((index g.D.Disk who c.args.grant law k drafted s serves).0, of_index g.D.Disk who c.args.grant law k drafted s serves d has, may.1);
      goes = may.0;
    })
