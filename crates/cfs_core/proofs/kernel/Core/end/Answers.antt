use Rattle.std.proofs.Common.{refl, ◌≡◌, ◌≢◌, true, None, Ok, Err, sym, ◌∙◌, ap, subst, IsSome}
use Rattle.cfs_base.specs.declared.refusal.Refused.TheVariants as refusals
use Rattle.cfs_base.specs.declared.refusal.Trouble.TheVariants as troubles
use Rattle.cfs_core.proofs.Words.{session_grant, refused_by, Refused, Trouble}
use Rattle.open_table.specs.Grants.{is_session_grant}
use Rattle.ufs_model.specs.declared.asked.Reply.TheVariants as replies
use Rattle.ufs_model.specs.declared.asked.Request.TheVariants as asks
use Rattle.cfs_core.specs.Calls.{TriesWith}
use Rattle.cfs_core.specs.Kernel.{Kernel, grants_in, is_ready_for}
use Rattle.cfs_core.specs.Handles.{have_draft, is_at, handles_but}
use Rattle.cfs_core.proofs.Ending.{closed_handles, tries_ended, tries_unended}
use Rattle.cfs_core.proofs.Views.{held_in}
use Rattle.cfs_core.proofs.Readied.{ready_for, sized_but, sized_with}
use Rattle.cfs_core.proofs.Handled.{grants_with}
use Rattle.cfs_base.proofs.Passed.{is_passed}
use Rattle.cfs_core.proofs.kernel.Core.end.Goals as goal

pub end_draft-requires : goal.end_draft-requires
end_draft-requires g c = record { ready = subst (λ x. is_ready_for (g.D.Disk.blocks x.disk) c.args.draft ≡ true) (sym c.self.view_is) c.requires.ready; size = c.self.invariant.size; left = ap (λ x. x.space.left) c.self.view_is ∙ c.requires.left }

pub close-requires : goal.close-requires
close-requires g c = record { undrafted = ap (λ x. have_draft (is_at c.args.grant.draw) x.handles) c.self.view_is ∙ c.requires.taken }

pub invariant_of-self-2 : goal.invariant_of-self-2
invariant_of-self-2 g c =
    let left = closed_handles c.args.who c.args.grant c.close.result c.self.inside.handles.handles c.close.new.self.handles (subst (λ x. IsSome (session_grant (grants_in x.handles) c.args.who c.args.grant)) (sym c.self.view_is) c.requires.found) c.close.ensures.handles c.close.ensures.none in
    let fewer = sized_but c.self.invariant (is_session_grant c.args.who c.args.grant) c.close.new.self.handles left in
    sized_with fewer c.end_draft.new.disk c.end_draft.new.space _ _ c.end_draft.ensures.calls.same.size c.end_draft.ensures.cylinders fewer.drawn_all fewer.ready

pub returns-clause-tries : goal.returns-clause-tries
returns-clause-tries g c = λ handles was drafting.
    let k : Kernel _ = record { disk = c.self.inside.disk; root = c.self.inside.root; directory = c.self.inside.directory; space = c.self.inside.space; words = c.self.inside.words; handles = c.self.inside.handles.handles; collections = c.self.inside.collections; stop = c.self.inside.stop } in
    let had = subst (λ gs. IsSome (session_grant gs c.args.who c.args.grant)) (ap grants_in was ∙ grants_with c.args.grant.draw None handles) c.requires.found in
    let left = closed_handles c.args.who c.args.grant c.close.result c.self.inside.handles.handles c.close.new.self.handles (subst (λ x. IsSome (session_grant (grants_in x.handles) c.args.who c.args.grant)) (sym c.self.view_is) c.requires.found) c.close.ensures.handles c.close.ensures.none
    ∙ ap (handles_but (is_session_grant c.args.who c.args.grant)) (ap (λ x. x.handles) c.self.view_is ∙ was) in
    subst (λ x. TriesWith g.D.Disk None (record x { handles = handles }) (record k { disk = c.end_draft.new.disk; space = c.end_draft.new.space; handles = c.close.new.self.handles }) c.args.who (asks.Close c.args.grant c.args.commit) (Ok replies.Done)) c.self.view_is
    (subst (λ ss. TriesWith g.D.Disk None (record k { handles = handles }) (record k { disk = c.end_draft.new.disk; space = c.end_draft.new.space; handles = ss }) c.args.who (asks.Close c.args.grant c.args.commit) (Ok replies.Done)) (sym left)
    (tries_ended g.D.Disk g.met.D.Disk.left_sized g.met.D.Disk.sized (record k { handles = handles }) c.args.who c.args.grant c.args.draft drafting (ready_for _ c.args.draft c.requires.ready).bare
    (held_in g.D.Disk (record k { handles = handles }) c.args.who c.args.grant c.args.draft drafting had (λ s. c.table_follows_the_model.ensures.found s c.args.who c.args.grant))
    c.end_draft.new.disk c.end_draft.new.space c.args.commit c.in_ok-end_draft.ensures))

pub invariant_of-self : goal.invariant_of-self
invariant_of-self g c = sized_with c.self.invariant c.end_draft.new.disk c.end_draft.new.space _ _ c.end_draft.ensures.calls.same.size c.end_draft.ensures.cylinders c.self.invariant.drawn_all c.self.invariant.ready

pub returns-in_err-end_draft-clause-tries : goal.returns-in_err-end_draft-clause-tries
returns-in_err-end_draft-clause-tries g c = λ handles was drafting.
    let k : Kernel _ = record { disk = c.self.inside.disk; root = c.self.inside.root; directory = c.self.inside.directory; space = c.self.inside.space; words = c.self.inside.words; handles = c.self.inside.handles.handles; collections = c.self.inside.collections; stop = c.self.inside.stop } in
    let had = subst (λ gs. IsSome (session_grant gs c.args.who c.args.grant)) (ap grants_in was ∙ grants_with c.args.grant.draw None handles) c.requires.found in
    rw (is_passed _ _ c.from_residual.ensures.1)
    (subst (λ x. TriesWith g.D.Disk None (record x { handles = handles }) (record k { disk = c.end_draft.new.disk; space = c.end_draft.new.space }) c.args.who (asks.Close c.args.grant c.args.commit) (Err (refused_by c.in_err-end_draft.field-0.0))) c.self.view_is
    (subst (λ ss. TriesWith g.D.Disk None (record k { handles = handles }) (record k { disk = c.end_draft.new.disk; space = c.end_draft.new.space; handles = ss }) c.args.who (asks.Close c.args.grant c.args.commit) (Err (refused_by c.in_err-end_draft.field-0.0))) (sym (ap (λ x. x.handles) c.self.view_is ∙ was))
    (tries_unended g.D.Disk g.met.D.Disk.left_sized g.met.D.Disk.sized (record k { handles = handles }) c.args.who c.args.grant c.args.draft drafting (ready_for _ c.args.draft c.requires.ready).bare
    (held_in g.D.Disk (record k { handles = handles }) c.args.who c.args.grant c.args.draft drafting had (λ s. c.table_follows_the_model.ensures.found s c.args.who c.args.grant))
    c.end_draft.new.disk c.end_draft.new.space c.args.commit c.in_err-end_draft.field-0.0 c.in_err-end_draft.ensures)))

never_memory : (t : Trouble) (e : Refused) → e ≡ refused_by t → e ≢ refusals.Memory
never_memory (troubles.Disk tried) e is = λ no. let apart = sym is ∙ no in cc
never_memory (troubles.Damaged damage) e is = λ no. let apart = sym is ∙ no in cc

pub returns-in_err-end_draft-clause-never : goal.returns-in_err-end_draft-clause-never
returns-in_err-end_draft-clause-never g c = rw (is_passed _ _ c.from_residual.ensures.1) (never_memory c.in_err-end_draft.field-0.0 _ refl)
