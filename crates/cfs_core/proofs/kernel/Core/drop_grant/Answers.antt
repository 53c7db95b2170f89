use Rattle.std.proofs.Common.{◌≡◌, [], ◌∷◌, true, None, refl, sym, ◌∙◌, ap, subst, IsSome}
use Rattle.cfs_core.proofs.Words.{first_grant, session_grant, session_grant-first, without_grant}
use Rattle.open_table.specs.Grants.{is_session_grant}
use Rattle.cfs_core.specs.Kernel.{Kernel, grants_in, is_ready_for}
use Rattle.cfs_core.specs.Leaving.{GivesUp, Sheds}
use Rattle.cfs_core.specs.Handles.{have_draft, is_at, handles_but, with_drafting}
use Rattle.cfs_core.proofs.Dropping.{apart_tuids, first_goes, grants_but, shed_bare, shed_drafted}
use Rattle.cfs_core.proofs.Ending.{closed_handles}
use Rattle.cfs_core.proofs.Views.{the_same}
use Rattle.cfs_core.proofs.Lefts.{kept_told}
use Rattle.cfs_core.proofs.Readied.{ready_at, ready_for, sized_but, sized_taken}
use Rattle.cfs_core.proofs.Handled.{grants_with, none_taken}
use Rattle.cfs_core.proofs.kernel.Core.drop_grant.Goals as goal

pub close-requires : goal.close-requires
close-requires g c = record { undrafted = ap (have_draft (is_at c.args.grant.tuid.draw)) c.take-draft.ensures.handles ∙ none_taken c.args.grant.tuid.draw c.self.inside.handles.handles }

pub give_up-requires : goal.give_up-requires
give_up-requires g c = record {
  ready = subst (λ n. is_ready_for n c.in-Some.draft ≡ true) c.self.invariant.room (ready_at c.self.inside.directory.room c.args.grant.tuid.draw c.self.inside.handles.handles c.self.invariant.ready c.in-Some.draft (sym c.take-draft.ensures.draft ∙ c.in-Some.is));
}

pub invariant_of-self : goal.invariant_of-self
invariant_of-self g c =
    let some = subst (λ gs. IsSome (session_grant gs c.args.who c.args.grant.tuid)) (sym (ap grants_in c.take-draft.ensures.handles ∙ grants_with c.args.grant.tuid.draw None c.self.inside.handles.handles ∙ ap (λ x. grants_in x.handles) c.self.view_is)) (subst (λ o. IsSome o) (sym (session_grant-first (grants_in c.args.self.now.handles) c.args.who c.args.grant c.requires.first)) refl) in
    let left = closed_handles c.args.who c.args.grant.tuid c.close.result c.take-draft.new.self.handles c.close.new.self.handles some c.close.ensures.handles c.close.ensures.none in
    let sized = sized_but (sized_taken c.self.invariant c.args.grant.tuid.draw c.take-draft.new.self.handles c.take-draft.ensures.handles) (is_session_grant c.args.who c.args.grant.tuid) c.close.new.self.handles left in
    let told = c.draft_ended.ensures in
    record {
      size = sized.size;
      room = sized.room;
      some = sized.some;
      drawn_all = sized.drawn_all;
      kept = kept_told c.self.inside.directory.room c.self.inside.collections c.draft_ended.new.self [] (c.args.grant.id ∷ []) told.ended told.called told.finished sized.kept;
      ready = sized.ready;
    }

pub invariant_of-self-in-None : goal.invariant_of-self-in-None
invariant_of-self-in-None g c =
    let some = subst (λ gs. IsSome (session_grant gs c.args.who c.args.grant.tuid)) (sym (ap grants_in c.take-draft.ensures.handles ∙ grants_with c.args.grant.tuid.draw None c.self.inside.handles.handles ∙ ap (λ x. grants_in x.handles) c.self.view_is)) (subst (λ o. IsSome o) (sym (session_grant-first (grants_in c.args.self.now.handles) c.args.who c.args.grant c.requires.first)) refl) in
    let left = closed_handles c.args.who c.args.grant.tuid c.close.result c.take-draft.new.self.handles c.close.new.self.handles some c.close.ensures.handles c.close.ensures.none in
    let sized = sized_but (sized_taken c.self.invariant c.args.grant.tuid.draw c.take-draft.new.self.handles c.take-draft.ensures.handles) (is_session_grant c.args.who c.args.grant.tuid) c.close.new.self.handles left in
    let told = c.draft_ended.ensures in
    record {
      size = sized.size;
      room = sized.room;
      some = sized.some;
      drawn_all = sized.drawn_all;
      kept = kept_told c.self.inside.directory.room c.self.inside.collections c.draft_ended.new.self [] (c.args.grant.id ∷ []) told.ended told.called told.finished sized.kept;
      ready = sized.ready;
    }

pub returns-in-Some-clause-sheds : goal.returns-in-Some-clause-sheds
returns-in-Some-clause-sheds g c =
    let some = subst (λ gs. IsSome (session_grant gs c.args.who c.args.grant.tuid)) (sym (ap grants_in c.take-draft.ensures.handles ∙ grants_with c.args.grant.tuid.draw None c.self.inside.handles.handles ∙ ap (λ x. grants_in x.handles) c.self.view_is)) (subst (λ o. IsSome o) (sym (session_grant-first (grants_in c.args.self.now.handles) c.args.who c.args.grant c.requires.first)) refl) in
    let left = closed_handles c.args.who c.args.grant.tuid c.close.result c.take-draft.new.self.handles c.close.new.self.handles some c.close.ensures.handles c.close.ensures.none in
    let now = left ∙ ap (handles_but (is_session_grant c.args.who c.args.grant.tuid)) c.take-draft.ensures.handles in
    let k : Kernel _ = record { disk = c.self.inside.disk; root = c.self.inside.root; directory = c.self.inside.directory; space = c.self.inside.space; words = c.self.inside.words; handles = c.self.inside.handles.handles; collections = c.self.inside.collections; stop = c.self.inside.stop } in
    let drafting = sym c.take-draft.ensures.draft ∙ c.in-Some.is in
    subst (λ x. Sheds g.D.Disk c.args.who x c.give_up.new.self) c.self.view_is
    (shed_drafted g.D.Disk k c.args.who c.args.grant.tuid c.args.grant.id (λ s serves. the_same (session_grant (grants_in k.handles) c.args.who c.args.grant.tuid) _ c.args.grant (ap (λ x. session_grant (grants_in x.handles) c.args.who c.args.grant.tuid) c.self.view_is ∙ (session_grant-first (grants_in c.args.self.now.handles) c.args.who c.args.grant c.requires.first)) (ap (λ gs. session_grant gs c.args.who c.args.grant.tuid) serves.front.grants ∙ c.table_follows_the_model.ensures.found s c.args.who c.args.grant.tuid))
    (first_goes (grants_in k.handles) c.args.who c.args.grant (apart_tuids (grants_in c.self.inside.handles.handles) c.grants_are_a_table.ensures) (ap (λ x. first_grant (grants_in x.handles) c.args.who) c.self.view_is ∙ c.requires.first))
    c.draft_ended.new.self c.draft_ended.ensures.ended c.draft_ended.ensures.called c.draft_ended.ensures.finished
    c.in-Some.draft drafting (ready_for c.self.inside.directory.room c.in-Some.draft (ready_at c.self.inside.directory.room c.args.grant.tuid.draw c.self.inside.handles.handles c.self.invariant.ready c.in-Some.draft drafting)).bare c.give_up.new.self
    (subst (λ ss. GivesUp g.D.Disk c.in-Some.draft (record k { handles = ss; collections = c.draft_ended.new.self }) c.give_up.new.self) now c.give_up.ensures))

pub returns-in-Some-clause-gone : goal.returns-in-Some-clause-gone
returns-in-Some-clause-gone g c =
    let some = subst (λ gs. IsSome (session_grant gs c.args.who c.args.grant.tuid)) (sym (ap grants_in c.take-draft.ensures.handles ∙ grants_with c.args.grant.tuid.draw None c.self.inside.handles.handles ∙ ap (λ x. grants_in x.handles) c.self.view_is)) (subst (λ o. IsSome o) (sym (session_grant-first (grants_in c.args.self.now.handles) c.args.who c.args.grant c.requires.first)) refl) in
    let left = closed_handles c.args.who c.args.grant.tuid c.close.result c.take-draft.new.self.handles c.close.new.self.handles some c.close.ensures.handles c.close.ensures.none in
    let now = left ∙ ap (handles_but (is_session_grant c.args.who c.args.grant.tuid)) c.take-draft.ensures.handles in
    ap (λ x. grants_in x.handles) c.give_up.ensures.same ∙ ap grants_in now ∙ grants_but (is_session_grant c.args.who c.args.grant.tuid) (with_drafting c.args.grant.tuid.draw None c.self.inside.handles.handles)
    ∙ ap (λ gs. without_grant gs c.args.who c.args.grant.tuid) (grants_with c.args.grant.tuid.draw None c.self.inside.handles.handles ∙ ap (λ x. grants_in x.handles) c.self.view_is)

pub returns-in-None-clause-sheds : goal.returns-in-None-clause-sheds
returns-in-None-clause-sheds g c =
    let some = subst (λ gs. IsSome (session_grant gs c.args.who c.args.grant.tuid)) (sym (ap grants_in c.take-draft.ensures.handles ∙ grants_with c.args.grant.tuid.draw None c.self.inside.handles.handles ∙ ap (λ x. grants_in x.handles) c.self.view_is)) (subst (λ o. IsSome o) (sym (session_grant-first (grants_in c.args.self.now.handles) c.args.who c.args.grant c.requires.first)) refl) in
    let left = closed_handles c.args.who c.args.grant.tuid c.close.result c.take-draft.new.self.handles c.close.new.self.handles some c.close.ensures.handles c.close.ensures.none in
    let kept = c.take-draft.ensures.kept c.in-None.is in
    let now = left ∙ ap (handles_but (is_session_grant c.args.who c.args.grant.tuid)) kept in
    let k : Kernel _ = record { disk = c.self.inside.disk; root = c.self.inside.root; directory = c.self.inside.directory; space = c.self.inside.space; words = c.self.inside.words; handles = c.self.inside.handles.handles; collections = c.self.inside.collections; stop = c.self.inside.stop } in
    subst (λ x. Sheds g.D.Disk c.args.who x (record k { handles = c.close.new.self.handles; collections = c.draft_ended.new.self })) c.self.view_is
    (subst (λ ss. Sheds g.D.Disk c.args.who k (record k { handles = ss; collections = c.draft_ended.new.self })) (sym now)
    (shed_bare g.D.Disk k c.args.who c.args.grant.tuid c.args.grant.id (λ s serves. the_same (session_grant (grants_in k.handles) c.args.who c.args.grant.tuid) _ c.args.grant (ap (λ x. session_grant (grants_in x.handles) c.args.who c.args.grant.tuid) c.self.view_is ∙ (session_grant-first (grants_in c.args.self.now.handles) c.args.who c.args.grant c.requires.first)) (ap (λ gs. session_grant gs c.args.who c.args.grant.tuid) serves.front.grants ∙ c.table_follows_the_model.ensures.found s c.args.who c.args.grant.tuid))
    (first_goes (grants_in k.handles) c.args.who c.args.grant (apart_tuids (grants_in c.self.inside.handles.handles) c.grants_are_a_table.ensures) (ap (λ x. first_grant (grants_in x.handles) c.args.who) c.self.view_is ∙ c.requires.first))
    c.draft_ended.new.self c.draft_ended.ensures.ended c.draft_ended.ensures.called c.draft_ended.ensures.finished
    (ap (have_draft (is_at c.args.grant.tuid.draw)) (sym kept ∙ c.take-draft.ensures.handles) ∙ none_taken c.args.grant.tuid.draw c.self.inside.handles.handles)))

pub returns-in-None-clause-gone : goal.returns-in-None-clause-gone
returns-in-None-clause-gone g c =
    let some = subst (λ gs. IsSome (session_grant gs c.args.who c.args.grant.tuid)) (sym (ap grants_in c.take-draft.ensures.handles ∙ grants_with c.args.grant.tuid.draw None c.self.inside.handles.handles ∙ ap (λ x. grants_in x.handles) c.self.view_is)) (subst (λ o. IsSome o) (sym (session_grant-first (grants_in c.args.self.now.handles) c.args.who c.args.grant c.requires.first)) refl) in
    let left = closed_handles c.args.who c.args.grant.tuid c.close.result c.take-draft.new.self.handles c.close.new.self.handles some c.close.ensures.handles c.close.ensures.none in
    let now = left ∙ ap (handles_but (is_session_grant c.args.who c.args.grant.tuid)) (c.take-draft.ensures.kept c.in-None.is) in
    ap grants_in now ∙ grants_but (is_session_grant c.args.who c.args.grant.tuid) c.self.inside.handles.handles ∙ ap (λ x. without_grant (grants_in x.handles) c.args.who c.args.grant.tuid) c.self.view_is
