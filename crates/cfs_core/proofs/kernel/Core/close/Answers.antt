use Rattle.std.proofs.Common.{◌≡◌, ◌≢◌, ℕ, Bool, Option, Some, None, Result, Ok, Err, refl, sym, ◌∙◌, ap, subst, true, false, not, IfErr, IsSome, is_some, option_copied, option_map}
use denote.Ref.{Bor}
use Rattle.cfs_core.proofs.Words.{Ghosts, session_grant, grant_of, refusal_of, Refused, Reply, shown, State, table_of, Tuid}
use Rattle.open_table.specs.declared.grant.OpenGrant as handles
use Rattle.ufs_model.specs.declared.asked.Reply.TheVariants as replies
use Rattle.ufs_model.specs.declared.asked.Request.TheVariants as asks
use Rattle.cfs_base.specs.declared.refusal.Refused.TheVariants as refusals
use Rattle.cfs_core.specs.Calls.{Tries}
use Rattle.cfs_core.specs.Kernel.{Kernel, grants_in, is_ready_for}
use Rattle.cfs_core.specs.Handles.{have_draft, is_at}
use Rattle.cfs_core.proofs.Answering.{tries_refusal}
use Rattle.cfs_core.specs.StandsFor.{ServesIs}
use Rattle.cfs_core.proofs.Views.{none_there, the_grant}
use Rattle.cfs_core.proofs.Joined.{tries_since, tries_unfinished}
use Rattle.cfs_core.proofs.Granted.{close_goes, close_none}
use Rattle.cfs_core.proofs.Readied.{ready_at, sized_taken, sized_with}
use Rattle.cfs_core.proofs.Handled.{grants_with, none_taken}
use Rattle.cfs_core.proofs.Words.{refused_by}
use Rattle.cfs_base.proofs.Passed.{is_passed}
use Rattle.cfs_core.proofs.kernel.Core.close.Goals as goal

is_none_of : (o : Option handles.OpenGrant) → is_some o ≡ false → o ≡ None
is_none_of None is = refl
is_none_of (Some x) is = cc

is_some_of : (o : Option handles.OpenGrant) → is_some o ≡ true → IsSome o
is_some_of None is = cc
is_some_of (Some x) is = refl

pub returns-then-is_none : goal.returns-then-is_none
returns-then-is_none g c =
    tries_refusal g.D.Disk g.met.D.Disk.left_sized g.met.D.Disk.sized c.args.self.now c.args.who (asks.Close c.args.grant c.args.commit) replies.NoGrant tt
    (λ s serves. close_none 0 s c.args.who c.args.grant c.args.commit
    (none_there (grant_of s c.args.who c.args.grant) (sym (is_none_of c.find.result (c.is_none.ensures ∙ ap not c.if-is_none.true)) ∙ c.find.ensures ∙ ap (λ gs. session_grant gs c.args.who c.args.grant) (ap (λ x. grants_in x.handles) c.self.view_is ∙ serves.front.grants)
    ∙ c.table_follows_the_model.ensures.found s c.args.who c.args.grant)))

-- the session has the grant, so nothing refuses it
goes_on : {D : Type 0} (g : Ghosts D) (k : Kernel D) (who : ℕ) (t : Tuid) (commit : Bool) → IsSome (session_grant (grants_in k.handles) who t) → ((s : State) → session_grant (table_of s.grants) who t ≡ option_map shown (grant_of s who t)) → (s : State) → ServesIs g k s → refusal_of s who (asks.Close t commit) ≡ None
goes_on g k who t commit some law s serves = let x = the_grant (session_grant (grants_in k.handles) who t) (grant_of s who t) some (ap (λ gs. session_grant gs who t) serves.front.grants ∙ law s) in close_goes 0 s who t commit x.0 x.1

never_of : (r : Result Reply Refused) → IfErr r (λ e. e ≢ refusals.Memory) → r ≢ Err refusals.Memory
never_of (Ok reply) never = λ is. cc
never_of (Err e) never = λ is. never (let same : e ≡ refusals.Memory = cc in same)

none_copied : {A : Type 0} (o : Option (Bor A)) → is_some o ≡ false → option_copied o ≡ None
none_copied None is = refl
none_copied (Some x) is = cc

some_copied : {A : Type 0} (o : Option (Bor A)) → is_some o ≡ true → is_some (option_copied o) ≡ true
some_copied None is = cc
some_copied (Some x) is = refl

-- ---- without a draft

pub close_bare-requires : goal.close_bare-requires
close_bare-requires g c = record { undrafted = ap (have_draft (is_at c.args.grant.draw)) c.take.ensures.handles ∙ none_taken c.args.grant.draw c.self.inside.handles.handles }

pub returns-then-is_none-2 : goal.returns-then-is_none-2
returns-then-is_none-2 g c =
    let k : Kernel _ = record { disk = c.self.inside.disk; root = c.self.inside.root; directory = c.self.inside.directory; space = c.self.inside.space; words = c.self.inside.words; handles = c.self.inside.handles.handles; collections = c.self.inside.collections; stop = c.self.inside.stop } in
    let none = c.take.ensures.draft ∙ sym c.draft.ensures ∙ none_copied c.draft.result (c.is_none-2.ensures ∙ ap not c.if-is_none-2.true) in
    subst (λ x. Tries g.D.Disk x c.close_bare.new.self c.args.who (asks.Close c.args.grant c.args.commit) (Ok c.close_bare.result)) c.self.view_is
    (subst (λ ss. Tries g.D.Disk (record k { handles = ss }) c.close_bare.new.self c.args.who (asks.Close c.args.grant c.args.commit) (Ok c.close_bare.result)) (c.take.ensures.kept none) (c.close_bare.ensures c.args.commit))

-- ---- with one

pub returns-in_err-tried : goal.returns-in_err-tried
returns-in_err-tried g c =
    let k : Kernel _ = record { disk = c.self.inside.disk; root = c.self.inside.root; directory = c.self.inside.directory; space = c.self.inside.space; words = c.self.inside.words; handles = c.self.inside.handles.handles; collections = c.self.inside.collections; stop = c.self.inside.stop } in
    let request = asks.Close c.args.grant c.args.commit in
    rw (is_passed _ _ c.from_residual.ensures.1) (subst (λ x. Tries g.D.Disk x (record k { disk = c.finish.new.disk; space = c.finish.new.space }) c.args.who request (Err (refused_by c.in_err-tried.field-0.0))) c.self.view_is
    (tries_unfinished g.D.Disk g.met.D.Disk.left_sized g.met.D.Disk.sized k c.finish.new.disk c.finish.new.space c.in_err-tried.field-0.0 c.in_err-tried.ensures request c.args.who _ refl (ap is_some (sym c.draft.ensures) ∙ some_copied c.draft.result (c.is_none-2.ensures ∙ ap not c.if-is_none-2.false))
    (goes_on g.D.Disk k c.args.who c.args.grant c.args.commit (subst (λ o. IsSome o) c.find.ensures (is_some_of c.find.result (c.is_none.ensures ∙ ap not c.if-is_none.false))) (λ s. c.table_follows_the_model.ensures.found s c.args.who c.args.grant))))

pub invariant_of-self-in-Some : goal.invariant_of-self-in-Some
invariant_of-self-in-Some g c =
    let fewer = sized_taken c.self.invariant c.args.grant.draw c.take-2.new.self.handles c.take-2.ensures.handles in
    sized_with fewer c.finish.new.disk c.finish.new.space _ _ c.finish.ensures.ends.calls.same.size c.finish.ensures.ends.moves fewer.drawn_all fewer.ready

pub end-requires : goal.end-requires
end-requires g c = record {
  ready = subst (λ n. is_ready_for n c.in-Some.draft ≡ true) (c.self.invariant.room ∙ sym c.finish.ensures.ends.calls.same.size) (ready_at c.self.inside.directory.room c.args.grant.draw c.self.inside.handles.handles c.self.invariant.ready c.in-Some.draft (sym c.take-2.ensures.draft ∙ c.in-Some.is));
  taken = ap (have_draft (is_at c.args.grant.draw)) c.take-2.ensures.handles ∙ none_taken c.args.grant.draw c.self.inside.handles.handles;
  found = subst (λ gs. IsSome (session_grant gs c.args.who c.args.grant)) (sym (ap grants_in c.take-2.ensures.handles ∙ grants_with c.args.grant.draw None c.self.inside.handles.handles))
      (subst (λ o. IsSome o) c.find.ensures (is_some_of c.find.result (c.is_none.ensures ∙ ap not c.if-is_none.false)));
  left = c.in_ok-tried.ensures.done;
}

pub returns : goal.returns
returns g c =
    let G = g.D.Disk in
    let k : Kernel _ = record { disk = c.self.inside.disk; root = c.self.inside.root; directory = c.self.inside.directory; space = c.self.inside.space; words = c.self.inside.words; handles = c.self.inside.handles.handles; collections = c.self.inside.collections; stop = c.self.inside.stop } in
    let request = asks.Close c.args.grant c.args.commit in
    let now = c.end.ensures.tries k.handles c.take-2.ensures.handles (sym c.take-2.ensures.draft ∙ c.in-Some.is) in
    let joined = tries_since G k c.finish.new.disk c.finish.new.space c.in_ok-tried.tried c.in_ok-tried.ensures g.met.D.Disk.left_sized g.met.D.Disk.sized c.end.new.self now.went.size request c.end.result c.end.ensures.told (never_of c.end.result c.end.ensures.never) c.args.who (ap is_some (sym c.take-2.ensures.draft ∙ c.in-Some.is))
    (goes_on G k c.args.who c.args.grant c.args.commit (subst (λ o. IsSome o) c.find.ensures (is_some_of c.find.result (c.is_none.ensures ∙ ap not c.if-is_none.false))) (λ s. c.table_follows_the_model.ensures.found s c.args.who c.args.grant)) now in
    subst (λ x. Tries G x c.end.new.self c.args.who request c.since.result) c.self.view_is (subst (λ r. Tries G k c.end.new.self c.args.who request r) (sym c.since.ensures) joined)
