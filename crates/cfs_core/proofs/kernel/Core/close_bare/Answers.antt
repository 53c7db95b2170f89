use Rattle.std.proofs.Common.{Ok, sym, ◌∙◌, ap, subst}
use Rattle.cfs_core.proofs.Words.{session_grant, grant_of}
use Rattle.ufs_model.specs.declared.asked.Reply.TheVariants as replies
use Rattle.ufs_model.specs.declared.asked.Request.TheVariants as asks
use Rattle.cfs_core.specs.Calls.{Tries}
use Rattle.cfs_core.specs.Kernel.{Kernel}
use Rattle.cfs_core.specs.Handles.{have_draft, is_at}
use Rattle.cfs_core.proofs.Answering.{tries_refusal}
use Rattle.cfs_core.proofs.Views.{none_there, shown_by}
use Rattle.cfs_core.proofs.Granted.{close_none, tries_closed}
use Rattle.cfs_core.proofs.Readied.{sized_but}
use Rattle.cfs_core.proofs.kernel.Core.close_bare.Goals as goal

pub close-requires : goal.close-requires
close-requires g c = record { undrafted = ap (λ x. have_draft (is_at c.args.grant.draw) x.handles) c.self.view_is ∙ c.requires.undrafted }

pub invariant_of-self-2 : goal.invariant_of-self-2
invariant_of-self-2 g c = sized_but c.self.invariant _ _ c.in_default.ensures.handles

pub returns : goal.returns
returns g c = λ commit.
    let k : Kernel _ = record { disk = c.self.inside.disk; root = c.self.inside.root; directory = c.self.inside.directory; space = c.self.inside.space; words = c.self.inside.words; handles = c.self.inside.handles.handles; collections = c.self.inside.collections; stop = c.self.inside.stop } in
    let request = asks.Close c.args.grant commit in
    let none = ap (λ x. have_draft (is_at c.args.grant.draw) x.handles) c.self.view_is ∙ c.requires.undrafted in
    subst (λ x. Tries g.D.Disk x (record k { handles = c.close.new.self.handles }) c.args.who request (Ok replies.Done)) c.self.view_is
    (subst (λ ss. Tries g.D.Disk k (record k { handles = ss }) c.args.who request (Ok replies.Done)) (sym c.in_default.ensures.handles)
    (tries_closed g.D.Disk g.met.D.Disk.left_sized g.met.D.Disk.sized k c.args.who c.args.grant commit none
    (λ s serves. shown_by (grant_of s c.args.who c.args.grant) c.in_default.field-0 (sym c.in_default.ensures.found ∙ ap (λ gs. session_grant gs c.args.who c.args.grant) serves.front.grants ∙ c.table_follows_the_model.ensures.found s c.args.who c.args.grant))))

pub returns-in-Err : goal.returns-in-Err
returns-in-Err g c = λ commit.
    let k : Kernel _ = record { disk = c.self.inside.disk; root = c.self.inside.root; directory = c.self.inside.directory; space = c.self.inside.space; words = c.self.inside.words; handles = c.self.inside.handles.handles; collections = c.self.inside.collections; stop = c.self.inside.stop } in
    let request = asks.Close c.args.grant commit in
    subst (λ x. Tries g.D.Disk x (record k { handles = c.close.new.self.handles }) c.args.who request (Ok replies.NoGrant)) c.self.view_is
    (subst (λ ss. Tries g.D.Disk k (record k { handles = ss }) c.args.who request (Ok replies.NoGrant)) (sym (ap (λ t. t.handles) c.in-Err.ensures.err))
    (tries_refusal g.D.Disk g.met.D.Disk.left_sized g.met.D.Disk.sized k c.args.who request replies.NoGrant tt
    (λ s serves. close_none 0 s c.args.who c.args.grant commit
    (none_there (grant_of s c.args.who c.args.grant) (sym c.in-Err.ensures.none ∙ ap (λ gs. session_grant gs c.args.who c.args.grant) serves.front.grants ∙ c.table_follows_the_model.ensures.found s c.args.who c.args.grant)))))
