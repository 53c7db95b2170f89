use Rattle.std.proofs.Common.{◌≡◌, refl, sym, ◌∙◌, ap, subst, option_copied}
use Rattle.cfs_core.proofs.Words.{Drafting}
use Rattle.cfs_core.specs.Drafts.{LooksInDraft}
use Rattle.cfs_core.specs.Handles.{drafting_at}
use Rattle.cfs_core.proofs.Readied.{all_on_disk}
use Rattle.cfs_core.proofs.Rewritten.{same_draft}
use Rattle.cfs_core.proofs.kernel.Core.look_drafted.Goals as goal

pub look_in-requires : goal.look_in-requires
look_in-requires g c = all_on_disk c.self.invariant c.args.grant.draw _ refl c.in-Some.draft.now (sym c.draft.ensures ∙ ap option_copied c.in-Some.is)

pub returns-clause-looks : goal.returns-clause-looks
returns-clause-looks g c = λ was has.
    let same : c.in-Some.draft.now ≡ was = same_draft _ _ (sym (ap option_copied c.in-Some.is) ∙ c.draft.ensures ∙ ap (λ x. drafting_at x.handles c.args.grant.draw) c.self.view_is ∙ has) in
    subst (λ (w : Drafting). LooksInDraft g.D.Disk c.args.slot w c.args.self.now.disk c.look_in.new.disk c.look_in.result) same (subst (λ x. LooksInDraft g.D.Disk c.args.slot c.in-Some.draft.now x.disk c.look_in.new.disk c.look_in.result) c.self.view_is c.look_in.ensures)
