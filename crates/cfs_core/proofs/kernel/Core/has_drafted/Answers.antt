use Rattle.std.proofs.Common.{◌≡◌, ◌/◌, sym, ◌∙◌, ap, nat_lt, option_copied}
use Rattle.cfs_core.proofs.Words.{Drafting}
use Rattle.cfs_core.specs.Handles.{drafting_at}
use Rattle.cfs_core.proofs.Rewritten.{same_draft}
use Rattle.cfs_core.proofs.kernel.Core.has_drafted.Goals as goal

pub returns : goal.returns
returns g c = λ was has.
    let same : c.in-Some.draft.now ≡ was = same_draft _ _ (sym (ap option_copied c.in-Some.is) ∙ c.draft.ensures ∙ ap (λ x. drafting_at x.handles c.args.grant.draw) c.self.view_is ∙ has) in
    ap (nat_lt c.args.slot) (c.count.ensures ∙ ap (λ (d : Drafting). d.root.size / 8) same)
