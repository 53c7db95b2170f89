use Rattle.std.proofs.Common.{Ok, sym, ◌∙◌, ap, subst, option_copied}
use Rattle.cfs_core.proofs.Words.{AFile, Through}
use Rattle.ufs_model.specs.declared.asked.Reply.TheVariants as replies
use Rattle.ufs_model.specs.declared.asked.Request.TheVariants as asks
use Rattle.cfs_core.specs.Calls.{Tries}
use Rattle.cfs_core.specs.Drafts.{IsDrafted}
use Rattle.cfs_core.specs.Handles.{drafting_at}
use Rattle.cfs_core.proofs.Fitting.{drafted_as}
use Rattle.cfs_core.proofs.Reached.{tries_size}
use Rattle.cfs_core.proofs.kernel.Core.size_of_draft.Goals as goal

pub returns : goal.returns
returns g c = λ who drafted.
    let k = c.args.self.now in
    let drafted : IsDrafted k AFile who c.args.grant = drafted_as drafted c.in-Some.draft.now (ap (λ x. drafting_at x.handles c.args.grant.draw) (sym c.self.view_is) ∙ sym c.draft.ensures ∙ ap option_copied c.in-Some.is) in
    subst (λ n. Tries g.D.Disk k k who (asks.Size (Through c.args.grant)) (Ok (replies.Number n))) (sym c.size.ensures) (tries_size g.D.Disk g.met.D.Disk.left_sized g.met.D.Disk.sized who c.args.grant (λ s. c.table_follows_the_model.ensures.found s who c.args.grant) k drafted)
