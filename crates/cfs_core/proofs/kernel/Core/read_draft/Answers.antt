use Rattle.std.proofs.Common.{refl, sym, ◌∙◌, ap, subst, option_copied}
use Rattle.cfs_core.proofs.Words.{AFile, Through}
use Rattle.ufs_model.specs.declared.asked.Request.TheVariants as asks
use Rattle.cfs_core.specs.Calls.{Tries}
use Rattle.cfs_core.specs.Drafts.{IsDrafted}
use Rattle.cfs_core.specs.Kernel.{Kernel}
use Rattle.cfs_core.proofs.Fitting.{drafted_as}
use Rattle.cfs_core.proofs.Reached.{tries_read}
use Rattle.cfs_core.proofs.Readied.{all_on_disk}
use Rattle.cfs_core.proofs.kernel.Core.read_draft.Goals as goal

pub content-requires : goal.content-requires
content-requires g c = all_on_disk c.self.invariant c.args.grant.draw _ refl c.in-Some.draft.now (sym c.draft.ensures ∙ ap option_copied c.in-Some.is)

pub returns : goal.returns
returns g c = λ who drafted.
    let k : Kernel _ = record { disk = c.self.inside.disk; root = c.self.inside.root; directory = c.self.inside.directory; space = c.self.inside.space; words = c.self.inside.words; handles = c.self.inside.handles.handles; collections = c.self.inside.collections; stop = c.self.inside.stop } in
    let drafted : IsDrafted k AFile who c.args.grant = drafted_as (subst (λ x. IsDrafted x AFile who c.args.grant) (sym c.self.view_is) drafted) c.in-Some.draft.now (sym c.draft.ensures ∙ ap option_copied c.in-Some.is) in
    subst (λ x. Tries g.D.Disk x (record k { disk = c.content.new.disk }) who (asks.Read (Through c.args.grant) c.args.offset c.args.count) c.content.result) c.self.view_is
    (tries_read g.D.Disk g.met.D.Disk.left_sized g.met.D.Disk.sized who c.args.grant (λ s. c.table_follows_the_model.ensures.found s who c.args.grant) k drafted 18 c.content.new.disk c.content.ensures.reads c.args.offset c.args.count c.content.result c.content.ensures.exact c.content.ensures.plain c.content.ensures.sound c.content.ensures.cause)
