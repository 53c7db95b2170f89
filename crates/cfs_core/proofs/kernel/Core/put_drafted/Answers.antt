use Rattle.std.proofs.Common.{refl, Err, sym, ◌∙◌, ap, subst}
use Rattle.cfs_core.proofs.Words.{Fill}
use Rattle.cfs_core.specs.Drafts.{HasGrant, TriesThroughWith}
use Rattle.cfs_core.specs.Finished.{since}
use Rattle.cfs_core.specs.Handles.{drafting_at}
use Rattle.cfs_core.specs.Kernel.{Kernel}
use Rattle.cfs_core.proofs.Joined.{where_unfinished}
use Rattle.cfs_core.proofs.Readied.{all_on_disk, sized_put}
use Rattle.cfs_core.proofs.Refilled.{tries_redrafted}
use Rattle.cfs_core.proofs.Words.{refused_by}
use Rattle.cfs_base.proofs.Passed.{is_passed}
use Rattle.cfs_core.proofs.kernel.Core.put_drafted.Goals as goal

pub put-ended-requires-clause-has : goal.put-ended-requires-clause-has
put-ended-requires-clause-has g c = (let has = c.requires.has in record { drafting = has.drafting; has = ap (λ x. drafting_at x.handles c.args.grant.draw) c.self.view_is ∙ has.has; within = has.within })

pub put-ended-requires-clause-on_disk : goal.put-ended-requires-clause-on_disk
put-ended-requires-clause-on_disk g c = all_on_disk c.self.invariant c.args.grant.draw _ c.finish.ensures.ends.calls.same.size

pub returns-in_err-tried : goal.returns-in_err-tried
returns-in_err-tried g c = λ who request has delete.
    let k : Kernel _ = record { disk = c.self.inside.disk; root = c.self.inside.root; directory = c.self.inside.directory; space = c.self.inside.space; words = c.self.inside.words; handles = c.self.inside.handles.handles; collections = c.self.inside.collections; stop = c.self.inside.stop } in
    rw (is_passed _ _ c.from_residual.ensures.1) (subst (λ x. TriesThroughWith g.D.Disk x.space.left x (record k { disk = c.finish.new.disk; space = c.finish.new.space }) who c.args.grant (Fill c.args.slot c.args.what) request (Err (refused_by c.in_err-tried.field-0.0))) c.self.view_is
    (where_unfinished g.D.Disk g.met.D.Disk.left_sized g.met.D.Disk.sized k c.finish.new.disk c.finish.new.space c.in_err-tried.field-0.0 c.in_err-tried.ensures request who _ (λ s so. so.goes) _ refl))

pub invariant_of-self-2 : goal.invariant_of-self-2
invariant_of-self-2 g c =
    let done = c.put-ended.ensures in
    sized_put c.self.invariant c.args.grant.draw c.put-ended.new.self.handles done done.so.stays c.put-ended.new.disk c.put-ended.new.space (done.so.calls.same.size ∙ c.finish.ensures.ends.calls.same.size) (done.so.cylinders ∙ c.finish.ensures.ends.moves)

pub returns : goal.returns
returns g c = λ who request has delete.
    let k : Kernel _ = record { disk = c.self.inside.disk; root = c.self.inside.root; directory = c.self.inside.directory; space = c.self.inside.space; words = c.self.inside.words; handles = c.self.inside.handles.handles; collections = c.self.inside.collections; stop = c.self.inside.stop } in
    let new : Kernel _ = record k { disk = c.put-ended.new.disk; space = c.put-ended.new.space; handles = c.put-ended.new.self.handles } in
    let change = Fill c.args.slot c.args.what in
    subst (λ x. TriesThroughWith g.D.Disk x.space.left x new who c.args.grant change request c.since.result) c.self.view_is
    (subst (λ r. TriesThroughWith g.D.Disk k.space.left k new who c.args.grant change request r) (sym (c.since.ensures ∙ ap (since c.in_ok-tried.tried) c.done.ensures))
    (tries_redrafted g.D.Disk g.met.D.Disk.left_sized g.met.D.Disk.sized k c.finish.new.disk c.finish.new.space c.in_ok-tried.tried c.in_ok-tried.ensures c.self.invariant.ready who c.args.grant change request (subst (λ x. HasGrant x who c.args.grant) (sym c.self.view_is) has) delete c.put-ended.new.disk c.put-ended.new.space c.put-ended.result
    c.put-ended.new.self.handles c.put-ended.ensures))
