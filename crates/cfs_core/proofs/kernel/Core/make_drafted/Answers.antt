use Rattle.std.proofs.Common.{refl, Some, Err, sym, ◌∙◌, ap, subst}
use Rattle.cfs_core.proofs.Words.{State}
use Rattle.cfs_core.specs.StandsFor.{CoreServes}
use Rattle.cfs_core.specs.Kernel.{Kernel}
use Rattle.cfs_core.specs.Handles.{drafting_at, with_drafting}
use Rattle.cfs_core.specs.Drafts.{HasGrant, TriesMakingWith}
use Rattle.cfs_core.specs.Makes.{NamesMade}
use Rattle.cfs_core.proofs.Joined.{since_err, since_ok, where_since, where_unfinished}
use Rattle.cfs_core.proofs.MadeIn.{tries_made_in, tries_unmade_in, unmade_never}
use Rattle.cfs_core.proofs.Placed.{kind_is, named_decides}
use Rattle.cfs_core.proofs.Readied.{all_on_disk, sized_put}
use Rattle.cfs_core.proofs.Rewritten.{stays_of}
use Rattle.cfs_core.proofs.Views.{IsHeld, held_in}
use Rattle.cfs_core.proofs.Words.{refused_by}
use Rattle.cfs_base.proofs.Passed.{is_passed}
use Rattle.cfs_core.proofs.kernel.Core.make_drafted.Goals as goal

pub create-made-requires-clause-has : goal.create-made-requires-clause-has
create-made-requires-clause-has g c = (let has = c.requires.has in record { drafting = has.drafting; has = ap (λ x. drafting_at x.handles c.args.grant.draw) c.self.view_is ∙ has.has; within = has.within })

pub create-made-requires-clause-on_disk : goal.create-made-requires-clause-on_disk
create-made-requires-clause-on_disk g c = all_on_disk c.self.invariant c.args.grant.draw _ c.finish.ensures.ends.calls.same.size

pub returns-in_err-tried : goal.returns-in_err-tried
returns-in_err-tried g c = λ who request making has.
    let k : Kernel _ = record { disk = c.self.inside.disk; root = c.self.inside.root; directory = c.self.inside.directory; space = c.self.inside.space; words = c.self.inside.words; handles = c.self.inside.handles.handles; collections = c.self.inside.collections; stop = c.self.inside.stop } in
    rw (is_passed _ _ c.from_residual.ensures.1) (subst (λ x. TriesMakingWith g.D.Disk x.space.left x (record k { disk = c.finish.new.disk; space = c.finish.new.space }) who c.args.grant request (Err (refused_by c.in_err-tried.field-0.0))) c.self.view_is
    (where_unfinished g.D.Disk g.met.D.Disk.left_sized g.met.D.Disk.sized k c.finish.new.disk c.finish.new.space c.in_err-tried.field-0.0 c.in_err-tried.ensures request who _ (λ s so. so.goes) _ refl))

pub invariant_of-self-2 : goal.invariant_of-self-2
invariant_of-self-2 g c =
    let made = c.create-made.ensures in
    let call = made.so.call in
    sized_put c.self.invariant c.args.grant.draw c.create-made.new.self.handles made (stays_of call.stays) c.create-made.new.disk c.create-made.new.space (call.calls.same.size ∙ c.finish.ensures.ends.calls.same.size) (call.cylinders ∙ c.finish.ensures.ends.moves)

pub invariant_of-self-in_err-id : goal.invariant_of-self-in_err-id
invariant_of-self-in_err-id g c =
    let made = c.create-made.ensures in
    let call = made.so.call in
    sized_put c.self.invariant c.args.grant.draw c.create-made.new.self.handles made (stays_of call.stays) c.create-made.new.disk c.create-made.new.space (call.calls.same.size ∙ c.finish.ensures.ends.calls.same.size) (call.cylinders ∙ c.finish.ensures.ends.moves)

pub returns : goal.returns
returns g c = λ who request making has.
    let k : Kernel _ = record { disk = c.self.inside.disk; root = c.self.inside.root; directory = c.self.inside.directory; space = c.self.inside.space; words = c.self.inside.words; handles = c.self.inside.handles.handles; collections = c.self.inside.collections; stop = c.self.inside.stop } in
    let mid : Kernel _ = record k { disk = c.finish.new.disk; space = c.finish.new.space } in
    let made = c.create-made.ensures in
    let ended = since_ok c.in_ok-tried.tried c.create-made.result c.in_ok-id.id (sym c.since.ensures ∙ c.in_ok-id.was) in
    let so = rw (c.bare_root-root.ensures.object, c.bare_root-root.ensures.word) at made.so in
    let here = subst (λ x. HasGrant x who c.args.grant) (sym c.self.view_is) has in
    let there : (s : State) → CoreServes g.D.Disk mid s → IsHeld g.D.Disk mid s who c.args.grant made.was = held_in g.D.Disk mid who c.args.grant made.was made.has here.found here.law in
    let unnamed : Kernel _ = record mid { disk = c.create-made.new.disk; space = c.create-made.new.space; handles = with_drafting c.args.grant.draw (Some made.now) k.handles } in
    let names = subst (λ hs. NamesMade (record unnamed { handles = hs }) c.name.new.self c.in_ok-id.id c.args.kind c.name.result) made.with_it c.name.ensures in
    let directory = subst (λ kind. NamesMade unnamed c.name.new.self c.in_ok-id.id kind c.name.result) (sym (kind_is c.args.kind c.args.fill c.args.size)) names in
    let decides = named_decides _ _ _ _ c.name.result directory in
    subst (λ x. TriesMakingWith g.D.Disk x.space.left x c.name.new.self who c.args.grant request c.since-2.result) c.self.view_is
    (subst (λ r. TriesMakingWith g.D.Disk k.space.left k c.name.new.self who c.args.grant request r) (sym c.since-2.ensures)
    (where_since g.D.Disk k c.finish.new.disk c.finish.new.space c.in_ok-tried.tried c.in_ok-tried.ensures g.met.D.Disk.left_sized g.met.D.Disk.sized c.name.new.self (ap g.D.Disk.blocks directory.disk ∙ made.so.call.calls.same.size) request c.name.result decides.0 decides.1 who _ (λ s so. so.goes)
    (tries_made_in g.D.Disk g.met.D.Disk.left_sized g.met.D.Disk.sized mid (c.self.invariant.room ∙ sym c.finish.ensures.ends.calls.same.size) who c.args.grant made.was made.has there c.args.slot c.args.kind c.args.fill c.args.size c.ahead.result c.ahead.ensures
    made.now c.create-made.new.disk c.create-made.new.space c.create-made.result so request making c.in_ok-id.id ended c.name.new.self c.name.result directory)))

pub returns-in_err-id : goal.returns-in_err-id
returns-in_err-id g c = λ who request making has.
    let k : Kernel _ = record { disk = c.self.inside.disk; root = c.self.inside.root; directory = c.self.inside.directory; space = c.self.inside.space; words = c.self.inside.words; handles = c.self.inside.handles.handles; collections = c.self.inside.collections; stop = c.self.inside.stop } in
    let mid : Kernel _ = record k { disk = c.finish.new.disk; space = c.finish.new.space } in
    let made = c.create-made.ensures in
    let here = subst (λ x. HasGrant x who c.args.grant) (sym c.self.view_is) has in
    let there : (s : State) → CoreServes g.D.Disk mid s → IsHeld g.D.Disk mid s who c.args.grant made.was = held_in g.D.Disk mid who c.args.grant made.was made.has here.found here.law in
    let unnamed : Kernel _ = record mid { disk = c.create-made.new.disk; space = c.create-made.new.space; handles = with_drafting c.args.grant.draw (Some made.now) k.handles } in
    let why = since_err c.in_ok-tried.tried c.create-made.result c.in_err-id.field-0.0 (sym c.since.ensures ∙ c.in_err-id.was) in
    let e = why.0 in
    let so = rw (c.bare_root-root.ensures.object, c.bare_root-root.ensures.word) at made.so in
    let new : Kernel _ = record k { disk = c.create-made.new.disk; space = c.create-made.new.space; handles = c.create-made.new.self.handles } in
    rw (is_passed _ _ c.from_residual-in_err-id.ensures.1) (subst (λ x. TriesMakingWith g.D.Disk x.space.left x new who c.args.grant request (Err c.in_err-id.field-0.0)) c.self.view_is
    (subst (λ hs. TriesMakingWith g.D.Disk k.space.left k (record new { handles = hs }) who c.args.grant request (Err c.in_err-id.field-0.0)) (sym made.with_it)
    (subst (λ x. TriesMakingWith g.D.Disk k.space.left k unnamed who c.args.grant request (Err x)) (sym why.2)
    (where_since g.D.Disk k c.finish.new.disk c.finish.new.space c.in_ok-tried.tried c.in_ok-tried.ensures g.met.D.Disk.left_sized g.met.D.Disk.sized unnamed made.so.call.calls.same.size request (Err e) tt (unmade_never g.D.Disk made.was c.finish.new.disk c.create-made.new.disk c.finish.new.space c.create-made.new.space e (rw why.1 at made.so.call.refused)) who _ (λ s so. so.goes)
    (tries_unmade_in g.D.Disk g.met.D.Disk.left_sized g.met.D.Disk.sized mid (c.self.invariant.room ∙ sym c.finish.ensures.ends.calls.same.size) who c.args.grant made.was made.has there c.args.slot c.args.kind c.args.fill c.args.size c.ahead.result c.ahead.ensures
    made.now c.create-made.new.disk c.create-made.new.space c.create-made.result so request making e why.1)))))
