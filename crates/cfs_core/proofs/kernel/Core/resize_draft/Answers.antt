use Rattle.std.proofs.Common.{◌≡◌, ◌≤◌, ℕ, Err, false, refl, sym, ◌∙◌, ap, subst, arith, nat_lt}
use Rattle.cfs_core.proofs.Words.{AFile, lt-ltb, nat_tests, SetSize, Through}
use Rattle.ufs_model.specs.Limits.{most_bytes}
use Rattle.ufs_model.specs.declared.asked.Reply.TheVariants as replies
use Rattle.ufs_model.specs.declared.asked.Request.TheVariants as asks
use Rattle.cfs_core.specs.Calls.{Tries}
use Rattle.cfs_core.specs.Drafts.{IsDrafted}
use Rattle.cfs_core.specs.Finished.{since}
use Rattle.cfs_core.specs.Handles.{drafting_at}
use Rattle.cfs_core.specs.Kernel.{Kernel}
use Rattle.cfs_core.proofs.After.{tries_where}
use Rattle.cfs_core.proofs.Altered.{file_alters}
use Rattle.cfs_core.proofs.Answering.{tries_refusal}
use Rattle.cfs_core.proofs.FileChange.{resize_changes}
use Rattle.cfs_core.proofs.Fitting.{has_grant}
use Rattle.cfs_core.proofs.Joined.{tries_unfinished}
use Rattle.cfs_core.proofs.Reached.{of_file, resize_goes, resize_range}
use Rattle.cfs_core.proofs.Readied.{all_on_disk, sized_put}
use Rattle.cfs_core.proofs.Refilled.{tries_redrafted}
use Rattle.cfs_core.proofs.Views.{FindsGrant}
use Rattle.cfs_core.proofs.Words.{refused_by}
use Rattle.cfs_base.proofs.Passed.{is_passed}
use Rattle.cfs_core.proofs.kernel.Core.resize_draft.Goals as goal

within : (size : ℕ) → size ≤ most_bytes → nat_lt most_bytes size ≡ false
within size less = grind (arith, nat_tests)

pub returns-then-size-gt-MOST_BYTES : goal.returns-then-size-gt-MOST_BYTES
returns-then-size-gt-MOST_BYTES g c = λ who drafted. tries_refusal g.D.Disk g.met.D.Disk.left_sized g.met.D.Disk.sized c.args.self.now who (asks.Resize (Through c.args.grant) c.args.size) replies.Range tt
    (λ s serves. resize_range g.D.Disk who c.args.grant (λ s. c.table_follows_the_model.ensures.found s who c.args.grant) c.args.self.now drafted s serves c.args.size (lt-ltb most_bytes c.args.size c.if-size-gt-MOST_BYTES.true))

pub resize-ended-requires-clause-has : goal.resize-ended-requires-clause-has
resize-ended-requires-clause-has g c = record { drafting = c.requires.drafting; has = ap (λ x. drafting_at x.handles c.args.grant.draw) c.self.view_is ∙ c.requires.has; within = omega arith }

pub resize-ended-requires-clause-on_disk : goal.resize-ended-requires-clause-on_disk
resize-ended-requires-clause-on_disk g c = all_on_disk c.self.invariant c.args.grant.draw _ c.finish.ensures.ends.calls.same.size

pub returns-in_err-tried : goal.returns-in_err-tried
returns-in_err-tried g c = λ who drafted.
    let k : Kernel _ = record { disk = c.self.inside.disk; root = c.self.inside.root; directory = c.self.inside.directory; space = c.self.inside.space; words = c.self.inside.words; handles = c.self.inside.handles.handles; collections = c.self.inside.collections; stop = c.self.inside.stop } in
    let drafted : IsDrafted k AFile who c.args.grant = subst (λ x. IsDrafted x AFile who c.args.grant) (sym c.self.view_is) drafted in
    let request = asks.Resize (Through c.args.grant) c.args.size in
    rw (is_passed _ _ c.from_residual.ensures.1) (subst (λ x. Tries g.D.Disk x (record k { disk = c.finish.new.disk; space = c.finish.new.space }) who request (Err (refused_by c.in_err-tried.field-0.0))) c.self.view_is
    (tries_unfinished g.D.Disk g.met.D.Disk.left_sized g.met.D.Disk.sized k c.finish.new.disk c.finish.new.space c.in_err-tried.field-0.0 c.in_err-tried.ensures request who _ refl refl
    (λ s serves. resize_goes g.D.Disk who c.args.grant (λ s. c.table_follows_the_model.ensures.found s who c.args.grant) k drafted s serves c.args.size (within c.args.size (omega (arith, c.if-size-gt-MOST_BYTES.false))))))

pub invariant_of-self-2 : goal.invariant_of-self-2
invariant_of-self-2 g c =
    let done = c.resize-ended.ensures in
    sized_put c.self.invariant c.args.grant.draw c.resize-ended.new.self.handles done done.so.stays c.resize-ended.new.disk c.resize-ended.new.space (done.so.calls.same.size ∙ c.finish.ensures.ends.calls.same.size) (done.so.cylinders ∙ c.finish.ensures.ends.moves)

pub returns : goal.returns
returns g c = λ who drafted.
    let k : Kernel _ = record { disk = c.self.inside.disk; root = c.self.inside.root; directory = c.self.inside.directory; space = c.self.inside.space; words = c.self.inside.words; handles = c.self.inside.handles.handles; collections = c.self.inside.collections; stop = c.self.inside.stop } in
    let drafted : IsDrafted k AFile who c.args.grant = subst (λ x. IsDrafted x AFile who c.args.grant) (sym c.self.view_is) drafted in
    let request = asks.Resize (Through c.args.grant) c.args.size in
    let change = SetSize c.args.size in
    let new : Kernel _ = record k { disk = c.resize-ended.new.disk; space = c.resize-ended.new.space; handles = c.resize-ended.new.self.handles } in
    let law : FindsGrant who c.args.grant = λ s. c.table_follows_the_model.ensures.found s who c.args.grant in
    subst (λ x. Tries g.D.Disk x new who request c.since.result) c.self.view_is (subst (λ r. Tries g.D.Disk k new who request r) (sym (c.since.ensures ∙ ap (since c.in_ok-tried.tried) c.done.ensures))
    (tries_where refl (tries_redrafted g.D.Disk g.met.D.Disk.left_sized g.met.D.Disk.sized k c.finish.new.disk c.finish.new.space c.in_ok-tried.tried c.in_ok-tried.ensures c.self.invariant.ready who c.args.grant change request (has_grant drafted law) refl c.resize-ended.new.disk c.resize-ended.new.space c.resize-ended.result
    c.resize-ended.new.self.handles c.resize-ended.ensures)
    (λ s serves. record {
      alters = file_alters s who c.args.grant request change (resize_changes (Through c.args.grant) c.args.size) refl;
      of_it = of_file g.D.Disk who c.args.grant law k drafted s serves;
      goes = resize_goes g.D.Disk who c.args.grant law k drafted s serves c.args.size (within c.args.size (omega (arith, c.if-size-gt-MOST_BYTES.false)));
    })))
