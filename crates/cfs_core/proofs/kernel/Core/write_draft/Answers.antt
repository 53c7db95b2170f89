use Rattle.std.proofs.Common.{Ok, Err, refl, sym, ◌∙◌, ap, subst, ℕ, length, option_copied}
use Rattle.cfs_core.proofs.Words.{AFile, is_range, Overwrite, Through}
use Rattle.ufs_model.specs.declared.asked.Reply.TheVariants as replies
use Rattle.ufs_model.specs.declared.asked.Request.TheVariants as asks
use Rattle.cfs_core.specs.Calls.{Tries}
use Rattle.cfs_core.specs.Drafts.{IsDrafted}
use Rattle.cfs_core.specs.Finished.{since}
use Rattle.cfs_core.specs.Kernel.{Kernel}
use Rattle.cfs_core.proofs.After.{tries_where}
use Rattle.cfs_core.proofs.Altered.{file_alters}
use Rattle.cfs_core.proofs.Answering.{tries_refusal}
use Rattle.cfs_core.proofs.Calm.{range_parts}
use Rattle.cfs_core.proofs.FileChange.{write_changes}
use Rattle.cfs_core.proofs.Fitting.{drafted_as, has_grant}
use Rattle.cfs_core.proofs.Joined.{tries_unfinished}
use Rattle.cfs_core.proofs.Reached.{of_file, write_goes, write_range}
use Rattle.cfs_core.proofs.Readied.{all_on_disk, sized_put}
use Rattle.cfs_core.proofs.Refilled.{tries_redrafted}
use Rattle.cfs_core.proofs.Views.{FindsGrant}
use Rattle.cfs_core.proofs.Words.{refused_by}
use Rattle.cfs_base.proofs.Passed.{is_passed}
use Rattle.cfs_core.proofs.kernel.Core.write_draft.Goals as goal

pub returns-then-not-is_range : goal.returns-then-not-is_range
returns-then-not-is_range g c = λ who drafted.
    let k : Kernel _ = record { disk = c.self.inside.disk; root = c.self.inside.root; directory = c.self.inside.directory; space = c.self.inside.space; words = c.self.inside.words; handles = c.self.inside.handles.handles; collections = c.self.inside.collections; stop = c.self.inside.stop } in
    let drafted : IsDrafted k AFile who c.args.grant = drafted_as (subst (λ x. IsDrafted x AFile who c.args.grant) (sym c.self.view_is) drafted) c.in-Some.draft.now (sym c.draft.ensures ∙ ap option_copied c.in-Some.is) in
    let request = asks.Write (Through c.args.grant) c.args.offset c.args.bytes.now in
    subst (λ x. Tries g.D.Disk x x who request (Ok replies.Range)) c.self.view_is
    (tries_refusal g.D.Disk g.met.D.Disk.left_sized g.met.D.Disk.sized k who request replies.Range tt
    (λ s serves. write_range g.D.Disk who c.args.grant (λ s. c.table_follows_the_model.ensures.found s who c.args.grant) k drafted s serves c.args.offset c.args.bytes.now (ap (λ (n : ℕ). is_range n c.args.offset (length c.args.bytes.now)) (sym c.size-held.ensures) ∙ sym c.is_range.ensures ∙ c.if-not-is_range.true)))

pub write-ended-requires-clause-has : goal.write-ended-requires-clause-has
write-ended-requires-clause-has g c = record {
  drafting = c.in-Some.draft.now;
  has = sym c.draft.ensures ∙ ap option_copied c.in-Some.is;
  within = (range_parts c.in-Some.draft.now.root.size c.args.offset (length c.args.bytes.now) (ap (λ (n : ℕ). is_range n c.args.offset (length c.args.bytes.now)) (sym c.size-held.ensures) ∙ sym c.is_range.ensures ∙ c.if-not-is_range.false)).2;
}

pub write-ended-requires-clause-on_disk : goal.write-ended-requires-clause-on_disk
write-ended-requires-clause-on_disk g c = all_on_disk c.self.invariant c.args.grant.draw _ c.finish.ensures.ends.calls.same.size

pub returns-in_err-tried : goal.returns-in_err-tried
returns-in_err-tried g c = λ who drafted.
    let k : Kernel _ = record { disk = c.self.inside.disk; root = c.self.inside.root; directory = c.self.inside.directory; space = c.self.inside.space; words = c.self.inside.words; handles = c.self.inside.handles.handles; collections = c.self.inside.collections; stop = c.self.inside.stop } in
    let drafted : IsDrafted k AFile who c.args.grant = drafted_as (subst (λ x. IsDrafted x AFile who c.args.grant) (sym c.self.view_is) drafted) c.in-Some.draft.now (sym c.draft.ensures ∙ ap option_copied c.in-Some.is) in
    let request = asks.Write (Through c.args.grant) c.args.offset c.args.bytes.now in
    rw (is_passed _ _ c.from_residual.ensures.1) (subst (λ x. Tries g.D.Disk x (record k { disk = c.finish.new.disk; space = c.finish.new.space }) who request (Err (refused_by c.in_err-tried.field-0.0))) c.self.view_is
    (tries_unfinished g.D.Disk g.met.D.Disk.left_sized g.met.D.Disk.sized k c.finish.new.disk c.finish.new.space c.in_err-tried.field-0.0 c.in_err-tried.ensures request who _ refl refl
    (λ s serves. write_goes g.D.Disk who c.args.grant (λ s. c.table_follows_the_model.ensures.found s who c.args.grant) k drafted s serves c.args.offset c.args.bytes.now (ap (λ (n : ℕ). is_range n c.args.offset (length c.args.bytes.now)) (sym c.size-held.ensures) ∙ sym c.is_range.ensures ∙ c.if-not-is_range.false))))

pub invariant_of-self-2 : goal.invariant_of-self-2
invariant_of-self-2 g c =
    let done = c.write-ended.ensures in
    sized_put c.self.invariant c.args.grant.draw c.write-ended.new.self.handles done done.so.stays c.write-ended.new.disk c.write-ended.new.space (done.so.calls.same.size ∙ c.finish.ensures.ends.calls.same.size) (done.so.cylinders ∙ c.finish.ensures.ends.moves)

pub returns : goal.returns
returns g c = λ who drafted.
    let k : Kernel _ = record { disk = c.self.inside.disk; root = c.self.inside.root; directory = c.self.inside.directory; space = c.self.inside.space; words = c.self.inside.words; handles = c.self.inside.handles.handles; collections = c.self.inside.collections; stop = c.self.inside.stop } in
    let drafted : IsDrafted k AFile who c.args.grant = drafted_as (subst (λ x. IsDrafted x AFile who c.args.grant) (sym c.self.view_is) drafted) c.in-Some.draft.now (sym c.draft.ensures ∙ ap option_copied c.in-Some.is) in
    let request = asks.Write (Through c.args.grant) c.args.offset c.args.bytes.now in
    let change = Overwrite c.args.offset c.args.bytes.now in
    let new : Kernel _ = record k { disk = c.write-ended.new.disk; space = c.write-ended.new.space; handles = c.write-ended.new.self.handles } in
    let law : FindsGrant who c.args.grant = λ s. c.table_follows_the_model.ensures.found s who c.args.grant in
    subst (λ x. Tries g.D.Disk x new who request c.since.result) c.self.view_is (subst (λ r. Tries g.D.Disk k new who request r) (sym (c.since.ensures ∙ ap (since c.in_ok-tried.tried) c.done.ensures))
    (tries_where refl (tries_redrafted g.D.Disk g.met.D.Disk.left_sized g.met.D.Disk.sized k c.finish.new.disk c.finish.new.space c.in_ok-tried.tried c.in_ok-tried.ensures c.self.invariant.ready who c.args.grant change request (has_grant drafted law) refl c.write-ended.new.disk c.write-ended.new.space c.write-ended.result
    c.write-ended.new.self.handles c.write-ended.ensures)
    (λ s serves. record {
      alters = file_alters s who c.args.grant request change (write_changes (Through c.args.grant) c.args.offset c.args.bytes.now c.are_bytes.ensures) refl;
      of_it = of_file g.D.Disk who c.args.grant law k drafted s serves;
      goes = write_goes g.D.Disk who c.args.grant law k drafted s serves c.args.offset c.args.bytes.now (ap (λ (n : ℕ). is_range n c.args.offset (length c.args.bytes.now)) (sym c.size-held.ensures) ∙ sym c.is_range.ensures ∙ c.if-not-is_range.false);
    })))
