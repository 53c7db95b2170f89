use Rattle.std.proofs.Common.{◌≡◌, ℕ, ◌+◌, ◌++◌, take, drop, length, true, false, IfErr, refl, sym, ◌∙◌, ap, slice_range}
use Rattle.cfs_core.proofs.Words.{is_range, take-append_seam}
use Rattle.ufs_model.specs.declared.asked.Reply.TheVariants as replies
use Rattle.cfs_core.proofs.Rewritten.{draft_cause, sound_told}
use Rattle.cfs_base.proofs.Passed.{passed}
use Rattle.cfs_core.specs.Looks.{IsDraftCause}
use Rattle.special_files.specs.Refusal.{has_met_damage, top_of}
use Rattle.cfs_core.proofs.drafting.content.Goals as goal

pub returns-clause-exact : goal.returns-clause-exact
returns-clause-exact g c = λ v f is_file size.
    let is : is_range (length f.bytes) c.args.offset c.args.count ≡ true = ap (λ (n : ℕ). is_range n c.args.offset c.args.count) (size ∙ sym c.size.ensures) ∙ sym c.is_range.ensures ∙ c.if-not-is_range.false in
    let into = c.read.new.into in
    let count : length c.as_mut_slice.result.now ≡ c.args.count = ap (length {A = ℕ}) c.as_mut_slice.ensures.value ∙ c.in_ok-bytes.ensures in
    ap replies.Content (c.new.ensures
    ∙ ap (λ (n : ℕ). take n (into ++ drop (length into) c.in_ok-bytes.bytes.items)) (sym c.as_mut_slice.ensures.len ∙ sym c.read.ensures.long)
    ∙ take-append_seam into _
    ∙ (c.in_ok-read.ensures.reads v).bytes f is_file
    ∙ ap (λ (n : ℕ). slice_range f.bytes c.args.offset (c.args.offset + n)) count) ∙ rw is refl

pub returns-in_err-read-clause-sound : goal.returns-in_err-read-clause-sound
returns-in_err-read-clause-sound g c = λ v. passed (λ r. IfErr r (λ e. has_met_damage e ≡ false)) _ _ c.from_residual-in_err-read.ensures.1 (sound_told c.in_err-read.field-0.0 _ refl (c.in_err-read.ensures.reads v).sound)

pub returns-in_err-read-clause-cause : goal.returns-in_err-read-clause-cause
returns-in_err-read-clause-cause g c = passed (λ r. IfErr r (IsDraftCause g.D.Disk (top_of c.args.draft.now) c.args.disk.now c.read.new.disk)) _ _ c.from_residual-in_err-read.ensures.1
    (draft_cause g.D.Disk _ c.args.disk.now c.read.new.disk c.args.draft.now c.in_err-read.field-0.0 _ refl c.in_err-read.ensures.call)
