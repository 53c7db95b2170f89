use Rattle.std.proofs.Common.{refl, sym, ◌∙◌, ap, arith}
use Rattle.cfs_core.proofs.Words.{slot_reply}
use Rattle.cfs_core.proofs.Looked.{inside}
use Rattle.cfs_core.proofs.Rewritten.{draft_cause, sound_told}
use Rattle.cfs_base.proofs.Passed.{is_passed}
use Rattle.cfs_core.proofs.filling.look_in.Goals as goal

pub returns-in-Some : goal.returns-in-Some
returns-in-Some g c = record {
  exact = λ v i is_index size. ap slot_reply (sym c.in-Some.is) ∙ inside i c.args.slot c.count.result c.in_ok-id.field-0 (c.count.ensures ∙ sym size) (omega (arith, c.if-slot-count.false)) ((c.in_ok-id.ensures.looks v).found i is_index);
  few = λ is. omega (arith, c.if-slot-count.false, c.count.ensures);
  plain = tt;
  sound = λ v. tt;
  cause = tt;
  reads = c.slot.ensures.call.reads;
}

pub returns-in-None : goal.returns-in-None
returns-in-None g c = record {
  exact = λ v i is_index size. ap slot_reply (sym c.in-None.is) ∙ inside i c.args.slot c.count.result c.in_ok-id.field-0 (c.count.ensures ∙ sym size) (omega (arith, c.if-slot-count.false)) ((c.in_ok-id.ensures.looks v).found i is_index);
  few = λ is. cc;
  plain = tt;
  sound = λ v. tt;
  cause = tt;
  reads = c.slot.ensures.call.reads;
}

pub returns-in_err-id : goal.returns-in_err-id
returns-in_err-id g c =
    rw (is_passed _ _ c.from_residual.ensures.1) (record {
      exact = λ v i is_index size. tt;
      few = tt;
      plain = tt;
      sound = λ v. sound_told c.in_err-id.field-0.0 _ refl (c.in_err-id.ensures.looks v).sound;
      cause = draft_cause g.D.Disk 2 c.args.disk.now c.slot.new.disk c.args.draft.now c.in_err-id.field-0.0 _ refl c.in_err-id.ensures.call;
      reads = c.slot.ensures.call.reads;
    })
