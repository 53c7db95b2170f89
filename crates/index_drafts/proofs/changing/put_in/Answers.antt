use Rattle.index_drafts.proofs.Words.{rules}
use Rattle.index_drafts.proofs.Drafts.{put_done}
use Rattle.index_drafts.proofs.Makings.{stops}
use Rattle.special_files.proofs.SlotNeed.{slot_need_is}
use Rattle.index_drafts.proofs.changing.put_in.Goals as goal

pub returns-in_err-has_room : goal.returns-in_err-has_room
returns-in_err-has_room g c = record { puts = λ i. search rules; need = λ i. slot_need_is i.view c.args.slot c.requires.within; call = search rules }

pub returns-in_err-fill : goal.returns-in_err-fill
returns-in_err-fill g c = record {
  puts = λ i. let goes = c.in_err-fill.ensures.goes i.view in stops _ _ c.from_residual-in_err-fill.ensures.1 goes.leaves goes.sound;
  need = λ i. slot_need_is i.view c.args.slot c.requires.within;
  call = search rules;
}

pub returns : goal.returns
returns g c = record {
  puts = λ i.
      let goes = c.in_ok-fill.ensures.goes i.view in
      let call = c.in_ok-fill.ensures.call in
      record { done = put_done i c.args.slot c.args.what c.in_ok-fill.field-0 (goes.done i.index i.is) call.empty call.spared; leaves = goes.leaves; sound = tt };
  need = λ i. slot_need_is i.view c.args.slot c.requires.within;
  call = search rules;
}
