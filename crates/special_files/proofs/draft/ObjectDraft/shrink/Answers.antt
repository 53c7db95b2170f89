use Rattle.std.proofs.Common.{◌≡◌, Ok, sym, subst}
use Rattle.special_files.proofs.Words.{Drafting, File, GoesHolding, ResizeCall, Resized, sized}
use Rattle.special_files.proofs.shrink.ShrinkCall.{cut_err_call, cut_err_full, cut_err_goes, drop_err_call, drop_err_full, drop_err_goes, drop_ok_call, drop_ok_goes, has_border}
use Rattle.ufs_model.specs.declared.object.Object.TheVariants as objects
use Rattle.special_files.proofs.draft.ObjectDraft.shrink.Goals as goal

-- ---- refused before that

pub returns-in-Err-clause-goes : goal.returns-in-Err-clause-goes
returns-in-Err-clause-goes g c = λ v. let goes = c.in-Err.ensures.goes v in record { done = tt; leaves = goes.leaves; sound = goes.sound }

-- ---- the leaf couldn't be cut

pub returns-in-Err-cut_if-clause-goes : goal.returns-in-Err-cut_if-clause-goes
returns-in-Err-cut_if-clause-goes g c = λ v. cut_err_goes c.in-Ok.ensures.planned c.args.floor c.args.space.now c.in-Ok.ensures.room v _ c.in-Err-cut_if.ensures

pub returns-in-Err-cut_if-clause-full : goal.returns-in-Err-cut_if-clause-full
returns-in-Err-cut_if-clause-full g c = λ v f file. cut_err_full c.in-Ok.ensures.planned c.args.floor c.args.space.now c.in-Ok.ensures.room _ c.in-Err-cut_if.ensures

pub returns-in-Err-cut_if-clause-calls : goal.returns-in-Err-cut_if-clause-calls
returns-in-Err-cut_if-clause-calls g c = cut_err_call c.in-Ok.ensures.planned c.args.floor c.args.space.now c.in-Ok.ensures.room _ c.in-Err-cut_if.ensures

pub drop_from-requires-clause-here : goal.drop_from-requires-clause-here
drop_from-requires-clause-here g c = has_border c.in-Ok.ensures.planned c.args.floor c.args.space.now c.in-Ok.ensures.room c.in-Ok-cut_if.ensures

-- ---- the leaves couldn't be dropped

pub returns-in-Err-drop_from-clause-goes : goal.returns-in-Err-drop_from-clause-goes
returns-in-Err-drop_from-clause-goes g c = λ v. drop_err_goes c.in-Ok.ensures.planned c.args.floor c.args.space.now c.in-Ok.ensures.room c.in-Ok-cut_if.ensures _ _ _ _ _ c.after.ensures c.in-Err-drop_from.ensures.calls v c.in-Err-drop_from.ensures.goes

pub returns-in-Err-drop_from-clause-full : goal.returns-in-Err-drop_from-clause-full
returns-in-Err-drop_from-clause-full g c = λ v f file. drop_err_full c.in-Ok.ensures.planned c.args.floor c.args.space.now c.in-Ok.ensures.room c.in-Ok-cut_if.ensures _ _ _ _ _ c.after.ensures c.in-Err-drop_from.ensures.calls

pub returns-in-Err-drop_from-clause-calls : goal.returns-in-Err-drop_from-clause-calls
returns-in-Err-drop_from-clause-calls g c = drop_err_call c.in-Ok.ensures.planned c.args.floor c.args.space.now c.in-Ok.ensures.room c.in-Ok-cut_if.ensures _ _ _ _ _ c.after.ensures c.in-Err-drop_from.ensures.calls

-- ---- done

pub returns-clause-goes : goal.returns-clause-goes
returns-clause-goes g c = λ v.
    subst (λ (w : Drafting). GoesHolding {A = Unit {0}} g.D.Disk v.graph ((f : File) → v.draft.object ≡ objects.File f → Resized g.D.Disk v.graph v.ds v.id v.draft c.args.size c.args.floor c.args.disk.now c.drop_from.new.disk c.args.space.now c.drop_from.new.space c.args.self.now (sized w c.args.size)) c.args.disk.now c.drop_from.new.disk (Ok tt)) (sym c.self.view_is)
    (drop_ok_goes c.in-Ok.ensures.planned c.args.floor c.args.space.now c.in-Ok.ensures.room c.in-Ok-cut_if.ensures _ _ _ c.in-Ok-drop_from.ensures.calls v c.in-Ok-drop_from.ensures.goes)

pub returns-clause-calls : goal.returns-clause-calls
returns-clause-calls g c =
    subst (λ (w : Drafting). ResizeCall g.D.Disk c.args.size c.args.floor c.args.disk.now c.drop_from.new.disk c.args.space.now c.drop_from.new.space c.args.self.now (sized w c.args.size) (Ok tt)) (sym c.self.view_is)
    (drop_ok_call c.in-Ok.ensures.planned c.args.floor c.args.space.now c.in-Ok.ensures.room c.in-Ok-cut_if.ensures _ _ _ c.in-Ok-drop_from.ensures.calls)
