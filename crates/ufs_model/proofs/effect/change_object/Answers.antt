use Rattle.std.proofs.Common.{◌≡◌, ◌∙◌, sym, ap, Some}
use Rattle.ufs_model.proofs.Words.{Err, Ok, OnErr, Result, changed_object, insert_entry, on_err_weaker, on_ok_weaker, puid_cmp, same_Some}
use Rattle.ufs_model.proofs.Entries.{insert_entry-there, put_back}
use Rattle.ufs_model.proofs.effect.change_object.Goals as goal

always : {T E P : Type 0} (r : Result T E) → P → OnErr r P
always (Ok x) p = tt
always (Err e) p = p

pub returns-in_err-held-clause-err : goal.returns-in_err-held-clause-err
returns-in_err-held-clause-err c =
    always c.from_residual.result ((c.get_mut.follows.holds c.in-Some.object.now).0 ∙ put_back c.args.id c.args.objects.now.entries c.in-Some.object.now (sym c.in-Some.ensures.value))

pub returns-clause-ok : goal.returns-clause-ok
returns-clause-ok c =
    on_ok_weaker c.change.result
    (λ is o there.
    let at : c.in-Some.object.now ≡ o = same_Some _ _ (c.in-Some.ensures.value ∙ there) in
    (c.get_mut.follows.holds c.change.new.self).0
    ∙ sym (insert_entry-there c.args.id c.args.objects.now.entries o c.change.new.self c.get_mut.ensures.ordered there)
    ∙ ap (insert_entry puid_cmp c.args.objects.now.entries c.args.id) (is ∙ ap (changed_object c.args.change.now) at))
    c.change.ensures.ok

-- the object was put back as it was
pub returns-clause-err : goal.returns-clause-err
returns-clause-err c =
    on_err_weaker c.change.result
    (λ is. (c.get_mut.follows.holds c.change.new.self).0 ∙ put_back c.args.id c.args.objects.now.entries c.change.new.self (sym c.in-Some.ensures.value ∙ ap Some (sym is)))
    c.change.ensures.err
