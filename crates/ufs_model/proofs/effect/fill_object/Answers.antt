use Rattle.std.proofs.Common.{◌≡◌, ◌∙◌, sym, ap, Some}
use Rattle.ufs_model.proofs.Words.{Fill, changed_object, insert_entry, puid_cmp, same_Some}
use Rattle.ufs_model.proofs.Entries.{insert_entry-there}
use Rattle.ufs_model.proofs.effect.fill_object.Goals as goal

pub returns-in-Some : goal.returns-in-Some
returns-in-Some c = λ o there.
    let at : c.in-Some.object.now ≡ o = same_Some _ _ (c.in-Some.ensures.value ∙ there) in
    (c.get_mut.follows.holds c.fill.new.self).0
    ∙ sym (insert_entry-there c.args.index c.args.objects.now.entries o c.fill.new.self c.get_mut.ensures.ordered there)
    ∙ ap (insert_entry puid_cmp c.args.objects.now.entries c.args.index) (c.fill.ensures ∙ ap (changed_object (Fill c.args.slot (Some c.args.id))) at)
