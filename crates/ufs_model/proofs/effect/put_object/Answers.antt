use Rattle.std.proofs.Common.{◌∙◌, sym}
use Rattle.ufs_model.proofs.Entries.{insert_entry-there}
use Rattle.ufs_model.proofs.effect.put_object.Goals as goal

pub returns-in-Some : goal.returns-in-Some
returns-in-Some c = λ o there.
    (c.get_mut.follows.holds c.args.draft.object).0 ∙ sym (insert_entry-there c.args.id c.args.objects.now.entries o c.args.draft.object c.get_mut.ensures.ordered there)
