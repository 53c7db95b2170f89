use Rattle.std.proofs.Common.{◌≡◌, ◌++◌, ◌∷◌, [], subst, rules}
use Rattle.ufs_model.proofs.Words.{HasRoom}
use Rattle.ufs_model.specs.declared.collection.Collection.TheVariants as collections
use Rattle.ufs_model.proofs.Remembered.{one_after}
use Rattle.ufs_model.proofs.progress.Progress.note.Goals as goal

pub returns-in-Marking : goal.returns-in-Marking
returns-in-Marking c =
    let room = subst HasRoom c.in-Marking.is c.requires in
    let ok = c.push.ensures.succeeds room in
    let items : c.push.new.self.items ≡ c.in-Marking.all.items ++ c.in-Some.seen ∷ [] = search rules in
    rw (items, c.in-Some.is, c.in-Marking.is) (one_after (collections.Marking [] []) c.in-Marking.all.items c.in-Some.seen)
