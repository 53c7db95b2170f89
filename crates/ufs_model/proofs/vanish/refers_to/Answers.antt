use Rattle.std.proofs.Common.{◌∙◌, sym}
use Rattle.ufs_model.proofs.Words.{is_among}
use Rattle.ufs_model.proofs.Unkept.{any_in}
use Rattle.ufs_model.proofs.vanish.refers_to.Goals as goal

pub returns-in-Index : goal.returns-in-Index
returns-in-Index c =
    let told = rw c.as_slice.ensures at c.hold_one.ensures in
    rw c.in-Index.is (told ∙ sym (any_in (λ x. is_among x c.args.ids.now.keys) c.in-Index.index.slots))
