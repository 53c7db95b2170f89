use Rattle.std.proofs.Common.{refl}
use Rattle.special_files.proofs.Words.{Cuts, Spares}
use Rattle.special_files.proofs.draft.ObjectDraft.cut_if.Goals as goal

pub returns-then-not-cut : goal.returns-then-not-cut
returns-then-not-cut g c = Spares c.if-not-cut.true refl refl refl refl refl

pub returns : goal.returns
returns g c = Cuts c.if-not-cut.false c.cut.ensures.goes c.cut.ensures.calls
