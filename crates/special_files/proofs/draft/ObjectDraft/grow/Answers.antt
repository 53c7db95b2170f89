use Rattle.std.proofs.Common.{ap, arith}
use Rattle.special_files.proofs.Words.{Drafting, sized}
use Rattle.special_files.proofs.draft.ObjectDraft.grow.Goals as goal

pub returns-clause-done : goal.returns-clause-done
returns-clause-done c = (ap (λ (was : Drafting). sized was c.args.size) c.self.view_is, omega (arith, c.shadow_need.ensures, c.in_ok-has_room.ensures.room))
