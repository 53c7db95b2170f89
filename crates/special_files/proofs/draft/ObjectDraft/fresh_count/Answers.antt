use Rattle.std.proofs.Common.{◌≡◌, ◌+◌, length, subst, arith}
use Rattle.special_files.proofs.Words.{Drafting, IsOpen, shadow_count, sum_by}
use Rattle.special_files.proofs.Levels.{fresh_counted}
use Rattle.special_files.proofs.draft.ObjectDraft.fresh_count.Goals as goal

pub returns : goal.returns
returns c = λ ds id d opened.
    subst (λ (was : Drafting). IsOpen ds id was d → c.shadow_count.result ≡ shadow_count c.args.self.now → c.count.result + c.count-2.result + c.shadow_count.result ≡ sum_by length d.fresh + shadow_count c.args.self.now) c.self.view_is
    (λ is shadow. omega (arith, fresh_counted ds id _ d is, c.count.ensures.count, c.count-2.ensures.count, shadow)) opened c.shadow_count.ensures
