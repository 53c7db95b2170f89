use Rattle.std.proofs.Common.{◌≡◌, ◌∙◌, ap, subst, List, ℕ, true, false}
use Rattle.std.specs.Prelude.{MatchOption}
use Rattle.std.proofs.lemmas.Result.{IfOk-weaker}
use Rattle.name_dirs.specs.Directory.{row_at}
use Rattle.name_dirs.specs.Text.{is_text}
use Rattle.name_dirs.proofs.Rows.{copied_name}
use Rattle.name_dirs.proofs.table.Table.name_at.Goals as goal

pub returns-in-Some : goal.returns-in-Some
returns-in-Some c =
    let row = c.row_at.result.now in
    let is = c.row_at.ensures.row ∙ ap (λ (l : List ℕ). row_at l c.args.place) c.as_slice.ensures in
    IfOk-weaker c.copied.result _ _
    (λ text told row_is. rw (← is) (copied_name row text c.row_at.ensures.size c.in-Some.ensures.0
    (subst (λ (l : List ℕ). MatchOption text (is_text l ≡ false) (λ t. (is_text l ≡ true) × (t ≡ l))) c.in-Some.ensures.1 told)))
    c.copied.ensures
