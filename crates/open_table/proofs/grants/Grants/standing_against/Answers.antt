use Rattle.std.proofs.Common.{◌∙◌, sym, ap}
use Rattle.open_table.proofs.Words.{Table, mode_against, then_some}
use Rattle.open_table.proofs.Tied.{against-none, against-some}
use Rattle.open_table.proofs.grants.Grants.standing_against.Goals as goal

pub returns-in_err-mode : goal.returns-in_err-mode
returns-in_err-mode c =
    c.from_residual.ensures ∙ sym (against-none c.self.invariant c.args.grant (sym c.mode_on.ensures ∙ c.in_err-mode.was))
    ∙ ap (λ (t : Table). mode_against t.grants c.args.grant) c.self.view_is

pub returns : goal.returns
returns c =
    c.then_some.ensures ∙ ap (λ b. then_some b c.in_ok-mode.mode) c.conflict.ensures ∙ sym (against-some c.self.invariant c.args.grant c.in_ok-mode.mode (sym c.mode_on.ensures ∙ c.in_ok-mode.was))
    ∙ ap (λ (t : Table). mode_against t.grants c.args.grant) c.self.view_is
