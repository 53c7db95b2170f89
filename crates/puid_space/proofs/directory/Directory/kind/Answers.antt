use Rattle.std.proofs.Common.{◌≡◌, ◌∙◌, refl, ap, sym, Bool, true, false, cond, Some, None, get_or, arith}
use Rattle.puid_space.proofs.Words.{then_some}
use Rattle.puid_space.proofs.Listed.{kind-listed, kind_here}
use Rattle.puid_space.proofs.directory.Directory.kind.Goals as goal

pub returns-in_err-cell : goal.returns-in_err-cell
returns-in_err-cell c =
    let none : c.cell_of.result ≡ None = c.in_err-cell.was in
    let read : c.cell_of.result ≡ get_or c.self.inside.cells.items c.args.id.block None = c.cell_of.ensures ∙ ap (λ cells. get_or cells c.args.id.block None) c.deref.ensures.value in
    rw (← c.self.view_is) (c.from_residual.ensures ∙ ap (λ cell. kind_here cell c.args.id.word) (sym none ∙ read) ∙ sym (kind-listed 0 _ c.args.id.block c.args.id (omega arith)))

then_some_is : {X : Type 0} (b : Bool) (x : X) → then_some b x ≡ cond b (Some x) None
then_some_is true x = refl
then_some_is false x = refl

pub returns : goal.returns
returns c =
    let some : c.cell_of.result ≡ Some c.in_ok-cell.cell = c.in_ok-cell.was in
    let read : c.cell_of.result ≡ get_or c.self.inside.cells.items c.args.id.block None = c.cell_of.ensures ∙ ap (λ cells. get_or cells c.args.id.block None) c.deref.ensures.value in
    rw (← c.self.view_is) (c.then_some.ensures ∙ then_some_is _ _ ∙ ap (λ cell. kind_here cell c.args.id.word) (sym some ∙ read) ∙ sym (kind-listed 0 _ c.args.id.block c.args.id (omega arith)))
