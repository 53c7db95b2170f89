use Rattle.std.proofs.Common.{◌≡◌, ◌∙◌, ℕ, Some, None, ap, sym, subst, get_or, is_some, arith}
use Rattle.puid_space.proofs.Words.{Listing, directory_kind, same_Some}
use Rattle.puid_space.proofs.Listed.{cell-listed, root-listed}
use Rattle.puid_space.proofs.directory.Directory.at.Goals as goal

none_is_some : {A : Type 0} {x : A} → None ≡ Some x → ⊥
none_is_some is = cc

pub returns-in_err-word-clause-there : goal.returns-in_err-word-clause-there
returns-in_err-word-clause-there c =
    let none : c.cell_of.result ≡ None = c.in_err-word.was in
    let read : c.cell_of.result ≡ get_or c.self.inside.cells.items c.args.block None = c.cell_of.ensures ∙ ap (λ cells. get_or cells c.args.block None) c.deref.ensures.value in
    rw (← c.self.view_is) (ap is_some c.from_residual.ensures ∙ ap is_some (sym none ∙ read) ∙ sym (root-listed 0 c.self.inside.cells.items c.args.block c.args.block (omega arith)))

pub returns-in_err-word-clause-listed : goal.returns-in_err-word-clause-listed
returns-in_err-word-clause-listed c id kind is same =
    let none : c.cell_of.result ≡ None = c.in_err-word.was in
    let read : c.cell_of.result ≡ get_or c.self.inside.cells.items c.args.block None = c.cell_of.ensures ∙ ap (λ cells. get_or cells c.args.block None) c.deref.ensures.value in
    let there : get_or c.self.inside.cells.items id.block None ≡ Some (record { word = id.word; kind = kind }) = cell-listed c.self.inside.cells.items id kind (subst (λ (l : Listing). directory_kind l.named id ≡ Some kind) (sym c.self.view_is) is) in
    let both : None ≡ Some (record { word = id.word; kind = kind }) = sym none ∙ read ∙ ap (λ (b : ℕ). get_or c.self.inside.cells.items b None) (sym same) ∙ there in
    absurd (none_is_some both)

pub returns-clause-there : goal.returns-clause-there
returns-clause-there c =
    let read : c.cell_of.result ≡ get_or c.self.inside.cells.items c.args.block None = c.cell_of.ensures ∙ ap (λ cells. get_or cells c.args.block None) c.deref.ensures.value in
    rw (← c.self.view_is) (ap is_some (sym c.in_ok-word.was ∙ read) ∙ sym (root-listed 0 c.self.inside.cells.items c.args.block c.args.block (omega arith)))

pub returns-clause-listed : goal.returns-clause-listed
returns-clause-listed c id kind is same =
    let read : c.cell_of.result ≡ get_or c.self.inside.cells.items c.args.block None = c.cell_of.ensures ∙ ap (λ cells. get_or cells c.args.block None) c.deref.ensures.value in
    let there : get_or c.self.inside.cells.items id.block None ≡ Some (record { word = id.word; kind = kind }) = cell-listed c.self.inside.cells.items id kind (subst (λ (l : Listing). directory_kind l.named id ≡ Some kind) (sym c.self.view_is) is) in
    let cell : c.in_ok-word.field-0 ≡ record { word = id.word; kind = kind } = same_Some _ _ (sym c.in_ok-word.was ∙ read ∙ ap (λ (b : ℕ). get_or c.self.inside.cells.items b None) (sym same) ∙ there) in
    λ i. Some (record { block = sym same i; word = (cell i).word }, (cell i).kind)
