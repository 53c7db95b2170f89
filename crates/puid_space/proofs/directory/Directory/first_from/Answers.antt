use Rattle.std.proofs.Common.{◌∙◌, ⊎_elim, inl, inr, sym, ap, arith}
use Rattle.puid_space.proofs.Words.{Listing, first_in}
use Rattle.puid_space.proofs.Firsts.{first_in-later, first_in-none, first_in-found}
use Rattle.puid_space.proofs.Opened.{cell-is}
use Rattle.puid_space.proofs.directory.Directory.first_from.Goals as goal

pub loop-block-init : goal.loop-block-init
loop-block-init c =
    sym (ap (λ (d : Listing). first_in d.named c.args.number) c.self.view_is)
    ∙ first_in-later c.args.number 0 c.self.inside.cells.items c.of-least.result.block c.of-least.result.block (omega arith) (omega arith) c.self.invariant.words

pub loop-block-preserved-in_default : goal.loop-block-preserved-in_default
loop-block-preserved-in_default c =
    let none = cell-is c.loop-block.block c.cell_of.ensures c.deref.ensures.value c.in_default.is in
    c.loop-block.invariant ∙ first_in-none c.args.number c.self.inside.cells.items c.loop-block.block none

pub returns-then-block-least : goal.returns-then-block-least
returns-then-block-least c =
    let some = cell-is c.loop-block.block c.cell_of.ensures c.deref.ensures.value c.in-Some.is in
    sym (c.loop-block.invariant ∙ first_in-found c.args.number c.self.inside.cells.items c.loop-block.block c.in-Some.cell some
    (⊎_elim (λ past. inl (omega arith)) (λ here. inr (omega arith, omega arith)) c.then-block-least.either))
