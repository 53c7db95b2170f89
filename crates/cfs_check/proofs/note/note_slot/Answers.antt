use Rattle.std.proofs.Common.{refl, sym, ◌∙◌, ap}
use Rattle.std.proofs.lemmas.Option.{same_Some}
use Rattle.cfs_base.specs.declared.identifier.Puid.{Puid}
use Rattle.cfs_check.proofs.Noted.{roots_one}
use Rattle.cfs_check.proofs.note.note_slot.Goals as goal

pub returns-clause-named : goal.returns-clause-named
returns-clause-named c =
    let here = sym c.in-Some.ensures in
    roots_one _ c.args.roots.now c.add.new.self c.in-Some.id.block c.in_ok-add.ensures.added
    (record { id = c.in-Some.id; has = here; names = c.if-names_nothing.ensures; is = refl })
    (λ n is. sym is.is ∙ ap (λ (x : Puid). x.block) (same_Some is.id c.in-Some.id (sym is.has ∙ here)))
