use Rattle.std.proofs.Common.{ℕ, List, Option, Vec, Global, ap}
use mathlib.Core.Path.{fun_ext}
use Rattle.ufs_model.specs.declared.asked.Bound.{Bound}
use Rattle.cfs_script.proofs.Lookups.{lookup-map, read_at-reordered}
use Rattle.cfs_script.proofs.names.Names.reserve.Goals as goal

pub returns-clause-names : goal.returns-clause-names
returns-clause-names c =
    let letters = λ (v : Vec ℕ Global). v.items in
    let old = c.self.inside.bound.entries in
    let new = c.reserve.new.self.entries in
    let read = read_at-reordered letters old new c.reserve.ensures.entries.2 in
    rw (← c.self.view_is) (ap
    (λ (f : List ℕ → Option Bound). record { root = c.self.inside.root; bound = f })
    (fun_ext (λ w. rw (lookup-map letters w new, lookup-map letters w old) (read w))))
