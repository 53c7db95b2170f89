use Rattle.std.proofs.Common.{ℕ, List, Option, Vec, Global, ap}
use Rattle.std.specs.Prelude.{Result, Ok, Err, OnOk, IsOk}
use mathlib.Core.Path.{fun_ext}
use Rattle.ufs_model.specs.declared.asked.Bound.{Bound}
use Rattle.cfs_script.proofs.Lookups.{read_at-put, lookup-map}
use Rattle.cfs_script.proofs.names.Names.bind.Goals as goal

from_ok : {T E P : Type 0} → (r : Result T E) → IsOk r → OnOk r P → P
from_ok (Ok x) ok h = h
from_ok (Err e) ok h = cc ok

pub returns-clause-names : goal.returns-clause-names
returns-clause-names c =
    let letters = λ (v : Vec ℕ Global). v.items in
    let old = c.self.inside.bound.entries in
    let new = c.insert.new.self.entries in
    let done = from_ok _ (c.insert.ensures.succeeds (rw (← c.self.view_is) at c.requires)) c.insert.ensures.updates in
    let put = read_at-put letters old new c.into_vec.result c.args.to done.3 done.1 in
    rw (← c.self.view_is, ← c.into_vec.ensures) (ap
    (λ (f : List ℕ → Option Bound). record { root = c.self.inside.root; bound = f })
    (fun_ext (λ w. rw (lookup-map letters w new, lookup-map letters w old) (put w))))
