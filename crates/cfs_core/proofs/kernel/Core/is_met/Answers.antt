use Rattle.std.proofs.Common.{◌≡◌, Bool, List, true, false, ◌&&◌, refl, is_some, IsTrue, sym, ◌∙◌, ap, subst, Option, if◌then◌else◌}
use Rattle.cfs_core.proofs.Words.{Direct, few_each, is_grant_table, is_open, is_open_for_writing, is_writing, meets_a_grant, Mode, open_mode, none_collide, Puid, State, table_of, tuids_differ}
use Rattle.open_table.specs.declared.grant.OpenGrant.{OpenGrant}
use Rattle.cfs_core.specs.Kernel.{grants_in}
use Rattle.cfs_core.proofs.kernel.Core.is_met.Goals as goal

met : (s : State) (id : Puid) (alone : Bool) (mode : Option Mode) → is_some mode ≡ is_open s id → is_writing mode ≡ is_open_for_writing s id → (if alone then is_some mode else is_writing mode) ≡ meets_a_grant s alone (Direct id)
met s id true mode all written = all
met s id false mode all written = written

held : (gs : List OpenGrant) → IsTrue (is_grant_table gs) → none_collide gs ≡ true
held gs is = at (none_collide gs) (tuids_differ gs) (few_each gs) is
  where
    at : (a b c : Bool) → IsTrue (a && b && c) → a ≡ true
    at true b c is = refl
    at false b c is = cc

pub returns-in-Direct : goal.returns-in-Direct
returns-in-Direct g c = λ s serves.
    let table = ap (λ k. grants_in k.handles) c.self.view_is ∙ serves.front.grants in
    let mode = c.mode_on.ensures ∙ ap (λ gs. open_mode gs c.in-Direct.id) table in
    let apart : none_collide (table_of s.grants) ≡ true = held (table_of s.grants) (subst (λ gs. IsTrue (is_grant_table gs)) table c.grants_are_a_table.ensures) in
    c.bars.ensures ∙ met s c.in-Direct.id c.args.alone c.mode_on.result (ap is_some mode ∙ c.table_follows_the_model.ensures.open s c.in-Direct.id) (ap is_writing mode ∙ c.table_follows_the_model.ensures.written s c.in-Direct.id apart) ∙ ap (meets_a_grant s c.args.alone) (sym c.in-Direct.is)

pub returns-in-Through : goal.returns-in-Through
returns-in-Through g c = λ s serves. ap (meets_a_grant s c.args.alone) (sym c.in-Through.is)
