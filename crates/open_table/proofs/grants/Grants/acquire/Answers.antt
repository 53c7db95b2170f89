use Rattle.std.proofs.Common.{◌≡◌, ◌∙◌, ap, subst, sym, None, length, ◌<◌, ◌+◌, ◌^◌, arith}
use Rattle.open_table.proofs.Words.{MOST_GRANTS, Table, fault_of, grants_of, list_any, mode_against, nat_tests, same_tuid}
use Rattle.open_table.proofs.Faults.{few_by, none_against}
use Rattle.open_table.proofs.Tied.{IsTied-more}
use Rattle.open_table.proofs.grants.Grants.acquire.Goals as goal

pub invariant_of-self : goal.invariant_of-self
invariant_of-self c =
    let shown = ap (λ (t : Table). t.grants) c.self.view_is in
    let none : fault_of c.self.inside.grants.items c.args.grant ≡ None =
    ap (λ grants. fault_of grants c.args.grant) shown ∙ sym c.fault.ensures ∙ c.in_default.is in
    let against = none_against (mode_against c.self.inside.grants.items c.args.grant) (length (grants_of c.self.inside.grants.items c.args.grant.session)) none in
    let few = subst (λ gs. length gs < MOST_GRANTS) (sym (c.self.invariant.own c.args.grant.session)) (few_by (mode_against c.self.inside.grants.items c.args.grant) (length (grants_of c.self.inside.grants.items c.args.grant.session)) none) in
    let room = ap (λ (t : Table). t.has_room) c.self.view_is ∙ c.requires.room in
    let sized = c.self.inside.grants.ok.0 in
    let small : length c.self.inside.grants.items + 1 < 2 ^ 32 = grind (arith, nat_tests) in
    rw c.push_reserved.ensures.items
    (IsTied-more c.self.invariant c.args.grant against few (ap (λ grants. list_any (λ h. same_tuid h.tuid c.args.grant.tuid) grants) shown ∙ c.requires.new) small c.add.ensures c.open.ensures)
