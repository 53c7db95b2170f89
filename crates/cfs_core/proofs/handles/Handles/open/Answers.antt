use Rattle.std.proofs.Common.{◌≡◌, ℕ, ◌<◌, arith, ◌++◌, [], ◌∷◌, None, Some, nat_eq, ap, sym, ◌∙◌, true, ◌==◌, nat_lt}
use Rattle.cfs_core.proofs.Words.{and_parts, fault_of, get, list_any, nat_tests, spare}
use Rattle.cfs_core.specs.Kernel.{grants_in}
use Rattle.cfs_core.specs.Handles.{is_drawn, handled}
use Rattle.cfs_core.proofs.Handled.{any_drawn, no_tuid, of_grants_open, ok_of, handled_grants, handled_open, handled_push}
use Rattle.cfs_core.proofs.handles.Handles.open.Goals.{in-Ok+in-Some-1, in-Ok+in-None-1, in-Err-1}
use Rattle.cfs_core.proofs.handles.Handles.open.Goals as goal

above_none : (n : ℕ) → nat_lt 0 n ≡ true → 0 < n
above_none n is = grind (arith, nat_tests)

pub acquire-requires-clause-new : goal.acquire-requires-clause-new
acquire-requires-clause-new c = no_tuid c.self.inside.grants.grants c.args.grant.tuid
    (sym (any_drawn _ c.args.grant.tuid.draw c.self.inside.grants.grants) ∙ ap (λ t. list_any (is_drawn c.args.grant.tuid.draw) t.handles) c.self.view_is ∙ c.requires.new)

-- it is allowed, so it isn't refused
pub unreachable-requires : goal.unreachable-requires
unreachable-requires c =
    let grants = sym (ap (λ t. grants_in t.handles) c.self.view_is) ∙ handled_grants _ c.self.inside.grants.grants in
    let none : fault_of c.self.inside.grants.grants c.args.grant ≡ None = ap (λ gs. fault_of gs c.args.grant) (sym grants) ∙ c.requires.allowed in
    let both : None ≡ Some c.in_default.field-0 = sym none ∙ c.in_default.ensures.fault in cc

pub invariant_of-self : goal.invariant_of-self
invariant_of-self c =
    let room = and_parts c.self.inside.grants.has_room (nat_lt 0 (spare c.self.inside.drafts)) (ap (λ t. t.has_room) c.self.view_is ∙ c.requires.room) in
    let puts = ok_of c.insert.result (c.insert.ensures.succeeds (above_none (spare c.self.inside.drafts) room.1)) c.insert.ensures.updates in
    λ draw other. of_grants_open c.args.grant (Some c.in-Some.draft) (get nat_eq c.self.inside.drafts) (get nat_eq c.insert.new.self) puts.0 c.self.inside.grants.grants c.self.invariant draw
    (ap (list_any (λ x. draw == x.tuid.draw)) (sym c.in-Ok.ensures.grants) ∙ other)

pub invariant_of-self-in-Some-2 : goal.invariant_of-self-in-Some-2
invariant_of-self-in-Some-2 c =
    let room = and_parts c.self.inside.grants.has_room (nat_lt 0 (spare c.self.inside.drafts)) (ap (λ t. t.has_room) c.self.view_is ∙ c.requires.room) in
    let puts = ok_of c.insert.result (c.insert.ensures.succeeds (above_none (spare c.self.inside.drafts) room.1)) c.insert.ensures.updates in
    λ draw other. of_grants_open c.args.grant (Some c.in-Some.draft) (get nat_eq c.self.inside.drafts) (get nat_eq c.insert.new.self) puts.0 c.self.inside.grants.grants c.self.invariant draw
    (ap (list_any (λ x. draw == x.tuid.draw)) (sym c.in-Ok.ensures.grants) ∙ other)

pub returns-in-Some : goal.returns-in-Some
returns-in-Some c =
    let room = and_parts c.self.inside.grants.has_room (nat_lt 0 (spare c.self.inside.drafts)) (ap (λ t. t.has_room) c.self.view_is ∙ c.requires.room) in
    let puts = ok_of c.insert.result (c.insert.ensures.succeeds (above_none (spare c.self.inside.drafts) room.1)) c.insert.ensures.updates in
    let fresh = sym (any_drawn _ c.args.grant.tuid.draw c.self.inside.grants.grants) ∙ ap (λ t. list_any (is_drawn c.args.grant.tuid.draw) t.handles) c.self.view_is ∙ c.requires.new in
    let is : handled (get nat_eq c.insert.new.self) c.acquire.new.self.grants ≡ c.args.self.now.handles ++ record { grant = c.args.grant; drafting = c.args.draft } ∷ [] =
    ap (handled _) c.in-Ok.ensures.grants
    ∙ handled_open c.args.grant (Some c.in-Some.draft) (get nat_eq c.self.inside.drafts) (get nat_eq c.insert.new.self) puts.0 c.self.inside.grants.grants fresh
    ∙ ap (λ t. t.handles ++ record { grant = c.args.grant; drafting = Some c.in-Some.draft } ∷ []) c.self.view_is
    ∙ ap (λ o. c.args.self.now.handles ++ record { grant = c.args.grant; drafting = o } ∷ []) (sym c.in-Some.is) in
    elim c.match-insert.branch [
      | in-Ok+in-Some-1 w ↦ ap (λ t. t.handles) w.self-is ∙ is
      | in-Ok+in-None-1 w ↦ ap (λ t. t.handles) w.self-is ∙ is
      | in-Err-1 w ↦ ap (λ t. t.handles) w.self-is ∙ is
    ]

pub returns-in_default-draft : goal.returns-in_default-draft
returns-in_default-draft c =
    let fresh = sym (any_drawn _ c.args.grant.tuid.draw c.self.inside.grants.grants) ∙ ap (λ t. list_any (is_drawn c.args.grant.tuid.draw) t.handles) c.self.view_is ∙ c.requires.new in
    ap (handled _) c.in-Ok.ensures.grants ∙ handled_push _ c.self.inside.grants.grants c.args.grant (c.self.invariant c.args.grant.tuid.draw fresh) ∙ ap (λ t. t.handles ++ record { grant = c.args.grant; drafting = None } ∷ []) c.self.view_is
    ∙ ap (λ o. c.args.self.now.handles ++ record { grant = c.args.grant; drafting = o } ∷ []) (sym c.in_default-draft.is)
