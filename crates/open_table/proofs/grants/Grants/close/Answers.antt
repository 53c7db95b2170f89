use Rattle.std.proofs.Common.{◌≡◌, ◌∙◌, ap, sym, Some, rules}
use Rattle.open_table.proofs.Words.{Table, filter_same, session_grant, list_any, same_puid, without_grant}
use Rattle.open_table.proofs.Without.{IsTied-shared, IsTied-closed}
use Rattle.open_table.proofs.grants.Grants.close.Goals as goal

pub invariant_of-self : goal.invariant_of-self
invariant_of-self c =
    let closed : c.find.result ≡ Some c.in_ok-closed.closed = search rules in
    let found : session_grant c.self.inside.grants.items c.args.who c.args.tuid ≡ Some c.in_ok-closed.closed = ap (λ (t : Table). session_grant t.grants c.args.who c.args.tuid) c.self.view_is ∙ sym c.find.ensures ∙ closed in
    let kept : c.retain.new.self.items ≡ without_grant c.self.inside.grants.items c.args.who c.args.tuid = filter_same _ _ _ (λ x b f' k. search rules) _ _ c.retain.ensures.filtered in
    let on_it = c.is_open.ensures ∙ ap (λ grants. list_any (λ g. same_puid g.id c.in_ok-closed.closed.id) grants) (c.deref.ensures.value ∙ kept) in
    rw kept (IsTied-closed c.self.invariant c.args.who c.args.tuid c.in_ok-closed.closed found (sym on_it ∙ c.if-not-is_open.true) c.remove.ensures.own c.close.ensures.modes)

pub invariant_of-self-else-not-is_open : goal.invariant_of-self-else-not-is_open
invariant_of-self-else-not-is_open c =
    let closed : c.find.result ≡ Some c.in_ok-closed.closed = search rules in
    let found : session_grant c.self.inside.grants.items c.args.who c.args.tuid ≡ Some c.in_ok-closed.closed = ap (λ (t : Table). session_grant t.grants c.args.who c.args.tuid) c.self.view_is ∙ sym c.find.ensures ∙ closed in
    let kept : c.retain.new.self.items ≡ without_grant c.self.inside.grants.items c.args.who c.args.tuid = filter_same _ _ _ (λ x b f' k. search rules) _ _ c.retain.ensures.filtered in
    let on_it = c.is_open.ensures ∙ ap (λ grants. list_any (λ g. same_puid g.id c.in_ok-closed.closed.id) grants) (c.deref.ensures.value ∙ kept) in
    rw kept (IsTied-shared c.self.invariant c.args.who c.args.tuid c.in_ok-closed.closed found (sym on_it ∙ c.if-not-is_open.false) c.remove.ensures.own)

pub returns-then-not-is_open-clause-grants : goal.returns-then-not-is_open-clause-grants
returns-then-not-is_open-clause-grants c =
    filter_same _ _ _ (λ x b f' k. search rules) _ _ c.retain.ensures.filtered ∙ ap (λ (t : Table). without_grant t.grants c.args.who c.args.tuid) c.self.view_is

pub returns-else-not-is_open-clause-grants : goal.returns-else-not-is_open-clause-grants
returns-else-not-is_open-clause-grants c =
    filter_same _ _ _ (λ x b f' k. search rules) _ _ c.retain.ensures.filtered ∙ ap (λ (t : Table). without_grant t.grants c.args.who c.args.tuid) c.self.view_is
