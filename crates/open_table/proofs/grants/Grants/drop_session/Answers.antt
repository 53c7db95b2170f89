use Rattle.std.proofs.Common.{◌≡◌, ◌∙◌, ◌<◌, ap, sym, Some, None, length}
use Rattle.open_table.proofs.Words.{Table, first_grant, grants_of, without_session}
use Rattle.open_table.proofs.Lists.{first-closed, grants_of-fewer, grants_of-none, without_session-none, without_session-without_grant}
use Rattle.open_table.proofs.grants.Grants.drop_session.Goals as goal

pub loop-grant-smaller : goal.loop-grant-smaller
loop-grant-smaller c =
    let first : first_grant c.loop-grant.self.grants c.args.who ≡ Some c.in-Some.grant = sym c.next_of.ensures ∙ c.in-Some.is in
    let closed = first-closed c.close.result c.loop-grant.self.grants c.close.new.self.grants c.args.who c.in-Some.grant first c.close.ensures.grants c.close.ensures.none in
    let fewer : length (grants_of c.close.new.self.grants c.args.who) < length (grants_of c.loop-grant.self.grants c.args.who) = rw closed (grants_of-fewer c.loop-grant.self.grants c.args.who c.in-Some.grant first) in
    fewer

pub loop-grant-preserved : goal.loop-grant-preserved
loop-grant-preserved c =
    let first : first_grant c.loop-grant.self.grants c.args.who ≡ Some c.in-Some.grant = sym c.next_of.ensures ∙ c.in-Some.is in
    let closed = first-closed c.close.result c.loop-grant.self.grants c.close.new.self.grants c.args.who c.in-Some.grant first c.close.ensures.grants c.close.ensures.none in (
      ap (λ grants. without_session grants c.args.who) closed ∙ without_session-without_grant c.loop-grant.self.grants c.args.who c.in-Some.grant.tuid ∙ c.loop-grant.invariant.0,
      λ had. c.close.ensures.room (c.loop-grant.invariant.1 had),
    )

pub forget-requires : goal.forget-requires
forget-requires c =
    let none : first_grant c.loop-grant.self.grants c.args.who ≡ None = sym c.next_of.ensures ∙ c.in_default.is in
    c.self.invariant.own c.args.who ∙ grants_of-none c.self.inside.grants.items c.args.who (ap (λ (t : Table). first_grant t.grants c.args.who) c.self.view_is ∙ none)

pub returns-clause-grants : goal.returns-clause-grants
returns-clause-grants c =
    let none : first_grant c.loop-grant.self.grants c.args.who ≡ None = sym c.next_of.ensures ∙ c.in_default.is in
    ap (λ (t : Table). t.grants) c.self.view_is ∙ sym (without_session-none c.loop-grant.self.grants c.args.who none) ∙ c.loop-grant.invariant.0
