use Rattle.std.proofs.Common.{◌≡◌, ◌∙◌, sym, ap, refl, length, Some, None, slice_get, Option}
use Rattle.ufs_model.proofs.Words.{IfNone, Server, is_grant, ltb-true, position, slice_get_read}
use Rattle.ufs_model.proofs.Places.{no_grant_place, no_draft_place, draft_place}
use Rattle.ufs_model.proofs.server.Server.draft_place.Goals as goal

always : {T P : Type 0} (o : Option T) → P → IfNone o P
always None p = p
always (Some x) p = tt

pub returns-in_err-at-clause-none : goal.returns-in_err-at-clause-none
returns-in_err-at-clause-none c =
    let nowhere : position (is_grant c.args.who c.in-Through.t) c.args.self.now.state.grants ≡ None = sym c.place_of.ensures ∙ c.in_err-at.was in
    always c.from_residual.result (no_grant_place c.args.self.now.state c.args.who c.args.reference c.in-Through.t c.in-Through.is nowhere)

pub returns-in-Some-clause-some : goal.returns-in-Some-clause-some
returns-in-Some-clause-some c =
    let s = c.args.self.now.state in
    let here : position (is_grant c.args.who c.in-Through.t) s.grants ≡ Some c.in_ok-at.at = sym c.place_of.ensures ∙ c.in_ok-at.was in
    let there = c.in_ok-get.ensures.lookup in
    let read = slice_get_read c.deref.result.now (length c.deref.result.now) c.in_ok-at.at c.in_ok-get.field-0.now refl (ltb-true c.in_ok-at.at (length c.deref.result.now) (sym there.0)) there.1 in
    let stands : slice_get s.grants c.in_ok-at.at ≡ Some c.in_ok-get.field-0.now =
    ap (λ (v : Server). slice_get v.state.grants c.in_ok-at.at) (sym c.self.view_is) ∙ ap (λ gs. slice_get gs c.in_ok-at.at) (sym c.deref.ensures.value) ∙ read in
    draft_place s c.args.who c.args.reference c.in-Through.t c.in-Through.is c.in_ok-at.at c.in_ok-get.field-0.now here stands c.in-Some.field-0 c.in-Some.is

pub returns-in-None-clause-none : goal.returns-in-None-clause-none
returns-in-None-clause-none c =
    let s = c.args.self.now.state in
    let here : position (is_grant c.args.who c.in-Through.t) s.grants ≡ Some c.in_ok-at.at = sym c.place_of.ensures ∙ c.in_ok-at.was in
    let there = c.in_ok-get.ensures.lookup in
    let read = slice_get_read c.deref.result.now (length c.deref.result.now) c.in_ok-at.at c.in_ok-get.field-0.now refl (ltb-true c.in_ok-at.at (length c.deref.result.now) (sym there.0)) there.1 in
    let stands : slice_get s.grants c.in_ok-at.at ≡ Some c.in_ok-get.field-0.now =
    ap (λ (v : Server). slice_get v.state.grants c.in_ok-at.at) (sym c.self.view_is) ∙ ap (λ gs. slice_get gs c.in_ok-at.at) (sym c.deref.ensures.value) ∙ read in
    no_draft_place s c.args.who c.args.reference c.in-Through.t c.in-Through.is c.in_ok-at.at c.in_ok-get.field-0.now here stands c.in-None.is
