-- The place of a grant among the grants, and its draft.
use Rattle.std.proofs.Common.{◌≡◌, ℕ, ◌∙◌, ap, Some, None, slice_get}
use Rattle.ufs_model.proofs.Words.{Draft, Grant, IsDraftPlace, Ref, State, Through, Tuid, draft_of, grant_of, is_grant, option_and_then, position}
use Rattle.ufs_model.proofs.Grants.{found_at, found_nowhere}

module _ (s : State) (who : ℕ) (ref : Ref) (t : Tuid) (through : ref ≡ Through t) where
  no_draft : grant_of s who t ≡ None → draft_of s who ref ≡ None
  no_draft none = ap (draft_of s who) through ∙ ap (λ o. option_and_then (λ (g : Grant). g.draft) o) none

  pub no_grant_place : position (is_grant who t) s.grants ≡ None → draft_of s who ref ≡ None
  no_grant_place nowhere = no_draft (found_nowhere (is_grant who t) s.grants nowhere)

  module _ (at : ℕ) (g : Grant) (here : position (is_grant who t) s.grants ≡ Some at) (stands : slice_get s.grants at ≡ Some g) where
    found : grant_of s who t ≡ Some g
    found = found_at (is_grant who t) s.grants at here ∙ stands

    pub no_draft_place : g.draft ≡ None → draft_of s who ref ≡ None
    no_draft_place none = ap (draft_of s who) through ∙ ap (λ o. option_and_then (λ (x : Grant). x.draft) o) found ∙ none

    pub draft_place : (d : Draft) → g.draft ≡ Some d → IsDraftPlace s who ref at
    draft_place d has = record { t = t; through = through; grant = g; found = found; stands = stands; draft = d; has = has }
