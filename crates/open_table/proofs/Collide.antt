-- Grants that stand beside one another.
use Rattle.std.proofs.Common.{◌≡◌, List, [], ◌∷◌, ◌++◌, refl, ap, ◌∙◌, Option, Some, None, Bool, true, false, cond, not, ◌&&◌}
use Rattle.open_table.proofs.Words.{OpenGrant, Mode, and_parts, collides, conflicts, find, list_all, list_any, open_mode, none_collide, option_map, or_parts, same_puid, same_tuid, tuids_differ}
use Rattle.open_table.proofs.Lists.{not_true, same_puid-trans, collides-sym, one_mode}

-- ---- what a grant collides with

-- it collides with the first on its object, where the modes conflict
pub collides-first : (grants : List OpenGrant) (g : OpenGrant) (m : Mode) → open_mode grants g.id ≡ Some m → conflicts g.mode m ≡ true → option_map (λ h. h.mode) (find (collides g) grants) ≡ Some m
collides-first [] g m there conflict = cc
collides-first (h ∷ grants) g m there conflict =
    elim (same_puid g.id h.id) as (λ s. option_map (λ h. h.mode) (cond s (Some h) (find (λ g'. same_puid g.id g'.id) grants)) ≡ Some m
    → option_map (λ h. h.mode) (cond (s && conflicts g.mode h.mode) (Some h) (find (collides g) grants)) ≡ Some m) [
      | true ↦ λ here. let mode : h.mode ≡ m = cc in rw (ap (conflicts g.mode) mode ∙ conflict) here
      | false ↦ λ later. collides-first grants g m later conflict
    ] there

-- and with none where none is on its object
pub collides-none : (grants : List OpenGrant) (g : OpenGrant) → open_mode grants g.id ≡ None → find (collides g) grants ≡ None
collides-none [] g none = refl
collides-none (h ∷ grants) g none =
    elim (same_puid g.id h.id) as (λ s. option_map (λ h. h.mode) (cond s (Some h) (find (λ g'. same_puid g.id g'.id) grants)) ≡ None
    → cond (s && conflicts g.mode h.mode) (Some h) (find (collides g) grants) ≡ None) [
      | true ↦ λ here. cc
      | false ↦ λ later. collides-none grants g later
    ] none

-- those that stand beside one of its mode on its object don't collide with it either
beside : (grants : List OpenGrant) (g h : OpenGrant) → same_puid g.id h.id ≡ true → g.mode ≡ h.mode → list_all (λ x. not (collides h x)) grants ≡ true → find (collides g) grants ≡ None
beside [] g h same mode all = refl
beside (x ∷ grants) g h same mode all =
    let parts = and_parts (not (collides h x)) (list_all (λ x. not (collides h x)) grants) all in
    let alike : collides g x ≡ collides h x = ap (λ s. s && conflicts g.mode x.mode) (same_puid-trans g.id h.id x.id same) ∙ ap (λ m. same_puid h.id x.id && conflicts m x.mode) mode in
    let none : collides g x ≡ false = alike ∙ not_true (collides h x) parts.0 in
    rw none (beside grants g h same mode parts.1)

pub collides-shared : (grants : List OpenGrant) (g : OpenGrant) (m : Mode) → none_collide grants ≡ true → open_mode grants g.id ≡ Some m → conflicts g.mode m ≡ false → find (collides g) grants ≡ None
collides-shared [] g m apart there shared = cc
collides-shared (h ∷ grants) g m apart there shared =
    let parts = and_parts (list_all (λ x. not (collides h x)) grants) (none_collide grants) apart in
    elim (same_puid g.id h.id) as (λ s. same_puid g.id h.id ≡ s → option_map (λ h. h.mode) (cond s (Some h) (find (λ g'. same_puid g.id g'.id) grants)) ≡ Some m
    → cond (s && conflicts g.mode h.mode) (Some h) (find (collides g) grants) ≡ None) [
      | true ↦ λ same here.
          let mode : h.mode ≡ m = cc in
          let free : conflicts g.mode h.mode ≡ false = ap (conflicts g.mode) mode ∙ shared in
          rw free (beside grants g h same (one_mode g.mode h.mode free) parts.0)
      | false ↦ λ other later. collides-shared grants g m parts.1 later shared
    ] refl there

-- ---- one more

all_push : (p : OpenGrant → Bool) (xs : List OpenGrant) (y : OpenGrant) → list_all p xs ≡ true → p y ≡ true → list_all p (xs ++ y ∷ []) ≡ true
all_push p [] y all last = rw last refl
all_push p (x ∷ xs) y all last = let parts = and_parts (p x) (list_all p xs) all in rw parts.0 (all_push p xs y parts.1 last)

pub none_collide-push : (grants : List OpenGrant) (g : OpenGrant) → none_collide grants ≡ true → find (collides g) grants ≡ None → none_collide (grants ++ g ∷ []) ≡ true
none_collide-push [] g apart none = refl
none_collide-push (h ∷ grants) g apart none =
    let parts = and_parts (list_all (λ x. not (collides h x)) grants) (none_collide grants) apart in
    let free = passed (collides g h) h (find (collides g) grants) none in
    rw (all_push (λ x. not (collides h x)) grants g parts.0 (ap not (collides-sym h g ∙ free.0))) (none_collide-push grants g parts.1 free.1)
  where
    passed : (t : Bool) (h : OpenGrant) (rest : Option OpenGrant) → cond t (Some h) rest ≡ None → (t ≡ false) × (rest ≡ None)
    passed true h rest e = cc
    passed false h rest e = (refl, e)

pub tuids_differ-push : (grants : List OpenGrant) (g : OpenGrant) → tuids_differ grants ≡ true → list_any (λ h. same_tuid h.tuid g.tuid) grants ≡ false → tuids_differ (grants ++ g ∷ []) ≡ true
tuids_differ-push [] g differ new = refl
tuids_differ-push (h ∷ grants) g differ new =
    let parts = and_parts (list_all (λ x. not (same_tuid h.tuid x.tuid)) grants) (tuids_differ grants) differ in
    let others = or_parts (same_tuid h.tuid g.tuid) (list_any (λ h. same_tuid h.tuid g.tuid) grants) new in
    rw (all_push (λ x. not (same_tuid h.tuid x.tuid)) grants g parts.0 (ap not others.0)) (tuids_differ-push grants g parts.1 others.1)
