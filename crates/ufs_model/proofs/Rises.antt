-- Identifiers that rise, each above the one before it.
use Rattle.std.proofs.Common.{◌≡◌, List, [], ◌∷◌, refl, ap, ◌∙◌, Bool, true, false, ◌&&◌}
use Rattle.ufs_model.proofs.Words.{Equal, Greater, Less, Ordering, Puid, ids_rise, is_lt, list_all, puid_cmp, rise_from, rises}
use Rattle.ufs_model.proofs.Entries.{puid_total}
use Rattle.ufs_model.proofs.Tests.{all_weaker}

less_only : (r : Ordering) → is_lt r ≡ true → r ≡ Less
less_only Less h = refl
less_only Equal h = cc
less_only Greater h = cc

abbrev below : Puid → Puid → Bool
below x y = is_lt (puid_cmp x y)

through : (x y z : Puid) → below x y ≡ true → below y z ≡ true → below x z ≡ true
through x y z h i = ap is_lt (puid_total.trans x y z (less_only _ h) (less_only _ i))

rise_from_is : (x : Puid) (ids : List Puid) → rise_from x ids ≡ (list_all (below x) ids && rises ids)
rise_from_is x [] = refl
rise_from_is x (y ∷ ys) =
    ap (λ b. below x y && b) (rise_from_is y ys)
    ∙ by (below x y) (list_all (below x) ys) (list_all (below y) ys) (rises ys) (λ h i. all_weaker (below y) (below x) ys (λ z. through x y z h) i)
  where
    by : (t a b r : Bool) → (t ≡ true → b ≡ true → a ≡ true) → (t && (b && r)) ≡ ((t && a) && (b && r))
    by false a b r f = refl
    by true a true r f = rw (f refl refl) refl
    by true true false r f = refl
    by true false false r f = refl

pub rises_is : (ids : List Puid) → ids_rise ids ≡ rises ids
rises_is [] = refl
rises_is (x ∷ ids) = rise_from_is x ids
