-- The model's grants without their drafts.
use Rattle.std.proofs.Common.{◌≡◌, suc, List, [], ◌∷◌, length, refl, sym, ap, ◌∙◌, Some, Bool, true, false, cond, not, ◌&&◌, ◌||◌, is_some}
use Rattle.open_table.proofs.Words.{OpenGrant, Mode, Puid, Reading, Writing, and_parts, collides, conflicts, filter, find, is_writing, list_all, list_any, open_mode, none_collide, option_map, same_puid, shown, table_of}
use Rattle.ufs_model.specs.declared.object.Grant as models
use Rattle.open_table.proofs.Lists.{not_true, same_puid-trans}

-- ---- any test that does not look at the draft

pub find-table : (p : OpenGrant → Bool) (grants : List models.Grant) → find p (table_of grants) ≡ option_map shown (find (λ g. p (shown g)) grants)
find-table p [] = refl
find-table p (g ∷ grants) = elim (p (shown g)) as (λ t. cond t (Some (shown g)) (find p (table_of grants)) ≡ option_map shown (cond t (Some g) (find (λ g. p (shown g)) grants))) [
  | true ↦ refl
  | false ↦ find-table p grants
]

pub filter-table : (p : OpenGrant → Bool) (grants : List models.Grant) → filter p (table_of grants) ≡ table_of (filter (λ g. p (shown g)) grants)
filter-table p [] = refl
filter-table p (g ∷ grants) = elim (p (shown g)) as (λ t. cond t (shown g ∷ filter p (table_of grants)) (filter p (table_of grants)) ≡ table_of (cond t (g ∷ filter (λ g. p (shown g)) grants) (filter (λ g. p (shown g)) grants))) [
  | true ↦ ap (λ rest. shown g ∷ rest) (filter-table p grants)
  | false ↦ filter-table p grants
]

pub length-table : (grants : List models.Grant) → length (table_of grants) ≡ length grants
length-table [] = refl
length-table (g ∷ grants) = ap suc (length-table grants)

pub found-any : (p : OpenGrant → Bool) (grants : List models.Grant) → is_some (option_map (λ g. g.mode) (find p (table_of grants))) ≡ list_any (λ g. p (shown g)) grants
found-any p [] = refl
found-any p (g ∷ grants) = elim (p (shown g)) as (λ t. is_some (option_map (λ g. g.mode) (cond t (Some (shown g)) (find p (table_of grants)))) ≡ (t || list_any (λ g. p (shown g)) grants)) [
  | true ↦ refl
  | false ↦ found-any p grants
]

-- ---- what an opening meets

-- the model's word
abbrev is_for_reading : Mode → Bool
is_for_reading Reading = true
is_for_reading Writing = false

any-alike : (p q : models.Grant → Bool) → ((g : models.Grant) → p g ≡ q g) → (grants : List models.Grant) → list_any p grants ≡ list_any q grants
any-alike p q alike [] = refl
any-alike p q alike (g ∷ grants) = ap (λ t. t || list_any p grants) (alike g) ∙ ap (λ rest. q g || rest) (any-alike p q alike grants)

conflicts-reading : (m : Mode) → conflicts Reading m ≡ not (is_for_reading m)
conflicts-reading Reading = refl
conflicts-reading Writing = refl

conflicts-writing : (t : Bool) (m : Mode) → (t && conflicts Writing m) ≡ t
conflicts-writing true Reading = refl
conflicts-writing true Writing = refl
conflicts-writing false m = refl

pub met-reading : (grants : List models.Grant) (id : Puid) → list_any (λ g. same_puid id g.id && conflicts Reading g.mode) grants ≡ list_any (λ g. same_puid id g.id && not (is_for_reading g.mode)) grants
met-reading grants id = any-alike _ _ (λ g. ap (λ t. same_puid id g.id && t) (conflicts-reading g.mode)) grants

pub met-writing : (grants : List models.Grant) (id : Puid) → list_any (λ g. same_puid id g.id && conflicts Writing g.mode) grants ≡ list_any (λ g. same_puid id g.id) grants
met-writing grants id = any-alike _ _ (λ g. conflicts-writing (same_puid id g.id) g.mode) grants

-- ---- an object that is open for writing

-- beside one for reading there is none for writing
no_writer : (grants : List models.Grant) (g : OpenGrant) (id : Puid) → g.mode ≡ Reading → same_puid id g.id ≡ true → list_all (λ x. not (collides g x)) (table_of grants) ≡ true
    → list_any (λ h. same_puid id h.id && not (is_for_reading h.mode)) grants ≡ false
no_writer [] g id reading same all = refl
no_writer (h ∷ grants) g id reading same all =
    let parts = and_parts (not (collides g (shown h))) (list_all (λ x. not (collides g x)) (table_of grants)) all in
    let alike : collides g (shown h) ≡ (same_puid id h.id && not (is_for_reading h.mode)) =
    ap (λ t. t && conflicts g.mode h.mode) (sym (same_puid-trans id g.id h.id same)) ∙ ap (λ m. same_puid id h.id && conflicts m h.mode) reading ∙ ap (λ t. same_puid id h.id && t) (conflicts-reading h.mode) in
    rw (sym alike ∙ not_true (collides g (shown h)) parts.0) (no_writer grants g id reading same parts.1)

pub open_for_writing : (grants : List models.Grant) (id : Puid) → none_collide (table_of grants) ≡ true
    → is_writing (open_mode (table_of grants) id) ≡ list_any (λ g. same_puid id g.id && not (is_for_reading g.mode)) grants
open_for_writing [] id apart = refl
open_for_writing (g ∷ grants) id apart =
    let parts = and_parts (list_all (λ x. not (collides (shown g) x)) (table_of grants)) (none_collide (table_of grants)) apart in
    elim (same_puid id g.id) as (λ s. same_puid id g.id ≡ s
    → is_writing (option_map (λ g. g.mode) (cond s (Some (shown g)) (find (λ h. same_puid id h.id) (table_of grants)))) ≡ ((s && not (is_for_reading g.mode)) || list_any (λ g. same_puid id g.id && not (is_for_reading g.mode)) grants)) [
      | true ↦ λ same. first g.mode refl same parts.0
      | false ↦ λ other. open_for_writing grants id parts.1
    ] refl
  where
    first : (m : Mode) → g.mode ≡ m → same_puid id g.id ≡ true → list_all (λ x. not (collides (shown g) x)) (table_of grants) ≡ true
        → is_writing (Some m) ≡ (not (is_for_reading m) || list_any (λ g. same_puid id g.id && not (is_for_reading g.mode)) grants)
    first Reading is same all = sym (no_writer grants (shown g) id is same all)
    first Writing is same all = refl
