-- Lists of grants.
use Rattle.std.proofs.Common.{◌≡◌, ◌≢◌, ℕ, suc, ◌<◌, ◌≤◌, List, [], ◌∷◌, ◌++◌, length, refl, sym, ap, ◌∙◌, arith, Option, Some, None, Bool, true, false, cond, not, ◌&&◌, eqb, Result, Ok, Err, append-nil}
use Rattle.open_table.proofs.Words.{OpenGrant, Mode, OnErr, OnOk, Puid, Reading, Tuid, Writing, and_parts, collides, conflicts, filter, filter-append, find, first_grant, session_grant, grants_of, is_session_grant, open_mode, nat_tests, option_map, same_puid, same_tuid, slice_get, without_grant, without_session}

-- ---- tests

pub not_true : (t : Bool) → not t ≡ true → t ≡ false
not_true true h = cc
not_true false h = refl

pub same_puid-sym : (a b : Puid) → same_puid a b ≡ same_puid b a
same_puid-sym a b = grind (arith, nat_tests)

pub same_puid-trans : (a b c : Puid) → same_puid a b ≡ true → same_puid a c ≡ same_puid b c
same_puid-trans a b c h = grind (arith, nat_tests)

pub same_tuid-sym : (a b : Tuid) → same_tuid a b ≡ same_tuid b a
same_tuid-sym a b = grind (arith, nat_tests)

pub same_tuid-itself : (a : Tuid) → same_tuid a a ≡ true
same_tuid-itself a = grind (arith, nat_tests)

pub same_tuid-trans : (a b c : Tuid) → same_tuid a b ≡ true → same_tuid a c ≡ same_tuid b c
same_tuid-trans a b c h = grind (arith, nat_tests)

conflicts-sym : (a b : Mode) → conflicts a b ≡ conflicts b a
conflicts-sym Reading Reading = refl
conflicts-sym Reading Writing = refl
conflicts-sym Writing Reading = refl
conflicts-sym Writing Writing = refl

pub collides-sym : (a b : OpenGrant) → collides a b ≡ collides b a
collides-sym a b = ap (λ t. t && conflicts a.mode b.mode) (same_puid-sym a.id b.id) ∙ ap (λ u. same_puid b.id a.id && u) (conflicts-sym a.mode b.mode)

-- two modes that don't conflict are one
pub one_mode : (a b : Mode) → conflicts a b ≡ false → a ≡ b
one_mode Reading Reading h = refl
one_mode Reading Writing h = cc
one_mode Writing Reading h = cc
one_mode Writing Writing h = cc

-- ---- a session's own grants

-- one of them is found as among all
pub find-grants_of : (grants : List OpenGrant) (who : ℕ) (t : Tuid) → find (λ g. same_tuid g.tuid t) (grants_of grants who) ≡ session_grant grants who t
find-grants_of [] who t = refl
find-grants_of (g ∷ grants) who t =
    elim (eqb g.session who) as (λ s. find (λ g. same_tuid g.tuid t) (cond s (g ∷ grants_of grants who) (grants_of grants who)) ≡ cond (s && same_tuid g.tuid t) (Some g) (session_grant grants who t)) [
      | true ↦ ap (λ rest. cond (same_tuid g.tuid t) (Some g) rest) (find-grants_of grants who t)
      | false ↦ find-grants_of grants who t
    ]

pub first-grants_of : (grants : List OpenGrant) (who : ℕ) → slice_get (grants_of grants who) 0 ≡ first_grant grants who
first-grants_of [] who = refl
first-grants_of (g ∷ grants) who =
    elim (eqb g.session who) as (λ s. slice_get (cond s (g ∷ grants_of grants who) (grants_of grants who)) 0 ≡ cond s (Some g) (first_grant grants who)) [
      | true ↦ refl
      | false ↦ first-grants_of grants who
    ]

-- one taken out of them is one taken out of all
pub grants_of-without_grant : (grants : List OpenGrant) (who : ℕ) (t : Tuid) → grants_of (without_grant grants who t) who ≡ filter (λ g. not (same_tuid g.tuid t)) (grants_of grants who)
grants_of-without_grant [] who t = refl
grants_of-without_grant (g ∷ grants) who t =
    elim (eqb g.session who) as (λ s. eqb g.session who ≡ s
    → grants_of (cond (not (s && same_tuid g.tuid t)) (g ∷ without_grant grants who t) (without_grant grants who t)) who ≡ filter (λ g. not (same_tuid g.tuid t)) (cond s (g ∷ grants_of grants who) (grants_of grants who))) [
      | true ↦ λ own. elim (same_tuid g.tuid t) as (λ k. grants_of (cond (not (true && k)) (g ∷ without_grant grants who t) (without_grant grants who t)) who
          ≡ cond (not k) (g ∷ filter (λ g. not (same_tuid g.tuid t)) (grants_of grants who)) (filter (λ g. not (same_tuid g.tuid t)) (grants_of grants who))) [
            | true ↦ grants_of-without_grant grants who t
            | false ↦ rw own (ap (λ rest. g ∷ rest) (grants_of-without_grant grants who t))
          ]
      | false ↦ λ other. rw other (grants_of-without_grant grants who t)
    ] refl

-- and leaves the others'
pub grants_of-without_other : (grants : List OpenGrant) (who other : ℕ) (t : Tuid) → other ≢ who → grants_of (without_grant grants who t) other ≡ grants_of grants other
grants_of-without_other [] who other t apart = refl
grants_of-without_other (g ∷ grants) who other t apart =
    elim (is_session_grant who t g) as (λ k. is_session_grant who t g ≡ k → grants_of (cond (not k) (g ∷ without_grant grants who t) (without_grant grants who t)) other ≡ grants_of (g ∷ grants) other) [
      | true ↦ λ is.
          let not_own : eqb g.session other ≡ false = grind (arith, nat_tests, and_parts (eqb g.session who) (same_tuid g.tuid t) is) in
          rw not_own (grants_of-without_other grants who other t apart)
      | false ↦ λ is. ap (λ rest. cond (eqb g.session other) (g ∷ rest) rest) (grants_of-without_other grants who other t apart)
    ] refl

-- ---- a session that leaves

pub without_session-without_grant : (grants : List OpenGrant) (who : ℕ) (t : Tuid) → without_session (without_grant grants who t) who ≡ without_session grants who
without_session-without_grant [] who t = refl
without_session-without_grant (g ∷ grants) who t =
    elim (is_session_grant who t g) as (λ k. is_session_grant who t g ≡ k → without_session (cond (not k) (g ∷ without_grant grants who t) (without_grant grants who t)) who ≡ without_session (g ∷ grants) who) [
      | true ↦ λ is. rw (and_parts (eqb g.session who) (same_tuid g.tuid t) is).0 (without_session-without_grant grants who t)
      | false ↦ λ is. ap (λ rest. cond (not (eqb g.session who)) (g ∷ rest) rest) (without_session-without_grant grants who t)
    ] refl

pub without_session-none : (grants : List OpenGrant) (who : ℕ) → first_grant grants who ≡ None → without_session grants who ≡ grants
without_session-none [] who none = refl
without_session-none (g ∷ grants) who none =
    elim (eqb g.session who) as (λ s. cond s (Some g) (first_grant grants who) ≡ None → cond (not s) (g ∷ without_session grants who) (without_session grants who) ≡ g ∷ grants) [
      | true ↦ λ found. cc
      | false ↦ λ rest. ap (λ rest. g ∷ rest) (without_session-none grants who rest)
    ] none

pub grants_of-none : (grants : List OpenGrant) (who : ℕ) → first_grant grants who ≡ None → grants_of grants who ≡ []
grants_of-none [] who none = refl
grants_of-none (g ∷ grants) who none =
    elim (eqb g.session who) as (λ s. cond s (Some g) (first_grant grants who) ≡ None → cond s (g ∷ grants_of grants who) (grants_of grants who) ≡ []) [
      | true ↦ λ found. cc
      | false ↦ λ rest. grants_of-none grants who rest
    ] none

-- the first of a session's grants is found by its identifier
pub session_grant-first : (grants : List OpenGrant) (who : ℕ) (g : OpenGrant) → first_grant grants who ≡ Some g → session_grant grants who g.tuid ≡ Some g
session_grant-first [] who g first = cc
session_grant-first (h ∷ grants) who g first =
    elim (eqb h.session who) as (λ s. cond s (Some h) (first_grant grants who) ≡ Some g → cond (s && same_tuid h.tuid g.tuid) (Some h) (session_grant grants who g.tuid) ≡ Some g) [
      | true ↦ λ here. let same : h ≡ g = cc in rw (← same, same_tuid-itself h.tuid) refl
      | false ↦ λ later. session_grant-first grants who g later
    ] first

-- ---- one more

pub grants_of-push : (grants : List OpenGrant) (g : OpenGrant) (who : ℕ) → grants_of (grants ++ g ∷ []) who ≡ cond (eqb who g.session) (grants_of grants who ++ g ∷ []) (grants_of grants who)
grants_of-push grants g who =
    filter-append (λ h. eqb h.session who) grants (g ∷ []) ∙ last (eqb g.session who) (eqb who g.session) (flip g.session who)
  where
    flip : (a b : ℕ) → eqb a b ≡ eqb b a
    flip a b = grind (arith, nat_tests)

    last : (t u : Bool) → t ≡ u → grants_of grants who ++ cond t (g ∷ []) [] ≡ cond u (grants_of grants who ++ g ∷ []) (grants_of grants who)
    last true u same = rw (← same) refl
    last false u same = rw (← same) (append-nil (grants_of grants who))

pub open_mode-push : (grants : List OpenGrant) (g : OpenGrant) (id : Puid) → find (collides g) grants ≡ None → open_mode (grants ++ g ∷ []) id ≡ cond (same_puid id g.id) (Some g.mode) (open_mode grants id)
open_mode-push [] g id none = elim (same_puid id g.id) as (λ t. option_map (λ g. g.mode) (cond t (Some g) None) ≡ cond t (Some g.mode) None) [ true ↦ refl | false ↦ refl ]
open_mode-push (h ∷ grants) g id none =
    let parts = passed (collides g h) (find (collides g) grants) none in
    elim (same_puid id h.id) as (λ s. same_puid id h.id ≡ s
    → option_map (λ g. g.mode) (cond s (Some h) (find (λ g. same_puid id g.id) (grants ++ g ∷ []))) ≡ cond (same_puid id g.id) (Some g.mode) (option_map (λ g. g.mode) (cond s (Some h) (find (λ g. same_puid id g.id) grants)))) [
      | true ↦ λ here. elim (same_puid id g.id) as (λ t. same_puid id g.id ≡ t → Some h.mode ≡ cond t (Some g.mode) (Some h.mode)) [
        | true ↦ λ too.
            let on_one : same_puid g.id h.id ≡ true = sym (same_puid-trans id g.id h.id too) ∙ here in
            let free : conflicts g.mode h.mode ≡ false = sym (ap (λ t. t && conflicts g.mode h.mode) on_one) ∙ parts.0 in
            ap Some (sym (one_mode g.mode h.mode free))
        | false ↦ λ other. refl
      ] refl
      | false ↦ λ other. open_mode-push grants g id parts.1
    ] refl
  where
    passed : (t : Bool) (rest : Option OpenGrant) → cond t (Some h) rest ≡ None → (t ≡ false) × (rest ≡ None)
    passed true rest e = cc
    passed false rest e = (refl, e)

-- ---- a session that closes its first

shorter : (p : OpenGrant → Bool) (grants : List OpenGrant) (g : OpenGrant) → find p grants ≡ Some g → length (filter (λ h. not (p h)) grants) < length grants
shorter p [] g found = cc
shorter p (h ∷ grants) g found =
    elim (p h) as (λ t. cond t (Some h) (find p grants) ≡ Some g → length (cond (not t) (h ∷ filter (λ h. not (p h)) grants) (filter (λ h. not (p h)) grants)) < suc (length grants)) [
      | true ↦ λ here. omega (arith, no_longer grants)
      | false ↦ λ later. omega (arith, shorter p grants g later)
    ] found
  where
    no_longer : (grants : List OpenGrant) → length (filter (λ h. not (p h)) grants) ≤ length grants
    no_longer [] = omega arith
    no_longer (h ∷ grants) = elim (p h) as (λ t. length (cond (not t) (h ∷ filter (λ h. not (p h)) grants) (filter (λ h. not (p h)) grants)) ≤ suc (length grants)) [
      | true ↦ omega (arith, no_longer grants)
      | false ↦ omega (arith, no_longer grants)
    ]

pub grants_of-fewer : (grants : List OpenGrant) (who : ℕ) (g : OpenGrant) → first_grant grants who ≡ Some g → length (grants_of (without_grant grants who g.tuid) who) < length (grants_of grants who)
grants_of-fewer grants who g first =
    rw (grants_of-without_grant grants who g.tuid) (shorter (λ h. same_tuid h.tuid g.tuid) (grants_of grants who) g (find-grants_of grants who g.tuid ∙ session_grant-first grants who g first))

-- it is closed, whatever the answer looks like
pub first-closed : {E : Type 0} (r : Result OpenGrant E) (old new : List OpenGrant) (who : ℕ) (g : OpenGrant) → first_grant old who ≡ Some g → OnOk r (new ≡ without_grant old who g.tuid) → OnErr r (session_grant old who g.tuid ≡ None)
    → new ≡ without_grant old who g.tuid
first-closed (Ok closed) old new who g first done none = done
first-closed (Err e) old new who g first done none = let found = session_grant-first old who g first in cc
