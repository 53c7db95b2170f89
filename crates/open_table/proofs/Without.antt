-- One grant less.
use Rattle.std.proofs.Common.{◌≡◌, ◌≢◌, ℕ, ◌+◌, ◌≤◌, List, [], ◌∷◌, ◌++◌, length, refl, sym, ap, ◌∙◌, arith, Option, Some, None, Bool, true, false, cond, not, ◌&&◌, ◌||◌, eqb, length-append}
use Rattle.open_table.proofs.Words.{OpenGrant, IsTied, Mode, Puid, Tuid, and_parts, collides, conflicts, filter, filter-append, find, session_grant, grants_of, is_session_grant, list_all, list_any, open_mode, nat_tests, none_collide, option_map, or_parts, same_puid, same_tuid, tuids_differ, without_grant}
use Rattle.open_table.proofs.Lists.{not_true, same_puid-sym, same_puid-trans, same_tuid-sym, same_tuid-trans, one_mode, grants_of-without_grant, grants_of-without_other}

-- ---- where it stands

-- what has another identifier stays
none_left : (grants : List OpenGrant) (g : OpenGrant) (who : ℕ) (t : Tuid) → same_tuid g.tuid t ≡ true → list_all (λ x. not (same_tuid g.tuid x.tuid)) grants ≡ true → without_grant grants who t ≡ grants
none_left [] g who t is differ = refl
none_left (x ∷ grants) g who t is differ =
    let parts = and_parts (not (same_tuid g.tuid x.tuid)) (list_all (λ x. not (same_tuid g.tuid x.tuid)) grants) differ in
    let other : same_tuid x.tuid t ≡ false = same_tuid-sym x.tuid t ∙ sym (same_tuid-trans g.tuid t x.tuid is) ∙ not_true _ parts.0 in
    rw (never (eqb x.session who) (same_tuid x.tuid t) other) (ap (λ rest. x ∷ rest) (none_left grants g who t is parts.1))
  where
    never : (s k : Bool) → k ≡ false → (s && k) ≡ false
    never true k h = h
    never false k h = refl

-- a grant that is found has others before and after it, and these are left without it
pub record IsSplit (grants : List OpenGrant) (who : ℕ) (t : Tuid) (c : OpenGrant) : Type 0 where
  pub front : List OpenGrant
  pub back : List OpenGrant
  pub whole : grants ≡ front ++ c ∷ back
  pub left : without_grant grants who t ≡ front ++ back

pub split : (grants : List OpenGrant) (who : ℕ) (t : Tuid) (c : OpenGrant) → tuids_differ grants ≡ true → session_grant grants who t ≡ Some c → IsSplit grants who t c
split [] who t c differ found = cc
split (g ∷ grants) who t c differ found =
    let parts = and_parts (list_all (λ h. not (same_tuid g.tuid h.tuid)) grants) (tuids_differ grants) differ in
    elim (is_session_grant who t g) as (λ k. is_session_grant who t g ≡ k → cond k (Some g) (session_grant grants who t) ≡ Some c → IsSplit (g ∷ grants) who t c) [
      | true ↦ λ is here.
          let same : g ≡ c = cc in
          record { front = []; back = grants; whole = ap (λ c. c ∷ grants) same; left = rw is (none_left grants g who t (and_parts (eqb g.session who) (same_tuid g.tuid t) is).1 parts.0) }
      | false ↦ λ is later.
          let rest = split grants who t c parts.1 later in
          record { front = g ∷ rest.front; back = rest.back; whole = ap (λ gs. g ∷ gs) rest.whole; left = rw is (ap (λ gs. g ∷ gs) rest.left) }
    ] refl found

-- ---- how objects are open without it

open_mode-other : (front back : List OpenGrant) (c : OpenGrant) (id : Puid) → same_puid id c.id ≡ false → open_mode (front ++ back) id ≡ open_mode (front ++ c ∷ back) id
open_mode-other [] back c id other = rw other refl
open_mode-other (g ∷ front) back c id other =
    elim (same_puid id g.id) as (λ s. option_map (λ h. h.mode) (cond s (Some g) (find (λ h. same_puid id h.id) (front ++ back))) ≡ option_map (λ h. h.mode) (cond s (Some g) (find (λ h. same_puid id h.id) (front ++ c ∷ back)))) [
      | true ↦ refl
      | false ↦ open_mode-other front back c id other
    ]

-- of the object that it opened, where none is left on it
open_mode-gone : (grants : List OpenGrant) (c : OpenGrant) (id : Puid) → same_puid id c.id ≡ true → list_any (λ g. same_puid g.id c.id) grants ≡ false → open_mode grants id ≡ None
open_mode-gone [] c id same gone = refl
open_mode-gone (g ∷ grants) c id same gone =
    let parts = or_parts (same_puid g.id c.id) (list_any (λ g. same_puid g.id c.id) grants) gone in
    let other : same_puid id g.id ≡ false = same_puid-trans id c.id g.id same ∙ same_puid-sym c.id g.id ∙ parts.0 in
    rw other (open_mode-gone grants c id same parts.1)

-- and where others are left on it, which are in its mode
open_mode-beside : (grants : List OpenGrant) (c : OpenGrant) (id : Puid) → same_puid id c.id ≡ true → list_all (λ x. not (collides c x)) grants ≡ true → list_any (λ g. same_puid g.id c.id) grants ≡ true → open_mode grants id ≡ Some c.mode
open_mode-beside [] c id same all there = cc
open_mode-beside (g ∷ grants) c id same all there =
    let parts = and_parts (not (collides c g)) (list_all (λ x. not (collides c x)) grants) all in
    let alike : same_puid id g.id ≡ same_puid g.id c.id = same_puid-trans id c.id g.id same ∙ same_puid-sym c.id g.id in
    elim (same_puid g.id c.id) as (λ s. same_puid g.id c.id ≡ s → (s || list_any (λ g. same_puid g.id c.id) grants) ≡ true → open_mode (g ∷ grants) id ≡ Some c.mode) [
      | true ↦ λ is here.
          let free : conflicts c.mode g.mode ≡ false = sym (ap (λ t. t && conflicts c.mode g.mode) (same_puid-sym c.id g.id ∙ is)) ∙ not_true (collides c g) parts.0 in
          rw (alike ∙ is) (ap Some (sym (one_mode c.mode g.mode free)))
      | false ↦ λ is later. rw (alike ∙ is) (open_mode-beside grants c id same parts.1 later)
    ] refl there

open_mode-shared : (front back : List OpenGrant) (c : OpenGrant) (id : Puid) → same_puid id c.id ≡ true → none_collide (front ++ c ∷ back) ≡ true → list_any (λ g. same_puid g.id c.id) (front ++ back) ≡ true
    → open_mode (front ++ back) id ≡ open_mode (front ++ c ∷ back) id
open_mode-shared [] back c id same apart there = rw same (open_mode-beside back c id same (and_parts (list_all (λ x. not (collides c x)) back) (none_collide back) apart).0 there)
open_mode-shared (g ∷ front) back c id same apart there =
    let parts = and_parts (list_all (λ x. not (collides g x)) (front ++ c ∷ back)) (none_collide (front ++ c ∷ back)) apart in
    elim (same_puid id g.id) as (λ s. same_puid id g.id ≡ s
    → option_map (λ h. h.mode) (cond s (Some g) (find (λ h. same_puid id h.id) (front ++ back))) ≡ option_map (λ h. h.mode) (cond s (Some g) (find (λ h. same_puid id h.id) (front ++ c ∷ back)))) [
      | true ↦ λ here. refl
      | false ↦ λ other.
          let off : same_puid g.id c.id ≡ false = same_puid-sym g.id c.id ∙ sym (same_puid-trans id c.id g.id same) ∙ other in
          let rest : list_any (λ g. same_puid g.id c.id) (front ++ back) ≡ true = sym (ap (λ t. t || list_any (λ g. same_puid g.id c.id) (front ++ back)) off) ∙ there in
          open_mode-shared front back c id same parts.1 rest
    ] refl

-- ---- what holds of all still does

list_all-without : (p : OpenGrant → Bool) (front back : List OpenGrant) (c : OpenGrant) → list_all p (front ++ c ∷ back) ≡ true → list_all p (front ++ back) ≡ true
list_all-without p [] back c all = (and_parts (p c) (list_all p back) all).1
list_all-without p (g ∷ front) back c all =
    let parts = and_parts (p g) (list_all p (front ++ c ∷ back)) all in
    rw parts.0 (list_all-without p front back c parts.1)

none_collide-without : (front back : List OpenGrant) (c : OpenGrant) → none_collide (front ++ c ∷ back) ≡ true → none_collide (front ++ back) ≡ true
none_collide-without [] back c apart = (and_parts (list_all (λ x. not (collides c x)) back) (none_collide back) apart).1
none_collide-without (g ∷ front) back c apart =
    let parts = and_parts (list_all (λ x. not (collides g x)) (front ++ c ∷ back)) (none_collide (front ++ c ∷ back)) apart in
    rw (list_all-without (λ x. not (collides g x)) front back c parts.0) (none_collide-without front back c parts.1)

tuids_differ-without : (front back : List OpenGrant) (c : OpenGrant) → tuids_differ (front ++ c ∷ back) ≡ true → tuids_differ (front ++ back) ≡ true
tuids_differ-without [] back c differ = (and_parts (list_all (λ x. not (same_tuid c.tuid x.tuid)) back) (tuids_differ back) differ).1
tuids_differ-without (g ∷ front) back c differ =
    let parts = and_parts (list_all (λ x. not (same_tuid g.tuid x.tuid)) (front ++ c ∷ back)) (tuids_differ (front ++ c ∷ back)) differ in
    rw (list_all-without (λ x. not (same_tuid g.tuid x.tuid)) front back c parts.0) (tuids_differ-without front back c parts.1)

pub few-without : (front back : List OpenGrant) (c : OpenGrant) (who : ℕ) → length (grants_of (front ++ back) who) ≤ length (grants_of (front ++ c ∷ back) who)
few-without front back c who =
    rw (filter-append (λ g. eqb g.session who) front back, filter-append (λ g. eqb g.session who) front (c ∷ back)) (simp length-append (more (eqb c.session who)))
  where
    more : (t : Bool) → length (grants_of front who) + length (grants_of back who) ≤ length (grants_of front who) + length (cond t (c ∷ grants_of back who) (grants_of back who))
    more true = omega arith
    more false = omega arith

-- ---- the tables beside the list

module _ {grants : List OpenGrant} {own : ℕ → List OpenGrant} {modes : Puid → Option Mode} (tied : IsTied grants own modes) (who : ℕ) (t : Tuid) (c : OpenGrant) (found : session_grant grants who t ≡ Some c) where
  parts : IsSplit grants who t c
  parts = split grants who t c tied.tuids found

  -- what is told of all but the modes
  less : {own' : ℕ → List OpenGrant} → ((q : ℕ) → own' q ≡ cond (eqb q who) (filter (λ g. not (same_tuid g.tuid t)) (own q)) (own q))
      → {modes' : Puid → Option Mode} → ((id : Puid) → modes' id ≡ open_mode (without_grant grants who t) id)
      → IsTied (without_grant grants who t) own' modes'
  less own_is modes_is = record {
    own = λ q. own_is q ∙ whose q (eqb q who) refl;
    modes = modes_is;
    few = λ q. rw parts.left (omega (arith, tied.few q, ap (λ gs. length (grants_of gs q)) parts.whole, few-without parts.front parts.back c q));
    apart = rw parts.left (none_collide-without parts.front parts.back c (sym (ap none_collide parts.whole) ∙ tied.apart));
    tuids = rw parts.left (tuids_differ-without parts.front parts.back c (sym (ap tuids_differ parts.whole) ∙ tied.tuids));
    count = rw parts.left (simp length-append (omega (arith, tied.count, simp length-append at (ap length parts.whole))));
  }
    where
      whose : (q : ℕ) (b : Bool) → eqb q who ≡ b → cond b (filter (λ g. not (same_tuid g.tuid t)) (own q)) (own q) ≡ grants_of (without_grant grants who t) q
      whose q true is =
          let same : q ≡ who = grind (arith, nat_tests) in
          rw same (ap (λ gs. filter (λ g. not (same_tuid g.tuid t)) gs) (tied.own who) ∙ sym (grants_of-without_grant grants who t))
      whose q false is =
          let other : q ≢ who = grind (arith, nat_tests) in
          tied.own q ∙ sym (grants_of-without_other grants who q t other)

  -- others are left on the object
  pub IsTied-shared : list_any (λ g. same_puid g.id c.id) (without_grant grants who t) ≡ true
      → {own' : ℕ → List OpenGrant} → ((q : ℕ) → own' q ≡ cond (eqb q who) (filter (λ g. not (same_tuid g.tuid t)) (own q)) (own q))
      → IsTied (without_grant grants who t) own' modes
  IsTied-shared there own_is = less own_is (λ id. tied.modes id ∙ ap (λ gs. open_mode gs id) parts.whole ∙ still id (same_puid id c.id) refl ∙ sym (ap (λ gs. open_mode gs id) parts.left))
    where
      still : (id : Puid) (s : Bool) → same_puid id c.id ≡ s → open_mode (parts.front ++ c ∷ parts.back) id ≡ open_mode (parts.front ++ parts.back) id
      still id true same = sym (open_mode-shared parts.front parts.back c id same (sym (ap none_collide parts.whole) ∙ tied.apart) (sym (ap (λ gs. list_any (λ g. same_puid g.id c.id) gs) parts.left) ∙ there))
      still id false other = sym (open_mode-other parts.front parts.back c id other)

  -- none is left on it
  pub IsTied-closed : list_any (λ g. same_puid g.id c.id) (without_grant grants who t) ≡ false
      → {own' : ℕ → List OpenGrant} → ((q : ℕ) → own' q ≡ cond (eqb q who) (filter (λ g. not (same_tuid g.tuid t)) (own q)) (own q))
      → {modes' : Puid → Option Mode} → ((q : Puid) → modes' q ≡ cond (same_puid q c.id) None (modes q))
      → IsTied (without_grant grants who t) own' modes'
  IsTied-closed gone own_is modes_is = less own_is (λ id. modes_is id ∙ still id (same_puid id c.id) refl)
    where
      still : (id : Puid) (s : Bool) → same_puid id c.id ≡ s → cond s None (modes id) ≡ open_mode (without_grant grants who t) id
      still id true same = sym (open_mode-gone (without_grant grants who t) c id same gone)
      still id false other = tied.modes id ∙ ap (λ gs. open_mode gs id) parts.whole ∙ sym (open_mode-other parts.front parts.back c id other) ∙ sym (ap (λ gs. open_mode gs id) parts.left)
