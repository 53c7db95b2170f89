-- What is handled: grants with the drafts that are held for their draws.
use Rattle.std.proofs.Common.{◌≡◌, ℕ, suc, ◌+◌, List, [], ◌∷◌, ◌++◌, drop, slice_get, add-one, rules, Bool, true, false, cond, not, ◌||◌, ◌&&◌, Option, Some, None, Result, Ok, Err, is_some, refl, sym, ◌∙◌, ap, subst, arith, ◌≤◌, ◌==◌, IsOk, OnErr, OnOk, filter}
use Rattle.cfs_core.proofs.Words.{and_right, Drafting, eq-eqb, eqb-true, false_from_ne_true, list_any, list_any-append, nat_tests, or_from, or_parts, same_tuid, true≢false, Tuid}
use Rattle.open_table.specs.declared.grant.OpenGrant.{OpenGrant}
use Rattle.open_table.specs.Grants.{is_session_grant}
use Rattle.cfs_core.specs.Kernel.{Handle, grants_in}
use Rattle.cfs_core.specs.Handles.{AreOfGrants, ChangesHeld, HoldsDraft, drafting_at, have_draft, is_at, is_drawn, handled, handles_but, root_at, with_drafting}
use Rattle.std.proofs.Math.Seq.{drop-cons}
use Rattle.std.proofs.lemmas.Option.{get_or_from_slice_get, same_Some, slice_get_within}
use Rattle.ufs_model.specs.Identifier.{same_puid}
use Rattle.cfs_base.specs.declared.identifier.Puid.{Puid}

pub alike : (a b : Puid) → ((a.block == b.block) && (a.word == b.word)) ≡ same_puid a b
alike a b = search rules

at_place : (gs : List OpenGrant) (place : ℕ) (g : OpenGrant) → slice_get gs place ≡ Some g → drop place gs ≡ g ∷ drop (place + 1) gs
at_place gs place g here = rw add-one (drop-cons gs place g (slice_get_within gs place g here) ∙ ap (λ x. x ∷ drop (suc place) gs) (get_or_from_slice_get gs place g g here))

module _ (held : ℕ → Option Drafting) where
  -- a grant on another object, or with no draft, is passed
  pub root_passed : (gs : List OpenGrant) (place : ℕ) (g : OpenGrant) (id : Puid) → slice_get gs place ≡ Some g → (same_puid id g.id && is_some (held g.tuid.draw)) ≡ false
      → root_at (handled held (drop place gs)) id ≡ root_at (handled held (drop (place + 1) gs)) id
  root_passed gs place g id here is = ap (λ xs. root_at (handled held xs) id) (at_place gs place g here) ∙ rw is refl

  pub root_found : (gs : List OpenGrant) (place : ℕ) (g : OpenGrant) (id : Puid) (d : Drafting) → slice_get gs place ≡ Some g → same_puid id g.id ≡ true → held g.tuid.draw ≡ Some d
      → root_at (handled held (drop place gs)) id ≡ Some d.root
  root_found gs place g id d here same has = ap (λ xs. root_at (handled held xs) id) (at_place gs place g here) ∙ rw (same, has) refl

  pub handled_grants : (gs : List OpenGrant) → grants_in (handled held gs) ≡ gs
  handled_grants [] = refl
  handled_grants (g ∷ gs) = ap (λ rest. g ∷ rest) (handled_grants gs)

  pub handled_push : (gs : List OpenGrant) (g : OpenGrant) → held g.tuid.draw ≡ None → handled held (gs ++ g ∷ []) ≡ handled held gs ++ record { grant = g; drafting = None } ∷ []
  handled_push [] g none = rw none refl
  handled_push (x ∷ gs) g none = ap (λ rest. record { grant = x; drafting = held x.tuid.draw } ∷ rest) (handled_push gs g none)

  pub handled_but : (test : OpenGrant → Bool) (gs : List OpenGrant) → handled held (filter (λ g. not (test g)) gs) ≡ handles_but test (handled held gs)
  handled_but test [] = refl
  handled_but test (g ∷ gs) = elim (test g) as (λ b. handled held (cond (not b) (g ∷ filter (λ x. not (test x)) gs) (filter (λ x. not (test x)) gs))
      ≡ cond (not b) (record { grant = g; drafting = held g.tuid.draw } ∷ handles_but test (handled held gs)) (handles_but test (handled held gs))) [
        | true ↦ handled_but test gs
        | false ↦ ap (λ rest. record { grant = g; drafting = held g.tuid.draw } ∷ rest) (handled_but test gs)
      ]

  pub any_drawn : (draw : ℕ) (gs : List OpenGrant) → list_any (is_drawn draw) (handled held gs) ≡ list_any (λ g. draw == g.tuid.draw) gs
  any_drawn draw [] = refl
  any_drawn draw (g ∷ gs) = ap (λ b. (draw == g.tuid.draw) || b) (any_drawn draw gs)

  -- the draft that is held for a draw is that of its handle
  held_at : (gs : List OpenGrant) (draw : ℕ) → (list_any (λ g. draw == g.tuid.draw) gs ≡ false → held draw ≡ None) → held draw ≡ drafting_at (handled held gs) draw
  held_at [] draw none = none refl
  held_at (g ∷ gs) draw none = at (λ rest. held_at gs draw rest) (draw == g.tuid.draw) refl
    where
      at : ((list_any (λ x. draw == x.tuid.draw) gs ≡ false → held draw ≡ None) → held draw ≡ drafting_at (handled held gs) draw) → (b : Bool) → (draw == g.tuid.draw) ≡ b
          → held draw ≡ drafting_at (handled held (g ∷ gs)) draw
      at later true is = rw is (ap held (eqb-true draw g.tuid.draw is))
      at later false is = rw is (later (λ other. none (rw (is, other) refl)))

  module _ (test : OpenGrant → Bool) (draw : ℕ) (d : Drafting) (is : held draw ≡ Some d) where
    of_left : (xs : List OpenGrant) → have_draft test (handled held xs) ≡ false → list_any (λ g. draw == g.tuid.draw) (filter (λ g. not (test g)) xs) ≡ false → list_any (λ g. draw == g.tuid.draw) xs ≡ false
    of_left [] none left = refl
    of_left (x ∷ xs) none left = one (of_left xs parts.1) (test x) refl
      where
        parts : ((test x && is_some (held x.tuid.draw)) ≡ false) × (have_draft test (handled held xs) ≡ false)
        parts = or_parts (test x && is_some (held x.tuid.draw)) (have_draft test (handled held xs)) none

        one : (list_any (λ g. draw == g.tuid.draw) (filter (λ g. not (test g)) xs) ≡ false → list_any (λ g. draw == g.tuid.draw) xs ≡ false) → (b : Bool) → test x ≡ b
            → list_any (λ g. draw == g.tuid.draw) (x ∷ xs) ≡ false
        one rest true passes = or_from (draw == x.tuid.draw) _ (false_from_ne_true (draw == x.tuid.draw) (λ same.
            let here : held x.tuid.draw ≡ Some d = sym (ap held (eqb-true draw x.tuid.draw same)) ∙ is in
            let clash : true ≡ false = rw (passes, here) at parts.0 in true≢false clash))
            (rest (rw passes at left))
        one rest false stays = (let two = or_parts (draw == x.tuid.draw) _ (rw stays at left) in or_from (draw == x.tuid.draw) _ two.0 (rest two.1))

  -- what is held is of a grant that is left, where none that goes has a draft
  pub none_held : (test : OpenGrant → Bool) (gs : List OpenGrant) → have_draft test (handled held gs) ≡ false → AreOfGrants held gs → AreOfGrants held (filter (λ g. not (test g)) gs)
  none_held test gs bare all draw other = at (held draw) refl
    where
      at : (o : Option Drafting) → held draw ≡ o → held draw ≡ None
      at None is = is
      at (Some d) is = all draw (of_left test draw d is gs bare other)

module _ (draw : ℕ) (what : Option Drafting) (before after : ℕ → Option Drafting) (puts : (q : ℕ) → after q ≡ cond (draw == q) what (before q)) where
  -- a draft is held for one draw, or none, and all others as they were
  pub handled_put : (gs : List OpenGrant) → handled after gs ≡ with_drafting draw what (handled before gs)
  handled_put [] = refl
  handled_put (g ∷ gs) = rw (puts g.tuid.draw, handled_put gs) (at (draw == g.tuid.draw))
    where
      at : (b : Bool) → record { grant = g; drafting = cond b what (before g.tuid.draw) } ∷ with_drafting draw what (handled before gs)
          ≡ cond b (record { grant = g; drafting = what }) (record { grant = g; drafting = before g.tuid.draw }) ∷ with_drafting draw what (handled before gs)
      at true = refl
      at false = refl

-- the drafts of a table, seen as its handles
module _ (held : ℕ → Option Drafting) (gs : List OpenGrant) (handles : List Handle) (view : handled held gs ≡ handles) (all : AreOfGrants held gs) (draw : ℕ) where
  pub held_here : held draw ≡ drafting_at handles draw
  held_here = held_at held gs draw (all draw) ∙ ap (λ hs. drafting_at hs draw) view

  -- the draft that a call is handed is the one that is there
  pub it_holds : {bytes : ℕ} → HoldsDraft handles draw bytes → (d : Drafting) → held draw ≡ Some d → bytes ≤ d.root.size
  it_holds {bytes = bytes} has d is = (let same : has.drafting ≡ d = same_Some has.drafting d (sym has.has ∙ sym held_here ∙ is) in subst (λ (x : Drafting). bytes ≤ x.root.size) same has.within)

  pub never_absent : {A : Type 0} {bytes : ℕ} → HoldsDraft handles draw bytes → held draw ≡ None → A
  never_absent has none = (let no : Some has.drafting ≡ None = sym has.has ∙ sym held_here ∙ none in cc)

  -- and becomes another
  pub changes_held : {So : Drafting → Drafting → Type 0} (after : ℕ → Option Drafting) (was now : Drafting) → held draw ≡ Some was → ((q : ℕ) → after q ≡ cond (draw == q) (Some now) (held q)) → So was now → ChangesHeld draw handles (handled after gs) So
  changes_held after was now is puts so = record { was = was; has = sym held_here ∙ is; now = now; with_it = handled_put draw (Some now) held after puts gs ∙ ap (with_drafting draw (Some now)) view; so = so }

-- where nothing is held for a draw that no grant has, and something for a new grant
module _ (g : OpenGrant) (what : Option Drafting) (before after : ℕ → Option Drafting) (puts : (q : ℕ) → after q ≡ cond (g.tuid.draw == q) what (before q)) where
  pub handled_open : (gs : List OpenGrant) → list_any (λ x. g.tuid.draw == x.tuid.draw) gs ≡ false → handled after (gs ++ g ∷ []) ≡ handled before gs ++ record { grant = g; drafting = what } ∷ []
  handled_open [] new = rw (puts g.tuid.draw, eq-eqb g.tuid.draw g.tuid.draw refl) refl
  handled_open (x ∷ gs) new =
      let two = or_parts (g.tuid.draw == x.tuid.draw) (list_any (λ y. g.tuid.draw == y.tuid.draw) gs) new in
      rw (puts x.tuid.draw, two.0, handled_open gs two.1) refl

  pub of_grants_open : (gs : List OpenGrant) → AreOfGrants before gs → AreOfGrants after (gs ++ g ∷ [])
  of_grants_open gs all draw none =
      let two = or_parts (list_any (λ x. draw == x.tuid.draw) gs) _ (sym (list_any-append (λ x. draw == x.tuid.draw) gs (g ∷ [])) ∙ none) in
      puts draw ∙ ap (λ b. cond b what (before draw)) (turned draw g.tuid.draw two.1) ∙ all draw two.0
    where
      turned : (a b : ℕ) → ((a == b) || false) ≡ false → (b == a) ≡ false
      turned a b other = grind (arith, nat_tests)

-- what is held for each draw as before
pub handled_same : (before after : ℕ → Option Drafting) → ((q : ℕ) → after q ≡ before q) → (gs : List OpenGrant) → handled after gs ≡ handled before gs
handled_same before after same [] = refl
handled_same before after same (g ∷ gs) = rw (same g.tuid.draw, handled_same before after same gs) refl

pub unheld : (before : ℕ → Option Drafting) (draw : ℕ) → before draw ≡ None → (q : ℕ) → cond (draw == q) None (before q) ≡ before q
unheld before draw none q = at (draw == q) refl
  where
    at : (b : Bool) → (draw == q) ≡ b → cond b None (before q) ≡ before q
    at true is = sym none ∙ ap before (eqb-true draw q is)
    at false is = refl

-- ---- handles without the draft of one draw

pub grants_with : (draw : ℕ) (what : Option Drafting) (ss : List Handle) → grants_in (with_drafting draw what ss) ≡ grants_in ss
grants_with draw what [] = refl
grants_with draw what (handle ∷ ss) = elim (is_drawn draw handle) as (λ b. grants_in (cond b (record { grant = handle.grant; drafting = what }) handle ∷ with_drafting draw what ss) ≡ handle.grant ∷ grants_in ss) [
  | true ↦ ap (λ rest. handle.grant ∷ rest) (grants_with draw what ss)
  | false ↦ ap (λ rest. handle.grant ∷ rest) (grants_with draw what ss)
]

-- then none of that draw has one
pub none_taken : (draw : ℕ) (ss : List Handle) → have_draft (is_at draw) (with_drafting draw None ss) ≡ false
none_taken draw [] = refl
none_taken draw (handle ∷ ss) = at (none_taken draw ss) (is_drawn draw handle) refl
  where
    at : have_draft (is_at draw) (with_drafting draw None ss) ≡ false → (b : Bool) → is_drawn draw handle ≡ b → have_draft (is_at draw) (cond b (record { grant = handle.grant; drafting = None }) handle ∷ with_drafting draw None ss) ≡ false
    at rest true is = rw (and_right (is_at draw handle.grant) false refl, rest) refl
    at rest false is = rw (is, rest) refl

-- ---- the tests of a table

pub no_tuid : (gs : List OpenGrant) (t : Tuid) → list_any (λ g. t.draw == g.tuid.draw) gs ≡ false → list_any (λ g. same_tuid g.tuid t) gs ≡ false
no_tuid [] t none = refl
no_tuid (g ∷ gs) t none =
    let two = or_parts (t.draw == g.tuid.draw) (list_any (λ x. t.draw == x.tuid.draw) gs) none in
    or_from (same_tuid g.tuid t) _ (apart g.tuid t two.0) (no_tuid gs t two.1)
  where
    apart : (a b : Tuid) → (b.draw == a.draw) ≡ false → same_tuid a b ≡ false
    apart a b other = grind (arith, nat_tests)

-- where no handle of a draw has a draft, none of a grant of that draw has
pub none_of_grant : (who : ℕ) (t : Tuid) (ss : List Handle) → have_draft (is_at t.draw) ss ≡ false → have_draft (is_session_grant who t) ss ≡ false
none_of_grant who t [] none = refl
none_of_grant who t (handle ∷ ss) none =
    let two = or_parts (is_at t.draw handle.grant && is_some handle.drafting) (have_draft (is_at t.draw) ss) none in
    or_from (is_session_grant who t handle.grant && is_some handle.drafting) _ (at (is_some handle.drafting) two.0) (none_of_grant who t ss two.1)
  where
    at : (b : Bool) → (is_at t.draw handle.grant && b) ≡ false → (is_session_grant who t handle.grant && b) ≡ false
    at false other = and_right (is_session_grant who t handle.grant) false refl
    at true other = apart who t handle.grant (and_cases_true (is_at t.draw handle.grant) other)
      where
        and_cases_true : (a : Bool) → (a && true) ≡ false → a ≡ false
        and_cases_true true h = h
        and_cases_true false h = refl

        apart : (who : ℕ) (t : Tuid) (g : OpenGrant) → (t.draw == g.tuid.draw) ≡ false → (is_session_grant who t g && true) ≡ false
        apart who t g other = grind (arith, nat_tests)

-- ---- a consequence of what a call does

pub ok_of : {A E P : Type 0} (r : Result A E) → IsOk r → OnOk r P → P
ok_of (Ok x) ok is = is
ok_of (Err e) ok is = cc

pub on_ok : {A E P Q : Type 0} (r : Result A E) → (P → Q) → OnOk r P → OnOk r Q
on_ok (Ok a) f p = f p
on_ok (Err e) f p = tt

pub stays_or : {A E : Type 0} (r : Result A E) {old new left : List OpenGrant} (P : List OpenGrant → Type 0) → OnOk r (new ≡ left) → OnErr r (new ≡ old) → P left → P old → P new
stays_or (Ok a) P done kept p q = subst P (sym done) p
stays_or (Err e) P done kept p q = subst P (sym kept) q

pub on_err : {A E P Q : Type 0} (r : Result A E) → (P → Q) → OnErr r P → OnErr r Q
on_err (Ok a) f p = tt
on_err (Err e) f p = f p
