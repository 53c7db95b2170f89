-- The steps of a turn keep the rule.
use Rattle.std.proofs.Common.{◌≡◌, ◌≢◌, ℕ, ◌+◌, ◌-◌, ◌<◌, ◌^◌, ◌%◌, ◌==◌, Bool, true, false, List, [], ◌∷◌, ◌++◌, length, set, refl, ap, sym, ◌∙◌, subst, arith, Option, Some, inl, inr, length-append}
use Rattle.std.specs.Prelude.{slice_index}
use Rattle.std.proofs.lemmas.Bool.Decides.{nat_tests}
use mathlib.Core.Option as maybe
use mathlib.Core.Option.{some-ne-none, some-injective}
use mathlib.Core.List.{IsPrefix}
use lib.ListN.{get_elem?}
use Rattle.atomic_table.specs.Table.{State, Act, keeps, takes, gives, Valid, carried_after, put_back, rest, Allows, stepped}
use Rattle.atomic_table.proofs.Lists.{set_here, at_last}
use Rattle.front_floor.specs.declared.view.Stand.{Stand}
use Rattle.front_floor.specs.declared.view.Stand.TheVariants as stands
use Rattle.front_floor.specs.declared.view.View.{View}
use Rattle.front_floor.specs.Knows.{Grows}
use Rattle.front_floor.specs.Seats.{budget, ticket_of, log_held, counted, Hand, FitsStand, IsHome, IsServed, Looked, Steps, draw, look, count, pass_on, tell}
use Rattle.front_floor.proofs.Logs.{grown_by, heard_so, fits_grown}
use Rattle.front_floor.proofs.Queue.{one_of, is_within, stand_longer, stand_else, home_else, served_so, idle_not}

module _ {M E : Type 0} (log_of : M → List E) where
  waits_not : (s : Stand E) (t : ℕ) → s ≡ stands.Waits t → (own : List E) → s ≢ stands.Holds own
  waits_not s t e own h = absurd (cc)

  -- a ticket is drawn
  pub draws : (turns slots id : ℕ) (me : Hand M E) → me.0.stand ≡ stands.Idle → 0 < me.0.left → 0 < me.0.parts
      → Allows (IsServed log_of turns) slots id me 0 (λ n. (n + 1) % 2 ^ 64) (Steps log_of draw 1 me)
  draws turns slots id me idle some live s k slots_are at small =
      let v = me.0 in
      let n = slice_index s.words 0 in
      let found : n ≡ length k.queue = ap (λ ws. slice_index ws 0) k.words in
      let w : View E = record v { left = v.left - 1; stand = stands.Waits n } in
      let queue : List ℕ = k.queue ++ id ∷ [] in
      let long : length queue ≡ length k.queue + 1 = length-append k.queue (id ∷ []) in
      let spends : budget w + length queue ≡ budget v + length k.queue = omega (arith, long, some) in
      let fits = k.seats id v at in
      let next : (n + 1) % 2 ^ 64 ≡ length queue = omega (arith, long, found, room_for turns s k id v at some) in (
        w,
        keeps,
        tt,
        served_so log_of turns s k id v w (set s.words 0 ((n + 1) % 2 ^ 64)) s.homes queue k.served k.log at
            (λ i. set (k.words i) 0 (next i)) k.small (omega (arith, k.order, long)) spends refl
            (record { stand = (omega (arith, found, k.order), at_last k.queue id n (sym found)); spent = (λ e. absurd (omega (arith, e, live))); heard = fits.heard; told = fits.told })
            (λ j u apart f. record { stand = stand_longer log_of s.homes k.queue k.served k.log j id u.stand f.stand; spent = f.spent; heard = f.heard; told = f.told })
            (home_else log_of k.log s (set s.words 0 ((n + 1) % 2 ^ 64)) id v w at (idle_not v.stand idle) k.home),
        refl,
      )
    where
      room_for : (turns : ℕ) (s : State (Option M) (View E)) (k : IsServed log_of turns s) (id : ℕ) (v : View E) → get_elem? s.views id ≡ maybe.some v → 0 < v.left → length k.queue + 1 < 2 ^ 64
      room_for turns s k id v at some = omega (arith, one_of (budget {E = E}) s.views id v at, k.room, k.bound, some)

  -- a look: where the ticket is served the seat takes the machine, and else all stays
  abbrev LooksTo : ℕ → ℕ → Hand M E → State (Option M) (View E) → Type 0
  LooksTo turns id me s =
      (w : View E) × (a : Act (Option M)) × Valid s.homes me.1 a × IsServed log_of turns (stepped s 1 (slice_index s.words 1) id me.1 w a)
      × Steps log_of look 0 me (slice_index s.words 1) (w, carried_after me.1 a)

  looks_on : (turns id : ℕ) (me : Hand M E) (ticket : ℕ) (s : State (Option M) (View E)) (k : IsServed log_of turns s) → get_elem? s.views id ≡ maybe.some me.0
      → me.0.stand ≡ stands.Waits ticket → (slice_index s.words 1 == ticket_of me.0.stand) ≡ false → LooksTo turns id me s
  looks_on turns id me ticket s k at waits is =
      let v = me.0 in
      let n = slice_index s.words 1 in
      let found : n ≡ k.served = ap (λ ws. slice_index ws 1) k.words in
      let B : Bool → Type 0 = λ b. Looked log_of b me me in (
        v,
        keeps,
        tt,
        served_so log_of turns s k id v v (set s.words 1 n) s.homes k.queue k.served k.log at
            (λ i. set (k.words i) 1 (found i)) k.small k.order refl refl (k.seats id v at) (λ j u apart f. f)
            (home_else log_of k.log s (set s.words 1 n) id v v at (waits_not v.stand ticket waits) k.home),
        subst B (sym is) refl,
      )

  looks_here : (turns id : ℕ) (me : Hand M E) (s : State (Option M) (View E)) (k : IsServed log_of turns s) → get_elem? s.views id ≡ maybe.some me.0
      → me.0.stand ≡ stands.Waits k.served → (slice_index s.words 1 == ticket_of me.0.stand) ≡ true → IsHome log_of k.log s → LooksTo turns id me s
  looks_here turns id me s k at waits is (inl home) =
      let v = me.0 in
      let m = home.0 in
      let found : slice_index s.words 1 ≡ k.served = ap (λ ws. slice_index ws 1) k.words in
      let w : View E = record v { stand = stands.Holds (log_of m) } in
      let fits = k.seats id v at in
      let mine : FitsStand log_of s.homes k.queue k.served k.log id (stands.Waits k.served) = subst (FitsStand log_of s.homes k.queue k.served k.log id) waits fits.stand in
      let out : set s.homes 0 maybe.none ≡ maybe.none ∷ [] = ap (λ hs. set hs 0 maybe.none) home.1 in
      let B : Bool → Type 0 = λ b. Looked log_of b me (w, (0, Some m) ∷ me.1) in (
        w,
        takes 0 (Some m),
        ap (λ hs. get_elem? hs 0) home.1,
        served_so log_of turns s k id v w (set s.words 1 (slice_index s.words 1)) (set s.homes 0 maybe.none) k.queue k.served k.log at
            (λ i. set (k.words i) 1 (found i)) k.small k.order refl refl
            (record { stand = (out, mine.1, home.2); spent = (λ e. absurd (cc (fits.spent e))); heard = fits.heard; told = fits.told })
            (λ j u apart f. record { stand = stand_else log_of s.homes (set s.homes 0 maybe.none) k.queue k.served k.served k.log k.log id j u.stand mine.1 apart (omega arith) f.stand; spent = f.spent; heard = f.heard; told = f.told })
            (inr (out, (id, w, log_of m, set_here s.views id w (is_within s.views id v at), refl))),
        subst B (sym is) (m, refl, subst (IsPrefix v.heard.seen) (sym home.2) fits.heard.begins, omega (arith, fits.heard.known, ap length home.2)),
      )
  looks_here turns id me s k at waits is (inr out) =
      let fits = k.seats id me.0 at in
      let mine : FitsStand log_of s.homes k.queue k.served k.log id (stands.Waits k.served) = subst (FitsStand log_of s.homes k.queue k.served k.log id) waits fits.stand in
      let holder = out.1 in
      let theirs : FitsStand log_of s.homes k.queue k.served k.log holder.0 (stands.Holds holder.2) = subst (FitsStand log_of s.homes k.queue k.served k.log holder.0) holder.4 (k.seats holder.0 holder.1 holder.3).stand in
      let same : holder.0 ≡ id = some-injective holder.0 id (sym theirs.1 ∙ mine.1) in
      let one : holder.1 ≡ me.0 = some-injective holder.1 me.0 (sym holder.3 ∙ (ap (get_elem? s.views) same ∙ at)) in
      absurd (waits_not me.0.stand k.served waits holder.2 (sym (ap (λ (x : View E). x.stand) one) ∙ holder.4))

  pub looks : (turns slots id : ℕ) (me : Hand M E) (ticket : ℕ) → me.0.stand ≡ stands.Waits ticket
      → Allows (IsServed log_of turns) slots id me 1 (λ n. n) (Steps log_of look 0 me)
  looks turns slots id me ticket waits s k slots_are at small = by_test (slice_index s.words 1 == ticket_of me.0.stand) refl
    where
      by_test : (b : Bool) → (slice_index s.words 1 == ticket_of me.0.stand) ≡ b → LooksTo turns id me s
      by_test false is = looks_on turns id me ticket s k at waits is
      by_test true is =
          let found : slice_index s.words 1 ≡ k.served = ap (λ ws. slice_index ws 1) k.words in
          let same : slice_index s.words 1 ≡ ticket_of me.0.stand = grind (arith, nat_tests) in
          let mine : ticket ≡ k.served = ap (ticket_of {E = E}) (sym waits) ∙ (sym same ∙ found) in
          looks_here turns id me s k at (waits ∙ ap (λ t. stands.Waits t) mine) is k.home

  -- a look that finds the ticket
  pub looked : (old me new : Hand M E) (n ticket : ℕ) → me ≡ old → old.0.stand ≡ stands.Waits ticket → n ≡ ticket
      → Looked log_of (n == ticket_of me.0.stand) me new → Looked log_of true old new
  looked old me new n ticket same waits found told =
      let mine : ticket_of me.0.stand ≡ ticket = ap (λ (x : Hand M E). ticket_of x.0.stand) same ∙ ap (ticket_of {E = E}) waits in
      let is : (n == ticket_of me.0.stand) ≡ true = grind (arith, nat_tests) in
      subst (λ (x : Hand M E). Looked log_of true x new) same (subst (λ b. Looked log_of b me new) is told)

  -- the log of the machine that is held is counted
  pub counts : (turns slots id : ℕ) (me : Hand M E) (own : List E) (m : M) (added : ℕ) → me.0.stand ≡ stands.Holds own → me.1 ≡ (0, Some m) ∷ [] → Grows own (log_of m) added → length (log_of m) < 2 ^ 64
      → Allows (IsServed log_of turns) slots id me 2 (λ n. (n + added) % 2 ^ 64) (Steps log_of count added me)
  counts turns slots id me own m added holds slot grows fits64 s k slots_are at small =
      let v = me.0 in
      let n = slice_index s.words 2 in
      let found : n ≡ length k.log = ap (λ ws. slice_index ws 2) k.words in
      let fits = k.seats id v at in
      let mine : FitsStand log_of s.homes k.queue k.served k.log id (stands.Holds own) = subst (FitsStand log_of s.homes k.queue k.served k.log id) holds fits.stand in
      let grown : Grows k.log (log_of m) added = subst (λ (l : List E). Grows l (log_of m) added) mine.2 grows in
      let w : View E = counted (log_of m) added n v in
      let next : (n + added) % 2 ^ 64 ≡ length (log_of m) = omega (arith, found, grown_by k.log (log_of m) added grown, fits64) in (
        w,
        keeps,
        tt,
        served_so log_of turns s k id v w (set s.words 2 ((n + added) % 2 ^ 64)) s.homes k.queue k.served (log_of m) at
            (λ i. set (k.words i) 2 (next i)) fits64 k.order refl refl
            (record { stand = (mine.0, mine.1, refl); spent = (λ e. absurd (cc (fits.spent e))); heard = heard_so k.log (log_of m) added v.heard.seen v.heard.mine n found grown fits.heard.begins fits.heard.mine; told = (λ i d less. fits_grown k.log (log_of m) added grown _ (fits.told i d less)) })
            (λ j u apart f. record { stand = stand_else log_of s.homes s.homes k.queue k.served k.served k.log (log_of m) id j u.stand mine.1 apart (omega arith) f.stand; spent = f.spent; heard = fits_grown k.log (log_of m) added grown u.heard f.heard; told = (λ i d less. fits_grown k.log (log_of m) added grown _ (f.told i d less)) })
            (inr (mine.0, (id, w, log_of m, set_here s.views id w (is_within s.views id v at), refl))),
        (m, slot, (found ∙ sym (ap length mine.2) ∙ sym (ap (λ (x : Stand E). length (log_held x)) holds), refl)),
      )

  -- the machine goes home, and the next ticket is served
  pub passes_on : (turns slots id : ℕ) (me : Hand M E) (m : M) → me.0.stand ≡ stands.Holds (log_of m) → me.1 ≡ (0, Some m) ∷ []
      → Allows (IsServed log_of turns) slots id me 1 (λ n. (n + 1) % 2 ^ 64) (Steps log_of pass_on 1 me)
  passes_on turns slots id me m holds slot s k slots_are at small =
      let v = me.0 in
      let n = slice_index s.words 1 in
      let found : n ≡ k.served = ap (λ ws. slice_index ws 1) k.words in
      let fits = k.seats id v at in
      let mine : FitsStand log_of s.homes k.queue k.served k.log id (stands.Holds (log_of m)) = subst (FitsStand log_of s.homes k.queue k.served k.log id) holds fits.stand in
      let served : k.served < length k.queue = is_within k.queue k.served id mine.1 in
      let w : View E = record v { stand = stands.Idle } in
      let homes = put_back s.homes me.1 in
      let next : (n + 1) % 2 ^ 64 ≡ k.served + 1 = omega (arith, found, served, k.room, k.bound) in
      let home : homes ≡ maybe.some (Some m) ∷ [] = ap (put_back s.homes) slot ∙ ap (λ hs. set hs 0 (maybe.some (Some m))) mine.0 in (
        w,
        gives,
        tt,
        served_so log_of turns s k id v w (set s.words 1 ((n + 1) % 2 ^ 64)) homes k.queue (k.served + 1) k.log at
            (λ i. set (k.words i) 1 (next i)) k.small (omega (arith, served)) refl refl
            (record { stand = tt; spent = (λ e. refl); heard = fits.heard; told = fits.told })
            (λ j u apart f. record { stand = stand_else log_of s.homes homes k.queue k.served (k.served + 1) k.log k.log id j u.stand mine.1 apart (omega arith) f.stand; spent = f.spent; heard = f.heard; told = f.told })
            (inl (m, home, mine.2)),
        ap (λ (cs : List (ℕ × Option M)). (w, rest cs)) slot,
      )

  -- how long the log is
  pub tells : (turns slots id : ℕ) (me : Hand M E) → me.0.stand ≡ stands.Idle
      → Allows (IsServed log_of turns) slots id me 2 (λ n. n) (Steps log_of tell 0 me)
  tells turns slots id me idle s k slots_are at small =
      let v = me.0 in
      let n = slice_index s.words 2 in
      let found : n ≡ length k.log = ap (λ ws. slice_index ws 2) k.words in
      let w : View E = record v { heard = record v.heard { known = n } } in
      let fits = k.seats id v at in (
        w,
        keeps,
        tt,
        served_so log_of turns s k id v w (set s.words 2 n) s.homes k.queue k.served k.log at
            (λ i. set (k.words i) 2 (found i)) k.small k.order refl refl
            (record { stand = fits.stand; spent = fits.spent; heard = record { begins = fits.heard.begins; mine = fits.heard.mine; told = omega (arith, found, fits.heard.told, fits.heard.known); known = omega (arith, found) }; told = fits.told })
            (λ j u apart f. f)
            (home_else log_of k.log s (set s.words 2 n) id v w at (idle_not v.stand idle) k.home),
        (omega (arith, found, fits.heard.known), refl),
      )

-- the one slot that is held
pub has_one : {M : Type 0} (cs : List (ℕ × Option M)) (slot : Option M) → cs ≡ (0, slot) ∷ [] → cs ≡ (0, slot) ∷ rest cs
has_one {M} cs slot e = e ∙ ap (λ (r : List (ℕ × Option M)). (0, slot) ∷ r) (sym (ap rest e))
