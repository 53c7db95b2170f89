-- A text has one verdict.
use Rattle.std.proofs.Common.{◌≡◌, ◌≢◌, ◌⊎◌, inl, inr, ℕ, suc, ◌+◌, List, [], ◌∷◌, ◌++◌, length, refl, sym, ap, subst, ◌∙◌, true, Some, None}
use Rattle.std.proofs.lemmas.Option.{none-some, same_Some}
use Rattle.cfs_audit.proofs.Words.{EndsIn, Event, IsFollowed, HasVerdict, IsUnopened, IsVerdict, Opening, State, Verdict, and_parts, append_assoc, begun, ended, event_line, event_no_end, fits, flat_map, fresh_graph, in_8, list_all, next, no_event_ends, one_event, one_opening, opening, opening_line, opening_no_end, option_and_then, root_of, status_line, status_no_end}
use Rattle.ufs_model.specs.Run.{replay_from}
use Rattle.cfs_audit.specs.declared.trail.Verdict.TheVariants as verdicts
use Rattle.cfs_audit.proofs.Lines.{behind, same_line}

abbrev lines : List Event → List ℕ
lines events = flat_map (λ e. ended (event_line e)) events

-- the verdict of this kind behind so many events
abbrev behind_events : Verdict → ℕ → Verdict
behind_events (verdicts.Legal k) n = verdicts.Legal n
behind_events (verdicts.Illegal k) n = verdicts.Illegal (n + 1)
behind_events (verdicts.BadLine k) n = verdicts.BadLine (n + 2)

module _ (seed : ℕ) where
  two_lines : (a b : Event) (x y : List ℕ) → fits a ≡ true → fits b ≡ true → ended (event_line a) ++ x ≡ ended (event_line b) ++ y → (a ≡ b) × (x ≡ y)
  two_lines a b x y h i e =
      let same = same_line (event_line a) (event_line b) x y (event_no_end a h) (event_no_end b i) (sym (behind (event_line a) x) ∙ e ∙ behind (event_line b) y) in
      (one_event a b h i same.0, same.1)

  no_end_line : (event : Event) (n : ℕ) (more : List ℕ) → fits event ≡ true → in_8 n ≡ true → ended (status_line n) ≢ ended (event_line event) ++ more
  no_end_line event n more h i e =
      no_event_ends event n (sym (same_line (status_line n) (event_line event) [] more (status_no_end n i) (event_no_end event h) (e ∙ behind (event_line event) more)).0)

  -- no text goes on with an event that may happen where a verdict ends
  stuck : (v : Verdict) (s t : State) (rest more : List ℕ) (n : ℕ) (event : Event) → EndsIn seed s rest n v → fits event ≡ true → rest ≡ ended (event_line event) ++ more
      → next seed s event ≢ Some t
  stuck (verdicts.Legal k) s t rest more n event tail h e allowed = no_end_line event tail.0 more h tail.1 (sym tail.2 ∙ e)
  stuck (verdicts.Illegal k) s t rest more n event tail h e allowed =
      let same = two_lines tail.0 event tail.1 more tail.2 h (sym tail.3 ∙ e) in
      none-some _ (sym (subst (λ x. next seed s x ≡ None) same.0 tail.4) ∙ allowed)
  stuck (verdicts.BadLine k) s t rest more n event tail h e allowed = tail.0.no_event event more h e

  same_kind : (a b : Verdict) (s : State) (rest : List ℕ) (n m k : ℕ) → EndsIn seed s rest n a → EndsIn seed s rest m b → behind_events a k ≡ behind_events b k
  same_kind (verdicts.Legal i) (verdicts.Legal l) s rest n m k x y = refl
  same_kind (verdicts.Legal i) (verdicts.Illegal l) s rest n m k x y = absurd (no_end_line y.0 x.0 y.1 y.2 x.1 (sym x.2 ∙ y.3))
  same_kind (verdicts.Legal i) (verdicts.BadLine l) s rest n m k x y = absurd (y.0.no_status x.0 x.1 x.2)
  same_kind (verdicts.Illegal i) (verdicts.Legal l) s rest n m k x y = absurd (no_end_line x.0 y.0 x.1 x.2 y.1 (sym y.2 ∙ x.3))
  same_kind (verdicts.Illegal i) (verdicts.Illegal l) s rest n m k x y = refl
  same_kind (verdicts.Illegal i) (verdicts.BadLine l) s rest n m k x y = absurd (y.0.no_event x.0 x.1 x.2 x.3)
  same_kind (verdicts.BadLine i) (verdicts.Legal l) s rest n m k x y = absurd (x.0.no_status y.0 y.1 y.2)
  same_kind (verdicts.BadLine i) (verdicts.Illegal l) s rest n m k x y = absurd (x.0.no_event y.0 y.1 y.2 y.3)
  same_kind (verdicts.BadLine i) (verdicts.BadLine l) s rest n m k x y = refl

  -- the state after one event of those that are replayed
  first_step : (t : State) (e : Event) (es : List Event) (s : State) → replay_from seed t (e ∷ es) ≡ Some s → (u : State) × (next seed t e ≡ Some u) × (replay_from seed u es ≡ Some s)
  first_step t e es s =
      elim (next seed t e) as (λ o. option_and_then (λ u. replay_from seed u es) o ≡ Some s → (u : State) × (o ≡ Some u) × (replay_from seed u es ≡ Some s)) [
        | Some u ↦ λ h. (u, refl, h)
        | None ↦ λ h. absurd (none-some _ h)
      ]

  -- two verdicts behind events that may happen from one state on are of one kind, behind as many events
  compare : (a b : Verdict) (es fs : List Event) (t s u : State) (x y : List ℕ) (n m : ℕ) → list_all fits es ≡ true → list_all fits fs ≡ true → lines es ++ x ≡ lines fs ++ y
      → replay_from seed t es ≡ Some s → replay_from seed t fs ≡ Some u → EndsIn seed s x n a → EndsIn seed u y m b
      → ((k : ℕ) → behind_events a k ≡ behind_events b k) × (length es ≡ length fs)
  compare a b [] [] t s u x y n m h i e r q left right =
      let same : u ≡ s = sym (same_Some _ _ q) ∙ same_Some _ _ r in
      (λ k. same_kind a b s x n m k left (subst (λ z. EndsIn seed z x m b) same (subst (λ z. EndsIn seed u z m b) (sym e) right)), refl)
  compare a b [] (f ∷ fs) t s u x y n m h i e r q left right =
      let step = first_step t f fs u q in
      absurd (stuck a s step.0 x (lines fs ++ y) n f left (and_parts (fits f) (list_all fits fs) i).0 (e ∙ append_assoc (ended (event_line f)) (lines fs) y)
      (subst (λ z. next seed z f ≡ Some step.0) (same_Some _ _ r) step.1))
  compare a b (d ∷ es) [] t s u x y n m h i e r q left right =
      let step = first_step t d es s r in
      absurd (stuck b u step.0 y (lines es ++ x) m d right (and_parts (fits d) (list_all fits es) h).0 (sym e ∙ append_assoc (ended (event_line d)) (lines es) x)
      (subst (λ z. next seed z d ≡ Some step.0) (same_Some _ _ q) step.1))
  compare a b (d ∷ es) (f ∷ fs) t s u x y n m h i e r q left right =
      let two = two_lines d f (lines es ++ x) (lines fs ++ y) (and_parts (fits d) (list_all fits es) h).0 (and_parts (fits f) (list_all fits fs) i).0
      (sym (append_assoc (ended (event_line d)) (lines es) x) ∙ e ∙ append_assoc (ended (event_line f)) (lines fs) y) in
      let one = first_step t d es s r in
      let other = first_step t f fs u q in
      let same : other.0 ≡ one.0 = same_Some _ _ (sym other.1 ∙ ap (next seed t) (sym two.0) ∙ one.1) in
      let rest = compare a b es fs one.0 s u x y n m (and_parts (fits d) (list_all fits es) h).1 (and_parts (fits f) (list_all fits fs) i).1 two.1 one.2
      (subst (λ z. replay_from seed z fs ≡ Some u) same other.2) left right in
      (rest.0, ap suc rest.1)

module _ (text : List ℕ) where
  placed : (seed : ℕ) (s : State) (rest : List ℕ) (n : ℕ) (v : Verdict) → EndsIn seed s rest n v → v ≡ behind_events v n
  placed seed s rest n (verdicts.Legal k) is = ap verdicts.Legal is.3
  placed seed s rest n (verdicts.Illegal k) is = ap verdicts.Illegal is.5
  placed seed s rest n (verdicts.BadLine k) is = ap verdicts.BadLine is.1

  where_found : (v : Verdict) → IsVerdict text v → HasVerdict text v ⊎ (IsUnopened text × (v ≡ verdicts.BadLine 1))
  where_found (verdicts.Legal k) l = inl l
  where_found (verdicts.Illegal k) l = inl l
  where_found (verdicts.BadLine k) (inl l) = inr (l.0, ap verdicts.BadLine l.1)
  where_found (verdicts.BadLine k) (inr l) = inl l

  begins : (o : Opening) (events : List Event) (rest : List ℕ) → begun o events ++ rest ≡ ended (opening_line o) ++ (lines events ++ rest)
  begins o events rest = append_assoc (ended (opening_line o)) (lines events) rest

  both : (a b : Verdict) → HasVerdict text a → HasVerdict text b → a ≡ b
  both a b x y =
      let first = same_line (opening_line x.o) (opening_line y.o) (lines x.events ++ x.rest) (lines y.events ++ y.rest)
      (opening_no_end x.o x.followed.opened) (opening_no_end y.o y.followed.opened)
      (sym (behind (opening_line x.o) (lines x.events ++ x.rest)) ∙ sym (begins x.o x.events x.rest) ∙ sym x.followed.is ∙ y.followed.is
      ∙ begins y.o y.events y.rest ∙ behind (opening_line y.o) (lines y.events ++ y.rest)) in
      let opened : y.o ≡ x.o = sym (one_opening x.o y.o x.followed.opened y.followed.opened first.0) in
      let moved = subst (λ o. IsFollowed text y.rest o y.events y.s × EndsIn o.seed y.s y.rest (length y.events) b) opened (y.followed, y.ends) in
      let found = compare x.o.seed a b x.events y.events (opening (fresh_graph (root_of x.o.seed))) x.s y.s x.rest y.rest (length x.events) (length y.events) x.followed.fitting moved.0.fitting first.1
      x.followed.allowed moved.0.allowed x.ends moved.1 in
      placed x.o.seed x.s x.rest (length x.events) a x.ends ∙ found.0 (length x.events) ∙ ap (behind_events b) found.1 ∙ sym (placed y.o.seed y.s y.rest (length y.events) b y.ends)

  unlike : {v : Verdict} → HasVerdict text v → ¬ IsUnopened text
  unlike x none = none x.o (lines x.events ++ x.rest) x.followed.opened (x.followed.is ∙ begins x.o x.events x.rest)

  pub one_verdict : (a b : Verdict) → IsVerdict text a → IsVerdict text b → a ≡ b
  one_verdict a b x y = compared (where_found a x) (where_found b y)
    where
      compared : HasVerdict text a ⊎ (IsUnopened text × (a ≡ verdicts.BadLine 1)) → HasVerdict text b ⊎ (IsUnopened text × (b ≡ verdicts.BadLine 1)) → a ≡ b
      compared (inl u) (inl w) = both a b u w
      compared (inl u) (inr w) = absurd (unlike u w.0)
      compared (inr u) (inl w) = absurd (unlike w u.0)
      compared (inr u) (inr w) = u.1 ∙ sym w.1
