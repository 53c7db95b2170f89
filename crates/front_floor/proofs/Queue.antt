-- Seats in the queue, and one of them that steps.
use Rattle.std.proofs.Common.{◌≡◌, ◌≢◌, ℕ, zero, suc, ◌+◌, ◌<◌, ◌≤◌, ◌^◌, List, [], ◌∷◌, ◌++◌, length, set, sum_by, ap, sym, ◌∙◌, subst, arith, Option, inl, inr, ⊎_elim}
use Rattle.std.proofs.lemmas.List.Sums.{sum_by-cons}
use mathlib.Core.Option as maybe
use mathlib.Core.Option.{some-ne-none, some-injective}
use lib.ListN.{get_elem?}
use Rattle.atomic_table.specs.Table.{State}
use Rattle.atomic_table.proofs.Lists.{at_set, at_longer, set_else}
use Rattle.front_floor.specs.declared.view.Stand.{Stand}
use Rattle.front_floor.specs.declared.view.Stand.TheVariants as stands
use Rattle.front_floor.specs.declared.view.View.{View}
use Rattle.front_floor.specs.Seats.{budget, parts_of, Homes, FitsStand, FitsSeat, IsHome, IsServed}

module _ {A : Type 0} where
  pub sum_set : (f : A → ℕ) (xs : List A) (i : ℕ) (x y : A) → get_elem? xs i ≡ maybe.some x → sum_by f (set xs i y) + f x ≡ sum_by f xs + f y
  sum_set f [] i x y at = absurd (some-ne-none x (sym at))
  sum_set f (z ∷ xs) zero x y at =
      let same : z ≡ x = some-injective z x at in
      omega (arith, ap f same, sum_by-cons f y xs, sum_by-cons f z xs)
  sum_set f (z ∷ xs) (suc i) x y at = omega (arith, sum_set f xs i x y at, sum_by-cons f z (set xs i y), sum_by-cons f z xs)

  pub one_of : (f : A → ℕ) (xs : List A) (i : ℕ) (x : A) → get_elem? xs i ≡ maybe.some x → f x ≤ sum_by f xs
  one_of f [] i x at = absurd (some-ne-none x (sym at))
  one_of f (z ∷ xs) zero x at =
      let same : z ≡ x = some-injective z x at in
      omega (arith, ap f same, sum_by-cons f z xs)
  one_of f (z ∷ xs) (suc i) x at = omega (arith, one_of f xs i x at, sum_by-cons f z xs)

  pub is_within : (xs : List A) (i : ℕ) (x : A) → get_elem? xs i ≡ maybe.some x → i < length xs
  is_within [] i x at = absurd (some-ne-none x (sym at))
  is_within (y ∷ xs) zero x at = omega arith
  is_within (y ∷ xs) (suc i) x at = omega (arith, is_within xs i x at)

  -- what is so of each place, after one of them changed
  pub each_place : (P : ℕ → A → Type 0) (xs : List A) (i : ℕ) (y : A) → P i y → ((j : ℕ) (x : A) → j ≢ i → get_elem? xs j ≡ maybe.some x → P j x)
      → (j : ℕ) (x : A) → get_elem? (set xs i y) j ≡ maybe.some x → P j x
  each_place P xs i y here others j x at =
      ⊎_elim (λ t. subst (λ k. P k x) (sym t.0) (subst (P i) t.1 here)) (λ t. others j x t.0 t.1) (at_set xs i j y x at)

pub idle_not : {E : Type 0} (s : Stand E) → s ≡ stands.Idle → (own : List E) → s ≢ stands.Holds own
idle_not s e own h = absurd (cc)

module _ {M E : Type 0} (log_of : M → List E) where
  -- a stand in the queue, once one more stands there
  pub stand_longer : (homes : Homes M) (queue : List ℕ) (served : ℕ) (log : List E) (id more : ℕ) (s : Stand E)
      → FitsStand log_of homes queue served log id s → FitsStand log_of homes (queue ++ more ∷ []) served log id s
  stand_longer homes queue served log id more stands.Idle f = tt
  stand_longer homes queue served log id more (stands.Waits ticket) f = (f.0, at_longer queue (more ∷ []) ticket id f.1)
  stand_longer homes queue served log id more (stands.Holds own) f = (f.0, at_longer queue (more ∷ []) served id f.1, f.2)

  -- another than the one that is served doesn't hold the machine, and is served later
  pub stand_else : (homes after : Homes M) (queue : List ℕ) (served next : ℕ) (log new : List E) (id other : ℕ) (s : Stand E)
      → get_elem? queue served ≡ maybe.some id → other ≢ id → next ≤ suc served
      → FitsStand log_of homes queue served log other s → FitsStand log_of after queue next new other s
  stand_else homes after queue served next log new id other stands.Idle at apart le f = tt
  stand_else homes after queue served next log new id other (stands.Waits ticket) at apart le f =
      let later : ticket ≢ served = (λ e. apart (some-injective other id (sym f.1 ∙ (ap (get_elem? queue) e ∙ at)))) in
      (omega (arith, f.0, later, le), f.1)
  stand_else homes after queue served next log new id other (stands.Holds own) at apart le f = absurd (apart (some-injective other id (sym f.1 ∙ at)))

  -- a seat that doesn't hold the machine changes, and leaves the machine where it is
  pub home_else : (log : List E) (s : State (Option M) (View E)) (words : List ℕ) (id : ℕ) (v w : View E) → get_elem? s.views id ≡ maybe.some v → ((own : List E) → v.stand ≢ stands.Holds own)
      → IsHome log_of log s → IsHome log_of log (record { words = words; homes = s.homes; views = set s.views id w })
  home_else log s words id v w at free (inl home) = inl home
  home_else log s words id v w at free (inr out) =
      let holder = out.1 in
      let apart : holder.0 ≢ id = (λ e. free holder.2 (sym (ap (λ (x : View E). x.stand) (some-injective holder.1 v (sym holder.3 ∙ (ap (get_elem? s.views) e ∙ at)))) ∙ holder.4)) in
      inr (out.0, (holder.0, holder.1, holder.2, set_else s.views id holder.0 w apart ∙ holder.3, holder.4))

  -- the rule, after a step of the seat id from v to w
  pub served_so : (turns : ℕ) (s : State (Option M) (View E)) (k : IsServed log_of turns s) (id : ℕ) (v w : View E) (words : List ℕ) (homes : Homes M) (queue : List ℕ) (served : ℕ) (log : List E)
      → get_elem? s.views id ≡ maybe.some v
      → words ≡ length queue ∷ served ∷ length log ∷ []
      → length log < 2 ^ 64
      → served ≤ length queue
      → budget w + length queue ≡ budget v + length k.queue
      → w.parts ≡ v.parts
      → FitsSeat log_of homes queue served log id w
      → ((j : ℕ) (u : View E) → j ≢ id → FitsSeat log_of s.homes k.queue k.served k.log j u → FitsSeat log_of homes queue served log j u)
      → IsHome log_of log (record { words = words; homes = homes; views = set s.views id w })
      → IsServed log_of turns (record { words = words; homes = homes; views = set s.views id w })
  served_so turns s k id v w words homes queue served log at are small order spends parts here others home = record {
    queue = queue;
    served = served;
    log = log;
    words = are;
    small = small;
    order = order;
    room = omega (arith, sum_set budget s.views id v w at, spends, k.room);
    bound = k.bound;
    parts = omega (arith, sum_set parts_of s.views id v w at, parts, k.parts);
    seats = each_place (FitsSeat log_of homes queue served log) s.views id w here (λ j u apart at'. others j u apart (k.seats j u at'));
    home = home;
  }
