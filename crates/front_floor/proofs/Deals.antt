-- The first state has the rule; handles that are dealt and taken in keep it; and what comes out at the end.
use Rattle.std.proofs.Common.{◌≡◌, ◌≢◌, ℕ, zero, suc, ◌+◌, ◌-◌, ◌<◌, ◌≤◌, ◌^◌, List, [], ◌∷◌, ◌++◌, length, map, set, All, sum_by, sum, refl, ap, sym, ◌∙◌, subst, arith, append_assoc, length-append, Option, Some, inl, inr, ⊎_elim}
use Rattle.std.proofs.lemmas.List.{map-append}
use Rattle.std.proofs.lemmas.List.Sums.{sum_by-cons, sum_by_push}
use Rattle.std.proofs.lemmas.List.Elements.{All-cons, All-head, All-nil, All-tail}
use mathlib.Core.Option as maybe
use mathlib.Core.Option.{some-ne-none, some-injective}
use lib.ListN.{get_elem?}
use Rattle.atomic_table.specs.Table.{State, Splits, Joins, Final, Seen, opening}
use Rattle.atomic_table.specs.Seated.{TableId}
use Rattle.atomic_table.proofs.Lists.{set_else, at_snoc, at_longer}
use Rattle.front_floor.specs.declared.view.LogView.{LogView}
use Rattle.front_floor.specs.declared.view.Stand.TheVariants as stands
use Rattle.front_floor.specs.declared.view.View.{View}
use Rattle.front_floor.specs.Knows.{Fits, HandleKnows, fresh_from, nothing}
use Rattle.front_floor.specs.Seats.{budget, parts_of, dealer, dealt, taken_in, idle, first_pass, rest_of, Hand, Homes, IsIdle, IsKeeper, IsHandle, FitsSeat, IsHome, IsServed}
use Rattle.front_floor.proofs.Logs.{fits_nothing}
use Rattle.front_floor.proofs.Queue.{one_of, sum_set, each_place, home_else, idle_not}

rest_sum : (plan : List ℕ) → sum (rest_of plan) + first_pass plan ≡ sum plan
rest_sum [] = refl
rest_sum (x ∷ xs) = omega (arith, sum_by-cons (λ y. y) x xs)

two_of : {A : Type 0} (f : A → ℕ) (xs : List A) (i j : ℕ) (x y : A) → i ≢ j → get_elem? xs i ≡ maybe.some x → get_elem? xs j ≡ maybe.some y → f x + f y ≤ sum_by f xs
two_of f [] i j x y apart a b = absurd (some-ne-none x (sym a))
two_of f (z ∷ xs) zero zero x y apart a b = absurd (apart refl)
two_of f (z ∷ xs) zero (suc j) x y apart a b = let same : z ≡ x = some-injective z x a in omega (arith, ap f same, one_of f xs j y b, sum_by-cons f z xs)
two_of f (z ∷ xs) (suc i) zero x y apart a b = let same : z ≡ y = some-injective z y b in omega (arith, ap f same, one_of f xs i x a, sum_by-cons f z xs)
two_of f (z ∷ xs) (suc i) (suc j) x y apart a b = omega (arith, two_of f xs i j x y (λ e. apart (ap (λ k. suc k) e)) a b, sum_by-cons f z xs)

module _ {M E : Type 0} (log_of : M → List E) where
  fresh_seat : (homes : Homes M) (queue : List ℕ) (served : ℕ) (log : List E) (id : ℕ) (parts left : ℕ) (plan : List ℕ) → FitsSeat log_of homes queue served log id (idle parts left plan)
  fresh_seat homes queue served log id parts left plan = record { stand = tt; spent = (λ e. refl); heard = fits_nothing log; told = All-nil (Fits log) }

  -- the first state
  pub opens : (turns : ℕ) (budgets : List ℕ) (m : M) → sum budgets ≤ turns → turns < 2 ^ 64 - 1 → length (log_of m) < 2 ^ 64
      → IsServed log_of turns (opening (0 ∷ 0 ∷ length (log_of m) ∷ []) (Some m ∷ []) (idle (2 ^ 32) 0 budgets))
  opens turns budgets m room bound small = record {
    queue = [];
    served = 0;
    log = log_of m;
    words = refl;
    small = small;
    order = omega arith;
    room = omega (arith, room);
    bound = bound;
    parts = refl;
    seats = only;
    home = inl (m, refl, refl);
  }
    where
      only : (id : ℕ) (v : View E) → get_elem? (idle (2 ^ 32) 0 budgets ∷ []) id ≡ maybe.some v → FitsSeat log_of (maybe.some (Some m) ∷ []) [] 0 (log_of m) id v
      only zero v at = subst (FitsSeat log_of (maybe.some (Some m) ∷ []) [] 0 (log_of m) 0) (some-injective (idle (2 ^ 32) 0 budgets) v at) (fresh_seat (maybe.some (Some m) ∷ []) [] 0 (log_of m) 0 (2 ^ 32) 0 budgets)
      only (suc id) v at = absurd (some-ne-none v (sym at))

  home_longer : (log : List E) (words : List ℕ) (homes : Homes M) (views : List (View E)) (w : View E)
      → IsHome log_of log (record { words = words; homes = homes; views = views }) → IsHome log_of log (record { words = words; homes = homes; views = views ++ w ∷ [] })
  home_longer log words homes views w (inl home) = inl home
  home_longer log words homes views w (inr out) = let h = out.1 in inr (out.0, (h.0, h.1, h.2, at_longer views (w ∷ []) h.0 h.1 h.3, h.4))

  -- a handle is dealt
  pub splits : (turns id : ℕ) (v : View E) → v.stand ≡ stands.Idle → 1 < v.parts → Splits (IsServed log_of turns) id v (dealer v) (dealt v)
  splits turns id v free some s k at =
      let l = dealer v in
      let r = dealt v in
      let views = set s.views id l in
      let fits = k.seats id v at in
      let old = each_place (FitsSeat log_of s.homes k.queue k.served k.log) s.views id l
      (record { stand = fits.stand; spent = (λ e. free); heard = fits.heard; told = fits.told })
      (λ j u apart at'. k.seats j u at') in
      record {
        queue = k.queue;
        served = k.served;
        log = k.log;
        words = k.words;
        small = k.small;
        order = k.order;
        room = omega (arith, sum_set budget s.views id v l at, sum_by_push budget views r, rest_sum v.plan, k.room);
        bound = k.bound;
        parts = omega (arith, sum_set parts_of s.views id v l at, sum_by_push parts_of views r, k.parts, some);
        seats = (λ j u at'. ⊎_elim (λ o. old j u o) (λ e. subst (FitsSeat log_of s.homes k.queue k.served k.log j) e (fresh_seat s.homes k.queue k.served k.log j 1 (first_pass v.plan) [])) (at_snoc views r u j at'));
        home = home_longer k.log s.words s.homes views r (home_else log_of k.log s s.words id v l at (idle_not v.stand free) k.home);
      }

  -- a handle is taken in
  pub joins : (turns id other : ℕ) (v w : View E) → v.stand ≡ stands.Idle → w.stand ≡ stands.Idle
      → Joins (IsServed log_of turns) id v other w (taken_in v w) (idle 0 0 [])
  joins turns id other v w free free' s k at apart at' =
      let b = taken_in v w in
      let z : View E = idle 0 0 [] in
      let views = set s.views id b in
      let there : get_elem? s.views other ≡ maybe.some w = sym (set_else s.views id other b apart) ∙ at' in
      let fits = k.seats id v at in
      let first = each_place (FitsSeat log_of s.homes k.queue k.served k.log) s.views id b
      (record { stand = fits.stand; spent = (λ e. free); heard = fits.heard; told = All-cons (Fits k.log) w.heard v.told (k.seats other w there).heard fits.told })
      (λ j u apart' at''. k.seats j u at'') in
      let one : State (Option M) (View E) = record { words = s.words; homes = s.homes; views = views } in
      record {
        queue = k.queue;
        served = k.served;
        log = k.log;
        words = k.words;
        small = k.small;
        order = k.order;
        room = omega (arith, sum_set budget s.views id v b at, sum_set budget views other w z at', k.room);
        bound = k.bound;
        parts = omega (arith, sum_set parts_of s.views id v b at, sum_set parts_of views other w z at', k.parts);
        seats = each_place (FitsSeat log_of s.homes k.queue k.served k.log) views other z (fresh_seat s.homes k.queue k.served k.log other 0 0 []) (λ j u apart' at''. first j u at'');
        home = home_else log_of k.log one s.words other w z at' (idle_not w.stand free') (home_else log_of k.log s s.words id v b at (idle_not v.stand free) k.home);
      }

  -- where one seat has every part and is idle, the machine is at home
  pub closes : (turns id : ℕ) (v : View E) (s : State (Option M) (View E)) (k : IsServed log_of turns s) → get_elem? s.views id ≡ maybe.some v → v.parts ≡ 2 ^ 32 → v.stand ≡ stands.Idle
      → (m : M) × (s.homes ≡ maybe.some (Some m) ∷ []) × All (Fits (log_of m)) v.told
  closes turns id v s k at whole free = by_home k.home
    where
      by_home : IsHome log_of k.log s → (m : M) × (s.homes ≡ maybe.some (Some m) ∷ []) × All (Fits (log_of m)) v.told
      by_home (inl home) = (home.0, home.1, subst (λ (log : List E). All (Fits log) v.told) (sym home.2) (k.seats id v at).told)
      by_home (inr out) =
          let h = out.1 in
          let apart : h.0 ≢ id = (λ e. idle_not v.stand free h.2 (sym (ap (λ (x : View E). x.stand) (some-injective h.1 v (sym h.3 ∙ (ap (get_elem? s.views) e ∙ at)))) ∙ h.4)) in
          let none : h.1.parts ≡ 0 = omega (arith, two_of parts_of s.views h.0 id h.1 v apart h.3 at, k.parts, whole) in
          absurd (idle_not h.1.stand ((k.seats h.0 h.1 h.3).spent none) h.2 h.4)

  -- what comes out of the slot then
  pub comes_out : (turns id : ℕ) (v : View E) (words : List ℕ) (slots : List (Option M)) (slot : Option M) → Final (Seen (IsServed log_of turns) id v) words slots → v.parts ≡ 2 ^ 32 → v.stand ≡ stands.Idle → get_elem? slots 0 ≡ maybe.some slot
      → (m : M) × (slot ≡ Some m) × All (Fits (log_of m)) v.told
  comes_out turns id v words slots slot final whole free there =
      let c = closes turns id v final.0 final.1.0 final.1.1 whole free in
      (c.0, some-injective slot (Some c.0) (sym there ∙ final.4 0 (Some c.0) (ap (λ hs. get_elem? hs 0) c.1)), c.2)

pub of_same : {M : Type 0} (P : M → Type 0) (m x : M) (slot : Option M) → slot ≡ Some m → slot ≡ Some x → P m → P x
of_same {M} P m x slot e f p = let same : m ≡ x = cc in subst P same p

pub of_mapped : {X Y : Type 0} (f : X → Y) (P : Y → Type 0) (xs : List X) → All P (map f xs) → All (λ x. P (f x)) xs
of_mapped f P [] all = All-nil (λ x. P (f x))
of_mapped f P (x ∷ xs) all = All-cons (λ x. P (f x)) x xs (All-head P (f x) (map f xs) all) (of_mapped f P xs (All-tail P (f x) (map f xs) all))

module _ {M E : Type 0} where
  -- a handle, the last of those that are out, was taken in
  pub took : (keeper new seat : Hand M E) (left : ℕ) (handle : HandleKnows E) (before after : List (HandleKnows E)) (all : List (LogView E))
      → new ≡ (taken_in keeper.0 seat.0, keeper.1) → IsIdle keeper → IsHandle left seat → seat.0.heard ≡ handle.heard → before ≡ after ++ handle ∷ []
      → keeper.0.parts + length before ≡ 2 ^ 32 → map (λ (p : HandleKnows E). p.heard) before ++ keeper.0.told ≡ all
      → IsIdle new × (new.0.parts + length after ≡ 2 ^ 32) × (map (λ (p : HandleKnows E). p.heard) after ++ new.0.told ≡ all)
  took keeper new seat left handle before after all taken idle' is heard items parts told =
      let f : HandleKnows E → LogView E = λ p. p.heard in
      let view : new.0 ≡ taken_in keeper.0 seat.0 = ap (λ (x : Hand M E). x.0) taken in
      let more : new.0.told ≡ handle.heard ∷ keeper.0.told = ap (λ (x : View E). x.told) view ∙ ap (λ (h : LogView E). h ∷ keeper.0.told) heard in
      let sum : new.0.parts ≡ keeper.0.parts + 1 = ap (λ (x : View E). x.parts) view ∙ ap (λ n. keeper.0.parts + n) is.parts in
      let long : length before ≡ length after + 1 = ap length items ∙ length-append after (handle ∷ []) in (
        record { stand = ap (λ (x : View E). x.stand) view ∙ idle'.stand; nothing = ap (λ (x : Hand M E). x.1) taken ∙ idle'.nothing },
        omega (arith, sum, long, parts),
        ap (λ (hs : List (LogView E)). map f after ++ hs) more ∙ (sym (append_assoc (map f after) (handle.heard ∷ []) keeper.0.told)
            ∙ (ap (λ (hs : List (LogView E)). hs ++ keeper.0.told) (sym (map-append f after (handle ∷ [])) ∙ ap (map f) (sym items)) ∙ told)),
      )

module _ {E : Type 0} where
  -- once all are taken in, what each had heard is told
  pub all_heard : (log : List E) (told : List (LogView E)) (out handles : List (HandleKnows E)) → out ≡ [] → map (λ (p : HandleKnows E). p.heard) out ++ told ≡ map (λ (p : HandleKnows E). p.heard) handles
      → All (Fits log) told → All (λ (p : HandleKnows E). Fits log p.heard) handles
  all_heard log told out handles none same fits =
      let is : told ≡ map (λ (p : HandleKnows E). p.heard) handles = ap (λ (ps : List (HandleKnows E)). map (λ (p : HandleKnows E). p.heard) ps ++ told) (sym none) ∙ same in
      of_mapped (λ (p : HandleKnows E). p.heard) (Fits log) handles (subst (All (Fits log)) is fits)

  fresh_all : (table : TableId) (n : ℕ) (budgets : List ℕ) → All (λ (p : HandleKnows E). p.table ≡ table) (fresh_from table n budgets)
  fresh_all table n [] = All-nil (λ (p : HandleKnows E). p.table ≡ table)
  fresh_all table n (left ∷ budgets) =
      All-cons (λ (p : HandleKnows E). p.table ≡ table) (record { table = table; number = n; left = left; heard = nothing }) (fresh_from table (suc n) budgets) refl (fresh_all table (suc n) budgets)

  -- fresh handles are of the table that they were dealt from
  pub are_fresh : (table at : TableId) (budgets : List ℕ) (handles : List (HandleKnows E)) → at ≡ table → handles ≡ fresh_from at 0 budgets → All (λ (p : HandleKnows E). p.table ≡ table) handles
  are_fresh table at budgets handles same is =
      subst (All (λ (p : HandleKnows E). p.table ≡ table)) (sym (is ∙ ap (λ (t : TableId). fresh_from t 0 budgets) same)) (fresh_all table 0 budgets)

fresh_length : (E : Type 0) (table : TableId) (n : ℕ) (budgets : List ℕ) → length (fresh_from {E = E} table n budgets) ≡ length budgets
fresh_length E table n [] = refl
fresh_length E table n (left ∷ budgets) = ap (λ k. suc k) (fresh_length E table (suc n) budgets)

pub keeps_all : {M E : Type 0} (at : TableId) (budgets : List ℕ) (handles : List (HandleKnows E)) (me : Hand M E) → handles ≡ fresh_from at 0 budgets → IsKeeper (length budgets) me → IsKeeper (length handles) me
keeps_all {M} {E} at budgets handles me is keeps = subst (λ n. IsKeeper n me) (sym (ap length is ∙ fresh_length E at 0 budgets)) keeps
