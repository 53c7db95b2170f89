-- Lists, item by item.
use Rattle.std.proofs.Common.{◌≡◌, ◌≢◌, ℕ, zero, suc, ◌+◌, ◌<◌, Bool, true, false, ◌||◌, inl, inr, List, [], ◌∷◌, ◌++◌, length, map, set, Option, Some, None, slice_get, refl, sym, ap, ◌∙◌, subst, arith}
use Rattle.cfs_serve.proofs.Cited.{AreNew, EachFrom, IsNewPort, Puid, PortReading, Rose, SomeRose, has_broken, length-map, lines_in, map-append, request_lines, reverse, reverse-append, client_of, sum_by, sum_by-cons, turns_left}
use Rattle.std.proofs.lemmas.List.{append_assoc}
use Rattle.cfs_serve.proofs.Logs.{some_same}

-- ---- any lists

pub heads : {A : Type 0} {x y : A} {xs ys : List A} → x ∷ xs ≡ y ∷ ys → x ≡ y
heads e = cc

pub tails : {A : Type 0} {x y : A} {xs ys : List A} → x ∷ xs ≡ y ∷ ys → xs ≡ ys
tails e = cc

pub never_none : {A : Type 0} {x : A} → None ≡ Some x → ⊥
never_none e = cc

pub no_items : {A : Type 0} (xs : List A) → length xs ≡ 0 → xs ≡ []
no_items [] none = refl
no_items (x ∷ xs) none = absurd (omega (arith, none))

pub one_item : {A : Type 0} (xs : List A) → length xs ≡ 1 → (x : A) × (xs ≡ x ∷ [])
one_item [] one = absurd (omega (arith, one))
one_item (x ∷ []) one = (x, refl)
one_item (x ∷ y ∷ xs) one = absurd (omega (arith, one))

-- there is an item at each place
pub item : {A : Type 0} (xs : List A) (k : ℕ) → k < length xs → (x : A) × (slice_get xs k ≡ Some x)
item [] k below = absurd (omega (arith, below))
item (x ∷ xs) zero below = (x, refl)
item (x ∷ xs) (suc k) below = item xs k (omega (arith, below))

-- an item is put at a place
pub get-set_same : {A : Type 0} (xs : List A) (i : ℕ) (y x : A) → slice_get xs i ≡ Some x → slice_get (set xs i y) i ≡ Some y
get-set_same [] i y x h = absurd (cc)
get-set_same (z ∷ xs) zero y x h = refl
get-set_same (z ∷ xs) (suc i) y x h = get-set_same xs i y x h

pub get-set_other : {A : Type 0} (xs : List A) (i k : ℕ) (y : A) → k ≢ i → slice_get (set xs i y) k ≡ slice_get xs k
get-set_other [] i k y h = refl
get-set_other (z ∷ xs) zero zero y h = absurd (h refl)
get-set_other (z ∷ xs) zero (suc k) y h = refl
get-set_other (z ∷ xs) (suc i) zero y h = refl
get-set_other (z ∷ xs) (suc i) (suc k) y h = get-set_other xs i k y (λ e. h (ap (λ n. suc n) e))

-- what is at a place of a list that was mapped
pub mapped : {A B : Type 0} (f : A → B) (xs : List A) (k : ℕ) (y : B) → slice_get (map f xs) k ≡ Some y → (x : A) × (slice_get xs k ≡ Some x) × (f x ≡ y)
mapped f [] k y at = absurd (never_none at)
mapped f (x ∷ xs) zero y at = (x, refl, some_same _ _ at)
mapped f (x ∷ xs) (suc k) y at = mapped f xs k y at

-- lists that map to the same, place by place
pub map_at : {A B C : Type 0} (f : A → C) (g : B → C) (xs : List A) (ys : List B) (k : ℕ) (x : A) (y : B) → map f xs ≡ map g ys → slice_get xs k ≡ Some x → slice_get ys k ≡ Some y → f x ≡ g y
map_at f g [] ys k x y same at there = absurd (never_none at)
map_at f g (a ∷ xs) [] k x y same at there = absurd (never_none there)
map_at f g (a ∷ xs) (b ∷ ys) zero x y same at there = sym (ap f (some_same _ _ at)) ∙ heads same ∙ ap g (some_same _ _ there)
map_at f g (a ∷ xs) (b ∷ ys) (suc k) x y same at there = map_at f g xs ys k x y (tails same) at there

pub same_length : {A B C : Type 0} (f : A → C) (g : B → C) (xs : List A) (ys : List B) → map f xs ≡ map g ys → length xs ≡ length ys
same_length f g xs ys same = sym (length-map xs f) ∙ ap length same ∙ length-map ys g

pub map_count : {A B : Type 0} (f : A → B) (xs ys : List A) → length xs ≡ length ys → length (map f xs) ≡ length (map f ys)
map_count f xs ys same = length-map xs f ∙ same ∙ sym (length-map ys f)

-- lists with the same items
pub same_items : {A : Type 0} (xs ys : List A) → length xs ≡ length ys → ((k : ℕ) (x y : A) → slice_get xs k ≡ Some x → slice_get ys k ≡ Some y → x ≡ y) → xs ≡ ys
same_items [] [] count each = refl
same_items [] (y ∷ ys) count each = absurd (omega (arith, count))
same_items (x ∷ xs) [] count each = absurd (omega (arith, count))
same_items (x ∷ xs) (y ∷ ys) count each =
    let first : x ≡ y = each 0 x y refl refl in
    let rest : xs ≡ ys = same_items xs ys (omega (arith, count)) (λ k a b. each (suc k) a b) in
    cc

-- what holds of each place
each_from : {P : Type 0} (holds : ℕ → P → P → Type 0) (n : ℕ) (olds news : List P) → length news ≡ length olds
    → ((k : ℕ) (old new : P) → slice_get olds k ≡ Some old → slice_get news k ≡ Some new → holds (k + n) old new) → EachFrom holds n olds news
each_from holds n [] [] count each = tt
each_from holds n [] (new ∷ news) count each = absurd (omega (arith, count))
each_from holds n (old ∷ olds) [] count each = absurd (omega (arith, count))
each_from holds n (old ∷ olds) (new ∷ news) count each =
    let here : 0 + n ≡ n = omega arith in (
      subst (λ m. holds m old new) here (each 0 old new refl refl),
      each_from holds (n + 1) olds news (omega (arith, count)) (λ k a b at there.
          let next : suc k + n ≡ k + (n + 1) = omega arith in
          subst (λ m. holds m a b) next (each (suc k) a b at there)),
    )

pub each_of : {P : Type 0} (holds : ℕ → P → P → Type 0) (olds news : List P) → length news ≡ length olds
    → ((k : ℕ) (old new : P) → slice_get olds k ≡ Some old → slice_get news k ≡ Some new → holds k old new) → EachFrom holds 0 olds news
each_of holds olds news count each = each_from holds 0 olds news count (λ k old new at there.
    let here : k ≡ k + 0 = omega arith in subst (λ m. holds m old new) here (each k old new at there))

-- what holds of the one item
pub each_one : {P : Type 0} (holds : ℕ → P → P → Type 0) (xs ys : List P) (x y : P) → xs ≡ x ∷ [] → ys ≡ y ∷ [] → holds 0 x y → EachFrom holds 0 xs ys
each_one holds xs ys x y is are has = rw (is, are) (has, tt)

-- the last of one list goes to the other, which is kept the last one first
pub one_moved : {A B C : Type 0} (f : A → C) (g : B → C) (xs : List A) (ys : List B) (x : A) (y : B) → f x ≡ g y
    → map f (xs ++ x ∷ []) ++ map g (reverse ys) ≡ map f xs ++ map g (reverse (ys ++ y ∷ []))
one_moved f g xs ys x y same =
    ap (λ l. l ++ map g (reverse ys)) (map-append f xs (x ∷ [])) ∙ append_assoc (map f xs) (f x ∷ []) (map g (reverse ys))
    ∙ ap (λ c. map f xs ++ c ∷ map g (reverse ys)) same ∙ ap (λ l. map f xs ++ map g l) (sym (reverse-append ys (y ∷ [])))

-- ---- counts of faults

pub one_rose : (olds news : List ℕ) (k a b : ℕ) → slice_get olds k ≡ Some a → slice_get news k ≡ Some b → Rose a b → SomeRose olds news
one_rose [] news k a b at there rose = absurd (never_none at)
one_rose (x ∷ olds) [] k a b at there rose = absurd (never_none there)
one_rose (x ∷ olds) (y ∷ news) zero a b at there rose = inl (subst (λ n. Rose n y) (sym (some_same _ _ at)) (subst (λ n. Rose a n) (sym (some_same _ _ there)) rose))
one_rose (x ∷ olds) (y ∷ news) (suc k) a b at there rose = inr (one_rose olds news k a b at there rose)

-- ---- ports

-- whether the sink of that session failed
abbrev pub failed_at : Option PortReading → Bool
failed_at None = false
failed_at (Some p) = p.failed

pub none_failed : (ports : List PortReading) → has_broken ports ≡ false → (k : ℕ) → failed_at (slice_get ports k) ≡ false
none_failed [] none k = refl
none_failed (p ∷ ports) none k = elim p.failed as (λ b. (b || has_broken ports) ≡ false → b ≡ p.failed → failed_at (slice_get (p ∷ ports) k) ≡ false) [
  | true ↦ λ clash is. absurd (cc clash)
  | false ↦ λ rest is. at k is (none_failed ports rest)
] none refl
  where
    at : (k : ℕ) → false ≡ p.failed → ((n : ℕ) → failed_at (slice_get ports n) ≡ false) → failed_at (slice_get (p ∷ ports) k) ≡ false
    at zero is rest = sym is
    at (suc k) is rest = rest k

pub one_failed : (ports : List PortReading) → has_broken ports ≡ true → (k : ℕ) × (p : PortReading) × (slice_get ports k ≡ Some p) × (p.failed ≡ true)
one_failed [] none = absurd (cc none)
one_failed (p ∷ ports) some = elim p.failed as (λ b. (b || has_broken ports) ≡ true → b ≡ p.failed → (k : ℕ) × (q : PortReading) × (slice_get (p ∷ ports) k ≡ Some q) × (q.failed ≡ true)) [
  | true ↦ λ it is. (0, p, refl, sym is)
  | false ↦ λ rest is. let one = one_failed ports rest in (suc one.0, one.1, one.2, one.3)
] some refl

pub no_new : (root : Puid) → AreNew root []
no_new root k p at = absurd (never_none at)

-- one more is new, where they are kept the last one first
pub one_new : (root : Puid) (ports : List PortReading) (port : PortReading) → AreNew root (reverse ports) → IsNewPort root port → AreNew root (reverse (ports ++ port ∷ []))
one_new root ports port new is = subst (AreNew root) (sym (reverse-append ports (port ∷ []))) placed
  where
    placed : AreNew root (port ∷ reverse ports)
    placed zero p there = subst (IsNewPort root) (some_same _ _ there) is
    placed (suc k) p there = new k p there

-- ---- clients

pub client_lines : (ports : List PortReading) → map (λ s. s.lines) (map client_of ports) ≡ map (λ p. p.lines) ports
client_lines [] = refl
client_lines (p ∷ ports) = ap (λ rest. p.lines ∷ rest) (client_lines ports)

pub client_sinks : (ports : List PortReading) → map (λ s. s.sink) (map client_of ports) ≡ map (λ p. p.sink) ports
client_sinks [] = refl
client_sinks (p ∷ ports) = ap (λ rest. p.sink ∷ rest) (client_sinks ports)

-- each line of the scripts is a turn, and so is each leave
pub new_work : (root : Puid) (ports : List PortReading) (scripts : List (List ℕ)) → AreNew root ports → map (λ p. p.lines) ports ≡ map request_lines scripts
    → sum_by turns_left ports ≡ lines_in scripts + length scripts
new_work root [] [] new same = omega arith
new_work root [] (script ∷ scripts) new same = absurd (cc same)
new_work root (p ∷ ports) [] new same = absurd (cc same)
new_work root (p ∷ ports) (script ∷ scripts) new same =
    let first : turns_left p ≡ length p.lines + 1 = rw (new 0 p refl).stays refl in
    let lines : length p.lines ≡ length (request_lines script) = ap length (heads same) in
    let rest = new_work root ports scripts (λ k q. new (suc k) q) (tails same) in
    omega (arith, sum_by-cons turns_left p ports, sum_by-cons (λ s. length (request_lines s)) script scripts, first, lines, rest)
