-- Entries of which one is looked up, and one is brought to the front, put there or taken out.
use Rattle.std.proofs.Common.{◌≡◌, ◌≢◌, ℕ, zero, suc, ◌+◌, ◌-◌, ◌≤◌, Bool, true, false, cond, List, [], ◌∷◌, length, take, Option, Some, None, nat_eq, inl, inr, refl, sym, ap, ◌∙◌, subst, arith}
use Rattle.std.proofs.lemmas.Bool.{ne_eqb, eqb-true}
use Rattle.std.proofs.lemmas.Bool.Decides.{eqb_tells}
use Rattle.std.specs.Map.{lookup, lookup_entry, remove_entry}
use Rattle.std.specs.Option.{option_map_or}
use Rattle.lru.proofs.CallerLemmas.{Contains-lookup_entry}
use Rattle.lru.specs.LruCache.{LruCache, promoted, put_entries}

module _ {X : Type 0} where
  length-remove_entry : (test : ℕ → Bool) (es : List (ℕ × X)) (e : ℕ × X) → lookup_entry test es ≡ Some e → length (remove_entry test es) + 1 ≡ length es
  length-remove_entry test [] e is = cc
  length-remove_entry test (f ∷ es) e is = (elim (test f.0) as (λ b. test f.0 ≡ b → length (remove_entry test (f ∷ es)) + 1 ≡ length (f ∷ es)) [
    | true ↦ λ t. rw t (omega arith)
    | false ↦ λ t. rw t (let on = length-remove_entry test es e (rw t at is) in omega arith)
  ]) refl

  lookup-take : (test : ℕ → Bool) (k : ℕ) (es : List (ℕ × X)) (x : X) → lookup test (take k es) ≡ Some x → lookup test es ≡ Some x
  lookup-take test zero es x is = cc
  lookup-take test (suc k) [] x is = is
  lookup-take test (suc k) (f ∷ es) x is = (elim (test f.0) as (λ b. test f.0 ≡ b → lookup test (f ∷ es) ≡ Some x) [
    | true ↦ λ t. rw t (rw t at is)
    | false ↦ λ t. rw t (lookup-take test k es x (rw t at is))
  ]) refl

  length-take-le : (k : ℕ) (es : List (ℕ × X)) → length (take k es) ≤ k
  length-take-le zero es = omega arith
  length-take-le (suc k) [] = omega arith
  length-take-le (suc k) (f ∷ es) = let on = length-take-le k es in omega arith

  -- another key finds the same beside one that is taken out
  lookup-without : (n m : ℕ) (es : List (ℕ × X)) → m ≢ n → lookup (nat_eq m) (remove_entry (nat_eq n) es) ≡ lookup (nat_eq m) es
  lookup-without n m [] ne = refl
  lookup-without n m (f ∷ es) ne = (elim (nat_eq n f.0) as (λ b. nat_eq n f.0 ≡ b → lookup (nat_eq m) (remove_entry (nat_eq n) (f ∷ es)) ≡ lookup (nat_eq m) (f ∷ es)) [
    | true ↦ λ t. let other : nat_eq m f.0 ≡ false = ne_eqb m f.0 (λ same. ne (same ∙ sym (eqb-true n f.0 t))) in rw (t, other) refl
    | false ↦ λ t. rw t (ap (λ (o : Option X). cond (nat_eq m f.0) (Some f.1) o) (lookup-without n m es ne))
  ]) refl

  none_found : (test : ℕ → Bool) (es : List (ℕ × X)) → lookup test es ≡ None → lookup_entry test es ≡ None
  none_found test [] is = refl
  none_found test (f ∷ es) is = (elim (test f.0) as (λ b. test f.0 ≡ b → lookup_entry test (f ∷ es) ≡ None) [
    | true ↦ λ t. let no = rw t at is in cc
    | false ↦ λ t. rw t (none_found test es (rw t at is))
  ]) refl

  value_of : (test : ℕ → Bool) (es : List (ℕ × X)) (e : ℕ × X) → lookup_entry test es ≡ Some e → lookup test es ≡ Some e.1
  value_of test [] e is = cc
  value_of test (f ∷ es) e is = (elim (test f.0) as (λ b. test f.0 ≡ b → lookup test (f ∷ es) ≡ Some e.1) [
    | true ↦ λ t. let same = rw t at is in rw t (cc)
    | false ↦ λ t. rw t (value_of test es e (rw t at is))
  ]) refl

  -- ---- brought to the front

  pub promoted-none : (n : ℕ) (es : List (ℕ × X)) → lookup (nat_eq n) es ≡ None → promoted (nat_eq n) es ≡ es
  promoted-none n es is = rw (none_found (nat_eq n) es is) refl

  front : (n : ℕ) (es : List (ℕ × X)) (o : Option (ℕ × X)) → lookup_entry (nat_eq n) es ≡ o → length (option_map_or (λ e. e ∷ remove_entry (nat_eq n) es) o es) ≡ length es
  front n es None is = refl
  front n es (Some e) is = let on = length-remove_entry (nat_eq n) es e is in omega arith

  pub length-promoted : (n : ℕ) (es : List (ℕ × X)) → length (promoted (nat_eq n) es) ≡ length es
  length-promoted n es = front n es (lookup_entry (nat_eq n) es) refl

  seen : (n m : ℕ) (es : List (ℕ × X)) (o : Option (ℕ × X)) → lookup_entry (nat_eq n) es ≡ o → lookup (nat_eq m) (option_map_or (λ e. e ∷ remove_entry (nat_eq n) es) o es) ≡ lookup (nat_eq m) es
  seen n m es None is = refl
  seen n m es (Some e) is = let key = eqb-true n e.0 (Contains-lookup_entry (nat_eq n) es e is).1 in elim (eqb_tells m n) [
    | inl equal ↦ let one : nat_eq m e.0 ≡ true = subst (λ (k : ℕ). nat_eq m k ≡ true) key equal.0 in rw one (sym (value_of (nat_eq m) es e (rw equal.1 is)))
    | inr apart ↦ let other : nat_eq m e.0 ≡ false = subst (λ (k : ℕ). nat_eq m k ≡ false) key apart.0 in rw other (lookup-without n m es apart.1)
  ]

  -- each key finds the same as before
  pub lookup-promoted : (n m : ℕ) (es : List (ℕ × X)) → lookup (nat_eq m) (promoted (nat_eq n) es) ≡ lookup (nat_eq m) es
  lookup-promoted n m es = seen n m es (lookup_entry (nat_eq n) es) refl

  -- ---- put in front

  module _ (c : LruCache ℕ X) (n : ℕ) (x : X) where
    abbrev after : Option (ℕ × X) → List (ℕ × X)
    after o = option_map_or (λ e. (e.0, x) ∷ remove_entry (nat_eq n) c.entries) o ((n, x) ∷ take (c.cap - 1) c.entries)

    long : (o : Option (ℕ × X)) → lookup_entry (nat_eq n) c.entries ≡ o → 1 ≤ c.cap → length c.entries ≤ c.cap → length (after o) ≤ c.cap
    long None is some few = let on = length-take-le (c.cap - 1) c.entries in omega arith
    long (Some e) is some few = let on = length-remove_entry (nat_eq n) c.entries e is in omega arith

    pub length-put_entries : 1 ≤ c.cap → length c.entries ≤ c.cap → length (put_entries nat_eq c n x) ≤ c.cap
    length-put_entries = long (lookup_entry (nat_eq n) c.entries) refl

    beside : (m : ℕ) (y : X) (o : Option (ℕ × X)) → lookup_entry (nat_eq n) c.entries ≡ o → m ≢ n → lookup (nat_eq m) (after o) ≡ Some y → lookup (nat_eq m) c.entries ≡ Some y
    beside m y None is ne found = let other : nat_eq m n ≡ false = ne_eqb m n ne in lookup-take (nat_eq m) (c.cap - 1) c.entries y (rw other at found)
    beside m y (Some e) is ne found =
        let key = eqb-true n e.0 (Contains-lookup_entry (nat_eq n) c.entries e is).1 in
        let other : nat_eq m e.0 ≡ false = subst (λ (k : ℕ). nat_eq m k ≡ false) key (ne_eqb m n ne) in
        sym (lookup-without n m c.entries ne) ∙ rw other at found

    -- another key finds what it found, or nothing any more
    pub lookup-put_other : (m : ℕ) (y : X) → m ≢ n → lookup (nat_eq m) (put_entries nat_eq c n x) ≡ Some y → lookup (nat_eq m) c.entries ≡ Some y
    lookup-put_other m y = beside m y (lookup_entry (nat_eq n) c.entries) refl
