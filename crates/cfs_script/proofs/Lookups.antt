-- A table whose keys are words, read by words.
use Rattle.std.proofs.Common.{◌≡◌, ℕ, List, [], ◌∷◌, map, cond, refl, sym, ap, ◌∙◌, inl, inr, ◌⊎◌, Option, Some, None}
use Rattle.std.proofs.lemmas.Bool.{cases_Bool}
use Rattle.std.proofs.lemmas.Slice.Eq.{bytes_eq-Decides}
use Rattle.std.specs.Map.{lookup, KeepsOthers}
use Rattle.std.specs.Str.{bytes_eq}

module _ {K X : Type 0} (letters : K → List ℕ) where
  -- the value of a word
  abbrev pub read_at : List ℕ → List (K × X) → Option X
  read_at word entries = lookup (λ k. bytes_eq word (letters k)) entries

  pub lookup-map : (word : List ℕ) (entries : List (K × X))
      → lookup (λ other. bytes_eq word other) (map (λ e. (letters e.0, e.1)) entries) ≡ read_at word entries
  lookup-map word [] = refl
  lookup-map word (e ∷ entries) = ap (λ (r : Option X). cond (bytes_eq word (letters e.0)) (Some e.1) r) (lookup-map word entries)

  -- a word with no key stands for nothing
  found_or_none : (word : List ℕ) (entries : List (K × X)) → (read_at word entries ≡ None) ⊎ ((k : K) × (letters k ≡ word))
  found_or_none word [] = inl refl
  found_or_none word (e ∷ entries) =
      elim (cases_Bool (bytes_eq word (letters e.0))) [
        | inl t ↦ inr (e.0, sym ((bytes_eq-Decides word (letters e.0)).0 t))
        | inr f ↦ rw f (found_or_none word entries)
      ]

  -- what the keys read alike, all words read alike
  pub read_at-reordered : (old new : List (K × X)) → ((k : K) → read_at (letters k) new ≡ read_at (letters k) old)
      → (word : List ℕ) → read_at word new ≡ read_at word old
  read_at-reordered old new h word =
      elim (found_or_none word new) [
        | inl none ↦
            elim (found_or_none word old) [
              | inl gone ↦ none ∙ sym gone
              | inr at ↦ rw at.1 at (h at.0)
            ]
        | inr at ↦ rw at.1 at (h at.0)
      ]

  -- one key was given a value
  pub read_at-put : (old new : List (K × X)) (key : K) (to : X)
      → KeepsOthers (λ a b. bytes_eq (letters a) (letters b)) (λ k. bytes_eq (letters key) (letters k)) old new
      → read_at (letters key) new ≡ Some to
      → (word : List ℕ) → read_at word new ≡ cond (bytes_eq word (letters key)) (Some to) (read_at word old)
  unfolding KeepsOthers
  read_at-put old new key to keeps put word =
      elim (cases_Bool (bytes_eq word (letters key))) [
        | inl t ↦ rw (t, (bytes_eq-Decides word (letters key)).0 t) put
        | inr f ↦
            rw f (keeps (λ k. bytes_eq word (letters k))
            (λ x y t. rw ((bytes_eq-Decides word (letters x)).0 t) refl)
            (λ k t. rw (← (bytes_eq-Decides (letters key) (letters k)).0 t) f))
      ]
