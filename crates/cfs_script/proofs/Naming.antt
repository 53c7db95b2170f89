-- The name that words of a form bind is a name.
use Rattle.std.proofs.Common.{◌≡◌, ◌≢◌, ℕ, true, List, [], ◌∷◌, Some, refl, inl, inr}
use Rattle.std.specs.Str.{bytes_eq}
use Rattle.std.proofs.lemmas.Bool.{cases_Bool}
use Rattle.ufs_model.specs.Names.{Names, is_name}
use Rattle.ufs_model.specs.Spoken.{Bad, Form, spoken, name_spoken}

-- of the first form of a language
is_name-form : (form : Form) (forms : List Form) (names : Names) (verb : List ℕ) (words : List (List ℕ)) (word : List ℕ)
    → bytes_eq verb form.verb ≡ true → name_spoken (form ∷ forms) (verb ∷ words) ≡ Some word
    → spoken (form ∷ forms) names (verb ∷ words) ≢ Bad → is_name word ≡ true
is_name-form form forms names verb [] word t h formed = cc (rw t at h)
is_name-form form forms names verb (w ∷ words) word t h formed =
    elim (cases_Bool form.binds) [
      | inr not_so ↦ cc (rw (t, not_so) at h)
      | inl does ↦
          let e : w ≡ word = cc (rw (t, does) at h) in
          elim (cases_Bool (is_name w)) [
            | inl named ↦ rw e at named
            | inr none ↦ absurd (formed (rw (t, does, none) refl))
          ]
    ]

pub is_name-spoken : (forms : List Form) (names : Names) (words : List (List ℕ)) (word : List ℕ)
    → name_spoken forms words ≡ Some word → spoken forms names words ≢ Bad → is_name word ≡ true
is_name-spoken forms names [] word h formed = cc h
is_name-spoken [] names (verb ∷ words) word h formed = cc h
is_name-spoken (form ∷ forms) names (verb ∷ words) word h formed =
    elim (cases_Bool (bytes_eq verb form.verb)) [
      | inl t ↦ is_name-form form forms names verb words word t h formed
      | inr f ↦ is_name-spoken forms names (verb ∷ words) word (rw f at h) (rw f at formed)
    ]
