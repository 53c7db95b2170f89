-- What an audit comes to, by what was found of its source.
use Rattle.std.proofs.Common.{◌≡◌, ◌⊎◌, inl, inr, ℕ, ◌<◌, ◌≤◌, Bool, true, false, List, [], ◌∷◌, length, Some, refl, sym, subst, arith}
use Rattle.cfs_serve.proofs.Cited.{Asked, Audits, Cause, EachFrom, Finds, Formats, Had, Inspects, IsAudited, IsTrailOf, Judges, Nothing, Rose, Shows, SomeRose, Supply, status_at_end, faults_of_sources, is_audit, is_service, most_trail, status_of}
use Rattle.cfs_serve.specs.Words.{Converses, Dirs, Serves, Spins}
use Rattle.cfs_serve.specs.declared.report.Cause.TheVariants as causes
use Rattle.cfs_serve.proofs.Lists.{heads, tails}

clash : false ≡ true → ⊥
clash e = cc

never_nil : {A : Type 0} {x : A} {xs : List A} → x ∷ xs ≡ [] → ⊥
never_nil e = cc

pub serves_none : (asked : Asked) → is_audit asked ≡ true → is_service asked ≡ false
serves_none (Shows page) audits = refl
serves_none (Formats format) audits = refl
serves_none (Audits trail) audits = refl
serves_none (Inspects inspection) audits = refl
serves_none (Serves service) audits = absurd (clash audits)
serves_none (Spins spin) audits = absurd (clash audits)
serves_none (Dirs names) audits = refl
serves_none (Converses talk) audits = refl
serves_none Nothing audits = refl

-- the one source that had this text
pub record Found (cause : Cause) (sources after : List Supply) (text : List ℕ) : Type 0 where
  pub source : Supply
  pub left : Supply
  pub had : source.left ≡ Some text
  pub is : Finds cause source left
  pub rose : Rose source.faults left.faults → SomeRose (faults_of_sources sources) (faults_of_sources after)

pub found : (cause : Cause) (sources after : List Supply) (text : List ℕ) → Had sources (text ∷ []) → EachFrom (λ _ source left. Finds cause source left) 0 sources after → Found cause sources after text
found cause [] after text had each = absurd (never_nil (sym had))
found cause (s ∷ []) [] text had each = absurd each
found cause (s ∷ []) (a ∷ after) text had each = record { source = s; left = a; had = heads had; is = each.0; rose = λ rose. inl rose }
found cause (s ∷ t ∷ sources) after text had each = absurd (never_nil (tails had))

module _ (source left : Supply) (text : List ℕ) (had : source.left ≡ Some text) where
  short : (read : List ℕ) → IsTrailOf source read → length text ≤ most_trail
  short read of = subst (λ t. length t ≤ most_trail) (of.whole text had) of.short

  judges : (cause : Cause) (read : List ℕ) → IsTrailOf source read → Judges cause read → Judges cause text
  judges cause read of is = subst (Judges cause) (of.whole text had) is

  -- where no count rose
  pub judged : (cause : Cause) → Finds cause source left → ¬ (Rose source.faults left.faults) → IsAudited (status_of cause) cause text
  judged (causes.Source i) is quiet = absurd (quiet is.1)
  judged (causes.Long i) is quiet = inr (inl (is.1 text had, refl))
  judged causes.Memory is quiet = inr (inr refl)
  judged (causes.Legal n) is quiet = inl (short is.0 is.1, refl, judges (causes.Legal n) is.0 is.1 is.2, refl)
  judged (causes.BadLine line) is quiet = inl (short is.0 is.1, refl, judges (causes.BadLine line) is.0 is.1 is.2, refl)
  judged (causes.Illegal event) is quiet = inl (short is.0 is.1, refl, judges (causes.Illegal event) is.0 is.1 is.2, refl)
  judged cause is quiet = absurd is.2

  -- a text above the limit
  pub overlong : (cause : Cause) (written : Bool) → Finds cause source left → most_trail < length text → (status_at_end written cause ≡ 9) ⊎ (cause ≡ causes.Memory) ⊎ (status_at_end written cause ≡ 6)
  overlong (causes.Source i) true is far = inr (inr refl)
  overlong (causes.Source i) false is far = inr (inr refl)
  overlong (causes.Long i) true is far = inl refl
  overlong (causes.Long i) false is far = inl refl
  overlong causes.Memory written is far = inr (inl refl)
  overlong cause written is far = let few = short is.0 is.1 in absurd (omega (arith, few, far))
