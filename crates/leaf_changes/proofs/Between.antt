-- A file whose change is cut short: each of its leaves is that of the old file or of the new.
use Rattle.std.proofs.Common.{◌≡◌, ◌⊎◌, inl, inr, ℕ, ◌+◌, ◌-◌, ◌*◌, ◌/◌, ◌%◌, ◌<◌, ◌≤◌, List, ◌++◌, length, get_or, drop, replicate, Option, refl, sym, ◌∙◌, subst, arith}
use Rattle.leaf_changes.proofs.Words.{File, GivesFile, Held, IsBetween, LeavesFit, Root, SetsSize, bytes_held, cases_lt, ext_get_or, get_or-append_right, get_or-drop, get_or-replicate, get_or-take, get_or_append_left, leaf_content, leaf_of_file, length-append, length-drop, length-replicate, length-take}
use Rattle.leaf_changes.proofs.Contents.{length-leaf_content, past_size}
use Rattle.leaf_changes.proofs.Fits.{FitsAt, fit_at, fit_each, same_fit}

module _ (root : Root) (leaf : ℕ → Option Held) (f : File) (fit : LeavesFit root leaf) (gives : GivesFile root leaf f) where
  pub leaf_of : (n : ℕ) → leaf_of_file f n ≡ leaf_content root.fill (leaf n)
  leaf_of n = ext_get_or 0 (leaf_of_file f n) (leaf_content root.fill (leaf n)) (wide ∙ sym (length-leaf_content root.fill (leaf n))) (λ i below. byte i (omega (arith, wide)))
    where
      rest : List ℕ
      rest = drop (512 * n) f.bytes

      wide : length (leaf_of_file f n) ≡ 512
      wide = omega (arith, length-take 512 (rest ++ replicate 512 f.fill), length-append rest (replicate 512 f.fill), length-replicate 512 f.fill)

      byte : (i : ℕ) → i < 512 → get_or (leaf_of_file f n) i 0 ≡ get_or (leaf_content root.fill (leaf n)) i 0
      byte i small = get_or-take 512 (rest ++ replicate 512 f.fill) i 0 small ∙ elim (cases_lt (512 * n + i) (length f.bytes)) [
        | inl inside ↦
            let at : (512 * n + i) / 512 ≡ n = omega arith in
            let place : (512 * n + i) % 512 ≡ i = omega arith in
            get_or_append_left rest (replicate 512 f.fill) 0 i (omega (arith, length-drop (512 * n) f.bytes)) ∙ get_or-drop (512 * n) f.bytes i 0
            ∙ gives.bytes (512 * n + i) (omega (arith, gives.size)) ∙ λ t. get_or (leaf_content root.fill (leaf (at t))) (place t) 0
        | inr past ↦
            get_or-append_right rest (replicate 512 f.fill) (length rest) i 0 refl (omega (arith, length-drop (512 * n) f.bytes))
            ∙ get_or-replicate 512 (i - length rest) f.fill 0 (omega arith)
            ∙ gives.fill ∙ sym (past_size root leaf fit n i small (omega (arith, gives.size)))
      ]

  pub between : (old new : File) → f.kind ≡ old.kind → root.fill ≡ old.fill → (root.size ≡ length old.bytes) ⊎ (root.size ≡ length new.bytes)
      → ((n : ℕ) → (leaf_content root.fill (leaf n) ≡ leaf_of_file old n) ⊎ (leaf_content root.fill (leaf n) ≡ leaf_of_file new n)) → IsBetween old new f
  between old new kind fill size leaves = record {
    kind = kind;
    fill = gives.fill ∙ fill;
    size = elim size [ inl one ↦ inl (gives.size ∙ one) | inr other ↦ inr (gives.size ∙ other) ];
    leaves = λ n. elim (leaves n) [ inl one ↦ inl (leaf_of n ∙ one) | inr other ↦ inr (leaf_of n ∙ other) ];
  }

-- leaves of before and after, mixed, fit the greater size
pub mixed_fit : (before after root : Root) (old new leaf : ℕ → Option Held) → LeavesFit before old → LeavesFit after new → after.size ≤ before.size → after.fill ≡ before.fill → SetsSize before.size before root
    → ((n : ℕ) → (bytes_held (leaf n) ≡ bytes_held (old n)) ⊎ (bytes_held (leaf n) ≡ bytes_held (new n))) → LeavesFit root leaf
mixed_fit before after root old new leaf fit fit' less fill head mixed = same_fit before.size before root head leaf (fit_each before leaf (λ n. elim (mixed n) [
  | inl one ↦ subst (FitsAt before.size before.fill n) (sym one) (fit_at before old fit n)
  | inr other ↦ subst (FitsAt before.size before.fill n) (sym other) (let was = fit_at after new fit' n in record {
    within = λ bytes is. let few = was.within bytes is in omega arith;
    filled = λ bytes i is small past. was.filled bytes i is small (omega arith) ∙ fill;
  })
]))
