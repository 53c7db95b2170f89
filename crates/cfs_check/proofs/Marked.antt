-- Marks of faults, as one is added, and as they are listed.
use Rattle.std.proofs.Common.{◌≡◌, ◌≢◌, ◌⊎◌, inl, inr, ℕ, zero, suc, ◌+◌, ◌*◌, ◌/◌, ◌%◌, ◌<◌, ◌≤◌, Bool, true, false, cond, List, [], ◌∷◌, ◌++◌, length, get_or, set, map, refl, sym, ◌∙◌, ap, subst, arith, get_or-set_other, get_or-set_same, length-set}
use Rattle.std.proofs.lemmas.Bool.{cases_eq}
use Rattle.std.proofs.lemmas.List.FromFn.{filter_of_map_range_with_len_more}
use Rattle.std.specs.Prelude.{filter}
use Rattle.std.specs.List.{range_with_len}
use Rattle.cfs_base.specs.declared.refusal.Damage.{Damage}
use Rattle.cfs_check.specs.Marks.{AddsMarks, IsToldOf, damage_at, damages_below, is_marked, is_marked_damage, mark_place}

-- ---- one mark

same_place : (code c block n : ℕ) → code < 12 → c < 12 → mark_place c n ≡ mark_place code block → (c ≡ code) × (n ≡ block)
same_place code c block n small few same = (omega arith, omega arith)

pub adds_none : (marks : List Bool) (told : Bool) (code block : ℕ) → told ≡ false → AddsMarks (IsToldOf told code block) marks marks
adds_none marks told code block not = record {
  size = refl;
  kept = λ c n was. was;
  added = λ c n is. let no_way : true ≡ false = sym is.is_told ∙ not in cc;
  only = λ c n small is. inl is;
}

pub adds_one : (marks : List Bool) (told : Bool) (code block : ℕ) → told ≡ true → code < 12 → mark_place code block < length marks → AddsMarks (IsToldOf told code block) marks (set marks (mark_place code block) true)
adds_one marks told code block is small inside = record {
  size = length-set marks at true;
  kept = λ c n was. elim (cases_eq (mark_place c n) at) [
    | inl same ↦ ap (λ (k : ℕ). get_or (set marks at true) k false) same ∙ here
    | inr other ↦ get_or-set_other marks at (mark_place c n) true false other ∙ was
  ];
  added = λ c n this.
      (omega (arith, this.code_is), ap (λ (k : ℕ). get_or (set marks at true) k false) (let same : mark_place c n ≡ at = omega (arith, this.code_is, this.block_is) in same) ∙ here);
  only = λ c n few marked. elim (cases_eq (mark_place c n) at) [
    | inl same ↦ (let it = same_place code c block n small few same in inr (record { is_told = is; code_is = it.0; block_is = it.1 }))
    | inr other ↦ inl (sym (get_or-set_other marks at (mark_place c n) true false other) ∙ marked)
  ];
}
  where
    at : ℕ
    at = mark_place code block

    here : get_or (set marks at true) at false ≡ true
    here = get_or-set_same marks at true false inside

-- ---- what was added in two steps, and under another name

pub adds_then : (P Q : ℕ → ℕ → Type 0) (a b c : List Bool) → AddsMarks P a b → AddsMarks Q b c → AddsMarks (λ code n. P code n ⊎ Q code n) a c
adds_then P Q a b c one two = record {
  size = two.size ∙ one.size;
  kept = λ code n was. two.kept code n (one.kept code n was);
  added = λ code n is. elim is [ inl p ↦ (let at = one.added code n p in (at.0, two.kept code n at.1)) | inr q ↦ two.added code n q ];
  only = λ code n small is. elim (two.only code n small is) [
    | inl before ↦ elim (one.only code n small before) [ inl was ↦ inl was | inr p ↦ inr (inl p) ]
    | inr q ↦ inr (inr q)
  ];
}

pub adds_as : (P Q : ℕ → ℕ → Type 0) (a b : List Bool) → AddsMarks P a b → ((code n : ℕ) → P code n → Q code n) → ((code n : ℕ) → Q code n → P code n) → AddsMarks Q a b
adds_as P Q a b adds to from = record {
  size = adds.size;
  kept = adds.kept;
  added = λ code n q. adds.added code n (from code n q);
  only = λ code n small is. elim (adds.only code n small is) [ inl was ↦ inl was | inr p ↦ inr (to code n p) ];
}

-- ---- the list

pub place_is : (n : ℕ) → 12 * (n / 12) + n % 12 ≡ n
place_is n = omega arith

-- one place more
pub damages_more : (marks : List Bool) (n : ℕ) (b : Bool) → get_or marks n false ≡ b → damages_below marks (n + 1) ≡ damages_below marks n ++ cond b (damage_at n ∷ []) []
damages_more marks n b is =
    filter_of_map_range_with_len_more (is_marked_damage marks) damage_at 0 n n (omega arith)
    ∙ ap (λ (t : Bool). damages_below marks n ++ cond t (damage_at n ∷ []) []) (ap (λ (k : ℕ). get_or marks k false) (place_is n) ∙ is)

is_false : (b : Bool) → b ≢ true → b ≡ false
is_false true never = absurd (never refl)
is_false false never = refl

-- nothing is listed where nothing is marked
pub none_listed : (marks : List Bool) → ((place : ℕ) → get_or marks place false ≢ true) → (n : ℕ) → damages_below marks n ≡ []
none_listed marks none zero = refl
none_listed marks none (suc n) =
    let more = damages_more marks n false (is_false (get_or marks n false) (none n)) ∙ ap (λ (ds : List Damage). ds ++ []) (none_listed marks none n) in
    let next : n + 1 ≡ suc n = omega arith in
    subst (λ (k : ℕ). damages_below marks k ≡ []) next more
