-- What the pair disk shows once a block below is written.
use Rattle.std.proofs.Common.{◌≡◌, ◌≢◌, ◌⊎◌, inl, inr, ℕ, ◌+◌, ◌*◌, ◌/◌, ◌<◌, List, [], length, set, refl, sym, ◌∙◌, ap, subst, arith, length-set, get_or-set_same, get_or-set_other}
use Rattle.pair_disk.proofs.Words.{First, Half, Image, Second, block_at, cases_eq, gate_at, gate_for, half_at, length-pairs, other_half, pairs-at, pairs_in, set-get_or, shown_by, shown_half_of, shown_in}
use Rattle.std.proofs.lemmas.List.{ext_get_or}

-- ---- the blocks below are distinct

pub gate_apart : (h : Half) (m n : ℕ) → gate_at m ≢ half_at h n
gate_apart First m n = λ (e : gate_at m ≡ half_at First n). omega arith
gate_apart Second m n = λ (e : gate_at m ≡ half_at Second n). omega arith

pub halves_apart : (h k : Half) (m n : ℕ) → m ≢ n → half_at h m ≢ half_at k n
halves_apart First First m n not = λ (e : 3 * m ≡ 3 * n). not (omega arith)
halves_apart First Second m n not = λ (e : 3 * m ≡ 3 * n + 1). omega arith
halves_apart Second First m n not = λ (e : 3 * m + 1 ≡ 3 * n). omega arith
halves_apart Second Second m n not = λ (e : 3 * m + 1 ≡ 3 * n + 1). not (omega arith)

others_apart : (h : Half) (n : ℕ) → half_at h n ≢ half_at (other_half h) n
others_apart First n = λ (e : 3 * n ≡ 3 * n + 1). omega arith
others_apart Second n = λ (e : 3 * n + 1 ≡ 3 * n). omega arith

-- ---- what is shown

pub gate_shows : (h : Half) → shown_by (gate_for h) ≡ h
gate_shows First = refl
gate_shows Second = refl

-- neither the gate nor the shown half of block m is written
shown_kept : (below : Image) (at : ℕ) (bytes : List ℕ) (m : ℕ) → gate_at m ≢ at → half_at (shown_half_of below m) m ≢ at → shown_in (set below at bytes) m ≡ shown_in below m
shown_kept below at bytes m gate half =
    ap (λ (b : List ℕ). block_at (set below at bytes) (half_at (shown_by b) m)) (get_or-set_other below at (gate_at m) bytes [] gate) ∙ get_or-set_other below at (half_at (shown_half_of below m) m) bytes [] half

-- the half of block n that isn't shown is written
pub hidden_written : (below : Image) (n : ℕ) (bytes : List ℕ) → pairs_in (set below (half_at (other_half (shown_half_of below n)) n) bytes) ≡ pairs_in below
hidden_written below n bytes =
    let hidden : Half = other_half (shown_half_of below n) in
    let at : ℕ = half_at hidden n in
    let long : length (set below at bytes) ≡ length below = length-set below at bytes in
    let not_shown : (m : ℕ) → half_at (shown_half_of below m) m ≢ at = λ m. elim (cases_eq m n) [
      | inl same ↦ subst (λ (k : ℕ). half_at (shown_half_of below k) k ≢ at) (sym same) (others_apart (shown_half_of below n) n)
      | inr not ↦ halves_apart (shown_half_of below m) hidden m n not
    ] in
    let third : length (pairs_in (set below at bytes)) ≡ length below / 3 = length-pairs (set below at bytes) ∙ ap (λ (k : ℕ). k / 3) long in
    ext_get_or [] (pairs_in (set below at bytes)) (pairs_in below) (third ∙ sym (length-pairs below))
    (λ m le. pairs-at (set below at bytes) m (omega (arith, le, third, long)) ∙ shown_kept below at bytes m (gate_apart hidden m n) (not_shown m) ∙ sym (pairs-at below m (omega (arith, le, third))))

-- the gate of block n is written
gate_written_to : (below : Image) (n : ℕ) (bytes : List ℕ) → n < length below / 3 → pairs_in (set below (gate_at n) bytes) ≡ set (pairs_in below) n (block_at below (half_at (shown_by bytes) n))
gate_written_to below n bytes on =
    let at : ℕ = gate_at n in
    let c : Image = set below at bytes in
    let now : List ℕ = block_at below (half_at (shown_by bytes) n) in
    let long : length c ≡ length below = length-set below at bytes in
    let third : length (pairs_in c) ≡ length below / 3 = length-pairs c ∙ ap (λ (k : ℕ). k / 3) long in
    let here : shown_in c n ≡ now =
    ap (λ (b : List ℕ). block_at c (half_at (shown_by b) n)) (get_or-set_same below at bytes [] (omega (arith, on)))
    ∙ get_or-set_other below at (half_at (shown_by bytes) n) bytes [] (λ (e : half_at (shown_by bytes) n ≡ at). gate_apart (shown_by bytes) n n (sym e)) in
    ext_get_or [] (pairs_in c) (set (pairs_in below) n now) (third ∙ sym (length-pairs below) ∙ sym (length-set (pairs_in below) n now)) (λ m le. elim (cases_eq m n) [
      | inl same ↦ subst (λ (k : ℕ). block_at (pairs_in c) k ≡ block_at (set (pairs_in below) n now) k) (sym same)
          (pairs-at c n (omega (arith, on, long)) ∙ here ∙ sym (get_or-set_same (pairs_in below) n now [] (omega (arith, on, length-pairs below))))
      | inr not ↦ pairs-at c m (omega (arith, le, third, long))
          ∙ shown_kept below at bytes m (λ (e : gate_at m ≡ gate_at n). not (omega arith)) (λ (e : half_at (shown_half_of below m) m ≡ at). gate_apart (shown_half_of below m) n m (sym e))
          ∙ sym (pairs-at below m (omega (arith, le, third))) ∙ sym (get_or-set_other (pairs_in below) n m now [] not)
    ])

half_cases : (h k : Half) → (k ≡ h) ⊎ (k ≡ other_half h)
half_cases First First = inl refl
half_cases First Second = inr refl
half_cases Second First = inr refl
half_cases Second Second = inl refl

-- block n then is what it was, or its other half, whatever is written to the gate
pub gate_written : (below : Image) (n : ℕ) (bytes : List ℕ) → n < length below / 3
    → (pairs_in (set below (gate_at n) bytes) ≡ pairs_in below) ⊎ (pairs_in (set below (gate_at n) bytes) ≡ set (pairs_in below) n (block_at below (half_at (other_half (shown_half_of below n)) n)))
gate_written below n bytes on =
    let put : Half → Image = λ h. set (pairs_in below) n (block_at below (half_at h n)) in
    elim (half_cases (shown_half_of below n) (shown_by bytes)) [
      | inl same ↦ inl (gate_written_to below n bytes on ∙ ap put same ∙ ap (λ (b : List ℕ). set (pairs_in below) n b) (sym (pairs-at below n on)) ∙ set-get_or (pairs_in below) n [])
      | inr turned ↦ inr (gate_written_to below n bytes on ∙ ap put turned)
    ]

-- it is the other half once the gate for that is written
pub gate_turned : (below : Image) (n : ℕ) (h : Half) → n < length below / 3 → pairs_in (set below (gate_at n) (gate_for h)) ≡ set (pairs_in below) n (block_at below (half_at h n))
gate_turned below n h on = gate_written_to below n (gate_for h) on ∙ ap (λ (k : Half). set (pairs_in below) n (block_at below (half_at k n))) (gate_shows h)
