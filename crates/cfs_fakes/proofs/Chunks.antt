-- A list cut into chunks of one size.
use Rattle.std.proofs.Common.{◌≡◌, ℕ, zero, suc, ◌+◌, ◌*◌, ◌<◌, List, [], ◌∷◌, ◌++◌, length, take, drop, set, get_or, replicate, refl, sym, ◌∙◌, ap, subst, inl, inr, ◌≤◌, append_assoc, zero-add, arith}
use Rattle.std.proofs.Math.Nat.{suc-mul, zero-mul, mul-le-mul_right}
use Rattle.std.proofs.lemmas.Bool.{cases_lt}
use Rattle.std.proofs.Math.Seq.{take-add}
use Rattle.std.proofs.lemmas.List.{drop-drop, take_at, drop_at, length-drop, length-take, length-take-le, get_or-take, get_or-drop, get_or_past, take-replicate, drop-replicate}
use Rattle.std.specs.Simd.{first_chunks}
use Rattle.cfs_base.specs.Disk.{AreBlocks, IsBlock}
use Rattle.cfs_fakes.specs.Store.{AreBytes}

pub length_chunks : {X : Type 0} (s k : ℕ) (xs : List X) → length (first_chunks s k xs) ≡ k
length_chunks s zero xs = refl
length_chunks s (suc k) xs = ap suc (length_chunks s k (drop s xs))

-- one of them
pub chunk_at : {X : Type 0} (s k n : ℕ) (xs : List X) → n < k → get_or (first_chunks s k xs) n [] ≡ take s (drop (n * s) xs)
chunk_at s zero n xs le = absurd (omega (arith, le))
chunk_at s (suc k) zero xs le = ap (λ (j : ℕ). take s (drop j xs)) (sym (zero-mul s))
chunk_at s (suc k) (suc n) xs le =
    let more : s + n * s ≡ suc n * s = omega (arith, suc-mul n s) in
    chunk_at s k n (drop s xs) (omega (arith, le)) ∙ ap (take s) (drop-drop (n * s) s xs ∙ ap (λ (j : ℕ). drop j xs) more)

-- a chunk in front
cut : {X : Type 0} (s k : ℕ) (xs ys : List X) → length xs ≡ s → first_chunks s (suc k) (xs ++ ys) ≡ xs ∷ first_chunks s k ys
cut {X = X} s k xs ys long = ap (λ (c : List X). c ∷ first_chunks s k (drop s (xs ++ ys))) (take_at xs ys s long) ∙ ap (λ (r : List X). xs ∷ first_chunks s k r) (drop_at xs ys s long)

-- one of them replaced
pub chunk_set : {X : Type 0} (s k n : ℕ) (xs b : List X) → n < k → length b ≡ s → length xs ≡ k * s → first_chunks s k (take (n * s) xs ++ b ++ drop (n * s + s) xs) ≡ set (first_chunks s k xs) n b
chunk_set s zero n xs b le long size = absurd (omega (arith, le))
chunk_set {X = X} s (suc k) zero xs b le long size =
    ap (λ (j : ℕ). first_chunks s (suc k) (take j xs ++ b ++ drop (j + s) xs)) (zero-mul s) ∙ ap (λ (j : ℕ). first_chunks s (suc k) (b ++ drop j xs)) (zero-add s) ∙ cut s k b (drop s xs) long
chunk_set {X = X} s (suc k) (suc n) xs b le long size =
    let more : s + n * s ≡ suc n * s = omega (arith, suc-mul n s) in
    let all : length xs ≡ k * s + s = size ∙ suc-mul k s in
    let rest : List X = drop s xs in
    let front : take (suc n * s) xs ≡ take s xs ++ take (n * s) rest = ap (λ (j : ℕ). take j xs) (sym more) ∙ take-add s (n * s) xs in
    let back : drop (suc n * s + s) xs ≡ drop (n * s + s) rest = ap (λ (j : ℕ). drop j xs) (omega (arith, more)) ∙ sym (drop-drop (n * s + s) s xs) in
    let whole : take (suc n * s) xs ++ b ++ drop (suc n * s + s) xs ≡ take s xs ++ (take (n * s) rest ++ b ++ drop (n * s + s) rest) = rw (front, back) (simp append_assoc) in
    ap (first_chunks s (suc k)) whole ∙ cut s k (take s xs) (take (n * s) rest ++ b ++ drop (n * s + s) rest) (omega (arith, length-take s xs, all))
    ∙ ap (λ (r : List (List X)). take s xs ∷ r) (chunk_set s k n rest b (omega (arith, le)) long (length-drop s xs ∙ omega (arith, all)))

pub chunks_replicate : {X : Type 0} (s k : ℕ) (x : X) → first_chunks s k (replicate (k * s) x) ≡ replicate k (replicate s x)
chunks_replicate s zero x = refl
chunks_replicate {X = X} s (suc k) x =
    let size : suc k * s ≡ k * s + s = suc-mul k s in
    let head : take s (replicate (suc k * s) x) ≡ replicate s x = take-replicate s (suc k * s) x (omega (arith, size)) in
    let rest : drop s (replicate (suc k * s) x) ≡ replicate (k * s) x = drop-replicate s (suc k * s) x ∙ ap (λ (j : ℕ). replicate j x) (omega (arith, size)) in
    ap (λ (c : List X). c ∷ first_chunks s k (drop s (replicate (suc k * s) x))) head ∙ ap (λ (r : List X). replicate s x ∷ first_chunks s k r) rest ∙ ap (λ (r : List (List X)). replicate s x ∷ r) (chunks_replicate s k x)

-- blocks of bytes
pub chunks_are_blocks : (count : ℕ) (bytes : List ℕ) → AreBytes count bytes → AreBlocks (first_chunks 512 count bytes)
chunks_are_blocks count bytes are = λ n le.
    let below : n < count = omega (arith, le, length_chunks 512 count bytes) in
    let past : (n + 1) * 512 ≤ count * 512 = mul-le-mul_right 512 (omega (arith, below)) in
    let room : 512 ≤ length (drop (n * 512) bytes) = omega (arith, length-drop (n * 512) bytes, are.size, past) in
    let P : List ℕ → Type 0 = IsBlock in
    subst P (sym (chunk_at 512 count n bytes below)) (record {
      long = length-take-le 512 (drop (n * 512) bytes) room;
      bytes = λ k. elim (cases_lt k 512) [
        | inl within ↦ rw (get_or-take 512 (drop (n * 512) bytes) k 0 within, get_or-drop (n * 512) bytes k 0) (are.each (n * 512 + k))
        | inr past_it ↦ rw (get_or_past (take 512 (drop (n * 512) bytes)) k 0 (omega (arith, past_it, length-take-le 512 (drop (n * 512) bytes) room))) (omega arith)
      ];
    })

-- what the store says of its chunks
pub ruleset chunk_laws = (length_chunks, chunk_at, chunk_set, chunks_are_blocks)
