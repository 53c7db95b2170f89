-- What the slots of a leaf hold: told by its bytes, and by the object.
use Rattle.std.proofs.Common.{◌≡◌, ℕ, zero, suc, ◌+◌, ◌*◌, ◌<◌, ◌≤◌, refl, sym, ap, ◌∙◌, arith, inl, inr, List, [], ◌∷◌, ◌++◌, length, get_or, take, drop, replicate, Option, Some, None, map}
use Rattle.collector_steps.proofs.Words.{Held, Puid, cases_lt, cons_option, filter_map, flat_map, get_or-append-add, get_or-drop, get_or-map-range_with_len, get_or-take, get_or_append_left, get_or_past, ids_from, leaf_content, leaves_content, length-append, length-map-range_with_len, length-replicate, length-take, number_at, range_with_len, slot_in}

-- ---- a slot as it is read

-- ---- slots with the same bytes

-- from these places on the lists have the same bytes, so many of them
abbrev Alike : List ℕ → ℕ → List ℕ → ℕ → ℕ → Type 0
Alike xs i ys j count = (b : ℕ) → b < count → get_or xs (i + b) 0 ≡ get_or ys (j + b) 0

same_number : (xs ys : List ℕ) (m n : ℕ) → Alike xs (4 * m) ys (4 * n) 4 → number_at xs m ≡ number_at ys n
same_number xs ys m n same = rw (at 0 (omega arith), at 1 (omega arith), at 2 (omega arith), at 3 (omega arith)) refl
  where
    at : (b : ℕ) → b < 4 → get_or (take 4 (drop (4 * m) xs)) b 0 ≡ get_or (take 4 (drop (4 * n) ys)) b 0
    at b less =
        get_or-take 4 (drop (4 * m) xs) b 0 less ∙ get_or-drop (4 * m) xs b 0 ∙ same b less
        ∙ sym (get_or-take 4 (drop (4 * n) ys) b 0 less ∙ get_or-drop (4 * n) ys b 0)

same_slot : (xs ys : List ℕ) (s k : ℕ) → Alike xs (8 * s) ys (8 * k) 8 → slot_in xs s ≡ slot_in ys k
same_slot xs ys s k same = rw (number 0 (2 * s) (2 * k) (omega arith) (omega arith) (omega arith), number 1 (2 * s + 1) (2 * k + 1) (omega arith) (omega arith) (omega arith)) refl
  where
    number : (e m n : ℕ) → e < 2 → m ≡ 2 * s + e → n ≡ 2 * k + e → number_at xs m ≡ number_at ys n
    number e m n less left right = same_number xs ys m n (λ b below.
        let i : 8 * s + (4 * e + b) ≡ 4 * m + b = omega (arith, left) in
        let j : 8 * k + (4 * e + b) ≡ 4 * n + b = omega (arith, right) in
        ap (λ (at : ℕ). get_or xs at 0) (sym i) ∙ same (4 * e + b) (omega (arith, less, below)) ∙ ap (λ (at : ℕ). get_or ys at 0) j)

-- a slot of zero bytes is empty
empty_slot : (xs : List ℕ) (s : ℕ) → ((b : ℕ) → b < 8 → get_or xs (8 * s + b) 0 ≡ 0) → slot_in xs s ≡ None
empty_slot xs s zero_bytes = same_slot xs [] s 0 zero_bytes

-- ---- leaves one after another

-- a byte of one of them
byte_in : (F : ℕ → List ℕ) → ((n : ℕ) → length (F n) ≡ 512) → (a count l j : ℕ) → l < count → j < 512 → get_or (flat_map F (range_with_len a count)) (512 * l + j) 0 ≡ get_or (F (a + l)) j 0
byte_in F each a zero l j less below = absurd (omega (arith, less))
byte_in F each a (suc count) zero j less below =
    let at : 512 * 0 + j ≡ j = omega arith in
    let here : a + 0 ≡ a = omega arith in
    rw (at, here) (get_or_append_left (F a) (flat_map F (range_with_len (a + 1) count)) 0 j (omega (arith, each a, below)))
byte_in F each a (suc count) (suc l) j less below =
    let at : 512 * suc l + j ≡ length (F a) + (512 * l + j) = omega (arith, each a) in
    let next : a + 1 + l ≡ a + suc l = omega arith in
    ap (λ (i : ℕ). get_or (F a ++ flat_map F (range_with_len (a + 1) count)) i 0) at
    ∙ get_or-append-add (F a) (flat_map F (range_with_len (a + 1) count)) (512 * l + j) 0
    ∙ byte_in F each (a + 1) count l j (omega (arith, less)) below
    ∙ ap (λ (n : ℕ). get_or (F n) j 0) next

length-leaf : (fill : ℕ) (held : Option Held) → length (leaf_content fill held) ≡ 512
length-leaf fill None = length-replicate 512 fill
length-leaf fill (Some h) = length-take 512 (h.content ++ replicate 512 fill) ∙ (let long = length-append h.content (replicate 512 fill) in omega (arith, long, length-replicate {A = ℕ} 512 fill))

-- ---- the identifiers of a leaf

-- lists that hold the same at each place, past their ends nothing, have the same identifiers
same_ids : (xs ys : List (Option Puid)) → ((k : ℕ) → get_or xs k None ≡ get_or ys k None) → filter_map (λ held. held) xs ≡ filter_map (λ held. held) ys
same_ids [] [] same = refl
same_ids [] (y ∷ ys) same = rw (sym (same 0)) (same_ids [] ys (λ k. same (suc k)))
same_ids (x ∷ xs) [] same = rw (same 0) (same_ids xs [] (λ k. same (suc k)))
same_ids (x ∷ xs) (y ∷ ys) same = rw (same 0) (ap (cons_option y) (same_ids xs ys (λ k. same (suc k))))

-- So many slots lie in so many leaves. Those of one leaf are those of its bytes, where the bytes past the last slot are 0.
module _ (fill : ℕ) (leaf : ℕ → Option Held) (leaves slots l : ℕ) (inside : l < leaves) (few : slots ≤ 64 * leaves) (filled : (b : ℕ) → b < 512 → 8 * slots ≤ 512 * l + b → get_or (leaf_content fill (leaf l)) b 0 ≡ 0) where
  abbrev bytes : List ℕ
  bytes = leaves_content fill leaf (range_with_len 0 leaves)

  abbrev content : List ℕ
  content = leaf_content fill (leaf l)

  slot_at : (k : ℕ) → k < 64 → get_or (map (slot_in bytes) (range_with_len 0 slots)) (64 * l + k) None ≡ slot_in content k
  slot_at k below = elim (cases_lt (64 * l + k) slots) [
    | inl less ↦
        get_or-map-range_with_len (slot_in bytes) 0 slots (64 * l + k) (64 * l + k) None less (omega arith)
        ∙ same_slot bytes content (64 * l + k) k (λ b few.
        let at : 8 * (64 * l + k) + b ≡ 512 * l + (8 * k + b) = omega arith in
        ap (λ (i : ℕ). get_or bytes i 0) at ∙ byte_in (λ n. leaf_content fill (leaf n)) (λ n. length-leaf fill (leaf n)) 0 leaves l (8 * k + b) inside (omega (arith, below, few)) ∙ ap (λ (n : ℕ). get_or (leaf_content fill (leaf n)) (8 * k + b) 0) (omega arith))
    | inr past ↦
        get_or_past (map (slot_in bytes) (range_with_len 0 slots)) (64 * l + k) None (omega (arith, past, length-map-range_with_len (slot_in bytes) 0 slots))
        ∙ sym (empty_slot content k (λ b few. filled (8 * k + b) (omega (arith, below, few)) (omega (arith, past))))
  ]

  pub ids_of_leaf : filter_map (λ held. held) (take 64 (drop (64 * l) (map (slot_in bytes) (range_with_len 0 slots)))) ≡ ids_from content 0
  unfolding ids_from
  ids_of_leaf = same_ids (take 64 (drop (64 * l) all)) (map (slot_in content) (range_with_len 0 64)) (λ k. elim (cases_lt k 64) [
    | inl less ↦
        get_or-take 64 (drop (64 * l) all) k None less ∙ get_or-drop (64 * l) all k None ∙ slot_at k less
        ∙ sym (get_or-map-range_with_len (slot_in content) 0 64 k k None less (omega arith))
    | inr past ↦
        get_or_past (take 64 (drop (64 * l) all)) k None (omega (arith, past, length-take 64 (drop (64 * l) all)))
        ∙ sym (get_or_past (map (slot_in content) (range_with_len 0 64)) k None (omega (arith, past, length-map-range_with_len (slot_in content) 0 64)))
  ])
    where
      all : List (Option Puid)
      all = map (slot_in bytes) (range_with_len 0 slots)
