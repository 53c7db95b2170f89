-- A root block part by part: where one part is the first that goes wrong, the block goes wrong there.
use Rattle.std.proofs.Common.{◌≡◌, ◌≢◌, ℕ, ◌+◌, ◌<◌, ◌≤◌, ◌^◌, List, [], ◌∷◌, ◌++◌, length, take, drop, replicate, get_or, refl, sym, ◌∙◌, ap, subst, arith}
use Rattle.block_tree.proofs.Words.{All, All-replicate, Index, IsFill, IsFirstMisspelt, IsFirstBadByte, IsGoodRoot, IsRootBlock, IsSize, Kind, Normal, Root, Special, drop-take, get_or-drop, get_or-replicate, get_or-take, kind_code, numbers_spelling, root_spelling, take-add, take-append-drop, take-replicate, take-take, take_more, to_be_bytes, w32, w64, node_pointers}
use Rattle.std.proofs.lemmas.List.{length-drop}

-- ---- parts

-- A part of m bytes from place n on, whose good values have this spelling. Each root that begins as the block does has a good value there, and
-- each good value is that of such a root.
record IsPart {X : Type 0} (IsGood : X → Type 0) (spelling : X → List ℕ) (n m : ℕ) (block : List ℕ) : Type 0 where
  pub of : (root : Root) → IsGoodRoot root → take n (root_spelling root) ≡ take n block → (x : X) × IsGood x × (take m (drop n (root_spelling root)) ≡ spelling x)
  pub made : (x : X) → IsGood x → (root : Root) × IsGoodRoot root × (take n (root_spelling root) ≡ take n block) × (take m (drop n (root_spelling root)) ≡ spelling x)

-- equal beginnings, and equal beginnings of what follows
joined : (n j : ℕ) (xs ys : List ℕ) → take n xs ≡ take n ys → take j (drop n xs) ≡ take j (drop n ys) → take (n + j) xs ≡ take (n + j) ys
joined n j xs ys front rest = let a = take-add n j xs in let b = take-add n j ys in cc

parted : (n j m : ℕ) (xs ys : List ℕ) → j ≤ m → take (n + j) xs ≡ take (n + j) ys → take j (take m (drop n xs)) ≡ take j (take m (drop n ys))
parted n j m xs ys le e = take-take j m (drop n xs) le ∙ sym (drop-take n j xs) ∙ ap (drop n) e ∙ drop-take n j ys ∙ sym (take-take j m (drop n ys) le)

part_bad : {X : Type 0} (IsGood : X → Type 0) (spelling : X → List ℕ) (n m : ℕ) (block : List ℕ) → IsPart IsGood spelling n m block
    → (j : ℕ) → j < m → IsFirstMisspelt IsGood spelling (take m (drop n block)) j → IsFirstBadByte block (n + j)
part_bad {X} IsGood spelling n m block part j below bad = record { before = before; here = here }
  where
    before : (root : Root) × IsGoodRoot root × (take (n + j) (root_spelling root) ≡ take (n + j) block)
    before =
        let made = part.made bad.before.0 bad.before.1 in
        let rest : take j (drop n (root_spelling made.0)) ≡ take j (drop n block) =
        sym (take-take j m (drop n (root_spelling made.0)) (omega arith)) ∙ ap (take j) made.3 ∙ bad.before.2 ∙ take-take j m (drop n block) (omega arith) in
        (made.0, made.1, joined n j (root_spelling made.0) block made.2 rest)

    here : (root : Root) → IsGoodRoot root → take (n + j + 1) (root_spelling root) ≢ take (n + j + 1) block
    here root good e =
        let front : take n (root_spelling root) ≡ take n block =
        sym (take-take n (n + j + 1) (root_spelling root) (omega arith)) ∙ ap (take n) e ∙ take-take n (n + j + 1) block (omega arith) in
        let of = part.of root good front in
        let longer : take (n + (j + 1)) (root_spelling root) ≡ take (n + (j + 1)) block = subst (λ (k : ℕ). take k (root_spelling root) ≡ take k block) (omega arith) e in
        bad.here of.0 of.1 (ap (take (j + 1)) (sym of.2) ∙ parted n (j + 1) m (root_spelling root) block (omega arith) longer)

-- ---- roots that begin as the block does

blank : Kind → ℕ → ℕ → ℕ → Root
blank kind fill word size = record { kind = kind; fill = fill; word = word; size = size; nodes = replicate node_pointers.count 0 }

blank_good : (kind : Kind) (fill word size : ℕ) → fill < 2 ^ 8 → word < 2 ^ 32 → IsFill kind fill → IsSize kind size → IsGoodRoot (blank kind fill word size)
unfolding blank
blank_good kind fill word size f w is_fill is_size =
    (record { fill = f; word = w; count = refl; nodes = All-replicate (λ n. n < 2 ^ 32) node_pointers.count 0 (omega arith) }, record { fill = is_fill; size = is_size })

one_slot : (kind : Kind) → IsSize kind 8
one_slot kind = record { limit = omega arith; slots = λ e. (omega arith, refl) }

pub same_kind : (a b : Kind) → kind_code a ≡ kind_code b → a ≡ b
same_kind Normal Normal e = refl
same_kind Normal Special e = absurd (omega arith)
same_kind Normal Index e = absurd (omega arith)
same_kind Special Normal e = absurd (omega arith)
same_kind Special Special e = refl
same_kind Special Index e = absurd (omega arith)
same_kind Index Normal e = absurd (omega arith)
same_kind Index Special e = absurd (omega arith)
same_kind Index Index e = refl

first_of : (xs : List ℕ) → 0 < length xs → take 1 xs ≡ get_or xs 0 0 ∷ []
first_of xs some = take_more xs 0 0 some

next_front : (n m : ℕ) (block xs ys : List ℕ) → take n block ≡ xs → take m (drop n block) ≡ ys → take (n + m) block ≡ xs ++ ys
next_front n m block xs ys front rest = let a = take-add n m block in cc

-- ---- the five parts

pub kind_bad : (block : List ℕ) → 0 < length block → ((kind : Kind) → kind_code kind ≢ get_or block 0 0) → IsFirstBadByte block 0
unfolding blank root_spelling
kind_bad block some none = part_bad (λ (kind : Kind). Unit {0}) (λ kind. kind_code kind ∷ []) 0 1 block
    (record {
      of = λ root good e. (root.kind, tt, refl);
      made = λ kind u. (blank kind 0 0 8, blank_good kind 0 0 8 (omega arith) (omega arith) (λ e. refl) (one_slot kind), refl, refl);
    }) 0 (omega arith)
    (record { before = (Normal, tt, refl); here = λ kind u e. none kind (let first = first_of block some in let two = take-take 1 1 block (omega arith) in cc) })

pub record Begins (block : List ℕ) (kind : Kind) (fill : ℕ) : Type 0 where
  pub front : take 2 block ≡ kind_code kind ∷ fill ∷ []
  pub fits : fill < 2 ^ 8
  pub is_fill : IsFill kind fill

-- the first two bytes
pub begins : (block : List ℕ) (kind : Kind) → 2 ≤ length block → kind_code kind ≡ get_or block 0 0 → get_or block 1 0 < 2 ^ 8 → IsFill kind (get_or block 1 0)
    → Begins block kind (get_or block 1 0)
begins block kind long code fits is_fill = record {
  front = take_more block 1 0 long ∙ ap (λ (l : List ℕ). l ++ get_or block 1 0 ∷ []) (first_of block (omega arith) ∙ ap (λ (n : ℕ). n ∷ []) (sym code));
  fits = fits;
  is_fill = is_fill;
}

pub fill_bad : (block : List ℕ) (kind : Kind) → 2 ≤ length block → kind_code kind ≡ get_or block 0 0 → ¬ IsFill kind (get_or block 1 0) → IsFirstBadByte block 1
unfolding blank root_spelling
fill_bad block kind long code none = part_bad (λ (fill : ℕ). (fill < 2 ^ 8) × IsFill kind fill) (λ fill. fill ∷ []) 1 1 block
    (record {
      of = λ root good e. (root.fill, (good.0.fill, subst (λ (k : Kind). IsFill k root.fill) (same root e) good.1.fill), refl);
      made = λ fill is. (blank kind fill 0 8, blank_good kind fill 0 8 is.0 (omega arith) is.1 (one_slot kind), sym one, refl);
    }) 0 (omega arith)
    (record { before = (0, (omega arith, λ e. refl), refl); here = λ fill is e. none (subst (IsFill kind) (second fill e) is.1) })
  where
    one : take 1 block ≡ kind_code kind ∷ []
    one = first_of block (omega arith) ∙ ap (λ (n : ℕ). n ∷ []) (sym code)

    same : (root : Root) → take 1 (root_spelling root) ≡ take 1 block → root.kind ≡ kind
    same root e = same_kind root.kind kind (let both = e ∙ one in cc)

    second : (fill : ℕ) → take 1 (fill ∷ []) ≡ take 1 (take 1 (drop 1 block)) → fill ≡ get_or block 1 0
    second fill e =
        let first = first_of (drop 1 block) (omega (arith, length-drop 1 block)) in
        let two = take-take 1 1 (drop 1 block) (omega arith) in
        let at = get_or-drop 1 block 0 0 in
        cc

-- zero bytes
zero_part : (m i : ℕ) (xs : List ℕ) → i < m → take i xs ≡ replicate i 0 → get_or xs i 0 ≢ 0 → IsFirstMisspelt (λ (u : Unit {0}). Unit {0}) (λ u. replicate m 0) xs i
zero_part m i xs below zeros other = record {
  before = (tt, tt, take-replicate i m 0 (omega arith) ∙ sym zeros);
  here = λ u is e. other (sym (get_or-take (i + 1) xs i 0 (omega arith)) ∙ ap (λ (l : List ℕ). get_or l i 0) (sym e) ∙ get_or-take (i + 1) (replicate m 0) i 0 (omega arith) ∙ get_or-replicate m i 0 0 below);
}

pub gap_bad : (block : List ℕ) (kind : Kind) (fill i : ℕ) → Begins block kind fill → i < 2 → take i (take 2 (drop 2 block)) ≡ replicate i 0 → get_or (take 2 (drop 2 block)) i 0 ≢ 0
    → IsFirstBadByte block (2 + i)
unfolding blank root_spelling
gap_bad block kind fill i is below zeros other = part_bad (λ (u : Unit {0}). Unit {0}) (λ u. replicate 2 0) 2 2 block
    (record {
      of = λ root good e. (tt, tt, refl);
      made = λ u t. (blank kind fill 0 8, blank_good kind fill 0 8 is.fits (omega arith) is.is_fill (one_slot kind), sym is.front, refl);
    }) i below (zero_part 2 i (take 2 (drop 2 block)) below zeros other)

-- the first eight bytes
pub record BeginsEight (block : List ℕ) (kind : Kind) (fill word : ℕ) : Type 0 where
  pub two : Begins block kind fill
  pub front : take 8 block ≡ kind_code kind ∷ fill ∷ 0 ∷ 0 ∷ to_be_bytes w32 word
  pub fits : word < 2 ^ 32

pub begins_eight : (block : List ℕ) (kind : Kind) (fill word : ℕ) → Begins block kind fill → take 2 (drop 2 block) ≡ replicate 2 0 → take 4 (drop 4 block) ≡ to_be_bytes w32 word → word < 2 ^ 32
    → BeginsEight block kind fill word
begins_eight block kind fill word is zeros word_is fits = record {
  two = is;
  front = next_front 4 4 block (kind_code kind ∷ fill ∷ 0 ∷ 0 ∷ []) (to_be_bytes w32 word) (next_front 2 2 block (kind_code kind ∷ fill ∷ []) (replicate 2 0) is.front zeros) word_is;
  fits = fits;
}

pub size_bad : (block : List ℕ) (kind : Kind) (fill word i : ℕ) → BeginsEight block kind fill word → i < 8 → IsFirstMisspelt (IsSize kind) (to_be_bytes w64) (take 8 (drop 8 block)) i
    → IsFirstBadByte block (8 + i)
unfolding blank root_spelling
size_bad block kind fill word i is below bad = part_bad (IsSize kind) (to_be_bytes w64) 8 8 block
    (record {
      of = λ root good e. (root.size, subst (λ (k : Kind). IsSize k root.size) (same root e) good.1.size, refl);
      made = λ size fits. (blank kind fill word size, blank_good kind fill word size is.two.fits is.fits is.two.is_fill fits, sym is.front, refl);
    }) i below bad
  where
    same : (root : Root) → take 8 (root_spelling root) ≡ take 8 block → root.kind ≡ kind
    same root e = same_kind root.kind kind (let both = e ∙ is.front in cc)

-- the first sixteen bytes
pub record BeginsSixteen (block : List ℕ) (kind : Kind) (fill word size : ℕ) : Type 0 where
  pub eight : BeginsEight block kind fill word
  pub is_size : IsSize kind size
  pub front : take 16 block ≡ kind_code kind ∷ fill ∷ 0 ∷ 0 ∷ (to_be_bytes w32 word ++ to_be_bytes w64 size)

pub begins_sixteen : (block : List ℕ) (kind : Kind) (fill word size : ℕ) → BeginsEight block kind fill word → take 8 (drop 8 block) ≡ to_be_bytes w64 size → IsSize kind size
    → BeginsSixteen block kind fill word size
begins_sixteen block kind fill word size is size_is is_size = record {
  eight = is;
  is_size = is_size;
  front = next_front 8 8 block (kind_code kind ∷ fill ∷ 0 ∷ 0 ∷ to_be_bytes w32 word) (to_be_bytes w64 size) is.front size_is;
}

pub tail_bad : (block : List ℕ) (kind : Kind) (fill word size i : ℕ) → BeginsSixteen block kind fill word size → i < 16
    → take i (take 16 (drop 16 block)) ≡ replicate i 0 → get_or (take 16 (drop 16 block)) i 0 ≢ 0 → IsFirstBadByte block (16 + i)
unfolding blank root_spelling
tail_bad block kind fill word size i is below zeros other = part_bad (λ (u : Unit {0}). Unit {0}) (λ u. replicate 16 0) 16 16 block
    (record {
      of = λ root good e. (tt, tt, refl);
      made = λ u t. (blank kind fill word size, blank_good kind fill word size is.eight.two.fits is.eight.fits is.eight.two.is_fill is.is_size, sym is.front, refl);
    }) i below (zero_part 16 i (take 16 (drop 16 block)) below zeros other)

-- all of them
pub root_block : (block : List ℕ) (root : Root) → length block ≡ 512 → BeginsSixteen block root.kind root.fill root.word root.size → take 16 (drop 16 block) ≡ replicate 16 0
    → numbers_spelling root.nodes ≡ drop 32 block → length root.nodes ≡ node_pointers.count → All (λ n. n < 2 ^ 32) root.nodes → IsRootBlock block root
unfolding root_spelling
root_block block root long is zeros rest count fit = record {
  good = (record { fill = is.eight.two.fits; word = is.eight.fits; count = count; nodes = fit }, record { fill = is.eight.two.is_fill; size = is.is_size });
  spelled = sym (take-append-drop 32 block) ∙ ap (λ (l : List ℕ). l ++ drop 32 block) front ∙ ap (λ (l : List ℕ). take 32 (root_spelling root) ++ l) (sym rest);
}
  where
    front : take 32 block ≡ take 32 (root_spelling root)
    front = next_front 16 16 block (take 16 (root_spelling root)) (replicate 16 0) is.front zeros
