-- One cylinder after another is tidied, and counted.
use Rattle.std.proofs.Common.{◌≡◌, ◌≢◌, ◌⊎◌, inl, inr, ℕ, zero, suc, ◌+◌, ◌*◌, ◌/◌, ◌%◌, ◌<◌, ◌≤◌, min, Bool, List, [], length, get_or, set, replicate, Some, refl, sym, ◌∙◌, ap, subst, arith, get_or-set_same, get_or-set_other, length-set}
use Rattle.cfs_recover.proofs.Words.{AreMapsOf, AreTidied, HasTidied, Image, IsMapIn, IsTidiedMap, Kept, MapEntry, after_giving, block_at, cases_lt, one_if_changed, changed_maps, count_by-le-length, free_entries, get_or-replicate, get_or_from_slice_get, get_or_past, is_free, length-replicate, map_spelling, slice_get, slice_get-get_or}
use Rattle.cfs_recover.proofs.InMemory.{entry_is}

-- ---- maps in memory

pub the_map : (maps : List (List MapEntry)) (n : ℕ) (map other : List MapEntry) → n < length maps → map ≡ get_or maps n other → get_or maps n [] ≡ map
the_map maps n map other inside is = get_or_from_slice_get maps n map [] (slice_get-get_or maps n other inside ∙ ap Some (sym is))

pub map_in : (a : Image) (maps : List (List MapEntry)) → AreMapsOf a maps → (k : ℕ) → k < length maps → IsMapIn a k (get_or maps k [])
map_in a maps are k less = record {
  entries = λ j small.
      let quotient : (64 * k + j) / 64 ≡ k = omega (arith, small) in
      let rest : (64 * k + j) % 64 ≡ j = omega (arith, small) in
      entry_is a maps are (64 * k + j) (omega (arith, are.size, less, small)) ∙ (λ i. slice_get (get_or maps (quotient i) []) (rest i));
  whole = are.map k less;
}

-- ---- what is written

module _ (old new : Image) (cylinder : ℕ) (map tidy : List MapEntry)
    (wrote : (new ≡ set old (64 * cylinder) (map_spelling tidy)) ⊎ ((new ≡ old) × (map_spelling tidy ≡ map_spelling map))) where
  pub written_here : 64 * cylinder < length old → block_at old (64 * cylinder) ≡ map_spelling map → block_at new (64 * cylinder) ≡ map_spelling tidy
  written_here inside was = elim wrote [
    | inl put ↦ ap (λ (i : Image). block_at i (64 * cylinder)) put ∙ get_or-set_same old (64 * cylinder) (map_spelling tidy) [] inside
    | inr same ↦ ap (λ (i : Image). block_at i (64 * cylinder)) same.0 ∙ was ∙ sym same.1
  ]

  pub written_others : (n : ℕ) → n ≢ 64 * cylinder → block_at new n ≡ block_at old n
  written_others n other = elim wrote [
    | inl put ↦ ap (λ (i : Image). block_at i n) put ∙ get_or-set_other old (64 * cylinder) n (map_spelling tidy) [] other
    | inr same ↦ ap (λ (i : Image). block_at i n) same.0
  ]

-- ---- the maps that change

pub changed_same : (a b c : Image) (n : ℕ) → ((k : ℕ) → k < n → block_at c (64 * k) ≡ block_at b (64 * k)) → changed_maps a c n ≡ changed_maps a b n
unfolding changed_maps
changed_same a b c zero same = refl
changed_same a b c (suc n) same = (λ i. changed_same a b c n (λ k less. same k (omega (arith, less))) i + one_if_changed (block_at a (64 * n)) (same n (omega arith) i))

-- one cylinder more, of which the map was as it had been
pub changed_more : (a old new : Image) (n tries most : ℕ) → block_at old (64 * n) ≡ block_at a (64 * n) → ((k : ℕ) → k ≢ 64 * n → block_at new k ≡ block_at old k)
    → tries ≤ most + changed_maps a old n + one_if_changed (block_at old (64 * n)) (block_at new (64 * n)) → tries ≤ most + changed_maps a new (n + 1)
unfolding changed_maps
changed_more a old new n tries most was others le =
    let before = changed_same a old new n (λ k less. others (64 * k) (λ same. absurd (omega (arith, same, less)))) in
    let here = ap (λ (b : List ℕ). one_if_changed b (block_at new (64 * n))) was in
    let next : n + 1 ≡ suc n = omega arith in
    let more : changed_maps a new (n + 1) ≡ changed_maps a new n + one_if_changed (block_at a (64 * n)) (block_at new (64 * n)) = ap (changed_maps a new) next in
    omega (arith, le, before, here, more)

-- ---- what is counted

pub free_most : (held : List Bool) (cylinder : ℕ) (map tidy : List MapEntry) → IsTidiedMap cylinder map held tidy → free_entries tidy ≤ 64
free_most held cylinder map tidy is = omega (arith, count_by-le-length is_free tidy, is.whole.long)

module _ (old new : Kept) (cylinder count : ℕ) (gave : new ≡ after_giving old (64 * cylinder) count) where
  at : 64 * cylinder / 64 ≡ cylinder
  at = omega arith

  given : new.free ≡ set old.free cylinder (min 64 (get_or old.free cylinder 0 + count))
  given = ap (λ (kept : Kept). kept.free) gave ∙ ap (λ (n : ℕ). set old.free n (min 64 (get_or old.free n 0 + count))) at

  pub given_here : cylinder < length old.free → get_or old.free cylinder 0 ≡ 0 → count ≤ 64 → get_or new.free cylinder 0 ≡ count
  given_here inside none most =
      ap (λ (free : List ℕ). get_or free cylinder 0) given ∙ get_or-set_same old.free cylinder (min 64 (get_or old.free cylinder 0 + count)) 0 inside ∙ omega (arith, none, most)

  pub given_others : (k : ℕ) → k ≢ cylinder → get_or new.free k 0 ≡ get_or old.free k 0
  given_others k other = ap (λ (free : List ℕ). get_or free k 0) given ∙ get_or-set_other old.free cylinder k (min 64 (get_or old.free cylinder 0 + count)) 0 other

  pub given_size : length new.free ≡ length old.free
  given_size = ap length given ∙ length-set old.free cylinder (min 64 (get_or old.free cylinder 0 + count))

pub none_counted : (n k : ℕ) (free : List ℕ) → free ≡ replicate n 0 → get_or free k 0 ≡ 0
none_counted n k free is = ap (λ (xs : List ℕ). get_or xs k 0) is ∙ elim (cases_lt k n) [
  | inl less ↦ get_or-replicate n k 0 0 less
  | inr past ↦ get_or_past (replicate n 0) k 0 (omega (arith, past, length-replicate {A = ℕ} n 0))
]

pub none_size : (n : ℕ) (free : List ℕ) → free ≡ replicate n 0 → length free ≡ n
none_size n free is = ap length is ∙ length-replicate {A = ℕ} n 0

-- ---- one cylinder more

pub tidied_more : (old new : Image) (maps : List (List MapEntry)) (held : List Bool) (free more : List ℕ) (done : ℕ) → AreTidied old maps held free done
    → ((n : ℕ) → n ≢ 64 * done → block_at new n ≡ block_at old n) → ((k : ℕ) → k ≢ done → get_or more k 0 ≡ get_or free k 0)
    → HasTidied new done (get_or maps done []) held (get_or more done 0) → AreTidied new maps held more (done + 1)
tidied_more old new maps held free more done before others counts last k less = elim (cases_lt k done) [
  | inl lower ↦
      let was = before k lower in
      record {
        tidy = was.tidy;
        tidied = was.tidied;
        spelled = others (64 * k) (λ same. absurd (omega (arith, same, lower))) ∙ was.spelled;
        free = counts k (λ same. absurd (omega (arith, same, lower))) ∙ was.free;
      }
  | inr same ↦
      let here : done ≡ k = omega arith in
      subst (λ (n : ℕ). HasTidied new n (get_or maps n []) held (get_or more n 0)) here last
]
