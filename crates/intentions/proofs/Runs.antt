-- Runs of blocks of one map, in a list and in memory: a crash leaves all of their changes or none.
use Rattle.std.proofs.Common.{◌≡◌, inl, inr, ℕ, ◌+◌, ◌/◌, ◌<◌, ◌≤◌, zero, suc, Bool, true, false, List, [], ◌∷◌, ◌++◌, length, get_or, set, take, drop, Some, refl, sym, ◌∙◌, ap, subst, arith, cond, add-one, drop-cons}
use Rattle.std.specs.Prelude.{◌==◌}
use Rattle.std.specs.List.{All}
use Rattle.std.proofs.lemmas.Bool.{cases_Bool, cases_lt, eq-eqb}
use Rattle.std.proofs.lemmas.List.{get_or_past, set-get_or, set-set, take_more}
use Rattle.std.proofs.lemmas.List.Elements.{All-head, All-more, All-nil, All-tail}
use Rattle.cyl_alloc.specs.Space.{HasMoreFree}
use Rattle.cyl_alloc.proofs.Counted.{cylinder-most}
use Rattle.cyl_alloc.proofs.Given.{as_many_free, none_more, one_more_free}
use Rattle.cyl_map.specs.Map.{SpellsMap, is_free}
use Rattle.cyl_map.proofs.Mapped.{mapped_as, mapped_none}
use Rattle.cyl_map.proofs.Maps.{length-map_spelling}
use Rattle.cyl_map.specs.Mapped.{IsMapped}
use Rattle.intentions.proofs.Turned.{not_only, turns_then}
use Rattle.intentions.proofs.Words.{Image, IsEntry, MapEntry, block_at, entries_of, entry_in, get_or-set_same, length-entries_of, map_of, same_or_not, with_entry}
use Rattle.intentions.specs.Entries.{changed_entry}
use Rattle.intentions.specs.Runs.{FlipsFirst, IsFirst, KeepsFree, how_of, is_freed, runs, runs_after}
use Rattle.intentions.specs.Turned.{changed_if, turned}
use Rattle.ufs_model.specs.Numbers.{has_number}
use Rattle.intentions.specs.declared.change.EntryChange.{EntryChange}
use Rattle.intentions.specs.declared.run.Rule.{Rule}

-- ---- how many runs there are

abbrev one_unless : Bool → ℕ
one_unless b = cond b 0 1

same_cylinder : (c : ℕ) → one_unless (c == c) ≡ 0
same_cylinder c = ap one_unless (eq-eqb c c refl)

-- those from the first block on are one more than those after it
pub runs_begin : (n : ℕ) (ns : List ℕ) → IsFirst n ns → runs ns ≡ 1 + runs_after (n / 64) ns
runs_begin n [] is = absurd is
runs_begin n (m ∷ ms) is = subst (λ (k : ℕ). 1 + runs_after (m / 64) ms ≡ 1 + (one_unless (m / 64 == k / 64) + runs_after (m / 64) ms)) is (omega (arith, same_cylinder (m / 64)))

-- one block more of the cylinder
pub runs_on : (c m i : ℕ) (ns : List ℕ) → i < length ns → m ≡ get_or ns i 0 → m / 64 ≡ c → runs_after c (drop (i + 1) ns) ≡ runs_after c (drop i ns)
runs_on c m i ns below is same =
    sym (ap (runs_after c) (drop-cons ns i 0 below ∙ ap (λ (k : ℕ). get_or ns i 0 ∷ drop k ns) (sym (add-one i)))
    ∙ ap (λ (k : ℕ). one_unless (k / 64 == c) + runs_after (k / 64) (drop (i + 1) ns)) (sym is)
    ∙ ap (λ (k : ℕ). one_unless (k == c) + runs_after k (drop (i + 1) ns)) same
    ∙ omega (arith, same_cylinder c))

runs_after_most : (c : ℕ) (ns : List ℕ) → runs_after c ns ≤ length ns
runs_after_most c [] = omega arith
runs_after_most c (n ∷ ns) = at (n / 64 == c) (runs_after_most (n / 64) ns)
  where
    at : (b : Bool) → runs_after (n / 64) ns ≤ length ns → one_unless b + runs_after (n / 64) ns ≤ suc (length ns)
    at true most = omega (arith, most)
    at false most = omega (arith, most)

pub runs_most : (ns : List ℕ) → runs ns ≤ length ns
runs_most [] = omega arith
runs_most (n ∷ ns) = omega (arith, runs_after_most (n / 64) ns)

one_after : (c : ℕ) (ns : List ℕ) → All (λ n. n / 64 ≡ c) ns → runs_after c ns ≡ 0
one_after c [] all = refl
one_after c (n ∷ ns) all =
    ap (λ (k : ℕ). one_unless (k == c) + runs_after k ns) (All-head (λ m. m / 64 ≡ c) n ns all)
    ∙ omega (arith, same_cylinder c, one_after c ns (All-tail (λ m. m / 64 ≡ c) n ns all))

pub one_run : (c : ℕ) (ns : List ℕ) → All (λ n. n / 64 ≡ c) ns → runs ns ≤ 1
one_run c [] all = omega arith
one_run c (n ∷ ns) all = omega (arith, ap (λ (k : ℕ). runs_after k ns) (All-head (λ m. m / 64 ≡ c) n ns all), one_after c ns (All-tail (λ m. m / 64 ≡ c) n ns all))

pub first_is : (ns : List ℕ) → 0 < length ns → IsFirst (get_or ns 0 0) ns
first_is [] some = absurd (omega arith)
first_is (m ∷ ms) some = refl

pub first_rest : (n : ℕ) (ns : List ℕ) → IsFirst n ns → (ms : List ℕ) × (ns ≡ n ∷ ms)
first_rest n [] is = absurd is
first_rest n (m ∷ ms) is = (ms, ap (λ (k : ℕ). k ∷ ms) is)

-- a run has a block
pub run_some : (i : ℕ) (ns : List ℕ) → 1 + runs (drop i ns) ≡ runs ns → 0 < i
run_some zero ns is = absurd (omega (arith, is))
run_some (suc i) ns is = omega arith

-- ---- in memory

-- a map that was read lies in its image
pub spelled_within : (image : Image) (m : ℕ) (bytes : List ℕ) → SpellsMap bytes → block_at image m ≡ bytes → m < length image
spelled_within image m bytes spells same = elim (cases_lt m (length image)) [
  | inl below ↦ below
  | inr past ↦ absurd (omega (arith, ap length (spells.spelled ∙ refl), length-map_spelling (entries_of bytes), length-entries_of bytes, ap length same, ap length (get_or_past image m [] past)))
]

pub flips_none : (rule : Rule) (n : ℕ) (ns bytes : List ℕ) → SpellsMap bytes → FlipsFirst rule n 0 0 ns bytes bytes
flips_none rule n ns bytes spells = record {
  within = omega arith;
  here = All-nil (λ m. map_of m ≡ map_of n);
  spells = spells;
  changed = λ image same. subst (IsMapped (turned (how_of rule) []) image) (sym (stays image same)) (mapped_none (turned (how_of rule) []) image (λ m e here. refl));
  free = λ free image same. subst (HasMoreFree image n 0) (sym (stays image same)) (none_more image n);
}
  where
    stays : (image : Image) → block_at image (map_of n) ≡ bytes → set image (map_of n) bytes ≡ image
    stays image same = ap (set image (map_of n)) (sym same) ∙ set-get_or image (map_of n) []

module _ (rule : Rule) (n i freed : ℕ) (ns was mid now : List ℕ) (begun : SpellsMap was) (has : FlipsFirst rule n i freed ns was mid) (below : i < length ns) (m : ℕ) (is : m ≡ get_or ns i 0) (here : m / 64 ≡ n / 64) (spells : SpellsMap now) where
  here_map : map_of m ≡ map_of n
  here_map = omega (arith, here)

  more : take (i + 1) ns ≡ take i ns ++ (m ∷ [])
  more = take_more ns i 0 below ∙ ap (λ (k : ℕ). take i ns ++ (k ∷ [])) (sym is)

  -- one block more
  pub flips_more : (given : ℕ) → ((image : Image) → block_at image (map_of m) ≡ mid → IsMapped (turned (λ k. how_of rule m) (m ∷ [])) image (set image (map_of m) now))
      → (KeepsFree (how_of rule m) → (image other : Image) → block_at other (map_of m) ≡ mid → HasMoreFree image n freed other → HasMoreFree image n given (set other (map_of m) now))
      → FlipsFirst rule n (i + 1) given ns was now
  flips_more given change free = record {
    within = omega (arith, below);
    here = All-more (λ k. map_of k ≡ map_of n) ns i 0 below has.here (subst (λ (k : ℕ). map_of k ≡ map_of n) is here_map);
    spells = spells;
    changed = λ image same. subst (λ (l : List ℕ). IsMapped (turned (how_of rule) l) image (set image (map_of n) now)) (sym more)
        (subst (IsMapped (turned (how_of rule) (take i ns ++ (m ∷ []))) image) (twice image)
        (turns_then (how_of rule) (take i ns) (m ∷ []) image (half image) (set (half image) (map_of m) now) (has.changed image same)
        (mapped_as _ _ (half image) (set (half image) (map_of m) now) (change (half image) (at image same)) (λ k e there. alone k e))));
    free = λ stays image same. subst (HasMoreFree image n given) (twice image) (free (stays m) image (half image) (at image same) (has.free stays image same));
  }
    where
      half : Image → Image
      half image = set image (map_of n) mid

      at : (image : Image) → block_at image (map_of n) ≡ was → block_at (set image (map_of n) mid) (map_of m) ≡ mid
      at image same = ap (block_at (set image (map_of n) mid)) here_map ∙ get_or-set_same image (map_of n) mid [] (spelled_within image (map_of n) was begun same)

      twice : (image : Image) → set (set image (map_of n) mid) (map_of m) now ≡ set image (map_of n) now
      twice image = ap (λ (k : ℕ). set (set image (map_of n) mid) k now) here_map ∙ set-set image (map_of n) mid now

      alone : (k : ℕ) (e : MapEntry) → turned (λ j. how_of rule m) (m ∷ []) k e ≡ turned (how_of rule) (m ∷ []) k e
      alone k e = elim (same_or_not k m) [
        | inl same ↦ ap (λ (j : ℕ). changed_if (has_number k (m ∷ [])) (how_of rule j) e) (sym same)
        | inr other ↦ (λ i. changed_if (not_only m k other i) (how_of rule m) e) ∙ sym (λ i. changed_if (not_only m k other i) (how_of rule k) e)
      ]

-- Of an entry that is changed where a Free one stays so, the block became Free or it stayed as it was.
module _ (image other : Image) (n count b : ℕ) (how : EntryChange) (stays : KeepsFree how) (e now : MapEntry) (valid : IsEntry now) (value : now ≡ changed_entry how e) (same : map_of b ≡ map_of n) (here : entry_in other b ≡ Some e) (has : HasMoreFree image n count other) where
  freed_now : (k : ℕ) → k ≡ count + cond (is_freed e now) 1 0 → HasMoreFree image n k (with_entry other b now)
  freed_now k is = elim (cases_Bool (is_freed e now)) [
    | inl freed ↦
        let held : is_free e ≡ false = elim (cases_Bool (is_free e)) [
          | inl free ↦ (let no : false ≡ true = sym (ap (λ (b : Bool). cond b false (is_free now)) free) ∙ freed in cc)
          | inr held ↦ held
        ] in
        subst (λ (j : ℕ). HasMoreFree image n j (with_entry other b now)) (omega (arith, is, ap {B = ℕ} (λ (b : Bool). cond b 1 0) freed))
        (one_more_free image other n count b e now has same here valid held (sym (ap (λ (b : Bool). cond b false (is_free now)) held) ∙ freed))
    | inr stood ↦
        let alike : is_free now ≡ is_free e = elim (cases_Bool (is_free e)) [
          | inl free ↦ ap is_free value ∙ stays e free ∙ sym free
          | inr held ↦ sym (ap (λ (b : Bool). cond b false (is_free now)) held) ∙ stood ∙ sym held
        ] in
        subst (λ (j : ℕ). HasMoreFree image n j (with_entry other b now)) (omega (arith, is, ap {B = ℕ} (λ (b : Bool). cond b 1 0) stood))
        (as_many_free image other n count b e now has same here valid alike)
  ]

  pub freed_in : HasMoreFree image n (count + cond (is_freed e now) 1 0) (with_entry other b now)
  freed_in = freed_now (count + cond (is_freed e now) 1 0) refl

-- a cylinder has no more than 64 blocks that become Free
pub few_freed : (image other : Image) (n count : ℕ) → HasMoreFree image n count other → count ≤ 64
few_freed image other n count has = omega (arith, has.more, cylinder-most other (n / 64))
