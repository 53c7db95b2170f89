-- Images whose entries were changed, one by one or all at once.
use Rattle.std.proofs.Common.{◌≡◌, ◌≢◌, inl, inr, ⊎_elim, ℕ, ◌+◌, ◌-◌, ◌*◌, ◌%◌, ◌<◌, ◌≤◌, Bool, true, false, cond, List, [], ◌++◌, length, get_or, take, drop, Option, Some, None, refl, sym, ◌∙◌, ap, subst, arith, length-drop}
use Rattle.std.specs.Prelude.{◌==◌}
use Rattle.std.proofs.lemmas.Bool.{eq-eqb, eqb-false, eqb-true, ne_eqb}
use Rattle.std.proofs.lemmas.Option.{same_Some}
use Rattle.std.proofs.lemmas.List.FromFn.{fill_by_all, get_or-map-range_with_len, length-map-range_with_len}
use Rattle.cyl_map.proofs.Entries.{entry_of-spelling, entry_of_spelled, said_by-spelling}
use Rattle.cyl_map.proofs.Maps.{bytes_at-map_spelling, get_or-entries_of, length-entries_of, length-map_spelling, spells_read}
use Rattle.cyl_map.proofs.Volumes.{behind-with_entry, block_at-with_entry, entry_in-with_entry_other, entry_in-with_entry_same, length-with_entry, map_in_image, room_for, same_or_not}
use Rattle.cyl_map.proofs.Words.{Image, IsEntry, IsSome, MapEntry, block_at, bytes_at, cases_lt, drop-append-le, drop-take, drop_at, entries_of, entry_at, entry_in, entry_of, get_or_past, length-take, map_of, map_spelling, said_by, spelling, take-append-drop, take-append-le, take-take, with_entry}
use Rattle.cyl_map.specs.Mapped.{AreWhole, IsMapped, block_mapped, entries_mapped, map_mapped, mapped, said_in}

-- what the bytes of an entry say
pub said_is : (image : Image) (n : ℕ) (e : MapEntry) → entry_in image n ≡ Some e → said_in image n ≡ e
unfolding entry_in
said_is image n e is = let two = entry_of_spelled _ e is in ap said_by two.1 ∙ said_by-spelling e two.0

pub the_entry_in : (entry : Option MapEntry) → IsSome entry → (e : MapEntry) × (entry ≡ Some e)
the_entry_in None some = cc
the_entry_in (Some e) some = (e, refl)

past : (a : Image) (m : ℕ) → length a ≤ m → block_at a m ≡ []
past a m beyond = get_or_past a m [] beyond

-- bytes of a map that something stands behind
bytes_before : (xs ys : List ℕ) (k : ℕ) → 8 * k + 8 ≤ length xs → bytes_at (xs ++ ys) k ≡ bytes_at xs k
bytes_before xs ys k long = ap (take 8) (drop-append-le (8 * k) xs ys (omega arith)) ∙ take-append-le 8 (drop (8 * k) xs) ys (omega (arith, length-drop (8 * k) xs))

module _ (f : ℕ → MapEntry → MapEntry) (a : Image) where
  long : (m : ℕ) → length (entries_mapped f a m) ≡ 64
  unfolding entries_mapped
  long m = length-map-range_with_len (λ k. f (m + k) (said_in a (m + k))) 0 64

  at : (m k : ℕ) (d : MapEntry) → k < 64 → get_or (entries_mapped f a m) k d ≡ f (m + k) (said_in a (m + k))
  unfolding entries_mapped
  at m k d less = get_or-map-range_with_len (λ j. f (m + j) (said_in a (m + j))) 0 64 k k d less (omega arith)

  spelled_long : (m : ℕ) → length (map_spelling (entries_mapped f a m)) ≡ 512
  spelled_long m = omega (arith, length-map_spelling (entries_mapped f a m), long m)

  pub length-mapped : length (mapped f a) ≡ length a
  unfolding mapped
  length-mapped = length-map-range_with_len (block_mapped f a) 0 (length a)

  pub mapped_at : (m : ℕ) → m < length a → block_at (mapped f a) m ≡ block_mapped f a m
  unfolding mapped
  mapped_at m below = get_or-map-range_with_len (block_mapped f a) 0 (length a) m m [] below (omega arith)

  map_there : (m : ℕ) → m % 64 ≡ 0 → m < length a → block_at (mapped f a) m ≡ map_mapped f a m
  map_there m first below = mapped_at m below ∙ ap (λ (b : Bool). cond b (map_mapped f a m) (block_at a m)) (eq-eqb (m % 64) 0 first)

  pub block_at-mapped : (m : ℕ) → m % 64 ≢ 0 → block_at (mapped f a) m ≡ block_at a m
  block_at-mapped m apart = ⊎_elim (λ below. mapped_at m below ∙ ap (λ (b : Bool). cond b (map_mapped f a m) (block_at a m)) (ne_eqb (m % 64) 0 apart))
      (λ beyond. past (mapped f a) m (omega (arith, beyond, length-mapped)) ∙ sym (past a m beyond)) (cases_lt m (length a))

  pub entry_in-mapped : (n : ℕ) (e : MapEntry) → entry_in a n ≡ Some e → IsEntry (f n e) → entry_in (mapped f a) n ≡ Some (f n e)
  unfolding entry_in
  entry_in-mapped n e is valid =
      let m = map_of n in
      let k = n % 64 in
      let less : k < 64 = omega arith in
      let place : m + k ≡ n = omega arith in
      let es = entries_mapped f a m in
      ap (λ (b : List ℕ). entry_at b k) (map_there m (omega arith) (map_in_image a n e is))
      ∙ ap entry_of (bytes_before (map_spelling es) (drop 512 (block_at a m)) k (omega (arith, less, spelled_long m)) ∙ bytes_at-map_spelling es k e (omega (arith, less, long m))
      ∙ ap spelling (at m k e less ∙ ap (λ (j : ℕ). f j (said_in a j)) place ∙ ap (f n) (said_is a n e is)))
      ∙ entry_of-spelling (f n e) valid

  behind_there : (m : ℕ) → drop 512 (block_at (mapped f a) m) ≡ drop 512 (block_at a m)
  behind_there m = elim (m % 64 == 0) as (λ b. (m % 64 == 0) ≡ b → drop 512 (block_at (mapped f a) m) ≡ drop 512 (block_at a m)) [
    | true ↦ λ first. ⊎_elim (λ below. ap (drop 512) (map_there m (eqb-true (m % 64) 0 first) below) ∙ drop_at (map_spelling (entries_mapped f a m)) (drop 512 (block_at a m)) 512 (spelled_long m))
        (λ beyond. ap (drop 512) (past (mapped f a) m (omega (arith, beyond, length-mapped)) ∙ sym (past a m beyond))) (cases_lt m (length a))
    | false ↦ λ apart. ap (drop 512) (block_at-mapped m (eqb-false (m % 64) 0 apart))
  ] refl

  -- where f makes entries of them
  pub mapped_has : ((n : ℕ) (e : MapEntry) → entry_in a n ≡ Some e → IsEntry (f n e)) → IsMapped f a (mapped f a)
  mapped_has valid = record { size = length-mapped; entries = λ n e is. entry_in-mapped n e is (valid n e is); contents = block_at-mapped; behind = behind_there }

-- ---- images with the same entries are the same

-- a map whose entries are these
module _ (f : ℕ → MapEntry → MapEntry) (a b : Image) (m : ℕ) (first : m % 64 ≡ 0) (each : (n : ℕ) → map_of n ≡ m → (e : MapEntry) × (entry_in b n ≡ Some e) × (e ≡ f n (said_in a n))) where
  abbrev head : List ℕ
  head = take 512 (block_at b m)

  number : (k : ℕ) → k < 64 → map_of (m + k) ≡ m
  number k less = omega (arith, first, less)

  place : (k : ℕ) → k < 64 → (m + k) % 64 ≡ k
  place k less = omega (arith, first, less)

  whole_map : 512 ≤ length (block_at b m)
  whole_map =
      let last = each (m + 63) (number 63 (omega arith)) in
      let room = room_for b (m + 63) last.0 last.1 in
      omega (arith, ap (λ (j : ℕ). length (block_at b j)) (number 63 (omega arith)), place 63 (omega arith), room)

  head_bytes : (k : ℕ) → k < 64 → bytes_at head k ≡ bytes_at (block_at b m) k
  head_bytes k less =
      let rest : 8 * k + (512 - 8 * k) ≡ 512 = omega (arith, less) in
      ap (λ (n : ℕ). take 8 (drop (8 * k) (take n (block_at b m)))) (sym rest) ∙ ap (take 8) (drop-take (8 * k) (512 - 8 * k) (block_at b m)) ∙ take-take 8 (512 - 8 * k) (drop (8 * k) (block_at b m)) (omega (arith, less))

  entry_here : (k : ℕ) → k < 64 → (e : MapEntry) × (entry_at head k ≡ Some e) × (e ≡ f (m + k) (said_in a (m + k)))
  unfolding entry_in
  entry_here k less =
      let one = each (m + k) (number k less) in (
        one.0,
        ap entry_of (head_bytes k less) ∙ ap (λ (j : ℕ). entry_at (block_at b j) k) (sym (number k less)) ∙ ap (entry_at (block_at b (map_of (m + k)))) (sym (place k less)) ∙ one.1,
        one.2,
      )

  says_here : (k : ℕ) → k < 64 → said_by (bytes_at head k) ≡ f (m + k) (said_in a (m + k))
  says_here k less =
      let one = entry_here k less in
      let two = entry_of_spelled (bytes_at head k) one.0 one.1 in
      ap said_by two.1 ∙ said_by-spelling one.0 two.0 ∙ one.2

  entries_here : entries_of head ≡ entries_mapped f a m
  unfolding entries_mapped
  entries_here = fill_by_all (λ k. f (m + k) (said_in a (m + k))) (entries_of head) 64 (said_by []) (length-entries_of head) (λ k less. get_or-entries_of head k (said_by []) less ∙ says_here k less)

  spelled_here : drop 512 (block_at b m) ≡ drop 512 (block_at a m) → block_at b m ≡ map_mapped f a m
  spelled_here behind =
      let long_head : length head ≡ 512 = omega (arith, length-take 512 (block_at b m), whole_map) in
      let spells = spells_read head long_head (λ k less. (let one = entry_here k less in subst (λ (o : Option MapEntry). IsSome o) (sym one.1) refl)) in
      sym (take-append-drop 512 (block_at b m)) ∙ ap (λ (xs : List ℕ). xs ++ drop 512 (block_at b m)) (spells.spelled ∙ ap map_spelling entries_here) ∙ ap (λ (ys : List ℕ). map_spelling (entries_mapped f a m) ++ ys) behind

module _ (f : ℕ → MapEntry → MapEntry) (a b : Image) (whole : AreWhole a) (is : IsMapped f a b) where
  -- what an image has whose entries are so is all that there is
  pub mapped_is : mapped f a ≡ b
  unfolding mapped
  mapped_is = sym (fill_by_all (block_mapped f a) b (length a) [] is.size (λ m below. elim (m % 64 == 0) as (λ t. (m % 64 == 0) ≡ t → block_at b m ≡ cond t (map_mapped f a m) (block_at a m)) [
    | true ↦ λ first. spelled_here f a b m (eqb-true (m % 64) 0 first) (λ n same.
        let old = the_entry_in (entry_in a n) (whole n (omega (arith, same, below))) in
        (f n old.0, is.entries n old.0 old.1, ap (f n) (sym (said_is a n old.0 old.1)))) (is.behind m)
    | false ↦ λ apart. is.contents m (eqb-false (m % 64) 0 apart)
  ] refl))

  pub whole_mapped : AreWhole b
  whole_mapped n below = (let old = the_entry_in (entry_in a n) (whole n (omega (arith, below, is.size))) in subst (λ (o : Option MapEntry). IsSome o) (sym (is.entries n old.0 old.1)) refl)

  module _ (g h : ℕ → MapEntry → MapEntry) (each : (n : ℕ) (e : MapEntry) → entry_in a n ≡ Some e → g n (f n e) ≡ h n e) where
    one : (n : ℕ) → map_of n < length a → g n (said_in b n) ≡ h n (said_in a n)
    one n below =
        let old = the_entry_in (entry_in a n) (whole n below) in
        ap (g n) (said_is b n (f n old.0) (is.entries n old.0 old.1)) ∙ each n old.0 old.1 ∙ ap (h n) (sym (said_is a n old.0 old.1))

    all : (m : ℕ) → m % 64 ≡ 0 → m < length a → entries_mapped g b m ≡ entries_mapped h a m
    unfolding entries_mapped
    all m first below = fill_by_all (λ k. h (m + k) (said_in a (m + k))) (entries_mapped g b m) 64 (said_by []) (long g b m) (λ k less. at g b m k (said_by []) less ∙ one (m + k) (omega (arith, first, less, below)))

    -- what is to come is the same from either
    pub mapped_after : mapped g b ≡ mapped h a
    unfolding mapped
    mapped_after = fill_by_all (block_mapped h a) (mapped g b) (length a) [] (length-mapped g b ∙ is.size) (λ m below.
        mapped_at g b m (omega (arith, below, is.size)) ∙ elim (m % 64 == 0) as (λ t. (m % 64 == 0) ≡ t → cond t (map_mapped g b m) (block_at b m) ≡ cond t (map_mapped h a m) (block_at a m)) [
          | true ↦ λ first. ap (λ (es : List MapEntry). map_spelling es ++ drop 512 (block_at b m)) (all m (eqb-true (m % 64) 0 first) below) ∙ ap (λ (ys : List ℕ). map_spelling (entries_mapped h a m) ++ ys) (is.behind m)
          | false ↦ λ apart. is.contents m (eqb-false (m % 64) 0 apart)
        ] refl)

-- ---- one change after another

pub mapped_then : (f g : ℕ → MapEntry → MapEntry) (a b c : Image) → IsMapped f a b → IsMapped g b c → IsMapped (λ n e. g n (f n e)) a c
mapped_then f g a b c one two = record {
  size = two.size ∙ one.size;
  entries = λ n e is. two.entries n (f n e) (one.entries n e is);
  contents = λ n apart. two.contents n apart ∙ one.contents n apart;
  behind = λ n. two.behind n ∙ one.behind n;
}

-- the same said by another function
pub mapped_as : (f g : ℕ → MapEntry → MapEntry) (a b : Image) → IsMapped f a b → ((n : ℕ) (e : MapEntry) → entry_in a n ≡ Some e → f n e ≡ g n e) → IsMapped g a b
mapped_as f g a b is same = record { size = is.size; entries = λ n e here. is.entries n e here ∙ ap (λ (x : MapEntry). Some x) (same n e here); contents = is.contents; behind = is.behind }

pub mapped_none : (f : ℕ → MapEntry → MapEntry) (a : Image) → ((n : ℕ) (e : MapEntry) → entry_in a n ≡ Some e → f n e ≡ e) → IsMapped f a a
mapped_none f a same = record { size = refl; entries = λ n e here. here ∙ ap (λ (x : MapEntry). Some x) (sym (same n e here)); contents = λ n apart. refl; behind = λ n. refl }

-- one entry alone
pub mapped_one : (f : ℕ → MapEntry → MapEntry) (a : Image) (n : ℕ) (e : MapEntry) → entry_in a n ≡ Some e → IsEntry (f n e) → ((m : ℕ) (x : MapEntry) → m ≢ n → f m x ≡ x) → IsMapped f a (with_entry a n (f n e))
mapped_one f a n e here valid others = record {
  size = length-with_entry a n (f n e);
  entries = λ m x is. elim (same_or_not m n) [
    | inl same ↦ (
        let one : x ≡ e = same_Some _ _ (sym is ∙ ap (entry_in a) same ∙ here) in
        ap (entry_in (with_entry a n (f n e))) same ∙ entry_in-with_entry_same a n (f n e) e here valid ∙ (λ i. Some (f (sym same i) (sym one i))))
    | inr other ↦ entry_in-with_entry_other a n (f n e) e m here other ∙ is ∙ ap (λ (y : MapEntry). Some y) (sym (others m x other))
  ];
  contents = λ m apart. block_at-with_entry a n (f n e) m (λ same. apart (omega (arith, same)));
  behind = behind-with_entry a n (f n e) e here;
}

-- an entry that f leaves alone
pub mapped_stays : (f : ℕ → MapEntry → MapEntry) (a b : Image) → AreWhole a → IsMapped f a b → (n : ℕ) → ((e : MapEntry) → entry_in a n ≡ Some e → f n e ≡ e) → entry_in b n ≡ entry_in a n
mapped_stays f a b whole is n stays = by (entry_in a n) refl
  where
    none : (now : Option MapEntry) → entry_in b n ≡ now → entry_in a n ≡ None → now ≡ None
    none None now was = refl
    none (Some x) now was = (let old = the_entry_in (entry_in a n) (whole n (omega (arith, map_in_image b n x now, is.size))) in let no : None ≡ Some old.0 = sym was ∙ old.1 in cc)

    by : (was : Option MapEntry) → entry_in a n ≡ was → entry_in b n ≡ was
    by (Some e) was = is.entries n e was ∙ ap (λ (x : MapEntry). Some x) (stays e was)
    by None was = none (entry_in b n) refl was

-- what holds of each entry and what it became, and of none
pub mapped_by : (P : Option MapEntry → Option MapEntry → Type 0) (f : ℕ → MapEntry → MapEntry) (a b : Image) → AreWhole a → IsMapped f a b → (n : ℕ) → P None None → ((e : MapEntry) → entry_in a n ≡ Some e → P (Some e) (Some (f n e))) → P (entry_in a n) (entry_in b n)
mapped_by P f a b whole is n none some = by (entry_in a n) refl
  where
    by : (was : Option MapEntry) → entry_in a n ≡ was → P (entry_in a n) (entry_in b n)
    by (Some e) was = subst (λ (x : Option MapEntry). P x (entry_in b n)) (sym was) (subst (P (Some e)) (sym (is.entries n e was)) (some e was))
    by None was =
        let now : entry_in b n ≡ None = mapped_stays f a b whole is n (λ e here. (let no : None ≡ Some e = sym was ∙ here in cc)) ∙ was in
        subst (λ (x : Option MapEntry). P x (entry_in b n)) (sym was) (subst (P None) (sym now) none)
