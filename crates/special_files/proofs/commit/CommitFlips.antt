-- Counts of the Free blocks, as entries are changed.
use Rattle.std.proofs.Common.{◌≡◌, ◌≢◌, inl, inr, ℕ, ◌*◌, Bool, true, false, List, [], ◌∷◌, ◌++◌, length, not, Option, Some, None, refl, sym, ◌∙◌, ap, subst}
use Rattle.std.specs.Prelude.{count_by}
use Rattle.std.specs.List.{range_with_len}
use Rattle.cyl_alloc.specs.Space.{free_in_cylinder}
use Rattle.intentions.proofs.Courses.{on_entry}
use Rattle.cyl_map.proofs.Mapped.{mapped_after, mapped_is, mapped_none, mapped_stays}
use Rattle.intentions.proofs.Turned.{first_number, has_either, may_then, more_numbers, not_only, put_valid, turn_one, turned_append, whole_on}
use Rattle.cyl_map.specs.Mapped.{mapped}
use Rattle.std.proofs.lemmas.Bool.{not-true}
use Rattle.special_files.proofs.Words.{AreCounts, EntryChange, Course, Image, IsCourse, IsOn, Kept, MapEntry, MayTurn, after_giving, and_from, and_parts, both_ways, changed_entry, changed_if, counts_given, entry_in, false_from_ne_true, fun_ext, given_all, has_number, is_free, is_free_in, numbers_differ, option_to_list, turned, with_entry}

-- ---- counts

-- where no block becomes Free and none is taken
pub counts_stay : (a b : Image) (kept : Kept) → length b ≡ length a → ((n : ℕ) → is_free_in b n ≡ is_free_in a n) → AreCounts a kept → AreCounts b kept
unfolding free_in_cylinder
counts_stay a b kept size same counts = record {
  size = size ∙ counts.size;
  each = λ j less. counts.each j less ∙ sym (ap (λ (p : ℕ → Bool). count_by p (range_with_len (64 * j) 64)) (fun_ext same));
}

-- where each of these becomes Free
module _ (w : Course) (is : IsCourse w) (how : EntryChange) where
  pub counts_given_all : (ns : List ℕ) (a : Image) (kept : Kept) → numbers_differ ns ≡ true → IsOn w a → MayTurn w a (λ m. how) ns → AreCounts a kept
      → ((n : ℕ) (e : MapEntry) → has_number n ns ≡ true → entry_in a n ≡ Some e → (is_free e ≡ false) × (is_free (changed_entry how e) ≡ true)) → AreCounts (mapped (turned (λ m. how) ns) a) (given_all kept ns)
  counts_given_all [] a kept differ on may counts freed =
      subst (λ (i : Image). AreCounts i kept) (sym (mapped_is (turned (λ m. how) []) a a (whole_on w (λ m. how) is a on) (mapped_none (turned (λ m. how) []) a (λ n e here. refl)))) counts
  counts_given_all (n ∷ ns) a kept differ on may counts freed =
      let one = may n (first_number n ns) in
      let e = one.0 in
      let now = changed_entry how e in
      let next = with_entry a n now in
      let first = turn_one (λ m. how) a n e one.1 (put_valid w n e now one.2) in
      let whole = whole_on w (λ m. how) is a on in
      let two = freed n e (first_number n ns) one.1 in
      let none = not-true _ (and_parts _ _ differ).0 in
      subst (λ (i : Image). AreCounts i (given_all (after_giving kept n 1) ns)) (mapped_after (turned (λ m. how) (n ∷ [])) a next whole first (turned (λ m. how) ns) (turned (λ m. how) (n ∷ ns)) (λ m x here. turned_append (λ k. how) (n ∷ []) ns m x))
      (counts_given_all ns next (after_giving kept n 1) (and_parts _ _ differ).1 (on_entry w a n e now is on one.1 one.2) (may_then w (λ m. how) (n ∷ []) ns a next first may)
      (counts_given a kept n e now counts one.1 (put_valid w n e now one.2) two.0 two.1).0
      (λ m f there here.
      let apart : m ≢ n = λ same. both_ways _ none (subst (λ (k : ℕ). has_number k ns ≡ true) same there) in
      freed m f (more_numbers n m ns there) (sym (mapped_stays (turned (λ k. how) (n ∷ [])) a next whole first m (λ x was. ap (λ (b : Bool). changed_if b how x) (not_only n m apart))) ∙ here)))

-- ---- one list after another

pub given_append : (kept : Kept) (xs ys : List ℕ) → given_all kept (xs ++ ys) ≡ given_all (given_all kept xs) ys
given_append kept [] ys = refl
given_append kept (x ∷ xs) ys = given_append (after_giving kept x 1) xs ys

pub differ_append : (xs ys : List ℕ) → numbers_differ xs ≡ true → numbers_differ ys ≡ true → ((n : ℕ) → has_number n xs ≡ true → has_number n ys ≡ false) → numbers_differ (xs ++ ys) ≡ true
differ_append [] ys one two apart = two
differ_append (x ∷ xs) ys one two apart =
    let parts = and_parts _ _ one in
    let none : has_number x (xs ++ ys) ≡ false = false_from_ne_true _ (λ there. elim (has_either x xs ys there) [
      | inl again ↦ both_ways _ (not-true _ parts.0) again
      | inr too ↦ both_ways _ (apart x (first_number x xs)) too
    ]) in
    and_from _ _ (ap (λ (b : Bool). not b) none) (differ_append xs ys parts.1 two (λ n there. apart n (more_numbers x n xs there)))

pub option_once : (x : Option ℕ) → numbers_differ (option_to_list x) ≡ true
option_once None = refl
option_once (Some m) = refl
