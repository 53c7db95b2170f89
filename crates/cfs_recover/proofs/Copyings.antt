-- The list of roots that are to be copied, as one is noted.
use Rattle.std.proofs.Common.{◌≡◌, ◌≢◌, ◌⊎◌, inl, inr, ℕ, zero, suc, ◌+◌, ◌<◌, ◌≤◌, List, [], ◌∷◌, ◌++◌, length, Option, Some, None, refl, sym, ◌∙◌, ap, subst, arith, append-nil, length-append}
use Rattle.cfs_recover.proofs.Words.{AreCopies, AreKeptPieces, Copied, Found, HasCopy, HasKept, Head, Image, IsCopy, IsRootBlock, Piece, all_pieces, block_at, cases_lt, copies_before, flat_map-append, copies_for, nat_tests, pieces_of, same_Some, slice_get, slice_get_within, source}
use Rattle.cfs_recover.proofs.Noting.{push_from, push_new, push_old}

past_none : {A : Type 0} (xs : List A) (k : ℕ) → slice_get xs k ≡ None → length xs ≤ k
past_none [] k none = omega arith
past_none (y ∷ xs) zero none = cc
past_none (y ∷ xs) (suc k) none = let rest = past_none xs k none in omega arith

-- the list of what was found grows
pub copies_on : (image : Image) (a b : List Found) (done : ℕ) (copies : List Copied) → done ≤ length a → ((k : ℕ) (x : Found) → slice_get a k ≡ Some x → slice_get b k ≡ Some x) → AreCopies image a done copies → AreCopies image b done copies
copies_on image a b done copies within grows are = record {
  each = are.each;
  listed = λ k c here. let was = are.listed k c here in (was.0, was.1, grows was.0 was.1 was.2, was.3, was.4);
  elsewhere = are.elsewhere;
  once = are.once;
  all = λ j x less there. at j x less there (slice_get a j) refl;
}
  where
    at : (j : ℕ) (x : Found) → j < done → slice_get b j ≡ Some x → (o : Option Found) → slice_get a j ≡ o → (source image x.block ≡ x.block) ⊎ HasCopy copies x.block
    at j x less there None none = absurd (let past = past_none a j none in omega (arith, past, within, less))
    at j x less there (Some y) is =
        let same : y ≡ x = same_Some _ _ (sym (grows j y is) ∙ there) in
        subst (λ (z : Found). (source image z.block ≡ z.block) ⊎ HasCopy copies z.block) same (are.all j y less is)

module _ (image : Image) (found : List Found) (done : ℕ) (old new : List Copied) (are : AreCopies image found done old) (x : Found) (at : slice_get found done ≡ Some x) (block : ℕ) (same : x.block ≡ block)
    (head : Head) (copy : IsCopy image block head) (elsewhere : head.from ≢ block)
    (first : (j : ℕ) (y : Found) → slice_get found j ≡ Some y → y.block ≡ block → j ≡ done) where
  abbrev noted : Copied
  noted = record { block = block; root = head.root }

  pub copies_push : new ≡ old ++ noted ∷ [] → AreCopies image found (done + 1) new
  copies_push is = record {
    each = λ k c here. elim (push_from old noted c k (back k c here)) [
      | inl was ↦ are.each k c was
      | inr now ↦ subst (λ (d : Copied). IsRootBlock (block_at image (source image d.block)) d.root) now.1 (subst (λ (n : ℕ). IsRootBlock (block_at image n) head.root) copy.from copy.spelled)
    ];
    listed = λ k c here. elim (push_from old noted c k (back k c here)) [
      | inl was ↦ let l = are.listed k c was in (l.0, l.1, l.2, l.3, omega (arith, l.4))
      | inr now ↦ (done, x, at, same ∙ ap (λ (d : Copied). d.block) now.1, omega arith)
    ];
    elsewhere = λ k c here. elim (push_from old noted c k (back k c here)) [
      | inl was ↦ are.elsewhere k c was
      | inr now ↦ subst (λ (d : Copied). source image d.block ≢ d.block) now.1 (λ own. elsewhere (copy.from ∙ own))
    ];
    once = λ j k c d here there one. elim (push_from old noted c j (back j c here)) [
      | inl was ↦ elim (push_from old noted d k (back k d there)) [
        | inl also ↦ are.once j k c d was also one
        | inr now ↦ absurd (before j c was (one ∙ sym (ap (λ (e : Copied). e.block) now.1)))
      ]
      | inr last ↦ elim (push_from old noted d k (back k d there)) [
        | inl was ↦ absurd (before k d was (sym one ∙ sym (ap (λ (e : Copied). e.block) last.1)))
        | inr now ↦ last.0 ∙ sym now.0
      ]
    ];
    all = λ j y less there. elim (cases_lt j done) [
      | inl before ↦ elim (are.all j y before there) [
        | inl own ↦ inl own
        | inr has ↦ inr (has.0, has.1, ap (λ (cs : List Copied). slice_get cs has.0) is ∙ push_old old noted has.1 has.0 has.2, has.3)
      ]
      | inr last ↦
          let here : j ≡ done = omega arith in
          let it : x ≡ y = same_Some _ _ (sym at ∙ ap (slice_get found) (sym here) ∙ there) in
          inr (length old, noted, ap (λ (cs : List Copied). slice_get cs (length old)) is ∙ push_new old noted, sym same ∙ ap (λ (z : Found). z.block) it)
    ];
  }
    where
      before : (k : ℕ) (c : Copied) → slice_get old k ≡ Some c → c.block ≢ block
      before k c was one = let l = are.listed k c was in let here = first l.0 l.1 l.2 (l.3 ∙ one) in omega (arith, here, l.4)

      back : (k : ℕ) (c : Copied) → slice_get new k ≡ Some c → slice_get (old ++ noted ∷ []) k ≡ Some c
      back k c here = ap (λ (cs : List Copied). slice_get cs k) (sym is) ∙ here

-- where the object of the next item is read from its own block none is added
copies_same : (image : Image) (found : List Found) (done : ℕ) (copies : List Copied) (x : Found) → AreCopies image found done copies → slice_get found done ≡ Some x → source image x.block ≡ x.block → AreCopies image found (done + 1) copies
copies_same image found done copies x are at own = record {
  each = are.each;
  listed = λ k c here. let l = are.listed k c here in (l.0, l.1, l.2, l.3, omega (arith, l.4));
  elsewhere = are.elsewhere;
  once = are.once;
  all = λ j y less there. elim (cases_lt j done) [
    | inl before ↦ are.all j y before there
    | inr last ↦
        let here : j ≡ done = omega arith in
        let it : x ≡ y = same_Some _ _ (sym at ∙ ap (slice_get found) (sym here) ∙ there) in
        inl (subst (λ (z : Found). source image z.block ≡ z.block) it own)
  ];
}

-- ---- as they are kept

-- how many stand before an item
pub before_more : (image : Image) (found : List Found) (k : ℕ) (x : Found) → slice_get found k ≡ Some x → copies_before image found (k + 1) ≡ copies_before image found k + copies_for image (Some x)
unfolding copies_before
before_more image found k x at = let next : k + 1 ≡ suc k = omega arith in ap (copies_before image found) next ∙ ap (λ (o : Option Found). copies_before image found k + copies_for image o) at

pub none_copied : (image : Image) (x : Found) → source image x.block ≡ x.block → copies_for image (Some x) ≡ 0
none_copied image x own = grind (arith, nat_tests)

pub one_copied : (image : Image) (x : Found) → source image x.block ≢ x.block → copies_for image (Some x) ≡ 1
one_copied image x other = grind (arith, nat_tests)

-- nothing is kept before the first item
pub kept_none : (image : Image) (found : List Found) (pieces : List Piece) → pieces ≡ [] → HasKept image found 0 pieces
unfolding copies_before
kept_none image found pieces is = (
  [],
  record {
    are = record {
      each = λ k c at. absurd (no_copy k c at);
      listed = λ k c at. absurd (no_copy k c at);
      elsewhere = λ k c at. absurd (no_copy k c at);
      once = λ j k c d at there. absurd (no_copy j c at);
      all = λ j x less. absurd (omega (arith, less));
    };
    spelled = is;
    count = refl;
    placed = λ k x less. absurd (omega (arith, less));
  },
)
  where
    no_copy : (k : ℕ) (c : Copied) → slice_get [] k ≡ Some c → ⊥
    no_copy k c at = let less = slice_get_within [] k c at in omega (arith, less)

-- the list of what was found grows
module _ (image : Image) (a b : List Found) (grows : (k : ℕ) (x : Found) → slice_get a k ≡ Some x → slice_get b k ≡ Some x) where
  same_at : (k : ℕ) → k < length a → slice_get b k ≡ slice_get a k
  same_at k less = at (slice_get a k) refl
    where
      at : (o : Option Found) → slice_get a k ≡ o → slice_get b k ≡ slice_get a k
      at None none = absurd (let past = past_none a k none in omega (arith, past, less))
      at (Some x) is = grows k x is ∙ sym is

  before_on : (k : ℕ) → k ≤ length a → copies_before image b k ≡ copies_before image a k
  unfolding copies_before
  before_on zero less = refl
  before_on (suc k) less = λ i. before_on k (omega (arith, less)) i + copies_for image (same_at k (omega (arith, less)) i)

  pub kept_on : (done : ℕ) (pieces : List Piece) → done ≤ length a → HasKept image a done pieces → HasKept image b done pieces
  kept_on done pieces within (copies, kept) = (
    copies,
    record {
      are = copies_on image a b done copies within grows kept.are;
      spelled = kept.spelled;
      count = kept.count ∙ sym (before_on done within);
      placed = λ k x less there other.
          let inside : k < length a = omega (arith, less, within) in
          let c = kept.placed k x less (sym (same_at k inside) ∙ there) other in
          (c.0, ap (slice_get copies) (before_on k (omega (arith, inside))) ∙ c.1, c.2);
    },
  )

module _ (image : Image) (found : List Found) (done : ℕ) (pieces : List Piece) (copies : List Copied) (kept : AreKeptPieces image found done pieces copies) (x : Found) (at : slice_get found done ≡ Some x) where
  last_is : (k : ℕ) (y : Found) → k < done + 1 → ¬ (k < done) → slice_get found k ≡ Some y → (k ≡ done) × (x ≡ y)
  last_is k y less not there = let here : k ≡ done = omega (arith, less, not) in (here, same_Some _ _ (sym at ∙ ap (slice_get found) (sym here) ∙ there))

  pub kept_same : source image x.block ≡ x.block → AreKeptPieces image found (done + 1) pieces copies
  kept_same own = record {
    are = copies_same image found done copies x kept.are at own;
    spelled = kept.spelled;
    count = omega (arith, kept.count, before_more image found done x at, none_copied image x own);
    placed = λ k y less there other. elim (cases_lt k done) [
      | inl before ↦ kept.placed k y before there other
      | inr past ↦ let it = last_is k y less (λ lower. omega (arith, lower, past)) there in absurd (other (subst (λ (z : Found). source image z.block ≡ z.block) it.1 own))
    ];
  }

  module _ (block : ℕ) (same : x.block ≡ block) (head : Head) (copy : IsCopy image block head) (elsewhere : head.from ≢ block) (first : (j : ℕ) (y : Found) → slice_get found j ≡ Some y → y.block ≡ block → j ≡ done) where
    abbrev new_copy : Copied
    new_copy = record { block = block; root = head.root }

    pub kept_more : (more : List Piece) → more ≡ pieces ++ pieces_of head.root → AreKeptPieces image found (done + 1) more (copies ++ new_copy ∷ [])
    kept_more more is =
        let other : source image x.block ≢ x.block = λ own. elsewhere (copy.from ∙ ap (source image) (sym same) ∙ own ∙ same) in
        record {
          are = copies_push image found done copies (copies ++ new_copy ∷ []) kept.are x at block same head copy elsewhere first refl;
          spelled = is ∙ ap (λ (ps : List Piece). ps ++ pieces_of head.root) kept.spelled ∙ ap (λ (ps : List Piece). all_pieces copies ++ ps) (sym (append-nil (pieces_of head.root)))
              ∙ sym (flat_map-append (λ c. pieces_of c.root) copies (new_copy ∷ []));
          count = omega (arith, length-append copies (new_copy ∷ []), kept.count, before_more image found done x at, one_copied image x other);
          placed = λ k y less there elsewhere. elim (cases_lt k done) [
            | inl before ↦ let c = kept.placed k y before there elsewhere in (c.0, push_old copies new_copy c.0 (copies_before image found k) c.1, c.2)
            | inr past ↦
                let it = last_is k y less (λ lower. omega (arith, lower, past)) there in
                let place : copies_before image found k ≡ length copies = ap (copies_before image found) it.0 ∙ sym kept.count in
                (new_copy, ap (slice_get (copies ++ new_copy ∷ [])) place ∙ push_new copies new_copy, sym same ∙ ap (λ (z : Found). z.block) it.1)
          ];
        }
