-- The table of shadow roots, as one entry more is read.
use Rattle.std.proofs.Common.{◌≡◌, ◌≢◌, inl, inr, ℕ, suc, ◌+◌, ◌<◌, Bool, true, false, cond, List, [], ◌∷◌, ◌++◌, length, get_or, set, Some, refl, sym, ◌∙◌, ap, subst, arith, get_or-set_same, get_or-set_other, length-append}
use Rattle.cfs_recover.proofs.Words.{AreStanding, Image, IsShadow, MapEntry, Shadow, cases_eq, entry_in, false_from_ne_true, filter, numbers_more, one_more, range_with_len, shadow_entry, standing_below, stands_for}
use Rattle.cfs_recover.specs.declared.standing.Shadow.TheVariants as shadow

one_stands : (ns : List ℕ) (s : Shadow) (b : ℕ) → IsShadow ns s → IsShadow (ns ++ b ∷ []) (one_more s b)
one_stands ns shadow.None b is = ap (λ (xs : List ℕ). xs ++ b ∷ []) is
one_stands ns (shadow.One t) b is = omega (arith, ap (length {A = ℕ}) is, length-append ns (b ∷ []))
one_stands ns shadow.Several b is = omega (arith, is, length-append ns (b ∷ []))

filter_push : (P : ℕ → Bool) (ns : List ℕ) (b : ℕ) (is : Bool) → P b ≡ is → filter P (ns ++ b ∷ []) ≡ filter P ns ++ cond is (b ∷ []) []
filter_push P [] b true is = rw is refl
filter_push P [] b false is = rw is refl
filter_push P (n ∷ ns) b is same = at (filter_push P ns b is same) (P n)
  where
    at : filter P (ns ++ b ∷ []) ≡ filter P ns ++ cond is (b ∷ []) [] → (here : Bool) → cond here (n ∷ filter P (ns ++ b ∷ [])) (filter P (ns ++ b ∷ [])) ≡ cond here (n ∷ filter P ns) (filter P ns) ++ cond is (b ∷ []) []
    at rest true = ap (λ (xs : List ℕ). n ∷ xs) rest
    at rest false = rest

none_more : (ns : List ℕ) → ns ++ [] ≡ ns
none_more [] = refl
none_more (n ∷ ns) = ap (λ (xs : List ℕ). n ∷ xs) (none_more ns)

module _ (image : Image) (block : ℕ) (e : MapEntry) (entry : entry_in image block ≡ Some e) (old : List Shadow) (are : AreStanding image block old) where
  more : (r : ℕ) (is : Bool) → stands_for r (Some e) ≡ is → standing_below image (block + 1) r ≡ standing_below image block r ++ cond is (block ∷ []) []
  more r is same =
      let P : ℕ → Bool = λ n. stands_for r (entry_in image n) in
      let next : block + 1 ≡ suc block = omega arith in
      ap (λ (n : ℕ). filter P (range_with_len 0 n)) next ∙ ap (filter P) (numbers_more 0 block block (omega arith)) ∙ filter_push P (range_with_len 0 block) block is (ap (stands_for r) entry ∙ same)

  -- it stands for none of the table
  pub stands_for_none : ((r : ℕ) → r < length old → stands_for r (Some e) ≡ false) → AreStanding image (block + 1) old
  stands_for_none none r below = subst (λ (ns : List ℕ). IsShadow ns (get_or old r shadow.None)) (sym (more r false (none r below) ∙ none_more (standing_below image block r))) (are r below)

  pub its_owner_alone : (r : ℕ) → r ≢ e.owner → stands_for r (Some e) ≡ false
  its_owner_alone r other = false_from_ne_true _ (λ is. other (sym (shadow_entry r e is).2))

  -- it stands for its owner
  pub stands_for_one : (new : List Shadow) → stands_for e.owner (Some e) ≡ true → e.owner < length old → new ≡ set old e.owner (one_more (get_or old e.owner shadow.None) block) → length new ≡ length old → AreStanding image (block + 1) new
  stands_for_one new stands inside is long r below = elim (cases_eq r e.owner) [
    | inl same ↦
        let value : get_or new r shadow.None ≡ one_more (get_or old e.owner shadow.None) block =
        (λ i. get_or (is i) (same i) shadow.None) ∙ get_or-set_same old e.owner (one_more (get_or old e.owner shadow.None) block) shadow.None inside in
        let list : standing_below image (block + 1) r ≡ standing_below image block e.owner ++ block ∷ [] =
        ap (standing_below image (block + 1)) same ∙ more e.owner true stands in
        subst (λ (ns : List ℕ). IsShadow ns (get_or new r shadow.None)) (sym list)
        (subst (λ (s : Shadow). IsShadow (standing_below image block e.owner ++ block ∷ []) s) (sym value)
        (one_stands (standing_below image block e.owner) (get_or old e.owner shadow.None) block (are e.owner inside)))
    | inr other ↦
        let value : get_or new r shadow.None ≡ get_or old r shadow.None =
        ap (λ (t : List Shadow). get_or t r shadow.None) is ∙ get_or-set_other old e.owner r (one_more (get_or old e.owner shadow.None) block) shadow.None other in
        subst (λ (ns : List ℕ). IsShadow ns (get_or new r shadow.None)) (sym (more r false (its_owner_alone r other) ∙ none_more (standing_below image block r)))
        (subst (λ (s : Shadow). IsShadow (standing_below image block r) s) (sym value) (are r (omega (arith, below, long))))
  ]
