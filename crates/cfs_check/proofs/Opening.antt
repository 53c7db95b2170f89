-- Some of the objects that were found are opened, one after the other.
use Rattle.std.proofs.Common.{◌≡◌, ◌⊎◌, inl, inr, ℕ, ◌+◌, ◌<◌, ◌≤◌, Bool, List, [], ◌∷◌, ◌++◌, length, Some, refl, sym, ◌∙◌, ap, subst, arith}
use Rattle.std.proofs.lemmas.Bool.{cases_lt}
use Rattle.std.proofs.lemmas.List.Elements.{Contains-append_cases, Contains-append_left, Contains-append_right, Contains-push, Contains-push_cases}
use Rattle.std.proofs.lemmas.Option.{same_Some}
use Rattle.std.specs.List.{Contains}
use Rattle.std.specs.Prelude.{slice_get}
use Rattle.cfs_base.specs.Disk.{Image}
use Rattle.cfs_check.specs.Items.{AtRoot, Item, Knows}
use Rattle.cfs_check.specs.Opened.{IsFoundBetween, ListsTree, OpensBatch}
use Rattle.cfs_check.specs.Twigs.{IsShownBy, Twig, twigs_of}
use Rattle.cfs_check.specs.declared.survey.Survey.{Survey}

-- none
pub opens_none : (image : Image) (before : List Bool) (items : List Item) (blocks : List ℕ) (n : ℕ) (s : Survey) (ts : List Twig) → ts ≡ [] → Knows image before items s → OpensBatch image before items blocks n n s ts
opens_none image before items blocks n s ts none knows = record {
  its = items;
  knows = knows;
  kept = λ i has. has;
  all = λ r b. absurd (omega (arith, b.low, b.high));
  only = λ i has. inl has;
  listed = λ r root t b shown has. absurd (omega (arith, b.low, b.high));
  of_these = λ t has. absurd (empty t (subst (λ (us : List Twig). Contains us t) none has));
}
  where
    empty : (t : Twig) → ¬ Contains [] t
    empty t has = omega (arith, has.1)

-- one more
module _ (image : Image) (before : List Bool) (items : List Item) (blocks : List ℕ) (from n r : ℕ) (s t : Survey) (ts us : List Twig) (opens : OpensBatch image before items blocks from n s ts) (low : from ≤ n) (at : slice_get blocks n ≡ Some r)
    (knows : Knows image before (opens.its ++ AtRoot r ∷ []) t) (lists : ListsTree image r ts us) where
  wider : (q : ℕ) → IsFoundBetween blocks from n q → IsFoundBetween blocks from (n + 1) q
  wider q b = record { place = b.place; low = b.low; high = omega (arith, b.high); here = b.here }

  this : IsFoundBetween blocks from (n + 1) r
  this = record { place = n; low = low; high = omega arith; here = at }

  older : (q : ℕ) → IsFoundBetween blocks from (n + 1) q → IsFoundBetween blocks from n q ⊎ (r ≡ q)
  older q b = elim (cases_lt b.place n) [
    | inl less ↦ inl (record { place = b.place; low = b.low; high = less; here = b.here })
    | inr past ↦ (let last : n ≡ b.place = omega (arith, past, b.high) in inr (same_Some r q (sym at ∙ ap (slice_get blocks) last ∙ b.here)))
  ]

  pub opens_more : OpensBatch image before items blocks from (n + 1) t us
  opens_more = record {
    its = opens.its ++ AtRoot r ∷ [];
    knows = knows;
    kept = λ i has. Contains-append_left opens.its (AtRoot r ∷ []) i (opens.kept i has);
    all = λ q b. elim (older q b) [
      | inl was ↦ Contains-append_left opens.its (AtRoot r ∷ []) (AtRoot q) (opens.all q was)
      | inr same ↦ subst (λ (m : ℕ). Contains (opens.its ++ AtRoot r ∷ []) (AtRoot m)) same (Contains-push opens.its (AtRoot r))
    ];
    only = λ i has. elim (Contains-push_cases opens.its (AtRoot r) i has) [
      | inl was ↦ elim (opens.only i was) [ inl old ↦ inl old | inr one ↦ inr (one.0, wider one.0 one.1, one.2) ]
      | inr same ↦ inr (r, this, sym same)
    ];
    listed = λ q root x b shown has. subst (λ (vs : List Twig). Contains vs x) (sym lists.is) (elim (older q b) [
      | inl was ↦ Contains-append_left ts lists.added x (opens.listed q root x was shown has)
      | inr same ↦ Contains-append_right ts lists.added x
          (lists.all root x (subst (λ (m : ℕ). IsShownBy image m root) (sym same) shown) (subst (λ (m : ℕ). Contains (twigs_of image m root) x) (sym same) has))
    ]);
    of_these = λ x has. elim (Contains-append_cases ts lists.added x (subst (λ (vs : List Twig). Contains vs x) lists.is has)) [
      | inl was ↦ (let of = opens.of_these x was in (of.0, of.1, wider of.0 of.2, of.3, of.4))
      | inr now ↦ (let of = lists.only x now in (r, of.0, this, of.1, of.2))
    ];
  }
