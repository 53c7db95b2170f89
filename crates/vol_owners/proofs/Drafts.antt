-- All drafts, where the object has another one, or none any more, or has one now.
use Rattle.std.proofs.Common.{◌≡◌, ◌⊎◌, inl, inr, ℕ, [], ◌∷◌, Bool, true, false, cond, Option, Some, None, refl, sym, ◌∙◌, ap, subst}
use Rattle.vol_owners.proofs.Words.{Drafts, Graph, IsMadeBy, Opened, Puid, both_ways, created_if, fun_ext, has_number, here, is_there, same_Some, same_puid, same_puid_is, same_puid_itself, with_draft_if, with_opened, without_draft}

module _ (id : Puid) (d : Option Opened) (ds : Drafts) where
  pub with_here : with_draft_if id d ds id ≡ d
  with_here = ap (λ (b : Bool). cond b d (ds id)) (same_puid_itself id)

  pub with_others : (x : Puid) → same_puid x id ≡ false → with_draft_if id d ds x ≡ ds x
  with_others x other = ap (λ (b : Bool). cond b d (ds x)) other

  -- what holds of this draft, and of those of all others
  pub each_draft : (P : Puid → Option Opened → Type 0) → P id d → (x : Puid) → (same_puid x id ≡ false → P x (ds x)) → P x (with_draft_if id d ds x)
  each_draft P here x others = elim (same_puid x id) as (λ b. same_puid x id ≡ b → P x (cond b d (ds x))) [
    | true ↦ λ is. subst (λ (y : Puid). P y d) (sym (same_puid_is x id is)) here
    | false ↦ others
  ] refl

  pub with_again : (e : Option Opened) → with_draft_if id d (with_draft_if id e ds) ≡ with_draft_if id d ds
  with_again e = fun_ext (λ x. elim (same_puid x id) as (λ b. cond b d (cond b e (ds x)) ≡ cond b d (ds x)) [ true ↦ refl | false ↦ refl ])

  pub with_same : ds id ≡ d → with_draft_if id d ds ≡ ds
  with_same is = fun_ext (λ x. each_draft (λ y e. e ≡ ds y) (sym is) x (λ other. refl))

-- a draft that is begun and given up
pub without_with : (id : Puid) (d : Opened) (ds : Drafts) → ds id ≡ None → without_draft id (with_opened id d ds) ≡ ds
without_with id d ds none = with_again id None ds (Some d) ∙ with_same id None ds none

-- the drafts are of objects that are there still
pub still_on : (g h : Graph) (id : Puid) (d : Option Opened) (ds : Drafts) → ((x : Puid) (e : Opened) → ds x ≡ Some e → is_there g x ≡ true) → is_there h id ≡ true → ((x : Puid) → is_there g x ≡ true → is_there h x ≡ true)
    → (x : Puid) (e : Opened) → with_draft_if id d ds x ≡ Some e → is_there h x ≡ true
still_on g h id d ds on here still x = each_draft id d ds (λ y f. (e : Opened) → f ≡ Some e → is_there h y ≡ true) (λ e is. here) x (λ other e is. still x (on x e is))

-- ---- which roots are made

-- Where this becomes the object's draft, it makes what the one before made; but of these roots it may make one that no
-- draft made, or make one no longer.
pub record Remakes (these : ℕ → Bool) (ds : Drafts) (id : Puid) (d : Option Opened) : Type 0 where
  pub more : (n : ℕ) → created_if d ≡ Some n → (created_if (ds id) ≡ Some n) ⊎ ((these n ≡ true) × (IsMadeBy ds n → ⊥))
  pub less : (n : ℕ) → created_if (ds id) ≡ Some n → (created_if d ≡ Some n) ⊎ (these n ≡ true)

pub same_makes : (these : ℕ → Bool) (ds : Drafts) (id : Puid) (d : Option Opened) → created_if d ≡ created_if (ds id) → Remakes these ds id d
same_makes these ds id d same = record { more = λ n is. inl (sym same ∙ is); less = λ n is. inl (same ∙ is) }

-- what the one before made is made no longer
pub makes_none : (c : ℕ) (ds : Drafts) (id : Puid) (d : Option Opened) → created_if (ds id) ≡ Some c → created_if d ≡ None → Remakes (λ n. has_number n (c ∷ [])) ds id d
makes_none c ds id d was none = record {
  more = λ n is. absurd (let no : None ≡ Some n = sym none ∙ is in cc);
  less = λ n is. inr (subst (λ (k : ℕ). has_number k (c ∷ []) ≡ true) (same_Some _ _ (sym was ∙ is)) (here c []));
}

pub no_longer_made : (c : ℕ) (ds : Drafts) (id : Puid) (d : Option Opened) → created_if (ds id) ≡ Some c → created_if d ≡ None → ((n : ℕ) (x y : IsMadeBy ds n) → x.id ≡ y.id) → IsMadeBy (with_draft_if id d ds) c → ⊥
no_longer_made c ds id d was none once m = each_draft id d ds (λ x e. created_if e ≡ Some c → ⊥) (λ is. let no : None ≡ Some c = sym none ∙ is in cc) m.id (λ other is.
    both_ways _ other (subst (λ (x : Puid). same_puid x id ≡ true) (once c (record { id = id; makes = was }) (record { id = m.id; makes = is })) (same_puid_itself id))) m.makes

-- a root is made that none made
pub makes_new : (c : ℕ) (ds : Drafts) (id : Puid) (d : Option Opened) → created_if (ds id) ≡ None → created_if d ≡ Some c → (IsMadeBy ds c → ⊥) → Remakes (λ n. has_number n (c ∷ [])) ds id d
makes_new c ds id d none some new = record {
  more = λ n is. let one : c ≡ n = same_Some _ _ (sym some ∙ is) in inr (subst (λ (k : ℕ). has_number k (c ∷ []) ≡ true) one (here c []), λ m. new (subst (IsMadeBy ds) (sym one) m));
  less = λ n is. absurd (let no : None ≡ Some n = sym none ∙ is in cc);
}

module _ (these : ℕ → Bool) (ds : Drafts) (id : Puid) (d : Option Opened) (remakes : Remakes these ds id d) where
  abbrev es : Drafts
  es = with_draft_if id d ds

  -- by this draft, or by that of another object
  made_with : (c : ℕ) (m : IsMadeBy es c) → ((m.id ≡ id) × (created_if d ≡ Some c)) ⊎ ((same_puid m.id id ≡ false) × (created_if (ds m.id) ≡ Some c))
  made_with c m = elim (same_puid m.id id) as (λ b. same_puid m.id id ≡ b → created_if (cond b d (ds m.id)) ≡ Some c → ((m.id ≡ id) × (created_if d ≡ Some c)) ⊎ ((same_puid m.id id ≡ false) × (created_if (ds m.id) ≡ Some c))) [
    | true ↦ λ is makes. inl (same_puid_is m.id id is, makes)
    | false ↦ λ other makes. inr (other, makes)
  ] refl m.makes

  -- all others are made as before
  pub others_made : (n : ℕ) → these n ≡ false → (IsMadeBy es n → IsMadeBy ds n) × (IsMadeBy ds n → IsMadeBy es n)
  others_made n other = (
    λ m. elim (made_with n m) [
      | inl here ↦ elim (remakes.more n here.1) [ inl was ↦ record { id = id; makes = was } | inr new ↦ absurd (both_ways _ other new.0) ]
      | inr apart ↦ record { id = m.id; makes = apart.1 }
    ],
    λ m. record {
      id = m.id;
      makes = each_draft id d ds (λ x f. created_if (ds x) ≡ Some n → created_if f ≡ Some n)
          (λ is. elim (remakes.less n is) [ inl still ↦ still | inr gone ↦ absurd (both_ways _ other gone) ]) m.id (λ apart is. is) m.makes;
    },
  )

  module _ (once : (c : ℕ) (x y : IsMadeBy ds c) → x.id ≡ y.id) where
    -- what this draft makes that of no other object makes
    alone : (c : ℕ) → created_if d ≡ Some c → (x : Puid) → same_puid x id ≡ false → created_if (ds x) ≡ Some c → ⊥
    alone c here x other there = elim (remakes.more c here) [
      | inl was ↦ both_ways _ other (subst (λ (y : Puid). same_puid x y ≡ true) (once c (record { id = x; makes = there }) (record { id = id; makes = was })) (same_puid_itself x))
      | inr new ↦ new.1 (record { id = x; makes = there })
    ]

    pub made_once_with : (c : ℕ) (x y : IsMadeBy es c) → x.id ≡ y.id
    made_once_with c x y = elim (made_with c x) [
      | inl one ↦ elim (made_with c y) [ inl two ↦ one.0 ∙ sym two.0 | inr two ↦ absurd (alone c one.1 y.id two.0 two.1) ]
      | inr one ↦ elim (made_with c y) [
        | inl two ↦ absurd (alone c two.1 x.id one.0 one.1)
        | inr two ↦ once c (record { id = x.id; makes = one.1 }) (record { id = y.id; makes = two.1 })
      ]
    ]
