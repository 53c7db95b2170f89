-- The identifiers of a directory: which are listed, and what its order says of them.
use Rattle.std.proofs.Common.{◌≡◌, ◌≢◌, inl, inr, ℕ, ◌<◌, Bool, true, false, cond, ◌&&◌, ◌==◌, not, List, [], ◌∷◌, None, refl, sym, ◌∙◌, ap, subst, arith, is_some}
use Rattle.cfs_recover.proofs.Words.{Kind, Listing, Puid, among_itself, and_parts, blocks_rise, each_among, eqb-true, has_root_in, insert_entry, is_among, is_at, is_listing, is_some-lookup, keys_of, directory_kind, list_all, list_any, lookup-filter-keys, lookup-insert_entry, lookup-insert_same, nat_lt, nat_tests, ne_eqb, or_cases, or_right, puid_cmp, rises, same_puid, same_puid_is, same_puid_itself, without_id}

abbrev pub listed : List (Puid × Kind) → Puid → Bool
listed named x = is_some (directory_kind named x)

pub listed_is : (named : List (Puid × Kind)) (x : Puid) → listed named x ≡ is_among x (keys_of named)
listed_is named x = is_some-lookup (is_at (puid_cmp x)) named

-- ---- one more is put in

pub listed_new : (named : List (Puid × Kind)) (id : Puid) (kind : Kind) → listed (insert_entry puid_cmp named id kind) id ≡ true
listed_new named id kind = ap is_some (lookup-insert_same id named kind)

put_other : (named : List (Puid × Kind)) (id x : Puid) (kind : Kind) → same_puid x id ≡ false → listed (insert_entry puid_cmp named id kind) x ≡ listed named x
put_other named id x kind other = ap is_some (lookup-insert_entry x id named kind other)

-- what has P is what was listed, and the new one
pub listed_then : (named : List (Puid × Kind)) (id x : Puid) (kind : Kind) → listed named x ≡ true → listed (insert_entry puid_cmp named id kind) x ≡ true
listed_then named id x kind was = at (same_puid x id) refl
  where
    at : (b : Bool) → same_puid x id ≡ b → listed (insert_entry puid_cmp named id kind) x ≡ true
    at true same = subst (λ (y : Puid). listed (insert_entry puid_cmp named id kind) y ≡ true) (sym (same_puid_is x id same)) (listed_new named id kind)
    at false other = put_other named id x kind other ∙ was

pub listed_from : (P : Puid → Type 0) (named : List (Puid × Kind)) (id x : Puid) (kind : Kind) → P id → (listed named x ≡ true → P x) → listed (insert_entry puid_cmp named id kind) x ≡ true → P x
listed_from P named id x kind new old now = at (same_puid x id) refl
  where
    at : (b : Bool) → same_puid x id ≡ b → P x
    at true same = subst P (sym (same_puid_is x id same)) new
    at false other = old (sym (put_other named id x kind other) ∙ now)

-- ---- root blocks

-- one with this root block is listed
pub has_root : (named : List (Puid × Kind)) (x : Puid) → listed named x ≡ true → has_root_in named x.block ≡ true
has_root named x there = any (keys_of named) (sym (listed_is named x) ∙ there)
  where
    any : (ids : List Puid) → is_among x ids ≡ true → list_any (λ id. id.block == x.block) ids ≡ true
    any [] among = cc
    any (y ∷ ids) among = elim (or_cases (same_puid x y) (is_among x ids) among) [
      | inl same ↦ let is : y.block ≡ x.block = ap (λ (p : Puid). p.block) (sym (same_puid_is x y same)) in grind (arith, nat_tests)
      | inr later ↦ let rest = any ids later in rw rest (search (arith, nat_tests))
    ]

-- of a root block one is listed
pub listed_of_root : (named : List (Puid × Kind)) (block : ℕ) → has_root_in named block ≡ true → (x : Puid) × (listed named x ≡ true) × (x.block ≡ block)
listed_of_root named block has = at (keys_of named) has (λ x among. listed_is named x ∙ among)
  where
    at : (ids : List Puid) → list_any (λ x. x.block == block) ids ≡ true → ((x : Puid) → is_among x ids ≡ true → listed named x ≡ true) → (x : Puid) × (listed named x ≡ true) × (x.block ≡ block)
    at [] any each = cc
    at (y ∷ ids) any each = elim (or_cases (y.block == block) (list_any (λ x. x.block == block) ids) any) [
      | inl here ↦ (y, each y (among_itself y ids), eqb-true y.block block here)
      | inr rest ↦ at ids rest (λ x among. each x (or_right (same_puid x y) (is_among x ids) among))
    ]

-- and still is, as one more is put in, or one is put in again
pub root_then : (named : List (Puid × Kind)) (id : Puid) (block : ℕ) (kind : Kind) → has_root_in named block ≡ true → has_root_in (insert_entry puid_cmp named id kind) block ≡ true
root_then named id block kind was =
    let one = listed_of_root named block was in
    ap (has_root_in (insert_entry puid_cmp named id kind)) (sym one.2) ∙ has_root (insert_entry puid_cmp named id kind) one.0 (listed_then named id one.0 kind one.1)

-- two that are listed have root blocks of their own
alone : (ids : List Puid) (x y : Puid) → blocks_rise ids ≡ true → is_among x ids ≡ true → is_among y ids ≡ true → x.block ≡ y.block → x ≡ y
alone [] x y rise one two same = cc
alone (z ∷ ids) x y rise one two same =
    let parts = and_parts (list_all (λ o. nat_lt z.block o.block) ids) (blocks_rise ids) rise in
    elim (or_cases (same_puid x z) (is_among x ids) one) [
      | inl first ↦ elim (or_cases (same_puid y z) (is_among y ids) two) [
        | inl both ↦ same_puid_is x z first ∙ sym (same_puid_is y z both)
        | inr later ↦
            let above = each_among (λ o. nat_lt z.block o.block) y ids parts.0 later in
            let is : x.block ≡ z.block = ap (λ (p : Puid). p.block) (same_puid_is x z first) in
            absurd (grind (arith, nat_tests))
      ]
      | inr further ↦ elim (or_cases (same_puid y z) (is_among y ids) two) [
        | inl second ↦
            let above = each_among (λ o. nat_lt z.block o.block) x ids parts.0 further in
            let is : y.block ≡ z.block = ap (λ (p : Puid). p.block) (same_puid_is y z second) in
            absurd (grind (arith, nat_tests))
        | inr later ↦ alone ids x y parts.1 further later same
      ]
    ]

-- ---- one is taken out

-- what is left was listed, and is another
pub left : (named : List (Puid × Kind)) (x y : Puid) → listed (without_id named x) y ≡ true → (listed named y ≡ true) × (same_puid y x ≡ false)
left named x y there = at (same_puid y x) refl
  where
    found : directory_kind (without_id named x) y ≡ cond (not (same_puid y x)) (directory_kind named y) None
    found = lookup-filter-keys (is_at (puid_cmp y)) (λ k. not (same_puid k x)) (not (same_puid y x)) (λ k same. ap (λ (z : Puid). not (same_puid z x)) (sym (same_puid_is y k same))) named

    at : (b : Bool) → same_puid y x ≡ b → (listed named y ≡ true) × (same_puid y x ≡ false)
    at true same = let no = sym (ap is_some (found ∙ ap (λ (b : Bool). cond (not b) (directory_kind named y) None) same)) ∙ there in cc
    at false other = (sym (ap is_some (found ∙ ap (λ (b : Bool). cond (not b) (directory_kind named y) None) other)) ∙ there, other)

-- put in again, all that was listed is
pub put_again : (named : List (Puid × Kind)) (id x : Puid) (kind : Kind) → listed named x ≡ true → listed (insert_entry puid_cmp (without_id named id) id kind) x ≡ true
put_again named id x kind was = at (same_puid x id) refl
  where
    at : (b : Bool) → same_puid x id ≡ b → listed (insert_entry puid_cmp (without_id named id) id kind) x ≡ true
    at true same = subst (λ (y : Puid). listed (insert_entry puid_cmp (without_id named id) id kind) y ≡ true) (sym (same_puid_is x id same)) (listed_new (without_id named id) id kind)
    at false other = put_other (without_id named id) id x kind other
        ∙ ap is_some (lookup-filter-keys (is_at (puid_cmp x)) (λ k. not (same_puid k id)) (not (same_puid x id)) (λ k same. ap (λ (z : Puid). not (same_puid z id)) (sym (same_puid_is x k same))) named)
        ∙ ap (λ (b : Bool). is_some (cond (not b) (directory_kind named x) None)) other ∙ was

pub root_again : (named : List (Puid × Kind)) (id : Puid) (block : ℕ) (kind : Kind) → listed named id ≡ true → has_root_in named block ≡ true → has_root_in (insert_entry puid_cmp (without_id named id) id kind) block ≡ true
root_again named id block kind there was =
    let one = listed_of_root named block was in
    ap (has_root_in (insert_entry puid_cmp (without_id named id) id kind)) (sym one.2) ∙ has_root (insert_entry puid_cmp (without_id named id) id kind) one.0 (put_again named id one.0 kind one.1)

none_passes : (P : Puid → Bool) (ids : List Puid) → ((y : Puid) → is_among y ids ≡ true → P y ≡ false) → list_any P ids ≡ false
none_passes P [] fails = refl
none_passes P (y ∷ ids) fails =
    let here = fails y (among_itself y ids) in
    let rest = none_passes P ids (λ z among. fails z (or_right (same_puid z y) (is_among z ids) among)) in
    rw (here, rest) refl

-- ---- a directory

module _ (d : Listing) (listing : is_listing d ≡ true) where
  pub is_alone : (x y : Puid) → listed d.named x ≡ true → listed d.named y ≡ true → x.block ≡ y.block → x ≡ y
  is_alone x y one two same =
      let ids = keys_of d.named in
      let order = and_parts (rises ids && blocks_rise ids) (list_all (λ id. nat_lt id.block d.room) ids) listing in
      let parts = and_parts (rises ids) (blocks_rise ids) order.0 in
      alone ids x y parts.1 (sym (listed_is d.named x) ∙ one) (sym (listed_is d.named y) ∙ two) same

  pub is_below : (x : Puid) → listed d.named x ≡ true → x.block < d.room
  is_below x there =
      let ids = keys_of d.named in
      let parts = and_parts (rises ids && blocks_rise ids) (list_all (λ id. nat_lt id.block d.room) ids) listing in
      let below = each_among (λ id. nat_lt id.block d.room) x ids parts.1 (sym (listed_is d.named x) ∙ there) in
      grind (arith, nat_tests)

  -- once it is taken out none has its root block
  pub root_is_free : (x : Puid) → listed d.named x ≡ true → has_root_in (without_id d.named x) x.block ≡ false
  root_is_free x there = none_passes (λ id. id.block == x.block) (keys_of (without_id d.named x)) (λ y among.
      let was = left d.named x y (listed_is (without_id d.named x) y ∙ among) in
      let apart : y.block ≢ x.block = λ same. let is = is_alone y x was.0 there same in
      let no = sym (ap (λ (z : Puid). same_puid z x) is ∙ same_puid_itself x) ∙ was.1 in cc in
      ne_eqb y.block x.block apart)
