-- The 512 bytes of a leaf, by the bytes that it holds.
use Rattle.std.proofs.Common.{◌≡◌, inl, inr, ℕ, ◌+◌, ◌-◌, ◌*◌, ◌/◌, ◌%◌, ◌<◌, ◌≤◌, List, ◌++◌, length, get_or, take, replicate, Option, Some, None, true, refl, ◌∙◌, ap, arith}
use Rattle.leaf_changes.proofs.Words.{Held, LeavesFit, Root, bytes_held, cases_lt, get_or-append_right, get_or-replicate, get_or-take, get_or_append_left, is_some, leaf_byte, leaf_content, leaves_in, length-append, length-replicate, length-take, take_at}

pub length-leaf_content : (fill : ℕ) (o : Option Held) → length (leaf_content fill o) ≡ 512
length-leaf_content fill None = length-replicate 512 fill
length-leaf_content fill (Some h) = omega (arith, length-take 512 (h.content ++ replicate 512 fill), length-append h.content (replicate 512 fill), length-replicate 512 fill)

-- what is seen of a leaf depends on its bytes alone
pub same_content : (fill : ℕ) (o p : Option Held) → bytes_held o ≡ bytes_held p → leaf_content fill o ≡ leaf_content fill p
same_content fill None None same = refl
same_content fill None (Some h) same = cc
same_content fill (Some g) None same = cc
same_content fill (Some g) (Some h) same = let e : g.content ≡ h.content = cc in ap (λ (bytes : List ℕ). take 512 (bytes ++ replicate 512 fill)) e

pub same_held : (o p : Option Held) → bytes_held o ≡ bytes_held p → is_some o ≡ is_some p
same_held None None same = refl
same_held None (Some h) same = cc
same_held (Some g) None same = cc
same_held (Some g) (Some h) same = refl

-- a leaf that has 512 bytes
pub content_is : (fill : ℕ) (o : Option Held) (bytes : List ℕ) → bytes_held o ≡ Some bytes → length bytes ≡ 512 → leaf_content fill o ≡ bytes
content_is fill None bytes is long = cc
content_is fill (Some h) bytes is long =
    let e : h.content ≡ bytes = cc in
    ap (λ (c : List ℕ). take 512 (c ++ replicate 512 fill)) e ∙ take_at bytes (replicate 512 fill) 512 long

pub held_is : (o : Option Held) (bytes : List ℕ) → bytes_held o ≡ Some bytes → (h : Held) × (o ≡ Some h) × (h.content ≡ bytes)
held_is None bytes is = cc
held_is (Some h) bytes is = (h, refl, cc)

-- byte by byte
pub absent_byte : (fill i : ℕ) → i < 512 → get_or (leaf_content fill None) i 0 ≡ fill
absent_byte fill i small = get_or-replicate 512 i fill 0 small

pub held_byte : (fill : ℕ) (h : Held) (i : ℕ) → i < 512 → i < length h.content → get_or (leaf_content fill (Some h)) i 0 ≡ get_or h.content i 0
held_byte fill h i small inside = get_or-take 512 (h.content ++ replicate 512 fill) i 0 small ∙ get_or_append_left h.content (replicate 512 fill) 0 i inside

pub fill_byte : (fill : ℕ) (h : Held) (i : ℕ) → i < 512 → length h.content ≤ i → get_or (leaf_content fill (Some h)) i 0 ≡ fill
fill_byte fill h i small past =
    get_or-take 512 (h.content ++ replicate 512 fill) i 0 small
    ∙ get_or-append_right h.content (replicate 512 fill) (length h.content) i 0 refl past ∙ get_or-replicate 512 (i - length h.content) fill 0 (omega arith)

-- ---- leaves that fit a size

module _ (root : Root) (leaf : ℕ → Option Held) (fit : LeavesFit root leaf) where
  -- past the size a leaf has fill bytes, held or not
  pub past_size : (n i : ℕ) → i < 512 → root.size ≤ 512 * n + i → get_or (leaf_content root.fill (leaf n)) i 0 ≡ root.fill
  past_size n i small past = of (leaf n) refl
    where
      of : (o : Option Held) → leaf n ≡ o → get_or (leaf_content root.fill o) i 0 ≡ root.fill
      of None is = absent_byte root.fill i small
      of (Some h) is = elim (cases_lt i (length h.content)) [
        | inl inside ↦ held_byte root.fill h i small inside ∙ fit.filled n i h is small past
        | inr outside ↦ fill_byte root.fill h i small outside
      ]

  pub byte_past_size : (k : ℕ) → root.size ≤ k → leaf_byte root.fill leaf k ≡ root.fill
  byte_past_size k past = past_size (k / 512) (k % 512) (omega arith) (omega arith)

  pub held_within : (n : ℕ) → is_some (leaf n) ≡ true → n < leaves_in root.size
  held_within n some = of (leaf n) refl some
    where
      of : (o : Option Held) → leaf n ≡ o → is_some o ≡ true → n < leaves_in root.size
      of None is none = cc
      of (Some h) is there = fit.within n h is
