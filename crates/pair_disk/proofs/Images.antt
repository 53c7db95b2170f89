-- What a crash leaves of a disk in memory after one call more.
use Rattle.std.proofs.Common.{◌≡◌, ◌≢◌, ◌⊎◌, inl, inr, ⊎_elim, ℕ, ◌<◌, ◌≤◌, Bool, true, false, ◌||◌, nat_eq, List, [], length, set, refl, sym, ◌∙◌, ap, subst, arith, length-set, get_or-set_same, get_or-set_other, set-set, ext_get_or, Vec, Global}
use Rattle.pair_disk.proofs.Words.{AreBlocks, Barrier, Block, History, Image, IsBlock, IsTornImage, KeptCall, LeavesOnly, Nothing, TornState, Torn, Write, torn_next, block_at, cases_eq, history_clock, count_of, history_left, lifted, nat_tests, replayed_writes, set-get_or, torn_now, unwritten}

-- a number is itself, and no other
is_self : (n : ℕ) (b : Bool) → (nat_eq n n || b) ≡ true
is_self n b = grind (arith, nat_tests)

apart : (k n : ℕ) (b : Bool) → k ≢ n → (nat_eq k n || b) ≡ b
apart k n b not = grind (arith, nat_tests)

torn_too : (k n : ℕ) (b : Bool) → b ≡ true → (nat_eq k n || b) ≡ true
torn_too k n b is = elim (cases_eq k n) [
  | inl same ↦ subst (λ (j : ℕ). (nat_eq j n || b) ≡ true) (sym same) (is_self n b)
  | inr not ↦ apart k n b not ∙ is
]

-- a block that isn't torn is another
not_it : (k n : ℕ) (b : Bool) → (nat_eq k n || b) ≡ false → k ≢ n
not_it k n b is = λ (e : k ≡ n). let yes : (nat_eq k n || b) ≡ true = subst (λ (j : ℕ). (nat_eq j n || b) ≡ true) (sym e) (is_self n b) in cc

-- a block that is put, in all blocks
pub blocks_set : (image : Image) (n : ℕ) (b : List ℕ) → AreBlocks image → (n < length image → IsBlock b) → AreBlocks (set image n b)
blocks_set image n b are is = λ k on.
    let P : List ℕ → Type 0 = IsBlock in
    let long : length (set image n b) ≡ length image = length-set image n b in
    elim (cases_eq k n) [
      | inl same ↦ subst (λ (j : ℕ). IsBlock (block_at (set image n b) j)) (sym same) (let here : n < length image = omega (arith, on, same, long) in subst P (sym (get_or-set_same image n b [] here)) (is here))
      | inr not ↦ subst P (sym (get_or-set_other image n k b [] not)) (are k (omega (arith, on, long)))
    ]

-- a torn block may have any bytes
pub image_set : (s : TornState) (c : Image) (n : ℕ) (b : List ℕ) → IsTornImage s c → s.torn n ≡ true → (n < length c → IsBlock b) → IsTornImage s (set c n b)
image_set s c n b is torn block =
    let P : List ℕ → Type 0 = IsBlock in
    let long : length (set c n b) ≡ length c = length-set c n b in
    record {
      size = long ∙ is.size;
      whole = λ k whole. get_or-set_other c n k b [] (λ (e : k ≡ n). let same : s.torn k ≡ s.torn n = ap s.torn e in cc) ∙ is.whole k whole;
      torn = λ k on was. elim (cases_eq k n) [
        | inl same ↦ subst (λ (j : ℕ). IsBlock (block_at (set c n b) j)) (sym same) (let here : n < length c = omega (arith, on, same, long) in subst P (sym (get_or-set_same c n b [] here)) (block here))
        | inr not ↦ subst P (sym (get_or-set_other c n k b [] not)) (is.torn k (omega (arith, on, long)) was)
      ];
    }

module _ (s : TornState) (n : ℕ) (c : Image) (on : n < length c) (h : IsTornImage (torn_next (Write n) s) c) where
  -- the block was torn before
  was_torn : s.torn n ≡ true → IsTornImage s c
  was_torn torn = record {
    size = h.size;
    whole = λ k whole. h.whole k (apart k n (s.torn k) (λ (e : k ≡ n). let same : s.torn k ≡ s.torn n = ap s.torn e in cc) ∙ whole);
    torn = λ k below was. h.torn k below (torn_too k n (s.torn k) was);
  }

  -- it is now
  is_torn : s.torn n ≡ false → Torn (IsTornImage s) n c
  is_torn whole =
      let P : List ℕ → Type 0 = IsBlock in
      let b : List ℕ = block_at s.base n in
      let before : Image = set c n b in
      let long : length before ≡ length c = length-set c n b in (
        before,
        record {
          size = long ∙ h.size;
          whole = λ k is. elim (cases_eq k n) [
            | inl same ↦ subst (λ (j : ℕ). block_at before j ≡ block_at s.base j) (sym same) (get_or-set_same c n b [] on)
            | inr not ↦ get_or-set_other c n k b [] not ∙ h.whole k (apart k n (s.torn k) not ∙ is)
          ];
          torn = λ k below is.
              let not : k ≢ n = λ (e : k ≡ n). let same : s.torn k ≡ s.torn n = ap s.torn e in cc in
              subst P (sym (get_or-set_other c n k b [] not)) (h.torn k (omega (arith, below, long)) (apart k n (s.torn k) not ∙ is));
        },
        (block_at c n, h.torn n on (is_self n (s.torn n)), sym (set-set c n b (block_at c n) ∙ set-get_or c n [])),
      )

  -- what a crash leaves after a write that was tried: what it left before, or that with the block torn
  pub tried : IsTornImage s c ⊎ Torn (IsTornImage s) n c
  tried = elim (cases_torn (s.torn n)) [ inl was ↦ inl (was_torn was) | inr whole ↦ inr (is_torn whole) ]
    where
      cases_torn : (b : Bool) → (b ≡ true) ⊎ (b ≡ false)
      cases_torn true = inl refl
      cases_torn false = inr refl

-- after a barrier it leaves the content
pub flushed : (s : TornState) (blocks : Vec Block Global) (c : Image) → IsTornImage (torn_next (Barrier blocks) s) c → c ≡ blocks.items
flushed s blocks c h = ext_get_or [] c blocks.items h.size (λ n on. h.whole n refl)

-- nothing was written yet
pub fresh : (h : History) (t : ℕ) → h.kept.items ≡ [] → (c : Image) → history_left h t c → c ≡ h.first.items
fresh h t none c left =
    let is = subst (λ (calls : List KeptCall). IsTornImage (replayed_writes (unwritten h.first.items) left.0 calls) c) none left.3 in
    ext_get_or [] c h.first.items is.size (λ n on. is.whole n refl)

-- what a history says of the disk that holds it
module _ {D : Type 0} (history : D → History) where
  -- a write that was tried
  pub writes : {old new : D} (n : ℕ) → n < count_of (history old) → LeavesOnly history_clock history_left (history old) (history new) (IsTornImage (torn_next (Write n) (torn_now (history old))))
      → LeavesOnly (λ d. history_clock (history d)) (λ d. history_left (history d)) old new (Torn (history_left (history old) (history_clock (history old))) n)
  writes {old} n on images = lifted history_clock history_left history images (λ c h.
      let m : ℕ = history_clock (history old) in
      let s : TornState = torn_now (history old) in
      ⊎_elim (λ is. inl (λ t le. (m, le, omega arith, is))) (λ torn. inr (torn.0, (m, omega arith, omega arith, torn.1), torn.2)) (tried s n c (omega (arith, on, h.size, ((history old).sized m).size)) h))

  -- a barrier
  pub flushes : {old new : D} (blocks : Vec Block Global) → ((t : ℕ) → t ≤ history_clock (history old) → history_left (history old) t blocks.items) → LeavesOnly history_clock history_left (history old) (history new) (IsTornImage (torn_next (Barrier blocks) (torn_now (history old))))
      → LeavesOnly (λ d. history_clock (history d)) (λ d. history_left (history d)) old new Nothing
  flushes {old} blocks may images =
      lifted history_clock history_left history images (λ c h. inl (λ t le. subst (history_left (history old) t) (sym (flushed (torn_now (history old)) blocks c h)) (may t le)))
