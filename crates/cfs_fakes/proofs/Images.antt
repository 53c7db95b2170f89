-- What a crash leaves after one call more.
use Rattle.std.proofs.Common.{◌≡◌, ◌≢◌, ◌⊎◌, inl, inr, ℕ, suc, ◌+◌, ◌-◌, ◌<◌, ◌≤◌, min, get_or, Bool, true, false, nat_eq, if◌then◌else◌, List, [], ◌∷◌, length, set, refl, sym, ◌∙◌, ap, subst, arith, length-set, get_or-set_same, get_or-set_other, set-set, ext_get_or}
use Rattle.std.proofs.lemmas.List.{set-get_or}
use Rattle.std.proofs.lemmas.Bool.{cases_eq, cases_lt}
use Rattle.std.proofs.lemmas.Bool.Decides.{nat_tests}
use Rattle.cfs_base.specs.Disk.{Image, block_at, Written}
use Rattle.cfs_fakes.specs.declared.kept.Call.{Call}
use Rattle.cfs_fakes.specs.declared.kept.Call.TheVariants.{Write, Barrier}
use Rattle.cfs_fakes.specs.Replay.{DiskState, after, writes_to, chosen, AreChoices, IsChoice, IsImage}

-- the writes to a block after a write to it
writes_same : (n : ℕ) (b : List ℕ) (ws : List (ℕ × List ℕ)) → writes_to n ((n, b) ∷ ws) ≡ b ∷ writes_to n ws
writes_same n b ws = grind (arith, nat_tests)

-- after a write to another
writes_other : (m n : ℕ) (b : List ℕ) (ws : List (ℕ × List ℕ)) → m ≢ n → writes_to m ((n, b) ∷ ws) ≡ writes_to m ws
writes_other m n b ws not = grind (arith, nat_tests)

-- a choice past the last write is the last write
chosen_cap : (k : ℕ) (base : List ℕ) (ws : List (List ℕ)) → chosen (min k (length ws)) base ws ≡ chosen k base ws
chosen_cap k base [] = refl
chosen_cap k base (w ∷ older) = grind (arith, nat_tests)

-- the newest write is chosen
chosen_new : (k : ℕ) (base w : List ℕ) (older : List (List ℕ)) → length older < k → chosen k base (w ∷ older) ≡ w
chosen_new k base w older lt = grind (arith, nat_tests)

chosen_none : (base : List ℕ) (ws : List (List ℕ)) → chosen 0 base ws ≡ base
chosen_none base [] = refl
chosen_none base (w ∷ older) = let h = chosen_none base older in grind (arith, nat_tests)

chosen_older : (k : ℕ) (base w : List ℕ) (older : List (List ℕ)) → k ≤ length older → chosen k base (w ∷ older) ≡ chosen k base older
chosen_older k base w older le = grind (arith, nat_tests)

-- the choice k is the k-th write
chosen_one : (k : ℕ) (base : List ℕ) (ws : List (List ℕ)) → 0 < k → k ≤ length ws → chosen k base ws ≡ get_or ws (length ws - k) []
chosen_one k base [] some le = absurd (omega (arith, some, le))
chosen_one k base (w ∷ older) some le = elim (cases_lt (length older) k) [
  | inl newest ↦ chosen_new k base w older newest ∙ sym (ap (λ (i : ℕ). get_or (w ∷ older) i []) (let e : length (w ∷ older) - k ≡ 0 = omega (arith, newest, le) in e))
  | inr among ↦ chosen_older k base w older among ∙ chosen_one k base older some among
      ∙ sym (ap (λ (i : ℕ). get_or (w ∷ older) i []) (let e : length (w ∷ older) - k ≡ suc (length older - k) = omega (arith, among) in e))
]

-- a choice from the last write on is the last write
chosen_last : (k : ℕ) (base : List ℕ) (ws : List (List ℕ)) → length ws ≤ k → chosen k base ws ≡ chosen (length ws) base ws
chosen_last k base ws le = sym (chosen_cap k base ws) ∙ ap (λ (i : ℕ). chosen i base ws) (omega (arith, le))

-- an older one is
chosen_old : (m n k : ℕ) (base b : List ℕ) (ws : List (ℕ × List ℕ)) → (m ≡ n → k ≤ length (writes_to n ws)) → chosen k base (writes_to m ((n, b) ∷ ws)) ≡ chosen k base (writes_to m ws)
chosen_old m n k base b ws le = elim (cases_eq m n) [
  | inl same ↦ subst (λ (j : ℕ). chosen k base (writes_to j ((n, b) ∷ ws)) ≡ chosen k base (writes_to j ws)) (sym same) (ap (chosen k base) (writes_same n b ws) ∙ chosen_older k base b (writes_to n ws) (le same))
  | inr not ↦ ap (chosen k base) (writes_other m n b ws not)
]

-- the same choices by another name
pub same_choice : (s : DiskState) (f g : ℕ → ℕ) (c : Image) → IsChoice s f c → ((n : ℕ) → n < length c → f n ≡ g n) → IsChoice s g c
same_choice s f g c is same = record { size = is.size; each = λ n le. is.each n le ∙ ap (λ (k : ℕ). chosen k (block_at s.base n) (writes_to n s.pending)) (same n le) }

-- the choice k for block n, and those that were for the others
abbrev with_choice : ℕ → ℕ → (ℕ → ℕ) → ℕ → ℕ
with_choice n k choice m = if nat_eq m n then k else choice m

with_same : (n k : ℕ) (choice : ℕ → ℕ) → with_choice n k choice n ≡ k
with_same n k choice = grind (arith, nat_tests)

with_other : (n k : ℕ) (choice : ℕ → ℕ) (m : ℕ) → m ≢ n → with_choice n k choice m ≡ choice m
with_other n k choice m not = grind (arith, nat_tests)

-- the image by other choices, at block n and at the others
rechosen : (s : DiskState) (n k : ℕ) (choice : ℕ → ℕ) (c : Image) → length c ≡ length s.base → (n < length c → block_at c n ≡ chosen k (block_at s.base n) (writes_to n s.pending)) → ((m : ℕ) → m ≢ n → m < length c → block_at c m ≡ chosen (choice m) (block_at s.base m) (writes_to m s.pending)) → IsImage s c
rechosen s n k choice c size here others = (
  with_choice n k choice,
  record {
    size = size;
    each = λ m le. elim (cases_eq m n) [
      | inl same ↦
          subst (λ (j : ℕ). j < length c → block_at c j ≡ chosen (with_choice n k choice j) (block_at s.base j) (writes_to j s.pending)) (sym same) (λ on. here on ∙ ap (λ (i : ℕ). chosen i (block_at s.base n) (writes_to n s.pending)) (sym (with_same n k choice))) le
      | inr not ↦ others m not le ∙ ap (λ (i : ℕ). chosen i (block_at s.base m) (writes_to m s.pending)) (sym (with_other n k choice m not))
    ];
  },
)

module _ (s : DiskState) (n : ℕ) (b : List ℕ) (done : Bool) where
  -- the write isn't chosen: the image might have been left before
  not_chosen : (choice : ℕ → ℕ) (c : Image) → IsChoice (after (Write n b done) s) choice c → (n < length c → choice n ≤ length (writes_to n s.pending)) → IsImage s c
  not_chosen choice c is older = (
    choice,
    record { size = is.size; each = λ m le. is.each m le ∙ chosen_old m n (choice m) (block_at s.base m) b s.pending (λ (e : m ≡ n). subst (λ (j : ℕ). j < length c → choice j ≤ length (writes_to n s.pending)) (sym e) older le) },
  )

  -- the write is chosen: the image is one that might have been left before, with the write
  is_chosen : (choice : ℕ → ℕ) (c : Image) → IsChoice (after (Write n b done) s) choice c → n < length c → length (writes_to n s.pending) < choice n → Written (IsImage s) n b c
  is_chosen choice c is on newest =
      let base : List ℕ = block_at s.base n in
      let older : List (List ℕ) = writes_to n s.pending in
      let long : length (set c n base) ≡ length c = length-set c n base in
      let holds : block_at c n ≡ b = is.each n on ∙ ap (chosen (choice n) base) (writes_same n b s.pending) ∙ chosen_new (choice n) base b older newest in (
        set c n base,
        rechosen s n 0 choice (set c n base) (long ∙ is.size) (λ le. get_or-set_same c n base [] on ∙ sym (chosen_none base older))
            (λ m not le. get_or-set_other c n m base [] not ∙ is.each m (omega (arith, le, long)) ∙ ap (chosen (choice m) (block_at s.base m)) (writes_other m n b s.pending not)),
        sym (set-set c n base b ∙ ap (λ (x : List ℕ). set c n x) (sym holds) ∙ set-get_or c n []),
      )

  -- what a crash leaves after a write that was tried: what it left before, or that with the block written
  pub tried : (c : Image) → IsImage (after (Write n b done) s) c → IsImage s c ⊎ Written (IsImage s) n b c
  tried c h = elim (cases_lt n (length c)) [
    | inl on ↦ elim (cases_lt (length (writes_to n s.pending)) (h.0 n)) [
      | inl newest ↦ inr (is_chosen h.0 c h.1 on newest)
      | inr older ↦ inl (not_chosen h.0 c h.1 (λ le. older))
    ]
    | inr off ↦ inl (not_chosen h.0 c h.1 (λ le. absurd (omega (arith, le, off))))
  ]

-- after a barrier a crash leaves the content
pub flushed : (s : DiskState) (c : Image) → IsImage (after Barrier s) c → c ≡ s.content
flushed s c h = ext_get_or [] c s.content h.1.size (λ n le. h.1.each n le)

-- the content is one of the images
pub after_content : (call : Call) (s : DiskState) → IsImage s s.content → IsImage (after call s) (after call s).content
after_content (Write n b true) s h =
    let long : length (set s.content n b) ≡ length s.content = length-set s.content n b in
    let older : List (List ℕ) = writes_to n s.pending in
    rechosen (after (Write n b true) s) n (length older + 1) h.0 (set s.content n b) (long ∙ h.1.size)
    (λ le. get_or-set_same s.content n b [] (omega (arith, le, long)) ∙ sym (ap (chosen (length older + 1) (block_at s.base n)) (writes_same n b s.pending) ∙ chosen_new (length older + 1) (block_at s.base n) b older (omega arith)))
    (λ m not le. get_or-set_other s.content n m b [] not ∙ h.1.each m (omega (arith, le, long)) ∙ ap (chosen (h.0 m) (block_at s.base m)) (sym (writes_other m n b s.pending not)))
after_content (Write n b false) s h = (
  λ m. min (h.0 m) (length (writes_to m s.pending)),
  record {
    size = h.1.size;
    each = λ m le. h.1.each m le ∙ sym (chosen_cap (h.0 m) (block_at s.base m) (writes_to m s.pending))
        ∙ sym (chosen_old m n (min (h.0 m) (length (writes_to m s.pending))) (block_at s.base m) b s.pending (λ (e : m ≡ n). subst (λ (j : ℕ). min (h.0 m) (length (writes_to m s.pending)) ≤ length (writes_to j s.pending)) e (omega arith)));
  },
)
after_content Barrier s h = (λ m. 0, record { size = refl; each = λ m le. refl })

-- what each choice stands for
pub choices_stand : (writes : List (List ℕ)) → AreChoices writes
choices_stand writes = record { none = λ base. chosen_none base writes; one = λ k base some le. chosen_one k base writes some le; last = λ k base le. chosen_last k base writes le }
