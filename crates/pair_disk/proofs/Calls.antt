-- Calls on the disk below, one after the other.
use Rattle.std.proofs.Common.{◌≡◌, ◌≢◌, ◌⊎◌, inl, inr, ⊎_elim, ℕ, ◌/◌, ◌<◌, ◌≤◌, Result, Ok, Err, OnOk, IsTrue, List, [], length, set, refl, sym, ◌∙◌, ap, subst, arith, get_or-set_same, get_or-set_other}
use Rattle.pair_disk.proofs.Words.{ChangesPair, Ghosts, Half, Image, IsFlushed, IsSameDisk, LeavesOnly, Nothing, PairLeft, PutsBelow, Stays, Torn, Written, and_from, and_parts, block_at, gate_at, gate_for, half_at, half_on, joined, other_half, pairs_in, shown_by, shown_half_of, tells_both, tells_pair, widened}
use Rattle.pair_disk.proofs.Pairs.{gate_apart, gate_turned, gate_written, halves_apart, hidden_written}

-- what was promised of one that is done, made into more
pub on_ok : {V E P Q : Type 0} (r : Result V E) → OnOk r P → (P → Q) → OnOk r Q
on_ok (Ok v) p to = to p
on_ok (Err e) p to = tt

module _ {T : Type 0} (g : Ghosts T) where
  -- what a disk that tells both is
  pub tells_two : (d : T) → IsTrue (tells_both g d) → IsTrue (g.honest d) × IsTrue (g.tells_images d)
  tells_two d tells = and_parts (g.honest d) (g.tells_images d) tells

  told_both : (old new : T) → IsSameDisk g.blocks g.honest g.tells_images old new → IsTrue (tells_both g new) → IsTrue (tells_both g old)
  told_both old new same tells =
      let is = tells_two new tells in
      and_from (g.honest old) (g.tells_images old) (sym same.honesty ∙ is.0) (sym same.telling ∙ is.1)

  -- what images below show
  pub lifts : (old new : T) (P Q : Image → Type 0) → LeavesOnly g.moment g.left_since old new P → IsSameDisk g.blocks g.honest g.tells_images old new
      → ((below : Image) → IsTrue (tells_both g old) → P below → ((t : ℕ) → t ≤ g.moment old → PairLeft g old t (pairs_in below)) ⊎ Q (pairs_in below))
      → LeavesOnly g.moment (PairLeft g) old new (λ c. IsTrue (tells_both g old) × Q c)
  lifts old new P Q run same has = record {
    later = run.later;
    since = λ t c le h. shows t c le h.1.0 (told_both old new same h.0) h.1.2 (run.since t h.1.0 le h.1.1);
    now = λ c h. shows (g.moment old) c (omega arith) h.1.0 (told_both old new same h.0) h.1.2 (run.now h.1.0 h.1.1);
  }
    where
      shows : (t : ℕ) (c : Image) → t ≤ g.moment old → (below : Image) → IsTrue (tells_both g old) → c ≡ pairs_in below → g.left_since old t below ⊎ P below → PairLeft g old t c ⊎ (IsTrue (tells_both g old) × Q c)
      shows t c le below tells is left = ⊎_elim (λ was. inl (tells, (below, was, is)))
          (λ p. ⊎_elim (λ may. inl (subst (λ (i : Image). PairLeft g old t i) (sym is) (may t le))) (λ q. inr (tells, subst Q (sym is) q)) (has below tells p)) left

  -- calls that write nothing
  pub stays_shown : (old new : T) (Q : Image → Type 0) → Stays g old new → LeavesOnly g.moment (PairLeft g) old new Q
  stays_shown old new Q stays = widened g.moment (PairLeft g) old new (λ c. IsTrue (tells_both g old) × Nothing c) Q
      (lifts old new Nothing Nothing stays.images stays.same (λ below tells none. absurd none)) (λ c none. absurd none.1)

  -- a barrier after a write
  pub then_stays : (at : ℕ) (old mid new : T) → PutsBelow g at old mid → Stays g mid new → PutsBelow g at old new
  then_stays at old mid new wrote stays = record {
    put = λ honest. let was = wrote.put honest in (was.0, stays.content ∙ was.1);
    told_others = λ k not was. stays.told k (wrote.told_others k not was);
    images = joined g.moment g.left_since old mid new (Torn (λ c. g.left_since old (g.moment old) c) at) Nothing wrote.images stays.images (λ c none. absurd none);
    keeps = λ t c le was. stays.keeps t c (omega (arith, le, wrote.images.later)) (wrote.keeps t c le was);
    same = record { size = stays.same.size ∙ wrote.same.size; honesty = stays.same.honesty ∙ wrote.same.honesty; telling = stays.same.telling ∙ wrote.same.telling };
    faults = omega (arith, wrote.faults, stays.faults);
    clock = omega (arith, wrote.clock, stays.images.later);
  }

  -- what is told of block m where its gate is as it was
  tells_on : (old new : T) (m : ℕ) → block_at (g.content new) (gate_at m) ≡ block_at (g.content old) (gate_at m)
      → ((k : ℕ) → (k ≡ gate_at m) ⊎ (k ≡ half_at (shown_half_of (g.content old) m) m) → IsTrue (g.told old k) → IsTrue (g.told new k)) → IsTrue (tells_pair g old m) → IsTrue (tells_pair g new m)
  tells_on old new m gate told tells =
      let half : ℕ = half_at (shown_half_of (g.content old) m) m in
      let is = and_parts (g.told old (gate_at m)) (g.told old half) tells in
      and_from (g.told new (gate_at m)) (g.told new (half_at (shown_half_of (g.content new) m) m)) (told (gate_at m) (inl refl) is.0)
      (subst (λ (b : List ℕ). IsTrue (g.told new (half_at (shown_by b) m))) (sym gate) (told half (inr refl) is.1))

  -- the content as it was
  pub stays_left : ((d : T) (t : ℕ) → IsTrue (g.tells_images d) → t ≤ g.moment d → g.left_since d t (g.content d)) → (old : T) → IsTrue (tells_both g old) → (shown : Image) → shown ≡ pairs_in (g.content old)
      → (t : ℕ) → t ≤ g.moment old → PairLeft g old t shown
  stays_left may_stay old tells shown is t le = (tells, (g.content old, may_stay old t (tells_two old tells).1 le, is))

  module _ (honest : (d : T) (n : ℕ) → IsTrue (g.told d n) → IsTrue (g.honest d)) (may_stay : (d : T) (t : ℕ) → IsTrue (g.tells_images d) → t ≤ g.moment d → g.left_since d t (g.content d)) where
    -- what a crash leaves of one torn block, where the block was written alone
    torn_alone : (old : T) (at : ℕ) → IsFlushed g old → (below : Image) → IsTrue (tells_both g old) → Torn (λ c. g.left_since old (g.moment old) c) at below → (bytes : List ℕ) × (below ≡ set (g.content old) at bytes)
    torn_alone old at flushed below tells torn = (torn.2.0, torn.2.2 ∙ ap (λ (i : Image). set i at torn.2.0) (flushed.only (tells_two old tells).1 torn.0 torn.1))

    -- what is told of the other blocks of the pair disk
    others_told : (old new : T) (at m : ℕ) → PutsBelow g at old new → gate_at m ≢ at → ((h : Half) → half_at h m ≢ at) → IsTrue (tells_pair g old m) → IsTrue (tells_pair g new m)
    others_told old new at m wrote gate half tells =
        let shown : ℕ = half_at (shown_half_of (g.content old) m) m in
        let put = wrote.put (honest old (gate_at m) (and_parts (g.told old (gate_at m)) (g.told old shown) tells).0) in
        tells_on old new m (ap (λ (i : Image). block_at i (gate_at m)) put.1 ∙ get_or-set_other (g.content old) at (gate_at m) put.0 [] gate) (λ k is was. wrote.told_others k (elim is [
          | inl e ↦ subst (λ (j : ℕ). j ≢ at) (sym e) gate
          | inr e ↦ subst (λ (j : ℕ). j ≢ at) (sym e) (half (shown_half_of (g.content old) m))
        ]) was) tells

    module _ (n : ℕ) (old new : T) (flushed : IsFlushed g old) (hidden : Half) (is_hidden : IsTrue (g.honest old) → hidden ≡ other_half (shown_half_of (g.content old) n)) where
      hidden_kept : IsTrue (g.honest old) → (below : Image) (bytes : List ℕ) → below ≡ set (g.content old) (half_at hidden n) bytes → pairs_in below ≡ pairs_in (g.content old)
      hidden_kept tells below bytes is =
          ap pairs_in is ∙ ap (λ (h : Half). pairs_in (set (g.content old) (half_at h n) bytes)) (is_hidden tells) ∙ hidden_written (g.content old) n bytes

      -- the half that isn't shown is written
      pub half_changes : (P : Image → Type 0) → PutsBelow g (half_at hidden n) old new → ChangesPair g n P old new
      half_changes P wrote = record {
        content = λ tells. let put = wrote.put tells in inl (hidden_kept tells (g.content new) put.0 put.1);
        told_others = λ m not. others_told old new (half_at hidden n) m wrote (gate_apart hidden m n) (λ h. halves_apart h hidden m n not);
        images = lifts old new (Torn (λ c. g.left_since old (g.moment old) c) (half_at hidden n)) P wrote.images wrote.same (λ below tells torn.
            let alone = torn_alone old (half_at hidden n) flushed below tells torn in
            inl (stays_left may_stay old tells (pairs_in below) (hidden_kept (tells_two old tells).0 below alone.0 alone.1)));
        keeps = wrote.keeps;
        same = wrote.same;
        faults = wrote.faults;
        clock = wrote.clock;
      }

      module _ (on : IsTrue (g.honest old) → n < length (g.content old) / 3) where
        gate_torn : IsTrue (g.honest old) → (below : Image) (bytes : List ℕ) → below ≡ set (g.content old) (gate_at n) bytes
            → (pairs_in below ≡ pairs_in (g.content old)) ⊎ (pairs_in below ≡ set (pairs_in (g.content old)) n (block_at (g.content old) (half_at hidden n)))
        gate_torn tells below bytes is = elim (gate_written (g.content old) n bytes (on tells)) [
          | inl same ↦ inl (ap pairs_in is ∙ same)
          | inr turned ↦ inr (ap pairs_in is ∙ turned ∙ ap (λ (h : Half). set (pairs_in (g.content old)) n (block_at (g.content old) (half_at h n))) (sym (is_hidden tells)))
        ]

        -- the gate is written
        pub gate_changes : PutsBelow g (gate_at n) old new → ChangesPair g n (λ c. c ≡ set (pairs_in (g.content old)) n (block_at (g.content old) (half_at hidden n))) old new
        gate_changes wrote = record {
          content = λ tells. let put = wrote.put tells in gate_torn tells (g.content new) put.0 put.1;
          told_others = λ m not. others_told old new (gate_at n) m wrote (λ (e : gate_at m ≡ gate_at n). not (omega arith)) (λ h (e : half_at h m ≡ gate_at n). gate_apart h n m (sym e));
          images = lifts old new (Torn (λ c. g.left_since old (g.moment old) c) (gate_at n)) (λ c. c ≡ set (pairs_in (g.content old)) n (block_at (g.content old) (half_at hidden n))) wrote.images wrote.same (λ below tells torn.
              let alone = torn_alone old (gate_at n) flushed below tells torn in
              elim (gate_torn (tells_two old tells).0 below alone.0 alone.1) [
                | inl same ↦ inl (stays_left may_stay old tells (pairs_in below) same)
                | inr turned ↦ inr turned
              ]);
          keeps = wrote.keeps;
          same = wrote.same;
          faults = wrote.faults;
          clock = wrote.clock;
        }

  -- two writes below, one after the other
  pub changes_then : (n : ℕ) (P Q : Image → Type 0) (old mid new : T) → ChangesPair g n Nothing old mid → ChangesPair g n P mid new → (IsTrue (g.honest old) → (c : Image) → P c → Q c) → ChangesPair g n Q old new
  changes_then n P Q old mid new first then_it names = record {
    content = λ tells. elim (first.content tells) [
      | inl same ↦ elim (then_it.content (first.same.honesty ∙ tells)) [ inl too ↦ inl (too ∙ same) | inr is ↦ inr (names tells (pairs_in (g.content new)) is) ]
      | inr none ↦ absurd none
    ];
    told_others = λ m not tells. then_it.told_others m not (first.told_others m not tells);
    images = record {
      later = omega (arith, first.images.later, then_it.images.later);
      since = λ t c le h. elim (then_it.images.since t c (omega (arith, le, first.images.later)) h) [ inl was ↦ is_old t c le (first.images.since t c le was) | inr is ↦ is_new t c is ];
      now = λ c h. elim (then_it.images.now c h) [ inl was ↦ is_old (g.moment old) c (omega arith) (first.images.now c was) | inr is ↦ is_new (g.moment old) c is ];
    };
    keeps = λ t c le was. then_it.keeps t c (omega (arith, le, first.images.later)) (first.keeps t c le was);
    same = record { size = then_it.same.size ∙ first.same.size; honesty = then_it.same.honesty ∙ first.same.honesty; telling = then_it.same.telling ∙ first.same.telling };
    faults = omega (arith, first.faults, then_it.faults);
    clock = omega (arith, first.clock, then_it.images.later);
  }
    where
      is_old : (t : ℕ) (c : Image) → t ≤ g.moment old → PairLeft g old t c ⊎ (IsTrue (tells_both g old) × Nothing c) → PairLeft g old t c ⊎ (IsTrue (tells_both g old) × Q c)
      is_old t c le (inl was) = inl was
      is_old t c le (inr none) = absurd none.1

      is_new : (t : ℕ) (c : Image) → IsTrue (tells_both g mid) × P c → PairLeft g old t c ⊎ (IsTrue (tells_both g old) × Q c)
      is_new t c is = let tells = told_both old mid first.same is.0 in inr (tells, names (tells_two old tells).0 c is.1)

  -- a write of block n, after calls that write nothing
  pub written_left : ((d : T) (t : ℕ) → IsTrue (g.tells_images d) → t ≤ g.moment d → g.left_since d t (g.content d)) → (n : ℕ) (b : List ℕ) (old settled read new : T) → Stays g old settled → Stays g settled read
      → ChangesPair g n (λ c. c ≡ set (pairs_in (g.content read)) n b) read new → LeavesOnly g.moment (PairLeft g) old new (Written (λ c. PairLeft g old (g.moment old) c) n b)
  written_left may_stay n b old settled read new first second change =
      let W : Image → Type 0 = Written (λ c. PairLeft g old (g.moment old) c) n b in
      let L : T → ℕ → Image → Type 0 = PairLeft g in
      let P : Image → Type 0 = λ c. IsTrue (tells_both g read) × (c ≡ set (pairs_in (g.content read)) n b) in
      let content : g.content read ≡ g.content old = second.content ∙ first.content in
      joined g.moment L old settled new W W (stays_shown old settled W first) (joined g.moment L settled read new W P (stays_shown settled read W second) change.images (λ c is.
      let tells : IsTrue (tells_both g old) = told_both old settled first.same (told_both settled read second.same is.0) in
      (pairs_in (g.content old), stays_left may_stay old tells (pairs_in (g.content old)) refl (g.moment old) (omega arith), is.1 ∙ ap (λ (i : Image). set (pairs_in i) n b) content))) (λ c is. is)

  -- the half that isn't shown is written, and then the gate
  module _ (honest : (d : T) (n : ℕ) → IsTrue (g.told d n) → IsTrue (g.honest d)) (may_stay : (d : T) (t : ℕ) → IsTrue (g.tells_images d) → t ≤ g.moment d → g.left_since d t (g.content d)) (sized : (d : T) → IsTrue (g.honest d) → length (g.content d) ≡ g.blocks d)
      (n : ℕ) (b : List ℕ) (hidden : Half) (old mid new : T) (on_disk : gate_at n < g.blocks old) (flushed : IsFlushed g old) (is_hidden : IsTrue (g.honest old) → hidden ≡ other_half (shown_half_of (g.content old) n)) (first : PutsBelow g (half_at hidden n) old mid)
      (written : g.content mid ≡ set (g.content old) (half_at hidden n) b) where
    half_first : ChangesPair g n Nothing old mid
    half_first = half_changes honest may_stay n old mid flushed hidden is_hidden Nothing first

    third : IsTrue (g.honest old) → n < length (g.content mid) / 3
    third tells = omega (arith, sized mid (first.same.honesty ∙ tells), first.same.size, on_disk)

    -- the other half, in what was shown
    put_there : IsTrue (g.honest old) → set (pairs_in (g.content mid)) n (block_at (g.content mid) (half_at hidden n)) ≡ set (pairs_in (g.content old)) n b
    put_there tells =
        let below : Image = g.content old in
        let on : half_at hidden n < length below = half_on hidden n (length below) (omega (arith, sized old tells, on_disk)) in
        let holds : block_at (g.content mid) (half_at hidden n) ≡ b = ap (λ (i : Image). block_at i (half_at hidden n)) written ∙ get_or-set_same below (half_at hidden n) b [] on in
        let same : pairs_in (g.content mid) ≡ pairs_in below = ⊎_elim (λ e. e) (λ none. absurd none) (half_first.content tells) in
        ap (λ (x : List ℕ). set (pairs_in (g.content mid)) n x) holds ∙ ap (λ (i : Image). set i n b) same

    pub replaces : IsFlushed g mid → PutsBelow g (gate_at n) mid new → ChangesPair g n (λ c. c ≡ set (pairs_in (g.content old)) n b) old new
    replaces done second =
        let gate : block_at (g.content mid) (gate_at n) ≡ block_at (g.content old) (gate_at n) = ap (λ (i : Image). block_at i (gate_at n)) written ∙ get_or-set_other (g.content old) (half_at hidden n) (gate_at n) b [] (gate_apart hidden n n) in
        let still : IsTrue (g.honest mid) → hidden ≡ other_half (shown_half_of (g.content mid) n) = λ tells. is_hidden (sym first.same.honesty ∙ tells) ∙ ap (λ (x : List ℕ). other_half (shown_by x)) (sym gate) in
        changes_then n (λ c. c ≡ set (pairs_in (g.content mid)) n (block_at (g.content mid) (half_at hidden n))) (λ c. c ≡ set (pairs_in (g.content old)) n b) old mid new half_first
        (gate_changes honest may_stay n mid new done hidden still (λ tells. third (sym first.same.honesty ∙ tells)) second) (λ tells c is. is ∙ put_there tells)

    pub replaced : IsTrue (g.honest old) → g.content new ≡ set (g.content mid) (gate_at n) (gate_for hidden) → pairs_in (g.content new) ≡ set (pairs_in (g.content old)) n b
    replaced tells is = ap pairs_in is ∙ gate_turned (g.content mid) n hidden (third tells) ∙ put_there tells
