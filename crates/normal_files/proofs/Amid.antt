-- A disk on the way through a write in place.
use Rattle.normal_files.proofs.Words.{◌≡◌, ◌≢◌, ◌⊎◌, inl, inr, ⊎_elim, ℕ, ◌+◌, ◌*◌, ◌/◌, ◌%◌, ◌<◌, ◌≤◌, Bool, true, IsTrue, List, [], ◌∷◌, length, set, refl, sym, ◌∙◌, ap, subst, arith, ◌==◌, count_by, range_with_len, length-set, fun_ext, and_from, and_parts, eqb-true, Image, IsSameDisk, Written, block_at, Leaves, left_now, Ghosts, Leaf, still_tells, then, AreCounts, Kept, free_in_cylinder, entry_in, is_free_entry, is_free_in, entry_in-set, patched, bytes_held, content_is, length-leaf_content, leaves_in, has_number, here, BelongsTo, IsTaken, part_at, Carries, placed, frames_begin, not_map, held, ChangesOnly, IsOpenTo, of_owner, is_placed, is_taken, owner_of, changes_begin, changes_content, changes_then, taken_of, leaf_pointers}
use Rattle.normal_files.specs.Among.{IsAmong, IsEither, leaf_after, leaf_before}
use Rattle.normal_files.specs.Laid.{leaf_of, leaves_of}
use Rattle.normal_files.specs.Steps.{IsAmid, IsWrittenTo, MayLeave}
use Rattle.normal_files.proofs.Among.{among_begin, among_leaf, among_weaker, leaf_held, own_loose}
use Rattle.normal_files.proofs.Patched.{untouched, whole}
use Rattle.normal_files.specs.View.{Way, id_at}

-- a taken block is open to a change of its owner
pub taken_open : (image : Image) (n r : ℕ) → IsTaken image n r → IsOpenTo (λ e. of_owner r e) (entry_in image n)
taken_open image n r taken =
    let e = entry_in image n in
    let two = and_parts (is_placed is_taken e) (r == owner_of e) (taken_of image n r taken) in
    inr (two.0, and_from _ _ two.0 (subst (λ (m : ℕ). has_number m (r ∷ []) ≡ true) (eqb-true r (owner_of e) two.1) (here r [])))

-- a block that is no map doesn't count
pub counts_content : (image : Image) (kept : Kept) (n : ℕ) (block : List ℕ) → n % 64 ≢ 0 → AreCounts image kept → AreCounts (set image n block) kept
unfolding free_in_cylinder
counts_content image kept n block no_map counts =
    let same : is_free_in (set image n block) ≡ is_free_in image = fun_ext (λ m. ap is_free_entry (entry_in-set image n block m no_map)) in
    record { size = length-set image n block ∙ counts.size; each = λ j below. counts.each j below ∙ ap (λ (P : ℕ → Bool). count_by P (range_with_len (64 * j) 64)) (sym same) }

module _ {D : Type 0} {g : Ghosts D} {r : ℕ} (w : Way g r) (offset : ℕ) (bytes : List ℕ) where
  abbrev a : Image
  a = g.content w.start

  abbrev Amid : ℕ → D → Kept → Type 0
  Amid upto now kept = IsAmid w offset bytes upto now kept

  -- nothing is written yet
  pub amid_begins : (kept : Kept) → Carries g w.graph w.start → AreCounts a kept → Amid (offset / 512) w.start kept
  amid_begins kept carries counts = record {
    tells = carries.tells;
    content = among_begin w.has (IsWrittenTo a w.root offset bytes (offset / 512)) a (frames_begin a w.graph w.has.holds)
        (λ n k small real. (λ early. is n k small real ∙ sym (first (leaf_pointers.count * n + k) (inl early)), λ late. is n k small real));
    here = λ c left. among_begin w.has (IsEither a w.root offset bytes) c (carries.here c left) (λ n k small real. inl (is n k small real));
    leaves = record { later = omega arith; since = λ t c le h. inl h; now = λ c h. inl h };
    only = changes_begin _ a w.graph w.has.holds;
    counts = counts;
  }
    where
      first : (l : ℕ) → (l < offset / 512) ⊎ (leaves_in (offset + length bytes) ≤ l) → leaf_after a w.root offset bytes l ≡ leaf_before a w.root l
      first = untouched w.root.fill offset bytes (leaves_of a w.root) (whole w.has)

      is : (n k : ℕ) → k < leaf_pointers.count → leaf_of a w.root n k ≢ 0 → block_at a (leaf_of a w.root n k) ≡ leaf_before a w.root (leaf_pointers.count * n + k)
      is n k small real =
          let there = leaf_held w.has n k small real in
          sym (content_is w.root.fill (leaves_of a w.root (leaf_pointers.count * n + k)) (block_at a (leaf_of a w.root n k)) (ap bytes_held there) (whole w.has (leaf_pointers.count * n + k) (held a (leaf_of a w.root n k)) there))

  -- a leaf that isn't held has nothing to be written
  pub amid_skips : (n k : ℕ) (mid : D) (kept : Kept) → k < leaf_pointers.count → leaf_of a w.root n k ≡ 0 → Amid (leaf_pointers.count * n + k) mid kept → Amid (leaf_pointers.count * n + k + 1) mid kept
  amid_skips n k mid kept small none amid = record {
    tells = amid.tells;
    content = among_weaker w.has (IsWrittenTo a w.root offset bytes (leaf_pointers.count * n + k)) (IsWrittenTo a w.root offset bytes (leaf_pointers.count * n + k + 1)) (g.content mid) amid.content (λ m j low real content was.
        let other : leaf_pointers.count * m + j ≢ leaf_pointers.count * n + k = λ same.
        (let high : m ≡ n = omega (arith, same, low, small) in let place : j ≡ k = omega (arith, same, low, small) in real (ap (λ (p : ℕ). leaf_of a w.root p j) high ∙ ap (leaf_of a w.root n) place ∙ none)) in
        (λ early. was.0 (omega (arith, early, other)), λ late. was.1 (omega (arith, late))));
    here = amid.here;
    leaves = amid.leaves;
    only = amid.only;
    counts = amid.counts;
  }

  -- a held leaf gets its new bytes
  module _ (n k : ℕ) (mid new : D) (kept : Kept) (v : List ℕ) (small : k < leaf_pointers.count) (real : leaf_of a w.root n k ≢ 0) (amid : Amid (leaf_pointers.count * n + k) mid kept) where
    abbrev x : ℕ
    x = leaf_of a w.root n k

    pub content_before : block_at (g.content mid) x ≡ leaf_before a w.root (leaf_pointers.count * n + k)
    content_before = (amid.content.bytes n k small real).1 (omega arith)

    pub long_before : length (block_at (g.content mid) x) ≡ 512
    long_before = ap (length {A = ℕ}) content_before ∙ length-leaf_content w.root.fill (leaves_of a w.root (leaf_pointers.count * n + k))

    module _ (is : v ≡ patched (leaf_pointers.count * n + k) offset bytes (block_at (g.content mid) x)) (images : Leaves g mid new (Written (left_now g mid) x v)) where
      is_after : v ≡ leaf_after a w.root offset bytes (leaf_pointers.count * n + k)
      is_after = is ∙ ap (patched (leaf_pointers.count * n + k) offset bytes) content_before

      framed : (c : Image) → Written (left_now g mid) x v c → MayLeave w offset bytes c
      framed c new_is = subst (MayLeave w offset bytes) (sym new_is.2)
          (among_leaf w.has (IsEither a w.root offset bytes) (IsEither a w.root offset bytes) new_is.0 n k v (amid.here new_is.0 new_is.1) small real (inr is_after) (λ l content other was. was))

      pub put_leaves : Leaves g w.start new (MayLeave w offset bytes)
      put_leaves = then g w.start mid new _ _ amid.leaves images framed

      pub amid_puts : g.content new ≡ set (g.content mid) x v → ((b : ℕ) → IsTrue (g.told mid b) → IsTrue (g.told new b)) → IsSameDisk g.blocks g.honest g.tells_images mid new → Amid (leaf_pointers.count * n + k + 1) new kept
      amid_puts written told same =
          let mine = (w.has.rooted.laid.leaves n k small real).part in
          let loose = own_loose w.has x (Leaf (leaf_pointers.count * n + k)) mine in
          let there = (placed (g.content mid) x r (Leaf (leaf_pointers.count * n + k)) (part_at (g.content mid) x) refl (subst (BelongsTo r (Leaf (leaf_pointers.count * n + k))) (sym (amid.content.parts n k small real)) mine)).taken in
          record {
            tells = still_tells g amid.tells told same;
            content = subst (IsAmong a w.graph (id_at r w.word) w.root (IsWrittenTo a w.root offset bytes (leaf_pointers.count * n + k + 1))) (sym written)
                (among_leaf w.has (IsWrittenTo a w.root offset bytes (leaf_pointers.count * n + k)) (IsWrittenTo a w.root offset bytes (leaf_pointers.count * n + k + 1)) (g.content mid) n k v amid.content small real
                (λ early. is_after, λ late. absurd (omega (arith, late))) (λ l content other was. (λ early. was.0 (omega (arith, early, other)), λ late. was.1 (omega (arith, late)))));
            here = λ c left. ⊎_elim (λ was. amid.here c was) (λ new_is. framed c new_is) (images.now c left);
            leaves = put_leaves;
            only = changes_then _ a (g.content mid) (g.content new) amid.only (subst (ChangesOnly (λ e. of_owner r e) (g.content mid)) (sym written)
                (changes_content _ (g.content mid) x v amid.only.maps amid.only.own loose.apart (taken_open (g.content mid) x r there)));
            counts = subst (λ (c : Image). AreCounts c kept) (sym written) (counts_content (g.content mid) kept x v (not_map x loose.apart) amid.counts);
          }
