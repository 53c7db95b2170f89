-- What recovery writes: roots that stand elsewhere, and maps that differ.
use Rattle.std.proofs.Common.{◌≡◌, ◌≢◌, ℕ, zero, suc, ◌+◌, ◌*◌, ◌/◌, ◌≤◌, List, [], ◌∷◌, length, map, Some, refl, sym, ◌∙◌, ap, subst, arith}
use Rattle.cfs_recover.proofs.Words.{AreCopies, Copied, Found, Ghosts, Image, WritesWhatDiffers, block_at, one_if_changed, changed_maps, length-map, same_Some, slice_get, slice_get_within, source}

-- what is changed of another image with the same maps
pub changed_from : (a b c : Image) (n : ℕ) → ((k : ℕ) → block_at b (64 * k) ≡ block_at a (64 * k)) → changed_maps b c n ≡ changed_maps a c n
unfolding changed_maps
changed_from a b c zero same = refl
changed_from a b c (suc n) same = λ i. changed_from a b c n same i + one_if_changed (same n i) (block_at c (64 * n))

abbrev blocks_of : List Copied → List ℕ
blocks_of copies = map (λ c. c.block) copies

-- a block that is listed is that of a copy
of_copy : (copies : List Copied) (k n : ℕ) → slice_get (blocks_of copies) k ≡ Some n → (c : Copied) × (slice_get copies k ≡ Some c) × (c.block ≡ n)
of_copy [] k n at = absurd (let less = slice_get_within [] k n at in omega (arith, less))
of_copy (c ∷ cs) zero n at = (c, refl, same_Some _ _ at)
of_copy (c ∷ cs) (suc k) n at = of_copy cs k n at

pub writes_these : {D : Type 0} (g : Ghosts D) (old new : D) (found : List Found) (done : ℕ) (copies : List Copied) (barriers cylinders : ℕ) → AreCopies (g.content old) found done copies
    → length (g.content old) ≡ 64 * cylinders → g.tries new ≤ g.tries old + barriers + length copies + changed_maps (g.content old) (g.content new) cylinders → WritesWhatDiffers g barriers old new
writes_these g old new found done copies barriers cylinders are size most = record {
  roots = blocks_of copies;
  each = λ k n at. let c = of_copy copies k n at in subst (λ (r : ℕ). source (g.content old) r ≢ r) c.2 (are.elsewhere k c.0 c.1);
  once = λ j k n here there.
      let c = of_copy copies j n here in
      let d = of_copy copies k n there in
      are.once j k c.0 d.0 c.1 d.1 (c.2 ∙ sym d.2);
  tries =
      let cylinder : length (g.content old) / 64 ≡ cylinders = omega (arith, size) in
      omega (arith, most, ap (changed_maps (g.content old) (g.content new)) cylinder, length-map copies (λ c. c.block));
}

-- after reads and barriers
pub writes_after : {D : Type 0} (g : Ghosts D) (start old new : D) (barriers all : ℕ) → g.content old ≡ g.content start → g.tries old + barriers ≤ g.tries start + all → WritesWhatDiffers g barriers old new → WritesWhatDiffers g all start new
writes_after g start old new barriers all same tries was = record {
  roots = was.roots;
  each = λ k n at. subst (λ (i : Image). source i n ≢ n) same (was.each k n at);
  once = was.once;
  tries = omega (arith, tries, was.tries, ap (λ (i : Image). changed_maps i (g.content new) (length i / 64)) same);
}
