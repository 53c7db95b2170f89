-- The root by which an object is read, from the entries in memory.
use Rattle.std.proofs.Common.{◌≡◌, ℕ, ◌/◌, ◌%◌, ◌<◌, true, false, List, [], ◌∷◌, length, get_or, Some, refl, sym, ◌∙◌, ap, subst, arith}
use Rattle.cfs_recover.proofs.Words.{AreMapsOf, AreStanding, HasNoneLike, HeadFault, Image, IsHead, IsLike, IsRootBlock, IsShadow, MapEntry, Root, Shadow, block_at, damage, first_or, has_number, here, is_committed, part_at, part_of, shadows, slice_get, standing_below}
use Rattle.cfs_recover.specs.declared.standing.Shadow.TheVariants as shadow
use Rattle.cfs_recover.proofs.InMemory.{part_is}

module _ (image : Image) (maps : List (List MapEntry)) (are : AreMapsOf image maps) (r : ℕ) (inside : r < length image)
    (e : MapEntry) (at : slice_get (get_or maps (r / 64) []) (r % 64) ≡ Some e) where
  none_stands : is_committed (part_at image r) ≡ false → shadows image r ≡ []
  unfolding shadows
  none_stands bit = rw bit refl

  all_stand : is_committed (part_at image r) ≡ true → shadows image r ≡ standing_below image (length image) r
  unfolding shadows
  all_stand bit = rw bit refl

  -- where the bit doesn't stand nothing does, and else what the table says
  pub no_bit : is_committed (part_of (Some e)) ≡ false → shadows image r ≡ []
  no_bit bit = none_stands (ap is_committed (sym (part_is image maps are r inside e at)) ∙ bit)

  pub stands_as : (table : List Shadow) (s : Shadow) → AreStanding image (length image) table → r < length table → is_committed (part_of (Some e)) ≡ true
      → s ≡ get_or table r shadow.None → IsShadow (shadows image r) s
  stands_as table s standing below bit is =
      let all = all_stand (ap is_committed (sym (part_is image maps are r inside e at)) ∙ bit) in
      subst (λ (ns : List ℕ). IsShadow ns s) (sym all) (subst (IsShadow (standing_below image (length image) r)) (sym is) (standing r below))

module _ (image : Image) (r : ℕ) (own : Root) where
  pub head_own : shadows image r ≡ [] → IsRootBlock (block_at image r) own → IsHead image r own (record { from = r; root = own })
  head_own none spelled = record {
    from = sym (ap (first_or r) none);
    one_shadow = omega (arith, ap length none);
    like = record { spelled = spelled; same_kind = refl; same_word = refl };
  }

  pub head_shadow : (s : ℕ) (root : Root) → shadows image r ≡ s ∷ [] → IsLike own (block_at image s) root → IsHead image r own (record { from = s; root = root })
  head_shadow s root one like = record {
    from = sym (ap (first_or r) one);
    one_shadow = omega (arith, ap length one);
    like = like;
  }

  pub none_like : (s : ℕ) → shadows image r ≡ s ∷ [] → HasNoneLike own (block_at image s) → HeadFault image r own (damage s 3)
  none_like s one none = HeadFault.NoShadow s (ap (has_number s) one ∙ here s []) none
