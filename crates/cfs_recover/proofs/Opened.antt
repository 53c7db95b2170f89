-- An object whose root block was read, and then the root by which it is read: what is wrong, and what is shown.
use Rattle.std.proofs.Common.{◌≡◌, ◌≢◌, ℕ, ◌<◌, false, length, refl, sym, ◌∙◌, ap, subst, arith, inr}
use Rattle.cfs_recover.proofs.Words.{AsRoot, BelongsTo, Damage, Fault, Found, HasNoRoot, HasRootSlots, Head, HeadFault, Image, IsFaultOf, IsFoundItem, IsHead, IsOpened, IsOwn, IsReachedIn, IsShownRoot, IsRootBlock, ObjectFault, Puid, Root, Spot, SpotFault, Walk, block_at, damage, id_of, lists, one_root_block, part_at, reader, reader_is}
use Rattle.cfs_base.specs.declared.kind.Place.TheVariants as places
use Rattle.cfs_recover.proofs.Named.{head_fault, named_nothing, named_reached, no_root}

-- ---- its root block

module _ (image : Image) (w : Walk) (x : Found) (found : IsFoundItem image w x) where
  pub item_no_root : x.block < length image → HasNoRoot (block_at image x.block) → IsFaultOf image (damage x.block 3)
  item_no_root below none =
      subst (λ (n : ℕ). IsFaultOf image (damage n 3)) (sym found.block)
      (no_root image found.id x.by found.named found.some (omega (arith, below, found.block)) (subst (λ (n : ℕ). HasNoRoot (block_at image n)) found.block none))

  pub item_other_word : (own : Root) → IsRootBlock (block_at image x.block) own → lists w (id_of x own) ≡ false → IsFaultOf image (damage x.by 6)
  item_other_word own spelled unlisted =
      let apart : own.word ≢ found.id.word = λ same. let is : id_of x own ≡ found.id = (let block = found.block in λ i. record { block = block i; word = same i }) in
      let none = sym (ap (lists w) is ∙ found.listed) ∙ unlisted in cc in
      named_nothing image found.id x.by found.named (inr (inr (own, subst (λ (n : ℕ). IsRootBlock (block_at image n) own) found.block spelled, apart)))

-- ---- the root by which it is read

module _ (image : Image) (x : Found) (own : Root) (is : IsOwn image x own) (below : x.block < length image) where
  abbrev id : Puid
  id = id_of x own

  pub reached : IsReachedIn image id
  reached = named_reached image id x.by is.named is.some below (λ root other. ap (λ (r : Root). r.word) (one_root_block (block_at image x.block) root own other is.spelled))

  abbrev its_spot : Spot
  its_spot = record { holder = x.by; block = x.block; owner = x.block; place = places.Root }

  pub not_its_own : (d : Damage) → SpotFault image its_spot d → IsFaultOf image d
  not_its_own d (SpotFault.PastDisk past) = absurd (omega (arith, past, below))
  not_its_own d (SpotFault.NotOwned inside not) = Fault.InObject id 5 x.block reached (ObjectFault.NotOwned places.Root x.block AsRoot not)

  module _ (owned : BelongsTo x.block places.Root (part_at image x.block)) where
    pub no_head : (d : Damage) → HeadFault image x.block own d → IsFaultOf image d
    no_head d fault = head_fault image id own reached is.spelled owned d fault

    module _ (head : Head) (at : IsHead image x.block own head) where
      from_is : head.from ≡ reader image x.block
      from_is = at.from ∙ sym (reader_is image x.block owned at.one_shadow)

      read : IsShownRoot image x.block head.root
      read = record {
        own = own;
        own_spelled = is.spelled;
        spelled = subst (λ (n : ℕ). IsRootBlock (block_at image n) head.root) from_is at.like.spelled;
        same = record { kind = at.like.same_kind; word = at.like.same_word };
      }

      -- the root index is of another sort
      pub no_root_index : x.block ≡ 2 → ¬ HasRootSlots head.root → IsFaultOf image (damage 2 6)
      no_root_index two not = Fault.InObject id 6 2 reached (ObjectFault.NoRootIndex head.root two read not)

      pub opened : (x.block ≡ 2 → HasRootSlots head.root) → IsOpened image id head
      unfolding read
      opened sort = record {
        shown = record { reached = reached; shows = record { read = read; sort = sort; object = refl }; word = refl; from_is = from_is };
        owned = owned;
        one_shadow = at.one_shadow;
      }
