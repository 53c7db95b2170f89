-- An identifier that a block of the volume names: whether it is reached, and the faults that are found at its root block.
use Rattle.std.proofs.Common.{◌≡◌, ◌≢◌, ℕ, ◌<◌, ◌≤◌, true, List, length, sym, ◌∙◌, ap, subst}
use Rattle.cfs_recover.proofs.Words.{BelongsTo, ByLabel, BySlot, Damage, Fault, HasNoRoot, HeadFault, Image, IsFaultOf, IsNamed, IsReachedIn, IsRootBlock, NamesRoot, NamesNothing, Next, ObjectFault, Puid, Root, TheRoot, block_at, damage, has_number, part_at, refers_at, standing, standing_is}
use Rattle.cfs_base.specs.declared.kind.Place.TheVariants as places
use Rattle.ufs_model.specs.declared.object.Object.TheVariants as objects

pub named_nothing : (image : Image) (id : Puid) (by : ℕ) → IsNamed image id by → NamesNothing image id → IsFaultOf image (damage by 6)
named_nothing image id by (ByLabel label has is) nothing = Fault.LabelNamesNothing label has (subst (λ (x : Puid). NamesNothing image x) (sym is) nothing)
named_nothing image id by (BySlot i root index s h reached shows at leaf below) nothing =
    Fault.InObject i 6 h.block reached (ObjectFault.SlotNamesNothing id root index s h (record { shows = shows; here = leaf; on_disk = below }) at nothing)

module _ (image : Image) (id : Puid) (by : ℕ) (named : IsNamed image id by) (some : id.block ≢ 0) (on_disk : id.block < length image) where
  pub named_reached : ((root : Root) → IsRootBlock (block_at image id.block) root → root.word ≡ id.word) → IsReachedIn image id
  named_reached word = at by named
    where
      names : NamesRoot image id
      names = record { some = some; on_disk = on_disk; word = word }

      at : (b : ℕ) → IsNamed image id b → IsReachedIn image id
      at b (ByLabel label has is) = subst (λ (x : Puid). IsReachedIn image x) is (TheRoot label has)
      at b (BySlot i root index s h reached shows slot leaf below) = Next i id root (objects.Index index) reached shows (refers_at index.slots s id slot) names

  pub no_root : HasNoRoot (block_at image id.block) → IsFaultOf image (damage id.block 3)
  no_root none = Fault.InObject id 3 id.block (named_reached (λ root is. absurd (none root is))) (ObjectFault.NoRoot none)

-- the root by which an object is read that is reached and entered as one
module _ (image : Image) (id : Puid) (own : Root) (reached : IsReachedIn image id) (spelled : IsRootBlock (block_at image id.block) own) (owned : BelongsTo id.block places.Root (part_at image id.block)) where
  pub head_fault : (d : Damage) → HeadFault image id.block own d → IsFaultOf image d
  head_fault d (HeadFault.TwoShadows two) = Fault.InObject id 7 id.block reached (ObjectFault.TwoShadows (subst (λ (ss : List ℕ). 2 ≤ length ss) (sym (standing_is image id.block owned)) two))
  head_fault d (HeadFault.NoShadow s has none) = at
    where
      stands : has_number s (standing image id.block) ≡ true
      stands = ap (has_number s) (standing_is image id.block owned) ∙ has

      at : IsFaultOf image (damage s 3)
      at = Fault.InObject id 3 s reached (ObjectFault.NoShadow s stands (λ shadow is. (own, spelled, none shadow is)))
