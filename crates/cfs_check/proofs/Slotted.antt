-- What is found of the slots of a leaf, as one more is looked at.
use Rattle.std.proofs.Common.{◌≡◌, ◌⊎◌, inl, inr, ℕ, ◌+◌, ◌*◌, ◌<◌, ◌≤◌, Bool, true, false, ◌||◌, List, Some, MatchBool, refl, sym, ◌∙◌, ap, subst, arith}
use Rattle.std.proofs.lemmas.Bool.{cases_lt}
use Rattle.cfs_base.specs.Disk.{Image}
use Rattle.cfs_base.specs.declared.identifier.Puid.{Puid}
use Rattle.ufs_model.specs.Numbers.{has_number}
use Rattle.vol_image.specs.Fault.{NamesNothing, NamesRoot}
use Rattle.vol_image.specs.Reading.{slot_in}
use Rattle.cfs_check.specs.Twigs.{Extent}
use Rattle.cfs_check.specs.Findings.{Decides, HasBadSlot, HasIdInSlot, IsLookAtSlot, IsLookAtSlots, NamesFound}

-- of two that are decided, whether one is so
either : (P Q R : Type 0) (p q : Bool) → Decides p P → Decides q Q → (P → R) → (Q → R) → (¬ P → ¬ Q → ¬ R) → Decides (p || q) R
either P Q R true q is is_too from_p from_q none = from_p is
either P Q R false true is is_too from_p from_q none = from_q is_too
either P Q R false false is is_too from_p from_q none = none is is_too

off : (p q : Bool) → (p || q) ≡ false → (p ≡ false) × (q ≡ false)
off true q is = cc
off false q is = (refl, is)

module _ (image : Image) (found : List ℕ) (extent : Extent) (leaf : ℕ) (content : List ℕ) (s : ℕ) (bad new : Bool) (before : IsLookAtSlots image found extent leaf content s bad new) where
  later : (b : ℕ) → b < s + 1 → (b < s) ⊎ (b ≡ s)
  later b below = elim (cases_lt b s) [ inl less ↦ inl less | inr past ↦ inr (omega arith) ]

  -- it is looked at
  pub slot_more : (b n : Bool) → s < 64 → 512 * leaf + 8 * s < extent.size → IsLookAtSlot image found content s b n → IsLookAtSlots image found extent leaf content (s + 1) (bad || b) (new || n)
  slot_more b n small within at = record {
    names_nothing = either (HasBadSlot image extent leaf content s) ((x : Puid) × (slot_in content s ≡ Some x) × NamesNothing image x) (HasBadSlot image extent leaf content (s + 1)) bad b before.names_nothing at.names_nothing
        (λ is. record { slot = is.slot; id = is.id; before = omega (arith, is.before); has = is.has; nothing = is.nothing })
        (λ (x, is, nothing). record { slot = s; id = x; before = omega arith; has = record { small = small; within = within; is = is }; nothing = nothing })
        (λ none here is. elim (later is.slot is.before) [
          | inl less ↦ none (record { slot = is.slot; id = is.id; before = less; has = is.has; nothing = is.nothing })
          | inr same ↦ here (is.id, ap (slot_in content) (sym same) ∙ is.has.is, is.nothing)
        ]);
    names_new = λ no slot x below has names.
        let two = off new n no in
        elim (later slot below) [
          | inl less ↦ before.names_new two.0 slot x less has names
          | inr same ↦ at.names_new two.1 x (ap (slot_in content) (sym same) ∙ has.is) names
        ];
  }
