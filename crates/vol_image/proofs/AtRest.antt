-- Blocks that no object holds, though they have its owner.
use Rattle.std.proofs.Common.{◌≡◌, ◌≢◌, inl, ℕ, refl, sym, ◌∙◌, ap, subst, Some, length}
use Rattle.vol_image.proofs.Words.{Allocated, Frames, Graph, Holds, Image, IsAtRest, IsBlockOf, IsLoose, IsTaken, MapEntry, Object, Puid, entry_in, is_committed, object_at, same_Some}
use Rattle.vol_image.proofs.Law.{framed_sight, same_blocks}
use Rattle.vol_image.proofs.Parts.{object_taken, taken_apart}
use Rattle.vol_image.proofs.Steps.{was_held}

-- a block of an object's owner that isn't Allocated is none of the object's
pub rest_loose : (a : Image) (g : Graph) (r n : ℕ) → Holds a g → IsAtRest a r → (taken : IsTaken a n r) → taken.is.state ≢ Allocated → IsLoose a g n
rest_loose a g r n holds rest taken other = record {
  apart = taken_apart a g holds n r taken;
  unheld = λ held.
      let has = object_taken a (length a) held.0 held.1 (holds.objects held.0 held.1 held.2) n held.3 in
      let same : held.0.block ≡ r = sym has.owned ∙ ap (λ (e : MapEntry). e.owner) (same_Some _ _ (sym has.here ∙ taken.here)) ∙ taken.owned in
      other (rest.each n taken.is (subst (λ (m : ℕ). IsBlockOf a m n) same held.3) taken.here);
}

-- what no object holds is held by none in the frame
pub loose_stays : (a b : Image) (g : Graph) (n : ℕ) → Frames a g b → IsLoose a g n → IsLoose b g n
loose_stays a b g n frames loose = record { apart = loose.apart; unheld = λ held. loose.unheld (was_held a b g frames n held) }

-- an object stays at rest where the entries of its blocks stay
pub rest_stays : (a b : Image) (g : Graph) (id : Puid) (o : Object) → object_at g id ≡ Some o → Frames a g b → IsAtRest a id.block → ((n : ℕ) → IsBlockOf a id.block n → entry_in b n ≡ entry_in a n) → IsAtRest b id.block
rest_stays a b g id o at frames rest kept = record {
  no_bit = ap is_committed (frames.held id.block (id, o, at, inl refl)).part ∙ rest.no_bit;
  each = λ n e is here.
      let was = same_blocks b a id.block n (sym (framed_sight a b g id o at frames)) is in
      rest.each n e was (sym (kept n was) ∙ here);
}
