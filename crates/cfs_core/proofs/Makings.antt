-- The two requests that make an object.
use Rattle.std.proofs.Common.{◌≡◌, ◌⊎◌, inl, inr, ℕ, ◌+◌, ◌*◌, ◌<◌, ◌≤◌, ◌||◌, true, false, length, None, Some, refl, sym, ◌∙◌, subst, arith, ◌==◌, nat_lt, eq-eqb}
use Rattle.cfs_core.proofs.Words.{FileKind, Index, Kind, lt-ltb, made_of, nat_tests, new_file, new_index, Puid, Ref, refusal_of, State}
use Rattle.cfs_base.specs.declared.kind.FileKind.TheVariants as file_kinds
use Rattle.cfs_base.specs.declared.kind.Kind.TheVariants as kinds
use Rattle.ufs_model.specs.Limits.{most_slots}
use Rattle.ufs_model.specs.declared.asked.Reply.TheVariants as replies
use Rattle.ufs_model.specs.declared.asked.Request.TheVariants as asks
use Rattle.ufs_model.specs.declared.object.Object.TheVariants as objects
use Rattle.cfs_core.specs.Makes.{IsMaking, made_kind}
use Rattle.cfs_core.specs.Ways.{Reaches}
use Rattle.cfs_core.proofs.Refusing.{within}

pub file_making : (kind : FileKind) (fill : ℕ) (to : Ref) (slot : ℕ) → nat_lt fill 256 ≡ true → IsMaking (asks.CreateFile kind fill to slot) slot (objects.File (new_file kind fill))
file_making kind fill to slot bytes = record {
  outcome = λ seed s who b. refl;
  makes = refl;
  draw = refl;
  need = λ s who. refl;
  delete = refl;
  claims = λ handles s who reply. refl;
  alone = λ s who. refl;
  commits_is = λ s who. refl;
  wants = refl;
  full = λ seed s who n run goes need few. let less : nat_lt n.free (n.need + 4) ≡ true = grind (arith, nat_tests) in rw (run, goes, eq-eqb n.need _ need, less) refl;
  speaks = λ who reply. bytes;
}

pub index_making : (slots : ℕ) (to : Ref) (slot : ℕ) → IsMaking (asks.CreateIndex slots to slot) slot (objects.Index (new_index slots))
index_making slots to slot = record {
  outcome = λ seed s who b. refl;
  makes = refl;
  draw = refl;
  need = λ s who. refl;
  delete = refl;
  claims = λ handles s who reply. refl;
  alone = λ s who. refl;
  commits_is = λ s who. refl;
  wants = refl;
  full = λ seed s who n run goes need few. let less : nat_lt n.free (n.need + 4) ≡ true = grind (arith, nat_tests) in rw (run, goes, eq-eqb n.need _ need, less) refl;
  speaks = λ who reply. refl;
}

module _ (s : State) (who : ℕ) (to : Ref) (index : Puid) (i : Index) (slot : ℕ) where
  pub file_goes : (kind : FileKind) (fill : ℕ) → Reaches s who (asks.CreateFile kind fill to slot) index (objects.Index i) → slot < length i.slots → refusal_of s who (asks.CreateFile kind fill to slot) ≡ None
  file_goes kind fill r less = r.rest ∙ rw (within 0 s who to index i (asks.CreateFile kind fill to slot) slot r refl less) refl

  module _ (slots : ℕ) (r : Reaches s who (asks.CreateIndex slots to slot) index (objects.Index i)) (less : slot < length i.slots) where
    pub index_goes : (slots == 0) ≡ false → nat_lt most_slots slots ≡ false → refusal_of s who (asks.CreateIndex slots to slot) ≡ None
    index_goes some few = r.rest ∙ rw (within 0 s who to index i (asks.CreateIndex slots to slot) slot r refl less, some, few) refl

    pub index_range : ((slots == 0) || nat_lt most_slots slots) ≡ true → refusal_of s who (asks.CreateIndex slots to slot) ≡ Some replies.Range
    index_range out = r.rest ∙ rw (within 0 s who to index i (asks.CreateIndex slots to slot) slot r refl less, out) refl

-- ---- as the store is asked for them

pub file_makes : (kind : FileKind) (k : Kind) (fill : ℕ) (to : Ref) (slot : ℕ) → k ≡ made_kind kind → fill < 256 → IsMaking (asks.CreateFile kind fill to slot) slot (made_of k fill 0)
file_makes kind k fill to slot is few = subst (λ (x : Kind). IsMaking (asks.CreateFile kind fill to slot) slot (made_of x fill 0)) (sym is) (at kind)
  where
    bytes : nat_lt fill 256 ≡ true
    bytes = grind (arith, nat_tests)

    at : (y : FileKind) → IsMaking (asks.CreateFile y fill to slot) slot (made_of (made_kind y) fill 0)
    at file_kinds.Normal = file_making file_kinds.Normal fill to slot bytes
    at file_kinds.Special = file_making file_kinds.Special fill to slot bytes

pub index_makes : (slots : ℕ) (to : Ref) (slot : ℕ) → IsMaking (asks.CreateIndex slots to slot) slot (made_of kinds.Index 0 (8 * slots))
index_makes slots to slot = subst (λ (n : ℕ). IsMaking (asks.CreateIndex slots to slot) slot (objects.Index (new_index n))) (omega arith) (index_making slots to slot)

-- ---- how many slots an index may have

pub some_slots : (slots : ℕ) → (slots ≡ 0 → ⊥) → (slots == 0) ≡ false
some_slots slots some = grind (arith, nat_tests)

pub few_slots : (slots : ℕ) → slots ≤ most_slots → nat_lt most_slots slots ≡ false
few_slots slots few = grind (arith, nat_tests)

pub out_of_slots : (slots : ℕ) → (slots ≡ 0) ⊎ ((slots ≡ 0 → ⊥) × most_slots < slots) → ((slots == 0) || nat_lt most_slots slots) ≡ true
out_of_slots slots (inl none) = (let no : (slots == 0) ≡ true = grind (arith, nat_tests) in rw no refl)
out_of_slots slots (inr (some, many)) = rw (some_slots slots some, lt-ltb most_slots slots many) refl
