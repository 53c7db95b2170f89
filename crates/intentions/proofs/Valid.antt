-- What intentions write are entries, and what stays of an entry.
use Rattle.std.proofs.Common.{◌≡◌, ◌≢◌, ◌⊎◌, inl, inr, ℕ, Bool, true, false, Some, None, Option, IsTrue, refl, sym, ◌∙◌, subst}
use Rattle.intentions.proofs.Words.{Allocated, BlockState, Free, IntendAllocate, IntendDeallocate, IsEntry, Leaf, Span, MapEntry, Node, Place, Root, ShadowRoot, with_commit_bit, false≢true, finished, finished_in, is_entry, part_in, part_of, released, released_at, shadow_entry, stands_for, undone, undone_in, without_bit}

abbrev Is : BlockState → Bool → Option Place → ℕ → Type 0
Is t bit p n = IsTrue (is_entry (record { state = t; committed = bit; place = p; owner = n }))

-- ---- the bit

bit_in : (t : BlockState) (bit : Bool) (n : ℕ) → Is t bit (Some Root) n → Is t true (Some Root) n
bit_in t true n is = is
bit_in Free false n is = absurd (false≢true is)
bit_in Allocated false n is = is
bit_in IntendAllocate false n is = is
bit_in IntendDeallocate false n is = absurd (false≢true is)

pub bit_valid : (e : MapEntry) → e.place ≡ Some Root → IsEntry e → IsEntry (with_commit_bit e)
bit_valid e place is = record {
  in_table = subst (λ (p : Option Place). Is e.state true p e.owner) (sym place) (bit_in e.state e.committed e.owner (subst (λ (p : Option Place). Is e.state e.committed p e.owner) place is.in_table));
}

no_bit_in : (t : BlockState) (bit : Bool) (n : ℕ) → Is t bit (Some Root) n → Is t false (Some Root) n
no_bit_in t false n is = is
no_bit_in Free true n is = absurd (false≢true is)
no_bit_in Allocated true n is = is
no_bit_in IntendAllocate true n is = is
no_bit_in IntendDeallocate true n is = absurd (false≢true is)

pub no_bit_valid : (e : MapEntry) → e.place ≡ Some Root → IsEntry e → IsEntry (without_bit e)
no_bit_valid e place is = record {
  in_table = subst (λ (p : Option Place). Is e.state false p e.owner) (sym place) (no_bit_in e.state e.committed e.owner (subst (λ (p : Option Place). Is e.state e.committed p e.owner) place is.in_table));
}

-- ---- a state that becomes Allocated

held_in : (p : Option Place) (bit : Bool) (n : ℕ) → Is IntendAllocate bit p n ⊎ Is IntendDeallocate bit p n → Is Allocated bit p n
held_in None true n (inl x) = absurd (false≢true x)
held_in None true n (inr x) = absurd (false≢true x)
held_in None false n (inl x) = absurd (false≢true x)
held_in None false n (inr x) = absurd (false≢true x)
held_in (Some Root) true n (inl x) = x
held_in (Some Root) true n (inr x) = absurd (false≢true x)
held_in (Some Root) false n (inl x) = x
held_in (Some Root) false n (inr x) = absurd (false≢true x)
held_in (Some ShadowRoot) true n (inl x) = absurd (false≢true x)
held_in (Some ShadowRoot) true n (inr x) = absurd (false≢true x)
held_in (Some ShadowRoot) false n (inl x) = x
held_in (Some ShadowRoot) false n (inr x) = absurd (false≢true x)
held_in (Some (Node k)) true n (inl x) = absurd (false≢true x)
held_in (Some (Node k)) true n (inr x) = absurd (false≢true x)
held_in (Some (Node k)) false n (inl x) = x
held_in (Some (Node k)) false n (inr x) = x
held_in (Some (Leaf k)) true n (inl x) = absurd (false≢true x)
held_in (Some (Leaf k)) true n (inr x) = absurd (false≢true x)
held_in (Some (Leaf k)) false n (inl x) = x
held_in (Some (Leaf k)) false n (inr x) = x
held_in (Some (Span k)) true n (inl x) = absurd (false≢true x)
held_in (Some (Span k)) true n (inr x) = absurd (false≢true x)
held_in (Some (Span k)) false n (inl x) = x
held_in (Some (Span k)) false n (inr x) = x

finish_in : (t : BlockState) (p : Option Place) (bit : Bool) (n : ℕ) → Is t bit p n → IsTrue (is_entry (finished_in t (record { state = t; committed = bit; place = p; owner = n })))
finish_in Free p bit n is = is
finish_in Allocated p bit n is = is
finish_in IntendAllocate p bit n is = held_in p bit n (inl is)
finish_in IntendDeallocate p bit n is = refl

pub finished_valid : (e : MapEntry) → IsEntry e → IsEntry (finished e)
finished_valid e is = record { in_table = finish_in e.state e.place e.committed e.owner is.in_table }

undo_in : (t : BlockState) (p : Option Place) (bit : Bool) (n : ℕ) → Is t bit p n → IsTrue (is_entry (undone_in t (record { state = t; committed = bit; place = p; owner = n })))
undo_in Free p bit n is = is
undo_in Allocated p bit n is = is
undo_in IntendAllocate p bit n is = refl
undo_in IntendDeallocate p bit n is = held_in p bit n (inr is)

pub undone_valid : (e : MapEntry) → IsEntry e → IsEntry (undone e)
undone_valid e is = record { in_table = undo_in e.state e.place e.committed e.owner is.in_table }

-- ---- what is given up

node_leaves : (t : BlockState) (bit : Bool) (k n : ℕ) → Is t bit (Some (Node k)) n → t ≢ Free → Is IntendDeallocate bit (Some (Node k)) n
node_leaves Free bit k n is taken = absurd (taken refl)
node_leaves Allocated true k n is taken = absurd (false≢true is)
node_leaves Allocated false k n is taken = is
node_leaves IntendAllocate true k n is taken = absurd (false≢true is)
node_leaves IntendAllocate false k n is taken = is
node_leaves IntendDeallocate bit k n is taken = is

leaf_leaves : (t : BlockState) (bit : Bool) (k n : ℕ) → Is t bit (Some (Leaf k)) n → t ≢ Free → Is IntendDeallocate bit (Some (Leaf k)) n
leaf_leaves Free bit k n is taken = absurd (taken refl)
leaf_leaves Allocated true k n is taken = absurd (false≢true is)
leaf_leaves Allocated false k n is taken = is
leaf_leaves IntendAllocate true k n is taken = absurd (false≢true is)
leaf_leaves IntendAllocate false k n is taken = is
leaf_leaves IntendDeallocate bit k n is taken = is

span_leaves : (t : BlockState) (bit : Bool) (k n : ℕ) → Is t bit (Some (Span k)) n → t ≢ Free → Is IntendDeallocate bit (Some (Span k)) n
span_leaves Free bit k n is taken = absurd (taken refl)
span_leaves Allocated true k n is taken = absurd (false≢true is)
span_leaves Allocated false k n is taken = is
span_leaves IntendAllocate true k n is taken = absurd (false≢true is)
span_leaves IntendAllocate false k n is taken = is
span_leaves IntendDeallocate bit k n is taken = is

-- the entry stays one, of the same part, and stands for the same
pub record KeepsPart (e now : MapEntry) : Type 0 where
  pub valid : IsEntry now
  pub part : part_of (Some now) ≡ part_of (Some e)
  pub stands : (r : ℕ) → stands_for r (Some now) ≡ stands_for r (Some e)
  pub place : now.place ≡ e.place
  pub owner : now.owner ≡ e.owner

part_same : (e : MapEntry) → IsEntry e → KeepsPart e e
part_same e is = record { valid = is; part = refl; stands = λ r. refl; place = refl; owner = refl }

abbrev entry : BlockState → Bool → Option Place → ℕ → MapEntry
entry t bit p n = record { state = t; committed = bit; place = p; owner = n }

release_at : (p : Option Place) (t : BlockState) (bit : Bool) (n : ℕ) → IsEntry (entry t bit p n) → KeepsPart (entry t bit p n) (released_at p (entry t bit p n))
release_at None t bit n is = part_same (entry t bit None n) is
release_at (Some Root) t bit n is = part_same (entry t bit (Some Root) n) is
release_at (Some ShadowRoot) t bit n is = part_same (entry t bit (Some ShadowRoot) n) is
release_at (Some (Node k)) Free bit n is = part_same (entry Free bit (Some (Node k)) n) is
release_at (Some (Node k)) IntendDeallocate bit n is = part_same (entry IntendDeallocate bit (Some (Node k)) n) is
release_at (Some (Node k)) Allocated bit n is = record { valid = record { in_table = node_leaves Allocated bit k n is.in_table (λ no. cc) }; part = refl; stands = λ r. refl; place = refl; owner = refl }
release_at (Some (Node k)) IntendAllocate bit n is = record { valid = record { in_table = node_leaves IntendAllocate bit k n is.in_table (λ no. cc) }; part = refl; stands = λ r. refl; place = refl; owner = refl }
release_at (Some (Leaf k)) Free bit n is = part_same (entry Free bit (Some (Leaf k)) n) is
release_at (Some (Leaf k)) IntendDeallocate bit n is = part_same (entry IntendDeallocate bit (Some (Leaf k)) n) is
release_at (Some (Leaf k)) Allocated bit n is = record { valid = record { in_table = leaf_leaves Allocated bit k n is.in_table (λ no. cc) }; part = refl; stands = λ r. refl; place = refl; owner = refl }
release_at (Some (Leaf k)) IntendAllocate bit n is = record { valid = record { in_table = leaf_leaves IntendAllocate bit k n is.in_table (λ no. cc) }; part = refl; stands = λ r. refl; place = refl; owner = refl }
release_at (Some (Span k)) Free bit n is = part_same (entry Free bit (Some (Span k)) n) is
release_at (Some (Span k)) IntendDeallocate bit n is = part_same (entry IntendDeallocate bit (Some (Span k)) n) is
release_at (Some (Span k)) Allocated bit n is = record { valid = record { in_table = span_leaves Allocated bit k n is.in_table (λ no. cc) }; part = refl; stands = λ r. refl; place = refl; owner = refl }
release_at (Some (Span k)) IntendAllocate bit n is = record { valid = record { in_table = span_leaves IntendAllocate bit k n is.in_table (λ no. cc) }; part = refl; stands = λ r. refl; place = refl; owner = refl }

pub released_keeps : (e : MapEntry) → IsEntry e → KeepsPart e (released e)
released_keeps e is = release_at e.place e.state e.committed e.owner is

-- ---- what is finished or undone: its place stays, or it is none

finish_place : (t : BlockState) (e : MapEntry) → ((finished_in t e).place ≡ e.place) ⊎ ((finished_in t e).place ≡ None)
finish_place Free e = inl refl
finish_place Allocated e = inl refl
finish_place IntendAllocate e = inl refl
finish_place IntendDeallocate e = inr refl

pub finished_place : (e : MapEntry) (p : Place) → e.place ≢ Some p → (finished e).place ≢ Some p
finished_place e p other is = elim (finish_place e.state e) [
  | inl same ↦ other (sym same ∙ is)
  | inr none ↦ let no : None ≡ Some p = sym none ∙ is in cc
]

undo_place : (t : BlockState) (e : MapEntry) → ((undone_in t e).place ≡ e.place) ⊎ ((undone_in t e).place ≡ None)
undo_place Free e = inl refl
undo_place Allocated e = inl refl
undo_place IntendAllocate e = inr refl
undo_place IntendDeallocate e = inl refl

pub undone_place : (e : MapEntry) (p : Place) → e.place ≢ Some p → (undone e).place ≢ Some p
undone_place e p other is = elim (undo_place e.state e) [
  | inl same ↦ other (sym same ∙ is)
  | inr none ↦ let no : None ≡ Some p = sym none ∙ is in cc
]

-- only what is given up is of no part afterwards
finish_part : (t : BlockState) (bit : Bool) (p : Option Place) (n : ℕ) → t ≢ IntendDeallocate → part_of (Some (finished_in t (entry t bit p n))) ≡ part_in t bit p n
finish_part Free bit p n stays = refl
finish_part Allocated bit p n stays = refl
finish_part IntendAllocate bit p n stays = refl
finish_part IntendDeallocate bit p n stays = absurd (stays refl)

pub finished_part : (e : MapEntry) → e.state ≢ IntendDeallocate → part_of (Some (finished e)) ≡ part_of (Some e)
finished_part e stays = finish_part e.state e.committed e.place e.owner stays

finish_owner : (t : BlockState) (e : MapEntry) → t ≢ IntendDeallocate → (finished_in t e).owner ≡ e.owner
finish_owner Free e stays = refl
finish_owner Allocated e stays = refl
finish_owner IntendAllocate e stays = refl
finish_owner IntendDeallocate e stays = absurd (stays refl)

pub finished_owner : (e : MapEntry) → e.state ≢ IntendDeallocate → (finished e).owner ≡ e.owner
finished_owner e stays = finish_owner e.state e stays

finish_state : (t : BlockState) (e : MapEntry) → t ≡ e.state → (finished_in t e).state ≢ IntendDeallocate
finish_state Free e is other = let no : Free ≡ IntendDeallocate = is ∙ other in cc
finish_state Allocated e is other = let no : Allocated ≡ IntendDeallocate = is ∙ other in cc
finish_state IntendAllocate e is other = cc
finish_state IntendDeallocate e is other = cc

pub finished_state : (e : MapEntry) → (finished e).state ≢ IntendDeallocate
finished_state e = finish_state e.state e refl

-- ---- shadow roots

-- what is no shadow root stands for none
pub no_shadow_stands : (r : ℕ) (e : MapEntry) → e.place ≢ Some ShadowRoot → stands_for r (Some e) ≡ false
no_shadow_stands r e other = at (stands_for r (Some e)) refl
  where
    at : (b : Bool) → stands_for r (Some e) ≡ b → b ≡ false
    at true is = absurd (other (shadow_entry r e is).1)
    at false is = refl

-- nor what is of another owner
pub other_stands : (r : ℕ) (e : MapEntry) → e.owner ≢ r → stands_for r (Some e) ≡ false
other_stands r e other = at (stands_for r (Some e)) refl
  where
    at : (b : Bool) → stands_for r (Some e) ≡ b → b ≡ false
    at true is = absurd (other (shadow_entry r e is).2)
    at false is = refl

undo_stands : (t : BlockState) (r : ℕ) (bit : Bool) (p : Option Place) (n : ℕ) → stands_for r (Some (undone_in t (entry t bit p n))) ≡ false
undo_stands Free r bit p n = refl
undo_stands Allocated r bit p n = refl
undo_stands IntendAllocate r bit p n = refl
undo_stands IntendDeallocate r bit p n = refl

-- nor what is undone
pub undone_stands : (r : ℕ) (e : MapEntry) → stands_for r (Some (undone e)) ≡ false
undone_stands r e = undo_stands e.state r e.committed e.place e.owner
