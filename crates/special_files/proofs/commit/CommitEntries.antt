-- What of a block's entry becomes in a commit.
use Rattle.std.proofs.Common.{◌≡◌, ◌≢◌, ℕ, Bool, true, false, Option, Some, None, refl, sym, ◌∙◌, ap}
use Rattle.special_files.proofs.Words.{Allocated, BlockState, Free, IntendAllocate, IntendDeallocate, Leaf, Span, MapEntry, Node, Place, Root, ShadowRoot, and_parts, false≢true, finished, finished_in, is_committed, is_free, is_free_state, is_had, is_meant, is_owned_by, is_some, part_in, part_of, released, released_at, released_in, undone, undone_in, with_bit, with_bit_at, without_bit, ◌&&◌, ◌==◌}

-- ---- whether a block is Free

pub released_free : (e : MapEntry) → is_free (released e) ≡ is_free e
released_free e = at e.place
  where
    in_state : (s : BlockState) → is_free (released_in s (record e { state = s })) ≡ is_free_state s
    in_state Free = refl
    in_state Allocated = refl
    in_state IntendAllocate = refl
    in_state IntendDeallocate = refl

    at : (p : Option Place) → is_free (released_at p e) ≡ is_free e
    at None = refl
    at (Some Root) = refl
    at (Some ShadowRoot) = refl
    at (Some (Node n)) = in_state e.state
    at (Some (Leaf n)) = in_state e.state
    at (Some (Span n)) = in_state e.state

pub with_bit_free : (e : MapEntry) → is_free (with_bit e) ≡ is_free e
with_bit_free e = at e.place
  where
    at : (p : Option Place) → is_free (with_bit_at p e) ≡ is_free e
    at None = refl
    at (Some Root) = refl
    at (Some ShadowRoot) = refl
    at (Some (Node n)) = refl
    at (Some (Leaf n)) = refl
    at (Some (Span n)) = refl

-- what is meant becomes the object's, or Free again
module _ (e : MapEntry) (meant : e.state ≡ IntendAllocate) where
  pub meant_not_free : is_free e ≡ false
  meant_not_free = ap is_free_state meant

  pub finished_free : is_free (finished e) ≡ is_free e
  finished_free = ap (λ (s : BlockState). is_free (finished_in s e)) meant ∙ sym meant_not_free

  pub undone_free : is_free (undone e) ≡ true
  undone_free = ap (λ (s : BlockState). is_free (undone_in s e)) meant

pub finished_had : (r : ℕ) (e : MapEntry) → is_owned_by is_meant r (Some e) ≡ true → is_owned_by is_had r (Some (finished e)) ≡ true
finished_had r e h = at e.state h
  where
    at : (s : BlockState) → is_owned_by is_meant r (Some (record e { state = s })) ≡ true → is_owned_by is_had r (Some (finished (record e { state = s }))) ≡ true
    at Free q = cc
    at Allocated q = cc
    at IntendAllocate q = q
    at IntendDeallocate q = cc

-- a node or leaf that the object had is dropped
module _ (r : ℕ) (e : MapEntry) (had : is_owned_by is_had r (Some e) ≡ true) (no_root : e.place ≢ Some Root) (no_shadow : e.place ≢ Some ShadowRoot) where
  state_had : (s : BlockState) → is_had s ≡ true → s ≡ Allocated
  state_had Free h = cc
  state_had Allocated h = refl
  state_had IntendAllocate h = cc
  state_had IntendDeallocate h = cc

  both : (is_had e.state && is_some e.place) ≡ true
  both = (and_parts (is_had e.state && is_some e.place) (r == e.owner) had).0

  pub state_is : e.state ≡ Allocated
  state_is = state_had e.state (and_parts (is_had e.state) (is_some e.place) both).0

  pub dropped_state : (released e).state ≡ IntendDeallocate
  dropped_state = at e.place refl
    where
      at : (p : Option Place) → e.place ≡ p → (released_at p e).state ≡ IntendDeallocate
      at None is = absurd (false≢true (sym (ap (λ (p : Option Place). is_some p) is) ∙ (and_parts (is_had e.state) (is_some e.place) both).1))
      at (Some Root) is = absurd (no_root is)
      at (Some ShadowRoot) is = absurd (no_shadow is)
      at (Some (Node n)) is = ap (λ (s : BlockState). (released_in s e).state) state_is
      at (Some (Leaf n)) is = ap (λ (s : BlockState). (released_in s e).state) state_is
      at (Some (Span n)) is = ap (λ (s : BlockState). (released_in s e).state) state_is

  pub dropped_free : is_free (finished (released e)) ≡ true
  dropped_free = ap (λ (s : BlockState). is_free (finished_in s (released e))) dropped_state

  pub released_not_free : is_free (released e) ≡ false
  released_not_free = ap is_free_state dropped_state

-- ---- the root

pub bits_same : (test : BlockState → Bool) (r : ℕ) (e : MapEntry) → is_owned_by test r (Some (without_bit (with_bit e))) ≡ is_owned_by test r (Some e)
bits_same test r e = at e.place
  where
    at : (p : Option Place) → is_owned_by test r (Some (without_bit (with_bit_at p e))) ≡ is_owned_by test r (Some e)
    at None = refl
    at (Some Root) = refl
    at (Some ShadowRoot) = refl
    at (Some (Node n)) = refl
    at (Some (Leaf n)) = refl
    at (Some (Span n)) = refl

pub no_bit : (e : MapEntry) → is_committed (part_of (Some (without_bit e))) ≡ false
no_bit e = at e.state
  where
    at : (s : BlockState) → is_committed (part_in s false e.place e.owner) ≡ false
    at Free = refl
    at Allocated = refl
    at IntendAllocate = refl
    at IntendDeallocate = refl
