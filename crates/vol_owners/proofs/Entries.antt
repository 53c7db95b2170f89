-- What tests say of an entry.
use Rattle.std.proofs.Common.{◌≡◌, ◌≢◌, ◌⊎◌, inl, inr, ℕ, Bool, true, false, ◌&&◌, Option, Some, None, refl, sym, ◌∙◌, ap, ◌==◌}
use Rattle.vol_owners.proofs.Words.{Allocated, BlockState, Free, Image, IntendAllocate, IntendDeallocate, IsTaken, Leaf, Span, MapEntry, Node, Place, Root, RootsOwnThemselves, ShadowRoot, and_from, and_left, and_parts, both_ways, entry_in, eq-eqb, eqb-true, is_free_entry, is_had, is_leaving, is_made, is_meant, is_owned_by, is_placed, is_root, is_root_place, is_some, is_taken, owner_of, stands_for}

-- ---- a test that no Free block passes

module _ (test : BlockState → Bool) (real : test Free ≡ false) where
  pub passed_taken : (s : BlockState) → test s ≡ true → is_taken s ≡ true
  passed_taken Free h = absurd (both_ways _ real h)
  passed_taken Allocated h = refl
  passed_taken IntendAllocate h = refl
  passed_taken IntendDeallocate h = refl

  pub placed_taken : (entry : Option MapEntry) → is_placed test entry ≡ true → is_placed is_taken entry ≡ true
  placed_taken None h = h
  placed_taken (Some e) h = let two = and_parts (test e.state) (is_some e.place) h in and_from _ _ (passed_taken e.state two.0) two.1

  pub free_unplaced : (entry : Option MapEntry) → is_free_entry entry ≡ true → is_placed test entry ≡ false
  free_unplaced None free = refl
  free_unplaced (Some e) free = and_left _ _ (at e.state free)
    where
      at : (s : BlockState) → is_free_entry (Some (record e { state = s })) ≡ true → test s ≡ false
      at Free q = real
      at Allocated q = cc
      at IntendAllocate q = cc
      at IntendDeallocate q = cc

  pub of_taken : (r : ℕ) (entry : Option MapEntry) → is_owned_by test r entry ≡ true → is_owned_by is_taken r entry ≡ true
  of_taken r entry h = let two = and_parts (is_placed test entry) (r == owner_of entry) h in and_from _ _ (placed_taken entry two.0) two.1

  pub free_unowned : (r : ℕ) (entry : Option MapEntry) → is_free_entry entry ≡ true → is_owned_by test r entry ≡ false
  free_unowned r entry free = and_left _ _ (free_unplaced entry free)

-- whose it is
pub owner_is : (test : BlockState → Bool) (r : ℕ) (entry : Option MapEntry) → is_owned_by test r entry ≡ true → r ≡ owner_of entry
owner_is test r entry h = eqb-true r (owner_of entry) (and_parts (is_placed test entry) (r == owner_of entry) h).1

pub of_its_owner : (test : BlockState → Bool) (entry : Option MapEntry) → is_placed test entry ≡ true → is_owned_by test (owner_of entry) entry ≡ true
of_its_owner test entry h = and_from _ _ h (eq-eqb _ _ refl)

-- where a test of entries is passed there is one
pub the_entry : (test : BlockState → Bool) (r : ℕ) (entry : Option MapEntry) → is_owned_by test r entry ≡ true → (e : MapEntry) × (entry ≡ Some e)
the_entry test r None h = cc
the_entry test r (Some e) h = (e, refl)

-- a taken block is placed, and of its owner
pub taken_of : (a : Image) (n r : ℕ) → IsTaken a n r → is_owned_by is_taken r (entry_in a n) ≡ true
taken_of a n r t = rw t.here (and_from _ _ (at t.is.state t.is.place t.taken t.placed) (eq-eqb r t.is.owner (sym t.owned)))
  where
    at : (s : BlockState) (p : Option Place) → s ≢ Free → p ≢ None → (is_taken s && is_some p) ≡ true
    at s None taken placed = absurd (placed refl)
    at Free (Some p) taken placed = absurd (taken refl)
    at Allocated (Some p) taken placed = refl
    at IntendAllocate (Some p) taken placed = refl
    at IntendDeallocate (Some p) taken placed = refl

-- ---- had, meant or leaving

pub had_or_meant : (r : ℕ) (entry : Option MapEntry) → is_owned_by is_taken r entry ≡ true → is_owned_by is_leaving r entry ≡ false → (is_owned_by is_had r entry ≡ true) ⊎ (is_owned_by is_meant r entry ≡ true)
had_or_meant r None h none = cc
had_or_meant r (Some e) h none = at e.state h none
  where
    at : (s : BlockState) → is_owned_by is_taken r (Some (record e { state = s })) ≡ true → is_owned_by is_leaving r (Some (record e { state = s })) ≡ false
        → (is_owned_by is_had r (Some (record e { state = s })) ≡ true) ⊎ (is_owned_by is_meant r (Some (record e { state = s })) ≡ true)
    at Free q l = cc
    at Allocated q l = inl q
    at IntendAllocate q l = inr q
    at IntendDeallocate q l = absurd (both_ways _ l q)

pub had_not_meant : (r : ℕ) (entry : Option MapEntry) → is_owned_by is_had r entry ≡ true → is_placed is_meant entry ≡ false
had_not_meant r None h = cc
had_not_meant r (Some e) h = at e.state h
  where
    at : (s : BlockState) → is_owned_by is_had r (Some (record e { state = s })) ≡ true → is_placed is_meant (Some (record e { state = s })) ≡ false
    at Free q = cc
    at Allocated q = refl
    at IntendAllocate q = cc
    at IntendDeallocate q = cc

-- ---- roots

pub root_placed : (test : BlockState → Bool) (entry : Option MapEntry) → is_root test entry ≡ true → is_placed test entry ≡ true
root_placed test None h = h
root_placed test (Some e) h = let two = and_parts (test e.state) (is_root_place e.place) h in and_from _ _ two.0 (at e.place two.1)
  where
    at : (p : Option Place) → is_root_place p ≡ true → is_some p ≡ true
    at None q = q
    at (Some p) q = refl

pub root_real : (test : BlockState → Bool) → test Free ≡ false → (entry : Option MapEntry) → is_root test entry ≡ true → is_root is_taken entry ≡ true
root_real test real None h = h
root_real test real (Some e) h = let two = and_parts (test e.state) (is_root_place e.place) h in and_from _ _ (passed_taken test real e.state two.0) two.1

-- it is that of its own block
pub root_owner : (image : Image) → RootsOwnThemselves image → (test : BlockState → Bool) (n : ℕ) → is_root test (entry_in image n) ≡ true → owner_of (entry_in image n) ≡ n
root_owner image own test n h = at (entry_in image n) refl h
  where
    root_is : (p : Option Place) → is_root_place p ≡ true → p ≡ Some Root
    root_is None q = cc
    root_is (Some Root) q = refl
    root_is (Some ShadowRoot) q = cc
    root_is (Some (Node k)) q = cc
    root_is (Some (Leaf k)) q = cc
    root_is (Some (Span k)) q = cc

    at : (entry : Option MapEntry) → entry_in image n ≡ entry → is_root test entry ≡ true → owner_of (entry_in image n) ≡ n
    at None is q = cc
    at (Some e) is q = ap owner_of is ∙ own n e is (root_is e.place (and_parts (test e.state) (is_root_place e.place) q).1)

-- a root that is made is meant for itself
pub made_taken : (image : Image) → RootsOwnThemselves image → (n : ℕ) → is_made (entry_in image n) ≡ true → is_owned_by is_taken n (entry_in image n) ≡ true
made_taken image own n h =
    and_from _ _ (placed_taken is_meant refl (entry_in image n) (root_placed is_meant (entry_in image n) h)) (eq-eqb _ _ (sym (root_owner image own is_meant n h)))

pub made_not_free : (entry : Option MapEntry) → is_made entry ≡ true → is_free_entry entry ≡ true → ⊥
made_not_free entry made free = both_ways _ (free_unplaced is_meant refl entry free) (root_placed is_meant entry made)

-- a shadow root is meant for its object
pub stands_meant : (r : ℕ) (entry : Option MapEntry) → stands_for r entry ≡ true → is_owned_by is_meant r entry ≡ true
stands_meant r None h = cc
stands_meant r (Some e) h = at e.state e.place h
  where
    at : (s : BlockState) (p : Option Place) → stands_for r (Some (record e { state = s; place = p })) ≡ true → is_owned_by is_meant r (Some (record e { state = s; place = p })) ≡ true
    at Free p q = cc
    at Allocated p q = cc
    at IntendDeallocate p q = cc
    at IntendAllocate None q = cc
    at IntendAllocate (Some Root) q = cc
    at IntendAllocate (Some (Node n)) q = cc
    at IntendAllocate (Some (Leaf n)) q = cc
    at IntendAllocate (Some (Span n)) q = cc
    at IntendAllocate (Some ShadowRoot) q = eq-eqb r e.owner (sym (eqb-true e.owner r q))
