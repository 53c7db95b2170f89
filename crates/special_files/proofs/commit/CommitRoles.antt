-- What a commit leaves of the blocks of an object.
use Rattle.std.proofs.Common.{◌≡◌, ◌≢◌, ◌⊎◌, inl, inr, ⊎_elim, ℕ, Bool, true, false, List, [], ◌∷◌, length, Option, Some, None, refl, sym, ◌∙◌, ap, subst}
use Rattle.special_files.proofs.Words.{Allocated, AreMaps, BlockState, ChangesOnly, Free, HasItsBlocks, Image, IntendAllocate, IntendDeallocate, IsBlockOf, IsOpenTo, MapEntry, RootsOwnThemselves, StandsIn, Tree, and_parts, block_at, both_ways, entry_in, false_from_ne_true, first_or, free_unowned, had_not_meant, had_or_meant, has_number, is_committed, is_fixed, is_free_in, is_had, is_leaving, is_meant, is_meant_for, is_owned_by, is_taken, no_shadows, of_owners, of_taken, option_to_list, owner_is, part_at, same_Some, sight, tree_in}
use Rattle.intentions.proofs.Drafts.{owners_open}
use Rattle.intentions.proofs.Turned.{first_number, more_numbers}

-- the block is the root with this number, or stands in this tree
abbrev pub Stands : ℕ → Tree → ℕ → Type 0
Stands r tree m = (m ≡ r) ⊎ StandsIn tree m

-- what becomes of block m from image a to b: it stays, and if the object has it, it stands in the new tree; the object has it now, or it is Free now; it is the root of an object that is made
pub data Role (a b : Image) (r : ℕ) (created : Option ℕ) (tree : Tree) (m : ℕ) : Type 0 where
  Same : entry_in b m ≡ entry_in a m → is_meant_for a r m ≡ false → (is_owned_by is_had r (entry_in a m) ≡ true → Stands r tree m) → Role a b r created tree m
  Now : is_owned_by is_taken r (entry_in a m) ≡ true → is_owned_by is_had r (entry_in b m) ≡ true → Stands r tree m → Role a b r created tree m
  Gone : is_owned_by is_taken r (entry_in a m) ≡ true → is_free_in b m ≡ true → ¬ Stands r tree m → Role a b r created tree m
  Made : created ≡ Some m → is_owned_by is_taken m (entry_in a m) ≡ true → is_owned_by is_had m (entry_in b m) ≡ true → m ≢ r → Role a b r created tree m

-- a block has one owner
pub one_owner : (test other : BlockState → Bool) (r q : ℕ) (entry : Option MapEntry) → is_owned_by test r entry ≡ true → is_owned_by other q entry ≡ true → r ≡ q
one_owner test other r q entry one two = owner_is test r entry one ∙ sym (owner_is other q entry two)

pub had_not_leaving : (r : ℕ) (entry : Option MapEntry) → is_owned_by is_had r entry ≡ true → is_owned_by is_leaving r entry ≡ false
had_not_leaving r None h = cc
had_not_leaving r (Some e) h = at e.state h
  where
    at : (s : BlockState) → is_owned_by is_had r (Some (record e { state = s })) ≡ true → is_owned_by is_leaving r (Some (record e { state = s })) ≡ false
    at Free q = refl
    at Allocated q = refl
    at IntendAllocate q = refl
    at IntendDeallocate q = cc

-- an object without its commit bit has its root and what stands in its tree
module _ (b : Image) (r : ℕ) (no_bit : is_committed (part_at b r) ≡ false) where
  pub block_stands : (m : ℕ) → IsBlockOf b r m → Stands r (tree_in b (block_at b r)) m
  unfolding sight
  block_stands m (inl is) = inl is
  block_stands m (inr (inl is)) = inl (is ∙ ap (first_or r) (no_shadows b r no_bit))
  block_stands m (inr (inr (path, h, there, is))) = inr (record { path = path; held = h; there = ap (λ (n : ℕ). (tree_in b (block_at b n)).below path) (sym (ap (first_or r) (no_shadows b r no_bit))) ∙ there; is = is })

  pub stands_block : (m : ℕ) → Stands r (tree_in b (block_at b r)) m → IsBlockOf b r m
  unfolding sight
  stands_block m (inl is) = inl is
  stands_block m (inr at) = inr (inr (at.path, at.held, ap (λ (n : ℕ). (tree_in b (block_at b n)).below at.path) (ap (first_or r) (no_shadows b r no_bit)) ∙ at.there, at.is))

module _ (a b : Image) (r : ℕ) (created : Option ℕ) (tree : Tree) (has : HasItsBlocks a r) (role : (m : ℕ) → Role a b r created tree m) where
  -- the root of an object that is made is none of the owner's
  not_made : (test : BlockState → Bool) (m : ℕ) → is_owned_by is_had m (entry_in b m) ≡ true → m ≢ r → is_owned_by test r (entry_in b m) ≡ false
  not_made test m now other = false_from_ne_true _ (λ is. other (one_owner is_had test m r (entry_in b m) now is))

  module _ (no_bit : is_committed (part_at b r) ≡ false) (tree_now : tree_in b (block_at b r) ≡ tree) (tree_taken : (m : ℕ) → StandsIn tree m → is_owned_by is_taken r (entry_in a m) ≡ true) where
    stands_taken : (m : ℕ) → Stands r tree m → is_owned_by is_taken r (entry_in a m) ≡ true
    stands_taken m (inl is) = subst (λ (n : ℕ). is_owned_by is_taken r (entry_in a n) ≡ true) (sym is) (of_taken is_had refl r (entry_in a r) (has.each r (inl refl)))
    stands_taken m (inr at) = tree_taken m at

    each : (m : ℕ) → Role a b r created tree m → Stands r tree m → is_owned_by is_had r (entry_in b m) ≡ true
    each m (Same same none stays) stands = ap (is_owned_by is_had r) same ∙ ⊎_elim (λ had. had) (λ meant. absurd (both_ways _ none meant)) (had_or_meant r (entry_in a m) (stands_taken m stands) (has.none_leaves m))
    each m (Now was is at) stands = is
    each m (Gone was free none) stands = absurd (none stands)
    each m (Made here was now other) stands = absurd (other (one_owner is_taken is_taken m r (entry_in a m) was (stands_taken m stands)))

    no_other : (m : ℕ) → Role a b r created tree m → is_owned_by is_had r (entry_in b m) ≡ true → Stands r tree m
    no_other m (Same same none stays) had = stays (ap (is_owned_by is_had r) (sym same) ∙ had)
    no_other m (Now was is at) had = at
    no_other m (Gone was free none) had = absurd (both_ways _ (free_unowned is_had refl r (entry_in b m) free) had)
    no_other m (Made here was now other) had = absurd (both_ways _ (not_made is_had m now other) had)

    none_leaves : (m : ℕ) → Role a b r created tree m → is_owned_by is_leaving r (entry_in b m) ≡ false
    none_leaves m (Same same none stays) = ap (is_owned_by is_leaving r) same ∙ has.none_leaves m
    none_leaves m (Now was is at) = had_not_leaving r (entry_in b m) is
    none_leaves m (Gone was free none) = free_unowned is_leaving refl r (entry_in b m) free
    none_leaves m (Made here was now other) = not_made is_leaving m now other

    pub now_has : HasItsBlocks b r
    now_has = record {
      no_bit = no_bit;
      each = λ m block. each m (role m) (subst (λ (t : Tree). Stands r t m) tree_now (block_stands b r no_bit m block));
      no_other = λ m had. stands_block b r no_bit m (subst (λ (t : Tree). Stands r t m) (sym tree_now) (no_other m (role m) had));
      none_leaves = λ m. none_leaves m (role m);
    }

  meant_none : (m : ℕ) → Role a b r created tree m → is_meant_for b r m ≡ false
  meant_none m (Same same none stays) = ap (is_owned_by is_meant r) same ∙ none
  meant_none m (Now was is at) = false_from_ne_true _ (λ meant. both_ways _ (had_not_meant r (entry_in b m) is) (and_parts _ _ meant).0)
  meant_none m (Gone was free none) = free_unowned is_meant refl r (entry_in b m) free
  meant_none m (Made here was now other) = not_made is_meant m now other

  pub none_meant : (m : ℕ) → is_meant_for b r m ≡ false
  none_meant m = meant_none m (role m)

  -- the root of an object that is made is all that has this owner
  pub made_alone : (c : ℕ) → created ≡ Some c → c ≢ r → ((n : ℕ) → is_owned_by is_taken c (entry_in a n) ≡ true → n ≡ c) → (n : ℕ) → is_owned_by is_taken c (entry_in b n) ≡ true → n ≡ c
  made_alone c is apart alone n of_c = by (role n)
    where
      by : Role a b r created tree n → n ≡ c
      by (Same same none stays) = alone n (ap (is_owned_by is_taken c) (sym same) ∙ of_c)
      by (Now was now at) = absurd (apart (one_owner is_taken is_had c r (entry_in b n) of_c now))
      by (Gone was free none) = absurd (both_ways _ (free_unowned is_taken refl c (entry_in b n) free) of_c)
      by (Made here was now other) = same_Some _ _ (sym here ∙ is)

  abbrev rs : List ℕ
  rs = r ∷ option_to_list created

  among : (m : ℕ) → created ≡ Some m → has_number m (r ∷ option_to_list created) ≡ true
  among m is = subst (λ (o : Option ℕ). has_number m (r ∷ option_to_list o) ≡ true) (sym is) (more_numbers r m (m ∷ []) (first_number m []))

  entry_open : (m : ℕ) → Role a b r created tree m → (entry_in b m ≡ entry_in a m) ⊎ (IsOpenTo (λ e. of_owners rs e) (entry_in a m) × IsOpenTo (λ e. of_owners rs e) (entry_in b m))
  entry_open m (Same same none stays) = inl same
  entry_open m (Now was is at) = inr (owners_open r rs (entry_in a m) (first_number r _) was, owners_open r rs (entry_in b m) (first_number r _) (of_taken is_had refl r (entry_in b m) is))
  entry_open m (Gone was free none) = inr (owners_open r rs (entry_in a m) (first_number r _) was, inl free)
  entry_open m (Made here was now other) = inr (owners_open m rs (entry_in a m) (among m here) was, owners_open m rs (entry_in b m) (among m here) (of_taken is_had refl m (entry_in b m) now))

  module _ (size : length b ≡ length a) (maps : AreMaps b) (own : RootsOwnThemselves b) (label : block_at b 1 ≡ block_at a 1) (apart : (q m : ℕ) → is_fixed m ≡ true → is_owned_by is_taken q (entry_in a m) ≡ false)
      (blocks : (m : ℕ) → is_fixed m ≡ false → (block_at b m ≡ block_at a m) ⊎ (m ≡ r)) where
    fixed : (m : ℕ) → Role a b r created tree m → is_fixed m ≡ true → entry_in b m ≡ entry_in a m
    fixed m (Same same none stays) is = same
    fixed m (Now was now at) is = absurd (both_ways _ (apart r m is) was)
    fixed m (Gone was free none) is = absurd (both_ways _ (apart r m is) was)
    fixed m (Made here was now other) is = absurd (both_ways _ (apart m m is) was)

    pub only_owners : ChangesOnly (λ e. of_owners rs e) a b
    only_owners = record {
      size = size;
      maps = maps;
      own = own;
      label = label;
      fixed = λ m is. fixed m (role m) is;
      entries = λ m. entry_open m (role m);
      contents = λ m is. ⊎_elim (λ same. inl same) (λ root. inr (owners_open r rs (entry_in a m) (first_number r _) (subst (λ (n : ℕ). is_owned_by is_taken r (entry_in a n) ≡ true) (sym root) (of_taken is_had refl r (entry_in a r) (has.each r (inl refl)))))) (blocks m is);
    }
