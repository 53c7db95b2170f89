-- A volume that was tidied has nothing but its objects: each has exactly its blocks, and nothing is open or left over.
use Rattle.std.proofs.Common.{◌≡◌, ◌⊎◌, inl, inr, ℕ, ◌<◌, Bool, true, false, ◌&&◌, ◌==◌, List, length, Option, Some, None, refl, sym, ◌∙◌, ap, subst, arith, is_some}
use Rattle.cfs_recover.proofs.Words.{Accounts, Allocated, AreCopied, Graph, HasItsBlocks, HasRoot, Holds, Image, IsBlockOf, IsClean, IsHeldIn, IsIn, IsPlaced, IsSome, IsSwept, IsTidied, IsTree, MapEntry, Object, Place, Puid, StandsIn, Tidies, Tree, and_from, and_parts, block_at, block_there, entry_in, eq-eqb, eqb-true, first_or, unheld_entry, has_block, in_image, is_committed, is_fixed, is_had, is_leaving, is_made, is_meant, is_owned_by, is_placed, is_root, is_root_place, is_stray, is_taken, levels_of, no_shadows, object_at, owner_of, part_at, part_of, place_at, reserved, root_placed, same_Some, same_block, sight, source, taken_apart, tidied, tree_in, tree_placed, no_drafts}
use Rattle.cfs_base.specs.declared.kind.Place.TheVariants.{Root}
use Rattle.cfs_recover.proofs.Tidyings.{tidies_hold, tree_same}

module _ (a b : Image) (g : Graph) (held : ℕ → Bool) (holds : Holds a g) (copied : AreCopied a g) (tidies : Tidies a g b) (tidy : IsTidied a g held b) where
  holds_b : Holds b g
  holds_b = tidies_hold a g b holds copied tidies

  abbrev taken : MapEntry → MapEntry
  taken e = record e { state = Allocated; committed = false }

  -- ---- the entries of b

  -- an entry is none, that of a fixed block, one that is held, or Free
  which : (n : ℕ) (P : Option MapEntry → Type 0) → P None → (is_fixed n ≡ true → P (Some reserved)) → ((e : MapEntry) → entry_in a n ≡ Some e → is_fixed n ≡ false → held n ≡ true → P (Some (taken e))) → P (Some unheld_entry) → P (entry_in b n)
  which n P none fixed is_held free = at (entry_in b n) refl
    where
      of : (e : MapEntry) → entry_in a n ≡ Some e → n < length a → (f h : Bool) → is_fixed n ≡ f → held n ≡ h → P (Some (tidied f h e))
      of e is below true h fix is_h = subst (λ (x : Option MapEntry). P x) (sym (sym is ∙ holds.fixed n below fix)) (fixed fix)
      of e is below false true fix is_h = is_held e is fix is_h
      of e is below false false fix is_h = free

      some : n < length a → (o : Option MapEntry) → entry_in a n ≡ o → IsSome o → P (entry_in b n)
      some below None is there = cc
      some below (Some e) is there = subst (λ (x : Option MapEntry). P x) (sym (tidy.entries n e is)) (of e is below (is_fixed n) (held n) refl refl)

      at : (o : Option MapEntry) → entry_in b n ≡ o → P (entry_in b n)
      at None is = subst (λ (x : Option MapEntry). P x) (sym is) none
      at (Some e) is =
          let inside = in_image b g holds_b n e is in
          let below : n < length a = omega (arith, inside, tidies.size) in
          some below (entry_in a n) refl (holds.maps n below)

  -- what is held is placed, and its entry is Allocated
  record IsOf (n : ℕ) (id : Puid) : Type 0 where
    place : Place
    placed : IsPlaced a n id.block place

  of_object : (n : ℕ) (id : Puid) (o : Object) → object_at g id ≡ Some o → (n ≡ id.block) ⊎ StandsIn (tree_in a (block_at a id.block)) n → IsOf n id
  unfolding sight
  of_object n id o at (inl root) = record { place = Root; placed = subst (λ (m : ℕ). IsPlaced a m id.block Root) (sym root) (root_placed a (length a) id o (holds.objects id o at)) }
  of_object n id o at (inr s) =
      let was = holds.objects id o at in
      let tree : IsTree (length a) id.block (tree_in a (block_at a id.block)) was.source o = subst (λ (c : List ℕ). IsTree (length a) id.block (tree_in a c) was.source o) (copied id o at) was.tree in
      record {
        place = place_at (levels_of (block_at a id.block)) s.path;
        placed = subst (λ (m : ℕ). IsPlaced a m id.block (place_at (levels_of (block_at a id.block)) s.path)) s.is (tree_placed a (length a) id.block (block_at a id.block) was.source o tree s.path s.held s.there);
      }

  entry_of_held : (n : ℕ) (id : Puid) (of : IsOf n id) → held n ≡ true → entry_in b n ≡ Some (taken of.placed.taken.is)
  entry_of_held n id of is =
      let apart = taken_apart a g holds n id.block of.placed.taken in
      tidy.entries n of.placed.taken.is of.placed.taken.here ∙ λ i. Some (tidied (apart i) (is i) of.placed.taken.is)

  -- ---- an object

  module _ (id : Puid) (o : Object) (at : object_at g id ≡ Some o) where
    abbrev r : ℕ
    r = id.block

    its : (n : ℕ) → (n ≡ r) ⊎ StandsIn (tree_in a (block_at a r)) n → is_owned_by is_had r (entry_in b n) ≡ true
    its n here =
        let of = of_object n id o at here in
        let e = of.placed.taken.is in
        ap (is_owned_by is_had r) (entry_of_held n id of (tidy.all n id o at here))
        ∙ and_from (is_some e.place) (r == e.owner) (ap is_some of.placed.place_is) (eq-eqb r e.owner (sym of.placed.taken.owned))

    bit_gone : is_committed (part_at b r) ≡ false
    bit_gone = ap (λ (x : Option MapEntry). is_committed (part_of x)) (entry_of_held r id (of_object r id o at (inl refl)) (tidy.all r id o at (inl refl)))

    tree_is : tree_in b (block_at b (source b r)) ≡ tree_in a (block_at a r)
    tree_is = tree_same a g b holds copied tidies id o at ∙ ap (tree_in a) (copied id o at)

    each : (n : ℕ) → IsBlockOf b r n → is_owned_by is_had r (entry_in b n) ≡ true
    unfolding sight
    each n (inl is) = its n (inl is)
    each n (inr (inl is)) = its n (inl (is ∙ ap (first_or r) (no_shadows b r bit_gone)))
    each n (inr (inr (path, h, there, is))) = its n (inr (record { path = path; held = h; there = ap (λ (t : Tree). t.below path) (sym tree_is) ∙ there; is = is }))

    back : (n : ℕ) → (n ≡ r) ⊎ StandsIn (tree_in a (block_at a r)) n → IsBlockOf b r n
    unfolding sight
    back n (inl is) = inl is
    back n (inr s) = inr (inr (s.path, s.held, ap (λ (t : Tree). t.below s.path) tree_is ∙ s.there, s.is))

    no_other : (n : ℕ) → is_owned_by is_had r (entry_in b n) ≡ true → IsBlockOf b r n
    no_other n = which n (λ x. is_owned_by is_had r x ≡ true → IsBlockOf b r n) (λ none. cc) (λ fix none. cc)
        (λ e is apart is_held passed.
        let one = tidy.only n is_held in
        let of = of_object n one.id one.object one.there one.here in
        let same_entry : of.placed.taken.is ≡ e = same_Some _ _ (sym of.placed.taken.here ∙ is) in
        let owner : one.id.block ≡ r = sym of.placed.taken.owned ∙ ap (λ (x : MapEntry). x.owner) same_entry ∙ sym (eqb-true r e.owner (and_parts (is_some e.place) (r == e.owner) passed).1) in
        let same = same_block a (length a) one.id id one.object o (holds.objects one.id one.object one.there) (holds.objects id o at) owner in
        back n (subst (λ (x : Puid). (n ≡ x.block) ⊎ StandsIn (tree_in a (block_at a x.block)) n) same one.here))
        (λ none. cc)

    none_leaves : (n : ℕ) → is_owned_by is_leaving r (entry_in b n) ≡ false
    none_leaves n = which n (λ x. is_owned_by is_leaving r x ≡ false) refl (λ fix. refl) (λ e is apart is_held. refl) refl

    has_its_blocks : HasItsBlocks b r
    has_its_blocks = record { no_bit = bit_gone; each = each; no_other = no_other; none_leaves = none_leaves }

  -- ---- all

  has_root : (id : Puid) (o : Object) → object_at g id ≡ Some o → HasRoot b id.block
  has_root id o at =
      let of = of_object id.block id o at (inl refl) in
      let root = root_placed a (length a) id o (holds.objects id o at) in
      let entry : root.taken.is ≡ of.placed.taken.is = same_Some _ _ (sym root.taken.here ∙ of.placed.taken.here) in
      ap (is_root is_taken) (entry_of_held id.block id of (tidy.all id.block id o at (inl refl))) ∙ ap is_root_place (ap (λ (x : MapEntry). x.place) (sym entry) ∙ root.place_is)

  owner_at : (n : ℕ) (e : MapEntry) → entry_in a n ≡ Some e → (one : IsHeldIn a g n) → (e.owner ≡ one.id.block) × (is_some e.place ≡ true)
  owner_at n e is one =
      let of = of_object n one.id one.object one.there one.here in
      let entry : of.placed.taken.is ≡ e = same_Some _ _ (sym of.placed.taken.here ∙ is) in
      (ap (λ (x : MapEntry). x.owner) (sym entry) ∙ of.placed.taken.owned, ap is_some (ap (λ (x : MapEntry). x.place) (sym entry) ∙ of.placed.place_is))

  pub tidied_accounts : Accounts b g no_drafts
  tidied_accounts = record {
    holds = holds_b;
    placed = λ n e is apart. which n (λ x. x ≡ Some e → is_taken e.state ≡ true → is_placed is_taken (Some e) ≡ true)
        (λ none some. cc)
        (λ fix same some. let clash : true ≡ false = sym fix ∙ apart in cc)
        (λ d was other is_held same some.
        let one = owner_at n d was (tidy.only n is_held) in
        subst (λ (x : MapEntry). is_placed is_taken (Some x) ≡ true) (same_Some _ _ same) one.1)
        (λ free some. let no : is_taken unheld_entry.state ≡ true = ap (λ (x : MapEntry). is_taken x.state) (same_Some _ _ free) ∙ some in cc) is;
    rooted = λ n. which n (λ x. is_placed is_taken x ≡ true → HasRoot b (owner_of x)) (λ none. cc) (λ fix none. cc)
        (λ e is apart is_held some.
        let one = tidy.only n is_held in
        subst (λ (m : ℕ). HasRoot b m) (sym (owner_at n e is one).0) (has_root one.id one.object one.there))
        (λ none. cc);
    objects = has_its_blocks;
    drafts = λ id o at n. which n (λ x. is_owned_by is_meant id.block x ≡ false) refl (λ fix. refl) (λ e is apart is_held. refl) refl;
    on_objects = λ id d none. cc;
    made = λ c none. (let no : None ≡ Some c = none.makes in cc);
    made_by = λ n is. let no : is_made (entry_in b n) ≡ false = which n (λ x. is_made x ≡ false) refl (λ fix. refl) (λ e was apart is_held. refl) refl in let clash : true ≡ false = sym is ∙ no in cc;
    made_once = λ c none y. (let no : None ≡ Some c = none.makes in cc);
  }

  pub tidied_is_swept : IsSwept b g
  tidied_is_swept = record {
    none = λ n. which n (λ x. is_stray g x ≡ false) refl (λ fix. refl)
        (λ e is apart is_held.
        let one = tidy.only n is_held in
        let has : has_block g.objects e.owner ≡ true = ap (has_block g.objects) (owner_at n e is one).0 ∙ block_there g one.id one.object one.there in
        rw has (and_false (is_some e.place)))
        refl;
  }
    where
      and_false : (p : Bool) → (p && false) ≡ false
      and_false true = refl
      and_false false = refl

  -- ---- what is Free

  is_held_in : (n : ℕ) → IsIn b g n → IsHeldIn a g n
  is_held_in n i = record {
    id = i.id;
    object = i.object;
    there = i.there;
    here = elim i.here [
      | inl root ↦ inl root
      | inr s ↦ inr (record { path = s.path; held = s.held; there = ap (λ (t : Tree). t.below s.path) (sym (tree_is i.id i.object i.there)) ∙ s.there; is = s.is })
    ];
  }

  is_in : (n : ℕ) → IsHeldIn a g n → IsIn b g n
  is_in n i = record {
    id = i.id;
    object = i.object;
    there = i.there;
    here = elim i.here [
      | inl root ↦ inl root
      | inr s ↦ inr (record { path = s.path; held = s.held; there = ap (λ (t : Tree). t.below s.path) (tree_is i.id i.object i.there) ∙ s.there; is = s.is })
    ];
  }

  pub tidied_is_clean : IsClean b g
  tidied_is_clean = record {
    free = λ n e is apart none. which n (λ x. x ≡ Some e → e ≡ unheld_entry)
        (λ no. cc)
        (λ fix same. let clash : true ≡ false = sym fix ∙ apart in cc)
        (λ d was other is_held same. absurd (none (is_in n (tidy.only n is_held))))
        (λ same. sym (same_Some _ _ same)) is;
    held = λ n e is i.
        let one = is_held_in n i in
        let of = of_object n one.id one.object one.there one.here in
        let entry : taken of.placed.taken.is ≡ e = same_Some _ _ (sym (entry_of_held n one.id of (tidy.all n one.id one.object one.there one.here)) ∙ is) in
        (ap (λ (x : MapEntry). x.state) (sym entry), ap (λ (x : MapEntry). x.committed) (sym entry));
  }
