-- The entries that recovery writes may come in.
use Rattle.std.proofs.Common.{◌≡◌, ◌≢◌, ℕ, Bool, true, false, Some, List, length, refl, sym, ◌∙◌, ap, subst}
use Rattle.cfs_recover.proofs.Words.{Allocated, AreCopied, AreMarked, BlockState, Free, Graph, Holds, Image, IntendAllocate, IntendDeallocate, IsEntry, IsTidy, IsTree, Leaf, Span, MapEntry, Node, Object, Place, Puid, ShadowRoot, block_at, entry_in, entry_in_table, unheld_entry, is_entry, is_fixed, is_inner, levels_of, object_at, part_of, place_inner, root_placed, same_Some, sight, stands_for, taken_apart, taken_part, tidied, tree_in, tree_placed}
use Rattle.cfs_base.specs.declared.kind.Place.TheVariants.{Root}

-- an entry of a node or leaf has no commit bit
uncommitted : (s : BlockState) (p : Place) (o : ℕ) → is_inner p ≡ true → is_entry (record { state = s; committed = true; place = Some p; owner = o }) ≡ true → ⊥
uncommitted s Root o inner is = cc
uncommitted s ShadowRoot o inner is = cc
uncommitted Free (Node n) o inner is = cc
uncommitted Allocated (Node n) o inner is = cc
uncommitted IntendAllocate (Node n) o inner is = cc
uncommitted IntendDeallocate (Node n) o inner is = cc
uncommitted Free (Leaf n) o inner is = cc
uncommitted Allocated (Leaf n) o inner is = cc
uncommitted IntendAllocate (Leaf n) o inner is = cc
uncommitted IntendDeallocate (Leaf n) o inner is = cc
uncommitted Free (Span n) o inner is = cc
uncommitted Allocated (Span n) o inner is = cc
uncommitted IntendAllocate (Span n) o inner is = cc
uncommitted IntendDeallocate (Span n) o inner is = cc

no_bit : (e : MapEntry) (p : Place) → IsEntry e → e.place ≡ Some p → is_inner p ≡ true → e.committed ≡ false
no_bit e p is placed inner = at e.committed refl
  where
    at : (b : Bool) → e.committed ≡ b → b ≡ false
    at true bit = absurd (uncommitted e.state p e.owner inner (subst (λ (x : MapEntry). is_entry x ≡ true) (λ i. record { state = e.state; committed = bit i; place = placed i; owner = e.owner }) is.in_table))
    at false bit = refl

module _ (a : Image) (g : Graph) (held : ℕ → Bool) (holds : Holds a g) (copied : AreCopied a g) (marked : AreMarked a g held)
    (n : ℕ) (e : MapEntry) (is : entry_in a n ≡ Some e) where
  -- no object's block is fixed
  root_apart : (id : Puid) (o : Object) → object_at g id ≡ Some o → n ≡ id.block → is_fixed n ≡ false
  root_apart id o at same = ap is_fixed same ∙ taken_apart a g holds id.block id.block (root_placed a (length a) id o (holds.objects id o at)).taken

  kept : is_fixed n ≡ true → IsTidy a g n e
  kept fixed = record {
    own = holds.own n e is;
    fixed = λ again. is;
    root = λ id o at same. let clash : true ≡ false = sym fixed ∙ root_apart id o at same in cc;
    bit = λ id o at same. let clash : true ≡ false = sym fixed ∙ root_apart id o at same in cc;
    inner = λ id o path h at v same. sym (ap part_of is);
    standing = λ id o at stands. ap (stands_for id.block) is ∙ stands;
  }

  free : is_fixed n ≡ false → held n ≡ false → IsTidy a g n unheld_entry
  free apart unheld = record {
    own = λ none. cc;
    fixed = λ fixed. let clash : true ≡ false = sym fixed ∙ apart in cc;
    root = λ id o at same. let clash : true ≡ false = sym (marked.root id o at) ∙ ap held (sym same) ∙ unheld in cc;
    bit = λ id o at same bit. cc;
    inner = λ id o path h at v same. let clash : true ≡ false = sym (marked.inner id o path h at v) ∙ ap held (sym same) ∙ unheld in cc;
    standing = λ id o at stands. cc;
  }

  abbrev taken : MapEntry
  taken = record e { state = Allocated; committed = false }

  allocated : is_fixed n ≡ false → IsTidy a g n taken
  unfolding sight
  allocated apart = record {
    own = λ root. holds.own n e is root;
    fixed = λ fixed. let clash : true ≡ false = sym fixed ∙ apart in cc;
    root = λ id o at same.
        let placed = root_placed a (length a) id o (holds.objects id o at) in
        let entry : placed.taken.is ≡ e = same_Some _ _ (sym placed.taken.here ∙ ap (entry_in a) (sym same) ∙ is) in
        record {
          is = record { committed = false; place = e.place; owner = e.owner };
          here = refl;
          owner_is = ap (λ (x : MapEntry). x.owner) (sym entry) ∙ placed.taken.owned;
          place_is = ap (λ (x : MapEntry). x.place) (sym entry) ∙ placed.place_is;
        };
    bit = λ id o at same bit. cc;
    inner = λ id o path h at v same.
        let was = holds.objects id o at in
        let tree : IsTree (length a) id.block (tree_in a (block_at a id.block)) was.source o = subst (λ (c : List ℕ). IsTree (length a) id.block (tree_in a c) was.source o) (copied id o at) was.tree in
        let placed = tree_placed a (length a) id.block (block_at a id.block) was.source o tree path h v in
        let entry : placed.taken.is ≡ e = same_Some _ _ (sym placed.taken.here ∙ ap (entry_in a) (sym same) ∙ is) in
        let place = ap (λ (x : MapEntry). x.place) (sym entry) ∙ placed.place_is in
        let bit = no_bit e _ (entry_in_table a n e is) place (place_inner (levels_of (block_at a id.block)) path) in
        let full = taken_part e.state e.committed e.place e.owner (subst (λ (x : MapEntry). x.state ≢ Free) entry placed.taken.taken) in
        sym (ap part_of is ∙ full ∙ λ i. Some (record { committed = bit i; place = e.place; owner = e.owner }));
    standing = λ id o at stands. cc;
  }

  -- each entry that is written may come in
  pub tidied_is_tidy : IsTidy a g n (tidied (is_fixed n) (held n) e)
  tidied_is_tidy = at (is_fixed n) (held n) refl refl
    where
      at : (b c : Bool) → is_fixed n ≡ b → held n ≡ c → IsTidy a g n (tidied b c e)
      at true c fixed is_held = kept fixed
      at false true apart is_held = allocated apart
      at false false apart unheld = free apart unheld
