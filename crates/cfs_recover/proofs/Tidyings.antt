-- What recovery writes leaves all objects as they read: the copies of roots, and then the maps, each block for itself.
use Rattle.std.proofs.Common.{◌≡◌, ◌≢◌, ◌⊎◌, inl, inr, ℕ, ◌+◌, ◌*◌, ◌%◌, ◌<◌, ◌≤◌, Bool, true, false, cond, List, [], ◌∷◌, length, set, Option, Some, refl, sym, ◌∙◌, ap, subst, arith, length-set}
use Rattle.cfs_recover.proofs.Words.{AreCopied, BelongsTo, CopiesRoots, Graph, Held, Holds, Image, IsPlaced, IsRootBlock, IsSome, IsSoundAs, IsTidy, IsTree, MapEntry, Object, Place, Puid, ReadsAs, SameAt, ShadowRoot, Tidies, Tree, block_at, entry_at, entry_in, filter, first_or, has_number, in_image, is_committed, is_fixed, levels_of, map_of, nat_tests, not_map, not_root, object_at, one_at_most, only_one, part_at, part_of, place_inner, range_with_len, root_placed, same_Some, same_or_not, same_shadows, same_tree, shadow_taken, shadows, sight, source, source_is, stands_for, taken_apart, to_filter, to_numbers, tree_in, tree_placed}
use Rattle.std.proofs.lemmas.List.{get_or-set_same, get_or-set_other}
use Rattle.cfs_base.specs.declared.kind.Place.TheVariants.{Root}
use Rattle.block_tree.specs.declared.root.Root as roots

-- one entry has one place
one_place : (a : Image) (n m o p : ℕ) (x y : Place) → IsPlaced a n o x → IsPlaced a m p y → n ≡ m → x ≡ y
one_place a n m o p x y one two same =
    let entries : one.taken.is ≡ two.taken.is = same_Some _ _ (sym one.taken.here ∙ ap (entry_in a) same ∙ two.taken.here) in
    same_Some _ _ (sym one.place_is ∙ ap (λ (e : MapEntry). e.place) entries ∙ two.place_is)

map_is_fixed : (n : ℕ) → is_fixed (map_of n) ≡ true
map_is_fixed n = grind (arith, nat_tests)

-- ---- the roots

module _ (a : Image) (g : Graph) (b : Image) (holds : Holds a g) (copies : CopiesRoots a g b) where
  at_root : (id : Puid) (o : Object) → object_at g id ≡ Some o → IsPlaced a id.block id.block Root
  at_root id o at = root_placed a (length a) id o (holds.objects id o at)

  -- a block that is no object's root is as it was
  same_block : (n : ℕ) → ((id : Puid) (o : Object) → object_at g id ≡ Some o → n ≢ id.block) → block_at b n ≡ block_at a n
  same_block n other = elim (copies.each n) [
    | inl same ↦ same
    | inr root ↦ absurd (other root.0 root.1 root.2 root.3)
  ]

  pub apart : (n : ℕ) → is_fixed n ≡ true → block_at b n ≡ block_at a n
  apart n fixed = same_block n (λ id o at is. let no : is_fixed n ≡ false = ap is_fixed is ∙ taken_apart a g holds id.block id.block (at_root id o at).taken in let clash : true ≡ false = sym fixed ∙ no in cc)

  same_entry : (n : ℕ) → entry_in b n ≡ entry_in a n
  unfolding entry_in
  same_entry n = ap (λ (block : List ℕ). entry_at block (n % 64)) (apart (map_of n) (map_is_fixed n))

  same_part : (n : ℕ) → part_at b n ≡ part_at a n
  same_part n = ap part_of (same_entry n)

  module _ (id : Puid) (o : Object) (at : object_at g id ≡ Some o) where
    abbrev r : ℕ
    r = id.block

    standing : shadows b r ≡ shadows a r
    standing = same_shadows a b r copies.size (same_part r) (λ bit n. ap (stands_for r) (same_entry n))

    same_source : source b r ≡ source a r
    same_source = ap (first_or r) standing

    from_source : (n : ℕ) → n ≡ source a r → (x : Puid) (p : Object) → object_at g x ≡ Some p → n ≡ x.block → source a x.block ≡ source a r
    from_source n is x p there root = elim (source_is a r) [
      | inl own ↦ ap (source a) (sym root ∙ is ∙ own)
      | inr shadow ↦
          let clash = one_place a (source a r) x.block r x.block ShadowRoot Root (shadow_taken a r (source a r) shadow) (at_root x p there) (sym is ∙ root) in cc
    ]

    pub copied_content : block_at b (source b r) ≡ block_at a (source a r)
    copied_content = ap (block_at b) same_source ∙ elim (copies.each (source a r)) [
      | inl same ↦ same
      | inr root ↦ root.4 ∙ ap (block_at a) (from_source (source a r) refl root.0 root.1 root.2 root.3)
    ]

    seen : ReadsAs (length a) id (sight a r) o
    seen = holds.objects id o at

    inner : (path : List ℕ) (h : Held) → (tree_in a (block_at a (source a r))).below path ≡ Some h → SameAt a b h.block
    unfolding sight
    inner path h v = record {
      part = same_part h.block;
      content = same_block h.block (λ x p there is.
          let here = tree_placed a (length a) r (block_at a (source a r)) seen.source o seen.tree path h v in
          not_root _ (place_inner (levels_of (block_at a (source a r))) path) (one_place a h.block x.block r x.block _ Root here (at_root x p there) is));
    }

    pub copied_tree : tree_in b (block_at b (source b r)) ≡ tree_in a (block_at a (source a r))
    copied_tree = ap (tree_in b) copied_content ∙ same_tree a b (block_at a (source a r)) inner

    -- its root is the old one, or the one by which it is read
    record HasRoot : Type 0 where
      pub root : roots.Root
      pub spelled : IsRootBlock (block_at b r) root
      pub word : root.word ≡ id.word
      pub same_kind : seen.source.kind ≡ root.kind
      pub same_word : seen.source.word ≡ root.word

    has_root : HasRoot
    unfolding sight
    has_root = elim (copies.each r) [
      | inl same ↦ record { root = seen.root; spelled = subst (λ (x : List ℕ). IsRootBlock x seen.root) (sym same) seen.spelled; word = seen.word; same_kind = seen.same_kind; same_word = seen.same_word }
      | inr root ↦ record {
        root = seen.source;
        spelled = subst (λ (x : List ℕ). IsRootBlock x seen.source) (sym (root.4 ∙ ap (λ (n : ℕ). block_at a (source a n)) (sym root.3))) seen.tree.spelled;
        word = seen.same_word ∙ seen.word;
        same_kind = refl;
        same_word = refl;
      }
    ]

    copied_reads : ReadsAs (length b) id (sight b r) o
    unfolding sight
    copied_reads = record {
      part = rw (same_part r) seen.part;
      root = has_root.root;
      spelled = has_root.spelled;
      word = has_root.word;
      one_shadow = omega (arith, ap length standing, seen.one_shadow);
      source = seen.source;
      same_kind = has_root.same_kind;
      same_word = has_root.same_word;
      tree = subst (λ (n : ℕ). IsTree n r (tree_in b (block_at b (source b r))) seen.source o) (sym copies.size)
          (subst (λ (t : Tree). IsTree (length a) r t seen.source o) (sym copied_tree) seen.tree);
    }

  pub copies_hold : Holds b g
  copies_hold = record {
    label = rw (copies.size, apart 1 refl) holds.label;
    maps = λ n below. rw (same_entry n) (holds.maps n (omega (arith, copies.size)));
    own = λ n e is. holds.own n e (sym (same_entry n) ∙ is);
    fixed = λ n below is. same_entry n ∙ holds.fixed n (omega (arith, copies.size)) is;
    objects = copied_reads;
  }

pub copies_sound : (a : Image) (g : Graph) (b : Image) → IsSoundAs a g → CopiesRoots a g b → IsSoundAs b g
copies_sound a g b sound copies = record { holds = copies_hold a g b sound.holds copies; graph = sound.graph; reached = sound.reached; room = rw copies.size sound.room }

pub copies_begin : (a : Image) (g : Graph) → CopiesRoots a g a
copies_begin a g = record { size = refl; each = λ n. inl refl }

-- one root more
pub copies_write : (a : Image) (g : Graph) (c : Image) (id : Puid) (o : Object) → CopiesRoots a g c → object_at g id ≡ Some o → id.block < length c → CopiesRoots a g (set c id.block (block_at a (source a id.block)))
copies_write a g c id o copies at inside = record {
  size = length-set c id.block _ ∙ copies.size;
  each = λ n. elim (same_or_not n id.block) [
    | inl is ↦ inr (id, o, at, is, ap (block_at (set c id.block (block_at a (source a id.block)))) is ∙ get_or-set_same c id.block _ [] inside)
    | inr other ↦
        let same : block_at (set c id.block (block_at a (source a id.block))) n ≡ block_at c n = get_or-set_other c id.block n _ [] other in
        elim (copies.each n) [
          | inl was ↦ inl (same ∙ was)
          | inr root ↦ inr (root.0, root.1, root.2, root.3, same ∙ root.4)
        ]
  ];
}

-- ---- the maps

module _ (a : Image) (g : Graph) (b : Image) (holds : Holds a g) (copied : AreCopied a g) (tidies : Tidies a g b) (id : Puid) (o : Object) (at : object_at g id ≡ Some o) where
  abbrev s : ℕ
  s = id.block

  was : ReadsAs (length a) id (sight a s) o
  was = holds.objects id o at

  listed : (n : ℕ) → is_committed (part_at a s) ≡ true → n < length a → stands_for s (entry_in a n) ≡ true → has_number n (shadows a s) ≡ true
  unfolding shadows
  listed n is below stands = rw is (to_filter (λ m. stands_for s (entry_in a m)) n (range_with_len 0 (length a)) stands (to_numbers n 0 (length a) (omega arith) (omega arith)))

  -- where the bit stands still, what stands for the object is what it was read by
  stood : is_committed (part_at b s) ≡ true → (n : ℕ) → stands_for s (entry_in b n) ≡ true → n ≡ source a s
  unfolding sight shadows
  stood bit n stands =
      let before = tidies.standing id o n at stands in
      let there = shadow_taken a s n before in
      let inside = in_image a g holds n there.taken.is there.taken.here in
      sym (only_one (shadows a s) n s was.one_shadow (listed n (tidies.bit id o at bit) inside before))

  few : length (shadows b s) ≤ 1
  unfolding shadows
  few = elim (is_committed (part_at b s)) as (λ t. is_committed (part_at b s) ≡ t → length (cond t (filter (λ n. stands_for s (entry_in b n)) (range_with_len 0 (length b))) []) ≤ 1) [
    | true ↦ λ bit. one_at_most (λ n. stands_for s (entry_in b n)) (source a s) (stood bit) 0 (length b)
    | false ↦ λ bit. omega arith
  ] refl

  root_same : block_at b s ≡ block_at a s
  root_same = tidies.content s (not_map s (taken_apart a g holds s s (root_placed a (length a) id o was).taken))

  -- the block by which it is read now has the same content
  read_same : block_at b (source b s) ≡ block_at a s
  unfolding shadows
  read_same = elim (is_committed (part_at b s)) as (λ t. is_committed (part_at b s) ≡ t → block_at b (first_or s (cond t (filter (λ n. stands_for s (entry_in b n)) (range_with_len 0 (length b))) [])) ≡ block_at a s) [
    | true ↦ λ bit. elim (first_filtered (λ n. stands_for s (entry_in b n)) s (range_with_len 0 (length b))) [
      | inl own ↦ ap (block_at b) own ∙ root_same
      | inr stands ↦
          let is = stood bit (first_or s (filter (λ n. stands_for s (entry_in b n)) (range_with_len 0 (length b)))) stands in
          ap (block_at b) is ∙ source_same (tidies.standing id o _ at stands) is
    ]
    | false ↦ λ bit. root_same
  ] refl
    where
      first_filtered : (P : ℕ → Bool) (r : ℕ) (xs : List ℕ) → (first_or r (filter P xs) ≡ r) ⊎ (P (first_or r (filter P xs)) ≡ true)
      first_filtered P r [] = inl refl
      first_filtered P r (x ∷ xs) = elim (P x) as (λ b. P x ≡ b → (first_or r (cond b (x ∷ filter P xs) (filter P xs)) ≡ r) ⊎ (P (first_or r (cond b (x ∷ filter P xs) (filter P xs))) ≡ true)) [
        | true ↦ λ is. inr is
        | false ↦ λ is. first_filtered P r xs
      ] refl

      source_same : {n : ℕ} → stands_for s (entry_in a n) ≡ true → n ≡ source a s → block_at b (source a s) ≡ block_at a s
      source_same {n = n} stands is =
          let there = shadow_taken a s n stands in
          tidies.content (source a s) (subst (λ (m : ℕ). m % 64 ≢ 0) is (not_map n (taken_apart a g holds n s there.taken))) ∙ copied id o at

  held_same : (path : List ℕ) (h : Held) → (tree_in a (block_at a s)).below path ≡ Some h → SameAt a b h.block
  unfolding sight
  held_same path h v =
      let tree_is : IsTree (length a) s (tree_in a (block_at a s)) was.source o = subst (λ (c : List ℕ). IsTree (length a) s (tree_in a c) was.source o) (copied id o at) was.tree in
      let here = tree_placed a (length a) s (block_at a s) was.source o tree_is path h v in
      record {
        part = tidies.inner id o path h at v;
        content = tidies.content h.block (not_map h.block (taken_apart a g holds h.block s here.taken));
      }

  pub tree_same : tree_in b (block_at b (source b s)) ≡ tree_in a (block_at a (source a s))
  tree_same = ap (tree_in b) read_same ∙ same_tree a b (block_at a s) held_same ∙ ap (tree_in a) (sym (copied id o at))

  pub tidied_reads : ReadsAs (length b) id (sight b s) o
  unfolding sight
  tidied_reads = record {
    part = tidies.root id o at;
    root = was.root;
    spelled = rw root_same was.spelled;
    word = was.word;
    one_shadow = few;
    source = was.source;
    same_kind = was.same_kind;
    same_word = was.same_word;
    tree = subst (λ (n : ℕ). IsTree n s (tree_in b (block_at b (source b s))) was.source o) (sym tidies.size)
        (subst (λ (t : Tree). IsTree (length a) s t was.source o) (sym tree_same) was.tree);
  }

pub tidies_hold : (a : Image) (g : Graph) (b : Image) → Holds a g → AreCopied a g → Tidies a g b → Holds b g
tidies_hold a g b holds copied tidies = record {
  label = rw (tidies.size, tidies.content 1 (omega arith)) holds.label;
  maps = tidies.maps;
  own = tidies.own;
  fixed = λ n below is. tidies.fixed n is ∙ holds.fixed n (omega (arith, tidies.size)) is;
  objects = tidied_reads a g b holds copied tidies;
}

-- The law of tidying: where each root has the content by which its object is read, the maps may be written in any order.
pub tidies_sound : (a : Image) (g : Graph) (b : Image) → IsSoundAs a g → AreCopied a g → Tidies a g b → IsSoundAs b g
tidies_sound a g b sound copied tidies = record { holds = tidies_hold a g b sound.holds copied tidies; graph = sound.graph; reached = sound.reached; room = rw tidies.size sound.room }

-- ---- the steps

pub tidies_begin : (a : Image) (g : Graph) → Holds a g → Tidies a g a
unfolding sight
tidies_begin a g holds = record {
  size = refl;
  maps = holds.maps;
  own = holds.own;
  fixed = λ n is. refl;
  content = λ n is. refl;
  root = λ id o at. (holds.objects id o at).part;
  bit = λ id o at bit. bit;
  inner = λ id o path h at v. refl;
  standing = λ id o n at is. is;
}

-- one map more, each entry of which may come in
module _ (a : Image) (g : Graph) (c : Image) (j : ℕ) (block : List ℕ) (tidies : Tidies a g c) (inside : 64 * j < length c)
    (each : (k : ℕ) → k < 64 → (e : MapEntry) × (entry_at block k ≡ Some e) × IsTidy a g (64 * j + k) e) where
  abbrev after : Image
  after = set c (64 * j) block

  -- an entry after is of the new map, or as it was
  which : (n : ℕ) (P : Option MapEntry → Type 0) → ((e : MapEntry) → IsTidy a g n e → P (Some e)) → P (entry_in c n) → P (entry_in after n)
  unfolding entry_in
  which n P new old = elim (same_or_not (map_of n) (64 * j)) [
    | inl here ↦
        let put : block_at after (map_of n) ≡ block = ap (block_at after) here ∙ get_or-set_same c (64 * j) block [] inside in
        let entry = each (n % 64) (omega arith) in
        let is : entry_in after n ≡ Some entry.0 = ap (λ (m : List ℕ). entry_at m (n % 64)) put ∙ entry.1 in
        let place : 64 * j + n % 64 ≡ n = omega (arith, here) in
        subst P (sym is) (new entry.0 (subst (λ (m : ℕ). IsTidy a g m entry.0) place entry.2))
    | inr other ↦ subst P (sym (ap (λ (m : List ℕ). entry_at m (n % 64)) (get_or-set_other c (64 * j) (map_of n) block [] other))) old
  ]

  pub tidies_write : Tidies a g (set c (64 * j) block)
  tidies_write = record {
    size = length-set c (64 * j) block ∙ tidies.size;
    maps = λ n below. which n (λ o. IsSome o) (λ e tidy. some_is e) (tidies.maps n (omega (arith, length-set c (64 * j) block)));
    own = λ n e is. which n (λ o. o ≡ Some e → e.place ≡ Some Root → e.owner ≡ n) (λ d tidy same root. owner d e (same_Some _ _ same) tidy.own root) (tidies.own n e) is;
    fixed = λ n is. which n (λ o. o ≡ entry_in a n) (λ e tidy. sym (tidy.fixed is)) (tidies.fixed n is);
    content = λ n apart. get_or-set_other c (64 * j) n block [] (λ (same : n ≡ 64 * j). apart (omega arith)) ∙ tidies.content n apart;
    root = λ id o at. which id.block (λ e. BelongsTo id.block Root (part_of e)) (λ e tidy. tidy.root id o at refl) (tidies.root id o at);
    bit = λ id o at. which id.block (λ e. is_committed (part_of e) ≡ true → is_committed (part_at a id.block) ≡ true) (λ e tidy. tidy.bit id o at refl) (tidies.bit id o at);
    inner = λ id o path h at v. which h.block (λ e. part_of e ≡ part_at a h.block) (λ e tidy. tidy.inner id o path h at v refl) (tidies.inner id o path h at v);
    standing = λ id o n at. which n (λ e. stands_for id.block e ≡ true → stands_for id.block (entry_in a n) ≡ true) (λ e tidy. tidy.standing id o at) (tidies.standing id o n at);
  }
    where
      owner : (d e : MapEntry) → d ≡ e → {n : ℕ} → (d.place ≡ Some Root → d.owner ≡ n) → e.place ≡ Some Root → e.owner ≡ n
      owner d e same own root = ap (λ (x : MapEntry). x.owner) (sym same) ∙ own (ap (λ (x : MapEntry). x.place) same ∙ root)

      some_is : (e : MapEntry) → IsSome (Some e)
      some_is e = refl
