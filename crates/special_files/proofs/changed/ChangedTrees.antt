-- What differs between the tree of an object and that of its draft.
use Rattle.std.proofs.Common.{◌≡◌, ◌≢◌, inl, inr, ℕ, zero, suc, ◌+◌, ◌*◌, ◌/◌, ◌%◌, ◌<◌, true, false, List, [], ◌∷◌, length, Some, refl, sym, ◌∙◌, ap, subst, arith}
use Rattle.special_files.proofs.Words.{nothing_below, AreDropped, AreTaken, Fits, Graph, HasDraft, HasItsBlocks, Holds, Image, IsChanged, IsNear, IsTree, Object, Opened, Puid, StandsIn, all_unlike, and_left, below_is_path, block_at, both_ways, cases_Bool, content_of, entry_in, eqb-false, eqb-true, false_from_ne_true, had_not_meant, has_number, held, held_at, held_block, held_there, in_node, is_had, is_made, is_meant, is_meant_for, is_owned_by, leaves_at, levels_of, meant_differs, pointer_to_node, not_meant_is_own, numbers_differ, object_at, one_path, owner_is, root_owner, root_spelling, shadow_apart, stands_some, tree_in, tree_of, ◌==◌, blocks_limit, node_blocks}
use Rattle.block_tree.specs.declared.root.Root as roots
use Rattle.vol_owners.proofs.Differing.{own_tree as blocks_of_own}
use Rattle.vol_owners.proofs.Entries.{root_placed}
use Rattle.special_files.proofs.Begun.{own_tree}
use Rattle.special_files.proofs.Fresh.{read_leaf_is}
use Rattle.special_files.proofs.Trees.{node_at}
use Rattle.special_files.proofs.changed.Unlike.{in_unlike, once_from, to_unlike, unlike_differ}

-- ---- the pointers of a tree, and its paths, in their order: a node and its leaves after another

abbrev pub in_tree : Image → roots.Root → ℕ → ℕ
in_tree image root j = in_node image (pointer_to_node root (j / node_blocks)) (j % node_blocks)

in_path : ℕ → ℕ → List ℕ
in_path m zero = m ∷ []
in_path m (suc k) = m ∷ k ∷ []

pub path_of : ℕ → List ℕ
path_of j = in_path (j / node_blocks) (j % node_blocks)

unfoldable pub index_of : List ℕ → ℕ
index_of [] = 0
index_of (m ∷ []) = node_blocks * m
index_of (m ∷ k ∷ path) = node_blocks * m + (k + 1)

pub index_again : (j : ℕ) → index_of (path_of j) ≡ j
unfolding path_of in_path index_of
index_again j = by (j % node_blocks) refl
  where
    by : (i : ℕ) → j % node_blocks ≡ i → index_of (in_path (j / node_blocks) i) ≡ j
    by zero is = omega (arith, is)
    by (suc k) is = omega (arith, is)

-- each path that leads to a block is one of these
there_is : (image : Image) (content p : List ℕ) → tree_of image content p ≢ 0 → (j : ℕ) × (j < blocks_limit) × (path_of j ≡ p)
unfolding path_of in_path levels_of
there_is image content [] some = absurd (some refl)
there_is image content (m ∷ []) some =
    let is = below_is_path image (levels_of content) content (m ∷ []) some in
    let node : node_blocks * m / node_blocks ≡ m = omega arith in
    let place : node_blocks * m % node_blocks ≡ 0 = omega arith in
    (node_blocks * m, omega (arith, is.0), λ i. in_path (node i) (place i))
there_is image content (m ∷ k ∷ []) some =
    let is = below_is_path image (levels_of content) content (m ∷ k ∷ []) some in
    let node : (node_blocks * m + suc k) / node_blocks ≡ m = omega (arith, is.1.0) in
    let place : (node_blocks * m + suc k) % node_blocks ≡ suc k = omega (arith, is.1.0) in
    (node_blocks * m + suc k, omega (arith, is.0, is.1.0), λ i. in_path (node i) (place i))
there_is image content (m ∷ k ∷ l ∷ p) some = absurd (some (nothing_below image content m k l p))

-- the pointers of the tree are those at the ends of its paths
pub in_tree_is : (image : Image) (root : roots.Root) → Fits root → (j : ℕ) → in_tree image root j ≡ tree_of image (root_spelling root) (path_of j)
unfolding path_of in_path
in_tree_is image root fits j = by (j % node_blocks)
  where
    by : (i : ℕ) → in_node image (pointer_to_node root (j / node_blocks)) i ≡ tree_of image (root_spelling root) (in_path (j / node_blocks) i)
    by zero = sym (node_at image root fits (j / node_blocks))
    by (suc k) = sym (read_leaf_is image root fits (j / node_blocks) k (leaves_at image (pointer_to_node root (j / node_blocks))) refl)

-- ---- a tree against another

module _ (image : Image) (size owner : ℕ) (root other : roots.Root) (o : Object) (fits : Fits root) (other_fits : Fits other) (tree : IsTree size owner (tree_in image (root_spelling root)) root o) where
  abbrev listed : List ℕ
  listed = all_unlike (in_tree image root) (in_tree image other) blocks_limit

  -- at this path the one has the block, and the other doesn't
  record Here (n : ℕ) : Type 0 where
    path : List ℕ
    some : n ≢ 0
    is : tree_of image (root_spelling root) path ≡ n
    not : tree_of image (root_spelling other) path ≢ n

  stands_here : (n : ℕ) → Here n → StandsIn (tree_in image (root_spelling root)) n
  stands_here n h = record { path = h.path; held = held image n; there = ap (held_at image) h.is ∙ held_there image n h.some; is = refl }

  is_listed : (n : ℕ) → has_number n listed ≡ true → Here n
  is_listed n h =
      let r = in_unlike (in_tree image root) (in_tree image other) blocks_limit n h in
      record { path = path_of r.0; some = r.3; is = sym (in_tree_is image root fits r.0) ∙ r.2; not = λ is. r.4 (in_tree_is image other other_fits r.0 ∙ is) }

  to_listed : (n : ℕ) → (s : StandsIn (tree_in image (root_spelling root)) n) → tree_of image (root_spelling other) s.path ≢ n → has_number n listed ≡ true
  to_listed n s not =
      let at : tree_of image (root_spelling root) s.path ≡ n = sym (held_block image (tree_of image (root_spelling root) s.path) s.held s.there) ∙ s.is in
      let some : n ≢ 0 = λ z. stands_some image (root_spelling root) s.path s.held s.there (s.is ∙ z) in
      let j = there_is image (root_spelling root) s.path (λ z. some (sym at ∙ z)) in
      let one : in_tree image root j.0 ≡ n = in_tree_is image root fits j.0 ∙ ap (tree_of image (root_spelling root)) j.2 ∙ at in
      let two : in_tree image other j.0 ≡ tree_of image (root_spelling other) s.path = in_tree_is image other other_fits j.0 ∙ ap (tree_of image (root_spelling other)) j.2 in
      subst (λ (m : ℕ). has_number m listed ≡ true) one (to_unlike (in_tree image root) (in_tree image other) blocks_limit j.0 j.1 (λ z. some (sym one ∙ z)) (λ is. not (sym two ∙ is ∙ one)))

  -- a block stands at one path
  one_stand : (p q : List ℕ) (n : ℕ) → n ≢ 0 → tree_of image (root_spelling root) p ≡ n → tree_of image (root_spelling root) q ≡ n → p ≡ q
  one_stand p q n some at_p at_q =
      one_path image size owner (root_spelling root) root o tree p q (held image n) (held image n) (ap (held_at image) at_p ∙ held_there image n some) (ap (held_at image) at_q ∙ held_there image n some) refl

  listed_differ : (i j : ℕ) → i < blocks_limit → j < blocks_limit → in_tree image root i ≡ in_tree image root j → in_tree image root i ≢ 0 → i ≡ j
  listed_differ i j low high same some =
      let paths = one_stand (path_of i) (path_of j) (in_tree image root i) some (sym (in_tree_is image root fits i)) (sym (in_tree_is image root fits j) ∙ sym same) in
      sym (index_again i) ∙ ap index_of paths ∙ index_again j

  listed_once : numbers_differ listed ≡ true
  listed_once = once_from listed (unlike_differ (in_tree image root) (in_tree image other) blocks_limit listed_differ)

-- ---- what a commit takes and drops

module _ (image : Image) (g : Graph) (holds : Holds image g) (id : Puid) (o : Object) (at : object_at g id ≡ Some o) (has : HasItsBlocks image id.block) (d : Opened) (draft : HasDraft image id d) where
  own_fits : Fits d.own
  own_fits = draft.own.good.0

  root_fits : Fits d.root
  root_fits = draft.tree.spelled.good.0

  pub its_tree : IsTree (length image) id.block (tree_in image (root_spelling d.own)) d.own o
  its_tree = own_tree image (length image) id d.own o has (holds.objects id o at) draft.own

  -- what stands in the object's tree it has, and it isn't meant for it
  pub own_had : (n : ℕ) → StandsIn (tree_in image (root_spelling d.own)) n → is_owned_by is_had id.block (entry_in image n) ≡ true
  own_had n s =
      let there : (tree_in image (block_at image id.block)).below s.path ≡ Some s.held = ap (λ (c : List ℕ). (tree_in image c).below s.path) draft.own.spelled ∙ s.there in
      subst (λ (m : ℕ). is_owned_by is_had id.block (entry_in image m) ≡ true) s.is (has.each s.held.block (blocks_of_own image g holds id o at has d draft s.path s.held there))

  pub had_unmeant : (n : ℕ) → is_owned_by is_had id.block (entry_in image n) ≡ true → is_meant_for image id.block n ≡ true → ⊥
  had_unmeant n had meant = both_ways _ (and_left _ _ (had_not_meant id.block (entry_in image n) had)) meant

  -- what stands in the draft's tree and isn't meant stands in the object's, at the same path
  pub unmeant_own : (n : ℕ) (path : List ℕ) → n ≢ 0 → tree_of image (root_spelling d.root) path ≡ n → is_meant_for image id.block n ≡ false → tree_of image (root_spelling d.own) path ≡ n
  unmeant_own n path some is none =
      ap (λ (c : List ℕ). tree_of image c path) (sym draft.own.spelled)
      ∙ not_meant_is_own image g holds id o at has d draft path (held image n) (ap (held_at image) is ∙ held_there image n some) none

  abbrev taken : List ℕ
  taken = all_unlike (in_tree image d.root) (in_tree image d.own) blocks_limit

  abbrev dropped : List ℕ
  dropped = all_unlike (in_tree image d.own) (in_tree image d.root) blocks_limit

  are_taken : AreTaken image id d taken
  are_taken = record {
    stands = stands;
    meant = meant;
    no_shadow = λ n is. false_from_ne_true (has_number n taken) (λ h. shadow_apart image (length image) id.block n (content_of d) d.root d.draft.object draft.tree (draft.shadow n is) (stands n h));
    all = λ n is. elim (draft.no_other n is) [
      | inl shadow ↦ inl shadow
      | inr s ↦ inr (to_listed image (length image) id.block d.root d.own d.draft.object root_fits own_fits draft.tree n s (λ same. meant_differs image g holds id o at has d draft s.path n (some n s) is (ap (λ (c : List ℕ). tree_of image c s.path) draft.own.spelled ∙ same)))
    ];
    once = listed_once image (length image) id.block d.root d.own d.draft.object root_fits own_fits draft.tree;
  }
    where
      some : (n : ℕ) → StandsIn (tree_in image (content_of d)) n → n ≢ 0
      some n s = λ z. stands_some image (content_of d) s.path s.held s.there (s.is ∙ z)

      found : (n : ℕ) → has_number n taken ≡ true → Here image (length image) id.block d.root d.own d.draft.object root_fits own_fits draft.tree n
      found = is_listed image (length image) id.block d.root d.own d.draft.object root_fits own_fits draft.tree

      stands : (n : ℕ) → has_number n taken ≡ true → StandsIn (tree_in image (content_of d)) n
      stands n h = stands_here image (length image) id.block d.root d.own d.draft.object root_fits own_fits draft.tree n (found n h)

      meant : (n : ℕ) → has_number n taken ≡ true → is_meant_for image id.block n ≡ true
      meant n h = elim (cases_Bool (is_meant_for image id.block n)) [ inl is ↦ is | inr none ↦ absurd ((found n h).not (unmeant_own n (found n h).path (found n h).some (found n h).is none)) ]

  are_dropped : AreDropped image id d dropped
  are_dropped = record {
    stands = stands;
    had = λ n h. own_had n (stands n h);
    gone = λ n h s.
        let is : tree_of image (root_spelling d.root) s.path ≡ n = sym (held_block image (tree_of image (root_spelling d.root) s.path) s.held s.there) ∙ s.is in
        let own = unmeant_own n s.path (found n h).some is (false_from_ne_true (is_meant_for image id.block n) (had_unmeant n (own_had n (stands n h)))) in
        let paths = one_stand image (length image) id.block d.own d.root o own_fits root_fits its_tree s.path (found n h).path n (found n h).some own (found n h).is in
        (found n h).not (ap (tree_of image (root_spelling d.root)) (sym paths) ∙ is);
    all = λ n s. elim (cases_Bool (tree_of image (root_spelling d.root) s.path == n)) [
      | inl same ↦
          let some : n ≢ 0 = λ z. stands_some image (root_spelling d.own) s.path s.held s.there (s.is ∙ z) in
          inl (record { path = s.path; held = held image n; there = ap (held_at image) (eqb-true (tree_of image (root_spelling d.root) s.path) n same) ∙ held_there image n some; is = refl })
      | inr other ↦ inr (to_listed image (length image) id.block d.own d.root o own_fits root_fits its_tree n s (eqb-false (tree_of image (root_spelling d.root) s.path) n other))
    ];
    once = listed_once image (length image) id.block d.own d.root o own_fits root_fits its_tree;
  }
    where
      found : (n : ℕ) → has_number n dropped ≡ true → Here image (length image) id.block d.own d.root o own_fits root_fits its_tree n
      found = is_listed image (length image) id.block d.own d.root o own_fits root_fits its_tree

      stands : (n : ℕ) → has_number n dropped ≡ true → StandsIn (tree_in image (root_spelling d.own)) n
      stands n h = stands_here image (length image) id.block d.own d.root o own_fits root_fits its_tree n (found n h)

  pub trees_change : ((c : ℕ) → d.created ≡ Some c → is_made (entry_in image c) ≡ true) → IsChanged image id d taken dropped
  trees_change made = record {
    takes = are_taken;
    drops = are_dropped;
    apart = λ n h. false_from_ne_true (has_number n dropped) (λ gone. had_unmeant n (are_dropped.had n gone) (are_taken.meant n h));
    no_created = λ c is. (
      false_from_ne_true (has_number c taken) (λ h.
          let meant = are_taken.meant c h in
          let same : id.block ≡ c = owner_is is_meant id.block (entry_in image c) meant ∙ root_owner image holds.own is_meant c (made c is) in
          had_unmeant id.block (has.each id.block (inl refl)) (subst (λ (n : ℕ). is_meant_for image id.block n ≡ true) (sym same) meant)),
      false_from_ne_true (has_number c dropped) (λ h. both_ways _ (had_not_meant id.block (entry_in image c) (are_dropped.had c h)) (root_placed is_meant (entry_in image c) (made c is))),
    );
  }

-- ---- the nodes of a tree are near

pub nodes_near : (image : Image) (size owner : ℕ) (root : roots.Root) (o : Object) → IsTree (length image) owner (tree_in image (root_spelling root)) root o → length image ≡ size → 0 < size → (n : ℕ) → IsNear size image (pointer_to_node root n)
nodes_near image size owner root o tree long some n = record {
  here = omega (arith, near (n ∷ []), node_at image root tree.spelled.good.0 n);
  leaves = λ k. omega (arith, near (n ∷ k ∷ []), read_leaf_is image root tree.spelled.good.0 n k (leaves_at image (pointer_to_node root n)) refl);
}
  where
    below : (v : ℕ) (p : List ℕ) → tree_of image (root_spelling root) p ≡ v → v < size
    below zero p is = some
    below (suc v) p is = omega (arith, tree.on_disk p (held image (suc v)) (ap (held_at image) is), long)

    near : (p : List ℕ) → tree_of image (root_spelling root) p < size
    near p = below (tree_of image (root_spelling root) p) p refl
