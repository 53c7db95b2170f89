-- A file that lies on a disk is the tree of its root, and the other way round.
use Rattle.normal_files.proofs.Words.{◌≡◌, ◌≢◌, inl, inr, ℕ, zero, suc, ◌<◌, ◌≤◌, false, List, [], ◌∷◌, ◌++◌, length, Option, Some, refl, sym, ◌∙◌, ap, subst, arith, IsTrue, is_some, cases_lt, Image, block_at, Puid, leaf_pointers, node_pointers, IsRootBlock, root_spelling, end_of, levels_of, pointer, tree_of, one_root, Object, BelongsTo, is_committed, part_at, LeavesFit, IsTree, leaf_in, object_with, Held, held_at, place_at, tree_in, first_or, sight, source, ReadsAs, no_shadows, reads_by_root, held_some, held_there, some_held, held, held_is, leaf_place, node_place, nothing_below, two_levels}
use Rattle.normal_files.specs.Laid.{IsLaid, IsRooted, leaf_of, node_of, object_laid}
use Rattle.normal_files.proofs.Trees.{leaf_at, node_at, none_past}
use Rattle.block_tree.specs.declared.root.Root as roots

past_leaf : (image : Image) (content : List ℕ) (root : roots.Root) → IsRootBlock content root → (n k : ℕ) → leaf_pointers.count ≤ k → tree_of image content (n ∷ k ∷ []) ≡ 0
unfolding levels_of
past_leaf image content root is n k past = by (pointer node_pointers content n)
  where
    by : (p : ℕ) → end_of image (leaf_pointers ∷ []) p (k ∷ []) ≡ 0
    by zero = refl
    by (suc p) = none_past image (suc p) k past

module _ (image : Image) (content : List ℕ) (root : roots.Root) (is : IsRootBlock content root) where
  abbrev below : List ℕ → Option Held
  below = (tree_in image content).below

  -- what is so of all nodes and leaves is so of all that stands in the tree
  pub each : (P : List ℕ → Held → Type 0) → ((n : ℕ) → node_of root n ≢ 0 → P (n ∷ []) (held image (node_of root n))) → ((n k : ℕ) → k < leaf_pointers.count → leaf_of image root n k ≢ 0 → P (n ∷ k ∷ []) (held image (leaf_of image root n k)))
      → (p : List ℕ) (h : Held) → below p ≡ Some h → P p h
  each P nodes leaves [] h v = cc
  each P nodes leaves (n ∷ []) h v =
      let two = held_is image (node_of root n) h (ap (held_at image) (sym (node_at image content root is n)) ∙ v) in
      subst (P (n ∷ [])) (sym two.0) (nodes n two.1)
  each P nodes leaves (n ∷ k ∷ []) h v = elim (cases_lt k leaf_pointers.count) [
    | inl small ↦
        let two = held_is image (leaf_of image root n k) h (ap (held_at image) (sym (leaf_at image content root is n k small)) ∙ v) in
        subst (P (n ∷ k ∷ [])) (sym two.0) (leaves n k small two.1)
    | inr past ↦ absurd ((held_is image 0 h (ap (held_at image) (sym (past_leaf image content root is n k past)) ∙ v)).1 refl)
  ]
  each P nodes leaves (m ∷ j ∷ i ∷ q) h v = absurd ((held_is image 0 h (ap (held_at image) (sym (nothing_below image content m j i q)) ∙ v)).1 refl)

  pub node_there : (n : ℕ) → node_of root n ≢ 0 → below (n ∷ []) ≡ Some (held image (node_of root n))
  node_there n real = ap (held_at image) (node_at image content root is n) ∙ held_there image (node_of root n) real

  pub leaf_there : (n k : ℕ) → k < leaf_pointers.count → leaf_of image root n k ≢ 0 → below (n ∷ k ∷ []) ≡ Some (held image (leaf_of image root n k))
  leaf_there n k small real = ap (held_at image) (leaf_at image content root is n k small) ∙ held_there image (leaf_of image root n k) real

  -- from blocks to the tree
  pub tree_of_laid : (r : ℕ) → content ≡ root_spelling root → IsLaid image r root → IsTree (length image) r (tree_in image content) root (object_laid image root)
  tree_of_laid r spelled laid = record {
    spelled = is;
    object = ap (λ (c : List ℕ). object_with root (leaf_in (tree_in image c))) spelled;
    on_disk = each (λ p h. h.block < length image) (λ n real. (laid.nodes n real).below) (λ n k small real. (laid.leaves n k small real).below);
    owned = each (λ p h. BelongsTo r (place_at (levels_of content) p) h.part)
        (λ n real. subst (λ pl. BelongsTo r pl (part_at image (node_of root n))) (sym (node_place content n)) (laid.nodes n real).part)
        (λ n k small real. subst (λ pl. BelongsTo r pl (part_at image (leaf_of image root n k))) (sym (leaf_place content n k _ refl)) (laid.leaves n k small real).part);
    within = λ l h v. laid.fit.within l h (ap (λ (c : List ℕ). leaf_in (tree_in image c) l) (sym spelled) ∙ v);
    filled = λ l i h v. laid.fit.filled l i h (ap (λ (c : List ℕ). leaf_in (tree_in image c) l) (sym spelled) ∙ v);
    leads_on = each (λ p h. length p < length (levels_of content) → (k : ℕ) × IsTrue (is_some (below (p ++ k ∷ []))))
        (λ n real short. let to = laid.leads n real in (to.0, ap (λ (b : ℕ). is_some (held_at image b)) (leaf_at image content root is n to.0 to.1) ∙ held_some image (leaf_of image root n to.0) to.2))
        (λ n k small real short. absurd (omega (arith, short, two_levels content)));
  }

  -- and back
  module _ (r size : ℕ) (o : Object) (tree : IsTree size r (tree_in image content) root o) where
    led : (n : ℕ) → (k : ℕ) × IsTrue (is_some (below (n ∷ k ∷ []))) → (k : ℕ) × (k < leaf_pointers.count) × (leaf_of image root n k ≢ 0)
    led n more = elim (cases_lt more.0 leaf_pointers.count) [
      | inl small ↦ (more.0, small, some_held image (leaf_of image root n more.0) (ap (λ (b : ℕ). is_some (held_at image b)) (sym (leaf_at image content root is n more.0 small)) ∙ more.1))
      | inr past ↦ absurd (some_held image 0 (ap (λ (b : ℕ). is_some (held_at image b)) (sym (past_leaf image content root is n more.0 past)) ∙ more.1) refl)
    ]

    pub laid_of_tree : content ≡ root_spelling root → size ≡ length image → IsLaid image r root
    laid_of_tree spelled sized = record {
      good = is.good;
      nodes = λ n real. record {
        below = rw (← sized) (tree.on_disk (n ∷ []) (held image (node_of root n)) (node_there n real));
        part = subst (λ pl. BelongsTo r pl (part_at image (node_of root n))) (node_place content n) (tree.owned (n ∷ []) (held image (node_of root n)) (node_there n real));
      };
      leaves = λ n k small real. record {
        below = rw (← sized) (tree.on_disk (n ∷ k ∷ []) (held image (leaf_of image root n k)) (leaf_there n k small real));
        part = subst (λ pl. BelongsTo r pl (part_at image (leaf_of image root n k))) (leaf_place content n k _ refl) (tree.owned (n ∷ k ∷ []) (held image (leaf_of image root n k)) (leaf_there n k small real));
      };
      leads = λ n real. led n (tree.leads_on (n ∷ []) (held image (node_of root n)) (node_there n real) (omega (arith, two_levels content)));
      fit = subst (λ (c : List ℕ). LeavesFit root (leaf_in (tree_in image c))) spelled (record { within = tree.within; filled = tree.filled });
    }

-- ---- a file that is read by its root

pub rooted_reads : (image : Image) (id : Puid) (root : roots.Root) → IsRooted image id root → ReadsAs (length image) id (sight image id.block) (object_laid image root)
rooted_reads image id root rooted =
    let is : IsRootBlock (root_spelling root) root = record { good = rooted.laid.good; spelled = refl } in
    reads_by_root image id (root_spelling root) root (object_laid image root) rooted.no_bit rooted.here is rooted.word rooted.part
    (tree_of_laid image (root_spelling root) root is id.block refl rooted.laid)

pub rooted_is : (image : Image) (id : Puid) (o : Object) → is_committed (part_at image id.block) ≡ false → ReadsAs (length image) id (sight image id.block) o → (root : roots.Root) × IsRooted image id root × (object_laid image root ≡ o)
unfolding sight
rooted_is image id o bit reads =
    let itself = ap (first_or id.block) (no_shadows image id.block bit) in
    let at : block_at image (source image id.block) ≡ block_at image id.block = ap (block_at image) itself in
    let tree = subst (λ (c : List ℕ). IsTree (length image) id.block (tree_in image c) reads.source o) at reads.tree in
    let root = reads.source in
    let same : reads.root ≡ root = one_root reads.root root reads.spelled.good tree.spelled.good (sym reads.spelled.spelled ∙ tree.spelled.spelled) in (
      root,
      record {
        laid = laid_of_tree image (block_at image id.block) root tree.spelled id.block (length image) o tree tree.spelled.spelled refl;
        here = tree.spelled.spelled;
        part = reads.part;
        no_bit = bit;
        word = ap (λ (r : roots.Root). r.word) (sym same) ∙ reads.word;
      },
      ap (λ (c : List ℕ). object_with root (leaf_in (tree_in image c))) (sym tree.spelled.spelled) ∙ tree.object,
    )
