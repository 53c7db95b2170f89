-- The root leads to a node with other leaves: a node that stood was written, or a new one is led to.
use Rattle.normal_files.proofs.Words.{◌≡◌, ◌≢◌, ◌⊎◌, inl, inr, ℕ, zero, suc, ◌+◌, ◌*◌, ◌%◌, ◌<◌, List, length, get_or, Some, refl, sym, ◌∙◌, ap, subst, arith, cases_eq, Image, block_at, Puid, Place, Leaf, Node, Root, leaf_pointers, pointers_of, IsGoodRoot, IsRootBlock, root_spelling, entry_in, SetsSize, LeavesFit, bytes_held, BelongsTo, is_committed, part_at, part_of, held_at, held_there, leaves_at}
use Rattle.normal_files.specs.Laid.{IsAt, IsRooted, leaf_of, leaves_of, node_of}
use Rattle.normal_files.proofs.Among.{places_differ}
use Rattle.normal_files.proofs.Trees.{leaf_stands}
use Rattle.normal_files.proofs.Places.{leaf_no_node, leaf_no_root, node_no_root}
use Rattle.block_tree.specs.declared.root.Root as roots

-- From image c to image d node n, which is at block y, has these leaves: those that it had, and new ones.
pub record IsLinked (c d : Image) (id : Puid) (r s : roots.Root) (n y : ℕ) (leaves : List ℕ) : Type 0 where
  pub size : length d ≡ length c
  pub entries : (m : ℕ) → entry_in d m ≡ entry_in c m
  pub contents : (m : ℕ) → m % 64 ≢ 0 → m ≢ y → m ≢ id.block → block_at d m ≡ block_at c m
  pub root_here : block_at d id.block ≡ root_spelling s
  pub y_leaves : leaves_at d y ≡ leaves
  pub y_at : IsAt c id.block (Node n) y
  pub y_some : y ≢ 0
  pub node_here : node_of s n ≡ y
  pub node_other : (m : ℕ) → m ≢ n → node_of s m ≡ node_of r m
  pub good : IsGoodRoot s
  pub head : SetsSize r.size r s
  pub word : s.word ≡ r.word
  pub each : (k : ℕ) → k < leaf_pointers.count → (get_or leaves k 0 ≡ leaf_of c r n k) ⊎ IsAt c id.block (Leaf (leaf_pointers.count * n + k)) (get_or leaves k 0)
  pub leads : (k : ℕ) × (k < leaf_pointers.count) × (get_or leaves k 0 ≢ 0)

other_node : (m n : ℕ) → m ≢ n → Node m ≢ Node n
other_node m n apart same = apart (cc)

module _ (c d : Image) (id : Puid) (r s : roots.Root) (n y : ℕ) (leaves : List ℕ) (rooted : IsRooted c id r) (no_map : (m : ℕ) (p : Place) → BelongsTo id.block p (part_at c m) → m % 64 ≢ 0) (link : IsLinked c d id r s n y leaves) where
  is_old : IsRootBlock (root_spelling r) r
  is_old = record { good = rooted.laid.good; spelled = refl }

  is_new : IsRootBlock (root_spelling s) s
  is_new = record { good = link.good; spelled = refl }

  part_is : (m : ℕ) → part_at d m ≡ part_at c m
  part_is m = ap part_of (link.entries m)

  at_on : (m : ℕ) (p : Place) → IsAt c id.block p m → IsAt d id.block p m
  at_on m p was = record { below = omega (arith, was.below, link.size); part = subst (BelongsTo id.block p) (sym (part_is m)) was.part }

  -- a block of the file at another place stays
  stays : (m : ℕ) (p : Place) → BelongsTo id.block p (part_at c m) → p ≢ Node n → p ≢ Root → block_at d m ≡ block_at c m
  stays m p own not_node not_root = link.contents m (no_map m p own) (λ same. not_node (places_differ c m y id.block p (Node n) own link.y_at.part same)) (λ same. not_root (places_differ c m id.block id.block p Root own rooted.part same))

  -- ---- pointers

  pub leaf_there : (k : ℕ) → leaf_of d s n k ≡ get_or leaves k 0
  leaf_there k = ap (λ (m : ℕ). get_or (leaves_at d m) k 0) link.node_here ∙ ap (λ (ls : List ℕ). get_or ls k 0) link.y_leaves

  pub leaves_other : (m : ℕ) → m ≢ n → leaves_at d (node_of s m) ≡ leaves_at c (node_of r m)
  leaves_other m apart = ap (leaves_at d) (link.node_other m apart) ∙ by (node_of r m) refl
    where
      by : (z : ℕ) → node_of r m ≡ z → leaves_at d z ≡ leaves_at c z
      by zero is = refl
      by (suc z) is = ap (pointers_of leaf_pointers) (stays (suc z) (Node m) (subst (λ (w : ℕ). BelongsTo id.block (Node m) (part_at c w)) is (rooted.laid.nodes m (λ none. cc)).part) (other_node m n apart) (node_no_root m))

  pub leaf_other : (m k : ℕ) → m ≢ n → leaf_of d s m k ≡ leaf_of c r m k
  leaf_other m k apart = ap (λ (ls : List ℕ). get_or ls k 0) (leaves_other m apart)

  leaf_is : (m k : ℕ) → k < leaf_pointers.count → leaf_of d s m k ≢ 0 → IsAt c id.block (Leaf (leaf_pointers.count * m + k)) (leaf_of d s m k)
  leaf_is m k small real = elim (cases_eq m n) [
    | inr apart ↦
        let same = leaf_other m k apart in
        subst (IsAt c id.block (Leaf (leaf_pointers.count * m + k))) (sym same) (rooted.laid.leaves m k small (λ none. real (same ∙ none)))
    | inl is ↦
        let here : leaf_of d s m k ≡ get_or leaves k 0 = ap (λ (q : ℕ). leaf_of d s q k) is ∙ leaf_there k in
        elim (link.each k small) [
          | inr new ↦ subst (IsAt c id.block (Leaf (leaf_pointers.count * m + k))) (sym here) (subst (λ (q : ℕ). IsAt c id.block (Leaf (leaf_pointers.count * q + k)) (get_or leaves k 0)) (sym is) new)
          | inl old ↦
              let was : leaf_of d s m k ≡ leaf_of c r m k = here ∙ old ∙ ap (λ (q : ℕ). leaf_of c r q k) (sym is) in
              subst (IsAt c id.block (Leaf (leaf_pointers.count * m + k))) (sym was) (rooted.laid.leaves m k small (λ none. real (was ∙ none)))
        ]
  ]

  -- ---- the file

  pub linked_rooted : LeavesFit s (leaves_of d s) → IsRooted d id s
  linked_rooted fit = record {
    laid = record {
      good = link.good;
      nodes = λ m real. elim (cases_eq m n) [
        | inl is ↦ subst (λ (q : ℕ). IsAt d id.block (Node q) (node_of s q)) (sym is) (subst (IsAt d id.block (Node n)) (sym link.node_here) (at_on y (Node n) link.y_at))
        | inr apart ↦ subst (IsAt d id.block (Node m)) (sym (link.node_other m apart)) (at_on (node_of r m) (Node m) (rooted.laid.nodes m (λ none. real (link.node_other m apart ∙ none))))
      ];
      leaves = λ m k small real. at_on (leaf_of d s m k) (Leaf (leaf_pointers.count * m + k)) (leaf_is m k small real);
      leads = λ m real. elim (cases_eq m n) [
        | inl is ↦ (link.leads.0, link.leads.1, λ none. link.leads.2 (sym (leaf_there link.leads.0) ∙ ap (λ (q : ℕ). leaf_of d s q link.leads.0) (sym is) ∙ none))
        | inr apart ↦ let to = rooted.laid.leads m (λ none. real (link.node_other m apart ∙ none)) in (to.0, to.1, λ none. to.2 (sym (leaf_other m to.0 apart) ∙ none))
      ];
      fit = fit;
    };
    here = link.root_here;
    part = subst (BelongsTo id.block Root) (sym (part_is id.block)) rooted.part;
    no_bit = ap is_committed (part_is id.block) ∙ rooted.no_bit;
    word = link.word ∙ rooted.word;
  }

  -- what a leaf holds is what its block held
  bytes_at : (m k : ℕ) → k < leaf_pointers.count → bytes_held (leaves_of d s (leaf_pointers.count * m + k)) ≡ bytes_held (held_at c (leaf_of d s m k))
  bytes_at m k small = ap bytes_held (leaf_stands d (root_spelling s) s is_new m k small) ∙ by (leaf_of d s m k) refl
    where
      by : (z : ℕ) → leaf_of d s m k ≡ z → bytes_held (held_at d z) ≡ bytes_held (held_at c z)
      by zero is = refl
      by (suc z) is =
          let own = subst (λ (w : ℕ). BelongsTo id.block (Leaf (leaf_pointers.count * m + k)) (part_at c w)) is (leaf_is m k small (λ none. cc)).part in
          ap bytes_held (held_there d (suc z) (λ none. cc)) ∙ ap Some (stays (suc z) (Leaf (leaf_pointers.count * m + k)) own (leaf_no_node (leaf_pointers.count * m + k) n) (leaf_no_root (leaf_pointers.count * m + k))) ∙ sym (ap bytes_held (held_there c (suc z) (λ none. cc)))

  -- where the pointer stays the leaf stays
  pub bytes_stay : (m k : ℕ) → k < leaf_pointers.count → leaf_of d s m k ≡ leaf_of c r m k → bytes_held (leaves_of d s (leaf_pointers.count * m + k)) ≡ bytes_held (leaves_of c r (leaf_pointers.count * m + k))
  bytes_stay m k small same = bytes_at m k small ∙ ap (λ (z : ℕ). bytes_held (held_at c z)) same ∙ sym (ap bytes_held (leaf_stands c (root_spelling r) r is_old m k small))

  -- a new leaf has what was written into its block
  pub bytes_new : (k : ℕ) → k < leaf_pointers.count → get_or leaves k 0 ≢ 0 → bytes_held (leaves_of d s (leaf_pointers.count * n + k)) ≡ Some (block_at c (get_or leaves k 0))
  bytes_new k small some = bytes_at n k small ∙ ap (λ (z : ℕ). bytes_held (held_at c z)) (leaf_there k) ∙ ap bytes_held (held_there c (get_or leaves k 0) some)
