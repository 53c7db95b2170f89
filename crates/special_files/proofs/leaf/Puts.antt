-- One leaf of a draft is put into a block of its own, below a node in a block of its own.
use Rattle.std.proofs.Common.{◌≡◌, ◌≢◌, ◌⊎◌, inl, inr, ℕ, zero, suc, ◌+◌, ◌*◌, ◌/◌, ◌%◌, ◌^◌, ◌<◌, ◌≤◌, true, List, [], ◌∷◌, ◌++◌, length, get_or, set, Option, Some, None, refl, sym, ◌∙◌, ap, subst, get_or-set_other, get_or-set_same, arith, IsTrue}
use Rattle.special_files.proofs.Words.{leaf_place, node_place, nothing_below, two_levels, Allocated, BelongsTo, BlockState, Fits, Free, Graph, HasDraft, Held, Holds, Image, IntendAllocate, IntendDeallocate, IsGoodRoot, IsPlaced, IsRootBlock, IsTaken, IsTree, Leaf, LeavesFit, MapEntry, Node, Object, Opened, Puid, PutsAt, Root, SameAt, SameBeside, StandsIn, below_apart, block_at, bytes_held, cases_Bool, content_of, end_is, entry_in, eqb-false, eqb-true, held, held_at, held_block, held_there, is_free_entry, is_free_in, is_free_state, is_meant, is_meant_for, is_owned_by, is_some, leaf_pointers, leaves_in, leaves_below, levels_of, levels_standing, not_map, object_at, object_below, one_path, part_at, part_of, passes, path_is, place_at, pointer, root_placed, root_spelling, same_Some, same_levels, shadow_apart, shadow_taken, slice_index, stands_for, taken_apart, tree_in, tree_of, tree_placed, ◌==◌, leaf_limit}
use Rattle.block_tree.specs.declared.root.Root as roots
use Rattle.special_files.proofs.Levels.{fresh_leaf, fresh_node}
use Rattle.special_files.proofs.Trees.{fits_with, good_with, leaf_at, leaf_from, node_at}

free_state : (s : BlockState) → is_free_state s ≡ true → s ≡ Free
free_state Free h = refl
free_state Allocated h = cc
free_state IntendAllocate h = cc
free_state IntendDeallocate h = cc

-- From image a to image b leaf l of a draft was put into block x with this content, below its node in block y.
pub record LeafPut (a b : Image) (id : Puid) (d : Opened) (root : roots.Root) (l x y : ℕ) (content : List ℕ) : Type 0 where
  pub size : length b ≡ length a
  pub apart : x ≢ y
  pub x_some : x ≢ 0
  pub y_some : y ≢ 0
  pub x_below : x < length b
  pub y_below : y < length b
  pub y_small : y < 2 ^ 32
  pub entries : (m : ℕ) → m ≢ x → m ≢ y → entry_in b m ≡ entry_in a m
  pub contents : (m : ℕ) → m % 64 ≢ 0 → m ≢ x → m ≢ y → block_at b m ≡ block_at a m
  pub x_meant : is_meant_for b id.block x ≡ true
  pub y_meant : is_meant_for b id.block y ≡ true
  pub x_part : BelongsTo id.block (Leaf l) (part_at b x)
  pub y_part : BelongsTo id.block (Node (l / leaf_pointers.count)) (part_at b y)
  -- each was Free, or is what stood there
  pub x_was : (is_free_in a x ≡ true) ⊎ (tree_of a (content_of d) (l / leaf_pointers.count ∷ l % leaf_pointers.count ∷ []) ≡ x)
  pub y_was : (is_free_in a y ≡ true) ⊎ (tree_of a (content_of d) (l / leaf_pointers.count ∷ []) ≡ y)
  -- and what stood there was the draft's own only where it is that
  pub x_stays : is_meant_for a id.block (tree_of a (content_of d) (l / leaf_pointers.count ∷ l % leaf_pointers.count ∷ [])) ≡ true → tree_of a (content_of d) (l / leaf_pointers.count ∷ l % leaf_pointers.count ∷ []) ≡ x
  pub y_stays : is_meant_for a id.block (tree_of a (content_of d) (l / leaf_pointers.count ∷ [])) ≡ true → tree_of a (content_of d) (l / leaf_pointers.count ∷ []) ≡ y
  pub x_content : block_at b x ≡ content
  pub y_here : pointer leaf_pointers (block_at b y) (l % leaf_pointers.count) ≡ x
  pub y_others : (j : ℕ) → j ≢ l % leaf_pointers.count → pointer leaf_pointers (block_at b y) j ≡ tree_of a (content_of d) (l / leaf_pointers.count ∷ j ∷ [])
  pub root_is : root ≡ record d.root { nodes = set d.root.nodes (l / leaf_pointers.count) y }

same_held : (a b : Image) (v : ℕ) → ((h : Held) → held_at a v ≡ Some h → SameAt a b h.block) → held_at b v ≡ held_at a v
same_held a b zero keeps = refl
same_held a b (suc v) keeps = let s = keeps (held a (suc v)) refl in λ i. Some (record { block = suc v; part = s.part i; content = s.content i })

pub taken_not_free : (a : Image) (n r : ℕ) → IsTaken a n r → is_free_in a n ≡ true → ⊥
taken_not_free a n r taken free = by taken.is taken.taken (ap is_free_entry (sym taken.here) ∙ free)
  where
    by : (e : MapEntry) → e.state ≢ Free → is_free_entry (Some e) ≡ true → ⊥
    by e some h = some (free_state e.state h)

module _ (a b : Image) (g : Graph) (holds : Holds a g) (id : Puid) (d : Opened) (root : roots.Root) (l x y : ℕ) (content : List ℕ) (draft : HasDraft a id d) (put : LeafPut a b id d root l x y content) (most : l < leaf_limit) where
  abbrev old : List ℕ
  old = content_of d

  abbrev new : List ℕ
  new = root_spelling root

  abbrev n : ℕ
  n = l / leaf_pointers.count

  abbrev k : ℕ
  k = l % leaf_pointers.count

  fits_new : Fits root
  fits_new = subst Fits (sym put.root_is) (fits_with d.root n y draft.tree.spelled.good.0 put.y_small)

  node_old : (m : ℕ) → tree_of a old (m ∷ []) ≡ slice_index d.root.nodes m
  node_old m = node_at a d.root draft.tree.spelled.good.0 m

  nodes_are : (m : ℕ) → slice_index root.nodes m ≡ slice_index (set d.root.nodes n y) m
  nodes_are m = ap (λ (r : roots.Root). slice_index r.nodes m) put.root_is

  pub node_is : slice_index root.nodes n ≡ y
  node_is = nodes_are n ∙ (let within : n < length d.root.nodes = omega (arith, draft.tree.spelled.good.0.count) in get_or-set_same d.root.nodes n y 0 within)

  node_stays : (m : ℕ) → m ≢ n → slice_index root.nodes m ≡ slice_index d.root.nodes m
  node_stays m apart = nodes_are m ∙ get_or-set_other d.root.nodes n m y 0 apart

  -- ---- blocks of the old tree

  stands_taken : (p : List ℕ) (h : Held) → (tree_in a old).below p ≡ Some h → IsTaken a h.block id.block
  stands_taken p h v = (tree_placed a (length a) id.block old d.root d.draft.object draft.tree p h v).taken

  elsewhere : (q : List ℕ) (z : ℕ) → z ≢ 0 → (is_free_in a z ≡ true) ⊎ (tree_of a old q ≡ z) → (p : List ℕ) (h : Held) → (tree_in a old).below p ≡ Some h → p ≢ q → h.block ≢ z
  elsewhere q z some (inl free) p h v apart same = taken_not_free a h.block id.block (stands_taken p h v) (subst (λ (m : ℕ). is_free_in a m ≡ true) (sym same) free)
  elsewhere q z some (inr at) p h v apart same =
      apart (one_path a (length a) id.block old d.root d.draft.object draft.tree p q h (held a z) v (ap (held_at a) at ∙ held_there a z some) same)

  same_at : (p : List ℕ) (h : Held) → (tree_in a old).below p ≡ Some h → p ≢ n ∷ [] → p ≢ n ∷ k ∷ [] → SameAt a b h.block
  same_at p h v not_node not_leaf =
      let not_x = elsewhere (n ∷ k ∷ []) x put.x_some put.x_was p h v not_leaf in
      let not_y = elsewhere (n ∷ []) y put.y_some put.y_was p h v not_node in
      record {
        part = ap part_of (put.entries h.block not_x not_y);
        content = put.contents h.block (not_map h.block (taken_apart a g holds h.block id.block (stands_taken p h v))) not_x not_y;
      }

  -- ---- the new tree

  node_other : (m : ℕ) → m ≢ n → tree_of b new (m ∷ []) ≡ tree_of a old (m ∷ [])
  node_other m apart = node_at b root fits_new m ∙ node_stays m apart ∙ sym (node_old m)

  leaf_new : (j : ℕ) → tree_of b new (n ∷ j ∷ []) ≡ pointer leaf_pointers (block_at b y) j
  leaf_new j = leaf_at b root fits_new n j ∙ ap (λ (p : ℕ). leaf_from b p j) node_is ∙ end_is b leaf_pointers y j put.y_some

  leaf_other : (m j : ℕ) → m ≢ n → tree_of b new (m ∷ j ∷ []) ≡ tree_of a old (m ∷ j ∷ [])
  leaf_other m j apart =
      leaf_at b root fits_new m j ∙ ap (λ (p : ℕ). leaf_from b p j) (node_stays m apart) ∙ by (slice_index d.root.nodes m) (node_old m) ∙ sym (leaf_at a d.root draft.tree.spelled.good.0 m j)
    where
      by : (p : ℕ) → tree_of a old (m ∷ []) ≡ p → leaf_from b p j ≡ leaf_from a p j
      by zero is = refl
      by (suc p) is = ap (λ (c : List ℕ). pointer leaf_pointers c j) (same_at (m ∷ []) (held a (suc p)) (ap (held_at a) is) (λ (e : m ∷ [] ≡ n ∷ []). apart (cc)) (λ (e : m ∷ [] ≡ n ∷ k ∷ []). cc)).content

  on : (p : List ℕ) → tree_of b new p ≡ tree_of a old p → p ≢ n ∷ [] → p ≢ n ∷ k ∷ [] → (tree_in b new).below p ≡ (tree_in a old).below p
  on p same not_node not_leaf = ap (held_at b) same ∙ same_held a b (tree_of a old p) (λ h v. same_at p h v not_node not_leaf)

  -- a path leads to the node, to the leaf, or to what it led to
  seen : (p : List ℕ) → (p ≡ n ∷ []) ⊎ ((p ≡ n ∷ k ∷ []) ⊎ ((tree_in b new).below p ≡ (tree_in a old).below p))
  seen [] = inr (inr refl)
  seen (m ∷ []) = elim (cases_Bool (m == n)) [
    | inl is ↦ inl (ap (λ (z : ℕ). z ∷ []) (eqb-true m n is))
    | inr not ↦ let apart : m ≢ n = eqb-false m n not in inr (inr (on (m ∷ []) (node_other m apart) (λ (e : m ∷ [] ≡ n ∷ []). apart (cc)) (λ (e : m ∷ [] ≡ n ∷ k ∷ []). cc)))
  ]
  seen (m ∷ j ∷ []) = elim (cases_Bool (m == n)) [
    | inl is ↦ elim (cases_Bool (j == k)) [
      | inl same ↦ inr (inl (ap (λ (z : ℕ). z ∷ j ∷ []) (eqb-true m n is) ∙ ap (λ (z : ℕ). n ∷ z ∷ []) (eqb-true j k same)))
      | inr not ↦
          let apart : j ≢ k = eqb-false j k not in
          let there = ap (λ (z : ℕ). tree_of b new (z ∷ j ∷ [])) (eqb-true m n is) ∙ leaf_new j ∙ put.y_others j apart ∙ ap (λ (z : ℕ). tree_of a old (z ∷ j ∷ [])) (sym (eqb-true m n is)) in
          inr (inr (on (m ∷ j ∷ []) there (λ (e : m ∷ j ∷ [] ≡ n ∷ []). cc) (λ (e : m ∷ j ∷ [] ≡ n ∷ k ∷ []). apart (cc))))
    ]
    | inr not ↦ let apart : m ≢ n = eqb-false m n not in inr (inr (on (m ∷ j ∷ []) (leaf_other m j apart) (λ (e : m ∷ j ∷ [] ≡ n ∷ []). cc) (λ (e : m ∷ j ∷ [] ≡ n ∷ k ∷ []). apart (cc))))
  ]
  seen (m ∷ j ∷ i ∷ q) = inr (inr (ap (held_at b) (nothing_below b new m j i q) ∙ ap (held_at a) (sym (nothing_below a old m j i q))))

  pub put_beside : SameBeside l (tree_in a old) (tree_in b new)
  put_beside p not_node not_leaf = elim (seen p) [ inl is ↦ absurd (not_node is) | inr (inl is) ↦ absurd (not_leaf is) | inr (inr is) ↦ is ]

  node_there : (tree_in b new).below (n ∷ []) ≡ Some (held b y)
  node_there = ap (held_at b) (node_at b root fits_new n ∙ node_is) ∙ held_there b y put.y_some

  leaf_there : (tree_in b new).below (n ∷ k ∷ []) ≡ Some (held b x)
  leaf_there = ap (held_at b) (leaf_new k ∙ put.y_here) ∙ held_there b x put.x_some

  -- what is so of the node, of the leaf and of all that stood before is so of all
  each : (P : List ℕ → Held → Type 0) → P (n ∷ []) (held b y) → P (n ∷ k ∷ []) (held b x) → ((p : List ℕ) (h : Held) → (tree_in a old).below p ≡ Some h → P p h)
      → (p : List ℕ) (h : Held) → (tree_in b new).below p ≡ Some h → P p h
  each P node leaf rest p h v = elim (seen p) [
    | inl is ↦ subst (λ (q : List ℕ). P q h) (sym is) (subst (P (n ∷ [])) (same_Some _ _ (sym node_there ∙ ap (λ (q : List ℕ). (tree_in b new).below q) (sym is) ∙ v)) node)
    | inr (inl is) ↦ subst (λ (q : List ℕ). P q h) (sym is) (subst (P (n ∷ k ∷ [])) (same_Some _ _ (sym leaf_there ∙ ap (λ (q : List ℕ). (tree_in b new).below q) (sym is) ∙ v)) leaf)
    | inr (inr is) ↦ rest p h (sym is ∙ v)
  ]

  -- ---- which blocks are meant

  entry_of : (m : ℕ) → m ≢ x → m ≢ y → is_meant_for b id.block m ≡ is_meant_for a id.block m
  entry_of m not_x not_y = ap (is_owned_by is_meant id.block) (put.entries m not_x not_y)

  -- a path that leads on as before leads to a block that is fresh or not, as before
  passes_as : (p : List ℕ) → p ≢ n ∷ [] → p ≢ n ∷ k ∷ [] → (tree_in b new).below p ≡ (tree_in a old).below p
      → passes (is_meant_for b id.block) ((tree_in b new).below p) ≡ passes (is_meant_for a id.block) ((tree_in a old).below p)
  passes_as p not_node not_leaf same = ap (passes (is_meant_for b id.block)) same ∙ by ((tree_in a old).below p) refl
    where
      by : (h : Option Held) → (tree_in a old).below p ≡ h → passes (is_meant_for b id.block) h ≡ passes (is_meant_for a id.block) h
      by None is = refl
      by (Some h) is = entry_of h.block (elsewhere (n ∷ k ∷ []) x put.x_some put.x_was p h is not_leaf) (elsewhere (n ∷ []) y put.y_some put.y_was p h is not_node)

  pub leaf_now : fresh_leaf (is_meant_for b id.block) (tree_in b new) l ≡ true
  leaf_now = ap (passes (is_meant_for b id.block)) leaf_there ∙ put.x_meant

  pub node_now : fresh_node (is_meant_for b id.block) (tree_in b new) n ≡ true
  node_now = ap (passes (is_meant_for b id.block)) node_there ∙ put.y_meant

  -- ---- the leaves

  leaf_path : (m : ℕ) → leaves_below b root m ≡ (tree_in b new).below (m / leaf_pointers.count ∷ m % leaf_pointers.count ∷ [])
  leaf_path m = ap (λ (p : List ℕ). (tree_in b new).below p) (path_is new m)

  leaf_was : (m : ℕ) → leaves_below a d.root m ≡ (tree_in a old).below (m / leaf_pointers.count ∷ m % leaf_pointers.count ∷ [])
  leaf_was m = ap (λ (p : List ℕ). (tree_in a old).below p) (path_is old m)

  other_leaf : (m : ℕ) → m ≢ l → (m / leaf_pointers.count ∷ m % leaf_pointers.count ∷ []) ≢ n ∷ k ∷ []
  other_leaf m apart is = let one : m / leaf_pointers.count ≡ n = cc in let two : m % leaf_pointers.count ≡ k = cc in apart (omega (arith, one, two))

  stays_at : (m : ℕ) → m ≢ l → (tree_in b new).below (m / leaf_pointers.count ∷ m % leaf_pointers.count ∷ []) ≡ (tree_in a old).below (m / leaf_pointers.count ∷ m % leaf_pointers.count ∷ [])
  stays_at m apart = elim (seen (m / leaf_pointers.count ∷ m % leaf_pointers.count ∷ [])) [ inl is ↦ cc | inr (inl is) ↦ absurd (other_leaf m apart is) | inr (inr is) ↦ is ]

  pub other_leaves : (m : ℕ) → m ≢ l → fresh_leaf (is_meant_for b id.block) (tree_in b new) m ≡ fresh_leaf (is_meant_for a id.block) (tree_in a old) m
  other_leaves m apart = passes_as (m / leaf_pointers.count ∷ m % leaf_pointers.count ∷ []) (λ e. cc) (other_leaf m apart) (stays_at m apart)

  pub other_nodes : (m : ℕ) → m ≢ n → fresh_node (is_meant_for b id.block) (tree_in b new) m ≡ fresh_node (is_meant_for a id.block) (tree_in a old) m
  other_nodes m apart = passes_as (m ∷ []) (λ e. apart (cc)) (λ e. cc) (elim (seen (m ∷ [])) [ inl is ↦ absurd (apart (cc)) | inr (inl is) ↦ cc | inr (inr is) ↦ is ])

  pub leaf_puts : PutsAt l content (leaves_below a d.root) (leaves_below b root)
  leaf_puts = record {
    here = ap bytes_held (leaf_path l ∙ leaf_there) ∙ ap Some put.x_content;
    others = λ m apart. ap bytes_held (leaf_path m ∙ stays_at m apart ∙ sym (leaf_was m));
  }

  -- ---- the draft

  module _ (o : Object) (at : object_at g id ≡ Some o) (inside : l < leaves_in d.root.size) (filled : (i : ℕ) → i < 512 → d.root.size ≤ 512 * l + i → get_or content i 0 ≡ d.root.fill) where
    root_place : IsPlaced a id.block id.block Root
    root_place = root_placed a (length a) id o (holds.objects id o at)

    root_apart : (q : List ℕ) (z : ℕ) → z ≢ 0 → (is_free_in a z ≡ true) ⊎ (tree_of a old q ≡ z) → id.block ≢ z
    root_apart q z some (inl free) same = taken_not_free a id.block id.block root_place.taken (subst (λ (m : ℕ). is_free_in a m ≡ true) (sym same) free)
    root_apart q z some (inr there) same = below_apart a (length a) id.block old d.root d.draft.object draft.tree root_place q (held a z) (ap (held_at a) there ∙ held_there a z some) (sym same)

    root_kept : block_at b id.block ≡ block_at a id.block
    root_kept = put.contents id.block (not_map id.block (taken_apart a g holds id.block id.block root_place.taken)) (root_apart (n ∷ k ∷ []) x put.x_some put.x_was) (root_apart (n ∷ []) y put.y_some put.y_was)

    -- kind, fill byte and size are those of the old root
    heads : {X : Type 0} (f : roots.Root → X) → f (record d.root { nodes = set d.root.nodes n y }) ≡ f d.root → f root ≡ f d.root
    heads f same = ap f put.root_is ∙ same

    fit : LeavesFit root (leaves_below b root)
    fit = record {
      within = λ m h is. elim (cases_Bool (m == l)) [
        | inl same ↦ rw (eqb-true m l same, heads (λ (r : roots.Root). r.size) refl) inside
        | inr not ↦ rw (heads (λ (r : roots.Root). r.size) refl) (draft.tree.within m h (leaf_was m ∙ sym (stays_at m (eqb-false m l not)) ∙ sym (leaf_path m) ∙ is))
      ];
      filled = λ m i h is small past. elim (cases_Bool (m == l)) [
        | inl same ↦
            let here : h.content ≡ content = same_Some _ _ (ap bytes_held (sym is) ∙ ap (λ (z : ℕ). bytes_held (leaves_below b root z)) (eqb-true m l same) ∙ leaf_puts.here) in
            ap (λ (c : List ℕ). get_or c i 0) here ∙ filled i small (omega (arith, past, heads (λ (r : roots.Root). r.size) refl, eqb-true m l same)) ∙ sym (heads (λ (r : roots.Root). r.fill) refl)
        | inr not ↦ draft.tree.filled m i h (leaf_was m ∙ sym (stays_at m (eqb-false m l not)) ∙ sym (leaf_path m) ∙ is) small (omega (arith, past, heads (λ (r : roots.Root). r.size) refl))
            ∙ sym (heads (λ (r : roots.Root). r.fill) refl)
      ];
    }

    some_stays : (q : List ℕ) → IsTrue (is_some ((tree_in a old).below q)) → IsTrue (is_some ((tree_in b new).below q))
    some_stays q was = elim (seen q) [
      | inl is ↦ subst (λ o. IsTrue (is_some o)) (sym (ap (λ (p : List ℕ). (tree_in b new).below p) is ∙ node_there)) refl
      | inr (inl is) ↦ subst (λ o. IsTrue (is_some o)) (sym (ap (λ (p : List ℕ). (tree_in b new).below p) is ∙ leaf_there)) refl
      | inr (inr is) ↦ subst (λ o. IsTrue (is_some o)) (sym is) was
    ]

    -- what was fresh and is neither block stands where it stood
    stood : (m : ℕ) → is_meant_for a id.block m ≡ true → m ≢ x → m ≢ y → StandsIn (tree_in a old) m → StandsIn (tree_in b new) m
    stood m was not_x not_y s =
        let at_m : tree_of a old s.path ≡ m = sym (held_block a (tree_of a old s.path) s.held s.there) ∙ s.is in
        elim (seen s.path) [
          | inl is ↦ absurd (not_y (let here : tree_of a old (n ∷ []) ≡ m = ap (tree_of a old) (sym is) ∙ at_m in sym here ∙ put.y_stays (ap (is_meant_for a id.block) here ∙ was)))
          | inr (inl is) ↦ absurd (not_x (let here : tree_of a old (n ∷ k ∷ []) ≡ m = ap (tree_of a old) (sym is) ∙ at_m in sym here ∙ put.x_stays (ap (is_meant_for a id.block) here ∙ was)))
          | inr (inr same) ↦ record { path = s.path; held = s.held; there = same ∙ s.there; is = s.is }
        ]

    tree : IsTree (length b) id.block (tree_in b new) root (object_below b root)
    tree = record {
      spelled = record { good = subst IsGoodRoot (sym put.root_is) (good_with d.root n y draft.tree.spelled.good put.y_small); spelled = refl };
      object = refl;
      on_disk = each (λ p h. h.block < length b) put.y_below put.x_below (λ p h v. rw put.size (draft.tree.on_disk p h v));
      owned = each (λ p h. BelongsTo id.block (place_at (levels_of new) p) h.part)
          (subst (λ pl. BelongsTo id.block pl (part_at b y)) (sym (node_place new n)) put.y_part)
          (subst (λ pl. BelongsTo id.block pl (part_at b x)) (sym (leaf_place new n k l (omega arith))) put.x_part)
          (λ p h v. subst (λ ls. BelongsTo id.block (place_at ls p) h.part) (same_levels old new) (draft.tree.owned p h v));
      within = fit.within;
      filled = fit.filled;
      leads_on = λ p h v short. elim (seen p) [
        | inl is ↦ (k, subst (λ (q : List ℕ). IsTrue (is_some ((tree_in b new).below (q ++ k ∷ [])))) (sym is) (subst (λ o. IsTrue (is_some o)) (sym leaf_there) refl))
        | inr (inl is) ↦ absurd (let long : length p ≡ 2 = ap (length {A = ℕ}) is in omega (arith, short, long, two_levels new))
        | inr (inr is) ↦
            let more = draft.tree.leads_on p h (sym is ∙ v) (subst (λ ls. length p < length ls) (same_levels new old) short) in
            (more.0, some_stays (p ++ more.0 ∷ []) more.1)
      ];
    }

    shadow_not : (s : ℕ) → stands_for id.block (entry_in a s) ≡ true → (q : List ℕ) (z : ℕ) → z ≢ 0 → (is_free_in a z ≡ true) ⊎ (tree_of a old q ≡ z) → s ≢ z
    shadow_not s stood q z some (inl free) same = taken_not_free a s id.block (shadow_taken a id.block s stood).taken (subst (λ (m : ℕ). is_free_in a m ≡ true) (sym same) free)
    shadow_not s stood q z some (inr there) same =
        shadow_apart a (length a) id.block s old d.root d.draft.object draft.tree stood (record { path = q; held = held a z; there = ap (held_at a) there ∙ held_there a z some; is = sym same })

    pub put_draft_stands : (fresh : List (List ℕ)) → ((j : ℕ) → get_or fresh j [] ≡ get_or (levels_standing (is_meant_for b id.block) (tree_in b new) (length (levels_of new))) j [])
        → HasDraft b id (record d { root = root; draft = record { object = object_below b root; fresh = fresh } })
    put_draft_stands fresh is_fresh = record {
      own = subst (λ (c : List ℕ). IsRootBlock c d.own) (sym root_kept) draft.own;
      same_kind = heads (λ (r : roots.Root). r.kind) refl ∙ draft.same_kind;
      same_word = heads (λ (r : roots.Root). r.word) refl ∙ draft.same_word;
      tree = tree;
      shadow = λ s is.
          let stood = draft.shadow s is in
          let apart = shadow_not s stood in
          ap (stands_for id.block) (put.entries s (apart (n ∷ k ∷ []) x put.x_some put.x_was) (apart (n ∷ []) y put.y_some put.y_was)) ∙ stood;
      fresh = is_fresh;
      no_other = λ m meant. elim (cases_Bool (m == x)) [
        | inl is ↦ inr (record { path = n ∷ k ∷ []; held = held b x; there = leaf_there; is = sym (eqb-true m x is) })
        | inr not_x ↦ elim (cases_Bool (m == y)) [
          | inl is ↦ inr (record { path = n ∷ []; held = held b y; there = node_there; is = sym (eqb-true m y is) })
          | inr not_y ↦
              let was = sym (entry_of m (eqb-false m x not_x) (eqb-false m y not_y)) ∙ meant in
              elim (draft.no_other m was) [
                | inl shadow ↦ inl shadow
                | inr s ↦ inr (stood m was (eqb-false m x not_x) (eqb-false m y not_y) s)
              ]
        ]
      ];
    }
