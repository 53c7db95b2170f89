-- A draft whose leaves from one on are dropped: what was its own of them is meant for no one then. Where the first lies within a
-- node, this node is written anew.
use Rattle.std.proofs.Common.{◌≡◌, ◌≢◌, ◌⊎◌, inl, inr, ℕ, zero, suc, ◌+◌, ◌*◌, ◌/◌, ◌%◌, ◌<◌, ◌≤◌, true, false, IsTrue, List, [], ◌∷◌, ◌++◌, length, get_or, Option, Some, None, refl, sym, ◌∙◌, ap, subst, arith}
use Rattle.special_files.proofs.Words.{node_place, nothing_below, two_levels, BelongsTo, Drafting, Fits, Forgets, Graph, HasDraft, Held, Holds, Image, IsPathPast, IsPlaced, IsRootBlock, IsShed, IsTaken, IsTree, Node, Object, Opened, Puid, Root, SameAt, StandsIn, below_apart, block_at, both_ways, cases_Bool, cases_lt, content_of, end_is, entry_in, eqb-false, eqb-true, held, held_at, held_block, held_there, is_free_in, is_meant, is_meant_for, is_owned_by, is_some, leaf_pointers, leaves_below, levels_of, levels_standing, not_map, object_at, object_below, one_path, part_at, part_of, passes, path_is, place_at, pointer, root_placed, root_spelling, same_Some, same_levels, shadow_apart, shadow_taken, slice_index, stands_for, taken_apart, tree_in, tree_of, tree_placed, ◌==◌}
use Rattle.block_tree.specs.declared.root.Root as roots
use Rattle.special_files.proofs.Levels.{Tell, fresh_node}
use Rattle.special_files.proofs.Meant.{meant_is}
use Rattle.special_files.proofs.leaf.Puts.{taken_not_free}
use Rattle.special_files.proofs.Trees.{leaf_at, leaf_from, node_at}

-- the node was written into block y without its leaves from a place on, and keeps one
pub record IsRewritten (a b : Image) (id : Puid) (d : Opened) (n q y : ℕ) : Type 0 where
  pub some : y ≢ 0
  pub below : y < length b
  pub meant : is_meant_for b id.block y ≡ true
  pub part : BelongsTo id.block (Node n) (part_at b y)
  pub was : (is_free_in a y ≡ true) ⊎ (tree_of a (content_of d) (n ∷ []) ≡ y)
  pub stays : is_meant_for a id.block (tree_of a (content_of d) (n ∷ [])) ≡ true → tree_of a (content_of d) (n ∷ []) ≡ y
  pub kept : (j : ℕ) → j < q → pointer leaf_pointers (block_at b y) j ≡ tree_of a (content_of d) (n ∷ j ∷ [])
  pub past : (j : ℕ) → q ≤ j → pointer leaf_pointers (block_at b y) j ≡ 0
  pub one : (j : ℕ) × (j < q) × (tree_of a (content_of d) (n ∷ j ∷ []) ≢ 0)

-- from image a to image b the draft's own blocks past the leaf became Free, and the node was written, if the leaf lies within one
pub record IsShort (a b : Image) (id : Puid) (d : Opened) (f y : ℕ) : Type 0 where
  pub size : length b ≡ length a
  pub each : (m : ℕ) → (f % leaf_pointers.count ≢ 0 → m ≢ y) → IsShed a id d f m ⊎ (entry_in b m ≡ entry_in a m)
  pub freed : (m : ℕ) → IsShed a id d f m → is_meant_for b id.block m ≡ false
  pub contents : (m : ℕ) → m % 64 ≢ 0 → (f % leaf_pointers.count ≢ 0 → m ≢ y) → block_at b m ≡ block_at a m
  pub node : f % leaf_pointers.count ≢ 0 → IsRewritten a b id d (f / leaf_pointers.count) (f % leaf_pointers.count) y

same_held : (a b : Image) (v : ℕ) → ((h : Held) → held_at a v ≡ Some h → SameAt a b h.block) → held_at b v ≡ held_at a v
same_held a b zero keeps = refl
same_held a b (suc v) keeps = let s = keeps (held a (suc v)) refl in λ i. Some (record { block = suc v; part = s.part i; content = s.content i })

-- the node that is written, where one is
abbrev IsBorderNode : ℕ → List ℕ → Type 0
IsBorderNode f p = (f % leaf_pointers.count ≢ 0) × (p ≡ f / leaf_pointers.count ∷ [])

module _ (a b : Image) (g : Graph) (holds : Holds a g) (id : Puid) (d : Opened) (f y : ℕ) (draft : HasDraft a id d) (short : IsShort a b id d f y) (nodes : List ℕ) (fits_new : Fits (record d.root { nodes = nodes }))
    (before : (m : ℕ) → leaf_pointers.count * m + leaf_pointers.count ≤ f → slice_index nodes m ≡ slice_index d.root.nodes m) (past : (m : ℕ) → f ≤ leaf_pointers.count * m → slice_index nodes m ≡ 0) (here : f % leaf_pointers.count ≢ 0 → slice_index nodes (f / leaf_pointers.count) ≡ y) where
  abbrev pub root : roots.Root
  root = record d.root { nodes = nodes }

  abbrev old : List ℕ
  old = content_of d

  abbrev new : List ℕ
  new = root_spelling root

  abbrev n : ℕ
  n = f / leaf_pointers.count

  -- ---- blocks that stay

  stands_taken : (p : List ℕ) (h : Held) → (tree_in a old).below p ≡ Some h → IsTaken a h.block id.block
  stands_taken p h v = (tree_placed a (length a) id.block old d.root d.draft.object draft.tree p h v).taken

  real : (p : List ℕ) (h : Held) → (tree_in a old).below p ≡ Some h → h.block % 64 ≢ 0
  real p h v = not_map h.block (taken_apart a g holds h.block id.block (stands_taken p h v))

  not_shed : (p : List ℕ) (h : Held) → (tree_in a old).below p ≡ Some h → (IsPathPast f p → ⊥) → IsShed a id d f h.block → ⊥
  not_shed p h v kept shed =
      kept (subst (IsPathPast f) (sym (one_path a (length a) id.block old d.root d.draft.object draft.tree p shed.path h (held a h.block) v (ap (held_at a) shed.there ∙ held_there a h.block some) refl)) shed.past)
    where
      some : h.block ≢ 0
      some none = real p h v (omega (arith, none))

  -- the block of the node is none of the others
  not_node : (p : List ℕ) (h : Held) → (tree_in a old).below p ≡ Some h → (IsBorderNode f p → ⊥) → f % leaf_pointers.count ≢ 0 → h.block ≢ y
  not_node p h v apart within same = elim (short.node within).was [
    | inl free ↦ taken_not_free a h.block id.block (stands_taken p h v) (subst (λ (m : ℕ). is_free_in a m ≡ true) (sym same) free)
    | inr at ↦ apart (within, one_path a (length a) id.block old d.root d.draft.object draft.tree p (n ∷ []) h (held a y) v (ap (held_at a) at ∙ held_there a y (short.node within).some) same)
  ]

  entry_kept : (p : List ℕ) (h : Held) → (tree_in a old).below p ≡ Some h → (IsBorderNode f p → ⊥) → (IsPathPast f p → ⊥) → entry_in b h.block ≡ entry_in a h.block
  entry_kept p h v apart kept = elim (short.each h.block (not_node p h v apart)) [ inl shed ↦ absurd (not_shed p h v kept shed) | inr same ↦ same ]

  on : (p : List ℕ) → tree_of b new p ≡ tree_of a old p → (IsBorderNode f p → ⊥) → (IsPathPast f p → ⊥) → (tree_in b new).below p ≡ (tree_in a old).below p
  on p same apart kept = ap (held_at b) same ∙ same_held a b (tree_of a old p) (λ h v. record { part = ap part_of (entry_kept p h v apart kept); content = short.contents h.block (real p h v) (not_node p h v apart) })

  -- ---- the new tree

  node_of_path : (m k : ℕ) → IsBorderNode f (m ∷ k ∷ []) → ⊥
  node_of_path m k is = let e = is.1 in cc

  node_before : (m : ℕ) → leaf_pointers.count * m + leaf_pointers.count ≤ f → tree_of b new (m ∷ []) ≡ tree_of a old (m ∷ [])
  node_before m early = node_at b root fits_new m ∙ before m early ∙ sym (node_at a d.root draft.tree.spelled.good.0 m)

  early_node : (m : ℕ) → leaf_pointers.count * m + leaf_pointers.count ≤ f → IsBorderNode f (m ∷ []) → ⊥
  early_node m early is = let same : m ≡ f / leaf_pointers.count = (let e = is.1 in cc) in omega (arith, early, same)

  early_past : (m : ℕ) → leaf_pointers.count * m + leaf_pointers.count ≤ f → IsPathPast f (m ∷ []) → ⊥
  early_past m early late = omega (arith, early, late)

  early_leaf : (m k : ℕ) → leaf_pointers.count * m + leaf_pointers.count ≤ f → IsPathPast f (m ∷ k ∷ []) → ⊥
  early_leaf m k early (inl late) = omega (arith, early, late)
  early_leaf m k early (inr late) = omega (arith, early, late.0)

  leaf_before : (m k : ℕ) → leaf_pointers.count * m + leaf_pointers.count ≤ f → tree_of b new (m ∷ k ∷ []) ≡ tree_of a old (m ∷ k ∷ [])
  leaf_before m k early = leaf_at b root fits_new m k ∙ ap (λ (p : ℕ). leaf_from b p k) (before m early) ∙ by (slice_index d.root.nodes m) (node_at a d.root draft.tree.spelled.good.0 m) ∙ sym (leaf_at a d.root draft.tree.spelled.good.0 m k)
    where
      by : (p : ℕ) → tree_of a old (m ∷ []) ≡ p → leaf_from b p k ≡ leaf_from a p k
      by zero is = refl
      by (suc p) is =
          let there = ap (held_at a) is in
          ap (λ (c : List ℕ). pointer leaf_pointers c k) (short.contents (suc p) (real (m ∷ []) (held a (suc p)) there) (not_node (m ∷ []) (held a (suc p)) there (early_node m early)))

  leaf_gone : (m k : ℕ) → f ≤ leaf_pointers.count * m → tree_of b new (m ∷ k ∷ []) ≡ 0
  leaf_gone m k late = leaf_at b root fits_new m k ∙ ap (λ (p : ℕ). leaf_from b p k) (past m late)

  module _ (within : f % leaf_pointers.count ≢ 0) where
    leaf_new : (k : ℕ) → tree_of b new (n ∷ k ∷ []) ≡ pointer leaf_pointers (block_at b y) k
    leaf_new k = leaf_at b root fits_new n k ∙ ap (λ (p : ℕ). leaf_from b p k) (here within) ∙ end_is b leaf_pointers y k (short.node within).some

    node_there : (tree_in b new).below (n ∷ []) ≡ Some (held b y)
    node_there = ap (held_at b) (node_at b root fits_new n ∙ here within) ∙ held_there b y (short.node within).some

  -- a path leads to the node, to nothing now, or to what it led to
  abbrev Seen : List ℕ → Type 0
  Seen p = IsBorderNode f p ⊎ ((IsPathPast f p × ((tree_in b new).below p ≡ None)) ⊎ ((IsBorderNode f p → ⊥) × (IsPathPast f p → ⊥) × ((tree_in b new).below p ≡ (tree_in a old).below p)))

  seen : (p : List ℕ) → Seen p
  seen [] = inr (inr ((λ is. nowhere is), (λ late. late), refl))
    where
      nowhere : IsBorderNode f [] → ⊥
      nowhere is = let e = is.1 in cc
  seen (m ∷ []) = elim (cases_lt (leaf_pointers.count * m) f) [
    | inr late ↦ inr (inl (late, ap (held_at b) (node_at b root fits_new m ∙ past m late)))
    | inl less ↦ elim (cases_lt f (leaf_pointers.count * m + leaf_pointers.count)) [
      | inl within ↦ let same : m ≡ f / leaf_pointers.count = omega (arith, less, within) in inl ((λ z. omega (arith, z, less, within)), ap (λ (k : ℕ). k ∷ []) same)
      | inr early ↦ inr (inr (early_node m early, early_past m early, on (m ∷ []) (node_before m early) (early_node m early) (early_past m early)))
    ]
  ]
  seen (m ∷ k ∷ []) = elim (cases_lt (leaf_pointers.count * m) f) [
    | inr late ↦ inr (inl (at_or_after late, ap (held_at b) (leaf_gone m k late)))
    | inl less ↦ elim (cases_lt f (leaf_pointers.count * m + leaf_pointers.count)) [
      | inr early ↦ inr (inr (node_of_path m k, early_leaf m k early, on (m ∷ k ∷ []) (leaf_before m k early) (node_of_path m k) (early_leaf m k early)))
      | inl inside ↦
          let same : m ≡ f / leaf_pointers.count = omega (arith, less, inside) in
          let within : f % leaf_pointers.count ≢ 0 = λ z. omega (arith, z, less, inside) in
          let at_n = ap (λ (z : ℕ). z ∷ k ∷ []) same in
          elim (cases_lt k (f % leaf_pointers.count)) [
            | inl early ↦
                let not_past : IsPathPast f (n ∷ k ∷ []) → ⊥ = λ late. early_place k early late in
                subst Seen (sym at_n) (inr (inr (node_of_path n k, not_past, on (n ∷ k ∷ []) (leaf_new within k ∙ (short.node within).kept k early) (node_of_path n k) not_past)))
            | inr late ↦ subst Seen (sym at_n) (inr (inl (inr (refl, late), ap (held_at b) (leaf_new within k ∙ (short.node within).past k late))))
          ]
    ]
  ]
    where
      at_or_after : f ≤ leaf_pointers.count * m → IsPathPast f (m ∷ k ∷ [])
      at_or_after late = elim (cases_lt (f / leaf_pointers.count) m) [ inl after ↦ inl after | inr at ↦ inr (omega (arith, late, at), omega (arith, late, at)) ]

      early_place : (k : ℕ) → k < f % leaf_pointers.count → IsPathPast f (n ∷ k ∷ []) → ⊥
      early_place k early (inl late) = omega (arith, late)
      early_place k early (inr late) = omega (arith, early, late.1)
  seen (m ∷ k ∷ i ∷ q) = inr (inr ((λ is. nowhere is), (λ late. late), ap (held_at b) (nothing_below b new m k i q) ∙ ap (held_at a) (sym (nothing_below a old m k i q))))
    where
      nowhere : IsBorderNode f (m ∷ k ∷ i ∷ q) → ⊥
      nowhere is = let e = is.1 in cc

  -- what is so of the node and of all that stood before is so of all
  each : (P : List ℕ → Held → Type 0) → (f % leaf_pointers.count ≢ 0 → P (n ∷ []) (held b y)) → ((p : List ℕ) (h : Held) → (tree_in a old).below p ≡ Some h → P p h) → (p : List ℕ) (h : Held) → (tree_in b new).below p ≡ Some h → P p h
  each P node rest p h v = elim (seen p) [
    | inl is ↦ subst (λ (q : List ℕ). P q h) (sym is.1) (subst (P (n ∷ [])) (same_Some _ _ (sym (node_there is.0) ∙ ap (λ (q : List ℕ). (tree_in b new).below q) (sym is.1) ∙ v)) (node is.0))
    | inr (inl gone) ↦ let no : None ≡ Some h = sym gone.1 ∙ v in cc
    | inr (inr kept) ↦ rest p h (sym kept.2 ∙ v)
  ]

  -- ---- the leaves

  leaf_path : (l : ℕ) → leaves_below b root l ≡ (tree_in b new).below (l / leaf_pointers.count ∷ l % leaf_pointers.count ∷ [])
  leaf_path l = ap (λ (p : List ℕ). (tree_in b new).below p) (path_is new l)

  leaf_was : (l : ℕ) → leaves_below a d.root l ≡ (tree_in a old).below (l / leaf_pointers.count ∷ l % leaf_pointers.count ∷ [])
  leaf_was l = ap (λ (p : List ℕ). (tree_in a old).below p) (path_is old l)

  leaf_seen : (l : ℕ) → ((f ≤ l) × (leaves_below b root l ≡ None)) ⊎ ((l < f) × (IsPathPast f (l / leaf_pointers.count ∷ l % leaf_pointers.count ∷ []) → ⊥) × (leaves_below b root l ≡ leaves_below a d.root l))
  leaf_seen l = elim (seen (l / leaf_pointers.count ∷ l % leaf_pointers.count ∷ [])) [
    | inl is ↦ absurd (node_of_path (l / leaf_pointers.count) (l % leaf_pointers.count) is)
    | inr (inl gone) ↦ inl (elim gone.0 [ inl late ↦ omega (arith, late) | inr late ↦ omega (arith, late.0, late.1) ], leaf_path l ∙ gone.1)
    | inr (inr kept) ↦ inr (elim (cases_lt l f) [ inl less ↦ less | inr late ↦ absurd (kept.1 (is_past late)) ], kept.1, leaf_path l ∙ kept.2 ∙ sym (leaf_was l))
  ]
    where
      is_past : f ≤ l → IsPathPast f (l / leaf_pointers.count ∷ l % leaf_pointers.count ∷ [])
      is_past late = elim (cases_lt (f / leaf_pointers.count) (l / leaf_pointers.count)) [ inl after ↦ inl after | inr at ↦ inr (omega (arith, late, at), omega (arith, late, at)) ]

  -- those from the one on are gone, and all before are as they were
  pub leaves_gone : (l : ℕ) → f ≤ l → leaves_below b root l ≡ None
  leaves_gone l late = elim (leaf_seen l) [ inl gone ↦ gone.1 | inr kept ↦ absurd (omega (arith, late, kept.0)) ]

  pub leaves_kept : (l : ℕ) → l < f → leaves_below b root l ≡ leaves_below a d.root l
  leaves_kept l less = elim (leaf_seen l) [ inl gone ↦ absurd (omega (arith, less, gone.0)) | inr kept ↦ kept.2 ]

  leaf_stood : (l : ℕ) (h : Held) → leaves_below b root l ≡ Some h → leaves_below a d.root l ≡ Some h
  leaf_stood l h is = elim (leaf_seen l) [
    | inl gone ↦ let no : None ≡ Some h = sym gone.1 ∙ is in cc
    | inr kept ↦ sym kept.2 ∙ is
  ]

  -- ---- the flags

  passes_as : (p : List ℕ) → (IsBorderNode f p → ⊥) → (IsPathPast f p → ⊥) → (tree_in b new).below p ≡ (tree_in a old).below p → passes (is_meant_for b id.block) ((tree_in b new).below p) ≡ passes (is_meant_for a id.block) ((tree_in a old).below p)
  passes_as p apart kept same = ap (passes (is_meant_for b id.block)) same ∙ by ((tree_in a old).below p) refl
    where
      by : (h : Option Held) → (tree_in a old).below p ≡ h → passes (is_meant_for b id.block) h ≡ passes (is_meant_for a id.block) h
      by None is = refl
      by (Some h) is = ap (is_owned_by is_meant id.block) (entry_kept p h is apart kept)

  -- each flag tells what is fresh
  pub tell_short : (was now : Drafting) → Forgets f y was now → Tell (is_meant_for a id.block) (tree_in a old) was.leaves was.nodes → Tell (is_meant_for b id.block) (tree_in b new) now.leaves now.nodes
  tell_short was now forgets tell = record {
    leaf = λ l below. elim (leaf_seen l) [
      | inl gone ↦ forgets.leaf_past l gone.0 ∙ sym (ap (passes (is_meant_for b id.block)) (sym (leaf_path l) ∙ gone.1))
      | inr kept ↦
          forgets.leaf_before l kept.0 ∙ tell.leaf l below
          ∙ sym (passes_as (l / leaf_pointers.count ∷ l % leaf_pointers.count ∷ []) (node_of_path (l / leaf_pointers.count) (l % leaf_pointers.count)) kept.1 (sym (leaf_path l) ∙ kept.2 ∙ leaf_was l))
    ];
    node = λ m below. elim (seen (m ∷ [])) [
      | inl is ↦
          let same : m ≡ n = (let e = is.1 in cc) in
          ap (λ (k : ℕ). get_or now.nodes k false) same ∙ (forgets.here is.0).0 ∙ sym (ap (fresh_node (is_meant_for b id.block) (tree_in b new)) same ∙ ap (passes (is_meant_for b id.block)) (node_there is.0) ∙ (short.node is.0).meant)
      | inr (inl gone) ↦ (forgets.past m gone.0).0 ∙ sym (ap (passes (is_meant_for b id.block)) gone.1)
      | inr (inr kept) ↦
          let early : leaf_pointers.count * m + leaf_pointers.count ≤ f = whole m kept.0 kept.1 in
          (forgets.before m early).0 ∙ tell.node m below ∙ sym (passes_as (m ∷ []) kept.0 kept.1 kept.2)
    ];
  }
    where
      whole : (m : ℕ) → (IsBorderNode f (m ∷ []) → ⊥) → (IsPathPast f (m ∷ []) → ⊥) → leaf_pointers.count * m + leaf_pointers.count ≤ f
      whole m apart kept = elim (cases_lt f (leaf_pointers.count * m + leaf_pointers.count)) [
        | inr early ↦ early
        | inl less ↦ elim (cases_lt (leaf_pointers.count * m) f) [
          | inr late ↦ absurd (kept late)
          | inl inside ↦ let same : m ≡ f / leaf_pointers.count = omega (arith, less, inside) in absurd (apart ((λ z. omega (arith, z, less, inside)), ap (λ (k : ℕ). k ∷ []) same))
        ]
      ]

  -- ---- the draft

  leads : (p : List ℕ) (h : Held) → (tree_in b new).below p ≡ Some h → length p < length (levels_of old) → (k : ℕ) × IsTrue (is_some ((tree_in b new).below (p ++ k ∷ [])))
  leads [] h v less = let no : None ≡ Some h = v in cc
  leads (m ∷ []) h v less = elim (cases_lt (leaf_pointers.count * m) f) [
    | inr late ↦ let no : None ≡ Some h = sym (ap (held_at b) (node_at b root fits_new m ∙ past m late)) ∙ v in cc
    | inl low ↦ elim (cases_lt f (leaf_pointers.count * m + leaf_pointers.count)) [
      | inl inside ↦
          let same : m ≡ f / leaf_pointers.count = omega (arith, low, inside) in
          let within : f % leaf_pointers.count ≢ 0 = λ z. omega (arith, z, low, inside) in
          let one = (short.node within).one in (
            one.0,
            subst (λ (z : ℕ). IsTrue (is_some ((tree_in b new).below (z ∷ one.0 ∷ [])))) (sym same) (subst (λ o. IsTrue (is_some o))
                (sym (ap (held_at b) (leaf_new within one.0 ∙ (short.node within).kept one.0 one.1) ∙ held_there b (tree_of a old (n ∷ one.0 ∷ [])) one.2)) refl),
          )
      | inr early ↦
          let was : (tree_in a old).below (m ∷ []) ≡ Some h = sym (on (m ∷ []) (node_before m early) (early_node m early) (early_past m early)) ∙ v in
          let more = draft.tree.leads_on (m ∷ []) h was less in
          (more.0, subst (λ o. IsTrue (is_some o)) (sym (on (m ∷ more.0 ∷ []) (leaf_before m more.0 early) (node_of_path m more.0) (early_leaf m more.0 early))) more.1)
    ]
  ]
  leads (m ∷ k ∷ q) h v less = absurd (omega (arith, less, two_levels old))

  module _ (o : Object) (at : object_at g id ≡ Some o) where
    root_place : IsPlaced a id.block id.block Root
    root_place = root_placed a (length a) id o (holds.objects id o at)

    some_block : (m : ℕ) → is_meant_for a id.block m ≡ true → m ≢ 0
    some_block m meant none = not_map m (taken_apart a g holds m id.block (meant_is a id.block m meant).taken) (omega (arith, none))

    -- the block of the node isn't one that stands outside the tree
    not_y : (m : ℕ) → IsTaken a m id.block → (tree_of a old (n ∷ []) ≡ m → m ≢ 0 → ⊥) → f % leaf_pointers.count ≢ 0 → m ≢ y
    not_y m taken outside within same = elim (short.node within).was [
      | inl free ↦ taken_not_free a m id.block taken (subst (λ (k : ℕ). is_free_in a k ≡ true) (sym same) free)
      | inr there ↦ outside (there ∙ sym same) (λ z. (short.node within).some (sym same ∙ z))
    ]

    root_apart : f % leaf_pointers.count ≢ 0 → id.block ≢ y
    root_apart = not_y id.block root_place.taken (λ there some. below_apart a (length a) id.block old d.root d.draft.object draft.tree root_place (n ∷ []) (held a id.block) (ap (held_at a) there ∙ held_there a id.block some) refl)

    own_kept : block_at b id.block ≡ block_at a id.block
    own_kept = short.contents id.block (not_map id.block (taken_apart a g holds id.block id.block root_place.taken)) root_apart

    tree : IsTree (length b) id.block (tree_in b new) root (object_below b root)
    tree = record {
      spelled = record { good = (fits_new, record { fill = draft.tree.spelled.good.1.fill; size = draft.tree.spelled.good.1.size }); spelled = refl };
      object = refl;
      on_disk = each (λ p h. h.block < length b) (λ w. (short.node w).below) (λ p h v. rw short.size (draft.tree.on_disk p h v));
      owned = each (λ p h. BelongsTo id.block (place_at (levels_of new) p) h.part) (λ w. subst (λ pl. BelongsTo id.block pl (part_at b y)) (sym (node_place new n)) (short.node w).part)
          (λ p h v. subst (λ ls. BelongsTo id.block (place_at ls p) h.part) (same_levels old new) (draft.tree.owned p h v));
      within = λ m h is. draft.tree.within m h (leaf_stood m h is);
      filled = λ m i h is small past. draft.tree.filled m i h (leaf_stood m h is) small past;
      leads_on = λ p h v less. leads p h v (subst (λ ls. length p < length ls) (same_levels new old) less);
    }

    shadow_shed : (s : ℕ) → stands_for id.block (entry_in a s) ≡ true → IsShed a id d f s → ⊥
    shadow_shed s stood shed = shadow_apart a (length a) id.block s old d.root d.draft.object draft.tree stood
        (record { path = shed.path; held = held a s; there = ap (held_at a) shed.there ∙ held_there a s (some_block s shed.meant); is = refl })

    shadow_y : (s : ℕ) → stands_for id.block (entry_in a s) ≡ true → f % leaf_pointers.count ≢ 0 → s ≢ y
    shadow_y s stood = not_y s (shadow_taken a id.block s stood).taken
        (λ there some. shadow_apart a (length a) id.block s old d.root d.draft.object draft.tree stood (record { path = n ∷ []; held = held a s; there = ap (held_at a) there ∙ held_there a s some; is = refl }))

    still_stands : (m : ℕ) → is_meant_for b id.block m ≡ true → is_meant_for a id.block m ≡ true → (f % leaf_pointers.count ≢ 0 → m ≢ y) → StandsIn (tree_in a old) m → StandsIn (tree_in b new) m
    still_stands m meant was apart s =
        let at_m : tree_of a old s.path ≡ m = sym (held_block a (tree_of a old s.path) s.held s.there) ∙ s.is in
        elim (seen s.path) [
          | inl is ↦ absurd (apart is.0 (let there : tree_of a old (n ∷ []) ≡ m = ap (tree_of a old) (sym is.1) ∙ at_m in sym there ∙ (short.node is.0).stays (ap (is_meant_for a id.block) there ∙ was)))
          | inr (inl gone) ↦ absurd (both_ways _ (short.freed m (record { meant = was; path = s.path; past = gone.0; there = at_m })) meant)
          | inr (inr kept) ↦ record { path = s.path; held = s.held; there = kept.2 ∙ s.there; is = s.is }
        ]

    pub short_stands : (fresh : List (List ℕ)) → ((k : ℕ) → get_or fresh k [] ≡ get_or (levels_standing (is_meant_for b id.block) (tree_in b new) (length (levels_of new))) k [])
        → HasDraft b id (record d { root = root; draft = record { object = object_below b root; fresh = fresh } })
    short_stands fresh is_fresh = record {
      own = subst (λ (c : List ℕ). IsRootBlock c d.own) (sym own_kept) draft.own;
      same_kind = draft.same_kind;
      same_word = draft.same_word;
      tree = tree;
      shadow = λ s is.
          let stood = draft.shadow s is in
          elim (short.each s (shadow_y s stood)) [ inl shed ↦ absurd (shadow_shed s stood shed) | inr same ↦ ap (stands_for id.block) same ∙ stood ];
      fresh = is_fresh;
      no_other = λ m meant. elim (cases_Bool (f % leaf_pointers.count == 0)) [
        | inl whole ↦ other m meant (λ within. absurd (within (eqb-true (f % leaf_pointers.count) 0 whole)))
        | inr not ↦ elim (cases_Bool (m == y)) [
          | inl is ↦ inr (record { path = n ∷ []; held = held b y; there = node_there (eqb-false (f % leaf_pointers.count) 0 not); is = sym (eqb-true m y is) })
          | inr apart ↦ other m meant (λ within. eqb-false m y apart)
        ]
      ];
    }
      where
        other : (m : ℕ) → is_meant_for b id.block m ≡ true → (f % leaf_pointers.count ≢ 0 → m ≢ y) → (d.shadow ≡ Some m) ⊎ StandsIn (tree_in b new) m
        other m meant apart = elim (short.each m apart) [
          | inl shed ↦ absurd (both_ways _ (short.freed m shed) meant)
          | inr same ↦
              let was : is_meant_for a id.block m ≡ true = ap (is_owned_by is_meant id.block) (sym same) ∙ meant in
              elim (draft.no_other m was) [ inl shadow ↦ inl shadow | inr s ↦ inr (still_stands m meant was apart s) ]
        ]
