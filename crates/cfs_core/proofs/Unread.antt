-- Before anything is marked there is no more to read than blocks are taken: a leaf that a draft holds is fresh, or its
-- object's own.
use Rattle.std.proofs.Common.{◌≡◌, ◌/◌, ◌⊎◌, inl, inr, ℕ, ◌+◌, ◌-◌, ◌≤◌, List, [], ◌∷◌, length, get_or, Bool, true, false, cond, Option, Some, None, is_some, refl, sym, ◌∙◌, ap, subst, arith, filter, ◌%◌, nat_le, zero, suc}
use Rattle.std.specs.List.{sum_by, range_with_len}
use Rattle.std.proofs.lemmas.List.Sums.{sum_by-cons}
use Rattle.block_tree.specs.Pointers.{leaf_limit, leaf_pointers}
use Rattle.block_tree.specs.declared.root.Root.{Root}
use Rattle.block_tree.proofs.Trees.{path_is}
use Rattle.ufs_model.specs.Need.{one_if}
use Rattle.block_tree.specs.Tree.{levels_of}
use Rattle.std.proofs.Math.Path.{fun_ext}
use Rattle.cfs_core.proofs.Words.{blocks_of, blocks_taken, block_at, cases_Bool, Ghosts, Graph, HasDraft, HasItsBlocks, Held, Holds, Image, Index, is_meant_for, IsTree, Object, object_at, Opened, Puid, State, content_of, Drafts, draft_blocks_if}
use Rattle.marking.proofs.Sums.{count_all, sum_more}
use Rattle.marking.specs.Colours.{none_marked}
use Rattle.marking.specs.Pace.{unread, unread_at, unread_of}
use Rattle.collector_steps.proofs.Indices.{tree_of_index}
use Rattle.special_files.proofs.Levels.{fresh_leaf, leaf_level, levels_are}
use Rattle.ufs_model.specs.declared.object.Object.TheVariants as objects
use Rattle.ufs_model.specs.Numbers.{parents, first_level}
use Rattle.ufs_model.specs.State.{draft_at}
use Rattle.vol_image.proofs.Counts.{blocks_counted}
use Rattle.vol_image.specs.Seen.{held_at, tree_in}
use Rattle.vol_owners.specs.Account.{passes}
use Rattle.vol_owners.proofs.Differing.{not_meant_is_own, stands_some}
use Rattle.vol_owners.proofs.Keys.{sum_ids, sum_objects}
use Rattle.vol_owners.proofs.Sums.{sum_both}
use Rattle.cfs_core.specs.Kernel.{Kernel}
use Rattle.cfs_core.specs.Handles.{root_at}
use Rattle.cfs_core.specs.StandsFor.{CoreServes, drafts_of_handles}
use Rattle.cfs_core.proofs.DraftRoots.{Opens, its_tree, opens_here}

-- ---- counts

few_pass : (P F O : ℕ → Bool) → ((n : ℕ) → P n ≡ true → (F n ≡ true) ⊎ (O n ≡ true)) → (ns : List ℕ) → length (filter P ns) ≤ length (filter F ns) + length (filter O ns)
few_pass P F O each [] = omega arith
few_pass P F O each (n ∷ ns) = at (few_pass P F O each ns) (P n) (F n) (O n) (each n)
  where
    at : length (filter P ns) ≤ length (filter F ns) + length (filter O ns) → (p f o : Bool) → (p ≡ true → (f ≡ true) ⊎ (o ≡ true))
        → length (cond p (n ∷ filter P ns) (filter P ns)) ≤ length (cond f (n ∷ filter F ns) (filter F ns)) + length (cond o (n ∷ filter O ns) (filter O ns))
    at rest false true true is = omega (arith, rest)
    at rest false true false is = omega (arith, rest)
    at rest false false true is = omega (arith, rest)
    at rest false false false is = omega (arith, rest)
    at rest true true true is = omega (arith, rest)
    at rest true true false is = omega (arith, rest)
    at rest true false true is = omega (arith, rest)
    at rest true false false is = elim (is refl) [ inl x ↦ cc | inr x ↦ cc ]

first_few : (levels : List (List ℕ)) → length (get_or levels 0 []) ≤ sum_by length levels
first_few [] = omega arith
first_few (ns ∷ levels) = omega (arith, sum_by-cons {X = List ℕ} length ns levels)

sums : (h f o t a b c : ℕ) → h ≡ a → f ≡ b → o ≡ c → a ≤ b + c → f ≤ t → h ≤ t + o
sums h f o t a b c h_is f_is o_is few some = omega (arith, h_is, f_is, o_is, few, some)

bit_few : (b : Bool) → cond b 1 0 ≤ 1
bit_few true = omega arith
bit_few false = omega arith

all_few : (has : Bool) (ns : List ℕ) → unread_of has (Some 0) ns ≤ length ns + 1
all_few has ns = omega (arith, sum_more (λ n. cond (nat_le 0 n) 1 0) (λ n. 1) (λ n. bit_few (nat_le 0 n)) ns, count_all ns, one has)
  where
    one : (b : Bool) → one_if b ≤ 1
    one true = omega arith
    one false = omega arith

none_few : (ns : List ℕ) → unread_of false (Some 0) ns ≤ length ns
none_few ns = omega (arith, sum_more (λ n. cond (nat_le 0 n) 1 0) (λ n. 1) (λ n. bit_few (nat_le 0 n)) ns, count_all ns)

-- ---- one index and its draft

module _ (image : Image) (g : Graph) (holds : Holds image g) (id : Puid) (i : Index) (at : object_at g id ≡ Some (objects.Index i)) (has : HasItsBlocks image id.block) (d : Opened) (draft : HasDraft image id d) (j : Index) (is : d.draft.object ≡ objects.Index j) where
  abbrev own : List ℕ
  own = block_at image id.block

  abbrev has_leaf : List ℕ → ℕ → Bool
  has_leaf content n = is_some ((tree_in image content).below (n / leaf_pointers.count ∷ n % leaf_pointers.count ∷ []))

  held_is : (content : List ℕ) (root : Root) (k : Index) → IsTree (length image) id.block (tree_in image content) root (objects.Index k) → k.held ≡ filter (has_leaf content) (range_with_len 0 leaf_limit)
  unfolding levels_of
  held_is content root k tree =
      ap first_level (sym (blocks_counted image (length image) id.block content root (objects.Index k) tree))
      ∙ ap (λ (P : ℕ → Bool). filter P (range_with_len 0 leaf_limit)) (fun_ext (λ n. ap (λ (p : List ℕ). is_some ((tree_in image content).below p)) (path_is content n)))

  fresh_is : get_or d.draft.fresh 0 [] ≡ filter (fresh_leaf (is_meant_for image id.block) (tree_in image (content_of d))) (range_with_len 0 leaf_limit)
  fresh_is = draft.fresh 0 ∙ ap (λ (ls : List (List ℕ)). get_or ls 0 []) (levels_are (is_meant_for image id.block) (tree_in image (content_of d))) ∙ leaf_level (is_meant_for image id.block) (tree_in image (content_of d))

  -- a leaf that the draft holds is fresh, or its object's own
  fresh_or_own : (n : ℕ) → has_leaf (content_of d) n ≡ true → (fresh_leaf (is_meant_for image id.block) (tree_in image (content_of d)) n ≡ true) ⊎ (has_leaf own n ≡ true)
  fresh_or_own n h = by ((tree_in image (content_of d)).below path) refl h
    where
      path : List ℕ
      path = n / leaf_pointers.count ∷ n % leaf_pointers.count ∷ []

      by : (o : Option Held) → (tree_in image (content_of d)).below path ≡ o → is_some o ≡ true → (passes (is_meant_for image id.block) ((tree_in image (content_of d)).below path) ≡ true) ⊎ (has_leaf own n ≡ true)
      by None v some = cc
      by (Some x) v some = elim (cases_Bool (is_meant_for image id.block x.block)) [
        | inl meant ↦ inl (ap (passes (is_meant_for image id.block)) v ∙ meant)
        | inr other ↦
            let same = not_meant_is_own image g holds id (objects.Index i) at has d draft path x v other in
            inr (ap (λ (m : ℕ). is_some (held_at image m)) same ∙ there x.block (stands_some image (content_of d) path x v))
      ]
        where
          there : (m : ℕ) → ¬ (m ≡ 0) → is_some (held_at image m) ≡ true
          there zero none = absurd (none refl)
          there (suc m) none = refl

  pub held_few : length j.held ≤ sum_by length d.draft.fresh + length i.held
  held_few =
      let its = tree_of_index image g holds id i at has.no_bit in
      let drafted = held_is (content_of d) d.root j (subst (λ (o : Object). IsTree (length image) id.block (tree_in image (content_of d)) d.root o) is draft.tree) in
      let owned = held_is own its.0 i its.1 in
      sums (length j.held) (length (get_or d.draft.fresh 0 [])) (length i.held) (sum_by length d.draft.fresh) _ _ _ (ap (λ (ns : List ℕ). length ns) drafted) (ap (λ (ns : List ℕ). length ns) fresh_is) (ap (λ (ns : List ℕ). length ns) owned)
      (few_pass (has_leaf (content_of d)) (fresh_leaf (is_meant_for image id.block) (tree_in image (content_of d))) (has_leaf own) fresh_or_own (range_with_len 0 leaf_limit)) (first_few d.draft.fresh)

-- ---- one object

index_blocks : (i : Index) → 1 + length i.held ≤ blocks_of (objects.Index i)
index_blocks i = omega (arith, sum_by-cons {X = List ℕ} length i.held (parents i.held ∷ []))

some_blocks : (o : Object) → 1 ≤ blocks_of o
some_blocks o = omega arith

module _ {D : Type 0} (g : Ghosts D) (k : Kernel D) (s : State) (serves : CoreServes g k s) where
  abbrev image : Image
  image = g.content k.disk

  abbrev ds : Drafts
  ds = drafts_of_handles k.handles s.grants

  abbrev taken_at : Puid × Object → ℕ
  taken_at e = blocks_of e.1 + draft_blocks_if (ds e.0)

  at_one : (id : Puid) (own : Object) → object_at s.graph id ≡ Some own → unread_at s none_marked id ≤ taken_at (id, own)
  at_one id own at = by own at (root_at k.handles id) (draft_at s.grants id) refl (opens_here g k s serves id own at)
    where
      by : (own : Object) → object_at s.graph id ≡ Some own → (r : Option Root) (o : Option Object) → draft_at s.grants id ≡ o → Opens ds id own r o → unread_at s none_marked id ≤ taken_at (id, own)
      by (objects.File f) at None None none is = rw (none, at) (omega (arith, some_blocks (objects.File f)))
      by (objects.Index i) at None None none is = rw (none, at) (omega (arith, none_few i.held, index_blocks i))
      by (objects.File f) at (Some root) (Some (objects.File d)) has is = rw has (omega (arith, some_blocks (objects.File f)))
      by (objects.File f) at (Some root) (Some (objects.Index d)) has is = let no : false ≡ true = is.of_own in cc
      by (objects.Index i) at (Some root) (Some (objects.File d)) has is = let no : false ≡ true = is.of_own in cc
      by (objects.Index i) at (Some root) (Some (objects.Index d)) has is =
          let account = serves.store.account in
          let few = held_few image s.graph account.holds id i at (account.objects id (objects.Index i) at) is.opened (its_tree g k s serves id (objects.Index i) at root (objects.Index d) is) d is.object_is in
          rw has (omega (arith, all_few true d.held, few, ap draft_blocks_if is.only, index_blocks i))
      by own at (Some root) None has is = absurd is
      by own at None (Some o) has is = absurd is

  -- ---- all

  pub unread_few : unread s none_marked ≤ blocks_taken s.graph ds
  unread_few =
      let f : Puid × Object → ℕ = λ e. unread_at s none_marked e.0 in
      let filled = sum_objects s.graph serves.store.ordered (λ e. f e + (taken_at e - f e)) taken_at (λ x o at. let le = at_one x o at in omega (arith, le)) in
      omega (
        arith,
        sum_ids (unread_at s none_marked) s.graph.objects,
        filled,
        sum_both f (λ e. taken_at e - f e) s.graph.objects,
        sum_both (λ (e : Puid × Object). blocks_of e.1) (λ e. draft_blocks_if (ds e.0)) s.graph.objects,
        sum_ids (λ id. draft_blocks_if (ds id)) s.graph.objects,
      )
