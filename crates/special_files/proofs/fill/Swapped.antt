-- A draft that was its object until one leaf was put: what its commit takes and drops.
use Rattle.std.proofs.Common.{◌≡◌, ◌≢◌, ℕ, zero, suc, ◌+◌, ◌*◌, ◌/◌, ◌%◌, ◌<◌, List, [], ◌∷◌, ◌++◌, get_or, Option, Some, None, refl, sym, ◌∙◌, ap, subst, arith}
use Rattle.special_files.proofs.Ways.{has_node, leaves_are_safe, node_is_read, node_is_safe}
use Rattle.special_files.proofs.Words.{IsTo, Accounts, ChangesOnly, Draft, DraftBecomes, DraftView, Drafting, Drafts, Fits, Ghosts, Graph, HasDraft, Held, Image, IsChanged, IsNearSwap, IsRead, IsSafe, IsSwapped, Kept, Way, Object, Opened, Puid, SameBeside, Swap, Tree, all_unlike, block_kept, drafts_miss, dropped_by, held_at, is_had, leaves_at, object_at, of_draft, opened_as, own_tree, pointer_to_node, root_spelling, same_tree, tree_in, tree_of, unlike, with_opened, way_leaves, blocks_limit, leaf_limit, leaf_pointers, node_blocks}
use Rattle.block_tree.specs.declared.root.Root as roots
use Rattle.special_files.proofs.PutStore.{the_draft}
use Rattle.special_files.proofs.changed.ChangedRun.{all_change, node_in_tree, table_below}
use Rattle.special_files.proofs.changed.ChangedTrees.{in_tree, in_tree_is, index_again, index_of, path_of}
use Rattle.special_files.proofs.changed.Unlike.{two_unlike}
use Rattle.special_files.proofs.View.{draft_of}

-- the object's own tree stands as it stood
pub own_kept : (a b : Image) (g : Graph) (ds : Drafts) (id : Puid) (o : Object) (d : Opened) → Accounts a g ds → object_at g id ≡ Some o → HasDraft a id d → ChangesOnly (λ e. of_draft id.block e) a b
    → tree_in b (root_spelling d.own) ≡ tree_in a (root_spelling d.own)
own_kept a b g ds id o d had at draft only = same_tree a b (root_spelling d.own) (λ p h v.
    block_kept (λ e. of_draft id.block e) a b g ds had only id o at (drafts_miss is_had refl (id.block ∷ []) id.block) h.block
    (own_tree a g had.holds id o at (had.objects id o at) d draft p h (ap (λ (c : List ℕ). (tree_in a c).below p) draft.own.spelled ∙ v)))

-- ---- pointers by what they lead to

block_in : Option Held → ℕ
block_in None = 0
block_in (Some h) = h.block

block_is : (i : Image) (n : ℕ) → block_in (held_at i n) ≡ n
unfolding block_in
block_is i zero = refl
block_is i (suc n) = refl

in_below : (i : Image) (r : roots.Root) → Fits r → (j : ℕ) → in_tree i r j ≡ block_in ((tree_in i (root_spelling r)).below (path_of j))
in_below i r fits j = in_tree_is i r fits j ∙ sym (block_is i (tree_of i (root_spelling r) (path_of j)))

module _ (a b : Image) (own root : roots.Root) (fits_own : Fits own) (fits : Fits root) (l : ℕ) (few : l < leaf_limit) (kept : tree_in b (root_spelling own) ≡ tree_in a (root_spelling own))
    (beside : SameBeside l (tree_in a (root_spelling own)) (tree_in b (root_spelling root))) (was is : ℕ) (was_is : was ≡ get_or (leaves_at a (pointer_to_node own (l / leaf_pointers.count))) (l % leaf_pointers.count) 0) (is_is : is ≡ get_or (leaves_at b (pointer_to_node root (l / leaf_pointers.count))) (l % leaf_pointers.count) 0) where
  -- where the node and the leaf are among the pointers
  abbrev p : ℕ
  p = node_blocks * (l / leaf_pointers.count) + 0

  abbrev q : ℕ
  q = node_blocks * (l / leaf_pointers.count) + suc (l % leaf_pointers.count)

  own_same : (j : ℕ) → in_tree b own j ≡ in_tree a own j
  own_same j = in_below b own fits_own j ∙ ap (λ (t : Tree). block_in (t.below (path_of j))) kept ∙ sym (in_below a own fits_own j)

  others : (j : ℕ) → j ≢ p → j ≢ q → in_tree b root j ≡ in_tree b own j
  unfolding index_of
  others j not_p not_q =
      in_below b root fits j
      ∙ ap block_in (beside (path_of j) (λ at. not_p (sym (index_again j) ∙ ap index_of at ∙ omega arith)) (λ at. not_q (sym (index_again j) ∙ ap index_of at ∙ omega arith)))
      ∙ sym (in_below a own fits_own j) ∙ sym (own_same j)

  new_leaf : in_tree b root q ≡ is
  new_leaf = node_in_tree b root (l / leaf_pointers.count) (suc (l % leaf_pointers.count)) (omega arith) ∙ sym is_is

  own_leaf : in_tree b own q ≡ was
  own_leaf = own_same q ∙ node_in_tree a own (l / leaf_pointers.count) (suc (l % leaf_pointers.count)) (omega arith) ∙ sym was_is

  new_node : in_tree b root p ≡ pointer_to_node root (l / leaf_pointers.count)
  new_node = node_in_tree b root (l / leaf_pointers.count) 0 (omega arith)

  own_node : in_tree b own p ≡ pointer_to_node own (l / leaf_pointers.count)
  own_node = node_in_tree b own (l / leaf_pointers.count) 0 (omega arith)

  pub taken_two : all_unlike (in_tree b root) (in_tree b own) blocks_limit ≡ unlike (pointer_to_node root (l / leaf_pointers.count)) (pointer_to_node own (l / leaf_pointers.count)) ++ unlike is was
  taken_two = two_unlike (in_tree b root) (in_tree b own) p q blocks_limit (omega arith) (omega (arith, few)) (λ j less. others j) ∙ (λ i. unlike (new_node i) (own_node i) ++ unlike (new_leaf i) (own_leaf i))

  pub dropped_two : all_unlike (in_tree b own) (in_tree b root) blocks_limit ≡ unlike (pointer_to_node own (l / leaf_pointers.count)) (pointer_to_node root (l / leaf_pointers.count)) ++ unlike was is
  dropped_two = two_unlike (in_tree b own) (in_tree b root) p q blocks_limit (omega arith) (omega (arith, few)) (λ j less not_p not_q. sym (others j not_p not_q)) ∙ (λ i. unlike (own_node i) (new_node i) ++ unlike (own_leaf i) (new_leaf i))

-- ---- what was put

module _ (was now : Drafting) (l : ℕ) (few : l < leaf_limit) (first next : Way) (first_to : IsTo l first) (next_to : IsTo l next) (equal : was.root ≡ was.own) (own_is : now.own ≡ was.own) where
  abbrev swap : Swap
  swap = record { leaf = l; was = get_or (way_leaves first) (l % leaf_pointers.count) 0; is = get_or (way_leaves next) (l % leaf_pointers.count) 0 }

  own_root : now.own ≡ was.root
  own_root = own_is ∙ sym equal

  pub near_swap : (size : ℕ) → 0 < size → IsSafe size was first → IsSafe size now next → IsNearSwap size now swap
  near_swap size some one two = record {
    leaf = few;
    was = table_below size 0 (way_leaves first) some some (leaves_are_safe size was.root first (l / leaf_pointers.count) (has_node first l first_to) one) (suc (l % leaf_pointers.count));
    is = table_below size 0 (way_leaves next) some some (leaves_are_safe size now.root next (l / leaf_pointers.count) (has_node next l next_to) two) (suc (l % leaf_pointers.count));
    own = subst (λ (r : roots.Root). pointer_to_node r (l / leaf_pointers.count) < size) (sym own_root) (node_is_safe size was.root first (l / leaf_pointers.count) (has_node first l first_to) one);
    node = node_is_safe size now.root next (l / leaf_pointers.count) (has_node next l next_to) two;
  }

  pub is_swapped : {D : Type 0} {g : Ghosts D} {d0 d1 : D} {k0 k1 : Kept} (v : DraftView g d0 k0 was) (e : Draft) → DraftBecomes g v.graph v.ds v.id e d0 d1 k1 now
      → SameBeside l (tree_in (g.content d0) (root_spelling was.root)) (tree_in (g.content d1) (root_spelling now.root)) → IsRead (g.content d0) was first → IsRead (g.content d1) now next → IsSwapped (g.content d1) v.id now e swap
  is_swapped {g = g} {d0} {d1} {k1 = k1} v e becomes beside read0 read1 =
      let a = g.content d0 in
      let b = g.content d1 in
      let es = with_opened v.id (opened_as now e) v.ds in
      let after = the_draft b es v.id now e becomes.is_open (becomes.steps.store.account.drafts v.id v.object v.at) in
      let kept = subst (λ (r : roots.Root). tree_in b (root_spelling r) ≡ tree_in a (root_spelling r)) (sym own_is) (own_kept a b v.graph v.ds v.id v.object (opened_as was v.draft) v.store.account v.at (draft_of v) becomes.steps.only) in
      let same = subst (λ (r : roots.Root). SameBeside l (tree_in a (root_spelling r)) (tree_in b (root_spelling now.root))) (sym own_root) beside in
      let was_is = ap (λ (ns : List ℕ). get_or ns (l % leaf_pointers.count) 0) (node_is_read a was.root first (l / leaf_pointers.count) (has_node first l first_to) read0 ∙ (λ i. leaves_at a (pointer_to_node (sym own_root i) (l / leaf_pointers.count)))) in
      let is_is = ap (λ (ns : List ℕ). get_or ns (l % leaf_pointers.count) 0) (node_is_read b now.root next (l / leaf_pointers.count) (has_node next l next_to) read1) in
      let change = all_change g v.graph es k1 v.id v.object now e d1 becomes.steps.store v.at becomes.is_open in
      subst (λ (ns : List ℕ). IsChanged b v.id (opened_as now e) ns (dropped_by now swap)) (taken_two a b now.own now.root after.own.good.0 after.tree.spelled.good.0 l few kept same swap.was swap.is was_is is_is)
      (subst (IsChanged b v.id (opened_as now e) (all_unlike (in_tree b now.root) (in_tree b now.own) blocks_limit)) (dropped_two a b now.own now.root after.own.good.0 after.tree.spelled.good.0 l few kept same swap.was swap.is was_is is_is) change)
