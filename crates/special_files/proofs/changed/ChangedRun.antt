-- The lists of what differs, node after node.
use Rattle.std.proofs.Common.{◌≡◌, inl, inr, ℕ, zero, suc, ◌+◌, ◌*◌, ◌/◌, ◌%◌, ◌<◌, ◌≤◌, List, [], ◌++◌, length, get_or, Some, refl, sym, ◌∙◌, ap, subst, append_assoc, length-append, arith}
use Rattle.special_files.proofs.Words.{All, Drafting, Drafts, Ghosts, Graph, HasDraft, Image, IsChanged, IsNear, IsOpen, Kept, Object, OnlyReads, Puid, StoreHas, Tells, all_unlike, append-nil, blocks_limit, cases_lt, get_or_past, in_node, leaf_pointers, leaves_at, node_blocks, node_pointers, object_at, opened_as, pointer_table, pointer_to_node, reads_then, tells_on, unlike}
use Rattle.block_tree.specs.declared.root.Root as roots
use Rattle.ufs_model.specs.declared.object.Draft as models
use Rattle.special_files.specs.Changed.{Adds}
use Rattle.special_files.proofs.changed.ChangedTrees.{in_tree, its_tree, nodes_near, trees_change}
use Rattle.special_files.proofs.Made.{draft_made}
use Rattle.special_files.proofs.PutStore.{the_draft}
use Rattle.special_files.proofs.changed.Unlike.{adds_unlike, all_alike, join_unlike, length-unlike, more_unlike, none_unlike}

-- ---- two nodes that were read

table_next : (block : ℕ) (leaves : List ℕ) (k : ℕ) → pointer_table block leaves (k + 1) ≡ get_or leaves k 0
table_next block leaves k = let next : k + 1 ≡ suc k = omega arith in ap (pointer_table block leaves) next

-- one leaf more
module _ (block other : ℕ) (leaves others : List ℕ) (k : ℕ) (old now : List ℕ) (is : now ≡ old ++ all_unlike (pointer_table block leaves) (pointer_table other others) (k + 1)) where
  pub leaf_more : (next : List ℕ) → next ≡ now ++ unlike (get_or leaves k 0) (get_or others k 0) → next ≡ old ++ all_unlike (pointer_table block leaves) (pointer_table other others) (k + 1 + 1)
  leaf_more next one =
      one
      ∙ (λ i. is i ++ unlike (sym (table_next block leaves k) i) (sym (table_next other others k) i))
      ∙ append_assoc old (all_unlike (pointer_table block leaves) (pointer_table other others) (k + 1)) (unlike (pointer_table block leaves (k + 1)) (pointer_table other others (k + 1)))
      ∙ ap (λ (ns : List ℕ). old ++ ns) (sym (more_unlike (pointer_table block leaves) (pointer_table other others) (k + 1) (k + 1 + 1) refl))

  pub leaf_room : length old + node_blocks ≤ blocks_limit → k < leaf_pointers.count → length now < blocks_limit
  leaf_room room less = omega (arith, ap (length {A = ℕ}) is, length-append old (all_unlike (pointer_table block leaves) (pointer_table other others) (k + 1)), length-unlike (pointer_table block leaves) (pointer_table other others) (k + 1), room, less)

pub table_below : (size block : ℕ) (leaves : List ℕ) → 0 < size → block < size → All (λ n. n < size) leaves → (j : ℕ) → pointer_table block leaves j < size
table_below size block leaves some below all zero = below
table_below size block leaves some below all (suc k) = elim (cases_lt k (length leaves)) [
  | inl within ↦ all k 0 within
  | inr past ↦ let none = get_or_past leaves k 0 (omega (arith, past)) in omega (arith, none, some)
]

pub node_adds : (size block other : ℕ) (leaves other_leaves old new : List ℕ) → new ≡ old ++ all_unlike (pointer_table block leaves) (pointer_table other other_leaves) node_blocks → 0 < size → block < size → All (λ n. n < size) leaves → Adds size node_blocks old new
node_adds size block other leaves other_leaves old new is some below all =
    adds_unlike (pointer_table block leaves) (pointer_table other other_leaves) size node_blocks old new is (λ j less. table_below size block leaves some below all j)

pub node_told : (image : Image) (block other : ℕ) (leaves other_leaves old new : List ℕ) → new ≡ old ++ all_unlike (pointer_table block leaves) (pointer_table other other_leaves) node_blocks
    → leaves ≡ leaves_at image block → other_leaves ≡ leaves_at image other → new ≡ old ++ all_unlike (in_node image block) (in_node image other) node_blocks
node_told image block other leaves other_leaves old new is one two = is ∙ (λ i. old ++ all_unlike (pointer_table block (one i)) (pointer_table other (two i)) node_blocks)

pub alike_told : (image : Image) (block other : ℕ) (ns : List ℕ) → block ≡ other → ns ≡ ns ++ all_unlike (in_node image block) (in_node image other) node_blocks
alike_told image block other ns same =
    sym (append-nil ns) ∙ ap (λ (ms : List ℕ). ns ++ ms) (sym (all_alike (in_node image block) (in_node image other) node_blocks (λ j less. ap (λ (n : ℕ). in_node image n j) same)))

-- ---- one node more

pub adds_then : (size n m k : ℕ) (old mid new : List ℕ) → n + m ≡ k → Adds size n old mid → Adds size m mid new → Adds size k old new
adds_then size n m k old mid new is one two = record { room = omega (arith, is, one.room, two.room); on_disk = λ had. two.on_disk (one.on_disk had) }

-- the pointers of a node among those of its tree
pub node_in_tree : (image : Image) (root : roots.Root) (number i : ℕ) → i < node_blocks → in_tree image root (node_blocks * number + i) ≡ in_node image (pointer_to_node root number) i
node_in_tree image root number i less =
    let node : (node_blocks * number + i) / node_blocks ≡ number = omega (arith, less) in
    let place : (node_blocks * number + i) % node_blocks ≡ i = omega (arith, less) in
    λ j. in_node image (pointer_to_node root (node j)) (place j)

-- what one tree's first nodes have that the other's haven't
abbrev pub unlike_to : Image → roots.Root → roots.Root → ℕ → List ℕ
unlike_to image root other number = all_unlike (in_tree image root) (in_tree image other) (node_blocks * number)

pub unlike_then : (image : Image) (root other : roots.Root) (number : ℕ)
    → unlike_to image root other (number + 1) ≡ unlike_to image root other number ++ all_unlike (in_node image (pointer_to_node root number)) (in_node image (pointer_to_node other number)) node_blocks
unlike_then image root other number =
    let next : node_blocks * (number + 1) ≡ node_blocks * number + node_blocks = omega arith in
    join_unlike (in_tree image root) (in_tree image other) (in_node image (pointer_to_node root number)) (in_node image (pointer_to_node other number)) (node_blocks * number) node_blocks (node_blocks * (number + 1)) next (node_in_tree image root number) (node_in_tree image other number)

-- what differs in the first so many nodes is listed
pub record ListedTo {D : Type 0} (g : Ghosts D) (own root : roots.Root) (number : ℕ) (old now : D) (taken dropped : List ℕ) : Type 0 where
  pub reads : OnlyReads g (2 * number) old now
  pub takes : Adds (g.blocks old) (node_blocks * number) [] taken
  pub drops : Adds (g.blocks old) (node_blocks * number) [] dropped
  pub told : Tells g old → (taken ≡ unlike_to (g.content old) root own number) × (dropped ≡ unlike_to (g.content old) own root number)

pub listed_none : {D : Type 0} (g : Ghosts D) (own root : roots.Root) (d : D) (taken dropped : List ℕ) → taken ≡ [] → dropped ≡ [] → OnlyReads g 0 d d → ListedTo g own root 0 d d taken dropped
listed_none g own root d taken dropped one two reads = record {
  reads = reads;
  takes = subst (Adds (g.blocks d) 0 []) (sym one) (record { room = omega arith; on_disk = λ had. had });
  drops = subst (Adds (g.blocks d) 0 []) (sym two) (record { room = omega arith; on_disk = λ had. had });
  told = λ tells. (one ∙ sym (none_unlike (in_tree (g.content d) root) (in_tree (g.content d) own)), two ∙ sym (none_unlike (in_tree (g.content d) own) (in_tree (g.content d) root)));
}

module _ {D : Type 0} (g : Ghosts D) (own root : roots.Root) (number : ℕ) (d0 d1 : D) (taken dropped : List ℕ) (to : ListedTo g own root number d0 d1 taken dropped) where
  pub still_tells : Tells g d0 → Tells g d1
  still_tells tells = tells_on g d0 d1 d1 (2 * number) to.reads tells

  pub listed_then : (d2 : D) (more_taken more_dropped : List ℕ) → OnlyReads g 2 d1 d2 → Adds (g.blocks d1) node_blocks taken more_taken → Adds (g.blocks d1) node_blocks dropped more_dropped
      → (Tells g d1 → more_taken ≡ taken ++ all_unlike (in_node (g.content d1) (pointer_to_node root number)) (in_node (g.content d1) (pointer_to_node own number)) node_blocks)
      → (Tells g d1 → more_dropped ≡ dropped ++ all_unlike (in_node (g.content d1) (pointer_to_node own number)) (in_node (g.content d1) (pointer_to_node root number)) node_blocks)
      → ListedTo g own root (number + 1) d0 d2 more_taken more_dropped
  listed_then d2 more_taken more_dropped reads takes drops taken_is dropped_is = record {
    reads = reads_then g d0 d1 d2 (2 * number) 2 (2 * (number + 1)) to.reads reads (omega arith);
    takes = adds_then (g.blocks d0) (node_blocks * number) node_blocks (node_blocks * (number + 1)) [] taken more_taken (omega arith) to.takes (subst (λ (size : ℕ). Adds size node_blocks taken more_taken) to.reads.same.size takes);
    drops = adds_then (g.blocks d0) (node_blocks * number) node_blocks (node_blocks * (number + 1)) [] dropped more_dropped (omega arith) to.drops (subst (λ (size : ℕ). Adds size node_blocks dropped more_dropped) to.reads.same.size drops);
    told = λ tells.
        let before = to.told tells in
        let now = still_tells tells in
        let one = subst (λ (i : Image). more_taken ≡ taken ++ all_unlike (in_node i (pointer_to_node root number)) (in_node i (pointer_to_node own number)) node_blocks) to.reads.content (taken_is now) in
        let two = subst (λ (i : Image). more_dropped ≡ dropped ++ all_unlike (in_node i (pointer_to_node own number)) (in_node i (pointer_to_node root number)) node_blocks) to.reads.content (dropped_is now) in (
          one ∙ ap (λ (ns : List ℕ). ns ++ all_unlike (in_node (g.content d0) (pointer_to_node root number)) (in_node (g.content d0) (pointer_to_node own number)) node_blocks) before.0 ∙ sym (unlike_then (g.content d0) root own number),
          two ∙ ap (λ (ns : List ℕ). ns ++ all_unlike (in_node (g.content d0) (pointer_to_node own number)) (in_node (g.content d0) (pointer_to_node root number)) node_blocks) before.1 ∙ sym (unlike_then (g.content d0) own root number),
        );
  }

-- ---- all nodes, where the disk has a draft

module _ {D : Type 0} (g : Ghosts D) (graph : Graph) (ds : Drafts) (space : Kept) (id : Puid) (o : Object) (was : Drafting) (d : models.Draft) (disk : D) (store : StoreHas g graph ds disk space) (at : object_at graph id ≡ Some o) (opened : IsOpen ds id was d) where
  draft_there : HasDraft (g.content disk) id (opened_as was d)
  draft_there = the_draft (g.content disk) ds id was d opened (store.account.drafts id o at)

  -- what differs in all of them
  pub all_change : IsChanged (g.content disk) id (opened_as was d) (unlike_to (g.content disk) was.root was.own node_pointers.count) (unlike_to (g.content disk) was.own was.root node_pointers.count)
  all_change = trees_change (g.content disk) graph store.account.holds id o at (store.account.objects id o at) (opened_as was d) draft_there
      (λ c is. (draft_made (g.content disk) graph ds store.account id (opened_as was d) opened.alone c is).entered)

  pub listed_all : (number : ℕ) (now : D) (taken dropped : List ℕ) → ListedTo g was.own was.root number disk now taken dropped → number ≡ node_pointers.count → IsChanged (g.content disk) id (opened_as was d) taken dropped
  listed_all number now taken dropped to is =
      let lists = subst (λ (n : ℕ). (taken ≡ unlike_to (g.content disk) was.root was.own n) × (dropped ≡ unlike_to (g.content disk) was.own was.root n)) is (to.told store.carries.tells) in
      rw (lists.0, lists.1) all_change

  pub both_near : (size n : ℕ) → length (g.content disk) ≡ size → 0 < size → IsNear size (g.content disk) (pointer_to_node was.own n) × IsNear size (g.content disk) (pointer_to_node was.root n)
  both_near size n long some = (
    nodes_near (g.content disk) size id.block was.own o (its_tree (g.content disk) graph store.account.holds id o at (store.account.objects id o at) (opened_as was d) draft_there) long some n,
    nodes_near (g.content disk) size id.block was.root d.object draft_there.tree long some n,
  )
