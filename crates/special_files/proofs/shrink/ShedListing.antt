-- The draft's own blocks that are dropped, listed node after node.
use Rattle.std.proofs.Common.{◌≡◌, ℕ, ◌+◌, ◌-◌, ◌*◌, ◌/◌, ◌<◌, ◌≤◌, Bool, true, false, List, ◌++◌, length, sym, ◌∙◌, ap, subst, length-append, arith, get_or}
use Rattle.special_files.proofs.Words.{All, AreShed, Drafting, Ghosts, HasParts, Image, IsNearTree, IsWay, Kept, Way, OnlyReads, Tells, DraftView, fresh_in, in_image, is_meant_for, leaves_at, list_if, opened_as, reads_then, root_placed, root_spelling, slice_index, tells_on, tree_in, ◌==◌, leaf_pointers, node_blocks, node_pointers}
use Rattle.block_tree.specs.declared.root.Root as roots
use Rattle.special_files.proofs.Levels.{Tell}
use Rattle.special_files.proofs.PutStore.{flags_of}
use Rattle.special_files.proofs.WriteLeaf.{near_there}
use Rattle.special_files.proofs.View.{draft_of, view_tree}
use Rattle.cfs_base.proofs.Went.{reads_none}
use Rattle.special_files.proofs.shrink.ShedLists.{Lists, Upto, all_listed, length-fresh_in, length-one_if, node_below, node_listed, node_skipped}

module _ {D : Type 0} {g : Ghosts D} {d0 : D} {space : Kept} {was : Drafting} (v : DraftView g d0 space was) where
  abbrev a : Image
  a = g.content d0

  told_by : Tell (is_meant_for a v.id.block) (tree_in a (root_spelling was.root)) was.leaves was.nodes
  told_by = flags_of a v.ds v.id was v.draft v.opened (draft_of v)

  some_block : 0 < length a
  some_block = let root = root_placed a (length a) v.id v.object (v.store.account.holds.objects v.id v.object v.at) in omega (arith, in_image a v.graph v.store.account.holds v.id.block root.taken.is root.taken.here)

  -- the list so far, up to a node
  abbrev pub Listing : ℕ → ℕ → List ℕ → Type 0
  Listing f n ns = Lists a v.graph v.store.account.holds v.id v.object v.at (v.store.account.objects v.id v.object v.at) was v.draft (draft_of v) (Upto f n) ns

-- the nodes from that of the leaf on and before another are done
pub record ListRun {D : Type 0} (g : Ghosts D) (root : roots.Root) (leaves nodes : List Bool) (read : Way) (f n : ℕ) (d0 d1 : D) (ns : List ℕ) : Type 0 where
  pub from : f / leaf_pointers.count ≤ n
  pub reads : OnlyReads g (n - f / leaf_pointers.count) d0 d1
  pub room : length ns ≤ node_blocks * (n - f / leaf_pointers.count)
  pub below : All (λ b. b < g.blocks d0) ns
  pub lists : (space : Kept) (was : Drafting) (v : DraftView g d0 space was) → HasParts was root leaves nodes → IsWay (g.content d0) root read → Listing v f n ns

module _ {D : Type 0} {g : Ghosts D} {root : roots.Root} {leaves nodes : List Bool} {read : Way} {f n : ℕ} {d0 d1 : D} {ns : List ℕ} (run : ListRun g root leaves nodes read f n d0 d1 ns) where
  pub run_skips : n < node_pointers.count → get_or nodes n false ≡ false → ListRun g root leaves nodes read f (n + 1) d0 d1 ns
  run_skips few stale = record {
    from = omega (arith, run.from);
    reads = reads_then g d0 d1 d1 (n - f / leaf_pointers.count) 0 (n + 1 - f / leaf_pointers.count) run.reads (reads_none g 0 d1) (omega (arith, run.from));
    room = omega (arith, run.room, run.from);
    below = run.below;
    lists = λ space was v parts is_read.
        node_skipped (g.content d0) v.graph v.store.account.holds v.id v.object v.at (v.store.account.objects v.id v.object v.at) was v.draft (draft_of v) f (some_block v) (told_by v)
        n ns few (ap (λ (fs : List Bool). get_or fs n false) parts.nodes_is ∙ stale) (run.lists space was v parts is_read);
  }

  module _ (few : n < node_pointers.count) (d2 : D) (node : List ℕ) (more : List ℕ) (fresh : get_or nodes n false ≡ true) (reads : OnlyReads g 1 d1 d2) (there : slice_index root.nodes n < g.blocks d1) (all : All (λ b. b < g.blocks d1) node) (some : 0 < g.blocks d0)
      (told : Tells g d1 → IsWay (g.content d1) root read → node ≡ leaves_at (g.content d1) (slice_index root.nodes n))
      (is : more ≡ ns ++ (list_if ((f - leaf_pointers.count * n) == 0) (slice_index root.nodes n) ++ fresh_in leaves node n (f - leaf_pointers.count * n) (leaf_pointers.count - (f - leaf_pointers.count * n)))) where
    pub run_lists : ListRun g root leaves nodes read f (n + 1) d0 d2 more
    run_lists = record {
      from = omega (arith, run.from);
      reads = reads_then g d0 d1 d2 (n - f / leaf_pointers.count) 1 (n + 1 - f / leaf_pointers.count) run.reads reads (omega (arith, run.from));
      room = omega (
        arith,
        run.room,
        run.from,
        ap (length {A = ℕ}) is,
        length-append ns (list_if ((f - leaf_pointers.count * n) == 0) (slice_index root.nodes n) ++ fresh_in leaves node n (f - leaf_pointers.count * n) (leaf_pointers.count - (f - leaf_pointers.count * n))),
        length-append (list_if ((f - leaf_pointers.count * n) == 0) (slice_index root.nodes n)) (fresh_in leaves node n (f - leaf_pointers.count * n) (leaf_pointers.count - (f - leaf_pointers.count * n))),
        length-one_if ((f - leaf_pointers.count * n) == 0) (slice_index root.nodes n),
        length-fresh_in leaves node n (f - leaf_pointers.count * n) (leaf_pointers.count - (f - leaf_pointers.count * n)),
      );
      below = node_below (g.blocks d0) ns more ((f - leaf_pointers.count * n) == 0) (slice_index root.nodes n) leaves node n (f - leaf_pointers.count * n) (leaf_pointers.count - (f - leaf_pointers.count * n)) is some (omega (arith, there, run.reads.same.size))
          (subst (λ (size : ℕ). All (λ b. b < size) node) run.reads.same.size all) run.below;
      lists = λ space was v parts is_read.
          let tells = tells_on g d0 d1 d1 (n - f / leaf_pointers.count) run.reads v.store.carries.tells in
          let read_now : IsWay (g.content d1) root read = subst (λ (i : Image). IsWay i root read) (sym run.reads.content) is_read in
          let node_is : node ≡ leaves_at (g.content d0) (slice_index was.root.nodes n) = told tells read_now ∙ (λ i. leaves_at (run.reads.content i) (slice_index ((sym parts.root_is i).nodes) n)) in
          let list = node_listed (g.content d0) v.graph v.store.account.holds v.id v.object v.at (v.store.account.objects v.id v.object v.at) was v.draft (draft_of v) f (some_block v) (told_by v)
          n few (omega (arith, run.from)) node node_is (ap (λ (fs : List Bool). get_or fs n false) parts.nodes_is ∙ fresh) ns (run.lists space was v parts is_read) in
          subst (Listing v f (n + 1)) (sym (is
          ∙ (λ i. ns ++ (list_if ((f - leaf_pointers.count * n) == 0) (slice_index ((sym parts.root_is i).nodes) n) ++ fresh_in (sym parts.leaves_is i) node n (f - leaf_pointers.count * n) (leaf_pointers.count - (f - leaf_pointers.count * n)))))) list;
    }

  module _ {space : Kept} {was : Drafting} (v : DraftView g d0 space was) (parts : HasParts was root leaves nodes) where
    pub run_all : n ≡ node_pointers.count → IsWay (g.content d0) root read → AreShed (g.content d0) v.id (opened_as was v.draft) f ns
    run_all is is_read =
        all_listed (g.content d0) v.graph v.store.account.holds v.id v.object v.at (v.store.account.objects v.id v.object v.at) was v.draft (draft_of v) f (some_block v) (told_by v) ns
        (subst (λ (k : ℕ). Listing v f k ns) is (run.lists space was v parts is_read))

    -- the tree is near, whatever was read before
    pub near_now : length (g.content d0) ≡ g.blocks d0 → 0 < g.blocks d0 → IsNearTree (g.blocks d1) (g.content d1) (root_spelling root)
    near_now size some =
        subst (λ (r : roots.Root). IsNearTree (g.blocks d1) (g.content d1) (root_spelling r)) parts.root_is
        (subst (λ (i : Image). IsNearTree (g.blocks d1) i (root_spelling was.root)) (sym run.reads.content)
        (subst (λ (k : ℕ). IsNearTree k (g.content d0) (root_spelling was.root)) (sym run.reads.same.size) (near_there (view_tree v) size some)))
