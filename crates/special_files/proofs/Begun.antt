-- A draft that is begun equals its object.
use Rattle.std.proofs.Common.{◌≡◌, inl, inr, ℕ, zero, suc, Bool, IsTrue, true, false, List, [], ◌∷◌, length, take, get_or, Option, Some, None, refl, sym, ◌∙◌, ap, subst}
use Rattle.special_files.proofs.Words.{Accounts, AreCounts, BeginsDirect, Drafts, Ghosts, Graph, HasDraft, HasDraftIf, HasItsBlocks, Held, Holds, Image, IsBlockOf, IsRootBlock, IsSameDisk, IsTree, Kept, Leaves, Nothing, Object, ObjectView, OnlyReads, Opened, Puid, ReadsAs, StoreHas, Tree, and_parts, begun_at, block_at, both_ways, carries_on, changes_begin, created_if, draft_goes_on, entry_in, false_from_ne_true, filter, first_or, fresh_of, had_not_meant, is_meant_for, leaf_limit, levels_of, levels_standing, no_shadows, node_pointers, object_at, one_root, opened_as, passes, path_to, range_with_len, root_spelling, sight, source, stands_for, tree_in, width}
use Rattle.block_tree.specs.declared.root.Root as roots
use Rattle.special_files.proofs.Levels.{none_in}

-- in memory nothing is fresh either
pub begun_fresh : (at : ℕ) (shadow : Option ℕ) (own : roots.Root) (k : ℕ) → get_or [] k [] ≡ get_or (fresh_of (begun_at at shadow own)) k []
begun_fresh at shadow own zero = sym (none_in leaf_limit)
begun_fresh at shadow own (suc zero) = sym (none_in node_pointers.count)
begun_fresh at shadow own (suc (suc k)) = refl

-- no number passes a test that none passes
none_pass : (P : ℕ → Bool) → ((n : ℕ) → P n ≡ false) → (ns : List ℕ) → filter P ns ≡ []
none_pass P none [] = refl
none_pass P none (n ∷ ns) = rw (none n) (none_pass P none ns)

none_stand : (test : ℕ → Bool) (tree : Tree) → ((p : List ℕ) → passes test (tree.below p) ≡ false) → (d k : ℕ) → [] ≡ get_or (levels_standing test tree d) k []
none_stand test tree none zero k = refl
none_stand test tree none (suc d) zero =
    sym (none_pass (λ n. passes test (tree.below (path_to (take (suc d) (levels_of tree.root)) n))) (λ n. none (path_to (take (suc d) (levels_of tree.root)) n)) (range_with_len 0 (width (take (suc d) (levels_of tree.root)))))
none_stand test tree none (suc d) (suc k) = none_stand test tree none d k

-- what its tree leads to is a block of the object
tree_block : (image : Image) (id : Puid) → HasItsBlocks image id.block → (p : List ℕ) (h : Held) → (tree_in image (block_at image id.block)).below p ≡ Some h → IsBlockOf image id.block h.block
unfolding sight
tree_block image id has p h there = inr (inr (p, h, ap (λ (n : ℕ). (tree_in image (block_at image n)).below p) (ap (first_or id.block) (no_shadows image id.block has.no_bit)) ∙ there, refl))

-- an object without its commit bit is read by its root
pub own_tree : (image : Image) (size : ℕ) (id : Puid) (own : roots.Root) (o : Object) → HasItsBlocks image id.block → ReadsAs size id (sight image id.block) o → IsRootBlock (block_at image id.block) own
    → IsTree size id.block (tree_in image (root_spelling own)) own o
unfolding sight
own_tree image size id own o has reads is =
    let itself = ap (first_or id.block) (no_shadows image id.block has.no_bit) in
    let content : block_at image (source image id.block) ≡ root_spelling own = ap (block_at image) itself ∙ is.spelled in
    let fits : IsTree size id.block (tree_in image (root_spelling own)) reads.source o = subst (λ (c : List ℕ). IsTree size id.block (tree_in image c) reads.source o) content reads.tree in
    let same : reads.source ≡ own = one_root reads.source own fits.spelled.good is.good (sym fits.spelled.spelled) in
    subst (λ (r : roots.Root). IsTree size id.block (tree_in image (root_spelling own)) r o) same fits

abbrev pub begun_as : Puid → Option ℕ → Object → roots.Root → Opened
begun_as id shadow o own = opened_as (begun_at id.block shadow own) (record { object = o; fresh = [] })

-- ---- with its shadow root, and without

module _ (image : Image) (g : Graph) (holds : Holds image g) (id : Puid) (o : Object) (at : object_at g id ≡ Some o) (has : HasItsBlocks image id.block) (own : roots.Root) (is : IsRootBlock (block_at image id.block) own)
    (shadow : Option ℕ) (stands : (s : ℕ) → shadow ≡ Some s → stands_for id.block (entry_in image s) ≡ true) (only : (n : ℕ) → is_meant_for image id.block n ≡ true → shadow ≡ Some n) where
  abbrev begun : Opened
  begun = begun_as id shadow o own

  tree : IsTree (length image) id.block (tree_in image (root_spelling own)) own o
  tree = own_tree image (length image) id own o has (holds.objects id o at) is

  -- what stands in the object's own tree isn't meant for it
  none_meant : (p : List ℕ) → passes (is_meant_for image id.block) ((tree_in image (root_spelling own)).below p) ≡ false
  none_meant p = by ((tree_in image (root_spelling own)).below p) refl
    where
      by : (h : Option Held) → (tree_in image (root_spelling own)).below p ≡ h → passes (is_meant_for image id.block) h ≡ false
      by None none = refl
      by (Some h) there =
          let had = has.each h.block (tree_block image id has p h (ap (λ (c : List ℕ). (tree_in image c).below p) is.spelled ∙ there)) in
          false_from_ne_true _ (λ meant. both_ways _ (had_not_meant id.block (entry_in image h.block) had) (and_parts _ _ meant).0)

  pub begun_draft : HasDraft image id begun
  begun_draft = record {
    own = is;
    same_kind = refl;
    same_word = refl;
    tree = tree;
    shadow = stands;
    fresh = λ k. none_stand (is_meant_for image id.block) (tree_in image (root_spelling own)) none_meant (length (levels_of (root_spelling own))) k;
    no_other = λ n meant. inl (only n meant);
  }

-- the root block of an object that the store has
pub own_root : {D : Type 0} {g : Ghosts D} {disk : D} {space : Kept} {at : ℕ} (v : ObjectView g disk space at) → (own : roots.Root) × IsRootBlock (block_at (g.content disk) at) own
unfolding sight
own_root {g = g} {disk} v = let reads = v.store.carries.holds.objects v.id v.object v.there in (reads.root, subst (λ (n : ℕ). IsRootBlock (block_at (g.content disk) n) reads.root) v.root reads.spelled)

-- ---- the store

-- after calls that changed nothing
pub store_still : {D : Type 0} {g : Ghosts D} {graph : Graph} {ds : Drafts} {old new : D} {space : Kept} → StoreHas g graph ds old space → g.content new ≡ g.content old → ((n : ℕ) → IsTrue (g.told old n) → IsTrue (g.told new n)) → Leaves g old new Nothing → IsSameDisk g.blocks g.honest g.tells_images old new → StoreHas g graph ds new space
store_still {g = g} {graph} {ds} {old} {new} {space} store content told images same = record {
  carries = carries_on g graph old new store.carries content told images same;
  account = subst (λ (i : Image). Accounts i graph ds) (sym content) store.account;
  counts = subst (λ (i : Image). AreCounts i space) (sym content) store.counts;
  ordered = store.ordered;
}

pub store_reads : {D : Type 0} (g : Ghosts D) (graph : Graph) (ds : Drafts) (old new : D) (space : Kept) (n : ℕ) → StoreHas g graph ds old space → OnlyReads g n old new → StoreHas g graph ds new space
store_reads g graph ds old new space n store reads = store_still store reads.content reads.told reads.images reads.same

-- without a shadow root nothing is written
pub direct_begins : {D : Type 0} {g : Ghosts D} {old new : D} {space : Kept} {at n : ℕ} (v : ObjectView g old space at) → OnlyReads g n old new → (own : roots.Root) → IsRootBlock (block_at (g.content old) at) own → BeginsDirect v new space (begun_at at None own)
direct_begins {g = g} {old} {new} {space} {n = n} v reads own is none = store_reads g v.graph _ old new space n (record {
  carries = v.store.carries;
  account = draft_goes_on (g.content old) (g.content old) v.graph v.ds v.id v.object (Some (begun_as v.id None v.object own)) v.store.account v.there
      (begun_draft (g.content old) v.graph v.store.account.holds v.id v.object v.there (v.store.account.objects v.id v.object v.there) own (subst (λ (k : ℕ). IsRootBlock (block_at (g.content old) k) own) (sym v.root) is) None (λ s stands. cc) (λ k meant. absurd (both_ways _ (nothing k) meant)))
      (changes_begin _ (g.content old) v.graph v.store.account.holds) (sym (ap created_if none));
  counts = v.store.counts;
  ordered = v.store.ordered;
}) reads
  where
    nothing : (k : ℕ) → is_meant_for (g.content old) v.id.block k ≡ false
    nothing = subst (HasDraftIf (g.content old) v.id) none (v.store.account.drafts v.id v.object v.there)
