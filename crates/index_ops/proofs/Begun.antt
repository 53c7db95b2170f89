-- A draft of an index that was just begun: as calls are handed it, what changed once it is committed, and why it isn't.
use Rattle.index_ops.proofs.Words.{[], ◌≡◌, ℕ, ◌*◌, ◌+◌, ◌/◌, ◌≤◌, false, cond, List, ◌∷◌, length, get_or, Option, None, Ok, Err, refl, sym, ◌∙◌, ap, subst, arith, inl, Result, option_to_list, and_from, and_parts, HasTried, OnlyReads, Image, block_at, refused_by, trouble_after_try, Ghosts, Refused, Trouble, IsRootBlock, root_spelling, MapEntry, AreClaimed, Leaf, Node, Kept, intended, StoreHas, Committed, Making, Drafting, IsOpen, begun_at, fresh_of, opened_as, EndsCall, SameBeside, leaf_claims, IsDraftRefusal, IsDraftTrouble, is_damage, has_met_damage, is_full_refusal, without_draft, begun_fresh, length-none, none_is, refusal_after_reads, refusal_of, trouble_after_tried, Draft, Object, Tree, tree_in, ChangesOnly, of_drafts, of_owners, is_meant, is_placed, is_taken, changes_then, changes_wider, placed_taken, without_with, with_opened, with_here}
use Rattle.block_tree.specs.Pointers.{leaf_limit, leaf_pointers, node_pointers}
use Rattle.index_ops.specs.Changes.{IsIndexRefusal, IsOneLeaf, TakesEntries, leaf_and_node}
use Rattle.cfs_base.proofs.Went.{reads_none}
use Rattle.cfs_base.specs.declared.refusal.Refused.TheVariants as refused
use Rattle.cfs_base.specs.declared.refusal.Trouble.TheVariants as trouble
use Rattle.intentions.specs.Left.{final_image}
use Rattle.leaf_changes.specs.Tops.{IsFarRoot, Top, root_top}
use Rattle.special_files.proofs.Begun.{direct_begins}
use Rattle.special_files.proofs.Refusals.{refusal_as, trouble_as}
use Rattle.special_files.proofs.View.{draft_of}
use Rattle.special_files.specs.Begins.{drafts_begun, equal_to}
use Rattle.special_files.specs.Committing.{IsFar, made_top, making_root}
use Rattle.special_files.specs.Refusal.{top_of}
use Rattle.special_files.specs.View.{DraftView, IsShut, ObjectView}

-- ---- as a call is handed it

module _ {D : Type 0} {g : Ghosts D} {d0 : D} {k0 : Kept} {at : ℕ} {was : Drafting} (v : ObjectView g d0 k0 at) (shut : IsShut v) (begun : was ≡ begun_at at None was.own) where
  pub begun_open : IsOpen (drafts_begun v was) v.id was (equal_to v.object)
  begun_open = record {
    at = v.root ∙ sym (ap (λ (x : Drafting). x.at) begun);
    alone = with_here v.id _ v.ds;
    leaf_flags = ap (λ (x : Drafting). length x.leaves) begun ∙ length-none leaf_limit;
    node_flags = ap (λ (x : Drafting). length x.nodes) begun ∙ length-none node_pointers.count;
    fresh = λ k. begun_fresh at None was.own k ∙ ap (λ (x : Drafting). get_or (fresh_of x) k []) (sym begun);
  }

  abbrev pub begun_view : {d1 : D} {k1 : Kept} → StoreHas g v.graph (drafts_begun v was) d1 k1 → DraftView g d1 k1 was
  begun_view store = record { graph = v.graph; ds = drafts_begun v was; id = v.id; object = v.object; draft = equal_to v.object; store = store; at = v.there; opened = begun_open }

  -- the store has it where the block holds its root
  pub begun_store : IsRootBlock (block_at (g.content d0) at) was.own → StoreHas g v.graph (drafts_begun v was) d0 k0
  begun_store own = subst (λ (x : Drafting). StoreHas g v.graph (drafts_begun v x) d0 k0) (sym begun) (direct_begins v (reads_none g 0 d0) was.own own shut)

  -- without it there are the drafts that were
  pub begun_alone : without_draft v.id (drafts_begun v was) ≡ v.ds
  begun_alone = without_with v.id _ v.ds shut

-- what a call makes of a draft
abbrev pub next_view : {D : Type 0} {g : Ghosts D} {d0 d1 : D} {k0 k1 : Kept} {was now : Drafting} (v : DraftView g d0 k0 was) (d : Draft) → StoreHas g v.graph (with_opened v.id (opened_as now d) v.ds) d1 k1 → IsOpen (with_opened v.id (opened_as now d) v.ds) v.id now d → DraftView g d1 k1 now
next_view {now} v d store opened = record { graph = v.graph; ds = with_opened v.id (opened_as now d) v.ds; id = v.id; object = v.object; draft = d; store = store; at = v.at; opened = opened }

-- ---- once it is committed

-- Blocks were claimed for these entries, and of the tree below a root only one leaf and its node are others.
pub record ChangesOneLeaf (claims : List MapEntry) (leaf at : ℕ) (made : List ℕ) (a b : Image) : Type 0 where
  pub only : ChangesOnly (λ entry. of_owners (at ∷ made) entry) a b
  pub beside : IsOneLeaf leaf at a b
  pub takes : TakesEntries claims at made a b

module _ {D : Type 0} {g : Ghosts D} {d0 : D} {k0 : Kept} {at : ℕ} {was : Drafting} (v : DraftView g d0 k0 was) (begun : was ≡ begun_at at None was.own) (leaf : ℕ) where
  -- a leaf of a draft that was just begun takes two blocks
  pub begun_claims : leaf_claims was.at was.leaves was.nodes leaf ≡ leaf_and_node leaf v.id.block
  begun_claims =
      ap (λ (x : Drafting). leaf_claims x.at x.leaves x.nodes leaf) begun
      ∙ (λ j. cond (none_is leaf_limit leaf j) [] (intended (Leaf leaf) at ∷ cond (none_is node_pointers.count (leaf / leaf_pointers.count) j) [] (intended (Node (leaf / leaf_pointers.count)) at ∷ [])))
      ∙ ap (leaf_and_node leaf) (sym (v.opened.at ∙ ap (λ (x : Drafting). x.at) begun))

  pub one_leaf : {d1 d2 : D} {k2 : Kept} {now : Drafting} {d : Draft} {o : Object} (claims : List MapEntry) (made : Option Making) → IsOpen (with_opened v.id (opened_as now d) v.ds) v.id now d → now.shadow ≡ None → AreClaimed claims (g.content d0) (g.content d1)
      → SameBeside leaf (tree_in (g.content d0) (root_spelling was.root)) (tree_in (g.content d1) (root_spelling now.root)) → ChangesOnly (λ entry. of_drafts (v.id.block ∷ option_to_list (making_root made)) entry) (g.content d0) (g.content d1)
      → Committed g v.graph (with_opened v.id (opened_as now d) v.ds) v.id o made d1 d2 k2 → ChangesOneLeaf claims leaf v.id.block (option_to_list (making_root made)) (g.content d0) (final_image g d2 k2)
  one_leaf {d1} {d2} {k2} {now} {d} claims made opened bare claimed beside only ch =
      let rs = v.id.block ∷ option_to_list (making_root made) in
      let a = g.content d0 in
      let own : tree_in a (root_spelling was.root) ≡ tree_in a (block_at a v.id.block) = ap (tree_in a) (ap (λ (x : Drafting). root_spelling x.root) begun ∙ sym (draft_of v).own.spelled) in
      record {
        only = changes_then (λ e. of_owners rs e) a (g.content d1) (final_image g d2 k2)
            (changes_wider (λ e. of_drafts rs e) (λ e. of_owners rs e) a (g.content d1) (λ entry is. let two = and_parts (is_placed is_meant entry) _ is in and_from (is_placed is_taken entry) _ (placed_taken is_meant refl entry two.0) two.1) only) ch.only;
        beside = λ path not_node not_leaf. ap (λ (t : Tree). t.below path) (ch.tree (opened_as now d) opened.alone) ∙ beside path not_node not_leaf ∙ ap (λ (t : Tree). t.below path) own;
        takes = record { mid = g.content d1; in_order = claimed; only = ch.only; shadow = ch.order (opened_as now d) opened.alone bare };
      }

-- ---- on any disk

-- the same answer of a commit after calls that had tried something
abbrev pub since : Trouble → Refused
since t = refused_by (trouble_after_try t)

abbrev pub after_commit : {A : Type 0} → A → Result (Unit {0}) Trouble → Result A Refused
after_commit x (Ok u) = Ok x
after_commit x (Err t) = Err (since t)

pub sound_by : (t : Trouble) → is_damage t ≡ false → has_met_damage (refused_by (trouble_after_try t)) ≡ false
sound_by (trouble.Disk tried) is = refl
sound_by (trouble.Damaged damage) is = is

-- it is refused
pub commit_refused : {D A : Type 0} (g : Ghosts D) (at : Top) (d0 d1 d2 : D) (k0 k1 k2 : Kept) (n t k : ℕ) (x : A) → EndsCall g at 0 n t k d0 d1 k0 k1 (Ok x) → HasTried g d0 d1 → (block : ℕ) (created : Option ℕ) → block ≡ at.block → ¬ IsFar (g.blocks d2) created
    → (e : Trouble) → IsDraftTrouble g (made_top block created) d1 d2 k2 e → IsDraftRefusal g at 0 d0 d2 k2 (refused_by (trouble_after_try e)) × (is_full_refusal (refused_by (trouble_after_try e)) ≡ false)
commit_refused g at d0 d1 d2 k0 k1 k2 n t k x ended tried block created same near e why = (
  refusal_of g at 0 d0 d2 k2 (trouble_after_try e) (trouble_after_tried g at 0 d0 d1 d2 k2 n t ended.calls tried ended.told e (trouble_as g (made_top block created) at same d1 d2 k2 (λ far. absurd (near far)) e why)),
  not_full (trouble_after_try e),
)
  where
    not_full : (e : Trouble) → is_full_refusal (refused_by e) ≡ false
    not_full (trouble.Disk tried) = refl
    not_full (trouble.Damaged damage) = refl

-- what refuses a change of a draft that was just begun refuses the whole
pub index_refusal : {D : Type 0} (g : Ghosts D) (d0 d1 d2 : D) (kept : Kept) (was : Drafting) → was ≡ begun_at was.at None was.own → (n : ℕ) → OnlyReads g n d0 d1
    → (e : Refused) → IsDraftRefusal g (top_of was) 0 d1 d2 kept e × (is_full_refusal e ≡ false) → IsIndexRefusal g (root_top was.at was.own) d0 d2 kept e
index_refusal g d0 d1 d2 kept was begun n reads e why =
    by e why.1 (refusal_after_reads g (root_top was.at was.own) d0 d1 d2 kept 0 n e reads (refusal_as g (top_of was) (root_top was.at was.own) refl d1 d2 kept (λ far. subst (λ (x : Drafting). IsFarRoot (g.blocks d2) x.root) begun far) 0 e why.0))
  where
    by : (e : Refused) → is_full_refusal e ≡ false → IsDraftRefusal g (root_top was.at was.own) 0 d0 d2 kept e → IsIndexRefusal g (root_top was.at was.own) d0 d2 kept e
    by (refused.Full need) spare is = cc
    by (refused.Disk tried) spare is = is
    by (refused.Damaged damage) spare is = is
    by refused.Memory spare is = absurd is
