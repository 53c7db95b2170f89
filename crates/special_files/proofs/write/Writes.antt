-- Leaves written into a draft one after another, and what has become of it then.
use Rattle.std.proofs.Common.{◌≡◌, inl, ℕ, suc, ◌+◌, ◌-◌, ◌/◌, ◌<◌, ◌≤◌, Bool, true, List, [], length, get_or, set, Some, refl, sym, ◌∙◌, ap, subst, arith}
use Rattle.special_files.proofs.Words.{AreClaimed, Draft, DraftBecomes, Drafting, Drafts, File, Ghosts, Graph, HasDraft, Holds, Image, IsOpen, IsRead, IsTree, Kept, Leaves, Way, Object, Overwrite, Puid, PutsLeaf, StaysBut, Steps, StoreHas, WritesTo, changed_draft, changed_object, changes_begin, changes_then, claims_by_leaf, claims_then, draft_in, fresh_of, leaf_claims, leaf_content, leaves_below, leaves_in, object_at, object_with, opened_as, patched, root_spelling, same_object, then, tree_in, with_opened, writes_begin, writes_more, writes_object, leaf_limit, leaf_pointers}
use Rattle.ufs_model.specs.declared.object.Object.TheVariants as objects
use Rattle.special_files.proofs.Amid.{amid_begins}
use Rattle.vol_owners.proofs.Drafts.{with_again, with_same}
use Rattle.special_files.proofs.Marks.{Marks, fresh_written, marks_begin, marks_more}
use Rattle.special_files.proofs.View.{no_index}
use Rattle.special_files.proofs.PutStore.{the_draft, becomes_now}

-- the leaves from one on and before another are written
pub record WrittenTo {D : Type 0} (g : Ghosts D) (graph : Graph) (ds : Drafts) (id : Puid) (offset : ℕ) (bytes : List ℕ) (leaf : ℕ) (old now : D) (space : Kept) (was is : Drafting) (read : Way) : Type 0 where
  pub draft : Draft
  pub becomes : DraftBecomes g graph ds id draft old now space is
  pub images : Leaves g old now (λ c. Holds c graph)
  pub stays : StaysBut was is
  pub leaves : WritesTo leaf was.root.fill offset bytes (leaves_below (g.content old) was.root) (leaves_below (g.content now) is.root)
  pub leaf_marks : Marks (λ l. l) (offset / 512) leaf was.leaves is.leaves
  pub node_marks : Marks (λ l. l / leaf_pointers.count) (offset / 512) leaf was.nodes is.nodes
  pub read_is : IsRead (g.content now) is read
  -- what is claimed for more leaves follows what was claimed for these
  pub order : (n : ℕ) (c : Image) → AreClaimed (claims_by_leaf is.at is.leaves is.nodes leaf n) (g.content now) c → AreClaimed (claims_by_leaf was.at was.leaves was.nodes (offset / 512) (leaf - offset / 512 + n)) (g.content old) c

module _ {D : Type 0} (g : Ghosts D) (graph : Graph) (ds : Drafts) (id : Puid) (o : Object) (at : object_at graph id ≡ Some o) where
  pub becomes_begin : (d0 : D) (k0 : Kept) (was : Drafting) (d : Draft) → StoreHas g graph ds d0 k0 → IsOpen ds id was d → DraftBecomes g graph ds id d d0 d0 k0 was
  becomes_begin d0 k0 was d store opened =
      let same = with_same id (Some (opened_as was d)) ds opened.alone in
      record {
        steps = record { store = subst (λ (es : Drafts). StoreHas g graph es d0 k0) (sym same) store; only = changes_begin _ (g.content d0) graph store.carries.holds };
        is_open = subst (λ (es : Drafts). IsOpen es id was d) (sym same) opened;
      }

  -- one step more
  pub becomes_then : (d0 d1 d2 : D) (k1 k2 : Kept) (mid now : Drafting) (d e : Draft) → DraftBecomes g graph ds id d d0 d1 k1 mid
      → Steps g graph id (with_opened id (opened_as now e) (with_opened id (opened_as mid d) ds)) d1 d2 k2 → IsOpen (with_opened id (opened_as now e) (with_opened id (opened_as mid d) ds)) id now e → DraftBecomes g graph ds id e d0 d2 k2 now
  becomes_then d0 d1 d2 k1 k2 mid now d e first steps opened =
      let same = with_again id (Some (opened_as now e)) ds (Some (opened_as mid d)) in
      record {
        steps = record {
          store = subst (λ (es : Drafts). StoreHas g graph es d2 k2) same steps.store;
          only = changes_then _ (g.content d0) (g.content d1) (g.content d2) first.steps.only steps.only;
        };
        is_open = subst (λ (es : Drafts). IsOpen es id now e) same opened;
      }

  -- another draft of the model, in the same image
  pub becomes_again : (d0 d1 : D) (k1 : Kept) (now next : Drafting) (d e : Draft) → DraftBecomes g graph ds id d d0 d1 k1 now → HasDraft (g.content d1) id (opened_as next e) → next.at ≡ now.at → next.created ≡ now.created
      → length next.leaves ≡ length now.leaves → length next.nodes ≡ length now.nodes → ((k : ℕ) → get_or e.fresh k [] ≡ get_or (fresh_of next) k []) → DraftBecomes g graph ds id e d0 d1 k1 next
  becomes_again d0 d1 k1 now next d e is stands same_at created leaves nodes fresh =
      let es = with_opened id (opened_as now d) ds in
      let again = becomes_now g graph es id o d1 d1 k1 k1 now next d e is.steps.store at is.is_open (amid_begins g graph es id o d1 k1 is.steps.store at) stands same_at created (leaves ∙ is.is_open.leaf_flags) (nodes ∙ is.is_open.node_flags) fresh in
      becomes_then d0 d1 d1 k1 k1 now next d e is again.steps again.is_open

  -- the same draft of the model, told by other lists
  pub becomes_as : (d0 d1 : D) (k1 : Kept) (now : Drafting) (d e : Draft) → DraftBecomes g graph ds id d d0 d1 k1 now → e.object ≡ d.object → ((k : ℕ) → get_or e.fresh k [] ≡ get_or d.fresh k []) → DraftBecomes g graph ds id e d0 d1 k1 now
  becomes_as d0 d1 k1 now d e is object fresh =
      let image = g.content d1 in
      let had : HasDraft image id (opened_as now d) = the_draft image (with_opened id (opened_as now d) ds) id now d is.is_open (is.steps.store.account.drafts id o at) in
      let tree = subst (λ (p : Object). IsTree (length image) id.block (tree_in image (root_spelling now.root)) now.root p) (sym object) had.tree in
      let stands : HasDraft image id (opened_as now e) = record { own = had.own; same_kind = had.same_kind; same_word = had.same_word; tree = tree; shadow = had.shadow; fresh = λ k. fresh k ∙ had.fresh k; no_other = had.no_other } in
      becomes_again d0 d1 k1 now now d e is stands refl refl refl refl (λ k. fresh k ∙ is.is_open.fresh k)

  module _ (d0 : D) (k0 : Kept) (was : Drafting) (d : Draft) (store : StoreHas g graph ds d0 k0) (opened : IsOpen ds id was d) (offset : ℕ) (bytes : List ℕ) where
    pub written_begin : (read : Way) → IsRead (g.content d0) was read → StaysBut was was → WrittenTo g graph ds id offset bytes (offset / 512) d0 d0 k0 was was read
    written_begin read is stays = record {
      draft = d;
      becomes = becomes_begin d0 k0 was d store opened;
      images = record { later = omega arith; since = λ t c le h. inl h; now = λ c h. inl h };
      stays = stays;
      leaves = writes_begin was.root.fill offset bytes (leaves_below (g.content d0) was.root);
      leaf_marks = marks_begin (λ l. l) (offset / 512) was.leaves;
      node_marks = marks_begin (λ l. l / leaf_pointers.count) (offset / 512) was.nodes;
      read_is = is;
      order = λ n c more. subst (λ (k : ℕ). AreClaimed (claims_by_leaf was.at was.leaves was.nodes (offset / 512) k) (g.content d0) c) (omega arith) more;
    }

    -- a leaf that was put with its bytes
    pub written_more : (leaf : ℕ) (d1 d2 : D) (k1 k2 : Kept) (mid now : Drafting) (read next : Way) → offset / 512 ≤ leaf → leaf < leaf_limit → (done : WrittenTo g graph ds id offset bytes leaf d0 d1 k1 was mid read)
        → PutsLeaf g graph (with_opened id (opened_as mid done.draft) ds) id leaf (patched leaf offset bytes (leaf_content mid.root.fill (leaves_below (g.content d1) mid.root leaf))) d1 d2 k2 mid now next
        → Leaves g d1 d2 (λ c. Holds c graph) → StaysBut mid now → StaysBut was now → WrittenTo g graph ds id offset bytes (leaf + 1) d0 d2 k2 was now next
    written_more leaf d1 d2 k1 k2 mid now read next from most done puts images stays all = record {
      draft = draft_in (g.content d2) now;
      becomes = becomes_then d0 d1 d2 k1 k2 mid now done.draft (draft_in (g.content d2) now) done.becomes puts.steps puts.is_open;
      images = then g d0 d1 d2 _ _ done.images images (λ c h. h);
      stays = all;
      leaves = writes_more was.root.fill offset bytes (leaves_below (g.content d0) was.root) leaf (leaves_below (g.content d1) mid.root) (leaves_below (g.content d2) now.root) from done.leaves
          (puts.leaves.here ∙ ap (λ (fill : ℕ). Some (patched leaf offset bytes (leaf_content fill (leaves_below (g.content d1) mid.root leaf)))) done.stays.root.fill) puts.leaves.others;
      leaf_marks = marks_more (λ l. l) (offset / 512) leaf was.leaves mid.leaves now.leaves done.leaf_marks from (omega (arith, done.becomes.is_open.leaf_flags, most)) puts.sets.leaves;
      node_marks = marks_more (λ l. l / leaf_pointers.count) (offset / 512) leaf was.nodes mid.nodes now.nodes done.node_marks from (omega (arith, done.becomes.is_open.node_flags, most)) puts.sets.nodes;
      read_is = puts.read_is;
      order = λ n c more.
          let rest = λ (at : ℕ) (ls ns : List Bool). AreClaimed (claims_by_leaf at ls ns (leaf + 1) n) (g.content d2) c in
          let moved : rest mid.at (set mid.leaves leaf true) (set mid.nodes (leaf / leaf_pointers.count) true) = subst (λ (ns : List Bool). rest mid.at (set mid.leaves leaf true) ns) puts.sets.nodes
          (subst (λ (ls : List Bool). rest mid.at ls now.nodes) puts.sets.leaves (subst (λ (at : ℕ). rest at now.leaves now.nodes) stays.at more)) in
          subst (λ (k : ℕ). AreClaimed (claims_by_leaf was.at was.leaves was.nodes (offset / 512) k) (g.content d0) c) (omega (arith, from))
          (done.order (suc n) c (claims_then (leaf_claims mid.at mid.leaves mid.nodes leaf) _ (g.content d1) (g.content d2) c puts.order moved));
    }

    -- all leaves are written: the draft is the model's
    module _ (f : File) (file : d.object ≡ objects.File f) (inside : offset + length bytes ≤ was.root.size) (d1 : D) (k1 : Kept) (now : Drafting) (read : Way)
        (done : WrittenTo g graph ds id offset bytes (leaves_in (offset + length bytes)) d0 d1 k1 was now read) where
      abbrev a : Image
      a = g.content d0

      abbrev b : Image
      b = g.content d1

      abbrev es : Drafts
      es = with_opened id (opened_as now done.draft) ds

      before : HasDraft a id (opened_as was d)
      before = the_draft a ds id was d opened (store.account.drafts id o at)

      after : HasDraft b id (opened_as now done.draft)
      after = the_draft b es id now done.draft done.becomes.is_open (done.becomes.steps.store.account.drafts id o at)

      gives : object_with was.root (leaves_below a was.root) ≡ objects.File f
      gives = before.tree.object ∙ file

      object : changed_object (Overwrite offset bytes) d.object ≡ done.draft.object
      object =
          ap (changed_object (Overwrite offset bytes)) (sym before.tree.object)
          ∙ sym (same_object was.root.size was.root now.root done.stays.root (leaves_below b now.root)
          ∙ writes_object was.root (leaves_below a was.root) (leaves_below b now.root) offset bytes (record { within = before.tree.within; filled = before.tree.filled }) done.leaves inside (no_index was.root (leaves_below a was.root) f gives))
          ∙ after.tree.object

      pub written_end : DraftBecomes g graph ds id (changed_draft (Overwrite offset bytes) d) d0 d1 k1 now
      written_end = becomes_as d0 d1 k1 now done.draft (changed_draft (Overwrite offset bytes) d) done.becomes object
          (λ k. fresh_written b id ds es was now d done.draft opened done.becomes.is_open after offset bytes done.leaf_marks done.node_marks object k ∙ sym (done.becomes.is_open.fresh k))
