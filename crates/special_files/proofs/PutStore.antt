-- The store after a leaf was put into a draft.
use Rattle.std.proofs.Common.{◌≡◌, ℕ, ◌/◌, ◌<◌, Bool, true, List, [], length, Some, refl, sym, ◌∙◌, ap, subst, get_or}
use Rattle.special_files.proofs.Ways.{way_is}
use Rattle.special_files.proofs.Words.{AreClaimed, DraftBecomes, DraftView, Drafting, Drafts, FitsLeaf, Ghosts, Graph, HasDraft, HasDraftIf, Image, IsOpen, Kept, Way, Object, Opened, Puid, PutsLeaf, SetsFresh, StaysBut, StoreHas, created_if, draft_goes_on, draft_in, fresh_of, is_meant_for, leaf_claims, leaves_at, object_at, opened_as, pointer_to_node, root_spelling, tree_in, with_opened, way_leaves, node_number, leaf_limit, leaf_pointers, node_pointers}
use Rattle.std.proofs.Math.ListN.{length-set}
use Rattle.ufs_model.specs.declared.object.Draft as models
use Rattle.special_files.proofs.Amid.{IsAmid}
use Rattle.special_files.proofs.Levels.{Tell, flags_tell, tell_more, told_levels}
use Rattle.vol_owners.proofs.Drafts.{with_here}
use Rattle.special_files.proofs.leaf.Puts.{LeafPut, leaf_now, leaf_puts, node_now, other_leaves, other_nodes, put_beside, put_draft_stands}

-- the draft of an object that has one
pub the_draft : (image : Image) (ds : Drafts) (id : Puid) (drafting : Drafting) (m : models.Draft) → IsOpen ds id drafting m → HasDraftIf image id (ds id) → HasDraft image id (opened_as drafting m)
the_draft image ds id drafting m is has = subst (HasDraftIf image id) is.alone has

-- ---- a draft in place of one

module _ {D : Type 0} (g : Ghosts D) (graph : Graph) (ds : Drafts) (id : Puid) (o : Object) (old new : D) (before after : Kept) (was now : Drafting) (m next : models.Draft)
    (store : StoreHas g graph ds old before) (at : object_at graph id ≡ Some o) (opened : IsOpen ds id was m) (amid : IsAmid g graph id old new after) where
  abbrev now_open : Opened
  now_open = opened_as now next

  -- a draft that goes on
  pub store_goes_on : HasDraft (g.content new) id now_open → now.created ≡ was.created → StoreHas g graph (with_opened id now_open ds) new after
  store_goes_on draft created = record {
    carries = amid.carries;
    account = draft_goes_on (g.content old) (g.content new) graph ds id o (Some now_open) store.account at draft amid.only (created ∙ sym (ap created_if opened.alone));
    counts = amid.counts;
    ordered = store.ordered;
  }

  pub becomes_now : HasDraft (g.content new) id now_open → now.at ≡ was.at → now.created ≡ was.created → length now.leaves ≡ leaf_limit → length now.nodes ≡ node_pointers.count → ((k : ℕ) → get_or next.fresh k [] ≡ get_or (fresh_of now) k []) → DraftBecomes g graph ds id next old new after now
  becomes_now draft same_at created leaves nodes fresh = record {
    steps = record { store = store_goes_on draft created; only = amid.only };
    is_open = record { at = opened.at ∙ sym same_at; alone = with_here id (Some now_open) ds; leaf_flags = leaves; node_flags = nodes; fresh = fresh };
  }

-- ---- a leaf put

-- what the flags of a draft tell
pub flags_of : (image : Image) (ds : Drafts) (id : Puid) (was : Drafting) (m : models.Draft) → IsOpen ds id was m → HasDraft image id (opened_as was m) → Tell (is_meant_for image id.block) (tree_in image (root_spelling was.root)) was.leaves was.nodes
flags_of image ds id was m opened draft = flags_tell (is_meant_for image id.block) (tree_in image (root_spelling was.root)) was m.fresh opened.leaf_flags opened.node_flags draft.fresh opened.fresh

module _ {D : Type 0} {g : Ghosts D} {old new : D} {before after : Kept} {was now : Drafting} (v : DraftView g old before was) (way : Way) (leaf x y : ℕ) (content : List ℕ) (fits : FitsLeaf was.root leaf content) (most : leaf < leaf_limit)
    (amid : IsAmid g v.graph v.id old new after) (put : LeafPut (g.content old) (g.content new) v.id (opened_as was v.draft) now.root leaf x y content) (stays : StaysBut was now) (sets : SetsFresh leaf was now) where
  abbrev a : Image
  a = g.content old

  abbrev b : Image
  b = g.content new

  abbrev later : models.Draft
  later = draft_in b now

  draft : HasDraft a v.id (opened_as was v.draft)
  draft = the_draft a v.ds v.id was v.draft v.opened (v.store.account.drafts v.id v.object v.at)

  long_leaves : length now.leaves ≡ leaf_limit
  long_leaves = ap (length {A = Bool}) sets.leaves ∙ length-set was.leaves leaf true ∙ v.opened.leaf_flags

  long_nodes : length now.nodes ≡ node_pointers.count
  long_nodes = ap (length {A = Bool}) sets.nodes ∙ length-set was.nodes (leaf / leaf_pointers.count) true ∙ v.opened.node_flags

  tell : Tell (is_meant_for b v.id.block) (tree_in b (root_spelling now.root)) now.leaves now.nodes
  tell = tell_more (is_meant_for a v.id.block) (is_meant_for b v.id.block) (tree_in a (root_spelling was.root)) (tree_in b (root_spelling now.root)) leaf was now v.opened.leaf_flags v.opened.node_flags
      (flags_of a v.ds v.id was v.draft v.opened draft) sets
      (leaf_now a b v.graph v.store.account.holds v.id (opened_as was v.draft) now.root leaf x y content draft put most)
      (node_now a b v.graph v.store.account.holds v.id (opened_as was v.draft) now.root leaf x y content draft put most)
      (other_leaves a b v.graph v.store.account.holds v.id (opened_as was v.draft) now.root leaf x y content draft put most)
      (other_nodes a b v.graph v.store.account.holds v.id (opened_as was v.draft) now.root leaf x y content draft put most)

  stands : HasDraft b v.id (opened_as now later)
  stands =
      let same : record (opened_as was v.draft) { root = now.root; draft = later } ≡ opened_as now later =
      λ i. record { shadow = sym stays.shadow i; own = sym stays.own i; root = now.root; draft = later; created = sym stays.created i } in
      subst (HasDraft b v.id) same (put_draft_stands a b v.graph v.store.account.holds v.id (opened_as was v.draft) now.root leaf x y content draft put most v.object v.at fits.within fits.filled (fresh_of now)
      (told_levels (is_meant_for b v.id.block) (tree_in b (root_spelling now.root)) now long_leaves long_nodes tell))

  now_is : DraftBecomes g v.graph v.ds v.id later old new after now
  now_is = becomes_now g v.graph v.ds v.id v.object old new before after was now v.draft later v.store v.at v.opened amid stands stays.at stays.created long_leaves long_nodes (λ k. refl)

  pub leaf_put : way_leaves way ≡ leaves_at b (pointer_to_node now.root (node_number way)) → AreClaimed (leaf_claims was.at was.leaves was.nodes leaf) a b → PutsLeaf g v.graph v.ds v.id leaf content old new after was now way
  leaf_put node order = record {
    steps = now_is.steps;
    is_open = now_is.is_open;
    sets = sets;
    leaves = leaf_puts a b v.graph v.store.account.holds v.id (opened_as was v.draft) now.root leaf x y content draft put most;
    read_is = way_is b now.root way node;
    order = order;
    beside = put_beside a b v.graph v.store.account.holds v.id (opened_as was v.draft) now.root leaf x y content draft put most;
  }
