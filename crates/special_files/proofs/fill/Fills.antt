-- A slot of an index in a draft, filled or emptied.
use Rattle.std.proofs.Common.{◌≡◌, ◌⊎◌, inl, inr, ℕ, ◌+◌, ◌-◌, ◌*◌, ◌/◌, ◌%◌, ◌<◌, ◌≤◌, Bool, true, false, cond, List, [], ◌∷◌, length, get_or, set, replicate, Option, Some, None, Ok, Err, refl, sym, ◌∙◌, ap, subst, arith}
use Rattle.special_files.proofs.Words.{IsTo, Draft, DraftBecomes, DraftView, Drafting, Drafts, Fill, FillCall, FillsDraft, FillsSlot, FitsLeaf, Ghosts, GivesIndex, HasDraft, Held, Image, Index, IsNearSwap, IsOpen, IsRead, IsSlot, Kept, LeafCall, LeavesFit, Way, Object, OnlyReads, Overwrite, Puid, PutsLeaf, Refused, SetsFresh, StaysBut, Swap, branches, bytes_held, changed_object, draft_in, drafts_with, empty_stays, filled, filled_draft, fresh_after, fresh_of, get_or-replicate, held_levels, index_to_leaves, is_empty_already, is_none, is_some, leaf_content, leaves_below, leaves_in, merged, ne_eqb, no_drafts, opened_as, range_with_len, root_spelling, same_object, same_slot, slot_fit, slot_in, slot_object, slot_of, touched, tree_in, with_opened, with_slot, within, ◌&&◌, ◌==◌, way_leaves, leaf_limit, leaf_pointers}
use Rattle.std.proofs.lemmas.Bool.{eq-eqb}
use Rattle.block_tree.specs.declared.root.Root as roots
use Rattle.ufs_model.specs.declared.object.Object.TheVariants as objects
use Rattle.vol_owners.proofs.Drafts.{with_here}
use Rattle.special_files.proofs.Marks.{Marks, fresh_written, marks_begin, marks_more}
use Rattle.special_files.proofs.PutStore.{the_draft}
use Rattle.special_files.proofs.Endings.{ends_as, ends_err}
use Rattle.special_files.proofs.fill.Swapped.{is_swapped}
use Rattle.special_files.proofs.View.{draft_of, view_reads}
use Rattle.special_files.proofs.WriteLeaf.{becomes_since}
use Rattle.special_files.proofs.write.Writes.{becomes_as, becomes_begin}

-- ---- a leaf of a slot

-- a leaf that is absent has empty slots
absent_slot : (s : ℕ) → s < 64 → slot_in (replicate 512 0) s ≡ None
absent_slot s few = same_slot (replicate 512 0) (replicate 8 0) s 0 (λ i small. get_or-replicate 512 (8 * s + i) 0 0 (omega (arith, few, small)) ∙ sym (get_or-replicate 8 (8 * 0 + i) 0 0 (omega (arith, small))))

-- the leaf that is put fits, as leaves with it in its place do
slot_fits : (root : roots.Root) (leaf : ℕ → Option Held) (slot : ℕ) (what : Option Puid) → LeavesFit root leaf → 8 * slot + 8 ≤ root.size
    → FitsLeaf root (slot / 64) (with_slot (slot % 64) what (leaf_content root.fill (leaf (slot / 64))))
slot_fits root leaf slot what fit inside = record { within = omega (arith, inside); filled = λ i few past. fits.filled (slot / 64) i put here few past }
  where
    put : Held
    put = record { block = 0; part = None; content = with_slot (slot % 64) what (leaf_content root.fill (leaf (slot / 64))) }

    new : ℕ → Option Held
    new n = cond (n == slot / 64) (Some put) (leaf n)

    here : new (slot / 64) ≡ Some put
    here = ap (λ (b : Bool). cond b (Some put) (leaf (slot / 64))) (eq-eqb (slot / 64) (slot / 64) refl)

    fills : FillsSlot root.fill slot what leaf new
    fills = record {
      here = ap bytes_held here;
      others = λ n other. ap (λ (b : Bool). bytes_held (cond b (Some put) (leaf n))) (ne_eqb n (slot / 64) other);
    }

    fits : LeavesFit root new
    fits = slot_fit root leaf new slot what fit fills (omega (arith, inside))

-- ---- which blocks are fresh then

-- the flags of a leaf and its node are set: the leaves and nodes of these flags are fresh
module _ (b : Image) (id : Puid) (es : Drafts) (was is : Drafting) (d e : Draft) (ds : Drafts) (opened : IsOpen ds id was d) (now : IsOpen es id is e) (draft : HasDraft b id (opened_as is e))
    (slot : ℕ) (small : slot / 64 < leaf_limit) (sets : SetsFresh (slot / 64) was is) where
  abbrev leaf : ℕ
  leaf = slot / 64

  first : 8 * slot / 512 ≡ leaf
  first = omega arith

  next : leaves_in (8 * slot + 8) ≡ leaf + 1
  next = omega arith

  alone : touched (8 * slot) 8 ≡ leaf ∷ []
  alone = let one : leaves_in (8 * slot + 8) - 8 * slot / 512 ≡ 1 = omega arith in λ i. range_with_len (first i) (one i)

  marks : (f : ℕ → ℕ) (flags after : List Bool) → f leaf < length flags → after ≡ set flags (f leaf) true → Marks f (8 * slot / 512) (leaves_in (8 * slot + 8)) flags after
  marks f flags after below set_now =
      let one = marks_more f leaf leaf flags flags after (marks_begin f leaf flags) (omega arith) below set_now in
      subst (λ (n : ℕ). Marks f n (leaves_in (8 * slot + 8)) flags after) (sym first) (subst (λ (n : ℕ). Marks f leaf n flags after) (sym next) one)

  -- the draft before, with the object of the draft after
  abbrev mid : Draft
  mid = record { object = e.object; fresh = d.fresh }

  mid_open : IsOpen (with_opened id (opened_as was mid) no_drafts) id was mid
  mid_open = record { at = opened.at; alone = with_here id (Some (opened_as was mid)) no_drafts; leaf_flags = opened.leaf_flags; node_flags = opened.node_flags; fresh = opened.fresh }

  abbrev eight : List ℕ
  eight = replicate 8 0

  pub fresh_filled : (what : Option Puid) (j : Index) → e.object ≡ objects.Index j → changed_object (Fill slot what) d.object ≡ e.object → (k : ℕ) → get_or (fresh_after (Fill slot what) d.object d.fresh) k [] ≡ get_or (fresh_of is) k []
  fresh_filled what j index object k =
      (λ t. get_or (within (merged (branches 1 (sym alone t)) d.fresh) (held_levels (object t))) k [])
      ∙ ap (λ (o : Object). get_or (within (merged (branches 1 (touched (8 * slot) 8)) d.fresh) (held_levels o)) k []) (sym kept) ∙ written
    where
      kept : changed_object (Overwrite (8 * slot) eight) e.object ≡ e.object
      kept = ap (changed_object (Overwrite (8 * slot) eight)) index ∙ sym index

      leaf_below : leaf < length was.leaves
      leaf_below = omega (arith, opened.leaf_flags, small)

      node_below : leaf / leaf_pointers.count < length was.nodes
      node_below = omega (arith, opened.node_flags, small)

      written : get_or (fresh_after (Overwrite (8 * slot) eight) e.object d.fresh) k [] ≡ get_or (fresh_of is) k []
      written = fresh_written b id (with_opened id (opened_as was mid) no_drafts) es was is mid e mid_open now draft (8 * slot) eight (marks (λ l. l) was.leaves is.leaves leaf_below sets.leaves) (marks (λ l. l / leaf_pointers.count) was.nodes is.nodes node_below sets.nodes) kept k

-- ---- the draft

none_is : (p : Option Puid) → is_none p ≡ true → p ≡ None
none_is None h = refl
none_is (Some x) h = cc

-- the leaf was read, and has this content
module _ {D : Type 0} {g : Ghosts D} {d0 : D} {k0 : Kept} {was : Drafting} (v : DraftView g d0 k0 was) (slot : ℕ) (what : Option Puid) (inside : 8 * slot + 8 ≤ was.root.size) where
  abbrev old : ℕ → Option Held
  old = leaves_below (g.content d0) was.root

  abbrev filled_with : List ℕ
  filled_with = with_slot (slot % 64) what (leaf_content was.root.fill (old (slot / 64)))

  before : HasDraft (g.content d0) v.id (opened_as was v.draft)
  before = draft_of v

  fit : LeavesFit was.root old
  fit = record { within = before.tree.within; filled = before.tree.filled }

  pub fill_fits : FitsLeaf was.root (slot / 64) filled_with
  fill_fits = slot_fits was.root old slot what fit inside

  module _ (i : Index) (index : v.draft.object ≡ objects.Index i) (content : List ℕ) (same : content ≡ leaf_content was.root.fill (old (slot / 64))) (b : Bool) (b_is : b ≡ (is_none what && is_none (slot_in content (slot % 64)))) where
    gives : GivesIndex was.root old i
    gives = index_to_leaves was.root old i (before.tree.object ∙ index)

    -- what the leaf has in the slot
    slot_is : slot_of i slot ≡ slot_in (leaf_content was.root.fill (old (slot / 64))) (slot % 64)
    slot_is = gives.slots slot (omega (arith, inside))

    empty_is : is_empty_already i slot what ≡ b
    empty_is = ap (λ (p : Option Puid). is_none what && is_none p) (slot_is ∙ ap (λ (c : List ℕ). slot_in c (slot % 64)) (sym same)) ∙ sym b_is

    -- an empty slot that is emptied stays as it is
    pub stays_empty : {d1 : D} {n : ℕ} → OnlyReads g n d0 d1 → b ≡ true → FillsDraft v i slot what d1 k0 was None
    stays_empty {d1} reads true_now = record {
      becomes = becomes_since reads (becomes_as g v.graph v.ds v.id v.object v.at d1 d1 k0 was v.draft (filled_draft i slot what v.draft) (becomes_begin g v.graph v.ds v.id v.object v.at d1 k0 was v.draft (view_reads v reads).store v.opened)
          (emptied what already) (λ k. ap (λ (c : Bool). get_or (cond c v.draft.fresh (fresh_after (Fill slot what) v.draft.object v.draft.fresh)) k []) already));
      order = λ put. cc;
      beside = λ path node leaf. ap (λ (a : Image). (tree_in a (root_spelling was.root)).below path) reads.content;
      swaps = λ equal. tt;
    }
      where
        already : is_empty_already i slot what ≡ true
        already = empty_is ∙ true_now

        emptied : (w : Option Puid) → is_empty_already i slot w ≡ true → changed_object (Fill slot w) v.draft.object ≡ v.draft.object
        emptied (Some x) none = cc
        emptied None none = ap (changed_object (Fill slot None)) (sym before.tree.object)
            ∙ sym (empty_stays was.root old slot gives.kind (omega (arith, inside)) (sym slot_is ∙ none_is (slot_of i slot) none)) ∙ before.tree.object

    -- the leaf was put with the slot in it
    module _ {d1 : D} {k1 : Kept} {now : Drafting} {next : Way} (stays : StaysBut was now) (puts : PutsLeaf g v.graph v.ds v.id (slot / 64) filled_with d0 d1 k1 was now next) (other : b ≡ false) (good : IsSlot what) where
      small : slot / 64 < leaf_limit
      small = omega (arith, inside, before.tree.spelled.good.1.size.limit)

      abbrev later : Draft
      later = draft_in (g.content d1) now

      abbrev es : Drafts
      es = drafts_with (g.content d1) v.ds v.id now

      after : HasDraft (g.content d1) v.id (opened_as now later)
      after = the_draft (g.content d1) es v.id now later puts.is_open (puts.steps.store.account.drafts v.id v.object v.at)

      fills : FillsSlot was.root.fill slot what old (leaves_below (g.content d1) now.root)
      fills = record { here = puts.leaves.here; others = puts.leaves.others }

      held : (w : Option Puid) (h : Option Held) → (is_none w && is_none (slot_in (leaf_content was.root.fill h) (slot % 64))) ≡ false → (is_some w ≡ true) ⊎ (is_some h ≡ true)
      held (Some x) h some = inl refl
      held None (Some x) some = inr refl
      held None None some =
          let zero_fill : was.root.fill ≡ 0 = before.tree.spelled.good.1.fill gives.kind in
          let none = ap (λ (f : ℕ). slot_in (replicate 512 f) (slot % 64)) zero_fill ∙ absent_slot (slot % 64) (omega arith) in
          let is_empty = ap is_none none in cc

      object : changed_object (Fill slot what) v.draft.object ≡ later.object
      object = ap (changed_object (Fill slot what)) (sym before.tree.object)
          ∙ sym (same_object was.root.size was.root now.root stays.root (leaves_below (g.content d1) now.root)
          ∙ slot_object was.root old (leaves_below (g.content d1) now.root) slot what fit fills (omega (arith, inside)) good
          (held what (old (slot / 64)) (ap (λ (c : List ℕ). is_none what && is_none (slot_in c (slot % 64))) (sym same) ∙ sym b_is ∙ other)) gives.kind)

      fresh : (k : ℕ) → get_or (filled_draft i slot what v.draft).fresh k [] ≡ get_or later.fresh k []
      fresh k = ap (λ (c : Bool). get_or (cond c v.draft.fresh (fresh_after (Fill slot what) v.draft.object v.draft.fresh)) k []) (empty_is ∙ other)
          ∙ fresh_filled (g.content d1) v.id es was now v.draft later v.ds v.opened puts.is_open after slot small puts.sets what (filled i slot what) (sym object ∙ ap (changed_object (Fill slot what)) index) object k

      becomes : DraftBecomes g v.graph v.ds v.id (filled_draft i slot what v.draft) d0 d1 k1 now
      becomes = becomes_as g v.graph v.ds v.id v.object v.at d0 d1 k1 now later (filled_draft i slot what v.draft) (record { steps = puts.steps; is_open = puts.is_open }) object fresh

      pub slot_put : (read : Way) → IsTo (slot / 64) read → IsTo (slot / 64) next → IsRead (g.content d0) was read
          → FillsDraft v i slot what d1 k1 now (Some (record { leaf = slot / 64; was = get_or (way_leaves read) (slot / 64 % leaf_pointers.count) 0; is = get_or (way_leaves next) (slot / 64 % leaf_pointers.count) 0 }))
      slot_put read read_to next_to is_read = record {
        becomes = becomes;
        order = λ put. puts.order;
        beside = puts.beside;
        swaps = λ equal. is_swapped was now (slot / 64) small read next read_to next_to equal stays.own v (filled_draft i slot what v.draft) becomes puts.beside is_read puts.read_is;
      }

-- ---- how the call ends

module _ {D : Type 0} {g : Ghosts D} {d0 d1 : D} {k0 k1 : Kept} {was now : Drafting} {read : Way} (slot : ℕ) (what : Option Puid) where
  -- a leaf was put
  pub fill_put : (swap : Swap) → LeafCall g 8 (slot / 64) d0 d1 k0 k1 was now read (Ok tt) → (was.root ≡ was.own → IsNearSwap (g.blocks d1) now swap) → FillCall g slot what d0 d1 k0 k1 was now (Ok (Some swap))
  fill_put swap calls near = record { stays = calls.stays; near = near; ends = ends_as _ calls.ends; tried = λ some. calls.tried; spared = λ none. cc; empty = λ none. cc; kept = tt; room = λ enough. tt }

  -- it was refused
  pub fill_refused : {e : Refused} → LeafCall g 8 (slot / 64) d0 d1 k0 k1 was now read (Err e) → FillCall g slot what d0 d1 k0 k1 was now (Err e)
  fill_refused {e} calls = record { stays = calls.stays; near = λ equal. tt; ends = ends_err calls.ends; tried = tt; spared = tt; empty = tt; kept = calls.kept; room = calls.room }
