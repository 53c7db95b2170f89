-- Bytes written into one leaf of a draft: what was read is laid under them, and they are put.
use Rattle.std.proofs.Common.{◌≡◌, ℕ, ◌+◌, ◌-◌, ◌*◌, ◌/◌, ◌%◌, ◌<◌, ◌≤◌, List, ◌++◌, length, get_or, take, replicate, slice_range, Err, refl, sym, ◌∙◌, ap, subst, arith, false, Ok, Some}
use Rattle.special_files.proofs.Words.{AreClaimed, ChangesOnly, DraftBecomes, DraftView, Drafting, Drafts, EndsCall, FitsLeaf, Ghosts, GoesHolding, Graph, HasDraft, Image, IsDraftTrouble, IsNearTree, IsRead, Kept, LeafCall, Leaves, LeavesFit, Way, OnlyReads, Puid, PutsAt, PutsLeaf, Refused, Result, SameBeside, Tells, Top, Trouble, cut, draft_takes, drop_all, get_or-append_right, get_or-replicate, has_met_damage, is_damage, is_full_refusal, leaf_claims, leaf_content, leaves_below, leaves_in, length-leaf_content, length-take, of_draft, opened_as, over_byte, over_past, overlaid, past_size, patched, reads_make, reads_within, refused_by, root_spelling, sum, then, then_tried, top_of, tree_in}
use Rattle.block_tree.specs.declared.root.Root as roots
use Rattle.ufs_model.specs.declared.object.Draft as models
use Rattle.special_files.proofs.read.ReadLeaves.{tree_near}
use Rattle.special_files.specs.View.{HasTree}
use Rattle.special_files.proofs.View.{read_leaves, view_reads}
use Rattle.cfs_base.proofs.Went.{makes_within, went_as, went_then}
use Rattle.cfs_base.specs.Went.{Went}
use Rattle.cyl_alloc.proofs.Takes.{takes_none}
use Rattle.special_files.proofs.Endings.{stays_itself}
use Rattle.cfs_base.specs.declared.refusal.Trouble.TheVariants as trouble
use Rattle.special_files.proofs.Refusals.{refusal_after_reads, refusal_of, damaged_by, on_ok}

-- ---- bytes

-- where bytes cover a leaf it is the same whatever stood there
pub covered : (leaf offset : ℕ) (bytes xs ys : List ℕ) → length xs ≡ 512 → length ys ≡ 512 → offset ≤ 512 * leaf → 512 * leaf + 512 ≤ offset + length bytes → patched leaf offset bytes xs ≡ patched leaf offset bytes ys
unfolding overlaid
covered leaf offset bytes xs ys long_xs long_ys from to =
    let none : offset - 512 * leaf ≡ 0 = omega (arith, from) in
    let same : 512 * leaf + length xs - offset ≡ 512 * leaf + length ys - offset = omega (arith, long_xs, long_ys) in
    let past_xs = drop_all (offset + length bytes - 512 * leaf) xs (omega (arith, to, long_xs)) in
    let past_ys = drop_all (offset + length bytes - 512 * leaf) ys (omega (arith, to, long_ys)) in
    (λ i. take (none i) xs ++ slice_range bytes (512 * leaf - offset) (same i) ++ past_xs i)
    ∙ sym (λ i. take (none i) ys ++ slice_range bytes (512 * leaf - offset) (512 * leaf + length ys - offset) ++ past_ys i)

-- bytes within the size leave fill bytes past it
pub patched_fits : (image : Image) (id : Puid) (was : Drafting) (d : models.Draft) → HasDraft image id (opened_as was d) → (leaf offset : ℕ) (bytes : List ℕ) → leaf < leaves_in was.root.size → offset + length bytes ≤ was.root.size
    → FitsLeaf was.root leaf (patched leaf offset bytes (leaf_content was.root.fill (leaves_below image was.root leaf)))
patched_fits image id was d draft leaf offset bytes inside within =
    let content = leaf_content was.root.fill (leaves_below image was.root leaf) in
    let fit : LeavesFit was.root (leaves_below image was.root) = record { within = draft.tree.within; filled = draft.tree.filled } in
    record {
      within = inside;
      filled = λ i small past.
          over_byte (512 * leaf) content offset bytes i (omega (arith, small, length-leaf_content was.root.fill (leaves_below image was.root leaf)))
          ∙ over_past offset bytes (512 * leaf + i) (get_or content i 0) (omega (arith, within, past))
          ∙ past_size was.root (leaves_below image was.root) fit leaf i small past;
    }

-- a leaf that is cut has fill bytes from there on
pub cut_fits : (root : roots.Root) (size : ℕ) (content : List ℕ) → length content ≡ 512 → size < root.size → FitsLeaf root (size / 512) (cut size root.fill content)
unfolding cut
cut_fits root size content long less = record {
  within = omega (arith, less);
  filled = λ i small past.
      get_or-append_right (take (size % 512) content) (replicate (512 - size % 512) root.fill) (size % 512) i 0 (omega (arith, long, length-take (size % 512) content)) (omega (arith, less, past))
      ∙ get_or-replicate (512 - size % 512) (i - size % 512) root.fill 0 (omega (arith, small, less, past));
}

-- ---- after reads

-- what was read last, seen from the image before
pub read_since : {D : Type 0} {g : Ghosts D} {d0 d1 : D} {n : ℕ} (reads : OnlyReads g n d0 d1) (was : Drafting) (read : Way) → IsRead (g.content d0) was read → IsRead (g.content d1) was read
read_since {g} reads was read is = subst (λ (i : Image). IsRead i was read) (sym reads.content) is

-- a refusal that was a trouble isn't Full
pub not_full : (t : Trouble) → is_full_refusal (refused_by t) ≡ false
not_full (trouble.Disk tried) = refl
not_full (trouble.Damaged damage) = refl

module _ {D : Type 0} {g : Ghosts D} {d0 d1 : D} {n : ℕ} (reads : OnlyReads g n d0 d1) where
  pub puts_since : {d2 : D} {graph : Graph} {ds : Drafts} {id : Puid} {leaf : ℕ} {content : List ℕ} {after : Kept} {was now : Drafting} {read : Way} → PutsLeaf g graph ds id leaf content d1 d2 after was now read → PutsLeaf g graph ds id leaf content d0 d2 after was now read
  puts_since {d2} {id = id} {leaf = leaf} {content = content} {was = was} {now = now} puts = record {
    steps = record { store = puts.steps.store; only = subst (λ (i : Image). ChangesOnly (λ e. of_draft id.block e) i (g.content d2)) reads.content puts.steps.only };
    is_open = puts.is_open;
    sets = puts.sets;
    leaves = subst (λ (i : Image). PutsAt leaf content (leaves_below i was.root) (leaves_below (g.content d2) now.root)) reads.content puts.leaves;
    read_is = puts.read_is;
    order = subst (λ (i : Image). AreClaimed (leaf_claims was.at was.leaves was.nodes leaf) i (g.content d2)) reads.content puts.order;
    beside = subst (λ (i : Image). SameBeside leaf (tree_in i (root_spelling was.root)) (tree_in (g.content d2) (root_spelling now.root))) reads.content puts.beside;
  }

  pub becomes_since : {d2 : D} {graph : Graph} {ds : Drafts} {id : Puid} {e : models.Draft} {k2 : Kept} {now : Drafting} → DraftBecomes g graph ds id e d1 d2 k2 now → DraftBecomes g graph ds id e d0 d2 k2 now
  becomes_since {d2} {id = id} is = record { steps = record { store = is.steps.store; only = subst (λ (i : Image). ChangesOnly (λ e. of_draft id.block e) i (g.content d2)) reads.content is.steps.only }; is_open = is.is_open }

  pub images_since : (d2 : D) (P : Image → Type 0) → Leaves g d1 d2 P → Leaves g d0 d2 P
  images_since d2 P images = then g d0 d1 d2 P P (read_leaves reads) images (λ c h. h)

  -- the call goes on
  pub goes_since : {A : Type 0} {graph : Graph} {P Q : Type 0} {d2 : D} {r : Result A Refused} → (P → Q) → GoesHolding g graph P d1 d2 r → GoesHolding g graph Q d0 d2 r
  goes_since {d2 = d2} {r = r} f goes = record { done = on_ok r f goes.done; leaves = images_since d2 _ goes.leaves; sound = goes.sound }

  -- the call stopped there
  pub goes_stopped : {A : Type 0} {graph : Graph} {P : Type 0} (t : Trouble) (e : Refused) → e ≡ refused_by t → is_damage t ≡ false → GoesHolding {A = A} g graph P d0 d1 (Err e)
  goes_stopped {graph = graph} t e is sound = record { done = tt; leaves = read_leaves reads; sound = ap has_met_damage is ∙ damaged_by t sound }

  pub ends_since : {A : Type 0} {at : Top} {m t k : ℕ} {d2 : D} {k1 k2 : Kept} {r : Result A Refused} (most : ℕ) → EndsCall g at 0 m t k d1 d2 k1 k2 r → n + m ≤ most → EndsCall g at 0 most t k d0 d2 k1 k2 r
  ends_since {A = A} {at} {m} {t} {k} {d2} {k1} {k2} {r} most is le = went_as most t most (λ takes. takes) (λ e why. why) (λ e so. so) (λ x knows. knows) (by r is) le (omega arith) le
    where
      reads_went : Went {A = Unit {0}} g n 0 n d0 d1 k1 k1 (Unit {0}) (λ (e : Refused). ⊥) (λ e. ⊥) (λ x. Some false) (Ok tt)
      reads_went = record { told = reads.told; knows = (refl, reads); refused = tt; untried = tt; moves = tt; calls = reads_make g d0 d1 n reads }

      by : (r : Result A Refused) → EndsCall g at 0 m t k d1 d2 k1 k2 r → EndsCall g at 0 (n + m) (0 + t) k d0 d2 k1 k2 r
      by (Ok x) is = went_then (λ e. e) (λ none takes. takes) tt tt refl reads_went is
      by (Err e) is = went_then (λ e. e) (λ none takes. takes) (refusal_after_reads g at d0 d1 d2 k2 0 n e reads) (λ same. (refl, same)) tt reads_went is

  -- only reads, and then a trouble
  pub ends_trouble : {A : Type 0} {at : Top} {kept : Kept} (floor t k most : ℕ) (trouble : Trouble) (e : Refused) → e ≡ refused_by trouble → n ≤ most → IsDraftTrouble g at d0 d1 kept trouble → EndsCall {A = A} g at floor most t k d0 d1 kept kept (Err e)
  ends_trouble {A = A} {at = at} {kept = kept} floor t k most trouble e same le is = subst (λ (x : Refused). EndsCall {A = A} g at floor most t k d0 d1 kept kept (Err x)) (sym same) (record {
    told = tt;
    knows = tt;
    refused = refusal_of g at floor d0 d1 kept trouble is;
    untried = λ same. (refl, reads_within g d0 d1 n most le reads);
    moves = takes_none kept k;
    calls = makes_within g d0 d1 n 0 most t le (omega arith) (reads_make g d0 d1 n reads);
  })

-- ---- one leaf put

pub leaf_refused : {D : Type 0} {g : Ghosts D} {n leaf : ℕ} {d0 d1 : D} {k0 k1 : Kept} {was : Drafting} (read : Way) {e : Refused} → EndsCall {A = Unit {0}} g (top_of was) 0 n 4 (draft_takes was leaf) d0 d1 k0 k1 (Err e) → (draft_takes was leaf ≤ sum k0.free → is_full_refusal e ≡ false)
    → LeafCall g n leaf d0 d1 k0 k1 was was read (Err e)
leaf_refused {was = was} read ends room = record { stays = stays_itself was; flags = tt; to = tt; safe = tt; near = λ far. far; ends = ends; tried = tt; kept = λ same. refl; room = room }

module _ {D : Type 0} {g : Ghosts D} {d0 d1 : D} {n : ℕ} (reads : OnlyReads g n d0 d1) where
  pub leaf_since : {m leaf : ℕ} {d2 : D} {k0 k2 : Kept} {was now : Drafting} {read : Way} {r : Result (Unit {0}) Refused} (most : ℕ) → LeafCall g m leaf d1 d2 k0 k2 was now read r → n + m ≤ most → LeafCall g most leaf d0 d2 k0 k2 was now read r
  leaf_since {d2 = d2} {r = r} most is le = record {
    stays = is.stays;
    flags = is.flags;
    to = is.to;
    safe = is.safe;
    near = is.near;
    ends = ends_since reads most is.ends le;
    tried = on_ok r (λ tried. then_tried g d0 d1 d2 n 0 (reads_make g d0 d1 n reads) tried) is.tried;
    kept = is.kept;
    room = is.room;
  }

  pub leaf_stopped : {leaf : ℕ} {kept : Kept} {was : Drafting} (read : Way) (most : ℕ) (t : Trouble) (e : Refused) → e ≡ refused_by t → n ≤ most → IsDraftTrouble g (top_of was) d0 d1 kept t → LeafCall g most leaf d0 d1 kept kept was was read (Err e)
  leaf_stopped {leaf} read most t e same le is = leaf_refused read (ends_trouble reads 0 4 _ most t e same le is) (λ enough. ap is_full_refusal same ∙ not_full t)

  -- content that was read, and then put
  pub leaf_changed : {k0 k2 : Kept} {was now : Drafting} {d2 : D} {r : Result (Unit {0}) Refused} (v : DraftView g d0 k0 was) (read mid next : Way) (leaf : ℕ) (content whole : List ℕ) → (Tells g d0 → IsRead (g.content d0) was read → IsRead (g.content d0) was mid) → IsRead (g.content d0) was read
      → content ≡ whole → FitsLeaf was.root leaf whole → ((w : DraftView g d1 k0 was) → IsRead (g.content d1) was mid → FitsLeaf was.root leaf content → GoesHolding g w.graph (PutsLeaf g w.graph w.ds w.id leaf content d1 d2 k2 was now next) d1 d2 r)
      → GoesHolding g v.graph (PutsLeaf g v.graph v.ds v.id leaf whole d0 d2 k2 was now next) d0 d2 r
  leaf_changed {k2 = k2} {was = was} {now = now} {d2 = d2} v read mid next leaf content whole node is same fits put =
      goes_since reads (λ puts. subst (λ (c : List ℕ). PutsLeaf g v.graph v.ds v.id leaf c d0 d2 k2 was now next) same (puts_since reads puts))
      (put (view_reads v reads) (read_since reads was mid (node v.store.carries.tells is)) (subst (FitsLeaf was.root leaf) (sym same) fits))

-- on an honest disk the tree is near
pub near_there : {D : Type 0} {g : Ghosts D} {d0 : D} {was : Drafting} (v : HasTree g d0 was) → length (g.content d0) ≡ g.blocks d0 → 0 < g.blocks d0 → IsNearTree (g.blocks d0) (g.content d0) (root_spelling was.root)
near_there {g = g} {d0 = d0} {was = was} v size some = tree_near (g.content d0) (g.blocks d0) v.owner was v.object v.tree size some
