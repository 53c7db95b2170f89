-- A slot of an index filled by a draft that is begun, filled and committed.
use Rattle.index_ops.proofs.Words.{[], ◌≡◌, ℕ, ◌/◌, List, Option, Some, None, Ok, Err, inl, inr, refl, sym, ◌∙◌, ap, subst, Result, OnlyReads, Image, Nothing, Leaves, Ghosts, Puid, Refused, Trouble, IsRootBlock, then, wider, MapEntry, AreClaimed, AreCounts, Kept, StoreHas, IsOldOrNew, Committed, Makes, Making, Drafting, begun_at, opened_as, filled_draft, leaves_below, has_met_damage, store_reads, Swap, Graph, ids_of, object_at, with_object, rises, same_puid, Object, object_at-with_object, rises-with_object, same_entries, object_with, tree_in, block_at, true, false, cond, carries_on, same_puid_is, Accounts, Opened, ChangesOnly, of_owner, changes_begin, arith, Drafts, with_opened, with_again}
use Rattle.index_ops.specs.Changes.{FillsIndex, HasSlot, SettlesDisk, index_with, leaf_and_node}
use Rattle.index_ops.proofs.Begun.{ChangesOneLeaf, after_commit, begun_alone, begun_claims, begun_store, begun_view, next_view, one_leaf, sound_by}
use Rattle.cyl_alloc.specs.Left.{LeftCommit}
use Rattle.intentions.specs.Left.{StoreIs, StoreWith, coming, final_image}
use Rattle.special_files.proofs.View.{draft_of, read_leaves}
use Rattle.special_files.specs.Begins.{drafts_begun}
use Rattle.special_files.specs.Committing.{CommitEnds}
use Rattle.special_files.specs.Fills.{FillsDraft, FillsIfIndex, IsSwapped}
use Rattle.special_files.specs.View.{DraftView, GoesTo}
use Rattle.ufs_model.specs.Object.{changed_object}
use Rattle.ufs_model.specs.declared.change.Change.TheVariants.{Fill}

-- an object put where it is
same_graph : (g : Graph) (id : Puid) (o : Object) → rises (ids_of g) ≡ true → object_at g id ≡ Some o → with_object g id o ≡ g
same_graph g id o up at = λ i. record g { objects = same_entries (with_object g id o).objects g.objects (rises-with_object g id o up) up here i }
  where
    here : (x : Puid) → object_at (with_object g id o) x ≡ object_at g x
    here x = object_at-with_object g id o x ∙ elim (same_puid x id) as (λ b. same_puid x id ≡ b → cond b (Some o) (object_at g x) ≡ object_at g x) [
      | true ↦ λ is. sym at ∙ ap (object_at g) (sym (same_puid_is x id is))
      | false ↦ λ other. refl
    ] refl

module _ {D : Type 0} {g : Ghosts D} {d0 : D} {k0 : Kept} {at slot : ℕ} {was : Drafting} (h : HasSlot g d0 k0 at slot) (what : Option Puid) (begun : was ≡ begun_at at None was.own) (own : IsRootBlock (block_at (g.content d0) at) was.own) where
  abbrev w : DraftView g d0 k0 was
  w = begun_view h.view h.shut begun (begun_store h.view h.shut begun own)

  abbrev pub Becomes : Image → Type 0
  Becomes = IsOldOrNew h.view.graph h.view.graph h.view.id (index_with h.index slot what)

  module _ (d2 : D) (k2 : Kept) (now : Drafting) where
    abbrev pub Goes : Result (Option Swap) Refused → Type 0
    Goes r = (v : DraftView g d0 k0 was) → GoesTo g v.graph (FillsIfIndex v slot what d2 k2 now) d0 d2 r

    abbrev e : Opened
    e = opened_as now (filled_draft h.index slot what w.draft)

    first : (r : Result (Option Swap) Refused) → Goes r → Leaves g d0 d2 Becomes
    first r fills = wider g d0 d2 _ Becomes (fills w).leaves (λ c x. inl x)

    pub fill_stops : (e : Refused) → Goes (Err e) → FillsIndex h what d2 k2 (Err e)
    fill_stops e fills = record { done = tt; leaf = tt; leaves = first (Err e) fills; sound = (fills w).sound }

    -- filled, and committed or not
    pub fill_commits : {d3 : D} {k3 : Kept} (swap : Swap) → Goes (Ok (Some swap)) → now.created ≡ None → now.shadow ≡ None → (r : Result (Unit {0}) Trouble)
        → ((v : DraftView g d2 k2 now) (made : Option Making) → Makes (g.content d2) now.created made → IsSwapped (g.content d2) v.id now v.draft swap → CommitEnds g v.graph v.ds v.id v.draft.object made d2 d3 k3 r) → FillsIndex h what d3 k3 (after_commit tt r)
    fill_commits {d3} {k3} swap fills created bare r commits = by r ends
      where
        f : FillsDraft w h.index slot what d2 k2 now (Some swap)
        f = (fills w).done h.index h.is

        ends : CommitEnds g h.view.graph (with_opened h.view.id e (drafts_begun h.view was)) h.view.id (index_with h.index slot what) None d2 d3 k3 r
        ends = subst (λ (o : Object). CommitEnds g h.view.graph (with_opened h.view.id e (drafts_begun h.view was)) h.view.id o None d2 d3 k3 r) (ap (changed_object (Fill slot what)) h.is)
            (commits (next_view w e.draft f.becomes.steps.store f.becomes.is_open) None created (f.swaps (ap (λ (x : Drafting). x.root) begun)))

        leaf : Committed g h.view.graph (with_opened h.view.id e (drafts_begun h.view was)) h.view.id (index_with h.index slot what) None d2 d3 k3 → ChangesOneLeaf (leaf_and_node (slot / 64) h.view.id.block) (slot / 64) h.view.id.block [] (g.content d0) (final_image g d3 k3)
        leaf ch = one_leaf w begun (slot / 64) (leaf_and_node (slot / 64) h.view.id.block) None f.becomes.is_open bare (subst (λ (es : List MapEntry). AreClaimed es (g.content d0) (g.content d2)) (begun_claims w begun (slot / 64)) (f.order refl)) f.beside f.becomes.steps.only ch

        images : {q : Result (Unit {0}) Trouble} → CommitEnds g h.view.graph (with_opened h.view.id e (drafts_begun h.view was)) h.view.id (index_with h.index slot what) None d2 d3 k3 q → Leaves g d0 d3 Becomes
        images is = then g d0 d2 d3 Becomes Becomes (first (Ok (Some swap)) fills) is.leaves (λ c x. x)

        by : (q : Result (Unit {0}) Trouble) → CommitEnds g h.view.graph (with_opened h.view.id e (drafts_begun h.view was)) h.view.id (index_with h.index slot what) None d2 d3 k3 q → FillsIndex h what d3 k3 (after_commit tt q)
        by (Ok tt) is =
            let here = leaf is.done in
            let there = subst (λ (n : ℕ). ChangesOneLeaf (leaf_and_node (slot / 64) n) (slot / 64) n [] (g.content d0) (final_image g d3 k3)) h.view.root here in
            record {
              done = record {
                store = subst (λ (fs : Drafts). StoreIs g (with_object h.view.graph h.view.id (index_with h.index slot what)) fs d3 k3) (with_again h.view.id None (drafts_begun h.view was) (Some e) ∙ begun_alone h.view h.shut begun) is.done.store;
                settled = is.done.settled;
                only = here.only;
              };
              leaf = record { beside = there.beside; takes = inr there.takes };
              leaves = images is;
              sound = tt;
            }
        by (Err t) is = record { done = tt; leaf = tt; leaves = images is; sound = sound_by t is.sound }

    -- nothing was to be put
    module _ (fills : Goes (Ok None)) (same : now ≡ was) (kept : k2 ≡ k0) (reads : OnlyReads g 2 d0 d2) (finished : k0.left ≡ None) (none : what ≡ None) where
      left : k2.left ≡ None
      left = ap (λ (k : Kept). k.left) kept ∙ finished

      same_object : index_with h.index slot what ≡ h.view.object
      same_object =
          let f = (fills w).done h.index h.is in
          ap (changed_object (Fill slot what)) (sym h.is) ∙ sym (draft_of (next_view w (filled_draft h.index slot what w.draft) f.becomes.steps.store f.becomes.is_open)).tree.object
          ∙ (λ j. object_with (same j).root (leaves_below (reads.content j) (same j).root)) ∙ (draft_of w).tree.object

      same_objects : with_object h.view.graph h.view.id (index_with h.index slot what) ≡ h.view.graph
      same_objects = ap (with_object h.view.graph h.view.id) same_object ∙ same_graph h.view.graph h.view.id h.view.object h.view.store.ordered h.view.there

      pub fill_settles : {d3 : D} (r : Result (Unit {0}) Refused) → SettlesDisk g d2 d3 r → FillsIndex h what d3 k2 r
      fill_settles {d3} r settles = by r settles
        where
          images : Leaves g d2 d3 Nothing → Leaves g d0 d3 Becomes
          images is = then g d0 d2 d3 Becomes Nothing (read_leaves reads) is (λ c x. absurd x)

          by : (q : Result (Unit {0}) Refused) → SettlesDisk g d2 d3 q → FillsIndex h what d3 k2 q
          by (Err e) is = record { done = tt; leaf = tt; leaves = images is.images; sound = ap has_met_damage is.refused }
          by (Ok tt) is =
              let store = store_reads g h.view.graph h.view.ds d0 d2 k0 2 h.view.store reads in
              let stays : final_image g d3 k2 ≡ g.content d0 = ap (coming (g.content d3)) left ∙ is.content ∙ reads.content in
              let then3 : StoreHas g h.view.graph h.view.ds d3 k0 = record {
                carries = carries_on g h.view.graph d2 d3 store.carries is.content is.told is.images is.calls.same;
                account = subst (λ (a : Image). Accounts a h.view.graph h.view.ds) (sym is.content) store.account;
                counts = subst (λ (a : Image). AreCounts a k0) (sym is.content) store.counts;
                ordered = store.ordered;
              } in
              record {
                done = record {
                  store = subst (λ (u : Option LeftCommit). StoreWith g (with_object h.view.graph h.view.id (index_with h.index slot what)) h.view.ds d3 k2 u) (sym left) (subst (λ (x : Graph). StoreHas g x h.view.ds d3 k2) (sym same_objects) (subst (StoreHas g h.view.graph h.view.ds d3) (sym kept) then3));
                  settled = is.settled store.carries.tells;
                  only = subst (ChangesOnly (λ entry. of_owner h.view.id.block entry) (g.content d0)) (sym stays) (changes_begin _ (g.content d0) h.view.graph h.view.store.carries.holds);
                };
                leaf = record { beside = λ path not_node not_leaf. ap (λ (a : Image). (tree_in a (block_at a at)).below path) stays; takes = inl (none, stays) };
                leaves = images is.images;
                sound = tt;
              }
