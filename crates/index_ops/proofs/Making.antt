-- An object made beside a draft of an index that was just begun, and committed with it.
use Rattle.index_ops.proofs.Words.{[], ◌≡◌, ◌⊎◌, false, ℕ, ◌/◌, List, ◌∷◌, Option, Some, None, Ok, Err, inl, inr, sym, ap, subst, ⊎_elim, Result, OnlyReads, Image, Leaves, Ghosts, Puid, Refused, Trouble, then, wider, MapEntry, AreClaimed, IfOk, IsLeastFree, Kept, Makes, Making, puid_at, Drafting, begun_at, opened_as, without_draft, Swap, IsOldOrNew, has_met_damage, with_object, Index, Object, bare_object, Holds, Opened, intended, Drafts, with_opened, with_again}
use Rattle.cfs_base.specs.declared.kind.Place.TheVariants.{Root}
use Rattle.block_tree.specs.declared.root.Root as roots
use Rattle.index_ops.specs.Changes.{HasSlot, index_with, leaf_and_node}
use Rattle.index_ops.specs.Creates.{Creates, MakeEnds, PlacesIn, with_made}
use Rattle.index_ops.proofs.Begun.{ChangesOneLeaf, after_commit, begun_alone, begun_claims, next_view, one_leaf, sound_by}
use Rattle.intentions.specs.Left.{StoreIs, final_image}
use Rattle.special_files.proofs.View.{read_leaves}
use Rattle.special_files.specs.Begins.{drafts_begun}
use Rattle.special_files.specs.Committing.{CommitEnds}
use Rattle.special_files.specs.Creates.{CreatesBeside, CreatesIfIndex, created_draft, making_of}
use Rattle.special_files.specs.Fills.{IsSwapped}
use Rattle.special_files.specs.View.{DraftView, GoesTo}
use Rattle.ufs_model.specs.Object.{changed_object}
use Rattle.ufs_model.specs.declared.change.Change.TheVariants.{Fill}
use Rattle.ufs_model.specs.declared.object.Object.TheVariants as objects

-- ---- by its draft

module _ {D : Type 0} {g : Ghosts D} {d0 : D} {k0 : Kept} {was : Drafting} (v : DraftView g d0 k0 was) (begun : was ≡ begun_at was.at None was.own) (i : Index) (is : v.draft.object ≡ objects.Index i) (slot block : ℕ) (root : roots.Root) (least : IsLeastFree (g.content d0) block) (d1 : D) (k1 : Kept) (now : Drafting) where
  abbrev new : Puid
  new = puid_at block root.word

  abbrev e : Opened
  e = opened_as now (created_draft i slot block root v.draft)

  pub make_stops : (x : Refused) → GoesTo g v.graph (CreatesIfIndex v slot block root d1 k1 now) d0 d1 (Err x) → MakeEnds g v.graph (without_draft v.id v.ds) v.id i slot (puid_at block root.word) (bare_object root) d0 d1 k1 (Err x)
  make_stops x goes = record { done = tt; leaves = wider g d0 d1 _ _ goes.leaves (λ c x. inl x); sound = goes.sound }

  -- made, and committed or not
  pub make_commits : {d2 : D} {k2 : Kept} (swap : Swap) → GoesTo g v.graph (CreatesIfIndex v slot block root d1 k1 now) d0 d1 (Ok swap) → now.shadow ≡ None → (r : Result (Unit {0}) Trouble)
      → ((w : DraftView g d1 k1 now) (made : Option Making) → Makes (g.content d1) now.created made → IsSwapped (g.content d1) w.id now w.draft swap → CommitEnds g w.graph w.ds w.id w.draft.object made d1 d2 k2 r)
      → MakeEnds g v.graph (without_draft v.id v.ds) v.id i slot (puid_at block root.word) (bare_object root) d0 d2 k2 (after_commit (puid_at block root.word) r)
  make_commits {d2} {k2} swap goes bare r commits = by r ends
    where
      b : CreatesBeside v i slot block root d1 k1 now swap
      b = goes.done i is

      ends : CommitEnds g v.graph (with_opened v.id e v.ds) v.id (index_with i slot (Some new)) (Some (making_of block root)) d1 d2 k2 r
      ends = subst (λ (o : Object). CommitEnds g v.graph (with_opened v.id e v.ds) v.id o (Some (making_of block root)) d1 d2 k2 r) (ap (changed_object (Fill slot (Some new))) is)
          (commits (next_view v e.draft b.store b.is_open) (Some (making_of block root)) b.makes (b.swaps (ap (λ (x : Drafting). x.root) begun)))

      images : Leaves g d1 d2 (IsOldOrNew v.graph (with_object v.graph new (bare_object root)) v.id (index_with i slot (Some new))) → Leaves g d0 d2 (λ c. Holds c v.graph ⊎ Holds c (with_made v.graph v.id i slot new (bare_object root)))
      images is_left = then g d0 d1 d2 _ _ (wider g d0 d1 _ _ goes.leaves (λ c x. inl x)) is_left (λ c x. x)

      by : (q : Result (Unit {0}) Trouble) → CommitEnds g v.graph (with_opened v.id e v.ds) v.id (index_with i slot (Some new)) (Some (making_of block root)) d1 d2 k2 q
          → MakeEnds g v.graph (without_draft v.id v.ds) v.id i slot new (bare_object root) d0 d2 k2 (after_commit new q)
      by (Ok tt) ended =
          let claims = intended Root block ∷ leaf_and_node (slot / 64) v.id.block in
          let leaf = one_leaf v begun (slot / 64) claims (Some (making_of block root)) b.is_open bare
          (subst (λ (es : List MapEntry). AreClaimed (intended Root block ∷ es) (g.content d0) (g.content d1)) (begun_claims v begun (slot / 64)) b.order) b.beside b.only ended.done in
          record {
            done = record {
              least = least;
              store = subst (λ (fs : Drafts). StoreIs g (with_made v.graph v.id i slot new (bare_object root)) fs d2 k2) (with_again v.id None v.ds (Some e)) ended.done.store;
              settled = ended.done.settled;
              only = leaf.only;
              beside = leaf.beside;
              takes = leaf.takes;
            };
            leaves = images ended.leaves;
            sound = tt;
          }
      by (Err t) ended = record { done = tt; leaves = images ended.leaves; sound = sound_by t ended.sound }

-- ---- with its index

module _ {D : Type 0} {g : Ghosts D} {d0 d2 : D} {k0 : Kept} {at slot : ℕ} {was : Drafting} (h : HasSlot g d0 k0 at slot) (begun : was ≡ begun_at at None was.own) (n : ℕ) (reads : OnlyReads g n d0 d2) (made : Object) (word : ℕ) where
  pub least_stops : {k2 : Kept} (e : Refused) → has_met_damage e ≡ false → PlacesIn h made word d2 k2 (Err e)
  least_stops e sound = record { done = tt; leaves = read_leaves reads; sound = sound }

  module _ (block : ℕ) (least : IsLeastFree (g.content d0) block) (d3 : D) (k3 : Kept) where
    abbrev Ends : Result Puid Refused → Type 0
    Ends r = MakeEnds g h.view.graph (without_draft h.view.id (drafts_begun h.view was)) h.view.id h.index slot (puid_at block word) made d2 d3 k3 r

    images : (r : Result Puid Refused) → Ends r → Leaves g d0 d3 (λ c. Holds c h.view.graph ⊎ ((b : ℕ) × IsLeastFree (g.content d0) b × Holds c (with_made h.view.graph h.view.id h.index slot (puid_at b word) made)))
    images r ends = then g d0 d2 d3 _ _ (read_leaves reads) ends.leaves (λ c x. ⊎_elim (λ old. inl old) (λ both. inr (block, least, both)) x)

    pub placed : (r : Result Puid Refused) → IfOk r (λ p. p ≡ puid_at block word) → Ends r → PlacesIn h made word d3 k3 r
    placed (Err x) value ends = record { done = tt; leaves = images (Err x) ends; sound = ends.sound }
    placed (Ok p) value ends =
        let claims = intended Root block ∷ leaf_and_node (slot / 64) h.view.id.block in
        let is = ends.done in
        let leaf = subst (λ (a : Image). ChangesOneLeaf claims (slot / 64) h.view.id.block (block ∷ []) a (final_image g d3 k3)) reads.content (record { only = is.only; beside = is.beside; takes = is.takes }) in
        record {
          done = (
            ap (λ (x : Puid). x.word) value,
            subst (λ (x : Puid). Creates g h.view.graph h.view.ds h.view.id h.index slot x made d0 d3 k3) (sym value) (record {
              least = least;
              store = subst (λ (fs : Drafts). StoreIs g (with_made h.view.graph h.view.id h.index slot (puid_at block word) made) fs d3 k3) (begun_alone h.view h.shut begun) is.store;
              settled = is.settled;
              only = leaf.only;
              beside = leaf.beside;
              takes = leaf.takes;
            }),
          );
          leaves = images (Ok p) ends;
          sound = tt;
        }
