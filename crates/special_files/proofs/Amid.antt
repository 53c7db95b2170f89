-- A disk in the middle of a step of a draft: each object stands in every image, and only blocks of the draft changed.
use Rattle.std.proofs.Common.{◌≡◌, ◌≢◌, inl, ⊎_elim, ℕ, ◌<◌, IsTrue, true, List, length, set, Ok, Some, sym, subst, arith}
use Rattle.special_files.proofs.Words.{AreCounts, BlockNo, Carries, ChangesOnly, Drafts, Enters, EntryWritten, Frames, Ghosts, Graph, Holds, IfOk, Image, IsEntry, IsLeastFree, IsSameDisk, Kept, Leaves, MapEntry, Nothing, Object, OnOk, OnlyReads, Puid, Refused, Result, Root, StoreHas, Written, carries_on, changes_begin, changes_then, frames_back, frames_hold, frames_then, frames_write, is_free_in, is_meant, is_meant_for, is_owned_by, left_now, map_in_image, map_of, map_with, not_map, object_at, of_draft, still_tells, taken_apart, then, wider, with_entry}
use Rattle.special_files.proofs.Meant.{claim_changes, claim_framed, free_is, meant_changes, meant_is, meant_written}
use Rattle.cyl_alloc.proofs.Counted.{counts_content}

-- ---- writes within the frame of what the disk carries

module _ {D : Type 0} (g : Ghosts D) (graph : Graph) (old new : D) (run : Carries g graph old) where
  -- a call that leaves images within the frame
  pub framed_holds : Leaves g old new (Frames (g.content old) graph) → Leaves g old new (λ c. Holds c graph)
  framed_holds images = wider g old new _ _ images (λ c is. frames_hold (g.content old) c graph run.holds is)

  pub framed_carries : Leaves g old new (Frames (g.content old) graph) → Frames (g.content old) graph (g.content new) → ((m : ℕ) → IsTrue (g.told old m) → IsTrue (g.told new m)) → IsSameDisk g.blocks g.honest g.tells_images old new → Carries g graph new
  framed_carries images is told same = record {
    tells = still_tells g run.tells told same;
    holds = frames_hold (g.content old) (g.content new) graph run.holds is;
    here = λ c h. frames_then (g.content new) (g.content old) c graph (frames_back (g.content old) (g.content new) graph run.holds is) (⊎_elim (λ was. run.here c was) (λ framed. framed) (images.now c h));
  }

  -- a block written into any image that was left
  pub written_framed : (n : ℕ) (block : List ℕ) → n < length (g.content old) → Frames (g.content old) graph (set (g.content old) n block) → (c : Image) → Written (left_now g old) n block c → Frames (g.content old) graph c
  written_framed n block below framed c w = subst (Frames (g.content old) graph) (sym w.2) (frames_write (g.content old) graph w.0 (g.content old) n block below (run.here w.0 w.1) framed)

-- ---- in the middle of a step

pub record IsAmid {D : Type 0} (g : Ghosts D) (graph : Graph) (id : Puid) (start now : D) (kept : Kept) : Type 0 where
  pub carries : Carries g graph now
  pub counts : AreCounts (g.content now) kept
  pub only : ChangesOnly (λ e. of_draft id.block e) (g.content start) (g.content now)
  pub leaves : Leaves g start now (λ c. Holds c graph)

module _ {D : Type 0} (g : Ghosts D) (graph : Graph) (ds : Drafts) (id : Puid) (o : Object) (start : D) (space : Kept) (store : StoreHas g graph ds start space) (at : object_at graph id ≡ Some o) where
  pub amid_begins : IsAmid g graph id start start space
  amid_begins = record {
    carries = store.carries;
    counts = store.counts;
    only = changes_begin _ (g.content start) graph store.carries.holds;
    leaves = record { later = omega arith; since = λ t c le h. inl h; now = λ c h. inl h };
  }

  pub amid_leaves : (mid new : D) (kept : Kept) → IsAmid g graph id start mid kept → Leaves g mid new (λ c. Holds c graph) → Leaves g start new (λ c. Holds c graph)
  amid_leaves mid new kept amid images = then g start mid new _ _ amid.leaves images (λ c h. h)

  pub amid_reads : (mid new : D) (kept : Kept) (n : ℕ) → IsAmid g graph id start mid kept → OnlyReads g n mid new → IsAmid g graph id start new kept
  amid_reads mid new kept n amid reads = record {
    carries = carries_on g graph mid new amid.carries reads.content reads.told reads.images reads.same;
    counts = subst (λ (i : Image). AreCounts i kept) (sym reads.content) amid.counts;
    only = subst (λ (i : Image). ChangesOnly (λ e. of_draft id.block e) (g.content start) i) (sym reads.content) amid.only;
    leaves = amid_leaves mid new kept amid (wider g mid new Nothing _ reads.images (λ c none. absurd none));
  }

  -- a block is claimed
  module _ (mid new : D) (kept after : Kept) (e : MapEntry) (result : Result BlockNo Refused) (amid : IsAmid g graph id start mid kept) (enters : Enters g e mid new kept after result) (is : IsEntry e) (place : e.place ≢ Some Root) where
    framed : (n : ℕ) → is_free_in (g.content mid) n ≡ true → Frames (g.content mid) graph (with_entry (g.content mid) n e)
    framed n free = claim_framed (g.content start) (g.content mid) graph ds id o store.account at amid.only amid.carries.holds n e free is place

    images : Leaves g mid new (Frames (g.content mid) graph)
    unfolding with_entry
    images = wider g mid new (EntryWritten (left_now g mid) (g.content mid) e) _ (enters.images amid.carries.tells amid.counts) (λ c w.
        written_framed g graph mid new amid.carries (map_of w.0) (map_with (g.content mid) w.0 e) (let was = free_is (g.content mid) w.0 w.1.free in map_in_image (g.content mid) w.0 was.0 was.1) (framed w.0 w.1.free) c w.2)

    pub claim_leaves : Leaves g start new (λ c. Holds c graph)
    claim_leaves = amid_leaves mid new kept amid (framed_holds g graph mid new amid.carries images)

    pub claimed : (block : BlockNo) → result ≡ Ok block → is_owned_by is_meant id.block (Some e) ≡ true → IsAmid g graph id start new after × IsLeastFree (g.content mid) block.0 × (g.content new ≡ with_entry (g.content mid) block.0 e)
    claimed block done meant =
        let ok = subst (λ r. IfOk r (λ b. IsLeastFree (g.content mid) b.0 × (g.content new ≡ with_entry (g.content mid) b.0 e))) done (enters.entered amid.carries.tells amid.counts) in
        let told = subst (λ r. OnOk r ((n : ℕ) → IsTrue (g.told mid n) → IsTrue (g.told new n))) done enters.told in
        let counts = subst (λ r. OnOk r (AreCounts (g.content new) after)) done (enters.counts amid.carries.tells amid.counts) in (
          record {
            carries = framed_carries g graph mid new amid.carries images (subst (Frames (g.content mid) graph) (sym ok.1) (framed block.0 ok.0.free)) told enters.calls.same;
            counts = counts;
            only = changes_then _ (g.content start) (g.content mid) (g.content new) amid.only (subst (ChangesOnly (λ entry. of_draft id.block entry) (g.content mid)) (sym ok.1)
                (claim_changes (g.content start) (g.content mid) graph ds id o store.account at amid.only amid.carries.holds block.0 e ok.0.free is place meant));
            leaves = claim_leaves;
          },
          ok.0,
          ok.1,
        )

  -- a block that is meant is written
  module _ (mid new : D) (kept : Kept) (n : ℕ) (block : List ℕ) (amid : IsAmid g graph id start mid kept) (meant : is_meant_for (g.content mid) id.block n ≡ true) (below : n < length (g.content mid))
      (images : Leaves g mid new (Written (left_now g mid) n block)) where
    written : Leaves g mid new (Frames (g.content mid) graph)
    written = wider g mid new _ _ images (λ c w.
        written_framed g graph mid new amid.carries n block below (meant_written (g.content start) (g.content mid) graph ds id o store.account at amid.only amid.carries.holds n block meant) c w)

    pub write_leaves : Leaves g start new (λ c. Holds c graph)
    write_leaves = amid_leaves mid new kept amid (framed_holds g graph mid new amid.carries written)

    pub wrote : g.content new ≡ set (g.content mid) n block → ((m : ℕ) → IsTrue (g.told mid m) → IsTrue (g.told new m)) → IsSameDisk g.blocks g.honest g.tells_images mid new → IsAmid g graph id start new kept
    wrote content told same =
        let is = meant_written (g.content start) (g.content mid) graph ds id o store.account at amid.only amid.carries.holds n block meant in
        record {
          carries = framed_carries g graph mid new amid.carries written (subst (Frames (g.content mid) graph) (sym content) is) told same;
          counts = subst (λ (i : Image). AreCounts i kept) (sym content) (counts_content (g.content mid) kept n block (not_map n (taken_apart (g.content mid) graph amid.carries.holds n id.block (meant_is (g.content mid) id.block n meant).taken)) amid.counts);
          only = changes_then _ (g.content start) (g.content mid) (g.content new) amid.only (subst (ChangesOnly (λ e. of_draft id.block e) (g.content mid)) (sym content)
              (meant_changes (g.content start) (g.content mid) graph ds id o store.account at amid.only amid.carries.holds n block meant));
          leaves = write_leaves;
        }
