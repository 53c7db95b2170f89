-- The calls in which an object is made, one after another.
use Rattle.leaf_changes.specs.Tops.{Top}
use Rattle.index_drafts.proofs.Words.{◌≡◌, inl, inr, ℕ, ◌<◌, IsTrue, List, length, set, true, false, Ok, Err, sym, ◌∙◌, ap, subst, arith, Accounts, AreCounts, BlockNo, ChangesOnly, EndsCall, Enters, EntryWritten, Frames, Ghosts, GoesHolding, Graph, HasImage, HasStopped, HasTried, Holds, IfErr, Image, IsClaimed, IsErrAnd, IsLeastFree, IsLoose, IsDraftRefusal, IsSettled, Kept, Leaves, MakesAtMost, OnErr, Refused, Result, StoreHas, Trouble, WritesDraftBlock, after_try, as_refused, bare_object, both_ways, cases_lt, carries_settled, counts_content, ends_then, framed_carries, framed_holds, frames_begin, frames_content, free_is, has_met_damage, left_now, length-with_entry, loose_stays, map_in_image, map_of, map_with, puid_at, not_map, of_owner, refused_by, rises-with_object, root_spelling, then, tried_then, wider, with_entry, with_object, then_written, written_framed, Drafts}
use Rattle.block_tree.specs.declared.root.Root as roots
use Rattle.cfs_base.specs.declared.refusal.Refused.TheVariants as refusals
use Rattle.cyl_alloc.proofs.Takes.{takes_none}
use Rattle.cfs_base.specs.declared.refusal.Trouble.TheVariants as troubles
use Rattle.index_drafts.specs.Creates.{MakesAlone, new_root_entry}
use Rattle.special_files.specs.Creates.{IsBare, Spells}
use Rattle.index_drafts.proofs.Roots.{account, below, claim, entered, entered_framed, fresh, loose, only, written}

-- ---- what a `?` hands on

pub stops : {D A : Type 0} {g : Ghosts D} {graph : Graph} {P : Type 0} {d0 d : D} (r : Result A Refused) (e : Refused) → IsErrAnd r (λ x. x ≡ e) → Leaves g d0 d (λ c. Holds c graph) → has_met_damage e ≡ false → GoesHolding g graph P d0 d r
stops (Ok x) e is leaves sound = absurd is
stops (Err x) e is leaves sound = record { done = tt; leaves = leaves; sound = ap has_met_damage is ∙ sound }

-- ---- where the store has these objects

least_one : (image : Image) (a b : ℕ) → IsLeastFree image a → IsLeastFree image b → a ≡ b
least_one image a b one two = elim (cases_lt a b) [
  | inl below ↦ absurd (both_ways _ (two.least a below) one.free)
  | inr above ↦ elim (cases_lt b a) [ inl below ↦ absurd (both_ways _ (one.least b below) two.free) | inr same ↦ omega (arith, above, same) ]
]

module _ {D : Type 0} {g : Ghosts D} {graph : Graph} {ds : Drafts} {d0 : D} {k0 : Kept} (store : StoreHas g graph ds d0 k0) {c : ℕ} (least : IsLeastFree (g.content d0) c) (root : roots.Root) where
  abbrev a : Image
  a = g.content d0

  abbrev first : Image
  first = entered a graph ds store.account c least root

  framed : Frames a graph first
  framed = entered_framed a graph ds store.account c least root

  -- the block is Allocated
  module _ {d1 : D} {k1 : Kept} where
    images : (r : Result BlockNo Refused) → Enters g (new_root_entry c) d0 d1 k0 k1 r → Leaves g d0 d1 (Frames a graph)
    unfolding with_entry
    images r enters = wider g d0 d1 (EntryWritten (left_now g d0) a (new_root_entry c)) _ (enters.images store.carries.tells store.counts) (λ x w.
        written_framed g graph d0 d1 store.carries (map_of w.0) (map_with a w.0 (new_root_entry c)) (let was = free_is a w.0 w.1.free in map_in_image a w.0 was.0 was.1)
        (subst (λ (n : ℕ). Frames a graph (with_entry a n (new_root_entry c))) (least_one a c w.0 least w.1) framed) x w.2)

    pub claim_leaves : (r : Result BlockNo Refused) → Enters g (new_root_entry c) d0 d1 k0 k1 r → Leaves g d0 d1 (λ x. Holds x graph)
    claim_leaves r enters = framed_holds g graph d0 d1 store.carries (images r enters)

    module _ {block : BlockNo} (enters : Enters g (new_root_entry c) d0 d1 k0 k1 (Ok block)) where
      claimed : HasImage g graph d1 k1 first
      claimed =
          let two = enters.entered store.carries.tells store.counts in
          let content : g.content d1 ≡ first = two.1 ∙ ap (λ (n : ℕ). with_entry a n (new_root_entry c)) (least_one a block.0 c two.0 least) in
          record {
            carries = framed_carries g graph d0 d1 store.carries (images (Ok block) enters) (subst (Frames a graph) (sym content) framed) enters.told enters.calls.same;
            counts = enters.counts store.carries.tells store.counts;
            content = content;
          }

      -- the root is written
      loose_now : IsLoose (g.content d1) graph c
      loose_now = subst (λ (i : Image). IsLoose i graph c) (sym claimed.content) (loose_stays a first graph c framed (loose a graph ds store.account c least root))

      framed_now : Frames (g.content d1) graph (set (g.content d1) c (root_spelling root))
      framed_now = frames_content (g.content d1) graph (g.content d1) c (root_spelling root) (frames_begin (g.content d1) graph claimed.carries.holds) loose_now

      module _ {d2 : D} where
        write_images : (r : Result (Unit {0}) Refused) → WritesDraftBlock g c (root_spelling root) d1 d2 r → Leaves g d1 d2 (Frames (g.content d1) graph)
        write_images r is =
            let here = subst (λ (i : Image). c < length i) (sym claimed.content) (omega (arith, below a graph ds store.account c least root, length-with_entry a c (new_root_entry c))) in
            wider g d1 d2 _ _ is.images (written_framed g graph d1 d2 claimed.carries c (root_spelling root) here framed_now)

        pub write_leaves : (r : Result (Unit {0}) Refused) → WritesDraftBlock g c (root_spelling root) d1 d2 r → Leaves g d0 d2 (λ x. Holds x graph)
        write_leaves r is = then g d0 d1 d2 _ _ (claim_leaves (Ok block) enters) (framed_holds g graph d1 d2 claimed.carries (write_images r is)) (λ x h. h)

        pub wrote : WritesDraftBlock g c (root_spelling root) d1 d2 (Ok (tt {0})) → HasImage g graph d2 k1 (written a graph ds store.account c least root)
        wrote is = record {
          carries = framed_carries g graph d1 d2 claimed.carries (write_images (Ok tt) is) (subst (Frames (g.content d1) graph) (sym is.written) framed_now) is.told is.calls.same;
          counts = subst (λ (i : Image). AreCounts i k1) (sym is.written) (counts_content (g.content d1) k1 c (root_spelling root) (not_map c loose_now.apart) claimed.counts);
          content = is.written ∙ ap (λ (i : Image). set i c (root_spelling root)) claimed.content;
        }

  -- and both outlast a crash
  pub made : {d2 d3 : D} {k1 : Kept} → IsBare root → Spells root → HasImage g graph d2 k1 (written a graph ds store.account c least root) → g.content d3 ≡ g.content d2 → IsSettled g d3 → MakesAlone g graph ds (puid_at c root.word) (bare_object root) d0 d3 k1
  made {d2} {d3} {k1} bare spelled has content settled =
      let now = content ∙ has.content in
      let full = with_object graph (puid_at c root.word) (bare_object root) in
      let accounts = account a graph ds store.account c least root bare spelled store.ordered in
      record {
        fresh = fresh a graph ds store.account c least root store.ordered;
        store = record {
          carries = carries_settled g full d3 settled (subst (λ (i : Image). Holds i full) (sym now) accounts.holds);
          account = subst (λ (i : Image). Accounts i full ds) (sym now) accounts;
          counts = subst (λ (i : Image). AreCounts i k1) (sym content) has.counts;
          ordered = rises-with_object graph (puid_at c root.word) (bare_object root) store.ordered;
        };
        claim = subst (IsClaimed (new_root_entry c) a) (sym now) (claim a graph ds store.account c least root);
        only = subst (ChangesOnly (λ e. of_owner c e) a) (sym now) (only a graph ds store.account c least root);
      }

-- ---- on any disk

-- a barrier
pub barrier_ends : {D : Type 0} {g : Ghosts D} {at : Top} {d e : D} {k : Kept} (r : Result (Unit {0}) Trouble) → ((n : ℕ) → IsTrue (g.told d n) → IsTrue (g.told e n)) → IfErr r (λ t. t ≡ troubles.Disk true) → OnErr r (HasStopped g true d e) → MakesAtMost g 1 1 d e
    → EndsCall g at 0 1 1 0 d e k k (as_refused r)
barrier_ends {k = k} (Ok u) told is stopped calls = record { told = told; knows = tt; refused = tt; untried = tt; moves = takes_none k 0; calls = calls }
barrier_ends {g = g} {at} {d} {e} {k} (Err t) told is stopped calls = record {
  told = tt;
  knows = tt;
  refused = subst (λ (x : Trouble). IsDraftRefusal g at 0 d e k (refused_by x)) (sym is) stopped;
  untried = λ same. (let no : refusals.Disk true ≡ refusals.Disk false = sym (ap refused_by is) ∙ same in cc);
  moves = takes_none k 0;
  calls = calls;
}

module _ {D : Type 0} {g : Ghosts D} {at : Top} {d0 d1 d2 : D} {k0 k1 : Kept} {block : BlockNo} (claims : EndsCall g at 0 2 1 1 d0 d1 k0 k1 (Ok block)) (tried : HasTried g d0 d1) {c : ℕ} {content : List ℕ} where
  -- the write failed
  pub write_stops : (e : Refused) → WritesDraftBlock g c content d1 d2 (Err e) → EndsCall {A = Unit {0}} g at 0 4 3 1 d0 d2 k0 k1 (Err e)
  write_stops e is = then_written 4 3 claims tried is (omega arith) (omega arith)

  module _ (writes : WritesDraftBlock g c content d1 d2 (Ok (tt {0}))) where
    both : EndsCall {A = Unit {0}} g at 0 3 2 1 d0 d2 k0 k1 (Ok tt)
    both = then_written 3 2 claims tried writes (omega arith) (omega arith)

    -- the barrier failed
    pub barrier_stops : {d3 : D} (t : Trouble) → t ≡ troubles.Disk true → EndsCall {A = Unit {0}} g at 0 1 1 0 d2 d3 k1 k1 (Err (refused_by t)) → EndsCall {A = Unit {0}} g at 0 4 3 1 d0 d3 k0 k1 (Err (refused_by t))
    barrier_stops {d3} t is ended = subst (λ (x : Refused). EndsCall {A = Unit {0}} g at 0 4 3 1 d0 d3 k0 k1 (Err x)) (ap (λ (x : Trouble). after_try (refused_by x)) is ∙ sym (ap refused_by is))
        (ends_then 4 3 1 both ended (tried_then g d0 d1 d2 1 1 tried writes.calls) (omega arith) (omega arith) (omega arith))

    pub all_ends : {d3 : D} → EndsCall {A = Unit {0}} g at 0 1 1 0 d2 d3 k1 k1 (Ok tt) → EndsCall {A = Unit {0}} g at 0 4 3 1 d0 d3 k0 k1 (Ok tt)
    all_ends ended = ends_then 4 3 1 both ended tt (omega arith) (omega arith) (omega arith)
