-- The draft of an index changed: a slot put, and an object made.
use Rattle.index_drafts.proofs.Words.{◌≡◌, ◌⊎◌, inl, inr, ℕ, ◌+◌, ◌/◌, ◌≤◌, ◌||◌, Bool, true, false, cond, Option, Some, None, Ok, Err, refl, sym, ◌∙◌, ap, subst, arith, sum, AreCounts, ChangesOnly, Drafting, EndsCall, Ghosts, GoesHolding, Graph, Holds, IfErr, IfOk, Image, IsClaimed, IsLeastFree, IsDraftRefusal, Kept, Leaves, MapEntry, Object, OnlyReads, Puid, Refused, Result, StaysBut, StoreHas, Swap, DraftView, bare_object, block_there, both_ways, changes_then, changes_wider, ends_wider, false_from_ne_true, has_block, is_full_refusal, is_some, draft_takes, puid_at, object_at, object_at-with_object, of_draft, of_owner, or_left, or_right, same_puid, same_puid_is, stays_itself, then, with_object, ends_as, ends_err, IsOpenMap, ⊎_elim, makes_more, reads_make, reads_within, reads_then, under_floor, HasTried, after_try, still_ends, ends_since, ends_then, still_room, still_sound, not_untried, Drafts}
use Rattle.block_tree.specs.declared.root.Root as roots
use Rattle.cfs_base.specs.Run.{Tells}
use Rattle.cfs_base.specs.declared.refusal.Refused.TheVariants as refusals
use Rattle.index_drafts.specs.Creates.{CreateCall, CreateEnds, MakesAlone, new_root_entry}
use Rattle.index_drafts.specs.Puts.{IndexView, IsFullBelow, PutsInDraft}
use Rattle.special_files.proofs.Refusals.{if_err, refusal_as}
use Rattle.special_files.proofs.View.{read_leaves, view_reads}
use Rattle.special_files.specs.Creates.{IsBare}
use Rattle.special_files.specs.Fills.{FillCall, FillsDraft, FillsIfIndex}
use Rattle.special_files.specs.Refusal.{top_of}
use Rattle.special_files.specs.View.{GoesTo}
use Rattle.leaf_changes.specs.Tops.{still_top}

-- ---- a slot put

-- what `fill` answered, seen as the whole call
pub put_done : {D : Type 0} {g : Ghosts D} {d0 d1 : D} {k0 k1 : Kept} {was now : Drafting} (i : IndexView g d0 k0 was) (slot : ℕ) (what : Option Puid) (put : Option Swap) → FillsDraft i.view i.index slot what d1 k1 now put → (put ≡ None → what ≡ None)
    → (put ≡ None → (now ≡ was) × (k1 ≡ k0) × OnlyReads g 2 d0 d1) → PutsInDraft i slot what d1 k1 now
put_done i slot what None fills empty spared = record { becomes = fills.becomes; order = inl (empty refl, (spared refl).2.content, (spared refl).0); beside = fills.beside }
put_done i slot what (Some swap) fills empty spared = record { becomes = fills.becomes; order = inr (fills.order refl); beside = fills.beside }

-- ---- an object made, and the slot filled with it

-- what fills a slot is put
some_put : (put : Option Swap) (id : Puid) → (put ≡ None → Some id ≡ None) → is_some put ≡ true
some_put None id empty = (let no : Some id ≡ None = empty refl in cc)
some_put (Some swap) id empty = refl

-- what `create_in` answers once the object is there
abbrev pub filled_with : Puid → Result (Option Swap) Refused → Result Puid Refused
filled_with id (Ok put) = Ok id
filled_with id (Err e) = Err (after_try e)

module _ {D : Type 0} {g : Ghosts D} {d0 d1 : D} {k0 : Kept} {was : Drafting} (i : IndexView g d0 k0 was) (slot n : ℕ) (root : roots.Root) (bare : IsBare root) (reads : OnlyReads g 1 d0 d1)
    (found : Tells g d0 → AreCounts (g.content d0) k0 → IsLeastFree (g.content d0) n) (d2 : D) (k2 : Kept) where
  abbrev graph : Graph
  graph = i.view.graph

  abbrev new : Puid
  new = puid_at n root.word

  abbrev made : Object
  made = bare_object root

  abbrev pub Makes : Result (Unit {0}) Refused → Type 0
  Makes r = (h : Graph) (ds : Drafts) → StoreHas g h ds d1 k0 → IsLeastFree (g.content d1) n → IsBare root → GoesHolding g h (MakesAlone g h ds new made d1 d2 k2) d1 d2 r

  least : IsLeastFree (g.content d0) n
  least = found i.view.store.carries.tells i.view.store.counts

  alone : (r : Result (Unit {0}) Refused) → Makes r → GoesHolding g graph (MakesAlone g graph i.view.ds new made d1 d2 k2) d1 d2 r
  alone r makes = makes graph i.view.ds (view_reads i.view reads).store (subst (λ (a : Image). IsLeastFree a n) (sym reads.content) least) bare

  abbrev P : Image → Type 0
  P c = Holds c graph ⊎ ((b : ℕ) × IsLeastFree (g.content d0) b × Holds c (with_object graph (puid_at b root.word) made))

  leaves2 : (r : Result (Unit {0}) Refused) → Makes r → Leaves g d0 d2 P
  leaves2 r makes = then g d0 d1 d2 P _ (read_leaves reads) (alone r makes).leaves (λ c h. inl h)

  -- the object isn't made
  pub made_not : (e : Refused) → Makes (Err e) → CreateEnds i slot made root.word d2 k2 was (Err e)
  made_not e makes = record { done = tt; leaves = leaves2 (Err e) makes; sound = (alone (Err e) makes).sound }

  -- it is, and the draft stands beside it
  module _ (makes : Makes (Ok tt)) where
    is : MakesAlone g graph i.view.ds new made d1 d2 k2
    is = (alone (Ok tt) makes).done

    there : object_at (with_object graph new made) i.view.id ≡ Some i.view.object
    there =
        let other : same_puid i.view.id new ≡ false = false_from_ne_true _ (λ same. both_ways _ is.fresh (ap (λ (x : Puid). has_block graph.objects x.block) (sym (same_puid_is i.view.id new same)) ∙ block_there graph i.view.id i.view.object i.view.at)) in
        object_at-with_object graph new made i.view.id ∙ ap (λ (b : Bool). cond b (Some made) (object_at graph i.view.id)) other ∙ i.view.at

    abbrev then2 : DraftView g d2 k2 was
    then2 = record { graph = with_object graph new made; ds = i.view.ds; id = i.view.id; object = i.view.object; draft = i.view.draft; store = is.store; at = there; opened = i.view.opened }

    module _ {d3 : D} {k3 : Kept} {now : Drafting} where
      pub filled_or_not : (r : Result (Option Swap) Refused) → ((v : DraftView g d2 k2 was) → GoesTo g v.graph (FillsIfIndex v slot (Some new) d3 k3 now) d2 d3 r) → IfOk r (λ put. put ≡ None → Some new ≡ None) → CreateEnds i slot made root.word d3 k3 now (filled_with new r)
      filled_or_not r fills empty = by r (fills then2) empty
        where
          images : Leaves g d2 d3 (λ c. Holds c (with_object graph new made)) → Leaves g d0 d3 P
          images left = then g d0 d2 d3 P _ (leaves2 (Ok tt) makes) left (λ c h. inr (n, least, h))

          by : (q : Result (Option Swap) Refused) → GoesTo g (with_object graph new made) (FillsIfIndex then2 slot (Some new) d3 k3 now) d2 d3 q → IfOk q (λ put. put ≡ None → Some new ≡ None) → CreateEnds i slot made root.word d3 k3 now (filled_with new q)
          by (Err e) goes none = record { done = tt; leaves = images goes.leaves; sound = still_sound true e goes.sound }
          by (Ok put) goes none =
              let f = goes.done i.index i.is in
              let T = λ (e : Option MapEntry). of_owner n e || of_draft i.view.id.block e in
              record {
                done = (
                  refl,
                  record {
                    store = f.becomes.steps.store;
                    is_open = f.becomes.is_open;
                    order = (g.content d2, subst (λ (a : Image). IsClaimed (new_root_entry n) a (g.content d2)) reads.content is.claim, f.order (some_put put new none));
                    least = least;
                    only = changes_then T (g.content d0) (g.content d2) (g.content d3)
                        (changes_wider (λ e. of_owner n e) T (g.content d0) (g.content d2) (λ e h. or_left (of_owner n e) (of_draft i.view.id.block e) h) (subst (λ (a : Image). ChangesOnly (λ e. of_owner n e) a (g.content d2)) reads.content is.only))
                        (changes_wider (λ e. of_draft i.view.id.block e) T (g.content d2) (g.content d3) (λ e h. or_right (of_owner n e) (of_draft i.view.id.block e) h) f.becomes.steps.only);
                  },
                );
                leaves = images goes.leaves;
                sound = tt;
              }

-- ---- on any disk

-- there was room
has_room : {D A : Type 0} (need floor : ℕ) (old new : D) (before after : Kept) (was now : Drafting) (result : Result A Refused) → need + floor ≤ sum before.free → IfErr result (λ e. is_full_refusal e ≡ false) → IsFullBelow need floor old new before after was now result
has_room need floor old new before after was now result room spare = record { full = λ less. absurd (omega (arith, less, room)); spare = λ enough. spare }

module _ {D : Type 0} {g : Ghosts D} {d0 d1 : D} {k0 : Kept} (slot floor : ℕ) (was : Drafting) (reads : OnlyReads g 1 d0 d1) (room : 1 + draft_takes was (slot / 64) + floor ≤ sum k0.free) where
  -- no block was found
  pub least_stops : (e : Refused) → (IsDraftRefusal g (still_top was.at) 0 d0 d1 k0 e × (is_full_refusal e ≡ false)) ⊎ IsOpenMap g d0 k0 e → CreateCall g slot floor d0 d1 k0 k0 was was (Err e)
  least_stops e why = record {
    stays = stays_itself was;
    full = has_room {A = Puid} (1 + draft_takes was (slot / 64)) floor d0 d1 k0 k0 was was (Err e) room (⊎_elim (λ r. r.1) (λ map. ap is_full_refusal map.is) why);
    told = tt;
    refused = ⊎_elim (λ r. inl (under_floor g (top_of was) floor d0 d1 k0 e (refusal_as g (still_top was.at) (top_of was) refl d0 d1 k0 (λ far. absurd far) 0 e r.0))) (λ map. inr map) why;
    untried = λ same. (refl, refl, reads_within g d0 d1 1 5 (omega arith) reads);
    cylinders = refl;
    left = refl;
    takes = omega arith;
    calls = makes_more g d0 d1 1 0 13 7 (omega arith) (omega arith) (reads_make g d0 d1 1 reads);
  }

  -- where a block was found: what came of the rest
  after_reads : {n t k : ℕ} {d3 : D} {k3 : Kept} {now : Drafting} {r : Result Puid Refused} → StaysBut was now → EndsCall g (top_of was) 0 n t k d1 d3 k0 k3 r → n ≤ 12 → t ≤ 7 → k ≤ 1 + draft_takes was (slot / 64) → IfErr r (λ e. is_full_refusal e ≡ false)
      → IfErr r (λ e. e ≡ refusals.Disk false → (now ≡ was) × (k3 ≡ k0) × OnlyReads g 4 d1 d3) → CreateCall g slot floor d0 d3 k0 k3 was now r
  after_reads {d3 = d3} {k3} {now} {r} stays ends le lt lk spare untried =
      let all = ends_wider floor 13 7 (1 + draft_takes was (slot / 64)) (ends_since reads 13 ends (omega (arith, le))) (omega arith) lt (omega (arith, ends.moves.takes, lk)) in
      record {
        stays = stays;
        full = has_room (1 + draft_takes was (slot / 64)) floor d0 d3 k0 k3 was now r room spare;
        told = all.told;
        refused = if_err r (λ e why. inl why) all.refused;
        untried = if_err r (λ e all same. let three = all same in (three.0, three.1, reads_then g d0 d1 d3 1 4 5 reads three.2 (omega arith))) untried;
        cylinders = all.moves.cylinders;
        left = all.moves.left;
        takes = all.moves.takes;
        calls = all.calls;
      }

  module _ {d2 : D} {k2 : Kept} where
    -- the object isn't made
    pub make_stops : (e : Refused) → EndsCall {A = Unit {0}} g (still_top was.at) 0 4 3 1 d1 d2 k0 k2 (Err e) → is_full_refusal e ≡ false → CreateCall g slot floor d0 d2 k0 k2 was was (Err e)
    make_stops e ends spare = after_reads (stays_itself was) (ends_err (still_ends was ends)) (omega arith) (omega arith) (omega arith) spare (λ same. let two = ends.untried same in (refl, two.0, two.1))

    -- it is, and the slot is refused or put
    pub fill_ends : {d3 : D} {k3 : Kept} {now : Drafting} {id : Puid} → EndsCall g (still_top was.at) 0 4 3 1 d1 d2 k0 k2 (Ok (tt {0})) → HasTried g d1 d2 → (r : Result (Option Swap) Refused) → FillCall g slot (Some id) d2 d3 k2 k3 was now r → CreateCall g slot floor d0 d3 k0 k3 was now (filled_with id r)
    fill_ends {id = id} made tried (Ok put) fills =
        let both = ends_then 12 7 (1 + draft_takes was (slot / 64)) (still_ends was made) (ends_as id fills.ends) tt (omega arith) (omega arith) (omega arith) in
        after_reads fills.stays both (omega arith) (omega arith) (omega arith) tt tt
    fill_ends made tried (Err e) fills =
        let both = ends_then 12 7 (1 + draft_takes was (slot / 64)) (still_ends was made) (ends_err {B = Puid} fills.ends) tried (omega arith) (omega arith) (omega arith) in
        after_reads fills.stays both (omega arith) (omega arith) (omega arith) (still_room true e (fills.room (omega (arith, made.moves.takes, room)))) (λ same. absurd (not_untried e same))
