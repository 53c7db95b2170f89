-- Bytes written into a draft, leaf after leaf, on any disk.
use Rattle.std.proofs.Common.{◌≡◌, inl, inr, ℕ, ◌+◌, ◌-◌, ◌*◌, ◌/◌, ◌<◌, ◌≤◌, Bool, true, false, List, length, set, Ok, Err, refl, sym, ◌∙◌, ap, subst, arith}
use Rattle.special_files.proofs.Ways.{safe_of_none, way_of_none}
use Rattle.special_files.proofs.Words.{AreClaimed, Draft, DraftBecomes, DraftView, Drafting, Drafts, EndsCall, File, Ghosts, GoesHolding, HasTried, IsFarRoot, IsOpen, IsRead, IsSafe, Kept, LeafCall, Way, Overwrite, Puid, PutsLeaf, Refused, Result, StaysBut, WriteCall, WritesDraft, both_ways, cases_lt, changed_draft, claims_by_leaf, draft_takes, has_met_damage, is_full_refusal, leaf_content, leaves_below, leaves_in, leaves_take, leaves_written, ltb-false, ltb-true, nat_lt, need_beside, patched, refusal_after, shadow_need, sum, then, then_tried, top_of, write_need, leaf_limit, leaf_pointers, node_pointers}
use Rattle.std.proofs.Math.ListN.{length-set}
use Rattle.cfs_base.specs.declared.refusal.Refused.TheVariants as refusals
use Rattle.ufs_model.specs.declared.object.Object.TheVariants as objects
use Rattle.special_files.proofs.Endings.{full_ends, ends_none, ends_then, not_untried, ends_wider, stays_itself, stays_then, still_room, still_sound, ends_at}
use Rattle.special_files.proofs.write.Needs.{need_is, no_need, takes_less}
use Rattle.special_files.proofs.View.{view}
use Rattle.special_files.proofs.write.Writes.{WrittenTo, written_begin, written_end, written_more}
use Rattle.special_files.proofs.Refusals.{near_at}

-- ---- leaf after leaf

-- the leaves from the one at the offset on and before this one are written, and Free blocks are left for those before another, and for a shadow root
pub record WriteRun {D : Type 0} (g : Ghosts D) (offset : ℕ) (bytes : List ℕ) (leaf to : ℕ) (d0 d1 : D) (k0 k1 : Kept) (was now : Drafting) (read : Way) : Type 0 where
  pub from : offset / 512 ≤ leaf
  pub upto : leaf ≤ to
  pub most : to ≤ leaf_limit
  pub ends : EndsCall {A = Unit {0}} g (top_of was) 0 (8 * (leaf - offset / 512)) (4 * (leaf - offset / 512)) (sum k0.free) d0 d1 k0 k1 (Ok tt)
  pub stays : StaysBut was now
  pub near : IsFarRoot (g.blocks d1) now.root → IsFarRoot (g.blocks d1) was.root
  pub safe : IsSafe (g.blocks d1) now read
  pub long_leaves : length now.leaves ≡ leaf_limit
  pub long_nodes : length now.nodes ≡ node_pointers.count
  pub room : leaf < to → leaves_take now leaf to + shadow_need was ≤ sum k1.free
  pub spare : shadow_need was ≤ sum k1.free
  pub begun : leaf ≡ offset / 512 → (d1 ≡ d0) × (k1 ≡ k0) × (now ≡ was)
  pub tried : offset / 512 < leaf → HasTried g d0 d1
  pub model : (v : DraftView g d0 k0 was) → offset + length bytes ≤ was.root.size → WrittenTo g v.graph v.ds v.id offset bytes leaf d0 d1 k1 was now read

pub run_begin : {D : Type 0} (g : Ghosts D) (offset : ℕ) (bytes : List ℕ) (to : ℕ) (d0 : D) (k0 : Kept) (was : Drafting) (read : Way) → offset / 512 ≤ to → to ≤ leaf_limit → read.read ≡ 0 → length was.leaves ≡ leaf_limit → length was.nodes ≡ node_pointers.count
    → (offset / 512 < to → leaves_take was (offset / 512) to + shadow_need was ≤ sum k0.free) → shadow_need was ≤ sum k0.free → WriteRun g offset bytes (offset / 512) to d0 d0 k0 k0 was was read
run_begin g offset bytes to d0 k0 was read order most none leaves nodes room spare = record {
  from = omega arith;
  upto = order;
  most = most;
  ends = ends_none g (top_of was) 0 (8 * (offset / 512 - offset / 512)) (4 * (offset / 512 - offset / 512)) (sum k0.free) tt refl refl;
  stays = stays_itself was;
  near = λ far. far;
  safe = safe_of_none (g.blocks d0) was.root read none;
  long_leaves = leaves;
  long_nodes = nodes;
  room = room;
  spare = spare;
  begun = λ same. (refl, refl, refl);
  tried = λ late. absurd (omega (arith, late));
  model = λ v within. written_begin g v.graph v.ds v.id v.object v.at d0 k0 was v.draft v.store v.opened offset bytes read (way_of_none (g.content d0) was.root read none) (stays_itself was);
}

room_left : (takes rest all spare before after : ℕ) → takes + rest ≤ all → all + spare ≤ before → before ≤ after + takes → (rest + spare ≤ after) × (spare ≤ after)
room_left takes rest all spare before after less has left = (omega (arith, less, has, left), omega (arith, less, has, left))

module _ {D : Type 0} {g : Ghosts D} {offset : ℕ} {bytes : List ℕ} {leaf to : ℕ} {d0 d1 : D} {k0 k1 : Kept} {was mid : Drafting} {read : Way} (run : WriteRun g offset bytes leaf to d0 d1 k0 k1 was mid read) (more : leaf < to) where
  below_leaves : leaf < length mid.leaves
  below_leaves = omega (arith, more, run.most, run.long_leaves)

  below_nodes : leaf / leaf_pointers.count < length mid.nodes
  below_nodes = omega (arith, more, run.most, run.long_nodes)

  -- the leaf has its room
  pub leaf_room : draft_takes mid leaf ≤ sum k1.free
  leaf_room =
      let now : Drafting = record mid { leaves = set mid.leaves leaf true; nodes = set mid.nodes (leaf / leaf_pointers.count) true } in
      let less = takes_less leaf to mid now more below_nodes below_leaves (record { leaves = refl; nodes = inr refl }) in
      whole (draft_takes mid leaf) (leaves_take now (leaf + 1) to) (leaves_take mid leaf to) (shadow_need was) (sum k1.free) less (run.room more)
    where
      whole : (takes rest all spare before : ℕ) → takes + rest ≤ all → all + spare ≤ before → takes ≤ before
      whole takes rest all spare before less has = omega (arith, less, has)

  -- the draft then, and how the call on the leaf goes
  abbrev there : (v : DraftView g d0 k0 was) → offset + length bytes ≤ was.root.size → DraftView g d1 k1 mid
  there v within = let done = run.model v within in view done.becomes.steps.store v.at done.becomes.is_open

  abbrev Writes : (D → Kept → Drafting → Way → Result (Unit {0}) Refused → Type 0)
  Writes d2 k2 now next result = (w : DraftView g d1 k1 mid) → IsRead (g.content d1) mid read → leaf < leaves_in mid.root.size → offset + length bytes ≤ mid.root.size
      → GoesHolding g w.graph (PutsLeaf g w.graph w.ds w.id leaf (patched leaf offset bytes (leaf_content mid.root.fill (leaves_below (g.content d1) mid.root leaf))) d1 d2 k2 mid now next) d1 d2 result

  leaf_goes : (v : DraftView g d0 k0 was) (within : offset + length bytes ≤ was.root.size) (d2 : D) (k2 : Kept) (now : Drafting) (next : Way) (result : Result (Unit {0}) Refused) → Writes d2 k2 now next result → to ≡ leaves_in (offset + length bytes)
      → GoesHolding g v.graph (PutsLeaf g v.graph (there v within).ds v.id leaf (patched leaf offset bytes (leaf_content mid.root.fill (leaves_below (g.content d1) mid.root leaf))) d1 d2 k2 mid now next) d1 d2 result
  leaf_goes v within d2 k2 now next result writes end =
      let done = run.model v within in
      let size : mid.root.size ≡ was.root.size = done.stays.root.size in
      writes (there v within) done.read_is (omega (arith, more, end, within, size)) (omega (arith, within, size))

  here : {d2 : D} {k2 : Kept} {now : Drafting} {next : Way} {result : Result (Unit {0}) Refused} → LeafCall g 8 leaf d1 d2 k1 k2 mid now next result → EndsCall g (top_of was) 0 8 4 (draft_takes mid leaf) d1 d2 k1 k2 result
  here calls = ends_at {at = top_of mid} {now = top_of was} run.stays.at (near_at mid.root was.root calls.ends.calls.same.size run.near) calls.ends

  -- the leaf was written
  pub run_more : {d2 : D} {k2 : Kept} {now : Drafting} {next : Way} → LeafCall g 8 leaf d1 d2 k1 k2 mid now next (Ok tt) → Writes d2 k2 now next (Ok tt) → to ≡ leaves_in (offset + length bytes) → WriteRun g offset bytes (leaf + 1) to d0 d2 k0 k2 was now next
  run_more {d2} {k2} {now} {next} calls writes end = record {
    from = omega (arith, run.from);
    upto = omega (arith, more);
    most = run.most;
    ends = ends_wider 0 _ _ (sum k0.free) (ends_then (8 * (leaf + 1 - offset / 512)) (4 * (leaf + 1 - offset / 512)) (sum k0.free + draft_takes mid leaf) run.ends (here calls) tt (omega (arith, run.from)) (omega (arith, run.from)) (omega arith)) (omega arith) (omega arith) (omega arith);
    stays = all_stays;
    near = λ far. near_at mid.root was.root calls.ends.calls.same.size run.near (calls.near far);
    safe = calls.safe;
    long_leaves = ap (length {A = Bool}) calls.flags.leaves ∙ length-set mid.leaves leaf true ∙ run.long_leaves;
    long_nodes = elim calls.flags.nodes [
      | inl same ↦ ap (length {A = Bool}) same.1 ∙ run.long_nodes
      | inr set_now ↦ ap (length {A = Bool}) set_now ∙ length-set mid.nodes (leaf / leaf_pointers.count) true ∙ run.long_nodes
    ];
    room = λ further. left.0;
    spare = left.1;
    begun = λ same. absurd (omega (arith, same, run.from));
    tried = λ late. then_tried g d0 d1 d2 (8 * (leaf - offset / 512)) (4 * (leaf - offset / 512)) run.ends.calls calls.tried;
    model = λ v within.
        let done = run.model v within in
        let goes = leaf_goes v within d2 k2 now next (Ok tt) writes end in
        written_more g v.graph v.ds v.id v.object v.at d0 k0 was v.draft v.store v.opened offset bytes leaf d1 d2 k1 k2 mid now read next run.from (omega (arith, more, run.most)) done goes.done goes.leaves calls.stays all_stays;
  }
    where
      left : (leaves_take now (leaf + 1) to + shadow_need was ≤ sum k2.free) × (shadow_need was ≤ sum k2.free)
      left = room_left (draft_takes mid leaf) (leaves_take now (leaf + 1) to) (leaves_take mid leaf to) (shadow_need was) (sum k1.free) (sum k2.free) (takes_less leaf to mid now more below_nodes below_leaves calls.flags) (run.room more) calls.ends.moves.takes

      all_stays : StaysBut was now
      all_stays = stays_then was mid now run.stays calls.stays

  -- the leaf was refused
  module _ {d2 : D} {k2 : Kept} {now : Drafting} {next : Way} {e : Refused} (calls : LeafCall g 8 leaf d1 d2 k1 k2 mid now next (Err e)) (error : Refused) (same : error ≡ refusal_after (nat_lt (offset / 512) leaf) e) where
    first : nat_lt (offset / 512) leaf ≡ false → leaf ≡ offset / 512
    first early = omega (arith, ltb-false (offset / 512) leaf early, run.from)

    err_full : is_full_refusal error ≡ false
    err_full = ap is_full_refusal same ∙ still_room _ e (calls.room leaf_room)

    pub err_goes : (v : DraftView g d0 k0 was) → offset + length bytes ≤ was.root.size → Writes d2 k2 now next (Err e) → to ≡ leaves_in (offset + length bytes) → GoesHolding {A = Unit {0}} g v.graph (WritesDraft v offset bytes d2 k2 now) d0 d2 (Err error)
    err_goes v within writes end =
        let goes = leaf_goes v within d2 k2 now next (Err e) writes end in
        record { done = tt; leaves = then g d0 d1 d2 _ _ (run.model v within).images goes.leaves (λ c h. h); sound = ap has_met_damage same ∙ still_sound _ e goes.sound }

    abbrev EndsBy : ℕ → Refused → Type 0
    EndsBy floor x = EndsCall {A = Unit {0}} g (top_of was) floor (8 * (leaves_in (offset + length bytes) - offset / 512)) (4 * (leaves_in (offset + length bytes) - offset / 512)) (sum k0.free) d0 d2 k0 k2 (Err x)

    err_ends : (floor : ℕ) → to ≡ leaves_in (offset + length bytes) → EndsBy floor error
    err_ends floor end = subst (EndsBy floor) (sym same) (by (nat_lt (offset / 512) leaf) refl)
      where
        by : (b : Bool) → nat_lt (offset / 512) leaf ≡ b → EndsBy floor (refusal_after b e)
        by true is =
            let all = ends_then (8 * (leaf + 1 - offset / 512)) (4 * (leaf + 1 - offset / 512)) (sum k0.free + draft_takes mid leaf) run.ends (here calls) (run.tried (ltb-true (offset / 512) leaf is)) (omega (arith, run.from)) (omega (arith, run.from)) (omega arith) in
            ends_wider floor _ _ (sum k0.free) all (omega (arith, more, end)) (omega (arith, more, end)) (omega arith)
        by false is =
            let begun = run.begun (first is) in
            let from_d0 = subst (λ (d : D). EndsCall {A = Unit {0}} g (top_of was) 0 8 4 (draft_takes mid leaf) d d2 k1 k2 (Err e)) begun.0 (here calls) in
            let from_k0 = subst (λ (k : Kept). EndsCall {A = Unit {0}} g (top_of was) 0 8 4 (draft_takes mid leaf) d0 d2 k k2 (Err e)) begun.1 from_d0 in
            ends_wider floor _ _ (sum k0.free) from_k0 (omega (arith, more, end, first is)) (omega (arith, more, end, first is)) (omega arith)

    err_kept : error ≡ refusals.Disk false → now ≡ was
    err_kept told = by (nat_lt (offset / 512) leaf) refl
      where
        by : (b : Bool) → nat_lt (offset / 512) leaf ≡ b → now ≡ was
        by true late = absurd (not_untried e ((λ i. refusal_after (sym late i) e) ∙ sym same ∙ told))
        by false early = calls.kept ((λ i. refusal_after (sym early i) e) ∙ sym same ∙ told) ∙ (run.begun (first early)).2

    pub err_call : (floor : ℕ) → to ≡ leaves_in (offset + length bytes) → WriteCall g offset bytes floor d0 d2 k0 k2 was now (Err error)
    err_call floor end = record {
      stays = stays_then was mid now run.stays calls.stays;
      full = λ is. absurd (both_ways _ err_full is);
      room = λ ds id d opened. tt;
      ends = err_ends floor end;
      spare = tt;
      near = λ far. near_at mid.root was.root calls.ends.calls.same.size run.near (calls.near far);
      tried = λ some. tt;
      kept = err_kept;
    }

-- ---- what it takes

zero_and : (n : ℕ) → n ≡ 0 + n
zero_and n = omega arith

pub need_told : (ds : Drafts) (id : Puid) (was : Drafting) (d : Draft) (offset : ℕ) (bytes : List ℕ) (to n : ℕ) → IsOpen ds id was d → to ≡ leaves_in (offset + length bytes)
    → (offset / 512 < to → n ≡ leaves_take was (offset / 512) to + shadow_need was) → (to ≤ offset / 512 → n ≡ shadow_need was) → n ≡ need_beside (Overwrite offset bytes) d was
need_told ds id was d offset bytes to n opened is some none = elim (cases_lt (offset / 512) to) [
  | inl less ↦ some less ∙ ap (λ (t : ℕ). leaves_take was (offset / 512) t + shadow_need was) is ∙ ap (λ (m : ℕ). m + shadow_need was) (sym (need_is ds id was d offset bytes opened (omega (arith, less, is))))
  | inr past ↦ none past ∙ zero_and (shadow_need was) ∙ ap (λ (m : ℕ). m + shadow_need was) (sym (no_need d offset bytes (omega (arith, past, is))))
]

-- fewer blocks are Free than that and the floor
pub write_full : {D : Type 0} (g : Ghosts D) (d0 : D) (k0 : Kept) (was : Drafting) (offset : ℕ) (bytes : List ℕ) (floor n : ℕ) (e : Refused) → ((ds : Drafts) (id : Puid) (d : Draft) → IsOpen ds id was d → n ≡ write_need offset bytes d was)
    → e ≡ refusals.Full (record { free = sum k0.free; need = n }) → sum k0.free < n + floor → WriteCall g offset bytes floor d0 d0 k0 k0 was was (Err e)
write_full g d0 k0 was offset bytes floor n e need is less = record {
  stays = stays_itself was;
  full = λ full. (
    refl,
    refl,
    refl,
    λ ds id d opened. (is ∙ ap (λ (m : ℕ). refusals.Full (record { free = sum k0.free; need = m })) (need ds id d opened), omega (arith, less, need ds id d opened)),
  );
  room = λ ds id d opened. tt;
  ends = subst (λ (x : Refused). EndsCall {A = Unit {0}} g (top_of was) floor (8 * leaves_written offset bytes) (4 * leaves_written offset bytes) (sum k0.free) d0 d0 k0 k0 (Err x)) (sym is) (full_ends g (top_of was) floor _ _ (sum k0.free) d0 k0 (record { free = sum k0.free; need = n }) refl less);
  spare = tt;
  near = λ far. far;
  tried = λ some. tt;
  kept = λ same. refl;
}

-- ---- all leaves

module _ {D : Type 0} {g : Ghosts D} {offset : ℕ} {bytes : List ℕ} {leaf to : ℕ} {d0 d1 : D} {k0 k1 : Kept} {was now : Drafting} {read : Way} (run : WriteRun g offset bytes leaf to d0 d1 k0 k1 was now read) (over : to ≤ leaf) (end : to ≡ leaves_in (offset + length bytes)) where
  run_written : (v : DraftView g d0 k0 was) (f : File) → offset + length bytes ≤ was.root.size → v.draft.object ≡ objects.File f → DraftBecomes g v.graph v.ds v.id (changed_draft (Overwrite offset bytes) v.draft) d0 d1 k1 now
  run_written v f within file =
      let last : leaf ≡ leaves_in (offset + length bytes) = omega (arith, over, run.upto, end) in
      let done = subst (λ (l : ℕ). WrittenTo g v.graph v.ds v.id offset bytes l d0 d1 k1 was now read) last (run.model v within) in
      written_end g v.graph v.ds v.id v.object v.at d0 k0 was v.draft v.store v.opened offset bytes f file within d1 k1 now read done

  pub run_goes : (v : DraftView g d0 k0 was) → offset + length bytes ≤ was.root.size → GoesHolding {A = Unit {0}} g v.graph (WritesDraft v offset bytes d1 k1 now) d0 d1 (Ok tt)
  run_goes v within = record {
    done = record {
      becomes = λ f file. run_written v f within file;
      order = subst (λ (n : ℕ). AreClaimed (claims_by_leaf was.at was.leaves was.nodes (offset / 512) n) (g.content d0) (g.content d1)) (omega (arith, over, run.upto, end)) ((run.model v within).order 0 _ (λ m. refl));
    };
    leaves = (run.model v within).images;
    sound = tt;
  }

  pub run_call : (floor n : ℕ) → ((ds : Drafts) (id : Puid) (d : Draft) → IsOpen ds id was d → n ≡ write_need offset bytes d was) → n + floor ≤ sum k0.free → WriteCall g offset bytes floor d0 d1 k0 k1 was now (Ok tt)
  run_call floor n need room = record {
    stays = run.stays;
    full = tt;
    room = λ ds id d opened. omega (arith, room, need ds id d opened);
    ends = ends_wider floor _ _ _ run.ends (omega (arith, end, run.upto)) (omega (arith, end, run.upto)) (omega arith);
    spare = run.spare;
    near = run.near;
    tried = λ some. run.tried (omega (arith, over, end, some));
    kept = tt;
  }
