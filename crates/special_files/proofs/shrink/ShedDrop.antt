-- Leaves dropped from a draft, as the call makes it: the list by reads alone, the node, and the claims taken back.
use Rattle.std.proofs.Common.{◌≡◌, ◌≢◌, ℕ, ◌+◌, ◌*◌, ◌/◌, ◌%◌, ◌^◌, ◌<◌, ◌≤◌, Bool, true, false, IsTrue, List, length, Ok, Err, refl, sym, ◌∙◌, ap, subst, arith, inl, inr, if◌then◌else◌, not}
use Rattle.block_tree.specs.Reads.{IsPast}
use Rattle.special_files.proofs.Ways.{node_is_read}
use Rattle.special_files.proofs.Words.{HasNode, AreClaimed, AreShed, BlockNo, ChangesOnly, Claims, ClaimsAndDrops, DraftView, Drafting, Drafts, DropCall, DropsFrom, EndsCall, Flips, Forgets, GetsDraftNode, Ghosts, GoesHolding, Graph, Had, HasTried, Holds, Image, IsDraftTrouble, IsFarRoot, IsRead, KeepsOne, Kept, Leaves, MakesAtMost, NoBlock, NoWrite, Way, OnlyReads, Opened, Puid, Put, PutsWithin, Refused, Result, Trouble, Undo, Whole, Within, WritesDraftBlock, border_claims, border_takes, both_ways, cases_Bool, cases_lt, entry_in, eqb-true, get_or_past, given_all, has_met_damage, is_damage, is_fresh_node, is_full_refusal, leaf_pointers, leaves_at, leaves_below, length-map-range_with_len, ne_eqb, number_at, of_draft, one_unless, opened_as, pointer_to_node, pointers_of, reads_make, reads_within, refusal_after, refused_by, still_top, sum, then_tried, top_of, tried_then, trouble_after_try, ◌==◌, way_leaves, blocks_limit, drop_calls, drop_tries, leaf_limit, node_pointers}
use Rattle.std.proofs.lemmas.Bool.{eq-eqb}
use Rattle.cfs_base.specs.declared.refusal.Refused.TheVariants as refusals
use Rattle.cfs_base.specs.declared.refusal.Trouble.TheVariants as trouble
use Rattle.special_files.proofs.Amid.{IsAmid, amid_begins}
use Rattle.cfs_base.proofs.Went.{makes_within}
use Rattle.cyl_alloc.proofs.Takes.{takes_none}
use Rattle.special_files.proofs.Endings.{ends_as, ends_err, ends_none, ends_then, gets_ends, write_ends, ends_wider, stays_itself, still_sound, still_room, claim_real, then_written}
use Rattle.special_files.proofs.PutCall.{find_sound, gets_near}
use Rattle.special_files.proofs.Refusals.{damaged_by, refusal_of, still_as}
use Rattle.special_files.proofs.shrink.ShedRun.{IsPut, get_leaves, put_amid, put_is, put_leaves, put_none, put_claims, put_small, shed_amid, shed_leaves, shed_order, shed_short, shed_sound}
use Rattle.special_files.proofs.shrink.ShedStore.{shed_drops}
use Rattle.special_files.proofs.WriteLeaf.{ends_since, images_since, ends_trouble, not_full}
use Rattle.special_files.proofs.View.{view_reads}

length-pointers : (block : List ℕ) → length (pointers_of leaf_pointers block) ≡ leaf_pointers.count
unfolding pointers_of
length-pointers block = length-map-range_with_len (λ (j : ℕ). number_at block (0 + j)) 0 leaf_pointers.count

-- what was found on the disk before the reads
pub drops_since : {D : Type 0} {g : Ghosts D} {graph : Graph} {ds : Drafts} {id : Puid} {f n : ℕ} {d0 d1 d3 : D} {after : Kept} {was now : Drafting} → OnlyReads g n d0 d1 → DropsFrom g graph ds id f d1 d3 after was now → DropsFrom g graph ds id f d0 d3 after was now
drops_since {g = g} {id = id} {f = f} {d3 = d3} {was = was} reads drops = record {
  steps = record { store = drops.steps.store; only = subst (λ (i : Image). ChangesOnly (λ e. of_draft id.block e) i (g.content d3)) reads.content drops.steps.only };
  is_open = drops.is_open;
  block = drops.block;
  forgets = drops.forgets;
  gone = drops.gone;
  order = subst (λ (i : Image). ClaimsAndDrops id.block (border_claims was f) i (g.content d3)) reads.content drops.order;
  kept = λ l less. drops.kept l less ∙ ap (λ (i : Image). leaves_below i was.root l) reads.content;
}

untried_damage : (t : Trouble) → is_damage (trouble_after_try t) ≡ false → is_damage t ≡ false
untried_damage (trouble.Disk tried) is = refl
untried_damage (trouble.Damaged damage) is = is

module _ {D : Type 0} {g : Ghosts D} {d0 d1 : D} {k0 : Kept} {was : Drafting} (u : DraftView g d0 k0 was) (f : ℕ) (read : Way) (reads : OnlyReads g node_pointers.count d0 d1) (most : f ≤ leaf_limit) (is : IsRead (g.content d0) was read)
    (here : f % leaf_pointers.count ≢ 0 → HasNode (f / leaf_pointers.count) read) (keeps : KeepsOne f read) where
  abbrev leaves : List ℕ
  leaves = (way_leaves read)

  abbrev d : Opened
  d = opened_as was u.draft

  abbrev b : Image
  b = g.content d1

  abbrev u1 : DraftView g d1 k0 was
  u1 = view_reads u reads

  start : IsAmid g u.graph u.id d1 d1 k0
  start = amid_begins g u.graph u.ds u.id u.object d1 k0 u1.store u.at

  less : f % leaf_pointers.count ≢ 0 → f < leaf_limit
  less within = omega (arith, within, most)

  read1 : f % leaf_pointers.count ≢ 0 → leaves ≡ leaves_at b (pointer_to_node was.root (f / leaf_pointers.count))
  read1 within =
      node_is_read (g.content d0) was.root read (f / leaf_pointers.count) (here within) is
      ∙ ap (λ (i : Image). leaves_at i (pointer_to_node was.root (f / leaf_pointers.count))) (sym reads.content)

  -- ---- the node

  module _ (d2 : D) (k2 : Kept) where
    put_images : (result : Result BlockNo Refused) → PutsWithin g f leaves was d1 d2 k0 k2 result → Leaves g d1 d2 (λ c. Holds c u.graph)
    put_images result (Whole y whole same kept done) = subst (λ (e : D). Leaves g d1 e (λ c. Holds c u.graph)) (sym same) start.leaves
    put_images result (Within within (NoBlock e gets done)) = get_leaves u1 d2 k2 leaves f (less within) (Err e) gets
    put_images result (Within within (NoWrite mid y block e gets short writes done)) = put_leaves u1 mid k2 leaves f (less within) y gets d2 block (Err e) writes
    put_images result (Within within (Put mid y block gets short writes done)) = put_leaves u1 mid k2 leaves f (less within) y gets d2 block (Ok tt) writes

    get_sound : (e : Refused) → GetsDraftNode g (f / leaf_pointers.count) d1 d2 k0 k2 was (Err e) → has_met_damage e ≡ false
    get_sound e (Had fresh same kept done) = cc
    get_sound e (Claims stale gets) = find_sound g d1 d2 k0 u1.store.carries.tells u1.store.account.holds.maps u1.store.counts e gets.refused

    put_sound : (e : Refused) → PutsWithin g f leaves was d1 d2 k0 k2 (Err e) → has_met_damage e ≡ false
    put_sound e (Whole y whole same kept done) = cc
    put_sound e (Within within (NoBlock x gets done)) = let same : e ≡ x = cc in ap has_met_damage same ∙ get_sound x gets
    put_sound e (Within within (NoWrite mid y block x gets short writes done)) = let same : e ≡ x = cc in ap has_met_damage (same ∙ writes.refused)
    put_sound e (Within within (Put mid y block gets short writes done)) = cc

    pub drop_put_err : {P : Type 0} (e : Refused) → PutsWithin g f leaves was d1 d2 k0 k2 (Err e) → GoesHolding {A = Unit {0}} g u.graph P d0 d2 (Err e)
    drop_put_err e puts = record { done = tt; leaves = images_since reads d2 _ (put_images (Err e) puts); sound = put_sound e puts }

    module _ (y : BlockNo) where
      record Ready (v : ℕ) : Type 0 where
        amid : IsAmid g u.graph u.id d1 d2 k2
        put : IsPut b (g.content d2) u.id d f v
        small : f % leaf_pointers.count ≢ 0 → v < 2 ^ 32
        claims : AreClaimed (border_claims was f) b (g.content d2)

      ready : PutsWithin g f leaves was d1 d2 k0 k2 (Ok y) → Ready y.0
      ready (Whole z whole same kept done) = record {
        amid = subst (λ (e : D). IsAmid g u.graph u.id d1 e k2) (sym same) (subst (IsAmid g u.graph u.id d1 d1) (sym kept) start);
        put = subst (λ (e : D). IsPut b (g.content e) u.id d f y.0) (sym same) (put_none b u.id d f y.0 whole);
        small = λ within. absurd (within whole);
        claims = rw (eq-eqb (f % leaf_pointers.count) 0 whole) (λ v. ap (λ (e : D). entry_in (g.content e) v) same);
      }
      ready (Within within (NoBlock e gets done)) = cc
      ready (Within within (NoWrite mid z block e gets short writes done)) = cc
      ready (Within within (Put mid z block gets short writes done)) =
          let same : z ≡ y = cc in
          subst (λ (x : BlockNo). Ready x.0) same (record {
            amid = put_amid u1 mid k2 leaves f (less within) z gets d2 block writes;
            put = put_is u1 mid k2 leaves f (less within) z gets d2 block writes within (read1 within) short.before
                (λ j late. elim (cases_lt j leaf_pointers.count) [ inl few ↦ short.past j late few | inr over ↦ get_or_past (pointers_of leaf_pointers block) j 0 (omega (arith, over, length-pointers block)) ]) (keeps within);
            small = λ w. put_small u1 mid k2 leaves f (less within) z gets d2 block writes;
            claims = rw (ne_eqb (f % leaf_pointers.count) 0 within) (put_claims u1 mid k2 leaves f (less within) z gets d2 block writes gets);
          })

      -- ---- the claims

      module _ (puts : PutsWithin g f leaves was d1 d2 k0 k2 (Ok y)) (ns : List ℕ) (shed : AreShed (g.content d0) u.id d f ns) (d3 : D) (n t : ℕ) where
        shed1 : AreShed b u.id d f ns
        shed1 = subst (λ (i : Image). AreShed i u.id d f ns) (sym reads.content) shed

        leaves_undone : (r : Result (Unit {0}) Trouble) → Flips g n t Undo ns d2 d3 r → Leaves g d0 d3 (λ c. Holds c u.graph)
        leaves_undone r undone = images_since reads d3 _ (shed_leaves u1 (ready puts).amid (ready puts).put shed1 d3 n t r undone)

        pub drop_undo_err : {P : Type 0} (e : Trouble) → Flips g n t Undo ns d2 d3 (Err (trouble_after_try e)) → (tried : Bool) (told : Refused) → told ≡ refusal_after tried (refused_by e) → GoesHolding {A = Unit {0}} g u.graph P d0 d3 (Err told)
        drop_undo_err e undone tried told same = record {
          done = tt;
          leaves = leaves_undone _ undone;
          sound = ap has_met_damage same ∙ still_sound tried (refused_by e) (damaged_by e (untried_damage e (shed_sound u1 (ready puts).amid (ready puts).put shed1 d3 n t _ undone)));
        }

        pub drop_done : Flips g n t Undo ns d2 d3 (Ok tt) → (k3 : Kept) → k3 ≡ given_all k2 ns → (now : Drafting) → Forgets f y.0 was now → GoesHolding {A = Unit {0}} g u.graph (DropsFrom g u.graph u.ds u.id f d0 d3 k3 was now) d0 d3 (Ok tt)
        drop_done undone k3 given now forgets = record {
          done = drops_since reads (shed_drops u1
              (subst (IsAmid g u.graph u.id d1 d3) (sym given) (shed_amid u1 (ready puts).amid (ready puts).put shed1 d3 n t undone))
              (shed_short u1 (ready puts).amid (ready puts).put shed1 d3 n t undone) (ready puts).small forgets
              (shed_order u1 (ready puts).amid (ready puts).put shed1 d3 n t undone (border_claims was f) (ready puts).claims));
          leaves = leaves_undone _ undone;
          sound = tt;
        }

-- ---- how the call ends, on any disk

pub ne_true : (n : ℕ) → not (n == 0) ≡ true → n ≢ 0
ne_true n is zero = both_ways _ (ap not (eq-eqb n 0 zero)) is

pub ne_false : (n : ℕ) → not (n == 0) ≡ false → n ≡ 0
ne_false n is = elim (cases_Bool (n == 0)) [ inl same ↦ eqb-true n 0 same | inr apart ↦ absurd (both_ways _ is (ap not apart)) ]

disk_false : (t : Trouble) → refused_by t ≡ refusals.Disk false → t ≡ trouble.Disk false
disk_false (trouble.Disk tried) same = cc
disk_false (trouble.Damaged damage) same = cc

-- the draft stays as it was
drop_refused : {D : Type 0} {g : Ghosts D} {f : ℕ} {d0 d3 : D} {k0 k3 : Kept} {was : Drafting} {e : Refused} → EndsCall {A = Unit {0}} g (top_of was) 0 drop_calls drop_tries (sum k0.free) d0 d3 k0 k3 (Err e)
    → (f % leaf_pointers.count ≡ 0 → ((n : ℕ) → is_fresh_node was n ≡ false) → (d3 ≡ d0) × (k3 ≡ k0)) → (border_takes was f ≤ sum k0.free → is_full_refusal e ≡ false) → DropCall g f d0 d3 k0 k3 was was (Err e)
drop_refused {was = was} ends untried room = record { stays = stays_itself was; forgets = tt; tried = λ within. tt; untried = untried; near = λ far. far; ends = ends; kept = refl; room = room }

one_taken : (was : Drafting) (f : ℕ) → f % leaf_pointers.count ≢ 0 → is_fresh_node was (f / leaf_pointers.count) ≡ false → border_takes was f ≡ 1
one_taken was f within stale = elim (cases_Bool (f % leaf_pointers.count == 0)) [
  | inl whole ↦ absurd (within (eqb-true (f % leaf_pointers.count) 0 whole))
  | inr not ↦ ap (λ (b : Bool). if b then 0 else one_unless (is_fresh_node was (f / leaf_pointers.count))) not ∙ ap one_unless stale
]

module _ {D : Type 0} {g : Ghosts D} {d0 d1 : D} {was : Drafting} (reads : OnlyReads g node_pointers.count d0 d1) (none : ((n : ℕ) → is_fresh_node was n ≡ false) → d1 ≡ d0) (f : ℕ) where
  pub list_err_call : (k0 : Kept) (t : Trouble) (e : Refused) → e ≡ refused_by t → IsDraftTrouble g (top_of was) d0 d1 k0 t → DropCall g f d0 d1 k0 k0 was was (Err e)
  list_err_call k0 t e same why = drop_refused (ends_trouble reads 0 drop_tries (sum k0.free) drop_calls t e same (omega arith) why) (λ whole stale. (none stale, refl)) (λ room. ap is_full_refusal same ∙ not_full t)

  module _ {k0 : Kept} (leaves : List ℕ) {d2 : D} {k2 : Kept} where
    no_write : (mid : D) (y : BlockNo) (block : List ℕ) (e : Refused) → GetsDraftNode g (f / leaf_pointers.count) d1 mid k0 k2 was (Ok y) → WritesDraftBlock g y.0 block mid d2 (Err e) → EndsCall {A = Unit {0}} g (top_of was) 0 3 2 (sum k0.free) d1 d2 k0 k2 (Err e)
    no_write mid y block e (Had fresh same kept done) writes =
        let one = subst (λ (k : Kept). EndsCall {A = Unit {0}} g (top_of was) 0 1 1 0 mid d2 k k2 (Err e)) kept (write_ends (top_of was) k2 writes) in
        ends_wider 0 3 2 (sum k0.free) (subst (λ (x : D). EndsCall {A = Unit {0}} g (top_of was) 0 1 1 0 x d2 k0 k2 (Err e)) same one) (omega arith) (omega arith) (omega arith)
    no_write mid y block e (Claims stale enters) writes = ends_wider 0 3 2 (sum k0.free) (then_written 3 2 (gets_ends {drafting = was} (Claims stale enters)) enters.made writes (omega arith) (omega arith)) (omega arith) (omega arith) (omega arith)

    pub put_ends : (r : Result BlockNo Refused) → PutsWithin g f leaves was d1 d2 k0 k2 r → EndsCall g (top_of was) 0 3 2 (sum k0.free) d1 d2 k0 k2 r
    put_ends r (Whole y whole same kept done) = subst (EndsCall g (top_of was) 0 3 2 (sum k0.free) d1 d2 k0 k2) (sym done) (ends_none g (top_of was) 0 3 2 (sum k0.free) y same kept)
    put_ends r (Within within (NoBlock e gets done)) = subst (EndsCall g (top_of was) 0 3 2 (sum k0.free) d1 d2 k0 k2) (sym done) (ends_wider 0 3 2 (sum k0.free) (gets_ends gets) (omega arith) (omega arith) (omega arith))
    put_ends r (Within within (NoWrite mid y block e gets short writes done)) = subst (EndsCall g (top_of was) 0 3 2 (sum k0.free) d1 d2 k0 k2) (sym done) (ends_err (no_write mid y block e gets writes))
    put_ends r (Within within (Put mid y block gets short writes done)) =
        let both = ends_then 3 2 (one_unless (is_fresh_node was (f / leaf_pointers.count)) + 0) (gets_ends gets) (write_ends (top_of was) k2 writes) tt (omega arith) (omega arith) (omega arith) in
        subst (EndsCall g (top_of was) 0 3 2 (sum k0.free) d1 d2 k0 k2) (sym done) (ends_wider 0 3 2 (sum k0.free) (ends_as y both) (omega arith) (omega arith) (omega arith))

    put_full : (e : Refused) → border_takes was f ≤ sum k0.free → PutsWithin g f leaves was d1 d2 k0 k2 (Err e) → is_full_refusal e ≡ false
    put_full e room (Whole y whole same kept done) = cc
    put_full e room (Within within (NoBlock x gets done)) = let same : e ≡ x = cc in ap is_full_refusal same ∙ by x gets
      where
        by : (x : Refused) → GetsDraftNode g (f / leaf_pointers.count) d1 d2 k0 k2 was (Err x) → is_full_refusal x ≡ false
        by x (Had fresh same kept done) = cc
        by x (Claims stale enters) = (claim_real g d1 d2 k0 x (omega (arith, one_taken was f within stale, room)) enters.refused).0
    put_full e room (Within within (NoWrite mid y block x gets short writes done)) = let same : e ≡ x = cc in ap is_full_refusal (same ∙ writes.refused)
    put_full e room (Within within (Put mid y block gets short writes done)) = cc

    put_tried : (y : BlockNo) → f % leaf_pointers.count ≢ 0 → PutsWithin g f leaves was d1 d2 k0 k2 (Ok y) → HasTried g d1 d2
    put_tried y within (Whole z whole same kept done) = absurd (within whole)
    put_tried y within (Within w (NoBlock e gets done)) = cc
    put_tried y within (Within w (NoWrite mid z block e gets short writes done)) = cc
    put_tried y within (Within w (Put mid z block gets short writes done)) = then_tried g d1 mid d2 2 1 (gets_ends gets).calls writes.tried

    put_nothing : (r : Result BlockNo Refused) → f % leaf_pointers.count ≡ 0 → PutsWithin g f leaves was d1 d2 k0 k2 r → (d2 ≡ d1) × (k2 ≡ k0)
    put_nothing r whole (Whole z w same kept done) = (same, kept)
    put_nothing r whole (Within within p) = absurd (within whole)

    pub put_err_call : (e : Refused) → PutsWithin g f leaves was d1 d2 k0 k2 (Err e) → DropCall g f d0 d2 k0 k2 was was (Err e)
    put_err_call e puts =
        drop_refused (ends_wider 0 drop_calls drop_tries (sum k0.free) (ends_err (ends_since reads drop_calls (put_ends (Err e) puts) (omega arith))) (omega arith) (omega arith) (omega arith))
        (λ whole stale. let put = put_nothing (Err e) whole puts in (put.0 ∙ none stale, put.1)) (λ room. put_full e room puts)

    module _ (y : BlockNo) (puts : PutsWithin g f leaves was d1 d2 k0 k2 (Ok y)) (n : ℕ) (few : n ≤ blocks_limit) (d3 : D) (calls : MakesAtMost g (2 * n) n d2 d3) (still : ((n : ℕ) → is_fresh_node was n ≡ false) → d3 ≡ d2) where
      wide : MakesAtMost g (2 * blocks_limit) blocks_limit d2 d3
      wide = makes_within g d2 d3 (2 * n) n (2 * blocks_limit) blocks_limit (omega (arith, few)) few calls

      nothing : f % leaf_pointers.count ≡ 0 → ((n : ℕ) → is_fresh_node was n ≡ false) → (d3 ≡ d0) × (k2 ≡ k0)
      nothing whole stale = let put = put_nothing (Ok y) whole puts in (still stale ∙ put.0 ∙ none stale, put.1)

      pub undo_err_call : (t : Trouble) → ((at : ℕ) (kept : Kept) → IsDraftTrouble g (still_top at) d2 d3 kept t) → (t ≡ trouble.Disk false → OnlyReads g 1 d2 d3) → (e : Refused) → e ≡ refusal_after (not (f % leaf_pointers.count == 0)) (refused_by t) → DropCall g f d0 d3 k0 k2 was was (Err e)
      undo_err_call t why only e same = subst (λ (x : Refused). DropCall g f d0 d3 k0 k2 was was (Err x)) (sym same)
          (drop_refused (ends_since reads drop_calls (by (not (f % leaf_pointers.count == 0)) refl) (omega arith)) nothing (λ room. still_room (not (f % leaf_pointers.count == 0)) (refused_by t) (not_full t)))
        where
          undone : (k : Kept) → EndsCall {A = Unit {0}} g (top_of was) 0 (2 * blocks_limit) blocks_limit 0 d2 d3 k k (Err (refused_by t))
          undone k = record {
            told = tt;
            knows = tt;
            refused = refusal_of g (top_of was) 0 d2 d3 k t (still_as g (top_of was) d2 d3 k t (why was.at k));
            untried = λ same. (refl, reads_within g d2 d3 1 (2 * blocks_limit) (omega arith) (only (disk_false t same)));
            moves = takes_none k 0;
            calls = wide;
          }

          by : (b : Bool) → not (f % leaf_pointers.count == 0) ≡ b → EndsCall {A = Unit {0}} g (top_of was) 0 (2 * blocks_limit + 3) drop_tries (sum k0.free) d1 d3 k0 k2 (Err (refusal_after b (refused_by t)))
          by true is =
              ends_wider 0 (2 * blocks_limit + 3) drop_tries (sum k0.free) (ends_then (2 * blocks_limit + 3) drop_tries (sum k0.free + 0) (put_ends (Ok y) puts) (undone k2) (put_tried y (ne_true (f % leaf_pointers.count) is) puts) (omega arith) (omega arith) (omega arith)) (omega arith) (omega arith) (omega arith)
          by false is =
              let two = put_nothing (Ok y) (ne_false (f % leaf_pointers.count) is) puts in
              let here = subst (λ (d : D). EndsCall {A = Unit {0}} g (top_of was) 0 (2 * blocks_limit) blocks_limit 0 d d3 k2 k2 (Err (refused_by t))) two.0 (undone k2) in
              ends_wider 0 (2 * blocks_limit + 3) drop_tries (sum k0.free) (subst (λ (k : Kept). EndsCall {A = Unit {0}} g (top_of was) 0 (2 * blocks_limit) blocks_limit 0 d1 d3 k k2 (Err (refused_by t))) two.1 here) (omega arith) (omega arith) (omega arith)

      put_near : f % leaf_pointers.count ≢ 0 → IsPast (g.blocks d1) y.0 → IsPast (g.blocks d1) (pointer_to_node was.root (f / leaf_pointers.count))
      put_near within past = by puts
        where
          by : PutsWithin g f leaves was d1 d2 k0 k2 (Ok y) → IsPast (g.blocks d1) (pointer_to_node was.root (f / leaf_pointers.count))
          by (Whole z whole same kept done) = absurd (within whole)
          by (Within w (NoBlock e gets done)) = cc
          by (Within w (NoWrite mid z block e gets short writes done)) = cc
          by (Within w (Put mid z block gets short writes done)) =
              let same : y ≡ z = cc in
              gets_near g (f / leaf_pointers.count) d1 mid k0 k2 was z gets (subst (λ (b : BlockNo). IsPast (g.blocks d1) b.0) same past)

      -- of the nodes that are left only the one that was written is another
      drop_near : {now : Drafting} → Forgets f y.0 was now → IsFarRoot (g.blocks d3) now.root → IsFarRoot (g.blocks d3) was.root
      drop_near {now} forgets far =
          let size : g.blocks d1 ≡ g.blocks d3 = sym (calls.same.size ∙ (put_ends (Ok y) puts).calls.same.size) in
          elim (cases_lt f (leaf_pointers.count * far.0 + leaf_pointers.count)) [
            | inr le ↦ (far.0, subst (IsPast (g.blocks d3)) (forgets.before far.0 le).1 far.1)
            | inl lt ↦ elim (cases_lt (leaf_pointers.count * far.0) f) [
              | inr le ↦ absurd (far.1.0 (forgets.past far.0 le).1)
              | inl more ↦
                  let within : f % leaf_pointers.count ≢ 0 = λ whole. omega (arith, whole, lt, more) in
                  let at : far.0 ≡ f / leaf_pointers.count = omega (arith, lt, more) in
                  let there = subst (IsPast (g.blocks d3)) (ap (pointer_to_node now.root) at ∙ (forgets.here within).1) far.1 in
                  (f / leaf_pointers.count, subst (λ (n : ℕ). IsPast n y.0 → IsPast n (pointer_to_node was.root (f / leaf_pointers.count))) size (put_near within) there)
            ]
          ]

      pub drop_ok_call : (k3 : Kept) (now : Drafting) → ((b : ℕ) → IsTrue (g.told d2 b) → IsTrue (g.told d3 b)) → length k3.free ≡ length k2.free → k3.left ≡ k2.left → (((n : ℕ) → is_fresh_node was n ≡ false) → k3 ≡ k2) → Forgets f y.0 was now → DropCall g f d0 d3 k0 k3 was now (Ok tt)
      drop_ok_call k3 now told long left same forgets = record {
        stays = forgets.stays;
        forgets = (y.0, forgets);
        tried = λ within. tried_then g d0 d2 d3 _ _ (then_tried g d0 d1 d2 node_pointers.count 0 (reads_make g d0 d1 node_pointers.count reads) (put_tried y within puts)) calls;
        untried = λ whole stale. let all = nothing whole stale in (all.0, same stale ∙ all.1);
        near = drop_near forgets;
        ends =
            let undone : EndsCall {A = Unit {0}} g (top_of was) 0 (2 * blocks_limit) blocks_limit (sum k2.free) d2 d3 k2 k3 (Ok tt) = record { told = told; knows = tt; refused = tt; untried = tt; moves = record { cylinders = long; left = left; takes = omega arith }; calls = wide } in
            let both = ends_then (2 * blocks_limit + 3) drop_tries (sum k0.free + sum k2.free) (put_ends (Ok y) puts) undone tt (omega arith) (omega arith) (omega arith) in
            ends_since reads drop_calls (ends_wider 0 (2 * blocks_limit + 3) drop_tries (sum k0.free) both (omega arith) (omega arith) (omega arith)) (omega arith);
        kept = tt;
        room = λ room. tt;
      }
