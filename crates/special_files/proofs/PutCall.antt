-- One leaf put into a draft, as the call makes it.
use Rattle.std.proofs.Common.{◌≡◌, ◌⊎◌, inl, inr, ℕ, ◌+◌, ◌/◌, ◌%◌, ◌<◌, Bool, true, false, List, [], length, get_or, set, Option, Ok, Err, Some, None, refl, sym, ◌∙◌, ap, subst, get_or-set_same, arith, ◌≤◌, if◌then◌else◌}
use Rattle.block_tree.specs.Reads.{IsPast}
use Rattle.cyl_alloc.proofs.Miscounts.{no_miscount}
use Rattle.cyl_alloc.specs.Space.{IsMiscounted}
use Rattle.special_files.proofs.Words.{SetsSize, All, All-set, AreCounts, AreMaps, BlockNo, Claims, Drafting, EndsCall, Enters, FitsLeaf, GetsDraftNode, Ghosts, GoesHolding, Had, HasDraft, HasItsBlocks, HasTried, Holds, Image, IsBadMap, IsFindRefusal, IsRead, IsSafe, IsSome, Kept, Leaf, LeafCall, MapEntry, Way, OnOk, PutsLeaf, Refused, Result, SetsFresh, StaysBut, Tells, DraftView, WritesDraftBlock, after_try, block_at, cases_lt, entry_in, get_or_past, in_image, intended, has_met_damage, is_fresh_leaf, is_fresh_node, is_full_refusal, is_meant_for, leaf_pointers, draft_takes, leaves_at, map_of, pointer_to_node, not_map, one_unless, opened_as, pointers_of, root_placed, root_spelling, set-get_or, slice_index, sum, taken_apart, tree_in, tried_then, written_same, length-leaves, leaves_there, IsFarRoot, top_of, way_leaves, IsTo, node_number, leaf_limit}
use Rattle.std.proofs.Math.ListN.{length-set}
use Rattle.cfs_base.specs.declared.refusal.Refused.TheVariants as refusals
use Rattle.block_tree.specs.declared.root.Root as roots
use Rattle.block_tree.specs.Way.{with_node}
use Rattle.special_files.specs.Calls.{Adds, Adopts}
use Rattle.special_files.proofs.Amid.{IsAmid, amid_begins, write_leaves, wrote}
use Rattle.special_files.proofs.Endings.{ends_err, ends_then, enters_ends, gets_ends, write_ends, stays_itself, still_sound, still_room, claim_real, ends_wider, then_written}
use Rattle.special_files.proofs.Fresh.{node_of_fresh}
use Rattle.special_files.proofs.Levels.{Tell}
use Rattle.special_files.proofs.leaf.PutLeaf.{IsReadFor, fresh_below, node_again, put_again}
use Rattle.special_files.proofs.Meant.{meant_is}
use Rattle.special_files.proofs.leaf.PutRun.{amid4, claim1, run_order, run_puts, leaf_claim_leaves, leaf_write_leaves, node_claim_leaves, node_write_leaves}
use Rattle.special_files.proofs.Ways.{has_node, leaves_are_safe, node_is_read, node_is_safe, to_node, way_is_safe}
use Rattle.special_files.proofs.PutStore.{flags_of, leaf_put, the_draft}
use Rattle.special_files.proofs.leaf.Puts.{LeafPut, node_is}
use Rattle.special_files.proofs.Refusals.{if_err, on_ok}
use Rattle.special_files.proofs.WriteLeaf.{leaf_refused}
use Rattle.std.proofs.lemmas.Bool.{cases_eq}
use Rattle.std.proofs.lemmas.List.{get_or-set_other}

-- a flag that is set already
set_again : (flags : List Bool) (n : ℕ) → get_or flags n false ≡ true → flags ≡ set flags n true
set_again flags n is = sym (set-get_or flags n false) ∙ ap (set flags n) is

-- a Free block is sought in vain only where none is, or a device call failed
pub find_sound : {D : Type 0} (g : Ghosts D) (d new : D) (kept : Kept) → Tells g d → AreMaps (g.content d) → AreCounts (g.content d) kept → (e : Refused) → IsFindRefusal g d new kept e → has_met_damage e ≡ false
find_sound g d new kept tells maps counts (refusals.Full need) is = refl
find_sound g d new kept tells maps counts (refusals.Disk tried) is = refl
find_sound g d new kept tells maps counts (refusals.Damaged damage) is = absurd (why is.why)
  where
    some : (o : Option MapEntry) → o ≡ None → IsSome o → ⊥
    some None none h = cc
    some (Some e) none h = cc

    why : ((damage.code ≡ 2) × (Tells g d → IsBadMap (g.content d) damage.block)) ⊎ ((damage.code ≡ 12) × IsMiscounted (Tells g d) (g.content d) kept damage.block) → ⊥
    why (inl (code, bad)) = let b = bad tells in some (entry_in (g.content d) (map_of damage.block + b.0)) b.2 (maps (map_of damage.block + b.0) (omega (arith, b.1, counts.size, is.first.0)))
    why (inr (code, other)) = no_miscount (g.content d) kept damage.block tells counts other
find_sound g d new kept tells maps counts refusals.Memory is = absurd is

module _ {D : Type 0} {g : Ghosts D} {d0 : D} {k0 : Kept} {was : Drafting} (v : DraftView g d0 k0 was) (way : Way) (leaf : ℕ) (is : IsRead (g.content d0) was way) (most : leaf < leaf_limit) (to : IsTo leaf way) where
  abbrev a : Image
  a = g.content d0

  abbrev leaves : List ℕ
  leaves = way_leaves way

  abbrev holds : Holds a v.graph
  holds = v.store.account.holds

  abbrev has : HasItsBlocks a v.id.block
  has = v.store.account.objects v.id v.object v.at

  draft : HasDraft a v.id (opened_as was v.draft)
  draft = the_draft a v.ds v.id was v.draft v.opened (v.store.account.drafts v.id v.object v.at)

  tell : Tell (is_meant_for a v.id.block) (tree_in a (root_spelling was.root)) was.leaves was.nodes
  tell = flags_of a v.ds v.id was v.draft v.opened draft

  pub read_for : IsReadFor a v.id was leaf leaves
  read_for = record {
    node = node_is_read a was.root way (leaf / leaf_pointers.count) (has_node way leaf to) is;
    leaf_flag = tell.leaf leaf most;
    node_flag = tell.node (leaf / leaf_pointers.count) (omega (arith, most));
  }

  long : length leaves ≡ leaf_pointers.count
  long = ap (length {A = ℕ}) read_for.node ∙ length-leaves a (pointer_to_node was.root (leaf / leaf_pointers.count))

  some : 0 < length a
  some = let root = root_placed a (length a) v.id v.object (holds.objects v.id v.object v.at) in omega (arith, in_image a v.graph holds v.id.block root.taken.is root.taken.here)

  -- ---- over the draft's own leaf

  module _ (fresh : is_fresh_leaf was leaf ≡ true) (d1 : D) (content : List ℕ) where
    abbrev x : ℕ
    x = slice_index leaves (leaf % leaf_pointers.count)

    mine : (is_meant_for a v.id.block x ≡ true) × (x < length a)
    mine = fresh_below a v.graph holds v.id v.object v.at has was v.draft draft leaves leaf read_for some fresh

    amid : IsAmid g v.graph v.id d0 d0 k0
    amid = amid_begins g v.graph v.ds v.id v.object d0 k0 v.store v.at

    sets : SetsFresh leaf was was
    sets = record {
      leaves = set_again was.leaves leaf fresh;
      nodes = set_again was.nodes (leaf / leaf_pointers.count) (read_for.node_flag ∙ node_of_fresh a v.graph holds v.id v.object v.at has (opened_as was v.draft) draft (leaf / leaf_pointers.count) (leaf % leaf_pointers.count) (sym read_for.leaf_flag ∙ fresh));
    }

    again_puts : FitsLeaf was.root leaf content → (result : Result (Unit {0}) Refused) → WritesDraftBlock g x content d0 d1 result → OnOk result (PutsLeaf g v.graph v.ds v.id leaf content d0 d1 k0 was was way)
    again_puts fits (Err e) writes = tt
    again_puts fits (Ok t) writes =
        let puts = subst (λ (i : Image). LeafPut a i v.id (opened_as was v.draft) was.root leaf x (pointer_to_node was.root (leaf / leaf_pointers.count)) content) (sym writes.written) (put_again a v.graph holds v.id v.object v.at has was v.draft draft leaves leaf read_for some content most fresh) in
        let mid = wrote g v.graph v.ds v.id v.object d0 k0 v.store v.at d0 d1 k0 x content amid mine.0 mine.1 writes.images writes.written writes.told writes.calls.same in
        leaf_put v way leaf x (pointer_to_node was.root (leaf / leaf_pointers.count)) content fits most mid puts (stays_itself was) sets
        (node_again a v.graph holds v.id v.object v.at has was v.draft draft leaves leaf read_for some content most fresh
        ∙ ap (λ (i : Image). leaves_at i (pointer_to_node was.root (leaf / leaf_pointers.count))) (sym writes.written) ∙ ap (λ (n : ℕ). leaves_at (g.content d1) (pointer_to_node was.root n)) (sym (to_node way leaf to)))
        (rw fresh (written_same a (g.content d1) x content (not_map x (taken_apart a v.graph holds x v.id.block (meant_is a v.id.block x mine.0).taken)) writes.written))

    pub again_goes : FitsLeaf was.root leaf content → (result : Result (Unit {0}) Refused) → WritesDraftBlock g x content d0 d1 result → GoesHolding g v.graph (PutsLeaf g v.graph v.ds v.id leaf content d0 d1 k0 was was way) d0 d1 result
    again_goes fits result writes = record {
      done = again_puts fits result writes;
      leaves = write_leaves g v.graph v.ds v.id v.object d0 k0 v.store v.at d0 d1 k0 x content amid mine.0 mine.1 writes.images;
      sound = if_err result (λ e is. ap has_met_damage is) writes.refused;
    }

  -- ---- into new blocks

  pub claim_goes : {P : Type 0} (d1 : D) (k1 : Kept) (e : Refused) → Enters g (intended (Leaf leaf) was.at) d0 d1 k0 k1 (Err e) → GoesHolding {A = Unit {0}} g v.graph P d0 d1 (Err e)
  claim_goes d1 k1 e enters = record { done = tt; leaves = leaf_claim_leaves v d1 d1 k1 k1 leaves leaf most (Err e) enters; sound = find_sound g d0 d1 k0 v.store.carries.tells holds.maps v.store.counts e enters.refused }

  module _ (d1 d2 : D) (k1 k2 : Kept) (x : BlockNo) (enters : Enters g (intended (Leaf leaf) was.at) d0 d1 k0 k1 (Ok x)) where
    node_sound : (e : Refused) → GetsDraftNode g (leaf / leaf_pointers.count) d1 d2 k1 k2 was (Err e) → has_met_damage (after_try e) ≡ false
    node_sound e (Had fresh same kept none) = cc
    node_sound e (Claims stale gets) =
        let amid = (claim1 v d1 d2 k1 k2 leaves leaf most x enters).0 in
        still_sound true e (find_sound g d1 d2 k1 amid.carries.tells amid.carries.holds.maps amid.counts e gets.refused)

    pub node_goes : {P : Type 0} (e t : Refused) → t ≡ after_try e → GetsDraftNode g (leaf / leaf_pointers.count) d1 d2 k1 k2 was (Err e) → GoesHolding {A = Unit {0}} g v.graph P d0 d2 (Err t)
    node_goes e t is gets = record { done = tt; leaves = node_claim_leaves v d1 d2 k1 k2 leaves leaf most x enters (Err e) gets; sound = ap has_met_damage is ∙ node_sound e gets }

    module _ (y : BlockNo) (gets : GetsDraftNode g (leaf / leaf_pointers.count) d1 d2 k1 k2 was (Ok y)) (d3 : D) (content : List ℕ) where
      pub first_goes : {P : Type 0} (e : Refused) → WritesDraftBlock g x.0 content d2 d3 (Err e) → GoesHolding {A = Unit {0}} g v.graph P d0 d3 (Err e)
      first_goes e writes = record { done = tt; leaves = leaf_write_leaves v d1 d2 k1 k2 leaves leaf most x enters y gets read_for d3 d3 content content (Err e) writes; sound = ap has_met_damage writes.refused }

      module _ (first : WritesDraftBlock g x.0 content d2 d3 (Ok (tt {0}))) (d4 : D) (node : List ℕ) where
        pub second_goes : {P : Type 0} (e : Refused) → WritesDraftBlock g y.0 node d3 d4 (Err e) → GoesHolding {A = Unit {0}} g v.graph P d0 d4 (Err e)
        second_goes e writes = record { done = tt; leaves = node_write_leaves v d1 d2 k1 k2 leaves leaf most x enters y gets read_for d3 d4 content node first (Err e) writes; sound = ap has_met_damage writes.refused }

        module _ (stale : is_fresh_leaf was leaf ≡ false) (now : Drafting) (next : Way) (next_to : IsTo leaf next) (put : way_leaves next ≡ set leaves (leaf % leaf_pointers.count) x.0) (second : WritesDraftBlock g y.0 node d3 d4 (Ok (tt {0}))) (pointers : set leaves (leaf % leaf_pointers.count) x.0 ≡ pointers_of leaf_pointers node) (stays : StaysBut was now) (adds : Adds leaf y.0 was now) where
          puts : LeafPut a (g.content d4) v.id (opened_as was v.draft) now.root leaf x.0 y.0 content
          puts = subst (λ (r : roots.Root). LeafPut a (g.content d4) v.id (opened_as was v.draft) r leaf x.0 y.0 content) (sym adds.root)
              (run_puts v d1 d2 k1 k2 leaves leaf most x enters y gets read_for d3 d4 content node first second stale (sym pointers) (omega (arith, long)))

          read_there : way_leaves next ≡ leaves_at (g.content d4) (pointer_to_node now.root (node_number next))
          read_there =
              let long : length (g.content d4) ≡ length (g.content d3) = ap (length {A = List ℕ}) second.written ∙ length-set (g.content d3) y.0 node in
              let below : y.0 < length (g.content d3) = omega (arith, puts.y_below, long) in
              let here : block_at (g.content d4) y.0 ≡ node = ap (λ (i : Image). block_at i y.0) second.written ∙ get_or-set_same (g.content d3) y.0 node [] below in
              let root : pointer_to_node now.root (node_number next) ≡ y.0 = ap (pointer_to_node now.root) (to_node next leaf next_to) ∙ node_is a (g.content d4) v.graph holds v.id (opened_as was v.draft) now.root leaf x.0 y.0 content draft puts most in
              put ∙ pointers ∙ ap (pointers_of leaf_pointers) (sym here) ∙ sym (leaves_there (g.content d4) y.0 puts.y_some) ∙ ap (leaves_at (g.content d4)) (sym root)

          pub new_goes : FitsLeaf was.root leaf content → GoesHolding {A = Unit {0}} g v.graph (PutsLeaf g v.graph v.ds v.id leaf content d0 d4 k2 was now next) d0 d4 (Ok tt)
          new_goes fits = record {
            done = leaf_put v next leaf x.0 y.0 content fits most
                (amid4 v d1 d2 k1 k2 leaves leaf most x enters y gets read_for d3 d4 content node first second) puts stays adds.fresh read_there
                (run_order v d1 d2 k1 k2 leaves leaf most x enters y gets read_for d3 d4 content node first second stale);
            leaves = node_write_leaves v d1 d2 k1 k2 leaves leaf most x enters y gets read_for d3 d4 content node first (Ok tt) second;
            sound = tt;
          }

-- ---- what is the draft's own then

pub adopts_adds : {leaf y : ℕ} {next : roots.Root} {was now : Drafting} → Adopts leaf next was now → next ≡ with_node was.root (leaf / leaf_pointers.count) y → Adds leaf y was now
adopts_adds is root = record { fresh = is.fresh; root = is.root ∙ root }

pub adopts_stays : {leaf : ℕ} {next : roots.Root} {was now : Drafting} (y : ℕ) → Adopts leaf next was now → next ≡ with_node was.root (leaf / leaf_pointers.count) y → StaysBut was now
adopts_stays {leaf} {was = was} y is root =
    let same = is.root ∙ root in record {
      at = is.at;
      shadow = is.shadow;
      own = is.own;
      created = is.created;
      word = ap (λ (r : roots.Root). r.word) same;
      root = subst (SetsSize was.root.size was.root) (sym same) (record { kind = refl; fill = refl; size = refl });
    }

-- ---- where the node leads then, on any disk

node_below : (nodes : List ℕ) (n y size : ℕ) → y < size → slice_index (set nodes n y) n < size
node_below nodes n y size below = elim (cases_lt n (length nodes)) [
  | inl here ↦ rw (get_or-set_same nodes n y 0 here) below
  | inr past ↦ rw (get_or_past (set nodes n y) n 0 (omega (arith, past, length-set nodes n y))) (omega (arith, below))
]

pub gets_below : {D : Type 0} (g : Ghosts D) (n : ℕ) (d1 d2 : D) (k1 k2 : Kept) (was : Drafting) (y : BlockNo) → pointer_to_node was.root n < g.blocks d1 → GetsDraftNode g n d1 d2 k1 k2 was (Ok y) → y.0 < g.blocks d1
gets_below g n d1 d2 k1 k2 was y below (Had fresh same kept is) = let e : y ≡ record { 0 = pointer_to_node was.root n } = cc in rw (ap (λ (b : BlockNo). b.0) e) below
gets_below g n d1 d2 k1 k2 was y below (Claims stale gets) = gets.on_disk

-- a node of the draft's own leads past the disk only where the draft led there
pub gets_near : {D : Type 0} (g : Ghosts D) (n : ℕ) (d1 d2 : D) (k1 k2 : Kept) (was : Drafting) (y : BlockNo) → GetsDraftNode g n d1 d2 k1 k2 was (Ok y) → IsPast (g.blocks d1) y.0 → IsPast (g.blocks d1) (pointer_to_node was.root n)
gets_near g n d1 d2 k1 k2 was y (Had fresh same kept is) past = let e : y ≡ record { 0 = pointer_to_node was.root n } = cc in subst (IsPast (g.blocks d1)) (ap (λ (b : BlockNo). b.0) e) past
gets_near g n d1 d2 k1 k2 was y (Claims stale gets) past = absurd (omega (arith, gets.on_disk, past.1))

-- of the nodes where one was set
set_near : (nodes : List ℕ) (n y size : ℕ) → (IsPast size y → IsPast size (slice_index nodes n)) → (k : ℕ) → IsPast size (slice_index (set nodes n y) k) → (j : ℕ) × IsPast size (slice_index nodes j)
set_near nodes n y size near k past = elim (cases_eq k n) [
  | inr apart ↦ (k, subst (IsPast size) (get_or-set_other nodes n k y 0 apart) past)
  | inl same ↦ elim (cases_lt n (length nodes)) [
    | inl here ↦ (n, near (subst (IsPast size) (ap (λ (m : ℕ). slice_index (set nodes n y) m) same ∙ get_or-set_same nodes n y 0 here) past))
    | inr over ↦ absurd (past.0 (ap (λ (m : ℕ). slice_index (set nodes n y) m) same ∙ get_or_past (set nodes n y) n 0 (omega (arith, over, length-set nodes n y))))
  ]
]

adds_near : {D : Type 0} (g : Ghosts D) (was now : Drafting) (leaf : ℕ) (d0 d1 d2 d4 : D) (k1 k2 : Kept) (y : BlockNo) → g.blocks d1 ≡ g.blocks d0 → g.blocks d4 ≡ g.blocks d0 → GetsDraftNode g (leaf / leaf_pointers.count) d1 d2 k1 k2 was (Ok y) → Adds leaf y.0 was now
    → IsFarRoot (g.blocks d4) now.root → IsFarRoot (g.blocks d4) was.root
adds_near g was now leaf d0 d1 d2 d4 k1 k2 y first last gets adds far =
    let size : g.blocks d1 ≡ g.blocks d4 = first ∙ sym last in
    let near = subst (λ (n : ℕ). IsPast n y.0 → IsPast n (pointer_to_node was.root (leaf / leaf_pointers.count))) size (gets_near g (leaf / leaf_pointers.count) d1 d2 k1 k2 was y gets) in
    set_near was.root.nodes (leaf / leaf_pointers.count) y.0 (g.blocks d4) near far.0 (subst (λ (r : roots.Root). IsPast (g.blocks d4) (pointer_to_node r far.0)) adds.root far.1)

new_safe : {D : Type 0} (g : Ghosts D) (was now : Drafting) (way next : Way) (leaf : ℕ) (d0 d1 d2 d4 : D) (k1 k2 : Kept) (x y : BlockNo) → IsSafe (g.blocks d0) was way → IsTo leaf way → IsTo leaf next → way_leaves next ≡ set (way_leaves way) (leaf % leaf_pointers.count) x.0
    → x.0 < g.blocks d0 → g.blocks d1 ≡ g.blocks d0 → GetsDraftNode g (leaf / leaf_pointers.count) d1 d2 k1 k2 was (Ok y) → Adds leaf y.0 was now → g.blocks d4 ≡ g.blocks d0
    → IsSafe (g.blocks d4) now next
new_safe g was now way next leaf d0 d1 d2 d4 k1 k2 x y safe to next_to put below same gets adds last =
    let here : pointer_to_node was.root (leaf / leaf_pointers.count) < g.blocks d1 = omega (arith, same, node_is_safe (g.blocks d0) was.root way (leaf / leaf_pointers.count) (has_node way leaf to) safe) in
    let y_below : y.0 < g.blocks d4 = omega (arith, gets_below g (leaf / leaf_pointers.count) d1 d2 k1 k2 was y here gets, same, last) in
    way_is_safe (g.blocks d4) now.root next (rw (to_node next leaf next_to, ap (λ (r : roots.Root). r.nodes) adds.root) (node_below was.root.nodes (leaf / leaf_pointers.count) y.0 (g.blocks d4) y_below))
    (rw put (subst (λ (size : ℕ). All (λ n. n < size) (set (way_leaves way) (leaf % leaf_pointers.count) x.0)) (sym last) (All-set (λ n. n < g.blocks d0) (way_leaves way) (leaf % leaf_pointers.count) x.0 below (leaves_are_safe (g.blocks d0) was.root way (leaf / leaf_pointers.count) (has_node way leaf to) safe))))

-- ---- what the call did, on any disk

pub again_call : {D : Type 0} {g : Ghosts D} {was : Drafting} {leaf : ℕ} {d0 d1 : D} {result : Result (Unit {0}) Refused} (k0 : Kept) (way : Way) (x : ℕ) (content : List ℕ) → is_fresh_leaf was leaf ≡ true → IsTo leaf way → IsSafe (g.blocks d0) was way
    → WritesDraftBlock g x content d0 d1 result → LeafCall g 6 leaf d0 d1 k0 k0 was was way result
again_call {g = g} {was} {leaf} {d0} {d1} {result} k0 way x content fresh to safe writes = record {
  stays = stays_itself was;
  flags = on_ok result (λ written. record { leaves = set_again was.leaves leaf fresh; nodes = inl (fresh, refl) }) writes.written;
  to = on_ok result (λ written. to) writes.written;
  safe = on_ok result (λ written. subst (λ (size : ℕ). IsSafe size was way) (sym writes.calls.same.size) safe) writes.written;
  near = λ far. far;
  ends = ends_wider 0 6 4 (draft_takes was leaf) (write_ends (top_of was) k0 writes) (omega arith) (omega arith) (omega arith);
  tried = on_ok result (λ written. writes.tried) writes.written;
  kept = if_err result (λ e is told. refl) writes.refused;
  room = λ enough. if_err result (λ e is. ap is_full_refusal is) writes.refused;
}

takes_is : (was : Drafting) (leaf : ℕ) → is_fresh_leaf was leaf ≡ false → draft_takes was leaf ≡ 1 + one_unless (is_fresh_node was (leaf / leaf_pointers.count))
takes_is was leaf stale = ap (λ (b : Bool). if b then 0 else 1 + one_unless (is_fresh_node was (leaf / leaf_pointers.count))) stale

module _ {D : Type 0} {g : Ghosts D} (was : Drafting) (leaf : ℕ) {d0 d1 : D} {k0 k1 : Kept} (stale : is_fresh_leaf was leaf ≡ false) (way : Way) where
  pub claim_call : (e : Refused) → Enters g (intended (Leaf leaf) was.at) d0 d1 k0 k1 (Err e) → LeafCall g 6 leaf d0 d1 k0 k1 was was way (Err e)
  claim_call e enters =
      let first : EndsCall {A = Unit {0}} g (top_of was) 0 2 1 1 d0 d1 k0 k1 (Err e) = ends_err (enters_ends (top_of was) enters) in
      leaf_refused way (ends_wider 0 6 4 (draft_takes was leaf) first (omega arith) (omega arith) (omega (arith, first.moves.takes, (takes_is was leaf stale)))) (λ enough. (claim_real g d0 d1 k0 e (omega (arith, enough, (takes_is was leaf stale))) enters.refused).0)

  module _ (d2 : D) (k2 : Kept) (x : BlockNo) (enters : Enters g (intended (Leaf leaf) was.at) d0 d1 k0 k1 (Ok x)) where
    first : EndsCall g (top_of was) 0 2 1 1 d0 d1 k0 k1 (Ok x)
    first = enters_ends (top_of was) enters

    pub node_call : (e t : Refused) → t ≡ after_try e → GetsDraftNode g (leaf / leaf_pointers.count) d1 d2 k1 k2 was (Err e) → LeafCall g 6 leaf d0 d2 k0 k2 was was way (Err t)
    node_call e t is gets = subst (λ (r : Refused). LeafCall g 6 leaf d0 d2 k0 k2 was was way (Err r)) (sym is) (leaf_refused way
        (ends_then 6 4 (draft_takes was leaf) first (ends_err (gets_ends gets)) enters.made (omega arith) (omega arith) (omega (arith, (takes_is was leaf stale))))
        (λ enough. still_room true e (real gets enough)))
      where
        real : GetsDraftNode g (leaf / leaf_pointers.count) d1 d2 k1 k2 was (Err e) → (draft_takes was leaf) ≤ sum k0.free → is_full_refusal e ≡ false
        real (Had fresh same kept none) enough = cc
        real (Claims node_stale gets) enough = (claim_real g d1 d2 k1 e (omega (arith, enough, (takes_is was leaf stale), first.moves.takes, ap one_unless node_stale)) gets.refused).0

    module _ (y : BlockNo) (gets : GetsDraftNode g (leaf / leaf_pointers.count) d1 d2 k1 k2 was (Ok y)) (d3 : D) (content : List ℕ) where
      second : EndsCall g (top_of was) 0 2 1 (one_unless (is_fresh_node was (leaf / leaf_pointers.count))) d1 d2 k1 k2 (Ok y)
      second = gets_ends gets

      both : EndsCall g (top_of was) 0 4 2 (draft_takes was leaf) d0 d2 k0 k2 (Ok y)
      both = ends_then 4 2 (draft_takes was leaf) first second tt (omega arith) (omega arith) (omega (arith, (takes_is was leaf stale)))

      both_tried : HasTried g d0 d2
      both_tried = tried_then g d0 d1 d2 2 1 enters.made second.calls

      pub first_call : (e : Refused) → WritesDraftBlock g x.0 content d2 d3 (Err e) → LeafCall g 6 leaf d0 d3 k0 k2 was was way (Err e)
      first_call e writes = leaf_refused way (then_written 6 4 both both_tried writes (omega arith) (omega arith)) (λ enough. ap is_full_refusal writes.refused)

      module _ (wrote_leaf : WritesDraftBlock g x.0 content d2 d3 (Ok (tt {0}))) (d4 : D) (node : List ℕ) where
        three : EndsCall {A = Unit {0}} g (top_of was) 0 5 3 (draft_takes was leaf) d0 d3 k0 k2 (Ok (tt {0}))
        three = then_written 5 3 both both_tried wrote_leaf (omega arith) (omega arith)

        three_tried : HasTried g d0 d3
        three_tried = tried_then g d0 d2 d3 1 1 both_tried wrote_leaf.calls

        pub second_call : (e : Refused) → WritesDraftBlock g y.0 node d3 d4 (Err e) → LeafCall g 6 leaf d0 d4 k0 k2 was was way (Err e)
        second_call e writes = leaf_refused way (then_written 6 4 three three_tried writes (omega arith) (omega arith)) (λ enough. ap is_full_refusal writes.refused)

        pub new_call : (now : Drafting) (next : Way) → IsSafe (g.blocks d0) was way → IsTo leaf way → IsTo leaf next → way_leaves next ≡ set (way_leaves way) (leaf % leaf_pointers.count) x.0 → WritesDraftBlock g y.0 node d3 d4 (Ok (tt {0})) → StaysBut was now → Adds leaf y.0 was now
            → LeafCall g 6 leaf d0 d4 k0 k2 was now next (Ok tt)
        new_call now next safe to next_to put writes stays adds =
            let four : EndsCall g (top_of was) 0 6 4 (draft_takes was leaf) d0 d4 k0 k2 (Ok tt) = then_written 6 4 three three_tried writes (omega arith) (omega arith) in
            record {
              stays = stays;
              flags = record { leaves = adds.fresh.leaves; nodes = inr adds.fresh.nodes };
              to = next_to;
              safe = new_safe g was now way next leaf d0 d1 d2 d4 k1 k2 x y safe to next_to put enters.on_disk enters.calls.same.size gets adds four.calls.same.size;
              near = adds_near g was now leaf d0 d1 d2 d4 k1 k2 y enters.calls.same.size four.calls.same.size gets adds;
              ends = four;
              tried = tried_then g d0 d3 d4 1 1 three_tried writes.calls;
              kept = tt;
              room = λ enough. tt;
            }
