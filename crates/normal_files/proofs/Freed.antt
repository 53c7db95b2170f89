-- Blocks given back, one after another.
use Rattle.normal_files.proofs.Words.{◌≡◌, ◌≢◌, ◌⊎◌, inl, inr, ℕ, ◌+◌, ◌*◌, ◌<◌, ◌≤◌, false, IsTrue, Ok, Err, List, length, set, Some, refl, sym, ◌∙◌, ap, subst, arith, Result, both_ways, cases_eq, false_from_ne_true, same_Some, OnlyReads, Image, IsSameDisk, Written, block_at, Leaves, left_now, Ghosts, Puid, Place, Leaf, Node, Root, ShadowRoot, Trouble, makes_then, tried_then, AreCounts, Kept, unheld_entry, IsEntry, entry_in, is_free_entry, is_free_in, map_of, map_with, with_entry, MapEntry, block_at-with_entry, entry_in-with_entry_other, entry_in-with_entry_same, map_in_image, same_or_not, Graph, Frames, IsTaken, part_at, stands_for, IsPlaced, placed, shadow_entry, stays, tried, wrote, frames_entry, ChangesOnly, IsOpenTo, of_owner, is_taken, changes_entry, changes_then, free_unowned, taken_of, leaf_pointers}
use Rattle.normal_files.specs.Frees.{Drops, FollowsStart, FreesBlock, HasBegun, IsDropped, IsFreed, IsFreeing, FreedLeaf, FreedNode, StaysCounted}
use Rattle.normal_files.specs.Laid.{leaf_of, node_of}
use Rattle.normal_files.proofs.Amid.{taken_open}
use Rattle.normal_files.proofs.Among.{places_differ}
use Rattle.normal_files.proofs.Places.{leaf_no_node, leaf_no_shadow, node_no_shadow, one_leaf, one_node}
use Rattle.block_tree.specs.declared.root.Root as roots
use Rattle.leaf_changes.specs.Tops.{Top}
use Rattle.cfs_base.proofs.Went.{went_as, went_then}

-- ---- on any disk

begun_on : {D : Type 0} {g : Ghosts D} {at : Top} {n t : ℕ} {start mid new : D} {k0 k1 : Kept} → HasBegun g start mid → FollowsStart g at n t mid new k0 k1 (Ok tt) → HasBegun g start new
begun_on {g = g} {n = n} {t = t} {start = start} {mid = mid} {new = new} begun follows = record {
  n = begun.n + n;
  t = begun.t + t;
  went = record {
    told = λ b was. follows.told b (begun.went.told b was);
    knows = tried_then g start mid new n t begun.went.knows follows.calls;
    refused = tt;
    untried = tt;
    moves = tt;
    calls = makes_then g start mid new begun.n n (begun.n + n) begun.t t (begun.t + t) begun.went.calls follows.calls (omega arith) (omega arith);
  };
}

stays_then : {k0 k1 k2 : Kept} → StaysCounted k0 k1 → StaysCounted k1 k2 → StaysCounted k0 k2
stays_then first then = record { cylinders = then.cylinders ∙ first.cylinders; left = then.left ∙ first.left }

-- two calls, one after the other
pub follows_on : {D : Type 0} (g : Ghosts D) (at : Top) (n t m s k r : ℕ) {first : Top} (old mid new : D) (k0 k1 k2 : Kept) (result : Result (Unit {0}) Trouble) → n + m ≤ k → t + s ≤ r → FollowsStart g first n t old mid k0 k1 (Ok tt) → FollowsStart g at m s mid new k1 k2 result → FollowsStart g at k r old new k0 k2 result
follows_on g at n t m s k r old mid new k0 k1 k2 result few fewer one two = went_as k r k (λ is. is) (λ e why. why) (λ e is. is) (λ x is. is) (both result two) few fewer few
  where
    both : (x : Result (Unit {0}) Trouble) → FollowsStart g at m s mid new k1 k2 x → FollowsStart g at (n + m) (t + s) old new k0 k2 x
    both (Ok tt) last = went_then (λ (e : Trouble). e) stays_then tt tt refl one last
    both (Err e) last = went_then (λ (x : Trouble). x) stays_then (λ why start begun. why start (begun_on begun one)) (λ none. absurd none) tt one last

-- ---- one block of the file

module _ {D : Type 0} (g : Ghosts D) (a b : Image) (graph : Graph) (id : Puid) (root next : roots.Root) (keep : ℕ) (start : D) (drops : Drops a b graph id root next keep) where
  abbrev Freeing : ℕ → ℕ → D → Kept → Type 0
  Freeing leaf node d kept = IsFreeing g a b graph id root next keep leaf node start d kept

  abbrev Freed : ℕ → ℕ → ℕ → Type 0
  Freed leaf node m = IsFreed a root next keep leaf node m

  -- calls that only read
  pub freeing_on : (n leaf node : ℕ) (old new : D) (kept : Kept) → OnlyReads g n old new → Freeing leaf node old kept → Freeing leaf node new kept
  freeing_on n leaf node old new kept reads was = record {
    within = stays g b graph start old new was.within reads.content reads.told reads.images reads.same;
    entries = λ m. subst (λ (i : Image). (entry_in i m ≡ entry_in b m) ⊎ Freed leaf node m) (sym reads.content) (was.entries m);
    free = λ m freed. ap (λ (i : Image). is_free_in i m) reads.content ∙ was.free m freed;
    contents = λ m no. ap (λ (i : Image). block_at i m) reads.content ∙ was.contents m no;
    only = subst (λ (i : Image). ChangesOnly (λ e. of_owner id.block e) b i) (sym reads.content) was.only;
    counts = subst (λ (i : Image). AreCounts i kept) (sym reads.content) was.counts;
  }

  -- the same blocks, told otherwise
  pub freeing_as : (leaf node to_leaf to_node : ℕ) (d : D) (kept : Kept) → ((m : ℕ) → Freed leaf node m → Freed to_leaf to_node m) → ((m : ℕ) → Freed to_leaf to_node m → Freed leaf node m) → Freeing leaf node d kept → Freeing to_leaf to_node d kept
  freeing_as leaf node to_leaf to_node d kept more fewer was = record {
    within = was.within;
    entries = λ m. elim (was.entries m) [ inl same ↦ inl same | inr freed ↦ inr (more m freed) ];
    free = λ m freed. was.free m (fewer m freed);
    contents = was.contents;
    only = was.only;
    counts = was.counts;
  }

  -- the block comes next: it is dropped, and isn't Free yet
  pub record IsNext (leaf node to_leaf to_node block : ℕ) : Type 0 where
    pub place : Place
    pub dropped : IsDropped b graph id.block place block
    pub inner : place ≢ ShadowRoot
    pub stands : Freed leaf node block → ⊥
    pub here : Freed to_leaf to_node block
    pub keeps : (m : ℕ) → Freed leaf node m → Freed to_leaf to_node m
    pub grows : (m : ℕ) → Freed to_leaf to_node m → Freed leaf node m ⊎ (m ≡ block)

  module _ (leaf node to_leaf to_node block : ℕ) (old new : D) (k0 k1 : Kept) (was : Freeing leaf node old k0) (some : block ≢ 0) (is : IsNext leaf node to_leaf to_node block) where
    there : entry_in (g.content old) block ≡ entry_in b block
    there = elim (was.entries block) [ inl same ↦ same | inr freed ↦ absurd (is.stands freed) ]

    taken_b : IsPlaced b block id.block is.place
    taken_b = placed b block id.block is.place (part_at b block) refl is.dropped.part

    abbrev e : MapEntry
    e = taken_b.taken.is

    was_e : entry_in (g.content old) block ≡ Some e
    was_e = there ∙ taken_b.taken.here

    taken_now : IsTaken (g.content old) block id.block
    taken_now = record { is = e; here = was_e; taken = taken_b.taken.taken; placed = taken_b.taken.placed; owned = taken_b.taken.owned }

    not_free : is_free_in (g.content old) block ≡ false
    not_free = false_from_ne_true _ (λ free. both_ways _ (free_unowned is_taken refl id.block (entry_in (g.content old) block) free) (taken_of (g.content old) block id.block taken_now))

    no_shadow : (r : ℕ) → stands_for r (Some e) ≡ false
    no_shadow r = false_from_ne_true _ (λ shadow. is.inner (same_Some _ _ (sym taken_b.place_is ∙ (shadow_entry r e shadow).1)))

    good : IsEntry unheld_entry
    good = record { in_table = refl }

    abbrev c : Image
    c = with_entry (g.content old) block unheld_entry

    not_root : unheld_entry.place ≢ Some Root
    not_root root = cc

    framed : Frames b graph c
    framed = frames_entry b graph (g.content old) block unheld_entry e drops.holds was.within.content is.dropped.loose.apart (λ held. absurd (is.dropped.loose.unheld held)) was_e good (λ root. absurd (not_root root)) (λ x o at bit. sym (no_shadow x.block))

    below : map_of block < length b
    below = omega (arith, map_in_image (g.content old) block e was_e, was.within.content.size)

    abbrev v : List ℕ
    v = map_with (g.content old) block unheld_entry

    as_set : c ≡ set (g.content old) (map_of block) v
    unfolding with_entry
    as_set = refl

    set_framed : Frames b graph (set (g.content old) (map_of block) v)
    set_framed = subst (Frames b graph) as_set framed

    pub step_leaves : Leaves g old new (Written (left_now g old) (map_of block) v) → Leaves g start new (Frames b graph)
    step_leaves images = tried g b graph start old new (map_of block) v was.within below set_framed images

    here_free : entry_in c block ≡ Some unheld_entry
    here_free = entry_in-with_entry_same (g.content old) block unheld_entry e was_e good

    other : (m : ℕ) → m ≢ block → entry_in c m ≡ entry_in (g.content old) m
    other m apart = entry_in-with_entry_other (g.content old) block unheld_entry e m was_e apart

    pub step_on : FreesBlock g block old new k0 k1 (Ok tt) → ((n : ℕ) → IsTrue (g.told old n) → IsTrue (g.told new n)) → IsSameDisk g.blocks g.honest g.tells_images old new → Freeing to_leaf to_node new k1
    step_on frees told same =
        let content : g.content new ≡ c = frees.freed some was.within.tells in
        let now = λ (m : ℕ). ap (λ (i : Image). entry_in i m) content in
        record {
          within = wrote g b graph start old new (map_of block) v was.within below set_framed (frees.images some was.within.tells) same (content ∙ as_set) told;
          entries = λ m. elim (same_or_not m block) [
            | inl at ↦ inr (subst (Freed to_leaf to_node) (sym at) is.here)
            | inr apart ↦ elim (was.entries m) [ inl stays ↦ inl (now m ∙ other m apart ∙ stays) | inr freed ↦ inr (is.keeps m freed) ]
          ];
          free = λ m freed. elim (same_or_not m block) [
            | inl at ↦ ap is_free_entry (now m ∙ ap (entry_in c) at ∙ here_free)
            | inr apart ↦ elim (is.grows m freed) [ inl before ↦ ap is_free_entry (now m ∙ other m apart) ∙ was.free m before | inr at ↦ absurd (apart at) ]
          ];
          contents = λ m no. ap (λ (i : Image). block_at i m) content ∙ block_at-with_entry (g.content old) block unheld_entry m (λ at. no (omega (arith, at))) ∙ was.contents m no;
          only = changes_then _ b (g.content old) (g.content new) was.only (subst (ChangesOnly (λ x. of_owner id.block x) (g.content old)) (sym content)
              (changes_entry _ (g.content old) block unheld_entry e was.within.content.maps was.within.content.own is.dropped.loose.apart was_e good (λ root. absurd (not_root root))
              (subst (IsOpenTo (λ x. of_owner id.block x)) was_e (taken_open (g.content old) block id.block taken_now)) (inl refl)));
          counts = frees.counts some was.within.tells was.counts not_free;
        }

  -- a block that may be none
  module _ (leaf node to_leaf to_node block : ℕ) (old new : D) (k0 k1 : Kept) (was : Freeing leaf node old k0) (next_is : block ≢ 0 → IsNext leaf node to_leaf to_node block)
      (none_is : block ≡ 0 → ((m : ℕ) → Freed leaf node m → Freed to_leaf to_node m) × ((m : ℕ) → Freed to_leaf to_node m → Freed leaf node m)) where
    pub any_leaves : (result : Result (Unit {0}) Trouble) → FreesBlock g block old new k0 k1 result → Leaves g start new (Frames b graph)
    any_leaves result frees = elim (cases_eq block 0) [
      | inl none ↦ subst (λ (d : D). Leaves g start d (Frames b graph)) (sym (frees.none none).0) was.within.leaves
      | inr some ↦ step_leaves leaf node to_leaf to_node block old new k0 k1 was some (next_is some) (frees.images some was.within.tells)
    ]

    pub any_on : (at : Top) (n t : ℕ) → FreesBlock g block old new k0 k1 (Ok tt) → FollowsStart g at n t old new k0 k1 (Ok tt) → Freeing to_leaf to_node new k1
    any_on at n t frees follows = elim (cases_eq block 0) [
      | inl none ↦
          let two = none_is none in
          subst (λ (d : D). Freeing to_leaf to_node d k1) (sym (frees.none none).0) (subst (λ (k : Kept). Freeing to_leaf to_node old k) (sym (frees.none none).1) (freeing_as leaf node to_leaf to_node old k0 two.0 two.1 was))
      | inr some ↦ step_on leaf node to_leaf to_node block old new k0 k1 was some (next_is some) frees follows.told follows.calls.same
    ]

  -- ---- which block it is

  leaf_more : (q k node m : ℕ) → Freed (leaf_pointers.count * q + k) node m → Freed (leaf_pointers.count * q + (k + 1)) node m
  leaf_more q k node m (FreedLeaf p j low from to real at) = FreedLeaf p j low from (omega (arith, to)) real at
  leaf_more q k node m (FreedNode p to real gone at) = FreedNode p to real gone at

  leaf_grows : (q k node : ℕ) → k < leaf_pointers.count → (m : ℕ) → Freed (leaf_pointers.count * q + (k + 1)) node m → Freed (leaf_pointers.count * q + k) node m ⊎ ((m ≡ leaf_of a root q k) × (leaf_of a root q k ≢ 0))
  leaf_grows q k node small m (FreedLeaf p j low from to real at) = elim (cases_eq (leaf_pointers.count * p + j) (leaf_pointers.count * q + k)) [
    | inl same ↦
        let high : p ≡ q = omega (arith, same, low, small) in
        let place : j ≡ k = omega (arith, same, low, small) in
        let here : leaf_of a root p j ≡ leaf_of a root q k = ap (λ (x : ℕ). leaf_of a root x j) high ∙ ap (leaf_of a root q) place in
        inr (at ∙ here, λ none. real (here ∙ none))
    | inr apart ↦ inl (FreedLeaf p j low from (omega (arith, to, apart)) real at)
  ]
  leaf_grows q k node small m (FreedNode p to real gone at) = inl (FreedNode p to real gone at)

  node_more : (q leaf m : ℕ) → Freed leaf q m → Freed leaf (q + 1) m
  node_more q leaf m (FreedLeaf p j low from to real at) = FreedLeaf p j low from to real at
  node_more q leaf m (FreedNode p to real gone at) = FreedNode p (omega (arith, to)) real gone at

  node_grows : (q leaf m : ℕ) → Freed leaf (q + 1) m → Freed leaf q m ⊎ ((m ≡ node_of root q) × (node_of root q ≢ 0) × (node_of next q ≡ 0))
  node_grows q leaf m (FreedLeaf p j low from to real at) = inl (FreedLeaf p j low from to real at)
  node_grows q leaf m (FreedNode p to real gone at) = elim (cases_eq p q) [
    | inl same ↦ inr (at ∙ ap (node_of root) same, λ none. real (ap (node_of root) same ∙ none), ap (node_of next) (sym same) ∙ gone)
    | inr apart ↦ inl (FreedNode p (omega (arith, to, apart)) real gone at)
  ]

  -- the leaf at a place
  pub next_leaf : (q k node block : ℕ) → k < leaf_pointers.count → keep ≤ leaf_pointers.count * q + k → block ≡ leaf_of a root q k → block ≢ 0 → IsNext (leaf_pointers.count * q + k) node (leaf_pointers.count * q + (k + 1)) node block
  next_leaf q k node block small late is some =
      let real : leaf_of a root q k ≢ 0 = λ none. some (is ∙ none) in
      let dropped = subst (IsDropped b graph id.block (Leaf (leaf_pointers.count * q + k))) (sym is) (drops.leaves q k small late real) in
      record {
        place = Leaf (leaf_pointers.count * q + k);
        dropped = dropped;
        inner = leaf_no_shadow (leaf_pointers.count * q + k);
        stands = stands dropped;
        here = FreedLeaf q k small late (omega arith) real is;
        keeps = leaf_more q k node;
        grows = λ m freed. elim (leaf_grows q k node small m freed) [ inl was ↦ inl was | inr at ↦ inr (at.0 ∙ sym is) ];
      }
    where
      stands : IsDropped b graph id.block (Leaf (leaf_pointers.count * q + k)) block → Freed (leaf_pointers.count * q + k) node block → ⊥
      stands dropped (FreedLeaf p j low from to real at) = let same = one_leaf _ _ (places_differ b block (leaf_of a root p j) id.block (Leaf (leaf_pointers.count * q + k)) (Leaf (leaf_pointers.count * p + j)) dropped.part (drops.leaves p j low from real).part at) in omega (arith, same, to)
      stands dropped (FreedNode p to real gone at) = leaf_no_node _ _ (places_differ b block (node_of root p) id.block (Leaf (leaf_pointers.count * q + k)) (Node p) dropped.part (drops.nodes p real gone).part at)

  -- which isn't held
  pub none_leaf : (q k node block : ℕ) → k < leaf_pointers.count → block ≡ leaf_of a root q k → block ≡ 0 → ((m : ℕ) → Freed (leaf_pointers.count * q + k) node m → Freed (leaf_pointers.count * q + (k + 1)) node m) × ((m : ℕ) → Freed (leaf_pointers.count * q + (k + 1)) node m → Freed (leaf_pointers.count * q + k) node m)
  none_leaf q k node block small is none = (leaf_more q k node, λ m freed. elim (leaf_grows q k node small m freed) [ inl was ↦ was | inr at ↦ absurd (at.1 (sym is ∙ none)) ])

  -- a node
  pub next_node : (q leaf block : ℕ) → block ≡ node_of root q → node_of next q ≡ 0 → block ≢ 0 → IsNext leaf q leaf (q + 1) block
  next_node q leaf block is gone some =
      let real : node_of root q ≢ 0 = λ none. some (is ∙ none) in
      let dropped = subst (IsDropped b graph id.block (Node q)) (sym is) (drops.nodes q real gone) in
      record {
        place = Node q;
        dropped = dropped;
        inner = node_no_shadow q;
        stands = stands dropped;
        here = FreedNode q (omega arith) real gone is;
        keeps = node_more q leaf;
        grows = λ m freed. elim (node_grows q leaf m freed) [ inl was ↦ inl was | inr at ↦ inr (at.0 ∙ sym is) ];
      }
    where
      stands : IsDropped b graph id.block (Node q) block → Freed leaf q block → ⊥
      stands dropped (FreedLeaf p j low from to real at) = leaf_no_node _ _ (sym (places_differ b block (leaf_of a root p j) id.block (Node q) (Leaf (leaf_pointers.count * p + j)) dropped.part (drops.leaves p j low from real).part at))
      stands dropped (FreedNode p to real gone' at) = let same = one_node _ _ (places_differ b block (node_of root p) id.block (Node q) (Node p) dropped.part (drops.nodes p real gone').part at) in omega (arith, same, to)

  -- one that stays, or is absent
  pub none_node : (q leaf : ℕ) → (node_of root q ≢ 0 → node_of next q ≢ 0) → ((m : ℕ) → Freed leaf q m → Freed leaf (q + 1) m) × ((m : ℕ) → Freed leaf (q + 1) m → Freed leaf q m)
  none_node q leaf stays = (node_more q leaf, λ m freed. elim (node_grows q leaf m freed) [ inl was ↦ was | inr at ↦ absurd (stays at.1 at.2) ])
