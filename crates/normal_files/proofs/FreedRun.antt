-- Blocks given back by calls in a row.
use Rattle.normal_files.proofs.Words.{◌≡◌, ◌≢◌, inl, inr, ℕ, ◌+◌, ◌-◌, ◌*◌, ◌<◌, ◌≤◌, false, IsTrue, Ok, Err, List, length, get_or, refl, sym, ◌∙◌, ap, subst, arith, ◌==◌, if◌then◌else◌, OnOk, Result, cases_eq, ne_eqb, OnlyReads, Image, trouble_after_try, Tells, Ghosts, Puid, Trouble, reads_make, still_tells, stopped_after_try, Kept, Graph, tried, not_map, leaves_in, leaf_pointers, node_pointers, leaf_limit, IsNear, leaves_at, is_damage}
use Rattle.normal_files.specs.Frees.{Drops, FollowsStart, FreesBlock, FreesTo, GivesEnd, GivesLeaves, GivesNode, GivesNodes, HasBegun, IsDropTrouble, IsFreed, IsFreeing, OfFile}
use Rattle.normal_files.specs.Cuts.{cut_place, last_node}
use Rattle.normal_files.specs.Laid.{leaf_of, node_of}
use Rattle.normal_files.specs.Limits.{free_calls, free_tries}
use Rattle.normal_files.specs.Refusal.{IsTrouble}
use Rattle.block_tree.specs.Along.{way_leaves}
use Rattle.normal_files.specs.declared.cut.End.{End}
use Rattle.cfs_base.proofs.Went.{makes_within}
use Rattle.normal_files.proofs.Trees.{same_leaves}
use Rattle.normal_files.proofs.Freed.{follows_on, freeing_on, IsNext, any_leaves, any_on, next_leaf, none_leaf, next_node, none_node}
use Rattle.cfs_base.specs.declared.refusal.Trouble.TheVariants as trouble
use Rattle.block_tree.specs.declared.root.Root as roots
use Rattle.leaf_changes.specs.Tops.{Top}

-- ---- calls in a row

pub frees_on : {D : Type 0} (g : Ghosts D) (root : roots.Root) (Given More : Image → roots.Root → ℕ → Type 0) (leaf node mid_leaf mid_node to_leaf to_node : ℕ) (old mid new : D) (k0 k1 k2 : Kept) (result : Result (Unit {0}) Trouble)
    → ((a : Image) (next : roots.Root) (keep : ℕ) → Given a next keep → More a next keep) → FreesTo g root Given leaf node mid_leaf mid_node old mid k0 k1 (Ok tt) → FreesTo g root More mid_leaf mid_node to_leaf to_node mid new k1 k2 result → FreesTo g root Given leaf node to_leaf to_node old new k0 k2 result
frees_on g root Given More leaf node mid_leaf mid_node to_leaf to_node old mid new k0 k1 k2 result more one two = record {
  on = λ a b graph id next keep start drops given was. two.on a b graph id next keep start drops (more a next keep given) (one.on a b graph id next keep start drops given was);
  leaves = λ a b graph id next keep start drops given was. two.leaves a b graph id next keep start drops (more a next keep given) (one.on a b graph id next keep start drops given was);
  sound = λ a b graph id next keep start drops given was. two.sound a b graph id next keep start drops (more a next keep given) (one.on a b graph id next keep start drops given was);
}

-- with more that is given
pub frees_given : {D : Type 0} (g : Ghosts D) (root : roots.Root) (Given More : Image → roots.Root → ℕ → Type 0) (leaf node to_leaf to_node : ℕ) (old new : D) (k0 k1 : Kept) (result : Result (Unit {0}) Trouble)
    → ((a : Image) (next : roots.Root) (keep : ℕ) → Given a next keep → More a next keep) → FreesTo g root More leaf node to_leaf to_node old new k0 k1 result → FreesTo g root Given leaf node to_leaf to_node old new k0 k1 result
frees_given g root Given More leaf node to_leaf to_node old new k0 k1 result more two = record {
  on = λ a b graph id next keep start drops given. two.on a b graph id next keep start drops (more a next keep given);
  leaves = λ a b graph id next keep start drops given. two.leaves a b graph id next keep start drops (more a next keep given);
  sound = λ a b graph id next keep start drops given. two.sound a b graph id next keep start drops (more a next keep given);
}

-- one block, which may be none
frees_one : {D : Type 0} (g : Ghosts D) (root : roots.Root) (Given : Image → roots.Root → ℕ → Type 0) (leaf node to_leaf to_node block : ℕ) (old new : D) (k0 k1 : Kept) (at : Top) (n t : ℕ) (result : Result (Unit {0}) Trouble)
    → ((a b : Image) (graph : Graph) (id : Puid) (next : roots.Root) (keep : ℕ) (start : D) (drops : Drops a b graph id root next keep) → Given a next keep → (block ≢ 0 → IsNext g a b graph id root next keep start drops leaf node to_leaf to_node block)
    × (block ≡ 0 → ((m : ℕ) → IsFreed a root next keep leaf node m → IsFreed a root next keep to_leaf to_node m) × ((m : ℕ) → IsFreed a root next keep to_leaf to_node m → IsFreed a root next keep leaf node m)))
    → FreesBlock g block old new k0 k1 result → FollowsStart g at n t old new k0 k1 result → FreesTo g root Given leaf node to_leaf to_node old new k0 k1 result
frees_one g root Given leaf node to_leaf to_node block old new k0 k1 at n t result is frees follows = record {
  on = λ a b graph id next keep start drops given was. by result frees follows a b graph id next keep start drops given was;
  leaves = λ a b graph id next keep start drops given was.
      let two = is a b graph id next keep start drops given in
      any_leaves g a b graph id root next keep start drops leaf node to_leaf to_node block old new k0 k1 was two.0 two.1 result frees;
  sound = λ a b graph id next keep start drops given was. frees.sound was.within.tells was.within.content.maps;
}
  where
    by : (x : Result (Unit {0}) Trouble) → FreesBlock g block old new k0 k1 x → FollowsStart g at n t old new k0 k1 x → (a b : Image) (graph : Graph) (id : Puid) (next : roots.Root) (keep : ℕ) (start : _) → (drops : Drops a b graph id root next keep) → Given a next keep
        → IsFreeing g a b graph id root next keep leaf node start old k0 → OnOk x (IsFreeing g a b graph id root next keep to_leaf to_node start new k1)
    by (Ok tt) f w a b graph id next keep start drops given was =
        let two = is a b graph id next keep start drops given in
        any_on g a b graph id root next keep start drops leaf node to_leaf to_node block old new k0 k1 was two.0 two.1 at n t f w
    by (Err e) f w a b graph id next keep start drops given was = tt

-- one leaf of a node
pub frees_leaf : {D : Type 0} (g : Ghosts D) (root : roots.Root) (Given : Image → roots.Root → ℕ → Type 0) (q k node block : ℕ) (old new : D) (k0 k1 : Kept) (at : Top) (n t : ℕ) (result : Result (Unit {0}) Trouble) → k < leaf_pointers.count
    → ((a : Image) (next : roots.Root) (keep : ℕ) → Given a next keep → (block ≡ leaf_of a root q k) × (keep ≤ leaf_pointers.count * q + k)) → FreesBlock g block old new k0 k1 result → FollowsStart g at n t old new k0 k1 result
    → FreesTo g root Given (leaf_pointers.count * q + k) node (leaf_pointers.count * q + (k + 1)) node old new k0 k1 result
frees_leaf g root Given q k node block old new k0 k1 at n t result small is = frees_one g root Given (leaf_pointers.count * q + k) node (leaf_pointers.count * q + (k + 1)) node block old new k0 k1 at n t result (λ a b graph id next keep start drops given.
    let two = is a next keep given in
    (next_leaf g a b graph id root next keep start drops q k node block small two.1 two.0, none_leaf g a b graph id root next keep start drops q k node block small two.0))

-- a node
pub frees_node : {D : Type 0} (g : Ghosts D) (root : roots.Root) (Given : Image → roots.Root → ℕ → Type 0) (q leaf block : ℕ) (old new : D) (k0 k1 : Kept) (at : Top) (n t : ℕ) (result : Result (Unit {0}) Trouble)
    → ((a : Image) (next : roots.Root) (keep : ℕ) → Given a next keep → (block ≢ 0 → (block ≡ node_of root q) × (node_of next q ≡ 0)) × (block ≡ 0 → node_of root q ≢ 0 → node_of next q ≢ 0)) → FreesBlock g block old new k0 k1 result → FollowsStart g at n t old new k0 k1 result
    → FreesTo g root Given leaf q leaf (q + 1) old new k0 k1 result
frees_node g root Given q leaf block old new k0 k1 at n t result is = frees_one g root Given leaf q leaf (q + 1) block old new k0 k1 at n t result (λ a b graph id next keep start drops given.
    let two = is a next keep given in
    (λ some. next_node g a b graph id root next keep start drops q leaf block (two.0 some).0 (two.0 some).1 some, λ none. none_node g a b graph id root next keep start drops q leaf (two.1 none)))

-- a refusal, wherever it was to come
pub frees_err : {D : Type 0} (g : Ghosts D) (root : roots.Root) (Given : Image → roots.Root → ℕ → Type 0) (leaf node l n to_leaf to_node : ℕ) (old new : D) (k0 k1 : Kept) (e : Trouble) → FreesTo g root Given leaf node l n old new k0 k1 (Err e) → FreesTo g root Given leaf node to_leaf to_node old new k0 k1 (Err e)
frees_err g root Given leaf node l n to_leaf to_node old new k0 k1 e is = record { on = λ a b graph id next keep start drops given was. tt; leaves = is.leaves; sound = is.sound }

-- the leaves of a node, one after another
pub leaves_on : {D : Type 0} (g : Ghosts D) (root : roots.Root) (leaves : List ℕ) (n from k : ℕ) (at : Top) (old mid new : D) (k0 k1 k2 : Kept) (result : Result (Unit {0}) Trouble) → k < leaf_pointers.count → from ≤ k → FreesTo g root (GivesLeaves root leaves n from) (leaf_pointers.count * n + from) n (leaf_pointers.count * n + k) n old mid k0 k1 (Ok tt)
    → FreesBlock g (get_or leaves k 0) mid new k1 k2 result → FollowsStart g at free_calls free_tries mid new k1 k2 result → FreesTo g root (GivesLeaves root leaves n from) (leaf_pointers.count * n + from) n (leaf_pointers.count * n + (k + 1)) n old new k0 k2 result
leaves_on g root leaves n from k at old mid new k0 k1 k2 result small late done frees follows =
    frees_on g root (GivesLeaves root leaves n from) (GivesLeaves root leaves n from) (leaf_pointers.count * n + from) n (leaf_pointers.count * n + k) n (leaf_pointers.count * n + (k + 1)) n old mid new k0 k1 k2 result (λ a next keep given. given) done
    (frees_leaf g root (GivesLeaves root leaves n from) n k n (get_or leaves k 0) mid new k1 k2 at free_calls free_tries result small (λ a next keep given. (ap (λ (ls : List ℕ). get_or ls k 0) given.0, omega (arith, given.1, late))) frees follows)

pub leaves_follow : {D : Type 0} (g : Ghosts D) (from k : ℕ) (at : Top) (old mid new : D) (k0 k1 k2 : Kept) (result : Result (Unit {0}) Trouble) → from ≤ k → (most tries : ℕ) → (k + 1 - from) * free_calls ≤ most → (k + 1 - from) * free_tries ≤ tries → FollowsStart g at ((k - from) * free_calls) ((k - from) * free_tries) old mid k0 k1 (Ok tt) → FollowsStart g at free_calls free_tries mid new k1 k2 result
    → FollowsStart g at most tries old new k0 k2 result
leaves_follow g from k at old mid new k0 k1 k2 result late most tries few fewer done follows = follows_on g at ((k - from) * free_calls) ((k - from) * free_tries) free_calls free_tries most tries old mid new k0 k1 k2 result (omega (arith, few, late)) (omega (arith, fewer, late)) done follows

-- ---- a node that was read

module _ {D : Type 0} (g : Ghosts D) (root : roots.Root) (n : ℕ) (old mid : D) (k0 : Kept) (reads : OnlyReads g 1 old mid) where
  module _ (a b : Image) (graph : Graph) (id : Puid) (next : roots.Root) (keep : ℕ) (start : D) (drops : Drops a b graph id root next keep) (given : GivesNode n a next keep) (leaf node : ℕ) (was : IsFreeing g a b graph id root next keep leaf node start old k0) where
    node_now : leaves_at (g.content old) (node_of root n) ≡ leaves_at a (node_of root n)
    node_now = elim (cases_eq (node_of root n) 0) [
      | inl none ↦ same_leaves (g.content old) a (node_of root n) (λ some. absurd (some none))
      | inr some ↦ same_leaves (g.content old) b (node_of root n) (λ _. was.contents (node_of root n) (not_map (node_of root n) (drops.nodes n some given.0).loose.apart)) ∙ drops.same n some given.0
    ]

    node_near : length (g.content old) ≡ g.blocks old → IsNear (g.blocks old) (g.content old) (node_of root n)
    node_near size =
        let near = drops.near n in
        let long : length a ≡ g.blocks old = sym drops.size ∙ sym was.within.content.size ∙ size in
        record {
          here = omega (arith, near.here, long);
          leaves = λ k. let is = ap (λ (ls : List ℕ). get_or ls k 0) node_now in omega (arith, near.leaves k, long, is);
        }

  -- the read was refused
  pub node_unread : (leaf node to_leaf to_node : ℕ) (t : Trouble) → (IsTrue (g.honest old) → length (g.content old) ≡ g.blocks old) → (Tells g old → IsNear (g.blocks old) (g.content old) (node_of root n) → is_damage t ≡ false) → FreesTo g root (GivesNode n) leaf node to_leaf to_node old mid k0 k0 (Err t)
  node_unread leaf node to_leaf to_node t sized sound = record {
    on = λ a b graph id next keep start drops given was. tt;
    leaves = λ a b graph id next keep start drops given was. (freeing_on g a b graph id root next keep start drops 1 leaf node old mid k0 reads was).within.leaves;
    sound = λ a b graph id next keep start drops given was. sound was.within.tells (node_near a b graph id next keep start drops given leaf node was (sized was.within.tells.honest));
  }

  -- what is freed of it then
  pub after_read : (leaves : List ℕ) (leaf node to_leaf to_node : ℕ) (new : D) (k1 : Kept) (result : Result (Unit {0}) Trouble) → (Tells g old → leaves ≡ leaves_at (g.content old) (node_of root n))
      → FreesTo g root (λ a next keep. GivesLeaves root leaves n 0 a next keep × (node_of next n ≡ 0)) leaf node to_leaf to_node mid new k0 k1 result → FreesTo g root (GivesNode n) leaf node to_leaf to_node old new k0 k1 result
  after_read leaves leaf node to_leaf to_node new k1 result is frees = record {
    on = λ a b graph id next keep start drops given was. frees.on a b graph id next keep start drops (more a b graph id next keep start drops given was) (freeing_on g a b graph id root next keep start drops 1 leaf node old mid k0 reads was);
    leaves = λ a b graph id next keep start drops given was. frees.leaves a b graph id next keep start drops (more a b graph id next keep start drops given was) (freeing_on g a b graph id root next keep start drops 1 leaf node old mid k0 reads was);
    sound = λ a b graph id next keep start drops given was. frees.sound a b graph id next keep start drops (more a b graph id next keep start drops given was) (freeing_on g a b graph id root next keep start drops 1 leaf node old mid k0 reads was);
  }
    where
      more : (a b : Image) (graph : Graph) (id : Puid) (next : roots.Root) (keep : ℕ) (start : D) → Drops a b graph id root next keep → GivesNode n a next keep → IsFreeing g a b graph id root next keep leaf node start old k0 → GivesLeaves root leaves n 0 a next keep × (node_of next n ≡ 0)
      more a b graph id next keep start drops given was = ((is was.within.tells ∙ node_now a b graph id next keep start drops given leaf node was, omega (arith, given.1)), given.0)

  pub read_follows : (at : Top) (m t most tries : ℕ) (new : D) (k1 : Kept) (result : Result (Unit {0}) Trouble) → m + 1 ≤ most → t ≤ tries → FollowsStart g at m t mid new k0 k1 result → FollowsStart g at most tries old new k0 k1 result
  read_follows at m t most tries new k1 result few fewer follows = follows_on g at 1 0 m t most tries {first = at} old mid new k0 k0 k1 result (omega (arith, few)) (omega (arith, fewer))
      (record { told = reads.told; knows = tt; refused = tt; untried = tt; moves = record { cylinders = refl; left = refl }; calls = reads_make g old mid 1 reads }) follows

  pub unread_follows : (at : Top) (most tries : ℕ) (t : Trouble) → 1 ≤ most → IsTrouble g at old mid t → FollowsStart g at most tries old mid k0 k0 (Err t)
  unread_follows at most tries t few is = record {
    told = tt;
    knows = tt;
    refused = λ start begun. by t is start begun;
    untried = λ none. absurd none;
    moves = record { cylinders = refl; left = refl };
    calls = makes_within g old mid 1 0 most tries few (omega arith) (reads_make g old mid 1 reads);
  }
    where
      by : (x : Trouble) → IsTrouble g at old mid x → (start : D) → HasBegun g start old → IsDropTrouble g at start mid (trouble_after_try x)
      by (trouble.Disk tried) is start begun = stopped_after_try g start old mid begun.n begun.t tried begun.went.calls begun.went.knows is
      by (trouble.Damaged damage) is start begun = OfFile old (λ tells. still_tells g tells begun.went.told begun.went.calls.same) (sym reads.content) (sym reads.same.size) is

-- its leaves and the node itself
pub node_on : {D : Type 0} (g : Ghosts D) (root : roots.Root) (leaves : List ℕ) (n : ℕ) (at : Top) (mid mid2 new : D) (k0 k1 k2 : Kept) (result : Result (Unit {0}) Trouble) → FreesTo g root (GivesLeaves root leaves n 0) (leaf_pointers.count * n + 0) n (leaf_pointers.count * n + leaf_pointers.count) n mid mid2 k0 k1 (Ok tt)
    → FreesBlock g (node_of root n) mid2 new k1 k2 result → FollowsStart g at free_calls free_tries mid2 new k1 k2 result → FreesTo g root (λ a next keep. GivesLeaves root leaves n 0 a next keep × (node_of next n ≡ 0)) (leaf_pointers.count * n) n (leaf_pointers.count * n + leaf_pointers.count) (n + 1) mid new k0 k2 result
node_on g root leaves n at mid mid2 new k0 k1 k2 result done frees follows =
    frees_on g root (λ a next keep. GivesLeaves root leaves n 0 a next keep × (node_of next n ≡ 0)) (λ a next keep. GivesLeaves root leaves n 0 a next keep × (node_of next n ≡ 0)) (leaf_pointers.count * n) n (leaf_pointers.count * n + leaf_pointers.count) n (leaf_pointers.count * n + leaf_pointers.count) (n + 1) mid mid2 new k0 k1 k2 result (λ a next keep given. given)
    (frees_given g root (λ a next keep. GivesLeaves root leaves n 0 a next keep × (node_of next n ≡ 0)) (GivesLeaves root leaves n 0) (leaf_pointers.count * n) n (leaf_pointers.count * n + leaf_pointers.count) n mid mid2 k0 k1 (Ok tt) (λ a next keep given. given.0)
    (subst (λ (l : ℕ). FreesTo g root (GivesLeaves root leaves n 0) l n (leaf_pointers.count * n + leaf_pointers.count) n mid mid2 k0 k1 (Ok tt)) plus done))
    (frees_node g root (λ a next keep. GivesLeaves root leaves n 0 a next keep × (node_of next n ≡ 0)) n (leaf_pointers.count * n + leaf_pointers.count) (node_of root n) mid2 new k1 k2 at free_calls free_tries result (λ a next keep given. (λ some. (refl, given.1), λ none real. absurd (real none))) frees follows)
  where
    plus : leaf_pointers.count * n + 0 ≡ leaf_pointers.count * n
    plus = omega arith

-- its leaves couldn't all be freed
pub node_err : {D : Type 0} (g : Ghosts D) (root : roots.Root) (leaves : List ℕ) (n l m : ℕ) (mid new : D) (k0 k1 : Kept) (e : Trouble) → FreesTo g root (GivesLeaves root leaves n 0) (leaf_pointers.count * n + 0) n l m mid new k0 k1 (Err e)
    → FreesTo g root (λ a next keep. GivesLeaves root leaves n 0 a next keep × (node_of next n ≡ 0)) (leaf_pointers.count * n) n (leaf_pointers.count * n + leaf_pointers.count) (n + 1) mid new k0 k1 (Err e)
node_err g root leaves n l m mid new k0 k1 e frees =
    frees_err g root (λ a next keep. GivesLeaves root leaves n 0 a next keep × (node_of next n ≡ 0)) (leaf_pointers.count * n) n l m (leaf_pointers.count * n + leaf_pointers.count) (n + 1) mid new k0 k1 e
    (frees_given g root (λ a next keep. GivesLeaves root leaves n 0 a next keep × (node_of next n ≡ 0)) (GivesLeaves root leaves n 0) (leaf_pointers.count * n) n l m mid new k0 k1 (Err e) (λ a next keep given. given.0)
    (subst (λ (q : ℕ). FreesTo g root (GivesLeaves root leaves n 0) q n l m mid new k0 k1 (Err e)) plus frees))
  where
    plus : leaf_pointers.count * n + 0 ≡ leaf_pointers.count * n
    plus = omega arith

-- ---- all nodes from one on

pub nodes_on : {D : Type 0} (g : Ghosts D) (root : roots.Root) (from n : ℕ) (old mid new : D) (k0 k1 k2 : Kept) (result : Result (Unit {0}) Trouble) → from ≤ n → n < node_pointers.count → FreesTo g root (GivesNodes from) (leaf_pointers.count * from) from (leaf_pointers.count * n) n old mid k0 k1 (Ok tt) → FreesTo g root (GivesNode n) (leaf_pointers.count * n) n (leaf_pointers.count * n + leaf_pointers.count) (n + 1) mid new k1 k2 result
    → FreesTo g root (GivesNodes from) (leaf_pointers.count * from) from (leaf_pointers.count * n + leaf_pointers.count) (n + 1) old new k0 k2 result
nodes_on g root from n old mid new k0 k1 k2 result late few done frees =
    frees_on g root (GivesNodes from) (GivesNode n) (leaf_pointers.count * from) from (leaf_pointers.count * n) n (leaf_pointers.count * n + leaf_pointers.count) (n + 1) old mid new k0 k1 k2 result (λ a next keep given. (given.0 n late few, omega (arith, given.1, late))) done frees

-- ---- the end of a file

module _ {D : Type 0} (g : Ghosts D) (root : roots.Root) (size : ℕ) (end : End) (old mid : D) (k0 k1 : Kept) where
  abbrev last : ℕ
  last = last_node size

  abbrev place : ℕ
  place = cut_place size

  abbrev Given : Image → roots.Root → ℕ → Type 0
  Given = GivesEnd root size end

  starts_at : leaf_pointers.count * last + place ≡ leaves_in size
  starts_at = omega arith

  -- the leaves of the last node
  pub end_leaves : (to_leaf to_node : ℕ) (result : Result (Unit {0}) Trouble) → FreesTo g root (GivesLeaves root (way_leaves end.way) last place) (leaf_pointers.count * last + place) last to_leaf to_node old mid k0 k1 result → FreesTo g root Given (leaves_in size) last to_leaf to_node old mid k0 k1 result
  end_leaves to_leaf to_node result frees =
      subst (λ (l : ℕ). FreesTo g root Given l last to_leaf to_node old mid k0 k1 result) starts_at
      (frees_given g root Given (GivesLeaves root (way_leaves end.way) last place) (leaf_pointers.count * last + place) last to_leaf to_node old mid k0 k1 result (λ a next keep given. (given.1, omega (arith, given.0, starts_at))) frees)

  -- told by the number of that node, and its place
  pub end_first : (n k : ℕ) → n ≡ last → k ≡ place → {leaves : List ℕ} → leaves ≡ way_leaves end.way → (result : Result (Unit {0}) Trouble) → FreesTo g root (GivesLeaves root leaves n k) (leaf_pointers.count * n + k) n (leaf_pointers.count * n + leaf_pointers.count) n old mid k0 k1 result
      → FreesTo g root Given (leaves_in size) last (leaf_pointers.count * last + leaf_pointers.count) last old mid k0 k1 result
  end_first n k number same {leaves} is result frees = end_leaves (leaf_pointers.count * last + leaf_pointers.count) last result
      (subst (λ (m : ℕ). FreesTo g root (GivesLeaves root (way_leaves end.way) m place) (leaf_pointers.count * m + place) m (leaf_pointers.count * m + leaf_pointers.count) m old mid k0 k1 result) number
      (subst (λ (q : ℕ). FreesTo g root (GivesLeaves root (way_leaves end.way) n q) (leaf_pointers.count * n + q) n (leaf_pointers.count * n + leaf_pointers.count) n old mid k0 k1 result) same
      (subst (λ (ls : List ℕ). FreesTo g root (GivesLeaves root ls n k) (leaf_pointers.count * n + k) n (leaf_pointers.count * n + leaf_pointers.count) n old mid k0 k1 result) is frees)))

  pub end_err : (l n : ℕ) (e : Trouble) → FreesTo g root Given (leaves_in size) last l n old mid k0 k1 (Err e) → FreesTo g root Given (leaves_in size) last leaf_limit node_pointers.count old mid k0 k1 (Err e)
  end_err l n e frees = frees_err g root Given (leaves_in size) last l n leaf_limit node_pointers.count old mid k0 k1 e frees

  -- that node, where it goes
  pub end_node : (at : Top) (n block : ℕ) (new : D) (k2 : Kept) (result : Result (Unit {0}) Trouble) → n ≡ last → block ≡ (if end.kept == 0 then node_of root n else 0) → FreesTo g root Given (leaves_in size) last (leaf_pointers.count * last + leaf_pointers.count) last old mid k0 k1 (Ok tt) → FreesBlock g block mid new k1 k2 result → FollowsStart g at free_calls free_tries mid new k1 k2 result
      → FreesTo g root Given (leaves_in size) last (leaf_pointers.count * last + leaf_pointers.count) (last + 1) old new k0 k2 result
  end_node at n block new k2 result number is done frees follows =
      frees_on g root Given Given (leaves_in size) last (leaf_pointers.count * last + leaf_pointers.count) last (leaf_pointers.count * last + leaf_pointers.count) (last + 1) old mid new k0 k1 k2 result (λ a next keep given. given) done
      (frees_node g root Given last (leaf_pointers.count * last + leaf_pointers.count) block mid new k1 k2 at free_calls free_tries result (λ a next keep given. (
        λ some. elim (cases_eq end.kept 0) [
          | inl none ↦ (gone_is none, given.2.0 ∙ none)
          | inr some_kept ↦ absurd (some (stays some_kept))
        ],
        λ none real. elim (cases_eq end.kept 0) [
          | inl no_kept ↦ absurd (real (sym (gone_is no_kept) ∙ none))
          | inr some_kept ↦ λ zero_next. some_kept (sym given.2.0 ∙ zero_next)
        ],
      )) frees follows)
    where
      gone : end.kept ≡ 0 → (if end.kept == 0 then node_of root n else 0) ≡ node_of root n
      gone none = rw none refl

      gone_is : end.kept ≡ 0 → block ≡ node_of root last
      gone_is none = is ∙ gone none ∙ ap (node_of root) number

      kept_is : end.kept ≢ 0 → (if end.kept == 0 then node_of root n else 0) ≡ 0
      kept_is some = rw (ne_eqb end.kept 0 some) refl

      stays : end.kept ≢ 0 → block ≡ 0
      stays some = is ∙ kept_is some

  -- and all nodes past it
  pub end_rest : (n to_leaf to_node : ℕ) (new : D) (k2 : Kept) (result : Result (Unit {0}) Trouble) → n ≡ last → FreesTo g root Given (leaves_in size) last (leaf_pointers.count * last + leaf_pointers.count) (last + 1) old mid k0 k1 (Ok tt) → FreesTo g root (GivesNodes (n + 1)) (leaf_pointers.count * (n + 1)) (n + 1) to_leaf to_node mid new k1 k2 result
      → FreesTo g root Given (leaves_in size) last to_leaf to_node old new k0 k2 result
  end_rest n to_leaf to_node new k2 result number done frees =
      frees_on g root Given (GivesNodes (last + 1)) (leaves_in size) last (leaf_pointers.count * last + leaf_pointers.count) (last + 1) to_leaf to_node old mid new k0 k1 k2 result (λ a next keep given. (λ q late below. given.2.2 q (omega (arith, late)), omega (arith, given.0))) done
      (subst (λ (l : ℕ). FreesTo g root (GivesNodes (last + 1)) l (last + 1) to_leaf to_node mid new k1 k2 result) at_next
      (subst (λ (m : ℕ). FreesTo g root (GivesNodes (m + 1)) (leaf_pointers.count * (m + 1)) (m + 1) to_leaf to_node mid new k1 k2 result) number frees))
    where
      at_next : leaf_pointers.count * (last + 1) ≡ leaf_pointers.count * last + leaf_pointers.count
      at_next = omega arith
