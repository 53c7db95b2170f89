-- Entries of one map, changed by one write of it: a crash leaves all of the changes or none.
use Rattle.std.proofs.Common.{◌≡◌, ℕ, ◌+◌, ◌*◌, ◌/◌, ◌<◌, IsTrue, Bool, true, List, [], ◌∷◌, ◌++◌, length, set, take, drop, Ok, Err, Option, Some, refl, sym, ◌∙◌, ap, subst, arith, append_assoc}
use Rattle.std.specs.Prelude.{◌==◌, ◌≤◌, OnOk, Result}
use Rattle.std.proofs.lemmas.List.{take-append-drop}
use Rattle.block_tree.specs.Reads.{is_damage}
use Rattle.cfs_base.specs.Calls.{OnlyReads}
use Rattle.cfs_base.specs.Disk.{Image, IsSameDisk, Nothing, Written, block_at}
use Rattle.cfs_base.specs.Run.{Leaves, Tells, left_now}
use Rattle.cfs_base.specs.declared.disk.Disk.{Ghosts}
use Rattle.cfs_base.specs.declared.refusal.Trouble.{Trouble}
use Rattle.cfs_base.proofs.Runs.{wider}
use Rattle.cyl_alloc.specs.Left.{LeftCommit, after_flips, block_no, flips_in}
use Rattle.cyl_alloc.specs.Refusals.{IsMapTrouble}
use Rattle.cyl_alloc.specs.Maps.{IsMapOf}
use Rattle.cyl_alloc.specs.Space.{AreCounts, HasMoreFree, IsFreeElsewhere, Kept, after_giving, free_in_cylinder}
use Rattle.cyl_map.specs.Map.{SpellsMap, entries_of}
use Rattle.cyl_map.specs.declared.entry.MapEntry.{MapEntry}
use Rattle.cyl_map.specs.Volume.{map_of}
use Rattle.finisher.specs.Going.{Goes, GoesFrom}
use Rattle.finisher.specs.Runs.{AfterRun}
use Rattle.finisher.proofs.Calls.{goes_kept, goes_reads, goes_since, goes_then, goes_told}
use Rattle.finisher.proofs.Going.{Turns, flip_sound, left_is, still_sound, these_may, turn_failed, turned_so}
use Rattle.finisher.proofs.Runs.{first_left}
use Rattle.intentions.specs.Course.{Course, IsOn, Settling}
use Rattle.intentions.specs.Left.{IsGoing, how_for}
use Rattle.intentions.specs.Runs.{FlipsFirst, IsFirst, WritesMap, runs}
use Rattle.intentions.specs.Turned.{turned}
use Rattle.intentions.specs.declared.run.Rule.TheVariants.{Settle}
use Rattle.cyl_map.specs.Mapped.{IsMapped}
use Rattle.intentions.proofs.Courses.{tried, wrote}
use Rattle.intentions.proofs.Runs.{first_rest}
use Rattle.intentions.proofs.Settled.{turned_free}
use Rattle.intentions.proofs.Turned.{turned_on}
use Rattle.ufs_model.specs.Graph.{Graph}
use Rattle.vol_image.specs.Sound.{Holds}

abbrev so_far : ℕ → ℕ → List ℕ → LeftCommit
so_far r s rest = record { root = r; shadow = s; rest = rest; copied = true }

module _ {D : Type 0} (g : Ghosts D) (d0 d1 : D) (k0 k1 : Kept) (r s n i freed : ℕ) (ns was now : List ℕ) (run : FlipsFirst (Settle (block_no s)) n i freed ns was now) (below : n < 64 * length k0.free) where
  module _ (graph : Graph) (has : IsGoing g graph d0 k0 (so_far r s (take i ns ++ drop i ns))) (same : block_at (g.content d0) (map_of n) ≡ was) where
    abbrev w : Course
    w = Settling has.goes.0 graph has.id has.object s

    abbrev after : Image
    after = set (g.content d0) (map_of n) now

    on_all : IsOn w after
    on_all = turned_on w (λ m. how_for (m == s)) has.goes.1 (take i ns) (g.content d0) after has.goes.2.content (these_may g d0 d1 k0 k1 r s (take i ns) (drop i ns) graph has) (run.changed (g.content d0) same)

    within : map_of n < length (g.content d0)
    within = omega (arith, has.counts.size)

    run_leaves : Leaves g d0 d1 (Written (left_now g d0) (map_of n) now) → Leaves g d0 d1 (IsOn w)
    run_leaves images = tried g w d0 d1 (map_of n) now has.goes.2 within on_all images

    run_turns : WritesMap g (map_of n) now d0 d1 (Ok (tt {0})) → ((image other : Image) → AreCounts image k0 → HasMoreFree image n freed other → AreCounts other k1) → Turns g d0 d1 k0 k1 r s (take i ns) (drop i ns) graph has
    run_turns writes counts = record {
      content = subst (IsMapped (turned (λ m. how_for (m == s)) (take i ns)) (g.content d0)) (sym writes.written) (run.changed (g.content d0) same);
      keeps = wrote g w d0 d1 (map_of n) now has.goes.2 within on_all writes.images writes.calls.same writes.written writes.told;
      leaves = run_leaves writes.images;
      counts = subst (λ (a : Image). AreCounts a k1) (sym writes.written) (counts (g.content d0) after has.counts (run.free (λ m. turned_free (m == s)) (g.content d0) same));
    }

  -- The write of the map, from the blocks that are left to those after the first i.
  run_made : (result : Result (Unit {0}) Trouble) → block_at (g.content d0) (map_of n) ≡ was → WritesMap g (map_of n) now d0 d1 result
      → OnOk result ((image other : Image) → AreCounts image k0 → HasMoreFree image n freed other → AreCounts other k1) → GoesFrom g d0 d1 k0 k1 (Some (so_far r s (take i ns ++ drop i ns))) (Some (so_far r s (drop i ns))) result
  run_made (Ok u) same writes counts = turned_so g d0 d1 k0 k1 r s (take i ns) (drop i ns) (λ graph has. run_turns graph has same writes counts)
  run_made (Err t) same writes counts = turn_failed g d0 d1 k0 k1 r s (take i ns) (drop i ns) t (λ graph has. (run_leaves graph has same writes.images, ap is_damage writes.refused.0))

  pub run_so : (l : LeftCommit) → l.copied ≡ true → l.rest ≡ ns → l.root ≡ r → l.shadow ≡ s → (result : Result (Unit {0}) Trouble) → block_at (g.content d0) (map_of n) ≡ was → WritesMap g (map_of n) now d0 d1 result
      → OnOk result ((image other : Image) → AreCounts image k0 → HasMoreFree image n freed other → AreCounts other k1) → GoesFrom g d0 d1 k0 k1 (Some l) (Some (record l { rest = drop i ns })) result
  run_so l copied rest_is root_is shadow_is result same writes counts =
      subst (λ (x : LeftCommit). GoesFrom g d0 d1 k0 k1 (Some x) (Some (record x { rest = drop i ns })) result) (left_is l r s (take i ns ++ drop i ns) true root_is shadow_is (rest_is ∙ sym (take-append-drop i ns)) copied) (run_made result same writes counts)

-- The map isn't read.
pub load_failed : {D : Type 0} (g : Ghosts D) (d0 d1 : D) (k : Kept) (n : ℕ) (w : Option LeftCommit) (t : Trouble) → IsFirst n (flips_in w) → OnlyReads g 1 d0 d1 → IsMapTrouble g d0 d1 n t → GoesFrom g d0 d1 k k w w (Err t)
load_failed g d0 d1 k n w t is only refused =
    let left = first_left n w is in
    let l = left.0 in
    let rest = first_rest n l.rest (subst (IsFirst n) left.3 is) in
    subst (λ (x : Option LeftCommit). GoesFrom g d0 d1 k k x x (Err t)) (sym left.1)
    (subst (λ (x : LeftCommit). GoesFrom g d0 d1 k k (Some x) (Some x) (Err t)) (left_is l l.root l.shadow (n ∷ rest.0) true refl refl rest.1 left.2) (record {
      goes = λ graph has. tt;
      store = λ graph ds has. tt;
      comes = λ graph has. tt;
      leaves = λ graph has. wider g d0 d1 Nothing (λ c. Holds c graph) only.images (λ c none. absurd none);
      sound = λ graph has. still_sound t (flip_sound g d0 d1 k k l.root l.shadow n rest.0 graph has t refused);
    }))

-- A run of blocks whose map was read, changed in memory and written.
module _ {D : Type 0} (g : Ghosts D) (d0 d1 d2 : D) (k mid new : Kept) (n i freed shadow : ℕ) (was now blocks : List ℕ) (size : g.blocks d0 ≡ 64 * length k.free) (on_disk : n < g.blocks d0) (first : IsFirst n (flips_in k.left))
    (only : OnlyReads g 1 d0 d1) (map : Tells g d0 → IsMapOf (g.content d0) n (entries_of was)) (spells : SpellsMap was) (shadow_is : (l : LeftCommit) → k.left ≡ Some l → shadow ≡ l.shadow) (blocks_are : blocks ≡ flips_in k.left) (run : FlipsFirst (Settle (block_no shadow)) n i freed blocks was now) where
  abbrev l : LeftCommit
  l = (first_left n k.left first).0

  abbrev l_is : k.left ≡ Some l
  l_is = (first_left n k.left first).1

  rest_is : blocks ≡ l.rest
  rest_is = blocks_are ∙ (first_left n k.left first).3

  run_from : (k1 : Kept) (result : Result (Unit {0}) Trouble) → WritesMap g (map_of n) now d1 d2 result → OnOk result ((image other : Image) → AreCounts image k → HasMoreFree image n freed other → AreCounts other k1)
      → GoesFrom g d0 d2 k k1 (Some l) (Some (record l { rest = drop i l.rest })) result
  run_from k1 result writes counts =
      goes_told g d0 d2 k k1 (Some l) (Some (record l { rest = drop i l.rest })) result (λ tells.
      goes_then g d0 d1 d2 k k k1 (Some l) (Some l) (Some (record l { rest = drop i l.rest })) result (goes_reads g d0 d1 d2 1 only k (Some l))
      (run_so g d1 d2 k k1 l.root shadow n i freed l.rest was now (subst (λ (ns : List ℕ). FlipsFirst (Settle (block_no shadow)) n i freed ns was now) rest_is run) (omega (arith, size, on_disk)) l
      (first_left n k.left first).2 refl refl (sym (shadow_is l l_is)) result (ap (λ (a : Image). block_at a (map_of n)) only.content ∙ (map tells).spelled ∙ sym spells.spelled) writes counts))

  pub run_failed : (t : Trouble) → WritesMap g (map_of n) now d1 d2 (Err t) → Goes g d0 d2 k k (Err t)
  run_failed t writes =
      subst (λ (w : Option LeftCommit). GoesFrom g d0 d2 k k w k.left (Err t)) (sym l_is)
      (goes_since g d0 d2 k k (Some l) (Some (record l { rest = drop i l.rest })) k.left t t refl (run_from k (Err t) writes tt))

  module _ (given : mid ≡ after_giving k n freed) (noted : new ≡ record mid { left = after_flips i mid.left }) where
    left_now_is : new.left ≡ Some (record l { rest = drop i l.rest })
    left_now_is = ap (λ (x : Kept). x.left) noted ∙ ap (λ (x : Kept). after_flips i x.left) given ∙ ap (after_flips i) l_is

    pub run_done : WritesMap g (map_of n) now d1 d2 (Ok (tt {0})) → ((image other : Image) → AreCounts image k → IsFreeElsewhere image n other → free_in_cylinder other (n / 64) ≡ free_in_cylinder image (n / 64) + freed → AreCounts other mid) → Goes g d0 d2 k new (Ok tt)
    run_done writes counts =
        goes_kept g d0 d2 k mid new l (Some (record l { rest = drop i l.rest })) l_is (ap (λ (x : Kept). x.free) noted) left_now_is
        (run_from mid (Ok tt) writes (λ image other at more. counts image other at more.elsewhere more.more))

    pub run_after : 1 + runs (drop i blocks) ≡ runs blocks → AfterRun k.left new.left
    run_after count = record {
      left = l;
      count = i;
      was_is = l_is;
      now_is = left_now_is;
      within = subst (λ (ns : List ℕ). i ≤ length ns) rest_is run.within;
      runs = subst (λ (ns : List ℕ). 1 + runs (drop i ns) ≡ runs ns) rest_is count;
    }
