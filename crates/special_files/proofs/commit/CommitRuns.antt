-- Entries changed by one call after another.
use Rattle.std.proofs.Common.{◌≡◌, inl, ℕ, zero, suc, ◌+◌, ◌≤◌, false, true, List, [], ◌∷◌, ◌++◌, length, take, drop, get_or, set, Ok, Err, Some, refl, sym, ◌∙◌, ap, subst, arith, ◌*◌, ◌<◌}
use Rattle.std.proofs.Math.Seq.{take-add}
use Rattle.special_files.proofs.Words.{EntryChange, ChangesEntry, Course, CommitFails, Flips, FlipsRun, Ghosts, Image, IsBadMap, IsCourse, IsMapTrouble, IsOn, Keeps, Kept, Leaves, MakesAtMost, MapEntry, MayPut, MayTurn, NoMap, Nothing, OnlyReads, Result, Tells, Trouble, Written, block_at, changed_entry, entry_in, has_number, is_damage, left_now, makes_then, map_of, reads_make, still_tells, stopped_after_reads, take-append-drop, take_more, tells_on, then, trouble_after_try, trouble_had_tried, turned, wider, Top, still_top}
use Rattle.std.proofs.lemmas.List.{drop-drop, drop_more}
use Rattle.cfs_base.specs.declared.refusal.Trouble.TheVariants as trouble
use Rattle.cfs_base.proofs.Calls.{failed_since}
use Rattle.cyl_alloc.specs.Maps.{IsMapOf}
use Rattle.cyl_map.specs.Map.{SpellsMap, entries_of}
use Rattle.intentions.proofs.Courses as courses
use Rattle.cyl_map.proofs.Mapped.{mapped_none}
use Rattle.intentions.proofs.Runs.{runs_most, spelled_within}
use Rattle.intentions.proofs.Turned.{first_number, may_first, may_then, no_damage, put_valid, turn_one, turned_on, turns_then}
use Rattle.cyl_map.specs.Mapped.{IsMapped}
use Rattle.intentions.specs.Runs.{FlipsFirst, IsFirst, WritesMap, runs}
use Rattle.intentions.specs.declared.run.Rule.TheVariants.{Alike}
use Rattle.special_files.proofs.Refusals.{damage_since}

-- ---- refusals

module _ {D : Type 0} (g : Ghosts D) (at : Top) (old mid new : D) (kept : Kept) where
  pub fails_after : (n t m s : ℕ) → MakesAtMost g n t old mid → (Tells g old → Tells g mid) → MakesAtMost g m s mid new → (e : Trouble) → CommitFails g at mid new kept e → CommitFails g at old new kept e
  fails_after n t m s first on second (trouble.Disk tried) is = (is.0, failed_since g old mid new first.later first.faults is.1)
  fails_after n t m s first on second (trouble.Damaged damage) is = damage_since g at old mid new kept damage on is

-- a call on one map that fails, where something was tried before
pub map_fails : {D : Type 0} (g : Ghosts D) (at : Top) (n : ℕ) (old new : D) (kept : Kept) → n < g.blocks old → (t : Trouble) → IsMapTrouble g old new n t → (trouble_had_tried t ≡ false → OnlyReads g 1 old new) → CommitFails g at old new kept (trouble_after_try t)
map_fails g at n old new kept below (trouble.Disk tried) is only = (refl, is.failed)
map_fails g at n old new kept below (trouble.Damaged damage) is only = NoMap is.code (omega (arith, is.block)) (omega (arith, is.block, below, (only refl).same.size))
    (λ tells. subst (λ (m : ℕ). IsBadMap (g.content new) m) (sym is.block) (subst (λ (i : Image). IsBadMap i (map_of n)) (sym (only refl).content) (bad (is.bad tells))))
  where
    bad : IsBadMap (g.content old) n → IsBadMap (g.content old) (map_of n)
    bad b = (b.0, b.1, ap (λ (m : ℕ). entry_in (g.content old) (m + b.0)) (omega arith) ∙ b.2)

-- ---- one call after another

module _ {D : Type 0} (g : Ghosts D) (how : EntryChange) (ms ns : List ℕ) (d0 d1 d2 : D) (n t m s : ℕ) (first : Flips g n t how ms d0 d1 (Ok tt)) where
  module _ (w : Course) (is : IsCourse w) (keeps : Keeps g w d0) (may : MayTurn w (g.content d0) (λ k. how) (ms ++ ns)) where
    may_one : MayTurn w (g.content d0) (λ k. how) ms
    may_one = may_first w (λ k. how) ms ns (g.content d0) may

    keeps_one : Keeps g w d1
    keeps_one = first.keeps w is keeps may_one

    put_one : IsMapped (turned (λ k. how) ms) (g.content d0) (g.content d1)
    put_one = first.put w is keeps may_one

    may_two : MayTurn w (g.content d1) (λ k. how) ns
    may_two = may_then w (λ k. how) ms ns (g.content d0) (g.content d1) put_one may

    both_leave : (r : Result (Unit {0}) Trouble) → Flips g m s how ns d1 d2 r → Leaves g d0 d2 (IsOn w)
    both_leave r second = then g d0 d1 d2 (IsOn w) (IsOn w) (first.leaves w is keeps may_one) (second.leaves w is keeps_one may_two) (λ c on. on)

  pub flips_then : (r : Result (Unit {0}) Trouble) → Flips g m s how ns d1 d2 r → Flips g (n + m) (t + s) how (ms ++ ns) d0 d2 r
  flips_then (Ok u) second = record {
    put = λ w is keeps may. turns_then (λ k. how) ms ns (g.content d0) (g.content d1) (g.content d2) (put_one w is keeps may) (second.put w is (keeps_one w is keeps may) (may_two w is keeps may));
    tells = λ tells. second.tells (first.tells tells);
    keeps = λ w is keeps may. second.keeps w is (keeps_one w is keeps may) (may_two w is keeps may);
    leaves = λ w is keeps may. both_leave w is keeps may (Ok u) second;
    sound = λ w is keeps may. tt;
    fails = λ at kept. tt;
    calls = makes_then g d0 d1 d2 n m (n + m) t s (t + s) first.calls second.calls (omega arith) (omega arith);
  }
  flips_then (Err e) second = record {
    put = λ w is keeps may. tt;
    tells = λ tells. tt;
    keeps = λ w is keeps may. tt;
    leaves = λ w is keeps may. both_leave w is keeps may (Err e) second;
    sound = λ w is keeps may. second.sound w is (keeps_one w is keeps may) (may_two w is keeps may);
    fails = λ at kept. fails_after g (still_top at) d0 d1 d2 kept n t m s first.calls first.tells second.calls e (second.fails at kept);
    calls = makes_then g d0 d1 d2 n m (n + m) t s (t + s) first.calls second.calls (omega arith) (omega arith);
  }

module _ {D : Type 0} (g : Ghosts D) (how : EntryChange) (old new : D) where
  -- with more calls allowed
  pub more_calls : (n t m s : ℕ) (ns : List ℕ) (r : Result (Unit {0}) Trouble) → n ≤ m → t ≤ s → Flips g n t how ns old new r → Flips g m s how ns old new r
  more_calls n t m s ns r le lt is = record { put = is.put; tells = is.tells; keeps = is.keeps; leaves = is.leaves; sound = is.sound; fails = is.fails; calls = record { later = is.calls.later; keeps = is.calls.keeps; same = is.calls.same; faults = is.calls.faults; calls = omega (arith, is.calls.calls); tries = omega (arith, is.calls.tries); no_fewer = is.calls.no_fewer } }

  -- a call that was stopped, of more that were to be made
  pub flips_stop : (n t m s : ℕ) (ms ns : List ℕ) (e : Trouble) → n ≤ m → t ≤ s → Flips g n t how ms old new (Err e) → Flips g m s how (ms ++ ns) old new (Err e)
  flips_stop n t m s ms ns e le lt is = more_calls n t m s (ms ++ ns) (Err e) le lt (record {
    put = λ w fits keeps may. tt;
    tells = λ tells. tt;
    keeps = λ w fits keeps may. tt;
    leaves = λ w fits keeps may. is.leaves w fits keeps (may_first w (λ k. how) ms ns (g.content old) may);
    sound = λ w fits keeps may. is.sound w fits keeps (may_first w (λ k. how) ms ns (g.content old) may);
    fails = is.fails;
    calls = is.calls;
  })

-- nothing was changed
pub no_flips : {D : Type 0} (g : Ghosts D) (how : EntryChange) (d : D) (n t : ℕ) → Flips g n t how [] d d (Ok tt)
no_flips g how d n t = record {
  put = λ w is keeps may. mapped_none (turned (λ k. how) []) (g.content d) (λ k e here. refl);
  tells = λ tells. tells;
  keeps = λ w is keeps may. keeps;
  leaves = λ w is keeps may. record { later = omega arith; since = λ k c le h. inl h; now = λ c h. inl h };
  sound = λ w is keeps may. tt;
  fails = λ at kept. tt;
  calls = record { later = omega arith; keeps = λ k c le was. was; same = record { size = refl; honesty = refl; telling = refl }; faults = omega arith; calls = omega arith; tries = omega arith; no_fewer = omega arith };
}

-- ---- one entry changed

module _ {D : Type 0} (g : Ghosts D) (n : ℕ) (how : EntryChange) (old new : D) where
  -- it is there
  one_may : (w : Course) → MayTurn w (g.content old) (λ k. how) (n ∷ []) → (e : MapEntry) × (entry_in (g.content old) n ≡ Some e) × MayPut w n e (changed_entry how e)
  one_may w may = may n (first_number n [])

  pub one_done : {A : Type 0} (x : A) → ChangesEntry g n (λ e. changed_entry how e) old new (Ok x) → Flips g 2 1 how (n ∷ []) old new (Ok tt)
  one_done x is = record {
    put = λ w fits keeps may. (let one = one_may w may in
        subst (IsMapped (turned (λ k. how) (n ∷ [])) (g.content old)) (sym (is.put keeps.tells one.0 one.1)) (turn_one (λ k. how) (g.content old) n one.0 one.1 (put_valid w n one.0 (changed_entry how one.0) one.2)));
    tells = λ tells. still_tells g tells is.told is.calls.same;
    keeps = λ w fits keeps may. (let one = one_may w may in is.keeps w one.0 fits keeps one.1 one.2);
    leaves = λ w fits keeps may. (let one = one_may w may in is.leaves w one.0 fits keeps one.1 one.2);
    sound = λ w fits keeps may. tt;
    fails = λ at kept. tt;
    calls = is.calls;
  }

  pub one_failed : (A : Type 0) → n < g.blocks old → (t : Trouble) → ChangesEntry {A = A} g n (λ e. changed_entry how e) old new (Err t) → Flips g 2 1 how (n ∷ []) old new (Err (trouble_after_try t))
  one_failed A below t is = record {
    put = λ w fits keeps may. tt;
    tells = λ tells. tt;
    keeps = λ w fits keeps may. tt;
    leaves = λ w fits keeps may. (let one = one_may w may in is.leaves w one.0 fits keeps one.1 one.2);
    sound = λ w fits keeps may. (let one = one_may w may in no_damage g n old new w fits keeps one.0 one.1 t is.refused);
    fails = λ at kept. map_fails g (still_top at) n old new kept below t is.refused is.unless_tried;
    calls = is.calls;
  }

-- ---- the same change of many blocks

module _ {D : Type 0} (g : Ghosts D) (how : EntryChange) (blocks : List ℕ) (i : ℕ) (d0 d1 d2 : D) (below : i < length blocks) (so_far : Flips g (2 * i) i how (take i blocks) d0 d1 (Ok tt)) where
  more : take i blocks ++ (get_or blocks i 0 ∷ []) ≡ take (i + 1) blocks
  more = sym (take_more blocks i 0 below)

  pub flips_on : Flips g 2 1 how (get_or blocks i 0 ∷ []) d1 d2 (Ok tt) → Flips g (2 * (i + 1)) (i + 1) how (take (i + 1) blocks) d0 d2 (Ok tt)
  flips_on is = subst (λ (ns : List ℕ). Flips g (2 * (i + 1)) (i + 1) how ns d0 d2 (Ok tt)) more
      (more_calls g how d0 d2 (2 * i + 2) (i + 1) (2 * (i + 1)) (i + 1) _ (Ok tt) (omega arith) (omega arith) (flips_then g how (take i blocks) (get_or blocks i 0 ∷ []) d0 d1 d2 (2 * i) i 2 1 so_far (Ok tt) is))

  pub flips_fail : (t : Trouble) → Flips g 2 1 how (get_or blocks i 0 ∷ []) d1 d2 (Err t) → Flips g (2 * length blocks) (length blocks) how blocks d0 d2 (Err t)
  flips_fail t is = subst (λ (ns : List ℕ). Flips g (2 * length blocks) (length blocks) how ns d0 d2 (Err t)) (ap (λ (ns : List ℕ). ns ++ drop (i + 1) blocks) more ∙ take-append-drop (i + 1) blocks)
      (flips_stop g how d0 d2 (2 * i + 2) (i + 1) (2 * length blocks) (length blocks) (take i blocks ++ (get_or blocks i 0 ∷ [])) (drop (i + 1) blocks) t (omega (arith, below)) (omega (arith, below))
      (flips_then g how (take i blocks) (get_or blocks i 0 ∷ []) d0 d1 d2 (2 * i) i 2 1 so_far (Err t) is))

-- ---- the first of some blocks, which lie in one map, changed by one write of it

first_has : (n : ℕ) (ns : List ℕ) → IsFirst n ns → has_number n ns ≡ true
first_has n [] is = absurd is
first_has n (m ∷ ms) is = subst (λ (k : ℕ). has_number n (k ∷ ms) ≡ true) (sym is) (first_number n ms)

module _ {D : Type 0} (g : Ghosts D) (how : EntryChange) (d0 d1 : D) (n : ℕ) (ns : List ℕ) (first : IsFirst n ns) (only : OnlyReads g 1 d0 d1) where
  read_leaves : (w : Course) → Leaves g d0 d1 (IsOn w)
  read_leaves w = wider g d0 d1 Nothing (IsOn w) only.images (λ c none. absurd none)

  -- The map isn't read.
  pub run_unread : n < g.blocks d0 → (t : Trouble) → IsMapTrouble g d0 d1 n t → FlipsRun g how ns d0 d1 (Err (trouble_after_try t))
  run_unread below t refused = record {
    put = λ w fits keeps may. tt;
    tells = λ tells. tt;
    keeps = λ w fits keeps may. tt;
    leaves = λ w fits keeps may. read_leaves w;
    sound = λ w fits keeps may. (let here = may n (first_has n ns first) in no_damage g n d0 d1 w fits keeps here.0 here.1 t refused);
    fails = λ at kept. map_fails g (still_top at) n d0 d1 kept below t refused (λ un. only);
    calls = makes_then g d0 d1 d1 1 0 2 0 0 1 (reads_make g d0 d1 1 only) (no_flips g how d1 0 0).calls (omega arith) (omega arith);
  }

  module _ (d2 : D) (i freed : ℕ) (was now : List ℕ) (map : Tells g d0 → IsMapOf (g.content d0) n (entries_of was)) (spells : SpellsMap was) (run : FlipsFirst (Alike how) n i freed ns was now) (count : 1 + runs (drop i ns) ≡ runs ns) where
    same : Tells g d0 → block_at (g.content d0) (map_of n) ≡ was
    same tells = (map tells).spelled ∙ sym spells.spelled

    module _ (w : Course) (fits : IsCourse w) (keeps : Keeps g w d0) (may : MayTurn w (g.content d0) (λ k. how) (take i ns)) where
      turns : IsMapped (turned (λ k. how) (take i ns)) (g.content d0) (set (g.content d0) (map_of n) now)
      turns = run.changed (g.content d0) (same keeps.tells)

      on_all : IsOn w (set (g.content d1) (map_of n) now)
      on_all = subst (λ (a : Image). IsOn w (set a (map_of n) now)) (sym only.content) (turned_on w (λ k. how) fits (take i ns) (g.content d0) (set (g.content d0) (map_of n) now) keeps.content may turns)

      within : map_of n < length (g.content d1)
      within = spelled_within (g.content d1) (map_of n) was spells (ap (λ (a : Image). block_at a (map_of n)) only.content ∙ same keeps.tells)

      keeps1 : Keeps g w d1
      keeps1 = courses.reads g w d0 d1 1 keeps only

      run_leaves : Leaves g d1 d2 (Written (left_now g d1) (map_of n) now) → Leaves g d0 d2 (IsOn w)
      run_leaves images = then g d0 d1 d2 (IsOn w) (IsOn w) (read_leaves w) (courses.tried g w d1 d2 (map_of n) now keeps1 within on_all images) (λ c on. on)

    pub run_written : WritesMap g (map_of n) now d1 d2 (Ok (tt {0})) → FlipsRun g how ns d0 d2 (Ok i)
    run_written writes = (
      run.within,
      count,
      record {
        put = λ w fits keeps may. subst (IsMapped (turned (λ k. how) (take i ns)) (g.content d0)) (sym (writes.written ∙ ap (λ (a : Image). set a (map_of n) now) only.content)) (turns w fits keeps may);
        tells = λ tells. still_tells g (tells_on g d0 d1 d2 1 only tells) writes.told writes.calls.same;
        keeps = λ w fits keeps may. courses.wrote g w d1 d2 (map_of n) now (keeps1 w fits keeps may) (within w fits keeps may) (on_all w fits keeps may) writes.images writes.calls.same writes.written writes.told;
        leaves = λ w fits keeps may. run_leaves w fits keeps may writes.images;
        sound = λ w fits keeps may. tt;
        fails = λ at kept. tt;
        calls = makes_then g d0 d1 d2 1 1 2 0 1 1 (reads_make g d0 d1 1 only) writes.calls (omega arith) (omega arith);
      },
    )

    pub run_failed : (t : Trouble) → WritesMap g (map_of n) now d1 d2 (Err t) → FlipsRun g how ns d0 d2 (Err t)
    run_failed t writes = record {
      put = λ w fits keeps may. tt;
      tells = λ tells. tt;
      keeps = λ w fits keeps may. tt;
      leaves = λ w fits keeps may. run_leaves w fits keeps (may_first w (λ k. how) (take i ns) (drop i ns) (g.content d0) (subst (MayTurn w (g.content d0) (λ k. how)) (sym (take-append-drop i ns)) may)) writes.images;
      sound = λ w fits keeps may. ap is_damage writes.refused.0;
      fails = λ at kept. subst (CommitFails g (still_top at) d0 d2 kept) (sym writes.refused.0) (refl, (stopped_after_reads g d0 d1 d2 1 true only writes.refused.1).failed);
      calls = makes_then g d0 d1 d2 1 1 2 0 1 1 (reads_make g d0 d1 1 only) writes.calls (omega arith) (omega arith);
    }

-- one run after another, of which k were done
module _ {D : Type 0} (g : Ghosts D) (how : EntryChange) (blocks : List ℕ) (i k : ℕ) (d0 d1 d2 : D) (so_far : Flips g (2 * k) k how (take i blocks) d0 d1 (Ok tt)) (left_is : k + runs (drop i blocks) ≡ runs blocks) where
  pub run_on : (m : ℕ) → FlipsRun g how (drop i blocks) d1 d2 (Ok m) → (j : ℕ) × (j + runs (drop (i + m) blocks) ≡ runs blocks) × Flips g (2 * j) j how (take (i + m) blocks) d0 d2 (Ok tt)
  run_on m is = (
    k + 1,
    omega (arith, left_is, is.1, ap runs (drop-drop m i blocks)),
    subst (λ (ns : List ℕ). Flips g (2 * (k + 1)) (k + 1) how ns d0 d2 (Ok tt)) (sym (take-add i m blocks))
        (more_calls g how d0 d2 (2 * k + 2) (k + 1) (2 * (k + 1)) (k + 1) _ (Ok tt) (omega arith) (omega arith) (flips_then g how (take i blocks) (take m (drop i blocks)) d0 d1 d2 (2 * k) k 2 1 so_far (Ok tt) is.2)),
  )

  pub run_fail : i < length blocks → (t : Trouble) → FlipsRun g how (drop i blocks) d1 d2 (Err t) → Flips g (2 * runs blocks) (runs blocks) how blocks d0 d2 (Err t)
  run_fail below t is =
      subst (λ (ns : List ℕ). Flips g (2 * runs blocks) (runs blocks) how ns d0 d2 (Err t)) (take-append-drop i blocks)
      (more_calls g how d0 d2 (2 * k + 2) (k + 1) (2 * runs blocks) (runs blocks) _ (Err t) (omega (arith, some)) (omega (arith, some)) (flips_then g how (take i blocks) (drop i blocks) d0 d1 d2 (2 * k) k 2 1 so_far (Err t) is))
    where
      some : k + 1 ≤ runs blocks
      some = omega (arith, left_is, ap runs (drop_more blocks i 0 below))

-- by blocks
pub by_length : {D : Type 0} (g : Ghosts D) (how : EntryChange) (blocks : List ℕ) (ns : List ℕ) (old new : D) (r : Result (Unit {0}) Trouble) → Flips g (2 * runs blocks) (runs blocks) how ns old new r → Flips g (2 * length blocks) (length blocks) how ns old new r
by_length g how blocks ns old new r is = more_calls g how old new (2 * runs blocks) (runs blocks) (2 * length blocks) (length blocks) ns r (omega (arith, runs_most blocks)) (runs_most blocks) is
