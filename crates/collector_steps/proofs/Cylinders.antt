-- What the sweep of a cylinder does to a disk, from what its calls do.
use Rattle.std.proofs.Common.{◌≡◌, ◌≢◌, ℕ, ◌+◌, ◌*◌, ◌/◌, ◌<◌, List, length, set, count_by, refl, sym, ap, ap₂, ◌∙◌, subst, arith, true, false, Ok, Err}
use Rattle.collector_steps.proofs.Words.{Accounts, AreCounts, Carries, Frames, Ghosts, Graph, HasStopped, Holds, Image, IsDamageTrouble, IsFreeElsewhere, IsMapOf, IsMapTrouble, IsSome, IsSweep, IsSweptOf, Kept, Kind, Leaves, MakesAtMost, MapEntry, Nothing, OnlyReads, Drafts, Pass, Puid, Serves, State, Tells, Trouble, carries_on, free_in_cylinder, goes, has_block, has_root_in, kinds_of, makes_then, map_of, map_spelling, reads_make, stopped_after_reads, sweep_goes_on, swept_map, then, trouble_had_tried, wider}
use Rattle.cfs_base.specs.declared.refusal.Trouble.TheVariants as trouble
use Rattle.collector_steps.specs.Sweep.{NoneGoes}
use Rattle.collector_steps.proofs.Sweeping.{frames, sweeps}
use Rattle.collector_steps.proofs.Written.{after_of, counted, elsewhere, none_freed, swept_so}

-- ---- a disk that serves

pub serves_read : {D : Type 0} (g : Ghosts D) (old new : D) (n : ℕ) (directory : List (Puid × Kind)) (s : State) (ds : Drafts) → OnlyReads g n old new → Serves g old directory s ds → Serves g new directory s ds
serves_read g old new n directory s ds reads serves = record {
  state = serves.state;
  named = serves.named;
  carries = carries_on g s.graph old new serves.carries reads.content reads.told reads.images reads.same;
  accounts = subst (λ (image : Image). Accounts image s.graph ds) (sym reads.content) serves.accounts;
}

module _ {D : Type 0} (g : Ghosts D) (directory : List (Puid × Kind)) (pass : Pass) (cylinder : ℕ) (law : (h : Graph) (r : ℕ) → has_root_in (kinds_of h) r ≡ has_block h.objects r) where
  pub roots : (s : State) → directory ≡ kinds_of s.graph → (r : ℕ) → has_root_in directory r ≡ has_block s.graph.objects r
  roots s named r = ap (λ (ns : List (Puid × Kind)). has_root_in ns r) named ∙ law s.graph r

  module _ (old mid : D) (before : Kept) (reads : OnlyReads g 1 old mid) where
    calls_read : MakesAtMost g 2 1 old mid
    calls_read =
        let made = reads_make g old mid 1 reads in
        record { later = made.later; keeps = made.keeps; same = made.same; faults = made.faults; calls = omega (arith, reads.calls); tries = omega (arith, reads.tries); no_fewer = made.no_fewer }

    leaves_read : (P : Image → Type 0) → Leaves g old mid P
    leaves_read P = wider g old mid Nothing P reads.images (λ c none. absurd none)

    -- nothing goes
    pub none_went : (Tells g old → IsSweptOf directory pass cylinder (g.content old) (g.content old)) → IsSweep g directory pass cylinder old mid before before (Ok tt)
    none_went same = record {
      swept = λ tells. subst (IsSweptOf directory pass cylinder (g.content old)) (sym reads.content) (same tells);
      serves = λ s ds serves begun. serves_read g old mid 1 directory s ds reads serves;
      leaves = λ s ds serves. leaves_read (λ c. Holds c s.graph);
      counts = λ tells are. subst (λ (image : Image). AreCounts image before) (sym reads.content) are;
      cylinders = refl;
      left = refl;
      kept = tt;
      refused = tt;
      sound = λ s ds serves. tt;
      unless_tried = tt;
      calls = calls_read;
      spares = λ tells none. reads;
    }

    -- the map isn't read
    pub read_refused : (t : Trouble) → trouble_had_tried t ≡ false → 64 * cylinder < g.blocks old → (Tells g old → length (g.content old) ≡ g.blocks old) → IsMapTrouble g old mid (64 * cylinder) t → IsSweep g directory pass cylinder old mid before before (Err t)
    read_refused t untried below sized refused = record {
      swept = λ tells. tt;
      serves = λ s ds serves begun. tt;
      leaves = λ s ds serves. leaves_read (λ c. Holds c s.graph);
      counts = λ tells are. tt;
      cylinders = refl;
      left = refl;
      kept = refl;
      refused = refused;
      sound = λ s ds serves. no_damage s ds serves t refused;
      unless_tried = λ none. reads;
      calls = calls_read;
      spares = λ tells none. reads;
    }
      where
        no_damage : (s : State) (ds : Drafts) → Serves g old directory s ds → (u : Trouble) → IsMapTrouble g old mid (64 * cylinder) u → ¬ IsDamageTrouble u
        no_damage s ds serves (trouble.Disk tried) is = λ h. h
        no_damage s ds serves (trouble.Damaged damage) is = λ h.
            let tells = serves.carries.tells in
            let bad = is.bad tells in
            let n = map_of (64 * cylinder) + bad.0 in
            let some = serves.carries.holds.maps n (omega (arith, bad.1, below, sized tells, serves.carries.holds.label.size_is)) in
            let none = subst IsSome bad.2 some in
            cc

    -- ---- the map is written with what went made Free

    module _ (new : D) (es : List MapEntry) (block : List ℕ) (spelled : block ≡ map_spelling (swept_map directory pass es)) (is : Tells g old → IsMapOf (g.content old) (64 * cylinder) es) (below : 64 * cylinder < g.blocks old) (sized : Tells g old → length (g.content old) ≡ g.blocks old)
        (some : count_by (goes directory pass) es ≢ 0) where
      inside : Tells g old → 64 * cylinder < length (g.content old)
      inside tells = omega (arith, below, sized tells)

      swept_image : Tells g old → IsSweptOf directory pass cylinder (g.content old) (set (g.content mid) (64 * cylinder) block)
      swept_image tells =
          subst (λ (image : Image). IsSweptOf directory pass cylinder (g.content old) (set image (64 * cylinder) block)) (sym reads.content)
          (subst (λ (b : List ℕ). IsSweptOf directory pass cylinder (g.content old) (set (g.content old) (64 * cylinder) b)) (sym spelled) (swept_so directory pass (g.content old) cylinder es (is tells) (inside tells)))

      framed : (s : State) (ds : Drafts) → Serves g old directory s ds → Frames (g.content mid) s.graph (set (g.content mid) (64 * cylinder) block)
      framed s ds serves =
          subst (λ (image : Image). Frames image s.graph (set (g.content mid) (64 * cylinder) block)) (sym reads.content)
          (frames directory s.graph (roots s serves.named) pass cylinder (g.content old) (set (g.content mid) (64 * cylinder) block) (swept_image serves.carries.tells) ds serves.accounts)

      module _ (leaves : (h : Graph) → Carries g h mid → Frames (g.content mid) h (set (g.content mid) (64 * cylinder) block) → Leaves g mid new (λ c. Holds c h)) (makes : MakesAtMost g 1 1 mid new) where
        calls_both : MakesAtMost g 2 1 old new
        calls_both = makes_then g old mid new 1 1 2 0 1 1 (reads_make g old mid 1 reads) makes (omega arith) (omega arith)

        leaves_both : (s : State) (ds : Drafts) → Serves g old directory s ds → Leaves g old new (λ c. Holds c s.graph)
        leaves_both s ds serves =
            then g old mid new (λ c. Holds c s.graph) (λ c. Holds c s.graph) (leaves_read (λ c. Holds c s.graph))
            (leaves s.graph (serves_read g old mid 1 directory s ds reads serves).carries (framed s ds serves)) (λ c holds. holds)

        spared : Tells g old → NoneGoes directory pass cylinder (g.content old) → OnlyReads g 1 old new
        spared tells none = absurd (some (none_freed directory pass (g.content old) cylinder es (is tells) (inside tells) none))

        pub write_refused : HasStopped g true mid new → IsSweep g directory pass cylinder old new before before (Err (trouble.Disk true))
        write_refused stopped = record {
          swept = λ tells. tt;
          serves = λ s ds serves begun. tt;
          leaves = leaves_both;
          counts = λ tells are. tt;
          cylinders = refl;
          left = refl;
          kept = refl;
          refused = stopped_after_reads g old mid new 1 true reads stopped;
          sound = λ s ds serves h. h;
          unless_tried = λ tried. cc;
          calls = calls_both;
          spares = spared;
        }

        pub done : (after : Kept) → g.content new ≡ set (g.content mid) (64 * cylinder) block
            → ((h : Graph) → Carries g h mid → Frames (g.content mid) h (set (g.content mid) (64 * cylinder) block) → Carries g h new)
            → length after.free ≡ length before.free → after.left ≡ before.left
            → ((image other : Image) → AreCounts image before → IsFreeElsewhere image (64 * cylinder) other
            → free_in_cylinder other (64 * cylinder / 64) ≡ free_in_cylinder image (64 * cylinder / 64) + count_by (goes directory pass) es → AreCounts other after)
            → IsSweep g directory pass cylinder old new before after (Ok tt)
        done after content carries cylinders left counts = record {
          swept = now;
          serves = λ s ds serves begun. record {
            state = serves.state;
            named = serves.named;
            carries = carries s.graph (serves_read g old mid 1 directory s ds reads serves).carries (framed s ds serves);
            accounts = sweep_goes_on (g.content old) (g.content new) s.graph ds serves.accounts
                (sweeps directory s.graph (roots s serves.named) pass cylinder (g.content old) (g.content new) (now serves.carries.tells) ds serves.accounts begun);
          };
          leaves = leaves_both;
          counts = λ tells are. subst (λ (image : Image). AreCounts image after) (sym written)
              (counts (g.content old) (after_of directory pass (g.content old) cylinder es) are (elsewhere directory pass (g.content old) cylinder es (is tells) (inside tells)) (counted directory pass (g.content old) cylinder es (is tells) (inside tells)));
          cylinders = cylinders;
          left = left;
          kept = tt;
          refused = tt;
          sound = λ s ds serves. tt;
          unless_tried = tt;
          calls = calls_both;
          spares = spared;
        }
          where
            now : Tells g old → IsSweptOf directory pass cylinder (g.content old) (g.content new)
            now tells = subst (IsSweptOf directory pass cylinder (g.content old)) (sym content) (swept_image tells)

            written : g.content new ≡ after_of directory pass (g.content old) cylinder es
            written = content ∙ ap₂ (λ (image : Image) (b : List ℕ). set image (64 * cylinder) b) reads.content spelled
