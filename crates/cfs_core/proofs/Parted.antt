-- One part of a commit, of a core.
use Rattle.std.proofs.Common.{◌≡◌, inl, ℕ, ◌-◌, length, Bool, true, false, Option, Some, None, Ok, Err, IsTrue, refl, sym, ◌∙◌, ap, subst, arith, ◌≤◌}
use Rattle.std.specs.Prelude.{IsSome}
use Rattle.cfs_core.proofs.Words.{FitsDisk, Ghosts, Image, IsSwept, keeps, Kept, loose, next, State, stopped_at, wider}
use Rattle.cfs_base.specs.declared.refusal.Trouble.{Trouble}
use Rattle.cfs_base.specs.declared.refusal.Trouble.TheVariants as troubles
use Rattle.cfs_base.specs.Calls.{MakesAtMost}
use Rattle.cyl_alloc.specs.Left.{LeftCommit, after_next}
use Rattle.finisher.specs.Going.{Goes, IsLeftTrouble, PartEnds, unit_of}
use Rattle.intentions.specs.Left.{coming}
use Rattle.ufs_model.specs.declared.asked.Event.TheVariants as events
use Rattle.cfs_core.specs.declared.tidying.Tidy.TheVariants as tidies
use Rattle.cfs_core.specs.declared.tidying.TidyFault.{TidyFault}
use Rattle.cfs_core.specs.Collect.{Rests}
use Rattle.cfs_core.specs.Damage.{After, NoEntry}
use Rattle.cfs_core.specs.Kernel.{Kernel}
use Rattle.cfs_core.specs.Room.{lost_blocks}
use Rattle.cfs_core.specs.StandsFor.{HasCollection, ServesIs, drafts_of_handles, end_in, free_of, free_to_come}
use Rattle.cfs_core.specs.Tidy.{IsTidyResult, IsTidyCause, LeavesAll, TidiesVolume, IsNoDamage, tidy_fault_by, halt_by}
use Rattle.cfs_core.proofs.Serving.{fits, free_end, honest, pending, running, serves_from, serves_on, stands_from}
use Rattle.cfs_core.proofs.Stored.{counts_in, free_is, going_in}

module _ {D : Type 0} (g : Ghosts D) (left_sized : (d : D) (t : ℕ) (c : Image) → g.left_since d t c → length c ≡ g.blocks d) (sized : (d : D) → IsTrue (g.honest d) → length (g.content d) ≡ g.blocks d)
    (old : Kernel D) (d : D) (space : Kept) (none : old.stop ≡ None) (size : g.blocks d ≡ g.blocks old.disk) where
  abbrev new : Kernel D
  new = record old { disk = d; space = space }

  fits_before : (s : State) → ServesIs g old s → FitsDisk (g.blocks d) s.graph
  fits_before s serves = fits g old s serves (g.blocks d) (sized old.disk (honest g old s serves) ∙ sym size)

  -- the part is made
  module _ (b : Bool) (goes : Goes g old.disk d old.space space (unit_of (Ok b))) (s : State) (serves : ServesIs g old s) where
    comes : end_in g new ≡ end_in g old
    comes = goes.comes s.graph (going_in g s.graph (drafts_of_handles old.handles s.grants) old.disk old.space old.space.left serves.store)

    serves_part : ServesIs g new s
    serves_part =
        let store = goes.store s.graph (drafts_of_handles old.handles s.grants) serves.store in
        let free : free_to_come g new ≡ free_to_come g old = free_is g new space.left (counts_in g s.graph (drafts_of_handles old.handles s.grants) d space space.left store) ∙ ap free_of comes ∙ sym (free_end g old s serves) in
        record {
          front = record { drawn = serves.front.drawn; directory = serves.front.directory; grants = serves.front.grants; stopped = serves.front.stopped };
          state = serves.state;
          root = serves.root;
          store = store;
          left = refl;
          drafts = serves.drafts;
          swept = λ rests. subst (λ (i : Image). IsSwept i s.graph) (sym comes) (serves.swept rests);
          four = subst (λ (n : ℕ). 4 ≤ n) (sym free) serves.four;
          collecting = subst (λ (i : Image). HasCollection i s old.collections.collector) (sym comes) serves.collecting;
        }

    pub rests_part : Rests g old new s
    rests_part = record {
      stands = stands_from g new s none serves_part;
      keeps = keeps g left_sized old.words.seed s old.disk d (fits_before s serves) (goes.leaves s.graph (going_in g s.graph (drafts_of_handles old.handles s.grants) old.disk old.space old.space.left serves.store));
      lost = subst (λ (i : Image). lost_blocks i s.graph ≤ lost_blocks (end_in g old) s.graph) (sym comes) (omega arith);
    }

  pub tidies_step : (b : Bool) → Goes g old.disk d old.space space (unit_of (Ok b)) → IsSome old.space.left → space.left ≡ after_next old.space.left → MakesAtMost g 4 3 old.disk d → TidiesVolume g old new (Ok tidies.Step)
  tidies_step b goes some left calls = record {
    event = λ s stands. rests_part b goes s (serves_from g old s none stands);
    stopped = λ stop is. cc;
    part = (some, left);
    idle = λ _ nothing. let no : IsSome {T = LeftCommit} None = subst (λ (w : Option LeftCommit). IsSome w) nothing some in cc;
    still = tt;
    sound = λ _ s stands. tt;
    stops = tt;
    goes_on = refl;
    cause = tt;
    calls = calls;
    same = refl;
  }

-- it isn't: the commit is as it was
module _ {D : Type 0} (g : Ghosts D) (left_sized : (d : D) (t : ℕ) (c : Image) → g.left_since d t c → length c ≡ g.blocks d) (sized : (d : D) → IsTrue (g.honest d) → length (g.content d) ≡ g.blocks d)
    (old : Kernel D) (d : D) (none : old.stop ≡ None) (calls : MakesAtMost g 4 3 old.disk d) where
  abbrev cut : Kernel D
  cut = record old { disk = d }

  abbrev told : Trouble → TidyFault
  told t = tidy_fault_by t (g.moment d)

  abbrev halted : Trouble → Kernel D
  halted t = record cut { stop = halt_by (told t) old.stop }

  fits_cut : (s : State) → ServesIs g old s → FitsDisk (g.blocks d) s.graph
  fits_cut s serves = fits g old s serves (g.blocks d) (sized old.disk (honest g old s serves) ∙ sym calls.same.size)

  event_cut : (t : Trouble) → Goes g old.disk d old.space old.space (Err t) → PartEnds g 4 3 old.disk d old.space old.space (Err t) → (s : State) → ServesIs g old s → IsTidyResult g old (halted t) s (Err (told t))
  event_cut (troubles.Disk false) goes ends s serves =
      let reads = (ends.untried refl).1 in
      record {
        stands = stands_from g (halted (troubles.Disk false)) s none (serves_on g 1 old (halted (troubles.Disk false)) reads refl s serves);
        keeps = keeps g left_sized old.words.seed s old.disk d (fits_cut s serves) (wider g old.disk d _ _ reads.images (λ c no. absurd no));
        lost = subst (λ (i : Image). lost_blocks (coming i old.space.left) s.graph ≤ lost_blocks (end_in g old) s.graph) (sym reads.content) (omega arith);
      }
  event_cut (troubles.Disk true) goes ends s serves =
      let stop : ℕ = g.moment d - 1 in
      let step : next old.words.seed s (events.Halted stop) ≡ Some (stopped_at stop s) = rw (running g old s serves none) refl in
      record {
        after = stopped_at stop s;
        step = step;
        stands = record { drawn = serves.front.drawn; directory = serves.front.directory; grants = serves.front.grants; stopped = refl };
        lost = λ none. cc;
        survives = inl (loose g left_sized old.words.seed s old.disk d (fits_cut s serves) (events.Halted stop) (stopped_at stop s) step refl
            (goes.leaves s.graph (going_in g s.graph (drafts_of_handles old.handles s.grants) old.disk old.space old.space.left serves.store)) (pending g old s serves));
      }
  event_cut (troubles.Damaged damage) goes ends s serves =
      let no : true ≡ false = goes.sound s.graph (going_in g s.graph (drafts_of_handles old.handles s.grants) old.disk old.space old.space.left serves.store) in cc

  cause_cut : (t : Trouble) → IsLeftTrouble g old.disk d t → IsTidyCause g old (halted t) (told t)
  cause_cut (troubles.Disk false) is = is
  cause_cut (troubles.Disk true) is = (is, refl)
  cause_cut (troubles.Damaged damage) is = (After (NoEntry is.0 is.1 is.3), refl)

  still_cut : (t : Trouble) → PartEnds g 4 3 old.disk d old.space old.space (Err t) → LeavesAll g old (halted t) (told t)
  still_cut (troubles.Disk false) ends = (refl, (ends.untried refl).1)
  still_cut (troubles.Disk true) ends = tt
  still_cut (troubles.Damaged damage) ends = tt

  sound_cut : (t : Trouble) → Goes g old.disk d old.space old.space (Err t) → (s : State) → ServesIs g old s → IsNoDamage (told t)
  sound_cut (troubles.Disk false) goes s serves = tt
  sound_cut (troubles.Disk true) goes s serves = tt
  sound_cut (troubles.Damaged damage) goes s serves =
      let no : true ≡ false = goes.sound s.graph (going_in g s.graph (drafts_of_handles old.handles s.grants) old.disk old.space old.space.left serves.store) in cc

  pub tidies_cut : (t : Trouble) → Goes g old.disk d old.space old.space (Err t) → PartEnds g 4 3 old.disk d old.space old.space (Err t) → IsSome old.space.left → TidiesVolume g old (halted t) (Err (told t))
  tidies_cut t goes ends some = record {
    event = λ s stands. event_cut t goes ends s (serves_from g old s none stands);
    stopped = λ stop is. cc;
    part = tt;
    idle = λ _ nothing. let no : IsSome {T = LeftCommit} None = subst (λ (w : Option LeftCommit). IsSome w) nothing some in cc;
    still = still_cut t ends;
    sound = λ _ s stands. sound_cut t goes s (serves_from g old s none stands);
    stops = refl;
    goes_on = tt;
    cause = cause_cut t ends.refused;
    calls = calls;
    same = refl;
  }
