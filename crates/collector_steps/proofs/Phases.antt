-- How a collector that sweeps goes on.
use Rattle.std.proofs.Common.{◌≡◌, ℕ, ◌+◌, ◌*◌, ◌/◌, ◌<◌, ◌≤◌, List, length, refl, sym, subst, arith, true, false, cond, nat_lt}
use Rattle.collector_steps.proofs.Words.{Collecting, Holds, Image, IsCollecting, IsPhaseOf, IsPhaseReady, IsSwept, IsSweptOf, AreStepsWithin, Kind, MayBegin, NoInner, NoStray, Pass, Phase, Puid, State, both_ways, count_after, cylinder_of, entry_in, false_from_ne_true, has_block, has_root_in, ltb-false, next_phase, volume_of}
use Rattle.collector_steps.specs.declared.phase.Phase.TheVariants as phases
use Rattle.collector_steps.specs.declared.sweep.Pass.TheVariants as passes
use Rattle.collector_steps.proofs.Sweeping.{inner_kept, inner_on, stray_on, within}

-- the cylinder is one of the volume
pub ready_below : (pass : Pass) (p : Phase) (blocks spare : ℕ) → IsPhaseOf pass p → IsPhaseReady p blocks spare → 64 * cylinder_of p < blocks
ready_below pass phases.Idle blocks spare of ready = absurd of
ready_below pass phases.Marking blocks spare of ready = absurd of
ready_below pass (phases.Inner c) blocks spare of ready = ready
ready_below pass (phases.Roots c) blocks spare of ready = ready
ready_below pass phases.Swept blocks spare of ready = absurd of

-- roots are swept last
pub may_begin : (pass : Pass) (p : Phase) (a : Image) (s : State) (k : Collecting) → IsPhaseOf pass p → length a ≡ volume_of k → IsCollecting p a s k → MayBegin pass a s.graph
may_begin pass phases.Idle a s k of size is = absurd of
may_begin pass phases.Marking a s k of size is = absurd of
may_begin passes.Inner (phases.Inner c) a s k of size is = tt
may_begin passes.Roots (phases.Inner c) a s k of size is = absurd of
may_begin passes.Inner (phases.Roots c) a s k of size is = absurd of
may_begin passes.Roots (phases.Roots c) a s k of size is = subst (λ (n : ℕ). NoInner a s.graph (n / 64)) (sym size) is.0
may_begin pass phases.Swept a s k of size is = absurd of

module _ (directory : List (Puid × Kind)) (s : State) (roots : (r : ℕ) → has_root_in directory r ≡ has_block s.graph.objects r) (a b : Image) (k l : Collecting) (size : length a ≡ volume_of k) (holds : Holds b s.graph)
    (made : l.steps ≡ count_after k.steps) (added : l.added ≡ k.added) (volume : volume_of l ≡ volume_of k) where
  abbrev cylinders : ℕ
  cylinders = volume_of k / 64

  within_on : (more now : ℕ) → more + 1 ≤ now → AreStepsWithin k more → AreStepsWithin l now
  within_on more now le is less = let before = is (omega (arith, less, added)) in omega (arith, before, made, added, volume, le)

  -- after the last cylinder
  all_swept : (c : ℕ) → length b ≡ length a → cylinders ≤ c → NoStray b s.graph c → IsSwept b s.graph
  all_swept c same le none = record {
    none = λ n. false_from_ne_true _ (λ stray. both_ways _ (none n (omega (arith, within b s.graph holds n (entry_in b n) refl stray, same, size, le))) stray);
  }

  -- how the sweep goes on
  pub goes_on : (pass : Pass) (p : Phase) → IsPhaseOf pass p → 64 * cylinder_of p < volume_of k → IsSweptOf directory pass (cylinder_of p) a b → IsCollecting p a s k → IsCollecting (next_phase cylinders p) b s l
  goes_on pass phases.Idle of below sweep is = absurd of
  goes_on pass phases.Marking of below sweep is = absurd of
  goes_on passes.Roots (phases.Inner c) of below sweep is = absurd of
  goes_on passes.Inner (phases.Roots c) of below sweep is = absurd of
  goes_on pass phases.Swept of below sweep is = absurd of
  goes_on passes.Inner (phases.Inner c) of below sweep is =
      let none = inner_on directory s.graph roots passes.Inner c a b sweep refl is.0 in
      let inside : c + 1 ≤ cylinders = omega (arith, below, size, sweep.size, holds.label.size_is) in
      elim (nat_lt (c + 1) cylinders) as (λ t. nat_lt (c + 1) cylinders ≡ t → IsCollecting (cond t (phases.Inner (c + 1)) (phases.Roots 0)) b s l) [
        | true ↦ λ less. (none, within_on (2 + c) (2 + (c + 1)) (omega arith) is.1)
        | false ↦ λ last. (
          λ n under stray. none n (omega (arith, under, volume, ltb-false (c + 1) cylinders last)) stray,
          (λ n under. absurd (omega (arith, under)), within_on (2 + c) (2 + volume_of l / 64 + 0) (omega (arith, inside, volume)) is.1),
        )
      ] refl
  goes_on passes.Roots (phases.Roots c) of below sweep is =
      let inside : c + 1 ≤ cylinders = omega (arith, below, size, sweep.size, holds.label.size_is) in
      let inner : NoInner b s.graph (volume_of l / 64) = subst (λ (n : ℕ). NoInner b s.graph (n / 64)) (sym volume) (inner_kept directory s.graph roots passes.Roots c a b sweep cylinders is.0) in
      let none = stray_on directory s.graph roots passes.Roots c a b sweep refl (subst (λ (n : ℕ). NoInner a s.graph (n / 64)) (sym size) is.0) is.1.0 (omega (arith, inside, size)) in
      elim (nat_lt (c + 1) cylinders) as (λ t. nat_lt (c + 1) cylinders ≡ t → IsCollecting (cond t (phases.Roots (c + 1)) phases.Swept) b s l) [
        | true ↦ λ less. (inner, (none, within_on (2 + cylinders + c) (2 + volume_of l / 64 + (c + 1)) (omega (arith, volume)) is.1.1))
        | false ↦ λ last. (
          all_swept (c + 1) sweep.size (ltb-false (c + 1) cylinders last) none,
          within_on (2 + cylinders + c) (2 + 2 * (volume_of l / 64)) (omega (arith, inside, volume)) is.1.1,
        )
      ] refl
