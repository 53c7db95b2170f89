use Rattle.std.proofs.Common.{◌≡◌, ◌∙◌, ◌*◌, ◌/◌, ◌<◌, ℕ, List, ap, arith, length, refl, subst, sym, vec_capacity, Ok}
use Rattle.collector_steps.proofs.Words.{Collecting, Collects, Ghosts, Graph, HasSwept, IsCollecting, IsPhaseOf, IsSweep, Kept, Kind, Drafts, Pass, Phase, Puid, Serves, State, Tells, blocks_marked, count_after, cylinder_of, has_block, has_root_in, kinds_of, next_phase, the_view, volume_of}
use Rattle.collector_steps.proofs.Cylinders.{roots}
use Rattle.collector_steps.proofs.Lefts.{sweeps_less}
use Rattle.collector_steps.proofs.Phases.{goes_on, may_begin, ready_below}
use Rattle.collector_steps.proofs.collector.Collector.sweep.Goals as goal

-- ---- a sweep that is done

module _ {D : Type 0} (g : Ghosts D) (directory : List (Puid × Kind)) (pass : Pass) (law : (h : Graph) (r : ℕ) → has_root_in (kinds_of h) r ≡ has_block h.objects r) (old new : D) (before after : Kept) (k l : Collecting)
    (of : IsPhaseOf pass k.phase) (sized : Tells g old → length (g.content old) ≡ volume_of k) (below : 64 * cylinder_of k.phase < volume_of k)
    (sweep : IsSweep g directory pass (cylinder_of k.phase) old new before after (Ok tt))
    (phase : l.phase ≡ next_phase (volume_of k / 64) k.phase) (steps : l.steps ≡ count_after k.steps) (added : l.added ≡ k.added) (marks : l.marks ≡ k.marks) (rescues : l.rescues ≡ k.rescues) where
  served : (s : State) (ds : Drafts) → Serves g old directory s ds → Collects (g.content old) s k → Serves g new directory s ds
  served s ds serves collects = sweep.serves s ds serves (may_begin pass k.phase (g.content old) s k of (sized serves.carries.tells) collects)

  done : HasSwept g directory pass old new before after k l (Ok tt)
  done = record {
    sweep = sweep;
    serves = served;
    keeps = λ s ds serves collects. subst (λ (p : Phase). IsCollecting p (g.content new) s l) (sym phase)
        (goes_on directory s (roots g directory pass (cylinder_of k.phase) law s serves.named) (g.content old) (g.content new) k l (sized serves.carries.tells) (served s ds serves collects).accounts.holds
        steps added (ap (λ m. blocks_marked m) marks) pass k.phase of below (sweep.swept serves.carries.tells) collects);
    phase = phase;
    steps = steps;
    added = added;
    less = sweeps_less k l (ap (λ m. blocks_marked m) marks) pass of phase;
    marks = marks;
    rescues = rescues;
    same = tt;
  }

-- the phase is that of the pass, inside as it is seen
of_pass : (pass : Pass) (k l : Collecting) → k ≡ l → IsPhaseOf pass l.phase → IsPhaseOf pass k.phase
of_pass pass k l same of = subst (λ (c : Collecting). IsPhaseOf pass c.phase) (sym same) of

pub sweep_cylinder-requires-clause-on_disk : goal.sweep_cylinder-requires-clause-on_disk
sweep_cylinder-requires-clause-on_disk g c =
    let seen = ap (λ (k : Collecting). volume_of k) c.self.view_is in
    let below = ready_below c.args.pass c.self.inside.phase (blocks_marked c.self.inside.marks) (vec_capacity c.self.inside.condemned) (of_pass c.args.pass (the_view c.self.inside) c.args.self.now c.self.view_is c.requires.phase) c.self.invariant.1.ready in
    omega (arith, below, seen, c.cylinder_of.ensures, c.requires.counts)

pub returns : goal.returns
returns g c =
    let k = the_view c.self.inside in
    let d = c.args.disk.now in
    let seen = ap (λ (m : Collecting). volume_of m) c.self.view_is in
    let of = of_pass c.args.pass k c.args.self.now c.self.view_is c.requires.phase in
    let below = ready_below c.args.pass c.self.inside.phase (blocks_marked c.self.inside.marks) (vec_capacity c.self.inside.condemned) of c.self.invariant.1.ready in
    let sweep : IsSweep g.D.Disk c.args.directory.now.named c.args.pass (cylinder_of k.phase) d c.sweep_cylinder.new.disk c.args.space.now c.sweep_cylinder.new.space (Ok tt) =
    subst (λ (n : ℕ). IsSweep g.D.Disk c.args.directory.now.named c.args.pass n d c.sweep_cylinder.new.disk c.args.space.now c.sweep_cylinder.new.space (Ok tt)) c.cylinder_of.ensures c.in_ok-sweep_cylinder.ensures in
    let l : Collecting = record k { phase = c.next_phase-self-inside.result; steps = c.saturating_add-self-inside.result } in
    let phase : l.phase ≡ next_phase (volume_of k / 64) k.phase = c.next_phase-self-inside.ensures ∙ ap (λ (n : ℕ). next_phase n k.phase) (omega (arith, c.blocks-cylinders.ensures, c.requires.size, seen)) in
    subst (λ (m : Collecting). HasSwept g.D.Disk c.args.directory.now.named c.args.pass d c.sweep_cylinder.new.disk c.args.space.now c.sweep_cylinder.new.space m l (Ok tt)) c.self.view_is
    (done g.D.Disk c.args.directory.now.named c.args.pass c.kinds_follow_the_graph.ensures.root d c.sweep_cylinder.new.disk c.args.space.now c.sweep_cylinder.new.space k l of
    (λ tells. g.met.D.Disk.sized d tells.honest ∙ c.requires.size ∙ sym seen) below sweep phase c.saturating_add-self-inside.ensures refl refl refl)
