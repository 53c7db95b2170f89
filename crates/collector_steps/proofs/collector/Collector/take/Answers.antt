use Rattle.std.proofs.Common.{◌≡◌, ◌∙◌, List, ◌∷◌, ap, drop, subst, sym}
use Rattle.collector_steps.proofs.Words.{Collecting, IsMarking, IsPaced, Rescue, colours_in, count_after, rescued, volume_of, waiting_in}
use Rattle.collector_steps.proofs.Firsts.{first_of, head_of}
use Rattle.collector_steps.proofs.Kept.{is_directory_of, as_marking, of_marking, take_kept}
use Rattle.collector_steps.proofs.Lefts.{takes_less}
use Rattle.collector_steps.proofs.collector.Collector.take.Goals as goal

pub returns-clause-taken : goal.returns-clause-taken
returns-clause-taken c = λ r rest is.
    let one = first_of c.self.inside.rescues.list rest r c.in-Some.rescue (ap waiting_in c.self.view_is ∙ is) (sym c.take.ensures.taken ∙ c.in-Some.is) in (
      c.take.ensures.rest ∙ one.1,
      c.shade_rescued.ensures.shaded
          ∙ ap (rescued c.args.directory.now.named c.in-Some.rescue) (ap colours_in c.self.view_is)
          ∙ ap (λ (q : Rescue). rescued c.args.directory.now.named q (colours_in c.args.self.now)) one.0,
    )

pub returns-clause-keeps : goal.returns-clause-keeps
returns-clause-keeps c = λ s image state named is.
    let was = c.self.view_is in
    let waits : waiting_in c.args.self.now ≡ c.in-Some.rescue ∷ drop 1 c.self.inside.rescues.list =
    ap waiting_in (sym was) ∙ head_of c.self.inside.rescues.list c.in-Some.rescue (sym c.take.ensures.taken ∙ c.in-Some.is) in
    let marking = of_marking image s c.args.self.now c.requires.phase is in
    let taken = returns-clause-taken c c.in-Some.rescue (drop 1 c.self.inside.rescues.list) waits in
    as_marking image s _ (rescued c.args.directory.now.named c.in-Some.rescue (colours_in c.args.self.now)) (drop 1 c.self.inside.rescues.list) (volume_of c.args.self.now) (count_after c.args.self.now.steps) c.args.self.now.added
    (ap (λ (k : Collecting). k.phase) was ∙ c.requires.phase) taken.1 taken.0 (c.shade_rescued.ensures.blocks ∙ ap volume_of was) (c.saturating_add-self-inside.ensures ∙ ap (λ (k : Collecting). count_after k.steps) was) (ap (λ (k : Collecting). k.added) was)
    (take_kept s state c.args.directory.now.named (is_directory_of c.kinds_follow_the_graph.ensures.kind c.args.directory.now.named s.graph named) (colours_in c.args.self.now) (volume_of c.args.self.now) c.args.self.now.steps c.args.self.now.added c.in-Some.rescue (drop 1 c.self.inside.rescues.list)
    (subst (λ (ws : List Rescue). IsMarking s (colours_in c.args.self.now) ws) waits marking.0)
    (subst (λ (ws : List Rescue). IsPaced s (colours_in c.args.self.now) ws (volume_of c.args.self.now) c.args.self.now.steps c.args.self.now.added) waits marking.1))

pub returns-clause-less : goal.returns-clause-less
returns-clause-less c =
    takes_less c.args.self.now _ (c.shade_rescued.ensures.blocks ∙ ap volume_of c.self.view_is) c.args.directory.now c.directories_are_listings.ensures c.requires.blocks c.requires.phase
    (ap (λ (k : Collecting). k.phase) c.self.view_is) c.requires.waits (returns-clause-taken c)
