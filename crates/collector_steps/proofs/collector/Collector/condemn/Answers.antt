use Rattle.std.proofs.Common.{◌≡◌, ◌∙◌, List, [], ap, arith, refl, subst, sym, vec_len, vec_capacity, length, ◌++◌, Vec, Global, not}
use Rattle.collector_steps.proofs.Words.{Collecting, Collects, Image, IsMarking, IsPaced, IsPhaseReady, MayVanish, Phase, Puid, Rescue, State, allowed, blocks_marked, colours_in, colours_of, condemned_may_vanish, filter, ids_of, is_among, kept_by, keys_of, kinds_of, pace_end, taken_by, unmarked, volume_of, well, without}
use Rattle.collector_steps.specs.declared.phase.Phase.TheVariants as phases
use Rattle.ufs_model.specs.declared.collection.Collection.TheVariants as collections
use Rattle.collector_steps.proofs.Directories.{few_named, taken_unmarked}
use Rattle.collector_steps.proofs.Kept.{of_marking}
use Rattle.collector_steps.proofs.Lefts.{condemns_less}
use Rattle.collector_steps.proofs.collector.Collector.condemn.Goals as goal

pub take_unmarked-requires : goal.take_unmarked-requires
take_unmarked-requires c =
    let inside = c.self.inside in
    let phase = ap (λ (k : Collecting). k.phase) c.self.view_is ∙ c.requires.phase in
    let ready = subst (λ (p : Phase). IsPhaseReady p (blocks_marked inside.marks) (vec_capacity inside.condemned)) phase c.self.invariant.1.ready in
    let room = few_named c.args.directory.now c.directories_are_listings.ensures in
    let none : vec_len inside.condemned ≡ 0 = inside.condemned.ok.0 ∙ ap length c.self.invariant.0 in
    rw (c.replace-gone.ensures.value) (omega (arith, ready, room, c.requires.blocks, ap volume_of c.self.view_is, none))

-- those that were taken out
taken : (c : goal.After-new-2) → c.new-2.result ≡ taken_by (colours_in c.args.self.now).marked c.args.directory.now.named
taken c =
    c.new-2.ensures ∙ c.take_unmarked.ensures.gone
    ∙ ap (λ (items : List Puid). items ++ taken_by (colours_of c.self.inside.marks).marked c.args.directory.now.named) (ap (λ (gone : Vec Puid Global). gone.items) c.replace-gone.ensures.value ∙ c.self.invariant.0)
    ∙ ap (λ (k : Collecting). taken_by (colours_in k).marked c.args.directory.now.named) c.self.view_is

pub returns-clause-ids : goal.returns-clause-ids
returns-clause-ids c = taken c ∙ taken_unmarked (colours_in c.args.self.now) c.args.directory.now.named

-- nothing waits
marking : (c : goal.After-new-2) (s : State) (image : Image) → Collects image s c.args.self.now → IsMarking s (colours_in c.args.self.now) [] × IsPaced s (colours_in c.args.self.now) [] (volume_of c.args.self.now) c.args.self.now.steps c.args.self.now.added
marking c s image is =
    subst (λ (ws : List Rescue). IsMarking s (colours_in c.args.self.now) ws × IsPaced s (colours_in c.args.self.now) ws (volume_of c.args.self.now) c.args.self.now.steps c.args.self.now.added) c.requires.taken
    (of_marking image s c.args.self.now c.requires.phase is)

pub returns-clause-legal : goal.returns-clause-legal
returns-clause-legal c = λ s image state named is.
    let ids : c.new-2.result ≡ unmarked (colours_in c.args.self.now) (ids_of s.graph) =
    returns-clause-ids c ∙ ap (unmarked (colours_in c.args.self.now)) (ap keys_of named ∙ c.kinds_follow_the_graph.ensures.ids s.graph) in
    subst (MayVanish s) (sym ids) (condemned_may_vanish s (well s state) (colours_in c.args.self.now) c.requires.read (marking c s image is).0)

pub returns-clause-keeps : goal.returns-clause-keeps
returns-clause-keeps c = λ seed s t a b named is fits gone.
    let paced = (marking c s a is).1 in (
      (λ n below. absurd (omega (arith, below))),
      λ less.
          let was = ap (λ (k : Collecting). k.added) c.self.view_is in
          let end = pace_end s (colours_in c.args.self.now) (volume_of c.args.self.now) c.args.self.now.steps c.args.self.now.added paced (omega (arith, less, was)) fits in
          omega (arith, end, was, ap (λ (k : Collecting). k.steps) c.self.view_is, ap volume_of c.self.view_is, c.saturating_add-self-inside.ensures),
    )

pub returns-clause-left : goal.returns-clause-left
returns-clause-left c = λ seed s t named gone.
    let goes = taken c in
    c.take_unmarked.ensures.named
    ∙ ap (λ (k : Collecting). kept_by (colours_in k).marked c.args.directory.now.named) c.self.view_is
    ∙ sym (c.taken_are_left_out.ensures (colours_in c.args.self.now).marked c.args.directory.now.named)
    ∙ ap (λ (ids : List Puid). filter (λ e. not (is_among e.0 ids)) c.args.directory.now.named) (sym goes)
    ∙ ap (filter (λ e. not (is_among e.0 c.new-2.result))) named
    ∙ sym (c.kinds_follow_the_graph.ensures.gone s.graph c.new-2.result)
    ∙ ap (λ (u : State). kinds_of u.graph) (allowed _ (vanished s c.new-2.result) t gone).1
  where
    vanished : State → List Puid → State
    vanished s ids = record s { graph = without s.graph ids; collection = collections.Sweeping }

pub returns-clause-less : goal.returns-clause-less
returns-clause-less c =
    let l : Collecting = record { marks = c.self.inside.marks; rescues = c.self.inside.rescues; phase = phases.Inner 0; steps = c.saturating_add-self-inside.result; added = c.self.inside.added } in
    condemns_less c.args.self.now l (ap volume_of c.self.view_is) c.requires.phase refl
