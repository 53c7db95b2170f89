use Rattle.std.proofs.Common.{◌≡◌, None, ap, is_some, nat_eq, sym, ◌∙◌}
use Rattle.std.specs.Option.{option_copied}
use Rattle.std.specs.Map.{lookup}
use Rattle.map_cache.specs.Holding.{holding}
use Rattle.map_cache.proofs.Holdings.{found_none, found_holds}
use Rattle.map_cache.proofs.held.Held.find.Goals.{in-Some, in-None}
use Rattle.map_cache.proofs.held.Held.find.Goals as goal

pub invariant_of-self : goal.invariant_of-self
invariant_of-self c = elim c.match-get.branch [
  | in-Some w ↦ rw (w.self-inside-is, c.get.follows.holds-at-none) (found_holds _ c.args.at c.self.invariant)
  | in-None w ↦ rw (w.self-inside-is, c.get.follows.holds-at-none) (found_holds _ c.args.at c.self.invariant)
]

pub returns-clause-none : goal.returns-clause-none
returns-clause-none c = elim c.match-get.branch [
  | in-Some w ↦ λ none. cc
  | in-None w ↦ λ _. let no : lookup (nat_eq c.args.at) c.self.inside.blocks.entries ≡ None = sym c.get.ensures.value ∙ ap option_copied w.in-None.is in
      let stays = found_none (holding c.self.inside.blocks.entries c.self.inside.blocks.cap c.self.inside.stage c.self.inside.wants) c.args.at (ap is_some no) in
      (rw (w.self-inside-is, c.get.follows.holds-at-none, ← c.self.view_is) stays, w.into-is)
]
