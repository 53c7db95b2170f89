use Rattle.std.proofs.Common.{◌≡◌, ◌∙◌, ap, ◌++◌, None, replicate, arith, ◌-◌, vec_len}
use Rattle.puid_space.proofs.Words.{Listing, take_all}
use Rattle.puid_space.proofs.Tables.{IsTable-grown, listed-grown}
use Rattle.puid_space.proofs.directory.Directory.reserve.Goals as goal

-- the cells so far, and empty ones
grown : (c : goal.In_ok-resize) → c.resize.new.self.items ≡ c.self.inside.cells.items ++ replicate (c.args.blocks - vec_len c.self.inside.cells) None
grown c =
    c.in_ok-resize.ensures.items ∙ ap (λ front. front ++ replicate (c.args.blocks - vec_len c.self.inside.cells) None) (take_all _ _ (omega (arith, c.self.inside.cells.ok.0)))

pub invariant_of-self : goal.invariant_of-self
invariant_of-self c = rw (grown c) (IsTable-grown c.self.inside.cells.items c.self.inside.len (c.args.blocks - vec_len c.self.inside.cells) c.self.invariant (omega (arith, c.self.inside.cells.ok.0, c.self.invariant.room)))

pub returns-in_ok-resize-clause-named : goal.returns-in_ok-resize-clause-named
returns-in_ok-resize-clause-named c = rw (grown c) (listed-grown c.self.inside.cells.items (c.args.blocks - vec_len c.self.inside.cells) ∙ ap (λ (d : Listing). d.named) c.self.view_is)
