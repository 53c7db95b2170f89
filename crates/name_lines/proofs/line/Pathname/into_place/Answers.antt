use Rattle.std.proofs.Common.{◌∙◌, List, ℕ, ap, sym}
use Rattle.name_lines.specs.Spoken.{place_at}
use Rattle.name_lines.proofs.Lists.{place_is}
use Rattle.name_lines.proofs.line.Pathname.into_place.Goals as goal

pub returns : goal.returns
returns c = sym (ap (λ (names : List (List ℕ)). place_at names) (sym c.self.view_is ∙ c.in_ok-name.ensures.items) ∙ place_is c.in_ok-name.name c.pop.new.self.items)
