use Rattle.std.proofs.Common.{◌≡◌, ℕ, List, [], get_or, Option, Some, None, Result, Ok, Err, MatchResult, sym, ◌∙◌, ap}
use Rattle.std.specs.Result.{result_ok}
use Rattle.cyl_map.proofs.Words.{entry_of}
use Rattle.cyl_map.specs.Map as spec
use Rattle.cyl_map.proofs.Maps.{get_or-eights}
use Rattle.cyl_map.proofs.map.Map.read_in.Goals as goal

-- what reading gives, of a result that it is told by
result_of : {A E : Type 0} (r : Result A E) (is : Option A) → MatchResult r (λ a. is ≡ Some a) (λ e. is ≡ None) → result_ok r ≡ is
result_of (Ok a) is h = sym h
result_of (Err e) is h = sym h

pub returns : goal.returns
returns c =
    let k = c.args.entry in
    c.ok.ensures.value
    ∙ result_of c.decode.result _ c.decode.ensures.value
    ∙ ap entry_of (ap (λ (xs : List (List ℕ)). get_or xs k []) c.eights-entries.ensures.each
    ∙ get_or-eights c.bytes.result.now k [] c.requires
    ∙ ap (λ (b : List ℕ). spec.bytes_at b k) c.bytes.ensures.bytes)
