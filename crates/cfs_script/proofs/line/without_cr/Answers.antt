use Rattle.std.proofs.Common.{◌≡◌, ◌≢◌, ℕ, List, [], ◌∷◌, ◌++◌, Bor, sym}
use Rattle.std.specs.Prelude.{Option, Some, None, MatchOption, unwrap_or}
use Rattle.std.proofs.lemmas.Slice.Eq.{strip_suffix_is}
use Rattle.std.proofs.lemmas.Bool.Decides.{Decides-eqb}
use Rattle.ufs_model.specs.Script.{without_cr}
use Rattle.cfs_script.proofs.LineLemmas.{without_cr-push, without_cr-other}
use Rattle.cfs_script.proofs.line.without_cr.Goals as goal

-- what is left once a CR was stripped, or the line
stripped : (line : Bor (List ℕ)) (r : Option (Bor (List ℕ)))
    → MatchOption r ((front : List ℕ) → line.now ≢ front ++ 13 ∷ []) (λ x. line.now ≡ x.now ++ 13 ∷ [])
    → (unwrap_or r line).now ≡ without_cr line.now
stripped line None h = sym (without_cr-other line.now h)
stripped line (Some x) h = rw h (sym (without_cr-push x.now))

pub returns : goal.returns
returns c =
    let cases = strip_suffix_is Decides-eqb c.args.line.now (13 ∷ []) c.strip_suffix.result c.strip_suffix.ensures.cases in
    rw c.unwrap_or.ensures (stripped c.args.line c.strip_suffix.result cases)
