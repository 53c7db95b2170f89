use Rattle.std.proofs.Common.{ap, ◌∙◌, ℕ, List}
use Rattle.std.proofs.lemmas.Grind.{common_steps}
use Rattle.std.proofs.Common.{arith}
use Rattle.std.specs.Simd.{first_chunks}
use Rattle.cfs_fakes.proofs.Chunks.{chunks_replicate}
use Rattle.cfs_fakes.proofs.store.Store.zeros.Goals as goal

pub returns : goal.returns
returns c = ap (λ (xs : List ℕ). first_chunks 512 c.args.count xs) (grind (arith, common_steps)) ∙ chunks_replicate 512 c.args.count 0
