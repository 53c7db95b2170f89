use Rattle.std.proofs.Common.{ℕ, ◌+◌, ◌*◌, List, ◌++◌, take, drop, append_assoc, ◌∙◌, ap}
use Rattle.cyl_map.proofs.Words.{spelling, with_bytes}
use Rattle.cyl_map.proofs.map.Map.put_in.Goals as goal

pub returns : goal.returns
unfolding with_bytes
returns c =
    let front = take (8 * c.args.entry) c.args.block.now in
    let rest = drop (8 * c.args.entry + 8) c.args.block.now in
    c.put_u64.ensures.put ∙ ap (λ (bs : List ℕ). (front ++ bs) ++ rest) (c.number_of.ensures ∙ c.encode.ensures.spelled) ∙ append_assoc front (spelling c.args.value) rest
