use Rattle.std.proofs.lemmas.List.Sorted.{Contains-permutation, IsPermutation-sym}
use Rattle.cfs_fakes.proofs.listed.Listed.new.Goals as goal

pub returns : goal.returns
returns c =
    let calls = c.args.calls.items in
    let sorted = c.sort_unstable.new.self.items in
    let same = c.sort_unstable.ensures.permutation in
    λ n. (Contains-permutation sorted calls n (IsPermutation-sym calls sorted same), Contains-permutation calls sorted n same)
