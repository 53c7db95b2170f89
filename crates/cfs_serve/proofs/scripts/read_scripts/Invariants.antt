use Rattle.std.proofs.Common.{◌≡◌, ◌*◌, ◌≤◌, ℕ, length, map, slice_get}
use Rattle.cfs_serve.proofs.Cited.{HaveFirst, lines_in, vec_capacity}
use Rattle.cfs_serve.proofs.scripts.read_scripts.Given as goal

-- the sources before this one were read, and the others are as they were
abbrev pub invariant-sources : goal.invariant-sources
invariant-sources g l = record {
  ends : l.at-end ≡ length l.fn.sources.items;
  count : length l.scripts.items ≡ l.at;
  size : length l.sources.items ≡ length l.fn.sources.items;
  room : length l.fn.sources.items ≤ vec_capacity l.scripts;
  read : HaveFirst (map g.S.Source.supply l.fn.sources.items) l.scripts.items;
  rest : (k : ℕ) → l.at ≤ k → slice_get l.sources.items k ≡ slice_get l.fn.sources.items k;
  lines : l.lines ≡ lines_in l.scripts.items;
  few : l.lines ≤ l.at * 16777216;
}
