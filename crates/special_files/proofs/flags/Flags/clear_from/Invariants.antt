use Rattle.std.proofs.Common.{◌≡◌, ℕ, ◌<◌, ◌≤◌, length, get_or, false}
use Rattle.special_files.proofs.flags.Flags.clear_from.Given as goal

abbrev pub invariant-loop-at : goal.invariant-loop-at
invariant-loop-at l = record {
  long : length l.self ≡ length l.initial.self;
  before : (k : ℕ) → k < l.from → get_or l.self k false ≡ get_or l.initial.self k false;
  past : (k : ℕ) → l.from ≤ k → k < l.at → get_or l.self k false ≡ false;
  later : (k : ℕ) → l.at ≤ k → get_or l.self k false ≡ get_or l.initial.self k false;
}
