-- What the worked runs speak of: seed 0, its root index, and the identifiers that it gives.
use Rattle.std.proofs.Common.{◌≡◌, refl, List, [], ◌∷◌, Option, Bool}
use Rattle.ufs_model.proofs.Words.{Event, Puid, State, Tuid, fresh_graph, is_some, replay, word}
use Rattle.rand_chacha.specs.Block.{block_word, column_round, diagonal_round, double_rounds, quarter_round}
use Rattle.rand_core.specs.Steps.{u32_at}

abbrev pub root : Puid
root = record { block = 2; word = 0xade0b876 }

-- the first object made, and the grants that are drawn second and third
abbrev pub a : Puid
a = record { block = 3; word = 0x903df1a0 }

abbrev pub second : Tuid
second = record { draw = 2; word = 0xe56a5d40 }

abbrev pub third : Tuid
third = record { draw = 3; word = 0x28bd8653 }

-- a second object at block 6, and a third at block 4
abbrev pub b : Puid
b = record { block = 6; word = 0xe56a5d40 }

abbrev pub c : Puid
c = record { block = 4; word = 0x28bd8653 }

-- a run from one root index of empty slots
abbrev pub run : List Event → Option State
run trail = replay 0 (fresh_graph root) trail

abbrev pub is_legal : List Event → Bool
is_legal trail = is_some (run trail)

-- the words of seed 0
words : (word 0 0 ∷ word 0 1 ∷ word 0 2 ∷ word 0 3 ∷ word 0 4 ∷ []) ≡ (0xade0b876 ∷ 0x903df1a0 ∷ 0xe56a5d40 ∷ 0x28bd8653 ∷ 0xb819d2bd ∷ [])
unfolding word u32_at block_word double_rounds diagonal_round column_round quarter_round
words = refl
