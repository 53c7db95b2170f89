-- The room of a state: how many blocks are Free on a disk with a number of cylinders, while no sweep goes on.
use Rattle.std.specs.Prelude.{◌≡◌, ℕ, ◌+◌, ◌*◌, length}
use Rattle.std.specs.List.{sum_by}
use Rattle.std.specs.Option.{option_map_or}
use Rattle.ufs_model.specs.declared.object.Grant.{Grant}
use Rattle.ufs_model.specs.Graph.{Graph}
use Rattle.ufs_model.specs.Object.{blocks_of}
use Rattle.ufs_model.specs.State.{State}

-- how many blocks the objects of a graph take
abbrev pub graph_blocks : Graph → ℕ
graph_blocks g = sum_by (λ e. blocks_of e.1) g.objects

-- the shadow root of a grant's draft, and the leaves and nodes that are the draft's alone
abbrev pub blocks_of_grant : Grant → ℕ
blocks_of_grant grant = option_map_or (λ d. 1 + sum_by length d.fresh) grant.draft 0

-- the blocks that objects and drafts have
abbrev pub blocks_in : State → ℕ
blocks_in s = graph_blocks s.graph + sum_by blocks_of_grant s.grants

-- all other blocks are Free, except the map of each cylinder and the label
abbrev pub IsRoom : ℕ → State → ℕ → Type 0
IsRoom cylinders s free = free + blocks_in s + 1 ≡ 63 * cylinders
