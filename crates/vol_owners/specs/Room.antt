-- How many blocks are left.
use Rattle.std.specs.Prelude.{ℕ, ◌+◌, Bool, ◌&&◌, ◌||◌, if◌then◌else◌, length, Option, Some, None, option_to_list}
use Rattle.std.specs.List.{sum_by}
use Rattle.cyl_map.specs.declared.entry.MapEntry.{MapEntry}
use Rattle.ufs_model.specs.Graph.{Graph, has_block, ids_of}
use Rattle.vol_image.specs.Sound.{graph_blocks}
use Rattle.vol_owners.specs.Owner.{is_had, is_meant, is_placed, owner_of, is_made}
use Rattle.vol_owners.specs.Account.{Drafts, Opened}

-- the number of blocks of a draft: its shadow root if it has one, what is fresh by the model, and the root of the
-- object that it makes
abbrev pub draft_blocks : Opened → ℕ
draft_blocks d = length (option_to_list d.shadow) + sum_by length d.draft.fresh + length (option_to_list d.created)

abbrev pub draft_blocks_if : Option Opened → ℕ
draft_blocks_if None = 0
draft_blocks_if (Some d) = draft_blocks d

-- how many blocks the objects of a graph and their drafts take
abbrev pub blocks_taken : Graph → Drafts → ℕ
blocks_taken g ds = graph_blocks g + sum_by (λ id. draft_blocks_if (ds id)) (ids_of g)

-- ---- two of the five uses of a block: that of an object's tree, and a draft's own

abbrev pub is_of_object : Graph → Option MapEntry → Bool
is_of_object g entry = is_placed is_had entry && has_block g.objects (owner_of entry)

abbrev pub is_of_draft : Graph → Option MapEntry → Bool
is_of_draft g entry = is_placed is_meant entry && (is_made entry || has_block g.objects (owner_of entry))

abbrev pub one_of : Bool → ℕ
one_of b = if b then 1 else 0
