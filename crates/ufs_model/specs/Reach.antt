-- What is reached through entries, and what is kept.
use Rattle.std.specs.Prelude.{◌≡◌, ℕ, zero, suc, true, List, [], ◌∷◌, length, map, filter}
use Rattle.cfs_base.specs.declared.identifier.Puid.{Puid}
use Rattle.ufs_model.specs.Identifier.{is_among, joined}
use Rattle.ufs_model.specs.Graph.{Graph, graph_pairs, has_pair}
use Rattle.ufs_model.specs.State.{State, pairs_of, open_ids}

-- where the pairs lead from these identifiers
abbrev pub targets : List (Puid × Puid) → List Puid → List Puid
targets pairs ids = map (λ e. e.1) (filter (λ e. is_among e.0 ids) pairs)

-- what is reached from these in n steps
abbrev pub reached : ℕ → List (Puid × Puid) → List Puid → List Puid
reached zero pairs ids = ids
reached (suc n) pairs ids = reached n pairs (joined (targets pairs ids) ids)

-- an object is reached if it is one of the starts, or if a pair leads to it from one that is reached
pub data IsReached (pairs : List (Puid × Puid)) (starts : List Puid) : Puid → Type 0 where
  Start : {x : Puid} → is_among x starts ≡ true → IsReached pairs starts x
  Along : {i x : Puid} → IsReached pairs starts i → has_pair pairs i x ≡ true → IsReached pairs starts x

-- the root and each object that is open
abbrev pub starts_now : State → List Puid
starts_now s = joined (open_ids s) (s.graph.root ∷ [])

-- what is reached from the root and the open objects, in as many steps as there are objects
abbrev pub kept : State → List Puid
kept s = reached (length s.graph.objects) (pairs_of s) (starts_now s)

-- an object that is kept: it is reached from the root or an open object
abbrev pub IsKept : State → Puid → Type 0
IsKept s x = IsReached (pairs_of s) (starts_now s) x

-- what is reached from the root alone
abbrev pub rooted : Graph → List Puid
rooted g = reached (length g.objects) (graph_pairs g) (g.root ∷ [])
