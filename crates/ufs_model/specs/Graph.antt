-- The graph: a list of objects with their identifiers, in increasing order, below a root index.
use Rattle.std.specs.Prelude.{◌≡◌, ℕ, ◌≤◌, ◌<◌, Bool, true, false, not, ◌&&◌, ◌==◌, is_some, IsTrue, List, [], ◌∷◌}
use Rattle.std.specs.Prelude.{length, map, filter, Option, Some, None}
use Rattle.std.specs.List.{list_any, list_all, flat_map, filter_map}
use Rattle.std.specs.BTreeMap.{insert_entry, is_at}
use Rattle.std.specs.Map.{lookup, keys_of}
use Rattle.cfs_base.specs.declared.identifier.Puid.{Puid}
use Rattle.ufs_model.specs.Limits.{root_slots}
use Rattle.ufs_model.specs.declared.object.Object.{Object}
use Rattle.ufs_model.specs.declared.object.Index.{Index}
use Rattle.ufs_model.specs.declared.object.Object.TheVariants as objects
use Rattle.ufs_model.specs.Identifier.{puid_cmp, same_puid, is_among, rises}
use Rattle.ufs_model.specs.Object.{is_object, new_index}

pub record Graph : Type 0 where
  pub root : Puid
  pub objects : List (Puid × Object)

abbrev pub ids_of : Graph → List Puid
ids_of g = keys_of g.objects

abbrev pub object_at : Graph → Puid → Option Object
object_at g id = lookup (is_at (puid_cmp id)) g.objects

abbrev pub is_there : Graph → Puid → Bool
is_there g id = is_some (object_at g id)

-- the graph with this object at the identifier
abbrev pub with_object : Graph → Puid → Object → Graph
with_object g id o = record g { objects = insert_entry puid_cmp g.objects id o }

-- the graph without these objects
abbrev pub without : Graph → List Puid → Graph
without g ids = record g { objects = filter (λ e. not (is_among e.0 ids)) g.objects }

-- ---- what refers to what

-- the identifiers in an index's slots
abbrev pub referred : Object → List Puid
referred (objects.File f) = []
referred (objects.Index i) = filter_map (λ slot. slot) i.slots

-- each pair of an index and an object to which it refers
abbrev pub graph_pairs : Graph → List (Puid × Puid)
graph_pairs g = flat_map (λ e. map (λ x. (e.0, x)) (referred e.1)) g.objects

abbrev pub has_pair : List (Puid × Puid) → Puid → Puid → Bool
has_pair pairs i x = list_any (λ e. same_puid i e.0 && same_puid x e.1) pairs

-- ---- root blocks

-- one of these objects has this root block
abbrev pub has_block : List (Puid × Object) → ℕ → Bool
has_block objects b = list_any (λ id. id.block == b) (keys_of objects)

-- it is not 0, and no object has it as its root block
abbrev pub is_free_root : Graph → ℕ → Bool
is_free_root g b = not (b == 0) && not (has_block g.objects b)

-- the least number from 3 on that is no object's root block
pub record IsLeastFreeRoot (objects : List (Puid × Object)) (b : ℕ) : Type 0 where
  pub from_three : 3 ≤ b
  pub free : has_block objects b ≡ false
  pub least : (c : ℕ) → 3 ≤ c → c < b → has_block objects c ≡ true

-- ---- well-formed graphs

abbrev pub blocks_differ : List Puid → Bool
blocks_differ [] = true
blocks_differ (id ∷ ids) =
    not (id.block == 0) && list_all (λ other. not (other.block == id.block)) ids && blocks_differ ids

abbrev pub is_root_index : Option Object → Bool
is_root_index (Some (objects.Index i)) = length i.slots == root_slots
is_root_index (Some (objects.File f)) = false
is_root_index None = false

-- identifiers increase and have blocks of their own, the root is an index of 64 slots, each identifier in a slot
-- names an object, and each object is well-formed
abbrev pub is_graph : Graph → Bool
is_graph g =
    rises (ids_of g) && blocks_differ (ids_of g)
    && is_root_index (object_at g g.root)
    && list_all (λ e. is_there g e.1) (graph_pairs g)
    && list_all (λ e. is_object e.1) g.objects

abbrev pub IsGraph : Graph → Type 0
IsGraph g = IsTrue (is_graph g)

-- a root index of 64 slots, with all to which it leads
pub record IsClosedGraph (g : Graph) : Type 0 where
  pub ordered : rises (ids_of g) ≡ true
  pub root : (i : Index) × (object_at g g.root ≡ Some (objects.Index i)) × (length i.slots ≡ root_slots)
  -- each identifier in a slot names an object
  pub closed : (i x : Puid) → has_pair (graph_pairs g) i x ≡ true → is_there g x ≡ true

-- one root index of empty slots
abbrev pub fresh_graph : Puid → Graph
fresh_graph root = record { root = root; objects = (root, objects.Index (new_index root_slots)) ∷ [] }
