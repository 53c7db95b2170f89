-- The identifiers of a graph's objects, with their kinds.
use Rattle.std.specs.Prelude.{List, map}
use Rattle.cfs_base.specs.declared.identifier.Puid.{Puid}
use Rattle.cfs_base.specs.declared.kind.Kind.{Kind}
use Rattle.ufs_model.specs.declared.object.Object.{Object}
use Rattle.ufs_model.specs.Graph.{Graph}
pub use Rattle.ufs_model.specs.Kinds.{object_kind}

-- the identifiers of these objects, in their order, each with the kind of its object
abbrev pub kinds_in : List (Puid × Object) → List (Puid × Kind)
kinds_in objects = map (λ e. (e.0, object_kind e.1)) objects

abbrev pub kinds_of : Graph → List (Puid × Kind)
kinds_of g = kinds_in g.objects
