-- The kinds of objects.
use Rattle.std.specs.Prelude.{Option}
use Rattle.std.specs.Option.{option_map}
use Rattle.cfs_base.specs.declared.identifier.Puid.{Puid}
use Rattle.cfs_base.specs.declared.kind.FileKind.{FileKind}
use Rattle.cfs_base.specs.declared.kind.FileKind.TheVariants as file_kinds
use Rattle.cfs_base.specs.declared.kind.Kind.{Kind}
use Rattle.cfs_base.specs.declared.kind.Kind.TheVariants as kinds
use Rattle.ufs_model.specs.declared.object.Object.{Object}
use Rattle.ufs_model.specs.declared.object.Object.TheVariants as objects
use Rattle.ufs_model.specs.Graph.{Graph, object_at}

abbrev pub file_kind : FileKind → Kind
file_kind file_kinds.Normal = kinds.Normal
file_kind file_kinds.Special = kinds.Special

-- the kind of an object
abbrev pub object_kind : Object → Kind
object_kind (objects.File f) = file_kind f.kind
object_kind (objects.Index i) = kinds.Index

-- the kind of the object that the graph has at an identifier
abbrev pub kind_at : Graph → Puid → Option Kind
kind_at g id = option_map object_kind (object_at g id)
