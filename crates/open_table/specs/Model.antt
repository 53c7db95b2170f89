-- The model's grants, without their drafts.
use Rattle.std.specs.Prelude.{Bool, true, false, List, map, Option, Some, None}
use Rattle.cfs_base.specs.declared.kind.Mode.{Mode}
use Rattle.cfs_base.specs.declared.kind.Mode.TheVariants as modes
use Rattle.ufs_model.specs.declared.object.Grant as models
use Rattle.open_table.specs.declared.grant.OpenGrant.{OpenGrant}

abbrev pub shown : models.Grant → OpenGrant
shown g = record { tuid = g.tuid; session = g.session; id = g.id; mode = g.mode }

abbrev pub table_of : List models.Grant → List OpenGrant
table_of grants = map shown grants

-- an object is open for writing
abbrev pub is_writing : Option Mode → Bool
is_writing None = false
is_writing (Some modes.Reading) = false
is_writing (Some modes.Writing) = true
