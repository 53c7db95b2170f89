-- A session's names as a table.
use Rattle.std.specs.Prelude.{ℕ, List}
use Rattle.std.specs.Map.{lookup}
use Rattle.std.specs.Str.{bytes_eq}
use Rattle.cfs_base.specs.declared.identifier.Puid.{Puid}
use Rattle.ufs_model.specs.declared.asked.Bound.{Bound}
use Rattle.ufs_model.specs.Names.{Names}

-- the root, each name with what it is bound to, and for how many new names there is room
pub record NameTable : Type 0 where
  pub root : Puid
  pub entries : List (List ℕ × Bound)
  pub room : ℕ

-- the names as a function
abbrev pub names_of : NameTable → Names
names_of table = record { root = table.root; bound = λ name. lookup (λ other. bytes_eq name other) table.entries }
