-- Identifiers, their order, and lists of them.
use Rattle.std.specs.Prelude.{Bool, true, ◌&&◌, ◌==◌, List, [], ◌∷◌, if◌then◌else◌}
use Rattle.std.specs.List.{list_any, list_all}
use Rattle.std.specs.Ordering.{nat_cmp, ordering_then, is_eq, is_lt}
use Rattle.std.specs.declared.cmp.Ordering.{Ordering}
use Rattle.cfs_base.specs.declared.identifier.Puid.{Puid}
use Rattle.cfs_base.specs.declared.identifier.Tuid.{Tuid}

-- the order of identifiers as numbers
abbrev pub puid_cmp : Puid → Puid → Ordering
puid_cmp a b = ordering_then (nat_cmp a.block b.block) (nat_cmp a.word b.word)

abbrev pub same_puid : Puid → Puid → Bool
same_puid a b = is_eq (puid_cmp a b)

abbrev pub same_tuid : Tuid → Tuid → Bool
same_tuid a b = (a.draw == b.draw) && (a.word == b.word)

abbrev pub is_among : Puid → List Puid → Bool
is_among id ids = list_any (same_puid id) ids

-- each identifier is below all that follow
abbrev pub rises : List Puid → Bool
rises [] = true
rises (x ∷ ids) = list_all (λ y. is_lt (puid_cmp x y)) ids && rises ids

-- the second list, with those of the first that it lacks
abbrev pub joined : List Puid → List Puid → List Puid
joined [] ids = ids
joined (x ∷ xs) ids = if is_among x ids then joined xs ids else joined xs (x ∷ ids)

-- each identifier is above the one before it, and the first above `last`
abbrev pub rise_from : Puid → List Puid → Bool
rise_from last [] = true
rise_from last (id ∷ ids) = is_lt (puid_cmp last id) && rise_from id ids

abbrev pub ids_rise : List Puid → Bool
ids_rise [] = true
ids_rise (id ∷ ids) = rise_from id ids
