use Rattle.std.proofs.Common.{◌≡◌, List, replicate, Ok, Err, refl, sym, ◌∙◌, subst}
use Rattle.std.specs.Prelude.{IfOk}
use Rattle.std.proofs.lemmas.List.Elements.{All-replicate}
use Rattle.cyl_map.specs.declared.entry.MapEntry.{MapEntry}
use Rattle.cyl_map.specs.Entry.{IsEntry, spelling}
use Rattle.cyl_map.specs.Map.{IsMap, map_spelling}
use Rattle.vol_format.specs.Fresh.{free_entry}
use Rattle.vol_format.proofs.map.free_map.Goals as goal

zeros : replicate 512 0 ≡ map_spelling (replicate 64 free_entry)
unfolding spelling
zeros = refl

is_map : IsMap (replicate 64 free_entry)
is_map = record { long = refl; each = All-replicate IsEntry 64 free_entry (record { in_table = refl }) }

pub unreachable-requires : goal.unreachable-requires
unreachable-requires c =
    let both : Ok (replicate 64 free_entry) ≡ Err c.in-Err.field-0 = sym (c.decode.ensures.only (replicate 64 free_entry) is_map (c.zero.ensures ∙ zeros)) ∙ c.in-Err.is in cc

pub returns : goal.returns
returns c = subst (λ r. IfOk r (λ (m : List MapEntry). m ≡ replicate 64 free_entry)) (sym (c.decode.ensures.only (replicate 64 free_entry) is_map (c.zero.ensures ∙ zeros)) ∙ c.in-Ok.is) refl
