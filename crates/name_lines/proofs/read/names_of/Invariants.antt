use Rattle.std.proofs.Common.{◌≡◌, true, map, take}
use Rattle.std.specs.List.{list_all}
use Rattle.name_dirs.specs.Text.{is_text}
use Rattle.name_lines.proofs.read.names_of.Given as goal

abbrev pub invariant-parts : goal.invariant-parts
invariant-parts l = record {
  names : l.names.items ≡ map (λ part. part.now) (take l.part-index l.parts);
  texts : list_all is_text l.names.items ≡ true;
}
