use Rattle.std.proofs.Common.{◌≡◌, ◌++◌, length, map}
use Rattle.cfs_serve.proofs.Cited.{inputs_in, outputs_in, string_bytes}
use Rattle.cfs_serve.proofs.paths.session_paths.Given as goal

-- the names that were made and those that are left are all
abbrev pub invariant-files : goal.invariant-files
invariant-files l = record {
  inputs : l.inputs.items ++ inputs_in (map string_bytes l.rest) ≡ inputs_in (map string_bytes l.fn.words);
  outputs : l.outputs.items ++ outputs_in (map string_bytes l.rest) ≡ outputs_in (map string_bytes l.fn.words);
}

abbrev pub decreases-files : goal.decreases-files
decreases-files l = length l.rest
