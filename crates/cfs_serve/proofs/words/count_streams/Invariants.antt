use Rattle.std.proofs.Common.{◌≡◌, ◌+◌, ◌≤◌, length, map}
use Rattle.cfs_serve.proofs.Cited.{inputs_in, outputs_in, streams_in, string_bytes}
use Rattle.cfs_serve.proofs.words.count_streams.Given as goal

-- what was counted and what is left are all
abbrev pub invariant-files : goal.invariant-files
invariant-files l = record {
  inputs : l.inputs + streams_in (inputs_in (map string_bytes l.rest)) ≡ streams_in (inputs_in (map string_bytes l.fn.words));
  outputs : l.outputs + streams_in (outputs_in (map string_bytes l.rest)) ≡ streams_in (outputs_in (map string_bytes l.fn.words));
  few_inputs : l.inputs + length l.rest ≤ length l.fn.words;
  few_outputs : l.outputs + length l.rest ≤ length l.fn.words;
}

abbrev pub decreases-files : goal.decreases-files
decreases-files l = length l.rest
