use Rattle.std.proofs.Common.{◌≡◌, map, refl, arith}
use Rattle.cfs_serve.proofs.Cited.{inputs_in, outputs_in, streams_in, string_bytes}
use Rattle.cfs_serve.proofs.Wording.{none_left}
use Rattle.cfs_serve.proofs.words.count_streams.Goals as goal

pub returns-clause-inputs : goal.returns-clause-inputs
returns-clause-inputs c =
    let none : streams_in (inputs_in (map string_bytes c.files.rest.now)) ≡ 0 = rw (none_left c.files.rest.now c.in_default.len_below) refl in
    omega (arith, none, c.files.invariant.inputs)

pub returns-clause-outputs : goal.returns-clause-outputs
returns-clause-outputs c =
    let none : streams_in (outputs_in (map string_bytes c.files.rest.now)) ≡ 0 = rw (none_left c.files.rest.now c.in_default.len_below) refl in
    omega (arith, none, c.files.invariant.outputs)
