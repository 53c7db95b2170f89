use Rattle.std.proofs.Common.{◌∙◌, sym}
use Rattle.cfs_serve.proofs.Cited.{append-nil}
use Rattle.cfs_serve.proofs.Wording.{none_left}
use Rattle.cfs_serve.proofs.paths.session_paths.Goals as goal

pub returns : goal.returns
returns c =
    let none = none_left c.files.rest.now c.in_default.len_below in (
      sym (append-nil c.files.inputs.items) ∙ (rw none at c.files.invariant.inputs),
      sym (append-nil c.files.outputs.items) ∙ (rw none at c.files.invariant.outputs),
    )
