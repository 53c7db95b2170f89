use Rattle.special_files.proofs.commit.CommitStore.{parts_of}
use Rattle.special_files.proofs.draft.ObjectDraft.abort.Goals as goal

pub returns : goal.returns
returns g c = let parts = parts_of c.args.self _ c.draft.view_is in record { aborts = λ v. c.abort_parts.ensures.ends c.args.self v parts; call = c.abort_parts.ensures.call c.args.self parts }
