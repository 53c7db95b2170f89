use Rattle.std.proofs.Common.{◌≡◌, ◌++◌, drop}
use Rattle.ufs_model.proofs.Words.{draft_pairs, edges_of}
use Rattle.ufs_model.proofs.vanish.see_drafts.Given as goal

-- what is left is still to be seen
abbrev pub invariant-grants : goal.invariant-grants
invariant-grants l = l.seen.items ++ edges_of (draft_pairs (drop l.grant-index l.grants)) ≡ l.fn.seen.items ++ edges_of (draft_pairs l.grants)
