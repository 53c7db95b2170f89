-- The room that a reply line takes.
use Rattle.std.specs.Prelude.{◌≤◌, length, ⊤}
use Rattle.ufs_model.specs.declared.asked.Reply.{Reply}
use Rattle.ufs_model.specs.declared.asked.Reply.TheVariants as replies
use Rattle.ufs_model.specs.declared.limits.TheConstants.{MOST_AT_ONCE}

-- a content is no longer than one read gives
abbrev pub FitsLine : Reply → Type 0
FitsLine (replies.Content bytes) = length bytes ≤ MOST_AT_ONCE
FitsLine reply = ⊤
