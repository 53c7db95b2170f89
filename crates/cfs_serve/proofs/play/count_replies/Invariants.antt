use Rattle.std.proofs.Common.{◌≡◌, ◌≤◌, filter, length, take}
use Rattle.cfs_serve.proofs.Cited.{is_reply}
use Rattle.cfs_serve.proofs.play.count_replies.Given as goal

-- the replies of the events before this one were counted
abbrev pub invariant-events : goal.invariant-events
invariant-events l = record {
  counted : l.count ≡ length (filter is_reply (take l.at l.trail.events));
  room : l.count ≤ l.at;
}
