use Rattle.trail_text.proofs.Back.{event_no_end, no_event_ends, one_event, one_opening, opening_no_end, status_no_end}
use Rattle.trail_text.proofs.Lines.{reply_is}
use Rattle.trail_text.proofs.laws.lines_tell_events.Goals as goal

pub returns : goal.returns
returns c = record {
  events = one_event;
  openings = one_opening;
  apart = no_event_ends;
  ends = event_no_end;
  status_ends = status_no_end;
  opening_ends = opening_no_end;
  replies = reply_is;
}
