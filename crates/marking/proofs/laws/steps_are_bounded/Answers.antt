use Rattle.marking.proofs.Words.{IsPaced, Rescue, append-nil, rescues_of, scanned}
use Rattle.std.proofs.Common.{subst, [], List}
use Rattle.marking.proofs.Wells.{well}
use Rattle.marking.proofs.Asked.{ask_changes, leave_changes}
use Rattle.marking.proofs.Condemned.{marks}
use Rattle.marking.proofs.Paces.{pace_begin, pace_take, pace_scan, pace_change, pace_ended, pace_end, scan_is}
use Rattle.marking.proofs.Steps.{first_marked}
use Rattle.marking.proofs.laws.steps_are_bounded.Goals as goal

pub returns-clause-begin : goal.returns-clause-begin
returns-clause-begin c = pace_begin

pub returns-clause-take : goal.returns-clause-take
returns-clause-take c s directory r rest colours volume steps added pace = pace_take s colours directory r rest volume steps added pace

pub returns-clause-scan : goal.returns-clause-scan
returns-clause-scan c s directory waiting colours e i draft volume steps added first at is_draft is pace =
    pace_scan s colours (scanned directory draft i e.cursor colours) waiting volume steps added
    (scan_is s colours e i draft directory first is.coloured.once (first_marked s colours waiting e first is.coloured) at is_draft) pace

pub returns-clause-any : goal.returns-clause-any
returns-clause-any c s t more waiting colours volume steps added change pace = pace_change s t colours more waiting volume steps added (change.leaves colours) (change.unread colours) pace

pub returns-clause-ask : goal.returns-clause-ask
returns-clause-ask c seed s t who request reply colours waiting volume steps added asked state is pace =
    let change = ask_changes seed s (well s state) (marks s colours waiting is) who request reply t asked in
    pace_change s t colours (rescues_of s who request reply) waiting volume steps added (change.leaves colours) (change.unread colours) pace

pub returns-clause-leave : goal.returns-clause-leave
returns-clause-leave c seed s t who stop colours waiting volume steps added left state pace =
    let change = leave_changes seed s (well s state) who stop t left in
    subst (λ (w : List Rescue). IsPaced t colours w volume steps added) (append-nil waiting) (pace_change s t colours [] waiting volume steps added (change.leaves colours) (change.unread colours) pace)

pub returns-clause-ended : goal.returns-clause-ended
returns-clause-ended c s colours i waiting volume steps added pace = pace_ended s colours i waiting volume steps added pace

pub returns-clause-end : goal.returns-clause-end
returns-clause-end c = pace_end
