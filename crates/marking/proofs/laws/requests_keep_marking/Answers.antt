use Rattle.std.proofs.Common.{subst, [], List}
use Rattle.marking.proofs.Words.{IsMarking, Rescue, append-nil, rescues_of}
use Rattle.marking.proofs.Wells.{well}
use Rattle.marking.proofs.Changed.{changes_keep}
use Rattle.marking.proofs.Condemned.{marks}
use Rattle.marking.proofs.Ended.{ended_keeps}
use Rattle.marking.proofs.Asked.{ask_changes, leave_changes}
use Rattle.marking.proofs.laws.requests_keep_marking.Goals as goal

pub returns-clause-ask : goal.returns-clause-ask
returns-clause-ask c seed s t who request reply colours waiting asked state is =
    changes_keep s t (rescues_of s who request reply) (ask_changes seed s (well s state) (marks s colours waiting is) who request reply t asked) colours waiting is

pub returns-clause-leave : goal.returns-clause-leave
returns-clause-leave c seed s t who stop colours waiting left state is =
    subst (λ (w : List Rescue). IsMarking t colours w) (append-nil waiting) (changes_keep s t [] (leave_changes seed s (well s state) who stop t left) colours waiting is)

pub returns-clause-any : goal.returns-clause-any
returns-clause-any c s t more waiting colours change is = changes_keep s t more change colours waiting is

pub returns-clause-ended : goal.returns-clause-ended
returns-clause-ended c s colours i waiting none is = ended_keeps i s colours waiting none is
