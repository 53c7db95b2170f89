use Rattle.std.proofs.Common.{subst, []}
use Rattle.marking.proofs.Words.{IsMarking, State, all_shaded, none_marked}
use Rattle.marking.proofs.Wells.{well}
use Rattle.marking.proofs.Steps.{begun, begin_keeps, take_keeps, scan_keeps}
use Rattle.marking.proofs.Asked.{allowed}
use Rattle.marking.proofs.laws.steps_keep_marking.Goals as goal

pub returns-clause-begin : goal.returns-clause-begin
returns-clause-begin c seed s t directory roots began state are all =
    subst (λ (u : State). IsMarking u (all_shaded directory roots none_marked) []) (allowed _ (begun s) t began).1 (begin_keeps s (well s state) directory are roots all)

pub returns-clause-take : goal.returns-clause-take
returns-clause-take c s directory r rest colours state are is = take_keeps s (well s state) directory are r rest colours is

pub returns-clause-scan : goal.returns-clause-scan
returns-clause-scan c s directory waiting colours e i draft state are first at is_draft is = scan_keeps s (well s state) directory are waiting colours e i draft first at is_draft is
