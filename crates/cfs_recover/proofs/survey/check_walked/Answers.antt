use Rattle.std.proofs.Common.{sym, subst, ◌∙◌, Err}
use Rattle.cfs_recover.proofs.Words.{IsFaultOf, MatchResult, Ok, Result}
use Rattle.cfs_recover.proofs.Finished.{held_in, in_held, walk_sound}
use Rattle.cfs_recover.proofs.Room.{four_are_left, too_few_left}
use Rattle.cfs_recover.proofs.survey.check_walked.Goals as goal

-- both ways of a check say more
match_as : {T E : Type 0} (P R : T → Type 0) (Q S : E → Type 0) (r : Result T E) → ((v : T) → P v → R v) → ((e : E) → Q e → S e) → MatchResult r P Q → MatchResult r R S
match_as P R Q S (Ok v) good bad is = good v is
match_as P R Q S (Err e) good bad is = bad e is

pub returns : goal.returns
returns c image grounds walk noted =
    let w = c.args.walk.now in
    let label = c.args.label in
    let none = c.in_ok-check_clash.ensures image walk in
    let marks = w.sized.marks ∙ walk.room in
    match_as _ _ _ _ c.check_room.result
    (λ v few. record {
      graph = walk.graph;
      sound = walk_sound image label grounds w walk none noted (four_are_left image label grounds w walk none noted marks few);
      ordered = walk.ordered;
      directory = walk.named;
      held = held_in image label grounds w walk none noted;
      all = in_held image label grounds w walk none noted;
    })
    (λ d many. subst (IsFaultOf image) (sym many.0) (too_few_left image label grounds w walk none noted marks many.1))
    c.check_room.ensures
