use Rattle.std.proofs.Common.{ℕ, ◌∙◌, ap, List, slice_index_or, slice_set}
use Rattle.front_floor.specs.Knows.{HandleKnows}
use Rattle.front_trials.proofs.tests.turns_of_another_worker_are_counted.Goals as goal

pub status-requires : goal.status-requires
status-requires g c =
    let handle = c.at-in-Ok.result.now in
    let first = c.at-in-Ok.ensures.value handle ∙ ap (λ (ps : List (HandleKnows ℕ)). slice_index_or (slice_set ps 1 c.enter_twice.new.handle) 0 handle) c.in-Ok.ensures.handles in
    record { of = ap (λ (p : HandleKnows ℕ). p.table) first }
