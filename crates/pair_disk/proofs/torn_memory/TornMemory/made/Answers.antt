use Rattle.std.proofs.Common.{refl, ◌∙◌, ap}
use Rattle.pair_disk.proofs.Images.{fresh}
use Rattle.pair_disk.proofs.torn_memory.TornMemory.made.Goals as goal

pub returns : goal.returns
returns c =
    let h = c.new-history.result in
    let made = c.new-history.ensures in
    record {
      content = refl;
      listed = refl;
      only = λ i left. fresh h h.moment made.kept i left ∙ ap (λ v. v.items) made.first ∙ c.in_ok-first.ensures;
      moment = made.moment;
      tries = refl;
      faults = refl;
    }
