use Rattle.file_ops.proofs.Words.{inl, inr, refl, arith, ◌∙◌, on_ok, if_err}
use Rattle.file_ops.proofs.InPlace.{place_ends, place_so}
use Rattle.file_ops.proofs.Views.{handed}
use Rattle.file_ops.specs.Changes.{OfDrops, OfFile}
use Rattle.file_ops.proofs.changing.resize.Goals as goal

pub returns-in-Normal-clause-changes : goal.returns-in-Normal-clause-changes
returns-in-Normal-clause-changes g c =
    let e = c.resize.ensures in
    let r = c.resize.result in
    rw c.in-Normal.is (record {
      goes = λ m. let w = e.resizes (handed m) in
          place_so _ refl (e.left ∙ c.requires.left) r (record { done = w.done; settled = w.settled; order = w.takes_none; leaves = w.images; room = on_ok r (λ le. omega (arith, le)) e.room; full = e.full; begun = if_err r (λ x le is. omega (arith, le is)) e.begun; sound = w.sound }) e.refused;
      ends = place_ends (λ damage is. elim is [ inl file ↦ OfFile file | inr drops ↦ OfDrops drops ]) r e.refused e.untried e.cylinders (e.left ∙ c.requires.left) e.calls (omega arith) (omega arith) (omega arith);
    })
