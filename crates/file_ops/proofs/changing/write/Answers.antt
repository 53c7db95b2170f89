use Rattle.file_ops.proofs.Words.{inl, inr, refl, arith, ◌∙◌}
use Rattle.file_ops.proofs.InPlace.{place_ends, place_so}
use Rattle.file_ops.proofs.Views.{handed}
use Rattle.file_ops.specs.Changes.{OfClaims, OfFile}
use Rattle.leaf_changes.proofs.Tops.{far_block}
use Rattle.leaf_changes.specs.Tops.{disk_top, root_top}
use Rattle.normal_files.proofs.Refusals.{damage_as}
use Rattle.file_ops.proofs.changing.write.Goals as goal

pub returns-in-Normal-clause-changes : goal.returns-in-Normal-clause-changes
returns-in-Normal-clause-changes g c = λ rooted.
    let e = c.write.ensures in
    let d0 = c.args.disk.now in
    let same = damage_as g.D.Disk {at = root_top c.args.at.0 c.args.root.now} {now = disk_top g.D.Disk c.args.at.0 d0} refl d0 (λ far tells. far_block (g.D.Disk.blocks d0) c.args.at.0 (g.D.Disk.content d0) c.args.root.now rooted far) in
    rw c.in-Normal.is (record {
      goes = λ m. let w = e.writes (handed m) rooted m.inside in
          place_so _ refl (e.left ∙ c.requires.left) c.write.result (record { done = w.done; settled = λ durable. w.settled; order = w.order; leaves = w.images; room = w.room; full = w.full; begun = w.begun; sound = w.sound }) e.refused;
      ends = place_ends (λ damage is. elim is [ inl file ↦ OfFile (same damage file) | inr claims ↦ OfClaims claims ]) c.write.result e.refused e.untried e.cylinders (e.left ∙ c.requires.left) e.calls (omega arith) (omega arith) (omega arith);
    })

pub returns-in-Normal-clause-ends : goal.returns-in-Normal-clause-ends
returns-in-Normal-clause-ends g c =
    let e = c.write.ensures in
    rw c.in-Normal.is (place_ends (λ damage is. elim is [ inl file ↦ OfFile file | inr claims ↦ OfClaims claims ]) c.write.result e.refused e.untried e.cylinders (e.left ∙ c.requires.left) e.calls (omega arith) (omega arith) (omega arith))
