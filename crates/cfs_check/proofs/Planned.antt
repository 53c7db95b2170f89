-- What is written as a volume is mended whose faults are of entries alone.
use Rattle.std.proofs.Common.{◌≡◌, inl, inr, ℕ, ◌*◌, ◌<◌, ◌≤◌, ◌^◌, length, sym, subst, arith}
use Rattle.std.proofs.lemmas.Bool.{cases_lt}
use Rattle.cfs_base.specs.Disk.{Image, block_at}
use Rattle.ufs_model.proofs.Graphs.{object_there}
use Rattle.ufs_model.specs.Graph.{Graph}
use Rattle.vol_image.specs.Fault.{Fault, shown_root}
use Rattle.cfs_check.specs.Repair.{IsMendable, IsMendPlan, mended}
use Rattle.cfs_check.specs.Sized.{AreSized}
use Rattle.cfs_check.specs.Uses.{unused_in}
use Rattle.cfs_check.specs.declared.survey.Surveyed.{Surveyed}
use Rattle.cfs_check.proofs.Built.{map_is}
use Rattle.cfs_check.proofs.Reading.{graph, graph_has, in_graph}
use Rattle.cfs_check.proofs.Restored.{mends_to}
use Rattle.cfs_check.proofs.Whole.{found_from, leaves}

module _ (image : Image) (s : Surveyed) (m : IsMendable image s) where
  abbrev whole : AreSized image
  whole = m.loadable.whole

  few : length image < 2 ^ 32
  few = omega (arith, m.loadable.most)

  some : 3 ≤ length image
  some = let one = m.surveyed.whole.has.is_label.some in omega (arith, one, m.surveyed.size)

  room : 4 ≤ unused_in s.survey.uses
  room = elim (cases_lt (unused_in s.survey.uses) 4) [
    | inl full ↦ absurd (elim (m.entries 11 0 (Fault.TooFull (unused_in s.survey.uses) (leaves image whole s.survey m.surveyed.whole) full)) [ inl is ↦ omega (arith, is) | inr is ↦ omega (arith, is) ])
    | inr many ↦ many
  ]

  abbrev g : Graph
  g = graph image whole s.survey m.surveyed.whole m.entries

  abbrev b : Image
  b = mended image s.survey.roots.blocks s.survey.uses

  is_plan : IsMendPlan image s.survey.roots.blocks s.survey.uses g b
  is_plan = let mends = mends_to image whole s.survey m.surveyed.whole m.surveyed.size few m.entries m.single room in record {
    mends = mends;
    cylinders = omega (arith, m.surveyed.size);
    roots = λ r has.
        let x = found_from image whole s.survey m.surveyed.whole r has in
        let o = object_there g x.0 (in_graph image whole s.survey m.surveyed.whole m.entries x.0 x.1) in
        record { id = x.0; object = o.0; there = o.1; block = x.2; is = subst (λ (n : ℕ). shown_root image n ≡ block_at b n) x.2 (mends.roots x.0 o.0 o.1).shown };
    found = λ id o at. ((graph_has image whole s.survey m.surveyed.whole m.entries).each id o at).2;
    maps = λ j below. map_is image whole some few s.survey m.surveyed.whole j below;
  }

  pub planned : (graph : Graph) × (made : Image) × IsMendPlan image s.survey.roots.blocks s.survey.uses graph made
  planned = (g, b, is_plan)
