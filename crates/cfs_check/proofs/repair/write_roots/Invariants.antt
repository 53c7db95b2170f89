use Rattle.std.proofs.Common.{◌≡◌}
use Rattle.cfs_base.specs.Calls.{MakesAtMost}
use Rattle.cfs_base.specs.Disk.{Image}
use Rattle.cfs_base.specs.Run.{IsSettled}
use Rattle.ufs_model.specs.Graph.{Graph}
use Rattle.cfs_recover.specs.Keeps.{RunKeeps}
use Rattle.cfs_check.specs.Repair.{IsMendPlan, Mends, WroteRoots}
use Rattle.cfs_check.proofs.repair.write_roots.Given as goal

abbrev pub invariant-loop-place : goal.invariant-loop-place
invariant-loop-place g l = record {
  calls : MakesAtMost g.D.Disk l.place l.place l.initial.disk l.disk;
  keeps : (graph : Graph) (b : Image) → IsSettled g.D.Disk l.initial.disk → g.D.Disk.content l.initial.disk ≡ l.image
      → IsMendPlan l.image l.surveyed.survey.roots.blocks l.surveyed.survey.uses graph b
      → RunKeeps g.D.Disk (Mends graph b) l.initial.disk l.disk
      × WroteRoots l.image l.surveyed.survey.roots.blocks b (g.D.Disk.content l.disk) l.place;
}
