use Rattle.std.proofs.Common.{List, ℕ}
use Rattle.cfs_base.specs.Calls.{MakesAtMost}
use Rattle.cfs_base.specs.Disk.{Image}
use Rattle.cfs_base.specs.Run.{IsSettled}
use Rattle.ufs_model.specs.Graph.{Graph}
use Rattle.cfs_recover.specs.Keeps.{RunKeeps}
use Rattle.cfs_check.specs.Repair.{IsMendPlan, MendsMaps, WroteMaps}
use Rattle.cfs_check.proofs.repair.write_maps.Given as goal

abbrev pub invariant-loop-cylinder : goal.invariant-loop-cylinder
invariant-loop-cylinder g l = record {
  calls : MakesAtMost g.D.Disk l.cylinder l.cylinder l.initial.disk l.disk;
  keeps : (found : List ℕ) (graph : Graph) (b : Image) → IsSettled g.D.Disk l.initial.disk → MendsMaps graph b (g.D.Disk.content l.initial.disk)
      → WroteMaps l.image b (g.D.Disk.content l.initial.disk) 0 → IsMendPlan l.image found l.uses graph b
      → RunKeeps g.D.Disk (MendsMaps graph b) l.initial.disk l.disk × WroteMaps l.image b (g.D.Disk.content l.disk) l.cylinder;
}
