use Rattle.cfs_serve.proofs.Cited.{charter_of}
use Rattle.cfs_serve.proofs.service.Service.run.Given as goal

-- the charter tells what is served
abbrev pub ghosts-serve_by : goal.ghosts-serve_by
ghosts-serve_by g a = record {
  charter = charter_of a.service.server (g.A.Server.seed a.service.server) (g.A.Server.cylinders a.service.server) (g.A.Server.root a.service.server) a.service.schedule.collections a.service.ports.items;
}
