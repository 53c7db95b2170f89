use Rattle.std.proofs.Common.{◌∷◌, []}
use Rattle.cfs_serve.proofs.Begun.{charter}
use Rattle.cfs_serve.proofs.talk.converse_with.Given as goal

-- the charter tells what is served, and the exchange what it began with
abbrev pub ghosts-converse_by-J-Charter : goal.ghosts-converse_by-J-Charter
ghosts-converse_by-J-Charter g a = record { charter = charter g.A.Server a.server (a.port ∷ []) 0 }

abbrev pub ghosts-converse_by-X-Exchange : goal.ghosts-converse_by-X-Exchange
ghosts-converse_by-X-Exchange g a = record { session = 0; source = a.lines.supply; sink = a.port.sink }
