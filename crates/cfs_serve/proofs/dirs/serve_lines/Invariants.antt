use Rattle.cfs_serve.proofs.dirs.serve_lines.Given as goal

-- how often the disk had failed before the first line
abbrev pub ghosts-answer_by : goal.ghosts-answer_by
ghosts-answer_by g a = record { faults = g.D.Disk.faults a.core.disk }
