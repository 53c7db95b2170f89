use Rattle.cfs_serve.proofs.report.Cause.write_line.Goals as goal

pub returns-in-LongTotal : goal.returns-in-LongTotal
returns-in-LongTotal g c = rw c.in-LongTotal.is c.write_whole-in-LongTotal.ensures

pub returns-in-LongVolume : goal.returns-in-LongVolume
returns-in-LongVolume g c = rw c.in-LongVolume.is c.write_whole-in-LongVolume.ensures
