use Rattle.std.proofs.Common.{◌≡◌, rules}
use Rattle.cfs_serve.proofs.report.VolumeFault.write.Goals as goal

pub returns-in-NotVolume : goal.returns-in-NotVolume
returns-in-NotVolume g c = rw c.in-NotVolume.is c.write_whole.ensures

pub returns-in-Version : goal.returns-in-Version
returns-in-Version g c =
    let number : c.from.result ≡ c.in-Version.found = search rules in
    rw (c.in-Version.is, ← number) c.write_number.ensures
