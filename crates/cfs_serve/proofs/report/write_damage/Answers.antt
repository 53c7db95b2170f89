use Rattle.std.proofs.Common.{◌≡◌, rules}
use Rattle.cfs_serve.proofs.report.write_damage.Goals as goal

pub returns : goal.returns
returns g c =
    let number : c.from.result ≡ c.args.damage.code = search rules in
    rw (← number) c.write_pair.ensures
