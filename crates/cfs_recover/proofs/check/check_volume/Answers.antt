use Rattle.std.proofs.Common.{refl}
use Rattle.cfs_recover.proofs.Words.{IsOpenFault, Stores}
use Rattle.cfs_recover.proofs.Refused.{if_err, sound_refused}
use Rattle.cfs_recover.proofs.check.check_volume.Goals as goal

pub returns-in_err-survey_volume-clause-refused : goal.returns-in_err-survey_volume-clause-refused
returns-in_err-survey_volume-clause-refused g c tells =
    let d = c.args.disk.now in
    let stored : Stores g.D.Disk d (g.D.Disk.content d) = record { tells = tells; content = refl; size = g.met.D.Disk.sized d tells.honest; blocks = g.met.D.Disk.of_blocks d tells.honest } in
    if_err (IsOpenFault (g.D.Disk.content d)) _ _ c.from_residual.ensures.1 (c.in_err-survey_volume.ensures.told (g.D.Disk.content d) stored)

pub returns-in_err-survey_volume-clause-free : goal.returns-in_err-survey_volume-clause-free
returns-in_err-survey_volume-clause-free g c tells sound =
    let d = c.args.disk.now in
    let stored : Stores g.D.Disk d (g.D.Disk.content d) = record { tells = tells; content = refl; size = g.met.D.Disk.sized d tells.honest; blocks = g.met.D.Disk.of_blocks d tells.honest } in
    if_err _ _ _ c.from_residual.ensures.1 (sound_refused (g.D.Disk.content d) sound.0 sound.1 _ (c.in_err-survey_volume.ensures.told (g.D.Disk.content d) stored))

pub returns-clause-sound : goal.returns-clause-sound
returns-clause-sound g c tells =
    let d = c.args.disk.now in
    let stored : Stores g.D.Disk d (g.D.Disk.content d) = record { tells = tells; content = refl; size = g.met.D.Disk.sized d tells.honest; blocks = g.met.D.Disk.of_blocks d tells.honest } in
    let s = c.in_ok-survey_volume.ensures.told (g.D.Disk.content d) stored in
    (s.whole.graph, s.whole.sound)

pub returns-clause-by_object : goal.returns-clause-by_object
returns-clause-by_object g c tells graph sound =
    let d = c.args.disk.now in
    let stored : Stores g.D.Disk d (g.D.Disk.content d) = record { tells = tells; content = refl; size = g.met.D.Disk.sized d tells.honest; blocks = g.met.D.Disk.of_blocks d tells.honest } in
    c.in_ok-survey_volume.ensures.by_object (g.D.Disk.content d) graph stored sound
