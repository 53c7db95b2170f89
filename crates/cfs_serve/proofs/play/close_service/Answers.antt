use Rattle.std.proofs.Common.{◌≡◌, ap, arith}
use Rattle.cfs_serve.proofs.Cited.{blocks_of_grant, sum_by}
use Rattle.cfs_serve.proofs.Playing.{served}
use Rattle.cfs_serve.specs.Volume.{IsStatusOf}
use Rattle.cfs_serve.proofs.play.close_service.Goals as goal

pub returns-clause-sessions : goal.returns-clause-sessions
returns-clause-sessions g c = λ core before collections runs is.
    let last = c.status-last in
    let last_is : IsStatusOf c.args.served.server last.result = record {
      objects = last.ensures.objects;
      free = last.ensures.free;
      stopped = last.ensures.stopped;
      damage = last.ensures.damage;
      running = last.ensures.running;
      called = last.ensures.called;
      finished = last.ensures.finished;
    } in
    rw c.into_disk.ensures (served g.D.Disk c.images_are_whole.ensures.sized c.images_are_whole.ensures.left_sized core before c.args.served last.result last_is collections runs is
    c.report_on-report.result c.report_on-report.ensures
    (λ s serves calm none. let undrafted : sum_by blocks_of_grant s.grants ≡ 0 = ap (sum_by blocks_of_grant) none in omega (arith, c.has_room.ensures.room s serves calm, undrafted))
    (λ graph reads. c.runs_survive.ensures.begin core.words.seed graph core.disk reads))
