use Rattle.std.proofs.Common.{◌∙◌, inl, sym, arith}
use Rattle.cfs_serve.proofs.Cited.{request_lines}
use Rattle.cfs_serve.proofs.NamesEnd.{Ran, core_serves}
use Rattle.cfs_serve.proofs.Playing.{free_now}
use Rattle.cfs_serve.proofs.dirs.serve_lines.Goals as goal

pub returns-clause-served : goal.returns-clause-served
returns-clause-served g c =
    let all = request_lines c.args.script.now in
    let sink = g.K.Sink.intake c.args.sink.now in
    let after = g.K.Sink.intake c.answer_by-core.new.sink in
    let mid = c.answer_by-core.result.1 in
    let told = c.answer_by-core.result.0 in
    let new = c.tidy_all-refused.new.core in
    let refused = c.tidy_all-refused.result in
    let status = c.status-last in
    let ran : Ran g.D.Disk c.images_are_whole.ensures.sized c.images_are_whole.ensures.left_sized c.args.core mid new all sink after told refused status.result = record {
      runs = c.requires.core.runs;
      answers = c.answer_by-core.ensures.answers;
      watched = c.answer_by-core.ensures.watched;
      tidied = c.tidy_all-refused.ensures;
      mid_size = c.has_room.ensures.size;
      new_size = c.has_room-2.ensures.size;
      objects = status.ensures.objects;
      stopped = status.ensures.stopped;
      damage = status.ensures.damage;
      free = λ s serves none. status.ensures.free ∙ sym (free_now g.D.Disk new none);
      within = λ s serves. let together = status.ensures.together s serves in omega (arith, together);
      room = c.has_room-2.ensures.room;
    } in
    rw (c.into_disk-2.ensures, c.stopped.ensures) (inl (core_serves g.D.Disk c.images_are_whole.ensures.sized c.images_are_whole.ensures.left_sized c.args.core mid new all sink after told refused status.result ran c.report_on.result
    (rw c.stopped.ensures at c.report_on.ensures)))
