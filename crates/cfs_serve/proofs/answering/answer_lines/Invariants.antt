use Rattle.std.proofs.Common.{◌≡◌, ◌+◌, ◌*◌, ◌<◌, ◌≤◌, length, true}
use Rattle.std.specs.Vec.{vec_capacity}
use Rattle.cfs_script.specs.declared.reply.TheConstants.{REPLY_ROOM}
use Rattle.ufs_model.specs.Script.{request_lines}
use Rattle.cfs_serve.specs.Lines.{HasAnswered}
use Rattle.cfs_serve.proofs.answering.answer_lines.Given as goal

-- those before the rest were answered, and the sink took each answer
abbrev pub invariant-lines : goal.invariant-lines
invariant-lines g l = record {
  has : HasAnswered g.A.Asker (request_lines l.script) (request_lines l.rest) (g.K.Sink.intake l.initial.sink) (g.K.Sink.intake l.sink) l.initial.asker l.asker l.told;
  took : l.told.took ≡ true;
  words : g.A.Asker.words l.asker + 2 * length (request_lines l.rest) < 4294967290;
  few : l.told.answers + length (request_lines l.rest) < 4294967290;
  room : REPLY_ROOM ≤ vec_capacity l.reply;
}

abbrev pub decreases-lines : goal.decreases-lines
decreases-lines g l = length l.rest
