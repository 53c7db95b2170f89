use Rattle.intentions.proofs.Committed.{copied_settles, still_to_finish}
use Rattle.intentions.proofs.Settling.{may_clear, may_finish, may_finish_made, may_undo}
use Rattle.intentions.proofs.laws.objects_settle.Goals as goal

pub returns : goal.returns
returns c = record {
  begin = copied_settles;
  stays = still_to_finish;
  finish = λ k graph id o s n old is to now. may_finish k graph id o s is n to old now;
  finish_made = λ k graph id o s n old is valid place owner stays apart other. may_finish_made k graph id o s is n old valid place owner stays apart other;
  undo = λ k graph id o s old is stands here. may_undo k graph id o s is stands old here;
  clear = λ k b graph id o s old is settles here. may_clear k graph id o s is b old settles here;
}
