use Rattle.std.proofs.Common.{◌*◌, ◌<◌, ℕ, List, length, refl, sym, ap, subst}
use Rattle.special_files.proofs.Words.{All, Kept, number_if}
use Rattle.special_files.proofs.CommitDone.{decided}
use Rattle.special_files.proofs.CommitLeft.{all_near}
use Rattle.special_files.proofs.commit.finish.Goals as goal

pub note-requires-clause-rest : goal.note-requires-clause-rest
note-requires-clause-rest g c =
    let size = c.requires.size in
    subst (λ (ns : List ℕ). All (λ n. n < 64 * length c.args.space.now.free) ns) (sym c.rest_of.ensures)
    (all_near (64 * length c.args.space.now.free) c.args.taken c.args.dropped.now (number_if c.args.created) c.args.shadow.0
    (subst (λ (k : ℕ). All (λ n. n < k) c.args.taken) size c.requires.taken_on_disk) (subst (λ (k : ℕ). All (λ n. n < k) c.args.dropped.now) size c.requires.dropped_on_disk)
    (λ n is. subst (λ (k : ℕ). n < k) size (c.requires.created_on_disk n is)) (subst (λ (k : ℕ). c.args.shadow.0 < k) size c.requires.shadow_on_disk))

pub returns-in-Err-clause-fails : goal.returns-in-Err-clause-fails
returns-in-Err-clause-fails g c = c.in-Err.ensures.fails c.args.space.now

pub returns-in-Err-clause-finishes : goal.returns-in-Err-clause-finishes
returns-in-Err-clause-finishes g c = record {
  done = λ graph full word was o run counts ready. tt;
  leaves = λ graph full word was o run counts ready. c.decide.ensures.leaves graph full word was o c.args.shadow.0 c.args.taken (number_if c.args.created) run ready;
  sound = λ graph full word was o run counts ready. c.in-Err.ensures.sound graph full word was o c.args.shadow.0 c.args.taken (number_if c.args.created) run ready;
}

pub returns-clause-left : goal.returns-clause-left
returns-clause-left g c = (_, record { is = ap (λ (k : Kept). k.left) c.note.ensures; root = refl; uncopied = refl })

pub returns-clause-finishes : goal.returns-clause-finishes
returns-clause-finishes g c =
    let G = g.D.Disk in
    let d0 = c.args.disk.now in
    let d1 = c.decide.new.disk in
    let s = c.args.shadow.0 in
    let made = number_if c.args.created in
    record {
      done = λ graph full word was o run counts ready.
          let put = c.in-Ok.ensures.put graph full word was o s c.args.taken made run ready in
          decided G d0 run ready d1 put c.args.space.now c.note.new.self counts (ap (λ (k : Kept). k.free) c.note.ensures) c.rest_of.result c.rest_of.ensures (ap (λ (k : Kept). k.left) c.note.ensures) (c.in-Ok.ensures.settled run.tells);
      leaves = λ graph full word was o run counts ready. c.decide.ensures.leaves graph full word was o s c.args.taken made run ready;
      sound = λ graph full word was o run counts ready. tt;
    }
