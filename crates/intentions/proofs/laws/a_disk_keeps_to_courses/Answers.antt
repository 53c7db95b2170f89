use Rattle.intentions.proofs.Courses.{carries_ended, carries_framed, keeps_frame, keeps_settled}
use Rattle.intentions.proofs.laws.a_disk_keeps_to_courses.Goals as goal

pub returns : goal.returns
returns g c = record {
  frame = λ graph run. keeps_frame g.D.Disk graph c.args.disk.now run;
  carries = λ a graph holds run. carries_framed g.D.Disk a graph c.args.disk.now holds run;
  settled = λ w s on. keeps_settled g.D.Disk w c.args.disk.now s on;
  ends = λ w is run s. carries_ended g.D.Disk w c.args.disk.now is run s;
}
