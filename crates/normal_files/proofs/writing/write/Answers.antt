use Rattle.normal_files.proofs.Words.{Ok, ◌≡◌, ◌∙◌, length, true, false, refl, ap, sym, subst, arith, had_tried, refused_by, trouble_had_tried, Trouble, makes_then, reads_make, reads_within}
use Rattle.normal_files.specs.Ends.{is_damaged}
use Rattle.normal_files.specs.WriteRefusal.{IsWriteRefusal, TellsNeed, needs}
use Rattle.cfs_base.proofs.Went.{makes_within}
use Rattle.normal_files.proofs.Come.{come_reads}
use Rattle.normal_files.proofs.Ending.{gone_come, gone_err}
use Rattle.normal_files.proofs.FileCalls.{becomes_as, damage_same, handed_file, images_read, partly_as, parts_refused, parts_tell, parts_untried, read_refused, room_refused, room_tells, trouble_tells, view, writable_on, wrote_on, view_on}
use Rattle.normal_files.proofs.NeedOf.{parts_need}
use Rattle.cfs_base.specs.declared.refusal.Refused.TheVariants as refusals
use Rattle.cfs_base.specs.declared.refusal.Trouble.TheVariants as trouble
use Rattle.normal_files.proofs.writing.write.Goals as goal
use Rattle.leaf_changes.specs.Tops.{root_top}

never : (t : Trouble) → trouble_had_tried t ≡ false → refused_by t ≡ refusals.Disk true → ⊥
never (trouble.Disk tried) none is = (let no : false ≡ true = sym none ∙ ap had_tried is in cc)
never (trouble.Damaged damage) none is = cc

pub returns-in-Err-clause-refused : goal.returns-in-Err-clause-refused
returns-in-Err-clause-refused g c = subst (IsWriteRefusal g.D.Disk (root_top c.args.at.0 c.args.root.now) c.args.floor c.args.disk.now c.read.new.disk c.args.space.now c.args.space.now) (sym c.from.ensures) (read_refused g.D.Disk (root_top c.args.at.0 c.args.root.now) c.args.floor c.args.disk.now c.read.new.disk c.args.space.now c.args.space.now c.in-Err.trouble c.in-Err.ensures.refused)

pub returns-in-Err-clause-untried : goal.returns-in-Err-clause-untried
returns-in-Err-clause-untried g c = λ h. (refl, reads_within g.D.Disk c.args.disk.now c.read.new.disk 2 72 (omega arith) c.in-Err.ensures.reads)

pub returns-in-Err-clause-calls : goal.returns-in-Err-clause-calls
returns-in-Err-clause-calls g c = makes_within g.D.Disk c.args.disk.now c.read.new.disk 2 0 _ _ (omega arith) (omega arith) (reads_make g.D.Disk c.args.disk.now c.read.new.disk _ c.in-Err.ensures.reads)

pub returns-in-Err-has_room-clause-refused : goal.returns-in-Err-has_room-clause-refused
returns-in-Err-has_room-clause-refused g c = room_refused g.D.Disk (root_top c.args.at.0 c.args.root.now) c.args.floor _ c.args.disk.now c.read.new.disk c.args.space.now c.args.space.now c.in-Err-has_room.error c.in-Err-has_room.ensures.full.0 c.in-Err-has_room.ensures.full.1

pub returns-in-Err-has_room-clause-untried : goal.returns-in-Err-has_room-clause-untried
returns-in-Err-has_room-clause-untried g c = λ h. (refl, reads_within g.D.Disk c.args.disk.now c.read.new.disk 2 72 (omega arith) c.in-Ok.ensures.reads)

pub returns-in-Err-has_room-clause-calls : goal.returns-in-Err-has_room-clause-calls
returns-in-Err-has_room-clause-calls g c = makes_within g.D.Disk c.args.disk.now c.read.new.disk 2 0 _ _ (omega arith) (omega arith) (reads_make g.D.Disk c.args.disk.now c.read.new.disk _ c.in-Ok.ensures.reads)

pub returns-in-Ok-write_parts-clause-calls : goal.returns-in-Ok-write_parts-clause-calls
returns-in-Ok-write_parts-clause-calls g c = makes_then g.D.Disk c.args.disk.now c.read.new.disk c.write_parts.new.disk 2 _ _ 0 _ _ (reads_make g.D.Disk c.args.disk.now c.read.new.disk _ c.in-Ok.ensures.reads) c.in-Ok-write_parts.ensures.ends.calls (omega (arith, c.in-Ok.ensures.few)) (omega (arith, c.in-Ok.ensures.few))

pub returns-in-Err-write_parts-clause-refused : goal.returns-in-Err-write_parts-clause-refused
returns-in-Err-write_parts-clause-refused g c =
    parts_refused g.D.Disk (root_top c.args.at.0 c.args.root.now) c.args.floor c.args.disk.now c.write_parts.new.disk c.args.space.now c.write_parts.new.space c.in-Err-write_parts.error ((gone_err false c.in-Err-write_parts.error (gone_come (come_reads c.in-Ok.ensures.reads) c.args.space.now) c.in-Err-write_parts.ensures.ends).refused (omega (arith, c.need-low.ensures.count, c.need-high.ensures.count, c.in-Ok-has_room.ensures.room)))

pub returns-in-Err-write_parts-clause-untried : goal.returns-in-Err-write_parts-clause-untried
returns-in-Err-write_parts-clause-untried g c = λ h.
    let halts = gone_err false c.in-Err-write_parts.error (gone_come (come_reads c.in-Ok.ensures.reads) c.args.space.now) c.in-Err-write_parts.ensures.ends in
    let two = parts_untried g.D.Disk c.args.disk.now c.write_parts.new.disk _ c.in-Err-write_parts.error (halts.refused (omega (arith, c.need-low.ensures.count, c.need-high.ensures.count, c.in-Ok-has_room.ensures.room))) halts.untried h in
    (two.0, reads_within g.D.Disk c.args.disk.now c.write_parts.new.disk _ 72 (omega (arith, c.in-Ok.ensures.few, c.in-Ok.ensures.parts.first)) two.1)

pub returns-in-Err-write_parts-clause-calls : goal.returns-in-Err-write_parts-clause-calls
returns-in-Err-write_parts-clause-calls g c = makes_within g.D.Disk c.args.disk.now c.write_parts.new.disk _ _ 72 43 (omega (arith, c.in-Ok.ensures.few)) (omega (arith, c.in-Ok.ensures.few)) (gone_err false c.in-Err-write_parts.error (gone_come (come_reads c.in-Ok.ensures.reads) c.args.space.now) c.in-Err-write_parts.ensures.ends).calls

pub returns-in-Err-clause-writes : goal.returns-in-Err-clause-writes
returns-in-Err-clause-writes g c = λ h rooted inside. record {
  done = tt;
  settled = tt;
  order = tt;
  images = images_read c.in-Err.ensures.reads _;
  sound = ap is_damaged c.from.ensures ∙ damage_same c.in-Err.trouble ∙ c.in-Err.ensures.sound h.file h.store.carries.tells (handed_file h) rooted;
  room = tt;
  full = subst (TellsNeed (needs h.file c.args.offset (length c.args.bytes.now))) (sym c.from.ensures) (trouble_tells _ c.in-Err.trouble);
  begun = λ is. absurd (never c.in-Err.trouble c.in-Err.ensures.untried (sym c.from.ensures ∙ is));
}

pub returns-in-Err-has_room-clause-writes : goal.returns-in-Err-has_room-clause-writes
returns-in-Err-has_room-clause-writes g c = λ h rooted inside.
    let v = view h (g.met.D.Disk.of_blocks c.args.disk.now h.store.carries.tells.honest) rooted in
    let need = parts_need v.has c.in-Ok.ensures.parts (c.in-Ok.ensures.low_is h.store.carries.tells) (c.in-Ok.ensures.high_is h.store.carries.tells) c.requires.least in
    record {
      done = tt;
      settled = tt;
      order = tt;
      images = images_read c.in-Ok.ensures.reads _;
      sound = ap is_damaged c.in-Err-has_room.ensures.full.0;
      room = tt;
      full = room_tells _ _ _ c.in-Err-has_room.error c.in-Err-has_room.ensures.full.0 (omega (arith, need, c.need-low.ensures.count, c.need-high.ensures.count));
      begun = λ is. let no = sym c.in-Err-has_room.ensures.full.0 ∙ is in cc;
    }

pub returns-in-Ok-write_parts-clause-writes : goal.returns-in-Ok-write_parts-clause-writes
returns-in-Ok-write_parts-clause-writes g c = λ h rooted inside.
    let tells = h.store.carries.tells in
    let v = view h (g.met.D.Disk.of_blocks c.args.disk.now tells.honest) rooted in
    let reads = c.in-Ok.ensures.reads in
    let need = parts_need v.has c.in-Ok.ensures.parts (c.in-Ok.ensures.low_is tells) (c.in-Ok.ensures.high_is tells) c.requires.least in
    let w = wrote_on reads v (c.in-Ok-write_parts.ensures.writes (view_on reads v) (writable_on reads v inside (c.in-Ok.ensures.low_is tells) (c.in-Ok.ensures.high_is tells))) in
    record {
      done = becomes_as h _ _ _ (Ok tt) w.file.done;
      settled = w.settled;
      order = w.order;
      images = partly_as h w.file.images;
      sound = tt;
      room = omega (arith, need, c.need-low.ensures.count, c.need-high.ensures.count, c.in-Ok-has_room.ensures.room);
      full = tt;
      begun = tt;
    }

pub returns-in-Err-write_parts-clause-writes : goal.returns-in-Err-write_parts-clause-writes
returns-in-Err-write_parts-clause-writes g c = λ h rooted inside.
    let tells = h.store.carries.tells in
    let v = view h (g.met.D.Disk.of_blocks c.args.disk.now tells.honest) rooted in
    let reads = c.in-Ok.ensures.reads in
    let need = parts_need v.has c.in-Ok.ensures.parts (c.in-Ok.ensures.low_is tells) (c.in-Ok.ensures.high_is tells) c.requires.least in
    let w = wrote_on reads v (c.in-Err-write_parts.ensures.writes (view_on reads v) (writable_on reads v inside (c.in-Ok.ensures.low_is tells) (c.in-Ok.ensures.high_is tells))) in
    record {
      done = tt;
      settled = tt;
      order = tt;
      images = partly_as h w.file.images;
      sound = w.sound;
      room = tt;
      full = parts_tell g.D.Disk _ c.read.new.disk c.write_parts.new.disk _ c.in-Err-write_parts.error (c.in-Err-write_parts.ensures.ends.refused (omega (arith, c.need-low.ensures.count, c.need-high.ensures.count, c.in-Ok-has_room.ensures.room)));
      begun = λ is. omega (arith, need, c.need-low.ensures.count, c.need-high.ensures.count, c.in-Ok-has_room.ensures.room);
    }
