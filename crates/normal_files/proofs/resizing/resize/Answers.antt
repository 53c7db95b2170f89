use Rattle.normal_files.proofs.Words.{Ok, Refused, refused_by, refl, ◌∙◌, ap, arith, reads_then, reads_within}
use Rattle.normal_files.specs.Ends.{is_damaged}
use Rattle.cfs_base.proofs.Went.{reads_none}
use Rattle.normal_files.proofs.FileCalls.{becomes_on, damage_same, handed_file, images_read, none_on, read_troubled, shrink_refused, troubled_untried, becomes_as, file_size, partly_as, view, view_on, shrink_on_disk}
use Rattle.normal_files.proofs.Refusals.{root_trouble, stopped_undamaged}
use Rattle.cfs_base.proofs.Passed.{is_passed}
use Rattle.normal_files.proofs.resizing.resize.Goals as goal
use Rattle.leaf_changes.specs.Tops.{disk_top}

pub returns-in_err-shrink-clause-refused : goal.returns-in_err-shrink-clause-refused
returns-in_err-shrink-clause-refused g c =
    rw (is_passed c.from_residual-in_err-shrink.result (refused_by c.in_err-shrink.field-0.0) c.from_residual-in_err-shrink.ensures.1) ((shrink_refused g.D.Disk (disk_top g.D.Disk c.args.at.0 c.args.disk.now) c.args.floor c.args.disk.now c.read_root.new.disk c.shrink.new.disk c.in_ok-root.ensures.reads c.args.space.now c.in_err-shrink.field-0.0
    (shrink_on_disk g.D.Disk c.args.at.0 c.in_ok-root.root c.args.disk.now c.read_root.new.disk c.shrink.new.disk c.in_ok-root.ensures.root c.in_err-shrink.field-0.0 c.in_err-shrink.ensures.refused)))

pub returns-in_err-has_room-clause-untried : goal.returns-in_err-has_room-clause-untried
returns-in_err-has_room-clause-untried g c = rw (is_passed c.from_residual.result c.in_err-has_room.field-0.0 c.from_residual.ensures.1) (λ h. (refl, reads_none g.D.Disk 3 c.args.disk.now))

pub returns-in_err-root-clause-untried : goal.returns-in_err-root-clause-untried
returns-in_err-root-clause-untried g c = rw (is_passed c.from_residual-in_err-root.result (refused_by c.in_err-root.field-0.0) c.from_residual-in_err-root.ensures.1) (λ h. (refl, reads_within g.D.Disk c.args.disk.now c.read_root.new.disk 1 3 (omega arith) c.in_err-root.ensures.reads))

pub returns-in_err-grow-clause-untried : goal.returns-in_err-grow-clause-untried
returns-in_err-grow-clause-untried g c = rw (is_passed c.from_residual-in_err-grow.result (refused_by c.in_err-grow.field-0.0) c.from_residual-in_err-grow.ensures.1) (λ h.
    let two = troubled_untried c.in_err-grow.field-0.0 c.in_err-grow.ensures.ends.untried h in
    (refl, reads_then g.D.Disk c.args.disk.now c.read_root.new.disk c.grow.new.disk 1 2 3 c.in_ok-root.ensures.reads two.1 (omega arith)))

pub returns-in_err-shrink-clause-untried : goal.returns-in_err-shrink-clause-untried
returns-in_err-shrink-clause-untried g c = rw (is_passed c.from_residual-in_err-shrink.result (refused_by c.in_err-shrink.field-0.0) c.from_residual-in_err-shrink.ensures.1) (λ h.
    let two = troubled_untried c.in_err-shrink.field-0.0 c.in_err-shrink.ensures.untried h in
    (two.0, reads_then g.D.Disk c.args.disk.now c.read_root.new.disk c.shrink.new.disk 1 2 3 c.in_ok-root.ensures.reads two.1 (omega arith)))

pub returns-in_err-has_room-clause-resizes : goal.returns-in_err-has_room-clause-resizes
returns-in_err-has_room-clause-resizes g c = λ h. rw (is_passed c.from_residual.result c.in_err-has_room.field-0.0 c.from_residual.ensures.1) (record {
  done = tt;
  takes_none = tt;
  settled = λ more. tt;
  images = images_read (reads_none g.D.Disk 0 c.args.disk.now) _;
  sound = ap is_damaged c.in_err-has_room.ensures.full.0;
})

pub returns-in_err-root-clause-resizes : goal.returns-in_err-root-clause-resizes
returns-in_err-root-clause-resizes g c = λ h. rw (is_passed c.from_residual-in_err-root.result (refused_by c.in_err-root.field-0.0) c.from_residual-in_err-root.ensures.1) (record {
  done = tt;
  takes_none = tt;
  settled = λ more. tt;
  images = images_read c.in_err-root.ensures.reads _;
  sound = damage_same c.in_err-root.field-0.0 ∙ c.in_err-root.ensures.sound (handed_file h).root h.store.carries.tells (handed_file h).tree.spelled;
})

pub returns-then-root-size-clause-resizes : goal.returns-then-root-size-clause-resizes
returns-then-root-size-clause-resizes g c = λ h.
    let reads = c.in_ok-root.ensures.reads in
    let v = view h (g.met.D.Disk.of_blocks c.args.disk.now h.store.carries.tells.honest) (c.in_ok-root.ensures.root h.store.carries.tells) in
    let now = c.in_ok-grow.ensures.grown c.args.space.now (view_on reads v) (omega (arith, c.if-root-size.true, file_size v)) in
    let all = becomes_on reads v now.0 in
    record {
      done = becomes_as h _ _ _ (Ok tt) all.done;
      takes_none = none_on reads {E = Refused} c.grow.new.disk (Ok tt) now.1.1;
      settled = λ more. now.1.0;
      images = partly_as h all.images;
      sound = tt;
    }

pub returns-in_err-grow-clause-resizes : goal.returns-in_err-grow-clause-resizes
returns-in_err-grow-clause-resizes g c = λ h.
    rw (is_passed c.from_residual-in_err-grow.result (refused_by c.in_err-grow.field-0.0) c.from_residual-in_err-grow.ensures.1) (let reads = c.in_ok-root.ensures.reads in
    let v = view h (g.met.D.Disk.of_blocks c.args.disk.now h.store.carries.tells.honest) (c.in_ok-root.ensures.root h.store.carries.tells) in
    let all = becomes_on reads v (c.in_err-grow.ensures.grown c.args.space.now (view_on reads v) (omega (arith, c.if-root-size.true, file_size v))).0 in
    record {
      done = tt;
      takes_none = tt;
      settled = λ more. tt;
      images = partly_as h all.images;
      sound = damage_same c.in_err-grow.field-0.0 ∙ stopped_undamaged g.D.Disk c.read_root.new.disk c.grow.new.disk c.in_err-grow.field-0.0 c.in_err-grow.ensures.ends.refused;
    })

pub returns-clause-resizes : goal.returns-clause-resizes
returns-clause-resizes g c = λ h.
    let reads = c.in_ok-root.ensures.reads in
    let v = view h (g.met.D.Disk.of_blocks c.args.disk.now h.store.carries.tells.honest) (c.in_ok-root.ensures.root h.store.carries.tells) in
    let size = file_size v in
    let now = c.in_ok-shrink.ensures.shrunk (view_on reads v) (omega (arith, c.if-root-size.false, size)) in
    let all = becomes_on reads v now.0 in
    record {
      done = becomes_as h _ _ _ (Ok tt) all.done;
      takes_none = none_on reads {E = Refused} c.shrink.new.disk (Ok tt) now.1;
      settled = λ more. absurd (omega (arith, c.if-root-size.false, size, more));
      images = partly_as h all.images;
      sound = tt;
    }

pub returns-in_err-shrink-clause-resizes : goal.returns-in_err-shrink-clause-resizes
returns-in_err-shrink-clause-resizes g c = λ h.
    rw (is_passed c.from_residual-in_err-shrink.result (refused_by c.in_err-shrink.field-0.0) c.from_residual-in_err-shrink.ensures.1) (let reads = c.in_ok-root.ensures.reads in
    let v = view h (g.met.D.Disk.of_blocks c.args.disk.now h.store.carries.tells.honest) (c.in_ok-root.ensures.root h.store.carries.tells) in
    let now = c.in_err-shrink.ensures.shrunk (view_on reads v) (omega (arith, c.if-root-size.false, file_size v)) in
    record {
      done = tt;
      takes_none = tt;
      settled = λ more. tt;
      images = partly_as h (becomes_on reads v now.0).images;
      sound = damage_same c.in_err-shrink.field-0.0 ∙ now.2;
    })

pub returns-in_err-root-clause-refused : goal.returns-in_err-root-clause-refused
returns-in_err-root-clause-refused g c =
    rw (is_passed c.from_residual-in_err-root.result (refused_by c.in_err-root.field-0.0) c.from_residual-in_err-root.ensures.1) ((shrink_refused g.D.Disk (disk_top g.D.Disk c.args.at.0 c.args.disk.now) c.args.floor c.args.disk.now c.args.disk.now c.read_root.new.disk (reads_none g.D.Disk 0 c.args.disk.now) c.args.space.now c.in_err-root.field-0.0
    (read_troubled g.D.Disk (disk_top g.D.Disk c.args.at.0 c.args.disk.now) c.args.disk.now c.read_root.new.disk c.in_err-root.field-0.0 (root_trouble g.D.Disk (disk_top g.D.Disk c.args.at.0 c.args.disk.now) c.args.disk.now c.read_root.new.disk c.in_err-root.field-0.0 c.in_err-root.ensures.refused))))
