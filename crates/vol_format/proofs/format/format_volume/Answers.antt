use Rattle.std.proofs.Common.{◌≡◌, ◌*◌, ◌/◌, ◌≤◌, IsTrue, length, set, sym, ◌∙◌, ap, subst, arith}
use Rattle.vol_image.proofs.Runs.{both_ok}
use Rattle.cfs_base.specs.Disk.{Image}
use Rattle.cfs_base.proofs.Runs.{then, wider}
use Rattle.cyl_map.specs.Volume.{entry_in}
use Rattle.vol_format.specs.Fresh.{IsBlank, MayBeFresh, label_block}
use Rattle.vol_format.proofs.Sound.{body_labelled, fresh_is_sound}
use Rattle.vol_format.proofs.Unlabelled.{blank_is_no_volume}
use Rattle.vol_format.proofs.format.format_volume.Goals as goal

pub returns-in_err-erase-clause-images : goal.returns-in_err-erase-clause-images
returns-in_err-erase-clause-images g c honest = wider g.D.Disk _ _ IsBlank (MayBeFresh c.args.word) c.erase.ensures.images (blank_is_no_volume c.args.word)

pub returns-in_err-write_body-clause-images : goal.returns-in_err-write_body-clause-images
returns-in_err-write_body-clause-images g c honest =
    wider g.D.Disk _ _ IsBlank (MayBeFresh c.args.word) (c.write_body.ensures.stays c.args.disk.now c.in_ok-erase.ensures.unlabelled).leaves (blank_is_no_volume c.args.word)

pub returns-clause-images : goal.returns-clause-images
returns-clause-images g c honest =
    let body = c.in_ok-write_body.ensures in
    let n = c.blocks-cylinders.result / 64 in
    let image = g.D.Disk.content c.write_body.new.disk in
    let tells = subst IsTrue (sym (body.calls.same.honesty ∙ c.erase.ensures.calls.same.honesty)) honest in
    let whole = body.body (subst IsTrue (sym c.erase.ensures.calls.same.honesty) honest) in
    let size : length image ≡ 64 * n = omega (arith, g.met.D.Disk.sized c.write_body.new.disk tells, body.calls.same.size, c.erase.ensures.calls.same.size, c.blocks-cylinders.ensures, c.requires.whole) in
    then g.D.Disk _ _ _ (MayBeFresh c.args.word) (λ i. i ≡ set image 1 (label_block n c.args.word))
    (wider g.D.Disk _ _ IsBlank (MayBeFresh c.args.word) (body.stays c.args.disk.now c.in_ok-erase.ensures.unlabelled).leaves (blank_is_no_volume c.args.word))
    (c.write_label.ensures.images body.only)
    (λ i is _. fresh_is_sound image n c.args.word size (omega (arith, c.requires.some, c.requires.whole, c.blocks-cylinders.ensures)) whole (omega (arith, c.requires.most, c.blocks-cylinders.ensures)) c.ranges.word.fits i is)

pub returns-clause-made : goal.returns-clause-made
returns-clause-made g c honest =
    let body = c.in_ok-write_body.ensures in
    let n = c.blocks-cylinders.result / 64 in
    let image = g.D.Disk.content c.write_body.new.disk in
    let tells = subst IsTrue (sym (body.calls.same.honesty ∙ c.erase.ensures.calls.same.honesty)) honest in
    let whole = body.body (subst IsTrue (sym c.erase.ensures.calls.same.honesty) honest) in
    let size : length image ≡ 64 * n = omega (arith, g.met.D.Disk.sized c.write_body.new.disk tells, body.calls.same.size, c.erase.ensures.calls.same.size, c.blocks-cylinders.ensures, c.requires.whole) in
    let some : 1 ≤ n = omega (arith, c.requires.some, c.requires.whole, c.blocks-cylinders.ensures) in
    both_ok c.write_label.result c.write_label.ensures.written (c.write_label.ensures.settled tells) (λ is settled. record {
      settled = settled;
      sound = fresh_is_sound image n c.args.word size some whole (omega (arith, c.requires.most, c.blocks-cylinders.ensures)) c.ranges.word.fits _ is;
      entries = λ k below. ap (λ (i : Image). entry_in i k) is ∙ (body_labelled image n c.args.word size some whole).entries k
          (omega (arith, below, c.write_label.ensures.calls.same.size, body.calls.same.size, c.erase.ensures.calls.same.size, c.blocks-cylinders.ensures, c.requires.whole));
    })
