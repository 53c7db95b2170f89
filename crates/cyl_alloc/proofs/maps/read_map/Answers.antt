use Rattle.std.proofs.Common.{◌*◌, ◌/◌, ◌∙◌, sym, refl}
use Rattle.cyl_alloc.proofs.Entries.{is_good, is_bad}
use Rattle.cyl_alloc.proofs.maps.read_map.Goals as goal

pub returns-clause-whole : goal.returns-clause-whole
returns-clause-whole g c tells =
    let at = 64 * (c.args.block / 64) in
    let read = c.in-Ok-decode.ensures.read in
    is_good (g.D.Disk.content c.args.disk.now) c.args.block c.in-Ok-decode.map (record { is_map = read.0; spelled = sym (c.in-Ok.ensures.bytes (tells.told at)) ∙ read.1 })

pub returns-in_default-decode-clause-refused : goal.returns-in_default-decode-clause-refused
returns-in_default-decode-clause-refused g c =
    let bad = c.in_default-decode.field-0 in
    record {
      code = refl;
      block = refl;
      bad = λ tells.
          is_bad (g.D.Disk.content c.args.disk.now) c.args.block bad.entry bad.byte c.read.new.into (c.in-Ok.ensures.bytes (tells.told (64 * (c.args.block / 64))))
          ((c.in_default-decode.ensures.refused bad.entry bad.byte).0 refl);
    }
