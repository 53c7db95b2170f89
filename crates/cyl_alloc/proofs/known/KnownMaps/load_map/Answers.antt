use Rattle.std.proofs.Common.{◌*◌, ◌/◌, ◌∙◌, sym, refl}
use Rattle.cyl_alloc.proofs.Words.{entries_of}
use Rattle.cyl_alloc.proofs.Entries.{is_good, is_bad}
use Rattle.cyl_alloc.proofs.known.KnownMaps.load_map.Goals as goal

pub returns-clause-map : goal.returns-clause-map
returns-clause-map g c tells = record {
  is_map = c.in-Ok-check_beside.ensures.map.entries;
  spelled = sym (c.in-Ok.ensures.bytes (tells.told (64 * (c.args.block / 64)))) ∙ c.in-Ok-check_beside.ensures.map.spelled;
}

pub returns-clause-whole : goal.returns-clause-whole
returns-clause-whole g c tells =
    is_good (g.D.Disk.content c.args.disk.now) c.args.block (entries_of c.read.new.into) (returns-clause-map g c tells)

pub returns-in_default-check_beside-clause-refused : goal.returns-in_default-check_beside-clause-refused
returns-in_default-check_beside-clause-refused g c =
    let bad = c.in_default-check_beside.field-0 in
    record {
      code = refl;
      block = refl;
      bad = λ tells.
          is_bad (g.D.Disk.content c.args.disk.now) c.args.block bad.entry bad.byte c.read.new.into (c.in-Ok.ensures.bytes (tells.told (64 * (c.args.block / 64)))) c.in_default-check_beside.ensures.refused;
    }
