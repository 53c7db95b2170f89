use Rattle.std.proofs.Common.{◌≡◌, ◌%◌, List, ℕ, sym, ◌∙◌, ap}
use Rattle.cyl_map.proofs.Mapped.{said_is}
use Rattle.cyl_map.specs.Map.{bytes_at}
use Rattle.cyl_map.specs.Reading.{said_by}
use Rattle.cyl_map.specs.Mapped.{said_in}
use Rattle.cyl_map.specs.declared.entry.MapEntry.{MapEntry}
use Rattle.cfs_check.proofs.entries.said_place.Goals as goal

pub returns : goal.returns
returns c e is =
    let said : c.entry_in.result ≡ said_in c.args.image.now c.args.block =
    c.entry_in.ensures ∙ ap (λ (b : List ℕ). said_by (bytes_at b (c.args.block % 64))) c.block.ensures in
    ap (λ (x : MapEntry). x.place) (sym (said ∙ said_is c.args.image.now c.args.block e is))
