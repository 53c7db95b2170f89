use Rattle.std.proofs.Common.{◌∙◌, sym}
use Rattle.trail_text.proofs.Back.{id_decoded}
use Rattle.trail_text.proofs.read_word.id_in.Goals as goal

pub returns : goal.returns
returns c =
    let decoded = id_decoded c.args.word.now c.in-Ok.bytes (sym c.from_hex.ensures ∙ c.in-Ok.is) in
    rw (c.from_be_bytes.ensures, c.from_be_bytes-2.ensures) (sym decoded)
