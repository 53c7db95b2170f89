use Rattle.std.proofs.Common.{◌∙◌, sym, refl}
use Rattle.cfs_script.proofs.WordLemmas.{digits_in-decoded}
use Rattle.cfs_script.proofs.word.id_of.Goals as goal

pub returns : goal.returns
returns c =
    let decoded = digits_in-decoded c.args.word.now c.in-Ok.bytes (sym c.from_hex.ensures ∙ c.in-Ok.is) in
    decoded ∙ rw (c.from_be_bytes.ensures, c.from_be_bytes-2.ensures) refl
