use Rattle.std.proofs.Common.{List, ℕ, Err, sym, ◌∙◌, ap, subst, arith}
use Rattle.cfs_recover.proofs.Words.{Fault, HasLabel, IsOtherVersion}
use Rattle.cfs_recover.proofs.maps.read_label.Goals as goal

pub returns-then-label-blocks-clause-told : goal.returns-then-label-blocks-clause-told
returns-then-label-blocks-clause-told g c image stored =
    let has : HasLabel image c.in-Ok.label = record { is_label = c.in-Ok.ensures.read.0; spelled = sym (c.in_ok-block.ensures.told image stored) ∙ c.in-Ok.ensures.read.1 } in (
      record { long = omega (arith, stored.size, c.blocks-blocks.ensures, c.if-blocks-lt3.false); label = c.in-Ok.label; has = has },
      Fault.WrongSize c.in-Ok.label has (λ same. c.if-label-blocks.true (omega (arith, same, stored.size, c.blocks-blocks.ensures))),
    )

pub returns-in-Err-Version-clause-told : goal.returns-in-Err-Version-clause-told
returns-in-Err-Version-clause-told g c image stored = (
  omega (arith, stored.size, c.blocks-blocks.ensures, c.if-blocks-lt3.false),
  subst (λ (b : List ℕ). IsOtherVersion b c.in-Err-Version.found) (c.in_ok-block.ensures.told image stored) ((c.in-Err-Version.ensures.version c.in-Err-Version.found).0 (ap Err c.in-Err-Version.field-0-is)),
)
