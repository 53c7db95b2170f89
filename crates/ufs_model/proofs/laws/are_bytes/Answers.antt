use Rattle.std.proofs.Common.{refl, get_or, arith}
use Rattle.ufs_model.proofs.Words.{and_from_places, list_all, lt-ltb, nat_lt}
use Rattle.ufs_model.proofs.laws.are_bytes.Goals as goal

-- each byte fits its type
pub returns : goal.returns
returns c =
    and_from_places (list_all (λ byte. nat_lt byte 256)) (λ byte. nat_lt byte 256) refl (λ _ _. refl) c.args.bytes.now 0
    (λ i _. lt-ltb (get_or c.args.bytes.now i 0) 256 (omega (arith, c.type_inv.bytes i)))
