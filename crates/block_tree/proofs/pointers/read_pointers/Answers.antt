use Rattle.std.proofs.Common.{◌∙◌, ◌+◌, ◌<◌, ◌^◌, ap, sym, arith, length, ℕ, zero-add}
use Rattle.block_tree.proofs.Words.{All-from_get_or, fill_by_all, number_at, numbers_spelling}
use Rattle.block_tree.proofs.Numbers.{numbers_again}
use Rattle.block_tree.proofs.pointers.read_pointers.Goals as goal

pub returns-clause-read : goal.returns-clause-read
returns-clause-read c =
    let here : (k : ℕ) → k < length c.args.into.now → k < c.loop-i.i = λ k below. omega arith in
    fill_by_all (λ k. number_at c.args.bytes.now (0 + k)) c.loop-i.into (length c.args.into.now) 0 (omega arith)
    (λ k below. c.loop-i.invariant.read k (here k below) ∙ ap (number_at c.args.bytes.now) (sym (zero-add k)))

pub returns-clause-fit : goal.returns-clause-fit
returns-clause-fit c = All-from_get_or (λ n. n < 2 ^ 32) c.loop-i.into 0 (λ k below. c.loop-i.invariant.fit k (omega arith))

pub returns-clause-spelled : goal.returns-clause-spelled
returns-clause-spelled c =
    ap numbers_spelling (returns-clause-read c) ∙ numbers_again c.args.bytes.now (length c.args.into.now) (λ i. omega (arith, c.type_inv.bytes i)) c.requires
