use Rattle.std.proofs.Common.{◌≡◌, ℕ, List, [], ◌∷◌, ◌++◌, map, sym, ap, arith, append_assoc}
use Rattle.std.proofs.lemmas.List.{append-nil, take_all}
use Rattle.std.specs.List.{flat_map, join_with_byte}
use Rattle.std.specs.Fmt.{decimal}
use Rattle.cfs_script.proofs.reply.put_line.Goals as goal

-- words and numbers, joined by spaces
join_with_byte-numbers : (words : List ℕ) (numbers : List ℕ)
    → join_with_byte 32 (words ∷ map decimal numbers) ≡ words ++ flat_map (λ n. 32 ∷ decimal n) numbers
join_with_byte-numbers words [] = sym (append-nil words)
join_with_byte-numbers words (n ∷ numbers) = ap (λ (t : List ℕ). words ++ 32 ∷ t) (join_with_byte-numbers (decimal n) numbers)

pub returns-clause-items : goal.returns-clause-items
returns-clause-items c =
    let all = take_all c.loop-number.number-index c.args.numbers.now (omega arith) in
    rw (c.put-2.ensures.items, c.loop-number.invariant.written, all, join_with_byte-numbers) (simp append_assoc)
