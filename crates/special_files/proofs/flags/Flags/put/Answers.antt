use Rattle.std.proofs.Common.{◌≡◌, ℕ, ◌+◌, ◌-◌, ◌≤◌, ◌++◌, Bool, false, List, length, replicate, set, sym, ◌∙◌, ap, arith}
use Rattle.special_files.proofs.Words.{length-replicate, replicate-append-replicate, set-append_left}
use Rattle.std.proofs.lemmas.List.{append_assoc, length-append, length-set}
use Rattle.special_files.proofs.flags.Flags.put.Goals as goal

long : (xs : List Bool) (n : ℕ) → length (xs ++ replicate n false) ≡ length xs + n
long xs n = length-append xs (replicate n false) ∙ ap (λ m. length xs + m) (length-replicate n false)

-- a list that reaches further, by flags that aren't set, is the same flags
reached : (xs : List Bool) (n len : ℕ) → length xs ≤ len → n ≤ len
    → (xs ++ replicate (n - length xs) false) ++ replicate (len - length (xs ++ replicate (n - length xs) false)) false
    ≡ xs ++ replicate (len - length xs) false
reached xs n len short below =
    let more = n - length xs in
    let rest = len - length (xs ++ replicate more false) in
    append_assoc xs (replicate more false) (replicate rest false)
    ∙ ap (λ ys. xs ++ ys) (replicate-append-replicate more rest false
    ∙ ap (λ m. replicate m false) (omega (arith, long xs more, short, below)))

pub returns : goal.returns
returns c =
    let xs = c.self.inside.items.items in
    let len = c.self.inside.len in
    let ys = c.reach.new.items.items in
    let at = c.args.at in
    let flag = c.args.flag in
    let within : at + 1 ≤ len = omega (arith, c.requires, ap (length {A = Bool}) c.self.view_is, long xs (len - length xs), c.self.invariant) in
    ap (λ n. set ys at flag ++ replicate (len - n) false) (length-set ys at flag)
    ∙ sym (set-append_left ys (replicate (len - length ys) false) at flag
    (omega (arith, ap (length {A = Bool}) c.reach.ensures.items, long xs (at + 1 - length xs))))
    ∙ ap (λ fs. set fs at flag) (ap (λ zs. zs ++ replicate (len - length zs) false) c.reach.ensures.items
    ∙ reached xs (at + 1) len (omega (arith, c.self.invariant)) within
    ∙ c.self.view_is)
