-- How reads that follow one another are one.
use Rattle.std.proofs.Common.{ℕ, ◌+◌, ◌≤◌, List, ◌++◌, length, sym, ◌∙◌, ap, append_assoc, length-append, arith}
use Rattle.cfs_base.specs.Outside.{Supply}
use Rattle.cfs_streams.specs.Reading.{Gave, GaveUpTo}

-- what two reads gave
pub then : {a b c : Supply} {xs ys : List ℕ} → Gave a b xs → Gave b c ys → Gave a c (xs ++ ys)
then {a} {b} {c} {xs} {ys} one two = record {
  kept = omega (arith, one.kept, two.kept);
  first = λ left told.
      let p = one.first left told in
      let q = two.first p.0 p.1 in
      (q.0, q.1, p.2 ∙ ap (λ zs. xs ++ zs) q.2 ∙ sym (append_assoc xs ys q.0));
}

-- what is read on is more of it
pub up_to : {a b c : Supply} {xs : List ℕ} (n most : ℕ) → Gave a b xs → GaveUpTo n b c → length xs + n ≤ most → GaveUpTo most a c
up_to {a} {b} {c} {xs} n most so_far more fits = (xs ++ more.0, omega (arith, length-append xs more.0, more.1), then so_far more.2)
