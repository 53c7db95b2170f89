-- How texts that were written one after the other are one text.
use Rattle.std.proofs.Common.{ℕ, ◌+◌, ◌≤◌, min, List, [], ◌++◌, length, take, drop, Some, Result, Ok, Err, IsErr, sym, ◌∙◌, ap, append_assoc, arith}
use Rattle.std.proofs.lemmas.Bool.{false≢true}
use Rattle.std.proofs.Math.Seq.{take-append-add, take-add}
use Rattle.std.proofs.lemmas.List.{append-nil, take-append-le, take_min}
use Rattle.cfs_base.specs.Outside.{Intake, Writes}
use Rattle.cfs_streams.specs.Writing.{Wrote, WroteSome, WritesWhole}

-- nothing was written
pub nothing : (s : Intake) → Wrote s s []
nothing s = record { kept = omega arith; whole = λ taken told. told ∙ ap Some (sym (append-nil taken)) }

-- two texts written one after the other are the two appended
pub then : (a b c : Intake) (xs ys : List ℕ) → Wrote a b xs → Wrote b c ys → Wrote a c (xs ++ ys)
then a b c xs ys first second = record {
  kept = omega (arith, first.kept, second.kept);
  whole = λ taken told. second.whole (taken ++ xs) (first.whole taken told) ∙ ap Some (append_assoc taken xs ys);
}

-- where the second was cut short, so were the two appended
pub then_some : (a b c : Intake) (xs ys : List ℕ) → Wrote a b xs → WroteSome b c ys → WroteSome a c (xs ++ ys)
then_some a b c xs ys first second = record {
  kept = omega (arith, first.kept, second.kept);
  failed = omega (arith, first.kept, second.failed);
  some = λ taken told.
      let part = second.some (taken ++ xs) (first.whole taken told) in (
        length xs + part.0,
        part.1 ∙ ap Some (append_assoc taken xs (take part.0 ys)) ∙ ap (λ zs. Some (taken ++ zs)) (sym (take-append-add xs ys part.0)),
      );
}

-- where the first was cut short, so were the two appended: the second was not begun
pub cut : (a b : Intake) (xs ys : List ℕ) → WroteSome a b xs → WroteSome a b (xs ++ ys)
cut a b xs ys first = record {
  kept = first.kept;
  failed = first.failed;
  some = λ taken told.
      let part = first.some taken told in
      let within : min part.0 (length xs) ≤ length xs = omega arith in
      (min part.0 (length xs), part.1 ∙ ap (λ zs. Some (taken ++ zs)) (sym (take-append-le (min part.0 (length xs)) xs ys within ∙ take_min part.0 xs)));
}

-- the second, whole or cut short, after the first
pub then_whole : {T E : Type 0} (r : Result T E) (a b c : Intake) (xs ys : List ℕ) → Wrote a b xs → WritesWhole b c ys r → WritesWhole a c (xs ++ ys) r
then_whole (Ok v) a b c xs ys first second = then a b c xs ys first second
then_whole (Err e) a b c xs ys first second = then_some a b c xs ys first second

-- an error that hands on the first's
pub cut_whole : {T E : Type 0} (r : Result T E) (a b : Intake) (xs ys : List ℕ) → IsErr r → WroteSome a b xs → WritesWhole a b (xs ++ ys) r
cut_whole (Ok v) a b xs ys failed first = absurd (false≢true failed)
cut_whole (Err e) a b xs ys failed first = cut a b xs ys first

-- one write goes on with a text
pub goes_on : (a b c : Intake) (text : List ℕ) (w n : ℕ) → Wrote a b (take w text) → Writes b c (drop w text) (Ok n) → Wrote a c (take (w + n) text)
goes_on a b c text w n so_far write =
    rw take-add (then a b c (take w text) (take n (drop w text)) so_far (record { kept = write.kept; whole = write.takes }))

-- what serves where texts follow one another
pub ruleset texts = (nothing, then, then_some, cut, then_whole, cut_whole)
