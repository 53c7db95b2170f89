use Rattle.std.proofs.Common.{◌≡◌, ◌≤◌, ◌∙◌, ◌+◌, ◌-◌, ◌++◌, List, ℕ, length, take, drop, refl, ap, sym, arith}
use Rattle.std.proofs.lemmas.List.{drop-take, take-append-drop, take-take, take_all}
use Rattle.std.proofs.lemmas.Result.{err_from_is_err_and}
use Rattle.name_dirs.proofs.Heard.{runs_on}
use Rattle.name_dirs.proofs.Looked.{looked, looks_err, looks_ok, looks_on, looks_own, reads_itself, reads_on}
use Rattle.name_dirs.proofs.Spent.{later_itself, later_on, spends_err}
use Rattle.name_dirs.specs.declared.fault.DirFault.TheVariants as faults
use Rattle.name_dirs.proofs.opening.read_bytes.Goals as goal

take_on : (i n : ℕ) (xs : List ℕ) → take i xs ++ take (i + n - i) (drop i xs) ≡ take (i + n) xs
take_on i n xs =
    let same : i + n - i ≡ n = omega arith in
    ap (λ (m : ℕ). take i xs ++ take m (drop i xs)) same ∙ ap (λ l. take i xs ++ l) (sym (drop-take i n xs))
    ∙ ap (λ l. l ++ drop i (take (i + n) xs)) (sym (take-take i (i + n) xs (omega arith))) ∙ take-append-drop i (take (i + n) xs)

pub pieces-init : goal.pieces-init
pieces-init g c = record {
  within = omega arith;
  later = later_itself g.A.Asker c.args.asker.now;
  so_far = λ s f stands runs at size. (reads_itself g.A.Asker c.args.who c.args.asker.now s stands, c.new-bytes.ensures.items);
}

pub returns-in_err-piece-clause-went : goal.returns-in_err-piece-clause-went
returns-in_err-piece-clause-went g c = λ s f stands runs at size.
    let so = c.pieces.invariant.so_far s f stands runs at size in
    let within : c.pieces.at + c.min-count.result ≤ length f.bytes = omega (arith, size, c.min-count.ensures) in
    let p = err_from_is_err_and c.from_residual.result c.from_residual.ensures.1 in
    rw (p.1, p.2) (looks_on g.A.Asker c.args.who s _ _ c.args.asker.now c.pieces.asker c.bytes_of.new.asker _ so.0
    (looks_err g.A.Asker c.args.who s _ _ _ _ c.pieces.asker c.bytes_of.new.asker _ (c.in_err-piece.ensures.went s f so.0.stands at within) (λ fault. fault)))

pub returns-in_err-piece-clause-spends : goal.returns-in_err-piece-clause-spends
returns-in_err-piece-clause-spends g c =
    let p = err_from_is_err_and c.from_residual.result c.from_residual.ensures.1 in
    rw (p.1, p.2) (spends_err g.A.Asker 0 0 0 c.args.asker.now c.pieces.asker c.bytes_of.new.asker _ c.pieces.invariant.later c.in_err-piece.ensures.spends (omega arith))

pub returns-in_err-extend_from_slice-clause-went : goal.returns-in_err-extend_from_slice-clause-went
returns-in_err-extend_from_slice-clause-went g c = λ s f stands runs at size.
    let so = c.pieces.invariant.so_far s f stands runs at size in
    let within : c.pieces.at + c.min-count.result ≤ length f.bytes = omega (arith, size, c.min-count.ensures) in
    let told = looked g.A.Asker c.args.who s _ _ c.pieces.asker c.bytes_of.new.asker _ (c.in_ok-piece.ensures.went s f so.0.stands at within) in
    let p = err_from_is_err_and c.from_residual-in_err-extend_from_slice.result c.from_residual-in_err-extend_from_slice.ensures.1 in
    rw (p.1, p.2) (looks_own g.A.Asker c.args.who s _ _ c.args.asker.now c.bytes_of.new.asker faults.Memory (reads_on g.A.Asker c.args.who c.args.asker.now c.pieces.asker c.bytes_of.new.asker s s so.0 told.0) refl (runs_on s faults.Memory runs) tt)

pub pieces-preserved : goal.pieces-preserved
pieces-preserved g c = record {
  within = omega (arith, c.min-count.ensures);
  later = later_on g.A.Asker 0 0 0 c.args.asker.now c.pieces.asker c.bytes_of.new.asker c.pieces.invariant.later c.in_ok-piece.ensures.spends.later (omega arith);
  so_far = λ s f stands runs at size.
      let so = c.pieces.invariant.so_far s f stands runs at size in
      let within : c.pieces.at + c.min-count.result ≤ length f.bytes = omega (arith, size, c.min-count.ensures) in
      let told = looked g.A.Asker c.args.who s _ _ c.pieces.asker c.bytes_of.new.asker _ (c.in_ok-piece.ensures.went s f so.0.stands at within) in (
        reads_on g.A.Asker c.args.who c.args.asker.now c.pieces.asker c.bytes_of.new.asker s s so.0 told.0,
        c.in_ok-extend_from_slice.ensures.items ∙ ap (λ (l : List ℕ). l ++ c.as_slice.result.now) so.1 ∙ ap (λ (l : List ℕ). take c.pieces.at f.bytes ++ l) (c.as_slice.ensures ∙ told.2)
            ∙ take_on c.pieces.at c.min-count.result f.bytes,
      );
}

pub returns-clause-went : goal.returns-clause-went
returns-clause-went g c = λ s f stands runs at size.
    let so = c.pieces.invariant.so_far s f stands runs at size in
    looks_ok g.A.Asker c.args.who s _ _ c.args.asker.now c.pieces.asker c.new.result so.0 runs (c.new.ensures ∙ so.1 ∙ take_all c.pieces.at f.bytes (omega (arith, size, c.pieces.invariant.within)))
