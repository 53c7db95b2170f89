use Rattle.file_ops.proofs.Words.{◌≡◌, ℕ, ◌+◌, ◌++◌, length, take, drop, sym, ◌∙◌, ap, arith, slice_range, take-append_seam, has_met_damage}
use Rattle.file_ops.proofs.Views.{file_at}
use Rattle.intentions.proofs.Shown.{shown_tells}
use Rattle.special_files.proofs.Refusals.{damaged_by}
use Rattle.file_ops.proofs.reading.read.Goals as goal

pub returns-in-Ok-read-clause-read : goal.returns-in-Ok-read-clause-read
returns-in-Ok-read-clause-read g c = λ v f is rooted.
    let into = c.read.new.into in
    let count : length c.as_mut_slice.result.now ≡ c.args.count = ap (length {A = ℕ}) c.as_mut_slice.ensures.value ∙ c.in-Ok.ensures in
    record {
      bytes = λ inside.
          c.new.ensures
          ∙ ap (λ (n : ℕ). take n (into ++ drop (length into) c.in-Ok.bytes.items)) (sym c.as_mut_slice.ensures.len ∙ sym c.read.ensures.long)
          ∙ take-append_seam into _
          ∙ c.in-Ok-read.ensures.read f (shown_tells v.shown) (file_at v is) rooted (omega (arith, inside, count))
          ∙ ap (λ (n : ℕ). slice_range f.bytes c.args.offset (c.args.offset + n)) count;
      sound = tt;
    }

pub returns-in-Err-read-clause-read : goal.returns-in-Err-read-clause-read
returns-in-Err-read-clause-read g c = λ v f is rooted. record {
  bytes = λ inside. tt;
  sound = ap has_met_damage c.from-in-Err-read.ensures ∙ damaged_by c.in-Err-read.trouble (c.in-Err-read.ensures.sound f (shown_tells v.shown) (file_at v is) rooted);
}
