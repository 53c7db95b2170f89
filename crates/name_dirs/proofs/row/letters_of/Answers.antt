use Rattle.std.proofs.Common.{◌≡◌, ◌∙◌, Bool, ap, refl, sym, true, false, ◌&&◌}
use Rattle.std.specs.List.{list_all}
use Rattle.name_dirs.specs.Text.{is_name_byte}
use Rattle.name_dirs.proofs.Rows.{are_zero, read_row}
use Rattle.name_dirs.proofs.row.letters_of.Goals as goal
use Rattle.name_dirs.proofs.row.letters_of.Goals.{then-not-has_name_bytes-via-then-not-has_name_bytes, then-not-has_name_bytes-via-else-not-has_name_bytes+then-not-are_zeros}

-- the tests as they were told
tested : (a b c d : Bool) → c ≡ a → d ≡ b → (a && b) ≡ (c && d)
tested a b c d one other = rw (one, other)

and_false : (a : Bool) → (a && false) ≡ false
and_false true = refl
and_false false = refl

pub returns-then-not-has_name_bytes : goal.returns-then-not-has_name_bytes
returns-then-not-has_name_bytes c =
    let is = read_row c.args.row.now c.split_at.result.0.now c.split_at.result.1.now c.requires c.if-length-gt-LONGEST_NAME.false c.split_at.ensures.front c.split_at.ensures.back in
    let zeros = are_zero c.split_at.result.1.now in
    elim c.then-not-has_name_bytes.branch [
      | then-not-has_name_bytes-via-then-not-has_name_bytes w ↦ is.0 ∙ ap (λ b. zeros && b) (sym c.has_name_bytes.ensures ∙ w.if-not-has_name_bytes.true) ∙ and_false zeros
      | then-not-has_name_bytes-via-else-not-has_name_bytes+then-not-are_zeros w ↦ is.0 ∙ ap (λ b. b && list_all is_name_byte c.split_at.result.0.now) (sym w.are_zeros.ensures ∙ w.if-not-are_zeros.true)
    ]

pub returns : goal.returns
returns c =
    let is = read_row c.args.row.now c.split_at.result.0.now c.split_at.result.1.now c.requires c.if-length-gt-LONGEST_NAME.false c.split_at.ensures.front c.split_at.ensures.back in
    (is.0 ∙ tested _ _ true true (sym (sym c.are_zeros.ensures ∙ c.if-not-are_zeros.false)) (sym (sym c.has_name_bytes.ensures ∙ c.if-not-has_name_bytes.false)), is.1)
