use Rattle.std.proofs.Common.{◌≡◌, ◌*◌, ◌∙◌, Bool, List, ℕ, Option, true, false, not, length, ap, arith, refl, subst, sym}
use Rattle.std.specs.Prelude.{MatchOption}
use Rattle.std.specs.Str.{bytes_eq}
use Rattle.name_dirs.specs.Directory.{row_at}
use Rattle.name_dirs.specs.Text.{AddsText, header, is_row, is_text, letters_in, name_in}
use Rattle.name_dirs.proofs.Rows.{copied_name}
use Rattle.name_dirs.proofs.Scanned.{IsScanned, scan_all, scan_bad, scan_more, scan_none, scan_twice}
use Rattle.name_dirs.proofs.opening.are_rows.Goals as goal

-- a copy of the letters of a row is its name
name_of : (row letters : List ℕ) (text : Option (List ℕ)) → length row ≡ 64 → is_row row ≡ true → letters ≡ letters_in row → MatchOption text (is_text letters ≡ false) (λ t. (is_text letters ≡ true) × (t ≡ letters)) → name_in row ≡ text
name_of row letters text size is same told = sym (copied_name row text size is (subst (λ (l : List ℕ). MatchOption text (is_text l ≡ false) (λ t. (is_text l ≡ true) × (t ≡ l))) same told))

told : (b : Bool) → false ≡ not b → b ≡ true
told true h = refl
told false h = cc h

pub returns-in_default : goal.returns-in_default
returns-in_default c = sym (scan_bad c.args.bytes.now c.args.slots c.rows.place (omega arith) (omega arith) (ap is_row (sym c.row_at-in-rows.ensures.row) ∙ c.in_default.ensures))

pub rows-preserved-in_default-2 : goal.rows-preserved-in_default-2
rows-preserved-in_default-2 c =
    let row = c.row_at-in-rows.result.now in
    let named = name_of row c.in-Some.letters.now c.in_ok-name.field-0 c.row_at-in-rows.ensures.size c.in-Some.ensures.0 c.in-Some.ensures.1 c.in_ok-name.ensures in
    let is = c.row_at-in-rows.ensures.row in
    scan_none c.args.bytes.now c.rows.names c.rows.place c.rows.invariant (omega arith) (ap is_row (sym is) ∙ c.in-Some.ensures.0) (ap name_in (sym is) ∙ named ∙ c.in_default-2.is)

pub returns-then-not-branch : goal.returns-then-not-branch
returns-then-not-branch c =
    let row = c.row_at-in-rows.result.now in
    let named = name_of row c.in-Some.letters.now c.in_ok-name.field-0 c.row_at-in-rows.ensures.size c.in-Some.ensures.0 c.in-Some.ensures.1 c.in_ok-name.ensures in
    let is = c.row_at-in-rows.ensures.row in
    let twice = subst (λ (b : Bool). AddsText c.rows.names c.add.new.self c.in-Some-2.name b) c.if-not-branch.true c.in_ok-add.ensures.added in
    sym (scan_twice c.args.bytes.now c.rows.names c.rows.place c.rows.invariant (omega arith) c.in-Some-2.name (ap is_row (sym is) ∙ c.in-Some.ensures.0) (ap name_in (sym is) ∙ named ∙ c.in-Some-2.is) c.add.new.self c.args.slots (omega arith) twice)

pub rows-preserved : goal.rows-preserved
rows-preserved c =
    let row = c.row_at-in-rows.result.now in
    let named = name_of row c.in-Some.letters.now c.in_ok-name.field-0 c.row_at-in-rows.ensures.size c.in-Some.ensures.0 c.in-Some.ensures.1 c.in_ok-name.ensures in
    let is = c.row_at-in-rows.ensures.row in
    let more = subst (λ (b : Bool). AddsText c.rows.names c.add.new.self c.in-Some-2.name b) c.if-not-branch.false c.in_ok-add.ensures.added in
    scan_more c.args.bytes.now c.rows.names c.rows.place c.rows.invariant (omega arith) c.in-Some-2.name (ap is_row (sym is) ∙ c.in-Some.ensures.0) (ap name_in (sym is) ∙ named ∙ c.in-Some-2.is) c.add.new.self more

pub returns : goal.returns
returns c =
    let here : c.rows.place ≡ c.args.slots = omega (arith, c.rows-test.false, c.rows.auto) in
    let size : length c.args.bytes.now ≡ 64 * c.args.slots = c.if-bytes-slots.false in
    let first : row_at c.args.bytes.now 0 ≡ c.row_at.result.now = sym c.row_at.ensures.row in
    let head : bytes_eq c.row_at.result.now c.as_slice.result.now ≡ true = told _ c.if-ne.ensures in
    let is : c.as_slice.result.now ≡ header = c.as_slice.ensures ∙ c.header.ensures in
    sym (scan_all c.args.bytes.now c.rows.names c.args.slots (subst (IsScanned c.args.bytes.now c.rows.names) here c.rows.invariant) size (ap (λ l. bytes_eq l header) first ∙ ap (bytes_eq c.row_at.result.now) (sym is) ∙ head))
