use Rattle.std.proofs.Common.{◌∙◌, ◌<◌, ℕ, List, Some, ap, subst, sym}
use Rattle.std.specs.Prelude.{reverse}
use Rattle.marking.specs.declared.memory.Grey.{Grey}
use Rattle.marking.specs.Colours.{cursor_of}
use Rattle.collector_marks.specs.Kept.{Marked, colours_of, place_among}
use Rattle.collector_marks.proofs.Cursors.{cursor_at, inside, no_cursor}
use Rattle.collector_marks.proofs.marks.Marks.cursor_of.Goals as goal

pub returns-in_default : goal.returns-in_default
returns-in_default c =
    let xs = c.self.inside.grey.items in
    let found = c.place_in.ensures ∙ ap (λ (l : List Grey). place_among (reverse l) c.args.id) c.as_slice.ensures.value in
    sym (no_cursor c.args.id (reverse xs) (sym found ∙ c.in_default.is))
    ∙ ap (λ (m : Marked). cursor_of (colours_of m).grey c.args.id) c.self.view_is

pub index-requires : goal.index-requires
index-requires c =
    let found = c.place_in.ensures ∙ ap (λ (l : List Grey). place_among (reverse l) c.args.id) c.as_slice.ensures.value in
    subst (λ (n : ℕ). c.in-Some.place < n) (sym c.self.inside.grey.ok.0)
    (inside c.args.id c.self.inside.grey.items c.in-Some.place (sym found ∙ c.in-Some.is))

pub returns : goal.returns
returns c =
    let xs = c.self.inside.grey.items in
    let found = c.place_in.ensures ∙ ap (λ (l : List Grey). place_among (reverse l) c.args.id) c.as_slice.ensures.value in
    ap (λ (e : Grey). Some e.cursor) c.index.ensures
    ∙ sym (cursor_at c.args.id xs c.in-Some.place (sym found ∙ c.in-Some.is) _)
    ∙ ap (λ (m : Marked). cursor_of (colours_of m).grey c.args.id) c.self.view_is
