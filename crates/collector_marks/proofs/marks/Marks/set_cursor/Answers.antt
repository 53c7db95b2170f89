use Rattle.std.proofs.Common.{◌∙◌, ◌<◌, ℕ, List, length, set, ap, subst, sym}
use Rattle.std.specs.Prelude.{reverse}
use Rattle.std.proofs.lemmas.List.Elements.{All-set}
use Rattle.marking.specs.declared.memory.Grey.{Grey}
use Rattle.marking.specs.Colours.{with_cursor}
use Rattle.collector_marks.specs.Kept.{Marked, colours_of, place_among}
use Rattle.collector_marks.proofs.Cursors.{inside, moves_at, none_moves}
use Rattle.collector_marks.proofs.marks.Marks.set_cursor.Goals as goal

pub returns-in_default-clause-moved : goal.returns-in_default-clause-moved
returns-in_default-clause-moved c =
    let xs = c.self.inside.grey.items in
    let found = c.place_in.ensures ∙ ap (λ (l : List Grey). place_among (reverse l) c.args.id) c.as_slice.ensures.value in
    let none = sym found ∙ c.in_default.is in
    ap colours_of (sym c.self.view_is)
    ∙ ap (λ (l : List Grey). colours_of (record { marks = c.self.inside.marked; grey = l }))
    (sym (none_moves c.args.id c.args.cursor (reverse xs) none))
    ∙ ap (λ (m : Marked). with_cursor c.args.id c.args.cursor (colours_of m)) c.self.view_is

pub index_mut-requires : goal.index_mut-requires
index_mut-requires c =
    let found = c.place_in.ensures ∙ ap (λ (l : List Grey). place_among (reverse l) c.args.id) c.as_slice.ensures.value in
    let at = sym found ∙ c.in-Some.is in
    subst (λ (n : ℕ). c.in-Some.place < n) (sym c.self.inside.grey.ok.0)
    (inside c.args.id c.self.inside.grey.items c.in-Some.place at)

pub invariant_of-self : goal.invariant_of-self
invariant_of-self c =
    let xs = c.self.inside.grey.items in
    let found = c.place_in.ensures ∙ ap (λ (l : List Grey). place_among (reverse l) c.args.id) c.as_slice.ensures.value in
    let at = sym found ∙ c.in-Some.is in
    let here = c.self.invariant.0 c.in-Some.place _ (inside c.args.id xs c.in-Some.place at) in (
      All-set (λ (e : Grey). e.id.block < length c.self.inside.marked) xs c.in-Some.place _
          (subst (λ (e : Grey). e.id.block < length c.self.inside.marked) (sym c.index_mut.ensures.value) here)
          c.self.invariant.0,
      c.self.invariant.1,
      c.self.invariant.2,
    )

pub returns-clause-moved : goal.returns-clause-moved
returns-clause-moved c =
    let xs = c.self.inside.grey.items in
    let place = c.in-Some.place in
    let found = c.place_in.ensures ∙ ap (λ (l : List Grey). place_among (reverse l) c.args.id) c.as_slice.ensures.value in
    let at = sym found ∙ c.in-Some.is in
    let kept : List Grey → Marked = λ l. record { marks = c.self.inside.marked; grey = l } in
    ap (λ (e : Grey). colours_of (kept (reverse (set xs place (record { id = e.id; cursor = c.args.cursor })))))
    c.index_mut.ensures.value
    ∙ ap (λ (l : List Grey). colours_of (kept l)) (moves_at c.args.id xs place at c.args.cursor _)
    ∙ ap (λ (m : Marked). with_cursor c.args.id c.args.cursor (colours_of m)) c.self.view_is
