use Rattle.std.proofs.Common.{◌≡◌, ◌-◌, List, [], ◌∷◌, length, get_or, refl, sym, ◌∙◌, ap, arith, Some}
use Rattle.std.specs.Prelude.{reverse, slice_get}
use Rattle.std.proofs.lemmas.List.{get_or-reverse, length-reverse}
use Rattle.std.proofs.lemmas.Option.{slice_get-get_or}
use Rattle.marking.specs.declared.memory.Grey.{Grey}
use Rattle.marking.specs.Colours.{first_grey}
use Rattle.collector_marks.specs.Kept.{Marked, colours_of}
use Rattle.collector_marks.proofs.marks.Marks.next_grey.Goals as goal

last_first : (xs : List Grey) → slice_get xs (length xs - 1) ≡ slice_get (reverse xs) 0
last_first [] = refl
last_first (x ∷ xs) =
    let all = x ∷ xs in
    let at : length all - 1 - 0 ≡ length all - 1 = omega arith in
    slice_get-get_or all (length all - 1) x (omega arith)
    ∙ ap (λ k. Some (get_or all k x)) (sym at)
    ∙ ap Some (sym (get_or-reverse all 0 x (omega arith)))
    ∙ sym (slice_get-get_or (reverse all) 0 x (omega (arith, length-reverse all)))

pub returns-clause-first : goal.returns-clause-first
returns-clause-first c =
    c.copied.ensures ∙ c.last.ensures.value ∙ ap (λ (xs : List Grey). slice_get xs (length xs - 1)) c.deref.ensures.value
    ∙ last_first c.self.inside.grey.items ∙ ap (λ (m : Marked). first_grey (colours_of m)) c.self.view_is
