-- The lines of a trail, one event further.
use Rattle.std.proofs.Common.{◌≡◌, ℕ, ◌+◌, List, ◌++◌, take, drop, Some, slice_get, sym, ap, ◌∙◌, subst, append_assoc, Result, Ok, Err}
use Rattle.cfs_serve.proofs.Cited.{Event, Failed, Intake, Opening, Replied, WritesWhole, Wrote, WroteSome, begun_lines, cut, ended_line, event_line, flat_map, is_ok, opening_line, then, then_some}
use Rattle.cfs_serve.proofs.Texts.{cut_at, one_more}

abbrev line : Event → List ℕ
line e = ended_line (event_line e)

-- the first line broke off
pub broke_first : (a b : Intake) (o : Opening) (es : List Event) (text : List ℕ) → text ≡ opening_line o → WroteSome a b (ended_line text) → WroteSome a b (begun_lines o es)
broke_first a b o es text is now = cut a b (ended_line (opening_line o)) (flat_map line es) (subst (λ t. WroteSome a b (ended_line t)) is now)

-- one line more
pub one_line : (o : Opening) (es : List Event) (n : ℕ) (e : Event) → slice_get es n ≡ Some e → begun_lines o (take (n + 1) es) ≡ begun_lines o (take n es) ++ line e
one_line o es n e at =
    ap (λ l. ended_line (opening_line o) ++ l) (one_more line es n e at) ∙ sym (append_assoc (ended_line (opening_line o)) (flat_map line (take n es)) (line e))

-- and those behind
pub behind : (o : Opening) (es : List Event) (n : ℕ) → begun_lines o es ≡ begun_lines o (take n es) ++ flat_map line (drop n es)
behind o es n = ap (λ l. ended_line (opening_line o) ++ l) (cut_at line es n) ∙ sym (append_assoc (ended_line (opening_line o)) (flat_map line (take n es)) (flat_map line (drop n es)))

-- a line that was written, or broke off, behind the lines before it
pub wrote_on : (a b c : Intake) (o : Opening) (es : List Event) (n : ℕ) (e : Event) (text : List ℕ) → slice_get es n ≡ Some e → text ≡ event_line e
    → Wrote a b (begun_lines o (take n es)) → Wrote b c (ended_line text) → Wrote a c (begun_lines o (take (n + 1) es))
wrote_on a b c o es n e text at is before now =
    subst (Wrote a c) (sym (one_line o es n e at)) (then a b c (begun_lines o (take n es)) (line e) before (subst (λ t. Wrote b c (ended_line t)) is now))

pub broke_off : (a b c : Intake) (o : Opening) (es : List Event) (n : ℕ) (e : Event) (text : List ℕ) → slice_get es n ≡ Some e → text ≡ event_line e
    → Wrote a b (begun_lines o (take n es)) → WroteSome b c (ended_line text) → WroteSome a c (begun_lines o es)
broke_off a b c o es n e text at is before now =
    let some : WroteSome a c (begun_lines o (take n es) ++ line e) = then_some a b c (begun_lines o (take n es)) (line e) before (subst (λ t. WroteSome b c (ended_line t)) is now) in
    subst (WroteSome a c) (sym (behind o es (n + 1))) (cut a c (begun_lines o (take (n + 1) es)) (flat_map line (drop (n + 1) es)) (subst (WroteSome a c) (sym (one_line o es n e at)) some))

-- whole, or with an error
pub replied : (old new : Intake) (text : List ℕ) (result : Result (Unit {0}) Failed) → WritesWhole old new text result → Replied old new text (is_ok result)
replied old new text (Ok u) wrote = wrote
replied old new text (Err e) wrote = wrote
