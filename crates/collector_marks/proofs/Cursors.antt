-- The first entry of an index, in a list that stands the other way round.
use Rattle.std.proofs.Common.{◌≡◌, ℕ, ◌+◌, ◌<◌, List, [], ◌∷◌, ◌++◌, arith, get_or, length, length-append, set, take}
use Rattle.std.proofs.Common.{true, false, cond, ◌&&◌, ◌==◌, Some, None, refl, rules, sym, ap, ◌∙◌}
use Rattle.std.specs.Prelude.{reverse}
use Rattle.std.proofs.Math.Seq.{get_or-append_seam, set-append_seam}
use Rattle.std.proofs.lemmas.List.{append_assoc, length-reverse, length-take-le, reverse-append, reverse-reverse}
use Rattle.std.proofs.lemmas.List.{take_more}
use Rattle.std.proofs.lemmas.Option.{same_Some}
use Rattle.cfs_base.specs.declared.identifier.Puid.{Puid}
use Rattle.ufs_model.specs.Identifier.{same_puid}
use Rattle.marking.specs.declared.memory.Grey.{Grey}
use Rattle.marking.specs.Colours.{cursor_of, moved_at}
use Rattle.collector_marks.specs.Kept.{place_among}

pub alike : (a b : Puid) → ((a.block == b.block) && (a.word == b.word)) ≡ same_puid a b
alike a b = search rules

-- one entry more was gone over
pub one_on : (id : Puid) (xs : List Grey) (n : ℕ) (x : Grey) → n < length xs
    → place_among (reverse (take (n + 1) xs)) id
    ≡ cond (same_puid id (get_or xs n x).id) (Some n) (place_among (reverse (take n xs)) id)
one_on id xs n x inside =
    let y = get_or xs n x in
    let before = reverse (take n xs) in
    ap (λ (ys : List Grey). place_among ys id)
    (ap reverse (take_more xs n x inside) ∙ reverse-append (take n xs) (y ∷ []))
    ∙ ap (λ (k : ℕ). cond (same_puid id y.id) (Some k) (place_among before id))
    (length-reverse (take n xs) ∙ length-take-le n xs (omega (arith, inside)))

-- ---- the list in two parts, before that entry and after

record IsParted (es : List Grey) (i : Puid) (place : ℕ) : Type 0 where
  before : List Grey
  entry : Grey
  after : List Grey
  parts : es ≡ before ++ entry ∷ after
  place_is : length after ≡ place
  cursor : cursor_of es i ≡ Some entry.cursor
  moves : (to : ℕ) → moved_at i to es ≡ before ++ record { id = entry.id; cursor = to } ∷ after

parted : (i : Puid) (es : List Grey) (place : ℕ) → place_among es i ≡ Some place → IsParted es i place
parted i [] place h = cc
parted i (e ∷ es) place h = elim (same_puid i e.id) as (λ b. same_puid i e.id ≡ b
    → cond b (Some (length es)) (place_among es i) ≡ Some place → IsParted (e ∷ es) i place) [
      | true ↦ λ is at. record {
        before = [];
        entry = e;
        after = es;
        parts = refl;
        place_is = same_Some (length es) place at;
        cursor = rw is refl;
        moves = λ to. rw is refl;
      }
      | false ↦ λ is at. (let rest = parted i es place at in record {
        before = e ∷ rest.before;
        entry = rest.entry;
        after = rest.after;
        parts = ap (λ l. e ∷ l) rest.parts;
        place_is = rest.place_is;
        cursor = rw is rest.cursor;
        moves = λ to. rw is (ap (λ l. e ∷ l) (rest.moves to));
      })
    ] refl h

-- where it is grey nowhere
pub no_cursor : (i : Puid) (es : List Grey) → place_among es i ≡ None → cursor_of es i ≡ None
no_cursor i [] h = refl
no_cursor i (e ∷ es) h = elim (same_puid i e.id) as (λ b. cond b (Some (length es)) (place_among es i) ≡ None
    → cond b (Some e.cursor) (cursor_of es i) ≡ None) [
      | true ↦ λ at. cc
      | false ↦ λ at. no_cursor i es at
    ] h

pub none_moves : (i : Puid) (to : ℕ) (es : List Grey) → place_among es i ≡ None → moved_at i to es ≡ es
none_moves i to [] h = refl
none_moves i to (e ∷ es) h = elim (same_puid i e.id) as (λ b. cond b (Some (length es)) (place_among es i) ≡ None
    → cond b (record { id = e.id; cursor = to } ∷ es) (e ∷ moved_at i to es) ≡ e ∷ es) [
      | true ↦ λ at. cc
      | false ↦ λ at. ap (λ l. e ∷ l) (none_moves i to es at)
    ] h

-- in the list as it stands
module _ (i : Puid) (xs : List Grey) (place : ℕ) (at : place_among (reverse xs) i ≡ Some place) where
  abbrev p : IsParted (reverse xs) i place
  p = parted i (reverse xs) place at

  turned : (e : Grey) → reverse (p.before ++ e ∷ p.after) ≡ reverse p.after ++ e ∷ reverse p.before
  turned e =
      reverse-append p.before (e ∷ p.after) ∙ ap (λ l. l ++ reverse p.before) (reverse-append (e ∷ []) p.after)
      ∙ append_assoc (reverse p.after) (e ∷ []) (reverse p.before)

  long : length (reverse p.after) ≡ place
  long = length-reverse p.after ∙ p.place_is

  stands : xs ≡ reverse p.after ++ p.entry ∷ reverse p.before
  stands = sym (reverse-reverse xs) ∙ ap reverse p.parts ∙ turned p.entry

  pub inside : place < length xs
  inside = omega (arith, ap length stands, length-append (reverse p.after) (p.entry ∷ reverse p.before), long)

  entry_at : (x : Grey) → get_or xs place x ≡ p.entry
  entry_at x =
      ap (λ (ys : List Grey). get_or ys place x) stands
      ∙ ap (λ (k : ℕ). get_or (reverse p.after ++ p.entry ∷ reverse p.before) k x) (sym long)
      ∙ get_or-append_seam (reverse p.after) p.entry (reverse p.before) x

  set_at : (z : Grey) → set xs place z ≡ reverse p.after ++ z ∷ reverse p.before
  set_at z =
      ap (λ (ys : List Grey). set ys place z) stands
      ∙ ap (λ (k : ℕ). set (reverse p.after ++ p.entry ∷ reverse p.before) k z) (sym long)
      ∙ set-append_seam (reverse p.after) p.entry (reverse p.before) z

  pub cursor_at : (x : Grey) → cursor_of (reverse xs) i ≡ Some (get_or xs place x).cursor
  cursor_at x = p.cursor ∙ ap (λ (e : Grey). Some e.cursor) (sym (entry_at x))

  pub moves_at : (to : ℕ) (x : Grey)
      → reverse (set xs place (record { id = (get_or xs place x).id; cursor = to })) ≡ moved_at i to (reverse xs)
  moves_at to x =
      let z : Grey = record { id = p.entry.id; cursor = to } in
      ap (λ (e : Grey). reverse (set xs place (record { id = e.id; cursor = to }))) (entry_at x)
      ∙ ap reverse (set_at z ∙ sym (turned z)) ∙ reverse-reverse (p.before ++ z ∷ p.after) ∙ sym (p.moves to)
