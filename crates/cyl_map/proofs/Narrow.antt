-- The entries of version 1 are entries, with the same bytes.
use Rattle.std.proofs.Common.{◌≡◌, ⊎_elim, ◌/◌, ◌%◌, ◌^◌, ◌<◌, ◌≤◌, Bool, true, false, List, [], ◌∷◌, Option, Some, None, refl, sym, ◌∙◌, ap, arith}
use Rattle.cyl_map.proofs.Words.{Allocated, BlockState, Free, IntendAllocate, IntendDeallocate, IsNarrowEntry, Leaf, MapEntry, Node, Place, Root, Row, ShadowRoot, Span, entry_of, is_of, list_any, narrow_spelling, narrow_table, place_byte, place_code, place_number, row, spelling, table}
use Rattle.cyl_map.proofs.Rows.{is_of_made, of_row}
use Rattle.cyl_map.proofs.Entries.{entry_of-spelling, or_cases, or_left, or_right}

-- each row of the first list is one of the second, but that its numbers may end earlier
record Widen (rows more : List Row) : Type 0 where
  lets : (e : MapEntry) → list_any (λ row. is_of row e) rows ≡ true → (list_any (λ row. is_of row e) more ≡ true) × (place_number e.place < 2 ^ 16)

widen_one : (row wide : Row) (rows more : List Row) → place_number row.last < 2 ^ 16 → ((e : MapEntry) → is_of row e ≡ true → is_of wide e ≡ true) → Widen rows more → Widen (row ∷ rows) (wide ∷ more)
widen_one row wide rows more small one rest = record {
  lets = λ e is.
      ⊎_elim (λ here. let number = (of_row row e here).number in (or_left _ _ (one e here), omega arith))
      (λ there. let found = rest.lets e there in (or_right (is_of wide e) _ found.0, found.1))
      (or_cases (is_of row e) _ is);
}

-- a row whose last number is larger lets the entry be
longer : (from to : BlockState) (last more : Option Place) (owned may : Bool) (e : MapEntry) → place_code more ≡ place_code last → place_number last ≤ place_number more → is_of (row from to last owned may) e ≡ true → is_of (row from to more owned may) e ≡ true
longer from to last more owned may e kind number is =
    let facts = of_row (row from to last owned may) e is in
    is_of_made (row from to more owned may) e.state e.committed e.place e.owner facts.state (facts.kind ∙ sym kind) (omega (arith, facts.number)) facts.owner

widened : Widen narrow_table table
widened =
    widen_one free free _ _ (omega arith) (λ e is. is)
    (widen_one roots roots _ _ (omega arith) (λ e is. is)
    (widen_one shadows shadows _ _ (omega arith) (λ e is. is)
    (widen_one (inner (Some (Node 119))) (inner (Some (Node 8191))) _ _ (omega arith) (λ e. longer Allocated IntendDeallocate (Some (Node 119)) (Some (Node 8191)) true false e refl (omega arith))
    (widen_one (inner (Some (Leaf 15359))) (inner (Some (Leaf 1048575))) [] (inner (Some (Span 63)) ∷ []) (omega arith) (λ e. longer Allocated IntendDeallocate (Some (Leaf 15359)) (Some (Leaf 1048575)) true false e refl (omega arith))
    (record { lets = λ e none. cc })))))
  where
    free : Row
    free = row Free Allocated None false false

    roots : Row
    roots = row Allocated IntendAllocate (Some Root) true true

    shadows : Row
    shadows = row Allocated IntendAllocate (Some ShadowRoot) true false

    inner : Option Place → Row
    inner last = row Allocated IntendDeallocate last true false

same_bytes : (e : MapEntry) → place_number e.place < 2 ^ 16 → narrow_spelling e ≡ spelling e
unfolding spelling
same_bytes e small =
    let high : place_number e.place / 2 ^ 16 ≡ 0 = omega arith in
    let low : place_number e.place % 2 ^ 16 ≡ place_number e.place = omega arith in
    let byte : place_byte e.place ≡ place_code e.place = omega arith in
    rw (byte, low) refl

pub narrow_read : (e : MapEntry) → IsNarrowEntry e → entry_of (narrow_spelling e) ≡ Some e
narrow_read e is =
    let found = widened.lets e is.in_table in
    ap entry_of (same_bytes e found.1) ∙ entry_of-spelling e (record { in_table = found.0 })
