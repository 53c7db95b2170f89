-- The entries of the whole table, from those of its rows.
use Rattle.std.proofs.Common.{◌≡◌, ◌≢◌, ◌⊎◌, ⊎_elim, inl, inr, ℕ, ◌+◌, ◌*◌, ◌/◌, ◌%◌, ◌^◌, ◌<◌, ◌≤◌, Bool, true, false, cond, not, ◌&&◌, ◌||◌, ◌==◌, List, [], ◌∷◌, ◌++◌, length, take, drop, get_or, Option, Some, None, Result, Err, ◌↔◌, refl, sym, ◌∙◌, ap, subst, append_assoc, arith}
use Rattle.cyl_map.proofs.Words.{Allocated, BadEntry, BeginsEntry, BeginsEntryOf, BlockState, Free, IntendAllocate, IntendDeallocate, IsEntry, IsFirstBad, IsFirstBadOf, IsSome, IsSpelledBy, Leaf, MapEntry, Node, Place, Root, Row, ShadowRoot, Span, bytes_eq, bytes_eq-Decides, entry_of, first_byte, from_be_bytes-to_be_bytes_2, from_be_bytes-to_be_bytes_4, is_entry, is_of, list_all, list_any, list_any-append, nat_lt, nat_tests, or_at, place_byte, place_code, place_number, place_of, said_by, spelling, state_of, table, take-append-drop, take-take, take_more}
use Rattle.cyl_map.proofs.Rows.{and_true, and_left, and_right, made, of_row, owned_within, unowned_zero}

pub or_cases : (x y : Bool) → (x || y) ≡ true → (x ≡ true) ⊎ (y ≡ true)
or_cases true y is = inl refl
or_cases false y is = inr is

pub or_left : (x y : Bool) → x ≡ true → (x || y) ≡ true
or_left true y is = refl
or_left false y is = cc

pub or_right : (x y : Bool) → y ≡ true → (x || y) ≡ true
or_right true y is = refl
or_right false y is = is

any_more : (rows : List Row) (i : ℕ) (d : Row) (e : MapEntry) → i < length rows → list_any (λ row. is_of row e) (take (i + 1) rows) ≡ (list_any (λ row. is_of row e) (take i rows) || (is_of (get_or rows i d) e || false))
any_more rows i d e lt = ap (list_any (λ row. is_of row e)) (take_more rows i d lt) ∙ list_any-append (λ row. is_of row e) (take i rows) (get_or rows i d ∷ [])

-- ---- beginnings

-- some entry of these rows begins with these bytes
abbrev pub BeginsAmong : List Row → List ℕ → Type 0
BeginsAmong rows bytes = (e : MapEntry) × (list_any (λ row. is_of row e) rows ≡ true) × (rest : List ℕ) × (spelling e ≡ bytes ++ rest)

-- what begins with the bytes up to a place begins with those up to an earlier one
shorter : (xs bytes rest : List ℕ) (k m : ℕ) → k ≤ m → xs ≡ take m bytes ++ rest → xs ≡ take k bytes ++ (drop k (take m bytes) ++ rest)
shorter xs bytes rest k m le is =
    let cut : take k (take m bytes) ++ drop k (take m bytes) ≡ take m bytes = take-append-drop k (take m bytes) in
    let same : take k (take m bytes) ≡ take k bytes = take-take k m bytes le in
    is ∙ ap (λ ys. ys ++ rest) (sym cut ∙ ap (λ ys. ys ++ drop k (take m bytes)) same) ∙ append_assoc (take k bytes) (drop k (take m bytes)) rest

pub shorter_of : (row : Row) (bytes : List ℕ) (k m : ℕ) → k ≤ m → BeginsEntryOf row (take m bytes) → BeginsEntryOf row (take k bytes)
shorter_of row bytes k m le (e, is, rest, spelled) = (e, is, drop k (take m bytes) ++ rest, shorter (spelling e) bytes rest k m le spelled)

pub shorter_among : (rows : List Row) (bytes : List ℕ) (k m : ℕ) → k ≤ m → BeginsAmong rows (take m bytes) → BeginsAmong rows (take k bytes)
shorter_among rows bytes k m le (e, is, rest, spelled) = (e, is, drop k (take m bytes) ++ rest, shorter (spelling e) bytes rest k m le spelled)

pub shorter_entry : (bytes : List ℕ) (k m : ℕ) → k ≤ m → BeginsEntry (take m bytes) → BeginsEntry (take k bytes)
shorter_entry bytes k m le (e, is, rest, spelled) = (e, is, drop k (take m bytes) ++ rest, shorter (spelling e) bytes rest k m le spelled)

-- some entry begins as far as the furthest of the first rows has read, and none of theirs goes on
pub record Furthest (rows : ℕ) (bytes : List ℕ) (place : ℕ) : Type 0 where
  pub begins : BeginsEntry (take place bytes)
  pub ends : ¬ BeginsAmong (take rows table) (take (place + 1) bytes)

-- one row more
ends_more : (rows : List Row) (i : ℕ) (d : Row) (bytes : List ℕ) → i < length rows → ¬ BeginsAmong (take i rows) bytes → ¬ BeginsEntryOf (get_or rows i d) bytes → ¬ BeginsAmong (take (i + 1) rows) bytes
ends_more rows i d bytes lt before here (e, is, rest, spelled) =
    ⊎_elim (λ p. before (e, p, rest, spelled))
    (λ p. ⊎_elim (λ q. here (e, q, rest, spelled)) (λ q. cc) (or_cases (is_of (get_or rows i d) e) false p))
    (or_cases (list_any (λ row. is_of row e) (take i rows)) _ (sym (any_more rows i d e lt) ∙ is))

pub of_table : (i : ℕ) (d : Row) (e : MapEntry) → i < 6 → is_of (get_or table i d) e ≡ true → IsEntry e
of_table i d e lt is = record { in_table = or_at (list_any (λ row. is_of row e)) (λ row. is_of row e) refl (λ _ _. refl) table i d lt is }

pub begins_of : (i : ℕ) (d : Row) (bytes : List ℕ) → i < 6 → BeginsEntryOf (get_or table i d) bytes → BeginsEntry bytes
begins_of i d bytes lt (e, is, rest, spelled) = (e, of_table i d e lt is, rest, spelled)

pub furthest_none : (bytes : List ℕ) → Furthest 0 bytes 0
furthest_none bytes = record {
  begins = (made Free false None 0, record { in_table = refl }, _, refl);
  ends = λ (e, is, rest, spelled). cc;
}

pub furthest_same : (i : ℕ) (d : Row) (bytes : List ℕ) (k m : ℕ) → i < 6 → Furthest i bytes k → IsFirstBadOf (get_or table i d) bytes m → m ≤ k → Furthest (i + 1) bytes k
furthest_same i d bytes k m lt so_far here le = record {
  begins = so_far.begins;
  ends = ends_more table i d (take (k + 1) bytes) lt so_far.ends (λ b. here.bad (shorter_of (get_or table i d) bytes (m + 1) (k + 1) (omega arith) b));
}

pub furthest_more : (i : ℕ) (d : Row) (bytes : List ℕ) (k m : ℕ) → i < 6 → Furthest i bytes k → IsFirstBadOf (get_or table i d) bytes m → k < m → Furthest (i + 1) bytes m
furthest_more i d bytes k m lt so_far here more = record {
  begins = begins_of i d (take m bytes) lt here.before;
  ends = ends_more table i d (take (m + 1) bytes) lt (λ b. so_far.ends (shorter_among (take i table) bytes (k + 1) (m + 1) (omega arith) b)) here.bad;
}

-- all rows
pub furthest_all : (i : ℕ) (bytes : List ℕ) (k : ℕ) → i ≡ 6 → Furthest i bytes k → IsFirstBad bytes k
furthest_all i bytes k all some = let far = subst (λ n. Furthest n bytes k) all some in record { before = far.begins; bad = λ (e, is, rest, spelled). far.ends (e, is.in_table, rest, spelled) }

-- ---- reading back

record FitsBytes (e : MapEntry) : Type 0 where
  number : place_number e.place < 2 ^ 20
  narrow : place_code e.place ≢ 4 → place_number e.place < 2 ^ 16
  owner : e.owner < 2 ^ 32

-- all numbers of a row fit
abbrev row_fits : Row → Bool
row_fits row = nat_lt (place_number row.last) (2 ^ 20) && ((place_code row.last == 4) || nat_lt (place_number row.last) (2 ^ 16))

owner_fits : (owned : Bool) (o : ℕ) → cond owned (nat_lt 0 o && nat_lt o (2 ^ 32)) (o == 0) ≡ true → o < 2 ^ 32
owner_fits true o lets = (owned_within true o refl lets).1
owner_fits false o lets = let none = unowned_zero false o refl lets in omega arith

any_fits : (rows : List Row) (e : MapEntry) → list_all row_fits rows ≡ true → list_any (λ row. is_of row e) rows ≡ true → FitsBytes e
any_fits [] e small is = cc
any_fits (row ∷ rows) e small is =
    ⊎_elim
    (λ p. let here = and_left (row_fits row) _ small in
    let last = and_left (nat_lt (place_number row.last) (2 ^ 20)) _ here in
    let inner = and_right (nat_lt (place_number row.last) (2 ^ 20)) _ here in
    let facts = of_row row e p in
    let below : place_number row.last < 2 ^ 20 = grind (arith, nat_tests) in
    record {
      number = omega arith;
      narrow = λ other. ⊎_elim (λ is. absurd (let leaf : place_code row.last ≡ 4 = grind (arith, nat_tests) in omega arith)) (λ is. let less : place_number row.last < 2 ^ 16 = grind (arith, nat_tests) in omega arith) (or_cases (place_code row.last == 4) _ inner);
      owner = owner_fits row.owned e.owner facts.owner;
    })
    (λ p. any_fits rows e (and_right (row_fits row) _ small) p)
    (or_cases (is_of row e) _ is)

fits : (e : MapEntry) → IsEntry e → FitsBytes e
fits e is = any_fits table e refl is.in_table

state_back : (s : BlockState) (c : Bool) → state_of (first_byte s c % 128) ≡ s
state_back Free true = refl
state_back Free false = refl
state_back Allocated true = refl
state_back Allocated false = refl
state_back IntendAllocate true = refl
state_back IntendAllocate false = refl
state_back IntendDeallocate true = refl
state_back IntendDeallocate false = refl

bit_back : (s : BlockState) (c : Bool) → not (nat_lt (first_byte s c) 128) ≡ c
bit_back Free true = refl
bit_back Free false = refl
bit_back Allocated true = refl
bit_back Allocated false = refl
bit_back IntendAllocate true = refl
bit_back IntendAllocate false = refl
bit_back IntendDeallocate true = refl
bit_back IntendDeallocate false = refl

-- a byte with this kind in its low half says this place
says_node : (byte low : ℕ) → byte % 16 ≡ 3 → place_of byte low ≡ Some (Node low)
says_node byte low kind = rw kind refl

says_leaf : (byte low : ℕ) → byte % 16 ≡ 4 → place_of byte low ≡ Some (Leaf (byte / 16 * 2 ^ 16 + low))
says_leaf byte low kind = rw kind refl

says_span : (byte low : ℕ) → byte % 16 ≡ 5 → place_of byte low ≡ Some (Span low)
says_span byte low kind = rw kind refl

place_back : (p : Option Place) → (place_code p ≢ 4 → place_number p < 2 ^ 16) → place_of (place_byte p) (place_number p % 2 ^ 16) ≡ p
place_back None small = refl
place_back (Some Root) small = refl
place_back (Some ShadowRoot) small = refl
place_back (Some (Node n)) small = let fits = small (omega arith) in says_node (place_byte (Some (Node n))) (n % 2 ^ 16) (omega arith) ∙ ap (λ (m : ℕ). Some (Node m)) (omega arith)
place_back (Some (Leaf n)) small = says_leaf (place_byte (Some (Leaf n))) (n % 2 ^ 16) (omega arith) ∙ ap (λ (m : ℕ). Some (Leaf m)) (omega arith)
place_back (Some (Span n)) small = let fits = small (omega arith) in says_span (place_byte (Some (Span n))) (n % 2 ^ 16) (omega arith) ∙ ap (λ (m : ℕ). Some (Span m)) (omega arith)

same_parts : (s s' : BlockState) (c c' : Bool) (p p' : Option Place) (o o' : ℕ) → s ≡ s' → c ≡ c' → p ≡ p' → o ≡ o' → made s c p o ≡ made s' c' p' o'
same_parts s s' c c' p p' o o' state committed place owner = cc

pub said_by-spelling : (e : MapEntry) → IsEntry e → said_by (spelling e) ≡ e
unfolding spelling
said_by-spelling e is =
    let small = fits e is in
    same_parts _ e.state _ e.committed _ e.place _ e.owner
    (state_back e.state e.committed)
    (bit_back e.state e.committed)
    (ap (place_of (place_byte e.place)) (from_be_bytes-to_be_bytes_2 (place_number e.place % 2 ^ 16) (omega arith)) ∙ place_back e.place small.narrow)
    (from_be_bytes-to_be_bytes_4 e.owner small.owner)

chosen : (b : Bool) (e : MapEntry) → b ≡ true → cond b (Some e) None ≡ Some e
chosen true e is = refl
chosen false e is = cc

chosen_back : (b : Bool) (e f : MapEntry) → cond b (Some e) None ≡ Some f → (b ≡ true) × (e ≡ f)
chosen_back true e f is = (refl, cc)
chosen_back false e f is = cc

-- what is spelled so is read
pub entry_of-spelling : (e : MapEntry) → IsEntry e → entry_of (spelling e) ≡ Some e
unfolding entry_of
entry_of-spelling e is =
    let back = said_by-spelling e is in
    let test : (is_entry (said_by (spelling e)) && bytes_eq (spelling (said_by (spelling e))) (spelling e)) ≡ true =
    ap (λ f. is_entry f && bytes_eq (spelling f) (spelling e)) back ∙ and_true (is_entry e) _ is.in_table ((bytes_eq-Decides (spelling e) (spelling e)).1 refl) in
    chosen _ (said_by (spelling e)) test ∙ ap Some back

-- what is read is spelled so
pub entry_of_spelled : (bytes : List ℕ) (e : MapEntry) → entry_of bytes ≡ Some e → IsEntry e × (bytes ≡ spelling e)
unfolding entry_of
entry_of_spelled bytes e is =
    let found = chosen_back (is_entry (said_by bytes) && bytes_eq (spelling (said_by bytes)) bytes) (said_by bytes) e is in
    let entry = and_left (is_entry (said_by bytes)) _ found.0 in
    let spelled = (bytes_eq-Decides (spelling (said_by bytes)) bytes).0 (and_right (is_entry (said_by bytes)) _ found.0) in
    (record { in_table = ap is_entry (sym found.1) ∙ entry }, sym spelled ∙ ap spelling found.1)

tested : (b : Bool) (e : MapEntry) → IsSome (cond b (Some e) None) → b ≡ true
tested true e some = refl
tested false e some = cc

-- bytes that are an entry spell what they say
pub entry_of_said : (bytes : List ℕ) → IsSome (entry_of bytes) → IsEntry (said_by bytes) × (bytes ≡ spelling (said_by bytes))
unfolding entry_of
entry_of_said bytes some =
    let test = tested (is_entry (said_by bytes) && bytes_eq (spelling (said_by bytes)) bytes) (said_by bytes) some in
    (record { in_table = and_left (is_entry (said_by bytes)) _ test }, sym ((bytes_eq-Decides (spelling (said_by bytes)) bytes).0 (and_right (is_entry (said_by bytes)) _ test)))

-- some entry of these rows is spelled so
abbrev pub SpelledAmong : List Row → List ℕ → Type 0
SpelledAmong rows bytes = (e : MapEntry) × (list_any (λ row. is_of row e) rows ≡ true) × (bytes ≡ spelling e)

-- one row more
pub spelled_more : (i : ℕ) (d : Row) (bytes : List ℕ) (any here : Bool) → i < 6 → (any ≡ true) ↔ SpelledAmong (take i table) bytes → (here ≡ true) ↔ IsSpelledBy (get_or table i d) bytes
    → ((any || here) ≡ true) ↔ SpelledAmong (take (i + 1) table) bytes
spelled_more i d bytes any here lt before this = (
  λ is. ⊎_elim (λ p. let (e, among, spelled) = before.0 p in (e, any_more table i d e lt ∙ or_left _ _ among, spelled))
      (λ p. let (e, of, spelled) = this.0 p in (e, any_more table i d e lt ∙ or_right (list_any (λ row. is_of row e) (take i table)) _ (or_left _ false of), spelled))
      (or_cases any here is),
  λ (e, is, spelled).
      ⊎_elim (λ p. or_left any here (before.1 (e, p, spelled)))
      (λ p. ⊎_elim (λ q. or_right any here (this.1 (e, q, spelled))) (λ q. cc) (or_cases (is_of (get_or table i d) e) false p))
      (or_cases (list_any (λ row. is_of row e) (take i table)) _ (sym (any_more table i d e lt) ∙ is)),
)

-- all rows
pub spelled_all : (i : ℕ) (bytes : List ℕ) (any : Bool) → i ≡ 6 → (any ≡ true) ↔ SpelledAmong (take i table) bytes → (any ≡ true) ↔ IsSome (entry_of bytes)
spelled_all i bytes any all is =
    let rows = subst (λ (n : ℕ). (any ≡ true) ↔ SpelledAmong (take n table) bytes) all is in (
      λ p. let (e, among, spelled) = rows.0 p in subst IsSome (sym (ap entry_of spelled ∙ entry_of-spelling e (record { in_table = among }))) refl,
      λ some. let said = entry_of_said bytes some in rows.1 (said_by bytes, said.0.in_table, said.1),
    )

-- each entry has one spelling, and no two have the same
pub spelling_one : (e f : MapEntry) → IsEntry e → IsEntry f → spelling e ≡ spelling f → e ≡ f
spelling_one e f one other same =
    let found : Some e ≡ Some f = sym (entry_of-spelling e one) ∙ ap entry_of same ∙ entry_of-spelling f other in cc

-- ---- refusals

pub begins_spelled : (bytes : List ℕ) (e : MapEntry) (k : ℕ) → IsEntry e → bytes ≡ spelling e → BeginsEntry (take k bytes)
begins_spelled bytes e k is spelled = (e, is, drop k bytes, sym spelled ∙ sym (take-append-drop k bytes))

-- an entry's bytes have no bad place
pub none_bad : (bytes : List ℕ) (e : MapEntry) (k : ℕ) → IsEntry e → bytes ≡ spelling e → ¬ IsFirstBad bytes k
none_bad bytes e k is spelled first = first.bad (begins_spelled bytes e (k + 1) is spelled)

-- there is one least bad place
pub first_bad_one : (bytes : List ℕ) (k m : ℕ) → IsFirstBad bytes k → IsFirstBad bytes m → k ≡ m
first_bad_one bytes k m one other =
    by_order (λ lt. absurd (one.bad (shorter_entry bytes (k + 1) m (omega arith) other.before))) (λ lt. absurd (other.bad (shorter_entry bytes (m + 1) k (omega arith) one.before)))
  where
    by_order : (k < m → k ≡ m) → (m < k → k ≡ m) → k ≡ m
    by_order below above = grind (arith)

-- no reading of bytes that have a bad place
pub entry_of_bad : (bytes : List ℕ) (k : ℕ) → IsFirstBad bytes k → entry_of bytes ≡ None
entry_of_bad bytes k first = at (entry_of bytes) refl
  where
    at : (o : Option MapEntry) → entry_of bytes ≡ o → o ≡ None
    at None is = refl
    at (Some e) is = absurd (none_bad bytes e k (entry_of_spelled bytes e is).0 (entry_of_spelled bytes e is).1 first)

abbrev pub refused_as : BadEntry → Result MapEntry BadEntry
refused_as bad = Err bad

-- a refusal that names the least bad place names no other
pub refused_exactly : (bytes : List ℕ) (bad : BadEntry) (place : ℕ) → IsFirstBad bytes bad.byte → (refused_as bad ≡ refused_as (record { byte = place })) ↔ IsFirstBad bytes place
refused_exactly bytes bad place first = (
  λ same. let at : bad.byte ≡ place = cc in subst (IsFirstBad bytes) at first,
  λ other. let at : bad.byte ≡ place = first_bad_one bytes bad.byte place first other in same_refusal bad.byte place at,
)
  where
    same_refusal : (k m : ℕ) → k ≡ m → refused_as (record { byte = k }) ≡ refused_as (record { byte = m })
    same_refusal k m at = cc
