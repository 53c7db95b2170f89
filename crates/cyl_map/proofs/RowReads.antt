-- How far a row of the table reads eight bytes.
use Rattle.std.proofs.Common.{◌≡◌, ◌≢◌, ℕ, zero, suc, ◌+◌, ◌*◌, ◌/◌, ◌%◌, ◌^◌, ◌<◌, ◌≤◌, Bool, true, false, not, cond, ◌&&◌, ◌||◌, ◌==◌, List, [], ◌∷◌, length, drop, get_or, Option, refl, sym, ◌∙◌, ap, subst, arith}
use Rattle.cyl_map.proofs.Words.{Allocated, BlockState, Free, IntendAllocate, IntendDeallocate, IsFirstBadOf, IsFirstOfOwner, IsSpelledBy, MapEntry, Place, Row, first_byte, is_of, lets_owner, lets_state, nat_le, nat_lt, nat_tests, place_byte, place_code, place_number, spelling, state_code, state_of}
use Rattle.cyl_map.proofs.Rows.{and_true, and_left, and_right, either, reads_place, of_row, made, least_owner, lets_least, lets_least_state, lets_owned, lets_none, owned_within, unowned_zero, is_of_made, with_number, place_code-with_number, place_number-with_number, byte_is, byte_says, number_in, Reads, ReadsPlace}

-- a list of eight is eight cells
pub on_eight : (P : List ℕ → Type 0) (bytes : List ℕ) → length bytes ≡ 8 → P (get_or bytes 0 0 ∷ get_or bytes 1 0 ∷ get_or bytes 2 0 ∷ get_or bytes 3 0 ∷ get_or bytes 4 0 ∷ get_or bytes 5 0 ∷ get_or bytes 6 0 ∷ get_or bytes 7 0 ∷ []) → P bytes
on_eight P (a ∷ b ∷ c ∷ d ∷ e ∷ f ∷ g ∷ h ∷ []) is p = p
on_eight P (a ∷ b ∷ c ∷ d ∷ e ∷ f ∷ g ∷ h ∷ i ∷ xs) is p = absurd (omega arith)
on_eight P [] is p = absurd (omega arith)
on_eight P (a ∷ []) is p = absurd (omega arith)
on_eight P (a ∷ b ∷ []) is p = absurd (omega arith)
on_eight P (a ∷ b ∷ c ∷ []) is p = absurd (omega arith)
on_eight P (a ∷ b ∷ c ∷ d ∷ []) is p = absurd (omega arith)
on_eight P (a ∷ b ∷ c ∷ d ∷ e ∷ []) is p = absurd (omega arith)
on_eight P (a ∷ b ∷ c ∷ d ∷ e ∷ f ∷ []) is p = absurd (omega arith)
on_eight P (a ∷ b ∷ c ∷ d ∷ e ∷ f ∷ g ∷ []) is p = absurd (omega arith)

-- one of the places 4 to 7
four : (P : ℕ → Type 0) → P 4 → P 5 → P 6 → P 7 → (n : ℕ) → 4 ≤ n → n < 8 → P n
four P a b c d zero low high = absurd (omega arith)
four P a b c d (suc zero) low high = absurd (omega arith)
four P a b c d (suc (suc zero)) low high = absurd (omega arith)
four P a b c d (suc (suc (suc zero))) low high = absurd (omega arith)
four P a b c d (suc (suc (suc (suc zero)))) low high = a
four P a b c d (suc (suc (suc (suc (suc zero))))) low high = b
four P a b c d (suc (suc (suc (suc (suc (suc zero)))))) low high = c
four P a b c d (suc (suc (suc (suc (suc (suc (suc zero))))))) low high = d
four P a b c d (suc (suc (suc (suc (suc (suc (suc (suc n)))))))) low high = absurd (omega arith)

-- ---- each place at which a row may refuse

pub first_refused : (row : Row) (bytes : List ℕ) → length bytes ≡ 8 → state_code row.from ≤ state_code row.to → ((s : BlockState) (c : Bool) → lets_state row s c ≡ true → first_byte s c ≢ get_or bytes 0 0) → IsFirstBadOf row bytes 0
unfolding spelling
first_refused row bytes eight range none = on_eight (λ bs. IsFirstBadOf row bs 0) bytes eight (record {
  before = (
    made row.from false row.last (least_owner row),
    is_of_made row row.from false row.last (least_owner row) (lets_least_state row range) refl (omega arith) (lets_least row.owned),
    spelling (made row.from false row.last (least_owner row)),
    refl,
  );
  bad = λ (e, is, rest, spelled). none e.state e.committed (of_row row e is).state (cc);
})

pub kind_refused : (row : Row) (bytes : List ℕ) (s : BlockState) (c : Bool) → Reads row bytes s c → (place_code row.last ≡ get_or bytes 1 0 % 16 → place_number row.last / 2 ^ 16 < get_or bytes 1 0 / 16) → IsFirstBadOf row bytes 1
unfolding spelling
kind_refused row bytes s c reads other = on_eight (λ bs. IsFirstBadOf row bs 1) bytes reads.eight (record {
  before = (
    made s c row.last (least_owner row),
    is_of_made row s c row.last (least_owner row) reads.state refl (omega arith) (lets_least row.owned),
    drop 1 (spelling (made s c row.last (least_owner row))),
    (let first = reads.first in cc),
  );
  bad = λ (e, is, rest, spelled).
      let facts = of_row row e is in
      let says = byte_says e.place in
      let cell : place_byte e.place ≡ get_or bytes 1 0 = cc in
      let past = other (omega (arith, facts.kind)) in
      omega (arith, facts.number);
})

-- an entry of the row that begins with the first two bytes and a number with these high bits
begins_numbered : (row : Row) (bytes : List ℕ) (s : BlockState) (c : Bool) (n : ℕ) → Reads row bytes s c → place_code row.last ≡ get_or bytes 1 0 % 16 → n / 2 ^ 16 ≡ get_or bytes 1 0 / 16 → n ≤ place_number row.last
    → (is_of row (made s c (with_number row.last n) (least_owner row)) ≡ true) × (place_byte (with_number row.last n) ≡ get_or bytes 1 0) × (place_number (with_number row.last n) ≡ n)
begins_numbered row bytes s c n reads kind high within =
    let numbered = place_number-with_number row.last n within in
    let kept = place_code-with_number row.last n in (
      is_of_made row s c (with_number row.last n) (least_owner row) reads.state kept (omega arith) (lets_least row.owned),
      byte_is _ row.last (get_or bytes 1 0) n kept kind numbered high,
      numbered,
    )

pub high_refused : (row : Row) (bytes : List ℕ) (s : BlockState) (c : Bool) → Reads row bytes s c → place_code row.last ≡ get_or bytes 1 0 % 16 → get_or bytes 1 0 / 16 ≤ place_number row.last / 2 ^ 16 → place_number row.last / 2 ^ 8 < get_or bytes 1 0 / 16 * 2 ^ 8 + get_or bytes 2 0 → IsFirstBadOf row bytes 2
unfolding spelling
high_refused row bytes s c reads kind high past =
    let n : ℕ = get_or bytes 1 0 / 16 * 2 ^ 16 in
    let begins = begins_numbered row bytes s c n reads kind (omega arith) (omega arith) in
    on_eight (λ bs. IsFirstBadOf row bs 2) bytes reads.eight (record {
      before = (
        made s c (with_number row.last n) (least_owner row),
        begins.0,
        drop 2 (spelling (made s c (with_number row.last n) (least_owner row))),
        (let first = reads.first in let byte = begins.1 in cc),
      );
      bad = λ (e, is, rest, spelled).
          let number = (of_row row e is).number in
          let says = byte_says e.place in
          let byte : place_byte e.place ≡ get_or bytes 1 0 = cc in
          let cell : place_number e.place % 2 ^ 16 / 256 % 256 ≡ get_or bytes 2 0 = cc in
          omega arith;
    })

pub low_refused : (row : Row) (bytes : List ℕ) (s : BlockState) (c : Bool) → Reads row bytes s c → place_code row.last ≡ get_or bytes 1 0 % 16 → get_or bytes 1 0 / 16 * 2 ^ 8 + get_or bytes 2 0 ≤ place_number row.last / 2 ^ 8 → place_number row.last < number_in bytes → IsFirstBadOf row bytes 3
unfolding spelling
low_refused row bytes s c reads kind high past =
    let n : ℕ = get_or bytes 1 0 / 16 * 2 ^ 16 + get_or bytes 2 0 * 2 ^ 8 in
    let small : get_or bytes 2 0 < 256 = reads.small 2 in
    let begins = begins_numbered row bytes s c n reads kind (omega arith) (omega arith) in
    let cell : place_number (with_number row.last n) % 2 ^ 16 / 256 % 256 ≡ get_or bytes 2 0 = omega (arith, begins.2) in
    on_eight (λ bs. IsFirstBadOf row bs 3) bytes reads.eight (record {
      before = (
        made s c (with_number row.last n) (least_owner row),
        begins.0,
        drop 3 (spelling (made s c (with_number row.last n) (least_owner row))),
        (let first = reads.first in let byte = begins.1 in cc),
      );
      bad = λ (e, is, rest, spelled).
          let number = (of_row row e is).number in
          let says = byte_says e.place in
          let byte : place_byte e.place ≡ get_or bytes 1 0 = cc in
          let high : place_number e.place % 2 ^ 16 / 256 % 256 ≡ get_or bytes 2 0 = cc in
          let low : place_number e.place % 2 ^ 16 % 256 ≡ get_or bytes 3 0 = cc in
          omega arith;
    })

pub zero_refused : (row : Row) (bytes : List ℕ) (s : BlockState) (c : Bool) (p : Option Place) → Reads row bytes s c → ReadsPlace row bytes p → row.owned ≡ true → get_or bytes 4 0 ≡ 0 → get_or bytes 5 0 ≡ 0 → get_or bytes 6 0 ≡ 0 → get_or bytes 7 0 ≡ 0 → IsFirstBadOf row bytes 7
unfolding spelling
zero_refused row bytes s c p reads place owned z4 z5 z6 z7 =
    let small2 : get_or bytes 2 0 < 256 = reads.small 2 in
    let small3 : get_or bytes 3 0 < 256 = reads.small 3 in
    let high : place_number p % 2 ^ 16 / 256 % 256 ≡ get_or bytes 2 0 = omega (arith, place.number) in
    let low : place_number p % 2 ^ 16 % 256 ≡ get_or bytes 3 0 = omega (arith, place.number) in
    on_eight (λ bs. IsFirstBadOf row bs 7) bytes reads.eight (record {
      before = (
        made s c p 1,
        is_of_made row s c p 1 reads.state place.like place.within (lets_owned row.owned 1 owned (omega arith) (omega arith)),
        1 ∷ [],
        (let first = reads.first in let kind = place.kind in cc),
      );
      bad = λ (e, is, rest, spelled).
          let within = owned_within row.owned e.owner owned (of_row row e is).owner in
          let c4 : e.owner / 2 ^ 24 % 256 ≡ get_or bytes 4 0 = cc in
          let c5 : e.owner / 2 ^ 16 % 256 ≡ get_or bytes 5 0 = cc in
          let c6 : e.owner / 2 ^ 8 % 256 ≡ get_or bytes 6 0 = cc in
          let c7 : e.owner % 256 ≡ get_or bytes 7 0 = cc in
          omega arith;
    })

pub owner_refused : (row : Row) (bytes : List ℕ) (s : BlockState) (c : Bool) (p : Option Place) → Reads row bytes s c → ReadsPlace row bytes p → row.owned ≡ false → (place : ℕ) → IsFirstOfOwner bytes place → IsFirstBadOf row bytes place
unfolding spelling
owner_refused row bytes s c p reads place owned at found =
    let small2 : get_or bytes 2 0 < 256 = reads.small 2 in
    let small3 : get_or bytes 3 0 < 256 = reads.small 3 in
    let high : place_number p % 2 ^ 16 / 256 % 256 ≡ get_or bytes 2 0 = omega (arith, place.number) in
    let low : place_number p % 2 ^ 16 % 256 ≡ get_or bytes 3 0 = omega (arith, place.number) in
    let first = reads.first in
    let kind = place.kind in
    let one_of = is_of_made row s c p 0 reads.state place.like place.within (lets_none row.owned 0 owned refl) in
    let none : (e : MapEntry) → is_of row e ≡ true → e.owner ≡ 0 = λ e is. unowned_zero row.owned e.owner owned (of_row row e is).owner in
    four (λ n. IsFirstOfOwner bytes n → IsFirstBadOf row bytes n)
    (λ h. on_eight (λ bs. IsFirstBadOf row bs 4) bytes reads.eight (record {
      before = (made s c p 0, one_of, 0 ∷ 0 ∷ 0 ∷ 0 ∷ [], cc);
      bad = λ (e, is, rest, spelled). h.set (let no_owner = none e is in let cell : e.owner / 2 ^ 24 % 256 ≡ get_or bytes 4 0 = cc in omega arith);
    }))
    (λ h. let z4 = h.clear 4 (omega arith) (omega arith) in on_eight (λ bs. IsFirstBadOf row bs 5) bytes reads.eight (record {
      before = (made s c p 0, one_of, 0 ∷ 0 ∷ 0 ∷ [], cc);
      bad = λ (e, is, rest, spelled). h.set (let no_owner = none e is in let cell : e.owner / 2 ^ 16 % 256 ≡ get_or bytes 5 0 = cc in omega arith);
    }))
    (λ h. let z4 = h.clear 4 (omega arith) (omega arith) in let z5 = h.clear 5 (omega arith) (omega arith) in on_eight (λ bs. IsFirstBadOf row bs 6) bytes reads.eight (record {
      before = (made s c p 0, one_of, 0 ∷ 0 ∷ [], cc);
      bad = λ (e, is, rest, spelled). h.set (let no_owner = none e is in let cell : e.owner / 2 ^ 8 % 256 ≡ get_or bytes 6 0 = cc in omega arith);
    }))
    (λ h. let z4 = h.clear 4 (omega arith) (omega arith) in let z5 = h.clear 5 (omega arith) (omega arith) in let z6 = h.clear 6 (omega arith) (omega arith) in on_eight (λ bs. IsFirstBadOf row bs 7) bytes reads.eight (record {
      before = (made s c p 0, one_of, 0 ∷ [], cc);
      bad = λ (e, is, rest, spelled). h.set (let no_owner = none e is in let cell : e.owner % 256 ≡ get_or bytes 7 0 = cc in omega arith);
    }))
    at found.after found.within found

-- ---- what a row reads

abbrev pub owner_in : List ℕ → ℕ
owner_in bytes = get_or bytes 4 0 * 2 ^ 24 + get_or bytes 5 0 * 2 ^ 16 + get_or bytes 6 0 * 2 ^ 8 + get_or bytes 7 0

pub read_spelled : (row : Row) (bytes : List ℕ) (s : BlockState) (c : Bool) (p : Option Place) (o : ℕ) → Reads row bytes s c → ReadsPlace row bytes p → o ≡ owner_in bytes → lets_owner row o ≡ true → (is_of row (made s c p o) ≡ true) × (bytes ≡ spelling (made s c p o))
unfolding spelling
read_spelled row bytes s c p o reads place owner lets =
    let small2 : get_or bytes 2 0 < 256 = reads.small 2 in
    let small3 : get_or bytes 3 0 < 256 = reads.small 3 in
    let small4 : get_or bytes 4 0 < 256 = reads.small 4 in
    let small5 : get_or bytes 5 0 < 256 = reads.small 5 in
    let small6 : get_or bytes 6 0 < 256 = reads.small 6 in
    let small7 : get_or bytes 7 0 < 256 = reads.small 7 in
    let high : place_number p % 2 ^ 16 / 256 % 256 ≡ get_or bytes 2 0 = omega (arith, place.number) in
    let low : place_number p % 2 ^ 16 % 256 ≡ get_or bytes 3 0 = omega (arith, place.number) in
    let c4 : o / 2 ^ 24 % 256 ≡ get_or bytes 4 0 = omega arith in
    let c5 : o / 2 ^ 16 % 256 ≡ get_or bytes 5 0 = omega arith in
    let c6 : o / 2 ^ 8 % 256 ≡ get_or bytes 6 0 = omega arith in
    let c7 : o % 256 ≡ get_or bytes 7 0 = omega arith in
    let first = reads.first in
    let kind = place.kind in (
      is_of_made row s c p o reads.state place.like place.within lets,
      on_eight (λ bs. bs ≡ spelling (made s c p o)) bytes reads.eight (cc),
    )

-- ---- the test of a row

state_back : (n : ℕ) → n < 4 → state_code (state_of n) ≡ n
state_back zero lt = refl
state_back (suc zero) lt = refl
state_back (suc (suc zero)) lt = refl
state_back (suc (suc (suc zero))) lt = refl
state_back (suc (suc (suc (suc n)))) lt = absurd (omega arith)

state_small : (s : BlockState) → state_code s < 4
state_small Free = omega arith
state_small Allocated = omega arith
state_small IntendAllocate = omega arith
state_small IntendDeallocate = omega arith

-- the state and the commit bit that a first byte says
lets_said : (row : Row) (b : ℕ) → b < 256 → state_code row.from ≤ b % 128 → b % 128 ≤ state_code row.to → (nat_lt b 128 || row.may_commit) ≡ true
    → (lets_state row (state_of (b % 128)) (not (nat_lt b 128)) ≡ true) × (first_byte (state_of (b % 128)) (not (nat_lt b 128)) ≡ b)
lets_said row b small low high bit = at (nat_lt b 128) refl bit
  where
    s : BlockState
    s = state_of (b % 128)

    is : state_code s ≡ b % 128
    is = state_back (b % 128) (omega (arith, state_small row.to))

    range : (nat_le (state_code row.from) (state_code s) && nat_le (state_code s) (state_code row.to)) ≡ true
    range = and_true (nat_le (state_code row.from) (state_code s)) _ (grind (arith, nat_tests)) (grind (arith, nat_tests))

    turned : (may : Bool) → may ≡ true → (may || false) ≡ true
    turned true h = refl
    turned false h = h

    at : (less : Bool) → nat_lt b 128 ≡ less → (less || row.may_commit) ≡ true → (lets_state row s (not less) ≡ true) × (first_byte s (not less) ≡ b)
    at true below may = (and_true _ (row.may_commit || true) range (either row.may_commit), (let less : b < 128 = grind (arith, nat_tests) in omega (arith, is)))
    at false past may = (and_true _ (row.may_commit || false) range (turned row.may_commit may), (let more : 128 ≤ b = grind (arith, nat_tests) in omega (arith, is)))

owner_lets : (owned : Bool) (o : ℕ) → o < 2 ^ 32 → not (o == 0) ≡ owned → cond owned (nat_lt 0 o && nat_lt o (2 ^ 32)) (o == 0) ≡ true
owner_lets true o fits is = lets_owned true o refl (grind (arith, nat_tests)) fits
owner_lets false o fits is = lets_none false o refl (grind (arith, nat_tests))

-- bytes of which a row lets each part stand
pub record Passes (row : Row) (bytes : List ℕ) (owner : ℕ) : Type 0 where
  pub low : state_code row.from ≤ get_or bytes 0 0 % 128
  pub high : get_or bytes 0 0 % 128 ≤ state_code row.to
  pub bit : (nat_lt (get_or bytes 0 0) 128 || row.may_commit) ≡ true
  pub kind : get_or bytes 1 0 % 16 ≡ place_code row.last
  pub within : number_in bytes ≤ place_number row.last
  pub owned : not (owner == 0) ≡ row.owned

pub passes_spelled : (row : Row) (bytes : List ℕ) (owner : ℕ) → length bytes ≡ 8 → ((i : ℕ) → get_or bytes i 0 < 256) → owner ≡ owner_in bytes → owner < 2 ^ 32 → Passes row bytes owner → IsSpelledBy row bytes
passes_spelled row bytes owner eight small is fits passes =
    let b = get_or bytes 0 0 in
    let said = lets_said row b (small 0) passes.low passes.high passes.bit in
    let read = read_spelled row bytes (state_of (b % 128)) (not (nat_lt b 128)) (with_number row.last (number_in bytes)) owner (record { eight = eight; small = small; state = said.0; first = said.1 })
    (reads_place row bytes small (sym passes.kind) passes.within) is (owner_lets row.owned owner fits passes.owned) in
    (made (state_of (b % 128)) (not (nat_lt b 128)) (with_number row.last (number_in bytes)) owner, read.0, read.1)

-- what a first byte says of its state and commit bit
first_says : (s : BlockState) (c : Bool) → (first_byte s c % 128 ≡ state_code s) × (nat_lt (first_byte s c) 128 ≡ not c)
first_says s true = let small = state_small s in (omega arith, grind (arith, nat_tests))
first_says s false = let small = state_small s in (omega arith, grind (arith, nat_tests))

owner_told : (owned : Bool) (o : ℕ) → cond owned (nat_lt 0 o && nat_lt o (2 ^ 32)) (o == 0) ≡ true → (o < 2 ^ 32) × (not (o == 0) ≡ owned)
owner_told true o lets = let within = owned_within true o refl lets in (within.1, grind (arith, nat_tests))
owner_told false o lets = let none = unowned_zero false o refl lets in (omega arith, grind (arith, nat_tests))

pub spelled_passes : (row : Row) (bytes : List ℕ) → IsSpelledBy row bytes → Passes row bytes (owner_in bytes)
unfolding spelling
spelled_passes row bytes (e, is, spelled) =
    let facts = of_row row e is in
    let says = byte_says e.place in
    let number : number_in (spelling e) ≡ place_number e.place = omega arith in
    let said = first_says e.state e.committed in
    let range : (nat_le (state_code row.from) (state_code e.state) && nat_le (state_code e.state) (state_code row.to)) ≡ true = and_left _ (row.may_commit || not e.committed) facts.state in
    let from = and_left (nat_le (state_code row.from) (state_code e.state)) _ range in
    let to = and_right (nat_le (state_code row.from) (state_code e.state)) _ range in
    let owned = owner_told row.owned e.owner facts.owner in
    let owner : owner_in (spelling e) ≡ e.owner = omega (arith, owned.0) in
    subst (λ bs. Passes row bs (owner_in bs)) (sym spelled) (record {
      low = (let low : state_code row.from ≤ state_code e.state = grind (arith, nat_tests) in omega (arith, said.0));
      high = (let high : state_code e.state ≤ state_code row.to = grind (arith, nat_tests) in omega (arith, said.0));
      bit = turned (nat_lt (first_byte e.state e.committed) 128) row.may_commit (not e.committed) said.1 (and_right _ (row.may_commit || not e.committed) facts.state);
      kind = omega (arith, facts.kind);
      within = omega (arith, facts.number);
      owned = ap (λ (o : ℕ). not (o == 0)) owner ∙ owned.1;
    })
  where
    turned : (x y z : Bool) → x ≡ z → (y || z) ≡ true → (x || y) ≡ true
    turned true y z is may = refl
    turned false true z is may = refl
    turned false false z is may = is ∙ may
