-- 64 entries, one after the other.
use Rattle.std.proofs.Common.{◌≡◌, ℕ, zero, suc, ◌+◌, ◌*◌, ◌<◌, ◌≤◌, List, [], ◌∷◌, ◌++◌, length, take, drop, map, get_or, Option, Some, None, Result, Err, ◌↔◌, slice_get, set, refl, sym, ◌∙◌, ap, subst, arith, length-append, length-drop, length-set}
use Rattle.cyl_map.proofs.Words.{All, All-set, AreEntries, BadMap, IsEntry, IsFirstBad, IsFirstBadEntry, IsMap, IsSome, MapEntry, SpellsMap, bytes_at, drop-drop, drop_at, eights, entries_of, entry_at, entry_of, first_chunks, get_or-map, length-map, map_spelling, said_by, slice_get-get_or, spelling, take-append-drop, take_at}
use Rattle.cyl_map.proofs.Entries.{entry_of-spelling, entry_of_said, said_by-spelling, entry_of_bad, first_bad_one}

pub length-spelling : (e : MapEntry) → length (spelling e) ≡ 8
unfolding spelling
length-spelling e = refl

pub length-map_spelling : (es : List MapEntry) → length (map_spelling es) ≡ 8 * length es
length-map_spelling [] = refl
length-map_spelling (e ∷ es) = omega (arith, length-append (spelling e) (map_spelling es), length-spelling e, length-map_spelling es)

-- ---- the eight bytes of each entry

-- the bytes of a later entry are those of the rest
bytes_at-suc : (bytes : List ℕ) (k : ℕ) → bytes_at bytes (suc k) ≡ bytes_at (drop 8 bytes) k
bytes_at-suc bytes k =
    let more : 8 * suc k ≡ 8 + 8 * k = omega arith in
    ap (λ n. take 8 (drop n bytes)) more ∙ ap (take 8) (sym (drop-drop (8 * k) 8 bytes))

length-chunks : (n : ℕ) (bytes : List ℕ) → length (first_chunks 8 n bytes) ≡ n
length-chunks zero bytes = refl
length-chunks (suc n) bytes = ap suc (length-chunks n (drop 8 bytes))

get_or-chunks : (n : ℕ) (bytes : List ℕ) (k : ℕ) (d : List ℕ) → k < n → get_or (first_chunks 8 n bytes) k d ≡ bytes_at bytes k
get_or-chunks zero bytes k d lt = absurd (omega arith)
get_or-chunks (suc n) bytes zero d lt = refl
get_or-chunks (suc n) bytes (suc k) d lt = get_or-chunks n (drop 8 bytes) k d (omega arith) ∙ sym (bytes_at-suc bytes k)

pub length-eights : (block : List ℕ) → length (eights block) ≡ 64
unfolding eights
length-eights block = length-chunks 64 block

pub get_or-eights : (block : List ℕ) (k : ℕ) (d : List ℕ) → k < 64 → get_or (eights block) k d ≡ bytes_at block k
unfolding eights
get_or-eights block k d lt = get_or-chunks 64 block k d lt

-- what holds of an entry's eight bytes
pub at_eight : (P : List ℕ → Type 0) (block : List ℕ) (es : List (List ℕ)) (k : ℕ) (d : List ℕ) → es ≡ eights block → k < 64 → P (get_or es k d) → P (bytes_at block k)
at_eight P block es k d is lt = subst P (ap (λ xs. get_or xs k d) is ∙ get_or-eights block k d lt)

pub length-entries_of : (bytes : List ℕ) → length (entries_of bytes) ≡ 64
length-entries_of bytes = length-map (eights bytes) said_by ∙ length-eights bytes

pub get_or-entries_of : (bytes : List ℕ) (k : ℕ) (d : MapEntry) → k < 64 → get_or (entries_of bytes) k d ≡ said_by (bytes_at bytes k)
get_or-entries_of bytes k d lt = get_or-map said_by (eights bytes) k [] d (omega (arith, length-eights bytes)) ∙ ap said_by (get_or-eights bytes k [] lt)

-- ---- the bytes of a map say its entries

pub bytes_at-map_spelling : (es : List MapEntry) (k : ℕ) (d : MapEntry) → k < length es → bytes_at (map_spelling es) k ≡ spelling (get_or es k d)
bytes_at-map_spelling [] k d lt = absurd (omega arith)
bytes_at-map_spelling (e ∷ es) zero d lt = take_at (spelling e) (map_spelling es) 8 (length-spelling e)
bytes_at-map_spelling (e ∷ es) (suc k) d lt =
    bytes_at-suc (spelling e ++ map_spelling es) k
    ∙ ap (λ bytes. bytes_at bytes k) (drop_at (spelling e) (map_spelling es) 8 (length-spelling e))
    ∙ bytes_at-map_spelling es k d (omega arith)

chunks-map_spelling : (es : List MapEntry) → first_chunks 8 (length es) (map_spelling es) ≡ map spelling es
chunks-map_spelling [] = refl
chunks-map_spelling (e ∷ es) =
    let first : take 8 (spelling e ++ map_spelling es) ≡ spelling e = take_at (spelling e) (map_spelling es) 8 (length-spelling e) in
    let rest : drop 8 (spelling e ++ map_spelling es) ≡ map_spelling es = drop_at (spelling e) (map_spelling es) 8 (length-spelling e) in
    ap (λ x. x ∷ first_chunks 8 (length es) (drop 8 (spelling e ++ map_spelling es))) first
    ∙ ap (λ ys. spelling e ∷ first_chunks 8 (length es) ys) rest
    ∙ ap (λ xs. spelling e ∷ xs) (chunks-map_spelling es)

said_each : (es : List MapEntry) → All IsEntry es → map said_by (map spelling es) ≡ es
said_each [] each = refl
said_each (e ∷ es) each = ap (λ f. f ∷ map said_by (map spelling es)) (said_by-spelling e (each 0 e (omega arith))) ∙ ap (λ fs. e ∷ fs) (said_each es (λ k d lt. each (suc k) d (omega arith)))

pub entries_of-map_spelling : (es : List MapEntry) → IsMap es → entries_of (map_spelling es) ≡ es
unfolding eights
entries_of-map_spelling es is =
    ap (λ n. map said_by (first_chunks 8 n (map_spelling es))) (sym is.long) ∙ ap (map said_by) (chunks-map_spelling es) ∙ said_each es is.each

-- reading gives each entry of a map
pub entry_at-map_spelling : (block : List ℕ) (es : List MapEntry) → IsMap es → block ≡ map_spelling es → (k : ℕ) (d : MapEntry) → k < 64 → entry_at block k ≡ Some (get_or es k d)
entry_at-map_spelling block es is spelled k d lt =
    let below : k < length es = omega (arith, is.long) in
    ap (λ bs. entry_at bs k) spelled ∙ ap entry_of (bytes_at-map_spelling es k d below) ∙ entry_of-spelling (get_or es k d) (is.each k d below)

pub entries_read : (block : List ℕ) (es : List MapEntry) → IsMap es → block ≡ map_spelling es → (k : ℕ) → k < 64 → entry_at block k ≡ slice_get es k
entries_read block es is spelled k lt =
    let d = said_by (bytes_at block k) in
    entry_at-map_spelling block es is spelled k d lt ∙ sym (slice_get-get_or es k d (omega (arith, is.long)))

-- ---- bytes of which each eight are an entry are those of a map

spelled_each : (n : ℕ) (bytes : List ℕ) → length bytes ≡ 8 * n → ((k : ℕ) → k < n → IsSome (entry_at bytes k)) → bytes ≡ map_spelling (map said_by (first_chunks 8 n bytes))
spelled_each zero [] long each = refl
spelled_each zero (b ∷ bytes) long each = absurd (omega arith)
spelled_each (suc n) bytes long each =
    let rest = spelled_each n (drop 8 bytes) (omega (arith, length-drop 8 bytes)) (λ k lt. subst (λ bs. IsSome (entry_of bs)) (bytes_at-suc bytes k) (each (suc k) (omega arith))) in
    sym (take-append-drop 8 bytes) ∙ ap (λ xs. xs ++ drop 8 bytes) (entry_of_said (take 8 bytes) (each 0 (omega arith))).1 ∙ ap (λ ys. spelling (said_by (take 8 bytes)) ++ ys) rest

pub spells_read : (bytes : List ℕ) → length bytes ≡ 512 → AreEntries bytes → SpellsMap bytes
unfolding eights
spells_read bytes long each = record {
  entries = record {
    long = length-entries_of bytes;
    each = λ k d lt.
        let below : k < 64 = omega (arith, length-entries_of bytes) in
        subst IsEntry (sym (get_or-entries_of bytes k d below)) (entry_of_said (bytes_at bytes k) (each k below)).0;
  };
  spelled = spelled_each 64 bytes long each;
}

pub spells_these : (bytes : List ℕ) (es : List MapEntry) → IsMap es → bytes ≡ map_spelling es → (entries_of bytes ≡ es) × SpellsMap bytes
spells_these bytes es is spelled =
    let says : entries_of bytes ≡ es = ap entries_of spelled ∙ entries_of-map_spelling es is in
    (says, record { entries = subst IsMap (sym says) is; spelled = spelled ∙ ap map_spelling (sym says) })

-- a map with one entry changed is a map
pub IsMap-set : (es : List MapEntry) (i : ℕ) (e : MapEntry) → IsMap es → IsEntry e → IsMap (set es i e)
IsMap-set es i e is one = record { long = length-set es i e ∙ is.long; each = All-set IsEntry es i e one is.each }

-- ---- refusals

-- where each eight bytes are an entry, none of them is the first bad one
pub none_bad_entry : (block : List ℕ) (entry byte : ℕ) → AreEntries block → ¬ IsFirstBadEntry block entry byte
none_bad_entry block entry byte all first = apart (entry_at block entry) (all entry first.within) (entry_of_bad (bytes_at block entry) byte first.bad)
  where
    apart : (o : Option MapEntry) → IsSome o → o ≡ None → ⊥
    apart None some none = cc
    apart (Some e) some none = cc

pub AreEntries-map_spelling : (block : List ℕ) (es : List MapEntry) → IsMap es → block ≡ map_spelling es → AreEntries block
AreEntries-map_spelling block es is spelled k lt = subst IsSome (sym (entry_at-map_spelling block es is spelled k (said_by (bytes_at block k)) lt)) refl

-- a bad entry is no later than another
no_later : (block : List ℕ) (entry byte other place : ℕ) → IsFirstBadEntry block entry byte → IsFirstBadEntry block other place → entry ≤ other
no_later block entry byte other place first second = by_order (λ lt. before_none (entry_at block other) (first.before other lt) (entry_of_bad (bytes_at block other) place second.bad))
  where
    before_none : (o : Option MapEntry) → IsSome o → o ≡ None → ⊥
    before_none None some none = cc
    before_none (Some e) some none = cc

    by_order : ¬ (other < entry) → entry ≤ other
    by_order not_less = omega arith

abbrev pub refused_as : BadMap → Result (List MapEntry) BadMap
refused_as bad = Err bad

-- a refusal that names the first bad entry names no other
pub refused_exactly : (block : List ℕ) (bad : BadMap) → IsFirstBadEntry block bad.entry bad.byte → (entry byte : ℕ) → (refused_as bad ≡ refused_as (record { entry = entry; byte = byte })) ↔ IsFirstBadEntry block entry byte
refused_exactly block bad first entry byte = (
  λ same. let at : bad.entry ≡ entry = cc in let place : bad.byte ≡ byte = cc in
      subst (λ n. IsFirstBadEntry block entry n) place (subst (λ k. IsFirstBadEntry block k bad.byte) at first),
  λ other.
      let at : bad.entry ≡ entry = (let one = no_later block bad.entry bad.byte entry byte first other in let two = no_later block entry byte bad.entry bad.byte other first in omega arith) in
      let moved : IsFirstBad (bytes_at block entry) bad.byte = subst (λ k. IsFirstBad (bytes_at block k) bad.byte) at first.bad in
      same_refusal bad.entry entry bad.byte byte at (first_bad_one (bytes_at block entry) bad.byte byte moved other.bad),
)
  where
    same_refusal : (k m b c : ℕ) → k ≡ m → b ≡ c → refused_as (record { entry = k; byte = b }) ≡ refused_as (record { entry = m; byte = c })
    same_refusal k m b c at place = cc
