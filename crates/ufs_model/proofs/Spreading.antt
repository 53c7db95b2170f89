-- Sets of identifiers, and going through what was seen until nothing more is reached.
use Rattle.std.proofs.Common.{◌≡◌, ℕ, zero, suc, ◌<◌, List, [], ◌∷◌, ◌++◌, length, get_or, refl, sym, ap, ◌∙◌, arith, Bool, true, false, cond, not, ◌&&◌, ◌||◌, Some, None, inl, inr, map}
use Rattle.ufs_model.proofs.Words.{Along, Edge, IsReached, IsReachedBy, IsSpread, Puid, Seen, Start, after_seen, and_from, and_parts, both_ways, cases_Bool, cases_lt, edges, seen_end, has_pair, is_among, leads_to, leads_within, list_all, list_all-append, not-true, or_cases, or_left, or_right, same_puid, starts}
use Rattle.ufs_model.specs.declared.collection.Collection.TheVariants as collections
use Rattle.ufs_model.specs.Reach as reach
use Rattle.ufs_model.proofs.Reached.{IsClosed, Within, among_itself, none_new, outside, same_puid_is, same_puid_itself}

-- ---- one more identifier in a set

flipped : (a b : Puid) → same_puid a b ≡ same_puid b a
flipped a b = elim (cases_Bool (same_puid a b)) [
  | inl is ↦ is ∙ sym (rw (same_puid_is a b is) (same_puid_itself b))
  | inr differ ↦ elim (cases_Bool (same_puid b a)) [ inl is ↦ let here : same_puid a b ≡ true = rw (same_puid_is b a is) (same_puid_itself a) in cc | inr none ↦ differ ∙ sym none ]
]

-- a set with one more, where the set has those of a list
pub one_more : (x id : Puid) (old new ids : List Puid) → is_among x new ≡ cond (same_puid id x) true (is_among x old) → is_among x old ≡ is_among x ids
    → is_among x new ≡ (is_among x ids || same_puid x id)
one_more x id old new ids is same =
    is ∙ rw (flipped id x, same) (by (same_puid x id) (is_among x ids))
  where
    by : (t u : Bool) → cond t true u ≡ (u || t)
    by true true = refl
    by true false = refl
    by false true = refl
    by false false = refl

-- ---- what was seen, as edges and starts

pairs_stay : (l : List Seen) (es : List (Puid × Puid)) (ss : List Puid) (i x : Puid) → has_pair es i x ≡ true → has_pair (edges (after_seen (collections.Marking es ss) l)) i x ≡ true
pairs_stay [] es ss i x h = h
pairs_stay (Edge j y ∷ l) es ss i x h = pairs_stay l ((j, y) ∷ es) ss i x (or_right (same_puid i j && same_puid x y) (has_pair es i x) h)
pairs_stay (Start y ∷ l) es ss i x h = pairs_stay l es (y ∷ ss) i x h

starts_stay : (l : List Seen) (es : List (Puid × Puid)) (ss : List Puid) (x : Puid) → is_among x ss ≡ true → is_among x (starts (after_seen (collections.Marking es ss) l)) ≡ true
starts_stay [] es ss x h = h
starts_stay (Edge j y ∷ l) es ss x h = starts_stay l ((j, y) ∷ es) ss x h
starts_stay (Start y ∷ l) es ss x h = starts_stay l es (y ∷ ss) x (or_right (same_puid x y) (is_among x ss) h)

edge_noted : (l : List Seen) (es : List (Puid × Puid)) (ss : List Puid) (k : ℕ) (d : Seen) (i x : Puid) → k < length l → get_or l k d ≡ Edge i x
    → has_pair (edges (after_seen (collections.Marking es ss) l)) i x ≡ true
edge_noted [] es ss k d i x less is = absurd (omega arith)
edge_noted (s ∷ l) es ss zero d i x less is =
    rw is (pairs_stay l ((i, x) ∷ es) ss i x (or_left (same_puid i i && same_puid x x) (has_pair es i x) (and_from (same_puid i i) (same_puid x x) (same_puid_itself i) (same_puid_itself x))))
edge_noted (Edge j y ∷ l) es ss (suc k) d i x less is = edge_noted l ((j, y) ∷ es) ss k d i x (omega arith) is
edge_noted (Start y ∷ l) es ss (suc k) d i x less is = edge_noted l es (y ∷ ss) k d i x (omega arith) is

start_noted : (l : List Seen) (es : List (Puid × Puid)) (ss : List Puid) (k : ℕ) (d : Seen) (x : Puid) → k < length l → get_or l k d ≡ Start x
    → is_among x (starts (after_seen (collections.Marking es ss) l)) ≡ true
start_noted [] es ss k d x less is = absurd (omega arith)
start_noted (s ∷ l) es ss zero d x less is = rw is (starts_stay l es (x ∷ ss) x (among_itself x ss))
start_noted (Edge j y ∷ l) es ss (suc k) d x less is = start_noted l ((j, y) ∷ es) ss k d x (omega arith) is
start_noted (Start y ∷ l) es ss (suc k) d x less is = start_noted l es (y ∷ ss) k d x (omega arith) is

-- where all that was seen leads to none but these, no edge leads out of them, and each start is one
inside_after : (ids : List Puid) (l : List Seen) (es : List (Puid × Puid)) (ss : List Puid) → list_all (leads_within ids) l ≡ true → IsClosed (λ x. is_among x ids) es → Within (λ x. is_among x ids) ss
    → IsClosed (λ x. is_among x ids) (edges (after_seen (collections.Marking es ss) l)) × Within (λ x. is_among x ids) (starts (after_seen (collections.Marking es ss) l))
inside_after ids [] es ss all closed within = (closed, within)
inside_after ids (Edge j y ∷ l) es ss all closed within =
    let two = and_parts (not (is_among j ids) || is_among y ids) (list_all (leads_within ids) l) all in
    inside_after ids l ((j, y) ∷ es) ss two.1
    (λ i x pair at. elim (or_cases (same_puid i j && same_puid x y) (has_pair es i x) pair) [
      | inl here ↦
          let same = and_parts (same_puid i j) (same_puid x y) here in
          elim (or_cases (not (is_among j ids)) (is_among y ids) two.0) [
            | inl out ↦ absurd (both_ways (is_among j ids) (not-true (is_among j ids) out) (rw (← same_puid_is i j same.0) at))
            | inr in_ids ↦ rw (same_puid_is x y same.1) in_ids
          ]
      | inr later ↦ closed i x later at
    ])
    within
inside_after ids (Start y ∷ l) es ss all closed within =
    let two = and_parts (is_among y ids) (list_all (leads_within ids) l) all in
    inside_after ids l es (y ∷ ss) two.1 closed
    (λ x at. elim (or_cases (same_puid x y) (is_among x ss) at) [ inl here ↦ rw (same_puid_is x y here) two.0 | inr later ↦ within x later ])

reach_within : (M : Puid → Bool) (es : List (Puid × Puid)) (ss : List Puid) (x : Puid) → IsClosed M es → Within M ss → IsReached es ss x → M x ≡ true
reach_within M es ss x closed within (reach.Start at) = within x at
reach_within M es ss x closed within (Along {i} before pair) = closed i x pair (reach_within M es ss i closed within before)

pub reached_among : (ids : List Puid) (seen : List Seen) (x : Puid) → list_all (leads_within ids) seen ≡ true → IsReachedBy seen x → is_among x ids ≡ true
reached_among ids seen x all reached =
    let two = inside_after ids seen [] [] all (λ i y pair at. cc) (λ y at. cc) in
    reach_within (λ y. is_among y ids) _ _ x two.0 two.1 reached

-- ---- going through what was seen

leads : (seen : List Seen) (ids : List Puid) (k : ℕ) (d : Seen) (x : Puid) → k < length seen → leads_to ids (get_or seen k d) ≡ Some x
    → ((y : Puid) → is_among y ids ≡ true → IsReachedBy seen y) → IsReachedBy seen x
leads seen ids k d x less to known = by (get_or seen k d) refl to
  where
    by : (s : Seen) → get_or seen k d ≡ s → leads_to ids s ≡ Some x → IsReachedBy seen x
    by (Start y) is to = let same : y ≡ x = cc in reach.Start (start_noted seen [] [] k d x less (is ∙ ap Start same))
    by (Edge i y) is to = elim (is_among i ids) as (λ b. is_among i ids ≡ b → cond b (Some y) None ≡ Some x → IsReachedBy seen x) [
      | true ↦ λ at some. let same : y ≡ x = cc in Along (known i at) (edge_noted seen [] [] k d i x less (is ∙ ap (Edge i) same))
      | false ↦ λ at none. cc
    ] refl to

end_is : (s : Seen) (ids : List Puid) (x : Puid) → leads_to ids s ≡ Some x → seen_end s ≡ x
end_is (Start y) ids x to = cc
end_is (Edge i y) ids x to = elim (is_among i ids) as (λ b. cond b (Some y) None ≡ Some x → y ≡ x) [ true ↦ λ some. cc | false ↦ λ none. cc ] to

among_ends : (seen : List Seen) (k : ℕ) (d : Seen) → k < length seen → is_among (seen_end (get_or seen k d)) (map seen_end seen) ≡ true
among_ends [] k d less = absurd (omega arith)
among_ends (s ∷ seen) zero d less = among_itself (seen_end s) (map seen_end seen)
among_ends (s ∷ seen) (suc k) d less = or_right (same_puid (seen_end (get_or seen k d)) (seen_end s)) _ (among_ends seen k d (omega arith))

within_none : (s : Seen) (ids : List Puid) → leads_to ids s ≡ None → leads_within ids s ≡ true
within_none (Start y) ids to = cc
within_none (Edge i y) ids to = elim (is_among i ids) as (λ b. cond b (Some y) None ≡ None → (not b || is_among y ids) ≡ true) [ true ↦ λ some. cc | false ↦ λ none. refl ] to

within_old : (s : Seen) (ids : List Puid) (x : Puid) → leads_to ids s ≡ Some x → is_among x ids ≡ true → leads_within ids s ≡ true
within_old (Start y) ids x to at = let same : y ≡ x = cc in rw same at
within_old (Edge i y) ids x to at = elim (is_among i ids) as (λ b. cond b (Some y) None ≡ Some x → (not b || is_among y ids) ≡ true) [ true ↦ λ some. let same : y ≡ x = cc in rw same at | false ↦ λ none. refl ] to

pub none_done : (seen : List Seen) (old : List Puid) → IsSpread seen [] old old false
none_done seen old = record { grows = λ x h. h; sound = λ known. known; more = λ h. cc; closed = λ h. refl }

module _ (seen done : List Seen) (old new : List Puid) (grew : Bool) (h : IsSpread seen done old new grew) (s : Seen) where
  one_behind : leads_within new s ≡ true → IsSpread seen (done ++ s ∷ []) old new grew
  one_behind is = record {
    grows = h.grows;
    sound = h.sound;
    more = h.more;
    closed = λ h_no. list_all-append (leads_within new) done (s ∷ []) ∙ and_from (list_all (leads_within new) done) (leads_within new s && true) (h.closed h_no) (and_from (leads_within new s) true is refl);
  }

  pub to_none : leads_to new s ≡ None → IsSpread seen (done ++ s ∷ []) old new grew
  to_none to = one_behind (within_none s new to)

  pub to_old : (x : Puid) → leads_to new s ≡ Some x → is_among x new ≡ true → IsSpread seen (done ++ s ∷ []) old new grew
  to_old x to at = one_behind (within_old s new x to at)

  pub to_new : (x : Puid) (k : ℕ) (d : Seen) (next : List Puid) (more : List Seen) → k < length seen → get_or seen k d ≡ s → leads_to new s ≡ Some x → is_among x new ≡ false
      → ((y : Puid) → is_among y next ≡ cond (same_puid x y) true (is_among y new)) → IsSpread seen more old next true
  to_new x k d next all less is to out has = record {
    grows = λ y at. rw (has y, h.grows y at) (by (same_puid x y));
    sound = λ known y at. elim (cases_Bool (same_puid x y)) [
      | inl same ↦ rw (← same_puid_is x y same) (leads seen new k d x less (rw is to) (h.sound known))
      | inr other ↦ h.sound known y (sym (has y ∙ ap (λ b. cond b true (is_among y new)) other) ∙ at)
    ];
    more = λ _. (x, rw (← end_is s new x to, ← is) (among_ends seen k d less), was_out, has x ∙ rw (same_puid_itself x) refl);
    closed = λ h_no. cc;
  }
    where
      by : (b : Bool) → cond b true true ≡ true
      by true = refl
      by false = refl

      was_out : is_among x old ≡ false
      was_out = elim (cases_Bool (is_among x old)) [ inl at ↦ absurd (both_ways (is_among x new) out (h.grows x at)) | inr not_in ↦ not_in ]

-- each round that is not the last reaches one that was not reached
pub fewer_outside : (seen : List Seen) (old new : List Puid) → IsSpread seen seen old new true → outside (map seen_end seen) new < outside (map seen_end seen) old
fewer_outside seen old new h =
    let four = h.more refl in
    elim (cases_lt (outside (map seen_end seen) new) (outside (map seen_end seen) old)) [
      | inl less ↦ less
      | inr same ↦ absurd (both_ways (is_among four.0 old) four.2 (none_new old new h.grows (map seen_end seen) four.0 same four.1 four.3))
    ]

-- ---- a turn of the loop

pub turned : (seen done next : List Seen) (s : Seen) (old new r : List Puid) (grew g : Bool) → next ≡ done ++ s ∷ [] → r ≡ new → g ≡ grew
    → IsSpread seen (done ++ s ∷ []) old new grew → IsSpread seen next old r g
turned seen done next s old new r grew g e f h is = rw (e, f, h) is

pub was_out : (a b : Bool) → b ≡ not a → b ≡ true → a ≡ false
was_out true b e h = cc
was_out false b e h = refl

pub was_in : (a b : Bool) → b ≡ not a → b ≡ false → a ≡ true
was_in true b e h = refl
was_in false b e h = cc
