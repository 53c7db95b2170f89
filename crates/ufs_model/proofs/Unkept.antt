-- What may vanish, as it is tested: where no index that stays refers to one of these, none is kept exactly where none is a start.
use Rattle.std.proofs.Common.{◌≡◌, ℕ, List, [], ◌∷◌, length, refl, sym, ap, subst, ◌∙◌, Bool, true, false, not, Option, ◌&&◌, ◌||◌, ◌↔◌, Some, None, inl, inr, map}
use Rattle.ufs_model.proofs.Words.{Collection, Grant, IsReachedBy, IsState, Object, Puid, Seen, State, after_seen, allowed_if, and_from, and_parts, are_no_starts, are_there, beside, both_ways, draft_pairs, drafted, edges, filter, filter_map, flat_map, graph_pairs, has_all_cut_off, has_no_kept, ids_of, is_among, is_cut_off, is_marking, is_running, is_there, kept, leaves_no_reference, list_all, list_all-append, list_all-map, list_any, may_vanish, not-true, open_ids, option_map_or, or_cases, pairs_of, reached_since, referred, starts, starts_now, without}
use Rattle.ufs_model.proofs.Graphs.{is_there-ids}
use Rattle.ufs_model.specs.declared.collection.Collection.TheVariants as collections
use Rattle.ufs_model.specs.declared.asked.Event.TheVariants as events
use Rattle.ufs_model.proofs.Beside.{beside_state, state_beside}
use Rattle.ufs_model.proofs.KeepsStates.{next_keeps}
use Rattle.ufs_model.proofs.Vanishing.{pairs_reach}
use Rattle.ufs_model.proofs.Reached.{Within, IsClosed, all_among, each_among, each_pair, among_itself, joined_has, joined_has_new, joined_within, reached_has, reached_within, within_one}

module _ (s : State) (ids : List Puid) where
  abbrev apart : Puid → Bool
  apart x = not (is_among x ids)

  open_apart : (gs : List Grant) → list_all (λ g. apart g.id) gs ≡ true → list_all apart (map (λ g. g.id) gs) ≡ true
  open_apart [] h = refl
  open_apart (g ∷ gs) h = let two = and_parts (apart g.id) (list_all (λ g. apart g.id) gs) h in and_from (apart g.id) (list_all apart (map (λ g. g.id) gs)) two.0 (open_apart gs two.1)

  apart_open : (gs : List Grant) → list_all apart (map (λ g. g.id) gs) ≡ true → list_all (λ g. apart g.id) gs ≡ true
  apart_open [] h = refl
  apart_open (g ∷ gs) h = let two = and_parts (apart g.id) (list_all apart (map (λ g. g.id) gs)) h in and_from (apart g.id) (list_all (λ g. apart g.id) gs) two.0 (apart_open gs two.1)

  closed_apart : leaves_no_reference s ids ≡ true → IsClosed apart (pairs_of s)
  closed_apart none i x pair stays = elim (or_cases (is_among i ids) (apart x) (each_pair (λ j y. is_among j ids || apart y) (pairs_of s) i x none pair)) [
    | inl goes ↦ absurd (both_ways (is_among i ids) (not-true (is_among i ids) stays) goes)
    | inr unreferred ↦ unreferred
  ]

  unkept : leaves_no_reference s ids ≡ true → are_no_starts s ids ≡ true → has_no_kept s ids ≡ true
  unkept none apart_starts =
      let two = and_parts (apart s.graph.root) (list_all (λ g. apart g.id) s.grants) apart_starts in
      let opened : Within apart (open_ids s) = λ x at. each_among apart x (open_ids s) (open_apart s.grants two.1) at in
      let starts : Within apart (starts_now s) = joined_within apart (open_ids s) (s.graph.root ∷ []) opened (within_one apart s.graph.root two.0) in
      all_among apart (kept s) (reached_within apart (length s.graph.objects) (pairs_of s) (starts_now s) (closed_apart none) starts)

  no_start_kept : has_no_kept s ids ≡ true → are_no_starts s ids ≡ true
  no_start_kept none =
      let start : (x : Puid) → is_among x (starts_now s) ≡ true → apart x ≡ true =
      λ x at. each_among apart x (kept s) none (reached_has (length s.graph.objects) (pairs_of s) (starts_now s) x at) in
      and_from (apart s.graph.root) (list_all (λ g. apart g.id) s.grants)
      (start s.graph.root (joined_has (open_ids s) (s.graph.root ∷ []) s.graph.root (among_itself s.graph.root [])))
      (apart_open s.grants (all_among apart (open_ids s) (λ x at. start x (joined_has_new (open_ids s) (s.graph.root ∷ []) x at))))

  -- both tests together
  pub unkept_is : (has_no_kept s ids && leaves_no_reference s ids) ≡ (are_no_starts s ids && leaves_no_reference s ids)
  unkept_is = by (has_no_kept s ids) (are_no_starts s ids) (leaves_no_reference s ids) unkept no_start_kept
    where
      by : (k a l : Bool) → (l ≡ true → a ≡ true → k ≡ true) → (k ≡ true → a ≡ true) → (k && l) ≡ (a && l)
      by true a l f g = rw (g refl) refl
      by false true true f g = f refl refl
      by false true false f g = refl
      by false false l f g = refl

-- ---- the tests as they are made

module _ (q : Puid → Bool) where
  pub any_in : (slots : List (Option Puid)) → list_any q (filter_map (λ slot. slot) slots) ≡ list_any (λ slot. option_map_or q slot false) slots
  any_in [] = refl
  any_in (None ∷ slots) = any_in slots
  any_in (Some x ∷ slots) = ap (λ b. q x || b) (any_in slots)

  one_index : (a : Bool) (xs : List Puid) → list_all (λ x. a || not (q x)) xs ≡ (a || not (list_any q xs))
  one_index true [] = refl
  one_index true (x ∷ xs) = one_index true xs
  one_index false [] = refl
  one_index false (x ∷ xs) = ap (λ b. not (q x) && b) (one_index false xs) ∙ by (q x) (list_any q xs)
    where
      by : (a b : Bool) → (not a && not b) ≡ not (a || b)
      by true b = refl
      by false b = refl

  abbrev pub apart_from : Puid × Puid → Bool
  apart_from d = q d.0 || not (q d.1)

  -- each that is not among these leads to none of them, by what it refers to and by the pairs
  pub each_pair_of : {A : Type 0} (id : A → Puid) (refs : A → List Puid) (xs : List A)
      → list_all (λ a. q (id a) || not (list_any q (refs a))) xs ≡ list_all apart_from (flat_map (λ a. map (λ x. (id a, x)) (refs a)) xs)
  each_pair_of id refs [] = refl
  each_pair_of id refs (a ∷ xs) =
      let to_none : Bool = q (id a) || not (list_any q (refs a)) in
      let rest = flat_map (λ b. map (λ x. (id b, x)) (refs b)) xs in
      let here : list_all apart_from (map (λ x. (id a, x)) (refs a)) ≡ to_none = list_all-map apart_from (λ x. (id a, x)) (refs a) ∙ one_index (q (id a)) (refs a) in
      ap (λ b. to_none && b) (each_pair_of id refs xs) ∙ ap (λ b. b && list_all apart_from rest) (sym here) ∙ sym (list_all-append apart_from (map (λ x. (id a, x)) (refs a)) rest)

  -- the objects and the drafts together
  pub each_index : (s : State) → (list_all (λ e. q e.0 || not (list_any q (referred e.1))) s.graph.objects && list_all (λ g. q g.id || not (list_any q (drafted g))) s.grants)
      ≡ list_all apart_from (pairs_of s)
  each_index s =
      ap (λ b. b && list_all (λ (g : Grant). q g.id || not (list_any q (drafted g))) s.grants) (each_pair_of (λ e. e.0) (λ e. referred e.1) s.graph.objects)
      ∙ ap (λ b. list_all apart_from (graph_pairs s.graph) && b) (each_pair_of (λ g. g.id) drafted s.grants)
      ∙ sym (list_all-append apart_from (graph_pairs s.graph) (draft_pairs s.grants))

same_test : (a b : Bool) → (a ≡ true → b ≡ true) → (b ≡ true → a ≡ true) → a ≡ b
same_test true b f g = sym (f refl)
same_test false true f g = g refl
same_test false false f g = refl

-- what is there is reached or among these exactly where all that was cut off is among them
pub cut_off_is : (s : State) (keys ids : List Puid) → ((x : Puid) → is_among x keys ≡ is_among x (reached_since s.collection))
    → list_all (λ x. is_among x keys || is_among x ids) (ids_of s.graph) ≡ has_all_cut_off s ids
cut_off_is s keys ids same = same_test _ _
    (λ all. all_among (λ x. not (is_cut_off s x) || is_among x ids) (ids_of s.graph) (λ x at. by (is_there s.graph x) (is_among x keys) (is_among x (reached_since s.collection)) (is_among x ids) (there x at) (same x) (each_among (λ y. is_among y keys || is_among y ids) x (ids_of s.graph) all at)))
    (λ all. all_among (λ x. is_among x keys || is_among x ids) (ids_of s.graph) (λ x at. back (is_there s.graph x) (is_among x keys) (is_among x (reached_since s.collection)) (is_among x ids) (there x at) (same x) (each_among (λ y. not (is_cut_off s y) || is_among y ids) x (ids_of s.graph) all at)))
  where
    there : (x : Puid) → is_among x (ids_of s.graph) ≡ true → is_there s.graph x ≡ true
    there x at = is_there-ids s.graph x ∙ at

    by : (t k r a : Bool) → t ≡ true → k ≡ r → (k || a) ≡ true → (not (t && not r) || a) ≡ true
    by true true true a t e h = refl
    by true false false a t e h = h
    by true true false a t e h = cc
    by true false true a t e h = cc
    by false k r a t e h = cc

    back : (t k r a : Bool) → t ≡ true → k ≡ r → (not (t && not r) || a) ≡ true → (k || a) ≡ true
    back true true r a t e h = refl
    back true false false a t e h = h
    back true false true a t e h = cc
    back false k r a t e h = cc

module _ (s : State) (keys ids : List Puid) (same : (x : Puid) → is_among x keys ≡ is_among x ids) where
  abbrev but_cut_off : Bool
  but_cut_off = is_marking s.collection && (are_there s ids && (has_no_kept s keys && leaves_no_reference s keys))

  vanish_is : may_vanish s ids ≡ (but_cut_off && has_all_cut_off s keys)
  vanish_is =
      let e : (λ (x : Puid). is_among x keys) ≡ (λ (x : Puid). is_among x ids) = λ i x. same x i in
      by (is_marking s.collection) (are_there s ids) (has_no_kept s ids) (leaves_no_reference s ids) (has_all_cut_off s ids)
      ∙ sym (ap (λ (q : Puid → Bool). (is_marking s.collection && (are_there s ids && (list_all (λ x. not (q x)) (kept s) && list_all (λ (d : Puid × Puid). q d.0 || not (q d.1)) (pairs_of s)))) && list_all (λ x. not (is_cut_off s x) || q x) (ids_of s.graph)) e)
    where
      by : (m a k l c : Bool) → (m && a && k && l && c) ≡ ((m && (a && (k && l))) && c)
      by true true k l c = refl
      by true false k l c = refl
      by false a k l c = refl

  pub may_not : but_cut_off ≡ false → may_vanish s ids ≡ false
  may_not h = vanish_is ∙ rw h refl

  pub may_then : but_cut_off ≡ true → may_vanish s ids ≡ has_all_cut_off s keys
  may_then h = vanish_is ∙ rw h refl

  pub marks_then : but_cut_off ≡ true → is_marking s.collection ≡ true
  marks_then h = (and_parts (is_marking s.collection) (are_there s ids && (has_no_kept s keys && leaves_no_reference s keys)) h).0

-- what was reached through what was seen is what was reached since the collection began
pub reached_same : (seen : List Seen) (keys : List Puid) → ((x : Puid) → (is_among x keys ≡ true) ↔ IsReachedBy seen x)
    → (x : Puid) → is_among x keys ≡ is_among x (reached_since (after_seen (collections.Marking [] []) seen))
reached_same seen keys is x =
    let c = after_seen (collections.Marking [] []) seen in
    same_test _ _ (λ at. (pairs_reach (edges c) (starts c) x).1 ((is x).0 at)) (λ at. (is x).1 ((pairs_reach (edges c) (starts c) x).0 at))

-- and what is left is well-formed
pub vanish_keeps : (seed : ℕ) (t : State) (st : Option ℕ) (c : Collection) (keys ids : List Puid) → ((x : Puid) → is_among x keys ≡ is_among x ids) → IsState t
    → (is_running (beside t st c) && may_vanish (beside t st c) ids) ≡ true → IsState (record t { graph = without t.graph keys })
vanish_keeps seed t st c keys ids same h may =
    let e : (λ (x : Puid). is_among x keys) ≡ (λ (x : Puid). is_among x ids) = λ i x. same x i in
    let after : State = beside (record t { graph = without t.graph ids }) st collections.Sweeping in
    let kept = next_keeps seed (beside t st c) after (events.Vanish ids) (beside_state t st c h) tt (ap (λ b. allowed_if b after) may) in
    subst (λ (q : Puid → Bool). IsState (record t { graph = record t.graph { objects = filter (λ (d : Puid × Object). not (q d.0)) t.graph.objects } })) (sym e)
    (state_beside (record t { graph = without t.graph ids }) st collections.Sweeping kept)
