-- What may vanish: the test computes what is meant, and what vanishes is what was cut off, and nothing that is kept.
use Rattle.std.proofs.Common.{◌≡◌, ℕ, List, [], ◌∷◌, length, sym, ◌∙◌, ap, subst, true, false, cond, not, ◌&&◌, ◌||◌, ◌↔◌, Some, None, inl, inr}
use Rattle.ufs_model.proofs.Words.{Graph, IsCutOff, IsKept, IsReached, MayVanish, Puid, State, allowed_if, and_from, and_parts, both_ways, cases_Bool, edges, has_pair, ids_of, is_among, is_cut_off, is_marking, is_running, is_some, is_there, kept, list_all, may_vanish, next, none-some, not-true, object_at, open_ids, or_cases, or_left, or_right, pairs_of, reached, reached_since, rises, same_Some, starts, starts_now, without}
use Rattle.ufs_model.specs.declared.collection.Collection.TheVariants as collections
use Rattle.ufs_model.specs.Reach.{Start}
use Rattle.ufs_model.specs.Identifier.{same_puid}
use Rattle.ufs_model.specs.Graph.{graph_pairs}
use Rattle.ufs_model.specs.State.{draft_pairs}
use Rattle.ufs_model.specs.declared.asked.Event.TheVariants as events
use Rattle.ufs_model.specs.WellFormed.{IsState}
use Rattle.std.proofs.lemmas.List.Folds.{list_any-append}
use Rattle.ufs_model.proofs.Reached.{joined_has, joined_has_new, among_itself, each_among, all_among, each_pair, all_pairs, reached_is_closed, steps_reach, reach_steps, pairs_closed}
use Rattle.ufs_model.proofs.Graphs.{is_there-ids, ids-count, object_at-without}
use Rattle.ufs_model.proofs.WellGraphs.{graph_closed}

-- ---- what is reached

pub pairs_reach : (pairs : List (Puid × Puid)) (starts : List Puid) (x : Puid) → (is_among x (reached (length pairs) pairs starts) ≡ true) ↔ IsReached pairs starts x
pairs_reach pairs starts x = (steps_reach pairs starts (length pairs) x, reach_steps pairs starts (length pairs) (pairs_closed pairs starts) x)

module _ (s : State) (h : IsState s) where
  -- what is referred to is there
  pub pairs_there : (i x : Puid) → has_pair (pairs_of s) i x ≡ true → is_there s.graph x ≡ true
  pairs_there i x pair = elim (or_cases _ _ (sym (list_any-append (λ (e : Puid × Puid). same_puid i e.0 && same_puid x e.1) (graph_pairs s.graph) (draft_pairs s.grants)) ∙ pair)) [
    | inl own ↦ graph_closed s.graph h.graph i x own
    | inr drafted ↦ each_pair (λ _. is_there s.graph) (draft_pairs s.grants) i x h.closed drafted
  ]

  pub kept_is : (x : Puid) → (is_among x (kept s) ≡ true) ↔ IsKept s x
  kept_is x = (steps_reach (pairs_of s) (starts_now s) (length s.graph.objects) x, reach_steps (pairs_of s) (starts_now s) (length s.graph.objects) closed x)
    where
      inside : (i y : Puid) → has_pair (pairs_of s) i y ≡ true → is_among y (ids_of s.graph) ≡ true
      inside i y pair = sym (is_there-ids s.graph y) ∙ pairs_there i y pair

      closed : (i y : Puid) → has_pair (pairs_of s) i y ≡ true → is_among i (reached (length s.graph.objects) (pairs_of s) (starts_now s)) ≡ true
          → is_among y (reached (length s.graph.objects) (pairs_of s) (starts_now s)) ≡ true
      closed = subst (λ (n : ℕ). (i y : Puid) → has_pair (pairs_of s) i y ≡ true → is_among i (reached n (pairs_of s) (starts_now s)) ≡ true → is_among y (reached n (pairs_of s) (starts_now s)) ≡ true)
          (ids-count s.graph) (reached_is_closed (ids_of s.graph) (pairs_of s) inside (starts_now s))

-- the test of what was cut off throughout
cut_off_test : (s : State) (x : Puid) → IsCutOff s x → is_cut_off s x ≡ true
cut_off_test s x cut =
    and_from (is_there s.graph x) (not (is_among x (reached_since s.collection))) cut.there (elim (cases_Bool (is_among x (reached_since s.collection))) [
      | inl yes_reached ↦ absurd (cut.cut_off ((pairs_reach (edges s.collection) (starts s.collection) x).0 yes_reached))
      | inr none ↦ ap not none
    ])

cut_off_meant : (s : State) (x : Puid) → is_cut_off s x ≡ true → IsCutOff s x
cut_off_meant s x h =
    let two = and_parts (is_there s.graph x) (not (is_among x (reached_since s.collection))) h in record {
      there = two.0;
      cut_off = λ reached. both_ways (is_among x (reached_since s.collection)) (not-true _ two.1) ((pairs_reach (edges s.collection) (starts s.collection) x).1 reached);
    }

-- ---- what may vanish

pub may_vanish_meant : (s : State) (ids : List Puid) → IsState s → may_vanish s ids ≡ true → MayVanish s ids
may_vanish_meant s ids h test =
    let fourth = and_parts _ (list_all (λ x. not (is_cut_off s x) || is_among x ids) (ids_of s.graph)) test in
    let third = and_parts _ (list_all (λ e. is_among e.0 ids || not (is_among e.1 ids)) (pairs_of s)) fourth.0 in
    let second = and_parts _ (list_all (λ x. not (is_among x ids)) (kept s)) third.0 in
    let first = and_parts (is_marking s.collection) (rises ids && list_all (is_there s.graph) ids) second.0 in
    let listed = and_parts (rises ids) (list_all (is_there s.graph) ids) first.1 in record {
      marking = first.0;
      rising = listed.0;
      there = λ x. each_among (is_there s.graph) x ids listed.1;
      none_kept = λ x keeps. not-true (is_among x ids) (each_among (λ y. not (is_among y ids)) x (kept s) second.1 ((kept_is s h x).1 keeps));
      none_referred = λ i x pair stays. elim (or_cases (is_among i ids) (not (is_among x ids)) (each_pair (λ j y. is_among j ids || not (is_among y ids)) (pairs_of s) i x third.1 pair)) [
        | inl goes ↦ absurd (both_ways (is_among i ids) stays goes)
        | inr unreferred ↦ not-true (is_among x ids) unreferred
      ];
      all_cut_off = λ x cut.
          let in_graph : is_among x (ids_of s.graph) ≡ true = sym (is_there-ids s.graph x) ∙ cut.there in
          elim (or_cases (not (is_cut_off s x)) (is_among x ids) (each_among (λ y. not (is_cut_off s y) || is_among y ids) x (ids_of s.graph) fourth.1 in_graph)) [
            | inl spared ↦ absurd (both_ways (is_cut_off s x) (not-true (is_cut_off s x) spared) (cut_off_test s x cut))
            | inr gone ↦ gone
          ];
    }

pub may_vanish_test : (s : State) (ids : List Puid) → IsState s → MayVanish s ids → may_vanish s ids ≡ true
may_vanish_test s ids h may =
    and_from _ _ (and_from _ _ (and_from _ _
    (and_from (is_marking s.collection) (rises ids && list_all (is_there s.graph) ids) may.marking (and_from (rises ids) (list_all (is_there s.graph) ids) may.rising (all_among (is_there s.graph) ids may.there)))
    (all_among (λ x. not (is_among x ids)) (kept s) (λ x keeps. ap not (may.none_kept x ((kept_is s h x).0 keeps)))))
    (all_pairs (λ i x. is_among i ids || not (is_among x ids)) (pairs_of s) unreferred))
    (all_among (λ x. not (is_cut_off s x) || is_among x ids) (ids_of s.graph) (λ x _. gone x))
  where
    unreferred : (i x : Puid) → has_pair (pairs_of s) i x ≡ true → (is_among i ids || not (is_among x ids)) ≡ true
    unreferred i x pair = elim (cases_Bool (is_among i ids)) [ inl goes ↦ or_left (is_among i ids) (not (is_among x ids)) goes | inr stays ↦ or_right (is_among i ids) (not (is_among x ids)) (ap not (may.none_referred i x pair stays)) ]

    gone : (x : Puid) → (not (is_cut_off s x) || is_among x ids) ≡ true
    gone x = elim (cases_Bool (is_cut_off s x)) [
      | inl cut ↦ or_right (not (is_cut_off s x)) (is_among x ids) (may.all_cut_off x (cut_off_meant s x cut))
      | inr spared ↦ or_left (not (is_cut_off s x)) (is_among x ids) (ap not spared)
    ]

-- the root and what is open is kept
pub root_kept : (s : State) → IsKept s s.graph.root
root_kept s = Start (joined_has (open_ids s) (s.graph.root ∷ []) s.graph.root (among_itself s.graph.root []))

pub open_kept : (s : State) (x : Puid) → is_among x (open_ids s) ≡ true → IsKept s x
open_kept s x at = Start (joined_has_new (open_ids s) (s.graph.root ∷ []) x at)

-- ---- what has vanished

module _ (g : Graph) (ids : List Puid) (x : Puid) where
  pub taken_gone : is_among x ids ≡ true → is_there (without g ids) x ≡ false
  taken_gone gone = ap is_some (object_at-without g ids x ∙ ap (λ b. cond (not b) (object_at g x) None) gone)

  pub kept_stays : is_among x ids ≡ false → object_at (without g ids) x ≡ object_at g x
  kept_stays stays = object_at-without g ids x ∙ ap (λ b. cond (not b) (object_at g x) None) stays

vanish_is : (s t : State) (ids : List Puid) → IsState s → allowed_if (is_running s && may_vanish s ids) (record s { graph = without s.graph ids; collection = collections.Sweeping }) ≡ Some t
    → MayVanish s ids × (t.graph ≡ without s.graph ids)
vanish_is s t ids h e = elim (cases_Bool (is_running s && may_vanish s ids)) [
  | inl may ↦ (may_vanish_meant s ids h (and_parts (is_running s) (may_vanish s ids) may).1, sym (ap (λ (u : State). u.graph) (same_Some _ t (sym (ap (λ b. allowed_if b taken) may) ∙ e))))
  | inr not ↦ absurd (none-some t (sym (ap (λ b. allowed_if b taken) not) ∙ e))
]
  where
    taken : State
    taken = record s { graph = without s.graph ids; collection = collections.Sweeping }

module _ (seed : ℕ) (s t : State) (ids : List Puid) (x : Puid) (h : IsState s) (e : next seed s (events.Vanish ids) ≡ Some t) where
  pub vanish_gone : IsCutOff s x → is_there t.graph x ≡ false
  vanish_gone cut = let two = vanish_is s t ids h e in rw two.1 (taken_gone s.graph ids x (two.0.all_cut_off x cut))

  pub vanish_kept : IsKept s x → object_at t.graph x ≡ object_at s.graph x
  vanish_kept keeps = let two = vanish_is s t ids h e in rw two.1 (kept_stays s.graph ids x (two.0.none_kept x keeps))
