-- Each sort of change that a request makes.
use Rattle.std.proofs.Common.{◌≡◌, ◌⊎◌, inl, inr, ℕ, zero, suc, ◌+◌, ◌≤◌, ◌==◌, List, [], ◌∷◌, refl, sym, ◌∙◌, ap, subst, arith, Bool, true, false, cond, ◌&&◌, not, Option, Some, None}
use Rattle.marking.proofs.Words.{Change, Changes, Collection, Colours, Direct, Draft, Fill, Grant, Graph, Mode, Object, Puid, Ref, State, Through, Tuid, and_from, and_parts, changed, changed_draft, changed_object, draft_at, draft_of, filter, filter_map, grant_of, has_block, has_block-there, has_pair, ids_of, in_leaf, index_leaves, is_among, is_free_root, is_grant, is_index_there, is_marking, is_remembered, is_some, kind_standing, list_any-append, map, map-append, named, new_index, object_at, object_at-with_object, object_there, open_ids, or_cases, or_left, or_right, outcome_of, put, read_in, replicate, rises, same_Some, same_puid, same_puid_is, same_puid_itself, seen, sum_by, unread, unread_at, unread_of, with_edge, with_object, with_start, word}
use Rattle.std.proofs.Common.{◌++◌}
use Rattle.ufs_model.specs.declared.asked.Request.TheVariants as asks
use Rattle.ufs_model.specs.declared.collection.Collection.TheVariants as collections
use Rattle.ufs_model.specs.declared.object.Object.TheVariants as objects
use Rattle.marking.proofs.Wells.{IsWell}
use Rattle.marking.proofs.Leaves.{leaf_refers}
use Rattle.ufs_model.specs.State.{object_in}
use Rattle.ufs_model.specs.Outcome.{first_draft}
use Rattle.ufs_model.specs.Need.{takes_draft}
use Rattle.marking.proofs.Wells.{draft_inside}
use Rattle.marking.proofs.Places.{draft_stands}
use Rattle.marking.proofs.Unread.{added, at_of, unread_one, unread_all, unread_shed, unread_committed, unread_opened, unread_made, unread_least, ids_same}
use Rattle.ufs_model.proofs.Graphs.{rises-with_object}
use Rattle.marking.proofs.Leaves.{no_file, kind_there, there_kind}
use Rattle.marking.proofs.Changed.{changes_then}
use Rattle.marking.proofs.Replaced.{read_within, same_graph, with_one}
use Rattle.marking.proofs.Puts.{GoesTo, TakesDrafts, ToDraft, ToObject, is_put, put_changes, seen_draft, seen_is, takes_drafts, undrafted}

-- ---- each sort of change

put_collection : (s : State) (who : ℕ) (ref : Ref) (d : Draft) (to : GoesTo s who ref) → (put s who ref d).collection ≡ s.collection
put_collection s who ref d to = elim (is_put s who ref d to.id to.is) [ ToDraft old some same ids kept ↦ kept | ToObject is same kept none ↦ kept ]

-- a change that puts nothing into a slot
pub plain_changes : (s : State) → IsWell s → (who : ℕ) (ref : Ref) (c : Change) → GoesTo s who ref → added c ≡ None → Changes s (changed s who ref c) []
plain_changes s well who ref c to none =
    put_changes s (changed s who ref c) well.ordered who ref c (changed_draft c (seen s who ref)) to (takes_drafts s well who ref to.id to.is) [] (λ no_draft. ap (changed_object c) (seen_is s who ref to no_draft))
    (λ old some. ap (changed_object c) (seen_draft s who ref old some)) refl refl
    (λ index x w. absurd w) (λ index x w. absurd w)
    (λ index x h. ap (λ (k : Collection). is_remembered k index x) (put_collection s who ref (changed_draft c (seen s who ref)) to) ∙ h)
    (λ x is. let other : None ≡ Some x = sym none ∙ is in cc)

module _ (i y : Puid) where
  edge_kept : (k : Collection) (index : Option Puid) (x : Puid) → is_remembered k index x ≡ true → is_remembered (with_edge (Some i) y k) index x ≡ true
  edge_kept collections.None index x h = h
  edge_kept collections.Sweeping index x h = h
  edge_kept (collections.Marking edges starts) None x h = h
  edge_kept (collections.Marking edges starts) (Some j) x h = or_right (same_puid j i && same_puid x y) (has_pair edges j x) h

  edge_new : (k : Collection) → is_marking k ≡ true → is_remembered (with_edge (Some i) y k) (Some i) y ≡ true
  edge_new collections.None h = cc
  edge_new collections.Sweeping h = cc
  edge_new (collections.Marking edges starts) h = or_left (same_puid i i && same_puid y y) (has_pair edges i y) (and_from (same_puid i i) (same_puid y y) (same_puid_itself i) (same_puid_itself y))

  start_kept : (k : Collection) (index : Option Puid) (x : Puid) → is_remembered k index x ≡ true → is_remembered (with_start y k) index x ≡ true
  start_kept collections.None index x h = h
  start_kept collections.Sweeping index x h = h
  start_kept (collections.Marking edges starts) None x h = or_right (same_puid x y) (is_among x starts) h
  start_kept (collections.Marking edges starts) (Some j) x h = h

  start_new : (k : Collection) → is_marking k ≡ true → is_remembered (with_start y k) None y ≡ true
  start_new collections.None h = cc
  start_new collections.Sweeping h = cc
  start_new (collections.Marking edges starts) h = or_left (same_puid y y) (is_among y starts) (same_puid_itself y)

-- a slot is filled, and the new entry is remembered
pub fill_changes : (m t : State) → rises (ids_of m.graph) ≡ true → (who : ℕ) (ref : Ref) (slot : ℕ) (y : Puid) (d : Draft) (to : GoesTo m who ref) → TakesDrafts m who ref to.id → is_marking m.collection ≡ true
    → (draft_of m who ref ≡ None → d.object ≡ changed_object (Fill slot (Some y)) to.object) → ((old : Draft) → draft_of m who ref ≡ Some old → d.object ≡ changed_object (Fill slot (Some y)) old.object)
    → t.graph ≡ (put m who ref d).graph → t.grants ≡ (put m who ref d).grants
    → t.collection ≡ with_edge (named m who ref) y m.collection → Changes m t (record { index = named m who ref; id = y } ∷ [])
fill_changes m t up who ref slot y d to takes marking object draft graph grants memory =
    put_changes m t up who ref (Fill slot (Some y)) d to takes (record { index = named m who ref; id = y } ∷ []) object draft graph grants
    (λ index x w. elim w [
      | inl here ↦ subst (λ (i : Option Puid). is_remembered t.collection i x ≡ true) (sym to.is ∙ here.0) (subst (λ (z : Puid). is_remembered t.collection (Some to.id) z ≡ true) here.1 (remembers (Some to.id) y (edge_new to.id y m.collection marking)))
      | inr none ↦ absurd none
    ])
    (λ index x w. elim w [ inl here ↦ sym here.0 ∙ to.is | inr none ↦ absurd none ])
    (λ index x h. remembers index x (edge_kept to.id y m.collection index x h))
    (λ x is. inl (to.is, same_Some y x is))
  where
    remembers : (index : Option Puid) (x : Puid) → is_remembered (with_edge (Some to.id) y m.collection) index x ≡ true → is_remembered t.collection index x ≡ true
    remembers index x h = ap (λ (k : Collection). is_remembered k index x) (memory ∙ ap (λ (i : Option Puid). with_edge i y m.collection) to.is) ∙ h

-- an object is made
abbrev empty_slots : ℕ → List (Option Puid)
empty_slots n = replicate n None

no_ids : (n : ℕ) → filter_map (λ slot. slot) (empty_slots n) ≡ []
no_ids zero = refl
no_ids (suc n) = no_ids n

pub empty_index : (n : ℕ) (leaf : ℕ) (x : Puid) → in_leaf (Some (objects.Index (new_index n))) leaf x ≡ true → ⊥
empty_index n leaf x h = let none : is_among x [] ≡ true = ap (is_among x) (sym (no_ids n)) ∙ leaf_refers (Some (objects.Index (new_index n))) leaf x h in cc

not_there : (g : Graph) (id : Puid) → is_free_root g id.block ≡ true → (old : Object) → object_at g id ≡ Some old → ⊥
not_there g id free old at =
    let two = and_parts (not (id.block == 0)) (not (has_block g.objects id.block)) free in
    let there : has_block g.objects id.block ≡ true = has_block-there id g.objects old at in
    let none : not true ≡ true = ap not (sym there) ∙ two.1 in cc

made_changes : (s m : State) (id : Puid) (o : Object) → index_leaves o ≡ [] → draft_at s.grants id ≡ None → is_free_root s.graph id.block ≡ true → ((leaf : ℕ) (x : Puid) → in_leaf (Some o) leaf x ≡ true → ⊥)
    → m.graph ≡ with_object s.graph id o → m.grants ≡ s.grants → m.collection ≡ s.collection → Changes s m []
made_changes s m id o bare no_draft free empty graph grants collection =
    with_one s m [] (λ index x w. absurd w) (λ index x h. ap (λ (k : Collection). is_remembered k index x) collection ∙ h)
    (λ x h. inl (subst (λ (gs : List Grant). is_among x (map (λ g. g.id) gs) ≡ true) grants h)) left id o graph
    (λ old at. absurd (not_there s.graph id free old at)) (λ leaf x h. absurd (empty leaf x h)) (λ i leaf x h none. undrafted s.grants m.grants id i leaf x no_draft grants h)
  where
    each : (i : Puid) (r : Option ℕ) → at_of (draft_at m.grants i) (object_at m.graph i) r ≤ at_of (draft_at s.grants i) (object_at s.graph i) r
    each i r =
        let now_object : object_at m.graph i ≡ cond (same_puid i id) (Some o) (object_at s.graph i) = ap (λ (g : Graph). object_at g i) graph ∙ object_at-with_object s.graph id o i in
        rw (now_object, grants) (elim (same_puid i id) as (λ b. same_puid i id ≡ b → at_of (draft_at s.grants i) (cond b (Some o) (object_at s.graph i)) r ≤ at_of (draft_at s.grants i) (object_at s.graph i) r) [
          | true ↦ λ same. let none : draft_at s.grants i ≡ None = ap (draft_at s.grants) (same_puid_is i id same) ∙ no_draft in
              rw none (subst (λ (l : List ℕ). unread_of false r l ≤ at_of None (object_at s.graph i) r) (sym bare) (unread_least r (object_at s.graph i)))
          | false ↦ λ other. omega arith
        ] refl)

    left : (c : Colours) → unread m c ≤ unread s c + 0
    left = unread_all s m 0 (unread_made s m id o graph bare (ap (λ (gs : List Grant). draft_at gs id) grants ∙ no_draft)) each

-- the graph with a new object, one word more being drawn
abbrev with_new : ℕ → State → ℕ → Object → State
with_new seed s b o = record s { graph = with_object s.graph (record { block = b; word = word seed (s.drawn + 1) }) o; drawn = s.drawn + 1 }

pub created_changes : (seed : ℕ) (s t : State) (who : ℕ) (ref : Ref) (slot : ℕ) (o : Object) (b : ℕ) → IsWell s → is_marking s.collection ≡ true → GoesTo s who ref → is_free_root s.graph b ≡ true → index_leaves o ≡ []
    → ((leaf : ℕ) (x : Puid) → in_leaf (Some o) leaf x ≡ true → ⊥)
    → (let id : Puid = record { block = b; word = word seed (s.drawn + 1) } in
    let d = changed_draft (Fill slot (Some id)) (seen s who ref) in
    t.graph ≡ (put (with_new seed s b o) who ref d).graph → t.grants ≡ (put (with_new seed s b o) who ref d).grants → t.collection ≡ with_edge (named s who ref) id s.collection
    → Changes s t (record { index = named s who ref; id = id } ∷ []))
created_changes seed s t who ref slot o b well marking to free bare empty graph grants collection =
    changes_then s (with_new seed s b o) t [] _ (made_changes s (with_new seed s b o) id o bare no_draft free empty refl refl refl)
    (fill_changes (with_new seed s b o) t (rises-with_object s.graph id o well.ordered) who ref slot id (changed_draft (Fill slot (Some id)) (seen s who ref)) goes (takes ref (takes_drafts s well who ref to.id to.is)) marking
    (λ none. ap (changed_object (Fill slot (Some id))) (seen_is s who ref to (draft_still ref None none)))
    (λ old some. ap (changed_object (Fill slot (Some id))) (seen_draft s who ref old (draft_still ref (Some old) some))) graph grants collection)
  where
    id : Puid
    id = record { block = b; word = word seed (s.drawn + 1) }

    other : same_puid to.id id ≡ false
    other = at (same_puid to.id id) refl
      where
        at : (t : Bool) → same_puid to.id id ≡ t → t ≡ false
        at true is = absurd (not_there s.graph id free to.object (subst (λ (k : Puid). object_at s.graph k ≡ Some to.object) (same_puid_is to.id id is) to.there))
        at false is = refl

    -- nothing that is not there has a draft
    no_draft : draft_at s.grants id ≡ None
    no_draft = at (draft_at s.grants id) refl
      where
        at : (d : Option Object) → draft_at s.grants id ≡ d → draft_at s.grants id ≡ None
        at None is = is
        at (Some d) is =
            let kind = there_kind (Some d) refl in
            let old = object_there s.graph id (kind_there (object_at s.graph id) kind.0 (well.kinds id d is ∙ kind.1)) in
            absurd (not_there s.graph id free old.0 old.1)

    draft_still : (r : Ref) (d : Option Draft) → draft_of (with_new seed s b o) who r ≡ d → draft_of s who r ≡ d
    draft_still (Direct x) d h = h
    draft_still (Through x) d h = h

    takes : (r : Ref) → TakesDrafts s who r to.id → TakesDrafts (with_new seed s b o) who r to.id
    takes (Direct x) of_s = record { was = λ old h. cc; puts = λ old d h i. cc }
    takes (Through x) of_s = record {
      was = λ old h. of_s.was old h;
      puts = λ old d h i. rw (h, put) (rw (h, put) at (of_s.puts old d h i));
    }

    goes : GoesTo (with_new seed s b o) who ref
    goes = record { id = to.id; object = to.object; is = still ref to.is; there = object_at-with_object s.graph id o to.id ∙ rw other to.there; alone = λ none. to.alone (draft_still ref None none) }
      where
        still : (r : Ref) → named s who r ≡ Some to.id → named (with_new seed s b o) who r ≡ Some to.id
        still (Direct x) h = h
        still (Through x) h = h

-- one more grant
draft_push : (gs : List Grant) (g : Grant) (i : Puid) (leaf : ℕ) (x : Puid) → in_leaf (draft_at (gs ++ g ∷ []) i) leaf x ≡ true → (in_leaf (draft_at gs i) leaf x ≡ true) ⊎ (in_leaf (draft_at (g ∷ []) i) leaf x ≡ true)
draft_push [] g i leaf x h = inr h
draft_push (y ∷ ys) g i leaf x h = elim (same_puid i y.id && is_some y.draft) as (λ b. in_leaf (cond b (object_in y.draft) (draft_at (ys ++ g ∷ []) i)) leaf x ≡ true
    → (in_leaf (cond b (object_in y.draft) (draft_at ys i)) leaf x ≡ true) ⊎ (in_leaf (draft_at (g ∷ []) i) leaf x ≡ true)) [
      | true ↦ λ here. inl here
      | false ↦ λ later. draft_push ys g i leaf x later
    ] h

-- a draft that begins is its object
first_leaf : (mode : Mode) (o : Option Object) (leaf : ℕ) (x : Puid) → in_leaf (object_in (first_draft mode o)) leaf x ≡ true → in_leaf o leaf x ≡ true
first_leaf mode None leaf x h = cc
first_leaf mode (Some o) leaf x h = elim (takes_draft mode (Some o)) as (λ b. in_leaf (object_in (cond b (Some (record { object = o; fresh = [] })) None)) leaf x ≡ true → in_leaf (Some o) leaf x ≡ true) [
  | true ↦ λ at. at
  | false ↦ λ at. cc
] h

first_found : (s : State) (g : Grant) (mode : Mode) (i : Puid) (leaf : ℕ) (x : Puid) → g.draft ≡ first_draft mode (object_at s.graph g.id) → in_leaf (draft_at (g ∷ []) i) leaf x ≡ true → in_leaf (object_at s.graph i) leaf x ≡ true
first_found s g mode i leaf x is h = elim (same_puid i g.id && is_some g.draft) as (λ b. (same_puid i g.id && is_some g.draft) ≡ b → in_leaf (cond b (object_in g.draft) None) leaf x ≡ true → in_leaf (object_at s.graph i) leaf x ≡ true) [
  | true ↦ λ has at. subst (λ (k : Puid). in_leaf (object_at s.graph k) leaf x ≡ true) (sym (same_puid_is i g.id (and_parts (same_puid i g.id) (is_some g.draft) has).0))
      (first_leaf mode (object_at s.graph g.id) leaf x (subst (λ (d : Option Draft). in_leaf (object_in d) leaf x ≡ true) is at))
  | false ↦ λ has at. cc
] refl h

abbrev new_grant : ℕ → State → ℕ → Puid → Mode → Grant
new_grant seed s who x mode = record { tuid = record { draw = s.drawn + 1; word = word seed (s.drawn + 1) }; session = who; id = x; mode = mode; draft = first_draft mode (object_at s.graph x) }

-- the draft of an object that is opened once more is that which it has, or the new one
abbrev first_some : Option Object → Option Object → Option Object
first_some (Some o) new = Some o
first_some None new = new

push_is : (gs : List Grant) (g : Grant) (i : Puid) → draft_at (gs ++ g ∷ []) i ≡ first_some (draft_at gs i) (draft_at (g ∷ []) i)
push_is [] g i = refl
push_is (y ∷ ys) g i = at y.draft (push_is ys g i)
  where
    at : (d : Option Draft) → draft_at (ys ++ g ∷ []) i ≡ first_some (draft_at ys i) (draft_at (g ∷ []) i)
        → cond (same_puid i y.id && is_some d) (object_in d) (draft_at (ys ++ g ∷ []) i) ≡ first_some (cond (same_puid i y.id && is_some d) (object_in d) (draft_at ys i)) (draft_at (g ∷ []) i)
    at None rest = elim (same_puid i y.id) as (λ b. cond (b && false) None (draft_at (ys ++ g ∷ []) i) ≡ first_some (cond (b && false) None (draft_at ys i)) (draft_at (g ∷ []) i)) [ true ↦ rest | false ↦ rest ]
    at (Some d) rest = elim (same_puid i y.id) as (λ b. cond (b && true) (Some d.object) (draft_at (ys ++ g ∷ []) i) ≡ first_some (cond (b && true) (Some d.object) (draft_at ys i)) (draft_at (g ∷ []) i)) [ true ↦ refl | false ↦ rest ]

first_is : (mode : Mode) (own : Option Object) (o : Object) → object_in (first_draft mode own) ≡ Some o → own ≡ Some o
first_is mode None o h = cc
first_is mode (Some p) o h = elim (takes_draft mode (Some p)) as (λ b. object_in (cond b (Some (record { object = p; fresh = [] })) None) ≡ Some o → Some p ≡ Some o) [
  | true ↦ λ at. at
  | false ↦ λ at. cc
] h

opened_left : (seed : ℕ) (s t : State) → IsWell s → (who : ℕ) (x : Puid) (mode : Mode) → t.graph ≡ s.graph → t.grants ≡ s.grants ++ new_grant seed s who x mode ∷ [] → (c : Colours) → unread t c ≤ unread s c + 1
opened_left seed s t well who x mode graph grants = unread_one s t 1 well.ordered x (ap ids_of graph)
    (λ id r other. rw (now_draft id, graph) (rw other (kept (draft_at s.grants id) (object_at s.graph id) r)))
    (λ r. rw (now_draft x, graph) (which (draft_at s.grants x) r))
  where
    now_draft : (id : Puid) → draft_at t.grants id ≡ first_some (draft_at s.grants id) (draft_at (new_grant seed s who x mode ∷ []) id)
    now_draft id = ap (λ (gs : List Grant). draft_at gs id) grants ∙ push_is s.grants (new_grant seed s who x mode) id

    kept : (d own : Option Object) (r : Option ℕ) → at_of (first_some d None) own r ≤ at_of d own r
    kept None own r = omega arith
    kept (Some o) own r = omega arith

    which : (d : Option Object) (r : Option ℕ) → at_of (first_some d (draft_at (new_grant seed s who x mode ∷ []) x)) (object_at s.graph x) r ≤ at_of d (object_at s.graph x) r + 1
    which (Some o) r = omega arith
    which None r = unread_opened (draft_at (new_grant seed s who x mode ∷ []) x) (object_at s.graph x) own r
      where
        own : (o : Object) → draft_at (new_grant seed s who x mode ∷ []) x ≡ Some o → object_at s.graph x ≡ Some o
        own o h = elim (same_puid x x && is_some (first_draft mode (object_at s.graph x))) as (λ b. cond b (object_in (first_draft mode (object_at s.graph x))) None ≡ Some o → object_at s.graph x ≡ Some o) [
          | true ↦ λ at. first_is mode (object_at s.graph x) o at
          | false ↦ λ at. cc
        ] h

pub opened_changes : (seed : ℕ) (s : State) → IsWell s → (who : ℕ) (x : Puid) (mode : Mode) (b : ℕ) → is_marking s.collection ≡ true → Changes s (outcome_of seed s who (asks.OpenFor x mode) b).1 (record { index = None; id = x } ∷ [])
opened_changes seed s well who x mode b marking =
    same_graph s (outcome_of seed s who (asks.OpenFor x mode) b).1 (record { index = None; id = x } ∷ [])
    (λ index y w. elim w [
      | inl here ↦ subst (λ (i : Option Puid). (is_remembered (with_start x s.collection) i y ≡ true) × (is_index_there s.graph i ≡ true)) here.0
          (subst (λ (z : Puid). (is_remembered (with_start x s.collection) None z ≡ true) × (is_index_there s.graph None ≡ true)) here.1 (start_new x x s.collection marking, refl))
      | inr none ↦ absurd none
    ])
    (λ index y h. start_kept x x s.collection index y h)
    (λ y h. elim (or_cases (is_among y (open_ids s)) (is_among y (x ∷ [])) (sym (list_any-append (same_puid y) (open_ids s) (x ∷ [])) ∙ ap (is_among y) (sym (map-append (λ (g : Grant). g.id) s.grants _)) ∙ h)) [
      | inl was ↦ inl was
      | inr new ↦ elim (or_cases (same_puid y x) false new) [ inl is ↦ inr (inl (refl, sym (same_puid_is y x is))) | inr none ↦ cc ]
    ])
    (opened_left seed s (outcome_of seed s who (asks.OpenFor x mode) b).1 well who x mode refl refl) refl
    (λ i leaf y h none. elim (draft_push s.grants _ i leaf y h) [
      | inl was ↦ inl was
      | inr new ↦ (let there : in_leaf (object_at s.graph i) leaf y ≡ true = first_found s (new_grant seed s who x mode) mode i leaf y refl new in cc)
    ])

-- fewer grants stand
pub fewer : (p : Grant → Bool) (gs : List Grant) (x : Puid) → is_among x (map (λ g. g.id) (filter p gs)) ≡ true → is_among x (map (λ g. g.id) gs) ≡ true
fewer p [] x h = cc
fewer p (g ∷ gs) x h = elim (p g) as (λ b. is_among x (map (λ y. y.id) (cond b (g ∷ filter p gs) (filter p gs))) ≡ true → is_among x (g.id ∷ map (λ y. y.id) gs) ≡ true) [
  | true ↦ λ at. elim (or_cases (same_puid x g.id) _ at) [ inl here ↦ or_left (same_puid x g.id) _ here | inr later ↦ or_right (same_puid x g.id) _ (fewer p gs x later) ]
  | false ↦ λ at. or_right (same_puid x g.id) _ (fewer p gs x at)
] h

-- what a draft has now it had
drafted : (s t : State) → ((i : Puid) (o : Object) → draft_at t.grants i ≡ Some o → draft_at s.grants i ≡ Some o) → (i : Puid) (leaf : ℕ) (x : Puid) → in_leaf (draft_at t.grants i) leaf x ≡ true → in_leaf (draft_at s.grants i) leaf x ≡ true
drafted s t drafts i leaf x h = at (draft_at t.grants i) refl h
  where
    at : (o : Option Object) → draft_at t.grants i ≡ o → in_leaf o leaf x ≡ true → in_leaf (draft_at s.grants i) leaf x ≡ true
    at None is h = cc
    at (Some o) is h = subst (λ (d : Option Object). in_leaf d leaf x ≡ true) (sym (drafts i o is)) h

-- the graph and the memory stay, and no more is open
pub less_open : (s t : State) → IsWell s → t.graph ≡ s.graph → t.collection ≡ s.collection → ((x : Puid) → is_among x (open_ids t) ≡ true → is_among x (open_ids s) ≡ true)
    → ((i : Puid) (o : Object) → draft_at t.grants i ≡ Some o → draft_at s.grants i ≡ Some o) → Changes s t []
less_open s t well graph collection opened drafts =
    same_graph s t [] (λ index x w. absurd w) (λ index x h. ap (λ (k : Collection). is_remembered k index x) collection ∙ h) (λ x h. inl (opened x h)) left graph
    (λ i leaf x h none. inl (drafted s t drafts i leaf x h))
  where
    left : (c : Colours) → unread t c ≤ unread s c + 0
    left = unread_all s t 0 (λ c. subst (λ (g : Graph). sum_by (unread_at t c) (ids_of t.graph) ≤ sum_by (unread_at t c) (ids_of g)) graph (omega arith))
        (λ i r. subst (λ (g : Graph). at_of (draft_at t.grants i) (object_at g i) r ≤ at_of (draft_at s.grants i) (object_at s.graph i) r) (sym graph) (unread_shed s t well i (drafts i) r))

-- a grant ends, and its draft becomes the object
pub closed_changes : (seed : ℕ) (s : State) (who : ℕ) (t : Tuid) (commit : Bool) (b : ℕ) → IsWell s → Changes s (outcome_of seed s who (asks.Close t commit) b).1 []
closed_changes seed s who t false b well = less_open s (outcome_of seed s who (asks.Close t false) b).1 well refl refl (fewer (λ g. not (is_grant who t g)) s.grants) (well.fewer (λ g. not (is_grant who t g)))
closed_changes seed s who t true b well = at (grant_of s who t) refl
  where
    after : State
    after = (outcome_of seed s who (asks.Close t true) b).1

    opened : (x : Puid) → is_among x (open_ids after) ≡ true → is_among x (open_ids s) ≡ true
    opened = fewer (λ g. not (is_grant who t g)) s.grants

    drafts : (i : Puid) (o : Object) → draft_at after.grants i ≡ Some o → draft_at s.grants i ≡ Some o
    drafts = well.fewer (λ g. not (is_grant who t g))

    at : (o : Option Grant) → grant_of s who t ≡ o → Changes s after []
    at None found = less_open s after well (rw found refl) refl opened drafts
    at (Some g) found = with_draft g.draft refl
      where
        with_draft : (o : Option Draft) → g.draft ≡ o → Changes s after []
        with_draft None draft = less_open s after well (rw (found, draft) refl) refl opened drafts
        with_draft (Some d) draft =
            let graph : after.graph ≡ with_object s.graph g.id d.object = rw (found, draft) refl in
            let had : draft_at s.grants g.id ≡ Some d.object = well.drafts who t g d found draft in
            with_one s after [] (λ index x w. absurd w) (λ index x h. h) (λ x h. inl (opened x h)) (left d had graph) g.id d.object graph
            (λ old there. (sym (well.kinds g.id d.object had) ∙ ap kind_standing there, λ c. reads c old there d.object had))
            (λ leaf x h.
            let in_draft : in_leaf (draft_at s.grants g.id) leaf x ≡ true = subst (λ (here : Option Object). in_leaf here leaf x ≡ true) (sym had) h in
            let it = draft_stands (draft_at s.grants g.id) (object_at s.graph g.id) leaf x (draft_inside s well g.id x leaf in_draft) in_draft in
            inl (record { before = it.place; earlier = elim it.which [ inl is ↦ omega (arith, is) | inr is ↦ omega (arith, is) ]; there = it.there }))
            (λ i leaf x h none.
            let was = drafted s after drafts i leaf x h in (
              elim (same_puid i g.id) as (λ b. same_puid i g.id ≡ b → in_leaf (cond b (Some d.object) (object_at s.graph i)) leaf x ≡ false → b ≡ false) [
                | true ↦ λ is free. (let yes : in_leaf (Some d.object) leaf x ≡ true = subst (λ (o : Option Object). in_leaf o leaf x ≡ true) (ap (draft_at s.grants) (same_puid_is i g.id is) ∙ had) was in cc)
                | false ↦ λ is free. refl
              ] refl none,
              was,
            ))
          where
            left : (d : Draft) → draft_at s.grants g.id ≡ Some d.object → after.graph ≡ with_object s.graph g.id d.object → (c : Colours) → unread after c ≤ unread s c + 0
            left d had is = unread_one s after 0 well.ordered g.id (ids_same s after g.id there.0 d.object well.ordered there.1 is)
                (λ id r other. let less = unread_shed s after well id (drafts id) r in rw (now_object id, other) (omega (arith, less)))
                (λ r. let less = unread_committed d.object (draft_at after.grants g.id) (λ o now. same_Some o d.object (sym (drafts g.id o now) ∙ had)) (object_at s.graph g.id) r in
                rw (now_object g.id, same_puid_itself g.id) (subst (λ (o : Option Object). at_of (draft_at after.grants g.id) (Some d.object) r ≤ at_of o (object_at s.graph g.id) r + 0) (sym had) (omega (arith, less))))
              where
                there : (o : Object) × (object_at s.graph g.id ≡ Some o)
                there = let kind = there_kind (Some d.object) refl in object_there s.graph g.id (kind_there (object_at s.graph g.id) kind.0 (well.kinds g.id d.object had ∙ kind.1))

                now_object : (id : Puid) → object_at after.graph id ≡ cond (same_puid id g.id) (Some d.object) (object_at s.graph id)
                now_object id = ap (λ (h : Graph). object_at h id) is ∙ object_at-with_object s.graph g.id d.object id

            -- a draft of an index holds all that the index holds
            reads : (c : Colours) (old : Object) → object_at s.graph g.id ≡ Some old → (new : Object) → draft_at s.grants g.id ≡ Some new → read_in c (g.id, old) ≤ read_in c (g.id, new)
            reads c (objects.File f) there new has = omega arith
            reads c (objects.Index i) there (objects.File f) has = absurd (no_file f.kind (sym (sym (ap kind_standing there) ∙ well.kinds g.id (objects.File f) has)))
            reads c (objects.Index i) there (objects.Index d) has = read_within c g.id i d (well.rising g.id i there) (well.draft_rising g.id d has) (well.holds g.id i d there has)
