-- Where a grant ends, its object has no draft any more, and the collector reads none of it.
use Rattle.std.proofs.Common.{◌≡◌, inl, inr, ℕ, List, [], ◌∷◌, Bool, true, false, cond, not, ◌&&◌, Option, Some, None, refl, sym, ◌∙◌, ap, subst, filter, find, option_to_list}
use Rattle.cfs_core.proofs.Words.{allowed, and_parts, closed, Colours, Grant, grant_of, IsMarking, IsPaced, IsState, list_all, list_any, next, or_cases, or_from, outcome_of, Puid, Reply, Request, Rescue, same_puid, same_puid_is, same_puid_itself, State, Tuid, block_named, is_outcome, is_grant}
use Rattle.std.proofs.lemmas.Option.{same_Some}
use Rattle.marking.proofs.Ended.{ended_keeps}
use Rattle.marking.proofs.Paces.{pace_ended}
use Rattle.marking.specs.Colours.{draft_over}
use Rattle.ufs_model.proofs.Drafts.{granted_filter, not_written}
use Rattle.ufs_model.proofs.Tests.{all_found}
use Rattle.ufs_model.specs.Refusal.{is_reading}
use Rattle.ufs_model.specs.State.{draft_at}
use Rattle.ufs_model.specs.WellFormed.{are_granted, may_share}
use Rattle.ufs_model.specs.declared.asked.Event.TheVariants as events
use Rattle.ufs_model.specs.declared.asked.Reply.TheVariants as replies
use Rattle.ufs_model.specs.declared.asked.Request.TheVariants as asks
use Rattle.cfs_core.specs.Rescues.{all_ended, ended_by}

-- ---- the state

-- none of these objects has a draft
abbrev pub AreOver : State → List Puid → Type 0
AreOver s [] = Unit {0}
AreOver s (id ∷ ids) = (draft_at s.grants id ≡ None) × AreOver s ids

abbrev writes_on : Puid → Grant → Bool
writes_on id x = same_puid id x.id && not (is_reading x.mode)

both_read : (g h : Grant) (id : Puid) → may_share g h ≡ true → same_puid h.id g.id ≡ true → (is_reading g.mode ≡ true) × (is_reading h.mode ≡ true)
both_read g h id share same = elim (or_cases (not (same_puid h.id g.id)) (is_reading g.mode && is_reading h.mode) share) [
  | inl other ↦ (let no : not true ≡ true = ap not (sym same) ∙ other in cc)
  | inr both ↦ and_parts (is_reading g.mode) (is_reading h.mode) both
]

-- a grant that reads doesn't write
no_write : (id : Puid) (x : Grant) → (same_puid id x.id ≡ true → is_reading x.mode ≡ true) → writes_on id x ≡ false
no_write id x reads = elim (same_puid id x.id) as (λ b. same_puid id x.id ≡ b → (b && not (is_reading x.mode)) ≡ false) [
  | true ↦ λ same. ap not (reads same)
  | false ↦ λ other. refl
] refl

module _ (M : Grant → Bool) (g : Grant) where
  others_read : (gs : List Grant) → list_all (may_share g) gs ≡ true → list_any (writes_on g.id) (filter (λ x. not (M x)) gs) ≡ false
  others_read [] all = refl
  others_read (x ∷ xs) all =
      let two = and_parts (may_share g x) (list_all (may_share g) xs) all in
      let rest = others_read xs two.1 in
      let here : writes_on g.id x ≡ false = no_write g.id x (λ same.
      (both_read g x g.id two.0 (subst (λ (k : Puid). same_puid k g.id ≡ true) (same_puid_is g.id x.id same) (same_puid_itself g.id))).1) in
      elim (not (M x)) as (λ b. list_any (writes_on g.id) (cond b (x ∷ filter (λ y. not (M y)) xs) (filter (λ y. not (M y)) xs)) ≡ false) [
        | true ↦ or_from (writes_on g.id x) _ here rest
        | false ↦ rest
      ]

  -- where the first grant that passes a test is gone with all that do, no other writes on its object
  none_writes : (gs : List Grant) → are_granted gs ≡ true → find M gs ≡ Some g → list_any (writes_on g.id) (filter (λ x. not (M x)) gs) ≡ false
  none_writes [] all found = cc
  none_writes (y ∷ ys) all found =
      let last = and_parts _ (are_granted ys) all in
      let first = and_parts _ (list_all (may_share y) ys) last.0 in
      elim (M y) as (λ b. cond b (Some y) (find M ys) ≡ Some g → list_any (writes_on g.id) (cond (not b) (y ∷ filter (λ x. not (M x)) ys) (filter (λ x. not (M x)) ys)) ≡ false) [
        | true ↦ λ here. others_read ys (subst (λ (z : Grant). list_all (may_share z) ys ≡ true) (same_Some y g here) first.1)
        | false ↦ λ later.
            let share = (all_found (may_share y) M ys g later first.1).1 in
            or_from (writes_on g.id y) _
            (no_write g.id y (λ same. (both_read y g g.id share same).0))
            (none_writes ys last.1 later)
      ] found

  pub none_left : (gs : List Grant) → are_granted gs ≡ true → find M gs ≡ Some g → draft_at (filter (λ x. not (M x)) gs) g.id ≡ None
  none_left gs all found = not_written (filter (λ x. not (M x)) gs) g.id (granted_filter (λ x. not (M x)) gs all) (none_writes gs all found)

-- of the object whose grant was closed
pub over_closed : (s : State) → IsState s → (who : ℕ) (t : Tuid) (commit : Bool) → AreOver (closed s who t commit) (ended_by s who (asks.Close t commit) replies.Done)
over_closed s state who t commit = at (grant_of s who t) refl
  where
    at : (o : Option Grant) → grant_of s who t ≡ o → AreOver (closed s who t commit) (option_to_list (Rattle.std.specs.Prelude.option_and_then (λ (g : Grant). Some g.id) (grant_of s who t)))
    at None found = rw found tt
    at (Some g) found = rw found (none_left (is_grant who t) g s.grants state.alone found, tt)

pub over_asked : (seed : ℕ) (s t : State) (who : ℕ) (request : Request) (reply : Reply) → next seed s (events.Ask who request reply) ≡ Some t → IsState s → AreOver t (ended_by s who request reply)
over_asked seed s t who (asks.Close grant commit) replies.Done step state =
    subst (λ (u : State). AreOver u (ended_by s who (asks.Close grant commit) replies.Done))
    (allowed (is_outcome seed s who (asks.Close grant commit) replies.Done) (outcome_of seed s who (asks.Close grant commit) (block_named replies.Done)).1 t step).1
    (over_closed s state who grant commit)
over_asked seed s t who request reply step state = tt

-- ---- the marks

pub all_ended_keep : (s : State) (over : List Puid) → AreOver s over → (c : Colours) (waiting : List Rescue) → IsMarking s c waiting → IsMarking s (all_ended over c) waiting
all_ended_keep s [] none c waiting is = is
all_ended_keep s (id ∷ ids) none c waiting is = all_ended_keep s ids none.1 (draft_over id c) waiting (ended_keeps id s c waiting none.0 is)

pub all_ended_pace : (s : State) (over : List Puid) (c : Colours) (waiting : List Rescue) (volume steps added : ℕ) → IsPaced s c waiting volume steps added → IsPaced s (all_ended over c) waiting volume steps added
all_ended_pace s [] c waiting volume steps added is = is
all_ended_pace s (id ∷ ids) c waiting volume steps added is = all_ended_pace s ids (draft_over id c) waiting volume steps added (pace_ended s c id waiting volume steps added is)
