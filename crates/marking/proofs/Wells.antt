-- What the laws of marking use of a well-formed state.
use Rattle.std.proofs.Common.{◌≡◌, inl, inr, ℕ, ◌+◌, ◌*◌, ◌/◌, ◌≤◌, List, [], ◌∷◌, length, take, drop, refl, sym, ◌∙◌, ap, subst, arith, true, Option, Some, None}
use Rattle.marking.proofs.Words.{Draft, FileKind, Grant, Graph, Index, IsState, Object, Puid, State, Tuid, and_parts, closed_graph, draft_at, each_drop, each_from, each_take, eqb-true, file_kind, filter, filter_map, grant_of, graph_refers, has_number, has_pair, ids_of, in_leaf, is_among, is_found, is_grant, is_grant_in, is_object, is_open_so, is_some, is_there, joined_within, kind_at, kind_standing, leaf_ids, leb-true, length-take, list_all, map, nat_le, nat_lt, numbers_rise, object_at, object_whole, one_block, open_ids, or_cases, own_part, refers, rises, same_Some, same_kind, same_puid, same_puid_is, slot_may_stand, within_one}
use Rattle.std.proofs.Common.{◌<◌, ◌==◌, Bool, cond}
use Rattle.std.proofs.lemmas.Bool.{ltb-true}
use Rattle.cfs_base.specs.declared.kind.FileKind.TheVariants as file_kinds
use Rattle.ufs_model.specs.declared.object.Object.TheVariants as objects
use Rattle.marking.proofs.Leaves.{leaf_refers}
use Rattle.ufs_model.specs.Limits.{most_slots}
use Rattle.ufs_model.specs.State.{draft_pairs, with_draft}
use Rattle.ufs_model.specs.WellFormed.{is_draft_of}
use Rattle.ufs_model.proofs.Drafts.{its_draft, no_other, fewer_drafts, draft_put, pair_of_draft, draft_pair, draft_of_object, granted_alone}
use Rattle.ufs_model.proofs.Reached.{each_pair}
use Rattle.marking.proofs.Leaves.{leaf_kind}
use Rattle.marking.proofs.Places.{InDraft, InOwn, stands_at}
use Rattle.cfs_base.specs.declared.kind.Kind.TheVariants as kinds

pub record IsWell (s : State) : Type 0 where
  pub ordered : rises (ids_of s.graph) ≡ true
  -- each object has a block of its own
  pub alone : (x y : Puid) → is_there s.graph x ≡ true → is_there s.graph y ≡ true → x.block ≡ y.block → x ≡ y
  -- what a slot holds and what is open is there
  pub closed : (from : Option Puid) (place : ℕ) (x : Puid) → is_found s from place x ≡ true → is_there s.graph x ≡ true
  -- an index holds the leaf of each slot that is filled, and names its leaves in rising order
  pub held : (id x : Puid) (i : Index) (leaf : ℕ) → object_at s.graph id ≡ Some (objects.Index i) → is_among x (leaf_ids i leaf) ≡ true → has_number leaf i.held ≡ true
  pub rising : (id : Puid) (i : Index) → object_at s.graph id ≡ Some (objects.Index i) → numbers_rise i.held ≡ true
  -- and so does its draft, whose leaves lie below the index's own places
  pub draft_held : (id x : Puid) (d : Index) (leaf : ℕ) → draft_at s.grants id ≡ Some (objects.Index d) → is_among x (leaf_ids d leaf) ≡ true → has_number leaf d.held ≡ true
  pub draft_rising : (id : Puid) (d : Index) → draft_at s.grants id ≡ Some (objects.Index d) → numbers_rise d.held ≡ true
  pub inside : (id : Puid) (d : Index) (leaf : ℕ) → draft_at s.grants id ≡ Some (objects.Index d) → has_number leaf d.held ≡ true → leaf < own_part
  pub holds : (id : Puid) (i d : Index) → object_at s.graph id ≡ Some (objects.Index i) → draft_at s.grants id ≡ Some (objects.Index d) → (leaf : ℕ) → has_number leaf i.held ≡ true → has_number leaf d.held ≡ true
  -- a draft is of its object's kind, and refers to what is there
  pub kinds : (id : Puid) (o : Object) → draft_at s.grants id ≡ Some o → kind_at s.graph id ≡ kind_standing (Some o)
  pub pairs : (i x : Puid) → has_pair (draft_pairs s.grants) i x ≡ true → refers (draft_at s.grants i) x ≡ true
  -- an object has one draft at most
  pub drafts : (who : ℕ) (t : Tuid) (g : Grant) (d : Draft) → grant_of s who t ≡ Some g → g.draft ≡ Some d → draft_at s.grants g.id ≡ Some d.object
  pub no_other : (who : ℕ) (t : Tuid) (g : Grant) → grant_of s who t ≡ Some g → g.draft ≡ None → draft_at s.grants g.id ≡ None
  pub fewer : (p : Grant → Bool) (i : Puid) (o : Object) → draft_at (filter p s.grants) i ≡ Some o → draft_at s.grants i ≡ Some o
  pub put : (who : ℕ) (t : Tuid) (g : Grant) (old d : Draft) (i : Puid) → grant_of s who t ≡ Some g → g.draft ≡ Some old
      → draft_at (with_draft who t d s.grants) i ≡ cond (same_puid i g.id) (Some d.object) (draft_at s.grants i)

-- what stands in a leaf of a draft has its leaf below the index's own places
pub draft_inside : (s : State) → IsWell s → (id x : Puid) (leaf : ℕ) → in_leaf (draft_at s.grants id) leaf x ≡ true → leaf < own_part
draft_inside s well id x leaf h = at (draft_at s.grants id) refl h
  where
    at : (o : Option Object) → draft_at s.grants id ≡ o → in_leaf o leaf x ≡ true → leaf < own_part
    at None is h = cc
    at (Some (objects.File f)) is h = cc
    at (Some (objects.Index d)) is h = well.inside id d leaf is (well.draft_held id x d leaf is h)

-- where something is found there is an index
pub found_kind : (s : State) → IsWell s → (i : Puid) (place : ℕ) (x : Puid) → is_found s (Some i) place x ≡ true → kind_at s.graph i ≡ Some kinds.Index
found_kind s well i place x h = elim (stands_at (draft_at s.grants i) (object_at s.graph i) place x h) [
  | InDraft less at none ↦ of_draft (draft_at s.grants i) refl (leaf_kind (draft_at s.grants i) place x at)
  | InOwn leaf same at ↦ leaf_kind (object_at s.graph i) leaf x at
]
  where
    of_draft : (o : Option Object) → draft_at s.grants i ≡ o → kind_standing o ≡ Some kinds.Index → kind_at s.graph i ≡ Some kinds.Index
    of_draft None is h = cc
    of_draft (Some o) is h = well.kinds i o is ∙ h

-- a slot that is filled has its leaf held
filled_held : (i : Index) (x : Puid) (leaf at : ℕ) (slots : List (Option Puid)) → 64 * leaf ≤ at → at + length slots ≤ 64 * leaf + 64 → each_from (slot_may_stand i) at slots ≡ true
    → is_among x (filter_map (λ slot. slot) slots) ≡ true → has_number leaf i.held ≡ true
filled_held i x leaf at [] low high each h = cc
filled_held i x leaf at (None ∷ slots) low high each h = filled_held i x leaf (at + 1) slots (omega (arith, low)) (omega (arith, high)) (and_parts true (each_from (slot_may_stand i) (at + 1) slots) each).1 h
filled_held i x leaf at (Some y ∷ slots) low high each h =
    let two = and_parts (has_number (at / 64) i.held) (each_from (slot_may_stand i) (at + 1) slots) each in
    let is : at / 64 ≡ leaf = omega (arith, low, high) in
    subst (λ (n : ℕ). has_number n i.held ≡ true) is two.0

leaf_is_held : (i : Index) (x : Puid) (leaf : ℕ) → is_object (objects.Index i) ≡ true → is_among x (leaf_ids i leaf) ≡ true → has_number leaf i.held ≡ true
leaf_is_held i x leaf whole h =
    let each = (and_parts _ (each_from (slot_may_stand i) 0 i.slots) whole).1 in
    filled_held i x leaf (64 * leaf) (take 64 (drop (64 * leaf) i.slots)) (omega arith) (omega (arith, length-take 64 (drop (64 * leaf) i.slots)))
    (each_take (slot_may_stand i) (64 * leaf) 64 (drop (64 * leaf) i.slots) (each_drop (slot_may_stand i) 0 (64 * leaf) (64 * leaf) i.slots (omega arith) each)) h

leaves_rise : (i : Index) → is_object (objects.Index i) ≡ true → numbers_rise i.held ≡ true
leaves_rise i whole = (and_parts _ (numbers_rise i.held) (and_parts _ _ (and_parts _ (each_from (slot_may_stand i) 0 i.slots) whole).0).0).1

leaves_inside : (i : Index) (leaf : ℕ) → is_object (objects.Index i) ≡ true → has_number leaf i.held ≡ true → leaf < own_part
leaves_inside i leaf whole h =
    let parts = and_parts _ (each_from (slot_may_stand i) 0 i.slots) whole in
    let lower = and_parts _ (list_all (λ l. nat_lt (l * 64) (length i.slots)) i.held) parts.0 in
    let few = (and_parts _ (nat_le (length i.slots) most_slots) (and_parts _ (numbers_rise i.held) lower.0).0).1 in
    let less : leaf * 64 < length i.slots = ltb-true (leaf * 64) (length i.slots) (each leaf i.held lower.1 h) in
    let most : length i.slots ≤ most_slots = leb-true (length i.slots) most_slots few in
    omega arith
  where
    each : (leaf : ℕ) (held : List ℕ) → list_all (λ l. nat_lt (l * 64) (length i.slots)) held ≡ true → has_number leaf held ≡ true → nat_lt (leaf * 64) (length i.slots) ≡ true
    each leaf [] all at = cc
    each leaf (n ∷ ns) all at =
        let two = and_parts (nat_lt (n * 64) (length i.slots)) (list_all (λ l. nat_lt (l * 64) (length i.slots)) ns) all in
        elim (or_cases (n == leaf) (has_number leaf ns) at) [
          | inl here ↦ subst (λ (k : ℕ). nat_lt (k * 64) (length i.slots) ≡ true) (eqb-true n leaf here) two.0
          | inr later ↦ each leaf ns two.1 later
        ]

kinds_same : (k l : FileKind) → same_kind k l ≡ true → l ≡ k
kinds_same file_kinds.Normal file_kinds.Normal h = refl
kinds_same file_kinds.Normal file_kinds.Special h = cc
kinds_same file_kinds.Special file_kinds.Normal h = cc
kinds_same file_kinds.Special file_kinds.Special h = refl

draft_kind : (o d : Object) → is_draft_of o d ≡ true → kind_standing (Some o) ≡ kind_standing (Some d)
draft_kind (objects.File f) (objects.File d) h = ap (λ k. Some (file_kind k)) (kinds_same d.kind f.kind (and_parts (same_kind d.kind f.kind) _ (and_parts _ (is_object (objects.File d)) h).0).0)
draft_kind (objects.File f) (objects.Index d) h = cc
draft_kind (objects.Index i) (objects.File d) h = cc
draft_kind (objects.Index i) (objects.Index d) h = refl

draft_whole : (o : Object) (d : Index) → is_draft_of o (objects.Index d) ≡ true → is_object (objects.Index d) ≡ true
draft_whole (objects.File f) d h = cc
draft_whole (objects.Index i) d h = (and_parts _ (is_object (objects.Index d)) h).1

draft_holds : (i d : Index) → is_draft_of (objects.Index i) (objects.Index d) ≡ true → (leaf : ℕ) → has_number leaf i.held ≡ true → has_number leaf d.held ≡ true
draft_holds i d h leaf at = each i.held (and_parts (length d.slots == length i.slots) (list_all (λ l. has_number l d.held) i.held) (and_parts _ (is_object (objects.Index d)) h).0).1 at
  where
    each : (ns : List ℕ) → list_all (λ l. has_number l d.held) ns ≡ true → has_number leaf ns ≡ true → has_number leaf d.held ≡ true
    each [] all at = cc
    each (n ∷ ns) all at =
        let two = and_parts (has_number n d.held) (list_all (λ l. has_number l d.held) ns) all in
        elim (or_cases (n == leaf) (has_number leaf ns) at) [
          | inl here ↦ subst (λ (k : ℕ). has_number k d.held ≡ true) (eqb-true n leaf here) two.0
          | inr later ↦ each ns two.1 later
        ]

open_there : (g : Graph) (gs : List Grant) → list_all (is_grant_in g) gs ≡ true → (x : Puid) → is_among x (map (λ y. y.id) gs) ≡ true → is_there g x ≡ true
open_there g [] all x h = cc
open_there g (y ∷ ys) all x h =
    let two = and_parts (is_grant_in g y) (list_all (is_grant_in g) ys) all in
    elim (or_cases (same_puid x y.id) _ h) [
      | inl here ↦ subst (λ (z : Puid). is_there g z ≡ true) (sym (same_puid_is x y.id here)) (some (object_at g y.id) y.draft two.0)
      | inr later ↦ open_there g ys two.1 x later
    ]
  where
    some : (o : Option Object) (d : Option Draft) → is_open_so o d ≡ true → is_some o ≡ true
    some None d h = cc
    some (Some o) d h = refl

pub well : (s : State) → IsState s → IsWell s
well s is = record {
  ordered = (closed_graph s.graph is.graph).ordered;
  alone = λ x y. one_block s.graph x y is.graph;
  closed = found;
  held = λ id x i leaf at h. leaf_is_held i x leaf (object_whole s.graph is.graph id (objects.Index i) at) h;
  rising = λ id i at. leaves_rise i (object_whole s.graph is.graph id (objects.Index i) at);
  draft_held = λ id x d leaf at h. leaf_is_held d x leaf (whole id d at) h;
  draft_rising = λ id d at. leaves_rise d (whole id d at);
  inside = λ id d leaf at h. leaves_inside d leaf (whole id d at) h;
  holds = λ id i d at drafted leaf h.
      let own = of_object id (objects.Index d) drafted in
      let same : own.0 ≡ objects.Index i = same_Some own.0 (objects.Index i) (sym own.1 ∙ at) in
      draft_holds i d (subst (λ (o : Object). is_draft_of o (objects.Index d) ≡ true) same own.2) leaf h;
  kinds = λ id o at. let own = of_object id o at in ap kind_standing own.1 ∙ draft_kind own.0 o own.2;
  pairs = λ i x h. pair_of_draft s.grants i x (granted_alone s.grants is.alone) h;
  drafts = λ who t g d found has. its_draft (is_grant who t) g s.grants d (granted_alone s.grants is.alone) found has;
  no_other = λ who t g found none. no_other (is_grant who t) g s.grants (granted_alone s.grants is.alone) found none;
  fewer = λ p i o h. fewer_drafts p s.grants i o (granted_alone s.grants is.alone) h;
  put = λ who t g old d i found has. draft_put who t s.grants g old d i (granted_alone s.grants is.alone) is.rising found has;
}
  where
    of_object : (id : Puid) (o : Object) → draft_at s.grants id ≡ Some o → (own : Object) × (object_at s.graph id ≡ Some own) × (is_draft_of own o ≡ true)
    of_object id o at = draft_of_object s.graph s.grants id o is.grants at

    whole : (id : Puid) (d : Index) → draft_at s.grants id ≡ Some (objects.Index d) → is_object (objects.Index d) ≡ true
    whole id d at = let own = of_object id (objects.Index d) at in draft_whole own.0 d own.2

    found : (from : Option Puid) (place : ℕ) (x : Puid) → is_found s from place x ≡ true → is_there s.graph x ≡ true
    found (Some i) place x h = elim (stands_at (draft_at s.grants i) (object_at s.graph i) place x h) [
      | InDraft less at none ↦ each_pair (λ _. is_there s.graph) (draft_pairs s.grants) i x is.closed (draft_pair s.grants i x (leaf_refers (draft_at s.grants i) place x at))
      | InOwn leaf same at ↦ graph_refers s.graph is.graph i x (leaf_refers (object_at s.graph i) leaf x at)
    ]
    found None place x h = joined_within (is_there s.graph) (open_ids s) (s.graph.root ∷ []) (open_there s.graph s.grants is.grants) (within_one (is_there s.graph) s.graph.root (ap is_some (closed_graph s.graph is.graph).root.1)) x h
