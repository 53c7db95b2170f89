-- How many blocks a slot of the draft of an index takes: as the flags have it, and as the model does.
use Rattle.std.proofs.Common.{◌≡◌, ℕ, ◌+◌, ◌*◌, ◌/◌, ◌%◌, ◌<◌, ◌≤◌, Bool, true, false, cond, not, List, [], ◌∷◌, length, None, refl, sym, ◌∙◌, ap, arith, inl, inr, if◌then◌else◌}
use Rattle.special_files.proofs.Words.{Drafting, Fill, Ghosts, Kept, DraftView, cases_Bool, first_level, has_number, is_fresh_leaf, is_fresh_node, lacking, draft_takes, missing, next_levels, one_unless, opened_as, written_anew, leaf_limit, leaf_pointers}
use Rattle.special_files.proofs.Fresh.{node_of_fresh}
use Rattle.special_files.proofs.Marks.{first_is, next_is}
use Rattle.special_files.proofs.write.Needs.{has_is}
use Rattle.special_files.proofs.PutStore.{flags_of}
use Rattle.special_files.proofs.View.{draft_of}

one_lacks : (n : ℕ) (ns : List ℕ) → length (lacking (n ∷ []) ns) ≡ one_unless (has_number n ns)
one_lacks n ns = by (has_number n ns)
  where
    by : (b : Bool) → length (cond (not b) (n ∷ []) []) ≡ one_unless b
    by true = refl
    by false = refl

-- a leaf that is fresh stands below a node that is
pub slot_need_is : {D : Type 0} {g : Ghosts D} {d0 : D} {k0 : Kept} {was : Drafting} (v : DraftView g d0 k0 was) (slot : ℕ) → 8 * slot + 8 ≤ was.root.size
    → draft_takes was (slot / 64) ≡ missing (written_anew (Fill slot None) v.draft.object v.draft.fresh) v.draft.fresh
slot_need_is {g = g} {d0} {was = was} v slot inside = elim (cases_Bool (is_fresh_leaf was (slot / 64))) [
  | inl fresh ↦ omega (arith, one, two, ap one_unless fresh, ap one_unless (node_fresh fresh), ap takes fresh)
  | inr stale ↦ omega (arith, one, two, ap one_unless stale, ap takes stale)
]
  where
    takes : Bool → ℕ
    takes b = if b then 0 else 1 + one_unless (is_fresh_node was (slot / 64 / leaf_pointers.count))

    few : slot / 64 < leaf_limit
    few = omega (arith, inside, (draft_of v).tree.spelled.good.1.size.limit)

    one : length (lacking (slot / 64 ∷ []) (first_level v.draft.fresh)) ≡ one_unless (is_fresh_leaf was (slot / 64))
    one = one_lacks (slot / 64) (first_level v.draft.fresh)
        ∙ ap one_unless (ap (has_number (slot / 64)) (first_is v.draft.fresh ∙ v.opened.fresh 0) ∙ has_is was.leaves (slot / 64))

    two : length (lacking (slot / 64 / leaf_pointers.count ∷ []) (first_level (next_levels v.draft.fresh))) ≡ one_unless (is_fresh_node was (slot / 64 / leaf_pointers.count))
    two = one_lacks (slot / 64 / leaf_pointers.count) (first_level (next_levels v.draft.fresh))
        ∙ ap one_unless (ap (has_number (slot / 64 / leaf_pointers.count)) (first_is (next_levels v.draft.fresh) ∙ next_is v.draft.fresh 0 ∙ v.opened.fresh 1) ∙ has_is was.nodes (slot / 64 / leaf_pointers.count))

    node_fresh : is_fresh_leaf was (slot / 64) ≡ true → is_fresh_node was (slot / 64 / leaf_pointers.count) ≡ true
    node_fresh fresh =
        let tell = flags_of (g.content d0) v.ds v.id was v.draft v.opened (draft_of v) in
        tell.node (slot / 64 / leaf_pointers.count) (omega (arith, few))
        ∙ node_of_fresh (g.content d0) v.graph v.store.account.holds v.id v.object v.at (v.store.account.objects v.id v.object v.at) (opened_as was v.draft) (draft_of v) (slot / 64 / leaf_pointers.count) (slot / 64 % leaf_pointers.count) (sym (tell.leaf (slot / 64) few) ∙ fresh)
