-- How many blocks are taken once a draft or an object has another in its place.
use Rattle.std.proofs.Common.{◌≡◌, ℕ, ◌+◌, List, [], ◌∷◌, true, Option, Some, None, refl, sym, ◌∙◌, ap, arith}
use Rattle.std.proofs.lemmas.Map.{keys-set_value}
use Rattle.std.specs.BTreeMap.{insert_entry, is_at}
use Rattle.std.specs.Ordering.{match_ordering}
use Rattle.ufs_model.proofs.Entries.{insert_entry-there}
use Rattle.ufs_model.proofs.Graphs.{sorted_from_rises}
use Rattle.vol_owners.proofs.Words.{Drafts, Equal, Graph, Greater, Less, Object, Opened, Puid, blocks_taken, draft_blocks_if, graph_blocks, ids_of, is_there-ids, keys_of, object_at, puid_cmp, rises, sum_by, sum_by-cons, there_from, with_draft_if, with_object}
use Rattle.vol_owners.proofs.Drafts.{with_here, with_others}
use Rattle.vol_owners.proofs.Keys.{sum_but_one}

pub taken_with : (g : Graph) (ds : Drafts) (id : Puid) (o : Object) (d : Option Opened) → rises (ids_of g) ≡ true → object_at g id ≡ Some o
    → blocks_taken g (with_draft_if id d ds) + draft_blocks_if (ds id) ≡ blocks_taken g ds + draft_blocks_if d
taken_with g ds id o d up at =
    let es : Drafts = with_draft_if id d ds in
    let sums = sum_but_one (λ x. draft_blocks_if (es x)) (λ x. draft_blocks_if (ds x)) id (λ x other. ap draft_blocks_if (with_others id d ds x other)) (ids_of g) up (sym (is_there-ids g id) ∙ there_from g id o at) in
    omega (arith, sums, ap draft_blocks_if (with_here id d ds))

-- an object in the place of one
pub taken_put : (g : Graph) (ds : Drafts) (id : Puid) (was o : Object) → rises (ids_of g) ≡ true → object_at g id ≡ Some was → blocks_taken (with_object g id o) ds + graph_blocks g ≡ blocks_taken g ds + graph_blocks (with_object g id o)
taken_put g ds id was o up at =
    let same = ap keys_of (insert_entry-there id g.objects was o (sorted_from_rises (ids_of g) up) at) ∙ keys-set_value (is_at (puid_cmp id)) g.objects o in
    omega (arith, ap (λ (ids : List Puid). sum_by (λ x. draft_blocks_if (ds x)) ids) same)

-- one that has no draft
pub taken_more : (g : Graph) (ds : Drafts) (id : Puid) (o : Object) → ds id ≡ None → blocks_taken (with_object g id o) ds + graph_blocks g ≡ blocks_taken g ds + graph_blocks (with_object g id o)
taken_more g ds id o none = omega (arith, at g.objects)
  where
    f : Puid → ℕ
    f x = draft_blocks_if (ds x)

    at : (es : List (Puid × Object)) → sum_by f (keys_of (insert_entry puid_cmp es id o)) ≡ sum_by f (keys_of es)
    at [] = omega (arith, sum_by-cons f id [], ap draft_blocks_if none)
    at (e ∷ es) = elim (puid_cmp id e.0) as (λ r. sum_by f (keys_of (match_ordering r ((id, o) ∷ e ∷ es) ((e.0, o) ∷ es) (e ∷ insert_entry puid_cmp es id o))) ≡ sum_by f (keys_of (e ∷ es))) [
      | Less ↦ omega (arith, sum_by-cons f id (keys_of (e ∷ es)), ap draft_blocks_if none)
      | Equal ↦ refl
      | Greater ↦ omega (arith, sum_by-cons f e.0 (keys_of (insert_entry puid_cmp es id o)), sum_by-cons f e.0 (keys_of es), at es)
    ]
