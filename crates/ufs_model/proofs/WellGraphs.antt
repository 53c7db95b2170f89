-- What keeps a graph well-formed: another object, a new one, or some that are taken.
use Rattle.std.proofs.Common.{◌≡◌, ◌≢◌, ℕ, List, [], ◌∷◌, length, refl, sym, ◌∙◌, ap, subst, arith, Bool, true, false, cond, not, ◌&&◌, ◌||◌, Some, None, Option, inl, inr}
use Rattle.ufs_model.proofs.Words.{Equal, Graph, Greater, Index, IsClosedGraph, IsGraph, Less, Object, Puid, and_from, and_parts, blocks_differ, both_ways, eqb-true, filter, fresh_graph, graph_pairs, has_block, has_pair, ids_of, insert_entry, is_among, is_at, is_free_root, is_object, is_root_index, is_some, is_there, keys-set_value, keys_of, list_all, list_all-map, list_any, match_ordering, nat_tests, ne_eqb, new_index, not-true, object_at, or_cases, puid_cmp, referred, rises, same_puid, with_object, without, ◌==◌}
use Rattle.ufs_model.specs.declared.object.Object.TheVariants as objects
use Rattle.ufs_model.proofs.Tests.{all_filter}
use Rattle.ufs_model.proofs.Entries.{insert_entry-there}
use Rattle.ufs_model.proofs.Reached.{exact_puid, same_puid_is, same_puid_itself, each_among, each_pair, all_pairs}
use Rattle.ufs_model.proofs.Graphs.{found, object_at-with_object, object_at-without, is_there-ids, sorted_from_rises, keys_of-filter, rises-with_object, rises-without, refers, has_pair-refers}
use Rattle.ufs_model.proofs.Objects.{IsAlike}
use Rattle.ufs_model.proofs.RootBlocks.{has_block-there}

-- ---- the parts of a well-formed graph

pub record GraphParts (g : Graph) : Type 0 where
  pub ordered : rises (ids_of g) ≡ true
  pub blocks : blocks_differ (ids_of g) ≡ true
  pub root : is_root_index (object_at g g.root) ≡ true
  pub closed : list_all (λ e. is_there g e.1) (graph_pairs g) ≡ true
  pub objects : list_all (λ e. is_object e.1) g.objects ≡ true

pub graph_parts : (g : Graph) → IsGraph g → GraphParts g
graph_parts g h =
    let last = and_parts _ (list_all (λ e. is_object e.1) g.objects) h in
    let third = and_parts _ (list_all (λ e. is_there g e.1) (graph_pairs g)) last.0 in
    let second = and_parts _ (is_root_index (object_at g g.root)) third.0 in
    let first = and_parts (rises (ids_of g)) (blocks_differ (ids_of g)) second.0 in
    record { ordered = first.0; blocks = first.1; root = second.1; closed = third.1; objects = last.1 }

graph_whole : (g : Graph) → GraphParts g → IsGraph g
graph_whole g p = and_from _ _ (and_from _ _ (and_from _ _ (and_from _ _ p.ordered p.blocks) p.root) p.closed) p.objects

pub graph_closed : (g : Graph) → IsGraph g → (i x : Puid) → has_pair (graph_pairs g) i x ≡ true → is_there g x ≡ true
graph_closed g h i x pair = each_pair (λ _. is_there g) (graph_pairs g) i x (graph_parts g h).closed pair

pub graph_refers : (g : Graph) → IsGraph g → (i x : Puid) → refers (object_at g i) x ≡ true → is_there g x ≡ true
graph_refers g h i x r = graph_closed g h i x (has_pair-refers g (graph_parts g h).ordered i x ∙ r)

pub object_whole : (g : Graph) → IsGraph g → (x : Puid) (o : Object) → object_at g x ≡ Some o → is_object o ≡ true
object_whole g h x o at = each g.objects (graph_parts g h).objects at
  where
    each : (es : List (Puid × Object)) → list_all (λ e. is_object e.1) es ≡ true → found x es ≡ Some o → is_object o ≡ true
    each [] all is = cc
    each (e ∷ es) all is =
        let two = and_parts (is_object e.1) (list_all (λ d. is_object d.1) es) all in
        elim (same_puid x e.0) as (λ b. cond b (Some e.1) (found x es) ≡ Some o → is_object o ≡ true) [
          | true ↦ λ here. let same : e.1 ≡ o = cc in rw (← same) two.0
          | false ↦ λ later. each es two.1 later
        ] is

root_index : (o : Option Object) → is_root_index o ≡ true → (i : Index) × (o ≡ Some (objects.Index i)) × (length i.slots ≡ 64)
root_index (Some (objects.Index i)) h = (i, refl, eqb-true (length i.slots) 64 h)
root_index (Some (objects.File f)) h = cc
root_index None h = cc

pub closed_graph : (g : Graph) → IsGraph g → IsClosedGraph g
closed_graph g h = let parts = graph_parts g h in record { ordered = parts.ordered; root = root_index (object_at g g.root) parts.root; closed = graph_closed g h }

-- ---- blocks

no_block : (b : ℕ) (ids : List Puid) → list_any (λ id. id.block == b) ids ≡ false → list_all (λ id. not (id.block == b)) ids ≡ true
no_block b [] h = refl
no_block b (id ∷ ids) h = elim (id.block == b) as (λ t. (t || list_any (λ x. x.block == b) ids) ≡ false → (not t && list_all (λ x. not (x.block == b)) ids) ≡ true) [
  | true ↦ λ no. cc
  | false ↦ λ rest. no_block b ids rest
] h

record BlockParts (id : Puid) (ids : List Puid) : Type 0 where
  zero : not (id.block == 0) ≡ true
  other : list_all (λ x. not (x.block == id.block)) ids ≡ true
  rest : blocks_differ ids ≡ true

block_parts : (id : Puid) (ids : List Puid) → blocks_differ (id ∷ ids) ≡ true → BlockParts id ids
block_parts id ids h =
    let last = and_parts (not (id.block == 0) && list_all (λ x. not (x.block == id.block)) ids) (blocks_differ ids) h in
    let first = and_parts (not (id.block == 0)) (list_all (λ x. not (x.block == id.block)) ids) last.0 in
    record { zero = first.0; other = first.1; rest = last.1 }

block_whole : (id : Puid) (ids : List Puid) → BlockParts id ids → blocks_differ (id ∷ ids) ≡ true
block_whole id ids p = and_from _ (blocks_differ ids) (and_from _ (list_all (λ x. not (x.block == id.block)) ids) p.zero p.other) p.rest

differ_filter : (M : Puid → Bool) (ids : List Puid) → blocks_differ ids ≡ true → blocks_differ (filter M ids) ≡ true
differ_filter M [] h = refl
differ_filter M (x ∷ ids) h =
    let p = block_parts x ids h in
    elim (M x) as (λ b. blocks_differ (cond b (x ∷ filter M ids) (filter M ids)) ≡ true) [
      | true ↦ block_whole x (filter M ids) (record { zero = p.zero; other = all_filter (λ y. not (y.block == x.block)) M ids p.other; rest = differ_filter M ids p.rest })
      | false ↦ differ_filter M ids p.rest
    ]

-- one more entry passes a test where it does and the others do
all_insert : (P : Puid × Object → Bool) (k : Puid) (o : Object) (es : List (Puid × Object)) → P (k, o) ≡ true → list_all P es ≡ true → list_all P (insert_entry puid_cmp es k o) ≡ true
all_insert P k o [] new all = and_from (P (k, o)) true new refl
all_insert P k o (e ∷ es) new all =
    let two = and_parts (P e) (list_all P es) all in
    elim (puid_cmp k e.0) as (λ r. puid_cmp k e.0 ≡ r → list_all P (match_ordering r ((k, o) ∷ e ∷ es) ((e.0, o) ∷ es) (e ∷ insert_entry puid_cmp es k o)) ≡ true) [
      | Less ↦ λ is. and_from (P (k, o)) (list_all P (e ∷ es)) new all
      | Equal ↦ λ is. and_from (P (e.0, o)) (list_all P es) (subst (λ (j : Puid). P (j, o) ≡ true) (exact_puid k e.0 is) new) two.1
      | Greater ↦ λ is. and_from (P e) (list_all P (insert_entry puid_cmp es k o)) two.0 (all_insert P k o es new two.1)
    ] refl

keys_insert : (P : Puid → Bool) (k : Puid) (o : Object) (es : List (Puid × Object)) → P k ≡ true → list_all P (keys_of es) ≡ true → list_all P (keys_of (insert_entry puid_cmp es k o)) ≡ true
keys_insert P k o es new all =
    list_all-map P (λ (e : Puid × Object). e.0) (insert_entry puid_cmp es k o) ∙ all_insert (λ e. P e.0) k o es new (sym (list_all-map P (λ (e : Puid × Object). e.0) es) ∙ all)

differ_insert : (k : Puid) (o : Object) (es : List (Puid × Object)) → not (k.block == 0) ≡ true → has_block es k.block ≡ false → blocks_differ (keys_of es) ≡ true
    → blocks_differ (keys_of (insert_entry puid_cmp es k o)) ≡ true
differ_insert k o [] some free h = block_whole k [] (record { zero = some; other = refl; rest = refl })
differ_insert k o (e ∷ es) some free h =
    let p = block_parts e.0 (keys_of es) h in
    let none = and_parts (not (e.0.block == k.block)) (list_all (λ x. not (x.block == k.block)) (keys_of es)) (no_block k.block (keys_of (e ∷ es)) free) in
    elim (puid_cmp k e.0) as (λ r. blocks_differ (keys_of (match_ordering r ((k, o) ∷ e ∷ es) ((e.0, o) ∷ es) (e ∷ insert_entry puid_cmp es k o))) ≡ true) [
      | Less ↦ block_whole k (keys_of (e ∷ es)) (record { zero = some; other = no_block k.block (keys_of (e ∷ es)) free; rest = h })
      | Equal ↦ h
      | Greater ↦
          let apart : not (k.block == e.0.block) ≡ true = let h = none.0 in grind (arith, nat_tests) in
          block_whole e.0 (keys_of (insert_entry puid_cmp es k o)) (record {
            zero = p.zero;
            other = keys_insert (λ x. not (x.block == e.0.block)) k o es apart p.other;
            rest = differ_insert k o es some (has_block_rest e es k.block free) p.rest;
          })
    ]
  where
    has_block_rest : (e : Puid × Object) (es : List (Puid × Object)) (b : ℕ) → has_block (e ∷ es) b ≡ false → has_block es b ≡ false
    has_block_rest e es b h = elim (e.0.block == b) as (λ t. (t || has_block es b) ≡ false → has_block es b ≡ false) [ true ↦ λ no. cc | false ↦ λ rest. rest ] h

-- two objects with one root block are one
pub one_block : (g : Graph) (a b : Puid) → IsGraph g → is_there g a ≡ true → is_there g b ≡ true → a.block ≡ b.block → a ≡ b
one_block g a b h here there same = each (ids_of g) (graph_parts g h).blocks (sym (is_there-ids g a) ∙ here) (sym (is_there-ids g b) ∙ there)
  where
    apart : {A : Type 0} (x y : Puid) → not (x.block == y.block) ≡ true → x.block ≡ y.block → A
    apart x y other is = absurd (both_ways (x.block == y.block) (not-true (x.block == y.block) other) (grind (arith, nat_tests)))

    each : (ids : List Puid) → blocks_differ ids ≡ true → is_among a ids ≡ true → is_among b ids ≡ true → a ≡ b
    each [] differ in_a in_b = cc
    each (x ∷ ids) differ in_a in_b =
        let p = block_parts x ids differ in
        elim (or_cases (same_puid a x) (is_among a ids) in_a) [
          | inl first ↦ elim (or_cases (same_puid b x) (is_among b ids) in_b) [
            | inl second ↦ same_puid_is a x first ∙ sym (same_puid_is b x second)
            | inr later ↦ apart b x (each_among (λ y. not (y.block == x.block)) b ids p.other later) (sym same ∙ ap (λ (z : Puid). z.block) (same_puid_is a x first))
          ]
          | inr later ↦ elim (or_cases (same_puid b x) (is_among b ids) in_b) [
            | inl second ↦ apart a x (each_among (λ y. not (y.block == x.block)) a ids p.other later) (same ∙ ap (λ (z : Puid). z.block) (same_puid_is b x second))
            | inr both ↦ each ids p.rest later both
          ]
        ]

pub block_not_zero : (g : Graph) (a : Puid) → IsGraph g → is_there g a ≡ true → a.block ≢ 0
block_not_zero g a h here zero = each (ids_of g) (graph_parts g h).blocks (sym (is_there-ids g a) ∙ here)
  where
    each : (ids : List Puid) → blocks_differ ids ≡ true → is_among a ids ≡ true → ⊥
    each [] differ in_a = cc
    each (x ∷ ids) differ in_a =
        let p = block_parts x ids differ in
        elim (or_cases (same_puid a x) (is_among a ids) in_a) [
          | inl first ↦ let is : a ≡ x = same_puid_is a x first in let some : not (a.block == 0) ≡ true = rw is p.zero in both_ways (a.block == 0) (not-true (a.block == 0) some) (grind (arith, nat_tests))
          | inr later ↦ each ids p.rest later
        ]

-- ---- an object more, or another in its place

pub still_there : (g : Graph) (k : Puid) (o : Object) (x : Puid) → is_there g x ≡ true → is_there (with_object g k o) x ≡ true
still_there g k o x h =
    ap is_some (object_at-with_object g k o x) ∙ elim (same_puid x k) as (λ b. is_some (cond b (Some o) (object_at g x)) ≡ true) [ true ↦ refl | false ↦ h ]

put_keeps : (g : Graph) (k : Puid) (o : Object) → IsGraph g → is_object o ≡ true → ((x : Puid) → is_among x (referred o) ≡ true → is_there (with_object g k o) x ≡ true)
    → blocks_differ (ids_of (with_object g k o)) ≡ true → is_root_index (object_at (with_object g k o) g.root) ≡ true → IsGraph (with_object g k o)
put_keeps g k o h whole refer blocks root = graph_whole (with_object g k o) (record {
  ordered = up;
  blocks = blocks;
  root = root;
  closed = all_pairs (λ _. is_there (with_object g k o)) (graph_pairs (with_object g k o)) (λ i x pair. there i x (sym (has_pair-refers (with_object g k o) up i x) ∙ pair));
  objects = all_insert (λ e. is_object e.1) k o g.objects whole (graph_parts g h).objects;
})
  where
    up : rises (ids_of (with_object g k o)) ≡ true
    up = rises-with_object g k o (graph_parts g h).ordered

    there : (i x : Puid) → refers (object_at (with_object g k o) i) x ≡ true → is_there (with_object g k o) x ≡ true
    there i x r = elim (same_puid i k) as (λ b. refers (cond b (Some o) (object_at g i)) x ≡ true → is_there (with_object g k o) x ≡ true) [
      | true ↦ λ new. refer x new
      | false ↦ λ old. still_there g k o x (graph_refers g h i x old)
    ] (sym (ap (λ at. refers at x) (object_at-with_object g k o i)) ∙ r)

alike_root : (old new : Object) → IsAlike old new → is_root_index (Some old) ≡ true → is_root_index (Some new) ≡ true
alike_root (objects.Index i) (objects.Index j) alike h = ap (λ n. n == 64) alike ∙ h
alike_root (objects.Index i) (objects.File f) alike h = elim alike [ ]
alike_root (objects.File f) new alike h = cc

ids_kept : (g : Graph) (k : Puid) (o old : Object) → rises (ids_of g) ≡ true → object_at g k ≡ Some old → ids_of (with_object g k o) ≡ ids_of g
ids_kept g k o old up at = ap keys_of (insert_entry-there k g.objects old o (sorted_from_rises (ids_of g) up) at) ∙ keys-set_value (is_at (puid_cmp k)) g.objects o

module _ (g : Graph) (k : Puid) (o : Object) (h : IsGraph g) (whole : is_object o ≡ true) where
  -- one of the same kind in its place
  pub replaced_keeps : (old : Object) → object_at g k ≡ Some old → IsAlike old o → ((x : Puid) → is_among x (referred o) ≡ true → is_there g x ≡ true) → IsGraph (with_object g k o)
  replaced_keeps old at alike refer =
      put_keeps g k o h whole (λ x r. still_there g k o x (refer x r)) (ap blocks_differ (ids_kept g k o old parts.ordered at) ∙ parts.blocks)
      (ap is_root_index (object_at-with_object g k o g.root) ∙ elim (same_puid g.root k) as (λ b. same_puid g.root k ≡ b → is_root_index (cond b (Some o) (object_at g g.root)) ≡ true) [
        | true ↦ λ is. alike_root old o alike (sym (ap is_root_index (ap (object_at g) (same_puid_is g.root k is) ∙ at)) ∙ parts.root)
        | false ↦ λ is. parts.root
      ] refl)
    where
      parts : GraphParts g
      parts = graph_parts g h

  -- a new one, with a root block of its own
  pub added_keeps : is_free_root g k.block ≡ true → ((x : Puid) → is_among x (referred o) ≡ true → is_there g x ≡ true) → IsGraph (with_object g k o)
  added_keeps free refer =
      let two = and_parts (not (k.block == 0)) (not (has_block g.objects k.block)) free in
      put_keeps g k o h whole (λ x r. still_there g k o x (refer x r)) (differ_insert k o g.objects two.0 (not-true (has_block g.objects k.block) two.1) parts.blocks)
      (ap is_root_index (object_at-with_object g k o g.root) ∙ elim (same_puid g.root k) as (λ b. same_puid g.root k ≡ b → is_root_index (cond b (Some o) (object_at g g.root)) ≡ true) [
        | true ↦ λ is. absurd (none (not-true (has_block g.objects k.block) two.1) is)
        | false ↦ λ is. parts.root
      ] refl)
    where
      parts : GraphParts g
      parts = graph_parts g h

      none : has_block g.objects k.block ≡ false → same_puid g.root k ≡ true → ⊥
      none free is =
          let root = root_index (object_at g g.root) parts.root in
          both_ways (has_block g.objects k.block) free (has_block-there k g.objects (objects.Index root.0) (rw (← same_puid_is g.root k is) root.1))

-- ---- some that are taken

pub taken_keeps : (g : Graph) (ids : List Puid) → IsGraph g → is_among g.root ids ≡ false → ((i x : Puid) → has_pair (graph_pairs g) i x ≡ true → is_among i ids ≡ false → is_among x ids ≡ false)
    → IsGraph (without g ids)
taken_keeps g ids h root closed = graph_whole (without g ids) (record {
  ordered = up;
  blocks = ap blocks_differ (keys_of-filter (λ k. not (is_among k ids)) g.objects) ∙ differ_filter (λ k. not (is_among k ids)) (ids_of g) parts.blocks;
  root = ap is_root_index (object_at-without g ids g.root ∙ ap (λ b. cond (not b) (object_at g g.root) None) root) ∙ parts.root;
  closed = all_pairs (λ _. is_there (without g ids)) (graph_pairs (without g ids)) (λ i x pair. there i x (sym (has_pair-refers (without g ids) up i x) ∙ pair));
  objects = all_filter (λ e. is_object e.1) (λ e. not (is_among e.0 ids)) g.objects parts.objects;
})
  where
    parts : GraphParts g
    parts = graph_parts g h

    up : rises (ids_of (without g ids)) ≡ true
    up = rises-without g ids parts.ordered

    there : (i x : Puid) → refers (object_at (without g ids) i) x ≡ true → is_there (without g ids) x ≡ true
    there i x r = elim (is_among i ids) as (λ b. is_among i ids ≡ b → refers (cond (not b) (object_at g i) None) x ≡ true → is_there (without g ids) x ≡ true) [
      | true ↦ λ gone no_pair. cc
      | false ↦ λ stays pair.
          let stays_too = closed i x (has_pair-refers g parts.ordered i x ∙ pair) stays in
          ap is_some (object_at-without g ids x ∙ ap (λ b. cond (not b) (object_at g x) None) stays_too) ∙ graph_refers g h i x pair
    ] refl (sym (ap (λ at. refers at x) (object_at-without g ids i)) ∙ r)

-- ---- one root index of empty slots

pub fresh_whole : (root : Puid) → root.block ≢ 0 → IsGraph (fresh_graph root)
fresh_whole root some = graph_whole (fresh_graph root) (record {
  ordered = refl;
  blocks = block_whole root [] (record { zero = ap not (ne_eqb root.block 0 some); other = refl; rest = refl });
  root = ap (λ b. is_root_index (cond b (Some (objects.Index (new_index 64))) None)) (same_puid_itself root);
  closed = refl;
  objects = refl;
})
