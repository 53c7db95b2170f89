-- Each scan raises the number of leaves read, no other step lowers it, and it is at most the number of blocks.
use Rattle.std.proofs.Common.{◌≡◌, ◌⊎◌, inl, inr, ℕ, ◌+◌, ◌<◌, ◌≤◌, List, [], ◌∷◌, ◌++◌, ◌-◌, ◌^◌, length, length-append, count_by, refl, sym, ◌∙◌, ap, subst, arith, Bool, true, false, cond, Option, Some, None}
use Rattle.marking.proofs.Words.{AreOnce, Colours, Graph, Grey, Index, IsDraftIndex, IsGrey, IsPaced, Kind, Object, Puid, Rescue, State, all_shaded, blocks_of, count_after, added_with, cursor_of, draft_at, draft_step, draft_over, ended_from, first_grey, has_number, ids_of, is_among, is_at, is_index, is_live, is_some, is_there, is_there-ids, kind_among, lookup, moved, moved_at, moved_first, nat_lt, nat_tests, next_held, none_marked, object_at, or_cases, own_part, own_step, parents, puid_cmp, read_in, read_of, read_so_far, rescued, same_Some, same_puid, same_puid_is, same_puid_itself, scanned, shaded_as, shaded_in, step_of, sum_by, sum_by-cons, unread, unread_at, unread_of, with_cursor}
use Rattle.std.proofs.Common.{◌*◌}
use Rattle.std.specs.Prelude.{option_map}
use Rattle.std.proofs.lemmas.Bool.{ltb-true}
use Rattle.ufs_model.specs.declared.object.Object.TheVariants as objects
use Rattle.marking.proofs.Sums.{IsIn, number_in, sum_more, sum_raised, sum_lowered, count_all}
use Rattle.marking.specs.Pace.{drafted_leaves, reading_at}
use Rattle.marking.proofs.Shades.{coloured, colour_more}
use Rattle.marking.proofs.Steps.{find_on, first_is}
use Rattle.marking.proofs.UnreadSteps.{unread_later, unread_end, unread_past, unread_if_held, draft_lowers, draft_moves, unread_most}

-- ---- what is found is in the list

id_in : (x : Puid) (ids : List Puid) → is_among x ids ≡ true → IsIn x ids
id_in x [] h = cc
id_in x (y ∷ ys) h = elim (or_cases (same_puid x y) (is_among x ys) h) [ inl here ↦ inl (sym (same_puid_is x y here)) | inr later ↦ inr (id_in x ys later) ]

found_in : (k : Puid) (o : Object) (es : List (Puid × Object)) → lookup (is_at (puid_cmp k)) es ≡ Some o → IsIn (k, o) es
found_in k o [] h = cc
found_in k o (e ∷ es) h = elim (same_puid k e.0) as (λ t. same_puid k e.0 ≡ t → cond t (Some e.1) (lookup (is_at (puid_cmp k)) es) ≡ Some o → IsIn (k, o) (e ∷ es)) [
  | true ↦ λ is here. inl (λ j. (sym (same_puid_is k e.0 is) j, same_Some e.1 o here j))
  | false ↦ λ is later. inr (found_in k o es later)
] refl h

-- ---- counts of leaves

pub below_less : (a b : ℕ) → a ≤ b → (m : ℕ) → cond (nat_lt m a) 1 0 ≤ cond (nat_lt m b) 1 0
below_less a b le m = grind (arith, nat_tests)

below_raised : (a b leaf : ℕ) → a ≤ leaf → leaf < b → cond (nat_lt leaf a) 1 0 + 1 ≤ cond (nat_lt leaf b) 1 0
below_raised a b leaf on less = grind (arith, nat_tests)

at_most_one : (a m : ℕ) → cond (nat_lt m a) 1 0 ≤ 1
at_most_one a m = grind (arith, nat_tests)

below_most : (a : ℕ) (ns : List ℕ) → count_by (λ n. nat_lt (own_part + n) a) ns ≤ length ns
below_most a ns = omega (arith, sum_more (λ n. cond (nat_lt (own_part + n) a) 1 0) (λ n. 1) (λ n. at_most_one a (own_part + n)) ns, count_all ns)

-- ---- at most the blocks

read_few : (k : Option ℕ) (held : List ℕ) → read_of k held ≤ 1 + length held
read_few None held = omega arith
read_few (Some a) held = omega (arith, below_most a held)

entry_few : (c : Colours) (e : Puid × Object) → read_in c e ≤ blocks_of e.1
entry_few c (id, objects.File f) = omega arith
entry_few c (id, objects.Index i) =
    let all : 1 + length i.held ≤ blocks_of (objects.Index i) = omega (arith, sum_by-cons {X = List ℕ} length i.held (parents i.held ∷ [])) in
    elim (c.marked id.block) as (λ t. cond t (read_of (cursor_of c.grey id) i.held) 0 ≤ blocks_of (objects.Index i)) [ true ↦ omega (arith, all, read_few (cursor_of c.grey id) i.held) | false ↦ omega arith ]

pub read_at_most : (g : Graph) (c : Colours) → read_so_far g c ≤ sum_by (λ e. blocks_of e.1) g.objects
read_at_most g c = sum_more (read_in c) (λ e. blocks_of e.1) (entry_few c) g.objects

-- ---- shading leaves what was marked where it is

record Keeps (c d : Colours) : Type 0 where
  marks : (b : ℕ) → c.marked b ≡ true → d.marked b ≡ true
  cursors : (id : Puid) → c.marked id.block ≡ true → cursor_of d.grey id ≡ cursor_of c.grey id

keeps_itself : (c : Colours) → Keeps c c
keeps_itself c = record { marks = λ b h. h; cursors = λ id h. refl }

colour_keeps : (x : Puid) (kind : Kind) (c : Colours) → c.marked x.block ≡ false → Keeps c (coloured x kind c)
colour_keeps x kind c new = record {
  marks = (colour_more x kind c).marks;
  cursors = λ id m. elim (is_index kind) as (λ t. cursor_of (cond t (record { id = x; cursor = 0 } ∷ c.grey) c.grey) id ≡ cursor_of c.grey id) [
    | true ↦ elim (same_puid id x) as (λ t. same_puid id x ≡ t → cond t (Some 0) (cursor_of c.grey id) ≡ cursor_of c.grey id) [
      | true ↦ λ is. let same : c.marked x.block ≡ true = ap (λ (k : Puid). c.marked k.block) (sym (same_puid_is id x is)) ∙ m in cc
      | false ↦ λ is. refl
    ] refl
    | false ↦ refl
  ];
}

shade_keeps : (kind : Option Kind) (x : Puid) (c : Colours) → Keeps c (shaded_as kind x c)
shade_keeps None x c = keeps_itself c
shade_keeps (Some kind) x c = elim (c.marked x.block) as (λ t. c.marked x.block ≡ t → Keeps c (cond t c (coloured x kind c))) [ true ↦ λ is. keeps_itself c | false ↦ λ is. colour_keeps x kind c is ] refl

all_keep : (directory : List (Puid × Kind)) (ids : List Puid) (c : Colours) → Keeps c (all_shaded directory ids c)
all_keep directory [] c = keeps_itself c
all_keep directory (x ∷ xs) c =
    let one = shade_keeps (kind_among directory x) x c in
    let two = all_keep directory xs (shaded_in directory x c) in
    record { marks = λ b h. two.marks b (one.marks b h); cursors = λ id h. two.cursors id (one.marks id.block h) ∙ one.cursors id h }

kept_entry : (c d : Colours) → Keeps c d → (e : Puid × Object) → read_in c e ≤ read_in d e
kept_entry c d keeps (id, objects.File f) = omega arith
kept_entry c d keeps (id, objects.Index i) = elim (c.marked id.block) as (λ t. c.marked id.block ≡ t → cond t (read_of (cursor_of c.grey id) i.held) 0 ≤ read_in d (id, objects.Index i)) [
  | true ↦ λ m. rw (keeps.marks id.block m, keeps.cursors id m) (omega arith)
  | false ↦ λ m. omega arith
] refl

keeps_read : (g : Graph) (c d : Colours) → Keeps c d → read_so_far g c ≤ read_so_far g d
keeps_read g c d keeps = sum_more (read_in c) (read_in d) (kept_entry c d keeps) g.objects

rescued_keeps : (directory : List (Puid × Kind)) (r : Rescue) (c : Colours) → Keeps c (rescued directory r c)
rescued_keeps directory r c = elim (is_live r.index c) as (λ t. Keeps c (cond t (shaded_in directory r.id c) c)) [ true ↦ shade_keeps _ r.id c | false ↦ keeps_itself c ]

-- ---- a scan

no_cursor : (grey : List Grey) (id : Puid) → ¬ IsGrey grey id → cursor_of grey id ≡ None
no_cursor [] id h = refl
no_cursor (e ∷ es) id h = elim (same_puid id e.id) as (λ t. same_puid id e.id ≡ t → cond t (Some e.cursor) (cursor_of es id) ≡ None) [
  | true ↦ λ is. absurd (h (inl (sym (same_puid_is id e.id is))))
  | false ↦ λ is. no_cursor es id (λ grey. h (inr grey))
] refl

module _ (marked : ℕ → Bool) (e : Grey) (rest : List Grey) (once : AreOnce (e ∷ rest)) (is_marked : marked e.id.block ≡ true) (i : Index) where
  abbrev before : Colours
  before = record { marked = marked; grey = e ∷ rest }

  cursor_now : (next : Option ℕ) → cursor_of (moved_first next (e ∷ rest)) e.id ≡ next
  cursor_now None = no_cursor rest e.id once.0
  cursor_now (Some to) = rw (same_puid_itself e.id) refl

  cursor_else : (next : Option ℕ) (id : Puid) → same_puid id e.id ≡ false → cursor_of (moved_first next (e ∷ rest)) id ≡ cursor_of (e ∷ rest) id
  cursor_else None id other = rw other refl
  cursor_else (Some to) id other = rw other refl

  its_read : (next : Option ℕ) → read_in (moved next before) (e.id, objects.Index i) ≡ read_of next i.held
  its_read next = rw (is_marked, cursor_now next) refl

  was_read : read_in before (e.id, objects.Index i) ≡ read_of (Some e.cursor) i.held
  was_read = rw (is_marked, same_puid_itself e.id) refl

  each : (next : Option ℕ) → ((held : List ℕ) → read_of (Some e.cursor) held ≤ read_of next held) → (x : Puid × Object) → read_in before x ≤ read_in (moved next before) x
  each next le (id, objects.File f) = omega arith
  each next le (id, objects.Index j) = elim (same_puid id e.id) as (λ t. same_puid id e.id ≡ t → read_in before (id, objects.Index j) ≤ read_in (moved next before) (id, objects.Index j)) [
    | true ↦ λ is. rw (same_puid_is id e.id is, is_marked, cursor_now next, same_puid_itself e.id) (le j.held)
    | false ↦ λ is. rw (cursor_else next id is) (omega arith)
  ] refl

  move_raises : (g : Graph) → object_at g e.id ≡ Some (objects.Index i) → (next : Option ℕ) → ((held : List ℕ) → read_of (Some e.cursor) held ≤ read_of next held) → read_of (Some e.cursor) i.held + 1 ≤ read_of next i.held
      → read_so_far g before + 1 ≤ read_so_far g (moved next before)
  move_raises g at next le raised =
      sum_raised (read_in before) (read_in (moved next before)) (each next le) (e.id, objects.Index i) (omega (arith, its_read next, was_read, raised)) g.objects (found_in e.id (objects.Index i) g.objects at)

  -- it goes on from a place that comes later
  reads_on : (next : ℕ) → e.cursor ≤ next → (held : List ℕ) → read_of (Some e.cursor) held ≤ read_of (Some next) held
  reads_on next le = sum_more (λ n. cond (nat_lt (own_part + n) e.cursor) 1 0) (λ n. cond (nat_lt (own_part + n) next) 1 0) (λ n. below_less e.cursor next le (own_part + n))

  -- a leaf of the index itself was read, or none is left
  own_raises : (g : Graph) → object_at g e.id ≡ Some (objects.Index i) → (o : Option ℕ) → next_held (e.cursor - own_part) i ≡ o → read_so_far g before + 1 ≤ read_so_far g (moved (own_step i o).1 before)
  own_raises g at None none = move_raises g at None (λ held. read_few (Some e.cursor) held) (omega (arith, below_most e.cursor i.held))
  own_raises g at (Some leaf) next =
      let here = find_on (e.cursor - own_part) leaf i.held next in
      moves (next_held (leaf + 1) i) (omega (arith, here.0)) here.1
    where
      moves : (o : Option ℕ) → e.cursor ≤ own_part + leaf → has_number leaf i.held ≡ true → read_so_far g before + 1 ≤ read_so_far g (moved (cond (is_some o) (Some (own_part + (leaf + 1))) None) before)
      moves None on held = move_raises g at None (λ h. read_few (Some e.cursor) h) (omega (arith, below_most e.cursor i.held))
      moves (Some n) on held =
          move_raises g at (Some (own_part + (leaf + 1))) (reads_on (own_part + (leaf + 1)) (omega (arith, on)))
          (sum_raised (λ n. cond (nat_lt (own_part + n) e.cursor) 1 0) (λ n. cond (nat_lt (own_part + n) (own_part + (leaf + 1))) 1 0) (λ n. below_less e.cursor (own_part + (leaf + 1)) (omega (arith, on)) (own_part + n)) leaf
          (below_raised e.cursor (own_part + (leaf + 1)) (own_part + leaf) on (omega arith)) i.held (number_in leaf i.held held))

  -- no step lowers what was read of the indices themselves
  move_keeps : (g : Graph) (next : Option ℕ) → ((held : List ℕ) → read_of (Some e.cursor) held ≤ read_of next held) → read_so_far g before ≤ read_so_far g (moved next before)
  move_keeps g next le = sum_more (read_in before) (read_in (moved next before)) (each next le) g.objects

  -- ---- what is left of drafts

  reading_now : (next : Option ℕ) → reading_at (moved next before) e.id ≡ next
  reading_now next = rw is_marked (cursor_now next)

  reading_was : reading_at before e.id ≡ Some e.cursor
  reading_was = rw (is_marked, same_puid_itself e.id) refl

  reading_else : (next : Option ℕ) (id : Puid) → same_puid id e.id ≡ false → reading_at (moved next before) id ≡ reading_at before id
  reading_else next id other = ap (λ (o : Option ℕ). cond (marked id.block) o (Some 0)) (cursor_else next id other)

  move_lowers : (s : State) (next : Option ℕ) (n : ℕ) → is_there s.graph e.id ≡ true
      → ((b : Bool) (held : List ℕ) → unread_of b next held ≤ unread_of b (Some e.cursor) held)
      → unread_of (is_some (draft_at s.grants e.id)) next (drafted_leaves (draft_at s.grants e.id) (object_at s.graph e.id)) + n
      ≤ unread_of (is_some (draft_at s.grants e.id)) (Some e.cursor) (drafted_leaves (draft_at s.grants e.id) (object_at s.graph e.id)) → unread s (moved next before) + n ≤ unread s before
  move_lowers s next n there le low =
      sum_lowered (unread_at s (moved next before)) (unread_at s before) each_id e.id n (rw (reading_now next, reading_was) low) (ids_of s.graph) (id_in e.id (ids_of s.graph) (sym (is_there-ids s.graph e.id) ∙ there))
    where
      each_id : (id : Puid) → unread_at s (moved next before) id ≤ unread_at s before id
      each_id id = elim (same_puid id e.id) as (λ t. same_puid id e.id ≡ t → unread_at s (moved next before) id ≤ unread_at s before id) [
        | true ↦ λ is. rw (same_puid_is id e.id is, reading_now next, reading_was) (le (is_some (draft_at s.grants e.id)) (drafted_leaves (draft_at s.grants e.id) (object_at s.graph e.id)))
        | false ↦ λ is. rw (reading_else next id is) (omega arith)
      ] refl

-- ---- a scan of an index and its draft

-- each scan reads a leaf of an index itself or ends it, or leaves less of a draft
pub record Scanned (s : State) (c d : Colours) : Type 0 where
  pub reads : read_so_far s.graph c ≤ read_so_far s.graph d
  pub left : unread s d ≤ unread s c
  pub more : (read_so_far s.graph c + 1 ≤ read_so_far s.graph d) ⊎ (unread s d + 1 ≤ unread s c)

module _ (s : State) (marked : ℕ → Bool) (e : Grey) (rest : List Grey) (once : AreOnce (e ∷ rest)) (is_marked : marked e.id.block ≡ true) (i : Index) (at : object_at s.graph e.id ≡ Some (objects.Index i)) where
  own_scans : Scanned s (record { marked = marked; grey = e ∷ rest }) (moved (own_step i (next_held (e.cursor - own_part) i)).1 (record { marked = marked; grey = e ∷ rest }))
  own_scans = record { reads = omega (arith, raised); left = omega (arith, lowered); more = inl raised }
    where
      raised : read_so_far s.graph (record { marked = marked; grey = e ∷ rest }) + 1 ≤ read_so_far s.graph (moved (own_step i (next_held (e.cursor - own_part) i)).1 (record { marked = marked; grey = e ∷ rest }))
      raised = own_raises marked e rest once is_marked i s.graph at (next_held (e.cursor - own_part) i) refl

      step : (b : Bool) (held : List ℕ) → unread_of b (own_step i (next_held (e.cursor - own_part) i)).1 held ≤ unread_of b (Some e.cursor) held
      step b held = elim (next_held (e.cursor - own_part) i) as (λ o. unread_of b (own_step i o).1 held ≤ unread_of b (Some e.cursor) held) [ None ↦ omega arith | Some leaf ↦ unread_if_held i (leaf + 1) e.cursor (own_part + (leaf + 1)) (omega arith) b held ]

      lowered : unread s (moved (own_step i (next_held (e.cursor - own_part) i)).1 (record { marked = marked; grey = e ∷ rest })) + 0 ≤ unread s (record { marked = marked; grey = e ∷ rest })
      lowered = move_lowers marked e rest once is_marked i s (own_step i (next_held (e.cursor - own_part) i)).1 0 (ap is_some at) step
          (let less = step (is_some (draft_at s.grants e.id)) (drafted_leaves (draft_at s.grants e.id) (object_at s.graph e.id)) in omega (arith, less))

  draft_scans : (d : Index) → draft_at s.grants e.id ≡ Some (objects.Index d) → e.cursor < own_part
      → Scanned s (record { marked = marked; grey = e ∷ rest }) (moved (draft_step d i (next_held e.cursor d)).1 (record { marked = marked; grey = e ∷ rest }))
  draft_scans d is inside = record {
    reads = draft_moves d i e.cursor inside (λ o. read_so_far s.graph (record { marked = marked; grey = e ∷ rest }) ≤ read_so_far s.graph (moved o (record { marked = marked; grey = e ∷ rest })))
        (move_keeps marked e rest once is_marked i s.graph None (λ held. read_few (Some e.cursor) held))
        (λ b le. move_keeps marked e rest once is_marked i s.graph (Some b) (reads_on marked e rest once is_marked i b le));
    left = omega (arith, lowered);
    more = inr lowered;
  }
    where
      lowered : unread s (moved (draft_step d i (next_held e.cursor d)).1 (record { marked = marked; grey = e ∷ rest })) + 1 ≤ unread s (record { marked = marked; grey = e ∷ rest })
      lowered = move_lowers marked e rest once is_marked i s (draft_step d i (next_held e.cursor d)).1 1 (ap is_some at)
          (draft_moves d i e.cursor inside (λ o. (b : Bool) (held : List ℕ) → unread_of b o held ≤ unread_of b (Some e.cursor) held) (unread_end e.cursor) (λ b le. unread_later e.cursor b le))
          (rw is (draft_lowers d i e.cursor inside))

-- shading leaves both
keeps_unread : (s : State) (c d : Colours) → Keeps c d → unread s d ≤ unread s c
keeps_unread s c d keeps = sum_more (unread_at s d) (unread_at s c) each (ids_of s.graph)
  where
    each : (id : Puid) → unread_at s d id ≤ unread_at s c id
    each id = elim (c.marked id.block) as (λ t. c.marked id.block ≡ t → unread_at s d id ≤ unread_of (is_some (draft_at s.grants id)) (cond t (cursor_of c.grey id) (Some 0)) (drafted_leaves (draft_at s.grants id) (object_at s.graph id))) [
      | true ↦ λ m. rw (keeps.marks id.block m, keeps.cursors id m) (omega arith)
      | false ↦ λ m. unread_most (is_some (draft_at s.grants id)) (reading_at d id) (drafted_leaves (draft_at s.grants id) (object_at s.graph id))
    ] refl

then_shaded : (s : State) (c d : Colours) (directory : List (Puid × Kind)) (ids : List Puid) → Scanned s c d → Scanned s c (all_shaded directory ids d)
then_shaded s c d directory ids is =
    let keeps = all_keep directory ids d in
    let reads = keeps_read s.graph d (all_shaded directory ids d) keeps in
    let left = keeps_unread s d (all_shaded directory ids d) keeps in
    record { reads = omega (arith, is.reads, reads); left = omega (arith, is.left, left); more = elim is.more [ inl r ↦ inl (omega (arith, r, reads)) | inr l ↦ inr (omega (arith, l, left)) ] }

scan_at : (s : State) (marked : ℕ → Bool) (e : Grey) (rest : List Grey) → AreOnce (e ∷ rest) → marked e.id.block ≡ true → (i : Index) → object_at s.graph e.id ≡ Some (objects.Index i) → (draft : Option Index) → IsDraftIndex (draft_at s.grants e.id) draft
    → Scanned s (record { marked = marked; grey = e ∷ rest }) (moved (step_of draft i e.cursor).1 (record { marked = marked; grey = e ∷ rest }))
scan_at s marked e rest once m i at None none = own_scans s marked e rest once m i at
scan_at s marked e rest once m i at (Some d) is = elim (nat_lt e.cursor own_part) as (λ t. nat_lt e.cursor own_part ≡ t
    → Scanned s (record { marked = marked; grey = e ∷ rest }) (moved (cond t (draft_step d i (next_held e.cursor d)) (own_step i (next_held (e.cursor - own_part) i))).1 (record { marked = marked; grey = e ∷ rest }))) [
      | true ↦ λ less. draft_scans s marked e rest once m i at d is (ltb-true e.cursor own_part less)
      | false ↦ λ past. own_scans s marked e rest once m i at
    ] refl

pub scan_is : (s : State) (c : Colours) (e : Grey) (i : Index) (draft : Option Index) (directory : List (Puid × Kind)) → first_grey c ≡ Some e → AreOnce c.grey → c.marked e.id.block ≡ true → object_at s.graph e.id ≡ Some (objects.Index i)
    → IsDraftIndex (draft_at s.grants e.id) draft → Scanned s c (scanned directory draft i e.cursor c)
scan_is s c e i draft directory first once marked at is =
    let f = first_is c e first in
    subst (λ (grey : List Grey). Scanned s (record c { grey = grey }) (scanned directory draft i e.cursor (record c { grey = grey }))) (sym f.1)
    (then_shaded s _ _ directory (step_of draft i e.cursor).0 (scan_at s c.marked e f.0 (subst AreOnce f.1 once) marked i at draft is))

-- ---- a draft ends

cursor_there : (i : Puid) (to : ℕ) (grey : List Grey) → cursor_of (moved_at i to grey) i ≡ option_map (λ cursor. to) (cursor_of grey i)
cursor_there i to [] = refl
cursor_there i to (e ∷ es) = elim (same_puid i e.id) as (λ t. same_puid i e.id ≡ t
    → cursor_of (cond t (record e { cursor = to } ∷ es) (e ∷ moved_at i to es)) i ≡ option_map (λ cursor. to) (cond t (Some e.cursor) (cursor_of es i))) [
      | true ↦ λ is. rw is refl
      | false ↦ λ is. rw is (cursor_there i to es)
    ] refl

cursor_elsewhere : (i id : Puid) (to : ℕ) → same_puid i id ≡ false → (grey : List Grey) → cursor_of (moved_at i to grey) id ≡ cursor_of grey id
cursor_elsewhere i id to other [] = refl
cursor_elsewhere i id to other (e ∷ es) = elim (same_puid i e.id) as (λ t. same_puid i e.id ≡ t → cursor_of (cond t (record e { cursor = to } ∷ es) (e ∷ moved_at i to es)) id ≡ cursor_of (e ∷ es) id) [
  | true ↦ λ here. elim (same_puid id e.id) as (λ t. same_puid id e.id ≡ t → cond t (Some to) (cursor_of es id) ≡ cond t (Some e.cursor) (cursor_of es id)) [
    | true ↦ λ is. let same : same_puid i id ≡ true = ap (same_puid i) (same_puid_is id e.id is) ∙ here in cc
    | false ↦ λ is. refl
  ] refl
  | false ↦ λ apart. ap (cond (same_puid id e.id) (Some e.cursor)) (cursor_elsewhere i id to other es)
] refl

-- the cursor of an index stands in its draft's part, and is put past it
module _ (s : State) (c : Colours) (i : Puid) (cursor : ℕ) (is : cursor_of c.grey i ≡ Some cursor) (inside : cursor < own_part) where
  now_at : (id : Puid) (P : Option ℕ → Option ℕ → Type 0) → ((o : Option ℕ) → P o o) → P (Some cursor) (Some own_part) → P (cursor_of c.grey id) (cursor_of (with_cursor i own_part c).grey id)
  now_at id P same new = elim (same_puid i id) as (λ t. same_puid i id ≡ t → P (cursor_of c.grey id) (cursor_of (with_cursor i own_part c).grey id)) [
    | true ↦ λ here. subst (λ (k : Puid). P (cursor_of c.grey k) (cursor_of (with_cursor i own_part c).grey k)) (same_puid_is i id here) (rw (cursor_there i own_part c.grey, is) new)
    | false ↦ λ other. rw (cursor_elsewhere i id own_part other c.grey) (same (cursor_of c.grey id))
  ] refl

  reads : (e : Puid × Object) → read_in c e ≤ read_in (with_cursor i own_part c) e
  reads (id, objects.File f) = omega arith
  reads (id, objects.Index j) = elim (c.marked id.block) as (λ t. cond t (read_of (cursor_of c.grey id) j.held) 0 ≤ cond t (read_of (cursor_of (with_cursor i own_part c).grey id) j.held) 0) [
    | true ↦ now_at id (λ a b. read_of a j.held ≤ read_of b j.held) (λ o. omega arith)
        (sum_more (λ n. cond (nat_lt (own_part + n) cursor) 1 0) (λ n. cond (nat_lt (own_part + n) own_part) 1 0) (λ n. below_less cursor own_part (omega (arith, inside)) (own_part + n)) j.held)
    | false ↦ omega arith
  ]

  left : (id : Puid) → unread_at s (with_cursor i own_part c) id ≤ unread_at s c id
  left id =
      let has = is_some (draft_at s.grants id) in
      let held = drafted_leaves (draft_at s.grants id) (object_at s.graph id) in
      elim (c.marked id.block) as (λ t. unread_of has (cond t (cursor_of (with_cursor i own_part c).grey id) (Some 0)) held ≤ unread_of has (cond t (cursor_of c.grey id) (Some 0)) held) [
        | true ↦ now_at id (λ a b. unread_of has b held ≤ unread_of has a held) (λ o. omega arith) (unread_past cursor own_part (omega arith) has held)
        | false ↦ omega arith
      ]

  paced : (waiting : List Rescue) (volume steps added : ℕ) → IsPaced s c waiting volume steps added → IsPaced s (with_cursor i own_part c) waiting volume steps added
  paced waiting volume steps added pace less = omega (arith, pace less, sum_more (read_in c) (read_in (with_cursor i own_part c)) reads s.graph.objects, sum_more (unread_at s (with_cursor i own_part c)) (unread_at s c) left (ids_of s.graph))

pub pace_ended : (s : State) (c : Colours) (i : Puid) (waiting : List Rescue) (volume steps added : ℕ) → IsPaced s c waiting volume steps added → IsPaced s (draft_over i c) waiting volume steps added
pace_ended s c i waiting volume steps added pace = at (cursor_of c.grey i) refl
  where
    at : (o : Option ℕ) → cursor_of c.grey i ≡ o → IsPaced s (ended_from o i c) waiting volume steps added
    at None is = pace
    at (Some cursor) is = elim (nat_lt cursor own_part) as (λ b. nat_lt cursor own_part ≡ b → IsPaced s (cond b (with_cursor i own_part c) c) waiting volume steps added) [ true ↦ λ less. paced s c i cursor is (ltb-true cursor own_part less) waiting volume steps added pace | false ↦ λ past. pace ] refl

-- ---- the steps

count_up : (n : ℕ) → count_after n ≤ n + 1
count_up n = omega arith

counted_is : (more : List Rescue) (n : ℕ) → added_with more n < 2 ^ 64 - 1 → added_with more n ≡ n + length more
counted_is [] n less = omega arith
counted_is (r ∷ rs) n less = let rest = counted_is rs (count_after n) less in let one = few n (omega (arith, less, rest)) in rest ∙ omega (arith, one)
  where
    few : (a : ℕ) → count_after a < 2 ^ 64 - 1 → count_after a ≡ a + 1
    few a h = omega (arith, h)

pub pace_begin : (s : State) (c : Colours) (volume : ℕ) → unread s none_marked ≤ volume → IsPaced s c [] volume 1 0
pace_begin s c volume few less =
    let most = sum_more (unread_at s c) (unread_at s none_marked) (λ id. unread_most (is_some (draft_at s.grants id)) (reading_at c id) (drafted_leaves (draft_at s.grants id) (object_at s.graph id))) (ids_of s.graph) in
    omega (arith, few, most)

pub pace_take : (s : State) (c : Colours) (directory : List (Puid × Kind)) (r : Rescue) (rest : List Rescue) (volume steps added : ℕ) → IsPaced s c (r ∷ rest) volume steps added → IsPaced s (rescued directory r c) rest volume (count_after steps) added
pace_take s c directory r rest volume steps added pace less =
    omega (arith, pace less, count_up steps, keeps_read s.graph c (rescued directory r c) (rescued_keeps directory r c), keeps_unread s c (rescued directory r c) (rescued_keeps directory r c))

pub pace_scan : (s : State) (c d : Colours) (waiting : List Rescue) (volume steps added : ℕ) → Scanned s c d → IsPaced s c waiting volume steps added → IsPaced s d waiting volume (count_after steps) added
pace_scan s c d waiting volume steps added is pace less = elim is.more [
  | inl reads ↦ omega (arith, pace less, count_up steps, reads, is.left)
  | inr left ↦ omega (arith, pace less, count_up steps, left, is.reads)
]

pub pace_change : (s t : State) (c : Colours) (more waiting : List Rescue) (volume steps added : ℕ) → read_so_far s.graph c ≤ read_so_far t.graph c → unread t c ≤ unread s c + length more
    → IsPaced s c waiting volume steps added → IsPaced t c (waiting ++ more) volume steps (added_with more added)
pace_change s t c more waiting volume steps added reads left pace less =
    let sum = counted_is more added less in
    omega (arith, pace (omega (arith, less, sum)), reads, left, sum, length-append waiting more)

pub pace_end : (s : State) (c : Colours) (volume steps added : ℕ) → IsPaced s c [] volume steps added → added < 2 ^ 64 - 1 → sum_by (λ e. blocks_of e.1) s.graph.objects ≤ volume → steps ≤ 1 + 2 * added + 2 * volume
pace_end s c volume steps added pace less few = omega (arith, pace less, few, read_at_most s.graph c)
