-- A resize to less, as the model has it: which blocks it writes anew, and what it takes.
use Rattle.std.proofs.Common.{◌≡◌, ◌≢◌, ◌⊎◌, inl, inr, ℕ, ◌+◌, ◌-◌, ◌*◌, ◌/◌, ◌%◌, ◌<◌, ◌≤◌, Bool, true, false, List, [], ◌∷◌, length, get_or, Option, Some, None, refl, sym, ◌∙◌, ap, subst, arith, ◌++◌, not, if◌then◌else◌}
use Rattle.special_files.proofs.Words.{Draft, Drafting, Drafts, HasDraft, Held, Image, IsBorder, IsCutHere, IsOpen, Leaf, Node, Puid, SetSize, both_ways, cases_Bool, cases_lt, claims_anew, cut_leaf, eqb-false, eqb-true, filter, filter-rises, first_level, has_number, held_at, held_in, held_leaves, held_of, held_there, here, in_all, in_cons, in_filter, in_held, in_map, in_withs, intended, is_fresh_leaf, is_fresh_node, is_some, is_stale_cut, lacking, le-leb, leaf_pointers, leaves_at, leaves_below, leaves_in, leb-true, lt-ltb, ltb-true, map, missing, nat_le, nat_lt, need_beside, next_levels, numbers_rise, one_unless, opened_as, parents, path_is, pointer_to_node, resize_anew, root_spelling, same_numbers, set_in, shadow_need, shared, shrink_takes, size_of, slice_index, to_all, to_filter, to_held, to_map, to_withs, tree_of, with_numbers, with_numbers-rise, written_anew, ◌&&◌, ◌==◌, ◌||◌}
use Rattle.std.proofs.lemmas.Bool.{eq-eqb}
use Rattle.special_files.proofs.Fresh.{read_leaf_is}
use Rattle.special_files.proofs.Marks.{first_is, next_is}
use Rattle.special_files.proofs.write.Needs.{has_is}

-- one number, if it is to be
abbrev pub only_if : Bool → ℕ → List ℕ
only_if b n = if b then n ∷ [] else []

-- and if it isn't there yet
lacking_one : (b : Bool) (n : ℕ) (flags : List Bool) → lacking (only_if b n) (set_in flags) ≡ only_if (b && not (get_or flags n false)) n
lacking_one false n flags = refl
lacking_one true n flags = ap (λ (has : Bool). only_if (not has) n) (has_is flags n)

in_only : (b : Bool) (n x : ℕ) → has_number x (only_if b n) ≡ true → (b ≡ true) × (n ≡ x)
in_only true n x h = elim (in_cons x n [] h) [ inl same ↦ (refl, same) | inr none ↦ cc ]
in_only false n x h = cc

to_only : (b : Bool) (n : ℕ) → b ≡ true → has_number n (only_if b n) ≡ true
to_only b n is = ap (λ (c : Bool). has_number n (only_if c n)) is ∙ here n []

-- a pointer of a node that was read tells whether the leaf is held
module _ (a : Image) (id : Puid) (was : Drafting) (d : Draft) (draft : HasDraft a id (opened_as was d)) (leaves : List ℕ) (n : ℕ) (read : leaves ≡ leaves_at a (pointer_to_node was.root n)) (j : ℕ) (small : j < leaf_pointers.count) where
  at_slot : leaves_below a was.root (leaf_pointers.count * n + j) ≡ held_at a (slice_index leaves j)
  at_slot =
      let one : (leaf_pointers.count * n + j) / leaf_pointers.count ≡ n = omega (arith, small) in
      let two : (leaf_pointers.count * n + j) % leaf_pointers.count ≡ j = omega (arith, small) in
      ap (λ (p : List ℕ). held_at a (tree_of a (root_spelling was.root) p)) (path_is (root_spelling was.root) (leaf_pointers.count * n + j) ∙ (λ i. one i ∷ two i ∷ []))
      ∙ ap (held_at a) (read_leaf_is a was.root draft.tree.spelled.good.0 n j leaves read)

  pub none_of_slot : slice_index leaves j ≡ 0 → leaves_below a was.root (leaf_pointers.count * n + j) ≡ None
  none_of_slot none = at_slot ∙ ap (held_at a) none

  pub held_of_slot : slice_index leaves j ≢ 0 → is_some (leaves_below a was.root (leaf_pointers.count * n + j)) ≡ true
  held_of_slot some = ap is_some (at_slot ∙ held_there a (slice_index leaves j) some)

-- of a draft's leaves and nodes those that a resize to less writes anew
abbrev pub anew_leaves : ℕ → Draft → List ℕ
anew_leaves size d = cut_leaf size (held_leaves d.object)

abbrev pub kept_leaves : ℕ → Draft → List ℕ
kept_leaves size d = filter (λ leaf. nat_lt leaf (leaves_in size)) (held_leaves d.object)

abbrev pub gone_leaves : ℕ → Draft → List ℕ
gone_leaves size d = filter (λ leaf. nat_le (leaves_in size) leaf) (held_leaves d.object)

abbrev pub anew_nodes : ℕ → Draft → List ℕ
anew_nodes size d = shared (parents (kept_leaves size d)) (parents (with_numbers (gone_leaves size d) (lacking (anew_leaves size d) (first_level d.fresh))))

module _ (a : Image) (ds : Drafts) (id : Puid) (was : Drafting) (d : Draft) (opened : IsOpen ds id was d) (draft : HasDraft a id (opened_as was d)) (size : ℕ) (less : size < was.root.size)
    (leaves : List ℕ) (read : leaves ≡ leaves_at a (pointer_to_node was.root ((leaves_in size - 1) / leaf_pointers.count))) (from : ℕ) (border : IsBorder leaves ((leaves_in size - 1) / leaf_pointers.count) (leaves_in size) from)
    (cut : Bool) (cuts : IsCutHere size leaves cut) where
  abbrev to : ℕ
  to = leaves_in size

  abbrev n : ℕ
  n = (to - 1) / leaf_pointers.count

  abbrev e : ℕ
  e = size / 512

  abbrev old : ℕ → Option Held
  old = leaves_below a was.root

  abbrev H : List ℕ
  H = held_leaves d.object

  none_there : (l j : ℕ) → l ≡ leaf_pointers.count * n + j → j < leaf_pointers.count → slice_index leaves j ≡ 0 → old l ≡ None
  none_there l j is small none = ap old is ∙ none_of_slot a id was d draft leaves n read j small none

  some_there : (l j : ℕ) → l ≡ leaf_pointers.count * n + j → j < leaf_pointers.count → slice_index leaves j ≢ 0 → is_some (old l) ≡ true
  some_there l j is small some = ap (λ (m : ℕ). is_some (old m)) is ∙ held_of_slot a id was d draft leaves n read j small some

  -- between the size and the border nothing is held
  pub none_between : (l : ℕ) → ((from ≤ l) × (l < to)) ⊎ ((to ≤ l) × (l < from)) → old l ≡ None
  none_between l (inl two) =
      let j = l - leaf_pointers.count * n in
      let is : l ≡ leaf_pointers.count * n + j = omega (arith, border.low, two.0) in
      none_there l j is (omega (arith, two.1, border.low, two.0)) (border.none j (omega (arith, two.1, border.low, two.0)) (inl (omega (arith, is, two.0), omega (arith, is, two.1))))
  none_between l (inr two) =
      let j = l - leaf_pointers.count * n in
      let low : leaf_pointers.count * n ≤ l = omega (arith, two.0) in
      let is : l ≡ leaf_pointers.count * n + j = omega (arith, low) in
      none_there l j is (omega (arith, two.1, border.high, low)) (border.none j (omega (arith, two.1, border.high, low)) (inr (omega (arith, is, two.0), omega (arith, is, two.1))))

  pub cut_held_here : cut ≡ true → is_some (old e) ≡ true
  cut_held_here is = some_there e (e % leaf_pointers.count) (omega (arith, (cuts.is is).0)) (omega arith) (cuts.is is).1

  pub no_cut_here : cut ≡ false → size % 512 ≢ 0 → old e ≡ None
  no_cut_here is within = none_there e (e % leaf_pointers.count) (omega (arith, within)) (omega arith) (cuts.none is within)

  -- ---- the leaves that are held

  held_is : H ≡ held_in was.root old
  held_is = ap held_leaves (sym draft.tree.object) ∙ held_of was.root old

  pub in_H : (l : ℕ) → has_number l H ≡ true → is_some (old l) ≡ true
  in_H l h = (in_held was.root old l (sym (ap (has_number l) held_is) ∙ h)).0

  to_H : (l : ℕ) → is_some (old l) ≡ true → has_number l H ≡ true
  to_H l is = ap (has_number l) held_is ∙ to_held was.root old l is (within (old l) refl is)
    where
      within : (o : Option Held) → old l ≡ o → is_some o ≡ true → l < leaves_in was.root.size
      within None same none = cc
      within (Some h) same some = draft.tree.within l h same

  not_held : (l : ℕ) → old l ≡ None → is_some (old l) ≡ true → ⊥
  not_held l none is = both_ways _ (ap is_some none) is

  abbrev kept : List ℕ
  kept = kept_leaves size d

  abbrev gone : List ℕ
  gone = gone_leaves size d

  abbrev F0 : List ℕ
  F0 = first_level d.fresh

  abbrev F1 : List ℕ
  F1 = first_level (next_levels d.fresh)

  abbrev a0 : List ℕ
  a0 = anew_leaves size d

  abbrev a1 : List ℕ
  a1 = anew_nodes size d

  F0_is : F0 ≡ set_in was.leaves
  F0_is = first_is d.fresh ∙ opened.fresh 0

  F1_is : F1 ≡ set_in was.nodes
  F1_is = first_is (next_levels d.fresh) ∙ next_is d.fresh 0 ∙ opened.fresh 1

  -- ---- the leaf written anew

  e_held : size % 512 ≢ 0 → has_number e H ≡ cut
  e_held within = by cut refl
    where
      by : (b : Bool) → cut ≡ b → has_number e H ≡ b
      by true is = to_H e (cut_held_here is)
      by false is = elim (cases_Bool (has_number e H)) [ inl has ↦ absurd (not_held e (no_cut_here is within) (in_H e has)) | inr none ↦ none ]

  a0_is : a0 ≡ only_if cut e
  a0_is = elim (cases_Bool (size % 512 == 0)) [
    | inl whole ↦ ap (λ (b : Bool). if b then [] else shared (e ∷ []) H) whole ∙ ap (λ (b : Bool). only_if b e) (sym (no_cut (eqb-true (size % 512) 0 whole)))
    | inr within ↦ ap (λ (b : Bool). if b then [] else shared (e ∷ []) H) within ∙ ap (λ (b : Bool). if b then e ∷ [] else []) (e_held (eqb-false (size % 512) 0 within))
  ]
    where
      no_cut : size % 512 ≡ 0 → cut ≡ false
      no_cut whole = elim (cases_Bool cut) [ inl is ↦ absurd ((cuts.is is).0 whole) | inr not_cut ↦ not_cut ]

  pub in_a0 : (x : ℕ) → has_number x a0 ≡ true → (cut ≡ true) × (e ≡ x)
  in_a0 x h = in_only cut e x (sym (ap (has_number x) a0_is) ∙ h)

  pub to_a0 : cut ≡ true → has_number e a0 ≡ true
  to_a0 is = ap (has_number e) a0_is ∙ to_only cut e is

  in_stale : (x : ℕ) → has_number x (lacking a0 F0) ≡ true → (is_stale_cut was cut e ≡ true) × (e ≡ x)
  in_stale x h =
      let two = in_filter (λ (y : ℕ). not (has_number y F0)) x a0 h in
      let one = in_a0 x two.1 in
      let stale : not (is_fresh_leaf was e) ≡ true = ap not (sym (has_is was.leaves e) ∙ sym (ap (has_number e) F0_is)) ∙ ap (λ (y : ℕ). not (has_number y F0)) one.1 ∙ two.0 in
      (ap (λ (b : Bool). b && not (is_fresh_leaf was e)) one.0 ∙ stale, one.1)

  to_stale : is_stale_cut was cut e ≡ true → has_number e (lacking a0 F0) ≡ true
  to_stale is =
      let two = parts cut (is_fresh_leaf was e) is in
      to_filter (λ (y : ℕ). not (has_number y F0)) e a0 (ap not (ap (has_number e) F0_is ∙ has_is was.leaves e) ∙ ap not two.1) (to_a0 two.0)
    where
      parts : (b f : Bool) → (b && not f) ≡ true → (b ≡ true) × (f ≡ false)
      parts true true is = cc
      parts true false is = (refl, refl)
      parts false f is = cc

  -- ---- the node written anew

  abbrev changes : Bool
  changes = is_stale_cut was cut e || not (from % leaf_pointers.count == 0)

  in_gone : (y : ℕ) → has_number y gone ≡ true → (to ≤ y) × (is_some (old y) ≡ true)
  in_gone y h = let two = in_filter (λ leaf. nat_le to leaf) y H h in (leb-true to y two.0, in_H y two.1)

  in_kept : (y : ℕ) → has_number y kept ≡ true → (y < to) × (is_some (old y) ≡ true)
  in_kept y h = let two = in_filter (λ leaf. nat_lt leaf to) y H h in (ltb-true y to two.0, in_H y two.1)

  child : (x : ℕ) (ns : List ℕ) → has_number x (parents ns) ≡ true → (y : ℕ) × (has_number y ns ≡ true) × (y / leaf_pointers.count ≡ x)
  child x ns h = in_map (λ (y : ℕ). y / leaf_pointers.count) x ns (in_withs x (map (λ (y : ℕ). y / leaf_pointers.count) ns) h)

  pub parent : (y : ℕ) (ns : List ℕ) → has_number y ns ≡ true → has_number (y / leaf_pointers.count) (parents ns) ≡ true
  parent y ns h = to_withs (y / leaf_pointers.count) (map (λ (y : ℕ). y / leaf_pointers.count) ns) (to_map (λ (y : ℕ). y / leaf_pointers.count) y ns h)

  -- a node that keeps a leaf and drops one is the last
  pub border_within : (z y : ℕ) → z < to → to ≤ y → z / leaf_pointers.count ≡ y / leaf_pointers.count → is_some (old z) ≡ true → is_some (old y) ≡ true → (y / leaf_pointers.count ≡ n) × (from % leaf_pointers.count ≢ 0)
  border_within z y early late same has has_too = (
    omega (arith, early, late, same),
    λ whole. elim (cases_lt from to) [
      | inl before ↦ not_held z (none_between z (inl (omega (arith, whole, before, border.low, border.high, early, late, same), early))) has
      | inr after ↦ not_held y (none_between y (inr (late, omega (arith, whole, after, border.low, border.high, early, late, same)))) has_too
    ],
  )

  pub in_a1 : (x : ℕ) → has_number x a1 ≡ true → (n ≡ x) × ((is_stale_cut was cut e ≡ true) ⊎ (from % leaf_pointers.count ≢ 0))
  in_a1 x h =
      let two = in_filter (λ (y : ℕ). has_number y (parents (with_numbers gone (lacking a0 F0)))) x (parents kept) h in
      let z = child x kept two.1 in
      let y = child x (with_numbers gone (lacking a0 F0)) two.0 in
      elim (in_all y.0 gone (lacking a0 F0) y.1) [
        | inl went ↦
            let g = in_gone y.0 went in
            let k = in_kept z.0 z.1 in
            let b = border_within z.0 y.0 k.0 g.0 (z.2 ∙ sym y.2) k.1 g.1 in
            (sym b.0 ∙ y.2, inr b.1)
        | inr stale ↦
            let s = in_stale y.0 stale in
            let c = (in_a0 y.0 (in_filter (λ (y : ℕ). not (has_number y F0)) y.0 a0 stale).1).0 in
            (omega (arith, (cuts.is c).0, s.1, y.2), inl s.0)
      ]

  to_a1 : (z y : ℕ) → is_some (old z) ≡ true → z < to → (has_number y gone ≡ true) ⊎ (has_number y (lacking a0 F0) ≡ true) → z / leaf_pointers.count ≡ n → y / leaf_pointers.count ≡ n → has_number n a1 ≡ true
  to_a1 z y has early either z_in y_in = to_filter (λ (y : ℕ). has_number y (parents (with_numbers gone (lacking a0 F0)))) n (parents kept)
      (subst (λ (x : ℕ). has_number x (parents (with_numbers gone (lacking a0 F0))) ≡ true) y_in (parent y (with_numbers gone (lacking a0 F0)) (to_all y gone (lacking a0 F0) either)))
      (subst (λ (x : ℕ). has_number x (parents kept) ≡ true) z_in (parent z kept (to_filter (λ leaf. nat_lt leaf to) z H (lt-ltb z to early) (to_H z has))))

  pub stale_a1 : is_stale_cut was cut e ≡ true → has_number n a1 ≡ true
  stale_a1 is =
      let stale = to_stale is in
      let c = (in_a0 e (in_filter (λ (y : ℕ). not (has_number y F0)) e a0 stale).1).0 in
      let node : e / leaf_pointers.count ≡ n = omega (arith, (cuts.is c).0) in
      to_a1 e e (cut_held_here c) (omega (arith, (cuts.is c).0)) (inr stale) node node

  pub within_a1 : from % leaf_pointers.count ≢ 0 → has_number n a1 ≡ true
  within_a1 within =
      let k = (border.keeps within).1 in
      let g = border.drops within in
      let z = leaf_pointers.count * n + k.0 in
      let y = leaf_pointers.count * n + g.0 in
      let small : k.0 < leaf_pointers.count = omega (arith, k.1) in
      to_a1 z y (some_there z k.0 refl small k.2) k.1 (inl (to_filter (λ leaf. nat_le to leaf) y H (le-leb to y g.2) (to_H y (some_there y g.0 refl g.1 g.3)))) (omega (arith, small)) (omega (arith, g.1))

  a1_is : a1 ≡ only_if changes n
  a1_is = same_numbers a1 (only_if changes n) (filter-rises (λ (y : ℕ). has_number y (parents (with_numbers gone (lacking a0 F0)))) (parents kept) (with_numbers-rise (map (λ (y : ℕ). y / leaf_pointers.count) kept))) (rises changes)
      (λ x h. let two = in_a1 x h in subst (λ (y : ℕ). has_number y (only_if changes n) ≡ true) two.0 (to_only changes n (either two.1)))
      (λ x h. let two = in_only changes n x h in subst (λ (y : ℕ). has_number y a1 ≡ true) two.1 (back two.0))
    where
      rises : (b : Bool) → numbers_rise (only_if b n) ≡ true
      rises true = refl
      rises false = refl

      either : (is_stale_cut was cut e ≡ true) ⊎ (from % leaf_pointers.count ≢ 0) → changes ≡ true
      either (inl stale) = ap (λ (b : Bool). b || not (from % leaf_pointers.count == 0)) stale
      either (inr within) = elim (cases_Bool (from % leaf_pointers.count == 0)) [
        | inl whole ↦ absurd (within (eqb-true (from % leaf_pointers.count) 0 whole))
        | inr not_whole ↦ by (is_stale_cut was cut e) (from % leaf_pointers.count == 0) not_whole
      ]
        where
          by : (s b : Bool) → b ≡ false → (s || not b) ≡ true
          by true b is = refl
          by false b is = ap not is

      back : changes ≡ true → has_number n a1 ≡ true
      back is = elim (cases_Bool (is_stale_cut was cut e)) [
        | inl stale ↦ stale_a1 stale
        | inr fresh ↦ within_a1 (λ whole. both_ways _ ((λ i. fresh i || not (eq-eqb (from % leaf_pointers.count) 0 whole i))) is)
      ]

  -- ---- what it takes

  pub anew : size_of d.object ≡ was.root.size → written_anew (SetSize size) d.object d.fresh ≡ a0 ∷ a1 ∷ []
  anew is = ap (λ (b : Bool). if b then [] else resize_anew 1 size H d.fresh) more
    where
      more : nat_le (size_of d.object) size ≡ false
      more = elim (cases_Bool (nat_le (size_of d.object) size)) [ inl le ↦ absurd (omega (arith, leb-true (size_of d.object) size le, is, less)) | inr above ↦ above ]

  new_leaf : lacking a0 F0 ≡ only_if (is_stale_cut was cut e) e
  new_leaf = ap (lacking a0) F0_is ∙ ap (λ (ns : List ℕ). lacking ns (set_in was.leaves)) a0_is ∙ lacking_one cut e was.leaves

  new_node : lacking a1 F1 ≡ only_if (changes && not (is_fresh_node was n)) n
  new_node = ap (lacking a1) F1_is ∙ ap (λ (ns : List ℕ). lacking ns (set_in was.nodes)) a1_is ∙ lacking_one changes n was.nodes

  pub recut_need : size_of d.object ≡ was.root.size → need_beside (SetSize size) d was ≡ shrink_takes was cut from e n + shadow_need was
  recut_need is = ap (λ (ls : List (List ℕ)). missing ls d.fresh + shadow_need was) (anew is)
      ∙ omega (arith, ap (length {A = ℕ}) new_leaf ∙ one (is_stale_cut was cut e) e, ap (length {A = ℕ}) new_node ∙ one (changes && not (is_fresh_node was n)) n ∙ both changes (is_fresh_node was n))
    where
      one : (b : Bool) (m : ℕ) → length (only_if b m) ≡ (if b then 1 else 0)
      one true m = refl
      one false m = refl

      both : (b f : Bool) → (if b && not f then 1 else 0) ≡ (if b then one_unless f else 0)
      both true true = refl
      both true false = refl
      both false f = refl

  pub recut_claims : size_of d.object ≡ was.root.size → claims_anew was.at (written_anew (SetSize size) d.object d.fresh) d.fresh
      ≡ map (λ l. intended (Leaf l) was.at) (only_if (is_stale_cut was cut e) e) ++ map (λ m. intended (Node m) was.at) (only_if (changes && not (is_fresh_node was n)) n)
  recut_claims is = ap (λ (ls : List (List ℕ)). claims_anew was.at ls d.fresh) (anew is)
      ∙ (λ i. map (λ l. intended (Leaf l) was.at) (new_leaf i) ++ map (λ m. intended (Node m) was.at) (new_node i))
