-- The blocks of a draft's own at paths that are dropped, listed one after another.
use Rattle.std.proofs.Common.{◌≡◌, ◌≢◌, ◌⊎◌, inl, inr, ℕ, zero, suc, ◌+◌, ◌-◌, ◌*◌, ◌/◌, ◌%◌, ◌<◌, ◌≤◌, Bool, true, false, List, [], ◌∷◌, ◌++◌, length, get_or, Some, refl, sym, ◌∙◌, ap, subst, append_assoc, length-append, arith}
use Rattle.special_files.proofs.Words.{All, All-append, All-cons, All-nil, AreShed, Differ, Drafting, Graph, HasDraft, HasItsBlocks, Holds, Image, IsPathPast, Object, Opened, Puid, append-nil, append_differ, both_ways, cases_Bool, cases_lt, content_of, eqb-false, eqb-true, fresh_in, get_or_past, has-append, has_number, held, held_at, held_there, here, is_fresh_node, is_meant_for, leaves_at, pointer_to_node, not_map, object_at, list_if, one_path, opened_as, or_cases, or_left, or_right, passes, slice_index, taken_apart, tree_in, tree_of, ◌==◌, length-leaves, blocks_limit, leaf_pointers, node_blocks, node_pointers}
use Rattle.ufs_model.specs.declared.object.Draft as models
use Rattle.special_files.proofs.Fresh.{fresh_there, node_of_fresh, read_leaf_is, unfresh}
use Rattle.special_files.proofs.Levels.{Tell}
use Rattle.special_files.proofs.Meant.{meant_is}
use Rattle.special_files.proofs.Trees.{leaf_at, leaf_from, node_at}
use Rattle.special_files.proofs.changed.Unlike.{once_from, one_number}

-- ---- lists as they are made

pub none_in : (flags : List Bool) (leaves : List ℕ) (node from : ℕ) → fresh_in flags leaves node from 0 ≡ []
unfolding fresh_in
none_in flags leaves node from = refl

pub more_in : (flags : List Bool) (leaves : List ℕ) (node from k j : ℕ) → j ≡ k + 1 → fresh_in flags leaves node from j ≡ fresh_in flags leaves node from k ++ list_if (get_or flags (leaf_pointers.count * node + (from + k)) false) (slice_index leaves (from + k))
unfolding fresh_in
more_in flags leaves node from k j is = let next : j ≡ suc k = omega (arith, is) in ap (fresh_in flags leaves node from) next

pub length-one_if : (b : Bool) (n : ℕ) → length (list_if b n) ≤ 1
length-one_if true n = omega arith
length-one_if false n = omega arith

pub length-fresh_in : (flags : List Bool) (leaves : List ℕ) (node from k : ℕ) → length (fresh_in flags leaves node from k) ≤ k
unfolding fresh_in
length-fresh_in flags leaves node from zero = omega arith
length-fresh_in flags leaves node from (suc k) =
    omega (
      arith,
      length-append (fresh_in flags leaves node from k) (list_if (get_or flags (leaf_pointers.count * node + (from + k)) false) (slice_index leaves (from + k))),
      length-fresh_in flags leaves node from k,
      length-one_if (get_or flags (leaf_pointers.count * node + (from + k)) false) (slice_index leaves (from + k)),
    )

-- ---- the loop that makes them

module _ (old now : List ℕ) (b : Bool) (block : ℕ) (flags : List Bool) (leaves : List ℕ) (node from : ℕ) where
  pub list_starts : (place : ℕ) → now ≡ old ++ list_if b block → place ≡ from → now ≡ old ++ (list_if b block ++ fresh_in flags leaves node from (place - from))
  list_starts place is same =
      let zero_is : place - from ≡ 0 = omega (arith, same) in
      is ∙ ap (λ (xs : List ℕ). old ++ xs) (sym (append-nil (list_if b block)) ∙ ap (λ (xs : List ℕ). list_if b block ++ xs) (sym (ap (fresh_in flags leaves node from) zero_is ∙ none_in flags leaves node from)))

  module _ (k : ℕ) (is : now ≡ old ++ (list_if b block ++ fresh_in flags leaves node from k)) where
    pub list_room : length old + node_blocks ≤ blocks_limit → k < leaf_pointers.count → length now < blocks_limit
    list_room room less = omega (arith, ap (length {A = ℕ}) is, length-append old (list_if b block ++ fresh_in flags leaves node from k), length-append (list_if b block) (fresh_in flags leaves node from k), length-one_if b block, length-fresh_in flags leaves node from k, room, less)

    pub list_more : (j : ℕ) (next : List ℕ) (place : ℕ) → j ≡ k + 1 → place ≡ from + k → next ≡ now ++ list_if (get_or flags (leaf_pointers.count * node + place) false) (slice_index leaves place) → next ≡ old ++ (list_if b block ++ fresh_in flags leaves node from j)
    list_more j next place step same one =
        let last = list_if (get_or flags (leaf_pointers.count * node + (from + k)) false) (slice_index leaves (from + k)) in
        one ∙ (λ i. is i ++ list_if (get_or flags (leaf_pointers.count * node + same i) false) (slice_index leaves (same i))) ∙ append_assoc old (list_if b block ++ fresh_in flags leaves node from k) last
        ∙ ap (λ (xs : List ℕ). old ++ xs) (append_assoc (list_if b block) (fresh_in flags leaves node from k) last ∙ ap (λ (xs : List ℕ). list_if b block ++ xs) (sym (more_in flags leaves node from k j step)))

module _ (size : ℕ) where
  abbrev Below : List ℕ → Type 0
  Below ns = All (λ n. n < size) ns

  one_below : (b : Bool) (n : ℕ) → n < size → Below (list_if b n)
  one_below true n less = All-cons (λ n. n < size) n [] less (All-nil (λ n. n < size))
  one_below false n less = All-nil (λ n. n < size)

  in_below : (flags : List Bool) (leaves : List ℕ) (node from k : ℕ) → ((j : ℕ) → slice_index leaves j < size) → Below (fresh_in flags leaves node from k)
  unfolding fresh_in
  in_below flags leaves node from zero less = All-nil (λ n. n < size)
  in_below flags leaves node from (suc k) less = All-append (λ n. n < size) (fresh_in flags leaves node from k) _ (in_below flags leaves node from k less) (one_below _ _ (less (from + k)))

  pub node_below : (old new : List ℕ) (b : Bool) (block : ℕ) (flags : List Bool) (leaves : List ℕ) (node from k : ℕ) → new ≡ old ++ (list_if b block ++ fresh_in flags leaves node from k) → 0 < size → block < size → All (λ n. n < size) leaves → Below old → Below new
  node_below old new b block flags leaves node from k is some less all had =
      subst Below (sym is) (All-append (λ n. n < size) old _ had (All-append (λ n. n < size) (list_if b block) _ (one_below b block less) (in_below flags leaves node from k each)))
    where
      each : (j : ℕ) → slice_index leaves j < size
      each j = elim (cases_lt j (length leaves)) [ inl within ↦ all j 0 within | inr past ↦ let none = get_or_past leaves j 0 past in omega (arith, none, some) ]

-- ---- what they list

-- the paths past the leaf f, up to a node
abbrev pub Upto : ℕ → ℕ → List ℕ → Type 0
Upto f n p = IsPathPast f p × (IsPathPast (leaf_pointers.count * n) p → ⊥)

module _ (a : Image) (g : Graph) (holds : Holds a g) (id : Puid) (o : Object) (at : object_at g id ≡ Some o) (has : HasItsBlocks a id.block) (was : Drafting) (m : models.Draft) (draft : HasDraft a id (opened_as was m)) where
  abbrev d : Opened
  d = opened_as was m

  abbrev tree : List ℕ → ℕ
  tree p = tree_of a (content_of d) p

  abbrev Meant : ℕ → Type 0
  Meant v = is_meant_for a id.block v ≡ true

  real_block : (v : ℕ) → Meant v → v ≢ 0
  real_block v meant none = not_map v (taken_apart a g holds v id.block (meant_is a id.block v meant).taken) (omega (arith, none))

  -- these are the blocks at those paths that are meant for the draft, each once
  pub record Lists (done : List ℕ → Type 0) (ns : List ℕ) : Type 0 where
    pub each : (v : ℕ) → has_number v ns ≡ true → Meant v × ((p : List ℕ) × done p × (tree p ≡ v))
    pub all : (p : List ℕ) → done p → Meant (tree p) → has_number (tree p) ns ≡ true
    pub once : Differ ns

  -- a path more, which is listed where it is to be
  lists_add : (done next : List ℕ → Type 0) (ns : List ℕ) (p : List ℕ) (b : Bool) → Lists done ns → (done p → ⊥) → (b ≡ true → Meant (tree p)) → (b ≡ false → Meant (tree p) → ⊥)
      → ((r : List ℕ) → done r → next r) → next p → ((r : List ℕ) → next r → Meant (tree r) → done r ⊎ (r ≡ p)) → Lists next (ns ++ list_if b (tree p))
  lists_add done next ns p false lists new fresh stale old is only = subst (Lists next) (sym (append-nil ns)) (record {
    each = λ v h. let r = lists.each v h in (r.0, (r.1.0, old r.1.0 r.1.1, r.1.2));
    all = λ r is_next meant. elim (only r is_next meant) [ inl was_done ↦ lists.all r was_done meant | inr same ↦ absurd (stale refl (subst (λ (q : List ℕ). Meant (tree q)) same meant)) ];
    once = lists.once;
  })
  lists_add done next ns p true lists new fresh stale old is only = record {
    each = λ v h. elim (or_cases _ _ (sym (has-append v ns (tree p ∷ [])) ∙ h)) [
      | inl before ↦ let r = lists.each v before in (r.0, (r.1.0, old r.1.0 r.1.1, r.1.2))
      | inr last ↦ let same = one_number (tree p) v last in (subst Meant same (fresh refl), (p, is, same))
    ];
    all = λ r is_next meant. has-append (tree r) ns (tree p ∷ []) ∙ elim (only r is_next meant) [
      | inl was_done ↦ or_left _ _ (lists.all r was_done meant)
      | inr same ↦ or_right _ _ (subst (λ (q : List ℕ). has_number (tree q) (tree p ∷ []) ≡ true) (sym same) (here (tree p) []))
    ];
    once = append_differ ns (tree p ∷ []) lists.once (refl, tt) (λ v before last.
        let r = lists.each v before in
        let same = one_number (tree p) v last in
        let real = real_block v r.0 in
        let path = one_path a (length a) id.block (content_of d) was.root m.object draft.tree r.1.0 p (held a v) (held a v) (ap (held_at a) r.1.2 ∙ held_there a v real) (ap (held_at a) same ∙ held_there a v real) refl in
        new (subst done path r.1.1));
  }

  pub lists_as : (done next : List ℕ → Type 0) (ns : List ℕ) → Lists done ns → ((r : List ℕ) → done r → next r) → ((r : List ℕ) → next r → Meant (tree r) → done r) → Lists next ns
  lists_as done next ns lists old only = record { each = λ v h. let r = lists.each v h in (r.0, (r.1.0, old r.1.0 r.1.1, r.1.2)); all = λ r is meant. lists.all r (only r is meant) meant; once = lists.once }

  -- ---- node after node

  module _ (f : ℕ) (some : 0 < length a) (tell : Tell (is_meant_for a id.block) (tree_in a (content_of d)) was.leaves was.nodes) where
    fresh_meant : (p : List ℕ) (b : Bool) → b ≡ passes (is_meant_for a id.block) ((tree_in a (content_of d)).below p) → (b ≡ true → Meant (tree p)) × (b ≡ false → Meant (tree p) → ⊥)
    fresh_meant p b is = (
      λ fresh. (fresh_there a g holds id o at has d draft p (sym is ∙ fresh)).1,
      λ stale meant. both_ways _ (unfresh a g holds id o at has d draft some p (sym is ∙ stale)) meant,
    )

    passes_meant : (p : List ℕ) → Meant (tree p) → passes (is_meant_for a id.block) ((tree_in a (content_of d)).below p) ≡ true
    passes_meant p meant = ap (passes (is_meant_for a id.block)) (held_there a (tree p) (real_block (tree p) meant)) ∙ meant

    -- past the node is past the one before it
    sooner : (n : ℕ) (r : List ℕ) → IsPathPast (leaf_pointers.count * (n + 1)) r → IsPathPast (leaf_pointers.count * n) r
    sooner n [] past = past
    sooner n (k ∷ []) past = omega (arith, past)
    sooner n (k ∷ j ∷ []) (inl past) = inl (omega (arith, past))
    sooner n (k ∷ j ∷ []) (inr past) = inl (omega (arith, past.0))
    sooner n (k ∷ j ∷ i ∷ q) past = past

    -- a path between the two is that of the node or of a leaf of it
    data Within (n : ℕ) (r : List ℕ) : Type 0 where
      Before : Upto f n r → Within n r
      Node : r ≡ n ∷ [] → f ≤ leaf_pointers.count * n → Within n r
      Leaf : (j : ℕ) → r ≡ n ∷ j ∷ [] → f ≤ leaf_pointers.count * n + j → Within n r

    within : (n : ℕ) (r : List ℕ) → Upto f (n + 1) r → Within n r
    within n [] is = absurd is.0
    within n (k ∷ []) is = elim (cases_lt k n) [
      | inl less ↦ Before (is.0, λ past. omega (arith, past, less))
      | inr more ↦ let same : k ≡ n = omega (arith, more, node_end n k is.1) in Node (ap (λ (i : ℕ). i ∷ []) same) (omega (arith, is.0, same))
    ]
      where
        node_end : (n k : ℕ) → (leaf_pointers.count * (n + 1) ≤ leaf_pointers.count * k → ⊥) → k ≤ n
        node_end n k never = elim (cases_lt n k) [ inl more ↦ absurd (never (omega (arith, more))) | inr less ↦ less ]
    within n (k ∷ j ∷ []) is = elim (cases_lt k n) [
      | inl less ↦ Before (is.0, λ past. elim past [ inl p ↦ omega (arith, p, less) | inr p ↦ omega (arith, p.0, less) ])
      | inr more ↦ elim (cases_lt n k) [
        | inl after ↦ absurd (is.1 (elim (cases_lt (n + 1) k) [ inl far ↦ inl (omega (arith, far)) | inr near ↦ inr (omega (arith, near, after), omega arith) ]))
        | inr less ↦
            let same : k ≡ n = omega (arith, more, less) in
            Leaf j (ap (λ (i : ℕ). i ∷ j ∷ []) same) (elim is.0 [ inl p ↦ omega (arith, p, same) | inr p ↦ omega (arith, p.0, p.1, same) ])
      ]
    ]
    within n (k ∷ j ∷ i ∷ q) is = absurd is.0

    -- a node that isn't fresh has no fresh leaf
    pub node_skipped : (n : ℕ) (ns : List ℕ) → n < node_pointers.count → is_fresh_node was n ≡ false → Lists (Upto f n) ns → Lists (Upto f (n + 1)) ns
    node_skipped n ns few stale lists = lists_as (Upto f n) (Upto f (n + 1)) ns lists (λ r is. (is.0, λ later. is.1 (sooner n r later))) (λ r is meant. by r meant (within n r is))
      where
        none : Meant (tree (n ∷ [])) → ⊥
        none meant = both_ways _ stale (tell.node n few ∙ passes_meant (n ∷ []) meant)

        by : (r : List ℕ) → Meant (tree r) → Within n r → Upto f n r
        by r meant (Before is) = is
        by r meant (Node is from) = absurd (none (subst (λ (q : List ℕ). Meant (tree q)) is meant))
        by r meant (Leaf j is from) = absurd (both_ways _ stale (tell.node n few ∙ node_of_fresh a g holds id o at has d draft n j (passes_meant (n ∷ j ∷ []) (subst (λ (q : List ℕ). Meant (tree q)) is meant))))

    module _ (n : ℕ) (few : n < node_pointers.count) (reached : f < leaf_pointers.count * (n + 1)) (leaves : List ℕ) (read : leaves ≡ leaves_at a (pointer_to_node was.root n)) (fresh : is_fresh_node was n ≡ true) (ns : List ℕ) (lists : Lists (Upto f n) ns) where
      abbrev place : ℕ
      place = f - leaf_pointers.count * n

      -- so many leaves of the node are done
      abbrev Done : ℕ → List ℕ → Type 0
      Done k r = (Upto f n r ⊎ ((r ≡ n ∷ []) × (place ≡ 0))) ⊎ ((j : ℕ) × (j < k) × (r ≡ n ∷ (place + j) ∷ []))

      first : Lists (Done 0) (ns ++ list_if (place == 0) (pointer_to_node was.root n))
      first = elim (cases_Bool (place == 0)) [
        | inl whole ↦
            let zero_place = eqb-true place 0 whole in
            let fresh_is = fresh_meant (n ∷ []) true (sym fresh ∙ tell.node n few) in
            subst (λ (b : Bool). Lists (Done 0) (ns ++ list_if b (pointer_to_node was.root n))) (sym whole) (subst (λ (v : ℕ). Lists (Done 0) (ns ++ v ∷ [])) (node_at a was.root draft.tree.spelled.good.0 n)
            (lists_add (Upto f n) (Done 0) ns (n ∷ []) true lists (λ is. is.1 (omega arith)) fresh_is.0 fresh_is.1 (λ r is. inl (inl is)) (inl (inr (refl, zero_place)))
            (λ r is meant. elim is [ inl one ↦ elim one [ inl was_done ↦ inl was_done | inr here_is ↦ inr here_is.0 ] | inr j ↦ absurd (omega (arith, j.1)) ])))
        | inr inside ↦
            let some_place = eqb-false place 0 inside in
            subst (λ (b : Bool). Lists (Done 0) (ns ++ list_if b (pointer_to_node was.root n))) (sym inside) (subst (Lists (Done 0)) (sym (append-nil ns))
            (lists_as (Upto f n) (Done 0) ns lists (λ r is. inl (inl is)) (λ r is meant. elim is [ inl one ↦ elim one [ inl was_done ↦ was_done | inr here_is ↦ absurd (some_place here_is.1) ] | inr j ↦ absurd (omega (arith, j.1)) ])))
      ]

      leaf_flag : (j : ℕ) → j < leaf_pointers.count → get_or was.leaves (leaf_pointers.count * n + j) false ≡ passes (is_meant_for a id.block) ((tree_in a (content_of d)).below (n ∷ j ∷ []))
      leaf_flag j less =
          let one : (leaf_pointers.count * n + j) / leaf_pointers.count ≡ n = omega (arith, less) in
          let two : (leaf_pointers.count * n + j) % leaf_pointers.count ≡ j = omega (arith, less) in
          tell.leaf (leaf_pointers.count * n + j) (omega (arith, few, less)) ∙ (λ i. passes (is_meant_for a id.block) ((tree_in a (content_of d)).below (one i ∷ two i ∷ [])))

      leaf_is : (j : ℕ) → tree (n ∷ j ∷ []) ≡ slice_index leaves j
      leaf_is j = read_leaf_is a was.root draft.tree.spelled.good.0 n j leaves read

      leaves_done : (k : ℕ) → place + k ≤ leaf_pointers.count → Lists (Done k) ((ns ++ list_if (place == 0) (pointer_to_node was.root n)) ++ fresh_in was.leaves leaves n place k)
      leaves_done zero room = subst (Lists (Done 0)) (sym (ap (λ (xs : List ℕ). (ns ++ list_if (place == 0) (pointer_to_node was.root n)) ++ xs) (none_in was.leaves leaves n place) ∙ append-nil (ns ++ list_if (place == 0) (pointer_to_node was.root n)))) first
      leaves_done (suc k) room =
          let b = get_or was.leaves (leaf_pointers.count * n + (place + k)) false in
          let so_far = (ns ++ list_if (place == 0) (pointer_to_node was.root n)) ++ fresh_in was.leaves leaves n place k in
          let fresh_is = fresh_meant (n ∷ (place + k) ∷ []) b (leaf_flag (place + k) (omega (arith, room))) in
          let added = lists_add (Done k) (Done (suc k)) so_far (n ∷ (place + k) ∷ []) b (leaves_done k (omega (arith, room))) (λ is. not_done k is) fresh_is.0 fresh_is.1 (λ r is. further k r is) (inr (k, omega arith, refl)) (λ r is meant. last k r is) in
          subst (Lists (Done (suc k))) ((λ i. so_far ++ list_if b (leaf_is (place + k) i)) ∙ append_assoc (ns ++ list_if (place == 0) (pointer_to_node was.root n)) (fresh_in was.leaves leaves n place k) (list_if b (slice_index leaves (place + k)))
          ∙ ap (λ (xs : List ℕ). (ns ++ list_if (place == 0) (pointer_to_node was.root n)) ++ xs) (sym (more_in was.leaves leaves n place k (suc k) (omega arith)))) added
        where
          not_done : (k : ℕ) → Done k (n ∷ (place + k) ∷ []) → ⊥
          not_done k (inl (inl is)) = is.1 (inr (omega arith, omega arith))
          not_done k (inl (inr is)) = let e = is.0 in cc
          not_done k (inr j) = let same : place + k ≡ place + j.0 = (let e = j.2 in cc) in omega (arith, same, j.1)

          further : (k : ℕ) (r : List ℕ) → Done k r → Done (suc k) r
          further k r (inl is) = inl is
          further k r (inr j) = inr (j.0, omega (arith, j.1), j.2)

          last : (k : ℕ) (r : List ℕ) → Done (suc k) r → Done k r ⊎ (r ≡ n ∷ (place + k) ∷ [])
          last k r (inl is) = inl (inl is)
          last k r (inr j) = elim (cases_lt j.0 k) [
            | inl less ↦ inl (inr (j.0, less, j.2))
            | inr more ↦ let same : j.0 ≡ k = omega (arith, more, j.1) in inr (j.2 ∙ ap (λ (i : ℕ). n ∷ (place + i) ∷ []) same)
          ]

      pub node_listed : Lists (Upto f (n + 1)) (ns ++ (list_if (place == 0) (pointer_to_node was.root n) ++ fresh_in was.leaves leaves n place (leaf_pointers.count - place)))
      node_listed = subst (Lists (Upto f (n + 1))) (append_assoc ns (list_if (place == 0) (pointer_to_node was.root n)) (fresh_in was.leaves leaves n place (leaf_pointers.count - place)))
          (lists_as (Done (leaf_pointers.count - place)) (Upto f (n + 1)) _ (leaves_done (leaf_pointers.count - place) (omega (arith, reached))) (λ r is. upto r is) (λ r is meant. by r meant (within n r is)))
        where
          upto : (r : List ℕ) → Done (leaf_pointers.count - place) r → Upto f (n + 1) r
          upto r (inl (inl is)) = (is.0, λ later. is.1 (sooner n r later))
          upto r (inl (inr is)) = subst (Upto f (n + 1)) (sym is.0) (omega (arith, is.1), λ past. omega (arith, past))
          upto r (inr j) = subst (Upto f (n + 1)) (sym j.2) (
            elim (cases_lt (f / leaf_pointers.count) n) [ inl after ↦ inl after | inr near ↦ inr (omega (arith, near, reached), omega (arith, near, reached)) ],
            λ past. elim past [ inl p ↦ omega (arith, p) | inr p ↦ omega (arith, p.0) ],
          )

          by : (r : List ℕ) → Meant (tree r) → Within n r → Done (leaf_pointers.count - place) r
          by r meant (Before is) = inl (inl is)
          by r meant (Node is from) = inl (inr (is, omega (arith, from)))
          by r meant (Leaf j is from) = elim (cases_lt j leaf_pointers.count) [
            | inl less ↦ let here_is : j ≡ place + (j - place) = omega (arith, from) in inr (j - place, omega (arith, less, from, reached), is ∙ ap (λ (i : ℕ). n ∷ i ∷ []) here_is)
            | inr past ↦
                let none : tree (n ∷ j ∷ []) ≡ 0 = leaf_is j ∙ get_or_past leaves j 0 (omega (arith, past, ap (length {A = ℕ}) read, length-leaves a (pointer_to_node was.root n))) in
                absurd (real_block (tree r) meant (ap tree is ∙ none))
          ]

    -- all are listed
    pub all_listed : (ns : List ℕ) → Lists (Upto f node_pointers.count) ns → AreShed a id d f ns
    all_listed ns lists = record {
      each = λ v h. let r = lists.each v h in record { meant = r.0; path = r.1.0; past = r.1.1.0; there = r.1.2 };
      all = λ v is. subst (λ (w : ℕ). has_number w ns ≡ true) is.there
          (lists.all is.path (is.past, λ far. real_block v is.meant (sym is.there ∙ nowhere is.path far)) (subst Meant (sym is.there) is.meant));
      once = once_from ns lists.once;
    }
      where
        no_node : (k : ℕ) → node_pointers.count ≤ k → slice_index was.root.nodes k ≡ 0
        no_node k far = get_or_past was.root.nodes k 0 (omega (arith, far, draft.tree.spelled.good.0.count))

        nowhere : (p : List ℕ) → IsPathPast (leaf_pointers.count * node_pointers.count) p → tree p ≡ 0
        nowhere [] far = absurd far
        nowhere (k ∷ []) far = node_at a was.root draft.tree.spelled.good.0 k ∙ no_node k (omega (arith, far))
        nowhere (k ∷ j ∷ []) far = leaf_at a was.root draft.tree.spelled.good.0 k j ∙ ap (λ (p : ℕ). leaf_from a p j) (no_node k (elim far [ inl more ↦ omega (arith, more) | inr at_end ↦ omega (arith, at_end.0) ]))
        nowhere (k ∷ j ∷ i ∷ q) far = absurd far
