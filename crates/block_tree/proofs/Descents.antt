-- The nodes that were read along a path are those of the tree.
use Rattle.std.proofs.Common.{◌≡◌, ◌≢◌, inl, inr, ℕ, zero, suc, ◌+◌, ◌-◌, ◌*◌, ◌/◌, ◌%◌, ◌<◌, ◌≤◌, ◌^◌, List, [], ◌∷◌, ◌++◌, length, get_or, get_or-set_other, get_or-set_same, set, take, drop, refl, sym, ◌∙◌, ap, subst, arith}
use Rattle.std.proofs.lemmas.List.{length-replicate}
use Rattle.block_tree.proofs.Words.{All-get_or, Fits, Ghosts, Image, IsNode, Level, Node, OnlyReads, Root, block_at, cases_eq, cases_lt, div_below, drop_all, drop_more, end_of, get_or_past, leaf_block, leaf_limit, leaf_pointers, leaves_at, length-take, levels_below, levels_of, mod-lt, node_levels, node_pointers, node_spelling, path_to, pointer, pointers_of, stopped_after_reads, tells_on, root_spelling, take_all, take_more, tree_of, width}
use Rattle.block_tree.proofs.Nodes.{leaves_there, pointed}
use Rattle.block_tree.proofs.Trees.{end_is, node_is}
use Rattle.block_tree.proofs.Spellings.{leaves_of, nodes_of}
use Rattle.std.proofs.Math.Path.{fun_ext}
use Rattle.std.proofs.Math.ListN.{length-set}
use Rattle.block_tree.specs.Along.{ArePut, CutsAlong, CutsRootPast, FarBelow, FarTop, IsTo, IsWay, IsWayTrouble, IsWayWithin, holder_on, pointer_on, pointers_at}
use Rattle.block_tree.specs.Path.{IsGoodWay, IsPath, SamePlaces, no_node, path_of}
use Rattle.block_tree.specs.Reads.{Far, FarLeaf, IsNodeTrouble, IsPast}
use Rattle.block_tree.specs.Way.{CutsAt, CutsPast, CutsTo, LeadsTo, SetsOne, pointers_in}
use Rattle.block_tree.specs.declared.along.Way.{Way}
use Rattle.cfs_base.specs.Codes.{past_disk}
use Rattle.cfs_base.specs.declared.refusal.Damage.{Damage}
use Rattle.cfs_base.specs.declared.refusal.Trouble.{Trouble}
use Rattle.cfs_base.specs.declared.refusal.Trouble.TheVariants as trouble

-- ---- paths

pub some_width : (h : ℕ) → 0 < width (levels_below h)
some_width zero = omega arith
some_width (suc h) = let rest = some_width h in omega (arith, rest)

-- each place is one of its level's
pub places_below : (h n : ℕ) → n < width (levels_below h) → (d : ℕ) → get_or (path_to (levels_below h) n) d 0 < leaf_pointers.count
unfolding path_to
places_below zero n small d = omega arith
places_below (suc h) n small zero = div_below n (width (levels_below h)) leaf_pointers.count (some_width h) small
places_below (suc h) n small (suc d) = places_below h (n % width (levels_below h)) (mod-lt n {m = width (levels_below h)} (some_width h)) d

pub places : (leaf : ℕ) → leaf < leaf_limit → IsPath (path_of leaf)
unfolding path_to
places leaf small = record {
  top = div_below leaf (width (levels_below node_levels)) node_pointers.count (some_width node_levels) small;
  rest = places_below node_levels (leaf % width (levels_below node_levels)) (mod-lt leaf {m = width (levels_below node_levels)} (some_width node_levels));
}

pub length-path_to : (levels : List Level) (n : ℕ) → length (path_to levels n) ≡ length levels
unfolding path_to
length-path_to [] n = refl
length-path_to (l ∷ levels) n = omega (arith, length-path_to levels (n % width levels))

pub length-path : (leaf : ℕ) → length (path_of leaf) ≡ node_levels + 1
length-path leaf = omega (arith, length-path_to (node_pointers ∷ levels_below node_levels) leaf, length-replicate node_levels leaf_pointers)

-- ---- a path, place by place

-- the levels from a depth on
abbrev pub levels_from : ℕ → List Level
levels_from zero = node_pointers ∷ levels_below node_levels
levels_from (suc d) = levels_below (node_levels - d)

levels_is : (d : ℕ) → d ≤ node_levels → (l : Level) × (levels_from d ≡ l ∷ levels_below (node_levels - d))
levels_is zero few = (node_pointers, ap (λ (h : ℕ). node_pointers ∷ levels_below h) (let e : node_levels ≡ node_levels - 0 = omega arith in e))
levels_is (suc d) few = (leaf_pointers, ap levels_below (let e : node_levels - d ≡ suc (node_levels - suc d) = omega (arith, few) in e))

-- of a leaf's path the places from a depth on are those of the rest
abbrev pub IsRest : (leaf d rest : ℕ) → Type 0
IsRest leaf d rest = (i : ℕ) → get_or (path_of leaf) (d + i) 0 ≡ get_or (path_to (levels_from d) rest) i 0

pub record GoesDown (leaf d rest w : ℕ) : Type 0 where
  pub place : get_or (path_of leaf) d 0 ≡ rest / w
  pub rest_is : IsRest leaf (d + 1) (rest % w)
  pub small : rest % w < width (levels_from (d + 1))

pub goes_down : (leaf d rest w : ℕ) → d ≤ node_levels → IsRest leaf d rest → w ≡ width (levels_below (node_levels - d)) → GoesDown leaf d rest w
unfolding path_to
goes_down leaf d rest w few is wide = record {
  place = ap (λ (i : ℕ). get_or (path_of leaf) i 0) (let e : d ≡ d + 0 = omega arith in e) ∙ is 0 ∙ (λ i. get_or (path_to (this.1 i) rest) 0 0) ∙ ap (λ (v : ℕ). rest / v) (sym wide);
  rest_is = λ i. ap (λ (j : ℕ). get_or (path_of leaf) j 0) (let e : d + 1 + i ≡ d + suc i = omega arith in e) ∙ is (suc i) ∙ (λ j. get_or (path_to (this.1 j) rest) (suc i) 0)
      ∙ ap (λ (v : ℕ). get_or (path_to (levels_below (node_levels - d)) (rest % v)) i 0) (sym wide) ∙ ap (λ (ls : List Level). get_or (path_to ls (rest % w)) i 0) below;
  small = subst (λ (ls : List Level). rest % w < width ls) below (subst (λ (v : ℕ). rest % w < v) wide (mod-lt rest {m = w} (subst (λ (v : ℕ). 0 < v) (sym wide) (some_width (node_levels - d)))));
}
  where
    this : (l : Level) × (levels_from d ≡ l ∷ levels_below (node_levels - d))
    this = levels_is d few

    below : levels_below (node_levels - d) ≡ levels_from (d + 1)
    below = ap levels_from (let e : suc d ≡ d + 1 = omega arith in e)

-- a level wider, and a level narrower
pub wider : (h g w : ℕ) → h ≡ suc g → w ≡ width (levels_below h) → w ≡ leaf_pointers.count * width (levels_below g)
wider h g w more wide = wide ∙ ap (λ (n : ℕ). width (levels_below n)) more

pub narrower : (h g w : ℕ) → h ≡ suc g → w ≡ width (levels_below h) → w / leaf_pointers.count ≡ width (levels_below g)
narrower h g w more wide = let is = wider h g w more wide in omega (arith, is)

-- ---- one place more

end_more : (image : Image) (h n k : ℕ) (path : List ℕ) → length path < h → end_of image (levels_below h) n (path ++ k ∷ []) ≡ pointers_in image leaf_pointers (end_of image (levels_below h) n path) k
end_more image zero n k path short = absurd (omega (arith, short))
end_more image (suc h) zero k [] short = refl
end_more image (suc h) (suc n) k [] short = refl
end_more image (suc h) zero k (j ∷ path) short = refl
end_more image (suc h) (suc n) k (j ∷ path) short = end_more image h (pointer leaf_pointers (block_at image (suc n)) j) k path (omega (arith, short))

tree_more : (image : Image) (root path : List ℕ) (k : ℕ) → 0 < length path → length path ≤ node_levels → tree_of image root (path ++ k ∷ []) ≡ get_or (leaves_at image (tree_of image root path)) k 0
unfolding levels_of
tree_more image root [] k some few = absurd (omega (arith, some))
tree_more image root (j ∷ path) k some few = end_more image node_levels (pointer node_pointers root j) k path (omega (arith, few)) ∙ pointed image (end_of image (levels_below node_levels) (pointer node_pointers root j) path) k

-- a root as it is in memory: the pointer at the path's first place is a number of 4 bytes
pub record HasTop (root : Root) (way : Way) : Type 0 where
  pub count : length root.nodes ≡ node_pointers.count
  pub long : length way.path ≡ node_levels + 1
  pub place : get_or way.path 0 0 < node_pointers.count
  pub small : get_or root.nodes (get_or way.path 0 0) 0 < 2 ^ 32

top_is : (image : Image) (root : Root) (path : List ℕ) → length root.nodes ≡ node_pointers.count → get_or path 0 0 < node_pointers.count → get_or root.nodes (get_or path 0 0) 0 < 2 ^ 32 → 0 < length path
    → get_or root.nodes (get_or path 0 0) 0 ≡ tree_of image (root_spelling root) (take 1 path)
unfolding levels_of
top_is image root [] count place small some = absurd (omega (arith, some))
top_is image root (k ∷ path) count place small some = sym (node_is root k count place small)

-- the pointer at a depth is that of the tree
pub on_way : (image : Image) (root : Root) (way : Way) → HasTop root way → IsWay image root way → (d : ℕ) → d ≤ way.read → way.read ≤ node_levels
    → pointer_on root way d ≡ tree_of image (root_spelling root) (take (d + 1) way.path)
on_way image root way top is zero within most = top_is image root way.path top.count top.place top.small (omega (arith, top.long))
on_way image root way top is (suc d) within most =
    let long = top.long in
    let here = get_or way.path (suc d) 0 in
    let up = on_way image root way top is d (omega (arith, within)) most in
    let short : length (take (d + 1) way.path) ≡ d + 1 = length-take (d + 1) way.path ∙ (omega (arith, long, within, most)) in
    ap (λ (ns : List ℕ). get_or ns here 0) (is d (omega (arith, within)) ∙ ap (leaves_at image) up)
    ∙ sym (tree_more image (root_spelling root) (take (d + 1) way.path) here (omega (arith, short)) (omega (arith, short, within, most)))
    ∙ ap (tree_of image (root_spelling root)) (sym (take_more way.path (d + 1) 0 (omega (arith, long, within, most)) ∙ ap (λ (i : ℕ). take (d + 1) way.path ++ get_or way.path i 0 ∷ []) (let e : d + 1 ≡ suc d = omega arith in e)) ∙ ap (λ (i : ℕ). take i way.path) (let e : d + 1 + 1 ≡ suc d + 1 = omega arith in e))

-- the last of them is the leaf's block
pub leaf_on : (image : Image) (root : Root) (way : Way) (leaf : ℕ) → HasTop root way → IsWay image root way → IsTo leaf way → pointer_on root way node_levels ≡ leaf_block image (root_spelling root) leaf
unfolding levels_of
leaf_on image root way leaf top is to =
    on_way image root way top is node_levels (omega (arith, to.whole)) (omega (arith, to.whole))
    ∙ ap (tree_of image (root_spelling root)) (take_all (node_levels + 1) way.path (omega (arith, top.long)) ∙ to.path)

-- another path that shares so many places
pub turned : (image : Image) (root : Root) (old : Way) (path : List ℕ) (n : ℕ) → n ≤ old.read → SamePlaces n old.path path → IsWay image root old
    → (d : ℕ) → d < n → (get_or old.nodes d no_node).leaves ≡ leaves_at image (get_or (pointers_at root old d) (get_or path d 0) 0)
turned image root old path n most same is d less = is d (omega (arith, less, most)) ∙ ap (λ (k : ℕ). leaves_at image (get_or (pointers_at root old d) k 0)) (same d less)

-- ---- one node more

-- the next node was read: from the old way to the new one
module _ (root : Root) (old new : Way) (node : Node) (nodes_are : new.nodes ≡ set old.nodes old.read node) (path_is : new.path ≡ old.path) (inside : old.read < length old.nodes) where
  node_other : (d : ℕ) → d ≢ old.read → get_or new.nodes d no_node ≡ get_or old.nodes d no_node
  node_other d other = ap (λ (ns : List Node). get_or ns d no_node) nodes_are ∙ get_or-set_other old.nodes old.read d node no_node other

  node_here : (d : ℕ) → d ≡ old.read → get_or new.nodes d no_node ≡ node
  node_here d is = ap (λ (ns : List Node). get_or ns d no_node) nodes_are ∙ ap (λ (i : ℕ). get_or (set old.nodes old.read node) i no_node) is ∙ get_or-set_same old.nodes old.read node no_node inside

  same_on : (d : ℕ) → d ≤ old.read → pointer_on root new d ≡ pointer_on root old d
  same_on zero within = ap (λ (p : List ℕ). get_or root.nodes (get_or p 0 0) 0) path_is
  same_on (suc d) within = (λ i. get_or (node_other d (λ is. omega (arith, is, within)) i).leaves (get_or (path_is i) (suc d) 0) 0)

  pub each_node : (P : Node → Type 0) (most : ℕ) → P node → ((d : ℕ) → d < most → d ≢ old.read → P (get_or old.nodes d no_node)) → (d : ℕ) → d < most → P (get_or new.nodes d no_node)
  each_node P most here others d less = elim (cases_eq d old.read) [
    | inl is ↦ subst P (sym (node_here d is)) here
    | inr other ↦ subst P (sym (node_other d other)) (others d less other)
  ]

  pub read_more : (image : Image) → new.read ≡ old.read + 1 → node.leaves ≡ leaves_at image (pointer_on root old old.read) → IsWay image root old → IsWay image root new
  read_more image more fresh is d less = elim (cases_eq d old.read) [
    | inl at ↦ ap (λ (n : Node). n.leaves) (node_here d at) ∙ fresh ∙ ap (leaves_at image) (ap (pointer_on root old) (sym at) ∙ sym (same_on d (omega (arith, at))))
    | inr other ↦ ap (λ (n : Node). n.leaves) (node_other d other) ∙ is d (omega (arith, less, more, other)) ∙ ap (leaves_at image) (sym (same_on d (omega (arith, less, more))))
  ]

-- a node more, and the way with it
pub good_more : (old : Way) (node : Node) → IsNode node → old.read < node_levels → old.read < length old.nodes → IsGoodWay old.path (set old.nodes old.read node) (old.read + 1)
good_more old node is more inside = record {
  places = old.good.places;
  each = λ d less. elim (cases_eq d old.read) [
    | inl same ↦ subst IsNode (sym (ap (λ (i : ℕ). get_or (set old.nodes old.read node) i no_node) same ∙ get_or-set_same old.nodes old.read node no_node inside)) is
    | inr other ↦ subst IsNode (sym (get_or-set_other old.nodes old.read d node no_node other)) (old.good.each d less)
  ];
  most = omega (arith, more);
}

abbrev pub more_read : (old : Way) (node : Node) → IsGoodWay old.path (set old.nodes old.read node) (old.read + 1) → Way
more_read old node good = record { path = old.path; nodes = set old.nodes old.read node; read = old.read + 1; good = good }

-- why a node isn't read
pub way_trouble : {D : Type 0} (g : Ghosts D) (at : ℕ) (root : Root) (way : Way) (holder d : ℕ) (old new : D) (t : Trouble) → d ≤ way.read → IsWayWithin (g.blocks old) way → 0 < g.blocks old → holder ≡ holder_on at root way d
    → IsNodeTrouble g (pointer_on root way d) holder old new t → IsWayTrouble g at root old new t
way_trouble g at root way holder d old new (trouble.Disk tried) below within some is why = why
way_trouble g at root way holder zero old new (trouble.Damaged damage) below within some is (Far says past) = FarTop (get_or way.path 0 0) (says ∙ ap (λ (b : ℕ). record { block = b; code = past_disk }) is) past
way_trouble g at root way holder (suc d) old new (trouble.Damaged damage) below within some is (Far says past) =
    let leaves = (get_or way.nodes d no_node).leaves in
    let place = get_or way.path (suc d) 0 in
    let near : get_or leaves place 0 < g.blocks old = elim (cases_lt place (length leaves)) [
      | inl inside ↦ All-get_or (λ n. n < g.blocks old) leaves place 0 inside (within d (omega (arith, below)))
      | inr out ↦ omega (arith, get_or_past leaves place 0 out, some)
    ] in
    absurd (omega (arith, near, past.1))
way_trouble g at root way holder d old new (trouble.Damaged damage) below within some is (FarLeaf says far) = FarBelow (ap (λ (x : Damage). x.code) says) (λ tells. rw (ap (λ (x : Damage). x.block) says) (far tells))

pub way_trouble_after : {D : Type 0} (g : Ghosts D) (at : ℕ) (root : Root) (old mid new : D) (n : ℕ) (t : Trouble) → OnlyReads g n old mid → IsWayTrouble g at root mid new t → IsWayTrouble g at root old new t
way_trouble_after g at root old mid new n (trouble.Disk tried) reads why = (why.0, stopped_after_reads g old mid new n tried reads why.1)
way_trouble_after g at root old mid new n (trouble.Damaged damage) reads (FarTop k says past) = FarTop k says (subst (λ (size : ℕ). IsPast size (get_or root.nodes k 0)) reads.same.size past)
way_trouble_after g at root old mid new n (trouble.Damaged damage) reads (FarBelow code why) =
    FarBelow code (λ tells. let far = why (tells_on g old mid new n reads tells) in (far.0, subst (λ (i : Image). g.blocks old ≤ get_or (pointers_of leaf_pointers (block_at i damage.block)) far.0 0) reads.content (omega (arith, reads.same.size, far.1))))

-- the last pointer is below a size of which all are
pub last_below : (size : ℕ) (root : Root) (way : Way) → IsWayWithin size way → 0 < size → way.read ≡ node_levels → pointer_on root way node_levels < size
last_below size root way within some whole =
    let leaves = (get_or way.nodes 0 no_node).leaves in
    let place = get_or way.path 1 0 in
    elim (cases_lt place (length leaves)) [
      | inl inside ↦ All-get_or (λ n. n < size) leaves place 0 inside (within 0 (omega (arith, whole)))
      | inr out ↦ omega (arith, get_or_past leaves place 0 out, some)
    ]

-- ---- other blocks put along a path

-- a node has the next of the blocks at its place
abbrev pub OneAt : (olds nows : List Node) (path blocks : List ℕ) → ℕ → Type 0
OneAt olds nows path blocks d =
    SetsOne (pointer leaf_pointers (node_spelling (get_or olds d no_node))) (get_or path (suc d) 0) (get_or blocks (suc d) 0) (pointer leaf_pointers (node_spelling (get_or nows d no_node)))

pub one_more_at : (olds nows : List Node) (path blocks : List ℕ) (k : ℕ) (node : Node) → k < length nows → get_or nows k no_node ≡ get_or olds k no_node
    → SetsOne (pointer leaf_pointers (node_spelling (get_or nows k no_node))) (get_or path (k + 1) 0) (get_or blocks (k + 1) 0) (pointer leaf_pointers (node_spelling node)) → ((i : ℕ) → i < k → OneAt olds nows path blocks i)
    → (i : ℕ) → i < k + 1 → OneAt olds (set nows k node) path blocks i
one_more_at olds nows path blocks k node inside same one before i less = elim (cases_eq i k) [
  | inl is ↦
      let put : get_or (set nows k node) i no_node ≡ node = ap (λ (j : ℕ). get_or (set nows k node) j no_node) is ∙ get_or-set_same nows k node no_node inside in
      let was : get_or nows k no_node ≡ get_or olds i no_node = same ∙ ap (λ (j : ℕ). get_or olds j no_node) (sym is) in
      subst (λ (n : Node). SetsOne (pointer leaf_pointers (node_spelling (get_or olds i no_node))) (get_or path (suc i) 0) (get_or blocks (suc i) 0) (pointer leaf_pointers (node_spelling n))) (sym put)
      (subst (λ (m : Node). SetsOne (pointer leaf_pointers (node_spelling m)) (get_or path (suc i) 0) (get_or blocks (suc i) 0) (pointer leaf_pointers (node_spelling node))) was
      (subst (λ (j : ℕ). SetsOne (pointer leaf_pointers (node_spelling (get_or nows k no_node))) (get_or path j 0) (get_or blocks j 0) (pointer leaf_pointers (node_spelling node))) (let e : k + 1 ≡ suc i = omega (arith, is) in e) one))
  | inr other ↦
      subst (λ (n : Node). SetsOne (pointer leaf_pointers (node_spelling (get_or olds i no_node))) (get_or path (suc i) 0) (get_or blocks (suc i) 0) (pointer leaf_pointers (node_spelling n)))
      (sym (get_or-set_other nows k i node no_node other)) (before i (omega (arith, less, other)))
]

module _ (a b : Image) (root next : Root) (old new : Way) (blocks : List ℕ) where
  -- what each node's pointers were and are, and so those of the root
  abbrev AtNode : ℕ → Type 0
  AtNode d = SetsOne (pointers_in a leaf_pointers (pointer_on root old d)) (get_or old.path (suc d) 0) (get_or blocks (suc d) 0) (pointers_in b leaf_pointers (get_or blocks d 0))

  leads_from : (h d : ℕ) (p q : ℕ → ℕ) → d + h ≡ node_levels → length old.path ≡ node_levels + 1 → length blocks ≡ node_levels + 1 → SetsOne p (get_or old.path d 0) (get_or blocks d 0) q
      → p (get_or old.path d 0) ≡ pointer_on root old d → ((i : ℕ) → i < node_levels → AtNode i)
      → ((i : ℕ) → i < node_levels → pointers_in a leaf_pointers (pointer_on root old i) (get_or old.path (suc i) 0) ≡ pointer_on root old (suc i)) → LeadsTo a b (levels_below h) p q (drop d old.path) (drop d blocks)
  leads_from zero d p q at long wide sets is each down =
      let last : d + 1 ≡ node_levels + 1 = omega (arith, at) in
      let path = drop_more old.path d 0 (omega (arith, long, at)) ∙ ap (λ (r : List ℕ). get_or old.path d 0 ∷ r) (drop_all (d + 1) old.path (omega (arith, long, last))) in
      let put = drop_more blocks d 0 (omega (arith, wide, at)) ∙ ap (λ (r : List ℕ). get_or blocks d 0 ∷ r) (drop_all (d + 1) blocks (omega (arith, wide, last))) in
      subst (λ (r : List ℕ). LeadsTo a b [] p q r (drop d blocks)) (sym path) (subst (λ (r : List ℕ). LeadsTo a b [] p q (get_or old.path d 0 ∷ []) r) (sym put) (sets, refl))
  leads_from (suc h) d p q at long wide sets is each down =
      let k = get_or old.path d 0 in
      let x = get_or blocks d 0 in
      let rest = leads_from h (d + 1) (pointers_in a leaf_pointers (pointer_on root old d)) (pointers_in b leaf_pointers x) (omega (arith, at)) long wide
      (subst (λ (i : ℕ). SetsOne (pointers_in a leaf_pointers (pointer_on root old d)) (get_or old.path i 0) (get_or blocks i 0) (pointers_in b leaf_pointers x)) (let e : suc d ≡ d + 1 = omega arith in e) (each d (omega (arith, at))))
      (subst (λ (i : ℕ). pointers_in a leaf_pointers (pointer_on root old d) (get_or old.path i 0) ≡ pointer_on root old i) (let e : suc d ≡ d + 1 = omega arith in e) (down d (omega (arith, at)))) each down in
      let path = drop_more old.path d 0 (omega (arith, long, at)) in
      let more = drop_more old.path (d + 1) 0 (omega (arith, long, at)) in
      let put = drop_more blocks d 0 (omega (arith, wide, at)) in
      subst (λ (r : List ℕ). LeadsTo a b (leaf_pointers ∷ levels_below h) p q r (drop d blocks)) (sym (path ∙ ap (λ (r : List ℕ). k ∷ r) more))
      (subst (λ (r : List ℕ). LeadsTo a b (leaf_pointers ∷ levels_below h) p q (k ∷ get_or old.path (d + 1) 0 ∷ drop (d + 1 + 1) old.path) r) (sym put) (
        sets,
        subst (λ (n : ℕ). LeadsTo a b (levels_below h) (pointers_in a leaf_pointers n) (pointers_in b leaf_pointers x) (get_or old.path (d + 1) 0 ∷ drop (d + 1 + 1) old.path) (drop (d + 1) blocks)) (sym is)
            (subst (λ (r : List ℕ). LeadsTo a b (levels_below h) (pointers_in a leaf_pointers (pointer_on root old d)) (pointers_in b leaf_pointers x) r (drop (d + 1) blocks)) more rest),
      ))

  module _ (olds : (d : ℕ) → d < node_levels → IsNode (get_or old.nodes d no_node)) (news : (d : ℕ) → d < node_levels → IsNode (get_or new.nodes d no_node)) (ones : (d : ℕ) → d < node_levels → OneAt old.nodes new.nodes old.path blocks d)
      (put : ArePut b new.nodes blocks) (whole : old.read ≡ node_levels) where
    sets_at : IsWay a root old → (d : ℕ) → d < node_levels → AtNode d
    sets_at is d less =
        let k = get_or old.path (suc d) 0 in
        let y = get_or blocks (suc d) 0 in
        let was : pointers_in a leaf_pointers (pointer_on root old d) ≡ pointer leaf_pointers (node_spelling (get_or old.nodes d no_node)) =
        fun_ext (λ j. pointed a (pointer_on root old d) j ∙ ap (λ (ns : List ℕ). get_or ns j 0) (sym (is d (omega (arith, less, whole))) ∙ leaves_of (get_or old.nodes d no_node) (olds d less))) in
        let now : pointers_in b leaf_pointers (get_or blocks d 0) ≡ pointer leaf_pointers (node_spelling (get_or new.nodes d no_node)) =
        fun_ext (λ j. end_is b leaf_pointers (get_or blocks d 0) j (put.some d less) ∙ ap (λ (c : List ℕ). pointer leaf_pointers c j) (put.spelled d less)) in
        subst (λ (p : ℕ → ℕ). SetsOne p k y (pointers_in b leaf_pointers (get_or blocks d 0))) (sym was) (subst (λ (q : ℕ → ℕ). SetsOne (pointer leaf_pointers (node_spelling (get_or old.nodes d no_node))) k y q) (sym now) (ones d less))

    pub put_leads : Fits root → IsWay a root old → SetsOne (pointer node_pointers (root_spelling root)) (get_or old.path 0 0) (get_or blocks 0 0) (pointer node_pointers (root_spelling next))
        → length old.path ≡ node_levels + 1 → length blocks ≡ node_levels + 1 → LeadsTo a b (levels_below node_levels) (pointer node_pointers (root_spelling root)) (pointer node_pointers (root_spelling next)) old.path blocks
    put_leads fits is top long wide =
        leads_from node_levels 0 (pointer node_pointers (root_spelling root)) (pointer node_pointers (root_spelling next)) (omega arith) long wide top
        (ap (λ (ns : List ℕ). get_or ns (get_or old.path 0 0) 0) (sym (nodes_of root fits))) (sets_at is)
        (λ i less. pointed a (pointer_on root old i) (get_or old.path (suc i) 0) ∙ ap (λ (ns : List ℕ). get_or ns (get_or old.path (suc i) 0) 0) (sym (is i (omega (arith, less, whole)))))

    -- the pointers along the path lead to the new blocks
    put_on : get_or next.nodes (get_or old.path 0 0) 0 ≡ get_or blocks 0 0 → new.path ≡ old.path → (d : ℕ) → d ≤ node_levels → pointer_on next new d ≡ get_or blocks d 0
    put_on top path zero within = ap (λ (p : List ℕ). get_or next.nodes (get_or p 0 0) 0) path ∙ top
    put_on top path (suc d) within =
        let node = get_or new.nodes d no_node in
        ap (λ (p : List ℕ). get_or node.leaves (get_or p (suc d) 0) 0) path ∙ ap (λ (ns : List ℕ). get_or ns (get_or old.path (suc d) 0) 0) (leaves_of node (news d (omega (arith, within)))) ∙ (ones d (omega (arith, within))).0

    pub put_way : get_or next.nodes (get_or old.path 0 0) 0 ≡ get_or blocks 0 0 → new.path ≡ old.path → new.read ≡ old.read → IsWay b next new
    put_way top path same d less =
        let inside : d < node_levels = omega (arith, less, same, whole) in
        let node = get_or new.nodes d no_node in
        leaves_of node (news d inside) ∙ ap (pointers_of leaf_pointers) (sym (put.spelled d inside)) ∙ sym (leaves_there b (get_or blocks d 0) (put.some d inside)) ∙ ap (leaves_at b) (sym (put_on top path d (omega (arith, inside))))

-- ---- a path cut

-- what is so of each node up to one is so with that one
pub each_more : (P : ℕ → Node → Type 0) (nows : List Node) (k : ℕ) (node : Node) → k < length nows → P k node → ((i : ℕ) → i < k → P i (get_or nows i no_node)) → (i : ℕ) → i < k + 1 → P i (get_or (set nows k node) i no_node)
each_more P nows k node inside here before i less = elim (cases_eq i k) [
  | inl is ↦ subst (P i) (sym (ap (λ (j : ℕ). get_or (set nows k node) j no_node) is ∙ get_or-set_same nows k node no_node inside)) (subst (λ (j : ℕ). P j node) (sym is) here)
  | inr other ↦ subst (P i) (sym (get_or-set_other nows k i node no_node other)) (before i (omega (arith, less, other)))
]

module _ (a b : Image) (root next : Root) (old new : Way) (place : ℕ) (blocks : List ℕ) where
  -- the path with this place as its last
  abbrev cut_path : List ℕ
  cut_path = set old.path node_levels place

  -- what becomes of pointers that are so many levels above the leaves
  abbrev Cuts : (h d : ℕ) → (ℕ → ℕ) → (ℕ → ℕ) → Type 0
  Cuts zero d p q = CutsAt p place q
  Cuts (suc h) d p q = CutsPast p (get_or old.path d 0) (get_or blocks d 0) q

  cuts_from : (h d : ℕ) (p q : ℕ → ℕ) → d + h ≡ node_levels → length old.path ≡ node_levels + 1 → length blocks ≡ node_levels → Cuts h d p q → (0 < h → p (get_or old.path d 0) ≡ pointer_on root old d)
      → ((g i : ℕ) → i + 1 + g ≡ node_levels → Cuts g (suc i) (pointers_in a leaf_pointers (pointer_on root old i)) (pointers_in b leaf_pointers (get_or blocks i 0)))
      → ((i : ℕ) → i < node_levels → pointers_in a leaf_pointers (pointer_on root old i) (get_or old.path (suc i) 0) ≡ pointer_on root old (suc i)) → CutsTo a b (levels_below h) p q (drop d cut_path) (drop d blocks)
  cuts_from zero d p q at long wide cuts is each down =
      let last : d ≡ node_levels = omega (arith, at) in
      let whole : length cut_path ≡ node_levels + 1 = length-set old.path node_levels place ∙ long in
      let here : get_or cut_path d 0 ≡ place = ap (λ (i : ℕ). get_or cut_path i 0) last ∙ get_or-set_same old.path node_levels place 0 (omega (arith, long)) in
      let path = drop_more cut_path d 0 (omega (arith, whole, last)) ∙ ap (λ (r : List ℕ). get_or cut_path d 0 ∷ r) (drop_all (d + 1) cut_path (omega (arith, whole, last))) ∙ ap (λ (k : ℕ). k ∷ []) here in
      subst (λ (r : List ℕ). CutsTo a b [] p q r (drop d blocks)) (sym path) (subst (λ (r : List ℕ). CutsTo a b [] p q (place ∷ []) r) (sym (drop_all d blocks (omega (arith, wide, last)))) cuts)
  cuts_from (suc h) d p q at long wide cuts is each down =
      let k = get_or old.path d 0 in
      let x = get_or blocks d 0 in
      let whole : length cut_path ≡ node_levels + 1 = length-set old.path node_levels place ∙ long in
      let here : get_or cut_path d 0 ≡ k = get_or-set_other old.path node_levels d place 0 (λ same. omega (arith, same, at)) in
      let top : p k ≡ pointer_on root old d = is (omega arith) in
      let rest = cuts_from h (d + 1) (pointers_in a leaf_pointers (pointer_on root old d)) (pointers_in b leaf_pointers x) (omega (arith, at)) long wide
      (subst (λ (i : ℕ). Cuts h i (pointers_in a leaf_pointers (pointer_on root old d)) (pointers_in b leaf_pointers x)) (let e : suc d ≡ d + 1 = omega arith in e) (each h d (omega (arith, at))))
      (λ some. subst (λ (i : ℕ). pointers_in a leaf_pointers (pointer_on root old d) (get_or old.path i 0) ≡ pointer_on root old i) (let e : suc d ≡ d + 1 = omega arith in e) (down d (omega (arith, at)))) each down in
      let path = drop_more cut_path d 0 (omega (arith, whole, at)) ∙ ap (λ (i : ℕ). i ∷ drop (d + 1) cut_path) here in
      let more = drop_more cut_path (d + 1) 0 (omega (arith, whole, at)) in
      let put = drop_more blocks d 0 (omega (arith, wide, at)) in
      subst (λ (r : List ℕ). CutsTo a b (leaf_pointers ∷ levels_below h) p q r (drop d blocks)) (sym (path ∙ ap (λ (r : List ℕ). k ∷ r) more))
      (subst (λ (r : List ℕ). CutsTo a b (leaf_pointers ∷ levels_below h) p q (k ∷ get_or cut_path (d + 1) 0 ∷ drop (d + 1 + 1) cut_path) r) (sym put) (
        cuts,
        subst (λ (n : ℕ). CutsTo a b (levels_below h) (pointers_in a leaf_pointers n) (pointers_in b leaf_pointers x) (get_or cut_path (d + 1) 0 ∷ drop (d + 1 + 1) cut_path) (drop (d + 1) blocks)) (sym top)
            (subst (λ (r : List ℕ). CutsTo a b (levels_below h) (pointers_in a leaf_pointers (pointer_on root old d)) (pointers_in b leaf_pointers x) r (drop (d + 1) blocks)) more rest),
      ))

  module _ (olds : (d : ℕ) → d < node_levels → IsNode (get_or old.nodes d no_node)) (news : (d : ℕ) → d < node_levels → IsNode (get_or new.nodes d no_node))
      (ones : (d : ℕ) → d < node_levels → CutsAlong old.path blocks place d (get_or old.nodes d no_node) (get_or new.nodes d no_node)) (put : ArePut b new.nodes blocks) (whole : old.read ≡ node_levels) where
    cuts_at : IsWay a root old → (g i : ℕ) → i + 1 + g ≡ node_levels → Cuts g (suc i) (pointers_in a leaf_pointers (pointer_on root old i)) (pointers_in b leaf_pointers (get_or blocks i 0))
    cuts_at is g i at = subst (λ (p : ℕ → ℕ). Cuts g (suc i) p (pointers_in b leaf_pointers (get_or blocks i 0))) (sym was) (subst (Cuts g (suc i) (λ j. get_or (get_or old.nodes i no_node).leaves j 0)) (sym now) (by g at))
      where
        less : i < node_levels
        less = omega (arith, at)

        was : pointers_in a leaf_pointers (pointer_on root old i) ≡ (λ j. get_or (get_or old.nodes i no_node).leaves j 0)
        was = fun_ext (λ j. pointed a (pointer_on root old i) j ∙ ap (λ (ns : List ℕ). get_or ns j 0) (sym (is i (omega (arith, less, whole)))))

        now : pointers_in b leaf_pointers (get_or blocks i 0) ≡ (λ j. get_or (get_or new.nodes i no_node).leaves j 0)
        now = fun_ext (λ j. end_is b leaf_pointers (get_or blocks i 0) j (put.some i less) ∙ ap (λ (c : List ℕ). pointer leaf_pointers c j) (put.spelled i less) ∙ ap (λ (ns : List ℕ). get_or ns j 0) (sym (leaves_of (get_or new.nodes i no_node) (news i less))))

        by : (g : ℕ) → i + 1 + g ≡ node_levels → Cuts g (suc i) (λ j. get_or (get_or old.nodes i no_node).leaves j 0) (λ j. get_or (get_or new.nodes i no_node).leaves j 0)
        by zero last = (ones i less).last (omega (arith, last))
        by (suc g) inner = (ones i less).inner (omega (arith, inner))

    pub cut_leads : Fits root → Fits next → IsWay a root old → CutsRootPast root (get_or old.path 0 0) (get_or blocks 0 0) next → length old.path ≡ node_levels + 1 → length blocks ≡ node_levels
        → CutsTo a b (levels_below node_levels) (pointer node_pointers (root_spelling root)) (pointer node_pointers (root_spelling next)) cut_path blocks
    cut_leads fits fits_next is past long wide =
        let was : pointer node_pointers (root_spelling root) ≡ (λ n. get_or root.nodes n 0) = fun_ext (λ n. ap (λ (ns : List ℕ). get_or ns n 0) (sym (nodes_of root fits))) in
        let now : pointer node_pointers (root_spelling next) ≡ (λ n. get_or next.nodes n 0) = fun_ext (λ n. ap (λ (ns : List ℕ). get_or ns n 0) (sym (nodes_of next fits_next))) in
        cuts_from node_levels 0 (pointer node_pointers (root_spelling root)) (pointer node_pointers (root_spelling next)) (omega arith) long wide
        (subst (λ (p : ℕ → ℕ). CutsPast p (get_or old.path 0 0) (get_or blocks 0 0) (pointer node_pointers (root_spelling next))) (sym was) (subst (CutsPast (λ n. get_or root.nodes n 0) (get_or old.path 0 0) (get_or blocks 0 0)) (sym now) past.nodes))
        (λ some. ap (λ (ns : List ℕ). get_or ns (get_or old.path 0 0) 0) (sym (nodes_of root fits))) (cuts_at is)
        (λ i less. pointed a (pointer_on root old i) (get_or old.path (suc i) 0) ∙ ap (λ (ns : List ℕ). get_or ns (get_or old.path (suc i) 0) 0) (sym (is i (omega (arith, less, whole)))))
