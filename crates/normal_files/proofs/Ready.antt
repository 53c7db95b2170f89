-- A part whose leaves were taken is ready: the root may lead to them.
use Rattle.normal_files.proofs.Words.{◌≡◌, ◌≢◌, ◌⊎◌, inl, inr, ℕ, zero, suc, ◌+◌, ◌*◌, ◌%◌, ◌<◌, ◌≤◌, ◌^◌, List, [], length, set, get_or, Some, refl, sym, ◌∙◌, ap, subst, get_or-set_other, get_or-set_same, arith, cases_eq, cases_lt, All-from_get_or, All-set, length-set, Image, block_at, Puid, Place, Leaf, Node, Root, node_spelling, leaf_pointers, pointers_of, spells_leaves, root_spelling, entry_in-set, bytes_held, BelongsTo, part_at, part_of, node_pointers, leaves_at}
use Rattle.normal_files.specs.Laid.{IsAt, IsRooted, leaf_of, leaves_of, node_of}
use Rattle.block_tree.specs.Way.{with_node}
use Rattle.normal_files.specs.Takes.{IsTakenTo, fresh_content}
use Rattle.block_tree.specs.Along.{way_leaves}
use Rattle.normal_files.specs.Plans.{Plan}
use Rattle.normal_files.specs.declared.part.Part.{Part}
use Rattle.normal_files.proofs.Among.{places_differ}
use Rattle.normal_files.proofs.Linked.{IsLinked, bytes_new, bytes_stay, leaf_other, leaf_there, leaves_other}
use Rattle.normal_files.proofs.Places.{leaf_no_node, leaf_no_root, node_no_root}
use Rattle.normal_files.proofs.Trees.{same_leaves}
use Rattle.block_tree.specs.declared.root.Root as roots

-- In image c nothing leads to the leaves of a part that were taken, and all that the root is to lead to stands.
pub record IsReady (c : Image) (id : Puid) (r : roots.Root) (fill offset : ℕ) (bytes : List ℕ) (part : Part) (next : Plan) : Type 0 where
  pub number : part.number < node_pointers.count
  pub own : way_leaves part.way ≡ leaves_at c (node_of r part.number)
  pub others : (k : ℕ) → (IsTakenTo part part.leaves.to k → ⊥) → get_or next.node.leaves k 0 ≡ get_or (way_leaves part.way) k 0
  pub leaves : (k : ℕ) → IsTakenTo part part.leaves.to k → IsAt c id.block (Leaf (leaf_pointers.count * part.number + k)) (get_or next.node.leaves k 0) × (get_or next.node.leaves k 0 ≢ 0)
  pub contents : (k : ℕ) → IsTakenTo part part.leaves.to k → block_at c (get_or next.node.leaves k 0) ≡ fresh_content fill (leaf_pointers.count * part.number + k) offset bytes
  pub node_had : node_of r part.number ≢ 0 → next.block ≡ node_of r part.number
  pub node_new : node_of r part.number ≡ 0 → IsAt c id.block (Node part.number) next.block × (next.block ≢ 0) × (leaves_at c next.block ≡ next.node.leaves)
  pub some : (k : ℕ) × IsTakenTo part part.leaves.to k
  pub small : next.block < 2 ^ 32
  pub count : length next.node.leaves ≡ leaf_pointers.count

-- a leaf was taken or wasn't
pub taken_or : (part : Part) (upto k : ℕ) → k < leaf_pointers.count → IsTakenTo part upto k ⊎ (IsTakenTo part upto k → ⊥)
taken_or part upto k small = elim (cases_lt (leaf_pointers.count * part.number + k) part.leaves.from) [
  | inl early ↦ inr (λ t. omega (arith, t.from, early))
  | inr from ↦ elim (cases_lt (leaf_pointers.count * part.number + k) upto) [
    | inr late ↦ inr (λ t. omega (arith, t.to, late))
    | inl to ↦ elim (cases_eq (get_or (way_leaves part.way) k 0) 0) [ inl absent ↦ inl (record { small = small; from = from; to = to; absent = absent }) | inr held ↦ inr (λ t. held t.absent) ]
  ]
]

module _ (c : Image) (id : Puid) (r : roots.Root) (fill offset : ℕ) (bytes : List ℕ) (part : Part) (next : Plan) (rooted : IsRooted c id r) (no_map : (m : ℕ) (p : Place) → BelongsTo id.block p (part_at c m) → m % 64 ≢ 0)
    (ready : IsReady c id r fill offset bytes part next) where
  abbrev n : ℕ
  n = part.number

  abbrev y : ℕ
  y = next.block

  abbrev leaves : List ℕ
  leaves = next.node.leaves

  each : (k : ℕ) → k < leaf_pointers.count → (get_or leaves k 0 ≡ leaf_of c r n k) ⊎ IsAt c id.block (Leaf (leaf_pointers.count * n + k)) (get_or leaves k 0)
  each k small = elim (taken_or part part.leaves.to k small) [
    | inl t ↦ inr (ready.leaves k t).0
    | inr not ↦ inl (ready.others k not ∙ ap (λ (ls : List ℕ). get_or ls k 0) ready.own)
  ]

  leads : (k : ℕ) × (k < leaf_pointers.count) × (get_or leaves k 0 ≢ 0)
  leads = (ready.some.0, ready.some.1.small, (ready.leaves ready.some.0 ready.some.1).1)

  pub ready_spells : length c ≤ 4194304 → leaves ≡ pointers_of leaf_pointers (node_spelling next.node)
  ready_spells limit = spells_leaves next.node (record {
    count = ready.count;
    fit = All-from_get_or (λ m. m < 2 ^ 32) leaves 0 (λ k below. elim (taken_or part part.leaves.to k (omega (arith, below, ready.count))) [
      | inl t ↦ let at = (ready.leaves k t).0.below in omega (arith, at, limit)
      | inr not ↦ by k (omega (arith, below, ready.count)) (leaf_of c r n k) refl (ready.others k not ∙ ap (λ (ls : List ℕ). get_or ls k 0) ready.own)
    ]);
  })
    where
      by : (k : ℕ) → k < leaf_pointers.count → (z : ℕ) → leaf_of c r n k ≡ z → get_or leaves k 0 ≡ leaf_of c r n k → get_or leaves k 0 < 2 ^ 32
      by k small zero is same = omega (arith, is, same)
      by k small (suc z) is same = let at = (rooted.laid.leaves n k small (λ none. (let e = sym is ∙ none in cc))).below in omega (arith, at, limit, same)

  -- the node stood, and is written
  module _ (stood : node_of r n ≢ 0) (spells : leaves ≡ pointers_of leaf_pointers (node_spelling next.node)) where
    abbrev d : Image
    d = set c y (node_spelling next.node)

    y_at : IsAt c id.block (Node n) y
    y_at = subst (IsAt c id.block (Node n)) (sym (ready.node_had stood)) (rooted.laid.nodes n stood)

    y_some : y ≢ 0
    y_some none = stood (sym (ready.node_had stood) ∙ none)

    spelled : (m : ℕ) → m ≢ 0 → block_at d m ≡ node_spelling next.node → leaves_at d m ≡ leaves
    spelled zero some at = absurd (some refl)
    spelled (suc m) some at = ap (pointers_of leaf_pointers) at ∙ sym spells

    pub node_links : IsLinked c d id r r n y leaves
    node_links = record {
      size = length-set c y (node_spelling next.node);
      entries = λ m. entry_in-set c y (node_spelling next.node) m (no_map y (Node n) y_at.part);
      contents = λ m no not_y not_r. get_or-set_other c y m (node_spelling next.node) [] not_y;
      root_here = get_or-set_other c y id.block (node_spelling next.node) [] (λ same. node_no_root n (sym (places_differ c id.block y id.block Root (Node n) rooted.part y_at.part same))) ∙ rooted.here;
      y_leaves = spelled y y_some (get_or-set_same c y (node_spelling next.node) [] y_at.below);
      y_at = y_at;
      y_some = y_some;
      node_here = sym (ready.node_had stood);
      node_other = λ m apart. refl;
      good = rooted.laid.good;
      head = record { kind = refl; fill = refl; size = refl };
      word = refl;
      each = each;
      leads = leads;
    }

  -- the node is new, and the root leads to it
  module _ (none : node_of r n ≡ 0) (below : id.block < length c) where
    abbrev s : roots.Root
    s = with_node r n y

    abbrev e : Image
    e = set c id.block (root_spelling s)

    new : IsAt c id.block (Node n) y × (y ≢ 0) × (leaves_at c y ≡ leaves)
    new = ready.node_new none

    pub root_links : IsLinked c e id r s n y leaves
    root_links = record {
      size = length-set c id.block (root_spelling s);
      entries = λ m. entry_in-set c id.block (root_spelling s) m (no_map id.block Root rooted.part);
      contents = λ m no not_y not_r. get_or-set_other c id.block m (root_spelling s) [] not_r;
      root_here = get_or-set_same c id.block (root_spelling s) [] below;
      y_leaves = same_leaves e c y (λ _. get_or-set_other c id.block y (root_spelling s) [] (λ same. node_no_root n (places_differ c y id.block id.block (Node n) Root new.0.part rooted.part same))) ∙ new.2;
      y_at = new.0;
      y_some = new.1;
      node_here = get_or-set_same r.nodes n y 0 (omega (arith, ready.number, rooted.laid.good.0.count));
      node_other = λ m apart. get_or-set_other r.nodes n m y 0 apart;
      good = (
        record { fill = rooted.laid.good.0.fill; word = rooted.laid.good.0.word; count = length-set r.nodes n y ∙ rooted.laid.good.0.count; nodes = All-set (λ p. p < 2 ^ 32) r.nodes n y ready.small rooted.laid.good.0.nodes },
        record { fill = rooted.laid.good.1.fill; size = rooted.laid.good.1.size },
      );
      head = record { kind = refl; fill = refl; size = refl };
      word = refl;
      each = each;
      leads = leads;
    }

  -- ---- once it is linked

  module _ (d : Image) (s : roots.Root) (link : IsLinked c d id r s n y leaves) where
    -- a leaf that was taken has its new bytes
    pub taken_bytes : (k : ℕ) → IsTakenTo part part.leaves.to k → bytes_held (leaves_of d s (leaf_pointers.count * n + k)) ≡ Some (fresh_content fill (leaf_pointers.count * n + k) offset bytes)
    taken_bytes k t = bytes_new c d id r s n y leaves rooted no_map link k t.small (ready.leaves k t).1 ∙ ap Some (ready.contents k t)

    -- every other leaf stays, and its pointer
    pub pointer_stays : (m k : ℕ) → k < leaf_pointers.count → (m ≡ n → IsTakenTo part part.leaves.to k → ⊥) → leaf_of d s m k ≡ leaf_of c r m k
    pointer_stays m k small not = elim (cases_eq m n) [
      | inl same ↦ ap (λ (q : ℕ). leaf_of d s q k) same ∙ leaf_there c d id r s n y leaves rooted no_map link k ∙ ready.others k (not same) ∙ ap (λ (ls : List ℕ). get_or ls k 0) ready.own ∙ ap (λ (q : ℕ). leaf_of c r q k) (sym same)
      | inr apart ↦ leaf_other c d id r s n y leaves rooted no_map link m k apart
    ]

    pub real_stays : (m k : ℕ) → k < leaf_pointers.count → leaf_of c r m k ≢ 0 → leaf_of d s m k ≡ leaf_of c r m k
    real_stays m k small real = pointer_stays m k small (λ same t. real (ap (λ (q : ℕ). leaf_of c r q k) same ∙ ap (λ (ls : List ℕ). get_or ls k 0) (sym ready.own) ∙ t.absent))

    pub other_bytes : (m k : ℕ) → k < leaf_pointers.count → (m ≡ n → IsTakenTo part part.leaves.to k → ⊥) → bytes_held (leaves_of d s (leaf_pointers.count * m + k)) ≡ bytes_held (leaves_of c r (leaf_pointers.count * m + k))
    other_bytes m k small not = bytes_stay c d id r s n y leaves rooted no_map link m k small (pointer_stays m k small not)

    pub node_stays : (m : ℕ) → node_of r m ≢ 0 → node_of s m ≡ node_of r m
    node_stays m real = elim (cases_eq m n) [
      | inl same ↦ ap (node_of s) same ∙ link.node_here ∙ ready.node_had (λ none. real (ap (node_of r) same ∙ none)) ∙ ap (node_of r) (sym same)
      | inr apart ↦ link.node_other m apart
    ]

    -- another part that was ready still is
    module _ (other : Part) (more : Plan) (apart : other.number ≢ n) (was : IsReady c id r fill offset bytes other more) where
      at_on : (m : ℕ) (p : Place) → IsAt c id.block p m → IsAt d id.block p m
      at_on m p at = record { below = omega (arith, at.below, link.size); part = subst (BelongsTo id.block p) (sym (ap part_of (link.entries m))) at.part }

      stays : (m : ℕ) (p : Place) → IsAt c id.block p m → p ≢ Node n → p ≢ Root → block_at d m ≡ block_at c m
      stays m p at not_node not_r = link.contents m (no_map m p at.part) (λ same. not_node (places_differ c m y id.block p (Node n) at.part link.y_at.part same)) (λ same. not_r (places_differ c m id.block id.block p Root at.part rooted.part same))

      nodes_apart : Node other.number ≢ Node n
      nodes_apart same = apart (cc)

      same_node : node_of s other.number ≡ node_of r other.number
      same_node = link.node_other other.number apart

      pub still_ready : IsReady d id s fill offset bytes other more
      still_ready = record {
        number = was.number;
        own = was.own ∙ sym (leaves_other c d id r s n y leaves rooted no_map link other.number apart);
        others = was.others;
        leaves = λ k t. (at_on (get_or more.node.leaves k 0) (Leaf (leaf_pointers.count * other.number + k)) (was.leaves k t).0, (was.leaves k t).1);
        contents = λ k t. stays (get_or more.node.leaves k 0) (Leaf (leaf_pointers.count * other.number + k)) (was.leaves k t).0 (leaf_no_node (leaf_pointers.count * other.number + k) n) (leaf_no_root (leaf_pointers.count * other.number + k)) ∙ was.contents k t;
        node_had = λ some. was.node_had (λ none. some (same_node ∙ none)) ∙ sym same_node;
        node_new = λ none. let new = was.node_new (sym same_node ∙ none) in (at_on more.block (Node other.number) new.0, new.1, same_leaves d c more.block (λ _. stays more.block (Node other.number) new.0 nodes_apart (node_no_root other.number)) ∙ new.2);
        some = was.some;
        small = was.small;
        count = was.count;
      }
