-- The end of a file as it was read, and the images that its trimming leaves.
use Rattle.normal_files.proofs.Words.{◌≡◌, ◌≢◌, ◌⊎◌, inl, inr, ℕ, ◌+◌, ◌*◌, ◌/◌, ◌%◌, ◌<◌, ◌≤◌, List, [], length, set, get_or, refl, sym, ◌∙◌, ap, subst, get_or-set_other, get_or-set_same, arith, length-set, cases_eq, cases_lt, ne_eqb, Image, block_at, left_now, Ghosts, Puid, Place, Leaf, Node, Root, node_spelling, leaf_pointers, node_levels, pointers_of, IsGoodRoot, node_leaves, Kept, cut, leaves_in, BelongsTo, part_at, frames_begin, leaves_at, leaves_there}
use Rattle.normal_files.specs.Cuts.{IsEnd, IsReadEnd, MayPutBlock, MayTrim, cut_block, cut_place, last_leaf, last_node, put_at, trimmed}
use Rattle.normal_files.specs.Laid.{leaf_of, node_of}
use Rattle.normal_files.specs.declared.cut.End.{End}
use Rattle.normal_files.proofs.Among.{places_differ}
use Rattle.normal_files.proofs.Owned.{IsOwn}
use Rattle.normal_files.proofs.Trees.{none_below, same_leaves}
use Rattle.normal_files.proofs.Trimmed.{IsEitherWay, IsTrimmed, either_begin, either_put}
use Rattle.normal_files.proofs.Places.{leaf_no_node, leaf_no_root, node_no_root, one_leaf, one_node}
use Rattle.normal_files.proofs.LeafReads.{block_read}
use Rattle.normal_files.specs.View.{FileView, id_at}
use Rattle.normal_files.proofs.Ways.{way_places}
use Rattle.block_tree.specs.Along.{pointer_on, way_leaves, way_node}
use Rattle.block_tree.specs.Way.{CutsPast}
use Rattle.block_tree.specs.declared.root.Root as roots

-- ---- a block that may be none

pub put_none : (c : Image) (m : ℕ) (v : List ℕ) → m ≡ 0 → put_at c m v ≡ c
put_none c m v none = rw none refl

pub put_some : (c : Image) (m : ℕ) (v : List ℕ) → m ≢ 0 → put_at c m v ≡ set c m v
put_some c m v some = rw (ne_eqb m 0 some) refl

put_long : (c : Image) (m : ℕ) (v : List ℕ) → length (put_at c m v) ≡ length c
put_long c m v = elim (cases_eq m 0) [ inl none ↦ ap (length {A = List ℕ}) (put_none c m v none) | inr some ↦ ap (length {A = List ℕ}) (put_some c m v some) ∙ length-set c m v ]

put_other : (c : Image) (m : ℕ) (v : List ℕ) (b : ℕ) → (m ≢ 0 → b ≢ m) → block_at (put_at c m v) b ≡ block_at c b
put_other c m v b apart = elim (cases_eq m 0) [
  | inl none ↦ ap (λ (i : Image). block_at i b) (put_none c m v none)
  | inr some ↦ ap (λ (i : Image). block_at i b) (put_some c m v some) ∙ get_or-set_other c m b v [] (apart some)
]

put_here : (c : Image) (m : ℕ) (v : List ℕ) → m ≢ 0 → m < length c → block_at (put_at c m v) m ≡ v
put_here c m v some below = ap (λ (i : Image). block_at i m) (put_some c m v some) ∙ get_or-set_same c m v [] below

-- the file is to be set to less: how it is to end was read
pub record IsCut {D : Type 0} {g : Ghosts D} {block : ℕ} {root : roots.Root} {disk : D} {kept : Kept} (v : FileView g block root disk kept) (size : ℕ) (end : End) : Type 0 where
  pub less : size < length v.file.bytes
  pub blocks : ℕ
  pub read : IsReadEnd blocks root size end
  pub ended : IsEnd (g.content disk) root size end
  pub good : IsGoodRoot end.root

module _ {D : Type 0} {g : Ghosts D} {r : ℕ} {root : roots.Root} {start : D} {kept : Kept} {v : FileView g r root start kept} {size : ℕ} {end : End} (z : IsCut v size end) where
  abbrev a : Image
  a = g.content start

  abbrev id : Puid
  id = id_at r v.word

  abbrev last : ℕ
  last = last_node size

  abbrev keep : ℕ
  keep = leaves_in size

  abbrev x : ℕ
  x = end.cut

  abbrev y : ℕ
  y = end.kept

  abbrev next : roots.Root
  next = end.root

  abbrev node : List ℕ
  node = node_spelling (way_node end.next)

  abbrev j : ℕ
  j = last_leaf size % leaf_pointers.count

  abbrev pub e : Image
  e = trimmed a end

  abbrev mid : Image
  mid = put_at a x end.content

  -- ---- which blocks they are

  own_at : (k : ℕ) → get_or (way_leaves end.way) k 0 ≡ leaf_of a root last k
  own_at k = ap (λ (ls : List ℕ). get_or ls k 0) z.ended.own

  abbrev pointed : ℕ
  pointed = pointer_on root end.way node_levels

  cut_when : size % 512 ≢ 0 → x ≡ leaf_of a root last j
  cut_when within = z.read.cut ∙ when ∙ ap (λ (k : ℕ). get_or (way_leaves end.way) k 0) (way_places end.way (last_leaf size) z.read.leads.path).1 ∙ own_at j
    where
      when : cut_block size pointed ≡ pointed
      when = rw (ne_eqb (size % 512) 0 within) refl

  cut_none : size % 512 ≡ 0 → x ≡ 0
  cut_none whole = z.read.cut ∙ when
    where
      when : cut_block size pointed ≡ 0
      when = rw whole refl

  x_within : x ≢ 0 → size % 512 ≢ 0
  x_within some whole = some (cut_none whole)

  at_cut : size % 512 ≢ 0 → leaf_pointers.count * last + j ≡ size / 512
  at_cut within = omega (arith, within)

  x_real : (some : x ≢ 0) → leaf_of a root last j ≢ 0
  x_real some none = some (cut_when (x_within some) ∙ none)

  x_part : (some : x ≢ 0) → BelongsTo r (Leaf (leaf_pointers.count * last + j)) (part_at a x)
  x_part some = subst (λ (m : ℕ). BelongsTo r (Leaf (leaf_pointers.count * last + j)) (part_at a m)) (sym (cut_when (x_within some))) (v.has.rooted.laid.leaves last j (omega arith) (x_real some)).part

  x_below : x ≢ 0 → x < length a
  x_below some = subst (λ (m : ℕ). m < length a) (sym (cut_when (x_within some))) (v.has.rooted.laid.leaves last j (omega arith) (x_real some)).below

  pub x_own : x ≢ 0 → IsOwn a id root x
  x_own some = inr (inr (last, j, omega arith, x_real some, cut_when (x_within some)))

  y_is : y ≢ 0 → y ≡ node_of root last
  y_is some = elim z.read.kept [ inl keeps ↦ keeps.0 | inr none ↦ absurd (some none.0) ]

  y_real : y ≢ 0 → node_of root last ≢ 0
  y_real some none = some (y_is some ∙ none)

  y_part : y ≢ 0 → BelongsTo r (Node last) (part_at a y)
  y_part some = subst (λ (m : ℕ). BelongsTo r (Node last) (part_at a m)) (sym (y_is some)) (v.has.rooted.laid.nodes last (y_real some)).part

  y_below : y ≢ 0 → y < length a
  y_below some = subst (λ (m : ℕ). m < length a) (sym (y_is some)) (v.has.rooted.laid.nodes last (y_real some)).below

  pub y_own : y ≢ 0 → IsOwn a id root y
  y_own some = inr (inl (last, y_real some, y_is some))

  -- ---- what image e has

  e_other : (m : ℕ) → (x ≢ 0 → m ≢ x) → (y ≢ 0 → m ≢ y) → block_at e m ≡ block_at a m
  e_other m not_x not_y = put_other mid y node m not_y ∙ put_other a x end.content m not_x

  e_x : x ≢ 0 → block_at e x ≡ end.content
  e_x some = put_other mid y node x (λ real same. leaf_no_node (leaf_pointers.count * last + j) last (places_differ a x y r (Leaf (leaf_pointers.count * last + j)) (Node last) (x_part some) (y_part real) same)) ∙ put_here a x end.content some (x_below some)

  e_y : y ≢ 0 → block_at e y ≡ node
  e_y some = put_here mid y node some (omega (arith, y_below some, put_long a x end.content))

  -- a block of the file at another place stays
  place_stays : (m : ℕ) (p : Place) → BelongsTo r p (part_at a m) → p ≢ Leaf (leaf_pointers.count * last + j) ⊎ (x ≡ 0) → p ≢ Node last ⊎ (y ≡ 0) → block_at e m ≡ block_at a m
  place_stays m p own not_x not_y = e_other m
      (λ some same. elim not_x [ inl other ↦ other (places_differ a m x r p (Leaf (leaf_pointers.count * last + j)) own (x_part some) same) | inr none ↦ some none ])
      (λ some same. elim not_y [ inl other ↦ other (places_differ a m y r p (Node last) own (y_part some) same) | inr none ↦ some none ])

  pub node_stays : (n : ℕ) → (n ≢ last) ⊎ (y ≡ 0) → leaves_at e (node_of root n) ≡ leaves_at a (node_of root n)
  node_stays n other = same_leaves e a (node_of root n) (λ some. place_stays (node_of root n) (Node n) (v.has.rooted.laid.nodes n some).part (inl (λ same. leaf_no_node (leaf_pointers.count * last + j) n (sym same))) (elim other [ inl apart ↦ inl (λ same. apart (one_node n last same)) | inr none ↦ inr none ]))

  last_leaves : y ≢ 0 → leaves_at e (node_of root last) ≡ way_leaves end.next
  last_leaves some = ap (leaves_at e) (sym (y_is some)) ∙ leaves_there e y some ∙ ap (λ (c : List ℕ). pointers_of leaf_pointers c) (e_y some) ∙ sym (node_leaves (way_node end.next) (end.next.good.each 0 (omega arith)))

  pointer : (n k : ℕ) → (leaf_of e root n k ≡ leaf_of a root n k) ⊎ ((n ≡ last) × (y ≢ 0) × (leaf_of e root n k ≡ get_or (way_leaves end.next) k 0))
  pointer n k = elim (cases_eq n last) [
    | inr apart ↦ inl (ap (λ (ls : List ℕ). get_or ls k 0) (node_stays n (inl apart)))
    | inl same ↦ elim (cases_eq y 0) [
      | inl none ↦ inl (ap (λ (ls : List ℕ). get_or ls k 0) (node_stays n (inr none)))
      | inr some ↦ inr (same, some, ap (λ (m : ℕ). leaf_of e root m k) same ∙ ap (λ (ls : List ℕ). get_or ls k 0) (last_leaves some))
    ]
  ]

  early : (n k : ℕ) → k < leaf_pointers.count → leaf_pointers.count * n + k < keep → leaf_of e root n k ≡ leaf_of a root n k
  early n k small before = elim (pointer n k) [
    | inl same ↦ same
    | inr now ↦ now.2 ∙ z.read.cuts_node.0 k (omega (arith, before, now.0)) ∙ own_at k ∙ ap (λ (m : ℕ). leaf_of a root m k) (sym now.0)
  ]

  late : (n k : ℕ) → k < leaf_pointers.count → keep ≤ leaf_pointers.count * n + k → (leaf_of e root n k ≡ leaf_of a root n k) ⊎ (leaf_of e root n k ≡ 0)
  late n k small past = elim (pointer n k) [ inl same ↦ inl same | inr now ↦ inr (now.2 ∙ z.read.cuts_node.1 k (omega (arith, past, now.0))) ]

  -- where the last node isn't kept it has no leaf that is
  none_kept : y ≡ 0 → (k : ℕ) → k < cut_place size → leaf_of a root last k ≡ 0
  none_kept none k before = elim z.read.kept [
    | inr all ↦ sym (own_at k) ∙ all.1 k before
    | inl keeps ↦ none_below a root last k (sym keeps.0 ∙ none)
  ]

  leads : (n : ℕ) → node_of root n ≢ 0 → (k : ℕ) × (k < leaf_pointers.count) × (leaf_of e root n k ≢ 0)
  leads n real = elim (cases_eq n last) [
    | inr apart ↦ let to = v.has.rooted.laid.leads n real in (to.0, to.1, λ none. to.2 (sym (ap (λ (ls : List ℕ). get_or ls to.0 0) (node_stays n (inl apart))) ∙ none))
    | inl same ↦ elim (cases_eq y 0) [
      | inl none ↦ let to = v.has.rooted.laid.leads n real in (to.0, to.1, λ gone. to.2 (sym (ap (λ (ls : List ℕ). get_or ls to.0 0) (node_stays n (inr none))) ∙ gone))
      | inr some ↦ elim z.read.kept [
        | inr none ↦ absurd (some none.0)
        | inl keeps ↦
            let k = keeps.1.0 in
            (k, omega (arith, keeps.1.1), λ gone. keeps.1.2 (sym (z.read.cuts_node.0 k keeps.1.1) ∙ sym (ap (λ (m : ℕ). leaf_of e root m k) same ∙ ap (λ (ls : List ℕ). get_or ls k 0) (last_leaves some)) ∙ gone))
      ]
    ]
  ]

  leaf_stays : (n k : ℕ) → k < leaf_pointers.count → leaf_of a root n k ≢ 0 → (leaf_pointers.count * n + k ≡ size / 512 → size % 512 ≡ 0) → block_at e (leaf_of a root n k) ≡ block_at a (leaf_of a root n k)
  leaf_stays n k small some whole = place_stays (leaf_of a root n k) (Leaf (leaf_pointers.count * n + k)) (v.has.rooted.laid.leaves n k small some).part
      (elim (cases_eq (size % 512) 0) [ inl end_whole ↦ inr (cut_none end_whole) | inr within ↦ inl (λ same. within (whole (one_leaf (leaf_pointers.count * n + k) (leaf_pointers.count * last + j) same ∙ at_cut within))) ])
      (inl (λ same. leaf_no_node (leaf_pointers.count * n + k) last same))

  leaf_cut : (n k : ℕ) → k < leaf_pointers.count → leaf_of a root n k ≢ 0 → leaf_pointers.count * n + k ≡ size / 512 → size % 512 ≢ 0 → block_at e (leaf_of a root n k) ≡ cut size root.fill (block_at a (leaf_of a root n k))
  leaf_cut n k small some here within =
      let at_l = at_cut within in
      let high : n ≡ last = omega (arith, here, at_l, small) in
      let place : k ≡ j = omega (arith, here, at_l, small) in
      let same : leaf_of a root n k ≡ x = ap (λ (m : ℕ). leaf_of a root m k) high ∙ ap (leaf_of a root last) place ∙ sym (cut_when within) in
      let real : x ≢ 0 = λ none. some (same ∙ none) in
      ap (block_at e) same ∙ e_x real ∙ z.ended.content ∙ ap (cut size root.fill) (block_read a root.fill x real ∙ ap (block_at a) (sym same))

  -- ---- the next root

  abbrev top : CutsPast (node_of root) last y (node_of next)
  top = z.read.cuts_root.nodes

  -- it leads to the last node where that is kept, and else to none there
  at_last : (n : ℕ) → n ≡ last → node_of next n ≡ y
  at_last n same = ap (node_of next) same ∙ top.0

  next_nodes : (n : ℕ) → node_of next n ≢ 0 → node_of next n ≡ node_of root n
  next_nodes n real = elim (cases_lt n last) [
    | inl before ↦ top.1 n before
    | inr on ↦ elim (cases_eq n last) [
      | inl same ↦ let is = at_last n same in is ∙ y_is (λ none. real (is ∙ none)) ∙ ap (node_of root) (sym same)
      | inr apart ↦ absurd (real (top.2 n (omega (arith, on, apart))))
    ]
  ]

  next_early : (n k : ℕ) → k < leaf_pointers.count → leaf_pointers.count * n + k < keep → leaf_of e next n k ≡ leaf_of a root n k
  next_early n k small before = elim (cases_eq (node_of next n) 0) [
    | inr real ↦ ap (λ (m : ℕ). get_or (leaves_at e m) k 0) (next_nodes n real) ∙ early n k small before
    | inl gone ↦ none_below e next n k gone ∙ sym (elim (cases_eq n last) [
      | inl same ↦ ap (λ (m : ℕ). leaf_of a root m k) same ∙ none_kept (sym (at_last n same) ∙ gone) k (omega (arith, before, same))
      | inr apart ↦ none_below a root n k (sym (top.1 n (omega (arith, before, apart))) ∙ gone)
    ])
  ]

  next_late : (n k : ℕ) → k < leaf_pointers.count → keep ≤ leaf_pointers.count * n + k → leaf_of e next n k ≡ 0
  next_late n k small past = elim (cases_eq (node_of next n) 0) [
    | inl gone ↦ none_below e next n k gone
    | inr real ↦ elim (cases_lt last n) [
      | inl over ↦ absurd (real (top.2 n over))
      | inr most ↦
          let same : n ≡ last = omega (arith, most, past, small) in
          ap (λ (m : ℕ). get_or (leaves_at e m) k 0) (next_nodes n real ∙ ap (node_of root) same) ∙ ap (λ (ls : List ℕ). get_or ls k 0) (last_leaves (λ none. real (at_last n same ∙ none)))
          ∙ z.read.cuts_node.1 k (omega (arith, past, same))
    ]
  ]

  pub is_trimmed : IsTrimmed a id root next size e
  is_trimmed = record {
    good = z.good;
    head = record { kind = z.read.cuts_root.kind; fill = z.read.cuts_root.fill; size = z.read.cuts_root.size };
    word = z.read.cuts_root.word;
    long = put_long mid y node ∙ put_long a x end.content;
    root_kept = place_stays r Root v.has.rooted.part (inl (λ same. leaf_no_root (leaf_pointers.count * last + j) (sym same))) (inl (λ same. node_no_root last (sym same)));
    early = early;
    late = late;
    leads = leads;
    bytes = leaf_stays;
    cut_bytes = leaf_cut;
    nodes = next_nodes;
    next_early = next_early;
    next_late = next_late;
  }

  -- the node stays that the next root leads to no more
  pub gone_stays : (n : ℕ) → node_of root n ≢ 0 → node_of next n ≡ 0 → leaves_at e (node_of root n) ≡ leaves_at a (node_of root n)
  gone_stays n real gone = node_stays n (elim (cases_eq n last) [
    | inr apart ↦ inl apart
    | inl same ↦ inr (sym (at_last n same) ∙ gone)
  ])

  -- and those before the last stay with the root
  pub stay_before : (n : ℕ) → n < last → node_of root n ≢ 0 → node_of next n ≢ 0
  stay_before n before real none = real (sym (top.1 n before) ∙ none)

  -- ---- what its trimming leaves

  abbrev Either : Image → Type 0
  Either c = IsEitherWay v.has e c

  either_put_at : (c : Image) (m : ℕ) (s : List ℕ) → (m ≢ 0 → IsOwn a id root m × (m < length a) × (s ≡ block_at e m)) → Either c → Either (put_at c m s)
  either_put_at c m s known way = elim (cases_eq m 0) [
    | inl none ↦ subst Either (sym (put_none c m s none)) way
    | inr some ↦ let three = known some in subst Either (sym (put_some c m s some)) (either_put v.has e c m s way three.0 three.1 three.2)
  ]

  known_x : x ≢ 0 → IsOwn a id root x × (x < length a) × (end.content ≡ block_at e x)
  known_x some = (x_own some, x_below some, sym (e_x some))

  known_y : y ≢ 0 → IsOwn a id root y × (y < length a) × (node ≡ block_at e y)
  known_y some = (y_own some, y_below some, sym (e_y some))

  pub either_e : Either e
  either_e = either_put_at mid y node known_y (either_put_at a x end.content known_x (either_begin v.has e a (frames_begin a v.graph v.has.holds)))

  may_put : (images : Image → Type 0) (m : ℕ) (s : List ℕ) → (m ≢ 0 → IsOwn a id root m × (m < length a) × (s ≡ block_at e m)) → ((c : Image) → images c → Either c) → (c : Image) → MayPutBlock images m s c → Either c
  may_put images m s known each c (inl was) = each c was
  may_put images m s known each c (inr (some, w)) = let three = known some in subst Either (sym w.2) (either_put v.has e w.0 m s (each w.0 w.1) three.0 three.1 three.2)

  pub either_left : (c : Image) → MayTrim (left_now g start) end c → Either c
  either_left = may_put (MayPutBlock (left_now g start) x end.content) y node known_y (may_put (left_now g start) x end.content known_x (λ c left. either_begin v.has e c (v.store.carries.here c left)))
