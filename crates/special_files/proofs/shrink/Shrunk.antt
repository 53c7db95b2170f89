-- A draft whose last leaf was cut, and whose leaves past it were dropped, is the model's draft of that size.
use Rattle.std.proofs.Common.{◌≡◌, ◌≢◌, ◌⊎◌, inl, inr, ℕ, zero, suc, ◌+◌, ◌-◌, ◌*◌, ◌/◌, ◌%◌, ◌<◌, ◌≤◌, Bool, true, false, List, [], ◌∷◌, get_or, Option, Some, None, refl, sym, ◌∙◌, ap, subst, arith, if◌then◌else◌, not}
use Rattle.special_files.proofs.Words.{AreClaimed, Draft, DraftBecomes, Drafting, Drafts, DropsFrom, File, Ghosts, Graph, HasDraft, Held, Image, IsBorder, IsCutHere, IsOpen, IsRead, IsRoot, Kept, LeavesFit, Way, Object, Puid, PutsLeaf, SetSize, SetsSize, Shrinks, StaysBut, StoreHas, all-rise, both_ways, bytes_held, cases_Bool, cases_lt, changed_draft, changed_object, cut_fit, cut_held, cut_object, draft_in, file_to_leaves, filter-rises, fresh_after, fresh_of, fun_ext, has_number, held_leaves, held_levels, held_nodes, held_of, in_all, in_filter, in_held, in_map, in_withs, is_fresh_leaf, is_fresh_node, is_meant_for, is_some, leaf_claims, leaf_content, leaves_at, leaves_below, leaves_in, map, merged, next_levels, object_at, object_below, object_with, opened_as, pointer_to_node, root_spelling, same_numbers, same_object, set_in, shared, size_of, sized, to_all, to_filter, tree_in, with_numbers, with_opened, within, ◌&&◌, leaf_limit, leaf_pointers, node_pointers, size_limit}
use Rattle.cfs_base.specs.declared.kind.Kind.TheVariants as kinds
use Rattle.leaf_changes.specs.Bytes as changes
use Rattle.ufs_model.specs.declared.object.Object.TheVariants as objects
use Rattle.special_files.proofs.Fresh.{node_of_fresh}
use Rattle.special_files.proofs.Levels.{Tell}
use Rattle.special_files.proofs.Marks.{Marks, below_flags, first_is, in_set, leaf_held, marks_begin, marks_more, next_is, node_held, set-rises, to_set, within_none}
use Rattle.special_files.proofs.PutStore.{flags_of, the_draft}
use Rattle.special_files.proofs.shrink.Recut.{anew, anew_leaves, anew_nodes, cut_held_here, in_a0, in_a1, no_cut_here, none_between, stale_a1, to_a0, within_a1}
use Rattle.special_files.proofs.shrink.Sized.{same_leaf, sized_draft}
use Rattle.special_files.proofs.Endings.{stays_itself}
use Rattle.special_files.proofs.View.{no_index}
use Rattle.special_files.proofs.write.Writes.{becomes_as, becomes_begin, becomes_then, becomes_again}

-- ---- a draft of another size

-- the leaf after the one that is cut, or that one
abbrev pub upto : Bool → ℕ → ℕ
upto cut leaf = if cut then leaf + 1 else leaf

-- the draft once the leaf within which the size ends is cut, where it is to be
pub record CutTo {D : Type 0} (g : Ghosts D) (graph : Graph) (ds : Drafts) (id : Puid) (size : ℕ) (cut : Bool) (d0 d2 : D) (k2 : Kept) (was mid : Drafting) (read : Way) : Type 0 where
  pub draft : Draft
  pub becomes : DraftBecomes g graph ds id draft d0 d2 k2 mid
  pub stays : StaysBut was mid
  pub same : (l : ℕ) → (l ≡ size / 512 → cut ≡ false) → bytes_held (leaves_below (g.content d2) mid.root l) ≡ bytes_held (leaves_below (g.content d0) was.root l)
  pub here : cut ≡ true → bytes_held (leaves_below (g.content d2) mid.root (size / 512)) ≡ Some (changes.cut size was.root.fill (leaf_content was.root.fill (leaves_below (g.content d0) was.root (size / 512))))
  pub leaf_marks : Marks (λ l. l) (size / 512) (upto cut (size / 512)) was.leaves mid.leaves
  pub node_marks : Marks (λ l. l / leaf_pointers.count) (size / 512) (upto cut (size / 512)) was.nodes mid.nodes
  pub read_is : IsRead (g.content d2) mid read
  pub order : AreClaimed (if cut then leaf_claims was.at was.leaves was.nodes (size / 512) else []) (g.content d0) (g.content d2)

module _ {D : Type 0} (g : Ghosts D) (graph : Graph) (ds : Drafts) (id : Puid) (o : Object) (at : object_at graph id ≡ Some o) (d0 : D) (k0 : Kept) (was : Drafting) (d : Draft) (store : StoreHas g graph ds d0 k0) (opened : IsOpen ds id was d)
    (size : ℕ) (d2 : D) (k2 : Kept) (mid : Drafting) (read : Way) where
  pub cut_none : d2 ≡ d0 → k2 ≡ k0 → mid ≡ was → IsRead (g.content d0) was read → CutTo g graph ds id size false d0 d2 k2 was mid read
  cut_none same kept still is = subst (λ (x : D). CutTo g graph ds id size false d0 x k2 was mid read) (sym same) (subst (λ (k : Kept). CutTo g graph ds id size false d0 d0 k was mid read) (sym kept)
      (subst (λ (m : Drafting). CutTo g graph ds id size false d0 d0 k0 was m read) (sym still) (record {
        draft = d;
        becomes = becomes_begin g graph ds id o at d0 k0 was d store opened;
        stays = stays_itself was;
        same = λ l any. refl;
        here = λ clash. cc;
        leaf_marks = marks_begin (λ l. l) (size / 512) was.leaves;
        node_marks = marks_begin (λ l. l / leaf_pointers.count) (size / 512) was.nodes;
        read_is = is;
        order = λ v. refl;
      })))

  pub cut_some : size < size_limit → StaysBut was mid
      → PutsLeaf g graph ds id (size / 512) (changes.cut size was.root.fill (leaf_content was.root.fill (leaves_below (g.content d0) was.root (size / 512)))) d0 d2 k2 was mid read → CutTo g graph ds id size true d0 d2 k2 was mid read
  cut_some small stays puts =
      let begun = becomes_begin g graph ds id o at d0 k0 was d store opened in
      record {
        draft = draft_in (g.content d2) mid;
        becomes = record { steps = puts.steps; is_open = puts.is_open };
        stays = stays;
        same = λ l apart. puts.leaves.others l (λ is. let no = apart is in cc);
        here = λ is. puts.leaves.here;
        leaf_marks = marks_more (λ l. l) (size / 512) (size / 512) was.leaves was.leaves mid.leaves (marks_begin (λ l. l) (size / 512) was.leaves) (omega arith) (omega (arith, small, opened.leaf_flags)) puts.sets.leaves;
        node_marks = marks_more (λ l. l / leaf_pointers.count) (size / 512) (size / 512) was.nodes was.nodes mid.nodes (marks_begin (λ l. l / leaf_pointers.count) (size / 512) was.nodes) (omega arith) (omega (arith, small, opened.node_flags)) puts.sets.nodes;
        read_is = puts.read_is;
        order = puts.order;
      }

-- the draft's root gets another size, which its leaves fit
module _ {D : Type 0} (g : Ghosts D) (graph : Graph) (ds : Drafts) (id : Puid) (o : Object) (at : object_at graph id ≡ Some o) (d0 d1 : D) (k1 : Kept) (now : Drafting) (m : Draft) (is : DraftBecomes g graph ds id m d0 d1 k1 now) (size : ℕ)
    (good : IsRoot (sized now size).root) (fit : LeavesFit (sized now size).root (leaves_below (g.content d1) now.root)) where
  abbrev es : Drafts
  es = with_opened id (opened_as now m) ds

  abbrev image : Image
  image = g.content d1

  abbrev next : Draft
  next = record { object = object_below image (sized now size).root; fresh = m.fresh }

  was_there : HasDraft image id (opened_as now m)
  was_there = the_draft image es id now m is.is_open (is.steps.store.account.drafts id o at)

  pub becomes_sized : DraftBecomes g graph ds id next d0 d1 k1 (sized now size)
  becomes_sized = becomes_again g graph ds id o at d0 d1 k1 now (sized now size) m next is (sized_draft image now.root size was_there.tree.spelled.good.0 id now m refl was_there good fit) refl refl refl refl is.is_open.fresh

none_held : (p : Option Held) → bytes_held p ≡ None → p ≡ None
none_held None is = refl
none_held (Some h) is = cc

-- ---- to less

module _ {D : Type 0} (g : Ghosts D) (graph : Graph) (ds : Drafts) (id : Puid) (o : Object) (at : object_at graph id ≡ Some o) (d0 : D) (k0 : Kept) (was : Drafting) (d : Draft) (store : StoreHas g graph ds d0 k0) (opened : IsOpen ds id was d)
    (f : File) (file : d.object ≡ objects.File f) (size : ℕ) (less : size < was.root.size) (limit : was.root.size ≤ size_limit)
    (leaves : List ℕ) (read : leaves ≡ leaves_at (g.content d0) (pointer_to_node was.root ((leaves_in size - 1) / leaf_pointers.count))) (from : ℕ) (border : IsBorder leaves ((leaves_in size - 1) / leaf_pointers.count) (leaves_in size) from)
    (cut : Bool) (cuts : IsCutHere size leaves cut)
    (d2 d3 : D) (k2 k3 : Kept) (mid now : Drafting) (next : Way) (done : CutTo g graph ds id size cut d0 d2 k2 was mid next)
    (drops : DropsFrom g graph (with_opened id (opened_as mid done.draft) ds) id from d2 d3 k3 mid now) where
  abbrev a : Image
  a = g.content d0

  abbrev b : Image
  b = g.content d3

  abbrev e : ℕ
  e = size / 512

  abbrev to : ℕ
  to = leaves_in size

  abbrev n : ℕ
  n = (to - 1) / leaf_pointers.count

  abbrev old : ℕ → Option Held
  old = leaves_below a was.root

  abbrev gets : ℕ → Option Held
  gets = leaves_below b now.root

  abbrev small : Drafting
  small = sized now size

  draft : HasDraft a id (opened_as was d)
  draft = the_draft a ds id was d opened (store.account.drafts id o at)

  between : (l : ℕ) → ((from ≤ l) × (l < to)) ⊎ ((to ≤ l) × (l < from)) → old l ≡ None
  between = none_between a ds id was d opened draft size less leaves read from border cut cuts

  early : (l : ℕ) → l < from → (l ≡ e → cut ≡ false) → bytes_held (gets l) ≡ bytes_held (old l)
  early l before apart = ap bytes_held (drops.kept l before) ∙ done.same l apart

  shrinks : Shrinks was.root.fill size old gets
  shrinks = record {
    kept = λ l before. elim (cases_lt l from) [
      | inl is ↦ early l is (λ same. absurd (omega (arith, same, before)))
      | inr past ↦ ap bytes_held (drops.gone l past) ∙ sym (ap bytes_held (between l (inl (past, omega (arith, before)))))
    ];
    ends = λ within. by within cut refl;
    gone = λ l late. elim (cases_lt l from) [
      | inl is ↦ none_held (gets l) (early l is (λ same. not_cut (omega (arith, same, late))) ∙ ap bytes_held (between l (inr (late, is))))
      | inr past ↦ drops.gone l past
    ];
  }
    where
      not_cut : size % 512 ≡ 0 → cut ≡ false
      not_cut whole = elim (cases_Bool cut) [ inl is ↦ absurd ((cuts.is is).0 whole) | inr not_is ↦ not_is ]

      cut_of : (p : Option Held) → is_some p ≡ true → Some (changes.cut size was.root.fill (leaf_content was.root.fill p)) ≡ cut_held size was.root.fill p
      cut_of None is = cc
      cut_of (Some h) is = refl

      by : size % 512 ≢ 0 → (c : Bool) → cut ≡ c → bytes_held (gets e) ≡ cut_held size was.root.fill (old e)
      by within true is =
          let held = cut_held_here a ds id was d opened draft size less leaves read from border cut cuts is in
          elim (cases_lt e from) [
            | inl before ↦ ap bytes_held (drops.kept e before) ∙ done.here is ∙ cut_of (old e) held
            | inr past ↦ absurd (both_ways _ (ap is_some (between e (inl (past, omega (arith, within))))) held)
          ]
      by within false is =
          let none = no_cut_here a ds id was d opened draft size less leaves read from border cut cuts is within in
          elim (cases_lt e from) [
            | inl before ↦ early e before (λ same. is) ∙ ap bytes_held none ∙ sym (ap (cut_held size was.root.fill) none)
            | inr past ↦ ap bytes_held (drops.gone e past) ∙ sym (ap (cut_held size was.root.fill) none)
          ]

  -- ---- the object

  root : SetsSize size was.root small.root
  root = record { kind = drops.forgets.stays.root.kind ∙ done.stays.root.kind; fill = drops.forgets.stays.root.fill ∙ done.stays.root.fill; size = refl }

  fit_old : LeavesFit was.root old
  fit_old = record { within = draft.tree.within; filled = draft.tree.filled }

  fit : LeavesFit small.root gets
  fit =
      let is = cut_fit was.root old gets size fit_old shrinks (omega (arith, less)) in
      record { within = is.within; filled = λ m i h here few past. is.filled m i h here few past ∙ sym root.fill }

  gives : object_with was.root old ≡ objects.File f
  gives = draft.tree.object ∙ file

  not_index : was.root.kind ≢ kinds.Index
  not_index = no_index was.root old f gives

  pub size_is : size_of d.object ≡ was.root.size
  size_is = ap size_of file ∙ (file_to_leaves was.root old f gives).size

  dropped : DraftBecomes g graph ds id (draft_in b now) d0 d3 k3 now
  dropped = becomes_then g graph ds id o at d0 d2 d3 k2 k3 mid now done.draft (draft_in b now) done.becomes drops.steps drops.is_open

  had : HasDraft b id (opened_as now (draft_in b now))
  had = the_draft b _ id now (draft_in b now) dropped.is_open (dropped.steps.store.account.drafts id o at)

  good : IsRoot small.root
  good = record { fill = had.tree.spelled.good.1.fill; size = record { limit = omega (arith, less, limit); slots = λ is. absurd (not_index (sym root.kind ∙ is)) } }

  abbrev E : Draft
  E = record { object = object_below b small.root; fresh = fresh_of now }

  first : DraftBecomes g graph ds id E d0 d3 k3 small
  first = becomes_sized g graph ds id o at d0 d3 k3 now (draft_in b now) dropped size good fit

  stands : HasDraft b id (opened_as small E)
  stands = the_draft b _ id small E first.is_open (first.steps.store.account.drafts id o at)

  same_below : leaves_below b small.root ≡ gets
  same_below = fun_ext (λ l. same_leaf b now.root size had.tree.spelled.good.0 l)

  object : changed_object (SetSize size) d.object ≡ E.object
  object =
      ap (changed_object (SetSize size)) (sym draft.tree.object) ∙ sym (cut_object was.root old gets size fit_old shrinks (omega (arith, less)) not_index)
      ∙ sym (same_object size was.root small.root root gets) ∙ ap (object_with small.root) (sym same_below)

  -- ---- what is fresh

  upto_more : cut ≡ true → e < upto cut e
  upto_more is = omega (arith, ap (λ (c : Bool). upto c e) is)

  upto_is : (l : ℕ) → e ≤ l → l < upto cut e → (cut ≡ true) × (l ≡ e)
  upto_is l low high = elim (cases_Bool cut) [
    | inl is ↦ (is, omega (arith, low, high, ap (λ (c : Bool). upto c e) is))
    | inr whole ↦ absurd (omega (arith, low, high, ap (λ (c : Bool). upto c e) whole))
  ]

  left : (b c : Bool) → (b && c) ≡ true → b ≡ true
  left true c is = refl
  left false c is = is

  abbrev H : List ℕ
  H = held_leaves E.object

  in_H : (l : ℕ) → has_number l H ≡ true → l < from
  in_H l h = elim (cases_lt l from) [
    | inl before ↦ before
    | inr past ↦ absurd (both_ways _ (ap is_some (drops.gone l past))
        (ap is_some (sym (same_leaf b now.root size had.tree.spelled.good.0 l)) ∙ (in_held small.root (leaves_below b small.root) l (sym (ap (has_number l) (held_of small.root (leaves_below b small.root))) ∙ h)).0))
  ]

  abbrev a0 : List ℕ
  a0 = anew_leaves size d

  abbrev a1 : List ℕ
  a1 = anew_nodes size d

  tell : Tell (is_meant_for a id.block) (tree_in a (root_spelling was.root)) was.leaves was.nodes
  tell = flags_of a ds id was d opened draft

  first_fresh : shared (with_numbers a0 (set_in was.leaves)) H ≡ set_in now.leaves
  first_fresh = same_numbers _ _ (filter-rises (λ x. has_number x H) (with_numbers a0 (set_in was.leaves)) (all-rise a0 (set_in was.leaves) (set-rises was.leaves))) (set-rises now.leaves)
      (λ x h.
      let two = in_filter (λ x. has_number x H) x (with_numbers a0 (set_in was.leaves)) h in
      to_set now.leaves x (drops.forgets.leaf_before x (in_H x two.0) ∙ elim (in_all x a0 (set_in was.leaves) two.1) [
        | inl new ↦
            let c = in_a0 a ds id was d opened draft size less leaves read from border cut cuts x new in
            subst (λ (l : ℕ). is_fresh_leaf mid l ≡ true) c.1 (done.leaf_marks.new e (omega arith) (omega (arith, upto_more c.0)))
        | inr was_set ↦ done.leaf_marks.old x (in_set was.leaves x was_set)
      ]))
      (λ x h.
      let flag = in_set now.leaves x h in
      to_filter (λ x. has_number x H) x (with_numbers a0 (set_in was.leaves)) (leaf_held b id _ small E first.is_open stands x (below_flags now.leaves leaf_limit x first.is_open.leaf_flags flag) flag)
      (to_all x a0 (set_in was.leaves) (elim (cases_lt x from) [
        | inr past ↦ absurd (both_ways _ (drops.forgets.leaf_past x past) flag)
        | inl before ↦ elim (done.leaf_marks.only x (sym (drops.forgets.leaf_before x before) ∙ flag)) [
          | inl was_set ↦ inr (to_set was.leaves x was_set)
          | inr l ↦
              let c = upto_is l.0 l.1 l.2 in
              inl (subst (λ (y : ℕ). has_number y a0 ≡ true) (sym c.1 ∙ l.3) (to_a0 a ds id was d opened draft size less leaves read from border cut cuts c.0))
        ]
      ])))

  second_fresh : shared (with_numbers a1 (set_in was.nodes)) (held_nodes E.object) ≡ set_in now.nodes
  second_fresh = same_numbers _ _ (filter-rises (λ x. has_number x (held_nodes E.object)) (with_numbers a1 (set_in was.nodes)) (all-rise a1 (set_in was.nodes) (set-rises was.nodes))) (set-rises now.nodes)
      (λ x h.
      let two = in_filter (λ x. has_number x (held_nodes E.object)) x (with_numbers a1 (set_in was.nodes)) h in
      let l = in_map (λ (y : ℕ). y / leaf_pointers.count) x H (in_withs x (map (λ (y : ℕ). y / leaf_pointers.count) H) two.0) in
      let low : leaf_pointers.count * x < from = (let before = in_H l.0 l.1 in omega (arith, before, l.2)) in
      to_set now.nodes x (elim (cases_lt from (leaf_pointers.count * x + leaf_pointers.count)) [
        | inl inside ↦
            let here : from / leaf_pointers.count ≡ x = omega (arith, low, inside) in
            subst (λ (y : ℕ). is_fresh_node now y ≡ true) here (drops.forgets.here (λ whole. omega (arith, whole, low, inside))).0
        | inr whole ↦ (drops.forgets.before x whole).0 ∙ elim (in_all x a1 (set_in was.nodes) two.1) [
          | inr was_set ↦ done.node_marks.old x (in_set was.nodes x was_set)
          | inl new ↦
              let c = in_a1 a ds id was d opened draft size less leaves read from border cut cuts x new in
              elim c.1 [
                | inl stale ↦
                    let cut_it : cut ≡ true = left cut (not (is_fresh_leaf was e)) stale in
                    let node : e / leaf_pointers.count ≡ x = omega (arith, (cuts.is cut_it).0, c.0) in
                    subst (λ (y : ℕ). is_fresh_node mid y ≡ true) node (done.node_marks.new e (omega arith) (omega (arith, upto_more cut_it)))
                | inr within ↦ absurd (within (omega (arith, border.high, whole, c.0)))
              ]
        ]
      ]))
      (λ x h.
      let flag = in_set now.nodes x h in
      let few = below_flags now.nodes node_pointers.count x first.is_open.node_flags flag in
      to_filter (λ x. has_number x (held_nodes E.object)) x (with_numbers a1 (set_in was.nodes)) (node_held b id _ small E first.is_open stands x few flag)
      (to_all x a1 (set_in was.nodes) (elim (cases_lt (leaf_pointers.count * x) from) [
        | inr past ↦ absurd (both_ways _ (drops.forgets.past x past).0 flag)
        | inl low ↦ elim (cases_lt from (leaf_pointers.count * x + leaf_pointers.count)) [
          | inl inside ↦
              let within : from % leaf_pointers.count ≢ 0 = λ whole. omega (arith, whole, low, inside) in
              let here : n ≡ x = omega (arith, border.low, border.high, low, inside) in
              inl (subst (λ (y : ℕ). has_number y a1 ≡ true) here (within_a1 a ds id was d opened draft size less leaves read from border cut cuts within))
          | inr whole ↦ elim (done.node_marks.only x (sym (drops.forgets.before x whole).0 ∙ flag)) [
            | inl was_set ↦ inr (to_set was.nodes x was_set)
            | inr l ↦
                let c = upto_is l.0 l.1 l.2 in
                let node : e / leaf_pointers.count ≡ x = ap (λ (y : ℕ). y / leaf_pointers.count) (sym c.1) ∙ l.3 in
                elim (cases_Bool (is_fresh_leaf was e)) [
                  | inl fresh ↦ inr (subst (λ (y : ℕ). has_number y (set_in was.nodes) ≡ true) node (to_set was.nodes (e / leaf_pointers.count) (tell.node (e / leaf_pointers.count) (omega (arith, few, node))
                      ∙ node_of_fresh a graph store.account.holds id o at (store.account.objects id o at) (opened_as was d) draft (e / leaf_pointers.count) (e % leaf_pointers.count) (sym (tell.leaf e (omega (arith, few, node))) ∙ fresh))))
                  | inr stale ↦ inl (subst (λ (y : ℕ). has_number y a1 ≡ true) (omega (arith, (cuts.is c.0).0, node))
                      (stale_a1 a ds id was d opened draft size less leaves read from border cut cuts ((λ i. c.0 i && not (stale i)))))
                ]
          ]
        ]
      ])))

  all_fresh : (k : ℕ) → get_or (fresh_after (SetSize size) d.object d.fresh) k [] ≡ get_or (fresh_of now) k []
  all_fresh k = ap (λ (ls : List (List ℕ)). get_or (within (merged ls d.fresh) (held_levels (changed_object (SetSize size) d.object))) k []) (anew a ds id was d opened draft size less leaves read from border cut cuts size_is)
      ∙ ap (λ (p : Object). get_or (within (merged (a0 ∷ a1 ∷ []) d.fresh) (held_levels p)) k []) object ∙ by k
    where
      by : (k : ℕ) → get_or (within (merged (a0 ∷ a1 ∷ []) d.fresh) (held_levels E.object)) k [] ≡ get_or (fresh_of now) k []
      by zero = ap (λ (ns : List ℕ). shared (with_numbers a0 ns) H) (first_is d.fresh ∙ opened.fresh 0) ∙ first_fresh
      by (suc zero) = ap (λ (ns : List ℕ). shared (with_numbers a1 ns) (held_nodes E.object)) (first_is (next_levels d.fresh) ∙ next_is d.fresh 0 ∙ opened.fresh 1) ∙ second_fresh
      by (suc (suc j)) = within_none (next_levels (next_levels d.fresh)) j

  pub shrunk_becomes : DraftBecomes g graph ds id (changed_draft (SetSize size) d) d0 d3 k3 small
  shrunk_becomes = becomes_as g graph ds id o at d0 d3 k3 small E (changed_draft (SetSize size) d) first object all_fresh
