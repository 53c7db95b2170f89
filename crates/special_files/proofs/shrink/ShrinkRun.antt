-- The size of a draft set to less, as the call does it: a node is read, a leaf cut, and leaves are dropped.
use Rattle.std.proofs.Common.{◌≡◌, ◌≢◌, inl, inr, ℕ, ◌+◌, ◌*◌, ◌/◌, ◌%◌, ◌<◌, ◌≤◌, Bool, true, false, List, length, get_or, set, Ok, Err, refl, sym, ◌∙◌, ap, subst, get_or-set_same, arith, not, if◌then◌else◌}
use Rattle.special_files.proofs.Ways.{node_is_read}
use Rattle.special_files.proofs.Words.{HasNode, IsTo, Cuts, CutsIf, Drafting, DropCall, EndsCall, Forgets, Ghosts, HasNoneFresh, HasTried, Holds, IfErr, IsBorder, IsCutHere, IsPlan, IsRead, IsSafe, IsToldByNodes, KeepsOne, Kept, Leaves, Way, OnOk, OnlyReads, Plan, Refused, ResizeCall, Result, SetsFlags, Spares, StaysBut, DraftView, border_takes, both_ways, cases_Bool, cases_lt, cut_takes, eqb-false, eqb-true, held_is, is_fresh_leaf, is_fresh_node, is_some, last_draft_node, draft_takes, leaves_at, leaves_in, leaves_below, pointer_to_node, one_unless, reads_make, same_held, shadow_need, shrink_takes, sized, sum, then_tried, tried_then, ◌&&◌, ◌==◌, ◌||◌, IsFarRoot, top_of, way_leaves, drop_calls, drop_tries, leaf_pointers, node_pointers, resize_calls, resize_tries, size_limit}
use Rattle.cfs_base.specs.declared.refusal.Refused.TheVariants as refusals
use Rattle.cfs_base.proofs.Went.{reads_none}
use Rattle.special_files.proofs.Endings.{ends_none, stays_itself, full_ends}
use Rattle.special_files.proofs.PutStore.{the_draft}
use Rattle.special_files.proofs.shrink.Recut.{held_of_slot, none_of_slot}
use Rattle.special_files.proofs.View.{draft_of}
use Rattle.special_files.proofs.shrink.Shrunk.{CutTo, cut_none, cut_some}

-- ---- what it takes, leaf and node

module _ (was mid : Drafting) (cut : Bool) (from leaf node : ℕ) (at_leaf : cut ≡ true → leaf / leaf_pointers.count ≡ node) (at_border : from % leaf_pointers.count ≢ 0 → from / leaf_pointers.count ≡ node) (flags : cut ≡ true → SetsFlags leaf was mid) (same : cut ≡ false → mid ≡ was) (few : node < length was.nodes) where
  -- a node that was fresh is so still
  still_fresh : one_unless (is_fresh_node mid node) ≤ one_unless (is_fresh_node was node)
  still_fresh = elim (cases_Bool cut) [
    | inr whole ↦ omega (arith, ap (λ (d : Drafting). one_unless (is_fresh_node d node)) (same whole))
    | inl is ↦ elim (flags is).nodes [
      | inl two ↦ omega (arith, ap (λ (ns : List Bool). one_unless (get_or ns node false)) two.1)
      | inr now ↦ omega (arith, ap one_unless (set_fresh is now))
    ]
  ]
    where
      set_fresh : cut ≡ true → mid.nodes ≡ set was.nodes (leaf / leaf_pointers.count) true → is_fresh_node mid node ≡ true
      set_fresh is now = ap (λ (ns : List Bool). get_or ns node false) now ∙ ap (λ (m : ℕ). get_or (set was.nodes m true) node false) (at_leaf is) ∙ get_or-set_same was.nodes node true false few

  -- the node of a leaf that wasn't is fresh now
  now_fresh : cut ≡ true → is_fresh_leaf was leaf ≡ false → is_fresh_node mid node ≡ true
  now_fresh is stale = elim (flags is).nodes [
    | inl two ↦ absurd (both_ways _ stale two.0)
    | inr now ↦ ap (λ (ns : List Bool). get_or ns node false) now ∙ ap (λ (m : ℕ). get_or (set was.nodes m true) node false) (at_leaf is) ∙ get_or-set_same was.nodes node true false few
  ]

  border_is : border_takes mid from ≤ one_unless (is_fresh_node mid node)
  border_is = elim (cases_Bool (from % leaf_pointers.count == 0)) [
    | inl whole ↦ omega (arith, ap (λ (b : Bool). if b then 0 else one_unless (is_fresh_node mid (from / leaf_pointers.count))) whole)
    | inr within ↦ omega (arith, ap (λ (b : Bool). if b then 0 else one_unless (is_fresh_node mid (from / leaf_pointers.count))) within, ap (λ (m : ℕ). one_unless (is_fresh_node mid m)) (at_border (eqb-false (from % leaf_pointers.count) 0 within)))
  ]

  cut_is : (c l : Bool) → cut ≡ c → is_fresh_leaf was leaf ≡ l → cut_takes was cut leaf ≡ (if c then (if l then 0 else 1 + one_unless (is_fresh_node was (leaf / leaf_pointers.count))) else 0)
  cut_is c l c_is l_is = λ i. if c_is i then (if l_is i then 0 else 1 + one_unless (is_fresh_node was (leaf / leaf_pointers.count))) else 0

  shrink_is : (c l w : Bool) → cut ≡ c → is_fresh_leaf was leaf ≡ l → (from % leaf_pointers.count == 0) ≡ w → shrink_takes was cut from leaf node ≡ (if c && not l then 1 else 0) + (if (c && not l) || not w then one_unless (is_fresh_node was node) else 0)
  shrink_is c l w c_is l_is w_is = λ i. (if c_is i && not (l_is i) then 1 else 0) + (if (c_is i && not (l_is i)) || not (w_is i) then one_unless (is_fresh_node was node) else 0)

  whole : (from % leaf_pointers.count == 0) ≡ true → border_takes mid from ≡ 0
  whole is = ap (λ (b : Bool). if b then 0 else one_unless (is_fresh_node mid (from / leaf_pointers.count))) is

  pub both_take : cut_takes was cut leaf + border_takes mid from ≤ shrink_takes was cut from leaf node
  both_take = by cut (is_fresh_leaf was leaf) (from % leaf_pointers.count == 0) refl refl refl
    where
      by : (c l w : Bool) → cut ≡ c → is_fresh_leaf was leaf ≡ l → (from % leaf_pointers.count == 0) ≡ w → cut_takes was cut leaf + border_takes mid from ≤ shrink_takes was cut from leaf node
      by true false w c_is l_is w_is = omega (arith, cut_is true false c_is l_is, shrink_is true false w c_is l_is w_is, border_is, ap one_unless (now_fresh c_is l_is), ap (λ (m : ℕ). one_unless (is_fresh_node was m)) (at_leaf c_is))
      by true true true c_is l_is w_is = omega (arith, cut_is true true c_is l_is, whole w_is)
      by true true false c_is l_is w_is = omega (arith, cut_is true true c_is l_is, shrink_is true true false c_is l_is w_is, border_is, still_fresh)
      by false l true c_is l_is w_is = omega (arith, cut_is false l c_is l_is, whole w_is)
      by false l false c_is l_is w_is = omega (arith, cut_is false l c_is l_is, shrink_is false l false c_is l_is w_is, border_is, still_fresh)

-- the leaf alone takes no more
pub cut_less : (was : Drafting) (cut : Bool) (from leaf node : ℕ) → (cut ≡ true → leaf / leaf_pointers.count ≡ node) → cut_takes was cut leaf ≤ shrink_takes was cut from leaf node
cut_less was cut from leaf node at_leaf = by cut (is_fresh_leaf was leaf) refl refl
  where
    by : (c l : Bool) → cut ≡ c → is_fresh_leaf was leaf ≡ l → cut_takes was cut leaf ≤ shrink_takes was cut from leaf node
    by true false c_is l_is = omega (
      arith,
      (let is : cut_takes was cut leaf ≡ 1 + one_unless (is_fresh_node was (leaf / leaf_pointers.count)) = (λ i. if c_is i then (if l_is i then 0 else 1 + one_unless (is_fresh_node was (leaf / leaf_pointers.count))) else 0) in is),
      (let is : shrink_takes was cut from leaf node ≡ 1 + one_unless (is_fresh_node was node) = (λ i. (if c_is i && not (l_is i) then 1 else 0) + (if (c_is i && not (l_is i)) || not (from % leaf_pointers.count == 0) then one_unless (is_fresh_node was node) else 0)) in is),
      ap (λ (m : ℕ). one_unless (is_fresh_node was m)) (at_leaf c_is),
    )
    by true true c_is l_is = omega (arith, (let is : cut_takes was cut leaf ≡ 0 = (λ i. if c_is i then (if l_is i then 0 else 1 + one_unless (is_fresh_node was (leaf / leaf_pointers.count))) else 0) in is))
    by false l c_is l_is = omega (arith, (let is : cut_takes was cut leaf ≡ 0 = (λ i. if c_is i then draft_takes was leaf else 0) in is))

-- ---- the leaf is cut, where it is to be

-- what was done then
pub record CutDone {D : Type 0} (g : Ghosts D) (size : ℕ) (cut : Bool) (d1 d2 : D) (k1 k2 : Kept) (was mid : Drafting) (read next : Way) : Type 0 where
  pub stays : StaysBut was mid
  pub near : IsFarRoot (g.blocks d2) mid.root → IsFarRoot (g.blocks d2) was.root
  pub ends : EndsCall {A = Unit {0}} g (top_of was) 0 8 4 (cut_takes was cut (size / 512)) d1 d2 k1 k2 (Ok tt)
  pub tried : cut ≡ true → HasTried g d1 d2
  pub whole : cut ≡ false → (d2 ≡ d1) × (k2 ≡ k1) × (mid ≡ was) × (next ≡ read)
  pub flags : cut ≡ true → SetsFlags (size / 512) was mid
  pub to : cut ≡ true → IsTo (size / 512) next
  pub safe : IsSafe (g.blocks d1) was read → IsSafe (g.blocks d2) mid next

pub cut_done : {D : Type 0} {g : Ghosts D} {size : ℕ} {cut : Bool} {d1 d2 : D} {k1 k2 : Kept} {was mid : Drafting} {read next : Way} → CutsIf g size cut d1 d2 k1 k2 was mid read next (Ok tt) → CutDone g size cut d1 d2 k1 k2 was mid read next
cut_done {g = g} {size} {cut} {d1} {d2} {k1} {k2} {was} {mid} {read} {next} (Spares not ok same kept still again) = record {
  stays = subst (StaysBut was) (sym still) (stays_itself was);
  near = λ far. subst (λ (w : Drafting). IsFarRoot (g.blocks d2) w.root) still far;
  ends = ends_none g (top_of was) 0 8 4 (cut_takes was cut (size / 512)) tt same kept;
  tried = λ is. absurd (both_ways cut not is);
  whole = λ any. (same, kept, still, again);
  flags = λ is. absurd (both_ways cut not is);
  to = λ is. absurd (both_ways cut not is);
  safe = λ safe. subst (λ d. IsSafe (g.blocks d) mid next) (sym same) (subst (λ (m : Drafting). IsSafe (g.blocks d1) m next) (sym still) (subst (λ (r : Way). IsSafe (g.blocks d1) was r) (sym again) safe));
}
cut_done {g = g} {size} {cut} {d1} {d2} {k1} {k2} {was} (Cuts is goes calls) = record {
  stays = calls.stays;
  near = calls.near;
  ends = subst (λ (k : ℕ). EndsCall {A = Unit {0}} g (top_of was) 0 8 4 k d1 d2 k1 k2 (Ok tt)) (sym (ap (λ (b : Bool). if b then draft_takes was (size / 512) else 0) is)) calls.ends;
  tried = λ any. calls.tried;
  whole = λ not. absurd (both_ways cut not is);
  flags = λ any. calls.flags;
  to = λ any. calls.to;
  safe = λ any. calls.safe;
}

-- the draft then, and the images on the way
module _ {D : Type 0} {g : Ghosts D} {size : ℕ} {cut : Bool} {d1 d2 : D} {k1 k2 : Kept} {was mid : Drafting} {read next : Way} (u : DraftView g d1 k1 was) (is : IsRead (g.content d1) was read) (less : size < was.root.size) (limit : was.root.size ≤ size_limit) where
  pub cut_to : CutsIf g size cut d1 d2 k1 k2 was mid read next (Ok tt) → CutTo g u.graph u.ds u.id size cut d1 d2 k2 was mid next
  cut_to (Spares not ok same kept still again) = subst (λ (b : Bool). CutTo g u.graph u.ds u.id size b d1 d2 k2 was mid next) (sym not)
      (cut_none g u.graph u.ds u.id u.object u.at d1 k1 was u.draft u.store u.opened size d2 k2 mid next same kept still (subst (IsRead (g.content d1) was) (sym again) is))
  cut_to (Cuts is_cut goes calls) = subst (λ (b : Bool). CutTo g u.graph u.ds u.id size b d1 d2 k2 was mid next) (sym is_cut)
      (cut_some g u.graph u.ds u.id u.object u.at d1 k1 was u.draft u.store u.opened size d2 k2 mid next (omega (arith, less, limit)) calls.stays (goes u is less).done)

  pub cut_images : (r : Result (Unit {0}) Refused) → CutsIf g size cut d1 d2 k1 k2 was mid read next r → Leaves g d1 d2 (λ c. Holds c u.graph)
  cut_images r (Spares not ok same kept still again) = subst (λ d. Leaves g d1 d (λ c. Holds c u.graph)) (sym same) (record { later = omega arith; since = λ t c le h. inl h; now = λ c h. inl h })
  cut_images r (Cuts is_cut goes calls) = (goes u is less).leaves

module _ {D : Type 0} {g : Ghosts D} {size : ℕ} {d1 : D} {k1 : Kept} {was : Drafting} (u : DraftView g d1 k1 was) (read : Way) (is : IsRead (g.content d1) was read) (less : size < was.root.size) (limit : was.root.size ≤ size_limit) (has : HasNode (last_draft_node size) read) where
  abbrev n : ℕ
  n = last_draft_node size

  few : n < node_pointers.count
  few = omega (arith, less, limit)

  pub node_read : (way_leaves read) ≡ leaves_at (g.content d1) (pointer_to_node was.root n)
  node_read = node_is_read (g.content d1) was.root read n has is

  module _ {cut : Bool} {d2 : D} {k2 : Kept} {mid : Drafting} {next : Way} where
    -- the node still keeps a leaf
    pub keeps_one : (from : ℕ) (border : IsBorder (way_leaves read) n (leaves_in size) from) (cuts : IsCutHere size (way_leaves read) cut) → CutTo g u.graph u.ds u.id size cut d1 d2 k2 was mid next → HasNode n next → KeepsOne from next
    keeps_one from border cuts done still within =
        let keeps = border.keeps within in
        let k = keeps.1.0 in
        let l = leaf_pointers.count * n + k in
        let small : k < leaf_pointers.count = omega (arith, keeps.0, keeps.1.1, border.high) in
        let draft = draft_of u in
        let now = the_draft (g.content d2) _ u.id mid done.draft done.becomes.is_open (done.becomes.steps.store.account.drafts u.id u.object u.at) in
        let leaves = node_is_read (g.content d2) mid.root next n still done.read_is in
        let had : is_some (leaves_below (g.content d1) was.root l) ≡ true = held_of_slot (g.content d1) u.id was u.draft draft (way_leaves read) n node_read k small keeps.1.2 in
        let has : is_some (leaves_below (g.content d2) mid.root l) ≡ true = held_still l done had in
        (k, omega (arith, keeps.0, keeps.1.1, border.low, within), λ none. both_ways _ (ap is_some (none_of_slot (g.content d2) u.id mid done.draft now (way_leaves next) n leaves k small none)) has)
      where
        held_still : (l : ℕ) → CutTo g u.graph u.ds u.id size cut d1 d2 k2 was mid next → is_some (leaves_below (g.content d1) was.root l) ≡ true → is_some (leaves_below (g.content d2) mid.root l) ≡ true
        held_still l done had = elim (cases_Bool (l == size / 512)) [
          | inr apart ↦ same_held _ _ (done.same l (λ same. absurd (eqb-false l (size / 512) apart same))) ∙ had
          | inl here ↦ elim (cases_Bool cut) [
            | inr whole ↦ same_held _ _ (done.same l (λ same. whole)) ∙ had
            | inl is_cut ↦ ap (λ (m : ℕ). is_some (leaves_below (g.content d2) mid.root m)) (eqb-true l (size / 512) here) ∙ ap is_some (held_is _ _ (done.here is_cut)).1
          ]
        ]

-- ---- whether something was tried, which the fresh nodes tell

module _ {D : Type 0} {g : Ghosts D} {was mid now : Drafting} {plan : Plan} {size : ℕ} {d0 d1 d2 d3 : D} {k0 k2 k3 : Kept} {next : Way} (none : HasNoneFresh was) (p : IsPlan g size was d0 d1 plan) (cd : CutDone g size plan.cut d1 d2 k0 k2 was mid plan.way next) (drops : DropCall g plan.from d2 d3 k2 k3 mid now (Ok tt)) where
  abbrev cut : Bool
  cut = plan.cut

  abbrev from : ℕ
  from = plan.from

  forgets : Forgets from drops.forgets.0 mid now
  forgets = drops.forgets.1

  stale_then : from % leaf_pointers.count ≡ 0 → cut ≡ false → (n : ℕ) → is_fresh_node now n ≡ false
  stale_then even not n = elim (cases_lt from (leaf_pointers.count * n + leaf_pointers.count)) [
    | inr low ↦ (forgets.before n low).0 ∙ ap (λ (w : Drafting). is_fresh_node w n) (cd.whole not).2 ∙ none.nodes n
    | inl high ↦ (forgets.past n (omega (arith, high, even))).0
  ]

  fresh_then : cut ≡ true → (n : ℕ) × (is_fresh_node now n ≡ true)
  fresh_then is =
      let m = size / 512 / leaf_pointers.count in
      let here = p.cuts.is is in
      let past : size / 512 < from = (elim (cases_lt (size / 512) from) [
        | inl high ↦ high
        | inr low ↦ absurd (here.1 (p.border.none ((size / 512) % leaf_pointers.count) (omega arith) (inl (omega (arith, low, here.0), omega (arith, here.0)))))
      ]) in
      let set_here : is_fresh_node mid m ≡ true = (elim (cd.flags is).nodes [
        | inl two ↦ absurd (both_ways _ (none.leaves (size / 512)) two.0)
        | inr set ↦ ap (λ (ns : List Bool). get_or ns m false) set ∙ get_or-set_same was.nodes m true false (omega (arith, p.nodes, p.less, p.limit))
      ]) in
      elim (cases_lt from (leaf_pointers.count * m + leaf_pointers.count)) [
        | inr low ↦ (m, (forgets.before m low).0 ∙ set_here)
        | inl high ↦ (from / leaf_pointers.count, (forgets.here (omega (arith, high, past))).0)
      ]

  pub told_by_nodes : IsToldByNodes g d0 d3 k0 k3 (sized now size)
  told_by_nodes = record { tried = tries; untried = untries }
    where
      tries : (n : ℕ) → is_fresh_node now n ≡ true → HasTried g d0 d3
      tries n fresh = then_tried g d0 d1 d3 1 0 (reads_make g d0 d1 1 p.reads) (elim (cases_Bool cut) [
        | inl is ↦ tried_then g d1 d2 d3 drop_calls drop_tries (cd.tried is) drops.ends.calls
        | inr not ↦ elim (cases_Bool (from % leaf_pointers.count == 0)) [
          | inl even ↦ absurd (both_ways _ (stale_then (eqb-true (from % leaf_pointers.count) 0 even) not n) fresh)
          | inr within ↦ then_tried g d1 d2 d3 8 4 cd.ends.calls (drops.tried (eqb-false (from % leaf_pointers.count) 0 within))
        ]
      ])

      untries : ((n : ℕ) → is_fresh_node now n ≡ false) → (k3 ≡ k0) × OnlyReads g 1 d0 d3
      untries stale = elim (cases_Bool cut) [
        | inl is ↦ absurd (let some = fresh_then is in both_ways _ (stale some.0) some.1)
        | inr not ↦ elim (cases_Bool (from % leaf_pointers.count == 0)) [
          | inr within ↦ absurd (both_ways _ (stale (from / leaf_pointers.count)) (forgets.here (eqb-false (from % leaf_pointers.count) 0 within)).0)
          | inl even ↦
              let all = cd.whole not in
              let two = drops.untried (eqb-true (from % leaf_pointers.count) 0 even) (λ n. ap (λ (w : Drafting). is_fresh_node w n) all.2 ∙ none.nodes n) in
              (two.1 ∙ all.1, subst (OnlyReads g 1 d0) (sym (two.0 ∙ all.0)) p.reads)
        ]
      ]

-- ---- to no less

pub grown_call : {D : Type 0} (g : Ghosts D) (d0 : D) (k0 : Kept) (size floor : ℕ) (was now : Drafting) (r : Result (Unit {0}) Refused) → OnOk r (now ≡ sized was size) → IfErr r (λ e. now ≡ was)
    → IfErr r (λ e. (e ≡ refusals.Full (record { free = sum k0.free; need = shadow_need was })) × (sum k0.free < shadow_need was + floor)) → ResizeCall g size floor d0 d0 k0 k0 was now r
grown_call g d0 k0 size floor was now (Ok t) is kept short = record {
  stays = subst (StaysBut (sized was size)) (sym is) (stays_itself (sized was size));
  spared = tt;
  told = λ none. record { tried = λ n fresh. absurd (both_ways _ (ap (λ (w : Drafting). is_fresh_node w n) is ∙ none.nodes n) fresh); untried = λ stale. (refl, reads_none g 1 d0) };
  near = λ far. subst (λ (w : Drafting). IsFarRoot (g.blocks d0) w.root) is far;
  ends = ends_none g (top_of was) floor resize_calls resize_tries (sum k0.free) tt refl refl;
  kept = tt;
}
grown_call g d0 k0 size floor was now (Err e) is kept short = record {
  stays = subst (StaysBut was) (sym kept) (stays_itself was);
  spared = λ full. (reads_none g 1 d0, refl, kept);
  told = λ none. tt;
  near = λ far. subst (λ (w : Drafting). IsFarRoot (g.blocks d0) w.root) kept far;
  ends = subst (λ (e : Refused). EndsCall {A = Unit {0}} g (top_of was) floor resize_calls resize_tries (sum k0.free) d0 d0 k0 k0 (Err e)) (sym short.0) (full_ends g (top_of was) floor resize_calls resize_tries (sum k0.free) d0 k0 (record { free = sum k0.free; need = shadow_need was }) refl short.1);
  kept = λ untried. kept;
}
