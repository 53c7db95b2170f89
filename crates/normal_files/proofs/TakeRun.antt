-- The absent leaves of one node, taken one after another.
use Rattle.normal_files.proofs.Words.{◌≡◌, ◌≢◌, ◌⊎◌, inl, inr, ℕ, zero, suc, ◌+◌, ◌*◌, ◌/◌, ◌%◌, ◌<◌, ◌≤◌, Bool, true, false, List, [], ◌∷◌, set, get_or, refl, sym, ◌∙◌, ap, subst, get_or-set_other, get_or-set_same, arith, ◌==◌, both_ways, cases_Bool, cases_eq, ne_eqb, length-set, Image, block_at, Place, Leaf, Node, leaf_pointers, pointers_of, AreClaimed, claims_then, MapEntry, entry_in, is_free_entry, is_free_in, entry_in-set, same_Some, has_number, leaves_at}
use Rattle.normal_files.specs.Order.{TellsHeld, claims_from, nodes_now}
use Rattle.normal_files.specs.Takes.{FreesNone, HasTaken, IsNew, IsOneOf, IsTakenTo, IsWhole, KeepsTaken, TakesLeaf, fresh_content, is_held}
use Rattle.block_tree.specs.Along.{way_leaves}
use Rattle.normal_files.specs.Plans.{Plan}
use Rattle.normal_files.specs.declared.part.Part.{Part}
use Rattle.normal_files.proofs.Orders.{leaf_claimed, now_has, now_more, now_same, told_absent, told_held}

-- ---- single blocks

pub new_taken : {a c : Image} {r : ℕ} {p : Place} {m : ℕ} → IsNew a c r p m → is_free_in c m ≡ false
new_taken is = ap is_free_entry is.entry

pub some_block : {a c : Image} {r : ℕ} {p : Place} {m : ℕ} → IsNew a c r p m → m ≢ 0
some_block is none = is.no_map (ap (λ (z : ℕ). z % 64) none)

-- it stays where what isn't Free stays
pub new_stays : {a c d : Image} {r : ℕ} {p : Place} {m : ℕ} → IsNew a c r p m → KeepsTaken c d → IsNew a d r p m
new_stays {m = m} is keeps = record {
  free = is.free;
  no_map = is.no_map;
  below = omega (arith, is.below, keeps.size);
  entry = keeps.entries m (new_taken is) ∙ is.entry;
}

pub content_stays : {a c d : Image} {r : ℕ} {p : Place} {m : ℕ} → IsNew a c r p m → KeepsTaken c d → block_at d m ≡ block_at c m
content_stays {m = m} is keeps = keeps.contents m is.no_map (new_taken is)

pub keeps_then : {a c d : Image} → KeepsTaken a c → KeepsTaken c d → KeepsTaken a d
keeps_then one two = record {
  size = two.size ∙ one.size;
  entries = λ m taken. two.entries m (ap is_free_entry (one.entries m taken) ∙ taken) ∙ one.entries m taken;
  contents = λ m no taken. two.contents m no (ap is_free_entry (one.entries m taken) ∙ taken) ∙ one.contents m no taken;
}

-- blocks at different places are different
pub new_apart : {a b c : Image} {r : ℕ} {p q : Place} {m n : ℕ} → IsNew a c r p m → IsNew b c r q n → m ≡ n → p ≡ q
new_apart {c = c} one two same = same_Some _ _ (ap (λ (e : MapEntry). e.place) (same_Some _ _ (sym one.entry ∙ ap (entry_in c) same ∙ two.entry)))

module _ {a c : Image} {owner fill offset : ℕ} {bytes : List ℕ} {part : Part} {had upto : ℕ} {next : Plan} (has : HasTaken a c owner fill offset bytes part had upto next) where
  -- what is one of these isn't Free
  one_taken : (m : ℕ) → IsOneOf part had upto next m → is_free_in c m ≡ false
  one_taken m (inl (k, t, is)) = ap (is_free_in c) is ∙ new_taken (has.leaves k t)
  one_taken m (inr (none, grown, is)) = ap (is_free_in c) is ∙ new_taken (has.node_new none grown)

  pub taken_frees : FreesNone a c
  taken_frees m free = elim (has.rest m) [ inl same ↦ sym (ap is_free_entry same) ∙ free | inr one ↦ absurd (both_ways _ (one_taken m one) free) ]

  -- the next leaf is held already
  module _ (l : ℕ) (at : leaf_pointers.count * part.number + l ≡ upto) (small : l < leaf_pointers.count) (held : get_or (way_leaves part.way) l 0 ≢ 0) where
    back : (k : ℕ) → IsTakenTo part (upto + 1) k → IsTakenTo part upto k
    back k t = record {
      small = t.small;
      from = t.from;
      to = elim (cases_eq k l) [ inl same ↦ absurd (held (ap (λ (j : ℕ). get_or (way_leaves part.way) j 0) (sym same) ∙ t.absent)) | inr apart ↦ omega (arith, t.to, at, apart) ];
      absent = t.absent;
    }

    forth : (k : ℕ) → IsTakenTo part upto k → IsTakenTo part (upto + 1) k
    forth k t = record { small = t.small; from = t.from; to = omega (arith, t.to); absent = t.absent }

    pub held_passed : HasTaken a c owner fill offset bytes part had (upto + 1) next
    held_passed = record {
      count = has.count;
      others = λ k not. has.others k (λ t. not (forth k t));
      leaves = λ k t. has.leaves k (back k t);
      contents = λ k t. has.contents k (back k t);
      node_had = has.node_had;
      node_new = has.node_new;
      none = λ no k t. has.none no k (back k t);
      some = λ yes. let s = has.some yes in (s.0, forth s.0 s.1);
      keeps = has.keeps;
      rest = λ m. elim (has.rest m) [ inl same ↦ inl same | inr (inl (k, t, is)) ↦ inr (inl (k, forth k t, is)) | inr (inr is) ↦ inr (inr is) ];
      order = λ leaves nodes tells n m e eq more.
          has.order leaves nodes tells (suc n) m e (omega (arith, eq)) (rw (told_held part had leaves nodes tells upto l at small held) more);
    }

  -- it is absent, and taken
  module _ {d : Image} (l : ℕ) {x y : ℕ} (at : leaf_pointers.count * part.number + l ≡ upto) (small : l < leaf_pointers.count) (from : part.leaves.from ≤ upto) (absent : get_or (way_leaves part.way) l 0 ≡ 0)
      (takes : TakesLeaf c d owner upto (is_held had next.grown) next.block x y (fresh_content fill upto offset bytes)) where
    abbrev more : Plan
    more = record { block = y; node = record { leaves = set next.node.leaves l x }; grown = true }

    this : IsTakenTo part (upto + 1) l
    this = record { small = small; from = omega (arith, from, at); to = omega (arith, at); absent = absent }

    up : (k : ℕ) → IsTakenTo part upto k → IsTakenTo part (upto + 1) k
    up k t = record { small = t.small; from = t.from; to = omega (arith, t.to); absent = t.absent }

    down : (k : ℕ) → k ≢ l → IsTakenTo part (upto + 1) k → IsTakenTo part upto k
    down k apart t = record { small = t.small; from = t.from; to = omega (arith, t.to, at, apart); absent = t.absent }

    before : (k : ℕ) → IsTakenTo part upto k → k ≢ l
    before k t same = omega (arith, t.to, at, same)

    here : get_or more.node.leaves l 0 ≡ x
    here = get_or-set_same next.node.leaves l x 0 (omega (arith, small, has.count))

    other : (k : ℕ) → k ≢ l → get_or more.node.leaves k 0 ≡ get_or next.node.leaves k 0
    other k apart = get_or-set_other next.node.leaves l k x 0 apart

    from_a : (p : Place) (m : ℕ) → IsNew c d owner p m → IsNew a d owner p m
    from_a p m is = record { free = taken_frees m is.free; no_map = is.no_map; below = is.below; entry = is.entry }

    -- the node's block stays once it is got
    held_some : had ≢ 0 → is_held had next.grown ≡ true
    held_some some = rw (ne_eqb had 0 some) refl

    held_grown : had ≡ 0 → is_held had next.grown ≡ next.grown
    held_grown none = ap (λ (h : ℕ). is_held h next.grown) none

    node_now : had ≡ 0 → (grown : Bool) → next.grown ≡ grown → IsNew a d owner (Node part.number) y
    node_now none true grown =
        subst (IsNew a d owner (Node part.number)) (sym (takes.y_kept (held_grown none ∙ grown))) (new_stays (has.node_new none grown) takes.keeps)
    node_now none false grown =
        let number : upto / leaf_pointers.count ≡ part.number = omega (arith, at, small) in
        subst (λ (n : ℕ). IsNew a d owner (Node n) y) number (from_a (Node (upto / leaf_pointers.count)) y (takes.y_new (held_grown none ∙ grown)))

    had_none : is_held had next.grown ≡ false → had ≡ 0
    had_none not = elim (cases_eq had 0) [ inl is ↦ is | inr some ↦ absurd (both_ways _ not (held_some some)) ]

    old_one : (m : ℕ) → IsOneOf part had upto next m → IsOneOf part had (upto + 1) more m
    old_one m (inl (k, t, is)) = inl (k, up k t, is ∙ sym (other k (before k t)))
    old_one m (inr (none, grown, is)) = inr (none, refl, is ∙ sym (takes.y_kept (held_grown none ∙ grown)))

    as_before : (m : ℕ) → entry_in d m ≡ entry_in c m → (entry_in d m ≡ entry_in a m) ⊎ IsOneOf part had (upto + 1) more m
    as_before m same = elim (has.rest m) [ inl was ↦ inl (same ∙ was) | inr one ↦ inr (old_one m one) ]

    order_passed : (leaves nodes : List ℕ) → TellsHeld part had leaves nodes → (n m : ℕ) (e : Image) → part.leaves.from + m ≡ upto + 1 + n
        → AreClaimed (claims_from owner leaves (nodes_now (had == 0) true part.number nodes) (upto + 1) n) d e → AreClaimed (claims_from owner leaves nodes part.leaves.from m) a e
    order_passed leaves nodes tells n m e eq more =
        let N = nodes_now (had == 0) next.grown part.number nodes in
        let number : upto / leaf_pointers.count ≡ part.number = omega (arith, at, small) in
        has.order leaves nodes tells (suc n) m e (omega (arith, eq))
        (leaf_claimed owner leaves N (nodes_now (had == 0) true part.number nodes) upto n c d e (is_held had next.grown) next.block x y (fresh_content fill upto offset bytes) (told_absent part had leaves nodes tells upto l at small absent)
        (ap (λ (k : ℕ). has_number k N) number ∙ now_has (had == 0) next.grown part.number nodes tells.node) (now_same (had == 0) next.grown part.number nodes)
        (λ no. now_more (had == 0) next.grown part.number nodes no ∙ ap (λ (k : ℕ). k ∷ N) (sym number)) takes more)

    pub leaf_passed : HasTaken a d owner fill offset bytes part had (upto + 1) more
    leaf_passed = record {
      count = length-set next.node.leaves l x ∙ has.count;
      others = λ k not. elim (cases_eq k l) [
        | inl same ↦ absurd (not (subst (IsTakenTo part (upto + 1)) (sym same) this))
        | inr apart ↦ other k apart ∙ has.others k (λ t. not (up k t))
      ];
      leaves = λ k t. elim (cases_eq k l) [
        | inl same ↦ subst (λ (j : ℕ). IsNew a d owner (Leaf (leaf_pointers.count * part.number + j)) (get_or more.node.leaves j 0)) (sym same)
            (subst (IsNew a d owner (Leaf (leaf_pointers.count * part.number + l))) (sym here) (subst (λ (n : ℕ). IsNew a d owner (Leaf n) x) (sym at) (from_a (Leaf upto) x takes.x_new)))
        | inr apart ↦ subst (IsNew a d owner (Leaf (leaf_pointers.count * part.number + k))) (sym (other k apart)) (new_stays (has.leaves k (down k apart t)) takes.keeps)
      ];
      contents = λ k t. elim (cases_eq k l) [
        | inl same ↦ ap (block_at d) (ap (λ (j : ℕ). get_or more.node.leaves j 0) same ∙ here) ∙ takes.x_content ∙ ap (λ (n : ℕ). fresh_content fill n offset bytes) (sym at ∙ ap (λ (j : ℕ). leaf_pointers.count * part.number + j) (sym same))
        | inr apart ↦ ap (block_at d) (other k apart) ∙ content_stays (has.leaves k (down k apart t)) takes.keeps ∙ has.contents k (down k apart t)
      ];
      node_had = λ some. takes.y_kept (held_some some) ∙ has.node_had some;
      node_new = λ none yes. node_now none next.grown refl;
      none = λ no. cc;
      some = λ yes. (l, this);
      keeps = keeps_then has.keeps takes.keeps;
      rest = λ m. elim (cases_eq m x) [
        | inl same ↦ inr (inl (l, this, same ∙ sym here))
        | inr not_x ↦ elim (cases_eq m y) [
          | inr not_y ↦ as_before m (takes.rest m not_x (λ none. not_y))
          | inl same ↦ elim (cases_Bool (is_held had next.grown)) [
            | inl held ↦ as_before m (takes.rest m not_x (λ not. absurd (both_ways _ not held)))
            | inr not ↦ inr (inr (had_none not, refl, same))
          ]
        ]
      ];
      order = order_passed;
    }

  -- the node is written, to which nothing leads yet
  module _ (v : List ℕ) (none : had ≡ 0) (grown : next.grown ≡ true) (spells : next.node.leaves ≡ pointers_of leaf_pointers v) where
    abbrev d : Image
    d = set c next.block v

    is : IsNew a c owner (Node part.number) next.block
    is = has.node_new none grown

    same_entry : (m : ℕ) → entry_in d m ≡ entry_in c m
    same_entry m = entry_in-set c next.block v m is.no_map

    stays : (p : Place) (m : ℕ) → IsNew a c owner p m → IsNew a d owner p m
    stays p m new = record { free = new.free; no_map = new.no_map; below = omega (arith, new.below, length-set c next.block v); entry = same_entry m ∙ new.entry }

    not_leaf : (k : ℕ) → IsTakenTo part upto k → get_or next.node.leaves k 0 ≢ next.block
    not_leaf k t same = (let p = new_apart (has.leaves k t) is same in cc)

    pub node_written : HasTaken a d owner fill offset bytes part had upto next
    node_written = record {
      count = has.count;
      others = has.others;
      leaves = λ k t. stays (Leaf (leaf_pointers.count * part.number + k)) (get_or next.node.leaves k 0) (has.leaves k t);
      contents = λ k t. get_or-set_other c next.block (get_or next.node.leaves k 0) v [] (not_leaf k t) ∙ has.contents k t;
      node_had = has.node_had;
      node_new = λ no yes. stays (Node part.number) next.block (has.node_new no yes);
      none = has.none;
      some = has.some;
      keeps = record {
        size = length-set c next.block v ∙ has.keeps.size;
        entries = λ m taken. same_entry m ∙ has.keeps.entries m taken;
        contents = λ m no taken. get_or-set_other c next.block m v [] (λ same. both_ways _ taken (ap (is_free_in a) same ∙ is.free)) ∙ has.keeps.contents m no taken;
      };
      rest = λ m. elim (has.rest m) [ inl same ↦ inl (same_entry m ∙ same) | inr one ↦ inr one ];
      order = λ leaves nodes tells n m e eq more. has.order leaves nodes tells n m e eq (claims_then [] _ c d e same_entry more);
    }

    pub node_whole : IsWhole d had next
    node_whole h h2 = spelled next.block (some_block is) (get_or-set_same c next.block v [] is.below) ∙ sym spells
      where
        spelled : (m : ℕ) → m ≢ 0 → block_at d m ≡ v → leaves_at d m ≡ pointers_of leaf_pointers v
        spelled zero some at = absurd (some refl)
        spelled (suc m) some at = ap (pointers_of leaf_pointers) at
