-- The claims of a write, leaf after leaf.
use Rattle.normal_files.proofs.Words.{◌≡◌, ◌≢◌, inl, inr, ℕ, suc, ◌+◌, ◌*◌, ◌/◌, ◌%◌, ◌<◌, Bool, true, false, List, ◌∷◌, get_or, refl, sym, ◌∙◌, ap, subst, eq-eqb, arith, ◌||◌, ◌==◌, if◌then◌else◌, not, cases_eq, ne_eqb, Image, Leaf, allocated, entry_in, with_entry, entry_in-with_entry_other, entry_in-with_entry_same, entry_in_table, AreClaimed, has_number, here, leaf_pointers}
use Rattle.normal_files.specs.Order.{TellsHeld, claims_from, nodes_now}
use Rattle.normal_files.specs.Takes.{TakesLeaf}
use Rattle.block_tree.specs.Along.{way_leaves}
use Rattle.normal_files.specs.declared.part.Part.{Part}
use Rattle.normal_files.proofs.Taking.{free_is}

pub not_is : (b c : Bool) → c ≡ not b → b ≡ not c
not_is true c is = sym (ap not is)
not_is false c is = sym (ap not is)

-- ---- what a node tells of its leaves

module _ (part : Part) (had : ℕ) (leaves nodes : List ℕ) (tells : TellsHeld part had leaves nodes) (leaf l : ℕ) (at : leaf_pointers.count * part.number + l ≡ leaf) (small : l < leaf_pointers.count) where
  place : leaf % leaf_pointers.count ≡ l
  place = omega (arith, at, small)

  told : has_number leaf leaves ≡ not (get_or (way_leaves part.way) l 0 == 0)
  told = tells.leaf leaf (omega (arith, at, small)) ∙ ap (λ (j : ℕ). not (get_or (way_leaves part.way) j 0 == 0)) place

  pub told_held : get_or (way_leaves part.way) l 0 ≢ 0 → has_number leaf leaves ≡ true
  told_held held = told ∙ ap not (ne_eqb (get_or (way_leaves part.way) l 0) 0 held)

  pub told_absent : get_or (way_leaves part.way) l 0 ≡ 0 → has_number leaf leaves ≡ false
  told_absent absent = told ∙ ap not (eq-eqb (get_or (way_leaves part.way) l 0) 0 absent)

-- ---- the nodes that are held

pub now_has : (none grown : Bool) (n : ℕ) (nodes : List ℕ) → has_number n nodes ≡ not none → has_number n (nodes_now none grown n nodes) ≡ (if none then grown else true)
now_has true true n nodes h = here n nodes
now_has true false n nodes h = h
now_has false true n nodes h = h
now_has false false n nodes h = h

pub now_other : (none grown : Bool) (n k : ℕ) (nodes : List ℕ) → n ≢ k → has_number k (nodes_now none grown n nodes) ≡ has_number k nodes
now_other true true n k nodes apart = ap (λ (b : Bool). b || has_number k nodes) (ne_eqb n k apart)
now_other true false n k nodes apart = refl
now_other false true n k nodes apart = refl
now_other false false n k nodes apart = refl

pub now_same : (none grown : Bool) (n : ℕ) (nodes : List ℕ) → ◌≡◌ {A = Bool} (if none then grown else true) true → nodes_now none true n nodes ≡ nodes_now none grown n nodes
now_same true true n nodes held = refl
now_same true false n nodes held = cc
now_same false true n nodes held = refl
now_same false false n nodes held = refl

pub now_more : (none grown : Bool) (n : ℕ) (nodes : List ℕ) → ◌≡◌ {A = Bool} (if none then grown else true) false → nodes_now none true n nodes ≡ n ∷ nodes_now none grown n nodes
now_more true true n nodes held = cc
now_more true false n nodes held = refl
now_more false grown n nodes held = cc

-- ---- one leaf

pub leaf_claimed : (owner : ℕ) (leaves N M : List ℕ) (leaf n : ℕ) (c d e : Image) (held : Bool) (block x y : ℕ) (content : List ℕ) → has_number leaf leaves ≡ false → has_number (leaf / leaf_pointers.count) N ≡ held → (held ≡ true → M ≡ N) → (held ≡ false → M ≡ leaf / leaf_pointers.count ∷ N)
    → TakesLeaf c d owner leaf held block x y content → AreClaimed (claims_from owner leaves M (leaf + 1) n) d e → AreClaimed (claims_from owner leaves N leaf (suc n)) c e
leaf_claimed owner leaves N M leaf n c d e true block x y content absent node same more takes rest =
    rw (absent, node) (
      d,
      record { block = x; least = takes.least_x; here = takes.x_new.entry; others = λ m other. takes.rest m other (λ no is. cc) },
      subst (λ (ns : List ℕ). AreClaimed (claims_from owner leaves ns (leaf + 1) n) d e) (same refl) rest,
    )
leaf_claimed owner leaves N M leaf n c d e false block x y content absent node same more takes rest =
    let first = allocated (Leaf leaf) owner in
    let mid = with_entry c x first in
    let was = free_is c x takes.least_x.free in
    let there = entry_in-with_entry_same c x first was.0 was.1 (entry_in_table d x first takes.x_new.entry) in
    let others = λ (m : ℕ) (other : m ≢ x). entry_in-with_entry_other c x first was.0 m was.1 other in
    rw (absent, node) (
      mid,
      record { block = x; least = takes.least_x; here = there; others = others },
      (
        d,
        record {
          block = y;
          least = takes.least_y refl;
          here = (takes.y_new refl).entry;
          others = λ m other. elim (cases_eq m x) [
            | inl is ↦ ap (entry_in d) is ∙ takes.x_new.entry ∙ sym (ap (entry_in mid) is ∙ there)
            | inr apart ↦ takes.rest m apart (λ no. other) ∙ sym (others m apart)
          ];
        },
        subst (λ (ns : List ℕ). AreClaimed (claims_from owner leaves ns (leaf + 1) n) d e) (more refl) rest,
      ),
    )
