-- How many blocks a write takes, told by the pointers of the file.
use Rattle.normal_files.proofs.Words.{◌≡◌, ◌≢◌, inl, inr, ℕ, zero, suc, ◌+◌, ◌-◌, ◌*◌, ◌/◌, ◌%◌, ◌<◌, ◌≤◌, Bool, true, false, List, length, get_or, refl, sym, ◌∙◌, ap, subst, arith, cond, ◌==◌, count_by, is_some, map, not, ◌&&◌, filter, if◌then◌else◌, nat_lt, range_with_len, fun_ext, cases_lt, ne_eqb, lt-ltb, length-filter, Image, Puid, IsRootBlock, root_spelling, GivesFile, file_to_leaves, held_each, in_touched, to_touched, first_to_last, branches, has_number, lacking, missing, parents, held_levels, leaves_in, touched, File, in_map, in_numbers, in_withs, numbers-rise, same_numbers, to_map, to_numbers, to_withs, with_numbers-rise, held_at, held_some, held_there, some_held, nat_tests, Graph, leaf_pointers}
use Rattle.normal_files.specs.Laid.{leaf_of, leaves_of, node_of}
use Rattle.normal_files.specs.Parts.{IsPart, IsReadPart, absent_in, lacking_to, part_need, AreParts}
use Rattle.normal_files.specs.declared.part.Part.{Part}
use Rattle.normal_files.proofs.Trees.{leaf_stands, none_below}
use Rattle.normal_files.proofs.LackingTo.{filter_more}
use Rattle.normal_files.specs.View.{HasFile}
use Rattle.block_tree.specs.Along.{way_leaves}
use Rattle.block_tree.specs.declared.root.Root as roots
use Rattle.ufs_model.specs.declared.object.Object.TheVariants as objects

-- two tests that hold together are one
same_test : (a b : Bool) → (a ≡ true → b ≡ true) → (b ≡ true → a ≡ true) → a ≡ b
same_test true true forth back = refl
same_test true false forth back = sym (forth refl)
same_test false true forth back = back refl
same_test false false forth back = refl

-- the nodes of the touched leaves
pub touched_nodes : (offset count : ℕ) → 0 < count → parents (touched offset count) ≡ range_with_len (offset / 512 / leaf_pointers.count) ((offset + count - 1) / 512 / leaf_pointers.count + 1 - offset / 512 / leaf_pointers.count)
touched_nodes offset count some = same_numbers (parents (touched offset count)) (range_with_len first many) (with_numbers-rise (map (λ n. n / leaf_pointers.count) (touched offset count))) (numbers-rise first many) forth back
  where
    first : ℕ
    first = offset / 512 / leaf_pointers.count

    many : ℕ
    many = (offset + count - 1) / 512 / leaf_pointers.count + 1 - offset / 512 / leaf_pointers.count

    forth : (x : ℕ) → has_number x (parents (touched offset count)) ≡ true → has_number x (range_with_len first many) ≡ true
    forth x h =
        let of = in_map (λ n. n / leaf_pointers.count) x (touched offset count) (in_withs x (map (λ n. n / leaf_pointers.count) (touched offset count)) h) in
        let here = in_touched offset count of.0 of.1 in
        to_numbers x first many (omega (arith, here.0, of.2)) (omega (arith, here.0, here.1, of.2, some))

    leaf_in : (x : ℕ) → first ≤ x → x < first + many → (n : ℕ) × (offset / 512 ≤ n) × (n < leaves_in (offset + count)) × (n / leaf_pointers.count ≡ x)
    leaf_in x from to = elim (cases_lt (offset / 512) (leaf_pointers.count * x)) [
      | inl less ↦ (leaf_pointers.count * x, omega (arith, less), omega (arith, to, some), omega arith)
      | inr more ↦ (offset / 512, omega arith, omega (arith, some), omega (arith, more, from))
    ]

    back : (x : ℕ) → has_number x (range_with_len first many) ≡ true → has_number x (parents (touched offset count)) ≡ true
    back x h =
        let row = in_numbers x first many h in
        let n = leaf_in x row.0 row.1 in
        to_withs x (map (λ m. m / leaf_pointers.count) (touched offset count)) (subst (λ (y : ℕ). has_number y (map (λ m. m / leaf_pointers.count) (touched offset count)) ≡ true) n.3 (to_map (λ m. m / leaf_pointers.count) n.0 (touched offset count) (to_touched offset count n.0 n.1 n.2)))

module _ {a : Image} {graph : Graph} {id : Puid} {f : File} {root : roots.Root} (s : HasFile a graph id f root) where
  abbrev pub absent_leaf : ℕ → Bool
  absent_leaf l = not (is_some (leaves_of a root l))

  abbrev pub absent_node : ℕ → Bool
  absent_node n = node_of root n == 0

  gives : GivesFile root (leaves_of a root) f
  gives = file_to_leaves root (leaves_of a root) f s.same

  is_root : IsRootBlock (root_spelling root) root
  is_root = record { good = s.rooted.laid.good; spelled = refl }

  pub held_is : (l : ℕ) → has_number l f.held ≡ is_some (leaves_of a root l)
  held_is l = ap (has_number l) gives.held ∙ held_each root (leaves_of a root) l (s.rooted.laid.fit.within l)

  pub some_is : (n k : ℕ) → k < leaf_pointers.count → is_some (leaves_of a root (leaf_pointers.count * n + k)) ≡ is_some (held_at a (leaf_of a root n k))
  some_is n k small = ap is_some (leaf_stands a (root_spelling root) root is_root n k small)

  no_block : (z : ℕ) → (z == 0) ≡ not (is_some (held_at a z))
  no_block zero = refl
  no_block (suc z) = ne_eqb (suc z) 0 (λ none. cc) ∙ sym (ap (λ o. not (is_some o)) (held_there a (suc z) (λ none. cc)))

  -- an absent leaf is one to which the node doesn't lead
  pub told_leaf : (size : ℕ) (part : Part) → IsReadPart size part → IsPart a root part → part.leaves.from < part.leaves.to → (l : ℕ) → l / leaf_pointers.count ≡ part.number → absent_in (way_leaves part.way) l ≡ absent_leaf l
  told_leaf size part read is some l number =
      let at : leaf_pointers.count * part.number + l % leaf_pointers.count ≡ l = omega (arith, number) in
      ap (λ (ls : List ℕ). get_or ls (l % leaf_pointers.count) 0 == 0) (is.own some) ∙ no_block (leaf_of a root part.number (l % leaf_pointers.count))
      ∙ ap not (sym (some_is part.number (l % leaf_pointers.count) (omega arith)) ∙ ap (λ (m : ℕ). is_some (leaves_of a root m)) at)

  pub node_held : (n : ℕ) → has_number n (parents f.held) ≡ not (absent_node n)
  node_held n = same_test (has_number n (parents f.held)) (not (absent_node n)) forth back
    where
      real : (p : ℕ) → p ≢ 0 → not (p == 0) ≡ true
      real p some = ap not (ne_eqb p 0 some)

      unreal : (p : ℕ) → not (p == 0) ≡ true → p ≢ 0
      unreal zero h = cc
      unreal (suc p) h = λ none. cc

      forth : has_number n (parents f.held) ≡ true → not (absent_node n) ≡ true
      forth h =
          let of = in_map (λ m. m / leaf_pointers.count) n f.held (in_withs n (map (λ m. m / leaf_pointers.count) f.held) h) in
          let l = of.0 in
          let k = l % leaf_pointers.count in
          let at : leaf_pointers.count * n + k ≡ l = omega (arith, of.2) in
          let small : k < leaf_pointers.count = omega arith in
          let there : is_some (held_at a (leaf_of a root n k)) ≡ true = sym (some_is n k small) ∙ ap (λ (m : ℕ). is_some (leaves_of a root m)) at ∙ sym (held_is l) ∙ of.1 in
          real (node_of root n) (λ none. some_held a (leaf_of a root n k) there (none_below a root n k none))

      back : not (absent_node n) ≡ true → has_number n (parents f.held) ≡ true
      back h =
          let to = s.rooted.laid.leads n (unreal (node_of root n) h) in
          let l = leaf_pointers.count * n + to.0 in
          let up : l / leaf_pointers.count ≡ n = omega (arith, to.1) in
          let held : has_number l f.held ≡ true = held_is l ∙ some_is n to.0 to.1 ∙ held_some a (leaf_of a root n to.0) to.2 in
          to_withs n (map (λ m. m / leaf_pointers.count) f.held) (subst (λ (y : ℕ). has_number y (map (λ m. m / leaf_pointers.count) f.held) ≡ true) up (to_map (λ m. m / leaf_pointers.count) l f.held held))

  -- the model's need of a write: the touched leaves that are absent, and their nodes that are
  pub need_is : (offset count : ℕ) → 0 < count → missing (branches 1 (touched offset count)) (held_levels (objects.File f))
      ≡ count_by absent_leaf (touched offset count) + count_by absent_node (range_with_len (offset / 512 / leaf_pointers.count) ((offset + count - 1) / 512 / leaf_pointers.count + 1 - offset / 512 / leaf_pointers.count))
  need_is offset count some =
      let leaves : length (lacking (touched offset count) f.held) ≡ count_by absent_leaf (touched offset count) =
      length-filter (λ n. not (has_number n f.held)) (touched offset count) ∙ ap (λ (P : ℕ → Bool). count_by P (touched offset count)) (fun_ext (λ n. ap not (held_is n))) in
      let nodes : length (lacking (parents (touched offset count)) (parents f.held)) ≡ count_by absent_node (range_with_len (offset / 512 / leaf_pointers.count) ((offset + count - 1) / 512 / leaf_pointers.count + 1 - offset / 512 / leaf_pointers.count)) =
      length-filter (λ n. not (has_number n (parents f.held))) (parents (touched offset count))
      ∙ ap (λ (P : ℕ → Bool). count_by P (parents (touched offset count))) (fun_ext (λ n. ap not (node_held n) ∙ twice (absent_node n)))
      ∙ ap (count_by absent_node) (touched_nodes offset count some) in
      omega (arith, leaves, nodes)
    where
      twice : (b : Bool) → not (not b) ≡ b
      twice true = refl
      twice false = refl

-- ---- what the parts of a write take is the model's need of it

-- ---- counts over a row

count_of : (P : ℕ → Bool) → (from n : ℕ) → ℕ
count_of P from n = length (filter P (range_with_len from n))

one : Bool → ℕ
one b = cond {A = ℕ} b 1 0

many_more : (P : ℕ → Bool) (from n : ℕ) → count_of P from (suc n) ≡ count_of P from n + one (P (from + n))
unfolding count_of one
many_more = filter_more

many_same : (P Q : ℕ → Bool) (from n : ℕ) → ((l : ℕ) → from ≤ l → l < from + n → P l ≡ Q l) → count_of P from n ≡ count_of Q from n
unfolding count_of
many_same P Q from zero same = refl
many_same P Q from (suc n) same =
    let rest = many_same P Q from n (λ l le lt. same l le (omega (arith, lt))) in
    let last = ap one (same (from + n) (omega arith) (omega arith)) in
    let p = many_more P from n in
    let q = many_more Q from n in
    omega (arith, rest, last, p, q)

many_join : (P : ℕ → Bool) (from n m : ℕ) → count_of P from (n + m) ≡ count_of P from n + count_of P (from + n) m
unfolding count_of
many_join P from n zero = let e = ap (count_of P from) (let z : n + 0 ≡ n = omega arith in z) in omega (arith, e)
many_join P from n (suc m) =
    let rest = many_join P from n m in
    let at : n + suc m ≡ suc (n + m) = omega arith in
    let e = ap (count_of P from) at in
    let p = many_more P from (n + m) in
    let q = many_more P (from + n) m in
    let s : from + (n + m) ≡ from + n + m = omega arith in
    let f = ap (λ (x : ℕ). one (P x)) s in
    omega (arith, rest, e, p, q, f)

module _ {a : Image} {graph : Graph} {id : Puid} {f : File} {root : roots.Root} (s : HasFile a graph id f root) {size offset count : ℕ} {low high : Part} (parts : AreParts size offset count low high) (low_is : IsPart a root low) (high_is : IsPart a root high) (least : 0 < count) where
  abbrev Leaf : ℕ → Bool
  Leaf = absent_leaf s

  abbrev Node : ℕ → Bool
  Node = absent_node s

  lacking_is : (part : Part) → IsReadPart size part → IsPart a root part → lacking_to (way_leaves part.way) part.leaves.from part.leaves.to ≡ count_of Leaf part.leaves.from (part.leaves.to - part.leaves.from)
  unfolding count_of
  lacking_is part read is = many_same (absent_in (way_leaves part.way)) Leaf part.leaves.from (part.leaves.to - part.leaves.from) (λ l from to. told_leaf s size part read is (omega (arith, to, read.some, from)) l (omega (arith, to, read.some, from, read.from, read.to)))

  leaves_is : count_of Leaf (offset / 512) ((offset + count - 1) / 512 + 1 - offset / 512) ≡ lacking_to (way_leaves low.way) low.leaves.from low.leaves.to + lacking_to (way_leaves high.way) high.leaves.from high.leaves.to
  leaves_is =
      let l = lacking_is low parts.low_read low_is in
      let h = lacking_is high parts.high_read high_is in
      let n : (offset + count - 1) / 512 + 1 - offset / 512 ≡ (low.leaves.to - low.leaves.from) + (high.leaves.to - high.leaves.from) = omega (arith, parts.first, parts.next, parts.last, parts.some, parts.high_read.some, least) in
      let e = ap (count_of Leaf (offset / 512)) n in
      let j = many_join Leaf (offset / 512) (low.leaves.to - low.leaves.from) (high.leaves.to - high.leaves.from) in
      let s : offset / 512 + (low.leaves.to - low.leaves.from) ≡ high.leaves.from = omega (arith, parts.first, parts.next, parts.some) in
      let t = ap (λ (m : ℕ). count_of Leaf m (high.leaves.to - high.leaves.from)) s in
      let u = ap (λ (m : ℕ). count_of Leaf m (low.leaves.to - low.leaves.from)) parts.first in
      omega (arith, l, h, e, j, t, u)

  abbrev nodes_of : Part → ℕ
  nodes_of part = if nat_lt part.leaves.from part.leaves.to && (node_of root part.number == 0) then 1 else 0

  node_one : (part : Part) → part.leaves.from < part.leaves.to → nodes_of part ≡ one (Node part.number)
  unfolding one
  node_one part less = rw (lt-ltb part.leaves.from part.leaves.to less) refl

  node_none : (part : Part) → part.leaves.from ≡ part.leaves.to → nodes_of part ≡ 0
  node_none part none = rw (none, same_lt part.leaves.to) refl
    where
      same_lt : (n : ℕ) → nat_lt n n ≡ false
      same_lt n = grind (arith, nat_tests)

  nodes_is : count_of Node (offset / 512 / leaf_pointers.count) ((offset + count - 1) / 512 / leaf_pointers.count + 1 - offset / 512 / leaf_pointers.count) ≡ nodes_of low + nodes_of high
  unfolding count_of
  nodes_is =
      let low_one = node_one low parts.some in
      let at : low.number ≡ offset / 512 / leaf_pointers.count = omega (arith, parts.first, parts.low_read.from, parts.low_read.to, parts.some) in
      let here = ap (λ (m : ℕ). one (Node m)) at in
      elim (cases_lt high.leaves.from high.leaves.to) [
        | inl more ↦
            let differ = parts.apart more in
            let next : high.number ≡ low.number + 1 = omega (arith, differ, parts.next, more, parts.some, parts.low_read.from, parts.low_read.to, parts.high_read.from, parts.high_read.to, parts.last, least, parts.first) in
            let n : (offset + count - 1) / 512 / leaf_pointers.count + 1 - offset / 512 / leaf_pointers.count ≡ 2 = omega (arith, next, at, parts.last, more, parts.high_read.from, parts.high_read.to, least) in
            let e = ap (count_of Node (offset / 512 / leaf_pointers.count)) n in
            let high_one = node_one high more in
            let p = many_more Node (offset / 512 / leaf_pointers.count) 1 in
            let q = many_more Node (offset / 512 / leaf_pointers.count) 0 in
            let there = ap (λ (m : ℕ). one (Node m)) (let z : high.number ≡ offset / 512 / leaf_pointers.count + 1 = omega (arith, next, at) in z) in
            let zero_is = ap (λ (m : ℕ). one (Node m)) (let z : offset / 512 / leaf_pointers.count + 0 ≡ offset / 512 / leaf_pointers.count = omega arith in z) in
            omega (arith, low_one, here, e, high_one, p, q, there, zero_is)
        | inr past ↦
            let none : high.leaves.from ≡ high.leaves.to = omega (arith, past, parts.high_read.some) in
            let n : (offset + count - 1) / 512 / leaf_pointers.count + 1 - offset / 512 / leaf_pointers.count ≡ 1 = omega (arith, none, at, parts.next, parts.last, parts.low_read.from, parts.low_read.to, parts.some, parts.first, least) in
            let e = ap (count_of Node (offset / 512 / leaf_pointers.count)) n in
            let high_none = node_none high none in
            let q = many_more Node (offset / 512 / leaf_pointers.count) 0 in
            let zero_is = ap (λ (m : ℕ). one (Node m)) (let z : offset / 512 / leaf_pointers.count + 0 ≡ offset / 512 / leaf_pointers.count = omega arith in z) in
            omega (arith, low_one, here, e, high_none, q, zero_is)
      ]

  pub parts_need : part_need root low + part_need root high ≡ missing (branches 1 (touched offset count)) (held_levels (objects.File f))
  unfolding count_of
  parts_need =
      let need = need_is s offset count least in
      let leaf_count = ap (count_by Leaf) (first_to_last offset count least) ∙ sym (length-filter Leaf (range_with_len (offset / 512) ((offset + count - 1) / 512 + 1 - offset / 512))) in
      let node_count = sym (length-filter Node (range_with_len (offset / 512 / leaf_pointers.count) ((offset + count - 1) / 512 / leaf_pointers.count + 1 - offset / 512 / leaf_pointers.count))) in
      omega (arith, need, leaf_count, node_count, leaves_is, nodes_is)
