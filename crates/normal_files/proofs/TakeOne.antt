-- One leaf more of a part.
use Rattle.normal_files.proofs.Words.{◌≡◌, ◌≢◌, inl, inr, ℕ, zero, suc, ◌+◌, ◌-◌, ◌*◌, ◌%◌, ◌<◌, ◌≤◌, Bool, true, false, cond, Ok, Err, List, Some, get_or, refl, sym, ap, subst, arith, ◌∙◌, ◌&&◌, ◌==◌, if◌then◌else◌, nat_lt, Result, cases_eq, lt-ltb, ne_eqb, Ghosts, Refused, AreClaimed, Kept, refused_by, trouble_after_try, Node, Trouble, leaf_pointers, pointers_of, IsLoose, Image, Leaves}
use Rattle.normal_files.specs.Ends.{HasGone, refused_after, Halts}
use Rattle.normal_files.specs.Laid.{node_of}
use Rattle.normal_files.specs.Order.{claims_from}
use Rattle.normal_files.specs.Parts.{IsReadPart, absent_in, lacking_to, part_need}
use Rattle.normal_files.specs.Steps.{WritesBlock, MayLeave}
use Rattle.normal_files.specs.Takes.{IsTakenTo, MayTake, TakesLeaf, fresh_content, is_held, leaf_takes, node_takes, with_taken, HasTaken, IsNew, IsWhole, Passes}
use Rattle.normal_files.specs.Plans.{Plan}
use Rattle.normal_files.specs.declared.next.Next.{Next}
use Rattle.normal_files.specs.declared.part.Part.{Part}
use Rattle.normal_files.proofs.Ending.{gone_err, gone_within, same_after, gone_come, gone_then, or_true}
use Rattle.normal_files.proofs.LackingTo.{filter_to}
use Rattle.normal_files.proofs.TakeRun.{leaf_passed, node_whole, node_written}
use Rattle.normal_files.proofs.Taking.{fresh_leaves, fresh_written, loose}
use Rattle.normal_files.specs.View.{Way}
use Rattle.block_tree.specs.Along.{way_leaves, way_node}
use Rattle.normal_files.proofs.Ways.{way_count}
use Rattle.normal_files.proofs.Come.{come_wrote, done_as, write_stopped}
use Rattle.block_tree.specs.declared.root.Root as roots
use Rattle.cfs_base.specs.declared.refusal.Trouble.TheVariants as trouble

-- ---- one leaf

pub at_leaf : {size : ℕ} {part : Part} → IsReadPart size part → (leaf : ℕ) → part.leaves.from ≤ leaf → leaf < part.leaves.to → leaf_pointers.count * part.number + leaf % leaf_pointers.count ≡ leaf
at_leaf read leaf from to = omega (arith, from, to, read.from, read.to)

pub one_taken : {a c d : Image} {owner fill offset : ℕ} {bytes : List ℕ} {part : Part} {had leaf size : ℕ} {next : Plan} → HasTaken a c owner fill offset bytes part had leaf next → IsReadPart size part → part.leaves.from ≤ leaf → leaf < part.leaves.to → get_or (way_leaves part.way) (leaf % leaf_pointers.count) 0 ≡ 0
    → {held : Bool} {block x y : ℕ} {content : List ℕ} → TakesLeaf c d owner leaf held block x y content → block ≡ next.block → held ≡ is_held had next.grown → content ≡ fresh_content fill leaf offset bytes → {more : Plan} → more ≡ with_taken next (leaf % leaf_pointers.count) x y → HasTaken a d owner fill offset bytes part had (leaf + 1) more
one_taken {a} {c} {d} {owner} {fill} {offset} {bytes} {part} {had} {leaf} {size} {next} has read from to absent {held} {block} {x} {y} {content} takes block_is held_is is more_is =
    subst (HasTaken a d owner fill offset bytes part had (leaf + 1)) (sym more_is) (leaf_passed has (leaf % leaf_pointers.count) (at_leaf read leaf from to) (omega arith) from absent
    (subst (TakesLeaf c d owner leaf (is_held had next.grown) next.block x y) is (subst (λ (h : Bool). TakesLeaf c d owner leaf h next.block x y content) held_is (subst (λ (b : ℕ). TakesLeaf c d owner leaf held b x y content) block_is takes))))

-- ---- how many blocks

-- what a leaf takes, with its node, that isn't held
pub takes_sum : (had : ℕ) (next : Next) → node_takes had next.grown + leaf_takes (is_held had next.grown) ≡ 1 + node_takes had true
takes_sum had next = by had next.grown
  where
    by : (h : ℕ) (grown : Bool) → node_takes h grown + leaf_takes (if h == 0 then grown else true) ≡ 1 + node_takes h true
    by zero true = refl
    by zero false = refl
    by (suc h) true = rw (ne_eqb (suc h) 0 (λ z. cc)) refl
    by (suc h) false = rw (ne_eqb (suc h) 0 (λ z. cc)) refl

-- ---- before the first leaf

pub taken_begins : (a : Image) (owner fill offset : ℕ) (bytes : List ℕ) (part : Part) (had block : ℕ) → (had ≢ 0 → block ≡ had) → HasTaken a a owner fill offset bytes part had part.leaves.from (record { block = block; node = way_node part.way; grown = false })
taken_begins a owner fill offset bytes part had block same = record {
  count = way_count part.way;
  others = λ k not. refl;
  leaves = λ k t. absurd (none k t);
  contents = λ k t. absurd (none k t);
  node_had = same;
  node_new = λ no yes. cc;
  none = λ no k t. none k t;
  some = λ yes. cc;
  keeps = record { size = refl; entries = λ m taken. refl; contents = λ m no taken. refl };
  rest = λ m. inl refl;
  order = λ leaves nodes tells n m e eq more. subst (λ (k : ℕ). AreClaimed (claims_from owner leaves nodes part.leaves.from k) a e) (omega (arith, eq)) more;
}
  where
    none : (k : ℕ) → IsTakenTo part part.leaves.from k → ⊥
    none k t = omega (arith, t.from, t.to)

-- ---- all of them

more_lacking : (own : List ℕ) (from leaf : ℕ) → from ≤ leaf → lacking_to own from (leaf + 1) ≡ lacking_to own from leaf + cond {A = ℕ} (absent_in own leaf) 1 0
more_lacking own from leaf le = filter_to (absent_in own) from leaf le

pub lacking_up : (own : List ℕ) (from n m : ℕ) → lacking_to own from (from + n) ≤ lacking_to own from (from + (n + m))
lacking_up own from n zero = let same : from + (n + 0) ≡ from + n = omega arith in let e = ap (lacking_to own from) same in omega (arith, e)
lacking_up own from n (suc m) =
    let one = more_lacking own from (from + (n + m)) (omega arith) in
    let at : from + (n + m) + 1 ≡ from + (n + suc m) = omega arith in
    let e = ap (lacking_to own from) at in
    omega (arith, lacking_up own from n m, one, e)

pub lacking_within : (own : List ℕ) (from leaf to : ℕ) → from ≤ leaf → leaf ≤ to → lacking_to own from leaf ≤ lacking_to own from to
lacking_within own from leaf to le lt =
    let up = lacking_up own from (leaf - from) (to - leaf) in
    let one : from + (leaf - from) ≡ leaf = omega (arith, le) in
    let two : from + ((leaf - from) + (to - leaf)) ≡ to = omega (arith, le, lt) in
    let e = ap (lacking_to own from) one in
    let f = ap (lacking_to own from) two in
    omega (arith, up, e, f)

takes_none : (had : ℕ) → node_takes had false ≡ 0
takes_none had = by (had == 0)
  where
    by : (b : Bool) → ◌≡◌ {A = ℕ} (if b && false then 1 else 0) 0
    by true = refl
    by false = refl

-- the node counts once
node_part : (root : roots.Root) (part : Part) (grown : Bool) → (grown ≡ true → part.leaves.from < part.leaves.to) → lacking_to (way_leaves part.way) part.leaves.from part.leaves.to + node_takes (node_of root part.number) grown ≤ part_need root part
node_part root part false some = let none = takes_none (node_of root part.number) in omega (arith, none)
node_part root part true some = elim (cases_eq (node_of root part.number) 0) [
  | inl none ↦
      let one : ◌≡◌ {A = ℕ} (if nat_lt part.leaves.from part.leaves.to && (node_of root part.number == 0) then 1 else 0) 1 = rw (none, lt-ltb part.leaves.from part.leaves.to (some refl)) refl in
      let two : node_takes (node_of root part.number) true ≡ 1 = ap (λ (h : ℕ). node_takes h true) none in
      omega (arith, one, two)
  | inr real ↦ let two : node_takes (node_of root part.number) true ≡ 0 = rw (ne_eqb (node_of root part.number) 0 real) refl in omega (arith, two)
]

-- the leaves before one are passed
abbrev pub Passed : {D : Type 0} → Ghosts D → roots.Root → Part → ℕ → Next → D → D → Kept → Kept → Type 0
Passed g root part upto next old new before after =
    HasGone g (5 * (upto - part.leaves.from)) (3 * (upto - part.leaves.from)) (lacking_to (way_leaves part.way) part.leaves.from upto + node_takes (node_of root part.number) next.grown) next.grown old new before after

module _ {D : Type 0} {g : Ghosts D} (root : roots.Root) (part : Part) (leaf : ℕ) (next : Next) (from : part.leaves.from ≤ leaf) {start mid : D} {before now : Kept} (gone : Passed g root part leaf next start mid before now) where
  abbrev own : List ℕ
  own = way_leaves part.way

  abbrev had : ℕ
  had = node_of root part.number

  pub run_passed : {new : D} {after : Kept} (more : Next) → Passes g had own leaf next mid new now after (Ok more) → Passed g root part (leaf + 1) more start new before after
  run_passed {new} {after} more (inl (held, same, same_disk, same_kept)) =
      let one = more_lacking own part.leaves.from leaf from in
      let lacks = ap (λ (b : Bool). cond {A = ℕ} b 1 0) held in
      subst (λ (x : Next). Passed g root part (leaf + 1) x start new before after) (sym same)
      (subst (λ (d : D). Passed g root part (leaf + 1) next start d before after) (sym same_disk) (subst (Passed g root part (leaf + 1) next start mid before) (sym same_kept)
      (gone_within gone (omega (arith, from)) (omega (arith, from)) (omega (arith, one, lacks)))))
  run_passed more (inr (absent, grown, step)) =
      let one = more_lacking own part.leaves.from leaf from in
      let lacks = ap (λ (b : Bool). cond {A = ℕ} b 1 0) absent in
      let takes = takes_sum had next in
      let node = ap (node_takes had) grown in
      gone_within (done_as (ap Some (or_true next.grown ∙ sym grown)) (gone_then next.grown true gone step)) (omega (arith, from)) (omega (arith, from)) (omega (arith, one, lacks, takes, node))

  pub run_stops : {new : D} {after : Kept} (e : Refused) → leaf < part.leaves.to → Passes g had own leaf next mid new now after (Err e)
      → Halts g (5 * (part.leaves.to - part.leaves.from)) (3 * (part.leaves.to - part.leaves.from)) (part_need root part) start new before after (refused_after next.grown e)
  run_stops e to (absent, ends) =
      let one = more_lacking own part.leaves.from leaf from in
      let lacks = ap (λ (b : Bool). cond {A = ℕ} b 1 0) absent in
      let takes = takes_sum had next in
      let up = lacking_within own part.leaves.from (leaf + 1) part.leaves.to (omega (arith, from)) (omega (arith, to)) in
      let need = node_part root part true (λ yes. omega (arith, from, to)) in
      gone_within (gone_err next.grown e gone ends) (omega (arith, from, to)) (omega (arith, from, to)) (omega (arith, one, lacks, takes, up, need))

  pub run_ends : leaf ≡ part.leaves.to → (next.grown ≡ true → part.leaves.from < leaf)
      → HasGone g (5 * (part.leaves.to - part.leaves.from)) (3 * (part.leaves.to - part.leaves.from)) (part_need root part) next.grown start mid before now
  run_ends last grown =
      let need = node_part root part next.grown (λ yes. let less = grown yes in omega (arith, less, last)) in
      let e = ap (lacking_to own part.leaves.from) last in
      gone_within gone (omega (arith, last)) (omega (arith, last)) (omega (arith, need, e))

-- ---- a part whose leaves were taken, with its new node written

-- there is none to be written
pub no_node : {D : Type 0} (g : Ghosts D) (d : D) (had : ℕ) (next : Plan) → (had == 0 && next.grown) ≡ false → IsWhole (g.content d) had next
no_node g d had next not none grown = (let yes : (had == 0 && next.grown) ≡ true = rw (none, grown) refl in let clash = sym yes ∙ not in cc)

pub is_none : (had : ℕ) (grown : Bool) → (had == 0 && grown) ≡ true → (had ≡ 0) × (grown ≡ true)
is_none zero true h = (refl, refl)
is_none zero false h = cc
is_none (suc had) grown h = (let e : (suc had == 0) ≡ false = ne_eqb (suc had) 0 (λ z. cc) in let clash = sym (ap (λ (b : Bool). b && grown) e) ∙ h in cc)

module _ {D : Type 0} {g : Ghosts D} {r fill offset : ℕ} {bytes : List ℕ} {part : Part} {had upto : ℕ} {d0 mid : D} {k0 k1 : Kept} {next : Plan} {w : Way g r} (may : MayTake w offset bytes d0 k0) (now : MayTake w offset bytes mid k1)
    (has : HasTaken (g.content d0) (g.content mid) r fill offset bytes part had upto next) (is_new : (had == 0 && next.grown) ≡ true) {v : List ℕ} {new : D} {result : Result (Unit {0}) Trouble} (writes : WritesBlock g 1 next.block v mid new result) where
  is : IsNew (g.content d0) (g.content mid) r (Node part.number) next.block
  is = has.node_new (is_none had next.grown is_new).0 (is_none had next.grown is_new).1

  unheld : IsLoose (g.content w.start) w.graph next.block
  unheld = loose w.has (g.content d0) may.frees next.block is.free

  pub node_leaves : Leaves g w.start new (MayLeave w offset bytes)
  node_leaves = fresh_leaves now next.block (Node part.number) v unheld is.entry writes.images

  pub node_taken : result ≡ Ok tt → next.node.leaves ≡ pointers_of leaf_pointers v → MayTake w offset bytes new k1 × (HasTaken (g.content d0) (g.content new) r fill offset bytes part had upto next × IsWhole (g.content new) had next)
  node_taken done spells =
      let on = subst (λ x. WritesBlock g 1 next.block v mid new x) done writes in
      let two = is_none had next.grown is_new in (
        fresh_written now next.block (Node part.number) v unheld is.entry on.images on.written on.told on.calls.same,
        (
          subst (λ i. HasTaken (g.content d0) i r fill offset bytes part had upto next) (sym on.written) (node_written has v two.0 two.1 spells),
          subst (λ i. IsWhole i had next) (sym on.written) (node_whole has v two.0 two.1 spells),
        ),
      )

-- the node is written, or couldn't be
module _ {D : Type 0} {g : Ghosts D} {n t k : ℕ} (had : ℕ) (next : Next) {start mid : D} {before now : Kept} (is_new : (had == 0 && next.grown) ≡ true) (gone : HasGone g n t k next.grown start mid before now) where
  pub node_gone : {block : ℕ} {v : List ℕ} {new : D} → WritesBlock g 1 block v mid new (Ok tt) → HasGone g (n + 1) (t + 1) k next.grown start new before now
  node_gone {new = new} writes = let yes = (is_none had next.grown is_new).1 in gone_within (done_as (ap Some (or_true next.grown ∙ sym yes)) (gone_then next.grown true gone (gone_come (come_wrote writes) now))) (omega arith) (omega arith) (omega arith)

  pub node_stops : {block : ℕ} {v : List ℕ} {new : D} (e : Trouble) → e ≡ trouble.Disk true → WritesBlock g 1 block v mid new (Err e) → Halts g (n + 1) (t + 1) k start new before now (refused_by (trouble_after_try e))
  node_stops {new = new} e fails writes =
      let yes = (is_none had next.grown is_new).1 in
      subst (Halts g (n + 1) (t + 1) k start new before now) (ap (λ (b : Bool). refused_after b (refused_by e)) yes ∙ sym (same_after true e)) (gone_within (gone_err next.grown (refused_by e) gone (gone_come (write_stopped writes fails) now)) (omega arith) (omega arith) (omega arith))
