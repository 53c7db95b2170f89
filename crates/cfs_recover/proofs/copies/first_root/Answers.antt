use Rattle.std.proofs.Common.{inl, inr, ◌<◌, ◌≤◌, ◌∙◌, sym, refl, length, get_or, arith}
use Rattle.cfs_recover.proofs.Words.{cases_eq}
use Rattle.cfs_recover.proofs.Pieces.{first_none, first_some, head_fill, head_is, head_rest, head_size, node_fits, none_is, read_all, read_begin, read_one, read_skip, some_is}
use Rattle.cfs_recover.proofs.copies.first_root.Goals as goal

pub loop-number-init : goal.loop-number-init
loop-number-init c root rest good is anew =
    read_begin root.nodes rest c.in_ok-head.rest.now good.0.count (head_rest c.in_ok-head.head.now c.in_ok-head.rest.now root rest (sym c.in_ok-head.ensures.cases.0 ∙ is))

pub loop-number-preserved-in_default : goal.loop-number-preserved-in_default
loop-number-preserved-in_default c root rest good is anew =
    let k = c.loop-number.number in
    let are = c.loop-number.invariant root rest good is anew in
    let less : k < length root.nodes = omega (arith, good.0.count, c.loop-number-test.true) in
    elim (cases_eq (get_or root.nodes k 0) 0) [
      | inl none ↦ read_skip root.nodes rest k c.loop-number.rest.now c.loop-number.nodes are less none
      | inr some ↦ absurd (none_is c.in_default.is (c.next_node.ensures.some (get_or root.nodes k 0) _ (node_fits root good k less) (first_some root.nodes rest k c.loop-number.rest.now c.loop-number.nodes are less some)).0)
    ]

pub loop-number-preserved : goal.loop-number-preserved
loop-number-preserved c root rest good is anew =
    let k = c.loop-number.number in
    let are = c.loop-number.invariant root rest good is anew in
    let less : k < length root.nodes = omega (arith, good.0.count, c.loop-number-test.true) in
    elim (cases_eq (get_or root.nodes k 0) 0) [
      | inl none ↦ absurd (some_is c.in-Some.is (c.next_node.ensures.none (first_none root.nodes rest k c.loop-number.rest.now c.loop-number.nodes are less (omega (arith, c.loop-number-test.true)) anew none)))
      | inr some ↦
          let next = c.in-Some.ensures.some (get_or root.nodes k 0) _ (node_fits root good k less) (first_some root.nodes rest k c.loop-number.rest.now c.loop-number.nodes are less some) in
          read_one root.nodes rest k c.loop-number.rest.now c.loop-number.nodes are less c.in-Some.more.now c.in-Some.block next.1.0 next.1.1
    ]

pub returns : goal.returns
returns c root rest good kind word is anew =
    let past : length root.nodes ≤ c.loop-number.number = omega (arith, good.0.count, c.loop-number-test.false) in
    let all = read_all root.nodes rest c.loop-number.number c.loop-number.rest.now c.loop-number.nodes (c.loop-number.invariant root rest good is anew) past in
    let head = head_is c.in_ok-head.head.now c.in_ok-head.rest.now root rest (sym c.in_ok-head.ensures.cases.0 ∙ is) in
    let fill = head_fill c.in_ok-head.head.now root head in
    let size = c.from_be_bytes.ensures ∙ head_size c.in_ok-head.head.now root good head in
    (refl, ((λ i. record { kind = sym kind i; fill = fill i; word = sym word i; size = size i; nodes = all.0 i }), all.1))
