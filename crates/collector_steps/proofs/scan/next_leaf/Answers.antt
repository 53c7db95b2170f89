use Rattle.std.proofs.Common.{◌≡◌, arith, subst, Option}
use Rattle.block_tree.specs.Tree.{IsLeafPointer}
use Rattle.block_tree.specs.declared.follow.Pointer.{Pointer}
use Rattle.collector_steps.proofs.Words.{HeldStep, IfSome, IsFault, reads_then, root_spelling}
use Rattle.collector_steps.proofs.Damage.{leaf_refused}
use Rattle.collector_steps.proofs.scan.next_leaf.Goals as goal

pub returns-in-Err-clause-refused : goal.returns-in-Err-clause-refused
returns-in-Err-clause-refused g c =
    let old = c.args.disk.now in
    let mid = c.find_leaf.new.disk in
    let new = c.follow_pointer.new.disk in
    let image = g.D.Disk.content old in
    let root = root_spelling c.args.root.now in
    let found = c.in-Some.found in
    let reads = c.find_leaf.ensures.reads in
    rw (c.in_tree.ensures)
    (leaf_refused g.D.Disk c.args.block old mid new c.args.root.now 2 3 reads
    (reads_then g.D.Disk old mid new 2 1 3 reads c.follow_pointer.ensures.reads (omega arith)) found c.in-Err.fault
    (λ tells. subst (λ (o : Option HeldStep). IfSome o (λ s. IsLeafPointer image root s.held.leaf
    (record { holder = s.holder; block = s.held.block }))) c.in-Some.is (c.in_ok-step.ensures.there tells))
    (subst (λ (q : Pointer). IsFault g.D.Disk mid new (λ p. p ≡ q) c.in-Err.fault) c.pointer.ensures
    c.in-Err.ensures.refused))
