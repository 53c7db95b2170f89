use Rattle.std.proofs.Common.{◌≤◌, ◌∙◌, ℕ, subst, sym, Option}
use Rattle.cfs_base.specs.Disk.{Image}
use Rattle.collector_steps.proofs.Words.{HasNoDeadEnd, IfSome, IsPlaced, IsStepped, SomeHeld, root_spelling, tells_on}
use Rattle.block_tree.specs.Tree.{IsLeafPointer}
use Rattle.collector_steps.proofs.Found.{found_next, held_more}
use Rattle.collector_steps.proofs.scan.find_leaf.Goals as goal

pub returns-in-Ok-step_held-clause-step : goal.returns-in-Ok-step_held-clause-step
returns-in-Ok-step_held-clause-step g c tells alive =
    let old = c.args.disk.now in
    let mid = c.step_held.new.disk in
    let image = g.D.Disk.content old in
    let root = root_spelling c.args.root.now in
    let next = c.in-Some.next in
    let reads = c.step_held.ensures.reads in
    let on = tells_on g.D.Disk old mid mid 1 reads tells in
    let first = c.in-Ok.ensures in
    let told = c.in-Ok-step_held.ensures in
    let alive_mid = subst (λ (i : Image). HasNoDeadEnd i root) (sym reads.content) alive in
    let placed = subst (λ (o : Option ℕ). IfSome o (λ n. IsPlaced image root n × SomeHeld image root n)) c.in-Some.is
    (first.sought tells alive) in
    let later = subst (λ (o : Option ℕ). IfSome o (λ n. c.args.cursor ≤ n)) c.in-Some.is
    (held_more c.in-Ok.step.next c.args.cursor _ first.within.next) in
    let sought = subst (λ (i : Image). IfSome c.in-Ok-step_held.step.next (λ n. IsPlaced i root n × SomeHeld i root n))
    reads.content (told.sought on alive_mid) in
    found_next image root c.args.cursor c.in-Ok.step (first.step tells) next (sym c.is_some.ensures ∙ c.if-is_some.false)
    c.in-Some.is later c.in-Ok-step_held.step
    (subst (λ (i : Image). IsStepped i root next c.in-Ok-step_held.step) reads.content (told.step on))
    (told.sure on alive_mid (subst (λ (i : Image). IsPlaced i root next) (sym reads.content) placed.0)) sought

pub returns-in-Ok-step_held-clause-there : goal.returns-in-Ok-step_held-clause-there
returns-in-Ok-step_held-clause-there g c tells =
    let old = c.args.disk.now in
    let mid = c.step_held.new.disk in
    let root = root_spelling c.args.root.now in
    let reads = c.step_held.ensures.reads in
    subst (λ (i : Image). IfSome c.in-Ok-step_held.step.found (λ s. IsLeafPointer i root s.held.leaf
    (record { holder = s.holder; block = s.held.block }))) reads.content
    (c.in-Ok-step_held.ensures.there (tells_on g.D.Disk old mid mid 1 reads tells))
