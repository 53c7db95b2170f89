use Rattle.std.proofs.Common.{◌≡◌, ℕ, false, List, [], ◌++◌, ◌+◌, ◌/◌, ◌-◌, sym, ◌∙◌, ap, subst, arith, get_or}
use Rattle.special_files.proofs.Words.{Image, IsWay, both_ways, fresh_in, list_if, slice_index, tells_on, ◌==◌, root_top, leaf_pointers}
use Rattle.special_files.proofs.Refusals.{trouble_after_reads}
use Rattle.special_files.proofs.shrink.ShedListing.{ListRun, near_now, run_all, run_lists, run_skips}
use Rattle.special_files.proofs.freed.list_from.Goals as goal
use Rattle.special_files.proofs.freed.list_from.Goals.{then-has+in-Ok, else-has}

pub returns-in-Err-clause-refused : goal.returns-in-Err-clause-refused
returns-in-Err-clause-refused g c = λ kept.
    trouble_after_reads g.D.Disk (root_top c.args.parts.now.at.0 c.args.parts.now.root.now) c.args.disk.now c.loop-number.disk c.node_again.new.disk kept (c.loop-number.number - c.args.from / leaf_pointers.count) c.in-Err.trouble c.loop-number.invariant.run.reads (c.in-Err.ensures.refused kept)

pub returns-in-Err-clause-sound : goal.returns-in-Err-clause-sound
returns-in-Err-clause-sound g c = λ space was v parts is.
    let run = c.loop-number.invariant.run in
    let tells = v.store.carries.tells in
    c.in-Err.ensures.sound (tells_on g.D.Disk c.args.disk.now c.loop-number.disk c.loop-number.disk _ run.reads tells) (subst (λ (i : Image). IsWay i c.args.parts.now.root.now c.args.way.now) (sym run.reads.content) is) (near_now run v parts (g.met.D.Disk.sized c.args.disk.now tells.honest) c.requires.some)

pub loop-number-preserved : goal.loop-number-preserved
loop-number-preserved g c =
    let n = c.loop-number.number in
    let Run = λ (disk : g.row.D.Denot) (list : List ℕ). record {
      run : ListRun g.D.Disk c.args.parts.now.root.now c.args.parts.now.leaves.now c.args.parts.now.nodes.now c.args.way.now c.args.from (n + 1) c.args.disk.now disk list;
      none : ((m : ℕ) → get_or c.args.parts.now.nodes.now m false ≡ false) → (list ≡ []) × (disk ≡ c.args.disk.now);
    } in
    elim c.if-has.branch [
      | then-has+in-Ok w ↦
          let f = c.args.from in
          let node = w.in-Ok.node.leaves in
          let block = slice_index c.args.parts.now.root.now.nodes n in
          subst (λ (disk : g.row.D.Denot). Run disk c.if-has.list) (sym w.disk-is) (subst (Run w.node_again.new.disk) (sym w.list-is) (record {
            none = λ stale. absurd (both_ways _ (stale n) (sym c.has.ensures ∙ w.if-has.true));
            run = run_lists c.loop-number.invariant.run c.loop-number-test.true w.node_again.new.disk node w.list_node.new.list
                (sym c.has.ensures ∙ w.if-has.true) w.in-Ok.ensures.reads w.in-Ok.ensures.there w.in-Ok.ensures.leaves c.requires.some w.in-Ok.ensures.node
                (w.list_node.ensures ∙ ap (λ (place : ℕ). c.loop-number.list ++ (list_if (place == 0) block ++ fresh_in c.args.parts.now.leaves.now node n place (leaf_pointers.count - place))) w.saturating_sub-place.ensures);
          }))
      | else-has w ↦ subst (λ (disk : g.row.D.Denot). Run disk c.if-has.list) (sym w.disk-is) (subst (Run c.loop-number.disk) (sym w.list-is) (record {
        none = c.loop-number.invariant.none;
        run = run_skips c.loop-number.invariant.run c.loop-number-test.true (sym c.has.ensures ∙ w.if-has.false);
      }))
    ]

pub returns-clause-listed : goal.returns-clause-listed
returns-clause-listed g c = λ space was v parts. run_all c.loop-number.invariant.run v parts (omega (arith, c.loop-number-test.false, c.requires.limit, c.loop-number.auto.number-end))
