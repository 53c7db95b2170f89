use Rattle.file_ops.proofs.Words.{refl, sym, arith, subst, HasNoneFresh}
use Rattle.file_ops.proofs.Beside.{ended, never_begun, refused_change}
use Rattle.file_ops.proofs.Exact.{resized_drafts}
use Rattle.file_ops.proofs.Views.{begun_by, view_begun}
use Rattle.block_tree.specs.Pointers.{leaf_limit, node_pointers}
use Rattle.special_files.proofs.Levels.{none_is}
use Rattle.file_ops.proofs.special.resize_beside.Goals as goal

pub returns-in-Err-clause-changes : goal.returns-in-Err-clause-changes
returns-in-Err-clause-changes g c = never_begun c.in-Err.error (record { begun = tt; root = λ tells. tt; refused = c.in-Err.ensures.refused c.args.space.now; spare = c.in-Err.ensures.spare; untried = c.in-Err.ensures.untried; space = refl; reads = c.begin.ensures.reads }) (λ v. (c.in-Err.ensures.begins c.args.space.now v).sound)

pub returns-in-Err-resize-clause-changes : goal.returns-in-Err-resize-clause-changes
returns-in-Err-resize-clause-changes g c =
    let r = c.in-Err-resize.ensures in
    let b = begun_by (c.in-Ok.ensures.begins c.args.space.now) (record { begun = c.in-Ok.ensures.begun; root = c.in-Ok.ensures.root; refused = tt; spare = tt; untried = tt; space = refl; reads = c.begin.ensures.reads }) in
    refused_change {now = c.resize.new.self} (record {
      begun = b;
      goes = λ m. let x = r.goes (view_begun m b) in record { done = tt; leaves = x.leaves; sound = x.sound };
      full = λ m is. let x = r.full (view_begun m b) m.file refl is in (x.is, x.less);
      spared = λ is. let all = r.call.spared is in (all.0, all.1);
      stays = tt;
      ends = r.call.ends;
      few = omega arith;
      few_tries = omega arith;
    })

pub returns-in-Ok-resize-clause-changes : goal.returns-in-Ok-resize-clause-changes
returns-in-Ok-resize-clause-changes g c =
    let r = c.in-Ok-resize.ensures in
    let s = r.call.stays in
    let w = c.has_fresh_nodes-wrote.ensures in
    let b = begun_by (c.in-Ok.ensures.begins c.args.space.now) (record { begun = c.in-Ok.ensures.begun; root = c.in-Ok.ensures.root; refused = tt; spare = tt; untried = tt; space = refl; reads = c.begin.ensures.reads }) in
    let told = r.call.told (subst HasNoneFresh (sym b.call.begun) (record { leaves = none_is leaf_limit; nodes = none_is node_pointers.count })) in
    ended (record {
      begun = b;
      goes = λ m. let x = r.goes (view_begun m b) in record { done = resized_drafts m b s.shadow (x.done m.file refl); leaves = x.leaves; sound = tt };
      full = λ m. tt;
      spared = tt;
      stays = record { at = s.at; shadow = s.shadow; own = s.own; created = s.created; near = r.call.near };
      ends = r.call.ends;
      few = omega arith;
      few_tries = omega arith;
    })
    (λ none. refl) (λ yes. let some = w.some yes in told.tried some.0 some.1) (λ no. told.untried (w.none no)) c.commit.ensures.call c.commit.ensures.commits

pub returns-in-Err-clause-memory : goal.returns-in-Err-clause-memory
returns-in-Err-clause-memory g c = λ is. rw is at (c.in-Err.ensures.refused c.args.space.now)
