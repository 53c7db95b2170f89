use Rattle.std.proofs.Common.{Some, refl, sym, ◌∙◌, ap, subst, arith, rules}
use Rattle.special_files.proofs.Words.{BeginsDraft, Drafting, IsRootBlock, begun_at, block_at, both_ways, reads_then, still_top}
use Rattle.special_files.proofs.begin.Begins.{begin_leaves, begin_opens}
use Rattle.special_files.proofs.Begun.{own_root}
use Rattle.cyl_alloc.proofs.Takes.{enters_went}
use Rattle.special_files.proofs.Endings.{claim_real, ends_wider, enters_ends}
use Rattle.cfs_base.proofs.Passed.{is_passed}
use Rattle.special_files.proofs.View.{read_refused}
use Rattle.special_files.proofs.WriteLeaf.{ends_since}
use Rattle.special_files.proofs.draft.ObjectDraft.begin.Goals as goal

pub returns-in_err-root-clause-begins : goal.returns-in_err-root-clause-begins
returns-in_err-root-clause-begins g c = λ v. let own = own_root v in read_refused c.in_err-root.ensures.reads _ _ c.from_residual-in_err-root.ensures.1 (c.in_err-root.ensures.sound own.0 v.store.carries.tells own.1)

pub returns-in_err-shadow : goal.returns-in_err-shadow
returns-in_err-shadow g c = rw (is_passed _ _ c.from_residual-in_err-shadow.ensures.1)
    (let enters = c.in_err-shadow.ensures.enters in
    let reads = c.in_ok-root.ensures.reads in
    let ends = ends_wider c.args.floor 3 1 1 (ends_since reads 3 (enters_ends (still_top c.args.at.0) enters) (omega arith)) (omega arith) (omega arith) (enters_went enters).moves.takes in
    record {
      begins = λ v. record { done = tt; leaves = begin_leaves v reads _ enters; sound = search rules };
      call = record {
        begun = tt;
        root = λ tells. tt;
        room = tt;
        full = λ full. absurd (both_ways _ (claim_real g.D.Disk c.read_root.new.disk c.intend.new.disk c.args.space.now c.in_err-shadow.field-0.0 (omega (arith, c.in_ok-has_room.ensures.room)) enters.refused).0 full);
        refused = ends.refused;
        untried = λ early. (enters.kept refl, reads_then g.D.Disk c.args.disk.now c.read_root.new.disk c.intend.new.disk 1 1 2 reads (enters.unless_tried early) (omega arith));
        cylinders = ends.moves.cylinders;
        left = ends.moves.left;
        calls = ends.calls;
      };
    })

pub returns : goal.returns
returns g c = record {
  begins = λ v. record {
    done = subst (BeginsDraft v c.intend.new.disk c.intend.new.self) (sym c.draft.ensures) (begin_opens v c.in_ok-root.ensures.reads c.in_ok-shadow.shadow c.in_ok-shadow.ensures.enters c.in_ok-root.root (c.in_ok-root.ensures.root v.store.carries.tells));
    leaves = begin_leaves v c.in_ok-root.ensures.reads _ c.in_ok-shadow.ensures.enters;
    sound = tt;
  };
  call = record {
    begun = (c.in_ok-shadow.shadow.0, c.draft.ensures ∙ ap (begun_at c.args.at.0 (Some c.in_ok-shadow.shadow.0)) (ap (λ (d : Drafting). d.own) (sym c.draft.ensures)));
    root = λ tells. subst (λ (d : Drafting). IsRootBlock (block_at (g.D.Disk.content c.args.disk.now) c.args.at.0) d.own) (sym c.draft.ensures) (c.in_ok-root.ensures.root tells);
    room = search rules;
    full = tt;
    refused = tt;
    untried = tt;
    cylinders = search rules;
    left = search rules;
    calls = search rules;
  };
}
