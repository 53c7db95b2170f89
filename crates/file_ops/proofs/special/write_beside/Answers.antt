use Rattle.file_ops.proofs.Words.{◌≡◌, ◌+◌, ◌-◌, ◌/◌, length, refl, sym, ap, subst, arith, OnlyReads, reads_none, AreClaimed, Drafting, claims_by_leaf, leaves_in, shadow_need}
use Rattle.file_ops.proofs.Beside.{ended, never_begun, refused_change, too_short}
use Rattle.file_ops.proofs.Views.{begun_by, view_begun}
use Rattle.file_ops.proofs.special.write_beside.Goals as goal

pub returns-in-Err-clause-changes : goal.returns-in-Err-clause-changes
returns-in-Err-clause-changes g c = never_begun c.in-Err.error (record { begun = tt; root = λ tells. tt; refused = c.in-Err.ensures.refused c.args.space.now; spare = c.in-Err.ensures.spare; untried = c.in-Err.ensures.untried; space = refl; reads = c.begin.ensures.reads }) (λ v. (c.in-Err.ensures.begins c.args.space.now v).sound)

pub returns-then-size-offset-clause-changes : goal.returns-then-size-offset-clause-changes
returns-then-size-offset-clause-changes g c =
    let e = c.in-Ok.ensures in
    too_short c.in-Ok.draft.own c.begin.ensures.reads refl e.root (omega (arith, c.if-size-offset.true, c.size.ensures, ap (λ (x : Drafting). x.root.size) e.begun))

pub returns-in-Err-write-clause-changes : goal.returns-in-Err-write-clause-changes
returns-in-Err-write-clause-changes g c =
    let w = c.in-Err-write.ensures in
    let d1 = c.begin.new.disk in
    let b = begun_by (c.in-Ok.ensures.begins c.args.space.now) (record { begun = c.in-Ok.ensures.begun; root = c.in-Ok.ensures.root; refused = tt; spare = tt; untried = tt; space = refl; reads = c.begin.ensures.reads }) in
    refused_change {now = c.write.new.self} (record {
      begun = b;
      goes = λ m. let x = w.goes (view_begun m b) in record { done = tt; leaves = x.leaves; sound = x.sound };
      full = λ m is. (w.call.full is).3 _ _ _ (view_begun m b).opened;
      spared = λ is. let all = w.call.full is in (subst (λ d. OnlyReads g.D.Disk 1 d1 d) (sym all.0) (reads_none g.D.Disk 1 d1), all.1);
      stays = tt;
      ends = w.call.ends;
      few = omega (arith, c.requires.most);
      few_tries = omega (arith, c.requires.most);
    })

pub returns-in-Ok-write-clause-changes : goal.returns-in-Ok-write-clause-changes
returns-in-Ok-write-clause-changes g c =
    let w = c.in-Ok-write.ensures in
    let s = w.call.stays in
    let was = c.in-Ok.draft in
    let from = c.args.offset / 512 in
    let b = begun_by (c.in-Ok.ensures.begins c.args.space.now) (record { begun = c.in-Ok.ensures.begun; root = c.in-Ok.ensures.root; refused = tt; spare = tt; untried = tt; space = refl; reads = c.begin.ensures.reads }) in
    let one : shadow_need was ≡ 1 = ap (λ (x : Drafting). shadow_need x) b.call.begun in
    ended (record {
      begun = b;
      goes = λ m. let x = w.goes (view_begun m b) in record {
        done = record {
          becomes = x.done.becomes m.file refl;
          order = subst (λ (y : Drafting). AreClaimed (claims_by_leaf was.at y.leaves y.nodes from (leaves_in (c.args.offset + length c.args.bytes.now) - from)) (g.D.Disk.content c.begin.new.disk) (g.D.Disk.content c.write.new.disk)) b.call.begun x.done.order;
          room = w.call.room _ _ _ (view_begun m b).opened;
          spare = omega (arith, w.call.spare, one);
        };
        leaves = x.leaves;
        sound = tt;
      };
      full = λ m. tt;
      spared = tt;
      stays = record { at = s.at; shadow = s.shadow; own = s.own; created = s.created; near = w.call.near };
      ends = w.call.ends;
      few = omega (arith, c.requires.most);
      few_tries = omega (arith, c.requires.most);
    })
    (λ none. absurd (omega (arith, w.call.spare, none, one))) (λ yes. w.call.tried c.requires.least) (λ no. cc) c.commit.ensures.call c.commit.ensures.commits

pub returns-in-Err-clause-memory : goal.returns-in-Err-clause-memory
returns-in-Err-clause-memory g c = λ is. rw is at (c.in-Err.ensures.refused c.args.space.now)
