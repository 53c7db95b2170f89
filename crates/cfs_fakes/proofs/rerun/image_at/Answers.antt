use Rattle.std.proofs.Common.{List, take, get_or, sym, subst, ap, arith}
use Rattle.std.proofs.lemmas.List.{take_all}
use Rattle.cfs_fakes.specs.declared.kept.KeptCall.{KeptCall}
use Rattle.cfs_fakes.specs.Picks.{choice_of}
use Rattle.cfs_fakes.specs.Replay.{DiskState, zeros, made, made_at, replayed_calls, IsChoice}
use Rattle.cfs_fakes.specs.Rerun.{Follows}
use Rattle.cfs_base.proofs.Replays.{replay_take}
use Rattle.cfs_fakes.proofs.Images.{same_choice}
use Rattle.cfs_fakes.proofs.rerun.image_at.Goals as goal

pub loop-kept-preserved : goal.loop-kept-preserved
loop-kept-preserved c =
    let i = c.loop-kept.invariant in
    let start = zeros c.args.blocks in
    let calls = c.args.calls.now in
    let at = replay_take made_at made start c.args.at calls c.loop-kept.kept-index c.kept-item.result c.loop-kept-test.true c.kept-item.is in
    record {
      follows = subst (λ (s : DiskState). Follows c.make_before.new.self s) (sym at) (c.make_before.ensures.follows (replayed_calls start c.args.at (take c.loop-kept.kept-index calls)) i.follows);
      wanted = rw c.make_before.ensures.wanted i.wanted;
      size = rw c.make_before.ensures.wanted i.size;
    }

pub returns : goal.returns
returns c =
    let i = c.loop-kept.invariant in
    let r = c.loop-kept.rerun in
    let all = ap (λ (l : List KeptCall). replayed_calls (zeros c.args.blocks) c.args.at l) (take_all c.loop-kept.kept-index c.args.calls.now c.loop-kept-test.false) in
    let last = subst (λ (s : DiskState). IsChoice s (λ n. get_or r.wanted.items n 0) r.image) all i.follows.image in
    same_choice (replayed_calls (zeros c.args.blocks) c.args.at c.args.calls.now) (λ n. get_or r.wanted.items n 0) (choice_of c.args.picks.now) r.image last (λ n le. i.wanted n (omega (arith, le, r.image_size, r.wanted_size, i.size)))
