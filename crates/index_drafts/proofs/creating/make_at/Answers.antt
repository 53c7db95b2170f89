use Rattle.index_drafts.proofs.Words.{Ok, Err, ap, EndsCall, Trouble, enters_ends, find_sound, has_met_damage, refused_by}
use Rattle.cfs_base.proofs.Runs.{on}
use Rattle.index_drafts.proofs.Makings.{all_ends, barrier_ends, barrier_stops, claim_leaves, made, stops, write_leaves, write_stops, wrote}
use Rattle.leaf_changes.specs.Tops.{still_top}
use Rattle.cfs_base.proofs.Passed.{passed}
use Rattle.index_drafts.proofs.creating.make_at.Goals as goal

pub returns-in_err-claim-clause-makes : goal.returns-in_err-claim-clause-makes
returns-in_err-claim-clause-makes g c = λ graph ds store least bare.
    let enters = c.in_err-claim.ensures.enters in
    stops _ _ c.from_residual.ensures.1 (claim_leaves store least c.args.root.now _ enters) (find_sound g.D.Disk c.args.disk.now c.claim.new.disk c.args.space.now store.carries.tells store.account.holds.maps store.counts _ enters.refused)

-- ---- the root isn't written

pub returns-in_err-write_root-clause-makes : goal.returns-in_err-write_root-clause-makes
returns-in_err-write_root-clause-makes g c = λ graph ds store least bare.
    let writes = c.in_err-write_root.ensures.writes in
    stops _ _ c.from_residual-in_err-write_root.ensures.1 (write_leaves store least c.args.root.now c.in_ok-claim.ensures.enters _ writes) (ap has_met_damage writes.refused)

pub returns-in_err-write_root-clause-ends : goal.returns-in_err-write_root-clause-ends
returns-in_err-write_root-clause-ends g c = λ at.
    let enters = c.in_ok-claim.ensures.enters in
    let claims = enters_ends (still_top at) enters in
    passed (EndsCall g.D.Disk (still_top at) 0 4 3 1 c.args.disk.now c.write_root.new.disk c.args.space.now c.claim.new.self) _ _ c.from_residual-in_err-write_root.ensures.1 (write_stops claims enters.made _ c.in_err-write_root.ensures.writes)

-- ---- it is, and then the barrier

pub returns-in_err-barrier-clause-makes : goal.returns-in_err-barrier-clause-makes
returns-in_err-barrier-clause-makes g c = λ graph ds store least bare.
    let last = c.in_err-barrier.ensures in
    stops _ _ c.from_residual-in_err-barrier.ensures.1 (on g.D.Disk c.args.disk.now c.write_root.new.disk c.barrier.new.disk _ (write_leaves store least c.args.root.now c.in_ok-claim.ensures.enters _ c.in_ok-write_root.ensures.writes) last.images)
    (ap (λ (t : Trouble). has_met_damage (refused_by t)) last.refused)

pub returns-in_err-barrier-clause-ends : goal.returns-in_err-barrier-clause-ends
returns-in_err-barrier-clause-ends g c = λ at.
    let enters = c.in_ok-claim.ensures.enters in
    let last = c.in_err-barrier.ensures in
    let claims = enters_ends (still_top at) enters in
    passed (EndsCall g.D.Disk (still_top at) 0 4 3 1 c.args.disk.now c.barrier.new.disk c.args.space.now c.claim.new.self) _ _ c.from_residual-in_err-barrier.ensures.1
    (barrier_stops claims enters.made c.in_ok-write_root.ensures.writes _ last.refused (barrier_ends (Err _) last.told last.refused last.stopped last.calls))

pub returns-clause-makes : goal.returns-clause-makes
returns-clause-makes g c = λ graph ds store least bare.
    let enters = c.in_ok-claim.ensures.enters in
    let writes = c.in_ok-write_root.ensures.writes in
    let last = c.in_ok-barrier.ensures in
    let has = wrote store least c.args.root.now enters writes in
    record {
      done = made store least c.args.root.now bare c.write_root.ensures.spelled has last.content (last.settled has.carries.tells);
      leaves = on g.D.Disk c.args.disk.now c.write_root.new.disk c.barrier.new.disk _ (write_leaves store least c.args.root.now enters _ writes) last.images;
      sound = tt;
    }

pub returns-clause-ends : goal.returns-clause-ends
returns-clause-ends g c = λ at.
    let enters = c.in_ok-claim.ensures.enters in
    let last = c.in_ok-barrier.ensures in
    let claims = enters_ends (still_top at) enters in
    all_ends claims enters.made c.in_ok-write_root.ensures.writes (barrier_ends (Ok tt) last.told tt tt last.calls)
