use Rattle.std.proofs.Common.{◌≡◌, ◌⊎◌, ◌+◌, ◌*◌, inl, inr, ℕ, Err, sym, subst, ap, arith}
use Rattle.cfs_base.proofs.Calls.{makes_then}
use Rattle.cfs_recover.specs.Reads.{reads_of_volume}
use Rattle.cfs_recover.proofs.Words.{Image, IsOpenFault, IsRecovered, IsSoundAs, Ok, OnOk, Result, WritesWhatDiffers}
use Rattle.cfs_recover.specs.declared.fault.RecoverFault.TheVariants as faults
use Rattle.cfs_recover.proofs.Opening.{err_as, ok_as, on_ok, untouched_then}
use Rattle.cfs_recover.proofs.Refused.{sound_refused}
use Rattle.cfs_recover.proofs.Writing.{writes_after}
use Rattle.cfs_recover.proofs.recovery.recover.Goals as goal

pub returns-in_err-flush-clause-images : goal.returns-in_err-flush-clause-images
returns-in_err-flush-clause-images g c honest graph sound =
    inl (record { failed = c.in_err-flush.ensures.cause; untouched = c.in_err-flush.ensures.untouched; calls = c.in_err-flush.ensures.one_call; tries = c.in_err-flush.ensures.one_try })

pub returns-clause-images : goal.returns-clause-images
returns-clause-images g c honest graph sound =
    let was = c.in_ok-flush.ensures.untouched in
    let settled = c.in_ok-flush.ensures.settled honest in
    let leads = c.open_settled.ensures.leads graph settled (subst (λ (i : Image). IsSoundAs i graph) (sym was.content) sound) in
    inr (c.flush.new.disk, record { settled = settled; untouched = was; calls = c.in_ok-flush.ensures.one_call; tries = c.in_ok-flush.ensures.one_try }, leads.leaves)

pub returns-clause-reading : goal.returns-clause-reading
returns-clause-reading g c honest graph sound =
    let was = c.in_ok-flush.ensures.untouched in
    (c.open_settled.ensures.leads graph (c.in_ok-flush.ensures.settled honest) (subst (λ (i : Image). IsSoundAs i graph) (sym was.content) sound)).content

pub returns-clause-free : goal.returns-clause-free
returns-clause-free g c honest sound =
    let was = c.in_ok-flush.ensures.untouched in
    let settled = c.in_ok-flush.ensures.settled honest in
    let mid = g.D.Disk.content c.flush.new.disk in
    err_as (IsOpenFault mid) (λ e. (e ≡ faults.Disk) ⊎ (e ≡ faults.Memory)) c.open_settled.result
    (λ e fault. sound_refused mid sound.0 (subst (λ (i : Image). IsSoundAs i sound.0) (sym was.content) sound.1) e fault) (c.open_settled.ensures.refused settled.tells)

pub returns-clause-unsound : goal.returns-clause-unsound
returns-clause-unsound g c honest none =
    let was = c.in_ok-flush.ensures.untouched in
    let settled = c.in_ok-flush.ensures.settled honest in
    untouched_then g.D.Disk c.args.disk.now c.flush.new.disk c.open_settled.new.disk was
    (c.open_settled.ensures.unsound settled.tells (λ sound. none (sound.0, subst (λ (i : Image). IsSoundAs i sound.0) was.content sound.1)))

pub returns-clause-writes : goal.returns-clause-writes
returns-clause-writes g c honest =
    let new = c.open_settled.new.disk in
    on_ok _ (WritesWhatDiffers g.D.Disk 3 c.args.disk.now new) c.open_settled.result
    (λ r done. writes_after g.D.Disk c.args.disk.now c.flush.new.disk new 2 3 c.in_ok-flush.ensures.untouched.content (omega (arith, c.in_ok-flush.ensures.calls.tries)) done.1)
    (c.open_settled.ensures.opened (c.in_ok-flush.ensures.settled honest))

pub returns-clause-opened : goal.returns-clause-opened
returns-clause-opened g c honest =
    ok_as _ _ c.open_settled.result
    (λ r done. subst (λ (i : Image). IsRecovered g.D.Disk i c.open_settled.new.disk r.label r.directory r.space) c.in_ok-flush.ensures.untouched.content done.0)
    (c.open_settled.ensures.opened (c.in_ok-flush.ensures.settled honest))

on_as : {T E : Type 0} (P Q : Type 0) (r : Result T E) → (P → Q) → OnOk r P → OnOk r Q
on_as P Q (Ok v) more is = more is
on_as P Q (Err e) more is = tt

pub returns-clause-by_object : goal.returns-clause-by_object
returns-clause-by_object g c honest graph sound =
    let old = c.args.disk.now in
    let mid = c.flush.new.disk in
    let new = c.open_settled.new.disk in
    let blocks = g.D.Disk.blocks old in
    let most = reads_of_volume blocks graph in
    let was = c.in_ok-flush.ensures.untouched in
    let flush = c.in_ok-flush.ensures.calls in
    let size = flush.same.size in
    let same = ap (λ (n : ℕ). reads_of_volume n graph) size in
    on_as _ _ c.open_settled.result
    (λ makes. makes_then g.D.Disk old mid new 1 (reads_of_volume (g.D.Disk.blocks mid) graph + 2 * g.D.Disk.blocks mid + 2) (most + 2 * blocks + 3) 1 (2 * g.D.Disk.blocks mid + 2) (2 * blocks + 3) flush makes (omega (arith, size, same)) (omega (arith, size)))
    (c.open_settled.ensures.by_object graph (c.in_ok-flush.ensures.settled honest) (subst (λ (i : Image). IsSoundAs i graph) (sym was.content) sound))
