use Rattle.std.proofs.Common.{rules, ◌≡◌, ◌+◌, ◌*◌, ◌<◌, ◌≤◌, ℕ, List, [], length, get_or, Some, refl, sym, ◌∙◌, ap, subst, arith}
use Rattle.cfs_recover.proofs.Words.{Found, HasKept, IsCaused, Walk, Walks, reads_then, reads_within, slice_get, slice_get-get_or, slice_get_within, reads_of_object}
use Rattle.cfs_recover.proofs.Copyings.{kept_none, kept_on}
use Rattle.cfs_recover.proofs.Few.{few_found}
use Rattle.cfs_recover.proofs.Noting.{grows_then}
use Rattle.cfs_recover.proofs.Refused.{caused_after, if_err, told_on}
use Rattle.cfs_recover.specs.Reads.{HasRead}
use Rattle.cfs_recover.proofs.Summing.{read_then}
use Rattle.cfs_recover.proofs.walk.walk_all.Goals as goal

-- what was indexed stands on the list
read_at : (xs : List Found) (k : ℕ) (x : Found) → k < length xs → x ≡ get_or xs k x → slice_get xs k ≡ Some x
read_at xs k x inside is = slice_get-get_or xs k x inside ∙ ap Some (sym is)

pub loop-next-init : goal.loop-next-init
loop-next-init g c = record {
  within = omega arith;
  reads = search rules;
  grows = search rules;
  told = λ image label walks standing has. (walks, kept_none image c.args.walk.now.found.items c.args.kept.now.items c.requires.none);
  by_object = λ image label walks standing has. ([], refl, search rules);
}

-- the list has each block once at most
few : (w : Walk) → length w.found.items ≤ w.directory.room
few w = few_found w.directory w.found.items w.held.items w.sized

pub returns-clause-told : goal.returns-clause-told
returns-clause-told g c image label walks standing has =
    let w = c.loop-next.walk in
    let were = c.loop-next.invariant.told image label walks standing has in
    let all : c.loop-next.next ≡ length w.found.items = omega (arith, were.0.walk.within, c.len.ensures, c.loop-next-test.false, w.found.ok.0) in
    subst (λ (n : ℕ). Walks g.D.Disk c.loop-next.disk image c.args.maps.now w n × HasKept image w.found.items n c.loop-next.kept.items) all were

pub returns-clause-by_object : goal.returns-clause-by_object
returns-clause-by_object g c image label walks standing has =
    let w = c.loop-next.walk in
    let before = c.loop-next.invariant in
    let all : c.loop-next.next ≡ length w.found.items = omega (arith, before.within, c.len.ensures, c.loop-next-test.false, w.found.ok.0) in
    subst (λ (n : ℕ). HasRead g.D.Disk image w.found.items n c.args.disk.now c.loop-next.disk) all (before.by_object image label walks standing has)

pub returns-clause-few : goal.returns-clause-few
returns-clause-few g c =
    let before = c.loop-next.invariant in
    omega (arith, few c.loop-next.walk, before.grows.room, c.requires.room)

pub returns-clause-reads : goal.returns-clause-reads
returns-clause-reads g c =
    let before = c.loop-next.invariant in
    reads_within g.D.Disk c.args.disk.now c.loop-next.disk (reads_of_object * c.loop-next.next) (reads_of_object * g.D.Disk.blocks c.args.disk.now)
    (omega (arith, few c.loop-next.walk, before.within, before.grows.room, c.requires.room)) before.reads

pub loop-next-smaller : goal.loop-next-smaller
loop-next-smaller g c =
    let before = c.loop-next.invariant in
    omega (arith, few c.loop-next.walk, before.grows.room, c.requires.room, c.len.ensures, c.loop-next-test.true, c.loop-next.walk.found.ok.0)

pub returns-in_err-head-clause-reads : goal.returns-in_err-head-clause-reads
returns-in_err-head-clause-reads g c =
    let before = c.loop-next.invariant in
    reads_then g.D.Disk c.args.disk.now c.loop-next.disk c.walk_object.new.disk (reads_of_object * c.loop-next.next) reads_of_object (reads_of_object * g.D.Disk.blocks c.args.disk.now) before.reads c.in_err-head.ensures.reads
    (omega (arith, few c.loop-next.walk, before.grows.room, c.requires.room, c.len.ensures, c.loop-next-test.true, c.loop-next.walk.found.ok.0))

pub returns-in_err-note_copy-clause-reads : goal.returns-in_err-note_copy-clause-reads
returns-in_err-note_copy-clause-reads g c =
    let before = c.loop-next.invariant in
    reads_then g.D.Disk c.args.disk.now c.loop-next.disk c.walk_object.new.disk (reads_of_object * c.loop-next.next) reads_of_object (reads_of_object * g.D.Disk.blocks c.args.disk.now) before.reads c.in_ok-head.ensures.reads
    (omega (arith, few c.loop-next.walk, before.grows.room, c.requires.room, c.len.ensures, c.loop-next-test.true, c.loop-next.walk.found.ok.0))

pub walk_object-requires-clause-on_disk : goal.walk_object-requires-clause-on_disk
walk_object-requires-clause-on_disk g c =
    let w = c.loop-next.walk in
    let at = read_at w.found.items c.loop-next.next c.index-item.result.now (omega (arith, c.len.ensures, c.loop-next-test.true, w.found.ok.0)) c.index-item.ensures in
    let below = w.sized.each c.loop-next.next c.index-item.result.now at in
    omega (arith, below, c.loop-next.invariant.grows.room, c.requires.room, c.loop-next.invariant.reads.same.size)

pub returns-in_err-head-clause-told : goal.returns-in_err-head-clause-told
returns-in_err-head-clause-told g c image label walks standing has =
    let w = c.loop-next.walk in
    let at = read_at w.found.items c.loop-next.next c.index-item.result.now (omega (arith, c.len.ensures, c.loop-next-test.true, w.found.ok.0)) c.index-item.ensures in
    told_on _ _ _ _ _ c.from_residual.ensures.1
    (c.in_err-head.ensures.told image label c.loop-next.next (c.loop-next.invariant.told image label walks standing has).0 standing has at) (λ d wrong. wrong)

pub returns-in_err-head-clause-cause : goal.returns-in_err-head-clause-cause
returns-in_err-head-clause-cause g c =
    if_err (IsCaused g.D.Disk c.args.disk.now c.walk_object.new.disk) _ _ c.from_residual.ensures.1
    (caused_after g.D.Disk c.args.disk.now c.loop-next.disk c.walk_object.new.disk (reads_of_object * c.loop-next.next) _ c.loop-next.invariant.reads c.in_err-head.ensures.cause)

pub loop-next-preserved : goal.loop-next-preserved
loop-next-preserved g c =
    let w = c.loop-next.walk in
    let n = c.loop-next.next in
    let item = c.index-item.result.now in
    let at = read_at w.found.items n item (omega (arith, c.len.ensures, c.loop-next-test.true, w.found.ok.0)) c.index-item.ensures in
    let grows = c.in_ok-head.ensures.grows in
    record {
      within = omega (arith, slice_get_within c.walk_object.new.walk.found.items n item (grows.found n item at));
      reads = reads_then g.D.Disk c.args.disk.now c.loop-next.disk c.walk_object.new.disk (reads_of_object * n) reads_of_object (reads_of_object * (n + 1)) c.loop-next.invariant.reads c.in_ok-head.ensures.reads (omega arith);
      grows = grows_then c.args.walk.now w c.walk_object.new.walk c.loop-next.invariant.grows grows;
      told = λ image label walks standing has.
          let were = c.loop-next.invariant.told image label walks standing has in
          let now = c.in_ok-head.ensures.told image label n were.0 standing has at in (
            now.0,
            c.in_ok-note_copy.ensures image c.walk_object.new.walk.found.items n
                (kept_on image w.found.items c.walk_object.new.walk.found.items grows.found n c.loop-next.kept.items were.0.walk.within were.1)
                item (grows.found n item at) refl now.1
                (λ j y here is. now.0.walk.once j n y item here (grows.found n item at) is),
          );
      by_object = λ image label walks standing has.
          let before = c.loop-next.invariant in
          let were = before.by_object image label walks standing has in
          let now = c.in_ok-head.ensures.few image label n (before.told image label walks standing has).0 standing has at in
          read_then g.D.Disk image w.found.items c.walk_object.new.walk.found.items grows.found n item (grows.found n item at) c.args.disk.now c.loop-next.disk c.walk_object.new.disk were now;
    }
