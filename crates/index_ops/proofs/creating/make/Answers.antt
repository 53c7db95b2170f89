use Rattle.index_ops.proofs.Words.{◌≡◌, true, inl, inr, ⊎_elim, refl, sym, subst, arith, Image, IsLeastFree, is_free_in, reads_then, store_reads, bare_object}
use Rattle.cfs_base.proofs.Went.{reads_none}
use Rattle.index_ops.proofs.Begun.{begun_store, begun_view, index_refusal}
use Rattle.index_ops.proofs.Making.{least_stops, placed}
use Rattle.leaf_changes.specs.Tops.{root_top, still_top}
use Rattle.special_files.proofs.Refusals.{if_err, refusal_as}
use Rattle.special_files.specs.Refusal.{top_of}
use Rattle.cfs_base.proofs.Passed.{passed}
use Rattle.index_ops.specs.Changes.{IsIndexRefusal}
use Rattle.index_ops.specs.Creates.{PlacesIn}
use Rattle.special_files.specs.Creates.{IsOpenMap}
use Rattle.std.specs.Prelude.{◌⊎◌, IfErr}
use Rattle.index_ops.proofs.creating.make.Goals as goal

pub returns-in_err-block-clause-places : goal.returns-in_err-block-clause-places
returns-in_err-block-clause-places g c = λ h own.
    passed (PlacesIn h (bare_object c.args.root.now) c.args.root.now.word c.least.new.disk c.args.space.now) _ _ c.from_residual.ensures.1
    (least_stops h c.requires.begun 1 c.least.ensures.reads (bare_object c.args.root.now) c.args.root.now.word c.in_err-block.field-0.0 (c.in_err-block.ensures.sound h.view.graph _ (begun_store h.view h.shut c.requires.begun own)))

pub returns-in_err-block-clause-refused : goal.returns-in_err-block-clause-refused
returns-in_err-block-clause-refused g c =
    let G = g.D.Disk in
    let d0 = c.args.disk.now in
    let d1 = c.least.new.disk in
    let k0 = c.args.space.now in
    let was = c.args.draft in
    let e = c.in_err-block.field-0.0 in
    passed (λ r. IfErr r (λ e. IsIndexRefusal G (root_top was.at was.own) d0 d1 k0 e ⊎ IsOpenMap G d0 k0 e)) _ _ c.from_residual.ensures.1
    (⊎_elim (λ why. inl (index_refusal G d0 d0 d1 k0 was c.requires.begun 0 (reads_none G 0 d0) e (refusal_as G (still_top was.at) (top_of was) refl d0 d1 k0 (λ far. absurd far) 0 e why.0, why.1))) (λ map. inr map) (c.in_err-block.ensures.refused was.at))

pub returns-clause-places : goal.returns-clause-places
returns-clause-places g c = λ h own.
    let G = g.D.Disk in
    let d0 = c.args.disk.now in
    let d1 = c.least.new.disk in
    let n = c.in_ok-block.block.0 in
    let begun = c.requires.begun in
    let reads = c.least.ensures.reads in
    let store0 = begun_store h.view h.shut begun own in
    let least = c.in_ok-block.ensures.found store0.carries.tells store0.counts in
    let view = begun_view h.view h.shut begun (store_reads G h.view.graph _ d0 d1 c.args.space.now 1 store0 reads) in
    placed h begun 1 reads (bare_object c.args.root.now) c.args.root.now.word n least c.make_at.new.disk c.make_at.new.space c.make_at.result c.make_at.ensures.value
    (c.make_at.ensures.makes view h.index h.is (subst (λ (a : Image). IsLeastFree a n) (sym reads.content) least) c.requires.root)

pub returns-clause-refused : goal.returns-clause-refused
returns-clause-refused g c =
    if_err c.make_at.result (λ e why. inl (index_refusal g.D.Disk c.args.disk.now c.least.new.disk c.make_at.new.disk c.make_at.new.space c.args.draft c.requires.begun 1 c.least.ensures.reads e why)) c.make_at.ensures.refused

pub returns-clause-untried : goal.returns-clause-untried
returns-clause-untried g c =
    if_err c.make_at.result (λ e untried same. let two = untried same in (two.0, reads_then g.D.Disk c.args.disk.now c.least.new.disk c.make_at.new.disk 1 3 8 c.least.ensures.reads two.1 (omega arith))) c.make_at.ensures.untried
