use Rattle.index_drafts.proofs.Words.{◌≡◌, Err, Ok, after_try, bare_object, arith, rules, Refused}
use Rattle.index_drafts.specs.Creates.{CreatesIn}
use Rattle.index_drafts.proofs.Drafts.{fill_ends, filled_or_not, least_stops, made_not, make_stops}
use Rattle.cfs_base.proofs.Passed.{fine, handed, mapped, passed}
use Rattle.special_files.proofs.SlotNeed.{slot_need_is}
use Rattle.special_files.proofs.View.{read_leaves}
use Rattle.index_drafts.proofs.creating.create_in.Goals as goal
use Rattle.index_drafts.proofs.creating.create_in.Goals.{After-from_residual-in_err-map_err}

pub returns-in_err-has_room : goal.returns-in_err-has_room
returns-in_err-has_room g c = record { creates = λ i. search rules; need = λ i. slot_need_is i.view c.args.slot c.requires.within; call = search rules }

-- ---- no block was found

pub returns-in_err-block : goal.returns-in_err-block
returns-in_err-block g c =
    let G = g.D.Disk in
    let was = c.args.draft.now in
    let d0 = c.args.disk.now in
    let d1 = c.least.new.disk in
    let e = c.in_err-block.field-0.0 in
    passed (CreatesIn G c.args.slot (bare_object c.args.root.now) c.args.root.now.word c.args.floor d0 d1 c.args.space.now c.args.space.now was was) _ e c.from_residual-in_err-block.ensures.1 (record {
      creates = λ i. record { done = tt; leaves = read_leaves c.least.ensures.reads; sound = c.in_err-block.ensures.sound i.view.graph i.view.ds i.view.store };
      need = λ i. slot_need_is i.view c.args.slot c.requires.within;
      call = least_stops c.args.slot c.args.floor was c.least.ensures.reads (omega (arith, c.in_ok-has_room.ensures.room, c.slot_takes.ensures.takes)) e (c.in_err-block.ensures.refused was.at);
    })

-- ---- the object isn't made

pub returns-in_err-make_at : goal.returns-in_err-make_at
returns-in_err-make_at g c =
    let was = c.args.draft.now in
    let d2 = c.make_at.new.disk in
    let k2 = c.make_at.new.space in
    let made = c.in_err-make_at.ensures in
    let e = c.in_err-make_at.field-0.0 in
    passed (CreatesIn g.D.Disk c.args.slot (bare_object c.args.root.now) c.args.root.now.word c.args.floor c.args.disk.now d2 c.args.space.now k2 was was) _ e c.from_residual-in_err-make_at.ensures.1 (record {
      creates = λ i. made_not i c.args.slot c.in_ok-block.block.0 c.args.root.now c.requires.root c.least.ensures.reads c.in_ok-block.ensures.found d2 k2 e made.makes;
      need = λ i. slot_need_is i.view c.args.slot c.requires.within;
      call = make_stops c.args.slot c.args.floor was c.least.ensures.reads (omega (arith, c.in_ok-has_room.ensures.room, c.slot_takes.ensures.takes)) e (made.ends was.at) made.spare;
    })

-- ---- it is

pub fill-requires-clause-on_disk : goal.fill-requires-clause-on_disk
fill-requires-clause-on_disk g c = omega (arith, c.requires.on_disk, c.least.ensures.reads.same.size, (c.in_ok-make_at.ensures.ends 0).calls.same.size)

pub fill-requires-clause-size : goal.fill-requires-clause-size
fill-requires-clause-size g c = omega (arith, c.requires.size, c.least.ensures.reads.same.size, (c.in_ok-make_at.ensures.ends 0).calls.same.size, (c.in_ok-make_at.ensures.ends 0).moves.cylinders)

why : (g : _) (c : After-from_residual-in_err-map_err g) → (e : Refused) × (c.fill.result ≡ Err e) × (c.in_err-map_err.field-0.0 ≡ after_try e)
why g c = handed after_try c.fill.result _ _ (mapped after_try _ _ c.map_err.ensures.cases (λ e k is. search rules)) c.in_err-map_err.was

pub returns-in_err-map_err : goal.returns-in_err-map_err
returns-in_err-map_err g c =
    let was = c.args.draft.now in
    let made = c.in_ok-make_at.ensures in
    let no = why g c in
    passed (CreatesIn g.D.Disk c.args.slot (bare_object c.args.root.now) c.args.root.now.word c.args.floor c.args.disk.now c.fill.new.disk c.args.space.now c.fill.new.space was c.fill.new.self) _ _ c.from_residual-in_err-map_err.ensures.1 (rw no.2 (record {
      creates = λ i. filled_or_not i c.args.slot c.in_ok-block.block.0 c.args.root.now c.requires.root c.least.ensures.reads c.in_ok-block.ensures.found c.make_at.new.disk c.make_at.new.space made.makes (Err no.0) (rw no.1 at c.fill.ensures.goes) tt;
      need = λ i. slot_need_is i.view c.args.slot c.requires.within;
      call = fill_ends c.args.slot c.args.floor was c.least.ensures.reads (omega (arith, c.in_ok-has_room.ensures.room, c.slot_takes.ensures.takes)) (made.ends was.at) made.tried (Err no.0) (rw no.1 at c.fill.ensures.call);
    }))

pub returns : goal.returns
returns g c =
    let was = c.args.draft.now in
    let made = c.in_ok-make_at.ensures in
    let is = fine after_try c.fill.result _ _ (mapped after_try _ _ c.map_err.ensures.cases (λ e k is. search rules)) c.in_ok-map_err.was in
    let call = rw is at c.fill.ensures.call in
    record {
      creates = λ i. filled_or_not i c.args.slot c.in_ok-block.block.0 c.args.root.now c.requires.root c.least.ensures.reads c.in_ok-block.ensures.found c.make_at.new.disk c.make_at.new.space made.makes (Ok c.in_ok-map_err.field-0) (rw is at c.fill.ensures.goes) call.empty;
      need = λ i. slot_need_is i.view c.args.slot c.requires.within;
      call = fill_ends c.args.slot c.args.floor was c.least.ensures.reads (omega (arith, c.in_ok-has_room.ensures.room, c.slot_takes.ensures.takes)) (made.ends was.at) made.tried (Ok c.in_ok-map_err.field-0) call;
    }
