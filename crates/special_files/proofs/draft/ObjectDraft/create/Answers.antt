use Rattle.std.proofs.Common.{ap, arith}
use Rattle.cfs_base.proofs.Passed.{is_passed, mapped_err, mapped_ok}
use Rattle.special_files.proofs.Words.{Drafting, after_try}
use Rattle.special_files.proofs.creating.Created.{created_goes, created_stops, fill_done_then, fill_stopped_then, make_stopped}
use Rattle.special_files.proofs.creating.NewRoots.{root_entry}
use Rattle.special_files.proofs.draft.ObjectDraft.create.Goals as goal

-- ---- the root isn't made

pub returns-in_err-make_root : goal.returns-in_err-make_root
returns-in_err-make_root g c = rw (is_passed _ _ c.from_residual.ensures.1) (record {
  goes = λ v none least bare. let ends = c.in_err-make_root.ensures.made v.graph v.ds v.store least in record { done = tt; leaves = ends.leaves; sound = ends.sound };
  call = make_stopped c.args.self.now c.args.slot c.args.block.0 (c.in_err-make_root.ensures.ends c.args.self.now.at) c.in_err-make_root.ensures.spare;
})

-- ---- it is, and the slot isn't filled, or is

pub fill-filled-requires-clause-on_disk : goal.fill-filled-requires-clause-on_disk
fill-filled-requires-clause-on_disk g c = omega (arith, ap (λ (x : Drafting). x.at) c.adopt.ensures, c.requires.on_disk, (c.in_ok-make_root.ensures.ends 0).calls.same.size)

pub fill-filled-requires-clause-size : goal.fill-filled-requires-clause-size
fill-filled-requires-clause-size g c = omega (arith, c.requires.size, (c.in_ok-make_root.ensures.ends 0).calls.same.size, (c.in_ok-make_root.ensures.ends 0).moves.cylinders)

pub returns-in_err-swap : goal.returns-in_err-swap
returns-in_err-swap g c = rw (is_passed _ _ c.from_residual-in_err-swap.ensures.1)
    (let was = mapped_err after_try _ _ c.in_err-swap.ensures.cases in
    let fill = rw (was.1, c.puid_of-made.ensures.value) at c.fill-filled.ensures in
    record {
      goes = λ v none least bare. created_stops v none least (root_entry c.args.block.0 c.requires.some (omega arith)) c.in_ok-make_root.ensures.spelled bare (c.in_ok-make_root.ensures.made v.graph v.ds v.store least) c.args.slot c.adopt.ensures _ was.2 fill.goes;
      call = fill_stopped_then c.args.self.now c.args.slot c.args.block.0 (c.in_ok-make_root.ensures.ends c.args.self.now.at) c.in_ok-make_root.ensures.tried c.adopt.ensures _ was.2 fill.call;
    })

pub returns : goal.returns
returns g c =
    let root = root_entry c.args.block.0 c.requires.some (omega arith) in
    let fill = rw (mapped_ok _ _ _ c.in_ok-swap.ensures.cases, c.puid_of-made.ensures.value) at c.fill-filled.ensures in
    record {
      goes = λ v none least bare. created_goes v none least root c.in_ok-make_root.ensures.spelled bare (c.in_ok-make_root.ensures.made v.graph v.ds v.store least) c.args.slot c.adopt.ensures _ c.in-Some.is fill.call.stays.created fill.goes;
      call = fill_done_then c.args.self.now c.args.slot c.args.block.0 (c.in_ok-make_root.ensures.ends c.args.self.now.at) c.in_ok-make_root.ensures.tried c.adopt.ensures _ c.in-Some.is fill.call;
    }
