use Rattle.std.proofs.Common.{◌≡◌, ◌<◌, length, get_or, Some, subst, arith}
use Rattle.std.proofs.lemmas.Option.{get_or_from_slice_get, slice_get-get_or}
use Rattle.std.specs.Prelude.{slice_get}
use Rattle.cfs_base.specs.declared.refusal.Damage.{Damage}
use Rattle.cfs_check.specs.Repair.{AreHealed}
use Rattle.cfs_check.proofs.Healing.{healed_more}
use Rattle.cfs_check.proofs.healed.check_healed.Goals as goal

pub is_unhealed-requires : goal.is_unhealed-requires
is_unhealed-requires c =
    let k = c.loop-fault.fault-index in
    let none : Damage = record { block = 0; code = 0 } in
    let d : Damage = get_or c.args.faults.now k none in
    let inside : k < length c.args.faults.now = omega arith in
    c.requires d (k, inside, get_or_from_slice_get c.args.faults.now k d d (slice_get-get_or c.args.faults.now k none inside))

pub loop-fault-preserved : goal.loop-fault-preserved
loop-fault-preserved c =
    let k = c.loop-fault.fault-index in
    let none : Damage = record { block = 0; code = 0 } in
    let d : Damage = get_or c.args.faults.now k none in
    let at : slice_get c.args.faults.now k ≡ Some d = slice_get-get_or c.args.faults.now k none (omega arith) in
    healed_more c.args.uses.now c.args.faults.now k d at c.if-is_unhealed.ensures c.loop-fault.invariant

pub returns-then-is_unhealed : goal.returns-then-is_unhealed
returns-then-is_unhealed c =
    let k = c.loop-fault.fault-index in
    let none : Damage = record { block = 0; code = 0 } in
    let at : slice_get c.args.faults.now k ≡ Some (get_or c.args.faults.now k none) = slice_get-get_or c.args.faults.now k none (omega arith) in
    record { k = k; here = at; unhealed = c.if-is_unhealed.ensures; before = c.loop-fault.invariant }

pub returns : goal.returns
returns c =
    let end : c.loop-fault.fault-index ≡ length c.args.faults.now = omega arith in
    subst (AreHealed c.args.uses.now c.args.faults.now) end c.loop-fault.invariant
