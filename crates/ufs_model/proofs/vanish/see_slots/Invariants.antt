use Rattle.std.proofs.Common.{◌≡◌, ◌++◌, drop, map}
use Rattle.ufs_model.proofs.Words.{Edge, filter_map}
use Rattle.ufs_model.proofs.vanish.see_slots.Given as goal

-- what is left is still to be seen
abbrev pub invariant-slots : goal.invariant-slots
invariant-slots l = l.seen.items ++ map (λ x. Edge l.id x) (filter_map (λ slot. slot) (drop l.slot-index l.slot-items)) ≡ l.fn.seen.items ++ map (λ x. Edge l.id x) (filter_map (λ slot. slot) l.slot-items)
