-- What a refusal of the store says.
use Rattle.std.specs.Prelude.{Bool, true, false}
use Rattle.cfs_base.specs.declared.refusal.Refused.{Refused}
use Rattle.cfs_base.specs.declared.refusal.Refused.TheVariants as refused
use Rattle.cfs_base.specs.declared.refusal.Trouble.{Trouble}
use Rattle.cfs_base.specs.declared.refusal.Trouble.TheVariants as trouble

-- ---- whether a write or barrier was tried

abbrev pub trouble_had_tried : Trouble → Bool
trouble_had_tried (trouble.Disk tried) = tried
trouble_had_tried (trouble.Damaged damage) = false

abbrev pub had_tried : Refused → Bool
had_tried (refused.Full need) = false
had_tried (refused.Disk tried) = tried
had_tried (refused.Damaged damage) = false
had_tried refused.Memory = false

-- ---- one refusal reported as another

-- the refusal of a call that may take blocks or memory, by a call in it that takes none
abbrev pub refused_by : Trouble → Refused
refused_by (trouble.Disk tried) = refused.Disk tried
refused_by (trouble.Damaged damage) = refused.Damaged damage

-- the refusal of a call that had tried a write or a barrier before the call in it that is refused
abbrev pub trouble_after_try : Trouble → Trouble
trouble_after_try (trouble.Disk tried) = trouble.Disk true
trouble_after_try (trouble.Damaged damage) = trouble.Damaged damage

abbrev pub after_try : Refused → Refused
after_try (refused.Full need) = refused.Full need
after_try (refused.Disk tried) = refused.Disk true
after_try (refused.Damaged damage) = refused.Damaged damage
after_try refused.Memory = refused.Memory
