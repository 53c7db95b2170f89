-- What is neither Free nor in use, while a collection sweeps and while a commit is unfinished.
use Rattle.std.specs.Prelude.{◌≡◌, ℕ, ◌+◌, ◌≤◌, ◌&&◌, not, count_by, length, Option, Some, None}
use Rattle.std.specs.List.{range_with_len}
use Rattle.cfs_base.specs.Disk.{Image}
use Rattle.cyl_map.specs.Volume.{is_free_in}
use Rattle.ufs_model.specs.declared.asked.Event.{Event}
use Rattle.ufs_model.specs.declared.asked.Event.TheVariants as events
use Rattle.ufs_model.specs.Graph.{Graph}
pub use Rattle.ufs_model.specs.Room.{IsRoom, blocks_in, blocks_of_grant}
use Rattle.vol_image.specs.Sound.{graph_blocks}
use Rattle.vol_owners.specs.Owner.{stray_blocks}

-- ---- while a collection sweeps

-- how many blocks objects that are gone still have: they are neither Free nor in use
abbrev pub lost_blocks : Image → Graph → ℕ
lost_blocks image g = stray_blocks image g (length image)

-- Objects that vanish leave their blocks behind. Otherwise there are no more such blocks after an event, or after
-- none, than before.
abbrev pub MayLose : Event → Graph → Graph → (before after : ℕ) → Type 0
MayLose (events.Vanish ids) g h before after = after + graph_blocks h ≡ before + graph_blocks g
MayLose e g h before after = after ≤ before

abbrev pub MayLoseBy : Option Event → Graph → Graph → (before after : ℕ) → Type 0
MayLoseBy None g h before after = after ≤ before
MayLoseBy (Some e) g h before after = MayLose e g h before after

-- ---- while a commit is unfinished

-- how many blocks are Free in the image to come, and not yet now
abbrev pub to_be_freed : (image end : Image) → ℕ
to_be_freed image end = count_by (λ n. is_free_in end n && not (is_free_in image n)) (range_with_len 0 (length image))
