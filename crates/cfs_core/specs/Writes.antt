-- The requests that write to the disk.
use Rattle.std.specs.Prelude.{Bool, true, false, is_some}
use Rattle.std.specs.Option.{option_map_or}
use Rattle.puid_space.specs.Directory.{directory_kind}
use Rattle.ufs_model.specs.declared.asked.Request.{Request}
use Rattle.ufs_model.specs.declared.asked.Request.TheVariants as asks
use Rattle.cfs_core.specs.Handles.{drafting_at}
use Rattle.cfs_core.specs.Kernel.{Kernel}
use Rattle.cfs_core.specs.Opening.{gets_draft}

-- all but reads, and openings and closes of a grant without a draft
abbrev pub changes_disk : {D : Type 0} → Kernel D → Request → Bool
changes_disk k (asks.Retrieve index slot) = false
changes_disk k (asks.Slots index) = false
changes_disk k (asks.OpenFor id mode) =
    option_map_or (λ kind. gets_draft kind mode) (directory_kind k.directory.named id) false
changes_disk k (asks.Close grant commit) = is_some (drafting_at k.handles grant.draw)
changes_disk k (asks.Read file offset count) = false
changes_disk k (asks.Size file) = false
changes_disk k request = true
