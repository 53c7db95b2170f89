-- The entries of some blocks, each changed by itself.
use Rattle.std.specs.Prelude.{◌≡◌, ℕ, Bool, true, false, List, Some}
use Rattle.cfs_base.specs.Disk.{Image}
use Rattle.cyl_map.specs.declared.entry.MapEntry.{MapEntry}
use Rattle.cyl_map.specs.Volume.{entry_in}
use Rattle.intentions.specs.Course.{Course, MayPut}
use Rattle.intentions.specs.Entries.{changed_entry}
use Rattle.intentions.specs.declared.change.EntryChange.{EntryChange}
use Rattle.ufs_model.specs.Numbers.{has_number}

abbrev pub changed_if : Bool → EntryChange → MapEntry → MapEntry
changed_if false how e = e
changed_if true how e = changed_entry how e

-- the entry of block n, changed if it is one of these blocks
abbrev pub turned : (ℕ → EntryChange) → List ℕ → ℕ → MapEntry → MapEntry
turned how ns n e = changed_if (has_number n ns) (how n) e

-- on this course the entry of each of these blocks may be changed so
abbrev pub MayTurn : Course → Image → (ℕ → EntryChange) → List ℕ → Type 0
MayTurn course image how ns = (n : ℕ) → has_number n ns ≡ true
    → (e : MapEntry) × (entry_in image n ≡ Some e) × MayPut course n e (changed_entry (how n) e)
