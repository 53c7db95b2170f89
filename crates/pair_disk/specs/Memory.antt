-- Disks in memory that may tear their blocks.
use Rattle.std.specs.Prelude.{◌≡◌, ℕ, List}
use Rattle.cfs_base.specs.Disk.{Image}
use Rattle.pair_disk.specs.declared.history.History.{History}
use Rattle.pair_disk.specs.declared.torn_memory.TornMemory.{TornMemory}
use Rattle.pair_disk.specs.History.{history_clock, history_left}

abbrev pub torn_content : TornMemory → Image
torn_content d = d.content.items

abbrev pub history_of : TornMemory → History
history_of d = d.history

-- no call was made on it, and a crash leaves only its content
pub record IsUncalledMemory (d : TornMemory) (image : Image) (calls : List ℕ) : Type 0 where
  pub content : torn_content d ≡ image
  pub only : (c : Image) → history_left (history_of d) (history_clock (history_of d)) c → c ≡ torn_content d
  pub listed : d.listed.items ≡ calls
  pub moment : history_clock (history_of d) ≡ 0
  pub tries : d.tries ≡ 0
  pub faults : d.faults ≡ 0
