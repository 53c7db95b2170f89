-- Why a call is refused.
use Rattle.std.specs.Prelude.{◌≡◌, ◌⊎◌, ℕ, ◌+◌, ◌<◌, ◌≤◌, Bool, true, false, List, length, Result, Ok, Err}
use Rattle.std.specs.Prelude.{Option, Some, None, is_none, is_some, if◌then◌else◌}
use Rattle.cfs_base.specs.declared.identifier.Puid.{Puid}
use Rattle.cfs_base.specs.declared.refusal.Need.{Need}
use Rattle.ufs_model.specs.declared.asked.Reply.{Reply}
use Rattle.ufs_model.specs.declared.asked.Reply.TheVariants as replies
use Rattle.ufs_model.specs.declared.asker.Asker.{Ghosts}
use Rattle.ufs_model.specs.Asks.{TellsTrouble}
use Rattle.ufs_model.specs.Graph.{is_there}
use Rattle.ufs_model.specs.Limits.{reserve}
use Rattle.ufs_model.specs.Next.{is_sweeping}
use Rattle.ufs_model.specs.Refusal.{is_open, is_open_for_writing}
use Rattle.ufs_model.specs.Room.{IsRoom}
use Rattle.ufs_model.specs.State.{State, is_running, stopped_at}
use Rattle.name_dirs.specs.declared.fault.DirFault.{DirFault}
use Rattle.name_dirs.specs.declared.fault.DirFault.TheVariants as faults
use Rattle.name_dirs.specs.Directory.{Entry, entries_in, table_in}
use Rattle.name_dirs.specs.Names.{id_under, place_for}

-- ---- by the names

-- The fault that the names and entries of an object have for a call. Nothing is known of an object that doesn't
-- exist.
abbrev pub due_with : Option (List Entry) → (List Entry → Option DirFault) → Option DirFault
due_with None by = Some faults.NotDirectory
due_with (Some es) by = by es

abbrev pub due_of : State → Puid → (List Entry → Option DirFault) → Option DirFault
due_of s dir by = if is_there s.graph dir then due_with (entries_in s.graph dir) by else None

abbrev pub none_due : List Entry → Option DirFault
none_due es = None

abbrev pub due_name : List ℕ → List Entry → Option DirFault
due_name w es = if is_none (id_under w es) then Some faults.NoName else None

abbrev pub due_place : List ℕ → List Entry → Option DirFault
due_place w es = if is_none (place_for w es) then Some (faults.DirFull (length es)) else None

abbrev pub due_new : List ℕ → List Entry → Option DirFault
due_new w es = if is_some (id_under w es) then Some faults.Exists else due_place w es

-- the fault for a new directory in slot 0 of the root index, by what is there
abbrev pub due_top : Option (List Entry) → Option DirFault
due_top None = None
due_top (Some es) = Some faults.Exists

-- the fault for the beginning of paths, by what slot 0 of the root index holds
abbrev pub due_start : Option Puid → Option DirFault
due_start None = Some faults.NotDirectory
due_start (Some id) = None

-- ---- by a request

-- a grant that passes the test is on the object, or on the file in its slot 0
abbrev pub IsBarred : (State → Puid → Bool) → State → Puid → Type 0
IsBarred bars s dir = (bars s dir ≡ true) ⊎ ((t : Puid) × (table_in s.graph dir ≡ Some t) × (bars s t ≡ true))

-- a reply that may be handed on by a call that reads this directory in a state
abbrev pub IsReadTrouble : State → Puid → Reply → Type 0
IsReadTrouble s dir replies.NoObject = is_there s.graph dir ≡ false
IsReadTrouble s dir replies.Locked = IsBarred is_open_for_writing s dir
IsReadTrouble s dir (replies.Disk doubt) = Unit {0}
IsReadTrouble s dir (replies.Stopped moment) = s.stopped ≡ Some moment
IsReadTrouble s dir reply = ⊥

-- the same when it reads where the paths begin, for which only the root index counts
abbrev pub IsStartTrouble : State → Reply → Type 0
IsStartTrouble s replies.Locked = is_open_for_writing s s.graph.root ≡ true
IsStartTrouble s (replies.Disk doubt) = Unit {0}
IsStartTrouble s (replies.Stopped moment) = s.stopped ≡ Some moment
IsStartTrouble s reply = ⊥

-- the same when it makes a directory in slot 0 of the root index: what counts is the root index and what is in that
-- slot
abbrev pub IsTopTrouble : State → Reply → Type 0
IsTopTrouble s replies.Locked = (is_open_for_writing s s.graph.root ≡ true)
    ⊎ ((x : Puid) × (table_in s.graph s.graph.root ≡ Some x) × IsBarred is_open_for_writing s x)
IsTopTrouble s (replies.Disk doubt) = Unit {0}
IsTopTrouble s (replies.Stopped moment) = s.stopped ≡ Some moment
IsTopTrouble s reply = ⊥

-- A Full names what is Free, which is too few: at least the room at the end, if no sweep goes on.
pub record IsTooFull (cylinders most : ℕ) (t : State) (n : Need) : Type 0 where
  pub few : n.free < n.need + reserve
  pub within : n.need ≤ most
  pub room : is_sweeping t.collection ≡ false → (room : ℕ) → IsRoom cylinders t room → room ≤ n.free

abbrev pub IsMissing : State → Option Puid → Type 0
IsMissing s None = ⊥
IsMissing s (Some id) = is_there s.graph id ≡ false

-- the same for a call that changes the directory, from one state to another; `also` is what else may be missing
abbrev pub IsChangeTrouble : (cylinders most : ℕ) (also : Option Puid) → State → State → Puid → Reply → Type 0
IsChangeTrouble cylinders most also s t dir replies.NoObject = IsMissing s also
IsChangeTrouble cylinders most also s t dir replies.Locked = IsBarred is_open s dir
IsChangeTrouble cylinders most also s t dir (replies.Full n) = IsTooFull cylinders most t n
IsChangeTrouble cylinders most also s t dir (replies.Disk doubt) = Unit {0}
IsChangeTrouble cylinders most also s t dir reply = ⊥

-- ---- a fault

-- The fault is the one that is due by the names, or that of a request: in reading, or if none is due. Want of memory
-- may always come.
abbrev pub IsDirFault : (due : Option DirFault) (Reads Changes : Reply → Type 0) → DirFault → Type 0
IsDirFault due Reads Changes faults.Memory = Unit {0}
IsDirFault due Reads Changes (faults.Asked reply) = Reads reply ⊎ ((due ≡ None) × Changes reply)
IsDirFault due Reads Changes fault = due ≡ Some fault

-- the fault of a reply that isn't the one expected: what names no index leads to no directory
abbrev pub fault_told : Reply → DirFault
fault_told replies.Memory = faults.Memory
fault_told replies.NotIndex = faults.NotDirectory
fault_told reply = faults.Asked reply

-- ---- a stop

-- the asker stops after a doubt
abbrev pub after_fault : DirFault → State → State
after_fault (faults.Asked (replies.Disk (Some moment))) s = stopped_at moment s
after_fault fault s = s

-- an asker that had stopped reports that, or want of memory
abbrev pub TellsStopAt : (moment : ℕ) → DirFault → Type 0
TellsStopAt moment (faults.Asked (replies.Stopped told)) = told ≡ moment
TellsStopAt moment faults.Memory = Unit {0}
TellsStopAt moment fault = ⊥

abbrev pub TellsHalt : State → DirFault → Type 0
TellsHalt s fault = (moment : ℕ) → s.stopped ≡ Some moment → TellsStopAt moment fault

-- a fault by the names is reported before any change
abbrev pub StaysAfter : DirFault → State → State → Type 0
StaysAfter faults.Memory s t = Unit {0}
StaysAfter (faults.Asked reply) s t = Unit {0}
StaysAfter fault s t = t ≡ s

-- Nothing changes if the asker had stopped, or if the fault is by the names.
abbrev pub StopsWith : {E : Type 0} → State → State → Result E DirFault → Type 0
StopsWith s t (Ok e) = (is_running s ≡ true) × (is_running t ≡ true)
StopsWith s t (Err fault) = (t.stopped ≡ (after_fault fault s).stopped) × TellsHalt s fault
    × (is_running s ≡ false → t ≡ s) × StaysAfter fault s t

-- ---- on any asker

abbrev pub TellsFault : {A : Type 0} → Ghosts A → A → A → DirFault → Type 0
TellsFault g old new (faults.Asked reply) =
    TellsTrouble (g.failed old) (g.failed new) (g.damaged old) (g.damaged new) reply
TellsFault g old new fault = Unit {0}

-- No count falls, and at most `most` words are drawn.
pub record NoneFalls {A : Type 0} (g : Ghosts A) (most : ℕ) (old new : A) : Type 0 where
  pub failed : g.failed old ≤ g.failed new
  pub damaged : g.damaged old ≤ g.damaged new
  pub seed : g.seed new ≡ g.seed old
  pub cylinders : g.cylinders new ≡ g.cylinders old
  pub kept : g.words old ≤ g.words new
  pub drawn : g.words new ≤ g.words old + most

-- What any call does on any asker: trouble that it reports was met in it.
pub record OnAnyAsker {A E : Type 0} (g : Ghosts A) (most : ℕ) (old new : A) (result : Result E DirFault) : Type 0 where
  pub told : (fault : DirFault) → result ≡ Err fault → TellsFault g old new fault
  pub later : NoneFalls g most old new
