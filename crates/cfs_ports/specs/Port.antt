-- A session's port, and what its calls do.
use Rattle.std.specs.Prelude.{◌≡◌, ℕ, Bool, true, false, not, List, ◌∷◌, Option}
use Rattle.cfs_base.specs.declared.identifier.Puid.{Puid}
use Rattle.cfs_base.specs.Outside.{Intake}
use Rattle.cfs_script.specs.NameTable.{NameTable, names_of}
use Rattle.cfs_streams.specs.Writing.{Wrote, WroteSome}
use Rattle.ufs_model.specs.declared.asked.Reply.{Reply}
use Rattle.ufs_model.specs.declared.asked.Unread.{Unread}
use Rattle.ufs_model.specs.Names.{no_names}
use Rattle.ufs_model.specs.Script.{words_of}
use Rattle.ufs_model.specs.Spoken.{all_forms, reading_of, name_spoken}
use Rattle.ufs_model.specs.Turns.{names_after_reply}
use Rattle.ufs_model.specs.Printed.{reply_line, unread_line}
use Rattle.cfs_ports.specs.declared.hearing.Heard.{Heard}
use Rattle.cfs_ports.specs.Heard.{CanBind, Hears}

-- the request lines that are left, the names, what is known of the sink, whether it failed, and whether the session
-- has left
pub record PortReading : Type 0 where
  pub lines : List (List ℕ)
  pub names : NameTable
  pub sink : Intake
  pub failed : Bool
  pub has_left : Bool

-- nothing was read yet: the session knows only the root index, and its sink hasn't failed
pub record IsNewPort (root : Puid) (p : PortReading) : Type 0 where
  pub names : names_of p.names ≡ no_names root
  pub goes : p.failed ≡ false
  pub stays : p.has_left ≡ false

-- the next line was taken, and heard as this
pub record TakesLine (old new : PortReading) (heard : Heard) : Type 0 where
  pub line : List ℕ
  pub taken : old.lines ≡ line ∷ new.lines
  pub hears : Hears (reading_of all_forms (names_of old.names) line) (name_spoken all_forms (words_of line)) heard
  pub names : names_of new.names ≡ names_of old.names
  pub room : CanBind heard new.names.room
  pub sink : new.sink ≡ old.sink
  pub failed : new.failed ≡ old.failed
  pub stays : new.has_left ≡ old.has_left

-- the sink took all of the text, or some beginning of it if the sink failed
abbrev pub Replied : Intake → Intake → List ℕ → Bool → Type 0
Replied old new text true = Wrote old new text
Replied old new text false = WroteSome old new text

-- the line of a reply was written, and its name bound
pub record WritesReply (old new : PortReading) (name : Option (List ℕ)) (reply : Reply) : Type 0 where
  pub lines : new.lines ≡ old.lines
  pub names : names_of new.names ≡ names_after_reply (names_of old.names) name reply
  pub stays : new.has_left ≡ old.has_left
  pub replied : Replied old.sink new.sink (reply_line reply) (not new.failed)

-- the session was told why its line is no request
pub record TellsWhy (old new : PortReading) (why : Unread) : Type 0 where
  pub lines : new.lines ≡ old.lines
  pub names : new.names ≡ old.names
  pub stays : new.has_left ≡ old.has_left
  pub replied : Replied old.sink new.sink (unread_line why) (not new.failed)
