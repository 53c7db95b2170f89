-- What `top` says of a run, whatever is asked for.
use Rattle.std.specs.Prelude.{◌≡◌, ℕ, ◌+◌, ◌<◌, ◌⊎◌, List, length}
use Rattle.ufs_model.specs.declared.asked.Event.{Event}
use Rattle.ufs_model.specs.Turns.{turns_in}
use Rattle.cfs_serve.specs.declared.ending.Ending.{Ending}
use Rattle.cfs_serve.specs.declared.report.Report.{Report}
use Rattle.cfs_serve.specs.Conversed.{SaidOfTalk}
use Rattle.cfs_serve.specs.Ground.{Ground}
use Rattle.cfs_serve.specs.Names.{SaidOfNames}
use Rattle.cfs_serve.specs.Spun.{drains, drawn_sources, service_of}
use Rattle.cfs_serve.specs.Top.{NoCountRose, Outside, Said}
use Rattle.cfs_serve.specs.Words.{Asked, Audits, Converses, Dirs, Formats, Inspects, Nothing, Serves, Shows, Spin}
use Rattle.cfs_serve.specs.Words.{Spins}

-- what is outside of a spin: its scripts and its sinks are its own
abbrev pub within_spin : Spin → Outside → Outside
within_spin spin o = record {
  disk = o.disk;
  sources = drawn_sources spin.seed spin.count;
  sinks = drains;
  report = o.report;
}

-- What is said of a spin: what is said of its service, and more.
pub record SpinSaid (spin : Spin) (ground : Ground) (old new : Outside) (told : Report) (status : ℕ) (ending : Ending)
    (trail : List Event) : Type 0 where
  pub places : (new.sources ≡ old.sources) × (new.sinks ≡ old.sinks)
  pub said : Said (Serves (service_of spin)) ground (within_spin spin old) (within_spin spin new) told status ending
      trail
  -- status 0 says that each of its lines has one reply
  pub answered : status ≡ 0 → (session : ℕ) → session < 4 → length (turns_in session trail) ≡ spin.count + 1
  -- if no count rose, the status is 0 or 7
  pub complete : NoCountRose old new → (status ≡ 0) ⊎ (status ≡ 7)

-- what `top` says
abbrev pub Says : Asked → Ground → (old new : Outside) → Report → (status : ℕ) → Ending → List Event → Type 0
Says (Spins spin) ground old new told status ending trail = SpinSaid spin ground old new told status ending trail
Says (Shows page) ground old new told status ending trail = Said (Shows page) ground old new told status ending trail
Says (Formats format) ground old new told status ending trail =
    Said (Formats format) ground old new told status ending trail
Says (Audits text) ground old new told status ending trail = Said (Audits text) ground old new told status ending trail
Says (Inspects inspection) ground old new told status ending trail =
    Said (Inspects inspection) ground old new told status ending trail
Says (Serves service) ground old new told status ending trail =
    Said (Serves service) ground old new told status ending trail
Says (Dirs names) ground old new told status ending trail =
    SaidOfNames names ground old new told status ending trail
Says (Converses talk) ground old new told status ending trail =
    SaidOfTalk talk ground old new told status ending trail
Says Nothing ground old new told status ending trail = Said Nothing ground old new told status ending trail
