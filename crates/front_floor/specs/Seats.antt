-- What seats know, the kinds of step that they make, and the rule that holds between any two steps. Word 0 counts the
-- tickets that were drawn, word 1 those that were served, and word 2 the entries of the log. Slot 0 has the machine,
-- in a box.
use Rattle.std.specs.Prelude.{◌≡◌, ℕ, ◌+◌, ◌-◌, ◌<◌, ◌≤◌, ◌^◌, ◌==◌, ◌⊎◌, List, [], ◌∷◌, ◌++◌, length}
use Rattle.std.specs.Prelude.{Option, Some, None, Bool, MatchBool, sum, All, if◌then◌else◌}
use Rattle.std.specs.Global.{Box}
use Rattle.std.specs.List.{sum_by}
use mathlib.Core.Option as maybe
use mathlib.Core.List.{IsPrefix}
use lib.ListN.{get_elem?}
use Rattle.atomic_table.specs.Table.{State, Me}
use Rattle.atomic_table.specs.Seated.{TableId}
use Rattle.front_floor.specs.declared.view.Stand.{Stand}
use Rattle.front_floor.specs.declared.view.Stand.TheVariants as stands
use Rattle.front_floor.specs.declared.view.View.{View}
use Rattle.front_floor.specs.Knows.{Fits, nothing}

-- the seat is one of a lock's table
pub record SitsAt (table seat : TableId) : Type 0 where
  pub same : seat ≡ table
  pub words : table.words ≡ 3
  pub slots : table.slots ≡ 1

abbrev pub first_pass : List ℕ → ℕ
first_pass [] = 0
first_pass (x ∷ xs) = x

abbrev pub rest_of : List ℕ → List ℕ
rest_of [] = []
rest_of (x ∷ xs) = xs

module _ {E : Type 0} where
  abbrev pub ticket_of : Stand E → ℕ
  ticket_of (stands.Waits ticket) = ticket
  ticket_of stands.Idle = 0
  ticket_of (stands.Holds log) = 0

  abbrev pub log_held : Stand E → List E
  log_held (stands.Holds log) = log
  log_held stands.Idle = []
  log_held (stands.Waits ticket) = []

  -- the turns that a seat has left, and those that it still has to deal
  abbrev pub budget : View E → ℕ
  budget v = v.left + sum v.plan

  abbrev pub parts_of : View E → ℕ
  parts_of v = v.parts

  abbrev pub idle : ℕ → ℕ → List ℕ → View E
  idle parts left plan =
      record { left = left; stand = stands.Idle; heard = nothing; parts = parts; plan = plan; told = [] }

  -- the keeper of the lock once it has dealt a handle, and that handle
  abbrev pub dealer : View E → View E
  dealer v = record v { parts = v.parts - 1; plan = rest_of v.plan }

  abbrev pub dealt : View E → View E
  dealt v = idle 1 (first_pass v.plan) []

  -- the keeper once it has taken a handle in
  abbrev pub taken_in : View E → View E → View E
  taken_in v w = record v { parts = v.parts + w.parts; told = w.heard ∷ v.told }

  -- the log that is held was counted: `added` entries were added to n entries
  abbrev pub counted : List E → ℕ → ℕ → View E → View E
  counted log added n v =
      let places = if added == 1 then n ∷ [] else [] in
      record v {
        stand = stands.Holds log;
        heard = record { seen = log; mine = v.heard.mine ++ places; known = length log };
      }

-- the log of a machine in its box
abbrev pub log_in : {M E : Type 0} → (M → List E) → Box M → List E
log_in log_of boxed = log_of boxed.value

-- the kinds of step
pub data Kind : Type 0 where
  deal draw look take give count pass_on tell take_in : Kind

-- the slots, each at home with its value, or out with a seat
abbrev pub Homes : Type 0 → Type 0
Homes M = List (maybe.Option (Option M))

-- a seat's view, and what it has in hand
abbrev pub Hand : Type 0 → Type 0 → Type 0
Hand M E = Me (Option M) (View E)

module _ {M E : Type 0} where
  -- the seat is between two turns
  pub record IsIdle (me : Hand M E) : Type 0 where
    pub stand : me.0.stand ≡ stands.Idle
    pub nothing : me.1 ≡ []

  -- a handle, as it makes steps
  pub record IsHandle (turns : ℕ) (me : Hand M E) : Type 0 where
    pub idle : IsIdle me
    pub left : me.0.left ≡ turns
    pub parts : me.0.parts ≡ 1

  -- the keeper of a lock, while `count` handles are out
  pub record IsKeeper (count : ℕ) (me : Hand M E) : Type 0 where
    pub idle : IsIdle me
    pub parts : me.0.parts + count ≡ 2 ^ 32
    pub told : me.0.told ≡ []

module _ {M E : Type 0} (log_of : M → List E) where
  -- if the ticket is served, the seat has the machine
  abbrev pub Looked : Bool → Hand M E → Hand M E → Type 0
  Looked here v w =
      MatchBool here
      ((m : M) × (w ≡ (record v.0 { stand = stands.Holds (log_of m) }, (0, Some m) ∷ v.1))
      × IsPrefix v.0.heard.seen (log_of m) × (v.0.heard.known ≤ length (log_of m)))
      (w ≡ v)

  -- the log of the machine in hand was counted
  abbrev pub Counted : M → (added : ℕ) → Hand M E → (n : ℕ) → Hand M E → Type 0
  Counted m added v n w = (n ≡ length (log_held v.0.stand)) × (w ≡ (counted (log_of m) added n v.0, v.1))

  -- A step finds n in its word. One that adds leaves n + k there, and any other leaves n. The seat, v before, becomes
  -- w.
  abbrev pub Steps : Kind → (k : ℕ) → Hand M E → (n : ℕ) → Hand M E → Type 0
  Steps deal k v n w = w ≡ (dealer v.0, v.1)
  Steps draw k v n w = w ≡ (record v.0 { left = v.0.left - 1; stand = stands.Waits n }, v.1)
  Steps look k v n w = Looked (n == ticket_of v.0.stand) v w
  Steps take k v n w = (m : M) × (v.1 ≡ (0, Some m) ∷ []) × (w ≡ (v.0, (0, None) ∷ []))
  Steps give k v n w = (m : M) × (v.1 ≡ (0, None) ∷ []) × (w ≡ (v.0, (0, Some m) ∷ []))
  Steps count k v n w = (m : M) × (v.1 ≡ (0, Some m) ∷ []) × Counted m k v n w
  Steps pass_on k v n w = w ≡ (record v.0 { stand = stands.Idle }, [])
  Steps tell k v n w = (v.0.heard.known ≤ n) × (w ≡ (record v.0 { heard = record v.0.heard { known = n } }, v.1))
  Steps take_in k v n w = (handle : View E) × (w ≡ (taken_in v.0 handle, v.1))

  -- Seats wait in a queue, in the order of their tickets. One that waits has its place there. One that holds the
  -- machine has the place that is served, and the machine is out.
  abbrev pub FitsStand : Homes M → List ℕ → ℕ → List E → ℕ → Stand E → Type 0
  FitsStand homes queue served log id stands.Idle = Unit {0}
  FitsStand homes queue served log id (stands.Waits ticket) =
      (served ≤ ticket) × (get_elem? queue ticket ≡ maybe.some id)
  FitsStand homes queue served log id (stands.Holds own) =
      (homes ≡ maybe.none ∷ []) × (get_elem? queue served ≡ maybe.some id) × (own ≡ log)

  pub record FitsSeat (homes : Homes M) (queue : List ℕ) (served : ℕ) (log : List E) (id : ℕ) (v : View E)
      : Type 0 where
    pub stand : FitsStand homes queue served log id v.stand
    pub spent : v.parts ≡ 0 → v.stand ≡ stands.Idle
    pub heard : Fits log v.heard
    pub told : All (Fits log) v.told

  -- one of these seats holds the machine
  abbrev pub IsHeld : List (View E) → Type 0
  IsHeld views =
      (id : ℕ) × (v : View E) × (own : List E) × (get_elem? views id ≡ maybe.some v) × (v.stand ≡ stands.Holds own)

  -- the machine is at home, or out with a seat
  abbrev pub IsHome : List E → State (Option M) (View E) → Type 0
  IsHome log s =
      ((m : M) × (s.homes ≡ maybe.some (Some m) ∷ []) × (log_of m ≡ log))
      ⊎ ((s.homes ≡ maybe.none ∷ []) × IsHeld s.views)

  -- the rule, for this number of turns in all
  pub record IsServed (turns : ℕ) (s : State (Option M) (View E)) : Type 0 where
    pub queue : List ℕ
    pub served : ℕ
    pub log : List E
    pub words : s.words ≡ length queue ∷ served ∷ length log ∷ []
    pub small : length log < 2 ^ 64
    pub order : served ≤ length queue
    pub room : sum_by budget s.views + length queue ≤ turns
    pub bound : turns < 2 ^ 64 - 1
    pub parts : sum_by parts_of s.views ≡ 2 ^ 32
    pub seats : (id : ℕ) (v : View E) → get_elem? s.views id ≡ maybe.some v
        → FitsSeat s.homes queue served log id v
    pub home : IsHome log s
