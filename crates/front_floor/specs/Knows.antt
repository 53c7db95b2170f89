-- What a handle knows, and what its calls make of it.
use Rattle.std.specs.Prelude.{◌≡◌, ℕ, suc, ◌≤◌, ◌⊎◌, List, [], ◌∷◌, ◌++◌, length, Bool, true, false, All}
use mathlib.Core.List.{IsPrefix}
use Rattle.atomic_table.specs.Seated.{TableId}
use Rattle.front_floor.specs.declared.view.LogView.{LogView}

-- the table of its lock, its number, its turns that are left, and what it knows of the log
pub record HandleKnows (E : Type 0) : Type 0 where
  pub table : TableId
  pub number : ℕ
  pub left : ℕ
  pub heard : LogView E

-- the handles of a lock
pub record Dealt (E : Type 0) : Type 0 where
  pub table : TableId
  pub handles : List (HandleKnows E)

-- each handle is one of the lock with this table
pub record AreOf {E : Type 0} (table : TableId) (dealt : Dealt E) : Type 0 where
  pub together : dealt.table ≡ table
  pub all : All (λ (handle : HandleKnows E). handle.table ≡ table) dealt.handles

-- places from a up to b, in increasing order
abbrev pub PlacesRise : ℕ → List ℕ → ℕ → Type 0
PlacesRise a [] b = a ≤ b
PlacesRise a (place ∷ places) b = (a ≤ place) × PlacesRise (suc place) places b

module _ {E : Type 0} where
  abbrev pub nothing : LogView E
  nothing = record { seen = []; mine = []; known = 0 }

  -- the handles of these budgets, numbered from n
  abbrev pub fresh_from : TableId → ℕ → List ℕ → List (HandleKnows E)
  fresh_from table n [] = []
  fresh_from table n (left ∷ budgets) =
      record { table = table; number = n; left = left; heard = nothing } ∷ fresh_from table (suc n) budgets

  -- What is known fits the log: the log begins with all that was seen, the entries that are mine are in that part,
  -- and the known length is no less than that part's and no more than the log's.
  pub record Fits (log : List E) (heard : LogView E) : Type 0 where
    pub begins : IsPrefix heard.seen log
    pub mine : PlacesRise 0 heard.mine (length heard.seen)
    pub told : length heard.seen ≤ heard.known
    pub known : heard.known ≤ length log

  -- `added` entries were added at the end, at most one
  abbrev pub Grows : (before after : List E) → ℕ → Type 0
  Grows before after added =
      ((after ≡ before) × (added ≡ 0)) ⊎ ((entry : E) × (after ≡ before ++ entry ∷ []) × (added ≡ 1))

  -- if an entry was added its place is mine; if none was added, no more place is mine
  abbrev pub Notes : (before after : List E) → (old new : List ℕ) → Type 0
  Notes before after old new =
      ((after ≡ before) × (new ≡ old))
      ⊎ ((entry : E) × (after ≡ before ++ entry ∷ []) × (new ≡ old ++ length before ∷ []))

  -- some turns were made, and the log was counted
  pub record Ran (old new : HandleKnows E) : Type 0 where
    pub table : new.table ≡ old.table
    pub number : new.number ≡ old.number
    pub left : new.left ≤ old.left
    pub seen : IsPrefix old.heard.seen new.heard.seen
    pub mine : IsPrefix old.heard.mine new.heard.mine
    pub known : old.heard.known ≤ new.heard.known

-- what a turn of a worker makes of a machine: nothing if the worker is done
pub record Turns {M : Type 0} (done : M → ℕ → Bool) (turned : M → ℕ → M → Type 0) (worker : ℕ) (before after : M)
    : Type 0 where
  pub made : done before worker ≡ false → turned before worker after
  pub still : done before worker ≡ true → after ≡ before

-- A turn of the worker was made, and it returned whether the worker is done. The log before it had all that was seen,
-- and at least the known length. All that was seen is still seen, and at least as many entries as were known. If the
-- turn added an entry, that is the last one seen, and its place is mine.
pub record EntersLog {M E : Type 0} (done : M → ℕ → Bool) (turned : M → ℕ → M → Type 0) (log : M → List E) (worker : ℕ)
    (answer : Bool) (old new : LogView E) : Type 0 where
  pub before : M
  pub after : M
  pub turns : Turns done turned worker before after
  pub answers : answer ≡ done after worker
  pub had : IsPrefix old.seen (log before)
  pub knew : old.known ≤ length (log before)
  pub begins : IsPrefix old.seen new.seen
  pub fresh : old.known ≤ length new.seen
  pub seen : new.seen ≡ log after
  pub known : new.known ≡ length new.seen
  pub mine : Notes (log before) (log after) old.mine new.mine
