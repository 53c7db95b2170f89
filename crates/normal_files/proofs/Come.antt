-- Runs of calls of which some may have tried a write.
use Rattle.normal_files.proofs.Words.{◌≡◌, ℕ, ◌+◌, ◌≤◌, Bool, true, false, refl, Err, List, Ok, Option, Some, Result, subst, sym, ◌∙◌, OnlyReads, Ghosts, Trouble, stopped_after_reads, stopped_after_try, reads_make, ◌||◌, HasStoppedBy}
use Rattle.cfs_base.proofs.Went.{makes_none, reads_none, went_as, went_then}
use Rattle.cfs_base.specs.Went.{KnowsTries, Went, known_after}
use Rattle.normal_files.specs.Steps.{HasCome, told_after, RunWent, WritesBlock, Stops}
use Rattle.cfs_base.specs.declared.refusal.Trouble.TheVariants as trouble

-- ---- what a call that is done gives

-- told by another value, of which the same is known
pub done_as : {D K A B E : Type 0} {g : Ghosts D} {n t r : ℕ} {old new : D} {before after : K} {Moves : Type 0} {Refuses Untried : E → Type 0} {known : A → Option Bool} {known_so : B → Option Bool} {x : A} {y : B} → known x ≡ known_so y
    → Went g n t r old new before after Moves Refuses Untried known (Ok x) → Went g n t r old new before after Moves Refuses Untried known_so (Ok y)
done_as {g = g} {r = r} {old = old} {new = new} {before = before} {after = after} same went = record {
  told = went.told;
  knows = subst (KnowsTries g r old new before after) same went.knows;
  refused = tt;
  untried = tt;
  moves = went.moves;
  calls = went.calls;
}

pub known_either : (b c : Bool) → known_after (Some b) (Some c) ≡ Some (b || c)
known_either true c = refl
known_either false c = refl

-- ---- calls that may have tried a write, one after another

pub come_none : {D : Type 0} (g : Ghosts D) (d : D) (n t : ℕ) → HasCome g n t false d d
come_none g d n t = record { told = λ b h. h; knows = (refl, reads_none g n d); refused = tt; untried = tt; moves = tt; calls = makes_none g d n t }

pub come_wrote : {D : Type 0} {g : Ghosts D} {n block : ℕ} {content : List ℕ} {old new : D} → WritesBlock g n block content old new (Ok tt) → HasCome g n 1 true old new
come_wrote writes = record { told = writes.told; knows = writes.tried; refused = tt; untried = tt; moves = tt; calls = writes.calls }

pub come_reads : {D : Type 0} {g : Ghosts D} {n : ℕ} {old new : D} → OnlyReads g n old new → HasCome g n 0 false old new
come_reads {g = g} {n = n} {old = old} {new = new} reads = record { told = reads.told; knows = (refl, reads); refused = tt; untried = tt; moves = tt; calls = reads_make g old new n reads }

-- a write that failed
pub write_stopped : {D : Type 0} {g : Ghosts D} {n block : ℕ} {content : List ℕ} {old new : D} {t : Trouble} → WritesBlock g n block content old new (Err t) → t ≡ trouble.Disk true → Stops g n 1 old new t
write_stopped writes is = record { told = tt; knows = tt; refused = writes.refused; untried = λ same. (let no : trouble.Disk true ≡ trouble.Disk false = sym is ∙ same in cc); moves = tt; calls = writes.calls }

-- with greater bounds
pub come_within : {D : Type 0} {g : Ghosts D} {n t m s : ℕ} {start mid : D} {result : Result Bool Trouble} → RunWent g n t start mid result → n ≤ m → t ≤ s → RunWent g m s start mid result
come_within {m = m} {s = s} come more tries = went_as m s m (λ moves. moves) (λ e why. why) (λ e is. is) (λ x is. is) come more tries more

untried_after : (b : Bool) (e : Trouble) → told_after b e ≡ trouble.Disk false → (Some b ≡ Some false) × (e ≡ trouble.Disk false)
untried_after true (trouble.Disk tried) same = cc
untried_after true (trouble.Damaged damage) same = cc
untried_after false e same = (refl, same)

module _ {D : Type 0} {g : Ghosts D} {n t : ℕ} {start mid : D} where
  pub come_then : {m s : ℕ} (b c : Bool) {new : D} → HasCome g n t b start mid → HasCome g m s c mid new → HasCome g (n + m) (t + s) (b || c) start new
  come_then b c come more = done_as (known_either b c) (went_then {both_known = λ y. known_after (Some b) (Some y)} (λ (e : Trouble). e) (λ one two. tt) tt tt refl come more)

  -- a call that is stopped, told as one that had tried a write or hadn't
  come_stopped : (new : D) (b : Bool) (e : Trouble) → HasCome g n t b start mid → HasStoppedBy g mid new e → HasStoppedBy g start new (told_after b e)
  come_stopped new true (trouble.Disk tried) come is = stopped_after_try g start mid new n t tried come.calls come.knows is
  come_stopped new true (trouble.Damaged damage) come is = absurd is
  come_stopped new false (trouble.Disk tried) come is = stopped_after_reads g start mid new n tried come.knows.1 is
  come_stopped new false (trouble.Damaged damage) come is = absurd is

  pub come_err : {m s k r : ℕ} {new : D} (b : Bool) {e : Trouble} → HasCome g n t b start mid → Stops g m s mid new e → n + m ≤ k → t + s ≤ r → Stops g k r start new (told_after b e)
  come_err {new = new} b {e} come ends few fewer = come_within (went_then (told_after b) (λ one two. tt) (come_stopped new b e come) (untried_after b e) tt come ends) few fewer
