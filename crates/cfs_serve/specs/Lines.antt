-- Lines of names that are answered, one after the other.
use Rattle.std.specs.Prelude.{◌≡◌, ℕ, ◌+◌, ◌*◌, ◌≤◌, ◌||◌, Bool, true, false, List, [], ◌∷◌, ◌++◌, length}
use Rattle.std.specs.Prelude.{if◌then◌else◌}
use Rattle.std.specs.List.{list_any}
use Rattle.cfs_base.specs.Outside.{Intake, count_after}
use Rattle.cfs_ports.specs.Port.{Replied}
use Rattle.cfs_streams.specs.Writing.{Wrote, WroteSome}
use Rattle.name_dirs.specs.Faults.{NoneFalls}
use Rattle.name_lines.specs.declared.answer.Answer.{Answer}
use Rattle.name_lines.specs.Printed.{answer_line, printed_answers, is_disk_answer, is_memory_answer}
use Rattle.name_lines.specs.Runs.{ServesFrom, ServesLine, SpendsLine}
use Rattle.name_lines.specs.Spoken.{line_in}
use Rattle.ufs_model.specs.declared.asker.Asker.{Ghosts}
use Rattle.ufs_model.specs.State.{State}
use Rattle.cfs_serve.specs.declared.answering.Told.{Told}

-- the one session of a run of names
abbrev pub session : ℕ
session = 0

-- ---- what is reported

abbrev pub told_nothing : Told
told_nothing = record { answers = 0; failed = false; starved = false; took = true }

abbrev pub told_with : Told → Answer → (took : Bool) → Told
told_with told answer took = record {
  answers = told.answers + 1;
  failed = told.failed || is_disk_answer answer;
  starved = told.starved || is_memory_answer answer;
  took = took;
}

-- a line was done, and its answer written
pub record AnswersOne {A : Type 0} (g : Ghosts A) (line : List ℕ) (before : Told) (sink sink_after : Intake)
    (old new : A) (result : Told) : Type 0 where
  pub answer : Answer
  pub told : result ≡ told_with before answer result.took
  pub replied : Replied sink sink_after (answer_line answer) result.took
  pub serves : ServesLine g session (line_in line) old new answer
  pub spends : SpendsLine g old new answer

-- ---- what was written

-- the sink took all answers but the last, and failed within that one
pub record BreaksOffIn (old new : Intake) (told : List Answer) : Type 0 where
  pub before : List Answer
  pub last : Answer
  pub mid : Intake
  pub whole : told ≡ before ++ last ∷ []
  pub wrote : Wrote old mid (printed_answers before)
  pub failed : WroteSome mid new (answer_line last)

-- The first of these lines were answered, and the others are left. None was served after one whose answer the sink
-- didn't take.
pub record AnswersFirst (all left : List (List ℕ)) (sink sink_after : Intake) (took : Bool) (lines : List (List ℕ))
    (told : List Answer) : Type 0 where
  pub first : all ≡ lines ++ left
  pub each : length told ≡ length lines
  pub replied : Replied sink sink_after (printed_answers told) took
  pub broken : took ≡ false → BreaksOffIn sink sink_after told

-- ---- what was done

-- the lines were done, from one state to another
pub data ServesLines {A : Type 0} (g : Ghosts A) (a : A) (s : State) :
    List (List ℕ) → List Answer → A → State → Type 0 where
  Begun : ServesLines g a s [] [] a s
  After : {lines : List (List ℕ)} {told : List Answer} {b c : A} {t u : State} → ServesLines g a s lines told b t
      → g.cylinders b ≡ g.cylinders a → (line : List ℕ) (answer : Answer)
      → ServesFrom g session (line_in line) answer b c t u
      → ServesLines g a s (lines ++ line ∷ []) (told ++ answer ∷ []) c u

-- the count of failed calls, with one more for each that is reported
abbrev pub faults_told : List Answer → ℕ → ℕ
faults_told [] n = n
faults_told (a ∷ told) n = faults_told told (if is_disk_answer a then count_after n else n)

-- Some of the lines were answered, and the others are left.
pub record HasAnswered {A : Type 0} (g : Ghosts A) (all left : List (List ℕ)) (sink sink_after : Intake) (old new : A)
    (result : Told) : Type 0 where
  pub lines : List (List ℕ)
  pub told : List Answer
  pub answers_are : AnswersFirst all left sink sink_after result.took lines told
  pub count : result.answers ≡ length told
  pub failed : result.failed ≡ list_any is_disk_answer told
  pub starved : result.starved ≡ list_any is_memory_answer told
  pub faults : faults_told told (g.failed old) ≤ g.failed new
  pub later : NoneFalls g (2 * length told) old new
  pub went : (s : State) → g.stands old s → s.grants ≡ []
      → (t : State) × g.stands new t × (t.grants ≡ []) × ServesLines g old s lines told new t

-- All lines were answered, if the sink took all answers.
pub record AnswersLines {A : Type 0} (g : Ghosts A) (all : List (List ℕ)) (sink sink_after : Intake) (old new : A)
    (result : Told) : Type 0 where
  pub left : List (List ℕ)
  pub has : HasAnswered g all left sink sink_after old new result
  pub whole : result.took ≡ true → left ≡ []
