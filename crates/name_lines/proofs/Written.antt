-- Answers for whose line there is no room.
use Rattle.std.proofs.Common.{◌≡◌, inl, inr, ℕ, true, List, Option, Some, None, refl, sym, ◌∙◌, arith, subst}
use Rattle.ufs_model.specs.declared.asked.Reply.{Reply}
use Rattle.ufs_model.specs.declared.asked.Reply.TheVariants as replies
use Rattle.ufs_model.specs.declared.asker.Asker.{Ghosts}
use Rattle.ufs_model.specs.State.{State}
use Rattle.name_dirs.specs.declared.fault.DirFault.TheVariants as faults
use Rattle.name_dirs.specs.Chain.{Start}
use Rattle.name_lines.specs.declared.answer.Answer.{Answer}
use Rattle.name_lines.specs.declared.answer.Answer.TheVariants as answers
use Rattle.name_lines.specs.declared.line.Line.{Line}
use Rattle.name_lines.specs.declared.line.Line.TheVariants as lines
use Rattle.name_lines.specs.Answers.{Does, IsLineAnswer, IsHandedOn, LeavesNames}
use Rattle.name_lines.specs.Printed.{is_content, may_be_long}
use Rattle.name_lines.specs.Runs.{ServesFrom, SpendsLine}
use Rattle.name_lines.specs.Walking.{IsWrittenAs}
use Rattle.name_lines.proofs.Refused.{amid_same, leaves_same}
use Rattle.name_lines.proofs.Spent.{spends_memory}

-- ---- what was lost

module _ (cylinders : ℕ) (s t : State) where
  names_left : (line : Line) (names : List (List ℕ)) → Does line (answers.Names names) s.graph t.graph → LeavesNames line s.graph t.graph
  names_left (lines.ListDir path) names does = leaves_same (lines.ListDir path) s.graph t.graph does.0
  names_left line names does = absurd does

  never_told : (line : Line) (r : Reply) → is_content r ≡ true → IsHandedOn cylinders line r s t → ⊥
  never_told line (replies.Content bytes) long told = told
  never_told line r long told = cc long

  answer_lost : (line : Option Line) (answer : Answer) → may_be_long answer ≡ true → IsLineAnswer cylinders line answer s t → IsLineAnswer cylinders line (answers.Refused faults.Memory) s t
  answer_lost None answers.Syntax long told = told
  answer_lost None (answers.Refused faults.Memory) long told = told
  answer_lost None answer long told = absurd told
  answer_lost (Some line) (answers.Names names) long told = (names_left line names told.1, told.3 ∙ sym told.2)
  answer_lost (Some line) (answers.Refused (faults.Asked r)) long told = absurd (never_told line r long told.1)
  answer_lost (Some line) answer long told = cc long

module _ {A : Type 0} (g : Ghosts A) (who : ℕ) (a b : A) where
  pub serves_written : (line : Option Line) (answer told : Answer) (s : State) → IsWrittenAs answer told → (t : State) × ServesFrom g who line answer a b s t → (t : State) × ServesFrom g who line told a b s t
  serves_written line answer told s (inl same) serves = subst (λ (answer : Answer). (t : State) × ServesFrom g who line answer a b s t) (sym same) serves
  serves_written line answer told s (inr lost) serves = subst (λ (answer : Answer). (t : State) × ServesFrom g who line answer a b s t) (sym lost.1) (
    serves.0,
    record {
      stands = serves.1.stands;
      chain = serves.1.chain;
      follows = record {
        told = answer_lost (g.cylinders a) s serves.0 line answer lost.0 serves.1.follows.told;
        grants = serves.1.follows.grants;
        sweeps = serves.1.follows.sweeps;
        there = serves.1.follows.there;
        room = serves.1.follows.room;
        apart = serves.1.follows.apart;
      };
    },
  )

  pub spends_written : (answer told : Answer) → IsWrittenAs answer told → SpendsLine g a b answer → SpendsLine g a b told
  spends_written answer told (inl same) spends = subst (SpendsLine g a b) (sym same) spends
  spends_written answer told (inr lost) spends = subst (SpendsLine g a b) (sym lost.1) (spends_memory g a b spends.later)

-- ---- a line that asks nothing

pub serves_none : {A : Type 0} (g : Ghosts A) (who : ℕ) (a : A) (s : State) (answer : Answer) → g.stands a s → IsLineAnswer (g.cylinders a) None answer s s → (t : State) × ServesFrom g who None answer a a s t
serves_none g who a s answer stands told = (
  s,
  record {
    stands = stands;
    chain = Start refl;
    follows = record { told = told; grants = refl; sweeps = refl; there = λ x there. there; room = omega arith; apart = λ apart. apart };
  },
)

-- want of memory before the first request
pub serves_starved : {A : Type 0} (g : Ghosts A) (who : ℕ) (a : A) (s : State) (line : Option Line) → g.stands a s → (t : State) × ServesFrom g who line (answers.Refused faults.Memory) a a s t
serves_starved g who a s None stands = serves_none g who a s (answers.Refused faults.Memory) stands refl
serves_starved g who a s (Some line) stands = (
  s,
  record {
    stands = stands;
    chain = Start (amid_same line s.graph);
    follows = record { told = (leaves_same line s.graph s.graph refl, refl); grants = refl; sweeps = refl; there = λ x there. there; room = omega arith; apart = λ apart. apart };
  },
)
