-- What a line does to any asker.
use Rattle.std.proofs.Common.{◌≡◌, ℕ, List, ◌≤◌, refl, subst, arith}
use Rattle.std.specs.Prelude.{Err, if◌then◌else◌}
use Rattle.cfs_base.specs.declared.identifier.Puid.{Puid}
use Rattle.cfs_base.specs.Outside.{count_after}
use Rattle.ufs_model.specs.declared.asked.Reply.TheVariants as replies
use Rattle.ufs_model.specs.declared.asker.Asker.{Ghosts}
use Rattle.name_dirs.specs.declared.fault.DirFault.{DirFault}
use Rattle.name_dirs.specs.declared.fault.DirFault.TheVariants as faults
use Rattle.name_dirs.specs.Faults.{NoneFalls, OnAnyAsker, TellsFault}
use Rattle.name_dirs.proofs.Spent.{later_itself, later_on}
use Rattle.name_lines.specs.declared.answer.Answer.TheVariants as answers
use Rattle.name_lines.specs.Printed.{is_disk_answer}
use Rattle.name_lines.specs.Runs.{SpendsLine}

module _ {A : Type 0} (g : Ghosts A) (a b : A) where
  counts : (fault : DirFault) → NoneFalls g 2 a b → TellsFault g a b fault → (if is_disk_answer (answers.Refused fault) then count_after (g.failed a) else g.failed a) ≤ g.failed b
  counts faults.NotDirectory later told = later.failed
  counts faults.NoName later told = later.failed
  counts faults.Exists later told = later.failed
  counts (faults.DirFull n) later told = later.failed
  counts (faults.Asked (replies.Disk doubt)) later told = told
  counts (faults.Asked r) later told = later.failed
  counts faults.Memory later told = later.failed

  refusal_is : (x y : DirFault) → answers.Refused x ≡ answers.Refused y → x ≡ y
  refusal_is x y is = cc is

  pub spends_refused : {E : Type 0} (fault : DirFault) → OnAnyAsker {E = E} g 2 a b (Err fault) → SpendsLine g a b (answers.Refused fault)
  spends_refused fault on = record {
    told = λ other is. subst (TellsFault g a b) (refusal_is fault other is) (on.told fault refl);
    failed = counts fault on.later (on.told fault refl);
    later = on.later;
  }

  pub spends_done : NoneFalls g 2 a b → SpendsLine g a b answers.Done
  spends_done later = record { told = λ fault is. cc is; failed = later.failed; later = later }

  pub spends_id : (id : Puid) → NoneFalls g 2 a b → SpendsLine g a b (answers.Id id)
  spends_id id later = record { told = λ fault is. cc is; failed = later.failed; later = later }

  pub spends_names : (names : List (List ℕ)) → NoneFalls g 2 a b → SpendsLine g a b (answers.Names names)
  spends_names names later = record { told = λ fault is. cc is; failed = later.failed; later = later }

  pub spends_syntax : NoneFalls g 2 a b → SpendsLine g a b answers.Syntax
  spends_syntax later = record { told = λ fault is. cc is; failed = later.failed; later = later }

  pub spends_memory : NoneFalls g 2 a b → SpendsLine g a b (answers.Refused faults.Memory)
  spends_memory later = record { told = λ fault is. subst (TellsFault g a b) (refusal_is faults.Memory fault is) tt; failed = later.failed; later = later }

-- nothing was asked
pub later_none : {A : Type 0} (g : Ghosts A) (a : A) → NoneFalls g 2 a a
later_none g a = later_on g 0 0 2 a a a (later_itself g a) (later_itself g a) (omega arith)
