-- Answers as they are written, and what they report of the disk and of memory.
use Rattle.std.specs.Prelude.{ℕ, Bool, true, false, List, [], ◌∷◌, codes}
use Rattle.std.specs.Fmt.{decimal}
use Rattle.std.specs.List.{flat_map}
use Rattle.ufs_model.specs.declared.asked.Reply.{Reply}
use Rattle.ufs_model.specs.declared.asked.Reply.TheVariants as replies
use Rattle.ufs_model.specs.Printed.{id_digits, line_of, reply_line}
use Rattle.name_dirs.specs.declared.fault.DirFault.{DirFault}
use Rattle.name_dirs.specs.declared.fault.DirFault.TheVariants as faults
use Rattle.name_lines.specs.declared.answer.Answer.{Answer}
use Rattle.name_lines.specs.declared.answer.Answer.TheVariants as answers

-- ---- lines

abbrev pub dir_fault_line : DirFault → List ℕ
dir_fault_line faults.NotDirectory = line_of (codes "no directory" ∷ [])
dir_fault_line faults.NoName = line_of (codes "no name" ∷ [])
dir_fault_line faults.Exists = line_of (codes "no exists" ∷ [])
dir_fault_line (faults.DirFull capacity) = line_of (codes "no dir-full" ∷ decimal capacity ∷ [])
dir_fault_line (faults.Asked reply) = reply_line reply
dir_fault_line faults.Memory = line_of (codes "no memory" ∷ [])

abbrev pub answer_line : Answer → List ℕ
answer_line answers.Done = line_of (codes "ok" ∷ [])
answer_line (answers.Id id) = line_of (codes "ok" ∷ id_digits id.block id.word ∷ [])
answer_line (answers.Names names) = line_of (codes "ok" ∷ names)
answer_line answers.Syntax = line_of (codes "no syntax" ∷ [])
answer_line (answers.Refused fault) = dir_fault_line fault

abbrev pub printed_answers : List Answer → List ℕ
printed_answers told = flat_map answer_line told

-- ---- what is reported

abbrev pub is_disk_answer : Answer → Bool
is_disk_answer (answers.Refused (faults.Asked (replies.Disk doubt))) = true
is_disk_answer answer = false

abbrev pub is_memory_answer : Answer → Bool
is_memory_answer (answers.Refused faults.Memory) = true
is_memory_answer answer = false

-- ---- room

abbrev pub is_content : Reply → Bool
is_content (replies.Content bytes) = true
is_content reply = false

-- Its line may be longer than REPLY_ROOM: that of names, or of a content, which no fault has.
abbrev pub may_be_long : Answer → Bool
may_be_long (answers.Names names) = true
may_be_long (answers.Refused (faults.Asked reply)) = is_content reply
may_be_long answer = false
