-- What the code returns for a reading.
use Rattle.std.specs.Prelude.{◌≡◌, ℕ, false, List, [], ◌∷◌, Result, Ok, Err}
use Rattle.ufs_model.specs.declared.asked.Request.{Request}
use Rattle.ufs_model.specs.Script.{is_blank}
use Rattle.ufs_model.specs.Spoken.{Reading, Is, Unbound, Bad}
use Rattle.cfs_script.specs.declared.fault.ScriptFault.{ScriptFault}
use Rattle.cfs_script.specs.declared.fault.ScriptFault.TheVariants as faults
use Rattle.cfs_script.specs.declared.spoken.Spoken.{Spoken}

-- The result is that of the reading. Want of memory may come in the place of any.
abbrev pub AnswersReading : {A : Type 0} → Result A ScriptFault → Reading A → Type 0
AnswersReading (Ok x) reading = reading ≡ Is x
AnswersReading (Err faults.Syntax) reading = reading ≡ Bad
AnswersReading (Err faults.NoName) reading = reading ≡ Unbound
AnswersReading (Err faults.Memory) reading = Unit {0}

-- the request that was read
abbrev pub asked : Result Spoken ScriptFault → Result Request ScriptFault
asked (Ok spoken) = Ok spoken.request
asked (Err fault) = Err fault

-- the text begins with a byte that is no blank
abbrev pub BeginsWord : List ℕ → Type 0
BeginsWord [] = ⊥
BeginsWord (c ∷ cs) = is_blank c ≡ false
