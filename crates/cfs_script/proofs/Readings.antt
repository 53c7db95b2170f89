-- Readings of several words, and what tells them.
use Rattle.std.proofs.Common.{◌≡◌, Ok, Err, Result, refl}
use Rattle.ufs_model.specs.Spoken.{Reading, Is, Unbound, Bad, ◌⊛◌}
use Rattle.cfs_script.specs.declared.fault.ScriptFault.{ScriptFault}
use Rattle.cfs_script.specs.declared.fault.ScriptFault.TheVariants as faults
use Rattle.cfs_script.specs.Read.{AnswersReading}

-- a pair of readings
abbrev pub paired : {A B : Type 0} → Reading A → Reading B → Reading (A × B)
paired r s = Is (λ x y. (x, y)) ⊛ r ⊛ s

-- of two readings, and of their pair
pub ⊛-paired : {A B C : Type 0} (f : A → B → C) (r : Reading A) (s : Reading B) → Is f ⊛ r ⊛ s ≡ Is (λ p. f p.0 p.1) ⊛ paired r s
⊛-paired f Bad s = refl
⊛-paired f (Is x) (Is y) = refl
⊛-paired f (Is x) Unbound = refl
⊛-paired f (Is x) Bad = refl
⊛-paired f Unbound (Is y) = refl
⊛-paired f Unbound Unbound = refl
⊛-paired f Unbound Bad = refl

abbrev mapped : {A B : Type 0} → (A → B) → Result A ScriptFault → Result B ScriptFault
mapped g (Ok x) = Ok (g x)
mapped g (Err fault) = Err fault

AnswersReading-mapped : {A B : Type 0} (g : A → B) (res : Result A ScriptFault) (r : Reading A) → AnswersReading res r → AnswersReading (mapped g res) (Is g ⊛ r)
AnswersReading-mapped g (Ok x) r h = rw h refl
AnswersReading-mapped g (Err faults.Syntax) r h = rw h refl
AnswersReading-mapped g (Err faults.NoName) r h = rw h refl
AnswersReading-mapped g (Err faults.Memory) r h = tt

-- what tells a pair tells what is made of it
pub AnswersReading-two : {A B C : Type 0} (f : A → B → C) (res : Result (A × B) ScriptFault) (r : Reading A) (s : Reading B)
    → AnswersReading res (paired r s) → AnswersReading (mapped (λ p. f p.0 p.1) res) (Is f ⊛ r ⊛ s)
AnswersReading-two f res r s h = rw ⊛-paired (AnswersReading-mapped (λ p. f p.0 p.1) res (paired r s) h)

pub AnswersReading-three : {A B C D : Type 0} (f : A → B → C → D) (res : Result ((A × B) × C) ScriptFault) (r : Reading A) (s : Reading B) (t : Reading C)
    → AnswersReading res (paired (paired r s) t) → AnswersReading (mapped (λ p. f p.0.0 p.0.1 p.1) res) (Is f ⊛ r ⊛ s ⊛ t)
AnswersReading-three f res r s t h = rw ⊛-paired (AnswersReading-two (λ p x. f p.0 p.1 x) res (paired r s) t h)

pub AnswersReading-four : {A B C D E : Type 0} (f : A → B → C → D → E) (res : Result (((A × B) × C) × D) ScriptFault)
    (r : Reading A) (s : Reading B) (t : Reading C) (u : Reading D)
    → AnswersReading res (paired (paired (paired r s) t) u) → AnswersReading (mapped (λ p. f p.0.0.0 p.0.0.1 p.0.1 p.1) res) (Is f ⊛ r ⊛ s ⊛ t ⊛ u)
AnswersReading-four f res r s t u h = rw ⊛-paired (AnswersReading-three (λ p x y. f p.0 p.1 x y) res (paired r s) t u h)
