use Rattle.file_ops.proofs.reading.size.Goals as goal

pub returns-in-Ok-clause-size : goal.returns-in-Ok-clause-size
returns-in-Ok-clause-size g c = λ v f is. let m = c.in-Ok.ensures.size v f is in record { size_is = m.size_is; sound = tt }

pub returns-in-Err-clause-size : goal.returns-in-Err-clause-size
returns-in-Err-clause-size g c = λ v f is. let m = c.in-Err.ensures.size v f is in record { size_is = tt; sound = m.sound }
