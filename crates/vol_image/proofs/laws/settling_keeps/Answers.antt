use Rattle.vol_image.proofs.Settles.{settled_holds, settles_begins, settles_on, settles_write}
use Rattle.vol_image.proofs.laws.settling_keeps.Goals as goal

pub returns-clause-holds : goal.returns-clause-holds
returns-clause-holds c = settled_holds

pub returns-clause-begin : goal.returns-clause-begin
returns-clause-begin c = settles_begins

pub returns-clause-entry : goal.returns-clause-entry
returns-clause-entry c = λ c2 g id o s b n old e holds at copied apart_s settles was may. settles_on c2 g id o s b n old e holds at copied apart_s settles was may

pub returns-clause-write : goal.returns-clause-write
returns-clause-write c = settles_write
