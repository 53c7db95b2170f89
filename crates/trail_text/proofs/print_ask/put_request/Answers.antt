use Rattle.trail_text.proofs.print_ask.put_request.Goals as goal

pub returns-in-CreateFile : goal.returns-in-CreateFile
returns-in-CreateFile c = rw c.in-CreateFile.is c.put.ensures

pub returns-in-CreateIndex : goal.returns-in-CreateIndex
returns-in-CreateIndex c = rw c.in-CreateIndex.is c.put-in-CreateIndex.ensures

pub returns-in-Retain : goal.returns-in-Retain
returns-in-Retain c = rw c.in-Retain.is c.put-in-Retain.ensures
