use Rattle.index_drafts.proofs.draft.IndexDraft.retrieve.Goals as goal

pub returns-clause-looks : goal.returns-clause-looks
returns-clause-looks g c = rw (← c.self.view_is) c.slot.ensures.looks
