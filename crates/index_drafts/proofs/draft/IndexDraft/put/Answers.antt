use Rattle.index_drafts.proofs.draft.IndexDraft.put.Goals as goal

pub returns : goal.returns
returns g c = rw (← c.self.view_is) c.put_in.ensures
