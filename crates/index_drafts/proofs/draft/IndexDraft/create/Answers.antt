use Rattle.index_drafts.proofs.draft.IndexDraft.create.Goals as goal

pub returns : goal.returns
returns g c = rw (← c.self.view_is) c.create_in.ensures
