use Rattle.index_drafts.proofs.Words.{ℕ, Option, subst}
use Rattle.special_files.specs.Committing.{AbortEnds}
use Rattle.index_drafts.proofs.draft.IndexDraft.abort.Goals as goal

pub returns-clause-aborts : goal.returns-clause-aborts
returns-clause-aborts g c = λ i.
    let aborts = rw c.self.view_is at c.abort.ensures.aborts in
    subst (λ (made : Option ℕ). AbortEnds g.D.Disk i.view.graph i.view.ds i.view.id made c.args.disk.now c.abort.new.disk c.abort.new.space c.abort.result) (rw c.self.view_is at c.self.invariant.1) (aborts i.view)
