use Rattle.index_drafts.proofs.Words.{None, subst, CommitEnds, Object}
use Rattle.index_drafts.proofs.draft.IndexDraft.commit.Goals as goal

pub returns-clause-commits : goal.returns-clause-commits
returns-clause-commits g c = λ i.
    let commits = rw c.self.view_is at c.commit.ensures.commits in
    subst (λ (o : Object). CommitEnds g.D.Disk i.view.graph i.view.ds i.view.id o None c.args.disk.now c.commit.new.disk c.commit.new.space c.commit.result) i.is
    (commits i.view None (rw c.self.view_is at c.self.invariant.1))
