use Rattle.std.proofs.Common.{sym, subst}
use Rattle.special_files.proofs.Words.{CommitCall, Drafting, Makes}
use Rattle.special_files.proofs.commit.CommitStore.{parts_of}
use Rattle.special_files.proofs.draft.ObjectDraft.commit.Goals as goal

pub returns : goal.returns
returns g c = record {
  commits = λ v made makes. c.commit_parts.ensures.commits c.args.self v made (parts_of c.args.self _ c.self.view_is) (subst (λ (w : Drafting). Makes (g.D.Disk.content c.args.disk.now) w.created made) (sym c.self.view_is) makes);
  call = subst (λ (w : Drafting). CommitCall g.D.Disk w c.args.disk.now c.commit_parts.new.disk c.args.space.now c.commit_parts.new.space c.commit_parts.result) c.self.view_is
      (record { ends = c.commit_parts.ensures.ends; tried = c.commit_parts.ensures.tried; untried = c.commit_parts.ensures.untried });
}
