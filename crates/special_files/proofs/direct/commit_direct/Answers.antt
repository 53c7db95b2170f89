use Rattle.std.proofs.Common.{ℕ, length, refl, sym, ap, subst, arith}
use Rattle.special_files.proofs.Words.{Image, Makes, changed_reads, commit_calls, commit_tries, number_if, reads_make}
use Rattle.special_files.proofs.commit.CommitCalls.{commits_on, commits_stopped}
use Rattle.special_files.proofs.CommitDone.{makes_more}
use Rattle.special_files.proofs.commit.CommitStore.{commit_after, commit_stops}
use Rattle.special_files.proofs.View.{read_leaves, view_reads}
use Rattle.special_files.proofs.direct.commit_direct.Goals as goal

pub returns-in-Err-clause-commits : goal.returns-in-Err-clause-commits
returns-in-Err-clause-commits g c = λ was v made parts makes.
    commit_stops (read_leaves c.changed.ensures.reads) (c.in-Err.ensures.sound c.args.space.now was v parts.own_is parts.root_is)

pub returns-in-Err-clause-ends : goal.returns-in-Err-clause-ends
returns-in-Err-clause-ends g c = commits_stopped (c.in-Err.ensures.refused c.args.space.now) (makes_more g.D.Disk c.args.disk.now c.changed.new.disk changed_reads 0 commit_calls commit_tries (omega arith) (omega arith) (reads_make g.D.Disk c.args.disk.now c.changed.new.disk changed_reads c.changed.ensures.reads))

pub returns-clause-commits : goal.returns-clause-commits
returns-clause-commits g c = λ was v made parts makes.
    let reads = c.changed.ensures.reads in
    commit_after reads (c.commit_listed.ensures.commits was (view_reads v reads) made
    (record { at_is = parts.at_is; shadow_is = parts.shadow_is; own_is = refl; root_is = parts.root_is; created_is = parts.created_is })
    (subst (λ (i : Image). Makes i (number_if c.args.created) made) (sym reads.content) makes)
    (rw (reads.content, c.as_slice.ensures) (c.in-Ok.ensures.changed c.args.space.now was v parts.own_is parts.root_is)))

pub returns-clause-ends : goal.returns-clause-ends
returns-clause-ends g c =
    let few = c.in-Ok.ensures.room.1 in
    let long = ap (length {A = ℕ}) c.as_slice.ensures in
    commits_on c.changed.ensures.reads refl (λ far. absurd far) c.commit_listed.ensures.ends commit_calls commit_tries (omega (arith, few, long)) (omega (arith, few, long))
