use Rattle.std.proofs.Common.{ℕ, ◌≤◌, length, length-append, refl, sym, ◌∙◌, ap, subst, arith}
use Rattle.special_files.proofs.Words.{Drafting, Makes, far_root}
use Rattle.special_files.proofs.commit.CommitCalls.{commits_far, commits_on}
use Rattle.special_files.proofs.commit.CommitStore.{made_below, parts_of}
use Rattle.cfs_base.proofs.Went.{reads_none}
use Rattle.special_files.proofs.changed.Unlike.{one_at_most}
use Rattle.special_files.proofs.draft.ObjectDraft.commit_swap.Goals as goal

-- ---- the root that is made with it leads past the disk

pub returns-in-Err : goal.returns-in-Err
returns-in-Err g c =
    let parts = parts_of c.args.self _ c.self.view_is in
    let far = c.in-Err.ensures.far.0 in
    record {
      commits = λ v made makes swapped. absurd (omega (arith, made_below v far.n (parts.created_is ∙ far.is), g.met.D.Disk.sized c.args.disk.now v.store.carries.tells.honest, far.far));
      call = commits_far 11 7 (record { n = far.n; is = parts.created_is ∙ far.is; far = far.far }) (c.in-Err.ensures.far.1 ∙ ap far_root (sym parts.at_is));
    }

pub returns-clause-commits : goal.returns-clause-commits
returns-clause-commits g c = λ v made makes swapped.
    let parts = parts_of c.args.self _ c.self.view_is in
    c.commit_listed.ensures.commits c.args.self v made (record { at_is = parts.at_is; shadow_is = c.requires.direct; own_is = refl; root_is = parts.root_is; created_is = parts.created_is })
    (subst (λ (w : Drafting). Makes (g.D.Disk.content c.args.disk.now) w.created made) (sym c.self.view_is) makes)
    (rw (c.list_two.ensures, c.as_slice.ensures, c.list_two-2.ensures, sym parts.own_is, sym parts.root_is) swapped)

pub returns-clause-call : goal.returns-clause-call
returns-clause-call g c =
    let long = ap (length {A = ℕ}) (c.as_slice.ensures ∙ c.list_two-2.ensures) in
    let few : length c.as_slice.result.now ≤ 2 = omega (arith, long, length-append {A = ℕ}, one_at_most) in
    commits_on (reads_none g.D.Disk 0 c.args.disk.now) (sym (parts_of c.args.self _ c.self.view_is).at_is) (λ far. absurd far) c.commit_listed.ensures.ends 11 7 (omega (arith, few)) (omega (arith, few))
