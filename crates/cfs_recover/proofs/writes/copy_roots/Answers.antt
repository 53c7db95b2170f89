use Rattle.std.proofs.Common.{sym, subst, arith}
use Rattle.cfs_recover.proofs.Words.{AreCopied, CopiesRoots, Image}
use Rattle.cfs_recover.proofs.Keepings.{all_copied, keeps_begin, leads_on}
use Rattle.cfs_recover.proofs.Tidyings.{copies_begin}
use Rattle.cfs_recover.proofs.writes.copy_roots.Goals as goal

pub returns-in_err-write_roots-clause-leads : goal.returns-in_err-write_roots-clause-leads
returns-in_err-write_roots-clause-leads g c a graph copies settled is kept =
    let run = keeps_begin g.D.Disk (CopiesRoots a graph) c.args.disk.now settled (subst (CopiesRoots a graph) (sym is) (copies_begin a graph)) in
    c.in_err-write_roots.ensures.leads a graph c.args.disk.now copies run kept

pub returns-in_err-flush-clause-leads : goal.returns-in_err-flush-clause-leads
returns-in_err-flush-clause-leads g c a graph copies settled is kept =
    let run = keeps_begin g.D.Disk (CopiesRoots a graph) c.args.disk.now settled (subst (CopiesRoots a graph) (sym is) (copies_begin a graph)) in
    leads_on g.D.Disk (CopiesRoots a graph) c.args.disk.now c.write_roots.new.disk c.flush.new.disk (c.in_ok-write_roots.ensures.leads a graph c.args.disk.now copies run kept) c.flush.ensures.untouched

pub returns-clause-leads : goal.returns-clause-leads
returns-clause-leads g c a graph copies settled is kept =
    let run = keeps_begin g.D.Disk (CopiesRoots a graph) c.args.disk.now settled (subst (CopiesRoots a graph) (sym is) (copies_begin a graph)) in
    leads_on g.D.Disk (CopiesRoots a graph) c.args.disk.now c.write_roots.new.disk c.flush.new.disk (c.in_ok-write_roots.ensures.leads a graph c.args.disk.now copies run kept) c.flush.ensures.untouched

pub returns-clause-copied : goal.returns-clause-copied
returns-clause-copied g c a graph copies settled is holds kept =
    let run = keeps_begin g.D.Disk (CopiesRoots a graph) c.args.disk.now settled (subst (CopiesRoots a graph) (sym is) (copies_begin a graph)) in
    let done = c.in_ok-write_roots.ensures.keeps a graph c.args.disk.now copies run kept in
    let roots = subst (CopiesRoots a graph) (sym c.flush.ensures.untouched.content) done.0.content in (
      c.in_ok-flush.ensures.settled done.0.tells.honest,
      roots,
      subst (λ (i : Image). AreCopied i graph) (sym c.flush.ensures.untouched.content) (all_copied a graph copies (g.D.Disk.content c.write_roots.new.disk) holds kept.all done.0.content done.1),
      omega (arith, done.2, c.flush.ensures.calls.tries),
    )
