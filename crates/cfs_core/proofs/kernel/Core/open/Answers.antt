use Rattle.std.proofs.Common.{[], None, sym, subst}
use Rattle.cfs_core.specs.declared.collecting.Collections.{Collections}
use Rattle.cfs_core.specs.Opened.{IsOpenedCore}
use Rattle.cfs_core.proofs.Opened.{never, opened}
use Rattle.cfs_core.proofs.kernel.Core.open.Goals as goal

pub returns-then-is_astray-clause-refused : goal.returns-then-is_astray-clause-refused
returns-then-is_astray-clause-refused g c = λ honest.
    never g.D.Disk _ c.recover.new.disk _ _ _ (c.in-Ok.ensures.opened honest) _ _ c.blocks-in-Ok.ensures c.is_astray.ensures.is c.if-is_astray.true

pub returns-then-is_astray-clause-free : goal.returns-then-is_astray-clause-free
returns-then-is_astray-clause-free g c = λ honest sound.
    never g.D.Disk _ c.recover.new.disk _ _ _ (c.in-Ok.ensures.opened honest) _ _ c.blocks-in-Ok.ensures c.is_astray.ensures.is c.if-is_astray.true

pub returns-then-is_astray-clause-untouched : goal.returns-then-is_astray-clause-untouched
returns-then-is_astray-clause-untouched g c = λ honest other.
    never g.D.Disk _ c.recover.new.disk _ _ _ (c.in-Ok.ensures.opened honest) _ _ c.blocks-in-Ok.ensures c.is_astray.ensures.is c.if-is_astray.true

pub returns-else-is_astray-clause-opened : goal.returns-else-is_astray-clause-opened
returns-else-is_astray-clause-opened g c = λ honest graph sound.
    let r = c.in-Ok.recovered in
    let none : Collections = record { collector = None; called = 0; finished = 0 } in
    subst (λ kept. IsOpenedCore g.D.Disk graph c.args.seed (record { disk = c.recover.new.disk; root = r.label.root; directory = r.directory; space = r.space; words = c.new.result; handles = c.new-in-Ok.result.handles; collections = kept; stop = None })) (sym c.new-in-Ok-2.ensures)
    (subst (λ ss. IsOpenedCore g.D.Disk graph c.args.seed (record { disk = c.recover.new.disk; root = r.label.root; directory = r.directory; space = r.space; words = c.new.result; handles = ss; collections = none; stop = None })) (sym c.new-in-Ok.ensures)
    (subst (λ words. IsOpenedCore g.D.Disk graph c.args.seed (record { disk = c.recover.new.disk; root = r.label.root; directory = r.directory; space = r.space; words = words; handles = []; collections = none; stop = None })) (sym c.new.ensures)
    (opened g.D.Disk _ c.recover.new.disk _ _ _ (c.in-Ok.ensures.opened honest) c.in-Ok.ensures.left c.args.seed (g.met.D.Disk.of_blocks c.args.disk honest) graph sound)))
