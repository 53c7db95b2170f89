use Rattle.std.proofs.Common.{nat_eq, refl, sym, ◌∙◌, ap, subst, IsSome}
use Rattle.cfs_core.proofs.Words.{get}
use Rattle.cfs_core.proofs.Handled.{changes_held, held_here, it_holds, never_absent}
use Rattle.cfs_core.proofs.handles.Handles.write.Goals as goal

pub overwrite-requires-clause-on_disk : goal.overwrite-requires-clause-on_disk
overwrite-requires-clause-on_disk g c = c.requires.on_disk c.in-Some.draft.now (sym (held_here (get nat_eq c.self.inside.drafts) c.self.inside.grants.grants _ (ap (λ t. t.handles) c.self.view_is) c.self.invariant c.args.draw) ∙ sym c.in-Some.ensures.value)

pub overwrite-requires-clause-within : goal.overwrite-requires-clause-within
overwrite-requires-clause-within g c = it_holds (get nat_eq c.self.inside.drafts) c.self.inside.grants.grants _ (ap (λ t. t.handles) c.self.view_is) c.self.invariant c.args.draw c.requires.has c.in-Some.draft.now (sym c.in-Some.ensures.value)

pub unreachable-requires : goal.unreachable-requires
unreachable-requires g c = never_absent (get nat_eq c.self.inside.drafts) c.self.inside.grants.grants _ (ap (λ t. t.handles) c.self.view_is) c.self.invariant c.args.draw c.requires.has (sym c.in-None.ensures.value)

pub returns : goal.returns
returns g c = changes_held (get nat_eq c.self.inside.drafts) c.self.inside.grants.grants _ (ap (λ t. t.handles) c.self.view_is) c.self.invariant c.args.draw _ c.in-Some.draft.now _ (sym c.in-Some.ensures.value)
    ((c.get_mut.follows.holds c.overwrite.new.draft).3 (subst (λ o. IsSome o) c.in-Some.ensures.value refl)).0 c.overwrite.ensures
