use Rattle.std.proofs.Common.{sym, ◌∙◌}
use Rattle.cfs_script.proofs.Lookups.{lookup-map}
use Rattle.cfs_script.proofs.names.Names.find.Goals as goal

pub returns : goal.returns
returns c =
    let kept = lookup-map (λ v. v.items) c.args.name.now c.self.inside.bound.entries in
    rw (← c.self.view_is) (c.copied.ensures ∙ c.get.ensures.value ∙ sym kept)
