use Rattle.std.proofs.Common.{◌≡◌, ◌∷◌, [], List, map, refl, ap, subst, arith}
use Rattle.cfs_core.proofs.Words.{common_steps}
use Rattle.open_table.specs.declared.grant.OpenGrant.{OpenGrant}
use Rattle.cfs_core.specs.Kernel.{Kernel, Handle, grants_in}
use Rattle.cfs_core.proofs.kernel.Core.roots.Goals as goal

ids_in : (ss : List Handle) → map (λ (x : Handle). x.grant.id) ss ≡ map (λ (x : OpenGrant). x.id) (grants_in ss)
ids_in [] = refl
ids_in (x ∷ ss) = ap (λ ids. x.grant.id ∷ ids) (ids_in ss)

pub returns : goal.returns
returns g c =
    let k : Kernel _ = record { disk = c.self.inside.disk; root = c.self.inside.root; directory = c.self.inside.directory; space = c.self.inside.space; words = c.self.inside.words; handles = c.self.inside.handles.handles; collections = c.self.inside.collections; stop = c.self.inside.stop } in
    let ids = ids_in c.self.inside.handles.handles in
    let all = ap (map (λ (x : OpenGrant). x.id)) c.grants.ensures in
    subst (λ (x : Kernel _). c.push_open.new.roots.items ≡ x.root ∷ map (λ (y : Handle). y.grant.id) x.handles) c.self.view_is (grind (arith, common_steps, ids, all))
