use Rattle.std.proofs.Common.{◌≡◌, ◌*◌, refl, sym, ◌∙◌, length, rules}
use Rattle.cfs_serve.proofs.Cited.{opened}
use Rattle.cfs_serve.proofs.Volumes.{both_ok, both_some, new_core}
use Rattle.cfs_serve.proofs.volume.new_volume.Goals as goal

pub returns : goal.returns
returns c =
    let size : length c.in_ok-disk.disk.disk.store ≡ 64 * c.args.cylinders = search rules in
    let now : length c.format.new.disk.disk.store ≡ 64 * c.args.cylinders = c.format.ensures.calls.same.size ∙ size in
    rw c.ok-2.ensures.value (both_some _ _ _ c.open.result
    (c.open.ensures.opened refl (opened c.args.seed) (c.in-Ok.ensures.made refl).sound)
    (both_ok _ _ c.open.result c.open.ensures.idle c.open.ensures.size)
    (λ k is more. new_core _ c.args.cylinders c.args.seed k c.requires.some is more.0 (sym now ∙ more.1)))
