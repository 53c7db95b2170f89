use Rattle.std.proofs.Common.{◌≡◌, ◌<◌, ℕ, IsTrue, List, [], Ok, Err, Result, length, sym, ◌∙◌, ap, subst, arith, get_or-set_same}
use Rattle.std.specs.Prelude.{OnOk}
use Rattle.cfs_base.specs.Disk.{Image, block_at}
use Rattle.cfs_base.proofs.Runs.{stays}
use Rattle.cyl_map.specs.Volume.{entry_in}
use Rattle.cyl_map.proofs.Volumes.{entry_in-set}
use Rattle.vol_format.specs.Fresh.{IsEmptyIndex}
use Rattle.vol_format.proofs.format.write_body.Goals as goal

always : {T E P : Type 0} (r : Result T E) → P → OnOk r P
always (Ok v) p = p
always (Err e) p = tt

pub returns-in_err-write_beside-clause-stays : goal.returns-in_err-write_beside-clause-stays
returns-in_err-write_beside-clause-stays g c start run = c.in_err-write_beside.ensures.stays start (c.in_ok-write_maps.ensures.stays start run)

pub returns-clause-stays : goal.returns-clause-stays
returns-clause-stays g c start run = stays g.D.Disk (c.in_ok-write_beside.ensures.stays start (c.in_ok-write_maps.ensures.stays start run)) c.barrier.ensures.images

pub returns-clause-body : goal.returns-clause-body
returns-clause-body g c honest =
    let maps = c.in_ok-write_maps.ensures in
    let image = g.D.Disk.content c.write_maps.new.disk in
    let is = c.barrier.ensures.content ∙ c.in_ok-write_beside.ensures.written in
    let size = g.met.D.Disk.sized c.write_maps.new.disk (subst IsTrue (sym maps.calls.same.honesty) honest) in
    let inside : 2 < length image = omega (arith, size, maps.calls.same.size, c.requires.size, c.requires.some) in
    always c.barrier.result (record {
      entries = λ n below. ap (λ (i : Image). entry_in i n) is ∙ entry_in-set image 2 c.root_block.result n (λ (e : 2 ≡ 0). omega arith) ∙ maps.entries honest n below;
      root = subst (λ (b : List ℕ). IsEmptyIndex b c.args.word) (sym (ap (λ (i : Image). block_at i 2) is ∙ get_or-set_same image 2 c.root_block.result [] inside)) c.root_block.ensures;
    })
