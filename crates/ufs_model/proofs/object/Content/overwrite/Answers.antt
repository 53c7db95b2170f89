use Rattle.std.proofs.Common.{◌+◌, ◌∙◌, ap, arith, get_or, set, length, List, ℕ}
use Rattle.ufs_model.proofs.Words.{paste_more}
use Rattle.ufs_model.proofs.object.Content.overwrite.Goals as goal

pub loop-i-preserved : goal.loop-i-preserved
loop-i-preserved c =
    let i = c.loop-i.i in
    let old = c.self.inside.bytes.items in
    let new = c.args.new.now in
    let same = ap (λ (bytes : List ℕ). length bytes) c.self.view_is in
    ap (λ bytes. set bytes (c.args.offset + i) (get_or new i 0)) c.loop-i.invariant ∙ paste_more old c.args.offset new i 0 (omega (arith, c.requires)) (omega arith)
