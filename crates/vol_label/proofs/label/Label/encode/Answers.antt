use Rattle.std.proofs.Common.{◌∙◌, ◌++◌, take, drop, ap}
use Rattle.std.specs.Int.{to_be_bytes, w32}
use Rattle.vol_label.proofs.Labels.{put_all}
use Rattle.vol_label.proofs.label.Label.encode.Goals as goal

pub returns : goal.returns
returns c = put_all c.args.self.now _ _ _ _ _ _ c.zero-block.ensures
    (c.put_u32.ensures.put ∙ ap (λ n. take 0 c.zero-block.result ++ to_be_bytes w32 n ++ drop 4 c.zero-block.result) c.from_be_bytes.ensures)
    c.put_u32-2.ensures.put c.put_u32-3.ensures.put c.put_u32-4.ensures.put c.put_u32-5.ensures.put
