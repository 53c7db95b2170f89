use Rattle.std.proofs.Common.{◌≡◌, ◌∙◌, ap, rules, replicate, map}
use Rattle.cfs_recover.proofs.Words.{shadow_of}
use Rattle.cfs_recover.proofs.Tables.{none_stand}
use Rattle.cfs_recover.proofs.standing.Standing.none.Goals as goal

pub returns : goal.returns
returns c =
    let zeros : c.in_ok-of.of.items ≡ replicate c.args.blocks 0 = search rules in
    ap (map shadow_of) zeros ∙ none_stand c.args.blocks
