use Rattle.std.proofs.Common.{◌<◌, Bool, true, false, not, MatchBool, length, arith}
use Rattle.cfs_check.specs.Findings.{Decides}
use Rattle.cfs_check.proofs.findings.look_at.Goals as goal

-- it isn't so, of what is there
there_not : (A P : Type 0) (b : Bool) → A → MatchBool b P (¬ P) → Decides (not b) (A × ¬ P)
there_not A P true here is = λ two. two.1 is
there_not A P false here none = (here, none)

pub returns : goal.returns
returns c =
    let inside : c.args.twig.now.spot.block < length c.args.image.now = omega (arith, c.if-twig-blocks.false) in
    let seen = c.look_at_content.ensures in
    record {
      not_owned = there_not _ _ c.is_in_place.result inside c.is_in_place.ensures;
      content = record {
        names_nothing = seen.names_nothing;
        late_leaf = seen.late_leaf;
        late_byte = seen.late_byte;
        dead_end = seen.dead_end;
        names_new = seen.names_new;
      };
    }
