use Rattle.std.proofs.Common.{◌≡◌, ◌∙◌, ◌*◌, ℕ, sym, ap, length, Bool, false}
use Rattle.std.proofs.lemmas.List.{length-replicate}
use Rattle.cfs_check.specs.Roots.{Found}
use Rattle.cfs_check.specs.Uses.{Use}
use Rattle.cfs_check.proofs.Begun.{length-first_uses}
use Rattle.cfs_check.proofs.surveying.begin_survey.Goals as goal

pub invariant_of-result : goal.invariant_of-result
invariant_of-result c =
    let room : c.args.blocks ≡ c.add.new.self.room = sym (c.in_ok-add.ensures.room ∙ ap (λ (f : Found). f.room) c.in_ok-roots.ensures) in
    record {
      sized = record {
        marks_size = ap (length {A = Bool}) c.in_ok-marks.ensures ∙ length-replicate (12 * c.args.blocks) false ∙ ap (λ (n : ℕ). 12 * n) room;
        uses_size = ap (length {A = Use}) c.in_ok-uses.ensures ∙ length-first_uses c.args.blocks ∙ room;
      };
    }
