use Rattle.std.proofs.Common.{◌≡◌, ◌∙◌, ◌*◌, ◌∷◌, [], ℕ, Bool, List, false, length, replicate, sym, ap, subst}
use Rattle.std.proofs.lemmas.List.{length-replicate}
use Rattle.cfs_recover.specs.Entries.{AreStanding}
use Rattle.cfs_recover.specs.declared.standing.Shadow.{Shadow}
use Rattle.cfs_recover.specs.declared.standing.Shadow.TheVariants as shadow
use Rattle.cfs_check.specs.Marks.{AddsMarks}
use Rattle.cfs_check.specs.Roots.{Found}
use Rattle.cfs_check.specs.Surveyed.{GroundFault}
use Rattle.cfs_check.specs.Uses.{Use, first_uses}
use Rattle.cfs_check.proofs.Begun.{begins}
use Rattle.cfs_check.proofs.Ground.{ground_told, none_stand}
use Rattle.cfs_check.proofs.surveying.start_survey.Goals as goal

pub returns : goal.returns
returns c =
    let image = c.args.image.now in
    let blocks : c.blocks-blocks.result ≡ length image = c.blocks-blocks.ensures.is in
    let begun = c.in_ok-survey.ensures in
    let marks_are : c.in_ok-survey.survey.marks ≡ replicate (12 * length image) false = begun.marks ∙ ap (λ (n : ℕ). replicate (12 * n) false) blocks in
    let faults = subst (λ (ms : List Bool). AddsMarks (GroundFault image c.args.label) ms c.note_if.new.self) marks_are
    (ground_told image c.args.label _ c.names_nothing-bad.ensures c.in_ok-survey.survey.marks c.note_entries.new.marks c.note_if.new.self c.note_entries.ensures.faults c.note_if.ensures) in
    let table = c.in_ok-standing.ensures in
    record {
      table = record {
        size = c.note_entries.ensures.size ∙ ap (length {A = Shadow}) table ∙ length-replicate c.blocks-blocks.result shadow.None ∙ blocks;
        stand = c.note_entries.ensures.stand (subst (λ (t : List Shadow). AreStanding image 0 t) (sym table) (none_stand image c.blocks-blocks.result));
      };
      marks = faults;
      walk = begins image c.args.label _ c.requires.label (begun.uses ∙ ap first_uses blocks) (begun.roots ∙ ap (λ (n : ℕ). record { blocks = 2 ∷ []; room = n }) blocks)
          (faults.size ∙ length-replicate (12 * length image) false);
    }
