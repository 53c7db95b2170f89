use Rattle.cfs_check.proofs.Exact.{its_size, marks_faults, survey_done}
use Rattle.cfs_check.proofs.surveying.survey_volume.Goals as goal

pub returns : goal.returns
returns g c =
    let image = c.args.image.now in
    let b = c.in_ok-surveyed.surveyed in
    let started = c.in_ok-surveyed.ensures in
    let walk = c.in_ok-walk_all.ensures.walk b.survey.marks started.walk in
    let s = c.walk_all.new.survey in
    let t = c.end_survey.new.survey in
    let whole = survey_done image c.requires.whole c.args.label c.requires.label c.requires.size b started s walk t.marks c.end_survey.ensures.faults t c.end_survey.ensures.uses c.end_survey.ensures.roots in
    record {
      table = started.table;
      whole = whole;
      size = its_size image c.requires.whole c.args.label c.requires.label c.requires.size b started s walk t.marks c.end_survey.ensures.faults whole.label whole.has;
      faults = marks_faults image c.requires.whole c.args.label c.requires.label c.requires.size b started s walk t.marks c.end_survey.ensures.faults;
    }
