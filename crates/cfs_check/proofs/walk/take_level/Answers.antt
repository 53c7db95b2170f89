use Rattle.std.proofs.Common.{◌≡◌, ◌++◌, List, length, map, sym, ◌∙◌, ap, subst}
use Rattle.std.specs.List.{AllZip, Contains}
use Rattle.cfs_check.specs.Findings.{IsLookAt}
use Rattle.cfs_check.specs.Items.{AtTwig, Knows}
use Rattle.cfs_check.specs.Roots.{Extends, Found}
use Rattle.cfs_check.specs.Twigs.{Twig}
use Rattle.cfs_check.specs.declared.findings.Findings.{Findings}
use Rattle.cfs_check.proofs.Walking.{all_zip_long, level_done}
use Rattle.cfs_check.proofs.walk.take_level.Goals as goal

pub note_all-requires-clause-holders : goal.note_all-requires-clause-holders
note_all-requires-clause-holders g c t has = c.in_ok-next.ensures.holders t (subst (λ (ts : List Twig). Contains ts t) c.deref-2.ensures.value has)

pub note_all-requires-clause-count : goal.note_all-requires-clause-count
note_all-requires-clause-count g c =
    let listed = ap (length {A = Twig}) (c.deref-2.ensures.value ∙ sym c.deref.ensures.value) in
    let found = ap (length {A = Findings}) c.deref-3.ensures.value in
    found ∙ sym (listed ∙ all_zip_long (λ t f. IsLookAt c.args.image.now c.open_batch.new.survey.roots.blocks t f) c.deref.result.now c.in_ok-found.found.items c.in_ok-found.ensures)

pub returns-clause-walk : goal.returns-clause-walk
returns-clause-walk g c before walk =
    let image = c.args.image.now in
    let opens = c.in_ok-next.ensures.opens before walk.items walk.knows in
    let ts = c.open_batch.new.twigs.items in
    let zip : AllZip (λ t f. IsLookAt image c.open_batch.new.survey.roots.blocks t f) c.deref-2.result.now c.deref-3.result.now =
    subst (λ (us : List Twig). AllZip (λ t f. IsLookAt image c.open_batch.new.survey.roots.blocks t f) us c.deref-3.result.now) (c.deref.ensures.value ∙ sym c.deref-2.ensures.value)
    (subst (λ (fs : List Findings). AllZip (λ t f. IsLookAt image c.open_batch.new.survey.roots.blocks t f) c.deref.result.now fs) (sym c.deref-3.ensures.value) c.in_ok-found.ensures) in
    let done = c.in_ok-note_all.ensures.known before opens.its opens.knows zip in
    level_done image c.requires.whole before c.args.done c.in_ok-next.next c.args.survey.now c.open_batch.new.survey c.note_all.new.survey ts walk opens
    (subst (λ (us : List Twig). Knows image before (opens.its ++ map AtTwig us) c.note_all.new.survey) c.deref-2.ensures.value done.0)
    (subst (λ (f : Found). Extends f c.note_all.new.survey.roots) c.in_ok-next.ensures.roots done.1) c.in_ok-next.ensures.next.1
