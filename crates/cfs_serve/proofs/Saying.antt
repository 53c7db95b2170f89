-- What `top` says follows from the steps of the run.
use Rattle.std.proofs.Common.{◌≡◌, ℕ, ◌≤◌, true, false, List, length, refl, sym, ap, ◌∙◌}
use Rattle.cfs_serve.proofs.Cited.{Asked, Audits, CompletesInspection, IsInspected, NoCountRose, RoseIn, most_inspected, Ending, Event, Formats, Ground, HasPlaces, Inspects, IsWholeRun, Nothing, Outside, Report, Said, Shows, status_at_end, is_service, last_cause}
use Rattle.cfs_serve.specs.Words.{Converses, Dirs, Serves, Spins, is_format}
use Rattle.cfs_serve.proofs.Because as why
use Rattle.cfs_serve.proofs.Facts.{NoSpin, facts}
use Rattle.cfs_serve.proofs.Inspections.{completes, each_inspected, of_inspected}
use Rattle.cfs_serve.proofs.Judging.{found, judged, overlong, serves_none}

no_service : (asked : Asked) → is_format asked ≡ true → is_service asked ≡ false
no_service (Formats format) makes = refl
no_service (Audits trail) makes = absurd (cc makes)
no_service (Inspects inspection) makes = absurd (cc makes)
no_service (Spins spin) makes = absurd (cc makes)
no_service (Shows page) makes = refl
no_service (Serves service) makes = absurd (cc makes)
no_service (Dirs names) makes = refl
no_service (Converses talk) makes = refl
no_service Nothing makes = refl

pub said : (asked : Asked) (ground : Ground) (old new : Outside) (told : Report) (status : ℕ) (ending : Ending) (trail : List Event)
    → NoSpin asked → HasPlaces asked (length old.sources) (length old.sinks)
    → IsWholeRun asked ground (record { disk = old.disk; sources = old.sources; sinks = old.sinks }) (record { disk = new.disk; sources = new.sources; sinks = new.sinks }) old.report new.report told status ending trail
    → Said asked ground old new told status ending trail
said asked ground old new told status ending trail plain given whole =
    let f = facts old.disk new.disk old.sources new.sources old.sinks new.sinks old.report new.report told ending trail asked ground plain given whole.run in
    let counts = told.counts in
    let listed = told.faults in
    let cause = told.cause in
    let last = last_cause whole.short cause in
    let last_because = why.at_last asked ground old new counts listed trail whole.short cause f.1 in
    let wrote = whole.reported in
    let is : (n : ℕ) → status ≡ n → status_at_end whole.written last ≡ n = λ n so. sym whole.said ∙ so in
    let worse : (n : ℕ) → ¬ (n ≡ 5) → ¬ (n ≡ 7) → status ≡ n → status_at_end whole.written cause ≡ n = λ n some other so. why.worse asked ground old new counts listed trail whole.short cause whole.written n some other (is n so) in
    let whole_by : is_service asked ≡ false → last ≡ cause = λ none. ap (λ b. last_cause b cause) (why.unprinted asked ground old new counts listed trail cause whole.short whole.text (f.0.unasked none) whole.is_text).0 in
    record {
      did = f.0;
      short = whole.short;
      text = whole.text;
      is_text = whole.is_text;
      reported = why.reported asked ground old new counts listed trail whole.text whole.written wrote;
      is_status = rw whole.said (why.status asked ground old new counts listed trail last whole.text whole.written wrote);
      status_0 = λ so. why.status_0 asked ground old new counts listed trail f.0.bare cause whole.short whole.text whole.written f.1 whole.is_text wrote (is 0 so);
      status_2 = (
        (λ so. why.status_2 asked ground old new counts listed trail cause whole.written f.1 (worse 2 (λ e. cc e) (λ e. cc e) so)),
        (λ none. whole.said ∙ ap (status_at_end whole.written) (whole_by (ap is_service none)) ∙ rw (f.0.words.1 none) (why.is_2 whole.written)),
      );
      status_3 = λ so. why.status_3 asked ground old new counts listed trail cause whole.written f.1 (worse 3 (λ e. cc e) (λ e. cc e) so);
      told_3 = λ fault is. whole.said ∙ ap (λ c. status_at_end whole.written (last_cause whole.short c)) is ∙ why.is_3 asked ground old new counts listed trail whole.short fault whole.written;
      status_4 = λ so. why.status_4 asked ground old new counts listed trail cause whole.written f.1 (worse 4 (λ e. cc e) (λ e. cc e) so);
      status_5 = λ so. why.status_5 asked ground old new counts listed trail cause whole.short whole.text whole.written f.1 wrote (is 5 so);
      status_6 = λ so. why.status_6 asked ground old new counts listed trail cause whole.written f.1 (worse 6 (λ e. cc e) (λ e. cc e) so);
      status_7 = λ so. why.status_7 asked ground old new counts listed trail last whole.text whole.written wrote (is 7 so);
      status_8 = (
        (λ so. why.status_8 asked ground old new counts listed trail cause whole.written (worse 8 (λ e. cc e) (λ e. cc e) so)),
        (λ bad. whole.said ∙ why.is_8 asked ground old new counts listed trail whole.short cause whole.written bad),
      );
      status_9 = λ so. why.status_9 asked ground old new counts listed trail cause whole.written f.1 (worse 9 (λ e. cc e) (λ e. cc e) so);
      over = rw whole.said (why.over_last asked ground old new counts listed trail whole.short cause whole.written f.1);
      overlong = λ audits text had far.
          let here = found cause old.sources new.sources text had (f.0.audited audits) in
          rw (whole.said, whole_by (serves_none asked audits)) (overlong here.source here.left text here.had cause whole.written here.is far);
      judged = λ audits text had quiet.
          let here = found cause old.sources new.sources text had (f.0.audited audits) in
          rw (whole.said, whole_by (serves_none asked audits), why.taken old new whole.text whole.written wrote quiet)
          (judged here.source here.left text here.had cause here.is (λ rose. quiet.sources (here.rose rose)));
      oversized = λ inspects far.
          let found = of_inspected asked (λ i. IsInspected ground i.mends (RoseIn old.disk new.disk) cause listed) inspects f.0.inspected in
          whole.said ∙ ap (λ c. status_at_end whole.written (last_cause whole.short c)) (found.1.long.1 far) ∙ why.is_9 asked ground old new counts listed trail whole.short whole.written;
      finding = why.finding asked ground old new counts listed trail cause f.1;
      inspected = each_inspected asked (λ i. IsInspected ground i.mends (RoseIn old.disk new.disk) cause listed)
          (λ i. ground.blocks ≤ most_inspected → NoCountRose old new → CompletesInspection ground i.mends status) f.0.inspected (λ i is found few quiet.
          rw (whole.said, whole_by (ap is_service is), why.taken old new whole.text whole.written wrote quiet) (completes ground i.mends old new cause listed found few quiet));
      complete = rw whole.said (why.complete asked ground old new counts listed trail last whole.text whole.written last_because wrote);
      refused = rw whole.said (why.refused asked ground old new counts listed trail last whole.text whole.written last_because wrote);
      formatted = λ makes quiet. whole.said ∙ ap (status_at_end whole.written) (whole_by (no_service asked makes)) ∙ why.formatted cause old new _ whole.written (f.0.made makes) wrote quiet;
      shown = λ page shows quiet. whole.said ∙ ap (status_at_end whole.written) (whole_by (ap is_service shows) ∙ (f.0.page page).1 shows) ∙ why.shown page old new _ whole.written wrote quiet;
    }
