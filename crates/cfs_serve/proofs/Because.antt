-- What each cause that is told shows, and what each status says by it.
use Rattle.std.proofs.Common.{◌≡◌, ◌⊎◌, inl, inr, ℕ, ◌<◌, Bool, true, false, List, [], ◌++◌, length, Option, Some, None, IsSome, IsNone, refl, sym, ap, ◌∙◌, subst, arith}
use Rattle.cfs_serve.proofs.Cited.{AreWithinLimits, Asked, Audited, Audits, Cause, Counts, Damage, DiskFailed, EachSink, EachSource, EndedWell, Event, ended_line, Format, Formats, Graph, Ground, FoundSound, HadLeft, HasNone, Inspection, Inspects, IsLegal, IsStatus, IsText, IsTextBy, LimitPassed, Made, MemoryWanting, NoCountRose, Nothing, Opening, Outside, Page, Replied, Report, RoseIn, Showed, Shows, SinkFailed, SomeRose, SourceFailed, TellsMade, VolumeFault, VolumeRefused, WasMended, WritesReport, Wrote, collections_of, status_at_end, finishes_in, is_audit, is_calm, is_finding, is_inspection, is_refutation, is_service, last_cause, most_inspected, list_all, list_any, printed_line, printed_replies, report_text, request_lines, sink_faults, source_faults, status_line, status_of, text_by, turns_in, untold, wants_memory}
use Rattle.cfs_serve.specs.declared.report.Cause.TheVariants as causes
use Rattle.cfs_serve.specs.Top.{IsOverLimit}
use Rattle.cfs_serve.specs.Words.{Converses, Dirs, Serves, Spins}

-- a service whose sinks took all
pub record Served (asked : Asked) (ground : Ground) (trail : List Event) (old new : Outside) (counts : Option Counts) : Type 0 where
  pub served : IsSome counts
  pub sound : ¬ ground.unsound
  pub within : (scripts : List (List ℕ)) → HadLeft old scripts → AreWithinLimits scripts
  pub answered : EachSource (λ session source _. (left : List ℕ) → source.left ≡ Some left → length (turns_in session trail) ≡ length (request_lines left)) old new
  pub replied : EachSink (λ session sink after. Wrote sink after (printed_replies session trail)) old new
  pub memory : list_any wants_memory trail ≡ false
  pub calm : list_all is_calm trail ≡ true
  pub collected : finishes_in trail ≡ collections_of asked

no_service : false ≡ true → ⊥
no_service e = cc

pub not_both : (asked : Asked) → is_audit asked ≡ true → is_service asked ≡ true → ⊥
not_both (Shows page) audits serves = no_service audits
not_both (Formats format) audits serves = no_service audits
not_both (Audits trail) audits serves = no_service serves
not_both (Inspects inspection) audits serves = no_service audits
not_both (Serves service) audits serves = no_service audits
not_both (Spins spin) audits serves = no_service audits
not_both (Dirs names) audits serves = no_service audits
not_both (Converses talk) audits serves = no_service audits
not_both Nothing audits serves = no_service audits

pub inspects_none : (asked : Asked) → is_audit asked ≡ true → is_inspection asked ≡ false
inspects_none (Shows page) audits = refl
inspects_none (Formats format) audits = refl
inspects_none (Audits trail) audits = refl
inspects_none (Inspects inspection) audits = absurd (no_service audits)
inspects_none (Serves service) audits = refl
inspects_none (Spins spin) audits = refl
inspects_none (Dirs names) audits = refl
inspects_none (Converses talk) audits = refl
inspects_none Nothing audits = refl

pub none_is : {X : Type 0} (o : Option X) → IsNone o → o ≡ None
none_is None none = refl
none_is (Some x) none = cc none

module _ (asked : Asked) (ground : Ground) (old new : Outside) (counts : Option Counts) (faults : List Damage) (trail : List Event) where
  abbrev pub told : Cause → Report
  told cause = record { counts = counts; faults = faults; cause = cause }

  -- a limit was passed
  abbrev Over : Cause → Type 0
  Over cause = IsNone counts × IsOverLimit asked ground cause old new × (is_service asked ≡ true → (scripts : List (List ℕ)) → HadLeft old scripts → ¬ (AreWithinLimits scripts))

  -- a trail was audited, and so it is told
  abbrev Verdict : Type 0
  Verdict = IsNone counts × (is_audit asked ≡ true)

  -- a volume was asked for, so no source
  abbrev Volumed : Type 0
  Volumed = IsNone counts × ((format : Format) × (asked ≡ Formats format)) × ((scripts : List (List ℕ)) → HadLeft old scripts → AreWithinLimits scripts)

  -- a volume was inspected, and no fault is listed
  abbrev Looked : (mends : Bool) → Type 0
  Looked mends = IsNone counts × (faults ≡ []) × ((volume : List ℕ) × (asked ≡ Inspects (record { volume = volume; mends = mends })))

  -- what a cause shows
  abbrev pub Because : Cause → Type 0
  Because causes.Nothing = Served asked ground trail old new counts ⊎ (Volumed ⊎ Looked true)
  Because (causes.Page page) = IsNone counts × (asked ≡ Shows page) × ((scripts : List (List ℕ)) → HadLeft old scripts → AreWithinLimits scripts)
  Because causes.Words = IsNone counts × (asked ≡ Nothing) × ((scripts : List (List ℕ)) → HadLeft old scripts → AreWithinLimits scripts)
  Because (causes.Volume fault) =
      HasNone ground × ((scripts : List (List ℕ)) → HadLeft old scripts → AreWithinLimits scripts) × (IsNone counts → ground.faulty fault)
  Because (causes.Disk moment) = RoseIn old.disk new.disk × ((scripts : List (List ℕ)) → HadLeft old scripts → AreWithinLimits scripts)
  Because causes.Sink = IsSome counts × ((scripts : List (List ℕ)) → HadLeft old scripts → AreWithinLimits scripts) × SomeRose (sink_faults old) (sink_faults new)
  Because (causes.Source n) = SourceFailed (told (causes.Source n)) old new × SomeRose (source_faults old) (source_faults new)
  Because causes.Memory = Unit {0}
  Because (causes.Long n) = Over (causes.Long n)
  Because causes.LongTotal = Over causes.LongTotal
  Because causes.LongVolume = IsNone counts × ((inspection : Inspection) × (asked ≡ Inspects inspection)) × (most_inspected < ground.blocks)
  Because (causes.Legal n) = Verdict × EachSource (λ _ source _. (left : List ℕ) → source.left ≡ Some left → IsLegal left n) old new
  Because (causes.BadLine line) = Verdict
  Because (causes.Illegal event) = Verdict
  Because (causes.Sound objects left) = Looked false × ¬ ground.unsound

  untold_is : (cause : Cause) → IsNone counts → faults ≡ [] → told cause ≡ untold cause
  untold_is cause none bare = rw (none_is counts none, bare) refl

  -- ---- the report's text

  -- it is its lines where nothing was served
  pub unprinted : (cause : Cause) (short : Bool) (text : List ℕ) → IsNone counts → IsText asked (told cause) trail short text → (short ≡ false) × (text ≡ report_text (told cause))
  unprinted cause short text none is = let nothing : counts ≡ None = none_is counts none in rw nothing (rw nothing at is)

  whole_by : (line : Option Opening) (report : Report) (text : List ℕ) → IsTextBy line report trail false text → text ≡ text_by line report trail
  whole_by None report text is = is.1
  whole_by (Some o) report text is = is.2 ∙ ap (λ start. start ++ ended_line (status_line (status_of report.cause))) is.1

  -- its sink has taken it, all or some of its beginning
  abbrev pub Told : List ℕ → Bool → Type 0
  Told text written = Replied old.report new.report text written

  pub reported : (text : List ℕ) (written : Bool) → Told text written → WritesReport text old new
  reported text true wrote = inl wrote
  reported text false wrote = inr wrote

  -- ---- what is told last, where memory was wanting for a line or not

  last : (short : Bool) (cause : Cause) → (last_cause short cause ≡ cause) ⊎ ((cause ≡ causes.Nothing) × (last_cause short cause ≡ causes.Memory))
  last true causes.Nothing = inr (refl, refl)
  last true causes.Memory = inl refl
  last true causes.Words = inl refl
  last true (causes.Page page) = inl refl
  last true (causes.Volume fault) = inl refl
  last true (causes.Disk moment) = inl refl
  last true causes.Sink = inl refl
  last true (causes.Source n) = inl refl
  last true (causes.Long n) = inl refl
  last true causes.LongTotal = inl refl
  last true causes.LongVolume = inl refl
  last true (causes.Legal n) = inl refl
  last true (causes.BadLine line) = inl refl
  last true (causes.Illegal event) = inl refl
  last true (causes.Sound objects left) = inl refl
  last false cause = inl refl

  pub at_last : (short : Bool) (cause : Cause) → Because cause → Because (last_cause short cause)
  at_last short cause because = from (last short cause)
    where
      from : (last_cause short cause ≡ cause) ⊎ ((cause ≡ causes.Nothing) × (last_cause short cause ≡ causes.Memory)) → Because (last_cause short cause)
      from (inl same) = subst Because (sym same) because
      from (inr memory) = subst Because (sym memory.1) tt

  -- another status than those of want of memory is that of the cause
  pub worse : (short : Bool) (cause : Cause) (written : Bool) (n : ℕ) → ¬ (n ≡ 5) → ¬ (n ≡ 7) → status_at_end written (last_cause short cause) ≡ n → status_at_end written cause ≡ n
  worse short cause written n some other is = from (last short cause)
    where
      wants : (written : Bool) → status_at_end written causes.Memory ≡ n → ⊥
      wants true so = other (sym so)
      wants false so = some (sym so)

      from : (last_cause short cause ≡ cause) ⊎ ((cause ≡ causes.Nothing) × (last_cause short cause ≡ causes.Memory)) → status_at_end written cause ≡ n
      from (inl same) = ap (status_at_end written) (sym same) ∙ is
      from (inr memory) = absurd (wants written (ap (status_at_end written) (sym memory.1) ∙ is))

  -- and one that isn't of a service that ended well stays
  stays : (short : Bool) (cause : Cause) (written : Bool) (n : ℕ) → ¬ (n ≡ 0) → ¬ (n ≡ 5) → status_at_end written cause ≡ n → status_at_end written (last_cause short cause) ≡ n
  stays short cause written n well some is = from (last short cause)
    where
      none : (written : Bool) → status_at_end written causes.Nothing ≡ n → ⊥
      none true so = well (sym so)
      none false so = some (sym so)

      from : (last_cause short cause ≡ cause) ⊎ ((cause ≡ causes.Nothing) × (last_cause short cause ≡ causes.Memory)) → status_at_end written (last_cause short cause) ≡ n
      from (inl same) = ap (status_at_end written) same ∙ is
      from (inr memory) = absurd (none written (ap (status_at_end written) (sym memory.0) ∙ is))

  pub status : (cause : Cause) (text : List ℕ) (written : Bool) → Told text written → IsStatus (status_at_end written cause) cause old new
  status cause text true wrote = inl refl
  status causes.Nothing text false wrote = inr (refl, (refl, wrote.failed))
  status (causes.Page page) text false wrote = inr (refl, (refl, wrote.failed))
  status causes.Memory text false wrote = inr (refl, (refl, wrote.failed))
  status causes.Words text false wrote = inl refl
  status (causes.Volume fault) text false wrote = inl refl
  status (causes.Disk moment) text false wrote = inl refl
  status causes.Sink text false wrote = inl refl
  status (causes.Source n) text false wrote = inl refl
  status (causes.Long n) text false wrote = inl refl
  status causes.LongTotal text false wrote = inl refl
  status causes.LongVolume text false wrote = inl refl
  status (causes.Legal n) text false wrote = inr (refl, (refl, wrote.failed))
  status (causes.BadLine line) text false wrote = inl refl
  status (causes.Illegal event) text false wrote = inl refl
  status (causes.Sound objects left) text false wrote = inr (refl, (refl, wrote.failed))

  pub status_0 : (is_inspection asked ≡ false → faults ≡ []) → (cause : Cause) (short : Bool) (text : List ℕ) (written : Bool) → Because cause → IsText asked (told cause) trail short text → Told text written → status_at_end written (last_cause short cause) ≡ 0
      → EndedWell asked ground (told cause) trail old new ⊎ Showed (told cause) old new ⊎ Made asked (told cause) old new ⊎ Audited asked (told cause) old new
      ⊎ FoundSound asked ground (told cause) old new ⊎ WasMended asked (told cause) old new
  status_0 bare causes.Nothing false text true (inl because) is_text wrote is = inl (record {
    served = because.served;
    nothing = refl;
    answered = because.answered;
    replied = because.replied;
    memory = because.memory;
    calm = because.calm;
    collected = because.collected;
    reported = subst (λ t. Wrote old.report new.report t) (whole_by (printed_line asked counts) (told causes.Nothing) text is_text) wrote;
  })
  status_0 bare causes.Nothing false text true (inr (inl because)) is_text wrote is = inr (inr (inl (record {
    format = because.1.0;
    asks = because.1.1;
    is = untold_is causes.Nothing because.0 (bare (ap is_inspection because.1.1));
    written = subst (λ t. Wrote old.report new.report t) (unprinted causes.Nothing false text because.0 is_text).1 wrote;
  })))
  status_0 bare causes.Nothing false text true (inr (inr because)) is_text wrote is = inr (inr (inr (inr (inr (record {
    volume = because.2.0;
    asks = because.2.1;
    is = untold_is causes.Nothing because.0 because.1;
    written = subst (λ t. Wrote old.report new.report t) (unprinted causes.Nothing false text because.0 is_text).1 wrote;
  })))))
  status_0 bare (causes.Legal n) false text true because is_text wrote is = inr (inr (inr (inl (record {
    events = n;
    asks = because.0.1;
    is = untold_is (causes.Legal n) because.0.0 (bare (inspects_none asked because.0.1));
    legal = because.1;
    written = subst (λ t. Wrote old.report new.report t) (unprinted (causes.Legal n) false text because.0.0 is_text).1 wrote;
  }))))
  status_0 bare (causes.Legal n) true text written because is_text wrote is = absurd (no_service (sym (unprinted (causes.Legal n) true text because.0.0 is_text).0))
  status_0 bare (causes.Sound objects left) false text true because is_text wrote is = inr (inr (inr (inr (inl (record {
    volume = because.0.2.0;
    objects = objects;
    left = left;
    asks = because.0.2.1;
    is = untold_is (causes.Sound objects left) because.0.0 because.0.1;
    sound = because.1;
    written = subst (λ t. Wrote old.report new.report t) (unprinted (causes.Sound objects left) false text because.0.0 is_text).1 wrote;
  })))))
  status_0 bare (causes.Sound objects left) true text written because is_text wrote is = absurd (no_service (sym (unprinted (causes.Sound objects left) true text because.0.0 is_text).0))
  status_0 bare (causes.Page page) false text true because is_text wrote is =
      let is_so : told (causes.Page page) ≡ untold (causes.Page page) = untold_is (causes.Page page) because.0 (bare (ap is_inspection because.1)) in
      let lines : Wrote old.report new.report (report_text (told (causes.Page page))) = subst (λ t. Wrote old.report new.report t) (unprinted (causes.Page page) false text because.0 is_text).1 wrote in
      inr (inl (record { page = page; is = is_so; written = subst (λ (r : Report). Wrote old.report new.report (report_text r)) is_so lines }))
  status_0 bare (causes.Page page) true text written because is_text wrote is = absurd (no_service (sym (unprinted (causes.Page page) true text because.0 is_text).0))
  status_0 bare causes.Nothing false text false because is_text wrote is = absurd (omega (arith, is))
  status_0 bare causes.Nothing true text true because is_text wrote is = absurd (omega (arith, is))
  status_0 bare causes.Nothing true text false because is_text wrote is = absurd (omega (arith, is))
  status_0 bare cause false text true because is_text wrote is = absurd (omega (arith, is))
  status_0 bare cause false text false because is_text wrote is = absurd (omega (arith, is))
  status_0 bare cause true text true because is_text wrote is = absurd (omega (arith, is))
  status_0 bare cause true text false because is_text wrote is = absurd (omega (arith, is))

  pub status_2 : (cause : Cause) (written : Bool) → Because cause → status_at_end written cause ≡ 2 → asked ≡ Nothing
  status_2 causes.Words written because is = because.1
  status_2 cause true because is = absurd (omega (arith, is))
  status_2 cause false because is = absurd (omega (arith, is))

  pub status_3 : (cause : Cause) (written : Bool) → Because cause → status_at_end written cause ≡ 3 → VolumeRefused ground (told cause)
  status_3 (causes.Volume fault) written because is = ((fault, refl, because.2), because.0)
  status_3 cause true because is = absurd (omega (arith, is))
  status_3 cause false because is = absurd (omega (arith, is))

  pub status_4 : (cause : Cause) (written : Bool) → Because cause → status_at_end written cause ≡ 4 → DiskFailed (told cause) old new
  status_4 (causes.Disk moment) written because is = ((moment, refl), because.0)
  status_4 cause true because is = absurd (omega (arith, is))
  status_4 cause false because is = absurd (omega (arith, is))

  pub status_5 : (cause : Cause) (short : Bool) (text : List ℕ) (written : Bool) → Because cause → Told text written → status_at_end written (last_cause short cause) ≡ 5
      → SinkFailed (told cause) old new
  status_5 causes.Sink short text written because wrote is = inl (because.0, refl, because.2)
  status_5 causes.Nothing short text false because wrote is = inr (refl, wrote.failed)
  status_5 (causes.Page page) short text false because wrote is = inr (refl, wrote.failed)
  status_5 causes.Memory short text false because wrote is = inr (refl, wrote.failed)
  status_5 (causes.Legal n) short text false because wrote is = inr (refl, wrote.failed)
  status_5 (causes.Sound objects left) short text false because wrote is = inr (refl, wrote.failed)
  status_5 cause false text true because wrote is = absurd (omega (arith, is))
  status_5 cause false text false because wrote is = absurd (omega (arith, is))
  status_5 cause true text true because wrote is = absurd (omega (arith, is))
  status_5 cause true text false because wrote is = absurd (omega (arith, is))

  pub status_6 : (cause : Cause) (written : Bool) → Because cause → status_at_end written cause ≡ 6 → SourceFailed (told cause) old new
  status_6 (causes.Source n) written because is = because.0
  status_6 cause true because is = absurd (omega (arith, is))
  status_6 cause false because is = absurd (omega (arith, is))

  pub status_7 : (cause : Cause) (text : List ℕ) (written : Bool) → Told text written → status_at_end written cause ≡ 7 → MemoryWanting false cause text old new
  status_7 causes.Memory text true wrote is = (refl, wrote)
  status_7 causes.Memory text false wrote is = absurd (omega (arith, is))
  status_7 cause text true wrote is = absurd (omega (arith, is))
  status_7 cause text false wrote is = absurd (omega (arith, is))

  pub status_8 : (cause : Cause) (written : Bool) → status_at_end written cause ≡ 8 → is_refutation cause ≡ true
  status_8 (causes.BadLine line) written is = refl
  status_8 (causes.Illegal event) written is = refl
  status_8 cause true is = absurd (omega (arith, is))
  status_8 cause false is = absurd (omega (arith, is))

  pub is_8 : (short : Bool) (cause : Cause) (written : Bool) → is_refutation cause ≡ true → status_at_end written (last_cause short cause) ≡ 8
  is_8 short (causes.BadLine line) true bad = stays short (causes.BadLine line) true 8 (λ e. cc e) (λ e. cc e) refl
  is_8 short (causes.BadLine line) false bad = stays short (causes.BadLine line) false 8 (λ e. cc e) (λ e. cc e) refl
  is_8 short (causes.Illegal event) true bad = stays short (causes.Illegal event) true 8 (λ e. cc e) (λ e. cc e) refl
  is_8 short (causes.Illegal event) false bad = stays short (causes.Illegal event) false 8 (λ e. cc e) (λ e. cc e) refl
  is_8 short cause written bad = absurd (no_service bad)

  pub is_3 : (short : Bool) (fault : VolumeFault) (written : Bool) → status_at_end written (last_cause short (causes.Volume fault)) ≡ 3
  is_3 short fault true = stays short (causes.Volume fault) true 3 (λ e. cc e) (λ e. cc e) refl
  is_3 short fault false = stays short (causes.Volume fault) false 3 (λ e. cc e) (λ e. cc e) refl

  pub is_9 : (short written : Bool) → status_at_end written (last_cause short causes.LongVolume) ≡ 9
  is_9 short true = stays short causes.LongVolume true 9 (λ e. cc e) (λ e. cc e) refl
  is_9 short false = stays short causes.LongVolume false 9 (λ e. cc e) (λ e. cc e) refl

  pub finding : (cause : Cause) → Because cause → is_finding cause ≡ true → is_inspection asked ≡ true
  finding (causes.Sound objects left) because is = ap is_inspection because.0.2.1
  finding causes.LongVolume because is = ap is_inspection because.1.1
  finding cause because is = absurd (no_service is)

  pub status_9 : (cause : Cause) (written : Bool) → Because cause → status_at_end written cause ≡ 9 → LimitPassed asked ground (told cause) old new
  status_9 (causes.Long n) written because is = (because.0, because.1)
  status_9 causes.LongTotal written because is = (because.0, because.1)
  status_9 causes.LongVolume written because is = (because.0, (ap is_inspection because.1.1, because.2))
  status_9 cause true because is = absurd (omega (arith, is))
  status_9 cause false because is = absurd (omega (arith, is))

  over : (cause : Cause) (written : Bool) → Because cause → is_service asked ≡ true → (scripts : List (List ℕ)) → HadLeft old scripts → ¬ (AreWithinLimits scripts)
      → (status_at_end written cause ≡ 9) ⊎ (cause ≡ causes.Memory) ⊎ (status_at_end written cause ≡ 6)
  over causes.Nothing written (inl because) is scripts had past = absurd (past (because.within scripts had))
  over causes.Nothing written (inr (inl because)) is scripts had past = absurd (past (because.2 scripts had))
  over causes.Nothing written (inr (inr because)) is scripts had past = absurd (no_service (rw because.2.1 at is))
  over (causes.Sound objects left) written because is scripts had past = absurd (no_service (rw because.0.2.1 at is))
  over causes.LongVolume written because is scripts had past = absurd (no_service (rw because.1.1 at is))
  over (causes.Volume fault) written because is scripts had past = absurd (past (because.1 scripts had))
  over (causes.Disk moment) written because is scripts had past = absurd (past (because.1 scripts had))
  over (causes.Page page) written because is scripts had past = absurd (past (because.2 scripts had))
  over causes.Words written because is scripts had past = absurd (past (because.2 scripts had))
  over causes.Sink written because is scripts had past = absurd (past (because.1 scripts had))
  over causes.Memory written because is scripts had past = inr (inl refl)
  over (causes.Source n) true because is scripts had past = inr (inr refl)
  over (causes.Source n) false because is scripts had past = inr (inr refl)
  over (causes.Long n) true because is scripts had past = inl refl
  over (causes.Long n) false because is scripts had past = inl refl
  over causes.LongTotal true because is scripts had past = inl refl
  over causes.LongTotal false because is scripts had past = inl refl
  over (causes.Legal n) written because is scripts had past = absurd (not_both asked because.0.1 is)
  over (causes.BadLine line) written because is scripts had past = absurd (not_both asked because.1 is)
  over (causes.Illegal event) written because is scripts had past = absurd (not_both asked because.1 is)

  pub over_last : (short : Bool) (cause : Cause) (written : Bool) → Because cause → is_service asked ≡ true → (scripts : List (List ℕ)) → HadLeft old scripts → ¬ (AreWithinLimits scripts)
      → (status_at_end written (last_cause short cause) ≡ 9) ⊎ (cause ≡ causes.Memory) ⊎ (status_at_end written (last_cause short cause) ≡ 6)
  over_last short cause written because is scripts had past = from (over cause written because is scripts had past)
    where
      from : (status_at_end written cause ≡ 9) ⊎ (cause ≡ causes.Memory) ⊎ (status_at_end written cause ≡ 6) → (status_at_end written (last_cause short cause) ≡ 9) ⊎ (cause ≡ causes.Memory) ⊎ (status_at_end written (last_cause short cause) ≡ 6)
      from (inl is) = inl (stays short cause written 9 (λ e. cc e) (λ e. cc e) is)
      from (inr (inl is)) = inr (inl is)
      from (inr (inr is)) = inr (inr (stays short cause written 6 (λ e. cc e) (λ e. cc e) is))

  pub complete : (cause : Cause) (text : List ℕ) (written : Bool) → Because cause → Told text written → is_service asked ≡ true → (scripts : List (List ℕ)) → HadLeft old scripts → AreWithinLimits scripts
      → NoCountRose old new → (graph : Graph) → ground.reads graph → (status_at_end written cause ≡ 0) ⊎ (status_at_end written cause ≡ 7)
  complete causes.Nothing text true because wrote is scripts had within quiet graph reads = inl refl
  complete causes.Memory text true because wrote is scripts had within quiet graph reads = inr refl
  complete causes.Nothing text false because wrote is scripts had within quiet graph reads = absurd (quiet.report wrote.failed)
  complete causes.Memory text false because wrote is scripts had within quiet graph reads = absurd (quiet.report wrote.failed)
  complete (causes.Volume fault) text written because wrote is scripts had within quiet graph reads = absurd (because.0 graph reads)
  complete (causes.Disk moment) text written because wrote is scripts had within quiet graph reads = absurd (quiet.disk because.0)
  complete causes.Words text written because wrote is scripts had within quiet graph reads = absurd (no_service (rw because.1 at is))
  complete (causes.Page page) text written because wrote is scripts had within quiet graph reads = absurd (no_service (rw because.1 at is))
  complete causes.Sink text written because wrote is scripts had within quiet graph reads = absurd (quiet.sinks because.2)
  complete (causes.Source n) text written because wrote is scripts had within quiet graph reads = absurd (quiet.sources because.1)
  complete (causes.Long n) text written because wrote is scripts had within quiet graph reads = absurd (because.2 is scripts had within)
  complete causes.LongVolume text written because wrote is scripts had within quiet graph reads = absurd (no_service (rw because.1.1 at is))
  complete (causes.Sound objects left) text written because wrote is scripts had within quiet graph reads = absurd (no_service (rw because.0.2.1 at is))
  complete causes.LongTotal text written because wrote is scripts had within quiet graph reads = absurd (because.2 is scripts had within)
  complete (causes.Legal n) text written because wrote is scripts had within quiet graph reads = absurd (not_both asked because.0.1 is)
  complete (causes.BadLine line) text written because wrote is scripts had within quiet graph reads = absurd (not_both asked because.1 is)
  complete (causes.Illegal event) text written because wrote is scripts had within quiet graph reads = absurd (not_both asked because.1 is)

  -- of a volume that is known to be no sound one
  pub refused : (cause : Cause) (text : List ℕ) (written : Bool) → Because cause → Told text written → is_service asked ≡ true → (scripts : List (List ℕ)) → HadLeft old scripts → AreWithinLimits scripts
      → NoCountRose old new → ground.unsound → (status_at_end written cause ≡ 3) ⊎ (status_at_end written cause ≡ 7)
  refused causes.Nothing text written (inl because) wrote is scripts had within quiet unsound = absurd (because.sound unsound)
  refused causes.Nothing text written (inr (inl because)) wrote is scripts had within quiet unsound = absurd (no_service (rw because.1.1 at is))
  refused causes.Nothing text written (inr (inr because)) wrote is scripts had within quiet unsound = absurd (no_service (rw because.2.1 at is))
  refused causes.LongVolume text written because wrote is scripts had within quiet unsound = absurd (no_service (rw because.1.1 at is))
  refused (causes.Sound objects left) text written because wrote is scripts had within quiet unsound = absurd (no_service (rw because.0.2.1 at is))
  refused (causes.Page page) text written because wrote is scripts had within quiet unsound = absurd (no_service (rw because.1 at is))
  refused causes.Words text written because wrote is scripts had within quiet unsound = absurd (no_service (rw because.1 at is))
  refused (causes.Volume fault) text true because wrote is scripts had within quiet unsound = inl refl
  refused (causes.Volume fault) text false because wrote is scripts had within quiet unsound = inl refl
  refused (causes.Disk moment) text written because wrote is scripts had within quiet unsound = absurd (quiet.disk because.0)
  refused causes.Sink text written because wrote is scripts had within quiet unsound = absurd (quiet.sinks because.2)
  refused (causes.Source n) text written because wrote is scripts had within quiet unsound = absurd (quiet.sources because.1)
  refused causes.Memory text true because wrote is scripts had within quiet unsound = inr refl
  refused causes.Memory text false because wrote is scripts had within quiet unsound = absurd (quiet.report wrote.failed)
  refused (causes.Long n) text written because wrote is scripts had within quiet unsound = absurd (because.2 is scripts had within)
  refused causes.LongTotal text written because wrote is scripts had within quiet unsound = absurd (because.2 is scripts had within)
  refused (causes.Legal n) text written because wrote is scripts had within quiet unsound = absurd (not_both asked because.0.1 is)
  refused (causes.BadLine line) text written because wrote is scripts had within quiet unsound = absurd (not_both asked because.1 is)
  refused (causes.Illegal event) text written because wrote is scripts had within quiet unsound = absurd (not_both asked because.1 is)

-- a report whose count didn't rise was written whole
pub taken : (old new : Outside) (text : List ℕ) (written : Bool) → Replied old.report new.report text written → NoCountRose old new → written ≡ true
taken old new text true wrote quiet = refl
taken old new text false wrote quiet = absurd (quiet.report wrote.failed)

pub shown : (page : Page) (old new : Outside) (text : List ℕ) (written : Bool) → Replied old.report new.report text written → NoCountRose old new → status_at_end written (causes.Page page) ≡ 0
shown page old new text true wrote quiet = refl
shown page old new text false wrote quiet = absurd (quiet.report wrote.failed)

pub formatted : (cause : Cause) (old new : Outside) (text : List ℕ) (written : Bool) → TellsMade cause old.disk new.disk → Replied old.report new.report text written
    → NoCountRose old new → status_at_end written cause ≡ 0
formatted cause old new text true (inl is) wrote quiet = rw is refl
formatted cause old new text false (inl is) wrote quiet = absurd (quiet.report wrote.failed)
formatted cause old new text written (inr failed) wrote quiet = absurd (quiet.disk failed.1)

pub is_2 : (written : Bool) → status_at_end written causes.Words ≡ 2
is_2 true = refl
is_2 false = refl
