-- What `top` says of a run that served nothing.
use Rattle.std.proofs.Common.{◌≡◌, ◌↔◌, inl, inr, ℕ, zero, suc, ◌<◌, ◌≤◌, Bool, true, false, List, [], ◌∷◌, length, slice_get, Option, Some, None, refl, sym, ap, ◌∙◌, subst, arith, get_or}
use Rattle.cfs_serve.proofs.Cited.{AreWithinLimits, Asked, Audits, Cause, Did, EachFrom, Ending, Event, Finds, Format, Formats, Ground, Had, HasPlaces, Intake, IsUnservedCause, IsFirstRead, IsLegal, Nothing, Outside, Page, Replied, Report, Rose, RoseIn, Damage, IfInspects, Inspection, Inspects, IsInspected, Service, Shows, SomeRose, Supply, TellsMade, begins_in, collections_of, faults_of_sources, is_audit, is_inspection, is_service, is_verdict, makes_volume, length-map, untold, most_script, most_trail, not_begun, nothing, opening, printed_replies, slice_get-get_or, slice_index_or}
use Rattle.cfs_serve.specs.declared.report.Cause.TheVariants as causes
use Rattle.cfs_serve.specs.Words.{Converses, Dirs, IfServes, Serves, Spins, is_format}
use Rattle.cfs_serve.proofs.Lists.{each_of, heads, never_none, one_rose}
use Rattle.cfs_serve.proofs.Logs.{some_same}
use Rattle.cfs_serve.proofs.Scripted.{had_count, within}
use Rattle.cfs_serve.proofs.Because.{Because}
use Rattle.cfs_serve.proofs.Endings.{shown}

-- what a run did and told, and what its cause shows
abbrev pub Facts : Asked → Ground → (old new : Outside) → Report → Ending → List Event → Type 0
Facts asked ground old new told ending trail =
    Did asked ground old new told ending trail × Because asked ground old new told.counts told.faults trail told.cause

abbrev pub places : Option ℕ → List Supply → List Intake → Intake → Outside
places disk sources sinks report = record { disk = disk; sources = sources; sinks = sinks; report = report }

pub clash : true ≡ false → ⊥
clash e = cc

pub clash-sym : false ≡ true → ⊥
clash-sym e = cc

none_begins : (n : ℕ) → begins_in [] ≤ n
none_begins n = let none : begins_in [] ≡ 0 = refl in omega (arith, none)

never_nil : {A : Type 0} {x : A} {xs : List A} → x ∷ xs ≡ [] → ⊥
never_nil e = cc

no_scripts : (scripts : List (List ℕ)) → Had [] scripts → AreWithinLimits scripts
no_scripts [] had = ((λ k d below. absurd (omega (arith, below))), omega arith)
no_scripts (left ∷ rest) had = absurd (never_nil (sym had))

-- ---- no service was asked for

no_serves : (asked : Asked) (holds : Service → Type 0) → is_service asked ≡ false → IfServes asked holds
no_serves (Shows page) holds none = tt
no_serves (Formats format) holds none = tt
no_serves (Audits trail) holds none = tt
no_serves (Inspects inspection) holds none = tt
no_serves (Spins spin) holds none = tt
no_serves (Serves service) holds none = absurd (clash none)
no_serves (Dirs names) holds none = tt
no_serves (Converses talk) holds none = tt
no_serves Nothing holds none = tt

module _ (asked : Asked) (ground : Ground) (disk disk_after : Option ℕ) (sources sources_after : List Supply) (report report_after : Intake) (cause : Cause) (faults : List Damage) where
  unasked : is_service asked ≡ false → HasPlaces asked (length sources_after) 0 → ((cause ≡ causes.Words) ↔ (asked ≡ Nothing)) → ((page : Page) → (cause ≡ causes.Page page) ↔ (asked ≡ Shows page))
      → (makes_volume asked ≡ false → ¬ (cause ≡ causes.Nothing)) → (is_format asked ≡ true → TellsMade cause disk disk_after)
      → (is_audit asked ≡ true → EachFrom (λ _ source after. Finds cause source after) 0 sources sources_after) → (is_verdict cause ≡ true → is_audit asked ≡ true)
      → IfInspects asked (λ i. IsInspected ground i.mends (RoseIn disk disk_after) cause faults) → (is_inspection asked ≡ false → faults ≡ [])
      → Did asked ground (places disk sources [] report) (places disk_after sources_after [] report_after) (record { counts = None; faults = faults; cause = cause }) not_begun []
  unasked none places_are words page told made audited verdict inspected bare = record {
    places = places_are;
    unserved = λ none. (refl, refl, refl);
    unasked = λ none. refl;
    leaves = λ served. absurd (clash-sym served);
    sessions = λ none. refl;
    others = λ k past. refl;
    on = no_serves asked _ none;
    sound = λ served. absurd (clash-sym served);
    took = λ k. true;
    fell = false;
    falls = λ k. refl;
    stands = λ none. refl;
    turns = no_serves asked _ none;
    within = λ is served. absurd (clash-sym served);
    replied = tt;
    broken = λ served. absurd (clash-sym served);
    words = words;
    page = page;
    cause = λ none. told;
    made = made;
    audited = audited;
    verdict = verdict;
    inspected = inspected;
    bare = bare;
    ends = λ served. absurd (clash-sym served);
    spoiled = λ served. absurd (clash-sym served);
    counts = tt;
    last = tt;
    few = none_begins (collections_of asked);
    collected = λ served. absurd (clash-sym served);
    wanting = λ wants. absurd (cc wants);
  }

pub of_nothing : (ground : Ground) (disk disk_after : Option ℕ) (report report_after : Intake) → Facts Nothing ground (places disk [] [] report) (places disk_after [] [] report_after) (untold causes.Words) not_begun []
of_nothing ground disk disk_after report report_after = (
  unasked Nothing ground disk disk_after [] [] report report_after causes.Words [] refl (refl, refl) ((λ is. refl), (λ is. refl)) (λ page. ((λ is. cc), (λ is. cc))) (λ no e. cc) (λ no. absurd (clash-sym no)) (λ no. absurd (clash-sym no)) (λ no. absurd (clash-sym no)) tt (λ no. refl),
  (refl, refl, no_scripts),
)

pub of_page : (ground : Ground) (shown : Page) (disk disk_after : Option ℕ) (report report_after : Intake)
    → Facts (Shows shown) ground (places disk [] [] report) (places disk_after [] [] report_after) (untold (causes.Page shown)) not_begun []
of_page ground shown disk disk_after report report_after = (
  unasked (Shows shown) ground disk disk_after [] [] report report_after (causes.Page shown) [] refl (refl, refl) ((λ is. cc), (λ is. cc)) (λ page. ((λ is. cc), (λ is. cc))) (λ no e. cc) (λ no. absurd (clash-sym no)) (λ no. absurd (clash-sym no)) (λ no. absurd (clash-sym no)) tt (λ no. refl),
  (refl, refl, no_scripts),
)

-- ---- a volume was asked for

module _ (ground : Ground) (format : Format) (disk disk_after : Option ℕ) (report report_after : Intake) where
  abbrev Volumed : Cause → Type 0
  Volumed cause = Facts (Formats format) ground (places disk [] [] report) (places disk_after [] [] report_after) (untold cause) not_begun []

  volumed : (cause : Cause) → ¬ (cause ≡ causes.Words) → ((page : Page) → ¬ (cause ≡ causes.Page page)) → TellsMade cause disk disk_after → ¬ (is_verdict cause ≡ true)
      → Because (Formats format) ground (places disk [] [] report) (places disk_after [] [] report_after) None [] [] cause → Volumed cause
  volumed cause other paged told plain because = (
    unasked (Formats format) ground disk disk_after [] [] report report_after cause [] refl (refl, refl) ((λ is. absurd (other is)), (λ is. cc)) (λ page. ((λ is. absurd (paged page is)), (λ is. cc))) (λ no. absurd (clash no)) (λ makes. told) (λ no. absurd (clash-sym no)) (λ is. absurd (plain is)) tt (λ no. refl),
    because,
  )

  pub of_format : (cause : Cause) → TellsMade cause disk disk_after → Volumed cause
  of_format cause (inl is) = rw is (volumed causes.Nothing (λ e. cc) (λ page e. cc) (inl refl) clash-sym (inr (inl (refl, (format, refl), no_scripts))))
  of_format cause (inr failed) = rw failed.0 (volumed (causes.Disk None) (λ e. cc) (λ page e. cc) (inr (refl, failed.1)) clash-sym (failed.1, no_scripts))

-- ---- an inspection was asked for

module _ (ground : Ground) (inspection : Inspection) (disk disk_after : Option ℕ) (report report_after : Intake) (faults : List Damage) where
  abbrev Inspected : Cause → Type 0
  Inspected cause = Facts (Inspects inspection) ground (places disk [] [] report) (places disk_after [] [] report_after) (record { counts = None; faults = faults; cause = cause }) not_begun []

  inspected : (cause : Cause) → ¬ (cause ≡ causes.Words) → ((page : Page) → ¬ (cause ≡ causes.Page page)) → (inspection.mends ≡ false → ¬ (cause ≡ causes.Nothing)) → ¬ (is_verdict cause ≡ true)
      → IsInspected ground inspection.mends (RoseIn disk disk_after) cause faults
      → Because (Inspects inspection) ground (places disk [] [] report) (places disk_after [] [] report_after) None faults [] cause → Inspected cause
  inspected cause other paged told plain is because = (
    unasked (Inspects inspection) ground disk disk_after [] [] report report_after cause faults refl (refl, refl) ((λ is. absurd (other is)), (λ is. cc)) (λ page. ((λ is. absurd (paged page is)), (λ is. cc))) told (λ no. absurd (clash-sym no)) (λ no. absurd (clash-sym no)) (λ is. absurd (plain is)) is (λ no. absurd (clash no)),
    because,
  )

  asks : (mends : Bool) → inspection.mends ≡ mends → Inspects inspection ≡ Inspects (record { volume = inspection.volume; mends = mends })
  asks mends is = ap (λ m. Inspects (record { volume = inspection.volume; mends = m })) is

  pub of_inspection : (cause : Cause) → IsInspected ground inspection.mends (RoseIn disk disk_after) cause faults → Inspected cause
  of_inspection (causes.Sound objects left) is = inspected (causes.Sound objects left) (λ e. cc) (λ page e. cc) (λ no e. cc) clash-sym is ((refl, is.tells.1, (inspection.volume, asks false is.tells.0)), is.tells.2)
  of_inspection causes.Nothing is =
      inspected causes.Nothing (λ e. cc) (λ page e. cc) (λ no e. clash (sym is.tells.0 ∙ no)) clash-sym is (inr (inr (refl, is.tells.1, (inspection.volume, asks true is.tells.0))))
  of_inspection (causes.Volume fault) is = inspected (causes.Volume fault) (λ e. cc) (λ page e. cc) (λ no e. cc) clash-sym is (is.tells.0, no_scripts, (λ none. is.tells.1))
  of_inspection (causes.Disk moment) is = inspected (causes.Disk moment) (λ e. cc) (λ page e. cc) (λ no e. cc) clash-sym is (is.tells.1, no_scripts)
  of_inspection causes.Memory is = inspected causes.Memory (λ e. cc) (λ page e. cc) (λ no e. cc) clash-sym is tt
  of_inspection causes.LongVolume is = inspected causes.LongVolume (λ e. cc) (λ page e. cc) (λ no e. cc) clash-sym is (refl, (inspection, refl), is.long.0 refl)
  of_inspection cause is = absurd is.tells

-- ---- an audit was asked for

module _ (ground : Ground) (trail : List ℕ) (disk disk_after : Option ℕ) (source after : Supply) (report report_after : Intake) where
  abbrev old_one : Outside
  old_one = places disk (source ∷ []) [] report

  abbrev new_one : Outside
  new_one = places disk_after (after ∷ []) [] report_after

  abbrev AuditedSo : Cause → Type 0
  AuditedSo cause = Facts (Audits trail) ground old_one new_one (untold cause) not_begun []

  abbrev Why : Cause → Type 0
  Why cause = Because (Audits trail) ground old_one new_one None [] [] cause

  audited : (cause : Cause) → ¬ (cause ≡ causes.Words) → ((page : Page) → ¬ (cause ≡ causes.Page page)) → ¬ (cause ≡ causes.Nothing) → Finds cause source after → Why cause → AuditedSo cause
  audited cause other paged told found because = (
    unasked (Audits trail) ground disk disk_after (source ∷ []) (after ∷ []) report report_after cause [] refl (refl, refl) ((λ is. absurd (other is)), (λ is. cc)) (λ page. ((λ is. absurd (paged page is)), (λ is. cc))) (λ no. told) (λ no. absurd (clash-sym no)) (λ audits. (found, tt)) (λ is. refl) tt (λ no. refl),
    because,
  )

  -- there is no source before it, and none behind
  only : IsFirstRead (source ∷ []) (after ∷ []) 0
  only = record {
    scripts = [];
    before = record { count = omega arith; each = λ k s script there here. absurd (never_none here) };
    count = refl;
    behind = past;
  }
    where
      past : (k : ℕ) → 0 < k → slice_get (after ∷ []) k ≡ slice_get (source ∷ []) k
      past zero below = absurd (omega (arith, below))
      past (suc k) below = refl

  long : ((left : List ℕ) → source.left ≡ Some left → most_trail < length left) → (scripts : List (List ℕ)) → Had (source ∷ []) scripts → most_trail < length (slice_index_or scripts 0 [])
  long far [] had = absurd (never_nil had)
  long far (script ∷ scripts) had = far script (heads had)

  pub of_audit : (cause : Cause) → Finds cause source after → AuditedSo cause
  of_audit (causes.Source i) found = subst (λ j. AuditedSo (causes.Source j)) (sym found.0)
      (audited (causes.Source 0) (λ e. cc) (λ page e. cc) (λ e. cc) (refl, found.1) ((0, refl, omega arith, found.1, only), inl found.1))
  of_audit (causes.Long i) found = subst (λ j. AuditedSo (causes.Long j)) (sym found.0)
      (audited (causes.Long 0) (λ e. cc) (λ page e. cc) (λ e. cc) (refl, found.1) (refl, (omega arith, long found.1, only), (λ no. absurd (clash-sym no))))
  of_audit causes.Memory found = audited causes.Memory (λ e. cc) (λ page e. cc) (λ e. cc) tt tt
  of_audit (causes.Legal n) found = audited (causes.Legal n) (λ e. cc) (λ page e. cc) (λ e. cc) found ((refl, refl), ((λ left is. subst (λ text. IsLegal text n) (found.1.whole left is) found.2), tt))
  of_audit (causes.BadLine line) found = audited (causes.BadLine line) (λ e. cc) (λ page e. cc) (λ e. cc) found (refl, refl)
  of_audit (causes.Illegal event) found = audited (causes.Illegal event) (λ e. cc) (λ page e. cc) (λ e. cc) found (refl, refl)
  of_audit cause found = absurd found.2

-- ---- nothing was served

module _ (service : Service) (ground : Ground) (disk disk_after : Option ℕ) (sources sources_after : List Supply) (sinks : List Intake) (report report_after : Intake)
    (given : HasPlaces (Serves service) (length sources) (length sinks)) (count : length sources_after ≡ length sources) where
  abbrev old : Outside
  old = places disk sources sinks report

  abbrev new : Outside
  new = places disk_after sources_after sinks report_after

  abbrev Unserved : Cause → Type 0
  Unserved cause = Facts (Serves service) ground old new (untold cause) not_begun []

  unserved : (cause : Cause) → ¬ (cause ≡ causes.Words) → ((page : Page) → ¬ (cause ≡ causes.Page page)) → ¬ (cause ≡ causes.Nothing) → ¬ (is_verdict cause ≡ true)
      → Because (Serves service) ground old new None [] [] cause → Unserved cause
  unserved cause other paged told plain because = (
    record {
      places = (count ∙ given.0, given.1);
      unserved = λ none. (refl, refl, refl);
      unasked = λ no. absurd (clash no);
      leaves = λ served. absurd (clash-sym served);
      sessions = λ none. refl;
      others = λ k past. refl;
      on = λ graph reads. record {
        last = opening graph;
        legal = refl;
        exact = λ some. tt;
        calm = λ never. refl;
        undamaged = (refl, refl);
        stop = λ served. absurd (clash-sym served);
        counted = tt;
        rests = λ runs all. refl;
        whole = λ served. absurd (clash-sym served);
      };
      sound = λ served. absurd (clash-sym served);
      took = λ k. true;
      fell = false;
      falls = λ k. refl;
      stands = λ none. refl;
      turns = λ served. absurd (clash-sym served);
      within = λ is served. absurd (clash-sym served);
      replied = each_of (λ session sink after. Replied sink after (printed_replies session []) true) sinks sinks refl
          (λ k sink after at there. subst (λ x. Replied sink x (printed_replies k []) true) (some_same _ _ (sym at ∙ there)) (nothing sink));
      broken = λ served. absurd (clash-sym served);
      words = ((λ is. absurd (other is)), (λ is. cc));
      page = λ page. ((λ is. absurd (paged page is)), (λ is. cc));
      cause = λ none no. told;
      made = λ no. absurd (clash-sym no);
      audited = λ no. absurd (clash-sym no);
      verdict = λ is. absurd (plain is);
      inspected = tt;
      bare = λ no. refl;
      ends = λ served. absurd (clash-sym served);
      spoiled = λ served. absurd (clash-sym served);
      counts = tt;
      last = tt;
      few = none_begins service.collections;
      collected = λ served. absurd (clash-sym served);
      wanting = λ wants. absurd (cc wants);
    },
    because,
  )

  -- one of the counts of faults rose
  source_rose : (n : ℕ) → n < length sources → Rose (get_or (faults_of_sources sources) n 0) (get_or (faults_of_sources sources_after) n 0) → SomeRose (faults_of_sources sources) (faults_of_sources sources_after)
  source_rose n below rose = one_rose (faults_of_sources sources) (faults_of_sources sources_after) n _ _
      (slice_get-get_or (faults_of_sources sources) n 0 (omega (arith, below, length-map sources (λ (s : Supply). s.faults))))
      (slice_get-get_or (faults_of_sources sources_after) n 0 (omega (arith, below, count, length-map sources_after (λ (s : Supply). s.faults)))) rose

  pub of_none : (cause : Cause) → IsUnservedCause ground (RoseIn disk disk_after) sources sources_after cause → Unserved cause
  of_none (causes.Source n) is = unserved (causes.Source n) (λ e. cc) (λ page e. cc) (λ e. cc) clash-sym ((n, refl, is.0, is.1, is.2), source_rose n is.0 is.1)
  of_none (causes.Long n) is = unserved (causes.Long n) (λ e. cc) (λ page e. cc) (λ e. cc) clash-sym (
    refl,
    is,
    (λ serves scripts had few.
        let long : most_script < length (slice_index_or scripts n []) = is.1 scripts had in
        let least : length (slice_index_or scripts n []) ≤ most_script = few.0 n [] (omega (arith, is.0, had_count sources scripts had)) in
        omega (arith, long, least)),
  )
  of_none causes.LongTotal is = unserved causes.LongTotal (λ e. cc) (λ page e. cc) (λ e. cc) clash-sym (
    refl,
    is,
    (λ serves scripts had few. let over = is scripts had in omega (arith, over.1, few.1)),
  )
  of_none causes.Memory is = unserved causes.Memory (λ e. cc) (λ page e. cc) (λ e. cc) clash-sym tt
  of_none (causes.Volume fault) is = unserved (causes.Volume fault) (λ e. cc) (λ page e. cc) (λ e. cc) clash-sym (is.0, within sources is.1.0 is.1.1, (λ none. is.2))
  of_none (causes.Disk moment) is = unserved (causes.Disk moment) (λ e. cc) (λ page e. cc) (λ e. cc) clash-sym (is.1, within sources is.2.0 is.2.1)
  of_none causes.Nothing is = absurd is
  of_none (causes.Page page) is = absurd is
  of_none causes.Words is = absurd is
  of_none causes.Sink is = absurd is
  of_none (causes.Legal n) is = absurd is
  of_none (causes.BadLine line) is = absurd is
  of_none (causes.Illegal event) is = absurd is
  of_none causes.LongVolume is = absurd is
  of_none (causes.Sound objects left) is = absurd is
