-- What `top` says of a spin is what it says of its service; of all else it is said as it stands.
use Rattle.std.proofs.Common.{◌≡◌, ◌⊎◌, inl, inr, ℕ, zero, suc, ◌+◌, ◌*◌, ◌<◌, ◌≤◌, List, [], length, slice_get, Option, Some, refl, ap, subst, ◌∙◌, arith}
use Rattle.cfs_serve.proofs.Cited.{AreShort, AreWithinLimits, Asked, AsksServer, Audits, Ending, Event, Formats, Ghosts, HasPlaces, Inspects, IsWholeRun, NoCountRose, Nothing, Opening, Outside, Report, Rose, Said, Says, Shows, Spin, Spins, drawn_scripts, status_at_end, first_line, get_or_from_slice_get, ground_of, last_cause, lines_in, most_script, opened, request_lines, script, service_of, slice_get_within, turns_in, within_spin}
use Rattle.cfs_serve.specs.Traced.{IsWritten}
use Rattle.cfs_serve.specs.Words.{Converses, Dirs, Serves}
use Rattle.cfs_serve.specs.declared.traced.Written.{Written}
use Rattle.cfs_serve.proofs.NamesSaid.{said_of_names}
use Rattle.cfs_serve.proofs.TalkSaid.{said_of_talk}
use Rattle.cfs_serve.proofs.Saying.{said}

-- what is known of scripts
abbrev pub Lines : Type 0
Lines = (seed session count : ℕ) → session < 4 → length (request_lines (script seed session count)) ≡ count + 1

abbrev pub Short : Type 0
Short = (seed session count : ℕ) → session < 4 → length (script seed session count) ≤ 64 * (count + 1)

module _ (lines : Lines) (short : Short) where
  each_short : (seed count : ℕ) → count ≤ 5370 → AreShort (drawn_scripts seed count)
  each_short seed count few zero d below = let is = short seed 0 count (omega arith) in omega (arith, is, few)
  each_short seed count few (suc zero) d below = let is = short seed 1 count (omega arith) in omega (arith, is, few)
  each_short seed count few (suc (suc zero)) d below = let is = short seed 2 count (omega arith) in omega (arith, is, few)
  each_short seed count few (suc (suc (suc zero))) d below = let is = short seed 3 count (omega arith) in omega (arith, is, few)
  each_short seed count few (suc (suc (suc (suc k)))) d below = absurd (omega (arith, below))

  pub drawn_lines : (seed count : ℕ) → lines_in (drawn_scripts seed count) ≡ 4 * (count + 1)
  drawn_lines seed count =
      let first = lines seed 0 count (omega arith) in
      let second = lines seed 1 count (omega arith) in
      let third = lines seed 2 count (omega arith) in
      let fourth = lines seed 3 count (omega arith) in
      omega (arith, first, second, third, fourth)

  drawn_within : (seed count : ℕ) → count ≤ 5370 → AreWithinLimits (drawn_scripts seed count)
  drawn_within seed count few = (each_short seed count few, (let all = drawn_lines seed count in omega (arith, all, few)))

  pub few_bytes : (seed count : ℕ) → count ≤ 5370 → (k : ℕ) (text : List ℕ) → slice_get (drawn_scripts seed count) k ≡ Some text → length text ≤ most_script
  few_bytes seed count few k text here =
      subst (λ t. length t ≤ most_script) (get_or_from_slice_get (drawn_scripts seed count) k text [] here) (each_short seed count few k [] (slice_get_within (drawn_scripts seed count) k text here))

  never : Rose 0 0 → ⊥
  never rose = absurd (omega (arith, rose))

  none_of_four : Rose 0 0 ⊎ (Rose 0 0 ⊎ (Rose 0 0 ⊎ (Rose 0 0 ⊎ ⊥))) → ⊥
  none_of_four (inl rose) = never rose
  none_of_four (inr (inl rose)) = never rose
  none_of_four (inr (inr (inl rose))) = never rose
  none_of_four (inr (inr (inr (inl rose)))) = never rose
  none_of_four (inr (inr (inr (inr none)))) = none

  quiet_within : (spin : Spin) (old new : Outside) → NoCountRose old new → NoCountRose (within_spin spin old) (within_spin spin new)
  quiet_within spin old new quiet = record { disk = quiet.disk; sources = none_of_four; sinks = none_of_four; report = quiet.report }

  module _ {D : Type 0} (g : Ghosts D) (disk : Option D) (old new : Outside) (told : Report) (status : ℕ) (ending : Ending) (trail : List Event) (trace : Option Opening) (written : Written)
      (writes : (b : Asked) → trace ≡ first_line b → IsWritten b told trail old.report new.report written) (is : status ≡ status_at_end written.whole (last_cause written.short told.cause)) where
    whole : (asked : Asked) → trace ≡ first_line asked → AsksServer asked (ground_of g asked disk) (record { disk = old.disk; sources = old.sources; sinks = old.sinks }) (record { disk = new.disk; sources = new.sources; sinks = new.sinks }) told ending trail
        → IsWholeRun asked (ground_of g asked disk) (record { disk = old.disk; sources = old.sources; sinks = old.sinks }) (record { disk = new.disk; sources = new.sources; sinks = new.sinks }) old.report new.report told status ending trail
    whole asked traced run = let wrote = writes asked traced in record {
      run = run;
      short = written.short;
      text = wrote.text;
      is_text = wrote.is;
      written = written.whole;
      reported = wrote.taken;
      said = is;
    }

    -- each line has its turn
    abbrev Has : Spin → ℕ → Type 0
    Has spin session = length (turns_in session trail) ≡ length (request_lines (script spin.seed session spin.count))

    each : (spin : Spin) (session : ℕ) → session < 4 → Has spin 0 → Has spin 1 → Has spin 2 → Has spin 3 → length (turns_in session trail) ≡ spin.count + 1
    each spin zero below a b c d = a ∙ lines spin.seed 0 spin.count below
    each spin (suc zero) below a b c d = b ∙ lines spin.seed 1 spin.count below
    each spin (suc (suc zero)) below a b c d = c ∙ lines spin.seed 2 spin.count below
    each spin (suc (suc (suc zero))) below a b c d = d ∙ lines spin.seed 3 spin.count below
    each spin (suc (suc (suc (suc k)))) below a b c d = absurd (omega (arith, below))

    pub says : (asked : Asked) → trace ≡ first_line asked → HasPlaces asked (length old.sources) (length old.sinks)
        → AsksServer asked (ground_of g asked disk) (record { disk = old.disk; sources = old.sources; sinks = old.sinks }) (record { disk = new.disk; sources = new.sources; sinks = new.sinks }) told ending trail
        → Says asked (ground_of g asked disk) old new told status ending trail
    says (Shows page) traced given run = said (Shows page) (ground_of g (Shows page) disk) old new told status ending trail tt given (whole (Shows page) traced run)
    says (Formats format) traced given run = said (Formats format) (ground_of g (Formats format) disk) old new told status ending trail tt given (whole (Formats format) traced run)
    says (Audits text) traced given run = said (Audits text) (ground_of g (Audits text) disk) old new told status ending trail tt given (whole (Audits text) traced run)
    says (Inspects inspection) traced given run =
        said (Inspects inspection) (ground_of g (Inspects inspection) disk) old new told status ending trail tt given (whole (Inspects inspection) traced run)
    says (Serves service) traced given run = said (Serves service) (ground_of g (Serves service) disk) old new told status ending trail tt given (whole (Serves service) traced run)
    says (Dirs names) traced given run = said_of_names names (ground_of g (Dirs names) disk) old new told status ending trail given (whole (Dirs names) traced run)
    says (Converses talk) traced given run = said_of_talk talk (ground_of g (Converses talk) disk) old new told status ending trail given (whole (Converses talk) traced run)
    says Nothing traced given run = said Nothing (ground_of g Nothing disk) old new told status ending trail tt given (whole Nothing traced run)
    says (Spins spin) traced given run =
        let service = Serves (service_of spin) in
        let wrote = writes service traced in
        let few : spin.count ≤ 5370 = omega (arith, run.size, run.fits) in
        let s : Said service (ground_of g (Spins spin) disk) (within_spin spin old) (within_spin spin new) told status ending trail =
        said service (ground_of g (Spins spin) disk) (within_spin spin old) (within_spin spin new) told status ending trail tt (refl, refl) (record {
          run = run.asks;
          short = written.short;
          text = wrote.text;
          is_text = wrote.is;
          written = written.whole;
          reported = wrote.taken;
          said = is;
        }) in
        record {
          places = (run.sources, run.sinks);
          said = s;
          answered = λ well. elim (s.status_0 well) [
            | inl ended_well ↦ (λ session below. each spin session below (ended_well.answered.0 (script spin.seed 0 spin.count) refl) (ended_well.answered.1.0 (script spin.seed 1 spin.count) refl)
                (ended_well.answered.1.1.0 (script spin.seed 2 spin.count) refl) (ended_well.answered.1.1.1.0 (script spin.seed 3 spin.count) refl))
            | inr (inl showed) ↦ absurd (cc ((s.did.page showed.page).0 (ap (λ (r : Report). r.cause) showed.is)))
            | inr (inr (inl made)) ↦ absurd (cc made.asks)
            | inr (inr (inr (inl audited))) ↦ absurd (cc audited.asks)
            | inr (inr (inr (inr (inl checked)))) ↦ absurd (cc checked.asks)
            | inr (inr (inr (inr (inr mended)))) ↦ absurd (cc mended.asks)
          ];
          complete = λ quiet. s.complete refl (drawn_scripts spin.seed spin.count) refl (drawn_within spin.seed spin.count few) (quiet_within spin old new quiet) (opened spin.seed) refl;
        }
