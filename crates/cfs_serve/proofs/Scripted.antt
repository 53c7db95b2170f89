-- The scripts that were read of the sources, and why they are not served.
use Rattle.std.proofs.Common.{◌≡◌, ◌⊎◌, inl, inr, ℕ, zero, suc, ◌+◌, ◌<◌, ◌≤◌, List, [], ◌∷◌, ◌++◌, length, map, set, Some, slice_get, refl, sym, ap, ◌∙◌, subst, arith, length-append, get_or}
use Rattle.cfs_serve.proofs.Cited.{AreShort, AreWithinLimits, Cause, Had, HasScript, HaveFirst, HaveScripts, IsFirstRead, IsOneCause, IsSourceCause, Supply, faults_of_sources, get_or-le-sum_by, get_or_from_slice_get, lines_in, most_lines, most_script, option_map, request_lines, slice_get-get_or, slice_get-map, slice_get_within, slice_index_or, sum_by_push}
use Rattle.cfs_serve.specs.declared.report.Cause.TheVariants as causes
use Rattle.cfs_serve.proofs.Lists.{get-set_other, get-set_same, item, map_at, never_none, same_items, same_length}
use Rattle.cfs_serve.proofs.Logs.{some_same}

-- ---- scripts within the limits

-- as many as sources
pub had_count : (sources : List Supply) (scripts : List (List ℕ)) → Had sources scripts → length scripts ≡ length sources
had_count sources scripts had = sym (same_length (λ s. s.left) (λ (x : List ℕ). Some x) sources scripts had)

-- what was read of sources that tell what they had left is that
the_had : (sources : List Supply) (scripts left : List (List ℕ)) → HaveFirst sources scripts → length scripts ≡ length sources → Had sources left → scripts ≡ left
the_had sources scripts left first all had = same_items scripts left (all ∙ sym (had_count sources left had)) (λ k script x at there.
    let source = item sources k (omega (arith, slice_get_within scripts k script at, all)) in
    (first.each k source.0 script source.1 at).whole x (map_at (λ s. s.left) (λ (x : List ℕ). Some x) sources left k source.0 x had source.1 there))

-- each is short
each_short : (sources : List Supply) (scripts : List (List ℕ)) → HaveFirst sources scripts → length scripts ≡ length sources → AreShort scripts
each_short sources scripts first all = λ k d below.
    let script = item scripts k below in
    let source = item sources k (omega (arith, below, all)) in
    subst (λ s. length s ≤ most_script) (sym (get_or_from_slice_get scripts k script.0 d script.1)) (first.each k source.0 script.0 source.1 script.1).short

-- no limit was passed
pub within : (sources : List Supply) (scripts : List (List ℕ)) → HaveScripts sources scripts → (left : List (List ℕ)) → Had sources left → AreWithinLimits left
within sources scripts have left had =
    subst AreWithinLimits (the_had sources scripts left have.first have.all had) (each_short sources scripts have.first have.all, have.few)

-- one of them has no more lines than all
pub one_few : (scripts : List (List ℕ)) (k : ℕ) (script : List ℕ) → slice_get scripts k ≡ Some script → length (request_lines script) ≤ lines_in scripts
one_few scripts k script at =
    let least = get_or-le-sum_by (λ (s : List ℕ). length (request_lines s)) scripts k script (slice_get_within scripts k script at) in
    omega (arith, least, ap (λ (s : List ℕ). length (request_lines s)) (get_or_from_slice_get scripts k script script at))

-- ---- reading them, one after the other

at_end : {A : Type 0} (xs : List A) (y : A) (k : ℕ) (x : A) → slice_get (xs ++ y ∷ []) k ≡ Some x → (slice_get xs k ≡ Some x) ⊎ ((k ≡ length xs) × (y ≡ x))
at_end [] y zero x at = inr (refl, some_same _ _ at)
at_end [] y (suc k) x at = absurd (never_none at)
at_end (a ∷ xs) y zero x at = inl at
at_end (a ∷ xs) y (suc k) x at = elim (at_end xs y k x at) [
  | inl there ↦ inl there
  | inr it ↦ inr (ap (λ n. suc n) it.0, it.1)
]

pub one_read : (sources : List Supply) (scripts : List (List ℕ)) (source : Supply) (script : List ℕ) → HaveFirst sources scripts → slice_get sources (length scripts) ≡ Some source
    → HasScript source script → HaveFirst sources (scripts ++ script ∷ [])
one_read sources scripts source script first at has = record {
  count = omega (arith, slice_get_within sources (length scripts) source at, length-append scripts (script ∷ []));
  each = λ k s x there here. elim (at_end scripts script k x here) [
    | inl before ↦ first.each k s x there before
    | inr it ↦
        let same : source ≡ s = some_same _ _ (sym at ∙ ap (λ n. slice_get sources n) (sym it.0) ∙ there) in
        subst (λ (z : Supply). HasScript z x) same (subst (λ (z : List ℕ). HasScript source z) it.1 has)
  ];
}

-- the source that is read is as it was, and so are those behind it
module _ {S : Type 0} (supply : S → Supply) (first now : List S) (at : ℕ) (rest : (k : ℕ) → at ≤ k → slice_get now k ≡ slice_get first k) where
  pub source_at : (source : S) → at < length now → source ≡ get_or now at source → slice_get (map supply first) at ≡ Some (supply source)
  source_at source below is =
      let here : slice_get now at ≡ Some source = slice_get-get_or now at source below ∙ ap (λ s. Some s) (sym is) in
      slice_get-map supply first at ∙ ap (option_map supply) (sym (rest at (omega arith)) ∙ here)

  pub source_after : (source : S) → at < length now → slice_get (map supply (set now at source)) at ≡ Some (supply source)
  source_after source below = slice_get-map supply (set now at source) at ∙ ap (option_map supply) (get-set_same now at source (get_or now at source) (slice_get-get_or now at source below))

  pub rest_stays : (source : S) (k : ℕ) → at + 1 ≤ k → slice_get (set now at source) k ≡ slice_get first k
  rest_stays source k past = get-set_other now at k source (omega arith) ∙ rest k (omega arith)

  pub behind : (source : S) (k : ℕ) → at < k → slice_get (map supply (set now at source)) k ≡ slice_get (map supply first) k
  behind source k past =
      slice_get-map supply (set now at source) k ∙ ap (option_map supply) (rest_stays source k (omega (arith, past))) ∙ sym (slice_get-map supply first k)

pub one_counted : (scripts : List (List ℕ)) (script : List ℕ) → lines_in (scripts ++ script ∷ []) ≡ lines_in scripts + length (request_lines script)
one_counted scripts script = sum_by_push (λ (s : List ℕ). length (request_lines s)) scripts script

faults_at : (sources : List Supply) (n : ℕ) (source : Supply) → slice_get sources n ≡ Some source → get_or (faults_of_sources sources) n 0 ≡ source.faults
faults_at sources n source at =
    get_or_from_slice_get (faults_of_sources sources) n source.faults 0 (slice_get-map (λ (s : Supply). s.faults) sources n ∙ ap (option_map (λ (s : Supply). s.faults)) at)

long_at : (sources : List Supply) (n : ℕ) (source : Supply) → slice_get sources n ≡ Some source → ((left : List ℕ) → source.left ≡ Some left → most_script < length left)
    → (scripts : List (List ℕ)) → Had sources scripts → most_script < length (slice_index_or scripts n [])
long_at sources n source at long scripts had =
    let script = item scripts n (omega (arith, slice_get_within sources n source at, had_count sources scripts had)) in
    let left : source.left ≡ Some script.0 = map_at (λ s. s.left) (λ (x : List ℕ). Some x) sources scripts n source script.0 had at script.1 in
    subst (λ (s : List ℕ). most_script < length s) (sym (get_or_from_slice_get scripts n script.0 [] script.1)) (long script.0 left)

-- why the source of that number has no script is why none is served
pub one_cause : (sources after : List Supply) (n : ℕ) (source source_after : Supply) → slice_get sources n ≡ Some source → slice_get after n ≡ Some source_after
    → IsFirstRead sources after n → (cause : Cause) → IsOneCause n source source_after cause → IsSourceCause sources after cause
one_cause sources after n source source_after at there first (causes.Source i) is =
    subst (λ j. IsSourceCause sources after (causes.Source j)) (sym is.0)
    (slice_get_within sources n source at, rw (faults_at sources n source at, faults_at after n source_after there) is.1, first)
one_cause sources after n source source_after at there first (causes.Long i) is =
    subst (λ j. IsSourceCause sources after (causes.Long j)) (sym is.0)
    (slice_get_within sources n source at, long_at sources n source at is.1, first)
one_cause sources after n source source_after at there first causes.Memory is = tt
one_cause sources after n source source_after at there first causes.Nothing is = absurd is
one_cause sources after n source source_after at there first (causes.Page page) is = absurd is
one_cause sources after n source source_after at there first causes.Words is = absurd is
one_cause sources after n source source_after at there first (causes.Volume fault) is = absurd is
one_cause sources after n source source_after at there first (causes.Disk moment) is = absurd is
one_cause sources after n source source_after at there first causes.Sink is = absurd is
one_cause sources after n source source_after at there first causes.LongTotal is = absurd is
one_cause sources after n source source_after at there first (causes.Legal count) is = absurd is
one_cause sources after n source source_after at there first (causes.BadLine line) is = absurd is
one_cause sources after n source source_after at there first (causes.Illegal event) is = absurd is
one_cause sources after n source source_after at there first causes.LongVolume is = absurd is
one_cause sources after n source source_after at there first (causes.Sound objects left) is = absurd is

-- all were read, and have too many lines together
pub total_cause : (sources after : List Supply) (scripts : List (List ℕ)) → HaveFirst sources scripts → length scripts ≡ length sources → most_lines < lines_in scripts
    → IsSourceCause sources after causes.LongTotal
total_cause sources after scripts first all over = λ left had.
    subst (λ s. AreShort s × (most_lines < lines_in s)) (the_had sources scripts left first all had) (each_short sources scripts first all, over)
