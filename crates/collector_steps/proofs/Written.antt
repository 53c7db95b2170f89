-- A cylinder whose map is written with what went made Free.
use Rattle.std.proofs.Common.{◌≡◌, ℕ, suc, ◌+◌, ◌*◌, ◌/◌, ◌%◌, ◌<◌, List, [], ◌∷◌, length, set, get_or, count_by, refl, sym, ap, ◌∙◌, arith, Bool, true, false, cond, Some}
use Rattle.collector_steps.proofs.Words.{All-map, Allocated, BlockState, Free, Image, IntendAllocate, IntendDeallocate, IsEntry, IsFreeElsewhere, IsMap, IsMapOf, IsSweptOf, Kind, MapEntry, Pass, Puid, and_parts, block_at, both_ways, count-cons, entry_at, entry_in, entry_is, free_count, free_entries, unheld_entry, free_in_cylinder, get_or-map, get_or-set_other, get_or-set_same, goes, is_free, is_free_entry, is_free_state, is_of_pass, is_placed, is_root, is_root_place, is_taken, length-map, length-set, map_of, map_spelling, one, option_map, swept, swept_map}
use Rattle.collector_steps.specs.Sweep.{NoneGoes}
use Rattle.collector_steps.specs.declared.sweep.Pass.TheVariants as passes

module _ (directory : List (Puid × Kind)) (pass : Pass) where
  abbrev f : MapEntry → MapEntry
  f = swept directory pass

  -- ---- the entries

  swept_is_entry : (e : MapEntry) → IsEntry e → IsEntry (f e)
  swept_is_entry e is = elim (goes directory pass e) as (λ t. IsEntry (cond t unheld_entry e)) [ true ↦ record { in_table = refl } | false ↦ is ]

  swept_is_map : (es : List MapEntry) → IsMap es → IsMap (swept_map directory pass es)
  swept_is_map es is = record { long = length-map es f ∙ is.long; each = All-map IsEntry f es (λ k d below. swept_is_entry _ (is.each k d below)) }

  -- what goes was taken
  goes_taken : (e : MapEntry) → goes directory pass e ≡ true → is_free e ≡ false
  goes_taken e go = at e.state refl
    where
      taken : (p : Pass) → is_of_pass p e ≡ true → is_taken e.state ≡ true
      taken passes.Inner h = (and_parts _ _ (and_parts (is_placed is_taken (Some e)) _ h).0).0
      taken passes.Roots h = (and_parts (is_taken e.state) (is_root_place e.place) (and_parts (is_root is_taken (Some e)) _ h).0).0

      at : (s : BlockState) → e.state ≡ s → is_free_state s ≡ false
      at Free is = absurd (both_ways _ (ap is_taken is) (taken pass (and_parts (is_of_pass pass e) _ go).0))
      at Allocated is = refl
      at IntendAllocate is = refl
      at IntendDeallocate is = refl

  one_free : (e : MapEntry) → one (is_free (f e)) ≡ one (is_free e) + one (goes directory pass e)
  one_free e = elim (goes directory pass e) as (λ t. goes directory pass e ≡ t → one (is_free (cond t unheld_entry e)) ≡ one (is_free e) + one t) [
    | true ↦ λ go. let taken = ap one (goes_taken e go) in omega (arith, taken)
    | false ↦ λ stays. omega arith
  ] refl

  more_free : (es : List MapEntry) → free_entries (swept_map directory pass es) ≡ free_entries es + count_by (goes directory pass) es
  more_free [] = refl
  more_free (e ∷ es) =
      omega (arith, more_free es, one_free e, count-cons is_free (f e) (swept_map directory pass es), count-cons is_free e es, count-cons (goes directory pass) e es)

  none_swept : (es : List MapEntry) → count_by (goes directory pass) es ≡ 0 → swept_map directory pass es ≡ es
  none_swept [] none = refl
  none_swept (e ∷ es) none =
      let both = count-cons (goes directory pass) e es in
      rw (here (goes directory pass e) refl (omega (arith, none, both))) (ap (λ (l : List MapEntry). e ∷ l) (none_swept es (omega (arith, none, both))))
    where
      here : (t : Bool) → goes directory pass e ≡ t → one t ≡ 0 → f e ≡ e
      here true is gone = absurd (omega (arith, gone))
      here false is gone = ap (λ (t : Bool). cond t unheld_entry e) is

  none_counted : (es : List MapEntry) → ((k : ℕ) → k < length es → goes directory pass (get_or es k unheld_entry) ≡ false)
      → count_by (goes directory pass) es ≡ 0
  none_counted [] none = refl
  none_counted (e ∷ es) none =
      let first = ap one (none 0 (omega arith)) in
      let later = none_counted es (λ k below. none (suc k) (omega (arith, below))) in
      omega (arith, first, later, count-cons (goes directory pass) e es)

  -- ---- the image

  abbrev pub after_of : Image → ℕ → List MapEntry → Image
  after_of a cylinder es = set a (64 * cylinder) (map_spelling (swept_map directory pass es))

  module _ (a : Image) (cylinder : ℕ) (es : List MapEntry) (is : IsMapOf a (64 * cylinder) es) (inside : 64 * cylinder < length a) where
    abbrev after : Image
    after = after_of a cylinder es

    at_map : map_of (64 * cylinder) ≡ 64 * cylinder
    at_map = omega arith

    after_map : IsMapOf after (64 * cylinder) (swept_map directory pass es)
    after_map = record {
      is_map = swept_is_map es is.is_map;
      spelled = ap (block_at after) at_map ∙ get_or-set_same a (64 * cylinder) (map_spelling (swept_map directory pass es)) [] inside;
    }

    pub swept_so : IsSweptOf directory pass cylinder a (after_of a cylinder es)
    unfolding entry_in
    swept_so = record {
      size = length-set a (64 * cylinder) (map_spelling (swept_map directory pass es));
      contents = λ n apart. get_or-set_other a (64 * cylinder) n (map_spelling (swept_map directory pass es)) [] apart;
      here = λ n at.
          let same : map_of n ≡ map_of (64 * cylinder) = omega (arith, at) in
          entry_is after (64 * cylinder) (swept_map directory pass es) after_map n unheld_entry same
          ∙ ap Some (get_or-map f es (n % 64) unheld_entry unheld_entry (omega (arith, is.is_map.long)))
          ∙ ap (option_map f) (sym (entry_is a (64 * cylinder) es is n unheld_entry same));
      elsewhere = λ n away. ap (λ (b : List ℕ). entry_at b (n % 64)) (get_or-set_other a (64 * cylinder) (map_of n) (map_spelling (swept_map directory pass es)) [] (λ is. away (omega (arith, is))));
    }

    pub unswept_so : count_by (goes directory pass) es ≡ 0 → IsSweptOf directory pass cylinder a a
    unswept_so none = record {
      size = refl;
      contents = λ n apart. refl;
      here = λ n at.
          let same : map_of n ≡ map_of (64 * cylinder) = omega (arith, at) in
          let entry = entry_is a (64 * cylinder) es is n unheld_entry same in
          entry ∙ ap (λ (l : List MapEntry). Some (get_or l (n % 64) unheld_entry)) (sym (none_swept es none))
          ∙ ap Some (get_or-map f es (n % 64) unheld_entry unheld_entry (omega (arith, is.is_map.long)))
          ∙ ap (option_map f) (sym entry);
      elsewhere = λ n away. refl;
    }

    -- none is counted where no entry of the cylinder goes
    pub none_freed : NoneGoes directory pass cylinder a → count_by (goes directory pass) es ≡ 0
    none_freed none = none_counted es (λ k below.
        let n : ℕ = 64 * cylinder + k in
        let here : n / 64 ≡ cylinder = omega (arith, below, is.is_map.long) in
        let place : n % 64 ≡ k = omega (arith, below, is.is_map.long) in
        let same : map_of n ≡ map_of (64 * cylinder) = omega (arith, here) in
        none n (get_or es k unheld_entry) here (entry_is a (64 * cylinder) es is n unheld_entry same
        ∙ ap (λ (j : ℕ). Some (get_or es j unheld_entry)) place))

    -- ---- how many are Free

    pub counted : free_in_cylinder (after_of a cylinder es) (64 * cylinder / 64) ≡ free_in_cylinder a (64 * cylinder / 64) + count_by (goes directory pass) es
    counted =
        sym (free_count after (64 * cylinder) (swept_map directory pass es) after_map) ∙ more_free es
        ∙ ap (λ (n : ℕ). n + count_by (goes directory pass) es) (free_count a (64 * cylinder) es is)

    pub elsewhere : IsFreeElsewhere a (64 * cylinder) (after_of a cylinder es)
    elsewhere = record { size = swept_so.size; same = λ m apart. ap is_free_entry (swept_so.elsewhere m (λ is. apart (omega (arith, is)))) }
