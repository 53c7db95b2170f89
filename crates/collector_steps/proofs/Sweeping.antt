-- An image of which one cylinder was swept.
use Rattle.std.proofs.Common.{◌≡◌, inl, inr, ℕ, ◌+◌, ◌/◌, ◌%◌, ◌==◌, ◌<◌, List, length, refl, sym, ap, ◌∙◌, subst, arith, Bool, true, false, cond, not, Option, Some, None}
use Rattle.collector_steps.proofs.Words.{Accounts, ChangesOnly, Frames, Graph, HasRoot, Holds, Image, IsOpenTo, IsSome, IsSweptOf, Kind, MapEntry, MayBegin, Misses, NoInner, NoStray, Drafts, OwnsItself, Pass, Puid, Sweeps, and_from, and_parts, block_there, both_ways, cases_eq, entry_in, eq-eqb, false_from_ne_true, frames_others, unheld_entry, goes, has_block, has_root_in, in_image, is_fixed, is_free_entry, is_had, is_made, is_meant, is_of_pass, is_placed, is_root, is_stray, is_taken, not-true, option_map, or_left, owner_is, owner_of, reserved, root_owner, root_placed, root_real, same_Some, swept, true_from_ne_false}
use Rattle.collector_steps.specs.declared.sweep.Pass.TheVariants as passes

-- whether a pass is over roots
abbrev is_over : Pass → Bool
is_over passes.Inner = false
is_over passes.Roots = true

reserved_stays : (directory : List (Puid × Kind)) (pass : Pass) → goes directory pass reserved ≡ false
reserved_stays directory passes.Inner = refl
reserved_stays directory passes.Roots = refl

-- a block of a vanished object lies in a cylinder of the volume
pub within : (image : Image) (g : Graph) → Holds image g → (n : ℕ) (entry : Option MapEntry) → entry_in image n ≡ entry → is_stray g entry ≡ true → n / 64 < length image / 64
within image g holds n None was stray = cc
within image g holds n (Some e) was stray = omega (arith, in_image image g holds n e was, holds.label.size_is)

module _ (directory : List (Puid × Kind)) (g : Graph) (roots : (r : ℕ) → has_root_in directory r ≡ has_block g.objects r) where
  -- ---- what goes

  no_owner : (pass : Pass) (e : MapEntry) → goes directory pass e ≡ true → has_block g.objects e.owner ≡ false
  no_owner pass e h = sym (roots e.owner) ∙ not-true _ (and_parts (is_of_pass pass e) (not (has_root_in directory e.owner)) h).1

  -- a made root is none of the inner pass, and the root pass spares it
  of_pass : (pass : Pass) (e : MapEntry) → is_of_pass pass e ≡ true → (is_placed is_taken (Some e) ≡ true) × (is_made (Some e) ≡ false)
  of_pass passes.Inner e h =
      let two = and_parts (is_placed is_taken (Some e)) (not (is_root is_taken (Some e))) h in
      (two.0, false_from_ne_true _ (λ made. both_ways _ (not-true _ two.1) (root_real is_meant refl (Some e) made)))
  of_pass passes.Roots e h =
      let two = and_parts (is_root is_taken (Some e)) (not (is_made (Some e))) h in
      (root_placed is_taken (Some e) two.0, not-true _ two.1)

  pub goes_stray : (pass : Pass) (e : MapEntry) → goes directory pass e ≡ true → is_stray g (Some e) ≡ true
  goes_stray pass e h =
      let of = of_pass pass e (and_parts (is_of_pass pass e) (not (has_root_in directory e.owner)) h).0 in
      and_from _ _ of.0 (and_from _ _ (ap not of.1) (ap not (no_owner pass e h)))

  -- and what is stray goes, in the one pass or the other
  pub stray_goes : (pass : Pass) (e : MapEntry) → is_stray g (Some e) ≡ true → is_root is_taken (Some e) ≡ is_over pass → goes directory pass e ≡ true
  stray_goes pass e h root =
      let one = and_parts (is_placed is_taken (Some e)) _ h in
      let two = and_parts (not (is_made (Some e))) (not (has_block g.objects e.owner)) one.1 in
      and_from _ _ (over pass root one.0 two.0) (ap not (roots e.owner) ∙ two.1)
    where
      over : (p : Pass) → is_root is_taken (Some e) ≡ is_over p → is_placed is_taken (Some e) ≡ true → not (is_made (Some e)) ≡ true → is_of_pass p e ≡ true
      over passes.Inner is placed real = and_from _ _ placed (ap not is)
      over passes.Roots is placed real = and_from _ _ is real

  -- ---- one cylinder

  module _ (pass : Pass) (cylinder : ℕ) (a b : Image) (sweep : IsSweptOf directory pass cylinder a b) where
    -- an entry is the same, or went
    data Changed (n : ℕ) : Type 0 where
      Same : entry_in b n ≡ entry_in a n → Changed n
      Went : (old : MapEntry) → entry_in a n ≡ Some old → goes directory pass old ≡ true → entry_in b n ≡ Some unheld_entry → n / 64 ≡ cylinder → Changed n

    changed : (n : ℕ) → Changed n
    changed n = elim (cases_eq (n / 64) cylinder) [
      | inl is ↦ at (entry_in a n) refl is
      | inr away ↦ Same (sweep.elsewhere n away)
    ]
      where
        at : (entry : Option MapEntry) → entry_in a n ≡ entry → n / 64 ≡ cylinder → Changed n
        at None was is = Same (sweep.here n is ∙ ap (option_map (swept directory pass)) was ∙ sym was)
        at (Some e) was is = elim (goes directory pass e) as (λ t. goes directory pass e ≡ t → Changed n) [
          | true ↦ λ go. Went e was go (sweep.here n is ∙ ap (option_map (swept directory pass)) was ∙ ap (λ (t : Bool). Some (cond t unheld_entry e)) go) is
          | false ↦ λ stays. Same (sweep.here n is ∙ ap (option_map (swept directory pass)) was ∙ ap (λ (t : Bool). Some (cond t unheld_entry e)) stays ∙ sym was)
        ] refl

    -- what is left of somebody is as it was
    left : (n : ℕ) → is_placed is_taken (entry_in b n) ≡ true → entry_in b n ≡ entry_in a n
    left n placed = elim (changed n) [
      | Same same ↦ same
      | Went old was go now at ↦ absurd (both_ways _ (ap (is_placed is_taken) now) placed)
    ]

    -- nothing that goes is left in the cylinder
    none_goes : (n : ℕ) → n / 64 ≡ cylinder → is_stray g (entry_in b n) ≡ true → is_root is_taken (entry_in b n) ≡ is_over pass → ⊥
    none_goes n at stray root = go_on (entry_in a n) refl
      where
        placed : is_placed is_taken (entry_in b n) ≡ true
        placed = (and_parts (is_placed is_taken (entry_in b n)) _ stray).0

        same : entry_in b n ≡ entry_in a n
        same = left n placed

        go_on : (entry : Option MapEntry) → entry_in a n ≡ entry → ⊥
        go_on None was = both_ways _ (ap (is_placed is_taken) (same ∙ was)) placed
        go_on (Some e) was =
            let go = stray_goes pass e (ap (λ (x : Option MapEntry). is_stray g x) (sym (same ∙ was)) ∙ stray) (ap (is_root is_taken) (sym (same ∙ was)) ∙ root) in
            let now : entry_in b n ≡ Some unheld_entry = sweep.here n at ∙ ap (option_map (swept directory pass)) was ∙ ap (λ (t : Bool). Some (cond t unheld_entry e)) go in
            both_ways _ (ap (is_placed is_taken) now) placed

    stray_left : (n : ℕ) → is_stray g (entry_in b n) ≡ true → entry_in b n ≡ entry_in a n
    stray_left n stray = left n (and_parts (is_placed is_taken (entry_in b n)) _ stray).0

    stray_before : (n : ℕ) → is_stray g (entry_in b n) ≡ true → is_stray g (entry_in a n) ≡ true
    stray_before n stray = ap (λ (x : Option MapEntry). is_stray g x) (sym (stray_left n stray)) ∙ stray

    -- ---- how far the sweep is

    pub inner_kept : (cylinders : ℕ) → NoInner a g cylinders → NoInner b g cylinders
    inner_kept cylinders none n below stray = ap (is_root is_taken) (stray_left n stray) ∙ none n below (stray_before n stray)

    pub inner_on : pass ≡ passes.Inner → NoInner a g cylinder → NoInner b g (cylinder + 1)
    inner_on inner none n below stray = elim (cases_eq (n / 64) cylinder) [
      | inl here ↦ true_from_ne_false _ (λ root. none_goes n here stray (root ∙ sym (ap is_over inner)))
      | inr away ↦ inner_kept cylinder none n (omega (arith, below, away)) stray
    ]

    pub stray_on : pass ≡ passes.Roots → NoInner a g (length a / 64) → NoStray a g cylinder → cylinder < length a / 64 → NoStray b g (cylinder + 1)
    stray_on root inner none inside n below = false_from_ne_true _ (λ stray. elim (cases_eq (n / 64) cylinder) [
      | inl here ↦ none_goes n here stray (inner_kept (length a / 64) inner n (omega (arith, here, inside)) stray ∙ sym (ap is_over root))
      | inr away ↦ both_ways _ (none n (omega (arith, below, away))) (stray_before n stray)
    ])

    -- ---- the accounts

    module _ (ds : Drafts) (had : Accounts a g ds) where
      -- a block that went is no map block and not the label
      went_apart : (n : ℕ) (old : MapEntry) → entry_in a n ≡ Some old → goes directory pass old ≡ true → is_fixed n ≡ false
      went_apart n old was go = false_from_ne_true _ (λ fixed.
          let is : old ≡ reserved = same_Some _ _ (sym was ∙ had.holds.fixed n (in_image a g had.holds n old was) fixed) in
          both_ways _ (reserved_stays directory pass) (ap (goes directory pass) (sym is) ∙ go))

      went_open : (old : MapEntry) → goes directory pass old ≡ true → IsOpenTo (λ entry. is_stray g entry) (Some old)
      went_open old go = let stray = goes_stray pass old go in inr ((and_parts (is_placed is_taken (Some old)) _ stray).0, stray)

      pub changes : ChangesOnly (λ entry. is_stray g entry) a b
      changes = record {
        size = sweep.size;
        maps = λ n below. elim (changed n) [
          | Same same ↦ subst IsSome (sym same) (had.holds.maps n (omega (arith, below, sweep.size)))
          | Went old was go now at ↦ subst IsSome (sym now) refl
        ];
        own = λ n e stands. elim (changed n) [
          | Same same ↦ had.holds.own n e (sym same ∙ stands)
          | Went old was go now at ↦ subst (OwnsItself n) (same_Some _ _ (sym now ∙ stands)) (λ root. cc)
        ];
        label = sweep.contents 1 (λ is. omega (arith, is));
        fixed = λ n fixed. elim (changed n) [ Same same ↦ same | Went old was go now at ↦ absurd (both_ways _ (went_apart n old was go) fixed) ];
        entries = λ n. elim (changed n) [
          | Same same ↦ inl same
          | Went old was go now at ↦ inr (subst (IsOpenTo (λ entry. is_stray g entry)) (sym was) (went_open old go), inl (ap is_free_entry now))
        ];
        contents = λ n apart. inl (sweep.contents n (λ is. both_ways _ apart (or_left (n % 64 == 0) (n == 1) (eq-eqb (n % 64) 0 (omega (arith, is))))));
      }

      misses : (x : ℕ) → has_block g.objects x ≡ true → Misses is_had (λ entry. is_stray g entry) x
      misses x there entry h = false_from_ne_true _ (λ is.
          let two = and_parts (not (is_made entry)) (not (has_block g.objects (owner_of entry))) (and_parts (is_placed is_taken entry) _ h).1 in
          both_ways _ (not-true _ two.1) (ap (has_block g.objects) (sym (owner_is is_had x entry is)) ∙ there))

      pub frames : Frames a g b
      frames = frames_others (λ entry. is_stray g entry) a b g ds had changes g (λ x o at. (at, misses x.block (block_there g x o at)))

      -- a root stands as long as a block of its own does
      root_stands : (n : ℕ) → MayBegin pass a g → is_placed is_taken (entry_in b n) ≡ true → HasRoot b (owner_of (entry_in a n))
      root_stands n begun placed = elim (changed r) [
        | Same same ↦ ap (is_root is_taken) same ∙ root
        | Went old was go now at ↦ absurd (gone pass refl old was go now)
      ]
        where
          same : entry_in b n ≡ entry_in a n
          same = left n placed

          r : ℕ
          r = owner_of (entry_in a n)

          root : is_root is_taken (entry_in a r) ≡ true
          root = had.rooted n (ap (is_placed is_taken) (sym same) ∙ placed)

          gone : (p : Pass) → pass ≡ p → (old : MapEntry) → entry_in a r ≡ Some old → goes directory pass old ≡ true → entry_in b r ≡ Some unheld_entry → ⊥
          gone passes.Inner is old was go now =
              let of = (and_parts (is_of_pass pass old) (not (has_root_in directory old.owner)) go).0 in
              let not_root = (and_parts (is_placed is_taken (Some old)) (not (is_root is_taken (Some old))) (ap (λ (q : Pass). is_of_pass q old) (sym is) ∙ of)).1 in
              both_ways _ (not-true _ not_root) (ap (is_root is_taken) (sym was) ∙ root)
          gone passes.Roots is old was go now = elim (is_root is_taken (entry_in a n)) as (λ t. is_root is_taken (entry_in a n) ≡ t → ⊥) [
            | true ↦ λ here.
                let itself : n ≡ r = sym (root_owner a had.holds.own is_taken n here) in
                both_ways _ (ap (is_placed is_taken) (ap (entry_in b) itself ∙ now)) placed
            | false ↦ λ other.
                let owner : old.owner ≡ r = ap owner_of (sym was) ∙ root_owner a had.holds.own is_taken r root in
                let unmade : is_made (entry_in a n) ≡ false = false_from_ne_true _ (λ made. both_ways _ other (root_real is_meant refl (entry_in a n) made)) in
                let stray = and_from _ _ (ap (is_placed is_taken) (sym same) ∙ placed) (and_from _ _ (ap not unmade) (ap not (ap (has_block g.objects) (sym owner) ∙ no_owner pass old go))) in
                both_ways _ other (subst (λ (q : Pass). MayBegin q a g) is begun n (inside stray) stray)
          ] refl
            where
              inside : is_stray g (entry_in a n) ≡ true → n / 64 < length a / 64
              inside stray = within a g had.holds n (entry_in a n) refl stray

      pub sweeps : MayBegin pass a g → Sweeps g a b
      sweeps begun = record {
        only = changes;
        frees = λ n. elim (changed n) [ Same same ↦ inl same | Went old was go now at ↦ inr (ap is_free_entry now) ];
        roots_last = λ n placed. subst (λ (entry : Option MapEntry). HasRoot b (owner_of entry)) (sym (left n placed)) (root_stands n begun placed);
      }
