-- Which faults maps heal, told by what blocks are used for.
use Rattle.std.proofs.Common.{◌≡◌, ◌≢◌, ◌⊎◌, inl, inr, ℕ, ◌+◌, ◌*◌, ◌<◌, ◌≤◌, ◌^◌, zero, suc, Bool, true, false, List, [], ◌∷◌, length, get_or, Option, Some, None, refl, sym, ◌∙◌, ap, subst, arith}
use Rattle.std.proofs.lemmas.Bool.{cases_eq, cases_lt}
use Rattle.std.proofs.lemmas.Option.{get_or_from_slice_get, same_Some, slice_get-get_or, slice_get_within}
use Rattle.std.specs.List.{Contains}
use Rattle.std.specs.Prelude.{slice_get}
use Rattle.cfs_base.specs.Codes as codes
use Rattle.cfs_base.specs.Disk.{Image}
use Rattle.cfs_base.specs.declared.kind.Place.{Place}
use Rattle.cfs_base.specs.declared.refusal.Damage.{Damage}
use Rattle.cyl_map.specs.Volume.{entry_in}
use Rattle.cyl_map.specs.declared.entry.MapEntry.{MapEntry}
use Rattle.vol_image.specs.Fault.{Fault, HasLabel, IsKeptBlock, ObjectFault}
use Rattle.vol_image.specs.Faults.{AreFaultsOf, IsDamageBefore}
use Rattle.vol_image.specs.Part.{BelongsTo, EntryPart, is_fixed, part_at, part_of, reserved}
use Rattle.vol_label.specs.declared.label.Label.{Label}
use Rattle.cfs_recover.proofs.Shown.{one_label}
use Rattle.cfs_recover.specs.Entries.{damage}
use Rattle.cfs_check.specs.Checked.{CantHeal, IsFirstUnhealed, IsUsedTwice}
use Rattle.cfs_check.specs.Items.{IsUseOf}
use Rattle.cfs_check.specs.Marks.{damages_in, is_marked}
use Rattle.cfs_check.specs.Repair.{AreHealed, IsFirstOf, IsMendable, IsUnhealed}
use Rattle.cfs_check.specs.Sized.{AreSized}
use Rattle.cfs_check.specs.Surveyed.{IsSurveyed, IsWholeSurvey}
use Rattle.cfs_check.specs.Uses.{Use}
use Rattle.cfs_check.specs.declared.survey.Surveyed.{Surveyed}
use Rattle.cfs_check.specs.declared.uses.Use.TheVariants as uses
use Rattle.cfs_check.proofs.Built.{entry_ok}
use Rattle.cfs_check.proofs.Decided.{belongs_if, some_entry_if}
use Rattle.cfs_check.proofs.Ground.{size_alone}
use Rattle.cfs_check.proofs.Rise.{in_marked, listed_faults, marked_within}
use Rattle.cfs_check.proofs.Whole.{kept_back, used_back, used_below, used_in}

-- of two faults each isn't before the other
before_not : (d e : Damage) → IsDamageBefore d e → IsDamageBefore e d → ⊥
before_not d e (inl a) (inl b) = omega (arith, a, b)
before_not d e (inl a) (inr b) = omega (arith, a, b.0)
before_not d e (inr a) (inl b) = omega (arith, a.0, b)
before_not d e (inr a) (inr b) = omega (arith, a.1, b.1)

-- maps heal one more
pub healed_more : (of : List Use) (ds : List Damage) (k : ℕ) (d : Damage) → slice_get ds k ≡ Some d → ¬ IsUnhealed of d → AreHealed of ds k → AreHealed of ds (k + 1)
healed_more of ds k d at healed before j e less here = elim (cases_eq j k) [
  | inl same ↦ (let one : d ≡ e = same_Some _ _ (sym at ∙ ap (slice_get ds) (sym same) ∙ here) in subst (λ (x : Damage). ¬ IsUnhealed of x) one healed)
  | inr other ↦ before j e (omega (arith, less, other)) here
]

-- where the size is wrong that is the first, and they don't heal it
pub size_unhealed : (image : Image) (l : Label) → HasLabel image l → 64 * l.cylinders ≢ length image → IsFirstUnhealed image (damage 1 codes.wrong_size)
size_unhealed image l has other =
    let are = size_alone image l has other in
    let d = damage 1 codes.wrong_size in
    record {
      listed = are.each d (0, omega arith, refl);
      cant = inl (λ is. omega (arith, is), λ is. omega (arith, is));
      first = λ e listed before cant. alone e (are.all e listed) before;
    }
  where
    alone : (e : Damage) → Contains (damage 1 codes.wrong_size ∷ []) e → IsDamageBefore e (damage 1 codes.wrong_size) → ⊥
    alone e (zero, inside, same) before = let itself : IsDamageBefore e e = subst (λ (x : Damage). IsDamageBefore e x) same before in before_not e e itself itself
    alone e (suc k, inside, same) before = absurd (omega (arith, inside))

-- a block belongs to one owner, at one place
pub one_owner : (owner other : ℕ) (place its : Place) (part : Option EntryPart) → BelongsTo owner place part → BelongsTo other its part → (owner ≡ other) × (place ≡ its)
one_owner owner other place its part one two =
    let same : one.is ≡ two.is = same_Some _ _ (sym one.here ∙ two.here) in
    let places : Some place ≡ Some its = sym one.place_is ∙ ap (λ (p : EntryPart). p.place) same ∙ two.place_is in
    (sym one.owner_is ∙ ap (λ (p : EntryPart). p.owner) same ∙ two.owner_is, same_Some _ _ places)

-- a reserved block belongs to no object
pub not_reserved : (image : Image) (n owner : ℕ) (place : Place) → entry_in image n ≡ Some reserved → ¬ BelongsTo owner place (part_at image n)
not_reserved image n owner place is belongs =
    let same : Some (record { committed = false; place = None; owner = 0 }) ≡ Some belongs.is = sym (ap part_of is) ∙ belongs.here in
    let none : None ≡ Some place = ap (λ (p : EntryPart). p.place) (same_Some _ _ same) ∙ belongs.place_is in cc

module _ (image : Image) (whole : AreSized image) (s : Surveyed) (is : IsSurveyed image s) where
  abbrev w : IsWholeSurvey image s.survey
  w = is.whole

  abbrev marks : List Bool
  marks = s.survey.marks

  abbrev use_of : ℕ → Use
  use_of n = get_or s.survey.uses n uses.Free

  some : 3 ≤ length image
  some = let one = w.has.is_label.some in omega (arith, one, is.size)

  -- two rooted objects use it, or one at two places; or it is a map block or the label, and one uses it
  abbrev IsHeldTwice : ℕ → Type 0
  IsHeldTwice n = IsUsedTwice image n ⊎ ((is_fixed n ≡ true) × IsKeptBlock image n)

  held_twice : (n : ℕ) → n < length image → use_of n ≡ uses.Twice → IsHeldTwice n
  held_twice n below two = at (subst (IsUseOf image w.items n) two (w.found.uses n below))
    where
      at : IsUseOf image w.items n uses.Twice → IsHeldTwice n
      at (inl t) =
          let one = used_back image whole s.survey w n t.owner t.place t.used in
          let other = used_back image whole s.survey w n t.other t.place_of_other t.used_too in
          inl (record {
            id = one.0;
            other = other.0;
            place = t.place;
            place_of_other = t.place_of_other;
            reached = one.1;
            reached_too = other.1;
            used = one.3;
            used_too = other.3;
            differs = λ same. t.differs (sym one.2 ∙ same.0 ∙ other.2, same.1);
          })
      at (inr t) = inr (t.0, kept_back image whole s.survey w n t.1.0 t.1.1 t.1.2)

  twice_held : (n : ℕ) → n < length image → IsHeldTwice n → use_of n ≡ uses.Twice
  twice_held n below held = at (use_of n) refl (w.found.uses n below) held
    where
      at : (u : Use) → use_of n ≡ u → IsUseOf image w.items n u → IsHeldTwice n → use_of n ≡ uses.Twice
      at uses.Free of none (inl t) = absurd (none.1 t.id.block t.place (used_in image whole s.survey w t.id t.reached t.place n t.used))
      at uses.Free of none (inr (fixed, t)) = absurd (none.1 t.id.block t.place (used_in image whole s.survey w t.id t.reached t.place n t.used))
      at uses.Fixed of none (inl t) = absurd (none.1 t.id.block t.place (used_in image whole s.survey w t.id t.reached t.place n t.used))
      at uses.Fixed of none (inr (fixed, t)) = absurd (none.1 t.id.block t.place (used_in image whole s.survey w t.id t.reached t.place n t.used))
      at (uses.By r p) of by (inl t) =
          let one = by.2 t.id.block t.place (used_in image whole s.survey w t.id t.reached t.place n t.used) in
          let other = by.2 t.other.block t.place_of_other (used_in image whole s.survey w t.other t.reached_too t.place_of_other n t.used_too) in
          absurd (t.differs (sym one.0 ∙ other.0, sym one.1 ∙ other.1))
      at (uses.By r p) of by (inr (fixed, t)) = let no : true ≡ false = sym fixed ∙ by.0 in cc
      at uses.Twice of two held = of

  twice_below : (n : ℕ) → IsHeldTwice n → n < length image
  twice_below n (inl t) = used_below image some t.id t.reached t.place n t.used
  twice_below n (inr (fixed, t)) = used_below image some t.id t.reached t.place n t.used

  -- ---- the first that maps don't heal

  cant_heal : (d : Damage) → d.block < length image → IsUnhealed s.survey.uses d → CantHeal image d
  cant_heal d below (inl other) = inl other
  cant_heal d below (inr (five, two)) = inr (five, held_twice d.block below two)

  unhealed : (d : Damage) → CantHeal image d → IsUnhealed s.survey.uses d
  unhealed d (inl other) = inl other
  unhealed d (inr (five, held)) = inr (five, twice_held d.block (twice_below d.block held) held)

  sized : (l : Label) → HasLabel image l → 64 * l.cylinders ≡ length image
  sized l has = ap (λ (m : Label). 64 * m.cylinders) (one_label image l w.label has w.has) ∙ is.size

  listed : AreFaultsOf image (damages_in marks)
  listed = listed_faults image marks is.faults sized

  pub first_unhealed : (d : Damage) → IsFirstOf s.survey.uses (damages_in marks) d → IsFirstUnhealed image d
  first_unhealed d first =
      let has : Contains (damages_in marks) d = (first.k, slice_get_within (damages_in marks) first.k d first.here, get_or_from_slice_get (damages_in marks) first.k d d first.here) in
      record {
        listed = listed.each d has;
        cant = cant_heal d (marked_within marks (length image) d is.faults.size has) first.unhealed;
        first = λ e of before cant. none_before e (listed.all e of) before cant;
      }
    where
      none_before : (e : Damage) → Contains (damages_in marks) e → IsDamageBefore e d → CantHeal image e → ⊥
      none_before e (k, inside, same) before cant =
          let here : slice_get (damages_in marks) k ≡ Some e = slice_get-get_or (damages_in marks) k e inside ∙ ap Some same in
          elim (cases_lt k first.k) [
            | inl less ↦ first.before k e less here (unhealed e cant)
            | inr more ↦ elim (cases_eq k first.k) [
              | inl equal ↦
                  (let one : d ≡ e = same_Some _ _ (sym first.here ∙ ap (slice_get (damages_in marks)) (sym equal) ∙ here) in
                  let itself : IsDamageBefore d d = subst (λ (x : Damage). IsDamageBefore x d) (sym one) before in
                  before_not d d itself itself)
              | inr other ↦ before_not d e (listed.rise first.k k d e (omega (arith, more, other)) first.here here) before
            ]
          ]

  -- ---- they heal all

  module _ (healed : AreHealed s.survey.uses (damages_in marks) (length (damages_in marks))) where
    none_unhealed : (code n : ℕ) → code < 12 → is_marked marks code n ≡ true → ¬ IsUnhealed s.survey.uses (record { block = n; code = code })
    none_unhealed code n small on =
        let d : Damage = record { block = n; code = code } in
        let at = in_marked marks d small on in
        healed at.0 d at.1 (slice_get-get_or (damages_in marks) at.0 d at.1 ∙ ap Some at.2)

    of_entry : (code n : ℕ) → Fault image code n → (code ≡ codes.no_entry) ⊎ (code ≡ codes.not_owned)
    of_entry code n fault =
        let at = is.faults.all code n fault in
        elim (cases_eq code codes.no_entry) [
          | inl two ↦ inl two
          | inr no_two ↦ elim (cases_eq code codes.not_owned) [
            | inl five ↦ inr five
            | inr no_five ↦ absurd (none_unhealed code n at.0 at.1 (inl (no_two, no_five)))
          ]
        ]

    not_owned_twice : (n : ℕ) → n < length image → ¬ Fault image codes.not_owned n → IsHeldTwice n → ⊥
    not_owned_twice n below none (inl t) =
        let one = belongs_if t.id.block t.place (part_at image n) (λ other. none (Fault.InObject t.id codes.not_owned n t.reached (ObjectFault.NotOwned t.place n t.used other))) in
        let two = belongs_if t.other.block t.place_of_other (part_at image n) (λ other. none (Fault.InObject t.other codes.not_owned n t.reached_too (ObjectFault.NotOwned t.place_of_other n t.used_too other))) in
        t.differs (one_owner t.id.block t.other.block t.place t.place_of_other (part_at image n) one two)
    not_owned_twice n below none (inr (fixed, t)) =
        let entry = some_entry_if (entry_in image n) reserved (λ other. none (Fault.NotReserved n below fixed other)) in
        not_reserved image n t.id.block t.place entry
        (belongs_if t.id.block t.place (part_at image n) (λ other. none (Fault.InObject t.id codes.not_owned n t.reached (ObjectFault.NotOwned t.place n t.used other))))

    not_twice : (n : ℕ) → n < length image → use_of n ≢ uses.Twice
    not_twice n below two = at (is_marked marks codes.not_owned n) refl
      where
        at : (t : Bool) → is_marked marks codes.not_owned n ≡ t → ⊥
        at true on = none_unhealed codes.not_owned n (omega arith) on (inr (refl, two))
        at false off = not_owned_twice n below (λ fault. let no : false ≡ true = sym off ∙ (is.faults.all codes.not_owned n fault).1 in cc) (held_twice n below two)

    pub mendable : length image ≤ 524288 → IsMendable image s
    mendable most = record {
      loadable = record { most = most; whole = whole };
      surveyed = is;
      entries = of_entry;
      single = not_twice;
      spelled = entry_ok image whole some (omega (arith, most)) s.survey w;
    }
