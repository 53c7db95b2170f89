-- A survey from its beginning to its end: exactly the faults of the volume are marked.
use Rattle.std.proofs.Common.{◌≡◌, ◌≢◌, ◌⊎◌, inl, inr, ℕ, zero, suc, ◌+◌, ◌*◌, ◌/◌, ◌<◌, ◌≤◌, Bool, true, false, List, [], ◌∷◌, length, get_or, replicate, Option, Some, None, refl, sym, ◌∙◌, ap, subst, arith}
use Rattle.std.proofs.lemmas.Bool.{cases_lt}
use Rattle.std.proofs.lemmas.Option.{slice_get_within}
use Rattle.std.specs.List.{Contains}
use Rattle.cfs_base.specs.Codes as codes
use Rattle.cfs_base.specs.Disk.{Image, block_at}
use Rattle.cyl_map.proofs.Volumes.{map_in_image}
use Rattle.cyl_map.specs.Volume.{entry_in, map_of}
use Rattle.cyl_map.specs.declared.entry.MapEntry.{MapEntry}
use Rattle.ufs_model.specs.Numbers.{has_number}
use Rattle.vol_image.specs.Fault.{Fault, HasLabel, NamesNothing}
use Rattle.vol_image.specs.Part.{is_fixed, reserved}
use Rattle.vol_label.specs.declared.label.Label.{Label}
use Rattle.cfs_recover.proofs.Shown.{one_label}
use Rattle.cfs_check.specs.Items.{AtRoot, HasFound, IsFaultIn, Item}
use Rattle.cfs_check.specs.Marks.{AddsMarks, is_marked}
use Rattle.cfs_check.specs.Opened.{IsWalkTo}
use Rattle.cfs_check.specs.Roots.{Found}
use Rattle.cfs_check.specs.Sized.{AreSized}
use Rattle.cfs_check.specs.Surveyed.{GroundFault, IsEntryFault, IsNoEntry, IsNotReserved, IsStarted, IsSurveyed, IsWholeSurvey, LastFault, MarksFaults, WrongEntry}
use Rattle.cfs_check.specs.Uses.{Use, unused_in}
use Rattle.cfs_check.specs.declared.survey.Survey.{Survey}
use Rattle.cfs_check.specs.declared.survey.Surveyed.{Surveyed}
use Rattle.cfs_check.proofs.Listed.{place_in}
use Rattle.cfs_check.proofs.Told.{bad_shadow_is_fault, in_items_is_fault, object_told}
use Rattle.cfs_check.proofs.Whole.{leaves, one_left}

none_marked : (n k : ℕ) → get_or (replicate n false) k false ≡ false
none_marked zero k = refl
none_marked (suc n) zero = refl
none_marked (suc n) (suc k) = none_marked n k

-- a walk that has taken all
abbrev pub whole_of : (image : Image) (before : List Bool) (s : Survey) → IsWalkTo image before (length s.roots.blocks) s → IsWholeSurvey image s
whole_of image before s walk = record {
  label = walk.label;
  has = walk.has;
  items = walk.items;
  found = walk.knows.found;
  all = λ r has. let at = place_in s.roots.blocks r has in walk.all at.0 r (slice_get_within s.roots.blocks at.0 r at.1) at.1;
  only = walk.only;
}

module _ (image : Image) (long : AreSized image) (label : Label) (has : HasLabel image label) (size : 64 * label.cylinders ≡ length image) (b : Surveyed) (started : IsStarted image label b)
    (s : Survey) (walk : IsWalkTo image b.survey.marks (length s.roots.blocks) s) (marks : List Bool) (last : AddsMarks (LastFault image s.roots.blocks s.uses) s.marks marks) where
  abbrev w : IsWholeSurvey image s
  w = whole_of image b.survey.marks s walk

  some : 3 ≤ length image
  some = let one = has.is_label.some in omega (arith, one, size)

  -- ---- what is marked is a fault

  entry_fault : (n code block : ℕ) → n < length image → (o : Option MapEntry) → entry_in image n ≡ o → WrongEntry n o code block → Fault image code block
  entry_fault n code block below None is (WrongEntry.NoEntry bad) = Fault.NoEntry n below is
  entry_fault n code block below (Some e) is (WrongEntry.NoEntry bad) = Fault.RootOfAnother n e is bad.0 bad.1
  entry_fault n code block below o is (WrongEntry.NotReserved bad) = Fault.NotReserved n below bad.0 (λ same. bad.1 (sym is ∙ same))

  ground_fault : (code n : ℕ) → GroundFault image label code n → Fault image code n
  ground_fault code n (GroundFault.OfEntry c m is) = entry_fault is.block c m is.before (entry_in image is.block) refl is.fault
  ground_fault code n (GroundFault.OfLabel nothing) = Fault.LabelNamesNothing label has nothing

  last_fault : (code n : ℕ) → LastFault image s.roots.blocks s.uses code n → Fault image code n
  last_fault code n (LastFault.OfShadow c m is) = subst (λ (k : ℕ). Fault image k m) (sym is.code_is) (bad_shadow_is_fault image long some s w m is.before is.bad)
  last_fault code n (LastFault.OfRoom few) = Fault.TooFull (unused_in s.uses) (leaves image long s w) few

  each : (code n : ℕ) → code < 12 → is_marked marks code n ≡ true → Fault image code n
  each code n small is = elim (last.only code n small is) [
    | inr now ↦ last_fault code n now
    | inl walked ↦ (elim (walk.knows.only code n small walked) [
      | inr found ↦ in_items_is_fault image long some s w code n found
      | inl ground ↦ (elim (started.marks.only code n small ground) [
        | inr now ↦ ground_fault code n now
        | inl never ↦ (let no : false ≡ true = sym (none_marked (12 * length image) (12 * n + code)) ∙ never in cc)
      ])
    ])
  ]

  -- ---- a fault is marked

  abbrev Marked : ℕ → ℕ → Type 0
  Marked code n = (code < 12) × (is_marked marks code n ≡ true)

  of_ground : (code n : ℕ) → GroundFault image label code n → Marked code n
  of_ground code n is = let at = started.marks.added code n is in (at.0, last.kept code n (walk.knows.kept code n at.1))

  of_items : (code n : ℕ) → IsFaultIn image w.items code n → Marked code n
  of_items code n is = let at = walk.knows.marked code n is in (at.0, last.kept code n at.1)

  of_entry : (n code block : ℕ) → n < length image → WrongEntry n (entry_in image n) code block → Marked code block
  of_entry n code block below wrong = of_ground code block (GroundFault.OfEntry code block (record { block = n; before = below; fault = wrong }))

  no_entry : (n : ℕ) → n < length image → IsNoEntry n (entry_in image n) → Marked codes.no_entry (map_of n)
  no_entry n below is = of_entry n codes.no_entry (map_of n) below (WrongEntry.NoEntry is)

  inside : (n : ℕ) (e : MapEntry) → entry_in image n ≡ Some e → n < length image
  inside n e is = let below = map_in_image image n e is in omega (arith, below, size)

  same_label : (l : Label) → HasLabel image l → l ≡ label
  same_label l is = one_label image l label is has

  all : (code n : ℕ) → Fault image code n → Marked code n
  all code n (Fault.WrongSize l is other) = absurd (other (ap (λ (m : Label). 64 * m.cylinders) (same_label l is) ∙ size))
  all code n (Fault.NoEntry m below none) = no_entry m below (subst (IsNoEntry m) (sym none) tt)
  all code n (Fault.RootOfAnother m e is root other) = no_entry m (inside m e is) (subst (IsNoEntry m) (sym is) (root, other))
  all code n (Fault.NotReserved m below is other) = of_entry m codes.not_owned m below (WrongEntry.NotReserved (is, other))
  all code n (Fault.LabelNamesNothing l is nothing) = of_ground codes.names_nothing 1 (GroundFault.OfLabel (subst (λ (m : Label). NamesNothing image m.root) (same_label l is) nothing))
  all code n (Fault.InObject id c m reached wrong) = elim (object_told image long some s w id reached c m wrong) [
    | inl item ↦ of_items c m item
    | inr shadow ↦ last.added c m (LastFault.OfShadow c m (record { before = shadow.1; bad = shadow.2; code_is = shadow.0 }))
  ]
  all code n (Fault.TooFull left is few) =
      last.added codes.too_full 0 (LastFault.OfRoom (omega (arith, few, one_left image (unused_in s.uses) left (leaves image long s w) is)))

  pub marks_faults : MarksFaults image marks
  marks_faults = record { size = last.size ∙ walk.knows.size; each = each; all = all }

  -- the label's size is right
  pub its_size : (l : Label) → HasLabel image l → 64 * l.cylinders ≡ length image
  its_size l is = ap (λ (m : Label). 64 * m.cylinders) (same_label l is) ∙ size

  -- ---- with what the last step leaves
  pub survey_done : (t : Survey) → t.uses ≡ s.uses → t.roots ≡ s.roots → IsWholeSurvey image t
  survey_done t same_uses same_roots = record {
    label = w.label;
    has = w.has;
    items = w.items;
    found = subst (λ (us : List Use). HasFound image w.items us t.roots) (sym same_uses) (subst (λ (r : Found). HasFound image w.items s.uses r) (sym same_roots) w.found);
    all = λ r is. w.all r (ap (λ (f : Found). has_number r f.blocks) (sym same_roots) ∙ is);
    only = w.only;
  }
