-- A survey that begins: nothing is marked, no object uses a block, and only the root index is found.
use Rattle.std.proofs.Common.{◌≡◌, ◌≢◌, ◌⊎◌, inl, inr, ℕ, zero, suc, ◌+◌, ◌*◌, ◌<◌, ◌≤◌, Bool, true, false, if◌then◌else◌, List, [], ◌∷◌, length, map, get_or, replicate, refl, sym, ◌∙◌, ap, subst, arith}
use Rattle.std.proofs.lemmas.Bool.{cases_eq, eqb-true, or_cases}
use Rattle.std.proofs.lemmas.List.{length-replicate}
use Rattle.std.proofs.lemmas.List.FromFn.{get_or-map-range_with_len, length-map-range_with_len}
use Rattle.std.specs.List.{Contains, range_with_len}
use Rattle.cfs_base.specs.Disk.{Image}
use Rattle.cfs_base.specs.declared.kind.Place.{Place}
use Rattle.ufs_model.proofs.Rising.{in_cons}
use Rattle.ufs_model.specs.Numbers.{has_number}
use Rattle.vol_image.specs.Fault.{HasLabel}
use Rattle.vol_image.specs.Part.{is_fixed}
use Rattle.vol_label.specs.declared.label.Label.{Label}
use Rattle.cfs_check.specs.Items.{HasFound, IsFaultIn, IsNamedIn, IsUseOf, IsUsedIn, Item, Knows}
use Rattle.cfs_check.specs.Marks.{is_marked}
use Rattle.cfs_check.specs.Opened.{IsWalkTo}
use Rattle.cfs_check.specs.Roots.{Found}
use Rattle.cfs_check.specs.Uses.{Use, first_use, first_uses}
use Rattle.cfs_check.specs.declared.survey.Survey.{Survey}
use Rattle.cfs_check.specs.declared.uses.Use.TheVariants as uses

pub length-first_uses : (n : ℕ) → length (first_uses n) ≡ n
length-first_uses n = length-map-range_with_len first_use 0 n

empty : (i : Item) → ¬ Contains [] i
empty i has = omega (arith, has.1)

first_is : (image : Image) (n : ℕ) (fixed : Bool) → is_fixed n ≡ fixed → IsUseOf image [] n (if fixed then uses.Fixed else uses.Free)
first_is image n true is = (is, λ owner place used. empty used.item used.its)
first_is image n false is = (is, λ owner place used. empty used.item used.its)

only_two : (n : ℕ) → has_number n (2 ∷ []) ≡ true → n ≡ 2
only_two n has = elim (in_cons n 2 [] has) [ inl is ↦ sym is | inr never ↦ cc ]

pub begins : (image : Image) (label : Label) (s : Survey) → HasLabel image label → s.uses ≡ first_uses (length image) → s.roots ≡ record { blocks = 2 ∷ []; room = length image } → length s.marks ≡ 12 * length image → IsWalkTo image s.marks 0 s
begins image label s has uses_are roots_are size = record {
  label = label;
  has = has;
  items = [];
  knows = record {
    size = size;
    kept = λ code n was. was;
    marked = λ code n is. absurd (empty is.item is.its);
    only = λ code n small is. inl is;
    found = record {
      room = ap (λ (f : Found). f.room) roots_are;
      size = ap (length {A = Use}) uses_are ∙ length-first_uses (length image);
      uses = λ n below. subst (IsUseOf image [] n)
          (sym (ap (λ (us : List Use). get_or us n uses.Free) uses_are ∙ get_or-map-range_with_len first_use 0 (length image) n n uses.Free below (omega arith)))
          (first_is image n (is_fixed n) refl);
      found = λ n is. inl (only_two n (ap (λ (f : Found). has_number n f.blocks) (sym roots_are) ∙ is));
      first = ap (λ (f : Found). has_number 2 f.blocks) roots_are;
      named = λ n is. absurd (empty is.item is.its);
      shown = λ r is. absurd (empty _ is);
    };
  };
  within = omega arith;
  all = λ k r below at. absurd (omega (arith, below));
  only = λ i is. absurd (empty i is);
}
