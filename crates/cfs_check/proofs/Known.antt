-- What is known of a volume, as one item more is looked at.
use Rattle.std.proofs.Common.{◌≡◌, ◌≢◌, ◌⊎◌, inl, inr, ℕ, ◌+◌, ◌*◌, ◌<◌, ◌≤◌, Bool, true, false, List, [], ◌∷◌, ◌++◌, length, get_or, set, refl, sym, ◌∙◌, ap, subst, arith, get_or-set_other, get_or-set_same, length-set, MatchBool}
use Rattle.std.proofs.lemmas.Bool.{cases_eq, cases_lt}
use Rattle.std.proofs.lemmas.List.Elements.{Contains-append_left, Contains-push, Contains-push_cases}
use Rattle.std.specs.List.{Contains}
use Rattle.cfs_base.specs.Disk.{Image}
use Rattle.cfs_base.specs.declared.kind.Place.{Place}
use Rattle.block_tree.specs.declared.root.Root.{Root}
use Rattle.ufs_model.specs.Numbers.{has_number}
use Rattle.vol_image.specs.Fault.{IsShownRoot}
use Rattle.vol_image.specs.Part.{is_fixed}
use Rattle.cfs_check.specs.Findings.{Decides, IsLookAt, IsNamedByTwig, IsToldBy, TwigFault}
use Rattle.cfs_check.specs.Items.{AtRoot, AtTwig, HasFound, IsFaultIn, IsNamedIn, IsUseOf, IsUsedIn, Item, ItemFault, ItemNames, ItemUses, Knows}
use Rattle.cfs_check.specs.Marks.{AddsMarks, IsToldOf, is_marked}
use Rattle.cfs_check.specs.Roots.{AddsRoots, Found}
use Rattle.cfs_check.specs.Twigs.{Twig}
use Rattle.cfs_check.specs.Uses.{IsUseWith, TakesUse, Use}
use Rattle.cfs_check.specs.declared.findings.Findings.{Findings}
use Rattle.cfs_check.specs.declared.survey.Survey.{Survey}
use Rattle.cfs_check.specs.declared.uses.Use.TheVariants as uses
use Rattle.cfs_check.proofs.Marked.{adds_as}
use Rattle.cfs_check.proofs.Noted.{has_more, retold}

module _ (image : Image) (items : List Item) (i : Item) where
  abbrev more : List Item
  more = items ++ i ∷ []

  old_in : (j : Item) → Contains items j → Contains more j
  old_in j has = Contains-append_left items (i ∷ []) j has

  -- ---- uses

  used_on : (n owner : ℕ) (place : Place) → IsUsedIn image items n owner place → IsUsedIn image more n owner place
  used_on n owner place is = record { item = is.item; its = old_in is.item is.its; uses = is.uses }

  used_back : (n owner : ℕ) (place : Place) → IsUsedIn image more n owner place → IsUsedIn image items n owner place ⊎ ItemUses image i owner place n
  used_back n owner place is = elim (Contains-push_cases items i is.item is.its) [
    | inl was ↦ inl (record { item = is.item; its = was; uses = is.uses })
    | inr same ↦ inr (subst (λ (j : Item). ItemUses image j owner place n) (sym same) is.uses)
  ]

  -- the item doesn't use the block
  use_same : (n : ℕ) (u : Use) → IsUseOf image items n u → ((owner : ℕ) (place : Place) → ¬ ItemUses image i owner place n) → IsUseOf image more n u
  use_same n uses.Free is none = (is.0, λ owner place used. elim (used_back n owner place used) [ inl was ↦ is.1 owner place was | inr now ↦ none owner place now ])
  use_same n uses.Fixed is none = (is.0, λ owner place used. elim (used_back n owner place used) [ inl was ↦ is.1 owner place was | inr now ↦ none owner place now ])
  use_same n (uses.By r p) is none = (is.0, used_on n r p is.1, λ owner place used. elim (used_back n owner place used) [ inl was ↦ is.2 owner place was | inr now ↦ absurd (none owner place now) ])
  use_same n uses.Twice (inl two) none =
      inl (record { owner = two.owner; other = two.other; place = two.place; place_of_other = two.place_of_other; used = used_on n _ _ two.used; used_too = used_on n _ _ two.used_too; differs = two.differs })
  use_same n uses.Twice (inr one) none = inr (one.0, (one.1.0, one.1.1, used_on n one.1.0 one.1.1 one.1.2))

  -- it has one use of it
  use_more : (n owner : ℕ) (place : Place) (u v : Use) → IsUseOf image items n u → IsUseWith u owner place v → ItemUses image i owner place n
      → ((r : ℕ) (p : Place) → ItemUses image i r p n → (owner ≡ r) × (place ≡ p)) → IsUseOf image more n v
  use_more n owner place u v was is its only = at u was is
    where
      now : IsUsedIn image more n owner place
      now = record { item = i; its = Contains-push items i; uses = its }

      at : (u : Use) → IsUseOf image items n u → IsUseWith u owner place v → IsUseOf image more n v
      at uses.Free was is = subst (IsUseOf image more n) (sym is)
          (was.0, now, λ r p used. elim (used_back n r p used) [ inl before ↦ absurd (was.1 r p before) | inr this ↦ only r p this ])
      at uses.Fixed was is = subst (IsUseOf image more n) (sym is) (inr (was.0, (owner, place, now)))
      at (uses.By r p) was (inl is) = subst (IsUseOf image more n) (sym is.2) (
        was.0,
        used_on n r p was.1,
        λ s q used. elim (used_back n s q used) [
          | inl before ↦ was.2 s q before
          | inr this ↦ (let two = only s q this in (is.0 ∙ two.0, is.1 ∙ two.1))
        ],
      )
      at (uses.By r p) was (inr is) = subst (IsUseOf image more n) (sym is.1)
          (inl (record { owner = r; other = owner; place = p; place_of_other = place; used = used_on n r p was.1; used_too = now; differs = is.0 }))
      at uses.Twice (inl two) is = subst (IsUseOf image more n) (sym is)
          (inl (record { owner = two.owner; other = two.other; place = two.place; place_of_other = two.place_of_other; used = used_on n _ _ two.used; used_too = used_on n _ _ two.used_too; differs = two.differs }))
      at uses.Twice (inr one) is = subst (IsUseOf image more n) (sym is) (inr (one.0, (one.1.0, one.1.1, used_on n one.1.0 one.1.1 one.1.2)))

  pub none_used : (of : List Use) → ((n : ℕ) → n < length image → IsUseOf image items n (get_or of n uses.Free)) → ((n owner : ℕ) (place : Place) → n < length image → ¬ ItemUses image i owner place n)
      → (n : ℕ) → n < length image → IsUseOf image more n (get_or of n uses.Free)
  none_used of are none n below = use_same n (get_or of n uses.Free) (are n below) (λ owner place. none n owner place below)

  pub one_used : (old new : List Use) (block owner : ℕ) (place : Place) → length old ≡ length image → TakesUse old new block owner place
      → ((n : ℕ) → n < length image → IsUseOf image items n (get_or old n uses.Free))
      → (block < length image → ItemUses image i owner place block) → ((n r : ℕ) (p : Place) → ItemUses image i r p n → (n ≡ block) × (owner ≡ r) × (place ≡ p))
      → (n : ℕ) → n < length image → IsUseOf image more n (get_or new n uses.Free)
  one_used old new block owner place size takes are its only n below = elim (cases_eq n block) [
    | inl same ↦
        let there : block < length image = omega (arith, below, same) in
        let value : get_or new n uses.Free ≡ takes.it = (λ j. get_or (takes.put j) (same j) uses.Free) ∙ get_or-set_same old block takes.it uses.Free (omega (arith, there, size)) in
        subst (IsUseOf image more n) (sym value)
        (subst (λ (m : ℕ). IsUseOf image more m takes.it) (sym same)
        (use_more block owner place (get_or old block uses.Free) takes.it (are block there) takes.is (its there) (λ r p this. let two = only block r p this in (two.1, two.2))))
    | inr other ↦
        let value : get_or new n uses.Free ≡ get_or old n uses.Free = ap (λ (us : List Use). get_or us n uses.Free) takes.put ∙ get_or-set_other old block n takes.it uses.Free other in
        subst (IsUseOf image more n) (sym value) (use_same n (get_or old n uses.Free) (are n below) (λ r p this. other (only n r p this).0))
  ]

  -- ---- all

  module _ (before : List Bool) (s t : Survey) (knows : Knows image before items s) (marks : AddsMarks (ItemFault image i) s.marks t.marks) (size : length t.uses ≡ length s.uses)
      (are : (n : ℕ) → n < length image → IsUseOf image more n (get_or t.uses n uses.Free)) (roots : AddsRoots (ItemNames image i) s.roots t.roots)
      (shown : (r : ℕ) → i ≡ AtRoot r → ((root : Root) × IsShownRoot image r root) ⊎ ((root : Root) → ¬ IsShownRoot image r root)) where
    fault_back : (code n : ℕ) → IsFaultIn image more code n → IsFaultIn image items code n ⊎ ItemFault image i code n
    fault_back code n is = elim (Contains-push_cases items i is.item is.its) [
      | inl was ↦ inl (record { item = is.item; its = was; fault = is.fault })
      | inr same ↦ inr (subst (λ (j : Item). ItemFault image j code n) (sym same) is.fault)
    ]

    pub knows_more : Knows image before more t
    knows_more = record {
      size = marks.size ∙ knows.size;
      kept = λ code n was. marks.kept code n (knows.kept code n was);
      marked = λ code n is. elim (fault_back code n is) [
        | inl was ↦ (let at = knows.marked code n was in (at.0, marks.kept code n at.1))
        | inr now ↦ marks.added code n now
      ];
      only = λ code n small is. elim (marks.only code n small is) [
        | inl was ↦ (elim (knows.only code n small was) [
          | inl first ↦ inl first
          | inr fault ↦ inr (record { item = fault.item; its = old_in fault.item fault.its; fault = fault.fault })
        ])
        | inr now ↦ inr (record { item = i; its = Contains-push items i; fault = now })
      ];
      found = record {
        room = roots.room ∙ knows.found.room;
        size = size ∙ knows.found.size;
        uses = are;
        found = λ n has. elim (roots.only n has) [
          | inl was ↦ (elim (knows.found.found n was) [
            | inl two ↦ inl two
            | inr named ↦ inr (record { item = named.item; its = old_in named.item named.its; names = named.names })
          ])
          | inr now ↦ inr (record { item = i; its = Contains-push items i; names = now })
        ];
        first = has_on 2 knows.found.first;
        named = λ n is. elim (Contains-push_cases items i is.item is.its) [
          | inl was ↦ has_on n (knows.found.named n (record { item = is.item; its = was; names = is.names }))
          | inr same ↦ roots.added n (subst (λ (j : Item). ItemNames image j n) (sym same) is.names)
        ];
        shown = λ r has. elim (Contains-push_cases items i (AtRoot r) has) [
          | inl was ↦ knows.found.shown r was
          | inr same ↦ shown r same
        ];
      };
    }
      where
        has_on : (n : ℕ) → has_number n s.roots.blocks ≡ true → has_number n t.roots.blocks ≡ true
        has_on n has = ap (has_number n) roots.is ∙ has_more s.roots.blocks roots.more n has

-- ---- a block of a tree

pub told_so : (P : Type 0) (b : Bool) → Decides b P → b ≡ true → P
told_so P true is so = is
told_so P false is so = cc

pub so_told : (P : Type 0) (b : Bool) → Decides b P → P → b ≡ true
so_told P true is so = refl
so_told P false none so = absurd (none so)

-- what was found is what is wrong with it
pub twig_faults : (image : Image) (known : List ℕ) (t : Twig) (f : Findings) (old new : List Bool) → IsLookAt image known t f → t.spot.block < length image → AddsMarks (IsToldBy f t.spot.block) old new → AddsMarks (TwigFault image t) old new
twig_faults image known t f old new look below adds = adds_as (IsToldBy f t.spot.block) (TwigFault image t) old new adds to from
  where
    to : (code n : ℕ) → IsToldBy f t.spot.block code n → TwigFault image t code n
    to code n (IsToldBy.NotOwned is) = TwigFault.NotOwned (told_so _ f.not_owned look.not_owned is)
    to code n (IsToldBy.BadName is) = TwigFault.BadName (told_so _ f.names_nothing look.content.names_nothing is)
    to code n (IsToldBy.LateLeaf is) = TwigFault.LateLeaf (told_so _ f.late_leaf look.content.late_leaf is)
    to code n (IsToldBy.LateByte is) = TwigFault.LateByte (told_so _ f.late_byte look.content.late_byte is)
    to code n (IsToldBy.DeadEnd is) = TwigFault.DeadEnd (told_so _ f.dead_end look.content.dead_end is)

    from : (code n : ℕ) → TwigFault image t code n → IsToldBy f t.spot.block code n
    from code n (TwigFault.PastDisk past) = absurd (omega (arith, past, below))
    from code n (TwigFault.NotOwned is) = IsToldBy.NotOwned (so_told _ f.not_owned look.not_owned is)
    from code n (TwigFault.BadName is) = IsToldBy.BadName (so_told _ f.names_nothing look.content.names_nothing is)
    from code n (TwigFault.LateLeaf is) = IsToldBy.LateLeaf (so_told _ f.late_leaf look.content.late_leaf is)
    from code n (TwigFault.LateByte is) = IsToldBy.LateByte (so_told _ f.late_byte look.content.late_byte is)
    from code n (TwigFault.DeadEnd is) = IsToldBy.DeadEnd (so_told _ f.dead_end look.content.dead_end is)

-- it isn't on the disk
pub past_fault : (image : Image) (t : Twig) (old new : List Bool) → length image ≤ t.spot.block → AddsMarks (IsToldOf true 4 t.spot.holder) old new → AddsMarks (TwigFault image t) old new
past_fault image t old new past adds = adds_as (IsToldOf true 4 t.spot.holder) (TwigFault image t) old new adds (λ code n is. retold (TwigFault image t) true 4 t.spot.holder code n is (TwigFault.PastDisk past)) from
  where
    from : (code n : ℕ) → TwigFault image t code n → IsToldOf true 4 t.spot.holder code n
    from code n (TwigFault.PastDisk is) = record { is_told = refl; code_is = refl; block_is = refl }
    from code n (TwigFault.NotOwned is) = absurd (omega (arith, is.0, past))
    from code n (TwigFault.BadName is) = absurd (omega (arith, is.1.on_disk, past))
    from code n (TwigFault.LateLeaf is) = absurd (omega (arith, is.1.on_disk, past))
    from code n (TwigFault.LateByte is) = absurd (omega (arith, is.1.on_disk, past))
    from code n (TwigFault.DeadEnd is) = absurd (omega (arith, is.0.on_disk, past))
