-- The walk over all rooted objects, as one more level of them was looked at.
use Rattle.std.proofs.Common.{◌≡◌, ◌⊎◌, inl, inr, ℕ, zero, suc, ◌+◌, ◌-◌, ◌<◌, ◌≤◌, Bool, true, List, [], ◌∷◌, ◌++◌, length, map, get_or, Some, refl, sym, ◌∙◌, ap, subst, arith, length-append}
use Rattle.std.proofs.lemmas.List.{get_or-map, get_or_append_left, length-map}
use Rattle.std.proofs.lemmas.Bool.{cases_lt}
use Rattle.std.proofs.lemmas.List.Elements.{Contains-append_cases, Contains-append_left, Contains-append_right}
use Rattle.std.proofs.lemmas.Option.{get_or_from_slice_get, slice_get-get_or}
use Rattle.std.specs.List.{AllZip, Contains}
use Rattle.std.specs.Prelude.{slice_get}
use Rattle.cfs_base.specs.Disk.{Image, block_at}
use Rattle.cfs_base.specs.declared.identifier.Puid.{Puid}
use Rattle.cfs_base.specs.declared.kind.Kind.{Kind}
use Rattle.cfs_base.specs.declared.kind.Kind.TheVariants as kinds
use Rattle.cfs_base.specs.declared.kind.Place.{Place}
use Rattle.cfs_base.specs.declared.kind.Place.TheVariants as places
use Rattle.block_tree.specs.Pointers.{levels_below}
use Rattle.block_tree.specs.declared.root.Root.{Root}
use Rattle.cfs_recover.proofs.Named.{named_reached}
use Rattle.cfs_recover.proofs.Objects.{slots_named}
use Rattle.vol_image.specs.Fault.{IsReachedIn, TheRoot}
use Rattle.vol_image.specs.Reading.{slot_in}
use Rattle.vol_image.specs.Seen.{place_above}
use Rattle.cfs_check.specs.Findings.{IsNamedByTwig}
use Rattle.cfs_check.specs.Items.{AtRoot, AtTwig, HasAllOf, IsItemOf, Item, ItemNames, ItsRoot, ItsTwig, Knows}
use Rattle.cfs_check.specs.Opened.{IsFoundBetween, IsWalkTo, OpensBatch}
use Rattle.cfs_check.specs.Roots.{Extends}
use Rattle.cfs_check.specs.Sized.{AreSized}
use Rattle.cfs_check.specs.Twigs.{IsShownBy, Twig, twigs_of}
use Rattle.cfs_check.specs.declared.survey.Survey.{Survey}
use Rattle.cfs_check.proofs.Listed.{has_at}
use Rattle.cfs_check.proofs.Placed.{twigs_placed}

-- ---- lists

pub map_contains : {A B : Type 0} (f : A → B) (xs : List A) (x : A) → Contains xs x → Contains (map f xs) (f x)
map_contains f xs x (k, inside, is) = (k, let long : length (map f xs) ≡ length xs = length-map xs f in omega (arith, inside, long), get_or-map f xs k x (f x) inside ∙ ap f is)

pub contains_map : {A B : Type 0} (f : A → B) (xs : List A) (y : B) → Contains (map f xs) y → (x : A) × Contains xs x × (f x ≡ y)
contains_map f [] y (k, inside, is) = absurd (omega (arith, inside))
contains_map f (x ∷ xs) y (zero, inside, is) = (x, (zero, omega arith, refl), is)
contains_map f (x ∷ xs) y (suc k, inside, is) =
    let rest = contains_map f xs y (k, omega (arith, inside), is) in
    (rest.0, (suc rest.1.0, omega (arith, rest.1.1), rest.1.2), rest.2)

pub all_zip_long : {A B : Type 0} (R : A → B → Type 0) (xs : List A) (ys : List B) → AllZip R xs ys → length xs ≡ length ys
all_zip_long R [] [] zip = refl
all_zip_long R [] (y ∷ ys) zip = absurd zip
all_zip_long R (x ∷ xs) [] zip = absurd zip
all_zip_long R (x ∷ xs) (y ∷ ys) zip = ap suc (all_zip_long R xs ys zip.1)

-- of a longer list the first elements are the same
at_first : (xs more ys : List ℕ) (k x : ℕ) → ys ≡ xs ++ more → k < length xs → slice_get ys k ≡ Some x → slice_get xs k ≡ Some x
at_first xs more ys k x is inside at =
    let here : get_or xs k 0 ≡ x = sym (get_or_append_left xs more 0 k inside) ∙ ap (λ (zs : List ℕ). get_or zs k 0) (sym is) ∙ get_or_from_slice_get ys k x 0 at in
    slice_get-get_or xs k 0 inside ∙ ap Some here

-- ---- what an item of a rooted object names is rooted

pub leaf_level : (h n leaf : ℕ) → place_above (levels_below h) n ≡ places.Leaf leaf → (h ≡ 0) × (n ≡ leaf)
leaf_level zero n leaf is = (refl, cc)
leaf_level (suc h) n leaf is = cc

module _ (image : Image) (long : AreSized image) where
  twig_names : (id : Puid) (root : Root) (t : Twig) → IsReachedIn image id → IsShownBy image id.block root → Contains (twigs_of image id.block root) t
      → (n : ℕ) → IsNamedByTwig image t n → (x : Puid) × IsReachedIn image x × (x.block ≡ n)
  twig_names id root t reached shown has n names =
      let placed = twigs_placed image id root reached shown t has in
      let it = placed.it in
      let named = names.named in
      let leaf = leaf_level it.height it.number names.leaf (ap (λ (u : Twig). u.spot.place) (sym placed.is) ∙ names.is_leaf.place) in
      let block : t.spot.block ≡ it.block = ap (λ (u : Twig). u.spot.block) placed.is in
      let on_disk : it.block < length image = omega (arith, block, names.is_leaf.on_disk) in
      let index : root.kind ≡ kinds.Index = ap (λ (u : Twig). u.extent.kind) (sym placed.is) ∙ names.index in
      let size : t.extent.size ≡ root.size = ap (λ (u : Twig). u.extent.size) placed.is in
      let by = slots_named image id.block root it placed.has leaf.0 index on_disk (long it.block on_disk) named.slot named.id
      (named.has.small, omega (arith, named.has.within, leaf.1, size), ap (λ (b : ℕ). slot_in (block_at image b) named.slot) (sym block) ∙ named.has.is) in
      (named.id, named_reached image named.id it.block by named.names.some named.names.on_disk named.names.word, named.is)

  pub item_names : (i : Item) → IsItemOf image i → (n : ℕ) → ItemNames image i n → (x : Puid) × IsReachedIn image x × (x.block ≡ n)
  item_names i (ItsRoot id reached) n names = absurd names
  item_names i (ItsTwig id root t reached shown has) n names = twig_names id root t reached shown has n names

  -- what was found is rooted
  pub found_reached : (before : List Bool) (done : ℕ) (s : Survey) → IsWalkTo image before done s → (k r : ℕ) → slice_get s.roots.blocks k ≡ Some r → (x : Puid) × IsReachedIn image x × (x.block ≡ r)
  found_reached before done s walk k r at = elim (walk.knows.found.found r (has_at s.roots.blocks k r at)) [
    | inl two ↦ (walk.label.root, TheRoot walk.label walk.has, walk.has.is_label.root ∙ sym two)
    | inr named ↦ item_names named.item (walk.only named.item named.its) r named.names
  ]

  -- ---- one more level

  module _ (before : List Bool) (done next : ℕ) (s t u : Survey) (ts : List Twig) (walk : IsWalkTo image before done s) (opens : OpensBatch image before walk.items s.roots.blocks done next t ts)
      (knows : Knows image before (opens.its ++ map AtTwig ts) u) (extends : Extends s.roots u.roots) (within : next ≤ length s.roots.blocks) where
    abbrev all_items : List Item
    all_items = opens.its ++ map AtTwig ts

    opened_in : (i : Item) → Contains opens.its i → Contains all_items i
    opened_in i has = Contains-append_left opens.its (map AtTwig ts) i has

    listed_in : (x : Twig) → Contains ts x → Contains all_items (AtTwig x)
    listed_in x has = Contains-append_right opens.its (map AtTwig ts) (AtTwig x) (map_contains AtTwig ts x has)

    old_in : (i : Item) → Contains walk.items i → Contains all_items i
    old_in i has = opened_in i (opens.kept i has)

    all_of : (k r : ℕ) → k < next → slice_get s.roots.blocks k ≡ Some r → HasAllOf image all_items r
    all_of k r small at = elim (cases_lt k done) [
      | inl less ↦ (let had = walk.all k r less at in record { root = old_in (AtRoot r) had.root; twigs = λ root x shown has. old_in (AtTwig x) (had.twigs root x shown has) })
      | inr past ↦
          let between : IsFoundBetween s.roots.blocks done next r = record { place = k; low = past; high = small; here = at } in
          record { root = opened_in (AtRoot r) (opens.all r between); twigs = λ root x shown has. listed_in x (opens.listed r root x between shown has) }
    ]

    its_only : (i : Item) → Contains all_items i → IsItemOf image i
    its_only i has = elim (Contains-append_cases opens.its (map AtTwig ts) i has) [
      | inl opened ↦ (elim (opens.only i opened) [
        | inl old ↦ walk.only i old
        | inr (r, between, is) ↦
            let from = found_reached before done s walk between.place r between.here in
            subst (IsItemOf image) (ap AtRoot from.2 ∙ sym is) (ItsRoot from.0 from.1)
      ])
      | inr listed ↦
          let x = contains_map AtTwig ts i listed in
          let of = opens.of_these x.0 x.1 in
          let from = found_reached before done s walk of.2.place of.0 of.2.here in
          subst (IsItemOf image) x.2
          (ItsTwig from.0 of.1 x.0 from.1 (subst (λ (r : ℕ). IsShownBy image r of.1) (sym from.2) of.3) (subst (λ (r : ℕ). Contains (twigs_of image r of.1) x.0) (sym from.2) of.4))
    ]

    pub level_done : IsWalkTo image before next u
    level_done = record {
      label = walk.label;
      has = walk.has;
      items = all_items;
      knows = knows;
      within = omega (arith, within, ap (length {A = ℕ}) extends.is, length-append s.roots.blocks extends.more);
      all = λ k r small at. all_of k r small (at_first s.roots.blocks extends.more u.roots.blocks k r extends.is (omega (arith, small, within)) at);
      only = its_only;
    }
