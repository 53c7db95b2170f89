-- Once every rooted object was looked at: what is found is what is rooted, and what is used is what is kept.
use Rattle.std.proofs.Common.{◌≡◌, ◌≢◌, ◌⊎◌, inl, inr, ℕ, zero, suc, ◌+◌, ◌*◌, ◌<◌, ◌≤◌, Bool, true, false, not, List, [], ◌∷◌, length, get_or, map, count_by, Some, refl, sym, ◌∙◌, ap, subst, arith}
use Rattle.std.proofs.lemmas.Bool.{cases_lt}
use Rattle.std.proofs.lemmas.List.{ext_get_or, get_or-map, get_or_past, length-map}
use Rattle.std.proofs.lemmas.List.Sums.{sum_by-cons}
use Rattle.std.specs.List.{Contains}
use Rattle.cfs_base.specs.Disk.{Image, block_at}
use Rattle.cfs_base.specs.declared.identifier.Puid.{Puid}
use Rattle.cfs_base.specs.declared.kind.Place.{Place}
use Rattle.cfs_base.specs.declared.kind.Place.TheVariants as places
use Rattle.block_tree.specs.Pointers.{levels_below}
use Rattle.block_tree.specs.declared.root.Root.{Root}
use Rattle.ufs_model.specs.Graph.{referred}
use Rattle.ufs_model.specs.Identifier.{is_among}
use Rattle.ufs_model.specs.Numbers.{has_number}
use Rattle.ufs_model.specs.declared.object.Object.{Object}
use Rattle.vol_image.specs.Fault.{AsRoot, HasLabel, InTree, IsKeptBlock, IsReachedIn, IsUsed, LeavesBlocks, NamesRoot, Next, Shows, TheRoot, reader, shown_tree}
use Rattle.vol_image.specs.Part.{is_fixed}
use Rattle.vol_image.specs.Reading.{slot_in}
use Rattle.vol_image.specs.Seen.{Held, place_above}
use Rattle.vol_label.specs.declared.label.Label.{Label}
use Rattle.vol_owners.specs.Room.{one_of}
use Rattle.cfs_recover.proofs.Objects as objects
use Rattle.cfs_recover.proofs.Slots.{refers_in}
use Rattle.cfs_check.specs.Checked.{IsUsedTwice}
use Rattle.cfs_check.specs.Items.{AtRoot, AtTwig, HasAllOf, IsItemOf, IsUseOf, IsUsedIn, Item, ItemUses, ItsRoot, ItsTwig}
use Rattle.cfs_check.specs.Sized.{AreSized}
use Rattle.cfs_check.specs.Surveyed.{IsWholeSurvey}
use Rattle.cfs_check.specs.Twigs.{Extent, IsShownBy, Twig, twigs_of}
use Rattle.cfs_check.specs.Uses.{Use, is_unused, unused_in}
use Rattle.cfs_check.specs.declared.survey.Survey.{Survey}
use Rattle.cfs_check.specs.declared.uses.Use.TheVariants as uses
use Rattle.cfs_check.proofs.Along.{held_listed, leaf_listed}
use Rattle.cfs_check.proofs.Placed.{twigs_placed}
use Rattle.cfs_check.proofs.Walking.{item_names}

pub shown_by : (image : Image) (r : ℕ) (root : Root) (o : Object) → Shows image r root o → IsShownBy image r root
shown_by image r root o shows = record { read = shows.read; sort = shows.sort; object = refl }

-- ---- how many blocks are left

-- two such numbers are one
pub one_left : (image : Image) (m n : ℕ) → LeavesBlocks image m → LeavesBlocks image n → m ≡ n
one_left image m n a b = a.count ∙ ap (count_by not) same ∙ sym b.count
  where
    both : (s t : Bool) → (s ≡ true → t ≡ true) → (t ≡ true → s ≡ true) → s ≡ t
    both true t to from = sym (to refl)
    both false true to from = from refl
    both false false to from = refl

    same : a.taken ≡ b.taken
    same = ext_get_or false a.taken b.taken (a.size ∙ sym b.size)
        (λ k below. both _ _ (λ is. b.all k (omega (arith, below, a.size)) (a.only k is)) (λ is. a.all k (omega (arith, below, a.size)) (b.only k is)))

count_used : (of : List Use) → count_by is_unused of ≡ count_by not (map (λ u. not (is_unused u)) of)
count_used [] = refl
count_used (u ∷ of) =
    omega (
      arith,
      sum_by-cons (λ (v : Use). one_of (is_unused v)) u of,
      sum_by-cons (λ (b : Bool). one_of (not b)) (not (is_unused u)) (map (λ v. not (is_unused v)) of),
      count_used of,
      ap one_of (twice (is_unused u)),
    )
  where
    twice : (b : Bool) → not (not b) ≡ b
    twice true = refl
    twice false = refl

-- a root block isn't block 0, and is on the disk
pub root_some : (image : Image) → 3 ≤ length image → (x : Puid) → IsReachedIn image x → (0 < x.block) × (x.block < length image)
root_some image long x (TheRoot l has) = (omega (arith, has.is_label.root), omega (arith, has.is_label.root, long))
root_some image long x (Next i y root o before shows refers names) = (positive y.block names.some, names.on_disk)
  where
    positive : (n : ℕ) → n ≢ 0 → 0 < n
    positive zero some = absurd (some refl)
    positive (suc n) some = omega arith

-- and so is what it uses
pub used_below : (image : Image) → 3 ≤ length image → (x : Puid) → IsReachedIn image x → (p : Place) (n : ℕ) → IsUsed image x.block p n → n < length image
used_below image long x reached p n AsRoot = (root_some image long x reached).1
used_below image long x reached p n (InTree root o path h shows at below) = below

module _ (image : Image) (long : AreSized image) (s : Survey) (w : IsWholeSurvey image s) where
  -- ---- root blocks

  in_block : (t : Twig) (b : ℕ) → t.spot.block ≡ b → (slot : ℕ) (x : Puid) → slot_in (block_at image b) slot ≡ Some x → slot_in (block_at image t.spot.block) slot ≡ Some x
  in_block t b same slot x is = ap (λ (n : ℕ). slot_in (block_at image n) slot) same ∙ is

  next_found : (i x : Puid) (root : Root) (o : Object) → has_number i.block s.roots.blocks ≡ true → Shows image i.block root o → is_among x (referred o) ≡ true → NamesRoot image x → has_number x.block s.roots.blocks ≡ true
  next_found i x root o from shows refers names =
      let shown = shown_by image i.block root o shows in
      let at = refers_in image (reader image i.block) root shows.read.spelled long x (ap (λ (p : Object). is_among x (referred p)) shows.object ∙ refers) in
      let leaf = leaf_listed image i.block root at.number at.held at.here in
      let t = leaf.0 in
      let extent = leaf.1.extent in
      w.found.named x.block (record {
        item = AtTwig t;
        its = (w.all i.block from).twigs root t shown leaf.1.its;
        names = record {
          leaf = at.number;
          is_leaf = record { on_disk = omega (arith, at.on_disk, leaf.2); place = leaf.4 };
          index = ap (λ (e : Extent). e.kind) extent ∙ at.index;
          named = record {
            slot = at.slot;
            id = x;
            before = at.small;
            has = record { small = at.small; within = omega (arith, at.within, ap (λ (e : Extent). e.size) extent); is = in_block t at.held.block leaf.2 at.slot x at.is };
            names = names;
            is = refl;
          };
        };
      })

  pub found_all : (x : Puid) → IsReachedIn image x → has_number x.block s.roots.blocks ≡ true
  found_all x (TheRoot l has) = ap (λ (n : ℕ). has_number n s.roots.blocks) has.is_label.root ∙ w.found.first
  found_all x (Next i y root o before shows refers names) = next_found i x root o (found_all i before) shows refers names

  pub all_of : (x : Puid) → IsReachedIn image x → HasAllOf image w.items x.block
  all_of x reached = w.all x.block (found_all x reached)

  pub found_from : (r : ℕ) → has_number r s.roots.blocks ≡ true → (x : Puid) × IsReachedIn image x × (x.block ≡ r)
  found_from r has = elim (w.found.found r has) [
    | inl two ↦ (w.label.root, TheRoot w.label w.has, w.has.is_label.root ∙ sym two)
    | inr named ↦ item_names image long named.item (w.only named.item named.its) r named.names
  ]

  -- ---- uses

  pub used_in : (id : Puid) → IsReachedIn image id → (p : Place) (n : ℕ) → IsUsed image id.block p n → IsUsedIn image w.items n id.block p
  used_in id reached p n AsRoot = record { item = AtRoot id.block; its = (all_of id reached).root; uses = (refl, refl, refl) }
  used_in id reached p n (InTree root o path h shows at below) =
      let t = held_listed image id.block root path h at in
      record {
        item = AtTwig t.0;
        its = (all_of id reached).twigs root t.0 (shown_by image id.block root o shows) t.1.its;
        uses = (below, sym t.1.owner, sym t.1.place, sym t.2);
      }

  root_back : (id : Puid) → IsReachedIn image id → (n owner : ℕ) (place : Place) → ItemUses image (AtRoot id.block) owner place n → (x : Puid) × IsReachedIn image x × (x.block ≡ owner) × IsUsed image x.block place n
  root_back id reached n owner place its =
      (id, reached, sym its.0, subst (λ (p : Place). IsUsed image id.block p n) (sym its.1) (subst (λ (m : ℕ). IsUsed image id.block places.Root m) (sym its.2) AsRoot))

  twig_back : (id : Puid) (root : Root) (t : Twig) → IsReachedIn image id → IsShownBy image id.block root → Contains (twigs_of image id.block root) t
      → (n owner : ℕ) (place : Place) → ItemUses image (AtTwig t) owner place n → (x : Puid) × IsReachedIn image x × (x.block ≡ owner) × IsUsed image x.block place n
  twig_back id root t reached shown has n owner place its =
      let at = twigs_placed image id root reached shown t has in
      let it = at.it in
      let block : n ≡ it.block = its.3 ∙ ap (λ (u : Twig). u.spot.block) at.is in
      let used = objects.used image id.block root it at.has (omega (arith, block, its.0)) in
      let here : place ≡ place_above (levels_below it.height) it.number = its.2 ∙ ap (λ (u : Twig). u.spot.place) at.is in (
        at.has.from.read.id,
        at.has.from.read.reached,
        sym at.has.from.read.owner_is ∙ sym (its.1 ∙ ap (λ (u : Twig). u.spot.owner) at.is),
        subst (λ (m : ℕ). IsUsed image at.has.from.read.id.block place m) (sym block)
            (subst (λ (p : Place). IsUsed image at.has.from.read.id.block p it.block) (objects.place_is image id.block root it at.has ∙ sym here) used),
      )

  pub used_back : (n owner : ℕ) (place : Place) → IsUsedIn image w.items n owner place → (x : Puid) × IsReachedIn image x × (x.block ≡ owner) × IsUsed image x.block place n
  used_back n owner place used = at used.item (w.only used.item used.its) used.uses
    where
      at : (i : Item) → IsItemOf image i → ItemUses image i owner place n → (x : Puid) × IsReachedIn image x × (x.block ≡ owner) × IsUsed image x.block place n
      at i (ItsRoot id reached) its = root_back id reached n owner place its
      at i (ItsTwig id root t reached shown has) its = twig_back id root t reached shown has n owner place its

  pub kept_back : (n owner : ℕ) (place : Place) → IsUsedIn image w.items n owner place → IsKeptBlock image n
  kept_back n owner place used = let at = used_back n owner place used in record { id = at.0; place = place; reached = at.1; used = at.3 }

  -- ---- what is left

  abbrev use_of : ℕ → Use
  use_of n = get_or s.uses n uses.Free

  taken_so : (n : ℕ) (u : Use) → IsUseOf image w.items n u → not (is_unused u) ≡ true → (is_fixed n ≡ true) ⊎ IsKeptBlock image n
  taken_so n uses.Free is none = cc
  taken_so n uses.Fixed is some = inl is.0
  taken_so n (uses.By r p) is some = inr (kept_back n r p is.1)
  taken_so n uses.Twice (inl two) some = inr (kept_back n two.owner two.place two.used)
  taken_so n uses.Twice (inr one) some = inl one.0

  so_taken : (n : ℕ) (u : Use) → IsUseOf image w.items n u → (is_fixed n ≡ true) ⊎ IsKeptBlock image n → not (is_unused u) ≡ true
  so_taken n uses.Free is (inl fixed) = let no : true ≡ false = sym fixed ∙ is.0 in cc
  so_taken n uses.Free is (inr kept) = absurd (is.1 kept.id.block kept.place (used_in kept.id kept.reached kept.place n kept.used))
  so_taken n uses.Fixed is some = refl
  so_taken n (uses.By r p) is some = refl
  so_taken n uses.Twice is some = refl

  abbrev marks : List Bool
  marks = map (λ u. not (is_unused u)) s.uses

  mark_is : (n : ℕ) → n < length image → get_or marks n false ≡ not (is_unused (use_of n))
  mark_is n below = get_or-map (λ u. not (is_unused u)) s.uses n uses.Free false (omega (arith, below, w.found.size))

  pub leaves : LeavesBlocks image (unused_in s.uses)
  leaves = record {
    taken = marks;
    size = length-map s.uses (λ u. not (is_unused u)) ∙ w.found.size;
    only = λ n is. elim (cases_lt n (length image)) [
      | inl below ↦ taken_so n (use_of n) (w.found.uses n below) (sym (mark_is n below) ∙ is)
      | inr past ↦ (let none = sym (get_or_past marks n false (omega (arith, past, length-map s.uses (λ u. not (is_unused u)), w.found.size))) ∙ is in cc)
    ];
    all = λ n below is. mark_is n below ∙ so_taken n (use_of n) (w.found.uses n below) is;
    count = count_used s.uses;
  }
