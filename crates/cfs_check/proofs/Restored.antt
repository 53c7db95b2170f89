-- What mending makes of a volume whose faults are of entries alone is sound, and reads as was shown.
use Rattle.std.proofs.Common.{◌≡◌, ◌≢◌, ◌⊎◌, inl, inr, ℕ, zero, suc, ◌+◌, ◌*◌, ◌/◌, ◌%◌, ◌<◌, ◌≤◌, ◌^◌, Bool, true, false, if◌then◌else◌, List, [], ◌∷◌, length, get_or, Option, Some, None, is_some, refl, sym, ◌∙◌, ap, subst, arith}
use Rattle.std.proofs.lemmas.Bool.{cases_eq, cases_lt}
use Rattle.std.specs.List.{range_with_len}
use Rattle.std.specs.Prelude.{IsSome, filter}
use Rattle.cfs_base.specs.Disk.{Image, block_at}
use Rattle.cfs_base.specs.declared.identifier.Puid.{Puid}
use Rattle.cfs_base.specs.declared.kind.Place.{Place}
use Rattle.cfs_base.specs.declared.kind.Place.TheVariants as places
use Rattle.block_tree.specs.Root.{IsRootBlock}
use Rattle.block_tree.specs.Tree.{levels_of, tree_of}
use Rattle.block_tree.specs.declared.root.Root.{Root}
use Rattle.cyl_alloc.specs.Space.{unheld_entry}
use Rattle.cyl_map.proofs.Maps.{length-map_spelling}
use Rattle.cyl_map.proofs.Volumes.{map_in_image}
use Rattle.cyl_map.specs.Volume.{entry_in}
use Rattle.cyl_map.specs.declared.entry.MapEntry.{MapEntry}
use Rattle.cyl_map.specs.declared.state.BlockState.TheVariants.{Allocated}
use Rattle.ufs_model.proofs.Graphs.{object_there}
use Rattle.ufs_model.specs.Graph.{Graph, object_at}
use Rattle.ufs_model.specs.Numbers.{has_number}
use Rattle.ufs_model.specs.declared.object.Object.{Object}
use Rattle.vol_image.proofs.Parts.{not_root, place_inner}
use Rattle.vol_image.proofs.Paths.{held_some, held_there, some_held}
use Rattle.vol_image.proofs.Rising.{here as at_head}
use Rattle.vol_image.proofs.Steps.{not_map}
use Rattle.vol_image.proofs.Views.{held, held_is}
use Rattle.vol_image.specs.Fault.{AsRoot, InTree, IsKeptBlock, IsReachedIn, IsUsed, LeavesBlocks, Shows, one_or, reader, shown_root, shown_tree, standing}
use Rattle.vol_image.specs.Part.{BelongsTo, is_committed, is_fixed, part_at, part_of, reserved, stands_for}
use Rattle.vol_image.specs.Reading.{IsTree, leaf_in, object_with}
use Rattle.vol_image.specs.Seen.{Held, place_at, tree_in}
use Rattle.vol_image.specs.Sight.{first_or, source, source_tree}
unfoldable use Rattle.vol_image.specs.Sight.{shadows, sight}
use Rattle.vol_image.specs.Sound.{Holds, IsSoundAs, ReadsAs, graph_blocks}
use Rattle.vol_owners.specs.Account.{StandsIn}
use Rattle.cfs_recover.proofs.Counted.{left_is}
use Rattle.cfs_recover.proofs.NoFault.{in_kept, kept_in}
use Rattle.cfs_recover.specs.Recovered.{IsClean}
use Rattle.cfs_recover.specs.Survey.{IsIn}
use Rattle.cfs_check.specs.Items.{IsUseOf, IsUsedIn}
use Rattle.cfs_check.specs.Mended.{IsReadByOne, IsRootOf, MendsTo}
use Rattle.cfs_check.specs.Repair.{mended, mended_entries, mended_entry}
use Rattle.cfs_check.specs.Sized.{AreSized}
use Rattle.cfs_check.specs.Surveyed.{IsWholeSurvey}
use Rattle.cfs_check.specs.Uses.{Use, unused_in}
use Rattle.cfs_check.specs.declared.survey.Survey.{Survey}
use Rattle.cfs_check.specs.declared.uses.Use.TheVariants as uses
use Rattle.cfs_check.proofs.Built.{entry_is, is_map, map_is, other_is, root_is, same_size}
use Rattle.cfs_check.proofs.Reading.{HasGoodRoots, graph, graph_closed, graph_has, graph_rooted, in_graph, its_right, its_root, its_shown, object_of, one_stands, root_of, shown_word}
use Rattle.cfs_check.proofs.SameTrees.{SameContent, path_same, same_object}
use Rattle.cfs_check.proofs.Told.{stands_in}
use Rattle.cfs_check.proofs.Whole.{found_all, found_from, kept_back, leaves, root_some, used_back, used_below, used_in}

module _ (image : Image) (whole : AreSized image) (s : Survey) (w : IsWholeSurvey image s) (size : 64 * w.label.cylinders ≡ length image) (few : length image < 2 ^ 32) (only : HasGoodRoots image)
    (single : (n : ℕ) → n < length image → get_or s.uses n uses.Free ≢ uses.Twice) (room : 4 ≤ unused_in s.uses) where
  abbrev g : Graph
  g = graph image whole s w only

  abbrev b : Image
  b = mended image s.roots.blocks s.uses

  abbrev use_of : ℕ → Use
  use_of n = get_or s.uses n uses.Free

  some : 3 ≤ length image
  some = let one = w.has.is_label.some in omega (arith, one, size)

  round : length image % 64 ≡ 0
  round = omega (arith, size)

  long : length b ≡ length image
  long = same_size image whole some few s w

  entry : (n : ℕ) → n < length image → entry_in b n ≡ Some (mended_entry (use_of n))
  entry n below = entry_is image whole some few s w n below round

  -- ---- what a rooted object uses, it uses alone

  by_use : (n r : ℕ) (p : Place) → n < length image → IsUsedIn image w.items n r p → (use_of n ≡ uses.By r p) × (is_fixed n ≡ false)
  by_use n r p below used = at (use_of n) refl (w.found.uses n below)
    where
      at : (u : Use) → use_of n ≡ u → IsUseOf image w.items n u → (use_of n ≡ uses.By r p) × (is_fixed n ≡ false)
      at uses.Free is none = absurd (none.1 r p used)
      at uses.Fixed is none = absurd (none.1 r p used)
      at (uses.By q o) is by = let same = by.2 r p used in (is ∙ (λ i. uses.By (same.0 i) (same.1 i)), by.0)
      at uses.Twice is two = absurd (single n below is)

  back_use : (n r : ℕ) (p : Place) → n < length image → use_of n ≡ uses.By r p → IsUsedIn image w.items n r p
  back_use n r p below is = (subst (IsUseOf image w.items n) is (w.found.uses n below)).1

  module _ (id : Puid) (reached : IsReachedIn image id) where
    abbrev content : List ℕ
    content = shown_root image id.block

    root_below : id.block < length image
    root_below = (root_some image some id reached).1

    root_use : (use_of id.block ≡ uses.By id.block places.Root) × (is_fixed id.block ≡ false)
    root_use = by_use id.block id.block places.Root root_below (used_in image whole s w id reached places.Root id.block AsRoot)

    root_content : block_at b id.block ≡ content
    root_content = root_is image whole some few s w id.block root_below (not_map id.block root_use.1) (found_all image whole s w id reached)

    abbrev its : Root
    its = root_of image whole s w only id reached

    abbrev shown : Shows image id.block its (object_of image whole s w only id reached)
    shown = its_shown image whole s w only id reached

    inner_below : (path : List ℕ) (h : Held) → (shown_tree image id.block).below path ≡ Some h → h.block < length image
    inner_below = (its_right image whole s w only id reached).on_disk

    inner_use : (path : List ℕ) (h : Held) → (shown_tree image id.block).below path ≡ Some h → (use_of h.block ≡ uses.By id.block (place_at (levels_of content) path)) × (is_fixed h.block ≡ false)
    inner_use path h there =
        let below = inner_below path h there in
        by_use h.block id.block (place_at (levels_of content) path) below (used_in image whole s w id reached _ h.block (InTree its (object_of image whole s w only id reached) path h shown there below))

    no_root : (path : List ℕ) (h : Held) → (shown_tree image id.block).below path ≡ Some h → has_number h.block s.roots.blocks ≡ false
    no_root path h there = at (has_number h.block s.roots.blocks) refl
      where
        at : (t : Bool) → has_number h.block s.roots.blocks ≡ t → has_number h.block s.roots.blocks ≡ false
        at false none = none
        at true has =
            let x = found_from image whole s w h.block has in
            let used = by_use h.block x.0.block places.Root (inner_below path h there) (subst (λ (n : ℕ). IsUsedIn image w.items n x.0.block places.Root) x.2 (used_in image whole s w x.0 x.1 places.Root x.0.block AsRoot)) in
            let two : uses.By x.0.block places.Root ≡ uses.By id.block (place_at (levels_of content) path) = sym used.0 ∙ (inner_use path h there).0 in
            let place : place_at (levels_of content) path ≡ places.Root = cc in
            absurd (not_root (place_at (levels_of content) path) (place_inner (levels_of content) path) place)

    keeps : (path : List ℕ) (h : Held) → (tree_in image content).below path ≡ Some h → SameContent image b h
    keeps path h there = other_is image whole some few s w h.block (not_map h.block (inner_use path h there).1) (no_root path h there)

    -- ---- as the new image has it

    -- what stands in the new tree stood in the old one
    record Stood (path : List ℕ) (h : Held) : Type 0 where
      pub n : ℕ
      pub there : (tree_in image content).below path ≡ Some (held image n)
      pub is : h ≡ held b n

    stood : (path : List ℕ) (h : Held) → (tree_in b content).below path ≡ Some h → Stood path h
    stood path h at =
        let here = held_is b (tree_of b content path) h at in
        let same = path_same image b content keeps path in
        record {
          n = tree_of image content path;
          there = held_there image (tree_of image content path) (λ none. here.1 (same ∙ none));
          is = here.0 ∙ ap (held b) same;
        }

    entered : (path : List ℕ) (n : ℕ) → (tree_in image content).below path ≡ Some (held image n) → BelongsTo id.block (place_at (levels_of content) path) (part_at b n)
    entered path n there = record {
      is = record { committed = false; place = Some (place_at (levels_of content) path); owner = id.block };
      here = ap part_of (entry n (inner_below path (held image n) there) ∙ ap (λ (u : Use). Some (mended_entry u)) (inner_use path (held image n) there).0);
      owner_is = refl;
      place_is = refl;
    }

    new_tree : IsTree (length b) id.block (tree_in b content) its (object_of image whole s w only id reached)
    new_tree =
        let right = its_right image whole s w only id reached in
        record {
          spelled = shown.read.spelled;
          object = same_object image b content keeps its;
          on_disk = λ path h at. let was = stood path h at in omega (arith, right.on_disk path (held image was.n) was.there, ap (λ (x : Held). x.block) was.is, long);
          owned = λ path h at. let was = stood path h at in subst (λ (x : Held). BelongsTo id.block (place_at (levels_of content) path) x.part) (sym was.is) (entered path was.n was.there);
          within = λ leaf h at. let was = stood _ h at in right.within leaf (held image was.n) was.there;
          filled = λ leaf i h at below past.
              let was = stood _ h at in
              ap (λ (x : Held). get_or x.content i 0) was.is ∙ ap (λ (c : List ℕ). get_or c i 0) (keeps _ (held image was.n) was.there) ∙ right.filled leaf i (held image was.n) was.there below past;
          leads_on = λ path h at short.
              let was = stood path h at in
              let on = right.leads_on path (held image was.n) was.there short in
              (on.0, held_some b (tree_of b content _) (λ none. some_held image (tree_of image content _) on.1 (sym (path_same image b content keeps _) ∙ none)));
        }

    no_bit : is_committed (part_at b id.block) ≡ false
    no_bit = ap (λ e. is_committed (part_of e)) (entry id.block root_below ∙ ap (λ (u : Use). Some (mended_entry u)) root_use.0)

    none_stand : shadows b id.block ≡ []
    unfolding shadows
    none_stand = ap (λ (t : Bool). if t then filter (λ n. stands_for id.block (entry_in b n)) (range_with_len 0 (length b)) else []) no_bit

    from_itself : source b id.block ≡ id.block
    from_itself = ap (first_or id.block) none_stand

    source_content : block_at b (source b id.block) ≡ content
    source_content = ap (block_at b) from_itself ∙ root_content

    reads : ReadsAs (length b) id (sight b id.block) (object_of image whole s w only id reached)
    unfolding sight
    reads = record {
      part = record {
        is = record { committed = false; place = Some places.Root; owner = id.block };
        here = ap part_of (entry id.block root_below ∙ ap (λ (u : Use). Some (mended_entry u)) root_use.0);
        owner_is = refl;
        place_is = refl;
      };
      root = its;
      spelled = subst (λ (c : List ℕ). IsRootBlock c its) (sym root_content) shown.read.spelled;
      word = shown.read.same.word ∙ shown_word image whole s w only id reached;
      one_shadow = subst (λ (ss : List ℕ). length ss ≤ 1) (sym none_stand) (omega arith);
      source = its;
      same_kind = refl;
      same_word = refl;
      tree = subst (λ (c : List ℕ). IsTree (length b) id.block (tree_in b c) its (object_of image whole s w only id reached)) (sym source_content) new_tree;
    }

    pub read_by_one : IsReadByOne image id (block_at b id.block)
    read_by_one = record {
      one = one_stands image whole s w only id reached;
      own = shown.read.own;
      root = its;
      own_spelled = shown.read.own_spelled;
      spelled = subst (λ (c : List ℕ). IsRootBlock c its) (sym root_content) shown.read.spelled;
      same = shown.read.same;
      shown = sym root_content;
    }

  -- ---- the volume

  inside : (n : ℕ) (e : MapEntry) → entry_in b n ≡ Some e → n < length image
  inside n e is = let below = map_in_image b n e is in omega (arith, below, long, size)

  its_entry : (n : ℕ) (e : MapEntry) → entry_in b n ≡ Some e → e ≡ mended_entry (use_of n)
  its_entry n e is = let two : Some e ≡ Some (mended_entry (use_of n)) = sym is ∙ entry n (inside n e is) in cc

  no_fixed_root : (n : ℕ) → is_fixed n ≡ true → has_number n s.roots.blocks ≡ false
  no_fixed_root n fixed = at (has_number n s.roots.blocks) refl
    where
      at : (t : Bool) → has_number n s.roots.blocks ≡ t → has_number n s.roots.blocks ≡ false
      at false none = none
      at true has =
          let x = found_from image whole s w n has in
          let no : true ≡ false = sym fixed ∙ ap is_fixed (sym x.2) ∙ (root_use x.0 x.1).1 in cc

  label_kept : block_at b 1 ≡ block_at image 1
  label_kept = other_is image whole some few s w 1 (λ none. omega (arith, none)) (no_fixed_root 1 refl)

  owner_is : (n r : ℕ) (p : Place) → n < length image → use_of n ≡ uses.By r p → p ≡ places.Root → r ≡ n
  owner_is n r p below is root = let at = used_back image whole s w n r p (back_use n r p below is) in sym at.2 ∙ here at.0 p n at.3 root
    where
      here : (x : Puid) (q : Place) (m : ℕ) → IsUsed image x.block q m → q ≡ places.Root → x.block ≡ m
      here x q m AsRoot same = refl
      here x q m (InTree root o path h shows at below) same = absurd (not_root _ (place_inner (levels_of (shown_root image x.block)) path) same)

  fixed_entry : (n : ℕ) → n < length image → is_fixed n ≡ true → use_of n ≡ uses.Fixed
  fixed_entry n below fixed = at (use_of n) refl (w.found.uses n below)
    where
      at : (u : Use) → use_of n ≡ u → IsUseOf image w.items n u → use_of n ≡ uses.Fixed
      at uses.Free is none = let no : true ≡ false = sym fixed ∙ none.0 in cc
      at uses.Fixed is none = is
      at (uses.By r p) is by = let no : true ≡ false = sym fixed ∙ by.0 in cc
      at uses.Twice is two = absurd (single n below is)

  its_own : (n : ℕ) (u : Use) (e : MapEntry) → n < length image → use_of n ≡ u → e ≡ mended_entry u → e.place ≡ Some places.Root → e.owner ≡ n
  its_own n uses.Free e below is same root = let no : None ≡ Some places.Root = ap (λ (x : MapEntry). x.place) (sym same) ∙ root in cc
  its_own n uses.Fixed e below is same root = let no : None ≡ Some places.Root = ap (λ (x : MapEntry). x.place) (sym same) ∙ root in cc
  its_own n (uses.By r p) e below is same root =
      let place : Some p ≡ Some places.Root = ap (λ (x : MapEntry). x.place) (sym same) ∙ root in
      let p_root : p ≡ places.Root = cc in
      ap (λ (x : MapEntry). x.owner) same ∙ owner_is n r p below is p_root
  its_own n uses.Twice e below is same root = absurd (single n below is)

  holds : Holds b g
  holds = record {
    label = record {
      label = w.label;
      is_label = w.has.is_label;
      spelled = label_kept ∙ w.has.spelled;
      size_is = omega (arith, size, long);
      root_is = sym (graph_has image whole s w only).root;
    };
    maps = λ n below. subst IsSome (sym (entry n (omega (arith, below, long)))) refl;
    own = λ n e is root. its_own n (use_of n) e (inside n e is) refl (its_entry n e is) root;
    fixed = λ n below is. let inner : n < length image = omega (arith, below, long) in entry n inner ∙ ap (λ (u : Use). Some (mended_entry u)) (fixed_entry n inner is);
    objects = λ id o at.
        let it = (graph_has image whole s w only).each id o at in
        subst (λ (p : Object). ReadsAs (length b) id (sight b id.block) p) (sym it.1) (reads id it.0);
  }

  -- ---- what its objects have

  record IsHad (n : ℕ) : Type 0 where
    pub below : n < length image
    pub owner : ℕ
    pub place : Place
    pub is : use_of n ≡ uses.By owner place

  had_in : (n : ℕ) → IsIn b g n → IsHad n
  had_in n is = at is.here
    where
      reached : IsReachedIn image is.id
      reached = ((graph_has image whole s w only).each is.id is.object is.there).0

      at : (n ≡ is.id.block) ⊎ StandsIn (source_tree b is.id.block) n → IsHad n
      at (inl root) = subst IsHad (sym root) (record { below = root_below is.id reached; owner = is.id.block; place = places.Root; is = (root_use is.id reached).0 })
      at (inr stands) =
          let there = subst (λ (c : List ℕ). (tree_in b c).below stands.path ≡ Some stands.held) (source_content is.id reached) stands.there in
          let was = stood is.id reached stands.path stands.held there in
          let same : was.n ≡ n = sym (ap (λ (x : Held). x.block) was.is) ∙ stands.is in
          subst IsHad same (record {
            below = inner_below is.id reached stands.path (held image was.n) was.there;
            owner = is.id.block;
            place = _;
            is = (inner_use is.id reached stands.path (held image was.n) was.there).0;
          })

  in_had : (n : ℕ) → IsHad n → IsIn b g n
  in_had n had = let at = used_back image whole s w n had.owner had.place (back_use n had.owner had.place had.below had.is) in here at.0 at.1 had.place n at.3
    where
      here : (x : Puid) → IsReachedIn image x → (p : Place) (m : ℕ) → IsUsed image x.block p m → IsIn b g m
      here x reached p m AsRoot = let o = object_there g x (in_graph image whole s w only x reached) in record { id = x; object = o.0; there = o.1; here = inl refl }
      here x reached p m (InTree root o path h shows at below) =
          let o = object_there g x (in_graph image whole s w only x reached) in
          let is = held_is image (tree_of image (shown_root image x.block) path) h at in
          let same = path_same image b (shown_root image x.block) (keeps x reached) path in
          let there : (tree_in b (shown_root image x.block)).below path ≡ Some (held b (tree_of b (shown_root image x.block) path)) = held_there b (tree_of b (shown_root image x.block) path) (λ none. is.1 (sym same ∙ none)) in
          record {
            id = x;
            object = o.0;
            there = o.1;
            here = inr (record {
              path = path;
              held = held b (tree_of b (shown_root image x.block) path);
              there = subst (λ (c : List ℕ). (tree_in b c).below path ≡ Some (held b (tree_of b (shown_root image x.block) path))) (sym (source_content x reached)) there;
              is = same ∙ sym (ap (λ (k : Held). k.block) is.0);
            });
          }

  free_entry : (n : ℕ) (u : Use) (e : MapEntry) → n < length image → use_of n ≡ u → e ≡ mended_entry u → is_fixed n ≡ false → ¬ IsIn b g n → e ≡ unheld_entry
  free_entry n uses.Free e below is same apart none = same
  free_entry n uses.Fixed e below is same apart none = absurd (clash (subst (IsUseOf image w.items n) is (w.found.uses n below)).0)
    where
      clash : is_fixed n ≡ true → ⊥
      clash fixed = let no : true ≡ false = sym fixed ∙ apart in cc
  free_entry n (uses.By r p) e below is same apart none = absurd (none (in_had n (record { below = below; owner = r; place = p; is = is })))
  free_entry n uses.Twice e below is same apart none = same

  clean : IsClean b g
  clean = record {
    free = λ n e is apart none. free_entry n (use_of n) e (inside n e is) refl (its_entry n e is) apart none;
    held = λ n e is has.
        let had = had_in n has in
        let same : e ≡ mended_entry (uses.By had.owner had.place) = its_entry n e is ∙ ap mended_entry had.is in
        (ap (λ (x : MapEntry). x.state) same, ap (λ (x : MapEntry). x.committed) same);
  }

  -- ---- how many blocks are left

  kept_on : (n : ℕ) → IsKeptBlock image n → IsKeptBlock b n
  kept_on n kept =
      let below = used_below image some kept.id kept.reached kept.place n kept.used in
      let at = by_use n kept.id.block kept.place below (used_in image whole s w kept.id kept.reached kept.place n kept.used) in
      in_kept b g holds (graph_closed image whole s w only) (graph_rooted image whole s w only) n (in_had n (record { below = below; owner = kept.id.block; place = kept.place; is = at.0 }))

  kept_from : (n : ℕ) → IsKeptBlock b n → IsKeptBlock image n
  kept_from n kept =
      let had = had_in n (kept_in b g holds (graph_closed image whole s w only) (graph_rooted image whole s w only) n kept) in
      kept_back image whole s w n had.owner had.place (back_use n had.owner had.place had.below had.is)

  leaves_b : LeavesBlocks b (unused_in s.uses)
  leaves_b = let are = leaves image whole s w in record {
    taken = are.taken;
    size = are.size ∙ sym long;
    only = λ n is. elim (are.only n is) [ inl fixed ↦ inl fixed | inr kept ↦ inr (kept_on n kept) ];
    all = λ n below is. are.all n (omega (arith, below, long)) (elim is [ inl fixed ↦ inl fixed | inr kept ↦ inr (kept_from n kept) ]);
    count = are.count;
  }

  sound : IsSoundAs b g
  sound =
      let closed = graph_closed image whole s w only in
      let rooted = graph_rooted image whole s w only in
      let left = left_is b g holds (graph_has image whole s w only).ordered (kept_in b g holds closed rooted) (in_kept b g holds closed rooted) (unused_in s.uses) leaves_b in
      record { holds = holds; graph = closed; reached = rooted; room = omega (arith, left, room) }

  others : (n : ℕ) → n % 64 ≢ 0 → ¬ IsRootOf g n → block_at b n ≡ block_at image n
  others n apart none = at (has_number n s.roots.blocks) refl
    where
      at : (t : Bool) → has_number n s.roots.blocks ≡ t → block_at b n ≡ block_at image n
      at false unfound = other_is image whole some few s w n apart unfound
      at true has =
          let x = found_from image whole s w n has in
          let o = object_there g x.0 (in_graph image whole s w only x.0 x.1) in
          absurd (none (x.0, o.0, o.1, x.2))

  -- ---- its blocks have 512 bytes

  reader_below : (r : ℕ) → r < length image → reader image r < length image
  reader_below r below = at (standing image r) refl
    where
      at : (ss : List ℕ) → standing image r ≡ ss → one_or r ss < length image
      at [] is = below
      at (t ∷ []) is = (stands_in image r t (ap (has_number t) is ∙ at_head t [])).2
      at (t ∷ u ∷ ss) is = below

  sized : AreSized b
  sized n below = elim (cases_eq (n % 64) 0) [
    | inl map ↦
        (let same : 64 * (n / 64) ≡ n = omega (arith, map) in
        ap (length {A = ℕ}) (ap (block_at b) (sym same) ∙ map_is image whole some few s w (n / 64) (omega (arith, same, below, long)))
        ∙ length-map_spelling (mended_entries s.uses (n / 64)) ∙ ap (λ (m : ℕ). 8 * m) (is_map image whole some few s w (n / 64)).long)
    | inr apart ↦ at (has_number n s.roots.blocks) refl apart
  ]
    where
      at : (t : Bool) → has_number n s.roots.blocks ≡ t → n % 64 ≢ 0 → length (block_at b n) ≡ 512
      at true has apart = ap (length {A = ℕ}) (root_is image whole some few s w n (omega (arith, below, long)) apart has) ∙ whole (reader image n) (reader_below n (omega (arith, below, long)))
      at false none apart = ap (length {A = ℕ}) (other_is image whole some few s w n apart none) ∙ whole n (omega (arith, below, long))

  pub mends_to : MendsTo image g b
  mends_to = record {
    size = long;
    whole = sized;
    sound = sound;
    clean = clean;
    roots = λ id o at. read_by_one id ((graph_has image whole s w only).each id o at).0;
    others = others;
  }
