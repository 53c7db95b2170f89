-- Each block that is listed is one of the tree: a pointer of it leads there.
use Rattle.std.proofs.Common.{◌≡◌, ◌≢◌, inl, inr, ℕ, zero, suc, ◌+◌, ◌-◌, ◌*◌, ◌<◌, List, [], ◌∷◌, ◌++◌, length, get_or, refl, sym, ◌∙◌, ap, subst, arith}
use Rattle.std.proofs.lemmas.List.Elements.{Contains-append_cases}
use Rattle.std.specs.List.{Contains}
use Rattle.cfs_base.specs.Disk.{Image, block_at}
use Rattle.block_tree.specs.Pointers.{Level, leaf_pointers, levels_below, node_levels, node_pointers, pointers_of}
use Rattle.block_tree.specs.Tree.{end_of, pointer}
unfoldable use Rattle.block_tree.specs.Tree.{levels_of, path_to}
use Rattle.block_tree.specs.declared.root.Root.{Root}
use Rattle.cfs_base.specs.declared.identifier.Puid.{Puid}
use Rattle.vol_image.specs.Fault.{IsReachedIn, reader, shown_root}
use Rattle.vol_image.specs.Seen.{place_above}
use Rattle.cfs_recover.proofs.Objects.{node_pointers_of}
use Rattle.cfs_recover.proofs.Trees.{length-pointers}
use Rattle.cfs_recover.specs.Walk.{HasBlock, HasPointers}
use Rattle.cfs_recover.specs.declared.walk_below.Twig as walked
use Rattle.cfs_check.specs.Twigs.{IsShownBy, Stem, Twig, extent_of, rows, twigs_of}
use Rattle.cfs_check.proofs.Twigs.{in_cons}

-- the twig is the block to which a pointer of the object leads
pub record IsPlacedTwig (image : Image) (owner : ℕ) (root : Root) (stem : Stem) (t : Twig) : Type 0 where
  pub it : walked.Twig
  pub has : HasBlock image owner root it
  pub is : t ≡ record {
    spot = record { holder = it.holder; block = it.block; owner = stem.owner; place = place_above (levels_below it.height) it.number };
    extent = stem.extent;
  }

module _ (image : Image) (owner : ℕ) (root : Root) (stem : Stem) where
  module _ (h block number : ℕ) (pointers : List ℕ) (from : HasPointers image owner root (record { block = block; number = number; height = h }) pointers) (k p : ℕ) (ps : List ℕ) (agree : (j : ℕ) → get_or (suc p ∷ ps) j 0 ≡ get_or pointers (k + j) 0) where
    here : suc p ≡ get_or pointers k 0
    here = agree 0 ∙ ap (λ (n : ℕ). get_or pointers n 0) (let e : k + 0 ≡ k = omega arith in e)

    abbrev its : walked.Twig
    its = record { holder = block; block = get_or pointers k 0; number = number * length pointers + k; height = h }

    its_block : HasBlock image owner root its
    its_block = record { at = record { block = block; number = number; height = h }; pointers = pointers; k = k; from = from; is = refl; some = λ none. let no : suc p ≡ 0 = here ∙ none in omega arith }

    itself : (t : Twig) → record { spot = record { holder = block; block = suc p; owner = stem.owner; place = place_above (levels_below h) (number * length pointers + k) }; extent = stem.extent } ≡ t → IsPlacedTwig image owner root stem t
    itself t is = record {
      it = its;
      has = its_block;
      is = sym is ∙ ap (λ (b : ℕ). record { spot = record { holder = block; block = b; owner = stem.owner; place = place_above (levels_below h) (number * length pointers + k) }; extent = stem.extent }) here;
    }

  next : (pointers ps : List ℕ) (k p : ℕ) → ((j : ℕ) → get_or (p ∷ ps) j 0 ≡ get_or pointers (k + j) 0) → (j : ℕ) → get_or ps j 0 ≡ get_or pointers (k + 1 + j) 0
  next pointers ps k p agree j = agree (suc j) ∙ ap (λ (n : ℕ). get_or pointers n 0) (let e : k + suc j ≡ k + 1 + j = omega arith in e)

  one_on : (levels : List Level) (block first k : ℕ) (ps : List ℕ) (t : Twig) → Contains (rows image stem levels block (first + k + 1) ps) t → Contains (rows image stem levels block (first + (k + 1)) ps) t
  one_on levels block first k ps t has = subst (λ (n : ℕ). Contains (rows image stem levels block n ps) t) (let e : first + k + 1 ≡ first + (k + 1) = omega arith in e) has

  rows_placed : (h block number : ℕ) (pointers : List ℕ) → HasPointers image owner root (record { block = block; number = number; height = h }) pointers → (k : ℕ) (ps : List ℕ) → ((j : ℕ) → get_or ps j 0 ≡ get_or pointers (k + j) 0)
      → (t : Twig) → Contains (rows image stem (levels_below h) block (number * length pointers + k) ps) t → IsPlacedTwig image owner root stem t
  rows_placed h block number pointers from k [] agree t has = absurd (omega (arith, has.1))
  rows_placed zero block number pointers from k (zero ∷ ps) agree t has = rows_placed zero block number pointers from (k + 1) ps (next pointers ps k zero agree) t (one_on [] block (number * length pointers) k ps t has)
  rows_placed (suc h) block number pointers from k (zero ∷ ps) agree t has = rows_placed (suc h) block number pointers from (k + 1) ps (next pointers ps k zero agree) t (one_on (levels_below (suc h)) block (number * length pointers) k ps t has)
  rows_placed zero block number pointers from k (suc p ∷ ps) agree t has = elim (in_cons _ _ t has) [
    | inl is ↦ itself zero block number pointers from k p ps agree t is
    | inr rest ↦ rows_placed zero block number pointers from (k + 1) ps (next pointers ps k (suc p) agree) t (one_on [] block (number * length pointers) k ps t rest)
  ]
  rows_placed (suc h) block number pointers from k (suc p ∷ ps) agree t has =
      let n = number * length pointers + k in
      let leaves = pointers_of leaf_pointers (block_at image (suc p)) in
      elim (in_cons _ _ t has) [
        | inl is ↦ itself (suc h) block number pointers from k p ps agree t is
        | inr rest ↦ elim (Contains-append_cases (rows image stem (levels_below h) (suc p) (n * leaf_pointers.count) leaves) _ t rest) [
          | inl below ↦
              let first : n * leaf_pointers.count ≡ n * length leaves + 0 = omega (arith, ap (λ (c : ℕ). n * c) (length-pointers leaf_pointers (block_at image (suc p)))) in
              rows_placed h (suc p) n leaves (node_from h block number pointers from k p ps agree) 0 leaves (λ j. ap (λ (m : ℕ). get_or leaves m 0) (let e : j ≡ 0 + j = omega arith in e)) t
              (subst (λ (m : ℕ). Contains (rows image stem (levels_below h) (suc p) m leaves) t) first below)
          | inr others ↦ rows_placed (suc h) block number pointers from (k + 1) ps (next pointers ps k (suc p) agree) t (one_on (levels_below (suc h)) block (number * length pointers) k ps t others)
        ]
      ]
    where
      node_from : (h block number : ℕ) (pointers : List ℕ) → HasPointers image owner root (record { block = block; number = number; height = suc h }) pointers → (k p : ℕ) (ps : List ℕ) → ((j : ℕ) → get_or (suc p ∷ ps) j 0 ≡ get_or pointers (k + j) 0)
          → HasPointers image owner root (record { block = suc p; number = number * length pointers + k; height = h }) (pointers_of leaf_pointers (block_at image (suc p)))
      node_from h block number pointers from k p ps agree =
          let is = here (suc h) block number pointers from k p ps agree in
          let height : suc h - 1 ≡ h = omega arith in
          subst (λ (b : ℕ). HasPointers image owner root (record { block = b; number = number * length pointers + k; height = h }) (pointers_of leaf_pointers (block_at image b))) (sym is)
          (subst (λ (m : ℕ). HasPointers image owner root (record { block = get_or pointers k 0; number = number * length pointers + k; height = m }) (pointers_of leaf_pointers (block_at image (get_or pointers k 0)))) height
          (node_pointers_of image owner root (its (suc h) block number pointers from k p ps agree) (its_block (suc h) block number pointers from k p ps agree) (λ none. omega (arith, none)) (pointers_of leaf_pointers (block_at image (get_or pointers k 0))) refl))

-- those of an object that is reached and shown
pub twigs_placed : (image : Image) (id : Puid) (root : Root) → IsReachedIn image id → IsShownBy image id.block root → (t : Twig) → Contains (twigs_of image id.block root) t
    → IsPlacedTwig image id.block root (record { owner = id.block; extent = extent_of root }) t
unfolding levels_of path_to
twigs_placed image id root reached shown t has =
    let pointers = pointers_of node_pointers (shown_root image id.block) in
    rows_placed image id.block root (record { owner = id.block; extent = extent_of root }) node_levels (reader image id.block) 0 pointers (record {
      read = record { id = id; reached = reached; shows = shown; owner_is = refl };
      above = [];
      level = node_pointers;
      count = length-pointers node_pointers (shown_root image id.block);
      whole = refl;
      inside = omega arith;
      leads = λ k path. refl;
      here = refl;
    }) 0 pointers (λ j. ap (λ (m : ℕ). get_or pointers m 0) (let e : j ≡ 0 + j = omega arith in e)) t
    (subst (λ (m : ℕ). Contains (rows image (record { owner = id.block; extent = extent_of root }) (levels_below node_levels) (reader image id.block) m pointers) t) (let e : 0 ≡ 0 * length pointers + 0 = omega arith in e) has)
