-- How many blocks an object and its draft have, by the entries.
use Rattle.std.proofs.Common.{◌≡◌, ◌⊎◌, inl, inr, ℕ, suc, ◌+◌, ◌<◌, List, [], ◌∷◌, length, get_or, Bool, true, Option, Some, None, refl, sym, ◌∙◌, ap, subst, arith}
use Rattle.vol_owners.proofs.Words.{BlockState, Graph, HasDraft, HasDraftIf, HasItsBlocks, Holds, Image, IsBlockOf, IsTree, MapEntry, Object, Opened, Puid, StandsIn, Tree, below_apart, block_at, blocks_are, blocks_of, both_ways, content_of, entry_in, false_from_ne_true, first_or, has_number, here, in_cons, in_image, is_had, is_inner, is_meant, is_meant_for, is_owned_by, later, levels_of, levels_standing, no_shadows, object_at, one_of, option_to_list, place_inner, root_placed, same_Some, shadow_taken, sight, source, stands_for, sum_by, sum_by-cons, tree_in, tree_placed}
use Rattle.block_tree.specs.declared.root.Root as roots
use Rattle.vol_owners.proofs.Sums.{count_in, run_zeros}
use Rattle.vol_owners.proofs.Differ.{count_of_these}
use Rattle.vol_owners.proofs.Entries.{stands_meant}
use Rattle.vol_owners.proofs.Standing.{blocks_standing, is_standing, length-down, levels_all, standing_differ, standing_is}

abbrev pub count_of : (BlockState → Bool) → Image → ℕ → ℕ
count_of test image r = count_in (λ n. is_owned_by test r (entry_in image n)) 0 (length image)

-- ---- one block, and those in a tree that pass a test

-- where a block that isn't in the tree, and all in it that pass a second test, are what passes the first
module _ (p test : ℕ → Bool) (image : Image) (size owner : ℕ) (content : List ℕ) (root : roots.Root) (o : Object) (fits : IsTree size owner (tree_in image content) root o) where
  abbrev tree : Tree
  tree = tree_in image content

  pub count_with_tree : (r : ℕ) → ((StandsIn tree r → ⊥)) → (r < size) → (p r ≡ true) → ((n : ℕ) → StandsIn tree n → test n ≡ true → p n ≡ true) → ((n : ℕ) → p n ≡ true → (n ≡ r) ⊎ (StandsIn tree n × (test n ≡ true)))
      → count_in p 0 size ≡ 1 + sum_by length (levels_standing test tree (length (levels_of content)))
  count_with_tree r apart below passed standing only =
      let blocks = blocks_standing image size owner content root o fits test in
      let all : count_in p 0 size ≡ length (r ∷ blocks) = count_of_these p (r ∷ blocks) size (record {
        differ = (false_from_ne_true _ (λ h. apart (standing_is image size owner content root o fits test r h).0), standing_differ image size owner content root o fits test);
        each = λ n h. elim (in_cons n r blocks h) [
          | inl is ↦ subst (λ (m : ℕ). (m < size) × (p m ≡ true)) is (below, passed)
          | inr lower ↦
              let s = standing_is image size owner content root o fits test n lower in
              (subst (λ (m : ℕ). m < size) s.0.is (fits.on_disk s.0.path s.0.held s.0.there), standing n s.0 s.1)
        ];
        no_other = λ n h. elim (only n h) [
          | inl is ↦ subst (λ (m : ℕ). has_number m (r ∷ blocks) ≡ true) (sym is) (here r blocks)
          | inr s ↦ later n r blocks (is_standing image size owner content root o fits test n s.0 s.1)
        ];
      }) in
      omega (arith, all, length-down test tree (length (levels_of content)))

  -- the same with no other block
  pub count_tree : ((n : ℕ) → StandsIn tree n → test n ≡ true → p n ≡ true) → ((n : ℕ) → p n ≡ true → StandsIn tree n × (test n ≡ true)) → count_in p 0 size ≡ sum_by length (levels_standing test tree (length (levels_of content)))
  count_tree standing only =
      let blocks = blocks_standing image size owner content root o fits test in
      let all : count_in p 0 size ≡ length blocks = count_of_these p blocks size (record {
        differ = standing_differ image size owner content root o fits test;
        each = λ n h. let s = standing_is image size owner content root o fits test n h in (subst (λ (m : ℕ). m < size) s.0.is (fits.on_disk s.0.path s.0.held s.0.there), standing n s.0 s.1);
        no_other = λ n h. let s = only n h in is_standing image size owner content root o fits test n s.0 s.1;
      }) in
      omega (arith, all, length-down test tree (length (levels_of content)))

-- ---- an object

pub count_had : (image : Image) (g : Graph) → Holds image g → (id : Puid) (o : Object) → object_at g id ≡ Some o → HasItsBlocks image id.block → count_of is_had image id.block ≡ blocks_of o
unfolding sight
count_had image g holds id o at has =
    let reads = holds.objects id o at in
    let root = root_placed image (length image) id o reads in
    let content = block_at image (source image id.block) in
    count_with_tree (λ n. is_owned_by is_had id.block (entry_in image n)) (λ n. true) image (length image) id.block content reads.source o reads.tree id.block
    (λ s. below_apart image (length image) id.block content reads.source o reads.tree root s.path s.held s.there s.is)
    (in_image image g holds id.block root.taken.is root.taken.here)
    (has.each id.block (inl refl))
    (λ n s passed. has.each n (inr (inr (s.path, s.held, s.there, s.is))))
    (λ n h. which n (has.no_other n h))
    ∙ ap (λ (levels : List (List ℕ)). 1 + sum_by length levels) (levels_all (tree_in image content) (length (levels_of content)))
    ∙ blocks_are image (length image) id.block content reads.source o reads.tree
  where
    which : (n : ℕ) → IsBlockOf image id.block n → (n ≡ id.block) ⊎ (StandsIn (tree_in image (block_at image (source image id.block))) n × (true ≡ true))
    which n (inl is) = inl is
    which n (inr (inl is)) = inl (is ∙ ap (λ ss. first_or id.block ss) (no_shadows image id.block has.no_bit))
    which n (inr (inr (p, h, v, is))) = inr (record { path = p; held = h; there = v; is = is }, refl)

-- ---- a draft

pub same_sums : (xs ys : List (List ℕ)) → ((k : ℕ) → get_or xs k [] ≡ get_or ys k []) → sum_by length xs ≡ sum_by length ys
same_sums [] [] same = refl
same_sums [] (y ∷ ys) same = omega (arith, sum_by-cons (length {A = ℕ}) y ys, ap (length {A = ℕ}) (same 0), same_sums [] ys (λ k. same (suc k)))
same_sums (x ∷ xs) [] same = omega (arith, sum_by-cons (length {A = ℕ}) x xs, ap (length {A = ℕ}) (same 0), same_sums xs [] (λ k. same (suc k)))
same_sums (x ∷ xs) (y ∷ ys) same =
    omega (arith, sum_by-cons (length {A = ℕ}) x xs, sum_by-cons (length {A = ℕ}) y ys, ap (length {A = ℕ}) (same 0), same_sums xs ys (λ k. same (suc k)))

-- a shadow root stands in no tree of its object
pub shadow_apart : (image : Image) (size : ℕ) (r s : ℕ) (content : List ℕ) (root : roots.Root) (o : Object) → IsTree size r (tree_in image content) root o → stands_for r (entry_in image s) ≡ true → StandsIn (tree_in image content) s → ⊥
shadow_apart image size r s content root o fits stands at =
    let shadow = shadow_taken image r s stands in
    let inner = tree_placed image size r content root o fits at.path at.held at.there in
    let entries : inner.taken.is ≡ shadow.taken.is = same_Some _ _ (sym inner.taken.here ∙ ap (entry_in image) at.is ∙ shadow.taken.here) in
    let places = same_Some _ _ (sym inner.place_is ∙ ap (λ (e : MapEntry). e.place) entries ∙ shadow.place_is) in
    both_ways _ (ap is_inner places) (place_inner (levels_of content) at.path)

-- the shadow root and the fresh blocks
abbrev pub own_blocks : Opened → ℕ
own_blocks d = length (option_to_list d.shadow) + sum_by length d.draft.fresh

count_meant : (image : Image) (g : Graph) → Holds image g → (id : Puid) (d : Opened) → HasDraft image id d → count_of is_meant image id.block ≡ own_blocks d
count_meant image g holds id d has = by d.shadow refl ∙ ap (λ (k : ℕ). length (option_to_list d.shadow) + k) (sym (same_sums d.draft.fresh (levels_standing meant tree (length (levels_of (content_of d)))) has.fresh))
  where
    meant : ℕ → Bool
    meant = is_meant_for image id.block

    tree : Tree
    tree = tree_in image (content_of d)

    by : (o : Option ℕ) → d.shadow ≡ o → count_of is_meant image id.block ≡ length (option_to_list d.shadow) + sum_by length (levels_standing meant tree (length (levels_of (content_of d))))
    by None is =
        let alone = count_tree meant meant image (length image) id.block (content_of d) d.root d.draft.object has.tree (λ n s passed. passed)
        (λ n h. elim (has.no_other n h) [ inl shadow ↦ absurd (let none : None ≡ Some n = sym is ∙ shadow in cc) | inr s ↦ (s, h) ]) in
        omega (arith, alone, ap (λ (o : Option ℕ). length (option_to_list o)) is)
    by (Some s) is =
        let stood = has.shadow s is in
        let shadow = shadow_taken image id.block s stood in
        count_with_tree meant meant image (length image) id.block (content_of d) d.root d.draft.object has.tree s
        (λ at. shadow_apart image (length image) id.block s (content_of d) d.root d.draft.object has.tree stood at)
        (in_image image g holds s shadow.taken.is shadow.taken.here)
        (stands_meant id.block (entry_in image s) stood)
        (λ n at passed. passed)
        (λ n h. elim (has.no_other n h) [ inl there ↦ inl (same_Some _ _ (sym there ∙ is)) | inr at ↦ inr (at, h) ])
        ∙ ap (λ (o : Option ℕ). length (option_to_list o) + sum_by length (levels_standing meant tree (length (levels_of (content_of d))))) (sym is)

-- those of the draft, if there is one
abbrev pub own_blocks_if : Option Opened → ℕ
own_blocks_if None = 0
own_blocks_if (Some d) = own_blocks d

pub count_drafts : (image : Image) (g : Graph) → Holds image g → (id : Puid) (d : Option Opened) → HasDraftIf image id d → count_of is_meant image id.block ≡ own_blocks_if d
count_drafts image g holds id None none = run_zeros (λ n. one_of (is_meant_for image id.block n)) 0 (length image) (λ n. ap one_of (none n))
count_drafts image g holds id (Some d) has = count_meant image g holds id d has
