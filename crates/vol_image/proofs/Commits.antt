-- A commit: its bit is set, the draft's root is copied, and the blocks are settled.
use Rattle.std.proofs.Common.{◌≡◌, ◌≢◌, inl, inr, ℕ, ◌+◌, ◌<◌, List, [], ◌∷◌, length, set, length-set, Bool, true, Some, refl, sym, ◌∙◌, ap, subst, arith}
use Rattle.vol_image.proofs.Words.{Free, Graph, Held, Holds, Image, IsDraft, IsEntry, IsReadBy, IsTaken, IsTree, MapEntry, Object, Puid, ReadsAs, Root, SameAt, ShadowRoot, Tree, block_at, block_at-with_entry, with_commit_bit, entry_in, entry_in-set, entry_in-with_entry_other, entry_in-with_entry_same, filter, first_or, fun_ext, get_or-set_other, get_or-set_same, length-with_entry, object_at, part_of, range_with_len, root_from_source, same_Some, same_or_not, shadows, sight, source, stands_for, tree_in, with_entry, with_object}
use Rattle.vol_image.proofs.Alone.{one_passes}
use Rattle.vol_image.proofs.Views.{same_tree}
use Rattle.vol_image.proofs.Law.{same_shadows}
use Rattle.vol_image.proofs.Parts.{IsPlaced, taken_part, shadow_taken, tree_placed, below_apart, root_placed, taken_apart, in_image}
use Rattle.vol_image.proofs.Steps.{not_map, frames_begin, frames_content, frames_entry}
use Rattle.vol_image.proofs.Changes.{others, hold_others, object_put, owned_is_loose}

-- ---- the bit

module _ (a : Image) (g : Graph) (id : Puid) (was : Object) (e : MapEntry) (holds : Holds a g) (at : object_at g id ≡ Some was) (here : entry_in a id.block ≡ Some e) (valid : IsEntry (with_commit_bit e)) where
  seen : ReadsAs (length a) id (sight a id.block) was
  seen = holds.objects id was at

  at_root : IsPlaced a id.block id.block Root
  at_root = root_placed a (length a) id was seen

  entry_is : at_root.taken.is ≡ e
  entry_is = same_Some _ _ (sym at_root.taken.here ∙ here)

  real : e.state ≢ Free
  real = subst (λ (x : MapEntry). x.state ≢ Free) entry_is at_root.taken.taken

  entry_now : entry_in (with_entry a id.block (with_commit_bit e)) id.block ≡ Some (with_commit_bit e)
  entry_now = entry_in-with_entry_same a id.block (with_commit_bit e) e here valid

  -- another block that an object owns
  same_taken : (n owner : ℕ) → IsTaken a n owner → n ≢ id.block → SameAt a (with_entry a id.block (with_commit_bit e)) n
  same_taken n owner has apart = record {
    part = ap part_of (entry_in-with_entry_other a id.block (with_commit_bit e) e n here apart);
    content = block_at-with_entry a id.block (with_commit_bit e) n (λ same. not_map n (taken_apart a g holds n owner has) (omega (arith, same)));
  }

  stands_same : (n : ℕ) → stands_for id.block (entry_in (with_entry a id.block (with_commit_bit e)) n) ≡ stands_for id.block (entry_in a n)
  stands_same n = elim (same_or_not n id.block) [
    | inl same ↦ rw (same, entry_now, here) refl
    | inr apart ↦ ap (stands_for id.block) (entry_in-with_entry_other a id.block (with_commit_bit e) e n here apart)
  ]

  root_content : block_at (with_entry a id.block (with_commit_bit e)) id.block ≡ block_at a id.block
  root_content = block_at-with_entry a id.block (with_commit_bit e) id.block (λ same. not_map id.block (taken_apart a g holds id.block id.block at_root.taken) (omega (arith, same)))

  module _ (s : ℕ) (o : Object) (draft : IsDraft a id.block s o) where
    shadow_same : SameAt a (with_entry a id.block (with_commit_bit e)) s
    shadow_same =
        let shadow = shadow_taken a id.block s draft.stands in
        same_taken s id.block shadow.taken (λ is.
        let entries : shadow.taken.is ≡ at_root.taken.is = same_Some _ _ (sym shadow.taken.here ∙ ap (entry_in a) is ∙ at_root.taken.here) in
        let no : Some ShadowRoot ≡ Some Root = sym shadow.place_is ∙ ap (λ (x : MapEntry). x.place) entries ∙ at_root.place_is in cc)

    inner_same : (path : List ℕ) (h : Held) → (tree_in a (block_at a s)).below path ≡ Some h → SameAt a (with_entry a id.block (with_commit_bit e)) h.block
    inner_same path h v =
        same_taken h.block id.block (tree_placed a (length a) id.block (block_at a s) draft.shadow o draft.tree path h v).taken
        (below_apart a (length a) id.block (block_at a s) draft.shadow o draft.tree at_root path h v)

    -- the draft's tree is seen as it was
    draft_tree : tree_in (with_entry a id.block (with_commit_bit e)) (block_at (with_entry a id.block (with_commit_bit e)) s) ≡ tree_in a (block_at a s)
    draft_tree = ap (tree_in (with_entry a id.block (with_commit_bit e))) shadow_same.content ∙ same_tree a (with_entry a id.block (with_commit_bit e)) (block_at a s) inner_same

    now_shadows : shadows (with_entry a id.block (with_commit_bit e)) id.block ≡ s ∷ []
    unfolding shadows
    now_shadows =
        let shadow = shadow_taken a id.block s draft.stands in
        let below : s < 0 + length a = omega (arith, in_image a g holds s shadow.taken.is shadow.taken.here) in
        rw (entry_now, taken_part e.state true e.place e.owner real, length-with_entry a id.block (with_commit_bit e))
        (ap (λ (P : ℕ → Bool). filter P (range_with_len 0 (length a))) (fun_ext stands_same) ∙ one_passes (λ n. stands_for id.block (entry_in a n)) s draft.alone 0 (length a) draft.stands (omega arith) below)

    pub read_by : IsReadBy a (with_entry a id.block (with_commit_bit e)) id.block s
    read_by = record { source_is = ap (first_or id.block) now_shadows; stands = stands_same; tree = draft_tree }

    -- the object is its draft
    now_object : ReadsAs (length a) id (sight (with_entry a id.block (with_commit_bit e)) id.block) o
    unfolding sight
    now_object =
        let b = with_entry a id.block (with_commit_bit e) in
        let tree : tree_in b (block_at b (source b id.block)) ≡ tree_in a (block_at a s) = ap (λ ss. tree_in b (block_at b (first_or id.block ss))) now_shadows ∙ draft_tree in
        record {
          part = record {
            is = record { committed = true; place = e.place; owner = e.owner };
            here = ap part_of entry_now ∙ taken_part e.state true e.place e.owner real;
            owner_is = ap (λ (x : MapEntry). x.owner) (sym entry_is) ∙ at_root.taken.owned;
            place_is = ap (λ (x : MapEntry). x.place) (sym entry_is) ∙ at_root.place_is;
          };
          root = seen.root;
          spelled = rw root_content seen.spelled;
          word = seen.word;
          one_shadow = rw now_shadows (omega arith);
          source = draft.shadow;
          same_kind = (draft.same seen.root seen.spelled).0;
          same_word = (draft.same seen.root seen.spelled).1;
          tree = subst (λ (t : Tree). IsTree (length a) id.block t draft.shadow o) (sym tree) draft.tree;
        }

    pub committed_holds : Holds (with_entry a id.block (with_commit_bit e)) (with_object g id o)
    committed_holds =
        let loose = owned_is_loose a g id was holds at id.block at_root.taken in
        let others_hold = hold_others a g id holds in
        object_put a (with_entry a id.block (with_commit_bit e)) g id o holds
        (frames_entry a (others g id) a id.block (with_commit_bit e) e others_hold (frames_begin a (others g id) others_hold) loose.apart (λ held. absurd (loose.unheld held)) here valid (holds.own id.block e here) (λ x p found bit. refl))
        now_object

-- ---- the content by which the object is read, written to its root

module _ (c : Image) (g : Graph) (id : Puid) (o : Object) (holds : Holds c g) (at : object_at g id ≡ Some o) where
  abbrev copy : Image
  copy = set c id.block (root_from_source c id.block)

  shown : ReadsAs (length c) id (sight c id.block) o
  shown = holds.objects id o at

  on_root : IsPlaced c id.block id.block Root
  on_root = root_placed c (length c) id o shown

  entry_same : (n : ℕ) → entry_in (set c id.block (root_from_source c id.block)) n ≡ entry_in c n
  entry_same n = let loose = owned_is_loose c g id o holds at id.block on_root.taken in entry_in-set c id.block (root_from_source c id.block) n (not_map id.block loose.apart)

  root_there : block_at (set c id.block (root_from_source c id.block)) id.block ≡ root_from_source c id.block
  root_there = get_or-set_same c id.block (root_from_source c id.block) [] (in_image c g holds id.block on_root.taken.is on_root.taken.here)

  source_there : block_at (set c id.block (root_from_source c id.block)) (source c id.block) ≡ root_from_source c id.block
  source_there = elim (same_or_not (source c id.block) id.block) [
    | inl same ↦ ap (block_at (set c id.block (root_from_source c id.block))) same ∙ root_there
    | inr apart ↦ get_or-set_other c id.block (source c id.block) (root_from_source c id.block) [] apart
  ]

  shadows_same : shadows (set c id.block (root_from_source c id.block)) id.block ≡ shadows c id.block
  shadows_same = same_shadows c (set c id.block (root_from_source c id.block)) id.block (length-set c id.block (root_from_source c id.block)) (ap part_of (entry_same id.block)) (λ bit n. ap (stands_for id.block) (entry_same n))

  below_same : (path : List ℕ) (h : Held) → (tree_in c (root_from_source c id.block)).below path ≡ Some h → SameAt c (set c id.block (root_from_source c id.block)) h.block
  unfolding sight
  below_same path h v = record {
    part = ap part_of (entry_same h.block);
    content = get_or-set_other c id.block h.block (root_from_source c id.block) [] (below_apart c (length c) id.block (root_from_source c id.block) shown.source o shown.tree on_root path h v);
  }

  copied_object : ReadsAs (length c) id (sight (set c id.block (root_from_source c id.block)) id.block) o
  unfolding sight
  copied_object =
      let b = set c id.block (root_from_source c id.block) in
      let tree : tree_in b (block_at b (source b id.block)) ≡ tree_in c (root_from_source c id.block) =
      ap (λ ss. tree_in b (block_at b (first_or id.block ss))) shadows_same ∙ ap (tree_in b) source_there ∙ same_tree c b (root_from_source c id.block) below_same in
      record {
        part = record { is = shown.part.is; here = ap part_of (entry_same id.block) ∙ shown.part.here; owner_is = shown.part.owner_is; place_is = shown.part.place_is };
        root = shown.source;
        spelled = rw root_there shown.tree.spelled;
        word = shown.same_word ∙ shown.word;
        one_shadow = rw shadows_same shown.one_shadow;
        source = shown.source;
        same_kind = refl;
        same_word = refl;
        tree = subst (λ (t : Tree). IsTree (length c) id.block t shown.source o) (sym tree) shown.tree;
      }

  pub copied_holds : Holds (set c id.block (root_from_source c id.block)) (with_object g id o)
  copied_holds =
      let others_hold = hold_others c g id holds in
      object_put c (set c id.block (root_from_source c id.block)) g id o holds
      (frames_content c (others g id) c id.block (root_from_source c id.block) (frames_begin c (others g id) others_hold) (owned_is_loose c g id o holds at id.block on_root.taken))
      copied_object
