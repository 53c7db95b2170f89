-- Fresh blocks of a draft are those whose pointers differ from the object's own.
use Rattle.std.proofs.Common.{◌≡◌, ◌≢◌, inl, inr, ℕ, List, length, true, false, ◌==◌, Some, refl, sym, ◌∙◌, ap}
use Rattle.vol_owners.proofs.Words.{Allocated, BlockState, Free, Graph, HasDraft, HasItsBlocks, Held, Holds, Image, IntendAllocate, IntendDeallocate, IsAtRest, IsBlockOf, MapEntry, Object, Opened, Puid, and_left, and_parts, below_apart, block_at, both_ways, content_of, entry_in, first_or, held, held_at, held_block, held_is, held_there, is_had, is_meant_for, is_owned_by, is_placed, is_some, no_shadows, object_at, root_placed, same_levels, same_path, sight, source, tree_in, tree_of, tree_placed}
use Rattle.vol_owners.proofs.Entries.{had_not_meant, had_or_meant, taken_of}

module _ (image : Image) (g : Graph) (holds : Holds image g) (id : Puid) (o : Object) (at : object_at g id ≡ Some o) (has : HasItsBlocks image id.block) (d : Opened) (draft : HasDraft image id d) where
  abbrev own : List ℕ
  own = block_at image id.block

  read_by_itself : source image id.block ≡ id.block
  read_by_itself = ap (first_or id.block) (no_shadows image id.block has.no_bit)

  pub own_tree : (path : List ℕ) (h : Held) → (tree_in image own).below path ≡ Some h → IsBlockOf image id.block h.block
  unfolding sight
  own_tree path h v = inr (inr (path, h, ap (λ (n : ℕ). (tree_in image (block_at image n)).below path) read_by_itself ∙ v, refl))

  -- a block of the draft that isn't meant for the object is the object's own, at the same path
  pub not_meant_is_own : (path : List ℕ) (h : Held) → (tree_in image (content_of d)).below path ≡ Some h → is_meant_for image id.block h.block ≡ false → tree_of image own path ≡ h.block
  unfolding sight
  not_meant_is_own path h v none = which (has.no_other h.block is_had_here)
    where
      is_had_here : is_owned_by is_had id.block (entry_in image h.block) ≡ true
      is_had_here = elim (had_or_meant id.block (entry_in image h.block) (taken_of image h.block id.block (tree_placed image (length image) id.block (content_of d) d.root d.draft.object draft.tree path h v).taken) (has.none_leaves h.block)) [
        | inl is ↦ is
        | inr is ↦ absurd (both_ways _ none is)
      ]

      no_root : h.block ≢ id.block
      no_root = below_apart image (length image) id.block (content_of d) d.root d.draft.object draft.tree (root_placed image (length image) id o (holds.objects id o at)) path h v

      which : IsBlockOf image id.block h.block → tree_of image own path ≡ h.block
      which (inl is) = absurd (no_root is)
      which (inr (inl is)) = absurd (no_root (is ∙ read_by_itself))
      which (inr (inr (q, k, w, is))) =
          let reads = holds.objects id o at in
          let content = block_at image (source image id.block) in
          let paths : path ≡ q = same_path image (length image) id.block (content_of d) content d.root reads.source d.draft.object o (same_levels (content_of d) content) draft.tree reads.tree path q h k v w (sym is) in
          ap (tree_of image own) paths ∙ ap (λ (n : ℕ). tree_of image (block_at image n) q) (sym read_by_itself) ∙ sym (held_block image (tree_of image content q) k w) ∙ is

  -- what is meant for the object the object doesn't have
  pub meant_differs : (path : List ℕ) (n : ℕ) → n ≢ 0 → is_meant_for image id.block n ≡ true → tree_of image own path ≢ n
  meant_differs path n some meant same =
      let had = has.each n (own_tree path (held image n) (ap (held_at image) same ∙ held_there image n some)) in
      both_ways _ (and_left _ _ (had_not_meant id.block (entry_in image n) had)) meant

-- an object that has its blocks is at rest
pub at_rest : (image : Image) (r : ℕ) → HasItsBlocks image r → IsAtRest image r
at_rest image r has = record { no_bit = has.no_bit; each = λ n e is here. allocated e (sym (ap (is_owned_by is_had r) here) ∙ has.each n is) }
  where
    state_is : (s : BlockState) → is_had s ≡ true → s ≡ Allocated
    state_is Free h = cc
    state_is Allocated h = refl
    state_is IntendAllocate h = cc
    state_is IntendDeallocate h = cc

    allocated : (e : MapEntry) → is_owned_by is_had r (Some e) ≡ true → e.state ≡ Allocated
    allocated e h = state_is e.state (and_parts (is_had e.state) (is_some e.place) (and_parts (is_placed is_had (Some e)) (r == e.owner) h).0).0

-- where a block stands the pointer isn't 0
pub stands_some : (image : Image) (content : List ℕ) (path : List ℕ) (h : Held) → (tree_in image content).below path ≡ Some h → h.block ≢ 0
stands_some image content path h v is = (held_is image (tree_of image content path) h v).1 (sym (held_block image (tree_of image content path) h v) ∙ is)
