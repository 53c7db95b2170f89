-- What a change misses stays: the blocks of an object, and its draft.
use Rattle.std.proofs.Common.{◌≡◌, ◌⊎◌, inl, inr, ℕ, List, length, Bool, true, false, Option, Some, None, refl, sym, ◌∙◌, ap, subst}
use Rattle.vol_owners.proofs.Words.{Accounts, BlockState, ChangesOnly, Drafts, Frames, Free, Graph, HasDraft, HasDraftIf, HasItsBlocks, Image, IsBlockOf, IsOpenTo, IsRootBlock, IsTaken, MapEntry, Misses, Object, Opened, Puid, SameAt, StandsIn, Tree, both_ways, content_of, entry_in, fun_ext, is_committed, is_had, is_leaving, is_meant, is_meant_for, is_owned_by, object_at, object_taken, part_of, same_blocks, same_shadows, same_sight, same_tree, sight, stands_for, taken_apart, tree_in, tree_placed}
use Rattle.vol_owners.proofs.Entries.{free_unowned, had_or_meant, stands_meant, taken_of}

-- an entry that is open to what misses an owner is no block of the owner
pub open_unowned : (T : Option MapEntry → Bool) (test : BlockState → Bool) → test Free ≡ false → (r : ℕ) (entry : Option MapEntry) → Misses test T r → IsOpenTo T entry → is_owned_by test r entry ≡ false
open_unowned T test real r entry misses (inl free) = free_unowned test real r entry free
open_unowned T test real r entry misses (inr two) = misses entry two.1

module _ (T : Option MapEntry → Bool) (a b : Image) (g : Graph) (ds : Drafts) (had : Accounts a g ds) (changes : ChangesOnly T a b) where
  -- an entry that is not open stays
  pub entry_kept : (n : ℕ) → (IsOpenTo T (entry_in a n) → ⊥) → entry_in b n ≡ entry_in a n
  entry_kept n shut = elim (changes.entries n) [ inl same ↦ same | inr both ↦ absurd (shut both.0) ]

  -- so has an owner the same blocks in each state that is missed
  pub same_uses : (test : BlockState → Bool) → test Free ≡ false → (r : ℕ) → Misses test T r → (n : ℕ) → is_owned_by test r (entry_in b n) ≡ is_owned_by test r (entry_in a n)
  same_uses test real r misses n = elim (changes.entries n) [
    | inl same ↦ ap (is_owned_by test r) same
    | inr both ↦ open_unowned T test real r (entry_in b n) misses both.1 ∙ sym (open_unowned T test real r (entry_in a n) misses both.0)
  ]

  -- a block in such a state is not open
  shut : (test : BlockState → Bool) → test Free ≡ false → (r n : ℕ) → Misses test T r → is_owned_by test r (entry_in a n) ≡ true → IsOpenTo T (entry_in a n) → ⊥
  shut test real r n misses is open_to = both_ways _ (open_unowned T test real r (entry_in a n) misses open_to) is

  kept_at : (test : BlockState → Bool) → test Free ≡ false → (r n : ℕ) → Misses test T r → IsTaken a n r → is_owned_by test r (entry_in a n) ≡ true → SameAt a b n
  kept_at test real r n misses taken is = record {
    part = ap part_of (entry_kept n (shut test real r n misses is));
    content = elim (changes.contents n (taken_apart a g had.holds n r taken)) [ inl same ↦ same | inr was ↦ absurd (shut test real r n misses is was) ];
  }

  module _ (x : Puid) (o : Object) (at : object_at g x ≡ Some o) (misses : Misses is_had T x.block) where
    abbrev has : HasItsBlocks a x.block
    has = had.objects x o at

    pub block_kept : (n : ℕ) → IsBlockOf a x.block n → SameAt a b n
    block_kept n is = kept_at is_had refl x.block n misses (object_taken a (length a) x o (had.holds.objects x o at) n is) (has.each n is)

    sight_kept : sight b x.block ≡ sight a x.block
    sight_kept = same_sight a b x.block block_kept (same_shadows a b x.block changes.size (block_kept x.block (inl refl)).part (λ bit n. absurd (both_ways _ has.no_bit bit)))

    pub blocks_kept : Misses is_leaving T x.block → HasItsBlocks b x.block
    blocks_kept leaving = record {
      no_bit = ap is_committed (block_kept x.block (inl refl)).part ∙ has.no_bit;
      each = λ n is. same_uses is_had refl x.block misses n ∙ has.each n (same_blocks b a x.block n (sym sight_kept) is);
      no_other = λ n is. same_blocks a b x.block n sight_kept (has.no_other n (sym (same_uses is_had refl x.block misses n) ∙ is));
      none_leaves = λ n. same_uses is_leaving refl x.block leaving n ∙ has.none_leaves n;
    }

    module _ (meant : Misses is_meant T x.block) where
      -- a block of the owner's, had or meant
      any_kept : (n : ℕ) → IsTaken a n x.block → SameAt a b n
      any_kept n taken = elim (had_or_meant x.block (entry_in a n) (taken_of a n x.block taken) (has.none_leaves n)) [
        | inl is ↦ kept_at is_had refl x.block n misses taken is
        | inr is ↦ kept_at is_meant refl x.block n meant taken is
      ]

      pub draft_kept : (d : Opened) → HasDraft a x d → HasDraft b x d
      draft_kept d draft = record {
        own = subst (λ (c : List ℕ). IsRootBlock c d.own) (sym (block_kept x.block (inl refl)).content) draft.own;
        same_kind = draft.same_kind;
        same_word = draft.same_word;
        tree = rw (changes.size, tree) draft.tree;
        shadow = λ s is.
            let stood = draft.shadow s is in
            ap (stands_for x.block) (entry_kept s (shut is_meant refl x.block s meant (stands_meant x.block (entry_in a s) stood))) ∙ stood;
        fresh = λ k. rw (tests, tree) (draft.fresh k);
        no_other = λ n is. stands n (draft.no_other n (sym (same_uses is_meant refl x.block meant n) ∙ is));
      }
        where
          tree : tree_in b (content_of d) ≡ tree_in a (content_of d)
          tree = same_tree a b (content_of d) (λ p h v. any_kept h.block (tree_placed a (length a) x.block (content_of d) d.root d.draft.object draft.tree p h v).taken)

          tests : is_meant_for b x.block ≡ is_meant_for a x.block
          tests = fun_ext (λ n. same_uses is_meant refl x.block meant n)

          stands : (n : ℕ) → (d.shadow ≡ Some n) ⊎ StandsIn (tree_in a (content_of d)) n → (d.shadow ≡ Some n) ⊎ StandsIn (tree_in b (content_of d)) n
          stands n (inl is) = inl is
          stands n (inr s) = inr (record { path = s.path; held = s.held; there = ap (λ (t : Tree). t.below s.path) tree ∙ s.there; is = s.is })

      pub draft_kept_if : (d : Option Opened) → HasDraftIf a x d → HasDraftIf b x d
      draft_kept_if None none = λ n. same_uses is_meant refl x.block meant n ∙ none n
      draft_kept_if (Some d) draft = draft_kept d draft

  -- a change is within the frame of every graph whose objects' blocks it misses
  pub frames_others : (h : Graph) → ((x : Puid) (o : Object) → object_at h x ≡ Some o → (object_at g x ≡ Some o) × Misses is_had T x.block) → Frames a h b
  frames_others h apart = record {
    size = changes.size;
    maps = changes.maps;
    own = changes.own;
    label = changes.label;
    fixed = changes.fixed;
    held = λ n is. let two = apart is.0 is.1 is.2 in block_kept is.0 is.1 two.0 two.1 n is.3;
    standing = λ x o at bit n. absurd (both_ways _ (had.objects x o (apart x o at).0).no_bit bit);
  }
