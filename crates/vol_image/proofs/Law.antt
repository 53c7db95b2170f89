-- The law of frames.
use Rattle.std.proofs.Common.{◌≡◌, inl, inr, ℕ, [], length, Bool, true, false, cond, Some, refl, sym, ◌∙◌, ap, arith}
use Rattle.vol_image.proofs.Words.{Frames, Graph, Holds, Image, IsBlockOf, IsSoundAs, Object, Puid, SameAt, Sight, block_at, entry_in, filter, first_or, fun_ext, is_committed, object_at, part_at, range_with_len, shadows, sight, source, stands_for, tree_in}
use Rattle.vol_image.proofs.Views.{same_tree}

-- the shadow roots that stand
pub same_shadows : (a b : Image) (r : ℕ) → length b ≡ length a → part_at b r ≡ part_at a r → (is_committed (part_at a r) ≡ true → (n : ℕ) → stands_for r (entry_in b n) ≡ stands_for r (entry_in a n)) → shadows b r ≡ shadows a r
unfolding shadows
same_shadows a b r size same each =
    rw (same, size) (elim (is_committed (part_at a r)) as (λ t. is_committed (part_at a r) ≡ t → cond t (filter (λ n. stands_for r (entry_in b n)) (range_with_len 0 (length a))) [] ≡ cond t (filter (λ n. stands_for r (entry_in a n)) (range_with_len 0 (length a))) []) [
      | true ↦ λ bit. ap (λ (P : ℕ → Bool). filter P (range_with_len 0 (length a))) (fun_ext (each bit))
      | false ↦ λ bit. refl
    ] refl)

-- one object
pub same_sight : (a b : Image) (r : ℕ) → ((n : ℕ) → IsBlockOf a r n → SameAt a b n) → shadows b r ≡ shadows a r → sight b r ≡ sight a r
unfolding sight
same_sight a b r keeps standing =
    let root = keeps r (inl refl) in
    let from : block_at b (source b r) ≡ block_at a (source a r) = ap (λ ss. block_at b (first_or r ss)) standing ∙ (keeps (source a r) (inr (inl refl))).content in
    let tree : tree_in b (block_at b (source b r)) ≡ tree_in a (block_at a (source a r)) = ap (tree_in b) from ∙ same_tree a b (block_at a (source a r)) (λ p h v. keeps h.block (inr (inr (p, h, v, refl)))) in
    λ i. record { part = root.part i; root = root.content i; standing = standing i; tree = tree i }

-- what is seen the same has the same blocks
pub same_blocks : (a b : Image) (r n : ℕ) → sight b r ≡ sight a r → IsBlockOf a r n → IsBlockOf b r n
unfolding sight
same_blocks a b r n same (inl root) = inl root
same_blocks a b r n same (inr (inl from)) = inr (inl (from ∙ ap (λ (s : Sight). first_or r s.standing) (sym same)))
same_blocks a b r n same (inr (inr (p, h, v, is))) = inr (inr (p, h, ap (λ (s : Sight). s.tree.below p) same ∙ v, is))

-- one object of a graph, from one image of a frame to another
pub framed_sight : (a b : Image) (g : Graph) (id : Puid) (o : Object) → object_at g id ≡ Some o → Frames a g b → sight b id.block ≡ sight a id.block
framed_sight a b g id o at frames =
    same_sight a b id.block (λ n is. frames.held n (id, o, at, is))
    (same_shadows a b id.block frames.size (frames.held id.block (id, o, at, inl refl)).part (frames.standing id o at))

-- all objects
pub frames_hold : (a b : Image) (g : Graph) → Holds a g → Frames a g b → Holds b g
frames_hold a b g holds frames = record {
  label = rw (frames.size, frames.label) holds.label;
  maps = frames.maps;
  own = frames.own;
  fixed = λ n below is. frames.fixed n is ∙ holds.fixed n (omega (arith, below, frames.size)) is;
  objects = λ id o at. rw (frames.size, framed_sight a b g id o at frames) (holds.objects id o at);
}

pub law_of_frames : (a b : Image) (g : Graph) → IsSoundAs a g → Frames a g b → IsSoundAs b g
law_of_frames a b g sound frames = record { holds = frames_hold a b g sound.holds frames; graph = sound.graph; reached = sound.reached; room = rw frames.size sound.room }
