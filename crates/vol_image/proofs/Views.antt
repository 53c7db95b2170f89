-- Two images that agree on what a tree of the first holds have one view of it.
use Rattle.std.proofs.Common.{◌≡◌, ◌≢◌, ℕ, zero, suc, List, [], ◌∷◌, Some, Option, refl, sym, ◌∙◌, ap, subst}
use Rattle.vol_image.proofs.Words.{Held, Image, Level, SameAt, below, block_at, end_of, fun_ext, held_at, levels_of, part_at, pointer, same_Some, tree_in, tree_of}

-- ---- what is held at a pointer

abbrev pub held : Image → ℕ → Held
held image n = record { block = n; part = part_at image n; content = block_at image n }

pub held_is : (image : Image) (n : ℕ) (h : Held) → held_at image n ≡ Some h → (h ≡ held image n) × (n ≢ 0)
held_is image zero h is = cc
held_is image (suc n) h is = (sym (same_Some _ _ is), λ zero_is. cc)

pub held_part : (image : Image) (n : ℕ) (h : Held) → held_at image n ≡ Some h → h.part ≡ part_at image h.block
held_part image n h is = subst (λ (x : Held). x.part ≡ part_at image x.block) (sym (held_is image n h is).0) refl

pub held_block : (image : Image) (n : ℕ) (h : Held) → held_at image n ≡ Some h → h.block ≡ n
held_block image n h is = ap (λ (x : Held). x.block) (held_is image n h is).0

-- ---- one view

same_held : (a b : Image) (n : ℕ) → ((h : Held) → held_at a n ≡ Some h → SameAt a b h.block) → held_at b n ≡ held_at a n
same_held a b zero keeps = refl
same_held a b (suc n) keeps =
    let same = keeps (held a (suc n)) refl in
    λ i. Some (record { block = suc n; part = same.part i; content = same.content i })

-- along one path
same_end : (a b : Image) (path : List ℕ) (levels : List Level) (n : ℕ) → ((p : List ℕ) (h : Held) → held_at a (end_of a levels n p) ≡ Some h → SameAt a b h.block) → end_of b levels n path ≡ end_of a levels n path
same_end a b [] levels n keeps = refl
same_end a b (k ∷ path) levels zero keeps = refl
same_end a b (k ∷ path) [] (suc n) keeps = refl
same_end a b (k ∷ path) (level ∷ levels) (suc n) keeps =
    ap (λ (x : List ℕ). end_of b levels (pointer level x k) path) (keeps [] (held a (suc n)) refl).content
    ∙ same_end a b path levels (pointer level (block_at a (suc n)) k) (λ p h v. keeps (k ∷ p) h v)

same_below : (a b : Image) (path : List ℕ) (levels : List Level) (root : List ℕ) → ((p : List ℕ) (h : Held) → held_at a (below a levels root p) ≡ Some h → SameAt a b h.block) → below b levels root path ≡ below a levels root path
same_below a b [] levels root keeps = refl
same_below a b (k ∷ path) [] root keeps = refl
same_below a b (k ∷ path) (level ∷ levels) root keeps = same_end a b path levels (pointer level root k) (λ p h v. keeps (k ∷ p) h v)

pub same_tree : (a b : Image) (root : List ℕ) → ((path : List ℕ) (h : Held) → (tree_in a root).below path ≡ Some h → SameAt a b h.block) → tree_in b root ≡ tree_in a root
same_tree a b root keeps = ap (λ (f : List ℕ → Option Held). record { root = root; below = f }) (fun_ext each)
  where
    each : (path : List ℕ) → held_at b (tree_of b root path) ≡ held_at a (tree_of a root path)
    each path = ap (held_at b) (same_below a b path (levels_of root) root keeps) ∙ same_held a b (tree_of a root path) (keeps path)
