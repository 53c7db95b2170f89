-- Two images that agree on the content of a tree's blocks have the same tree, but for the parts, and the same object.
use Rattle.std.proofs.Common.{◌≡◌, ℕ, Bool, zero, suc, ◌/◌, List, [], ◌∷◌, Some, Option, is_some, take, map, filter, refl, ◌∙◌, ap}
use Rattle.std.proofs.Math.Path.{fun_ext}
use Rattle.std.specs.List.{flat_map, range_with_len}
use Rattle.cfs_base.specs.Disk.{Image, block_at}
use Rattle.cfs_base.specs.declared.kind.FileKind.TheVariants as file_kinds
use Rattle.cfs_base.specs.declared.kind.Kind.{Kind}
use Rattle.cfs_base.specs.declared.kind.Kind.TheVariants as kinds
use Rattle.block_tree.specs.Pointers.{Level}
use Rattle.block_tree.specs.Tree.{below, end_of, levels_of, path_to, pointer, tree_of}
use Rattle.block_tree.specs.declared.root.Root.{Root}
use Rattle.ufs_model.specs.Object.{leaves_in}
use Rattle.ufs_model.specs.declared.object.Object.TheVariants as objects
use Rattle.vol_image.proofs.Views.{held}
use Rattle.vol_image.specs.Reading.{leaf_content, leaf_in, slot_in}
unfoldable use Rattle.vol_image.specs.Reading.{object_with}
use Rattle.vol_image.specs.Seen.{Held, held_at, tree_in}

abbrev pub SameContent : Image → Image → Held → Type 0
SameContent a b h = block_at b h.block ≡ block_at a h.block

-- along one path
end_same : (a b : Image) (path : List ℕ) (levels : List Level) (n : ℕ) → ((p : List ℕ) (h : Held) → held_at a (end_of a levels n p) ≡ Some h → SameContent a b h) → end_of b levels n path ≡ end_of a levels n path
end_same a b [] levels n keeps = refl
end_same a b (k ∷ path) levels zero keeps = refl
end_same a b (k ∷ path) [] (suc n) keeps = refl
end_same a b (k ∷ path) (level ∷ levels) (suc n) keeps =
    ap (λ (x : List ℕ). end_of b levels (pointer level x k) path) (keeps [] (held a (suc n)) refl)
    ∙ end_same a b path levels (pointer level (block_at a (suc n)) k) (λ p h v. keeps (k ∷ p) h v)

below_same : (a b : Image) (path : List ℕ) (levels : List Level) (root : List ℕ) → ((p : List ℕ) (h : Held) → held_at a (below a levels root p) ≡ Some h → SameContent a b h) → below b levels root path ≡ below a levels root path
below_same a b [] levels root keeps = refl
below_same a b (k ∷ path) [] root keeps = refl
below_same a b (k ∷ path) (level ∷ levels) root keeps = end_same a b path levels (pointer level root k) (λ p h v. keeps (k ∷ p) h v)

-- the parts aside
abbrev same_but_part : Image → Image → ℕ → Type 0
same_but_part a b n = (is_some (held_at b n) ≡ is_some (held_at a n)) × ((fill : ℕ) → leaf_content fill (held_at b n) ≡ leaf_content fill (held_at a n))

held_same : (a b : Image) (n : ℕ) → ((h : Held) → held_at a n ≡ Some h → SameContent a b h) → same_but_part a b n
held_same a b zero keeps = (refl, λ fill. refl)
held_same a b (suc n) keeps = (refl, λ fill. ap (λ (c : List ℕ). leaf_content fill (Some (record { block = suc n; part = (held a (suc n)).part; content = c }))) (keeps (held a (suc n)) refl))

object_same : (root : Root) (f h : ℕ → Option Held) → ((n : ℕ) → is_some (f n) ≡ is_some (h n)) → ((n : ℕ) → leaf_content root.fill (f n) ≡ leaf_content root.fill (h n)) → object_with root f ≡ object_with root h
unfolding object_with
object_same root f h some content = at root.kind refl
  where
    somes : ◌≡◌ {A = ℕ → Bool} (λ n. is_some (f n)) (λ n. is_some (h n))
    somes = fun_ext some

    contents : ◌≡◌ {A = ℕ → List ℕ} (λ n. leaf_content root.fill (f n)) (λ n. leaf_content root.fill (h n))
    contents = fun_ext content

    at : (kind : Kind) → root.kind ≡ kind → object_with root f ≡ object_with root h
    at kinds.Normal is = rw is (λ i. objects.File (record { kind = file_kinds.Normal; fill = root.fill; bytes = take root.size (flat_map (contents i) (range_with_len 0 (leaves_in root.size))); held = filter (somes i) (range_with_len 0 (leaves_in root.size)) }))
    at kinds.Special is = rw is (λ i. objects.File (record { kind = file_kinds.Special; fill = root.fill; bytes = take root.size (flat_map (contents i) (range_with_len 0 (leaves_in root.size))); held = filter (somes i) (range_with_len 0 (leaves_in root.size)) }))
    at kinds.Index is = rw is (λ i. objects.Index (record { slots = map (slot_in (flat_map (contents i) (range_with_len 0 (leaves_in root.size)))) (range_with_len 0 (root.size / 8)); held = filter (somes i) (range_with_len 0 (leaves_in root.size)) }))

module _ (a b : Image) (content : List ℕ) (keeps : (path : List ℕ) (h : Held) → (tree_in a content).below path ≡ Some h → SameContent a b h) where
  pub path_same : (path : List ℕ) → tree_of b content path ≡ tree_of a content path
  path_same path = below_same a b path (levels_of content) content keeps

  pub same_object : (root : Root) → object_with root (leaf_in (tree_in b content)) ≡ object_with root (leaf_in (tree_in a content))
  same_object root = object_same root (leaf_in (tree_in b content)) (leaf_in (tree_in a content))
      (λ leaf. let p = path_to (levels_of content) leaf in ap (λ (n : ℕ). is_some (held_at b n)) (path_same p) ∙ (held_same a b (tree_of a content p) (keeps p)).0)
      (λ leaf. let p = path_to (levels_of content) leaf in ap (λ (n : ℕ). leaf_content root.fill (held_at b n)) (path_same p) ∙ (held_same a b (tree_of a content p) (keeps p)).1 root.fill)
