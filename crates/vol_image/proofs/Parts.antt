-- What the entry says of a block that an object holds, or that is a shadow root.
use Rattle.std.proofs.Common.{◌≡◌, ◌≢◌, ◌⊎◌, inl, inr, ℕ, ◌+◌, ◌*◌, ◌<◌, List, [], ◌∷◌, length, Bool, true, false, cond, Some, None, Option, refl, sym, ◌∙◌, ap, subst, arith}
use Rattle.vol_image.proofs.Words.{Allocated, BelongsTo, BlockState, Free, Graph, Held, Holds, Image, IntendAllocate, IntendDeallocate, IsBlockOf, IsHeldBy, IsLoose, IsTaken, IsTree, Leaf, Span, Level, MapEntry, Node, Object, EntryPart, Place, Puid, ReadsAs, Root, ShadowRoot, block_at, entry_in, filter, first_or, is_committed, is_fixed, levels_of, map_in_image, nat_tests, part_at, part_in, part_of, place_at, place_from, range_with_len, same_Some, shadows, sight, source, stands_for, tree_in, tree_of}
use Rattle.block_tree.specs.declared.root.Root as roots
use Rattle.vol_image.proofs.Views.{held_part}

-- ---- places

abbrev pub is_inner : Place → Bool
is_inner Root = false
is_inner ShadowRoot = false
is_inner (Node n) = true
is_inner (Leaf n) = true
is_inner (Span n) = true

pub not_root : (p : Place) → is_inner p ≡ true → p ≢ Root
not_root p is same = let no : true ≡ false = sym is ∙ ap is_inner same in cc

inner_from : (path : List ℕ) (n : ℕ) (levels : List Level) → is_inner (place_from n levels path) ≡ true
inner_from [] n [] = refl
inner_from [] n (l ∷ levels) = refl
inner_from (k ∷ path) n [] = refl
inner_from (k ∷ path) n (l ∷ levels) = inner_from path (n * l.count + k) levels

-- what stands below a root is a node or a leaf
pub place_inner : (levels : List Level) (path : List ℕ) → is_inner (place_at levels path) ≡ true
unfolding place_at
place_inner levels path = inner_from path 0 levels

-- ---- parts and entries

pub taken_part : (s : BlockState) (bit : Bool) (p : Option Place) (o : ℕ) → s ≢ Free → part_in s bit p o ≡ Some (record { committed = bit; place = p; owner = o })
taken_part Free bit p o real = absurd (real refl)
taken_part Allocated bit p o real = refl
taken_part IntendAllocate bit p o real = refl
taken_part IntendDeallocate bit p o real = refl

pub part_entry : (s : BlockState) (bit : Bool) (p : Option Place) (o : ℕ) (r : EntryPart) → part_in s bit p o ≡ Some r → (s ≢ Free) × (p ≡ r.place) × (o ≡ r.owner)
part_entry Free bit p o r h = cc
part_entry Allocated bit p o r h = (λ x. cc, ap (λ (y : EntryPart). y.place) (same_Some _ _ h), ap (λ (y : EntryPart). y.owner) (same_Some _ _ h))
part_entry IntendAllocate bit p o r h = (λ x. cc, ap (λ (y : EntryPart). y.place) (same_Some _ _ h), ap (λ (y : EntryPart). y.owner) (same_Some _ _ h))
part_entry IntendDeallocate bit p o r h = (λ x. cc, ap (λ (y : EntryPart). y.place) (same_Some _ _ h), ap (λ (y : EntryPart). y.owner) (same_Some _ _ h))

some_place : (p : Place) → Some p ≢ None
some_place p is = cc

-- where a block belongs to an object, its entry says so
pub record IsPlaced (image : Image) (n owner : ℕ) (place : Place) : Type 0 where
  pub taken : IsTaken image n owner
  pub place_is : taken.is.place ≡ Some place

pub placed : (image : Image) (n owner : ℕ) (place : Place) (part : Option EntryPart) → part ≡ part_at image n → BelongsTo owner place part → IsPlaced image n owner place
placed image n owner place part same belongs = at (entry_in image n) refl (sym same ∙ belongs.here)
  where
    at : (o : Option MapEntry) → entry_in image n ≡ o → part_of o ≡ Some belongs.is → IsPlaced image n owner place
    at None is q = cc
    at (Some e) is q =
        let three = part_entry e.state e.committed e.place e.owner belongs.is q in
        let where_is : e.place ≡ Some place = three.1 ∙ belongs.place_is in
        record {
          taken = record { is = e; here = is; taken = three.0; placed = λ none. some_place place (sym where_is ∙ none); owned = three.2 ∙ belongs.owner_is };
          place_is = where_is;
        }

-- ---- shadow roots

pub shadow_entry : (r : ℕ) (e : MapEntry) → stands_for r (Some e) ≡ true → (e.state ≢ Free) × (e.place ≡ Some ShadowRoot) × (e.owner ≡ r)
shadow_entry r e h = at e.state e.place h refl refl
  where
    at : (s : BlockState) (p : Option Place) → stands_for r (Some (record e { state = s; place = p })) ≡ true → e.state ≡ s → e.place ≡ p → (e.state ≢ Free) × (e.place ≡ Some ShadowRoot) × (e.owner ≡ r)
    at Free p q u v = cc
    at Allocated p q u v = cc
    at IntendDeallocate p q u v = cc
    at IntendAllocate None q u v = cc
    at IntendAllocate (Some Root) q u v = cc
    at IntendAllocate (Some (Node n)) q u v = cc
    at IntendAllocate (Some (Leaf n)) q u v = cc
    at IntendAllocate (Some (Span n)) q u v = cc
    at IntendAllocate (Some ShadowRoot) q u v = (λ free. cc, v, grind (arith, nat_tests))

pub shadow_taken : (image : Image) (r n : ℕ) → stands_for r (entry_in image n) ≡ true → IsPlaced image n r ShadowRoot
shadow_taken image r n h = at (entry_in image n) refl h
  where
    at : (o : Option MapEntry) → entry_in image n ≡ o → stands_for r o ≡ true → IsPlaced image n r ShadowRoot
    at None is q = cc
    at (Some e) is q = let three = shadow_entry r e q in record {
      taken = record { is = e; here = is; taken = three.0; placed = λ none. some_place ShadowRoot (sym three.1 ∙ none); owned = three.2 };
      place_is = three.1;
    }

first_filtered : (P : ℕ → Bool) (r : ℕ) (xs : List ℕ) → (first_or r (filter P xs) ≡ r) ⊎ (P (first_or r (filter P xs)) ≡ true)
first_filtered P r [] = inl refl
first_filtered P r (x ∷ xs) = elim (P x) as (λ b. P x ≡ b → (first_or r (cond b (x ∷ filter P xs) (filter P xs)) ≡ r) ⊎ (P (first_or r (cond b (x ∷ filter P xs) (filter P xs))) ≡ true)) [
  | true ↦ λ is. inr is
  | false ↦ λ is. first_filtered P r xs
] refl

-- an object is read by its root or by a shadow root that stands for it
pub source_is : (image : Image) (r : ℕ) → (source image r ≡ r) ⊎ (stands_for r (entry_in image (source image r)) ≡ true)
unfolding shadows
source_is image r = elim (is_committed (part_at image r)) as (λ b. (first_or r (cond b (filter (λ n. stands_for r (entry_in image n)) (range_with_len 0 (length image))) []) ≡ r)
    ⊎ (stands_for r (entry_in image (first_or r (cond b (filter (λ n. stands_for r (entry_in image n)) (range_with_len 0 (length image))) []))) ≡ true)) [
      | true ↦ first_filtered (λ n. stands_for r (entry_in image n)) r (range_with_len 0 (length image))
      | false ↦ inl refl
    ]

-- ---- the blocks of an object

-- a block below the root
pub tree_placed : (a : Image) (size owner : ℕ) (content : List ℕ) (root : roots.Root) (o : Object) → IsTree size owner (tree_in a content) root o → (path : List ℕ) (h : Held) → (tree_in a content).below path ≡ Some h → IsPlaced a h.block owner (place_at (levels_of content) path)
tree_placed a size owner content root o fits path h v =
    placed a h.block owner (place_at (levels_of content) path) h.part (held_part a (tree_of a content path) h v) (fits.owned path h v)

-- it is another block than the root
pub below_apart : (a : Image) (size owner : ℕ) (content : List ℕ) (root : roots.Root) (o : Object) → IsTree size owner (tree_in a content) root o → IsPlaced a owner owner Root → (path : List ℕ) (h : Held) → (tree_in a content).below path ≡ Some h → h.block ≢ owner
below_apart a size owner content root o fits at_root path h v is =
    let inner = tree_placed a size owner content root o fits path h v in
    let entries : inner.taken.is ≡ at_root.taken.is = same_Some _ _ (sym inner.taken.here ∙ ap (entry_in a) is ∙ at_root.taken.here) in
    not_root _ (place_inner (levels_of content) path) (same_Some _ _ (sym inner.place_is ∙ ap (λ (e : MapEntry). e.place) entries ∙ at_root.place_is))

pub root_placed : (a : Image) (size : ℕ) (id : Puid) (o : Object) → ReadsAs size id (sight a id.block) o → IsPlaced a id.block id.block Root
unfolding sight
root_placed a size id o fits = placed a id.block id.block Root (part_at a id.block) refl fits.part

pub object_taken : (a : Image) (size : ℕ) (id : Puid) (o : Object) → ReadsAs size id (sight a id.block) o → (n : ℕ) → IsBlockOf a id.block n → IsTaken a n id.block
unfolding sight
object_taken a size id o fits n (inl is) = subst (λ (m : ℕ). IsTaken a m id.block) (sym is) (root_placed a size id o fits).taken
object_taken a size id o fits n (inr (inl is)) = subst (λ (m : ℕ). IsTaken a m id.block) (sym is) (elim (source_is a id.block) [
  | inl root ↦ subst (λ (m : ℕ). IsTaken a m id.block) (sym root) (root_placed a size id o fits).taken
  | inr shadow ↦ (shadow_taken a id.block (source a id.block) shadow).taken
])
object_taken a size id o fits n (inr (inr (p, h, v, is))) =
    subst (λ (m : ℕ). IsTaken a m id.block) is (tree_placed a size id.block (block_at a (source a id.block)) fits.source o fits.tree p h v).taken

pub held_taken : (a : Image) (g : Graph) → Holds a g → (n : ℕ) → (held : IsHeldBy a g n) → IsTaken a n held.0.block
held_taken a g holds n held = object_taken a (length a) held.0 held.1 (holds.objects held.0 held.1 held.2) n held.3

-- ---- what no object holds

pub in_image : (a : Image) (g : Graph) → Holds a g → (n : ℕ) (e : MapEntry) → entry_in a n ≡ Some e → n < length a
in_image a g holds n e is = let below = map_in_image a n e is in omega (arith, holds.label.size_is, below)

-- a taken block is no map block and not the label
pub taken_apart : (a : Image) (g : Graph) → Holds a g → (n owner : ℕ) → IsTaken a n owner → is_fixed n ≡ false
taken_apart a g holds n owner taken = at (is_fixed n) refl
  where
    at : (b : Bool) → is_fixed n ≡ b → b ≡ false
    at true is = absurd (taken.placed (ap (λ (e : MapEntry). e.place) (same_Some _ _ (sym taken.here ∙ holds.fixed n (in_image a g holds n taken.is taken.here) is))))
    at false is = refl

pub held_apart : (a : Image) (g : Graph) → Holds a g → (n : ℕ) → IsHeldBy a g n → is_fixed n ≡ false
held_apart a g holds n held = taken_apart a g holds n held.0.block (held_taken a g holds n held)

-- a Free block is loose
pub free_is_loose : (a : Image) (g : Graph) → Holds a g → (n : ℕ) (e : MapEntry) → entry_in a n ≡ Some e → e.state ≡ Free → IsLoose a g n
free_is_loose a g holds n e is free = record {
  apart = at (is_fixed n) refl;
  unheld = λ held. let taken = held_taken a g holds n held in taken.taken (ap (λ (x : MapEntry). x.state) (same_Some _ _ (sym taken.here ∙ is)) ∙ free);
}
  where
    at : (b : Bool) → is_fixed n ≡ b → b ≡ false
    at true q = let no : Free ≡ Allocated = sym free ∙ ap (λ (x : MapEntry). x.state) (same_Some _ _ (sym is ∙ holds.fixed n (in_image a g holds n e is) q)) in cc
    at false q = refl
