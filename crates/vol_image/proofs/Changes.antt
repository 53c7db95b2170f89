-- One object of an image is put in or changed, and all others stay.
use Rattle.std.proofs.Common.{◌≡◌, ℕ, [], ◌∷◌, length, Bool, true, false, cond, not, ◌||◌, Some, None, refl, sym, ◌∙◌, ap, subst}
use Rattle.vol_image.proofs.Words.{Frames, Graph, Holds, Image, IsLabelOf, IsLoose, IsRootBlock, IsTaken, MapEntry, Object, Puid, ReadsAs, block_at, object_at, same_Some, same_puid, sight, with_object, without}
use Rattle.block_tree.specs.declared.root.Root as roots
use Rattle.vol_image.proofs.Reached.{same_puid_is, same_puid_itself}
use Rattle.vol_image.proofs.Graphs.{object_at-with_object, object_at-without}
use Rattle.vol_image.proofs.Unique.{one_root_block}
use Rattle.vol_image.proofs.Law.{frames_hold}
use Rattle.vol_image.proofs.Parts.{object_taken, taken_apart}

-- identifiers of one block are one
pub same_block : (a : Image) (size : ℕ) (x y : Puid) (o p : Object) → ReadsAs size x (sight a x.block) o → ReadsAs size y (sight a y.block) p → x.block ≡ y.block → x ≡ y
unfolding sight
same_block a size x y o p one two same =
    let spelled : IsRootBlock (block_at a y.block) one.root = subst (λ (n : ℕ). IsRootBlock (block_at a n) one.root) same one.spelled in
    let root : one.root ≡ two.root = one_root_block (block_at a y.block) one.root two.root spelled two.spelled in
    let words : x.word ≡ y.word = sym one.word ∙ ap (λ (r : roots.Root). r.word) root ∙ two.word in
    λ i. record { block = same i; word = words i }

-- all objects but this one
abbrev pub others : Graph → Puid → Graph
others g id = without g (id ∷ [])

pub other_at : (g : Graph) (id x : Puid) (o : Object) → object_at g x ≡ Some o → same_puid x id ≡ false → object_at (others g id) x ≡ Some o
other_at g id x o at apart = object_at-without g (id ∷ []) x ∙ ap (λ (b : Bool). cond (not (b || false)) (object_at g x) None) apart ∙ at

-- what is among the others is another, and in the graph
pub other_is : (g : Graph) (id x : Puid) (p : Object) → object_at (others g id) x ≡ Some p → (object_at g x ≡ Some p) × (same_puid x id ≡ false)
other_is g id x p h = at (same_puid x id) refl (sym (object_at-without g (id ∷ []) x) ∙ h)
  where
    at : (t : Bool) → same_puid x id ≡ t → cond (not (same_puid x id || false)) (object_at g x) None ≡ Some p → (object_at g x ≡ Some p) × (same_puid x id ≡ false)
    at true same q = let no : cond (not (true || false)) (object_at g x) None ≡ Some p = ap (λ (b : Bool). cond (not (b || false)) (object_at g x) None) (sym same) ∙ q in cc
    at false apart q = (ap (λ (b : Bool). cond (not (b || false)) (object_at g x) None) (sym apart) ∙ q, apart)

-- some of the objects that an image holds
pub hold_fewer : (a : Image) (g h : Graph) → Holds a g → h.root ≡ g.root → ((x : Puid) (o : Object) → object_at h x ≡ Some o → object_at g x ≡ Some o) → Holds a h
hold_fewer a g h holds root was = record {
  label = subst (λ (r : Puid). IsLabelOf (length a) r (block_at a 1)) (sym root) holds.label;
  maps = holds.maps;
  own = holds.own;
  fixed = holds.fixed;
  objects = λ x o at. holds.objects x o (was x o at);
}

pub hold_others : (a : Image) (g : Graph) (id : Puid) → Holds a g → Holds a (others g id)
hold_others a g id holds = hold_fewer a g (others g id) holds refl (λ x p h. (other_is g id x p h).0)

-- What holds the others holds this object too as it then reads.
pub object_joins : (b : Image) (g : Graph) (id : Puid) (o : Object) → Holds b (others g id) → ReadsAs (length b) id (sight b id.block) o → Holds b (with_object g id o)
object_joins b g id o holds fits = record {
  label = holds.label;
  maps = holds.maps;
  own = holds.own;
  fixed = holds.fixed;
  objects = λ x p found. each x p (same_puid x id) refl (sym (object_at-with_object g id o x) ∙ found);
}
  where
    each : (x : Puid) (p : Object) (t : Bool) → same_puid x id ≡ t → cond t (Some o) (object_at g x) ≡ Some p → ReadsAs (length b) x (sight b x.block) p
    each x p true same is = rw (same_puid_is x id same, sym (same_Some _ _ is)) fits
    each x p false apart is = holds.objects x p (other_at g id x p is apart)

-- within the frame of the others
pub object_put : (a b : Image) (g : Graph) (id : Puid) (o : Object) → Holds a g → Frames a (others g id) b → ReadsAs (length a) id (sight b id.block) o → Holds b (with_object g id o)
object_put a b g id o holds frames fits =
    object_joins b g id o (frames_hold a b (others g id) (hold_others a g id holds) frames) (subst (λ (n : ℕ). ReadsAs n id (sight b id.block) o) (sym frames.size) fits)

-- an object that is new to the graph
pub object_made : (a b : Image) (g : Graph) (id : Puid) (o : Object) → Holds a g → Frames a g b → ReadsAs (length b) id (sight b id.block) o → Holds b (with_object g id o)
object_made a b g id o holds frames fits = object_joins b g id o (hold_others b g id (frames_hold a b g holds frames)) fits

-- A block that an object owns is loose for all others: its root, shadow root, nodes and leaves, and what its draft claimed.
pub owned_is_loose : (a : Image) (g : Graph) (id : Puid) (was : Object) → Holds a g → object_at g id ≡ Some was → (n : ℕ) → IsTaken a n id.block → IsLoose a (others g id) n
owned_is_loose a g id was holds at n taken = record {
  apart = taken_apart a g holds n id.block taken;
  unheld = λ held.
      let other = other_is g id held.0 held.1 held.2 in
      let has = object_taken a (length a) held.0 held.1 (holds.objects held.0 held.1 other.0) n held.3 in
      let same : held.0.block ≡ id.block = sym has.owned ∙ ap (λ (e : MapEntry). e.owner) (same_Some _ _ (sym has.here ∙ taken.here)) ∙ taken.owned in
      let one = same_block a (length a) held.0 id held.1 was (holds.objects held.0 held.1 other.0) (holds.objects id was at) same in
      let no : true ≡ false = sym (same_puid_itself id) ∙ ap (λ (x : Puid). same_puid x id) (sym one) ∙ other.1 in cc;
}
