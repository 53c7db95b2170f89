-- The object of a root and leaves, byte by byte or slot by slot.
use Rattle.std.proofs.Common.{◌≡◌, ◌≢◌, ℕ, zero, suc, ◌+◌, ◌*◌, ◌/◌, ◌%◌, ◌<◌, List, [], ◌∷◌, length, get_or, slice_get, take, Option, None, refl, sym, ◌∙◌, ap, subst, arith, map}
use Rattle.leaf_changes.proofs.Words.{File, FileKind, GivesFile, GivesIndex, Held, Index, Kind, Object, Puid, Root, ext_get_or, file_bytes, get_or-take, held_in, kind_of, leaf_byte, leaf_content, leaves_in, length-take, object_with, range_with_len, size_of, slot_in, unwrap_or}
use Rattle.cfs_base.specs.declared.kind.Kind.TheVariants as kinds
use Rattle.cfs_base.specs.declared.kind.FileKind.TheVariants as file_kinds
use Rattle.ufs_model.specs.declared.object.Object.TheVariants as objects
use Rattle.leaf_changes.proofs.Rows.{length-pieces, byte-pieces, length-made, get_or-made}
use Rattle.leaf_changes.proofs.SlotBytes.{same_slot}
use Rattle.leaf_changes.proofs.Contents.{length-leaf_content}

pub same_kind : (k l : FileKind) (kind : Kind) → kind ≡ kind_of k → kind ≡ kind_of l → k ≡ l
same_kind file_kinds.Normal file_kinds.Normal kind one two = refl
same_kind file_kinds.Normal file_kinds.Special kind one two = cc
same_kind file_kinds.Special file_kinds.Normal kind one two = cc
same_kind file_kinds.Special file_kinds.Special kind one two = refl

pub slot_get : (slots : List (Option Puid)) (s : ℕ) → unwrap_or (slice_get slots s) None ≡ get_or slots s None
slot_get [] s = refl
slot_get (what ∷ slots) zero = refl
slot_get (what ∷ slots) (suc s) = slot_get slots s

-- a byte of a slot is in the leaf of the slot
pub slot_byte : (fill : ℕ) (leaf : ℕ → Option Held) (s i : ℕ) → i < 8 → leaf_byte fill leaf (8 * s + i) ≡ get_or (leaf_content fill (leaf (s / 64))) (8 * (s % 64) + i) 0
slot_byte fill leaf s i small =
    let at : (8 * s + i) / 512 ≡ s / 64 = omega arith in
    let place : (8 * s + i) % 512 ≡ 8 * (s % 64) + i = omega arith in
    λ t. get_or (leaf_content fill (leaf (at t))) (place t) 0

module _ (root : Root) (leaf : ℕ → Option Held) where
  pub length-file_bytes : length (file_bytes root leaf) ≡ 512 * leaves_in root.size
  length-file_bytes = length-pieces (λ n. leaf_content root.fill (leaf n)) (λ n. length-leaf_content root.fill (leaf n)) (leaves_in root.size)

  pub byte_in : (k : ℕ) → k < 512 * leaves_in root.size → get_or (file_bytes root leaf) k 0 ≡ leaf_byte root.fill leaf k
  byte_in = byte-pieces (λ n. leaf_content root.fill (leaf n)) (λ n. length-leaf_content root.fill (leaf n)) (leaves_in root.size)

  -- ---- files

  the_file : FileKind → File
  the_file kind = record { kind = kind; fill = root.fill; bytes = take root.size (file_bytes root leaf); held = held_in root leaf }

  file_object : (kind : FileKind) → root.kind ≡ kind_of kind → object_with root leaf ≡ objects.File (the_file kind)
  unfolding object_with the_file
  file_object file_kinds.Normal is = rw is refl
  file_object file_kinds.Special is = rw is refl

  long_enough : length (take root.size (file_bytes root leaf)) ≡ root.size
  long_enough = omega (arith, length-take root.size (file_bytes root leaf), length-file_bytes)

  the_file_is_given : (kind : FileKind) → root.kind ≡ kind_of kind → GivesFile root leaf (the_file kind)
  unfolding the_file
  the_file_is_given kind is = record {
    kind = is;
    fill = refl;
    size = long_enough;
    bytes = λ k below. get_or-take root.size (file_bytes root leaf) k 0 below ∙ byte_in k (omega arith);
    held = refl;
  }

  same_file : (f g : File) → f.kind ≡ g.kind → GivesFile root leaf f → GivesFile root leaf g → f ≡ g
  same_file f g kind one two =
      let bytes = ext_get_or 0 f.bytes g.bytes (one.size ∙ sym two.size) (λ k below. let less : k < root.size = omega (arith, one.size) in one.bytes k less ∙ sym (two.bytes k less)) in
      let fill = one.fill ∙ sym two.fill in
      let held = one.held ∙ sym two.held in
      λ i. record { kind = kind i; fill = fill i; bytes = bytes i; held = held i }

  pub file_from_leaves : (f : File) → GivesFile root leaf f → object_with root leaf ≡ objects.File f
  unfolding the_file
  file_from_leaves f gives = file_object f.kind gives.kind ∙ ap objects.File (same_file (the_file f.kind) f refl (the_file_is_given f.kind gives.kind) gives)

  -- ---- indices

  the_index : Index
  the_index = record { slots = map (slot_in (file_bytes root leaf)) (range_with_len 0 (root.size / 8)); held = held_in root leaf }

  index_object : root.kind ≡ kinds.Index → object_with root leaf ≡ objects.Index the_index
  unfolding object_with the_index
  index_object is = rw is refl

  slot_here : (s : ℕ) → s < root.size / 8 → slot_in (file_bytes root leaf) s ≡ slot_in (leaf_content root.fill (leaf (s / 64))) (s % 64)
  slot_here s below = same_slot (file_bytes root leaf) (leaf_content root.fill (leaf (s / 64))) s (s % 64) (λ i small. byte_in (8 * s + i) (omega arith) ∙ slot_byte root.fill leaf s i small)

  the_index_is_given : root.kind ≡ kinds.Index → GivesIndex root leaf the_index
  unfolding the_index
  the_index_is_given is = record {
    kind = is;
    size = length-made (slot_in (file_bytes root leaf)) (root.size / 8);
    slots = λ s below. slot_get the_index.slots s ∙ get_or-made (slot_in (file_bytes root leaf)) (root.size / 8) s None below ∙ slot_here s below;
    held = refl;
  }

  same_index : (i j : Index) → GivesIndex root leaf i → GivesIndex root leaf j → i ≡ j
  same_index i j one two =
      let slots = ext_get_or None i.slots j.slots (one.size ∙ sym two.size) (λ s below.
      let less : s < root.size / 8 = omega (arith, one.size) in
      sym (slot_get i.slots s) ∙ one.slots s less ∙ sym (two.slots s less) ∙ slot_get j.slots s) in
      let held = one.held ∙ sym two.held in
      λ t. record { slots = slots t; held = held t }

  pub index_from_leaves : (i : Index) → GivesIndex root leaf i → object_with root leaf ≡ objects.Index i
  index_from_leaves i gives = index_object gives.kind ∙ ap objects.Index (same_index the_index i (the_index_is_given gives.kind) gives)

  -- ---- back

  pub file_to_leaves : (f : File) → object_with root leaf ≡ objects.File f → GivesFile root leaf f
  file_to_leaves f is = at root.kind refl
    where
      same : (g : File) → ◌≡◌ {A = Object} (objects.File g) (objects.File f) → g ≡ f
      same g e = cc

      of : (kind : FileKind) → root.kind ≡ kind_of kind → GivesFile root leaf f
      of kind k = subst (GivesFile root leaf) (same (the_file kind) (sym (file_object kind k) ∙ is)) (the_file_is_given kind k)

      at : (kind : Kind) → root.kind ≡ kind → GivesFile root leaf f
      at kinds.Normal k = of file_kinds.Normal k
      at kinds.Special k = of file_kinds.Special k
      at kinds.Index k = let no = sym (index_object k) ∙ is in cc

  pub index_to_leaves : (i : Index) → object_with root leaf ≡ objects.Index i → GivesIndex root leaf i
  index_to_leaves i is = at root.kind refl
    where
      same : (j : Index) → ◌≡◌ {A = Object} (objects.Index j) (objects.Index i) → j ≡ i
      same j e = cc

      at : (kind : Kind) → root.kind ≡ kind → GivesIndex root leaf i
      at kinds.Normal k = let no = sym (file_object file_kinds.Normal k) ∙ is in cc
      at kinds.Special k = let no = sym (file_object file_kinds.Special k) ∙ is in cc
      at kinds.Index k = subst (GivesIndex root leaf) (same the_index (sym (index_object k) ∙ is)) (the_index_is_given k)

  -- a root of a file gives one
  pub some_file : root.kind ≢ kinds.Index → (f : File) × (object_with root leaf ≡ objects.File f)
  some_file no_index = at root.kind refl
    where
      at : (kind : Kind) → root.kind ≡ kind → (f : File) × (object_with root leaf ≡ objects.File f)
      at kinds.Normal k = (the_file file_kinds.Normal, file_object file_kinds.Normal k)
      at kinds.Special k = (the_file file_kinds.Special, file_object file_kinds.Special k)
      at kinds.Index k = absurd (no_index k)

  pub some_index : root.kind ≡ kinds.Index → (i : Index) × (object_with root leaf ≡ objects.Index i)
  some_index is = (the_index, index_object is)

  pub size_is : (root.kind ≡ kinds.Index → root.size % 8 ≡ 0) → size_of (object_with root leaf) ≡ root.size
  size_is eights = at root.kind refl
    where
      at : (kind : Kind) → root.kind ≡ kind → size_of (object_with root leaf) ≡ root.size
      at kinds.Normal k = ap size_of (file_object file_kinds.Normal k) ∙ (the_file_is_given file_kinds.Normal k).size
      at kinds.Special k = ap size_of (file_object file_kinds.Special k) ∙ (the_file_is_given file_kinds.Special k).size
      at kinds.Index k = ap size_of (index_object k) ∙ omega (arith, (the_index_is_given k).size, eights k)
