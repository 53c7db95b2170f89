-- A file of which each leaf is as in one file or as in another, whatever its root leads to.
use Rattle.normal_files.proofs.Words.{◌≡◌, ◌≢◌, ◌⊎◌, inl, inr, ℕ, List, length, true, Option, Some, None, is_some, refl, sym, ◌∙◌, ap, subst, arith, Image, Puid, FileKind, SetsSize, GivesFile, kind_of, LeavesFit, bytes_held, between, leaf_of, same_content, file_to_leaves, same_kind, some_file, File, Graph, has_number, numbers_rise, leaves_in, filter-rises, in_filter, numbers-rise, to_filter, to_numbers, Frames, leaf_content, Held, sight, Holds, ReadsAs, leaf_of_file, object_put, others}
use Rattle.normal_files.specs.Laid.{IsRooted, leaves_of}
use Rattle.normal_files.specs.Standing.{HoldsOfEither, IsPartly}
use Rattle.normal_files.proofs.Laid.{rooted_reads}
use Rattle.cfs_base.specs.declared.kind.Kind.TheVariants as kinds
use Rattle.cfs_base.specs.declared.kind.FileKind.TheVariants as file_kinds
use Rattle.block_tree.specs.declared.root.Root as roots
use Rattle.ufs_model.specs.declared.object.Object.TheVariants as objects

some_held : (o : Option Held) (bytes : List ℕ) → bytes_held o ≡ Some bytes → (h : Held) × (o ≡ Some h)
some_held None bytes is = cc
some_held (Some h) bytes is = (h, refl)

held_bytes : (o : Option Held) → is_some o ≡ true → (bytes : List ℕ) × (bytes_held o ≡ Some bytes)
held_bytes None is = cc
held_bytes (Some h) is = (h.content, refl)

-- the leaves of what is read rise
pub held_rises : (root : roots.Root) (leaves : ℕ → Option Held) (f : File) → GivesFile root leaves f → numbers_rise f.held ≡ true
held_rises root leaves f gives = ap numbers_rise gives.held ∙ filter-rises (λ n. is_some (leaves n)) _ (numbers-rise 0 (leaves_in root.size))

pub no_index : (k : FileKind) → kind_of k ≢ kinds.Index
no_index file_kinds.Normal same = cc
no_index file_kinds.Special same = cc

-- the old file with its root and leaves, and the new one with its own
module _ (a : Image) (graph : Graph) (id : Puid) (holds : Holds a graph) (root next : roots.Root) (old new : ℕ → Option Held) (f to : File) (fit : LeavesFit root old) (gives : GivesFile root old f) (next_fit : LeavesFit next new) (next_gives : GivesFile next new to)
    (fill : next.fill ≡ root.fill) (c : Image) (r : roots.Root) (head : SetsSize r.size root r) (mixed : (l : ℕ) → (bytes_held (leaves_of c r l) ≡ bytes_held (old l)) ⊎ (bytes_held (leaves_of c r l) ≡ bytes_held (new l))) where
  content_of : (l : ℕ) → (leaf_content r.fill (leaves_of c r l) ≡ leaf_of_file f l) ⊎ (leaf_content r.fill (leaves_of c r l) ≡ leaf_of_file to l)
  content_of l = elim (mixed l) [
    | inl was ↦ inl (ap (λ (b : ℕ). leaf_content b (leaves_of c r l)) head.fill ∙ same_content root.fill (leaves_of c r l) (old l) was ∙ sym (leaf_of root old f fit gives l))
    | inr now ↦ inr (ap (λ (b : ℕ). leaf_content b (leaves_of c r l)) (head.fill ∙ sym fill) ∙ same_content next.fill (leaves_of c r l) (new l) now ∙ sym (leaf_of next new to next_fit next_gives l))
  ]

  -- a leaf that is held now is held by the one or the other
  held_by : (leaves : ℕ → Option Held) (head : roots.Root) (x : File) → LeavesFit head leaves → GivesFile head leaves x → (l : ℕ) (bytes : List ℕ) → bytes_held (leaves l) ≡ Some bytes → has_number l x.held ≡ true
  held_by leaves head x fits gave l bytes is =
      let h = some_held (leaves l) bytes is in
      ap (λ (ns : List ℕ). has_number l ns) gave.held ∙ to_filter (λ n. is_some (leaves n)) l _ (ap is_some h.1) (to_numbers l 0 (leaves_in head.size) (omega arith) (omega (arith, fits.within l h.0 h.1)))

  either : (x : File) → GivesFile r (leaves_of c r) x → HoldsOfEither f to x
  either x gave = record {
    rising = held_rises r (leaves_of c r) x gave;
    each = λ l has.
        let some = held_bytes (leaves_of c r l) (in_filter (λ n. is_some (leaves_of c r n)) l _ (ap (λ (ns : List ℕ). has_number l ns) (sym gave.held) ∙ has)).0 in
        elim (mixed l) [
          | inl was ↦ inl (held_by old root f fit gives l some.0 (sym was ∙ some.1))
          | inr now ↦ inr (held_by new next to next_fit next_gives l some.0 (sym now ∙ some.1))
        ];
  }

  pub partly : Frames a (others graph id) c → IsRooted c id r → LeavesFit r (leaves_of c r) → (r.size ≡ root.size) ⊎ (r.size ≡ next.size) → IsPartly c graph id f to
  partly frames rooted now_fit sized =
      let some = some_file r (leaves_of c r) (λ index. no_index f.kind (sym gives.kind ∙ sym head.kind ∙ index)) in
      let now = file_to_leaves r (leaves_of c r) some.0 some.1 in
      let reads = subst (λ o. ReadsAs (length c) id (sight c id.block) o) some.1 (rooted_reads c id r rooted) in
      record {
        file = some.0;
        holds = object_put a c graph id (objects.File some.0) holds frames (subst (λ (n : ℕ). ReadsAs n id (sight c id.block) (objects.File some.0)) frames.size reads);
        between = between r (leaves_of c r) some.0 now_fit now f to (same_kind some.0.kind f.kind r.kind now.kind (head.kind ∙ gives.kind)) (head.fill ∙ sym gives.fill)
            (elim sized [ inl was ↦ inl (was ∙ sym gives.size) | inr is ↦ inr (is ∙ sym next_gives.size) ]) content_of;
        either = either some.0 now;
      }
