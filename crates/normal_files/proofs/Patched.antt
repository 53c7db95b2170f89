-- A file of which some leaves have their new bytes is between the old file and the new.
use Rattle.normal_files.proofs.Words.{◌≡◌, ◌≢◌, ◌⊎◌, inl, inr, ℕ, ◌+◌, ◌*◌, ◌/◌, ◌<◌, ◌≤◌, Bool, true, false, List, length, Option, Some, None, refl, sym, ◌∙◌, ap, subst, arith, ◌&&◌, nat_le, nat_lt, nat_tests, Image, block_at, Puid, root_spelling, levels_of, path_to, tree_of, patched, SetsSize, GivesFile, LeavesFit, WritesLeaves, bytes_held, mixed_fit, same_object, content_is, length-leaf_content, file_to_leaves, laid_outside, over_early, over_past, writes_fit, writes_object, File, Graph, changed_object, leaves_in, written, Overwrite, leaf_content, Held, held, held_is, Frames, others}
use Rattle.normal_files.specs.Among.{IsAmong, IsEither}
use Rattle.normal_files.specs.Laid.{IsRooted, leaves_of, object_laid}
use Rattle.normal_files.specs.Standing.{IsPartly}
use Rattle.normal_files.proofs.Laid.{tree_of_laid}
use Rattle.normal_files.proofs.Among.{among_rooted, leaf_either}
use Rattle.normal_files.proofs.Partly.{no_index, partly}
use Rattle.normal_files.specs.View.{HasFile}
use Rattle.cfs_base.specs.declared.kind.Kind.TheVariants as kinds
use Rattle.block_tree.specs.declared.root.Root as roots
use Rattle.ufs_model.specs.declared.object.Object.TheVariants as objects

-- ---- the leaves once all is written

module _ (fill offset : ℕ) (bytes : List ℕ) (old : ℕ → Option Held) (whole : (l : ℕ) (h : Held) → old l ≡ Some h → length h.content ≡ 512) where
  abbrev before : ℕ → List ℕ
  before l = leaf_content fill (old l)

  abbrev after : ℕ → List ℕ
  after l = patched l offset bytes (before l)

  abbrev is_touched : ℕ → Bool
  is_touched l = nat_le (offset / 512) l && nat_lt l (leaves_in (offset + length bytes))

  rewritten : Bool → List ℕ → Option Held → Option Held
  rewritten touched content (Some h) = Some (record h { content = content })
  rewritten true content None = Some (record { block = 0; part = None; content = content })
  rewritten false content None = None

  pub next : ℕ → Option Held
  next l = rewritten (is_touched l) (after l) (old l)

  -- a leaf that isn't touched stays
  pub untouched : (l : ℕ) → (l < offset / 512) ⊎ (leaves_in (offset + length bytes) ≤ l) → after l ≡ before l
  untouched l out = laid_outside (512 * l) (before l) offset bytes (λ k small. elim out [
    | inl early ↦ over_early offset bytes (512 * l + k) _ (omega (arith, length-leaf_content fill (old l)))
    | inr late ↦ over_past offset bytes (512 * l + k) _ (omega (arith, length-leaf_content fill (old l)))
  ])

  not_touched : (l : ℕ) → (l < offset / 512) ⊎ (leaves_in (offset + length bytes) ≤ l) → is_touched l ≡ false
  not_touched l (inl early) = grind (arith, nat_tests)
  not_touched l (inr late) = grind (arith, nat_tests)

  pub touched_is : (l : ℕ) → offset / 512 ≤ l → l < leaves_in (offset + length bytes) → is_touched l ≡ true
  touched_is l from to = grind (arith, nat_tests)

  pub next_held : (l : ℕ) (h : Held) → old l ≡ Some h → bytes_held (next l) ≡ Some (after l)
  unfolding next rewritten
  next_held l h is = ap (λ o. bytes_held (rewritten (is_touched l) (after l) o)) is

  pub next_touched : (l : ℕ) → is_touched l ≡ true → bytes_held (next l) ≡ Some (after l)
  unfolding next rewritten
  next_touched l is = by (old l)
    where
      by : (o : Option Held) → bytes_held (rewritten (is_touched l) (after l) o) ≡ Some (after l)
      by None = ap (λ (b : Bool). bytes_held (rewritten b (after l) None)) is
      by (Some h) = refl

  pub next_untouched : (l : ℕ) → (l < offset / 512) ⊎ (leaves_in (offset + length bytes) ≤ l) → bytes_held (next l) ≡ bytes_held (old l)
  unfolding next rewritten
  next_untouched l out = by (old l) refl
    where
      by : (o : Option Held) → old l ≡ o → bytes_held (rewritten (is_touched l) (after l) o) ≡ bytes_held o
      by None is = ap (λ (b : Bool). bytes_held (rewritten b (after l) None)) (not_touched l out)
      by (Some h) is = ap Some (untouched l out ∙ content_is fill (old l) h.content (ap bytes_held is) (whole l h is))

  pub next_writes : WritesLeaves fill offset bytes old next
  next_writes = record {
    before = λ l early. next_untouched l (inl early);
    here = λ l from to. next_touched l (touched_is l from to);
    after = λ l late. next_untouched l (inr late);
  }

-- ---- an image of a write

module _ {a : Image} {graph : Graph} {id : Puid} {f : File} {root : roots.Root} (s : HasFile a graph id f root) where
  pub gives : GivesFile root (leaves_of a root) f
  gives = file_to_leaves root (leaves_of a root) f s.same

  pub a_file : root.kind ≢ kinds.Index
  a_file index = no_index f.kind (sym gives.kind ∙ index)

  pub whole : (l : ℕ) (h : Held) → leaves_of a root l ≡ Some h → length h.content ≡ 512
  whole l h is =
      let path = path_to (levels_of (root_spelling root)) l in
      let tree = tree_of_laid a (root_spelling root) root (record { good = s.rooted.laid.good; spelled = refl }) id.block refl s.rooted.laid in
      let two = held_is a (tree_of a (root_spelling root) path) h is in
      let below = subst (λ (x : Held). x.block < length a) two.0 (tree.on_disk path h is) in
      subst (λ (x : Held). length x.content ≡ 512) (sym two.0) (s.blocks (tree_of a (root_spelling root) path) below).long

  module _ (offset : ℕ) (bytes : List ℕ) (inside : offset + length bytes ≤ length f.bytes) where
    abbrev pub last : ℕ → Option Held
    last = next root.fill offset bytes (leaves_of a root) whole

    fits : offset + length bytes ≤ root.size
    fits = omega (arith, inside, gives.size)

    pub last_fit : LeavesFit root last
    last_fit = writes_fit root (leaves_of a root) last offset bytes s.rooted.laid.fit (next_writes root.fill offset bytes (leaves_of a root) whole) fits

    last_gives : GivesFile root last (written f offset bytes)
    last_gives = file_to_leaves root last (written f offset bytes)
        (writes_object root (leaves_of a root) last offset bytes s.rooted.laid.fit (next_writes root.fill offset bytes (leaves_of a root) whole) fits a_file ∙ ap (λ o. changed_object (Overwrite offset bytes) o) s.same)

    -- ---- an image whose root leads to leaves of before and of after

    module _ (c : Image) (r : roots.Root) (head : SetsSize root.size root r) (mixed : (l : ℕ) → (bytes_held (leaves_of c r l) ≡ bytes_held (leaves_of a root l)) ⊎ (bytes_held (leaves_of c r l) ≡ bytes_held (last l))) where
      pub mixed_fits : LeavesFit r (leaves_of c r)
      mixed_fits = mixed_fit root root r (leaves_of a root) last (leaves_of c r) s.rooted.laid.fit last_fit (omega arith) refl head mixed

      pub mixed_partly : Frames a (others graph id) c → IsRooted c id r → IsPartly c graph id f (written f offset bytes)
      mixed_partly frames now_rooted = partly a graph id s.holds root root (leaves_of a root) last f (written f offset bytes) s.rooted.laid.fit gives last_fit last_gives refl c r (record { kind = head.kind; fill = head.fill; size = refl }) mixed frames now_rooted mixed_fits (inl head.size)

    -- ---- one whose leaves are all of after

    pub last_file : (c : Image) (r : roots.Root) → SetsSize root.size root r → ((l : ℕ) → bytes_held (leaves_of c r l) ≡ bytes_held (last l)) → object_laid c r ≡ objects.File (written f offset bytes)
    last_file c r head all =
        let w = next_writes root.fill offset bytes (leaves_of a root) whole in
        same_object root.size root r head (leaves_of c r)
        ∙ writes_object root (leaves_of a root) (leaves_of c r) offset bytes s.rooted.laid.fit (record { before = λ l early. all l ∙ w.before l early; here = λ l from to. all l ∙ w.here l from to; after = λ l late. all l ∙ w.after l late }) fits a_file
        ∙ ap (λ o. changed_object (Overwrite offset bytes) o) s.same

    module _ (c : Image) (among : IsAmong a graph id root (IsEither a root offset bytes) c) where
      is_mixed : (l : ℕ) → (bytes_held (leaves_of c root l) ≡ bytes_held (leaves_of a root l)) ⊎ (bytes_held (leaves_of c root l) ≡ bytes_held (last l))
      is_mixed l = elim (leaf_either s (IsEither a root offset bytes) c among l) [
        | inl none ↦ inl (ap bytes_held none.0 ∙ sym (ap bytes_held none.1))
        | inr some ↦ elim some.3 [
          | inl was ↦ inl (ap bytes_held some.2 ∙ ap Some (was ∙ content_is root.fill (leaves_of a root l) (block_at a some.0) (ap bytes_held some.1) (whole l (held a some.0) some.1)) ∙ sym (ap bytes_held some.1))
          | inr now ↦ inr (ap bytes_held some.2 ∙ ap Some now ∙ sym (next_held root.fill offset bytes (leaves_of a root) whole l (held a some.0) some.1))
        ]
      ]

      pub partly_written : IsPartly c graph id f (written f offset bytes)
      partly_written =
          let head : SetsSize root.size root root = record { kind = refl; fill = refl; size = refl } in
          mixed_partly c root head is_mixed among.frames (among_rooted s (IsEither a root offset bytes) c among (mixed_fits c root head is_mixed))
