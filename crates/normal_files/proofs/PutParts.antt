-- The touched leaves of one node, written one after another.
use Rattle.normal_files.proofs.Words.{◌≡◌, ◌≢◌, ℕ, ◌+◌, ◌*◌, ◌%◌, ◌<◌, ◌≤◌, Ok, List, length, get_or, refl, sym, ◌∙◌, ap, subst, [], arith, Result, slice_index, Image, block_at, Leaves, Ghosts, Trouble, entry_in, entry_in-set, Kept, patched, Leaf, leaf_pointers}
use Rattle.normal_files.specs.Laid.{leaf_of}
use Rattle.normal_files.specs.Parts.{IsPart, IsReadPart}
use Rattle.normal_files.specs.Steps.{IsAmid, WritesBlock, MayLeave}
use Rattle.normal_files.specs.declared.part.Part.{Part}
use Rattle.normal_files.proofs.Among.{own_apart}
use Rattle.normal_files.proofs.Amid.{amid_puts, amid_skips, long_before, put_leaves}
use Rattle.normal_files.specs.View.{Way}
use Rattle.block_tree.specs.Along.{way_leaves}

module _ {D : Type 0} {g : Ghosts D} {r : ℕ} {w : Way g r} {offset : ℕ} {bytes : List ℕ} {size : ℕ} {part : Part} (read : IsReadPart size part) (is : IsPart (g.content w.start) w.root part) {l : ℕ} (from : part.leaves.from ≤ l) (to : l < part.leaves.to) {block : ℕ} (here : block ≡ slice_index (way_leaves part.way) (l % leaf_pointers.count))
    {mid : D} {kept : Kept} (amid : IsAmid w offset bytes l mid kept) where
  abbrev a : Image
  a = g.content w.start

  abbrev n : ℕ
  n = part.number

  abbrev k : ℕ
  k = l % leaf_pointers.count

  small : k < leaf_pointers.count
  small = omega arith

  at : leaf_pointers.count * n + k ≡ l
  at = omega (arith, from, to, read.from, read.to)

  points : block ≡ leaf_of a w.root n k
  points = here ∙ ap (λ (ns : List ℕ). get_or ns k 0) (is.own (omega (arith, from, to)))

  amid_at : IsAmid w offset bytes (leaf_pointers.count * n + k) mid kept
  amid_at = subst (λ (m : ℕ). IsAmid w offset bytes m mid kept) (sym at) amid

  pub one_absent : block ≡ 0 → IsAmid w offset bytes (l + 1) mid kept
  one_absent none = subst (λ (m : ℕ). IsAmid w offset bytes (m + 1) mid kept) at (amid_skips w offset bytes n k mid kept small (sym points ∙ none) amid_at)

  module _ (some : block ≢ 0) where
    real : leaf_of a w.root n k ≢ 0
    real none = some (points ∙ none)

    pub one_long : length (block_at (g.content mid) block) ≡ 512
    one_long = ap (λ (b : ℕ). length {A = ℕ} (block_at (g.content mid) b)) points ∙ long_before w offset bytes n k mid mid kept (patched l offset bytes []) small real amid_at

    module _ {new : D} {result : Result (Unit {0}) Trouble} (writes : WritesBlock g 2 block (patched l offset bytes (block_at (g.content mid) block)) mid new result) where
      abbrev v : List ℕ
      v = patched (leaf_pointers.count * n + k) offset bytes (block_at (g.content mid) (leaf_of a w.root n k))

      moved : WritesBlock g 2 (leaf_of a w.root n k) v mid new result
      moved = subst (λ (b : ℕ). WritesBlock g 2 b (patched (leaf_pointers.count * n + k) offset bytes (block_at (g.content mid) b)) mid new result) points
          (subst (λ (m : ℕ). WritesBlock g 2 block (patched m offset bytes (block_at (g.content mid) block)) mid new result) (sym at) writes)

      pub one_leaves : Leaves g w.start new (MayLeave w offset bytes)
      one_leaves = put_leaves w offset bytes n k mid new kept v small real amid_at refl moved.images

      pub one_done : result ≡ Ok tt → IsAmid w offset bytes (l + 1) new kept × ((m : ℕ) → entry_in (g.content new) m ≡ entry_in (g.content mid) m)
      one_done done =
          let on = subst (λ x. WritesBlock g 2 (leaf_of a w.root n k) v mid new x) done moved in (
            subst (λ (m : ℕ). IsAmid w offset bytes (m + 1) new kept) at (amid_puts w offset bytes n k mid new kept v small real amid_at refl on.images on.written on.told on.calls.same),
            λ m. ap (λ (i : Image). entry_in i m) on.written ∙ entry_in-set (g.content mid) (leaf_of a w.root n k) v m (own_apart w.has (leaf_of a w.root n k) (Leaf (leaf_pointers.count * n + k)) (w.has.rooted.laid.leaves n k small real).part),
          )
