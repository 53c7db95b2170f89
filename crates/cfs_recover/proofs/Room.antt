-- How many blocks a finished walk leaves.
use Rattle.std.proofs.Common.{◌≡◌, inl, inr, ℕ, ◌+◌, ◌*◌, ◌<◌, ◌≤◌, Bool, false, not, ◌||◌, List, length, get_or, count_by, map, None, refl, sym, ◌∙◌, ap, arith}
use Rattle.cfs_recover.proofs.Words.{AreGrounds, Fault, Graph, Image, IsFaultOf, IsIn, IsKeptBlock, IsNotedIn, IsWalk, Label, LeavesBlocks, LeavesFour, Walk, cases_lt, count_in, damage, get_or-map-range_with_len, get_or_past, graph_blocks, holds, is_fixed, length-map-range_with_len, or_cases, range_with_len}
use Rattle.std.proofs.lemmas.Bool.{or_left, or_right}
use Rattle.cfs_recover.proofs.Counted.{counted, left_is, marks_count}
use Rattle.cfs_recover.proofs.Finished.{held_in, in_graph, in_held, walk_holds}

module _ (image : Image) (label : Label) (grounds : AreGrounds image label) (w : Walk) (walk : IsWalk image w (length w.found.items)) (no_clash : w.clash ≡ None) (noted : IsNotedIn w label.root) where
  abbrev g : Graph
  g = walk.graph

  its : (n : ℕ) → IsIn image g n → IsKeptBlock image n
  its n is = walk.held n (in_held image label grounds w walk no_clash noted n is)

  marked : length w.held.items ≡ length image → count_by (λ h. h) w.held.items ≡ graph_blocks g
  marked size =
      marks_count (λ h. h) w.held.items ∙ ap (λ (n : ℕ). count_in (holds w) 0 n) size
      ∙ counted image g (walk_holds image label grounds w walk no_clash noted) walk.ordered (holds w) (held_in image label grounds w walk no_clash noted) (in_held image label grounds w walk no_clash noted)

  -- so 4 blocks are left where it says so
  pub four_are_left : length w.held.items ≡ length image → count_by (λ h. h) w.held.items + 5 ≤ 63 * label.cylinders → LeavesFour (length image) g
  four_are_left size few = omega (arith, marked size, few, grounds.size)

  -- ---- and else that is a fault

  abbrev is_taken_here : ℕ → Bool
  is_taken_here n = is_fixed n || holds w n

  abbrev marks : List Bool
  marks = map is_taken_here (range_with_len 0 (length image))

  mark_is : (n : ℕ) → n < length image → get_or marks n false ≡ is_taken_here n
  mark_is n below = get_or-map-range_with_len is_taken_here 0 (length image) n n false below (omega arith)

  its_left : LeavesBlocks image (count_by not marks)
  its_left = record {
    taken = marks;
    size = length-map-range_with_len is_taken_here 0 (length image);
    only = λ n is. elim (cases_lt n (length image)) [
      | inl below ↦ elim (or_cases (is_fixed n) (holds w n) (sym (mark_is n below) ∙ is)) [ inl fixed ↦ inl fixed | inr held ↦ inr (walk.held n held) ]
      | inr past ↦ (let none = sym (get_or_past marks n false (omega (arith, past, length-map-range_with_len is_taken_here 0 (length image)))) ∙ is in cc)
    ];
    all = λ n below is. mark_is n below ∙ elim is [
      | inl fixed ↦ or_left (is_fixed n) (holds w n) fixed
      | inr kept ↦ or_right (is_fixed n) (holds w n) (in_held image label grounds w walk no_clash noted n (in_graph image label grounds w walk no_clash noted n kept))
    ];
    count = refl;
  }

  pub too_few_left : length w.held.items ≡ length image → ¬ (count_by (λ h. h) w.held.items + 5 ≤ 63 * label.cylinders) → IsFaultOf image (damage 0 11)
  too_few_left size none =
      let left = left_is image g (walk_holds image label grounds w walk no_clash noted) walk.ordered (in_graph image label grounds w walk no_clash noted) its (count_by not marks) its_left in
      Fault.TooFull (count_by not marks) its_left (elim (cases_lt (count_by not marks) 4) [ inl few ↦ few | inr many ↦ absurd (none (omega (arith, many, left, marked size, grounds.size))) ])
