-- The pieces that a line is gathered from.
use Rattle.std.proofs.Common.{◌≡◌, ℕ, ◌+◌, ◌-◌, ◌≤◌, Bool, true, false, List, ◌∷◌, ◌++◌, take, drop, refl, sym, ap, ◌∙◌, arith, Some, None}
use Rattle.std.specs.List.{position}
use Rattle.std.proofs.lemmas.List.{append-nil, drop-drop, drop-take, drop_all, length-take}
use Rattle.cfs_base.specs.Outside.{Supply}
use Rattle.cfs_ports.specs.Pieces.{TakesPiece}
use Rattle.cfs_ports.proofs.LineLemmas.{first_end, is_lf, no_end}
use Rattle.ufs_model.specs.Script.{LF}

-- what is held stands in the chunk between two places
held_is : (chunk : List ℕ) (at end : ℕ) → at ≤ end → take (end - at) (drop at chunk) ≡ drop at (take end chunk)
held_is chunk at end within =
    let there : at + (end - at) ≡ end = omega arith in
    sym (drop-take at (end - at) chunk) ∙ ap (λ n. drop at (take n chunk)) there

pub whole_piece : (supply : Supply) (line chunk : List ℕ) (at end k : ℕ) (ended : Bool) → at ≤ end
    → position is_lf (take (end - at) (drop at chunk)) ≡ Some k
    → TakesPiece (record { supply = supply; line = line; held = drop at (take end chunk); ended = ended })
    (record {
      supply = supply;
      line = line ++ take k (take (end - at) (drop at chunk));
      held = drop (at + (k + 1)) (take end chunk);
      ended = ended;
    })
    true
whole_piece supply line chunk at end k ended within found =
    let held = drop at (take end chunk) in
    let same = held_is chunk at end within in
    let first = first_end held k (rw same at found) in
    record {
      piece = take k held;
      within = first.1;
      line = ap (λ xs. line ++ take k xs) same;
      split = first.2 ∙ ap (λ xs. take k held ++ LF ∷ xs) (drop-drop (k + 1) at (take end chunk));
      rest = λ e. absurd (cc e);
      supply = refl;
      ended = refl;
    }

pub last_piece : (supply : Supply) (line chunk : List ℕ) (at end : ℕ) (ended : Bool) → at ≤ end
    → position is_lf (take (end - at) (drop at chunk)) ≡ None
    → TakesPiece (record { supply = supply; line = line; held = drop at (take end chunk); ended = ended })
    (record {
      supply = supply;
      line = line ++ take (end - at) (drop at chunk);
      held = drop end (take end chunk);
      ended = ended;
    })
    false
last_piece supply line chunk at end ended within none =
    let held = drop at (take end chunk) in
    let same = held_is chunk at end within in
    record {
      piece = held;
      within = no_end held (rw same at none);
      line = ap (λ xs. line ++ xs) same;
      split = sym (append-nil held);
      rest = λ e. drop_all end (take end chunk) (omega (arith, length-take end chunk));
      supply = refl;
      ended = refl;
    }
