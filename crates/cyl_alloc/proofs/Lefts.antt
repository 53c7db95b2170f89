-- What is left of a commit, and the part of it that is next.
use Rattle.std.proofs.Common.{◌<◌, ℕ, Bool, true, false, List, [], ◌∷◌, Some}
use Rattle.std.specs.List.{All}
use Rattle.std.proofs.lemmas.List.Elements.{All-head, All-tail}
use Rattle.cyl_alloc.specs.Left.{LeftCommit, LiesOnDisk, IsPartNear, after_in, after_part, next_part_in, next_part_of}

-- a part of what lies on a disk does
pub part_near : (size : ℕ) (l : LeftCommit) → LiesOnDisk size (Some l) → IsPartNear size (next_part_of l)
part_near size l near = at l.copied l.rest near.2
  where
    at : (b : Bool) (rest : List ℕ) → All (λ n. n < size) rest → IsPartNear size (next_part_in l b rest)
    at false rest all = (near.0, near.1)
    at true [] all = near.0
    at true (n ∷ ns) all = All-head (λ m. m < size) n ns all

-- and so does what is left after it
pub still_near : (size : ℕ) (l : LeftCommit) → LiesOnDisk size (Some l) → LiesOnDisk size (after_part l)
still_near size l near = at l.copied l.rest near.2
  where
    at : (b : Bool) (rest : List ℕ) → All (λ n. n < size) rest → LiesOnDisk size (after_in l b rest)
    at false rest all = (near.0, near.1, near.2)
    at true [] all = tt
    at true (n ∷ ns) all = (near.0, near.1, All-tail (λ m. m < size) n ns all)
