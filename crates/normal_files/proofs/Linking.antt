-- Blocks written one after another, each outlasting a crash before the next.
use Rattle.normal_files.proofs.Words.{◌≡◌, ℕ, List, set, ◌∙◌, ap, Result, Image, Nothing, IsSettled, Leaves, Ghosts, Trouble, on, wider}
use Rattle.normal_files.specs.Steps.{WritesBlock}

module _ {D : Type 0} (g : Ghosts D) (old mid : D) (block : ℕ) (v : List ℕ) (result : Result (Unit {0}) Trouble) (writes : WritesBlock g 1 block v old mid result) (settled : IsSettled g old) where
  pub through_wrote : Leaves g old mid (λ c. c ≡ set (g.content old) block v)
  through_wrote = wider g old mid _ _ writes.images (λ c w. w.2 ∙ ap (λ (d : Image). set d block v) (settled.only w.0 w.1))

  pub through_images : (new : D) → Leaves g mid new Nothing → Leaves g old new (λ c. c ≡ set (g.content old) block v)
  through_images new images = on g old mid new _ through_wrote images
