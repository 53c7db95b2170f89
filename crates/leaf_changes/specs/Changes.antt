-- A change of an object, said by its root before and after. The root's word and pointers may change too.
use Rattle.std.specs.Prelude.{◌≡◌, ℕ}
use Rattle.block_tree.specs.declared.root.Root.{Root}

-- kind and fill byte stay, and this is the new size
pub record SetsSize (bytes : ℕ) (before after : Root) : Type 0 where
  pub kind : after.kind ≡ before.kind
  pub fill : after.fill ≡ before.fill
  pub size : after.size ≡ bytes
