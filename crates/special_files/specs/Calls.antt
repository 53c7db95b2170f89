-- What single steps of a draft do to a disk.
use Rattle.std.specs.Prelude.{◌≡◌, ◌⊎◌, ℕ, ◌/◌, true, false, IsTrue, IfErr, OnErr, OnOk, Result, Ok, List, set}
use Rattle.block_tree.specs.Pointers.{leaf_pointers}
use Rattle.block_tree.specs.declared.root.Root as roots
use Rattle.cfs_base.specs.Calls.{HasStopped, HasTried, MakesAtMost}
use Rattle.cfs_base.specs.Disk.{Written}
use Rattle.cfs_base.specs.Run.{Leaves, left_now}
use Rattle.cfs_base.specs.declared.disk.Disk.{Ghosts}
use Rattle.cfs_base.specs.declared.identifier.BlockNo.{BlockNo}
use Rattle.cfs_base.specs.declared.kind.Place.TheVariants.{Node}
use Rattle.cfs_base.specs.declared.refusal.Refused.{Refused}
use Rattle.cfs_base.specs.declared.refusal.Refused.TheVariants as refusals
use Rattle.cyl_alloc.specs.Enters.{Enters}
use Rattle.cyl_alloc.specs.Space.{Kept, intended}
use Rattle.special_files.specs.Drafting.{Drafting, is_fresh_leaf, is_fresh_node, pointer_to_node}

-- a block is written
pub record WritesDraftBlock {D : Type 0} (g : Ghosts D) (n : ℕ) (block : List ℕ) (old new : D)
    (result : Result (Unit {0}) Refused) : Type 0 where
  pub written : OnOk result (g.content new ≡ set (g.content old) n block)
  pub tried : HasTried g old new
  pub told : OnOk result ((b : ℕ) → IsTrue (g.told old b) → IsTrue (g.told new b))
  pub images : Leaves g old new (Written (left_now g old) n block)
  pub refused : IfErr result (λ e. e ≡ refusals.Disk true)
  pub stopped : OnErr result (HasStopped g true old new)
  pub calls : MakesAtMost g 1 1 old new

-- if the draft has a node of its own nothing is done, else a block is claimed for it
pub data GetsDraftNode {D : Type 0} (g : Ghosts D) (n : ℕ) (old new : D) (before after : Kept) (drafting : Drafting)
    (result : Result BlockNo Refused) : Type 0 where
  Had : is_fresh_node drafting n ≡ true → new ≡ old → after ≡ before
      → result ≡ Ok (record { 0 = pointer_to_node drafting.root n })
      → GetsDraftNode g n old new before after drafting result
  Claims : is_fresh_node drafting n ≡ false → Enters g (intended (Node n) drafting.at) old new before after result
      → GetsDraftNode g n old new before after drafting result

-- a leaf and its node are fresh afterwards, and all others as they were
pub record SetsFresh (leaf : ℕ) (was now : Drafting) : Type 0 where
  pub leaves : now.leaves ≡ set was.leaves leaf true
  pub nodes : now.nodes ≡ set was.nodes (leaf / leaf_pointers.count) true

-- the same on any disk, on which a leaf that was fresh may have been below a node that wasn't
pub record SetsFlags (leaf : ℕ) (was now : Drafting) : Type 0 where
  pub leaves : now.leaves ≡ set was.leaves leaf true
  pub nodes : ((is_fresh_leaf was leaf ≡ true) × (now.nodes ≡ was.nodes))
      ⊎ (now.nodes ≡ set was.nodes (leaf / leaf_pointers.count) true)

-- the leaf and its node are fresh, and the draft has this root
pub record Adopts (leaf : ℕ) (next : roots.Root) (was now : Drafting) : Type 0 where
  pub fresh : SetsFresh leaf was now
  pub root : now.root ≡ next
  pub at : now.at ≡ was.at
  pub shadow : now.shadow ≡ was.shadow
  pub own : now.own ≡ was.own
  pub created : now.created ≡ was.created

-- the leaf and its node are fresh, and the node is at this block
pub record Adds (leaf block : ℕ) (was now : Drafting) : Type 0 where
  pub fresh : SetsFresh leaf was now
  pub root : now.root ≡ record was.root { nodes = set was.root.nodes (leaf / leaf_pointers.count) block }
