-- A leaf of an index as its bytes, a step of the scan, and why a step is refused.
use Rattle.std.specs.Prelude.{◌≡◌, ℕ, ◌+◌, ◌-◌, List, [], Bool, map, false, if◌then◌else◌}
use Rattle.std.specs.Prelude.{Option, Some, None, IfSome, length, true}
use Rattle.std.specs.List.{filter_map, range_with_len}
use Rattle.cfs_base.specs.Calls.{HasStopped}
use Rattle.cfs_base.specs.Codes.{no_root, past_disk}
use Rattle.cfs_base.specs.Disk.{Image, block_at}
use Rattle.cfs_base.specs.Run.{Tells}
use Rattle.cfs_base.specs.declared.disk.Disk.{Ghosts}
use Rattle.cfs_base.specs.declared.identifier.Puid.{Puid}
use Rattle.cfs_base.specs.declared.refusal.Damage.{Damage}
use Rattle.cfs_base.specs.declared.refusal.Trouble.{Trouble}
use Rattle.cfs_base.specs.declared.refusal.Trouble.TheVariants as trouble
use Rattle.block_tree.specs.declared.root.Root.{Root}
use Rattle.block_tree.specs.declared.step.HeldStep.{HeldStep}
use Rattle.block_tree.specs.declared.step.LeafStep.{LeafStep}
use Rattle.block_tree.specs.Root.{IsRootBlock}
use Rattle.vol_image.specs.Reading.{slot_in}
use Rattle.block_tree.specs.Root.{root_spelling}
use Rattle.block_tree.specs.Step.{IsStepped, IsSureStep, NoneHeld, SomeHeld}
use Rattle.block_tree.specs.Tree.{LeadsPast, leaf_count}
use Rattle.collector_steps.specs.declared.scan.Found.{Found}
use Rattle.marking.specs.Leaves.{own_part}
use Rattle.ufs_model.specs.State.{State, draft_at}
use Rattle.ufs_model.specs.declared.object.Index.{Index}
use Rattle.ufs_model.specs.declared.object.Object.TheVariants as objects
use Rattle.vol_image.specs.Reading.{IsTree}
use Rattle.vol_image.specs.Seen.{tree_in}

-- ---- a leaf that was read

-- the identifiers in the slots of a leaf with these bytes, from a slot on
unfoldable pub ids_from : List ℕ → ℕ → List Puid
ids_from bytes slot = filter_map (λ held. held) (map (slot_in bytes) (range_with_len slot (64 - slot)))

-- what a step finds, if it read a leaf with these bytes
abbrev pub ids_found : Option HeldStep → List ℕ → List Puid
ids_found None bytes = []
ids_found (Some held) bytes = ids_from bytes 0

abbrev pub ids_read : LeafStep → List ℕ → List Puid
ids_read step bytes = ids_found step.found bytes

-- the next leaf of a tree after the one that was found, if another is held
abbrev pub after_found : (found : Option HeldStep) → (next : Option ℕ) → Option ℕ
after_found None next = None
after_found (Some held) None = None
after_found (Some held) (Some n) = Some (held.held.leaf + 1)

abbrev pub following : LeafStep → Option ℕ
following step = after_found step.found step.next

-- the place of a leaf of an index's own tree
abbrev pub own_place : Option ℕ → Option ℕ
own_place None = None
own_place (Some leaf) = Some (own_part + leaf)

-- where the reading goes on after a step of that tree
abbrev pub after_own : LeafStep → Option ℕ
after_own step = own_place (following step)

-- a leaf of its draft's tree, or else the first of its own, if that holds one
abbrev pub or_own : (any : Bool) → Option ℕ → Option ℕ
or_own any None = if any then Some own_part else None
or_own any (Some leaf) = Some leaf

-- where the reading goes on after a step of its draft's tree
abbrev pub after_drafted : (any : Bool) → LeafStep → Option ℕ
after_drafted any step = or_own any (following step)

-- ---- a step

-- some leaf of the tree with this root is held, or none
abbrev pub HoldsAny : Image → List ℕ → Bool → Type 0
HoldsAny image root true = SomeHeld image root 0
HoldsAny image root false = NoneHeld image root 0 (leaf_count root)

-- a step that finds the first held leaf from `from` on, if there is one, and says whether another follows
pub record IsLeafStep (image : Image) (root : List ℕ) (from : ℕ) (step : LeafStep) : Type 0 where
  pub stepped : IsStepped image root from step
  pub sure : IsSureStep step
  pub more : IfSome step.next (SomeHeld image root)

-- what was found and read from a leaf on in the tree with this root; the step says where the reading goes on
pub record IsFoundIn (image : Image) (root : List ℕ) (from : ℕ) (bytes : List ℕ)
    (after : LeafStep → Option ℕ) (found : Found) : Type 0 where
  pub step : IsLeafStep image root from found.step
  pub content : IfSome found.step.found (λ s. bytes ≡ block_at image s.held.block)
  pub next : found.next ≡ after found.step

-- the state has this draft of the index, whose tree has this root on the disk, or it has no draft
abbrev pub IsDraftRoot : Image → State → Puid → Option Root → Option Index → Type 0
IsDraftRoot image s id None None = draft_at s.grants id ≡ None
IsDraftRoot image s id (Some root) (Some d) = (draft_at s.grants id ≡ Some (objects.Index d))
    × IsTree (length image) id.block (tree_in image (root_spelling root)) root (objects.Index d)
IsDraftRoot image s id root d = ⊥

-- ---- why a step is refused

-- the root block is no root, or a pointer of its tree or of its draft's tree leads past the disk
pub data IsIndexDamage {D : Type 0} (g : Ghosts D) (old : D) (draft : Option Root) (r : ℕ)
    (damage : Damage) : Type 0 where
  NoRoot : damage.code ≡ no_root → damage.block ≡ r
      → (Tells g old → (root : Root) → ¬ IsRootBlock (block_at (g.content old) r) root)
      → IsIndexDamage g old draft r damage
  PastDisk : damage.code ≡ past_disk
      → (Tells g old → LeadsPast (g.content old) (g.blocks old) (block_at (g.content old) r) r damage.block)
      → IsIndexDamage g old draft r damage
  PastDraft : (root : Root) → draft ≡ Some root → damage.code ≡ past_disk
      → (Tells g old → LeadsPast (g.content old) (g.blocks old) (root_spelling root) r damage.block)
      → IsIndexDamage g old draft r damage

-- a device call failed, or a pointer of the tree with this root leads past the disk
abbrev pub IsTreeTrouble : {D : Type 0} → Ghosts D → D → D → (root : List ℕ) → ℕ → Trouble → Type 0
IsTreeTrouble g old new root r (trouble.Disk tried) = HasStopped g tried old new
IsTreeTrouble g old new root r (trouble.Damaged damage) =
    (damage.code ≡ past_disk) × (Tells g old → LeadsPast (g.content old) (g.blocks old) root r damage.block)

-- a device call failed, or the index with this root block or its draft is damaged
abbrev pub IsScanTrouble : {D : Type 0} → Ghosts D → D → D → (draft : Option Root) → ℕ → Trouble → Type 0
IsScanTrouble g old new draft r (trouble.Disk tried) = HasStopped g tried old new
IsScanTrouble g old new draft r (trouble.Damaged damage) = IsIndexDamage g old draft r damage

abbrev pub IsDamaged : Trouble → Type 0
IsDamaged (trouble.Disk tried) = ⊥
IsDamaged (trouble.Damaged damage) = Unit {0}
