-- Why a call on a draft is refused.
use Rattle.std.specs.Prelude.{◌≡◌, ◌⊎◌, ℕ, ◌+◌, ◌<◌, ◌≤◌, Bool, true, false, if◌then◌else◌, get_or, sum}
use Rattle.cfs_base.specs.Calls.{HasStopped}
use Rattle.cfs_base.specs.Codes.{no_entry, no_root, past_disk, other_count}
use Rattle.cfs_base.specs.Disk.{Image, block_at}
use Rattle.cfs_base.specs.Refusals.{after_try}
use Rattle.cfs_base.specs.Run.{Tells}
use Rattle.cfs_base.specs.declared.disk.Disk.{Ghosts}
use Rattle.cfs_base.specs.declared.refusal.Damage.{Damage}
use Rattle.cfs_base.specs.declared.refusal.Refused.{Refused}
use Rattle.cfs_base.specs.declared.refusal.Refused.TheVariants as refused
use Rattle.cfs_base.specs.declared.refusal.Trouble.{Trouble}
use Rattle.cfs_base.specs.declared.refusal.Trouble.TheVariants as trouble
use Rattle.block_tree.specs.declared.root.Root as roots
use Rattle.block_tree.specs.Pointers.{leaf_pointers, pointers_of}
use Rattle.block_tree.specs.Root.{IsRootBlock}
use Rattle.cyl_map.specs.Volume.{is_free_in, map_of}
use Rattle.block_tree.specs.Reads.{IsPast}
use Rattle.cyl_alloc.specs.Space.{IsBadMap, IsMiscounted, Kept}
use Rattle.leaf_changes.specs.Tops.{IsFarRoot, Top, root_top}
use Rattle.special_files.specs.Drafting.{Drafting}

-- ---- the roots from which a call goes down

-- a draft's
abbrev pub top_of : Drafting → Top
top_of was = root_top was.at was.root

-- an object's root, and the root that its draft is to get
abbrev pub roots_top : ℕ → (own root : roots.Root) → Top
roots_top at own root = record { block = at; IsFar = λ size. IsFarRoot size own ⊎ IsFarRoot size root }

-- roots that lead to these nodes
abbrev pub nodes_top : (at own new : ℕ) → Top
nodes_top at own new = record { block = at; IsFar = λ size. IsPast size own ⊎ IsPast size new }

-- ---- what is wrong with the block that is named, once the call has ended

-- a pointer of a node at this block leads past a disk of this size
abbrev pub IsFarNode : ℕ → Image → ℕ → Type 0
IsFarNode size image block = (k : ℕ) × (size ≤ get_or (pointers_of leaf_pointers (block_at image block)) k 0)

pub data IsDraftDamage {D : Type 0} (g : Ghosts D) (at : Top) (old new : D) (kept : Kept)
    (damage : Damage) : Type 0 where
  -- a map block is no map
  NoMap : damage.code ≡ no_entry → damage.block ≡ map_of damage.block → damage.block < g.blocks new
      → (Tells g old → IsBadMap (g.content new) damage.block)
      → IsDraftDamage g at old new kept damage
  -- the first map's own block is Free
  OpenMap : damage.code ≡ no_entry → damage.block ≡ 0 → (Tells g old → is_free_in (g.content new) 0 ≡ true)
      → IsDraftDamage g at old new kept damage
  -- no block is Free in a map in which some were counted
  OtherCount : damage.code ≡ other_count → IsMiscounted (Tells g old) (g.content new) kept damage.block
      → IsDraftDamage g at old new kept damage
  -- the root block is no root
  NoRoot : damage.code ≡ no_root → damage.block ≡ at.block → (Tells g old → (root : roots.Root)
      → ¬ IsRootBlock (block_at (g.content new) at.block) root) → IsDraftDamage g at old new kept damage
  -- a node has a pointer past the disk, or the root has from which the call goes down
  FarNode : damage.code ≡ past_disk → (Tells g old → IsFarNode (g.blocks new) (g.content new) damage.block)
      → IsDraftDamage g at old new kept damage
  FarRoot : damage.code ≡ past_disk → damage.block ≡ at.block → at.IsFar (g.blocks new)
      → IsDraftDamage g at old new kept damage

-- ---- why a call is refused

-- a device call failed, or a block that was read is damaged
abbrev pub IsDraftTrouble : {D : Type 0} → Ghosts D → Top → D → D → Kept → Trouble → Type 0
IsDraftTrouble g at old new kept (trouble.Disk tried) = HasStopped g tried old new
IsDraftTrouble g at old new kept (trouble.Damaged damage) = IsDraftDamage g at old new kept damage

-- the same; or as many blocks are counted Free as it says, which is too few beside the floor
abbrev pub IsDraftRefusal : {D : Type 0} → Ghosts D → Top → ℕ → D → D → Kept → Refused → Type 0
IsDraftRefusal g at floor old new kept (refused.Full need) =
    (need.free ≡ sum kept.free) × (need.free < need.need + floor)
IsDraftRefusal g at floor old new kept (refused.Disk tried) = HasStopped g tried old new
IsDraftRefusal g at floor old new kept (refused.Damaged damage) = IsDraftDamage g at old new kept damage
IsDraftRefusal g at floor old new kept refused.Memory = ⊥

-- ---- which refusal it is

abbrev pub has_met_damage : Refused → Bool
has_met_damage (refused.Full need) = false
has_met_damage (refused.Disk tried) = false
has_met_damage (refused.Damaged damage) = true
has_met_damage refused.Memory = false

abbrev pub is_full_refusal : Refused → Bool
is_full_refusal (refused.Full need) = true
is_full_refusal (refused.Disk tried) = false
is_full_refusal (refused.Damaged damage) = false
is_full_refusal refused.Memory = false

-- the refusal of a call that had tried a write before, or hadn't
abbrev pub refusal_after : Bool → Refused → Refused
refusal_after tried e = if tried then after_try e else e
