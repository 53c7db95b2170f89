-- How a commit that is past its bit is carried on.
use Rattle.std.specs.Prelude.{◌≡◌, ℕ, ◌+◌, ◌*◌, ◌<◌, true, false, if◌then◌else◌, is_some, length, Option, Some, None}
use Rattle.std.specs.Prelude.{IfErr, OnOk, Ok, Err, Result}
use Rattle.block_tree.specs.Reads.{is_damage}
use Rattle.cfs_base.specs.Calls.{HasStopped}
use Rattle.cfs_base.specs.Codes.{no_entry}
use Rattle.cfs_base.specs.Refusals.{trouble_had_tried}
use Rattle.cfs_base.specs.Run.{Leaves, Tells}
use Rattle.cfs_base.specs.Went.{Went}
use Rattle.cfs_base.specs.declared.disk.Disk.{Ghosts}
use Rattle.cfs_base.specs.declared.refusal.Trouble.{Trouble}
use Rattle.cfs_base.specs.declared.refusal.Trouble.TheVariants as trouble
use Rattle.cyl_alloc.specs.Left.{LeftCommit}
use Rattle.cyl_alloc.specs.Space.{IsBadMap, Kept}
use Rattle.cyl_alloc.specs.declared.part.Part.{Part}
use Rattle.cyl_alloc.specs.declared.part.Part.TheVariants.{Copy, Flip, Clear}
use Rattle.cyl_map.specs.Volume.{map_of}
use Rattle.intentions.specs.Left.{GoesWith, StoreWith, coming}
use Rattle.ufs_model.specs.Graph.{Graph}
use Rattle.vol_image.specs.Sound.{Holds}
use Rattle.vol_owners.specs.Account.{Drafts}

-- ---- what a call does if the store has its objects

-- From what was left to what is left now. The image that is to come stays, each image that a crash leaves on the way
-- holds all objects, and no damage is met.
pub record GoesFrom {D : Type 0} (g : Ghosts D) (old new : D) (before after : Kept) (was now : Option LeftCommit)
    (result : Result (Unit {0}) Trouble) : Type 0 where
  pub goes : (graph : Graph) → GoesWith g graph old before was → OnOk result (GoesWith g graph new after now)
  pub comes : (graph : Graph) → GoesWith g graph old before was
      → OnOk result (coming (g.content new) now ≡ coming (g.content old) was)
  pub leaves : (graph : Graph) → GoesWith g graph old before was → Leaves g old new (λ c. Holds c graph)
  pub sound : (graph : Graph) → GoesWith g graph old before was → IfErr result (λ t. is_damage t ≡ false)
  -- each block has its use, as before
  pub store : (graph : Graph) (drafts : Drafts) → StoreWith g graph drafts old before was
      → OnOk result (StoreWith g graph drafts new after now)

abbrev pub Goes : {D : Type 0} → Ghosts D → D → D → Kept → Kept → Result (Unit {0}) Trouble → Type 0
Goes g old new before after result = GoesFrom g old new before after before.left after.left result

-- ---- on any disk

-- a device call failed, or a map block was read and is no map
abbrev pub IsLeftTrouble : {D : Type 0} → Ghosts D → D → D → Trouble → Type 0
IsLeftTrouble g old new (trouble.Disk tried) = HasStopped g tried old new
IsLeftTrouble g old new (trouble.Damaged damage) = (damage.code ≡ no_entry) × (damage.block ≡ map_of damage.block)
    × (damage.block < g.blocks new) × (Tells g old → IsBadMap (g.content new) damage.block)

-- One part, with at most n device calls, t of them writes and barriers. If it is done, a write was tried.
abbrev pub PartEnds : {D : Type 0} → Ghosts D → (n t : ℕ) → D → D → (before after : Kept)
    → Result (Unit {0}) Trouble → Type 0
PartEnds g n t old new before after result =
    Went g n t 1 old new before after (length after.free ≡ length before.free) (IsLeftTrouble g old new)
    (λ e. trouble_had_tried e ≡ false) (λ u. Some true) result

-- All parts that were left. If they are done, a write was tried, if there were any.
abbrev pub Ends : {D : Type 0} → Ghosts D → (n t : ℕ) → D → D → (before after : Kept) → Result (Unit {0}) Trouble
    → Type 0
Ends g n t old new before after result =
    Went g n t 1 old new before after (length after.free ≡ length before.free) (IsLeftTrouble g old new)
    (λ e. e ≡ trouble.Disk false) (λ u. Some (is_some before.left)) result

-- ---- device calls

abbrev pub part_calls : Part → ℕ
part_calls (Copy root shadow) = 3
part_calls (Flip block) = 2
part_calls (Clear root) = 4

abbrev pub part_tries : Part → ℕ
part_tries (Copy root shadow) = 2
part_tries (Flip block) = 1
part_tries (Clear root) = 3

abbrev pub calls_left : Option LeftCommit → ℕ
calls_left None = 0
calls_left (Some l) = (if l.copied then 0 else 3) + (2 * length l.rest + 4)

abbrev pub tries_left : Option LeftCommit → ℕ
tries_left None = 0
tries_left (Some l) = (if l.copied then 0 else 2) + (length l.rest + 3)

-- ---- results

abbrev pub unit_of : {A : Type 0} → Result A Trouble → Result (Unit {0}) Trouble
unit_of (Ok x) = Ok tt
unit_of (Err t) = Err t
