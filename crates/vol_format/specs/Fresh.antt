-- A fresh volume, and what a crash leaves while it is made.
use Rattle.std.specs.Prelude.{◌≡◌, ℕ, ◌*◌, ◌<◌, false, ◌==◌, if◌then◌else◌, List, replicate, Some, None}
use Rattle.cfs_base.specs.Disk.{Image, block_at}
use Rattle.cfs_base.specs.Run.{Crashes, IsSettled}
use Rattle.cfs_base.specs.declared.disk.Disk.{Ghosts}
use Rattle.cfs_base.specs.declared.identifier.Puid.{Puid}
use Rattle.cfs_base.specs.declared.kind.Kind.TheVariants.{Index}
use Rattle.cfs_base.specs.declared.kind.Place.TheVariants.{Root}
use Rattle.block_tree.specs.declared.root.Root as roots
use Rattle.block_tree.specs.Pointers.{pointers_of, node_pointers}
use Rattle.block_tree.specs.Root.{IsRootBlock}
use Rattle.cyl_map.specs.declared.state.BlockState.TheVariants.{Free, Allocated}
use Rattle.cyl_map.specs.declared.entry.MapEntry.{MapEntry}
use Rattle.cyl_map.specs.Volume.{entry_in}
use Rattle.ufs_model.specs.Graph.{Graph, fresh_graph}
use Rattle.vol_image.specs.Part.{is_fixed, reserved}
use Rattle.vol_image.specs.Sound.{IsSound, IsSoundAs}
use Rattle.vol_label.specs.Label.{spelling}

-- ---- its blocks

abbrev pub root_id : ℕ → Puid
root_id word = record { block = 2; word = word }

-- the graph of the root index alone
abbrev pub fresh : ℕ → Graph
fresh word = fresh_graph (root_id word)

abbrev pub label_block : ℕ → ℕ → List ℕ
label_block cylinders word = spelling (record { cylinders = cylinders; root = root_id word; version = 2 })

-- an index of 64 slots with no node
abbrev pub empty_root : ℕ → roots.Root
empty_root word = record { kind = Index; fill = 0; word = word; size = 512; nodes = replicate node_pointers.count 0 }

pub record IsEmptyIndex (block : List ℕ) (word : ℕ) : Type 0 where
  pub spelled : IsRootBlock block (empty_root word)
  pub no_node : pointers_of node_pointers block ≡ replicate node_pointers.count 0

-- ---- its entries

abbrev pub root_entry : MapEntry
root_entry = record { state = Allocated; committed = false; place = Some Root; owner = 2 }

abbrev pub free_entry : MapEntry
free_entry = record { state = Free; committed = false; place = None; owner = 0 }

-- the maps and the label are Reserved, block 2 is the root index's, and all other blocks are Free
abbrev pub fresh_entry : ℕ → MapEntry
fresh_entry n = if is_fixed n then reserved else (if n == 2 then root_entry else free_entry)

-- all of the volume is there but the label
pub record HasBody (image : Image) (cylinders word : ℕ) : Type 0 where
  pub entries : (n : ℕ) → n < 64 * cylinders → entry_in image n ≡ Some (fresh_entry n)
  pub root : IsEmptyIndex (block_at image 2) word

-- no write waits for a barrier, and the volume reads as the root index alone
pub record IsFormatted {D : Type 0} (g : Ghosts D) (d : D) (word : ℕ) : Type 0 where
  pub settled : IsSettled g d
  pub sound : IsSoundAs (g.content d) (fresh word)
  pub entries : (n : ℕ) → n < g.blocks d → entry_in (g.content d) n ≡ Some (fresh_entry n)

-- ---- what a crash leaves

-- block 1 is no label
abbrev pub IsBlank : Image → Type 0
IsBlank image = block_at image 1 ≡ replicate 512 0

-- a crash now leaves no label, and a crash on the way no label that it might not have left before `start`
abbrev pub IsUnlabelled : {D : Type 0} → Ghosts D → D → D → Type 0
IsUnlabelled g start now = Crashes g start now IsBlank IsBlank

-- the image is no volume, or the fresh one
abbrev pub MayBeFresh : ℕ → Image → Type 0
MayBeFresh word image = IsSound image → IsSoundAs image (fresh word)
