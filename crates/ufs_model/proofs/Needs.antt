-- How many blocks requests may take.
use Rattle.std.proofs.Common.{◌≡◌, ℕ, refl, List, [], ◌∷◌, Some, replicate}
use Rattle.ufs_model.proofs.Words.{Direct, Draft, FileKind, Grant, Index, Object, Overwrite, Puid, Request, SetSize, State, Through, changed_draft, fresh_graph, need_of, object_at, opening, with_object}
use Rattle.cfs_base.specs.declared.kind.FileKind.TheVariants as kinds
use Rattle.cfs_base.specs.declared.kind.Mode.TheVariants as modes
use Rattle.ufs_model.specs.declared.asked.Request.TheVariants as asks
use Rattle.ufs_model.specs.declared.object.Object.TheVariants as objects
use Rattle.ufs_model.proofs.Worked.{root, a, second}

-- ---- a direct request on an index, whatever the state

module _ (s : State) (who : ℕ) (id : Puid) (i : Index) (there : object_at s.graph id ≡ Some (objects.Index i)) where
  create_file : (kind : FileKind) (fill slot : ℕ) → need_of s who (asks.CreateFile kind fill (Direct id) slot) ≡ 4
  create_file kind fill slot = rw there refl

  create_index : (slots slot : ℕ) → need_of s who (asks.CreateIndex slots (Direct id) slot) ≡ 4
  create_index slots slot = rw there refl

  retain : (slot : ℕ) (x : Puid) → need_of s who (asks.Retain (Direct id) slot x) ≡ 3
  retain slot x = rw there refl

  delete : (slot : ℕ) → need_of s who (asks.Delete (Direct id) slot) ≡ 3
  delete slot = rw there refl

-- ---- files of 70,000 bytes, of which the leaves 0, 1, 130 and 136 are held

abbrev file : FileKind → Object
file kind = objects.File (record { kind = kind; fill = 0; bytes = replicate 70000 0; held = 0 ∷ 1 ∷ 130 ∷ 136 ∷ [] })

abbrev with_file : FileKind → List Grant → State
with_file kind grants = record (opening (with_object (fresh_graph root) a (file kind))) { grants = grants }

abbrev bytes : ℕ → List ℕ
bytes n = replicate n 1

abbrev normal : Request → ℕ
normal request = need_of (with_file kinds.Normal []) 0 request

abbrev special : Request → ℕ
special request = need_of (with_file kinds.Special []) 0 request

held_leaf_in_place : normal (asks.Write (Direct a) 5 (bytes 1)) ≡ 0
held_leaf_in_place = refl

leaf_of_held_node : normal (asks.Write (Direct a) 1024 (bytes 1)) ≡ 1
leaf_of_held_node = refl

leaves_0_to_8 : normal (asks.Write (Direct a) 511 (bytes 4096)) ≡ 7
leaves_0_to_8 = refl

normal_resize : normal (asks.Resize (Direct a) 100) ≡ 0
normal_resize = refl

special_write : special (asks.Write (Direct a) 5 (bytes 1)) ≡ 3
special_write = refl

special_write_over_two_nodes : special (asks.Write (Direct a) 65535 (bytes 2)) ≡ 5
special_write_over_two_nodes = refl

special_resize_to_the_size : special (asks.Resize (Direct a) 70000) ≡ 1
special_resize_to_the_size = refl

special_resize_to_more : special (asks.Resize (Direct a) 80001) ≡ 1
special_resize_to_more = refl

-- leaf 136 is cut within, and so its node changes
cut_within_the_last_leaf : special (asks.Resize (Direct a) 69999) ≡ 3
cut_within_the_last_leaf = refl

-- leaf 136 is dropped, and node 1 keeps leaf 130
a_leaf_is_dropped : special (asks.Resize (Direct a) 68000) ≡ 2
a_leaf_is_dropped = refl

-- node 1 is dropped whole, and node 0 stays as it is
a_node_is_dropped : special (asks.Resize (Direct a) 65536) ≡ 1
a_node_is_dropped = refl

-- leaf 1 is cut within
cut_within_a_held_leaf : special (asks.Resize (Direct a) 600) ≡ 3
cut_within_a_held_leaf = refl

to_nothing : special (asks.Resize (Direct a) 0) ≡ 1
to_nothing = refl

open_for_writing : special (asks.OpenFor a modes.Writing) ≡ 1
open_for_writing = refl

open_for_reading : special (asks.OpenFor a modes.Reading) ≡ 0
open_for_reading = refl

open_normal : normal (asks.OpenFor a modes.Writing) ≡ 0
open_normal = refl

read_takes_nothing : special (asks.Read (Direct a) 0 1) ≡ 0
read_takes_nothing = refl

-- ---- the same through a draft, which has a shadow root already

abbrev draft : Draft
draft = record { object = file kinds.Special; fresh = [] }

abbrev through : Draft → Request → ℕ
through d request =
    need_of (with_file kinds.Special (record { tuid = second; session = 0; id = a; mode = modes.Writing; draft = Some d } ∷ [])) 0 request

first_write : through draft (asks.Write (Through second) 5 (bytes 1)) ≡ 2
first_write = refl

abbrev once_written : Draft
once_written = changed_draft (Overwrite 5 (bytes 1)) draft

fresh_once_written : once_written.fresh ≡ (0 ∷ []) ∷ (0 ∷ []) ∷ []
fresh_once_written = refl

written_again : through once_written (asks.Write (Through second) 0 (bytes 512)) ≡ 0
written_again = refl

another_leaf_of_the_node : through once_written (asks.Write (Through second) 512 (bytes 1)) ≡ 1
another_leaf_of_the_node = refl

a_cut_leaf_that_is_fresh : through once_written (asks.Resize (Through second) 5) ≡ 0
a_cut_leaf_that_is_fresh = refl

a_cut_leaf_of_a_fresh_node : through once_written (asks.Resize (Through second) 600) ≡ 1
a_cut_leaf_of_a_fresh_node = refl

draft_resize_to_more : through draft (asks.Resize (Through second) 80001) ≡ 0
draft_resize_to_more = refl

-- the blocks that a resize drops are fresh no longer, and those that it writes anew are
abbrev cut_down : Draft
cut_down = changed_draft (SetSize 600) (changed_draft (Overwrite 69700 (bytes 1)) draft)

fresh_once_cut_down : cut_down.fresh ≡ (1 ∷ []) ∷ (0 ∷ []) ∷ []
fresh_once_cut_down = refl
