-- What a slot holds, as a reply, where it is counted how many there are.
use Rattle.std.proofs.Common.{◌≡◌, ◌<◌, ◌≤◌, ◌/◌, ℕ, true, false, Ok, Option, length, refl, sym, ◌∙◌, ap, arith, nat_le, nat_lt}
use Rattle.cfs_core.proofs.Words.{File, Ghosts, Index, nat_tests, Puid, slot_of, slot_reply}
use Rattle.block_tree.specs.declared.root.Root.{Root}
use Rattle.index_ops.proofs.Indices.{slots_are}
use Rattle.index_ops.specs.Reads.{FindsIn}
use Rattle.intentions.proofs.Shown.{root_tree, shown_tells}
use Rattle.leaf_changes.proofs.Given.{file_to_leaves}
use Rattle.normal_files.specs.Standing.{IsRootAt}
use Rattle.special_files.specs.View.{ShownView}
use Rattle.ufs_model.specs.declared.object.Object.TheVariants as objects
use Rattle.cfs_core.specs.Looks.{KnowsObject, WasRead}
use Rattle.cfs_core.proofs.Calm.{knows_on, rooted}
use Rattle.ufs_model.specs.declared.asked.Reply.TheVariants as replies
use Rattle.cfs_core.specs.Calls.{looked}

pub beyond : (i : Index) (slot n : ℕ) → n ≡ length i.slots → n ≤ slot → replies.Slot ≡ looked i slot
beyond i slot n is le = let past : nat_le (length i.slots) slot ≡ true = grind (arith, nat_tests) in rw past refl

pub inside : (i : Index) (slot n : ℕ) (what : Option Puid) → n ≡ length i.slots → slot < n → what ≡ slot_of i slot → slot_reply what ≡ looked i slot
inside i slot n what is less here = let below : nat_le (length i.slots) slot ≡ false = grind (arith, nat_tests) in rw below (ap slot_reply here)

pub below : (slot n : ℕ) → nat_lt slot n ≡ true → slot < n
below slot n is = grind (arith, nat_tests)

pub above : (slot n : ℕ) → nat_lt slot n ≡ false → n ≤ slot
above slot n is = grind (arith, nat_tests)

-- ---- of an object whose root was read

module _ {D : Type 0} {g : Ghosts D} {n at : ℕ} {root : Root} {old now : D} (read : WasRead g n at root old now) where
  pub slots_read : (i : Index) → KnowsObject g old at (objects.Index i) → root.size / 8 ≡ length i.slots
  slots_read i knows = slots_are (g.content old) knows.view.id.block knows.view.object root (root_tree knows.view.shown root (read.rooted (shown_tells knows.view.shown))) i knows.is

  pub size_read : (f : File) → KnowsObject g old at (objects.File f) → root.size ≡ length f.bytes
  size_read f knows = sym (file_to_leaves root _ f ((root_tree knows.view.shown root (read.rooted (shown_tells knows.view.shown))).object ∙ knows.is)).size

  -- what a slot of the index holds
  pub found : (slot : ℕ) (what : Option Puid) → slot < root.size / 8 → ((v : ShownView g now at) (i : Index) → v.object ≡ objects.Index i → IsRootAt (g.content now) at root → FindsIn i slot (Ok what))
      → (i : Index) → KnowsObject g old at (objects.Index i) → slot_reply what ≡ looked i slot
  found slot what less finds i knows =
      let is = slots_read i knows in
      let on = knows_on g n old now at (objects.Index i) read.reads knows in
      inside i slot (root.size / 8) what is less ((finds on.view i on.is (rooted g read.reads (objects.Index i) knows read.rooted)).found (omega (arith, is, less)))
