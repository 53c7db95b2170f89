-- Calls that only read a file, as the core has them.
use Rattle.std.proofs.Common.{◌≡◌, ◌≢◌, ℕ, ◌+◌, ◌≤◌, Bool, true, false, Ok, Err, Result, IfOk, refl, sym, ◌∙◌, subst, arith}
use Rattle.cfs_base.proofs.Went.{reads_none}
use Rattle.cfs_core.proofs.Words.{Ghosts, had_tried, HasStopped, Image, Index, has_met_damage, is_range, IsReadRefusal, nat_tests, Object, OnlyReads, reads_then, Refused, refused_by, stopped_after_reads, Trouble, trouble_had_tried}
use Rattle.cfs_base.specs.declared.refusal.Refused.TheVariants as refusals
use Rattle.cfs_base.specs.declared.refusal.Trouble.TheVariants as trouble
use Rattle.block_tree.specs.Reads.{IsRootTrouble, is_damage}
use Rattle.normal_files.specs.Refusal.{IsTrouble}
use Rattle.block_tree.specs.declared.root.Root.{Root}
use Rattle.cfs_base.specs.Run.{Tells}
use Rattle.normal_files.specs.Standing.{IsRootAt}
use Rattle.cfs_core.specs.Looks.{IsCalm, IsCalmCause, KnowsObject, WasRead}
use Rattle.cfs_base.proofs.Calls.{tells_on}
use Rattle.intentions.proofs.Shown.{shown_reads, shown_tells}
use Rattle.cfs_core.proofs.Rewritten.{sound_told}
use Rattle.cfs_core.proofs.Damages.{outside_file, outside_leaf, outside_root}
use Rattle.index_ops.specs.Causes.{IsLeafTrouble}
use Rattle.ufs_model.specs.declared.object.Object.TheVariants as objects
use Rattle.leaf_changes.specs.Tops.{Top, disk_top, still_top}

-- the store still has the object
pub knows_on : {D : Type 0} (g : Ghosts D) (n : ℕ) (old new : D) (at : ℕ) (o : Object) → OnlyReads g n old new → KnowsObject g old at o → KnowsObject g new at o
knows_on g n old new at o reads knows = (let v = knows.view in record { view = record { graph = v.graph; ds = v.ds; space = v.space; id = v.id; object = v.object; shown = shown_reads v.shown new n reads }; is = knows.is })

-- and the block the root that was read of it
pub rooted : {D : Type 0} (g : Ghosts D) {n at : ℕ} {old mid : D} {root : Root} → OnlyReads g n old mid → (o : Object) → KnowsObject g old at o → (Tells g old → IsRootAt (g.content old) at root) → IsRootAt (g.content mid) at root
rooted g {at = at} {root = root} reads o knows is = subst (λ (a : Image). IsRootAt a at root) (sym reads.content) (is (shown_tells knows.view.shown))

-- a read that was refused, after others
pub calm_after : {D A B : Type 0} (g : Ghosts D) (sort : A → Object) (n m k at : ℕ) (old mid new : D) (e : Refused) → OnlyReads g n old mid → OnlyReads g m mid new → n + m ≤ k
    → ((a : A) → KnowsObject g old at (sort a) → has_met_damage e ≡ false) → had_tried e ≡ false
    → (top : Top) → top.block ≡ at → ((size : ℕ) → top.IsFar size → (disk_top g at old).IsFar size) → IsReadRefusal g top mid new e → IsCalm {B = B} g sort k at old new (Err e)
calm_after g sort n m k at old mid new e first reads few sound untried top same far is = record {
  reads = reads_then g old mid new n m k first reads few;
  sound = sound;
  cause = cause e untried is;
}
  where
    cause : (x : Refused) → had_tried x ≡ false → IsReadRefusal g top mid new x → IsCalmCause g at old new x
    cause (refusals.Full need) none never = never
    cause (refusals.Disk tried) none stopped = (none, stopped_after_reads g old mid new n false first (subst (λ (b : Bool). HasStopped g b mid new) none stopped))
    cause (refusals.Damaged damage) none is = outside_file g top at old mid damage same (λ tells. tells_on g old mid mid n first tells) first.content first.same.size far is
    cause refusals.Memory none is = tt

pub read_refusal : {D : Type 0} (g : Ghosts D) (at : Top) (old new : D) (t : Trouble) → IsTrouble g at old new t → IsReadRefusal g at old new (refused_by t)
read_refusal g at old new (trouble.Disk tried) is = is
read_refusal g at old new (trouble.Damaged damage) is = is

-- what is told of a trouble, which is never a want of memory
pub told_never : (t : Trouble) (e : Refused) → e ≡ refused_by t → e ≢ refusals.Memory
told_never (trouble.Disk tried) e is = λ same. let no : refusals.Memory ≡ refusals.Disk tried = sym same ∙ is in cc
told_never (trouble.Damaged damage) e is = λ same. let no : refusals.Memory ≡ refusals.Damaged damage = sym same ∙ is in cc

-- a call on a file that was refused by the first that it makes
pub calm_trouble : {D A B : Type 0} (g : Ghosts D) (sort : A → Object) (n at : ℕ) (old new : D) (t : Trouble) (e : Refused) → e ≡ refused_by t → OnlyReads g n old new → ((a : A) → KnowsObject g old at (sort a) → is_damage t ≡ false) → trouble_had_tried t ≡ false
    → IsTrouble g (still_top at) old new t → IsCalm {B = B} g sort n at old new (Err e)
calm_trouble g sort n at old new t e is reads sound untried why = rw is
    (calm_after g sort 0 n n at old old new (refused_by t) (reads_none g 0 old) reads (omega arith) (λ a knows. sound_told t (refused_by t) refl (sound a knows)) (untried_told t untried) (still_top at) refl (λ size far. absurd far) (read_refusal g (still_top at) old new t why))
  where
    untried_told : (x : Trouble) → trouble_had_tried x ≡ false → had_tried (refused_by x) ≡ false
    untried_told (trouble.Disk tried) is = is
    untried_told (trouble.Damaged damage) is = refl

-- a leaf of an index that couldn't be read, after its root was
pub calm_leaf : {D B : Type 0} (g : Ghosts D) (leaf at : ℕ) (root : Root) (old mid new : D) (t : Trouble) (e : Refused) → e ≡ refused_by t → WasRead g 1 at root old mid → OnlyReads g 2 mid new → ((i : Index) → KnowsObject g old at (objects.Index i) → is_damage t ≡ false) → IsLeafTrouble g at root leaf mid new t
    → IsCalm {B = B} g objects.Index 3 at old new (Err e)
calm_leaf g leaf at root old mid new t e same read reads sound is = record { reads = reads_then g old mid new 1 2 3 read.reads reads (omega arith); sound = λ i knows. sound_told t e same (sound i knows); cause = rw same (cause t is) }
  where
    cause : (u : Trouble) → IsLeafTrouble g at root leaf mid new u → IsCalmCause g at old new (refused_by u)
    cause (trouble.Disk tried) is = (is.0, stopped_after_reads g old mid new 1 false read.reads (record { failed = is.1; tries = λ e. cc; no_try = λ e. reads.tries; untouched = λ e. reads.content }))
    cause (trouble.Damaged damage) is = outside_leaf g 1 at leaf root old mid new damage read.reads read.rooted is

-- what lies in a range lies within the size, and is no more than is read at once
pub range_parts : (size offset count : ℕ) → is_range size offset count ≡ true → (1 ≤ count) × (count ≤ 4096) × (offset + count ≤ size)
range_parts size offset count is = (grind (arith, nat_tests), grind (arith, nat_tests), grind (arith, nat_tests))

-- the root of an object that couldn't be read
pub calm_root : {D A B : Type 0} (g : Ghosts D) (sort : A → Object) (at : ℕ) (old new : D) (t : Trouble) (e : Refused) → e ≡ refused_by t → OnlyReads g 1 old new → ((a : A) → KnowsObject g old at (sort a) → is_damage t ≡ false) → IsRootTrouble g at old new t
    → IsCalm {B = B} g sort 1 at old new (Err e)
calm_root g sort at old new t e same reads sound is = record { reads = reads; sound = λ a knows. sound_told t e same (sound a knows); cause = rw same (cause t is) }
  where
    cause : (u : Trouble) → IsRootTrouble g at old new u → IsCalmCause g at old new (refused_by u)
    cause (trouble.Disk tried) is = (is.0, subst (λ (b : Bool). HasStopped g b old new) is.0 is.1)
    cause (trouble.Damaged damage) is = outside_root g at old new damage is

-- what is so of any object is so of one sort
pub calm_sort : {D A B : Type 0} (g : Ghosts D) (sort : A → Object) (n at : ℕ) (old new : D) (r : Result B Refused) → IsCalm g (λ (o : Object). o) n at old new r → IsCalm g sort n at old new r
calm_sort g sort n at old new r calm = record { reads = calm.reads; sound = λ a knows. calm.sound (sort a) knows; cause = calm.cause }

-- a root that was read is there
pub read_rooted : {D : Type 0} (g : Ghosts D) (n at : ℕ) (old new : D) (r : Result Root Refused) → IfOk r (λ root. WasRead g n at root old new) → Tells g old → IfOk r (IsRootAt (g.content old) at)
read_rooted g n at old new (Ok root) read tells = read.rooted tells
read_rooted g n at old new (Err e) read tells = tt
