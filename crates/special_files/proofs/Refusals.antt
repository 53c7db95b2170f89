-- One refusal told as another.
use Rattle.std.proofs.Common.{◌≡◌, ℕ, Ok, Err, false, refl, sym, ◌∙◌, ap, subst}
use Rattle.block_tree.specs.Reads.{IsPast}
use Rattle.special_files.proofs.Words.{Damage, FarNode, FarRoot, Far, FarLeaf, Ghosts, IfErr, Image, IsDraftDamage, IsFarRoot, IsNodeTrouble, IsRootBlock, IsRootTrouble, block_at, IsDraftRefusal, IsDraftTrouble, Kept, NoMap, NoRoot, OnOk, OnlyReads, OpenMap, OtherCount, Refused, Result, Tells, Top, Trouble, is_damage, has_met_damage, miscounted_as, refused_by, still_top, stopped_after_reads, tells_on}
use Rattle.block_tree.specs.declared.root.Root as roots
use Rattle.cfs_base.specs.declared.refusal.Refused.TheVariants as refused
use Rattle.cfs_base.specs.declared.refusal.Trouble.TheVariants as trouble

pub on_ok : {A E : Type 0} (r : Result A E) {P Q : Type 0} → (P → Q) → OnOk r P → OnOk r Q
on_ok (Ok x) f p = f p
on_ok (Err e) f p = tt

pub if_err : {A E : Type 0} (r : Result A E) {P Q : E → Type 0} → ((e : E) → P e → Q e) → IfErr r P → IfErr r Q
if_err (Ok x) f p = tt
if_err (Err e) f p = f e p

module _ {D : Type 0} (g : Ghosts D) (at : Top) (floor : ℕ) (old new : D) (kept : Kept) where
  pub refusal_of : (t : Trouble) → IsDraftTrouble g at old new kept t → IsDraftRefusal g at floor old new kept (refused_by t)
  refusal_of (trouble.Disk tried) is = is
  refusal_of (trouble.Damaged damage) is = is

-- ---- blocks that were read

-- no root stands there
pub root_trouble : {D : Type 0} (g : Ghosts D) (at : Top) (old new : D) (kept : Kept) (t : Trouble) → OnlyReads g 1 old new → IsRootTrouble g at.block old new t → IsDraftTrouble g at old new kept t
root_trouble g at old new kept (trouble.Disk tried) reads is = is.1
root_trouble g at old new kept (trouble.Damaged damage) reads is = NoRoot (ap (λ (d : Damage). d.code) is.0) (ap (λ (d : Damage). d.block) is.0)
    (λ tells root. subst (λ (c : Image). ¬ IsRootBlock (block_at c at.block) root) (sym reads.content) (is.1 tells root))

-- the pointer to a node that a root has, or one of the node's own, leads past the disk
pub node_trouble : {D : Type 0} (g : Ghosts D) (block : ℕ) (at : Top) (old new : D) (kept : Kept) (t : Trouble) → ((size : ℕ) → IsPast size block → at.IsFar size) → OnlyReads g 1 old new → IsNodeTrouble g block at.block old new t → IsDraftTrouble g at old new kept t
node_trouble g block at old new kept (trouble.Disk tried) far reads is = is.1
node_trouble g block at old new kept (trouble.Damaged damage) far reads (Far is past) = FarRoot (ap (λ (d : Damage). d.code) is) (ap (λ (d : Damage). d.block) is)
    (far (g.blocks new) (subst (λ (size : ℕ). IsPast size block) (sym reads.same.size) past))
node_trouble g block at old new kept (trouble.Damaged damage) any reads (FarLeaf is far) = FarNode (ap (λ (d : Damage). d.code) is) (λ tells.
    rw (ap (λ (d : Damage). d.block) is, reads.content, reads.same.size) (far tells))

-- ---- after other calls

-- what is wrong with a block is so, whatever was called before
pub damage_since : {D : Type 0} (g : Ghosts D) (at : Top) (old mid new : D) (kept : Kept) (damage : Damage) → (Tells g old → Tells g mid) → IsDraftDamage g at mid new kept damage → IsDraftDamage g at old new kept damage
damage_since g at old mid new kept damage on (NoMap code map there why) = NoMap code map there (λ tells. why (on tells))
damage_since g at old mid new kept damage on (OpenMap code block why) = OpenMap code block (λ tells. why (on tells))
damage_since g at old mid new kept damage on (OtherCount code why) = OtherCount code (miscounted_as on refl refl why)
damage_since g at old mid new kept damage on (NoRoot code block why) = NoRoot code block (λ tells. why (on tells))
damage_since g at old mid new kept damage on (FarNode code why) = FarNode code (λ tells. why (on tells))
damage_since g at old mid new kept damage on (FarRoot code block far) = FarRoot code block far

-- the same of another root at the block, which leads past the disk where this one does
module _ {D : Type 0} (g : Ghosts D) (at now : Top) (same : at.block ≡ now.block) (old new : D) (kept : Kept) (on : at.IsFar (g.blocks new) → now.IsFar (g.blocks new)) where
  pub damage_as : (damage : Damage) → IsDraftDamage g at old new kept damage → IsDraftDamage g now old new kept damage
  damage_as damage (NoMap code map there why) = NoMap code map there why
  damage_as damage (OpenMap code block why) = OpenMap code block why
  damage_as damage (OtherCount code why) = OtherCount code why
  damage_as damage (NoRoot code block why) = NoRoot code (block ∙ same) (subst (λ (n : ℕ). Tells g old → (root : roots.Root) → ¬ IsRootBlock (block_at (g.content new) n) root) same why)
  damage_as damage (FarNode code why) = FarNode code why
  damage_as damage (FarRoot code block far) = FarRoot code (block ∙ same) (on far)

  pub trouble_as : (t : Trouble) → IsDraftTrouble g at old new kept t → IsDraftTrouble g now old new kept t
  trouble_as (trouble.Disk tried) is = is
  trouble_as (trouble.Damaged damage) is = damage_as damage is

  pub refusal_as : (floor : ℕ) (e : Refused) → IsDraftRefusal g at floor old new kept e → IsDraftRefusal g now floor old new kept e
  refusal_as floor (refused.Full need) is = is
  refusal_as floor (refused.Disk tried) is = is
  refusal_as floor (refused.Damaged damage) is = damage_as damage is
  refusal_as floor refused.Memory is = absurd is

-- a disk of the same size
pub near_at : {size other : ℕ} (a b : roots.Root) → other ≡ size → (IsFarRoot size a → IsFarRoot size b) → IsFarRoot other a → IsFarRoot other b
near_at a b same near = subst (λ (n : ℕ). IsFarRoot n a → IsFarRoot n b) (sym same) near

-- of a root of which no pointer was followed
pub still_as : {D : Type 0} (g : Ghosts D) (at : Top) (old new : D) (kept : Kept) (t : Trouble) → IsDraftTrouble g (still_top at.block) old new kept t → IsDraftTrouble g at old new kept t
still_as g at old new kept t is = trouble_as g (still_top at.block) at refl old new kept (λ far. absurd far) t is

module _ {D : Type 0} (g : Ghosts D) (at : Top) (old mid new : D) (kept : Kept) where
  pub trouble_after_reads : (n : ℕ) (t : Trouble) → OnlyReads g n old mid → IsDraftTrouble g at mid new kept t → IsDraftTrouble g at old new kept t
  trouble_after_reads n (trouble.Disk tried) reads is = stopped_after_reads g old mid new n tried reads is
  trouble_after_reads n (trouble.Damaged damage) reads is = damage_since g at old mid new kept damage (λ tells. tells_on g old mid new n reads tells) is

  pub refusal_after_reads : (floor n : ℕ) (e : Refused) → OnlyReads g n old mid → IsDraftRefusal g at floor mid new kept e → IsDraftRefusal g at floor old new kept e
  refusal_after_reads floor n (refused.Full need) reads is = is
  refusal_after_reads floor n (refused.Disk tried) reads is = stopped_after_reads g old mid new n tried reads is
  refusal_after_reads floor n (refused.Damaged damage) reads is = damage_since g at old mid new kept damage (λ tells. tells_on g old mid new n reads tells) is
  refusal_after_reads floor n refused.Memory reads is = absurd is

pub damaged_by : (t : Trouble) → is_damage t ≡ false → has_met_damage (refused_by t) ≡ false
damaged_by (trouble.Disk tried) is = refl
damaged_by (trouble.Damaged damage) is = is
