-- Why a leaf of an index isn't read: what a device call or a pointer past the disk tells of the index.
use Rattle.std.proofs.Common.{◌≡◌, ℕ, Err, List, Option, Some, refl, sym, ap, subst}
use Rattle.collector_steps.proofs.Words.{Ghosts, HeldStep, Image, IsFault, IsFirstPast, IsRootBlock, IsRootTrouble, IsScanTrouble, LeadsPast, NoRoot, OnlyReads, PastDisk, Root, Tells, TreeFault, Trouble, block_at, root_spelling, stopped_after_reads, tells_on, trouble_of}
use Rattle.collector_steps.specs.Scan.{IsTreeTrouble, PastDraft}
use Rattle.block_tree.proofs.Faults.{fault_after, later_fault, refused_as}
use Rattle.block_tree.proofs.Trees.{on_leads, past_last}
use Rattle.block_tree.specs.Reads.{holder_block}
use Rattle.block_tree.specs.Tree.{IsLeafPointer}
use Rattle.block_tree.specs.declared.follow.Pointer.{Pointer}
use Rattle.cfs_base.specs.declared.refusal.Damage.{Damage}
use Rattle.cfs_base.specs.declared.refusal.Trouble.TheVariants as trouble
use Rattle.block_tree.specs.declared.fault.TreeFault.TheVariants as faults

-- a pointer past the end
abbrev Leads : Image → ℕ → List ℕ → ℕ → Pointer → Type 0
Leads image size R r p = LeadsPast image size R r (holder_block r p.holder)

module _ {D : Type 0} (g : Ghosts D) (r : ℕ) where
  -- the root of the index was refused at once
  pub first_refused : (old new : D) (draft : Option Root) (t : Trouble) → IsRootTrouble g r old new t → IsScanTrouble g old new draft r t
  first_refused old new draft (trouble.Disk tried) is = is.1
  first_refused old new draft (trouble.Damaged damage) is = NoRoot (ap (λ (d : Damage). d.code) is.0) (ap (λ (d : Damage). d.block) is.0) is.1

  -- a pointer of a tree was followed
  pub tree_refused : (old new : D) (R : List ℕ) (m : ℕ) (fault : TreeFault) → OnlyReads g m old new → IsFault g old new (Leads (g.content old) (g.blocks old) R r) fault → IsTreeTrouble g old new R r (trouble_of r fault)
  tree_refused old new R m faults.Disk reads is = record { failed = is; tries = λ e. cc; no_try = λ e. reads.tries; untouched = λ e. reads.content }
  tree_refused old new R m (faults.BadPointer block holder) reads past = (refl, past.1)

  -- the step in a tree was refused
  pub step_refused : (old new : D) (root : Root) (m from : ℕ) (fault : TreeFault) → OnlyReads g m old new
      → IsFault g old new (IsFirstPast (g.content old) (g.blocks old) (root_spelling root) from) fault
      → IsTreeTrouble g old new (root_spelling root) r (trouble_of r fault)
  step_refused old new root m from fault reads is =
      tree_refused old new (root_spelling root) m fault reads
      (refused_as {X = ℕ} g old new (IsFirstPast (g.content old) (g.blocks old) (root_spelling root) from)
      (Leads (g.content old) (g.blocks old) (root_spelling root) r) (Err fault)
      (λ p past is. on_leads (g.content old) (g.blocks old) (root_spelling root) is.leaf r p is.past.past) is)

  -- a later one was
  pub next_refused : (old mid new : D) (root : Root) (n m from : ℕ) (fault : TreeFault) → OnlyReads g n old mid
      → OnlyReads g m old new
      → IsFault g mid new (IsFirstPast (g.content mid) (g.blocks mid) (root_spelling root) from) fault
      → IsTreeTrouble g old new (root_spelling root) r (trouble_of r fault)
  next_refused old mid new root n m from fault reads all is =
      tree_refused old new (root_spelling root) m fault all
      (later_fault {X = ℕ} g old mid new n (λ image size. IsFirstPast image size (root_spelling root) from)
      (Leads (g.content old) (g.blocks old) (root_spelling root) r) (Err fault) reads
      (λ p tells far is. on_leads (g.content old) (g.blocks old) (root_spelling root) is.leaf r p is.past.past) is)

  -- the leaf was
  pub leaf_refused : (old mid new : D) (root : Root) (n m : ℕ) → OnlyReads g n old mid → OnlyReads g m old new → (step : HeldStep) (fault : TreeFault)
      → (Tells g old → IsLeafPointer (g.content old) (root_spelling root) step.held.leaf (record { holder = step.holder; block = step.held.block }))
      → IsFault g mid new (λ p. p ≡ record { holder = step.holder; block = step.held.block }) fault → IsTreeTrouble g old new (root_spelling root) r (trouble_of r fault)
  leaf_refused old mid new root n m reads all step fault there is =
      tree_refused old new (root_spelling root) m fault all
      (fault_after g old mid new n (λ p. p ≡ record { holder = step.holder; block = step.held.block }) (Leads (g.content old) (g.blocks old) (root_spelling root) r) fault reads
      (λ p tells past at. on_leads (g.content old) (g.blocks old) (root_spelling root) step.held.leaf r p (past_last (g.content old) (g.blocks old) (root_spelling root) step.held.leaf p (subst (IsLeafPointer (g.content old) (root_spelling root) step.held.leaf) (sym at) (there tells)) past)) is)

  module _ (old mid new : D) (draft : Option Root) (n : ℕ) (reads : OnlyReads g n old mid) where
    -- it was after reads
    pub root_refused : (t : Trouble) → IsRootTrouble g r mid new t → IsScanTrouble g old new draft r t
    root_refused (trouble.Disk tried) is = stopped_after_reads g old mid new n tried reads is.1
    root_refused (trouble.Damaged damage) is = NoRoot (ap (λ (d : Damage). d.code) is.0) (ap (λ (d : Damage). d.block) is.0)
        (λ tells root spelled. is.1 (tells_on g old mid new n reads tells) root (subst (λ (image : Image). IsRootBlock (block_at image r) root) (sym reads.content) spelled))

    -- its own tree, of the root that was read
    pub own_refused : (root : Root) (t : Trouble) → (Tells g old → root_spelling root ≡ block_at (g.content old) r) → IsTreeTrouble g mid new (root_spelling root) r t → IsScanTrouble g old new draft r t
    own_refused root (trouble.Disk tried) is stop = stopped_after_reads g old mid new n tried reads stop
    own_refused root (trouble.Damaged damage) is (code, past) =
        let at : Tells g old → LeadsPast (g.content old) (g.blocks old) (block_at (g.content old) r) r damage.block = λ tells.
        subst (λ (R : List ℕ). LeadsPast (g.content old) (g.blocks old) R r damage.block) (is tells)
        (subst (λ (image : Image). LeadsPast image (g.blocks old) (root_spelling root) r damage.block) reads.content
        (subst (λ (size : ℕ). LeadsPast (g.content mid) size (root_spelling root) r damage.block) reads.same.size (past (tells_on g old mid new n reads tells)))) in
        PastDisk code at

  -- the tree of its draft was
  pub draft_refused : (old new : D) (root : Root) (t : Trouble) → IsTreeTrouble g old new (root_spelling root) r t → IsScanTrouble g old new (Some root) r t
  draft_refused old new root (trouble.Disk tried) stop = stop
  draft_refused old new root (trouble.Damaged damage) (code, past) = PastDraft root refl code past
