-- What a damage of one call of the store tells of the core's call.
use Rattle.std.proofs.Common.{◌≡◌, ◌⊎◌, inl, inr, ℕ, ◌<◌, ◌+◌, Some, None, Option, true, refl, sym, ◌∙◌, ap, subst, arith, List, sum}
use Rattle.cfs_core.proofs.Words.{Ghosts, Image, IsIndexRefusal, IsOpenMap, OnlyReads, Puid, Request}
use Rattle.cfs_base.specs.Codes.{past_disk}
use Rattle.cfs_base.proofs.Calls.{tells_on}
use Rattle.cfs_base.specs.Disk.{block_at}
use Rattle.cfs_base.specs.Run.{Tells}
use Rattle.cfs_base.specs.declared.refusal.Damage.{Damage}
use Rattle.cfs_base.specs.declared.refusal.Refused.TheVariants as refusals
use Rattle.cfs_base.specs.declared.refusal.Trouble.TheVariants as troubles
use Rattle.block_tree.proofs.Trees.{on_leads}
use Rattle.block_tree.specs.Pointers.{node_pointers}
use Rattle.block_tree.specs.Reads.{IsRootTrouble}
use Rattle.block_tree.specs.Root.{IsRootBlock, root_spelling}
use Rattle.block_tree.specs.declared.root.Root.{Root}
use Rattle.collector_steps.specs.Scan as scan
use Rattle.block_tree.specs.Tree.{LeadsPast}
use Rattle.collector_steps.specs.Scan.{IsIndexDamage}
use Rattle.cyl_alloc.specs.Refusals.{IsNoMap}
use Rattle.cyl_map.specs.Volume.{entry_in, is_free_in}
use Rattle.file_ops.specs.Changes as files
use Rattle.file_ops.specs.Changes.{IsBesideDamage, IsFileDamage, IsPlaceDamage, is_resize, least_size}
use Rattle.index_ops.specs.Causes as causes
use Rattle.normal_files.specs.Ends as ends
use Rattle.normal_files.specs.Frees as frees
use Rattle.normal_files.specs.Refusal as normal
use Rattle.special_files.specs.Drafting.{Drafting}
use Rattle.special_files.specs.Refusal as special
use Rattle.special_files.specs.Refusal.{IsFarNode}
use Rattle.ufs_model.specs.declared.change.Change.{Change}
use Rattle.cfs_base.specs.declared.kind.FileKind.{FileKind}
use Rattle.cfs_base.specs.declared.kind.FileKind.TheVariants as kinds
use Rattle.cyl_alloc.specs.Space.{AreCounts, IsBadMap}
use Rattle.cfs_core.specs.declared.collecting.Collections.{Collections}
use Rattle.cfs_core.specs.Damage.{After, Before, FarBelow, FarDraft, FarDrafted, FarNode, FarRoot, FewLeft, IsDamageTold, IsOutside, IsRootHere, NoEntry, NoRoot, FindsFew, NotOwned, OpenMap, OtherCount, bytes_wanted}
use Rattle.cfs_core.specs.Handles.{drafting_at, root_at}
use Rattle.cfs_core.specs.Kernel.{Kernel}
use Rattle.cyl_alloc.proofs.Miscounts.{miscounted_as}
use Rattle.leaf_changes.proofs.Tops.{far_block}
use Rattle.leaf_changes.specs.Tops.{IsFarBlock, Top, disk_top, root_top, still_top}
use Rattle.special_files.specs.Committing.{draft_top}

-- the same in an image that is as it was, of a disk that is
pub outside_as : (Told Says : Type 0) (a b : Image) (size now : ℕ) (IsRoot Is : ℕ → Type 0) (bytes most : ℕ) (damage : Damage) → (Says → Told) → b ≡ a → now ≡ size → ((n : ℕ) → IsRoot n → Is n) → ((n : ℕ) → n < bytes → n < most)
    → IsOutside Told a size IsRoot bytes damage → IsOutside Says b now Is most damage
outside_as Told Says a b size now IsRoot Is bytes most damage on same size_is root less (NoEntry code map why) = NoEntry code map (λ t. subst (λ (i : Image). IsBadMap i damage.block) (sym same) (why (on t)))
outside_as Told Says a b size now IsRoot Is bytes most damage on same size_is root less (NoRoot code here why) = NoRoot code (root damage.block here) (λ t r is. less r.size (why (on t) r (subst (λ (i : Image). IsRootBlock (block_at i damage.block) r) same is)))
outside_as Told Says a b size now IsRoot Is bytes most damage on same size_is root less (FarNode code why) = FarNode code (λ t. rw (same, size_is) (why (on t)))
outside_as Told Says a b size now IsRoot Is bytes most damage on same size_is root less (FarRoot code here why) = FarRoot code (root damage.block here) (λ t. rw (same, size_is) (why (on t)))
outside_as Told Says a b size now IsRoot Is bytes most damage on same size_is root less (FarBelow code at here why) = FarBelow code at (root at here) (λ t. rw (same, size_is) (why (on t)))

module _ {D : Type 0} (g : Ghosts D) (old new : Kernel D) where
  -- of a request, whatever the collector is
  pub told_asked : (x : Collections) (request : Request) (damage : Damage) → IsDamageTold g (record old { collections = x }) new (Some request) damage → IsDamageTold g old new (Some request) damage
  told_asked x request damage (Before is) = Before is
  told_asked x request damage (After is) = After is
  told_asked x request damage (OpenMap code block why) = OpenMap code block why
  told_asked x request damage (OtherCount code why) = OtherCount code why
  told_asked x request damage (FarDraft code draw was at block far) = FarDraft code draw was at block far
  told_asked x request damage (NotOwned made is creates code why) = NotOwned made is creates code why
  told_asked x request damage (FarDrafted code id root here at why) = FarDrafted code id root here at why
  told_asked x request damage (FewLeft code block few) = FewLeft code block few

  -- by a core with the same disk and counts afterwards
  pub told_as : (now : Kernel D) (request : Option Request) (damage : Damage) → now.disk ≡ new.disk → now.space ≡ new.space → IsDamageTold g old new request damage → IsDamageTold g old now request damage
  told_as now request damage disk space (Before is) = Before is
  told_as now request damage disk space (After is) = After (rw disk is)
  told_as now request damage disk space (OpenMap code block why) = OpenMap code block (rw disk why)
  told_as now request damage disk space (OtherCount code why) = OtherCount code (rw (disk, space) why)
  told_as now request damage disk space (FarDraft code draw was at block far) = FarDraft code draw was at block (rw disk far)
  told_as now request damage disk space (NotOwned made is creates code why) = NotOwned made is creates code why
  told_as now request damage disk space (FarDrafted code id root here at why) = FarDrafted code id root here at why
  told_as now request damage disk space (FewLeft code block few) = FewLeft code block (rw space few)

  -- after reads
  pub told_then : (n : ℕ) (d : D) (request : Option Request) (damage : Damage) → OnlyReads g n old.disk d → IsDamageTold g (record old { disk = d }) new request damage → IsDamageTold g old new request damage
  told_then n d request damage reads is = by is
    where
      on : Tells g old.disk → Tells g d
      on tells = tells_on g old.disk d d n reads tells

      here : (r : Option Request) (k : ℕ) → IsRootHere (record old { disk = d }) r k → IsRootHere old r k
      here None k is = is
      here (Some r) k is = is

      by : IsDamageTold g (record old { disk = d }) new request damage → IsDamageTold g old new request damage
      by (Before is) = Before (outside_as (Tells g d) (Tells g old.disk) (g.content d) (g.content old.disk) (g.blocks d) (g.blocks old.disk) _ (IsRootHere old request) (bytes_wanted request) (bytes_wanted request) damage on (sym reads.content) (sym reads.same.size) (here request) (λ k less. less) is)
      by (After is) = After (outside_as (Tells g d) (Tells g old.disk) (g.content new.disk) (g.content new.disk) (g.blocks d) (g.blocks old.disk) _ (IsRootHere old request) (bytes_wanted request) (bytes_wanted request) damage on refl (sym reads.same.size) (here request) (λ k less. less) is)
      by (OpenMap code block why) = OpenMap code block (λ tells. rw reads.content at (why (on tells)))
      by (OtherCount code why) = OtherCount code (miscounted_as on refl refl why)
      by (FarDraft code draw was at block far) = FarDraft code draw was at block far
      by (NotOwned made is creates code why) = NotOwned made is creates code (rw reads.same.size at why)
      by (FarDrafted code id root there at why) = FarDrafted code id root (here request id.block there) at (λ tells. rw (reads.content, reads.same.size) at (why (on tells)))
      by (FewLeft code block few) = FewLeft code block few

-- ---- of a read

-- of a block that the disk had before, which has a root of so many bytes
pub told_of_root : {D : Type 0} (g : Ghosts D) (old new : Kernel D) (request : Request) (at : ℕ) (damage : Damage) → IsRootHere old (Some request) at → (bytes : ℕ) → bytes_wanted (Some request) ≡ bytes
    → IsOutside (Tells g old.disk) (g.content old.disk) (g.blocks old.disk) (λ n. n ≡ at) bytes damage → IsDamageTold g old new (Some request) damage
told_of_root g old new request at damage here bytes wants is =
    Before (outside_as (Tells g old.disk) (Tells g old.disk) (g.content old.disk) (g.content old.disk) (g.blocks old.disk) (g.blocks old.disk) (λ n. n ≡ at) (IsRootHere old (Some request)) bytes (bytes_wanted (Some request)) damage (λ tells. tells) refl refl (λ n same. subst (IsRootHere old (Some request)) (sym same) here) (λ n less. omega (arith, less, wants)) is)

-- of a block that the disk had before
pub told_of_read : {D : Type 0} (g : Ghosts D) (old new : Kernel D) (request : Request) (at : ℕ) (damage : Damage) → IsRootHere old (Some request) at → IsOutside (Tells g old.disk) (g.content old.disk) (g.blocks old.disk) (λ n. n ≡ at) 0 damage → IsDamageTold g old new (Some request) damage
told_of_read g old new request at damage here is =
    Before (outside_as (Tells g old.disk) (Tells g old.disk) (g.content old.disk) (g.content old.disk) (g.blocks old.disk) (g.blocks old.disk) (λ n. n ≡ at) (IsRootHere old (Some request)) 0 (bytes_wanted (Some request)) damage (λ tells. tells) refl refl (λ n same. subst (IsRootHere old (Some request)) (sym same) here) (λ n less. absurd (omega (arith, less))) is)

-- ---- of a draft

module _ {D : Type 0} (g : Ghosts D) (old new : Kernel D) (request : Option Request) (at : ℕ) (here : IsRootHere old request at) (damage : Damage) (size : g.blocks new.disk ≡ g.blocks old.disk) where
  here_so : damage.block ≡ at → IsRootHere old request damage.block
  here_so same = subst (IsRootHere old request) (sym same) here

  -- by a call that goes down from a root at the block: what is told proves a goal, and so does a root that leads past
  -- the disk
  module _ (top : Top) (same : top.block ≡ at) (Goal : Type 0) (told : IsDamageTold g old new request damage → Goal) (far : damage.code ≡ past_disk → damage.block ≡ at → top.IsFar (g.blocks new.disk) → Goal) where
    pub told_down : special.IsDraftDamage g top old.disk new.disk new.space damage → Goal
    told_down (special.NoMap code map there why) = told (After (NoEntry code map why))
    told_down (special.OpenMap code block why) = told (OpenMap code block (λ tells counts. inr (why tells)))
    told_down (special.OtherCount code why) = told (OtherCount code why)
    told_down (special.NoRoot code block why) = told (After (NoRoot code (here_so (block ∙ same)) (λ tells root is. absurd (why tells root (rw block at is)))))
    told_down (special.FarNode code why) = told (After (FarNode code (λ tells. subst (λ (n : ℕ). IsFarNode n (g.content new.disk) damage.block) size (why tells))))
    told_down (special.FarRoot code block is) = far code (block ∙ same) is

  told_below : (top : Top) → top.block ≡ at → (damage.code ≡ past_disk → damage.block ≡ at → top.IsFar (g.blocks new.disk) → IsDamageTold g old new request damage) → special.IsDraftDamage g top old.disk new.disk new.space damage → IsDamageTold g old new request damage
  told_below top same far is = told_down top same (IsDamageTold g old new request damage) (λ told. told) far is

  -- from the root that the disk has
  pub far_on_disk : damage.code ≡ past_disk → damage.block ≡ at → (disk_top g at old.disk).IsFar (g.blocks old.disk) → IsDamageTold g old new request damage
  far_on_disk code block is = Before (FarRoot code (here_so block) (λ tells. rw block (is tells)))

  pub told_on_disk : special.IsDraftDamage g (disk_top g at old.disk) old.disk new.disk new.space damage → IsDamageTold g old new request damage
  told_on_disk is = told_below (disk_top g at old.disk) refl (λ code block far. far_on_disk code block (subst (disk_top g at old.disk).IsFar size far)) is

  -- of a draft that a handle of the core has
  pub told_of_draft : (draw : ℕ) (was : Drafting) → drafting_at old.handles draw ≡ Some was → was.at ≡ at → special.IsDraftDamage g (draft_top was) old.disk new.disk new.space damage → IsDamageTold g old new request damage
  told_of_draft draw was there same is = told_below (draft_top was) same (λ code block far. FarDraft code draw was there (block ∙ sym same) far) is

  -- of one that is begun: no pointer is followed
  pub told_still : special.IsDraftDamage g (still_top at) old.disk new.disk new.space damage → IsDamageTold g old new request damage
  told_still is = told_below (still_top at) refl (λ code block far. absurd far) is

  -- ---- of a file

  -- changed from this root: what is told proves a goal, and so does a root that leads past the disk
  module _ (top : Top) (same : top.block ≡ at) (Goal : Type 0) (told : IsDamageTold g old new request damage → Goal) (far : damage.code ≡ past_disk → damage.block ≡ at → top.IsFar (g.blocks old.disk) → Goal) where
    -- a block of a normal one, in an image that is as the disk has it then
    of_file : (mid : D) → (Tells g old.disk → Tells g mid) → g.blocks mid ≡ g.blocks old.disk → (IsOutside (Tells g old.disk) (g.content mid) (g.blocks old.disk) (IsRootHere old request) (bytes_wanted request) damage → IsDamageTold g old new request damage) → normal.IsDamage g top mid damage → Goal
    of_file mid on size so (normal.NoRoot code block why) = told (so (NoRoot code (here_so (block ∙ same)) (λ t root is. absurd (why (on t) root (rw block at is)))))
    of_file mid on size so (normal.FarRoot code block is) = far code (block ∙ same) (subst top.IsFar size is)
    of_file mid on size so (normal.FarNode code why) = told (so (FarNode code (λ t. rw (sym size) (why (on t)))))

    of_claims : ends.IsNoSpace g old.disk new.disk new.space damage → Goal
    of_claims (ends.NoMap code map there why) = told (After (NoEntry code map why))
    of_claims (ends.OtherCount code why) = told (OtherCount code why)

    of_drops : frees.IsDropDamage g top old.disk new.disk damage → Goal
    of_drops (frees.NoMap code map why) = told (After (NoEntry code map why))
    of_drops (frees.OfFile mid on content blocks is) = of_file mid on (blocks ∙ size) (λ out. After (subst (λ (i : Image). IsOutside (Tells g old.disk) i (g.blocks old.disk) (IsRootHere old request) (bytes_wanted request) damage) content out)) is

    of_place : IsPlaceDamage g top old.disk new.disk new.space damage → Goal
    of_place (files.OfFile is) = of_file old.disk (λ tells. tells) refl Before is
    of_place (files.OfClaims is) = of_claims is
    of_place (files.OfDrops is) = of_drops is

    of_beside : (change : Change) → bytes_wanted request ≡ least_size change → (is_resize change ≡ true → FindsFew request (sum old.space.free) 0) → IsBesideDamage g at change old.disk new.disk new.space damage → IsDamageTold g old new request damage
    of_beside change bytes few (files.OfBlock is) = told_on_disk is
    of_beside change bytes few (files.Short code block why) = Before (NoRoot code (here_so block) (λ tells root is. rw bytes (why tells root (rw block at is))))
    of_beside change bytes few (files.NoneLeft set is) = FewLeft is.code is.block (subst (FindsFew request (sum old.space.free)) (sym is.none) (few set))

    pub told_of_file : (kind : FileKind) (change : Change) → bytes_wanted request ≡ least_size change → (is_resize change ≡ true → FindsFew request (sum old.space.free) 0) → IsFileDamage g top kind change old.disk new.disk new.space damage → Goal
    told_of_file kinds.Normal change bytes few is = of_place is
    told_of_file kinds.Special change bytes few is = told (of_beside change bytes few (subst (λ (n : ℕ). IsBesideDamage g n change old.disk new.disk new.space damage) same is))

-- ---- of an index

-- changed from a root that was read of the block when the disk was so
pub told_of_index : {D : Type 0} (g : Ghosts D) (n : ℕ) (base new : Kernel D) (d : D) (reads : OnlyReads g n base.disk d) (request : Option Request) (at : ℕ) (root : Root) → IsRootHere base request at → (Tells g base.disk → IsRootBlock (block_at (g.content base.disk) at) root)
    → (damage : Damage) → g.blocks new.disk ≡ g.blocks d → IsIndexRefusal g (root_top at root) d new.disk new.space (refusals.Damaged damage) → IsDamageTold g base new request damage
told_of_index g n base new d reads request at root here rooted damage size is =
    told_down g (record base { disk = d }) new request at (on_it request here) damage size (root_top at root) refl (IsDamageTold g base new request damage) (told_then g base new n d request damage reads)
    (λ code block far. far_on_disk g base new request at here damage (size ∙ reads.same.size) code block (λ tells. subst (λ (m : ℕ). IsFarBlock m (g.content base.disk) node_pointers at) (size ∙ reads.same.size) (far_block (g.blocks new.disk) at (g.content base.disk) root (rooted tells) far))) is
  where
    on_it : (r : Option Request) → IsRootHere base r at → IsRootHere (record base { disk = d }) r at
    on_it None is = is
    on_it (Some r) is = is

-- and where an object is made
pub told_of_making : {D : Type 0} (g : Ghosts D) (n : ℕ) (base new : Kernel D) (d : D) (reads : OnlyReads g n base.disk d) (request : Option Request) (at : ℕ) (root : Root) → IsRootHere base request at → (Tells g base.disk → IsRootBlock (block_at (g.content base.disk) at) root)
    → (damage : Damage) → g.blocks new.disk ≡ g.blocks d → IsIndexRefusal g (root_top at root) d new.disk new.space (refusals.Damaged damage) ⊎ IsOpenMap g d base.space (refusals.Damaged damage) → IsDamageTold g base new request damage
told_of_making g n base new d reads request at root here rooted damage size (inl is) = told_of_index g n base new d reads request at root here rooted damage size is
told_of_making g n base new d reads request at root here rooted damage size (inr map) = (let same : damage ≡ record { block = 0; code = 2 } = (let is = map.is in cc) in
    OpenMap (ap (λ (d : Damage). d.code) same) (ap (λ (d : Damage). d.block) same) (λ tells counts. inl (subst (λ (i : Image). is_free_in i 0 ≡ true) reads.content (map.free (tells_on g base.disk d d n reads tells) (subst (λ (i : Image). AreCounts i base.space) (sym reads.content) counts)))))

-- ---- of an index that is read

-- the root that a root block has
spelled : (image : Image) (at : ℕ) (root : Root) → IsRootBlock (block_at image at) root → block_at image at ≡ root_spelling root
spelled image at root is = is.spelled

far_leaf : (image : Image) (size at : ℕ) (root : Root) (leaf : ℕ) (damage : Damage) → IsRootBlock (block_at image at) root → causes.IsFarLeaf image size at root leaf damage → LeadsPast image size (block_at image at) at damage.block
far_leaf image size at root leaf damage is far =
    subst (λ (content : List ℕ). LeadsPast image size content at damage.block) (sym (spelled image at root is))
    (subst (LeadsPast image size (root_spelling root) at) (sym far.block) (on_leads image size (root_spelling root) leaf at far.pointer far.past))

-- a leaf of the index whose root was read when the disk was so
pub outside_leaf : {D : Type 0} (g : Ghosts D) (n at leaf : ℕ) (root : Root) (old mid new : D) (damage : Damage) → OnlyReads g n old mid → (Tells g old → IsRootBlock (block_at (g.content old) at) root) → causes.IsLeafTrouble g at root leaf mid new (troubles.Damaged damage)
    → IsOutside (Tells g old) (g.content old) (g.blocks old) (λ n. n ≡ at) 0 damage
outside_leaf g n at leaf root old mid new damage reads rooted is = FarBelow is.0 at refl (λ tells. far_leaf (g.content old) (g.blocks old) at root leaf damage (rooted tells)
    (subst (λ (c : Image). causes.IsFarLeaf c (g.blocks old) at root leaf damage) reads.content (subst (λ (size : ℕ). causes.IsFarLeaf (g.content mid) size at root leaf damage) reads.same.size (is.1 (tells_on g old mid mid n reads tells)))))

pub outside_root : {D : Type 0} (g : Ghosts D) (at : ℕ) (old new : D) (damage : Damage) → IsRootTrouble g at old new (troubles.Damaged damage) → IsOutside (Tells g old) (g.content old) (g.blocks old) (λ n. n ≡ at) 0 damage
outside_root g at old new damage is = NoRoot (ap (λ (d : Damage). d.code) is.0) (ap (λ (d : Damage). d.block) is.0) (λ tells root there. absurd (is.1 tells root (rw (ap (λ (d : Damage). d.block) is.0) at there)))

-- of a file that is read from this root, after other reads
pub outside_file : {D : Type 0} (g : Ghosts D) (top : Top) (at : ℕ) (old mid : D) (damage : Damage) → top.block ≡ at → (Tells g old → Tells g mid) → g.content mid ≡ g.content old → g.blocks mid ≡ g.blocks old → ((size : ℕ) → top.IsFar size → (disk_top g at old).IsFar size) → normal.IsDamage g top mid damage
    → IsOutside (Tells g old) (g.content old) (g.blocks old) (λ n. n ≡ at) 0 damage
outside_file g top at old mid damage same on content size far (normal.NoRoot code block why) = NoRoot code (block ∙ same) (λ tells root is. absurd (why (on tells) root (rw (block, sym content) at is)))
outside_file g top at old mid damage same on content size far (normal.FarRoot code block is) = FarRoot code (block ∙ same) (λ tells. rw (block ∙ same) (far (g.blocks old) (subst top.IsFar size is) tells))
outside_file g top at old mid damage same on content size far (normal.FarNode code why) = FarNode code (λ tells. rw (sym size, sym content) (why (on tells)))

-- ---- of a step of the collector

module _ {D : Type 0} (g : Ghosts D) (old new : Kernel D) (damage : Damage) where
  pub told_of_scan : (id : Puid) (draft : Option Root) → IsRootHere old None id.block → draft ≡ root_at old.handles id → IsIndexDamage g old.disk draft id.block damage → IsDamageTold g old new None damage
  told_of_scan id draft here root (scan.NoRoot code block why) = Before (NoRoot code (subst (IsRootHere old None) (sym block) here) (λ tells root is. absurd (why tells root (rw block at is))))
  told_of_scan id draft here root (scan.PastDisk code why) = Before (FarBelow code id.block here why)
  told_of_scan id draft here root (scan.PastDraft of same code why) = FarDrafted code id of here (sym root ∙ same) why

  pub told_of_map : (n : ℕ) → IsNoMap g old.disk n damage → IsDamageTold g old new None damage
  told_of_map n is = Before (NoEntry is.code (omega (arith, is.block)) (λ tells. bad_map (is.bad tells)))
    where
      bad_map : IsBadMap (g.content old.disk) n → IsBadMap (g.content old.disk) damage.block
      bad_map b = rw is.block (b.0, b.1, ap (λ (m : ℕ). entry_in (g.content old.disk) (m + b.0)) (omega arith) ∙ b.2)
