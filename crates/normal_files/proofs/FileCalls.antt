-- A file written, or set to a size, from what the store has of it.
use Rattle.normal_files.proofs.Words.{◌≡◌, inl, inr, ℕ, ◌+◌, ◌<◌, ◌≤◌, true, false, List, length, None, Some, refl, sym, ◌∙◌, ap, subst, arith, Ok, Err, set, sum, IfErr, OnOk, Result, OnlyReads, then, wider, AreBlocks, Image, block_at, Leaves, IsSettled, left_now, refused_by, Ghosts, Puid, Refused, Trouble, stopped_after_reads, IsRootBlock, IsGoodRoot, IsRoot, root_spelling, one_root, AreCounts, Kept, file_to_leaves, File, Graph, object_at, with_object, tree_in, IsTree, carries_on, Accounts, Drafts, ChangesOnly, of_owner, leaves_in, resized, AreClaimed, node_pointers, leaf_limit, size_limit, is_damage, HasStoppedBy}
use Rattle.normal_files.specs.Calls.{Handed}
use Rattle.normal_files.specs.Ends.{is_damaged, IsStop}
use Rattle.normal_files.specs.Cuts.{IsEnd, IsReadEnd, MayTrim, last_node, trimmed}
use Rattle.normal_files.specs.Laid.{IsRooted, leaves_of, object_laid}
use Rattle.normal_files.specs.Parts.{IsPart}
use Rattle.normal_files.specs.Refusal.{IsTrouble}
use Rattle.normal_files.specs.Standing.{BecomesFile, IsFileAt, IsPartly, Becomes}
use Rattle.normal_files.specs.WriteRefusal.{IsWriteRefusal, TellsNeed, is_untried}
use Rattle.normal_files.specs.declared.part.Part.{Part}
use Rattle.normal_files.proofs.Laid.{rooted_is, tree_of_laid}
use Rattle.normal_files.proofs.Trees.{near_tree}
use Rattle.block_tree.specs.Along.{CutsRootPast, IsNearTree}
use Rattle.normal_files.specs.Frees.{FollowsStart, FreesTo, GivesEnd, HasBegun, IsFreeing, IsResizeRefusal, IsShrinkTrouble, TakesNone, NoMap, OfFile}
use Rattle.normal_files.specs.declared.cut.End.{End}
use Rattle.normal_files.proofs.Partly.{no_index}
use Rattle.normal_files.proofs.Refusals.{tells_after, trouble_after_reads, damage_as}
use Rattle.normal_files.proofs.Shrunk.{drops, framed_partly, freeing, left_partly, root_partly, shrunk_entries, shrunk_stores}
use Rattle.normal_files.specs.View.{HasFile, FileView, id_at}
use Rattle.normal_files.proofs.Ended.{IsCut}
use Rattle.normal_files.specs.Writes.{IsWritable, WroteFile}
use Rattle.normal_files.specs.Order.{claims_of}
use Rattle.cfs_base.specs.declared.refusal.Refused.TheVariants as refusals
use Rattle.cfs_base.specs.declared.refusal.Trouble.TheVariants as trouble
use Rattle.block_tree.specs.declared.root.Root as roots
use Rattle.ufs_model.specs.declared.object.Object.TheVariants as objects
use Rattle.cfs_base.specs.declared.kind.Kind.TheVariants as kinds
use Rattle.leaf_changes.specs.Tops.{disk_top, Top, IsFarRoot, root_top}
use Rattle.leaf_changes.proofs.Tops.{far_block}
use Rattle.cfs_base.specs.Run.{Tells}
use Rattle.cfs_base.specs.Refusals.{trouble_after_try}
use Rattle.cfs_base.proofs.Went.{told_as}

-- all of a file, after calls that only read
pub near_after : {D : Type 0} {n : ℕ} (g : Ghosts D) (old mid : D) (at : ℕ) (root : roots.Root) (f : File) → length (g.content old) ≡ g.blocks old → at < g.blocks old → OnlyReads g n old mid → IsRootBlock (block_at (g.content old) at) root → IsFileAt (g.content old) at f
    → IsNearTree (g.blocks mid) (g.content mid) (root_spelling root)
near_after g old mid at root f size below reads is file =
    let image = g.content old in
    subst (λ (s : ℕ). IsNearTree s (g.content mid) (root_spelling root)) (size ∙ sym reads.same.size)
    (subst (λ (i : Image). IsNearTree (length image) i (root_spelling root)) (sym reads.content)
    (near_tree image (block_at image at) root is (length image) file.owner file.root (objects.File f) file.tree (omega (arith, below, size))))

pub images_read : {D : Type 0} {n : ℕ} {g : Ghosts D} {old mid : D} → OnlyReads g n old mid → (P : Image → Type 0) → Leaves g old mid P
images_read {g = g} {old = old} {mid = mid} reads P = wider g old mid _ P reads.images (λ c none. absurd none)

-- the identifier told by its block
pub by_block : (id : Puid) (at : ℕ) → id.block ≡ at → id ≡ id_at at id.word
by_block id at here = ap (λ (block : ℕ). id_at block id.word) here

pub has_file : (a : Image) (graph : Graph) (ds : Drafts) (id : Puid) (f : File) (root : roots.Root) → Accounts a graph ds → object_at graph id ≡ Some (objects.File f) → AreBlocks a → IsRootBlock (block_at a id.block) root → HasFile a graph id f root
has_file a graph ds id f root account there blocks is =
    let r = rooted_is a id (objects.File f) (account.objects id (objects.File f) there).no_bit (account.holds.objects id (objects.File f) there) in
    let same : r.0 ≡ root = one_root r.0 root r.1.laid.good is.good (sym r.1.here ∙ is.spelled) in
    record { holds = account.holds; at = there; rooted = subst (IsRooted a id) same r.1; same = ap (object_laid a) (sym same) ∙ r.2; blocks = blocks }

pub file_size : {D : Type 0} {g : Ghosts D} {r : ℕ} {root : roots.Root} {disk : D} {kept : Kept} (v : FileView g r root disk kept) → length v.file.bytes ≡ root.size
file_size {g = g} {root = root} {disk = disk} v = (file_to_leaves root (leaves_of (g.content disk) root) v.file v.has.same).size

module _ {D : Type 0} {n : ℕ} {g : Ghosts D} {old mid : D} (reads : OnlyReads g n old mid) where
  -- what was known of a file is known after calls that only read
  abbrev pub view_on : {r : ℕ} {root : roots.Root} {kept : Kept} → FileView g r root old kept → FileView g r root mid kept
  view_on {r} {root} {kept} v = record {
    graph = v.graph;
    drafts = v.drafts;
    word = v.word;
    file = v.file;
    store = record {
      carries = carries_on g v.graph old mid v.store.carries reads.content reads.told reads.images reads.same;
      account = subst (λ (i : Image). Accounts i v.graph v.drafts) (sym reads.content) v.store.account;
      counts = subst (λ (i : Image). AreCounts i kept) (sym reads.content) v.store.counts;
      ordered = v.store.ordered;
    };
    has = subst (λ (i : Image). HasFile i v.graph (id_at r v.word) v.file root) (sym reads.content) v.has;
    no_draft = v.no_draft;
  }

  pub becomes_on : {E : Type 0} {r : ℕ} {root : roots.Root} {kept after : Kept} {to : File} {new : D} {result : Result (Unit {0}) E} (v : FileView g r root old kept) → Becomes (view_on v) to new after result → Becomes v to new after result
  becomes_on {E} {r = r} {after = after} {to = to} {new = new} {result = result} v is = record {
    done = done result is.done;
    images = (then) g old mid new _ _ (images_read reads _) is.images (λ c h. h);
  }
    where
      done : (x : Result (Unit {0}) E) → OnOk x (BecomesFile g v.graph v.drafts (id_at r v.word) to mid new after) → OnOk x (BecomesFile g v.graph v.drafts (id_at r v.word) to old new after)
      done (Ok y) so = record { store = so.store; only = subst (λ (i : Image). ChangesOnly (λ e. of_owner r e) i (g.content new)) reads.content so.only }
      done (Err e) so = tt

  pub none_on : {E : Type 0} (new : D) (result : Result (Unit {0}) E) → OnOk result (TakesNone (g.content mid) (g.content new)) → OnOk result (TakesNone (g.content old) (g.content new))
  none_on new (Ok x) is = subst (λ (i : Image). TakesNone i (g.content new)) reads.content is
  none_on new (Err e) is = tt

  pub wrote_on : {r : ℕ} {root : roots.Root} {kept after : Kept} {offset : ℕ} {bytes : List ℕ} {new : D} {result : Result (Unit {0}) Refused} (v : FileView g r root old kept) → WroteFile (view_on v) offset bytes new after result → WroteFile v offset bytes new after result
  wrote_on {r = r} {offset = offset} {bytes = bytes} {new = new} {result = result} v is =
      record { file = becomes_on v is.file; settled = is.settled; order = subst (λ (i : Image). OnOk result (AreClaimed (claims_of r v.file offset (length bytes)) i (g.content new))) reads.content is.order; sound = is.sound }

  pub writable_on : {r : ℕ} {root : roots.Root} {kept : Kept} {offset : ℕ} {bytes : List ℕ} {low high : Part} (v : FileView g r root old kept) → offset + length bytes ≤ length v.file.bytes → IsPart (g.content old) root low → IsPart (g.content old) root high → IsWritable (view_on v) offset bytes low high
  writable_on {root = root} {low = low} {high = high} v inside low_is high_is =
      record { inside = inside; low_is = subst (λ (i : Image). IsPart i root low) (sym reads.content) low_is; high_is = subst (λ (i : Image). IsPart i root high) (sym reads.content) high_is }

-- the file by its root block
pub file_of : (image : Image) (graph : Graph) (ds : Drafts) (id : Puid) (f : File) (at : ℕ) → Accounts image graph ds → object_at graph id ≡ Some (objects.File f) → id.block ≡ at → IsFileAt image at f
file_of image graph ds id f at account there here =
    let r = rooted_is image id (objects.File f) (account.objects id (objects.File f) there).no_bit (account.holds.objects id (objects.File f) there) in
    let content = block_at image id.block in
    subst (λ (m : ℕ). IsFileAt image m f) here (record {
      owner = id.block;
      root = r.0;
      tree = subst (λ o. IsTree (length image) id.block (tree_in image content) r.0 o) r.2 (tree_of_laid image content r.0 (record { good = r.1.laid.good; spelled = r.1.here }) id.block r.1.here r.1.laid);
    })

module _ {D : Type 0} {g : Ghosts D} {at : ℕ} {disk : D} {kept : Kept} (h : Handed g at disk kept) where
  -- the file that was handed, and its root was read
  abbrev pub view : {root : roots.Root} → AreBlocks (g.content disk) → IsRootBlock (block_at (g.content disk) at) root → FileView g at root disk kept
  view {root} blocks is = record {
    graph = h.graph;
    drafts = h.drafts;
    word = h.id.word;
    file = h.file;
    store = h.store;
    has = has_file (g.content disk) h.graph h.drafts (id_at at h.id.word) h.file root h.store.account (subst (λ x. object_at h.graph x ≡ Some (objects.File h.file)) (by_block h.id at h.here) h.there) blocks is;
    no_draft = subst (λ x. h.drafts x ≡ None) (by_block h.id at h.here) h.no_draft;
  }

  -- told of the identifier that was handed
  pub becomes_as : (to : File) (new : D) (after : Kept) (result : Result (Unit {0}) Refused) → OnOk result (BecomesFile g h.graph h.drafts (id_at at h.id.word) to disk new after) → OnOk result (BecomesFile g h.graph h.drafts h.id to disk new after)
  becomes_as to new after result is = subst (λ x. OnOk result (BecomesFile g h.graph h.drafts x to disk new after)) (sym (by_block h.id at h.here)) is

  pub partly_as : {to : File} {new : D} → Leaves g disk new (λ c. IsPartly c h.graph (id_at at h.id.word) h.file to) → Leaves g disk new (λ c. IsPartly c h.graph h.id h.file to)
  partly_as {to} {new} is = subst (λ x. Leaves g disk new (λ c. IsPartly c h.graph x h.file to)) (sym (by_block h.id at h.here)) is

  pub handed_file : IsFileAt (g.content disk) at h.file
  handed_file = file_of (g.content disk) h.graph h.drafts h.id h.file at h.store.account h.there h.here

-- ---- refusals

pub damage_same : (t : Trouble) → is_damaged (refused_by t) ≡ is_damage t
damage_same (trouble.Disk tried) = refl
damage_same (trouble.Damaged damage) = refl

pub read_refused : {D : Type 0} (g : Ghosts D) (at : Top) (floor : ℕ) (old new : D) (before after : Kept) (t : Trouble) → IsTrouble g at old new t → IsWriteRefusal g at floor old new before after (refused_by t)
read_refused g at floor old new before after (trouble.Disk tried) is = is
read_refused g at floor old new before after (trouble.Damaged damage) is = inl is

pub parts_refused : {D : Type 0} (g : Ghosts D) (at : Top) (floor : ℕ) (old new : D) (before after : Kept) (e : Refused) → IsStop g old new after e → IsWriteRefusal g at floor old new before after e
parts_refused g at floor old new before after (refusals.Full need) is = absurd is
parts_refused g at floor old new before after (refusals.Disk tried) is = is
parts_refused g at floor old new before after (refusals.Damaged damage) is = inr is
parts_refused g at floor old new before after refusals.Memory is = is

pub room_refused : {D : Type 0} (g : Ghosts D) (at : Top) (floor need : ℕ) (old new : D) (before after : Kept) (e : Refused) → e ≡ refusals.Full (record { free = sum before.free; need = need }) → sum before.free < need + floor → IsWriteRefusal g at floor old new before after e
room_refused g at floor need old new before after e is few = subst (IsWriteRefusal g at floor old new before after) (sym is) (refl, few)

pub parts_untried : {D : Type 0} {P : Type 0} (g : Ghosts D) (mid new : D) (kept : Kept) (e : Refused) → IsStop g mid new kept e → (e ≡ refusals.Disk false → P) → is_untried e ≡ true → P
parts_untried g mid new kept (refusals.Full need) is same h = absurd is
parts_untried g mid new kept (refusals.Disk true) is same h = cc
parts_untried g mid new kept (refusals.Disk false) is same h = same refl
parts_untried g mid new kept (refusals.Damaged damage) is same h = cc
parts_untried g mid new kept refusals.Memory is same h = absurd is

pub troubled_untried : {P : Type 0} (t : Trouble) → (t ≡ trouble.Disk false → P) → is_untried (refused_by t) ≡ true → P
troubled_untried (trouble.Disk true) same h = cc
troubled_untried (trouble.Disk false) same h = same refl
troubled_untried (trouble.Damaged damage) same h = cc

-- ---- the need that is told

pub trouble_tells : (n : ℕ) (t : Trouble) → TellsNeed n (refused_by t)
trouble_tells n (trouble.Disk tried) = tt
trouble_tells n (trouble.Damaged damage) = tt

pub room_tells : (n free need : ℕ) (e : Refused) → e ≡ refusals.Full (record { free = free; need = need }) → need ≡ n → TellsNeed n e
room_tells n free need e is same = subst (TellsNeed n) (sym is) same

pub parts_tell : {D : Type 0} (g : Ghosts D) (n : ℕ) (mid new : D) (kept : Kept) (e : Refused) → IsStop g mid new kept e → TellsNeed n e
parts_tell g n mid new kept (refusals.Full need) is = absurd is
parts_tell g n mid new kept (refusals.Disk tried) is = tt
parts_tell g n mid new kept (refusals.Damaged damage) is = tt
parts_tell g n mid new kept refusals.Memory is = tt

-- ---- a file set to less

-- all of a file is on the disk
pub near_of : {a : Image} {graph : Graph} {id : Puid} {f : File} {root : roots.Root} → HasFile a graph id f root → (blocks : ℕ) → length a ≡ blocks → IsNearTree blocks a (root_spelling root)
near_of {a} {graph} {id} {f} {root} s blocks sized =
    let is_root : IsRootBlock (root_spelling root) root = record { good = s.rooted.laid.good; spelled = refl } in
    subst (λ (m : ℕ). IsNearTree m a (root_spelling root)) sized (near_tree a (root_spelling root) root is_root (length a) id.block root (object_laid a root) (tree_of_laid a (root_spelling root) root is_root id.block refl s.rooted.laid)
    (omega (arith, s.holds.label.size_is, s.holds.label.is_label.some)))

-- the next root is one
pub next_root : {a : Image} {graph : Graph} {id : Puid} {f : File} {root : roots.Root} → HasFile a graph id f root → {size n block : ℕ} {next : roots.Root} → size ≤ size_limit → CutsRootPast (record root { size = size }) n block next → IsRoot next
next_root {a} {graph} {id} {f} {root} s {next = next} small cut =
    let file = λ (index : next.kind ≡ kinds.Index). no_index f.kind (sym (file_to_leaves root (leaves_of a root) f s.same).kind ∙ sym cut.kind ∙ index) in
    record { fill = λ index. absurd (file index); size = record { limit = omega (arith, small, cut.size); slots = λ index. absurd (file index) } }

-- how it is to end was read
pub cut_of : {D : Type 0} {n : ℕ} {g : Ghosts D} {old mid : D} (reads : OnlyReads g n old mid) {r : ℕ} {root : roots.Root} {kept : Kept} (v : FileView g r root old kept) {size blocks : ℕ} {end : End} → size < length v.file.bytes → IsReadEnd blocks root size end → IsEnd (g.content old) root size end → IsGoodRoot end.root → IsCut (view_on reads v) size end
cut_of reads {root = root} v {size = size} {blocks = blocks} {end = end} less read ended good =
    record { less = less; blocks = blocks; read = read; ended = subst (λ (i : Image). IsEnd i root size end) (sym reads.content) ended; good = good }

module _ {D : Type 0} {g : Ghosts D} {r : ℕ} {root : roots.Root} {start : D} {kept : Kept} {v : FileView g r root start kept} {size : ℕ} {end : End} (z : IsCut v size end) where
  abbrev next : roots.Root
  next = end.root

  abbrev Partly : Image → Type 0
  Partly c = IsPartly c v.graph (id_at r v.word) v.file (resized v.file size)

  pub trim_images : (d : D) → Leaves g start d (MayTrim (left_now g start) end) → Leaves g start d Partly
  trim_images d images = wider g start d _ _ images (left_partly z)

  -- the root is written over what was trimmed
  module _ {mid : D} (trims : Leaves g start mid (MayTrim (left_now g start) end)) (content : g.content mid ≡ trimmed (g.content start) end) {now : D} (images : Leaves g mid now (λ c. c ≡ set (g.content mid) r (root_spelling next))) where
    as_b : (c : Image) → c ≡ set (g.content mid) r (root_spelling next) → c ≡ set (trimmed (g.content start) end) r (root_spelling next)
    as_b c same = same ∙ ap (λ (i : Image). set i r (root_spelling next)) content

    pub root_images : Leaves g start now Partly
    root_images = (then) g start mid now Partly _ (trim_images mid trims) images (λ c same. subst Partly (sym (as_b c same)) (root_partly z))

    module _ (written : g.content now ≡ set (g.content mid) r (root_spelling next)) (settled : IsSettled g now)
        {new : D} {k1 : Kept} {result : Result (Unit {0}) Trouble} (frees : FreesTo g root (GivesEnd root size end) (leaves_in size) (last_node size) leaf_limit node_pointers.count now new kept k1 result) where
      given : GivesEnd root size end (g.content start) next (leaves_in size)
      given = (refl, z.ended.own, z.read.cuts_root.nodes)

      pub shrunk_ends : Becomes v (resized v.file size) new k1 result × OnOk result (TakesNone (g.content start) (g.content new)) × IfErr result (λ t. is_damage t ≡ false)
      shrunk_ends = (
        record { done = done result (frees.on _ _ _ _ _ _ now (drops z) given begun); images = (then) g start now new Partly _ root_images (frees.leaves _ _ _ _ _ _ now (drops z) given begun) (framed_partly z) },
        none result (frees.on _ _ _ _ _ _ now (drops z) given begun),
        frees.sound _ _ _ _ _ _ now (drops z) given begun,
      )
        where
          begun : IsFreeing g (g.content start) (set (trimmed (g.content start) end) r (root_spelling next)) (with_object v.graph (id_at r v.word) (objects.File (resized v.file size))) (id_at r v.word) root next (leaves_in size) (leaves_in size) (last_node size) now now kept
          begun = freeing z now settled (as_b (g.content now) written)

          done : (x : Result (Unit {0}) Trouble) → OnOk x (IsFreeing g (g.content start) (set (trimmed (g.content start) end) r (root_spelling next)) (with_object v.graph (id_at r v.word) (objects.File (resized v.file size))) (id_at r v.word) root next (leaves_in size) leaf_limit node_pointers.count now new k1) → OnOk x (BecomesFile g v.graph v.drafts (id_at r v.word) (resized v.file size) start new k1)
          done (Ok y) is = shrunk_stores z now new k1 is
          done (Err e) is = tt

          none : (x : Result (Unit {0}) Trouble) → OnOk x (IsFreeing g (g.content start) (set (trimmed (g.content start) end) r (root_spelling next)) (with_object v.graph (id_at r v.word) (objects.File (resized v.file size))) (id_at r v.word) root next (leaves_in size) leaf_limit node_pointers.count now new k1) → OnOk x (TakesNone (g.content start) (g.content new))
          none (Ok y) is = shrunk_entries z now new k1 is
          none (Err e) is = tt

-- the same told as after a try
pub later_ends : {D : Type 0} {g : Ghosts D} {block : ℕ} {root : roots.Root} {disk new : D} {kept after : Kept} {to : File} (v : FileView g block root disk kept) (P : Type 0) (result : Result (Unit {0}) Trouble)
    → Becomes v to new after result × OnOk result P × IfErr result (λ t. is_damage t ≡ false)
    → Becomes v to new after (told_as trouble_after_try result) × OnOk (told_as trouble_after_try result) P × IfErr (told_as trouble_after_try result) (λ t. is_damage t ≡ false)
later_ends v P (Ok x) all = all
later_ends v P (Err (trouble.Disk tried)) all = (record { done = tt; images = all.0.images }, tt, refl)
later_ends v P (Err (trouble.Damaged damage)) all = (record { done = tt; images = all.0.images }, tt, all.2)

-- ---- why it is refused

pub read_troubled : {D : Type 0} (g : Ghosts D) (at : Top) (old new : D) (t : Trouble) → IsTrouble g at old new t → IsShrinkTrouble g at old new t
read_troubled g at old new (trouble.Disk tried) is = is
read_troubled g at old new (trouble.Damaged damage) is = inl is

pub stop_troubled : {D : Type 0} (g : Ghosts D) (at : Top) (old new : D) (t : Trouble) → HasStoppedBy g old new t → IsShrinkTrouble g at old new t
stop_troubled g at old new (trouble.Disk tried) is = is
stop_troubled g at old new (trouble.Damaged damage) is = absurd is

pub drop_troubled : {D : Type 0} (g : Ghosts D) (at : Top) (old new : D) {n t : ℕ} {mid : D} {k0 k1 : Kept} (result : Result (Unit {0}) Trouble) → HasBegun g old mid → FollowsStart g at n t mid new k0 k1 result → IfErr result (λ e. IsShrinkTrouble g at old new (trouble_after_try e))
drop_troubled g at old new (Ok v) begun follows = tt
drop_troubled g at old new (Err (trouble.Disk tried)) begun follows = follows.refused old begun
drop_troubled g at old new (Err (trouble.Damaged damage)) begun follows = inr (follows.refused old begun)

-- of a call that follows calls that only read
pub shrink_refused : {D : Type 0} {n : ℕ} (g : Ghosts D) (at : Top) (floor : ℕ) (old mid new : D) → OnlyReads g n old mid → (kept : Kept) (t : Trouble) → IsShrinkTrouble g at mid new t → IsResizeRefusal g at floor old new kept (refused_by t)
shrink_refused {n = n} g at floor old mid new reads kept (trouble.Disk tried) is = stopped_after_reads g old mid new n tried reads is
shrink_refused {n = n} g at floor old mid new reads kept (trouble.Damaged damage) (inl is) = inl (trouble_after_reads g at old mid new n (trouble.Damaged damage) reads is)
shrink_refused g at floor old mid new reads kept (trouble.Damaged damage) (inr (NoMap code map bad)) = inr (NoMap code map (λ tells. bad (tells_after g old mid reads tells)))
shrink_refused g at floor old mid new reads kept (trouble.Damaged damage) (inr (OfFile by on same size is)) = inr (OfFile by (λ tells. on (tells_after g old mid reads tells)) same size is)

-- of a root that was read before
module _ {D : Type 0} (g : Ghosts D) (at : ℕ) (root : roots.Root) (start old new : D) (there : Tells g start → IsRootBlock (block_at (g.content start) at) root) where
  on_disk : (size : ℕ) → IsFarRoot size root → (disk_top g at start).IsFar size
  on_disk size far tells = far_block size at (g.content start) root (there tells) far

  pub shrink_on_disk : (t : Trouble) → IsShrinkTrouble g (root_top at root) old new t → IsShrinkTrouble g (disk_top g at start) old new t
  shrink_on_disk (trouble.Disk tried) is = is
  shrink_on_disk (trouble.Damaged damage) (inl is) = inl (damage_as g {at = root_top at root} {now = disk_top g at start} refl old (on_disk (g.blocks old)) damage is)
  shrink_on_disk (trouble.Damaged damage) (inr (NoMap code map bad)) = inr (NoMap code map bad)
  shrink_on_disk (trouble.Damaged damage) (inr (OfFile mid on same size is)) = inr (OfFile mid on same size (damage_as g {at = root_top at root} {now = disk_top g at start} refl mid (on_disk (g.blocks mid)) damage is))
