use Rattle.std.proofs.Common.{◌≡◌, ◌+◌, ◌≤◌, ℕ, length, true, false, Option, None, Ok, Err, refl, sym, ◌∙◌, ap, subst}
use Rattle.ufs_model.specs.declared.asked.Reply.TheVariants as replies
use Rattle.ufs_model.specs.declared.asked.Request.TheVariants as asks
use Rattle.cfs_core.proofs.Words.{AFile, Image, is_range, Overwrite, refused_by}
use Rattle.block_tree.specs.declared.root.Root.{Root}
use Rattle.normal_files.specs.Standing.{IsRootAt}
use Rattle.ufs_model.specs.declared.object.Object.TheVariants as objects
use Rattle.cfs_core.specs.Calls.{Tries}
use Rattle.cfs_core.specs.Kernel.{Kernel}
use Rattle.cfs_base.specs.Run.{Tells}
use Rattle.cyl_alloc.specs.Left.{LeftCommit, block_shown}
use Rattle.cfs_core.specs.Finished.{FinishesLeft, refused_since, since}
use Rattle.cfs_core.specs.Visits.{changing_way}
use Rattle.cfs_core.proofs.Answering.{tries_want}
use Rattle.cfs_core.proofs.Views.{knows_that}
use Rattle.cfs_core.proofs.Calm.{range_parts}
use Rattle.cfs_core.proofs.FileChange.{write_changes}
use Rattle.cfs_core.proofs.Filed.{root_there, tries_filed, tries_unread}
use Rattle.cfs_core.proofs.Joined.{left_none, ok_is, since_err, since_ok, tries_cut}
use Rattle.cfs_core.proofs.Looked.{size_read}
use Rattle.cfs_core.proofs.Refusing.{file_kind_is, write_goes, write_range}
use Rattle.cfs_core.proofs.Came.{read_there, turned_there}
use Rattle.leaf_changes.proofs.Tops.{far_block}
use Rattle.leaf_changes.specs.Tops.{root_top}
use Rattle.cfs_base.proofs.Passed.{is_passed}
use Rattle.cfs_core.proofs.kernel.Core.write_object.Goals as goal

-- what was asked for lies within the file
within : (n : ℕ) (offset count : ℕ) → is_range n offset count ≡ true → offset + count ≤ n
within n offset count is = (range_parts n offset count is).2

pub returns-then-not-is_range : goal.returns-then-not-is_range
returns-then-not-is_range g c = λ k to who visits.
    let new = c.args.self.now in
    let there = c.args.there.now in
    let at = block_shown new.space.left there.id.block in
    let read = read_there g.D.Disk g.met.D.Disk.left_sized g.met.D.Disk.sized AFile (changing_way to) who k new there visits new refl at refl in
    turned_there g.D.Disk g.met.D.Disk.left_sized g.met.D.Disk.sized AFile (changing_way to) who k new there visits new refl at refl (asks.Write to c.args.offset c.args.bytes.now) (record { to = refl; each = λ s who. refl }) 1 new.disk replies.Range tt read.reads
    (λ s f serves r knows. write_range k.words.seed s who to there.id f c.args.offset c.args.bytes.now r (ap (λ (n : ℕ). is_range n c.args.offset (length c.args.bytes.now)) (sym (size_read read f knows)) ∙ sym c.is_range.ensures ∙ c.if-not-is_range.true))

pub returns-in_err-room : goal.returns-in_err-room
returns-in_err-room g c = rw (is_passed _ _ c.from_residual.ensures.1) (λ k to who visits. tries_want g.D.Disk g.met.D.Disk.left_sized g.met.D.Disk.sized 1 k c.args.self.now visits.came.read.reads visits.came.same who (asks.Write to c.args.offset c.args.bytes.now) c.in_err-room.field-0.0 c.in_err-room.ensures.wants)

pub returns-in_err-tried : goal.returns-in_err-tried
returns-in_err-tried g c =
    let there = c.args.there.now in
    let d0 = c.args.self.now.disk in
    let d1 = c.finish.new.disk in
    let s1 = c.finish.new.space in
    let why = c.in_err-tried.field-0.0 in
    rw (is_passed _ _ c.from_residual-in_err-tried.ensures.1) (λ k to who visits.
    let request = asks.Write to c.args.offset c.args.bytes.now in
    let way = sym visits.came.same ∙ sym c.self.view_is in
    let reach = visits.reaches.reached request (record { to = refl; each = λ s who. refl }) in
    subst (λ x. Tries g.D.Disk k (record x { disk = d1; space = s1 }) who request (Err (refused_by why))) way
    (tries_cut g.D.Disk g.met.D.Disk.left_sized g.met.D.Disk.sized k 1 d0 visits.came.read.reads d1 s1 why (subst (λ x. FinishesLeft g.D.Disk x.disk d1 x.space s1 (Err why)) (sym way) c.in_err-tried.ensures) request who _ refl refl
    (λ s serves.
    let r = reach.0 s serves in
    let knows = knows_that g.D.Disk k s serves there.id (objects.File r.0) (block_shown k.space.left there.id.block) refl r.1.there in
    write_goes k.words.seed s who to there.id r.0 c.args.offset c.args.bytes.now r.1 (ap (λ (n : ℕ). is_range n c.args.offset (length c.args.bytes.now)) (sym (size_read visits.came.read r.0 knows)) ∙ sym c.is_range.ensures ∙ c.if-not-is_range.false))))

-- nothing is left, so the file is shown at its root
pub returns-in_err-root : goal.returns-in_err-root
returns-in_err-root g c =
    let there = c.args.there.now in
    let d0 = c.args.self.now.disk in
    let d1 = c.finish.new.disk in
    let s1 = c.finish.new.space in
    let tried = c.in_ok-tried.tried in
    let why = since_err tried c.root_since.result c.in_err-root.field-0.0 (sym c.since.ensures ∙ c.in_err-root.was) in
    let calm = rw why.1 at c.root_since.ensures.calm in
    rw (is_passed _ _ c.from_residual-in_err-root.ensures.1) (λ k to who visits.
    let request = asks.Write to c.args.offset c.args.bytes.now in
    let way = sym visits.came.same ∙ sym c.self.view_is in
    let reach = visits.reaches.reached request (record { to = refl; each = λ s who. refl }) in
    rw why.2 (subst (λ x. Tries g.D.Disk k (record x { disk = c.root_since.new.disk; space = s1 }) who request (Err (refused_since tried why.0))) way
    (tries_unread g.D.Disk g.met.D.Disk.left_sized g.met.D.Disk.sized k 1 d0 visits.came.read.reads d1 s1 tried (subst (λ x. FinishesLeft g.D.Disk x.disk d1 x.space s1 (Ok tried)) (sym way) c.in_ok-tried.ensures) 1 c.root_since.new.disk calm.reads
    there.id request who reach why.0 refl calm.sound calm.cause (rw why.1 at c.root_since.ensures.never)
    (λ s serves.
    let r = reach.0 s serves in
    let knows = knows_that g.D.Disk k s serves there.id (objects.File r.0) (block_shown k.space.left there.id.block) refl r.1.there in
    write_goes k.words.seed s who to there.id r.0 c.args.offset c.args.bytes.now r.1 (ap (λ (n : ℕ). is_range n c.args.offset (length c.args.bytes.now)) (sym (size_read visits.came.read r.0 knows)) ∙ sym c.is_range.ensures ∙ c.if-not-is_range.false)))))

pub returns : goal.returns
returns g c = λ k to who visits.
    let G = g.D.Disk in
    let request = asks.Write to c.args.offset c.args.bytes.now in
    let there = c.args.there.now in
    let way = sym visits.came.same ∙ sym c.self.view_is in
    let reach = visits.reaches.reached request (record { to = refl; each = λ s who. refl }) in
    let at = there.id.block in
    let seen = block_shown k.space.left at in
    let kind = c.file_kind-kind.result in
    let d0 = c.args.self.now.disk in
    let d1 = c.finish.new.disk in
    let s1 = c.finish.new.space in
    let d2 = c.root_since.new.disk in
    let tried = c.in_ok-tried.tried in
    let fin = subst (λ x. FinishesLeft G x.disk d1 x.space s1 (Ok tried)) (sym way) c.in_ok-tried.ensures in
    let was = there.root in
    let root = c.in_ok-root.root in
    let was_read : c.root_since.result ≡ Ok root = since_ok tried c.root_since.result root (sym c.since.ensures ∙ c.in_ok-root.was) in
    let d3 = c.write-ended.new.disk in
    let s3 = c.write-ended.new.space in
    let new : Kernel _ = record k { disk = d3; space = s3 } in
    let reads = visits.came.read.reads in
    let again = c.root_since.ensures.calm.reads in
    let nothing : tried ≡ false → k.space.left ≡ None = λ none. left_none k.space.left (sym fin.told ∙ none) in
    let same_block : tried ≡ false → seen ≡ at = λ none. ap (λ (w : Option LeftCommit). block_shown w at) (nothing none) in
    let same_root : tried ≡ false → root ≡ was = λ none. ok_is root was (sym was_read ∙ (c.root_since.ensures.same none).0) in
    let is_there : Tells G k.disk → Tells G d1 → IsRootAt (G.content d2) at root = λ told tells. root_there tried (G.content k.disk) (G.content d2) at seen was root
    (λ some. subst (λ (a : Image). IsRootAt a at root) (sym again.content) ((rw was_read at c.root_since.ensures).anew some tells))
    (λ none. (same_root none, ap G.content (c.root_since.ensures.same none).1 ∙ ap G.content (fin.none (nothing none)).0 ∙ reads.content, same_block none))
    (visits.came.read.rooted told) in
    let bare : tried ≡ false → Tells G k.disk → IsRootAt (G.content k.disk) at root = λ none told.
    subst (λ (x : Root). IsRootAt (G.content k.disk) at x) (sym (same_root none)) (subst (λ (n : ℕ). IsRootAt (G.content k.disk) n was) (same_block none) (visits.came.read.rooted told)) in
    let done = tries_filed G g.met.D.Disk.left_sized g.met.D.Disk.sized k 1 d0 reads d1 s1 tried fin 1 d2 again there.id request who reach
    d3 s3 kind (Overwrite c.args.offset c.args.bytes.now) (write_changes to c.args.offset c.args.bytes.now c.are_bytes.ensures) c.write-ended.result
    (root_top at root) refl c.write-ended.ensures.ends refl (λ told tells. c.write-ended.ensures.changes (is_there told tells))
    (λ none size far told. far_block size at (G.content k.disk) root (bare none told) far) (λ some size far tells. far_block size at (G.content d1) root ((rw was_read at c.root_since.ensures).anew some tells) far) (λ special wanted. (rw wanted at (c.write-ended.ensures.memory (c.in_ok-room.ensures.room special))) refl)
    (λ s f serves r shut.
    let knows = knows_that G k s serves there.id (objects.File f) seen refl r.there in
    let range = ap (λ (n : ℕ). is_range n c.args.offset (length c.args.bytes.now)) (sym (size_read visits.came.read f knows)) ∙ sym c.is_range.ensures ∙ c.if-not-is_range.false in
    (file_kind_is f kind (visits.reaches.kind_is s (objects.File f) serves r.there ∙ sym c.file_kind-kind.ensures), within (length f.bytes) c.args.offset (length c.args.bytes.now) range, write_goes k.words.seed s who to there.id f c.args.offset c.args.bytes.now r range)) in
    subst (λ x. Tries G k (record x { disk = d3; space = s3 }) who request c.since-2.result) way (subst (λ r. Tries G k new who request r) (sym (c.since-2.ensures ∙ ap (since tried) c.done.ensures)) done)
