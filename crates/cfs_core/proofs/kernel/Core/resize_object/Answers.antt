use Rattle.std.proofs.Common.{◌≡◌, ◌<◌, ◌≤◌, ℕ, Err, true, false, refl, sym, ◌∙◌, ap, subst, arith, nat_lt}
use Rattle.cfs_base.proofs.Went.{reads_none}
use Rattle.cfs_core.proofs.Words.{nat_tests, SetSize}
use Rattle.ufs_model.specs.Limits.{most_bytes}
use Rattle.ufs_model.specs.declared.asked.Reply.TheVariants as replies
use Rattle.ufs_model.specs.declared.asked.Request.TheVariants as asks
use Rattle.ufs_model.specs.declared.object.Object.TheVariants as objects
use Rattle.cfs_core.specs.Calls.{Tries}
use Rattle.cfs_core.specs.Kernel.{Kernel}
use Rattle.cfs_core.specs.Looks.{ReachesAll}
use Rattle.cfs_core.specs.Finished.{since}
use Rattle.cfs_core.specs.StandsFor.{ServesIs}
use Rattle.cfs_core.proofs.Answering.{tries_refusal, tries_want}
use Rattle.cfs_core.proofs.FileChange.{resize_changes}
use Rattle.cfs_core.proofs.Filed.{tries_filed}
use Rattle.cfs_core.proofs.Joined.{left_none, tries_unfinished}
use Rattle.cfs_core.proofs.Refusing.{file_kind_is, resize_goes, resize_range}
use Rattle.leaf_changes.specs.Tops.{disk_top}
use Rattle.cfs_core.proofs.Words.{refused_by}
use Rattle.cfs_base.proofs.Passed.{is_passed}
use Rattle.cfs_core.proofs.kernel.Core.resize_object.Goals as goal

above : (size : ℕ) → most_bytes < size → nat_lt most_bytes size ≡ true
above size more = grind (arith, nat_tests)

within : (size : ℕ) → size ≤ most_bytes → nat_lt most_bytes size ≡ false
within size less = grind (arith, nat_tests)

pub returns-then-size-gt-MOST_BYTES : goal.returns-then-size-gt-MOST_BYTES
returns-then-size-gt-MOST_BYTES g c = λ to who way.
    let request = asks.Resize to c.args.size in
    tries_refusal g.D.Disk g.met.D.Disk.left_sized g.met.D.Disk.sized c.args.self.now who request replies.Range tt
    (λ s serves.
    let f = (way.reached request (record { to = refl; each = λ s who. refl })).0 s serves in
    resize_range 0 s who to c.args.id f.0 c.args.size f.1 (above c.args.size (omega (arith, c.if-size-gt-MOST_BYTES.true))))

pub returns-in_err-room : goal.returns-in_err-room
returns-in_err-room g c =
    let k = c.args.self.now in
    rw (is_passed _ _ c.from_residual.ensures.1) (λ to who way. tries_want g.D.Disk g.met.D.Disk.left_sized g.met.D.Disk.sized 0 k k (reads_none g.D.Disk 0 k.disk) refl who (asks.Resize to c.args.size) c.in_err-room.field-0.0 c.in_err-room.ensures.wants)

pub returns-in_err-tried : goal.returns-in_err-tried
returns-in_err-tried g c =
    let k : Kernel _ = record { disk = c.self.inside.disk; root = c.self.inside.root; directory = c.self.inside.directory; space = c.self.inside.space; words = c.self.inside.words; handles = c.self.inside.handles.handles; collections = c.self.inside.collections; stop = c.self.inside.stop } in
    rw (is_passed _ _ c.from_residual-in_err-tried.ensures.1) (λ to who way.
    let request = asks.Resize to c.args.size in
    let reach = subst (λ x. ReachesAll g.D.Disk objects.File x who request c.args.id) (sym c.self.view_is) (way.reached request (record { to = refl; each = λ s who. refl })) in
    subst (λ x. Tries g.D.Disk x (record k { disk = c.finish.new.disk; space = c.finish.new.space }) who request (Err (refused_by c.in_err-tried.field-0.0))) c.self.view_is
    (tries_unfinished g.D.Disk g.met.D.Disk.left_sized g.met.D.Disk.sized k c.finish.new.disk c.finish.new.space c.in_err-tried.field-0.0 c.in_err-tried.ensures request who _ refl refl
    (λ s serves.
    let r = reach.0 s serves in
    resize_goes k.words.seed s who to c.args.id r.0 c.args.size r.1 (within c.args.size (omega (arith, c.if-size-gt-MOST_BYTES.false))))))

pub returns : goal.returns
returns g c = λ to who way.
    let k : Kernel _ = record { disk = c.self.inside.disk; root = c.self.inside.root; directory = c.self.inside.directory; space = c.self.inside.space; words = c.self.inside.words; handles = c.self.inside.handles.handles; collections = c.self.inside.collections; stop = c.self.inside.stop } in
    let G = g.D.Disk in
    let request = asks.Resize to c.args.size in
    let reach = subst (λ x. ReachesAll G objects.File x who request c.args.id) (sym c.self.view_is) (way.reached request (record { to = refl; each = λ s who. refl })) in
    let kind = c.file_kind-kind.result in
    let d1 = c.finish.new.disk in
    let new : Kernel _ = record k { disk = c.resize-ended.new.disk; space = c.resize-ended.new.space } in
    let changes = c.resize-ended.ensures.changes in
    let less : c.args.size ≤ most_bytes = omega (arith, c.if-size-gt-MOST_BYTES.false) in
    let done = tries_filed G g.met.D.Disk.left_sized g.met.D.Disk.sized k 0 k.disk (reads_none G 0 k.disk) d1 c.finish.new.space c.in_ok-tried.tried c.in_ok-tried.ensures 0 d1 (reads_none G 0 d1) c.args.id request who reach
    c.resize-ended.new.disk c.resize-ended.new.space kind (SetSize c.args.size) (resize_changes to c.args.size) c.resize-ended.result
    (disk_top G c.args.id.block d1) refl changes.ends refl (λ told tells. changes)
    (λ none size far. subst (λ (x : _). (disk_top G c.args.id.block x).IsFar size) (c.in_ok-tried.ensures.none (left_none k.space.left (sym c.in_ok-tried.ensures.told ∙ none))).0 far) (λ some size far. far) (λ special wanted. (rw wanted at (c.resize-ended.ensures.memory (c.in_ok-room.ensures.room special))) refl)
    (λ s f serves r shut. (file_kind_is f kind (way.kind_is s (objects.File f) (subst (λ x. ServesIs G x s) c.self.view_is serves) r.there ∙ sym c.file_kind-kind.ensures), less, resize_goes k.words.seed s who to c.args.id f c.args.size r (within c.args.size less))) in
    subst (λ x. Tries G x new who request c.since.result) c.self.view_is (subst (λ r. Tries G k new who request r) (sym (c.since.ensures ∙ ap (since c.in_ok-tried.tried) c.done.ensures)) done)
