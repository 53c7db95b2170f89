use Rattle.std.proofs.Common.{◌≡◌, ◌≢◌, ◌+◌, ◌<◌, ◌≤◌, ℕ, inl, true, false, Option, None, Ok, Err, refl, sym, ◌∙◌, ap, subst, arith, sum}
use Rattle.block_tree.specs.declared.root.Root.{Root}
use Rattle.cfs_base.specs.Run.{Tells}
use Rattle.cfs_base.specs.declared.refusal.Refused.TheVariants as refusals
use Rattle.cyl_alloc.specs.Left.{LeftCommit, block_shown}
use Rattle.cfs_base.proofs.Passed.{is_passed}
use Rattle.normal_files.specs.Standing.{IsRootAt}
use Rattle.special_files.specs.Drafting.{begun_at}
use Rattle.ufs_model.specs.declared.asked.Request.TheVariants as asks
use Rattle.cfs_core.specs.Calls.{TriesOn, done_or}
use Rattle.cfs_core.specs.Claimed.{claims_for_slot}
use Rattle.cfs_core.specs.Finished.{FinishesLeft, since}
use Rattle.cfs_core.specs.Kernel.{Kernel}
use Rattle.cfs_core.proofs.Words.{PutsSlot, refused_by}
use Rattle.cfs_core.specs.Finished.{refused_since}
use Rattle.cfs_base.specs.declared.refusal.Damage.{Damage}
use Rattle.cfs_base.specs.declared.refusal.Need.{Need}
use Rattle.cfs_core.specs.Damage.{FewLeft}
use Rattle.cfs_base.proofs.Went.{reads_none}
use Rattle.cfs_core.proofs.Joined.{damaged_since, done_decides, done_never, err_tried, full_since, left_none, ok_is, since_err, since_ok}
use Rattle.cfs_core.proofs.Onward.{all, does_then, on_cut, on_joined, on_then, on_unread, on_want, rooted_there}
use Rattle.cfs_core.proofs.Putting.{delete_short, not_short, put_ends, put_went}
use Rattle.cfs_core.proofs.Refusing.{delete_holds, delete_need, delete_out}
use Rattle.cfs_core.proofs.Went.{went_so}
use Rattle.cfs_core.proofs.kernel.Core.empty.Goals as goal

pub returns-in_err-room : goal.returns-in_err-room
returns-in_err-room g c = λ n k to is came. rw (is_passed _ _ c.from_residual.ensures.1) (subst (λ x. TriesOn g.D.Disk k x c.args.there.now.id c.args.slot (asks.Delete to c.args.slot) (Err c.in_err-room.field-0.0)) (sym came.same)
    (on_want g.D.Disk g.met.D.Disk.left_sized g.met.D.Disk.sized k n c.args.self.now.disk came.read.reads c.args.there.now.id c.args.slot (asks.Delete to c.args.slot) c.in_err-room.field-0.0 c.in_err-room.ensures))

pub returns-in_err-tried : goal.returns-in_err-tried
returns-in_err-tried g c = λ n k to is came.
    let G = g.D.Disk in
    let d0 = c.args.self.now.disk in
    let way = sym came.same ∙ sym c.self.view_is in
    let d1 = c.finish.new.disk in
    let s1 = c.finish.new.space in
    let why = c.in_err-tried.field-0.0 in
    rw (is_passed _ _ c.from_residual-in_err-tried.ensures.1) (subst (λ x. TriesOn G k (record x { disk = d1; space = s1 }) c.args.there.now.id c.args.slot (asks.Delete to c.args.slot) (Err (refused_by why))) way
    (on_cut G g.met.D.Disk.left_sized g.met.D.Disk.sized k n d0 came.read.reads c.args.there.now.id c.args.slot (asks.Delete to c.args.slot) d1 s1 why (subst (λ x. FinishesLeft G x.disk d1 x.space s1 (Err why)) (sym way) c.in_err-tried.ensures)))

-- the root couldn't be read again, or has no such slot
pub returns-in_err-root : goal.returns-in_err-root
returns-in_err-root g c = λ n k to is came.
    let G = g.D.Disk in
    let d0 = c.args.self.now.disk in
    let way = sym came.same ∙ sym c.self.view_is in
    let d1 = c.finish.new.disk in
    let s1 = c.finish.new.space in
    let tried = c.in_ok-tried.tried in
    let why = since_err tried c.index_since.result c.in_err-root.field-0.0 (sym c.since.ensures ∙ c.in_err-root.was) in
    let again = rw why.1 at c.index_since.ensures in
    rw (is_passed _ _ c.from_residual-in_err-root.ensures.1) (rw why.2 (subst (λ x. TriesOn G k (record x { disk = c.index_since.new.disk; space = s1 }) c.args.there.now.id c.args.slot (asks.Delete to c.args.slot) (Err (refused_since tried why.0))) way
    (on_unread G g.met.D.Disk.left_sized g.met.D.Disk.sized k n d0 came.read.reads c.args.there.now.id c.args.slot (asks.Delete to c.args.slot) d1 s1 tried (subst (λ x. FinishesLeft G x.disk d1 x.space s1 (Ok tried)) (sym way) c.in_ok-tried.ensures) 1 c.index_since.new.disk c.index_since.ensures.reads
    (err_tried tried c.index_since.result c.args.there.now.root why.0 (λ none. (c.index_since.ensures.same none).0) why.1) refl why.0 again.cause again.sound again.never)))

-- fewer are Free than four: such a core serves no state
pub returns-then-free-lt3 : goal.returns-then-free-lt3
returns-then-free-lt3 g c = λ n k to is came.
    let G = g.D.Disk in
    let d0 = c.args.self.now.disk in
    let way = sym came.same ∙ sym c.self.view_is in
    let d1 = c.finish.new.disk in
    let s1 = c.finish.new.space in
    let tried = c.in_ok-tried.tried in
    let fin = subst (λ x. FinishesLeft G x.disk d1 x.space s1 (Ok tried)) (sym way) c.in_ok-tried.ensures in
    let mid : Kernel _ = record k { disk = d1; space = s1 } in
    let id = c.args.there.now.id in
    let request = asks.Delete to c.args.slot in
    let damage : Damage = record { block = 0; code = 11 } in
    let few : sum s1.free < 3 = omega (arith, c.if-free-lt3.true, c.free.ensures.sum) in
    let joined = on_then G g.met.D.Disk.left_sized g.met.D.Disk.sized k n d0 came.read.reads id c.args.slot request d1 s1 tried fin 0 d1 (reads_none G 0 d1) mid (Err (refusals.Damaged damage)) refl tt (λ no. cc)
    (λ s who i serves there none reach shut inside goes. absurd (omega (arith, there.four, few)))
    (λ named. went_so G mid d1 s1 k.handles refl (omega arith) (omega arith) request (Err (refusals.Damaged damage)) tt (FewLeft refl refl (inl (refl, few)))) in
    subst (λ x. TriesOn G k (record x { disk = d1; space = s1 }) id c.args.slot request (Err (refusals.Damaged damage))) way
    (subst (λ e. TriesOn G k mid id c.args.slot request (Err e)) (damaged_since tried damage) joined)

-- a delete that goes through no grant finds enough here
pub returns-in_err-has_room : goal.returns-in_err-has_room
returns-in_err-has_room g c = λ n k to is came.
    let G = g.D.Disk in
    let d0 = c.args.self.now.disk in
    let way = sym came.same ∙ sym c.self.view_is in
    let d1 = c.finish.new.disk in
    let s1 = c.finish.new.space in
    let tried = c.in_ok-tried.tried in
    let fin = subst (λ x. FinishesLeft G x.disk d1 x.space s1 (Ok tried)) (sym way) c.in_ok-tried.ensures in
    let mid : Kernel _ = record k { disk = d1; space = s1 } in
    let id = c.args.there.now.id in
    let request = asks.Delete to c.args.slot in
    let full : Need = record { free = sum s1.free; need = 3 } in
    let why = c.in_err-has_room.ensures.full in
    let enough : 3 ≤ sum s1.free = omega (arith, c.if-free-lt3.false, c.free.ensures.sum) in
    let short = delete_short G g.met.D.Disk.left_sized g.met.D.Disk.sized mid id to c.args.slot c.args.floor is why.1 enough in
    let joined = on_then G g.met.D.Disk.left_sized g.met.D.Disk.sized k n d0 came.read.reads id c.args.slot request d1 s1 tried fin 0 d1 (reads_none G 0 d1) mid (Err (refusals.Full full)) refl tt (λ no. cc)
    (λ s who i serves there none reach shut inside goes. short.ends s who i there none reach shut inside goes) short.went in
    rw (is_passed _ _ c.from_residual-in_err-has_room.ensures.1) (subst (λ x. TriesOn G k (record x { disk = d1; space = s1 }) id c.args.slot request (Err c.in_err-has_room.field-0.0)) way
    (subst (λ e. TriesOn G k mid id c.args.slot request (Err e)) (full_since tried full ∙ sym why.0) joined))

pub returns : goal.returns
returns g c = λ n k to is came.
    let G = g.D.Disk in
    let d0 = c.args.self.now.disk in
    let way = sym came.same ∙ sym c.self.view_is in
    let d1 = c.finish.new.disk in
    let s1 = c.finish.new.space in
    let tried = c.in_ok-tried.tried in
    let fin = subst (λ x. FinishesLeft G x.disk d1 x.space s1 (Ok tried)) (sym way) c.in_ok-tried.ensures in
    let d2 = c.index_since.new.disk in
    let again = c.index_since.ensures.reads in
    let at = c.args.there.now.id.block in
    let root = c.in_ok-root.root in
    let is_root : c.index_since.result ≡ Ok root = since_ok tried c.index_since.result root (sym c.since.ensures ∙ c.in_ok-root.was) in
    let nothing : tried ≡ false → k.space.left ≡ None = λ none. left_none k.space.left (sym fin.told ∙ none) in
    let bare : tried ≡ false → Tells G k.disk → IsRootAt (G.content k.disk) at root = λ none tells.
    subst (λ (x : Root). IsRootAt (G.content k.disk) at x) (sym (ok_is root c.args.there.now.root (sym is_root ∙ (c.index_since.ensures.same none).0)))
    (subst (λ (m : ℕ). IsRootAt (G.content k.disk) m c.args.there.now.root) (ap (λ (w : Option LeftCommit). block_shown w at) (nothing none)) (came.read.rooted tells)) in
    let anew : tried ≡ true → Tells G d1 → IsRootAt (G.content d1) at root = λ some tells. (rw is_root at c.index_since.ensures).anew some tells in
    let mid : Kernel _ = record k { disk = d1; space = s1 } in
    let read : Kernel _ = record k { disk = d2; space = s1 } in
    let d3 = c.delete-ended.new.disk in
    let s3 = c.delete-ended.new.space in
    let new : Kernel _ = record k { disk = d3; space = s3 } in
    let id = c.args.there.now.id in
    let request = asks.Delete to c.args.slot in
    let ended = c.delete-ended.result in
    let puts : PutsSlot G (begun_at at None root) c.args.slot None d2 d3 s1 s3 ended = subst (λ x. PutsSlot G x c.args.slot None d2 d3 s1 s3 ended) c.direct-draft.ensures c.delete-ended.ensures in
    let never : done_or ended ≢ Err refusals.Memory = done_never ended (λ no. rw no at puts.refused) in
    let size = puts.calls.same.size ∙ again.same.size in
    let joined = on_joined G g.met.D.Disk.left_sized g.met.D.Disk.sized k n d0 came.read.reads id c.args.slot request d1 s1 tried fin 1 d2 again new (done_or ended) size (done_decides ended) never
    (does_then G g.met.D.Disk.left_sized g.met.D.Disk.sized k n d0 came.read.reads id c.args.slot request d1 s1 tried fin 1 d2 again new (done_or ended) size (done_decides ended) never
    (λ s who i serves there none reach shut inside goes. put_ends G g.met.D.Disk.left_sized g.met.D.Disk.sized read d3 s3 id c.args.slot None request refl refl ended root puts
    (λ s who i serves r. (refl, delete_out k.words.seed s who to id i c.args.slot r))
    (λ s who i serves r. (not_short s who to c.args.slot c.args.floor (sum s1.free) is c.in_ok-has_room.ensures.room (delete_need k.words.seed s who to id i c.args.slot r), serves.four)) (λ s who i r. (rw (r.bare, claims_for_slot) refl, refl, rw (r.bare, r.name, r.there) refl)) (λ s who i r goes none. delete_holds k.words.seed s who to id i c.args.slot r goes)
    s who i there none reach shut inside goes (rooted_there G g.met.D.Disk.left_sized g.met.D.Disk.sized k n d0 came.read.reads id c.args.slot request d1 s1 tried fin 1 d2 again root bare anew s serves)))
    (λ none named. put_went G g.met.D.Disk.left_sized g.met.D.Disk.sized read d3 s3 id c.args.slot None request refl refl ended root puts (λ s who i serves r. (refl, delete_out k.words.seed s who to id i c.args.slot r))
    (λ s who i serves r. (not_short s who to c.args.slot c.args.floor (sum s1.free) is c.in_ok-has_room.ensures.room (delete_need k.words.seed s who to id i c.args.slot r), serves.four)) (λ s who i r. (rw (r.bare, claims_for_slot) refl, refl, rw (r.bare, r.name, r.there) refl)) (λ s who i r goes none. delete_holds k.words.seed s who to id i c.args.slot r goes)
    k (n + 1) (all G g.met.D.Disk.left_sized g.met.D.Disk.sized k n d0 came.read.reads id c.args.slot request d1 s1 tried fin 1 d2 again (nothing none)) named (bare none))
    (λ some named. put_went G g.met.D.Disk.left_sized g.met.D.Disk.sized read d3 s3 id c.args.slot None request refl refl ended root puts (λ s who i serves r. (refl, delete_out k.words.seed s who to id i c.args.slot r))
    (λ s who i serves r. (not_short s who to c.args.slot c.args.floor (sum s1.free) is c.in_ok-has_room.ensures.room (delete_need k.words.seed s who to id i c.args.slot r), serves.four)) (λ s who i r. (rw (r.bare, claims_for_slot) refl, refl, rw (r.bare, r.name, r.there) refl)) (λ s who i r goes none. delete_holds k.words.seed s who to id i c.args.slot r goes)
    mid 1 again named (anew some)) in
    subst (λ x. TriesOn G k (record x { disk = d3; space = s3 }) id c.args.slot request c.since-2.result) way
    (subst (λ r. TriesOn G k new id c.args.slot request r) (sym (c.since-2.ensures ∙ ap (since tried) c.done.ensures)) joined)
