use Rattle.std.proofs.Common.{◌≡◌, ◌+◌, ◌*◌, length, ℕ, inl, inr, true, false, Option, None, Some, Ok, Err, refl, sym, ◌∙◌, ap, subst, arith, sum}
use Rattle.block_tree.specs.declared.root.Root.{Root}
use Rattle.cfs_base.specs.Run.{Tells}
use Rattle.cyl_alloc.specs.Left.{LeftCommit, block_shown}
use Rattle.cfs_base.proofs.Passed.{is_passed}
use Rattle.normal_files.specs.Standing.{IsRootAt}
use Rattle.special_files.specs.Drafting.{begun_at}
use Rattle.ufs_model.specs.declared.asked.Request.TheVariants as asks
use Rattle.cfs_core.specs.Calls.{TriesOn, done_or}
use Rattle.cfs_core.specs.Claimed.{claims_for_slot}
use Rattle.cfs_core.specs.Finished.{FinishesLeft, since}
use Rattle.cfs_core.specs.Kernel.{Kernel}
use Rattle.cfs_core.proofs.Words.{cases_lt, Kept, PutsSlot, refused_by}
use Rattle.cfs_core.specs.Finished.{refused_since}
use Rattle.cfs_core.proofs.Joined.{done_decides, done_never, err_tried, left_none, ok_is, since_err, since_ok}
use Rattle.cfs_core.proofs.Onward.{all, does_then, on_cut, on_joined, on_then, on_unread, on_want, rooted_there}
use Rattle.cfs_core.proofs.Putting.{put_ends, put_went, tries_full}
use Rattle.cfs_core.proofs.Refusing.{retain_need, retain_out}
use Rattle.cfs_core.proofs.kernel.Core.put.Goals as goal

pub returns-in_err-room : goal.returns-in_err-room
returns-in_err-room g c = λ n k to came. rw (is_passed _ _ c.from_residual.ensures.1) (subst (λ x. TriesOn g.D.Disk k x c.args.there.now.id c.args.slot (asks.Retain to c.args.slot c.args.id) (Err c.in_err-room.field-0.0)) (sym came.same)
    (on_want g.D.Disk g.met.D.Disk.left_sized g.met.D.Disk.sized k n c.args.self.now.disk came.read.reads c.args.there.now.id c.args.slot (asks.Retain to c.args.slot c.args.id) c.in_err-room.field-0.0 c.in_err-room.ensures))

pub returns-in_err-tried : goal.returns-in_err-tried
returns-in_err-tried g c = λ n k to came.
    let G = g.D.Disk in
    let d0 = c.args.self.now.disk in
    let way = sym came.same ∙ sym c.self.view_is in
    let d1 = c.finish.new.disk in
    let s1 = c.finish.new.space in
    let why = c.in_err-tried.field-0.0 in
    rw (is_passed _ _ c.from_residual-in_err-tried.ensures.1) (subst (λ x. TriesOn G k (record x { disk = d1; space = s1 }) c.args.there.now.id c.args.slot (asks.Retain to c.args.slot c.args.id) (Err (refused_by why))) way
    (on_cut G g.met.D.Disk.left_sized g.met.D.Disk.sized k n d0 came.read.reads c.args.there.now.id c.args.slot (asks.Retain to c.args.slot c.args.id) d1 s1 why (subst (λ x. FinishesLeft G x.disk d1 x.space s1 (Err why)) (sym way) c.in_err-tried.ensures)))

-- the root couldn't be read again, or has no such slot
pub returns-in_err-root : goal.returns-in_err-root
returns-in_err-root g c = λ n k to came.
    let G = g.D.Disk in
    let d0 = c.args.self.now.disk in
    let way = sym came.same ∙ sym c.self.view_is in
    let d1 = c.finish.new.disk in
    let s1 = c.finish.new.space in
    let tried = c.in_ok-tried.tried in
    let why = since_err tried c.index_since.result c.in_err-root.field-0.0 (sym c.since.ensures ∙ c.in_err-root.was) in
    let again = rw why.1 at c.index_since.ensures in
    rw (is_passed _ _ c.from_residual-in_err-root.ensures.1) (rw why.2 (subst (λ x. TriesOn G k (record x { disk = c.index_since.new.disk; space = s1 }) c.args.there.now.id c.args.slot (asks.Retain to c.args.slot c.args.id) (Err (refused_since tried why.0))) way
    (on_unread G g.met.D.Disk.left_sized g.met.D.Disk.sized k n d0 came.read.reads c.args.there.now.id c.args.slot (asks.Retain to c.args.slot c.args.id) d1 s1 tried (subst (λ x. FinishesLeft G x.disk d1 x.space s1 (Ok tried)) (sym way) c.in_ok-tried.ensures) 1 c.index_since.new.disk c.index_since.ensures.reads
    (err_tried tried c.index_since.result c.args.there.now.root why.0 (λ none. (c.index_since.ensures.same none).0) why.1) refl why.0 again.cause again.sound again.never)))

pub invariant_of-self-2 : goal.invariant_of-self-2
invariant_of-self-2 g c =
    let was = c.self.invariant in
    let before = c.index_since.ensures.reads.same.size ∙ c.finish.ensures.ends.calls.same.size in
    let two : (g.D.Disk.blocks c.retain-ended.new.disk ≡ g.D.Disk.blocks c.index_since.new.disk) × (length c.retain-ended.new.space.free ≡ length c.finish.new.space.free) = elim (cases_lt (sum c.finish.new.space.free) 7) [
      | inl few ↦ (let full = c.retain-ended.ensures.full few in (ap g.D.Disk.blocks full.1, ap (λ (x : Kept). length x.free) full.2))
      | inr enough ↦ (let puts = c.retain-ended.ensures.fills enough in (puts.calls.same.size, puts.cylinders))
    ] in
    record {
      size = two.0 ∙ before ∙ was.size ∙ ap (λ (n : ℕ). 64 * n) (sym (two.1 ∙ c.finish.ensures.ends.moves));
      room = was.room ∙ sym (two.0 ∙ before);
      some = was.some;
      drawn_all = was.drawn_all;
      kept = was.kept;
      ready = was.ready;
    }

pub returns : goal.returns
returns g c = λ n k to came.
    let G = g.D.Disk in
    let d0 = c.args.self.now.disk in
    let way = sym came.same ∙ sym c.self.view_is in
    let d1 = c.finish.new.disk in
    let s1 = c.finish.new.space in
    let tried = c.in_ok-tried.tried in
    let fin = subst (λ x. FinishesLeft G x.disk d1 x.space s1 (Ok tried)) (sym way) c.in_ok-tried.ensures in
    let d2 = c.index_since.new.disk in
    let again = c.index_since.ensures.reads in
    let at = c.args.there.now.id.block in
    let root = c.in_ok-root.root in
    let is_root : c.index_since.result ≡ Ok root = since_ok tried c.index_since.result root (sym c.since.ensures ∙ c.in_ok-root.was) in
    let nothing : tried ≡ false → k.space.left ≡ None = λ none. left_none k.space.left (sym fin.told ∙ none) in
    let bare : tried ≡ false → Tells G k.disk → IsRootAt (G.content k.disk) at root = λ none tells.
    subst (λ (x : Root). IsRootAt (G.content k.disk) at x) (sym (ok_is root c.args.there.now.root (sym is_root ∙ (c.index_since.ensures.same none).0)))
    (subst (λ (m : ℕ). IsRootAt (G.content k.disk) m c.args.there.now.root) (ap (λ (w : Option LeftCommit). block_shown w at) (nothing none)) (came.read.rooted tells)) in
    let anew : tried ≡ true → Tells G d1 → IsRootAt (G.content d1) at root = λ some tells. (rw is_root at c.index_since.ensures).anew some tells in
    let mid : Kernel _ = record k { disk = d1; space = s1 } in
    let read : Kernel _ = record k { disk = d2; space = s1 } in
    let d3 = c.retain-ended.new.disk in
    let s3 = c.retain-ended.new.space in
    let new : Kernel _ = record k { disk = d3; space = s3 } in
    let id = c.args.there.now.id in
    let request = asks.Retain to c.args.slot c.args.id in
    let ended = c.retain-ended.result in
    let joined : TriesOn G k new id c.args.slot request (since tried (done_or ended)) = elim (cases_lt (sum s1.free) 7) [
      | inl few ↦ (
          let full = c.retain-ended.ensures.full few in
          let short = tries_full G g.met.D.Disk.left_sized g.met.D.Disk.sized read d3 s3 full.1 full.2 id to c.args.slot c.args.id few in
          subst (λ r. TriesOn G k new id c.args.slot request (since tried (done_or r))) (sym full.0)
          (on_then G g.met.D.Disk.left_sized g.met.D.Disk.sized k n d0 came.read.reads id c.args.slot request d1 s1 tried fin 1 d2 again new _ (ap G.blocks full.1 ∙ again.same.size) tt (λ is. cc)
          (λ s who i serves there none reach shut inside goes. short.ends s who i there none reach shut inside goes) short.went))
      | inr enough ↦ (
          let puts : PutsSlot G (begun_at at None root) c.args.slot (Some c.args.id) d2 d3 s1 s3 ended = subst (λ x. PutsSlot G x c.args.slot (Some c.args.id) d2 d3 s1 s3 ended) c.direct-draft.ensures (c.retain-ended.ensures.fills enough) in
          on_joined G g.met.D.Disk.left_sized g.met.D.Disk.sized k n d0 came.read.reads id c.args.slot request d1 s1 tried fin 1 d2 again new (done_or ended) (puts.calls.same.size ∙ again.same.size) (done_decides ended) (done_never ended (λ is. rw is at puts.refused))
          (does_then G g.met.D.Disk.left_sized g.met.D.Disk.sized k n d0 came.read.reads id c.args.slot request d1 s1 tried fin 1 d2 again new (done_or ended) (puts.calls.same.size ∙ again.same.size) (done_decides ended) (done_never ended (λ is. rw is at puts.refused))
          (λ s who i serves there none reach shut inside goes. put_ends G g.met.D.Disk.left_sized g.met.D.Disk.sized read d3 s3 id c.args.slot (Some c.args.id) request refl refl ended root puts
          (λ s who i serves r. (refl, retain_out k.words.seed s who to id i c.args.slot c.args.id r))
          (λ s who i serves r. ((λ short. omega (arith, short.few, enough, retain_need k.words.seed s who to id i c.args.slot c.args.id r)), omega (arith, enough))) (λ s who i r. (rw (r.bare, claims_for_slot) refl, refl, rw (r.bare, r.name, r.there) refl)) (λ s who i r goes none. let no : Some c.args.id ≡ None = none in cc)
          s who i there none reach shut inside goes (rooted_there G g.met.D.Disk.left_sized g.met.D.Disk.sized k n d0 came.read.reads id c.args.slot request d1 s1 tried fin 1 d2 again root bare anew s serves)))
          (λ none named. put_went G g.met.D.Disk.left_sized g.met.D.Disk.sized read d3 s3 id c.args.slot (Some c.args.id) request refl refl ended root puts (λ s who i serves r. (refl, retain_out k.words.seed s who to id i c.args.slot c.args.id r))
          (λ s who i serves r. ((λ short. omega (arith, short.few, enough, retain_need k.words.seed s who to id i c.args.slot c.args.id r)), omega (arith, enough))) (λ s who i r. (rw (r.bare, claims_for_slot) refl, refl, rw (r.bare, r.name, r.there) refl)) (λ s who i r goes none. let no : Some c.args.id ≡ None = none in cc)
          k (n + 1) (all G g.met.D.Disk.left_sized g.met.D.Disk.sized k n d0 came.read.reads id c.args.slot request d1 s1 tried fin 1 d2 again (nothing none)) named (bare none))
          (λ some named. put_went G g.met.D.Disk.left_sized g.met.D.Disk.sized read d3 s3 id c.args.slot (Some c.args.id) request refl refl ended root puts (λ s who i serves r. (refl, retain_out k.words.seed s who to id i c.args.slot c.args.id r))
          (λ s who i serves r. ((λ short. omega (arith, short.few, enough, retain_need k.words.seed s who to id i c.args.slot c.args.id r)), omega (arith, enough))) (λ s who i r. (rw (r.bare, claims_for_slot) refl, refl, rw (r.bare, r.name, r.there) refl)) (λ s who i r goes none. let no : Some c.args.id ≡ None = none in cc)
          mid 1 again named (anew some)))
    ] in
    subst (λ x. TriesOn G k (record x { disk = d3; space = s3 }) id c.args.slot request c.since-2.result) way
    (subst (λ r. TriesOn G k new id c.args.slot request r) (sym (c.since-2.ensures ∙ ap (since tried) c.done.ensures)) joined)
