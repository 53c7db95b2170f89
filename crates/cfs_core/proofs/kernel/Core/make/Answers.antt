use Rattle.std.proofs.Common.{◌≡◌, ◌≢◌, ◌+◌, ℕ, inl, inr, true, false, Option, None, Result, Ok, Err, refl, sym, ◌∙◌, ap, subst, sum}
use Rattle.block_tree.specs.declared.root.Root.{Root}
use Rattle.cfs_base.specs.Run.{Tells}
use Rattle.cfs_base.specs.declared.refusal.Refused.TheVariants as refusals
use Rattle.cyl_alloc.specs.Left.{LeftCommit, block_shown}
use Rattle.cfs_base.proofs.Passed.{is_passed}
use Rattle.normal_files.specs.Standing.{IsRootAt}
use Rattle.special_files.specs.Drafting.{begun_at}
use Rattle.cfs_core.specs.Calls.{TriesOn}
use Rattle.cfs_core.specs.Finished.{FinishesLeft, since}
use Rattle.cfs_core.specs.Kernel.{Kernel}
use Rattle.cfs_core.proofs.Words.{cases_lt, refused_by, Refused}
use Rattle.cfs_core.specs.Finished.{refused_since}
use Rattle.cfs_core.proofs.Words.{made_of, Puid, PutsObject, Reply, word}
use Rattle.cfs_core.specs.Makes.{NamesMade}
use Rattle.cfs_core.proofs.Joined.{err_tried, left_none, ok_is, since_err, since_ok}
use Rattle.cfs_core.proofs.Onward.{all, does_then, on_cut, on_joined, on_then, on_unread, on_want, rooted_there}
use Rattle.cfs_core.proofs.Placed.{kind_is, made_ends, made_went, named_decides, one_block, tries_short, unmade_ends, unmade_never, unmade_went}
use Rattle.leaf_changes.specs.Tops.{root_top}
use Rattle.cfs_core.proofs.kernel.Core.make.Goals as goal

err_is : (r : Result Puid Refused) (e f : Refused) → r ≡ Err e → r ≡ Err f → f ≡ e
err_is (Ok p) e f is same = cc
err_is (Err x) e f is same = cc

pub returns-in_err-room : goal.returns-in_err-room
returns-in_err-room g c = λ n k request making came. rw (is_passed _ _ c.from_residual.ensures.1) (subst (λ x. TriesOn g.D.Disk k x c.args.there.now.id c.args.slot request (Err c.in_err-room.field-0.0)) (sym came.same)
    (on_want g.D.Disk g.met.D.Disk.left_sized g.met.D.Disk.sized k n c.args.self.now.disk came.read.reads c.args.there.now.id c.args.slot request c.in_err-room.field-0.0 c.in_err-room.ensures))

pub returns-in_err-tried : goal.returns-in_err-tried
returns-in_err-tried g c = λ n k request making came.
    let G = g.D.Disk in
    let d0 = c.args.self.now.disk in
    let way = sym came.same ∙ sym c.self.view_is in
    let d1 = c.finish.new.disk in
    let s1 = c.finish.new.space in
    let why = c.in_err-tried.field-0.0 in
    rw (is_passed _ _ c.from_residual-in_err-tried.ensures.1) (subst (λ x. TriesOn G k (record x { disk = d1; space = s1 }) c.args.there.now.id c.args.slot request (Err (refused_by why))) way
    (on_cut G g.met.D.Disk.left_sized g.met.D.Disk.sized k n d0 came.read.reads c.args.there.now.id c.args.slot request d1 s1 why (subst (λ x. FinishesLeft G x.disk d1 x.space s1 (Err why)) (sym way) c.in_err-tried.ensures)))

-- the root couldn't be read again, or has no such slot
pub returns-in_err-root : goal.returns-in_err-root
returns-in_err-root g c = λ n k request making came.
    let G = g.D.Disk in
    let d0 = c.args.self.now.disk in
    let way = sym came.same ∙ sym c.self.view_is in
    let d1 = c.finish.new.disk in
    let s1 = c.finish.new.space in
    let tried = c.in_ok-tried.tried in
    let why = since_err tried c.index_since.result c.in_err-root.field-0.0 (sym c.since.ensures ∙ c.in_err-root.was) in
    let again = rw why.1 at c.index_since.ensures in
    rw (is_passed _ _ c.from_residual-in_err-root.ensures.1) (rw why.2 (subst (λ x. TriesOn G k (record x { disk = c.index_since.new.disk; space = s1 }) c.args.there.now.id c.args.slot request (Err (refused_since tried why.0))) way
    (on_unread G g.met.D.Disk.left_sized g.met.D.Disk.sized k n d0 came.read.reads c.args.there.now.id c.args.slot request d1 s1 tried (subst (λ x. FinishesLeft G x.disk d1 x.space s1 (Ok tried)) (sym way) c.in_ok-tried.ensures) 1 c.index_since.new.disk c.index_since.ensures.reads
    (err_tried tried c.index_since.result c.args.there.now.root why.0 (λ none. (c.index_since.ensures.same none).0) why.1) making.wants why.0 again.cause again.sound again.never)))

pub returns : goal.returns
returns g c = λ n k request making came.
    let G = g.D.Disk in
    let d0 = c.args.self.now.disk in
    let way = sym came.same ∙ sym c.self.view_is in
    let d1 = c.finish.new.disk in
    let s1 = c.finish.new.space in
    let tried = c.in_ok-tried.tried in
    let fin = subst (λ x. FinishesLeft G x.disk d1 x.space s1 (Ok tried)) (sym way) c.in_ok-tried.ensures in
    let d2 = c.index_since.new.disk in
    let again = c.index_since.ensures.reads in
    let at = c.args.there.now.id.block in
    let root = c.in_ok-root.root in
    let is_root : c.index_since.result ≡ Ok root = since_ok tried c.index_since.result root (sym c.since.ensures ∙ c.in_ok-root.was) in
    let nothing : tried ≡ false → k.space.left ≡ None = λ none. left_none k.space.left (sym fin.told ∙ none) in
    let bare : tried ≡ false → Tells G k.disk → IsRootAt (G.content k.disk) at root = λ none tells.
    subst (λ (x : Root). IsRootAt (G.content k.disk) at x) (sym (ok_is root c.args.there.now.root (sym is_root ∙ (c.index_since.ensures.same none).0)))
    (subst (λ (m : ℕ). IsRootAt (G.content k.disk) m c.args.there.now.root) (ap (λ (w : Option LeftCommit). block_shown w at) (nothing none)) (came.read.rooted tells)) in
    let anew : tried ≡ true → Tells G d1 → IsRootAt (G.content d1) at root = λ some tells. (rw is_root at c.index_since.ensures).anew some tells in
    let mid : Kernel _ = record k { disk = d1; space = s1 } in
    let read : Kernel _ = record k { disk = d2; space = s1 } in
    let d3 = c.create-made.new.disk in
    let s3 = c.create-made.new.space in
    let id = c.args.there.now.id in
    let o = made_of c.args.kind c.args.fill c.args.size in
    let w = c.ahead.result in
    let p = c.in_ok-id.id in
    let drawn = subst (λ x. w ≡ word x.words.seed (x.words.drawn + 1)) (sym way) c.ahead.ensures in
    let made : c.create-made.result ≡ Ok p = since_ok tried c.create-made.result p (sym c.since-2.ensures ∙ c.in_ok-id.was) in
    let names = subst (λ kind. NamesMade (record k { disk = d3; space = s3 }) c.name.new.self p kind c.name.result) (sym (kind_is c.args.kind c.args.fill c.args.size)) (subst (λ x. NamesMade (record x { disk = d3; space = s3 }) c.name.new.self p c.args.kind c.name.result) (sym way) c.name.ensures) in
    let decides = named_decides _ _ _ _ c.name.result names in
    let joined : TriesOn G k c.name.new.self id c.args.slot request (since tried c.name.result) = elim (cases_lt (sum s1.free) 8) [
      | inl few ↦ (let full = (c.create-made.ensures.full few).0 in let no = sym full ∙ made in cc)
      | inr enough ↦ (
          let puts : PutsObject G (begun_at at None root) c.args.slot o w d2 d3 s1 s3 (Ok p) = subst (λ r. PutsObject G (begun_at at None root) c.args.slot o w d2 d3 s1 s3 r) made (rw (c.bare_root-new.ensures.object, c.bare_root-new.ensures.word, c.direct-draft.ensures) at (c.create-made.ensures.makes enough)) in
          let room = ap (λ x. x.directory.room) way ∙ c.self.invariant.room ∙ sym (again.same.size ∙ c.finish.ensures.ends.calls.same.size) in
          let size = ap G.blocks names.disk ∙ puts.calls.same.size ∙ again.same.size in
          on_then G g.met.D.Disk.left_sized g.met.D.Disk.sized k n d0 came.read.reads id c.args.slot request d1 s1 tried fin 1 d2 again c.name.new.self c.name.result size decides.0 decides.1
          (λ s who i serves there none reach shut inside goes. made_ends G g.met.D.Disk.left_sized g.met.D.Disk.sized read d3 s3 room id c.args.slot o (one_block c.args.kind c.args.fill c.args.size) w drawn (Ok p) root puts enough request making s who i there none reach shut inside goes
          (rooted_there G g.met.D.Disk.left_sized g.met.D.Disk.sized k n d0 came.read.reads id c.args.slot request d1 s1 tried fin 1 d2 again root bare anew s serves) p refl c.name.new.self c.name.result names)
          (λ named. made_went G g.met.D.Disk.left_sized g.met.D.Disk.sized read d3 s3 room id c.args.slot o (one_block c.args.kind c.args.fill c.args.size) w drawn (Ok p) root puts enough request making p c.name.new.self c.name.result names))
    ] in
    subst (λ r. TriesOn G k c.name.new.self id c.args.slot request r) (sym c.since-3.ensures) joined

pub returns-in_err-id : goal.returns-in_err-id
returns-in_err-id g c = λ n k request making came.
    let G = g.D.Disk in
    let d0 = c.args.self.now.disk in
    let way = sym came.same ∙ sym c.self.view_is in
    let d1 = c.finish.new.disk in
    let s1 = c.finish.new.space in
    let tried = c.in_ok-tried.tried in
    let fin = subst (λ x. FinishesLeft G x.disk d1 x.space s1 (Ok tried)) (sym way) c.in_ok-tried.ensures in
    let d2 = c.index_since.new.disk in
    let again = c.index_since.ensures.reads in
    let at = c.args.there.now.id.block in
    let root = c.in_ok-root.root in
    let is_root : c.index_since.result ≡ Ok root = since_ok tried c.index_since.result root (sym c.since.ensures ∙ c.in_ok-root.was) in
    let nothing : tried ≡ false → k.space.left ≡ None = λ none. left_none k.space.left (sym fin.told ∙ none) in
    let bare : tried ≡ false → Tells G k.disk → IsRootAt (G.content k.disk) at root = λ none tells.
    subst (λ (x : Root). IsRootAt (G.content k.disk) at x) (sym (ok_is root c.args.there.now.root (sym is_root ∙ (c.index_since.ensures.same none).0)))
    (subst (λ (m : ℕ). IsRootAt (G.content k.disk) m c.args.there.now.root) (ap (λ (w : Option LeftCommit). block_shown w at) (nothing none)) (came.read.rooted tells)) in
    let anew : tried ≡ true → Tells G d1 → IsRootAt (G.content d1) at root = λ some tells. (rw is_root at c.index_since.ensures).anew some tells in
    let mid : Kernel _ = record k { disk = d1; space = s1 } in
    let read : Kernel _ = record k { disk = d2; space = s1 } in
    let d3 = c.create-made.new.disk in
    let s3 = c.create-made.new.space in
    let new : Kernel _ = record k { disk = d3; space = s3 } in
    let id = c.args.there.now.id in
    let o = made_of c.args.kind c.args.fill c.args.size in
    let w = c.ahead.result in
    let why = since_err tried c.create-made.result c.in_err-id.field-0.0 (sym c.since-2.ensures ∙ c.in_err-id.was) in
    let e = why.0 in
    let drawn = subst (λ x. w ≡ word x.words.seed (x.words.drawn + 1)) (sym way) c.ahead.ensures in
    let joined : TriesOn G k new id c.args.slot request (since tried (Err e)) = elim (cases_lt (sum s1.free) 8) [
      | inl few ↦ (
          let full = c.create-made.ensures.full few in
          let same = err_is c.create-made.result e _ why.1 full.0 in
          let short = tries_short G g.met.D.Disk.left_sized g.met.D.Disk.sized read d3 s3 full.1 full.2 id c.args.slot o few request making in
          subst (λ x. TriesOn G k new id c.args.slot request (since tried (Err x))) same
          (on_then G g.met.D.Disk.left_sized g.met.D.Disk.sized k n d0 came.read.reads id c.args.slot request d1 s1 tried fin 1 d2 again new _ (ap G.blocks full.1 ∙ again.same.size) tt (λ is. cc)
          (λ s who i serves there none reach shut inside goes. short.ends s who i there none reach shut inside goes) short.went))
      | inr enough ↦ (
          let puts : PutsObject G (begun_at at None root) c.args.slot o w d2 d3 s1 s3 (Err e) = subst (λ r. PutsObject G (begun_at at None root) c.args.slot o w d2 d3 s1 s3 r) why.1 (rw (c.bare_root-new.ensures.object, c.bare_root-new.ensures.word, c.direct-draft.ensures) at (c.create-made.ensures.makes enough)) in
          let room = ap (λ x. x.directory.room) way ∙ c.self.invariant.room ∙ sym (again.same.size ∙ c.finish.ensures.ends.calls.same.size) in
          let never : ◌≢◌ {A = Result Reply Refused} (Err e) (Err refusals.Memory) = unmade_never G (root_top at root) d2 d3 s1 s3 e puts.refused in
          let size = puts.calls.same.size ∙ again.same.size in
          on_joined G g.met.D.Disk.left_sized g.met.D.Disk.sized k n d0 came.read.reads id c.args.slot request d1 s1 tried fin 1 d2 again new (Err e) size tt never
          (does_then G g.met.D.Disk.left_sized g.met.D.Disk.sized k n d0 came.read.reads id c.args.slot request d1 s1 tried fin 1 d2 again new (Err e) size tt never
          (λ s who i serves there none reach shut inside goes. unmade_ends G g.met.D.Disk.left_sized g.met.D.Disk.sized read d3 s3 room id c.args.slot o (one_block c.args.kind c.args.fill c.args.size) w drawn (Err e) root puts enough request making s who i there none reach shut inside goes
          (rooted_there G g.met.D.Disk.left_sized g.met.D.Disk.sized k n d0 came.read.reads id c.args.slot request d1 s1 tried fin 1 d2 again root bare anew s serves) e refl))
          (λ none named. unmade_went G g.met.D.Disk.left_sized g.met.D.Disk.sized read d3 s3 room id c.args.slot o (one_block c.args.kind c.args.fill c.args.size) w drawn (Err e) root puts enough request making e refl k (n + 1) (all G g.met.D.Disk.left_sized g.met.D.Disk.sized k n d0 came.read.reads id c.args.slot request d1 s1 tried fin 1 d2 again (nothing none)) (sym (fin.none (nothing none)).1) named (bare none))
          (λ some named. unmade_went G g.met.D.Disk.left_sized g.met.D.Disk.sized read d3 s3 room id c.args.slot o (one_block c.args.kind c.args.fill c.args.size) w drawn (Err e) root puts enough request making e refl mid 1 again refl named (anew some)))
    ] in
    rw (is_passed _ _ c.from_residual-in_err-id.ensures.1) (rw why.2 (subst (λ x. TriesOn G k (record x { disk = d3; space = s3 }) id c.args.slot request (Err (refused_since tried e))) way joined))
