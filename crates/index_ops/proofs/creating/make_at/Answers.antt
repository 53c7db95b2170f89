use Rattle.index_ops.proofs.Words.{Trouble, ◌≡◌, false, Some, Ok, Err, sym, ◌∙◌, ap, arith, then_tried, IsDraftRefusal, is_full_refusal, puid_at, Drafting, bare_object, without_draft}
use Rattle.cfs_base.proofs.Runs.{still_tells}
use Rattle.index_ops.specs.Creates.{MakeEnds}
use Rattle.index_ops.proofs.Begun.{commit_refused, since}
use Rattle.index_ops.proofs.Making.{make_commits, make_stops}
use Rattle.special_files.specs.Refusal.{top_of}
use Rattle.cfs_base.proofs.Passed.{fine, handed, mapped, passed}
use Rattle.std.proofs.Common.{rules}
use Rattle.std.specs.Prelude.{IfErr}
use Rattle.index_ops.proofs.creating.make_at.Goals as goal
use Rattle.index_ops.proofs.creating.make_at.Goals.{After-from_residual-in_err-map_err, In_ok-map_err}

pub returns-in_err-swap-clause-makes : goal.returns-in_err-swap-clause-makes
returns-in_err-swap-clause-makes g c = λ v i is least bare.
    passed (MakeEnds g.D.Disk v.graph (without_draft v.id v.ds) v.id i c.args.slot (puid_at c.args.block.0 c.args.root.now.word) (bare_object c.args.root.now) c.args.disk.now c.create.new.disk c.create.new.space) _ _ c.from_residual.ensures.1
    (make_stops v c.requires.begun i is c.args.slot c.args.block.0 c.args.root.now least c.create.new.disk c.create.new.space c.create.new.self c.in_err-swap.field-0.0 (c.in_err-swap.ensures.goes v (ap (λ (x : Drafting). x.created) c.requires.begun) least bare))

-- what was committed, and why it wasn't
done : (g : _) (c : In_ok-map_err g) → c.commit_swap.result ≡ Ok tt
done g c = fine since c.commit_swap.result _ _ (mapped since _ _ c.map_err.ensures.cases (λ e k is. search rules)) c.in_ok-map_err.was

why : (g : _) (c : After-from_residual-in_err-map_err g) → (e : Trouble) × (c.commit_swap.result ≡ Err e) × (c.in_err-map_err.field-0.0 ≡ since e)
why g c = handed since c.commit_swap.result _ _ (mapped since _ _ c.map_err.ensures.cases (λ e k is. search rules)) c.in_err-map_err.was

pub returns-clause-makes : goal.returns-clause-makes
returns-clause-makes g c = λ v i is least bare.
    make_commits v c.requires.begun i is c.args.slot c.args.block.0 c.args.root.now least c.create.new.disk c.create.new.space c.create.new.self c.in_ok-swap.swap (c.in_ok-swap.ensures.goes v (ap (λ (x : Drafting). x.created) c.requires.begun) least bare)
    (c.in_ok-swap.ensures.call.stays.shadow ∙ ap (λ (x : Drafting). x.shadow) c.requires.begun) (Ok tt) (rw (done g c) at c.commit_swap.ensures.commits)

pub returns-clause-bit : goal.returns-clause-bit
returns-clause-bit g c =
    let made = c.in_ok-swap.ensures.call.ends in
    let ends = rw (done g c) at c.commit_swap.ensures.call in
    record {
      tried = λ some. then_tried g.D.Disk c.args.disk.now c.create.new.disk c.commit_swap.new.disk 11 6 made.calls ends.made;
      settled = λ some tells. ends.settled (still_tells g.D.Disk tells made.told made.calls.same);
    }

pub returns-in_err-map_err-clause-makes : goal.returns-in_err-map_err-clause-makes
returns-in_err-map_err-clause-makes g c = λ v i is least bare.
    let no = why g c in
    passed (MakeEnds g.D.Disk v.graph (without_draft v.id v.ds) v.id i c.args.slot (puid_at c.args.block.0 c.args.root.now.word) (bare_object c.args.root.now) c.args.disk.now c.commit_swap.new.disk c.commit_swap.new.space) _ _ c.from_residual-in_err-map_err.ensures.1 (rw no.2
    (make_commits v c.requires.begun i is c.args.slot c.args.block.0 c.args.root.now least c.create.new.disk c.create.new.space c.create.new.self c.in_ok-swap.swap (c.in_ok-swap.ensures.goes v (ap (λ (x : Drafting). x.created) c.requires.begun) least bare)
    (c.in_ok-swap.ensures.call.stays.shadow ∙ ap (λ (x : Drafting). x.shadow) c.requires.begun) (Err no.0) (rw no.1 at c.commit_swap.ensures.commits)))

pub returns-in_err-map_err-clause-refused : goal.returns-in_err-map_err-clause-refused
returns-in_err-map_err-clause-refused g c =
    let no = why g c in
    let call = c.in_ok-swap.ensures.call in
    let now = c.create.new.self in
    let size = c.commit_swap.ensures.call.calls.same.size ∙ call.ends.calls.same.size in
    passed (λ r. IfErr r (λ e. IsDraftRefusal g.D.Disk (top_of c.args.draft) 0 c.args.disk.now c.commit_swap.new.disk c.commit_swap.new.space e × (is_full_refusal e ≡ false))) _ _ c.from_residual-in_err-map_err.ensures.1 (rw no.2
    (commit_refused g.D.Disk (top_of c.args.draft) c.args.disk.now c.create.new.disk c.commit_swap.new.disk c.args.space.now c.create.new.space c.commit_swap.new.space 11 6 _ _ call.ends call.tried now.at now.created call.stays.at
    (λ far. let same : Some far.n ≡ Some c.args.block.0 = sym far.is ∙ call.stays.created in let n : far.n ≡ c.args.block.0 = cc in omega (arith, far.far, c.requires.on_disk, size, n)) no.0 (rw no.1 at c.commit_swap.ensures.call.refused)))
