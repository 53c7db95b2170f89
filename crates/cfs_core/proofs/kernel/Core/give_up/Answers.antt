use Rattle.std.proofs.Common.{◌≡◌, Option, Some, None, is_some, refl, sym, ◌∙◌, ap, subst, true, false, arith, ◌*◌, ℕ}
use Rattle.cfs_core.specs.Asked.{stopped_by, reply_to}
use Rattle.cfs_core.specs.Kernel.{Kernel, is_ready_for}
use Rattle.cfs_core.specs.Leaving.{GivesUp}
use Rattle.cfs_core.proofs.GivenUp.{given_up, not_finished, not_given_up}
use Rattle.cfs_core.proofs.Words.{refused_by}
use Rattle.cfs_core.proofs.Readied.{ready_for}
use Rattle.cfs_core.proofs.kernel.Core.give_up.Goals as goal

none_of : {A : Type 0} (o : Option A) → is_some o ≡ false → o ≡ None
none_of None is = refl
none_of (Some x) is = cc

pub abort-requires : goal.abort-requires
abort-requires g c =
    let ready = ready_for _ c.args.draft (subst (λ x. is_ready_for (g.D.Disk.blocks x.disk) c.args.draft ≡ true) (sym c.self.view_is) c.requires.ready) in
    record { on_disk = omega (arith, ready.on_disk, c.finish.ensures.ends.calls.same.size); size = c.finish.ensures.ends.calls.same.size ∙ c.self.invariant.size ∙ ap (λ (n : ℕ). 64 * n) (sym c.finish.ensures.ends.moves) }

pub returns-in-Err : goal.returns-in-Err
returns-in-Err g c =
    let k : Kernel _ = record { disk = c.self.inside.disk; root = c.self.inside.root; directory = c.self.inside.directory; space = c.self.inside.space; words = c.self.inside.words; handles = c.self.inside.handles.handles; collections = c.self.inside.collections; stop = c.self.inside.stop } in
    let runs = none_of c.self.inside.stop (sym c.is_some.ensures ∙ c.if-is_some.false) in
    let after : Kernel _ = record k { disk = c.finish.new.disk; space = c.finish.new.space } in
    subst (λ x. GivesUp g.D.Disk c.args.draft x c.refuse.new.self) c.self.view_is
    (subst (λ x. GivesUp g.D.Disk c.args.draft k x) (sym (c.refuse.ensures.stop ∙ ap (λ e. record after { stop = stopped_by (reply_to e (g.D.Disk.moment c.finish.new.disk)) k.stop }) (c.from.ensures ∙ ap refused_by c.after_try.ensures)))
    (not_finished g.D.Disk c.args.draft k c.finish.new.disk c.finish.new.space c.in-Err.trouble c.in-Err.ensures runs))

pub returns-in-Err-abort : goal.returns-in-Err-abort
returns-in-Err-abort g c =
    let k : Kernel _ = record { disk = c.self.inside.disk; root = c.self.inside.root; directory = c.self.inside.directory; space = c.self.inside.space; words = c.self.inside.words; handles = c.self.inside.handles.handles; collections = c.self.inside.collections; stop = c.self.inside.stop } in
    let runs = none_of c.self.inside.stop (sym c.is_some.ensures ∙ c.if-is_some.false) in
    let after : Kernel _ = record k { disk = c.abort.new.disk; space = c.abort.new.space } in
    subst (λ x. GivesUp g.D.Disk c.args.draft x c.refuse-in-Err-abort.new.self) c.self.view_is
    (subst (λ x. GivesUp g.D.Disk c.args.draft k x) (sym (c.refuse-in-Err-abort.ensures.stop ∙ ap (λ e. record after { stop = stopped_by (reply_to e (g.D.Disk.moment c.abort.new.disk)) k.stop }) c.from-in-Err-abort.ensures))
    (not_given_up g.D.Disk c.args.draft k c.finish.new.disk c.finish.new.space c.in-Ok.tried c.in-Ok.ensures c.abort.new.disk c.abort.new.space runs c.abort.result c.abort.ensures.aborts c.abort.ensures.call c.in-Err-abort.trouble c.in-Err-abort.is))

pub returns-in_default : goal.returns-in_default
returns-in_default g c =
    let k : Kernel _ = record { disk = c.self.inside.disk; root = c.self.inside.root; directory = c.self.inside.directory; space = c.self.inside.space; words = c.self.inside.words; handles = c.self.inside.handles.handles; collections = c.self.inside.collections; stop = c.self.inside.stop } in
    let runs = none_of c.self.inside.stop (sym c.is_some.ensures ∙ c.if-is_some.false) in
    subst (λ x. GivesUp g.D.Disk c.args.draft x (record k { disk = c.abort.new.disk; space = c.abort.new.space })) c.self.view_is
    (given_up g.D.Disk c.args.draft k c.finish.new.disk c.finish.new.space c.in-Ok.tried c.in-Ok.ensures c.abort.new.disk c.abort.new.space runs c.abort.result c.abort.ensures.aborts c.abort.ensures.call c.in_default.is)
