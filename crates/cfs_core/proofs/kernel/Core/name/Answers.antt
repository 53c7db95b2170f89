use Rattle.std.proofs.Common.{◌≡◌, ◌≢◌, ℕ, false, sym, ◌∙◌, ap, subst, arith, ◌==◌}
use Rattle.cfs_core.proofs.Words.{has_root_in, list_all, nat_tests}
use Rattle.cfs_core.specs.Kernel.{AreCollections, is_ready}
use Rattle.cfs_core.proofs.Created.{none_more}
use Rattle.cfs_core.proofs.Regranted.{drawn_more}
use Rattle.cfs_core.proofs.kernel.Core.name.Goals as goal

other : (n : ℕ) → n ≢ 0 → (n == 0) ≡ false
other n is = grind (arith, nat_tests)

pub invariant_of-self : goal.invariant_of-self
invariant_of-self g c = record {
  size = c.self.invariant.size;
  room = c.add.ensures.room ∙ c.self.invariant.room;
  kept = subst (λ (n : ℕ). AreCollections n c.self.inside.collections) (sym c.add.ensures.room) c.self.invariant.kept;
  some = ap (λ named. has_root_in named 0) c.add.ensures.named ∙ none_more c.args.id c.args.kind c.self.inside.directory.named (other c.args.id.block c.if-id-eq0.false) c.self.invariant.some;
  ready = ap (λ n. list_all (is_ready n) c.self.inside.handles.handles) c.add.ensures.room ∙ c.self.invariant.ready;
  drawn_all = drawn_more c.self.inside.handles.handles c.self.inside.words.drawn _ (ap (λ w. w.drawn) c.next.ensures.drawn) c.self.invariant.drawn_all;
}
