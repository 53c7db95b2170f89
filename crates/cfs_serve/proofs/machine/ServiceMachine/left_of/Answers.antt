use Rattle.std.proofs.Common.{arith, ap, refl, sym}
use Rattle.cfs_serve.proofs.Sessions.{left_of_stay}
use Rattle.cfs_serve.proofs.machine.ServiceMachine.left_of.Goals as goal

pub overflow_add-result : goal.overflow_add-result
overflow_add-result g c =
    let left = left_of_stay c.self.inside.ports.items c.args.self.now.ports c.args.session c.index.result.now (ap (λ x. x.ports) c.self.view_is)
    (c.if-has_left.ensures.there refl) (sym c.if-has_left.ensures.left) c.index.ensures in
    omega (arith, left.1, c.lines_left.ensures, c.self.invariant.2)

pub returns : goal.returns
returns g c =
    let left = left_of_stay c.self.inside.ports.items c.args.self.now.ports c.args.session c.index.result.now (ap (λ x. x.ports) c.self.view_is)
    (c.if-has_left.ensures.there refl) (sym c.if-has_left.ensures.left) c.index.ensures in
    omega (arith, left.0, c.lines_left.ensures)
