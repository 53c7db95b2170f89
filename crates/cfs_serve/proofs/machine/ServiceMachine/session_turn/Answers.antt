use Rattle.std.proofs.Common.{◌∷◌, [], ◌∙◌, arith, ap, length, length-set, length-append, refl}
use Rattle.cfs_serve.proofs.Sessions.{collected_by, wanting_by, found, some_work, heard_by, work_on}
use Rattle.cfs_serve.proofs.Raising.{counted_turn}
use Rattle.cfs_serve.proofs.Stopping.{tells_on}
use Rattle.cfs_serve.proofs.machine.ServiceMachine.session_turn.Goals as goal

pub port_turn-requires-clause-room : goal.port_turn-requires-clause-room
port_turn-requires-clause-room g c =
    let p = c.index_mut-port.result.now in
    let at = found c.self.inside.ports.items c.args.self.now.ports c.args.session p (ap (λ x. x.ports) c.self.view_is) c.requires.at c.requires.stays c.index_mut-port.ensures.value in
    omega (arith, some_work c.self.inside.ports.items c.args.session p at.0 at.1, c.self.invariant.1)

pub port_turn-requires-clause-few : goal.port_turn-requires-clause-few
port_turn-requires-clause-few g c = omega (arith, c.self.invariant.2)

pub port_turn-requires-clause-stays : goal.port_turn-requires-clause-stays
port_turn-requires-clause-stays g c =
    (found c.self.inside.ports.items c.args.self.now.ports c.args.session c.index_mut-port.result.now (ap (λ x. x.ports) c.self.view_is) c.requires.at c.requires.stays c.index_mut-port.ensures.value).1

pub invariant_of-self : goal.invariant_of-self
invariant_of-self g c =
    let p = c.index_mut-port.result.now in
    let q = c.port_turn.new.port in
    let ps = c.self.inside.ports.items in
    let moves = c.port_turn.ensures.moves in
    let at = (found ps c.args.self.now.ports c.args.session p (ap (λ x. x.ports) c.self.view_is) c.requires.at c.requires.stays c.index_mut-port.ensures.value).0 in
    let less = work_on ps c.args.session p q moves.event at moves.kind in
    let k = c.self.invariant in (
      rw moves.recorded (heard_by g.J.Charter.charter c.self.inside.logged.events ps k.0 c.args.session p q moves.event at moves.others moves.kind),
      omega (arith, less, k.1, moves.room),
      omega (arith, less, k.2, ap length moves.recorded, length-append c.self.inside.logged.events (moves.event ∷ [])),
      rw length-set k.3,
      λ more. let left = k.4 more in let passes = c.port_turn.ensures.passes in (omega (arith, left.0, passes.steps, less), omega (arith, left.1, passes.events)),
      k.5,
      λ over whole. rw moves.recorded (collected_by g.J.Charter.charter.collections c.self.inside.logged.events c.args.session p q moves.event moves.kind (k.6 over whole)),
      k.7,
      counted_turn g.A.Server.faults g.A.Server.stands g.J.Charter.charter c.self.inside.logged c.port_turn.new.logged c.port_turn.ensures.raised _ k.8,
      tells_on c.self.inside.rest.refused (g.A.Server.stop c.self.inside.logged.server) (g.A.Server.stop c.port_turn.new.logged.server) c.port_turn.ensures.stays k.9,
      λ wants. rw moves.recorded (wanting_by g.J.Charter.charter.collections c.self.inside.logged.events c.args.session p q moves.event moves.kind (k.10 wants)),
      k.11,
      k.12,
      c.port_turn.ensures.called ∙ k.13,
    )

pub returns-clause-turn : goal.returns-clause-turn
returns-clause-turn g c =
    let p = c.index_mut-port.result.now in
    let ps = c.self.inside.ports.items in
    let at = (found ps c.args.self.now.ports c.args.session p (ap (λ x. x.ports) c.self.view_is) c.requires.at c.requires.stays c.index_mut-port.ensures.value).0 in
    rw (← c.self.view_is) (record {
      before = p;
      after = c.port_turn.new.port;
      at = at;
      ports = refl;
      moves = c.port_turn.ensures.moves;
      stamped = c.port_turn.ensures.stamped;
      collector = (refl, refl);
    })

pub returns-clause-raised : goal.returns-clause-raised
returns-clause-raised g c = rw (← c.self.view_is) c.port_turn.ensures.raised
