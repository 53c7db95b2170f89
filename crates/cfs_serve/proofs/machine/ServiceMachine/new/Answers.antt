use Rattle.std.proofs.Common.{◌≡◌, ◌+◌, ◌*◌, ◌<◌, ◌≤◌, ℕ, inl, inr, Option, None, arith, ap, length, subst, sym}
use Rattle.cfs_serve.proofs.Cited.{CountsFaults, CollectFault, Rest, TellsStop, cases_lt, first_fault}
use Rattle.cfs_serve.proofs.Begun.{fresh_heard}
use Rattle.cfs_serve.proofs.machine.ServiceMachine.new.Goals as goal

-- what is left at first: nothing where no collection is called for
record IsFirst (collections turns : ℕ) (rest : Rest) : Type 0 where
  pub refused : rest.refused ≡ None
  pub events : rest.events ≤ 3 * collections + 1
  pub paired : 0 < rest.events
  pub least : rest.turns ≤ turns
  pub none : collections ≡ 0 → rest.turns ≡ 0
  pub some : 0 < collections → (rest.turns ≡ turns) × (rest.events ≡ 3 * collections + 1)

first_is : (collections turns : ℕ) (rest : Rest) → (collections ≡ 0 → rest ≡ record { turns = 0; events = 1; refused = None })
    → (0 < collections → rest ≡ record { turns = turns; events = 3 * collections + 1; refused = None }) → IsFirst collections turns rest
first_is collections turns rest none some = elim (cases_lt 0 collections) [
  | inl more ↦ (let is = some more in record {
    refused = ap (λ (r : Rest). r.refused) is;
    events = omega (arith, ap (λ (r : Rest). r.events) is);
    paired = omega (arith, ap (λ (r : Rest). r.events) is);
    least = omega (arith, ap (λ (r : Rest). r.turns) is);
    none = λ no. absurd (omega (arith, no, more));
    some = λ _. (ap (λ (r : Rest). r.turns) is, ap (λ (r : Rest). r.events) is);
  })
  | inr few ↦ (let is = none (omega (arith, few)) in record {
    refused = ap (λ (r : Rest). r.refused) is;
    events = omega (arith, ap (λ (r : Rest). r.events) is);
    paired = omega (arith, ap (λ (r : Rest). r.events) is);
    least = omega (arith, ap (λ (r : Rest). r.turns) is);
    none = λ _. ap (λ (r : Rest). r.turns) is;
    some = λ more. absurd (omega (arith, more, few));
  })
]

pub invariant_of-result : goal.invariant_of-result
invariant_of-result g c =
    let t = g.J.Charter.charter in
    let made = c.new.ensures in
    let rest = first_is c.args.service.schedule.collections c.args.service.turns c.new-2.result c.new-2.ensures.none c.new-2.ensures.some in (
      rw made.events (fresh_heard t c.args.service.ports.items c.requires.fresh),
      omega (arith, made.room, c.args.service.ready.room, rest.events),
      omega (arith, ap length made.events, c.args.service.ready.few, rest.events),
      c.args.service.ready.sessions,
      λ more. elim (cases_lt 0 c.args.service.schedule.collections) [
        | inl some ↦ (let is = rest.some some in rw made.server (omega (arith, is.0, c.args.service.ready.steps), omega (arith, is.1, c.args.service.ready.events)))
        | inr none ↦ absurd (omega (arith, more, rest.none (omega (arith, none))))
      ],
      λ none. rest.none (omega (arith, none, c.requires.called)),
      λ over whole. elim (cases_lt 0 c.args.service.schedule.collections) [
        | inl some ↦ absurd (omega (arith, over, (rest.some some).0, c.args.service.ready.steps))
        | inr none ↦ (let called : t.collections ≡ 0 = omega (arith, none, c.requires.called) in rw made.events (sym called))
      ],
      λ some. rest.refused,
      subst (λ (o : Option CollectFault). CountsFaults g.A.Server.faults g.A.Server.stands t (first_fault o) c.new.result.server c.new.result.events) (sym rest.refused)
          (rw (made.events, made.server) (record {
            told = λ begun at. (c.requires.begun.told.since begun at).later;
            stops = λ begun graph at standing. (c.requires.begun.told.since begun at).later;
          })),
      subst (λ (o : Option CollectFault). TellsStop o (g.A.Server.stop c.new.result.server)) (sym rest.refused) tt,
      λ wants. absurd (cc (rest.refused, wants)),
      λ _. rest.paired,
      omega (arith, rest.least, c.args.service.ready.small),
      rw made.server c.requires.begun.called,
    )
