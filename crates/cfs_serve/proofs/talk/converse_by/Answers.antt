use Rattle.std.proofs.Common.{◌≡◌, ◌∙◌, ap, sym}
use Rattle.cfs_serve.specs.Talking.{called_in}
use Rattle.cfs_serve.proofs.Hearing.{heard_none, none_spread, talks_by}
use Rattle.cfs_serve.proofs.talk.converse_by.Goals as goal

pub converse-end-requires-clause-heard : goal.converse-end-requires-clause-heard
converse-end-requires-clause-heard g c =
    let v = g.A.Server in
    let root = g.J.Charter.charter.root in
    let ready = c.requires.ready in
    let talk = c.new-talk.result in
    let made = c.new-talk.ensures in
    let called : called_in v talk ≡ 0 = ap (λ s. (v.tally s).called) made.server ∙ ready.called in
    rw (c.requires.exchange.1, c.requires.exchange.2, ← made.port)
    (heard_none v root c.args.lines talk ready.begins (rw (made.port, c.requires.root) ready.new) (rw made.port ready.unheard) made.events (none_spread (called_in v talk) talk.pace.every talk.pace.since called (ap (λ p. p.since) made.pace)) called
    made.lines)

pub returns : goal.returns
returns g c =
    let talk = c.converse-end.new.self in
    talks_by g.A.Server g.J.Charter.charter c.args.port c.args.every g.X.Exchange.source g.X.Exchange.sink c.converse-end.new.lines _ talk c.converse-end.result c.end.result (sym c.requires.exchange.2) c.converse-end.ensures.ends
    (sym c.into_source.ensures) (c.converse-end.ensures.every ∙ ap (λ p. p.every) c.new-talk.ensures.pace) c.end.ensures
