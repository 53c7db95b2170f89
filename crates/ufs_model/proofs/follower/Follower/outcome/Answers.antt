use Rattle.std.proofs.Common.{◌≡◌, ◌∙◌, sym, ap, subst, refl, None, Some, true, arith}
use Rattle.ufs_model.proofs.Words.{Collection, IsState, Reply, Server, State, answered, beside, block_named, collection_of, is_outcome, named, seen_by, target, with_seen}
use Rattle.ufs_model.proofs.Beside.{at_most_one, free_block, none_some, outcome_made, outcome_none, outcome_parts, outcome_stopped, some_stops}
use Rattle.ufs_model.proofs.KeepsStates.{outcome_keeps}
use Rattle.ufs_model.proofs.Outcomes.{outcome_leaves}
use Rattle.ufs_model.proofs.follower.Follower.outcome.Goals as goal

pub returns-then-is_some-clause-made : goal.returns-then-is_some-clause-made
returns-then-is_some-clause-made c =
    let stopped = some_stops c.self.inside.stopped (sym c.is_some.ensures ∙ c.if-is_some.true) in (
      subst (λ (v : Server). answered v.seed v.state c.args.who c.args.request.now c.args.reply.now ≡ None) c.self.view_is
          (outcome_stopped c.self.inside.server.seed (beside c.self.inside.server.state c.self.inside.stopped (collection_of c.self.inside.progress)) c.args.who c.args.request.now c.args.reply.now stopped c.requires.done),
      refl,
    )

pub returns-then-not-is_outcome-clause-made : goal.returns-then-not-is_outcome-clause-made
returns-then-not-is_outcome-clause-made c = (
  subst (λ (v : Server). answered v.seed v.state c.args.who c.args.request.now c.args.reply.now ≡ None) c.self.view_is
      (outcome_none c.self.inside.server.seed c.self.inside.server.state c.self.inside.stopped (collection_of c.self.inside.progress) c.args.who c.args.request.now c.args.reply.now
      c.is_quiet.ensures.stopped (none_some c.self.inside.stopped (sym c.is_some.ensures ∙ c.if-is_some.false)) c.requires.done (sym c.is_outcome.ensures ∙ c.if-not-is_outcome.true)),
  refl,
)

pub outcome-requires-clause-refused : goal.outcome-requires-clause-refused
outcome-requires-clause-refused c =
    (outcome_parts c.self.inside.server.seed c.self.inside.server.state c.args.who c.args.request.now c.args.reply.now (sym c.is_outcome.ensures ∙ c.if-not-is_outcome.false)).0

pub outcome-requires-clause-free : goal.outcome-requires-clause-free
outcome-requires-clause-free c = λ makes.
    let parts = outcome_parts c.self.inside.server.seed c.self.inside.server.state c.args.who c.args.request.now c.args.reply.now (sym c.is_outcome.ensures ∙ c.if-not-is_outcome.false) in
    rw c.block.ensures (free_block c.self.inside.server.state.graph (block_named c.args.reply.now) (parts.1 makes))

pub invariant_of-self-2 : goal.invariant_of-self-2
invariant_of-self-2 c =
    let s = c.self.inside.server.state in
    let parts = outcome_parts c.self.inside.server.seed s c.args.who c.args.request.now c.args.reply.now (sym c.is_outcome.ensures ∙ c.if-not-is_outcome.false) in
    let done = rw c.block.ensures at c.in_ok-told.ensures.ok in
    subst IsState (ap (λ (x : Reply × State). x.1) done)
    (outcome_keeps c.self.inside.server.seed s c.args.who c.args.request.now (block_named c.args.reply.now) c.self.invariant c.requests_store_bytes.ensures parts.0 parts.1)

pub returns-clause-made : goal.returns-clause-made
returns-clause-made c =
    let seed = c.self.inside.server.seed in
    let s = c.self.inside.server.state in
    let request = c.args.request.now in
    let r = c.args.reply.now in
    let st = c.self.inside.stopped in
    let test : is_outcome seed s c.args.who request r ≡ true = sym c.is_outcome.ensures ∙ c.if-not-is_outcome.false in
    let parts = outcome_parts seed s c.args.who request r test in
    let done = rw c.block.ensures at c.in_ok-told.ensures.ok in
    let was = collection_of c.self.inside.progress in
    let to : c.named-to.result ≡ named s c.args.who (target request) = c.named-to.ensures ∙ ap (named s c.args.who) c.target.ensures in
    let noted : collection_of c.note.new.self ≡ with_seen (seen_by (named s c.args.who (target request)) request c.in_ok-told.told) was =
    c.note.ensures ∙ ap (λ (x : Collection). with_seen c.seen_by.result x) c.in_ok-reserve.ensures.same
    ∙ ap (λ o. with_seen o was) (c.seen_by.ensures ∙ ap (λ o. seen_by o request c.in_ok-told.told) to) in
    let words = (outcome_leaves seed s c.args.who c.self.invariant request (block_named r) parts.0 parts.1).words in
    let drawn = ap (λ (x : Reply × State). x.1.drawn) done in
    let one = at_most_one request in
    let same = ap (λ (v : Server). v.state.drawn) c.self.view_is in (
      subst (λ (v : Server). answered v.seed v.state c.args.who request r ≡ Some (beside c.outcome.new.self.state st (collection_of c.note.new.self))) c.self.view_is
          (outcome_made seed s st was c.args.who request r c.is_quiet.ensures.stopped (none_some st (sym c.is_some.ensures ∙ c.if-is_some.false)) c.requires.done c.in_ok-told.told c.outcome.new.self.state test done
          ∙ ap (λ x. Some (beside c.outcome.new.self.state st x)) (sym noted)),
      c.outcome.ensures.seed ∙ ap (λ (v : Server). v.seed) c.self.view_is,
      omega (arith, words, drawn, one, same),
    )
