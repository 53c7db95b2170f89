use Rattle.std.proofs.Common.{◌≡◌, ◌∙◌, sym, ap, subst, None, true, arith}
use Rattle.ufs_model.proofs.Words.{IsAnswer, IsLeastFreeRoot, IsState, Server, State, creates, has_block, refusal_of}
use Rattle.ufs_model.proofs.KeepsStates.{outcome_keeps}
use Rattle.ufs_model.proofs.Legal.{least_is_free, refused_answer, refused_plain}
use Rattle.ufs_model.proofs.Outcomes.{outcome_leaves, taken_after}
use Rattle.ufs_model.proofs.plain.Plain.answer.Goals as goal

pub returns-in-Some-clause-answer : goal.returns-in-Some-clause-answer
returns-in-Some-clause-answer c =
    subst (λ (s : Server). IsAnswer s.seed s.state c.args.who c.args.request.now c.in-Some.refused s.state) c.self.view_is
    (refused_answer c.self.inside.server.seed c.self.inside.server.state c.args.who c.args.request.now c.in-Some.refused (sym c.in-Some.ensures))

pub returns-in-Some-clause-plain : goal.returns-in-Some-clause-plain
returns-in-Some-clause-plain c = refused_plain c.self.inside.server.state c.args.who c.args.request.now c.in-Some.refused (sym c.in-Some.ensures)

pub invariant_of-self-then-creates : goal.invariant_of-self-then-creates
invariant_of-self-then-creates c =
    let s = c.self.inside.server.state in
    let none : refusal_of s c.args.who c.args.request.now ≡ None = sym c.refusal.ensures ∙ c.in_default.is in
    let makes : creates c.args.request.now ≡ true = sym c.creates.ensures ∙ c.if-creates.true in
    let first : creates c.args.request.now ≡ true → IsLeastFreeRoot s.graph.objects c.in_ok-block.block =
    subst (λ (v : Server). creates c.args.request.now ≡ true → IsLeastFreeRoot v.state.graph.objects c.in_ok-block.block) (sym c.self.view_is) (rw c.in_ok-block.ensures.ok_part at c.block_for.ensures.least) in
    let done = ap (λ x. x.1) c.in_ok-reply.ensures.ok in
    let from_three = (first makes).from_three in (
      subst IsState done (outcome_keeps c.self.inside.server.seed s c.args.who c.args.request.now c.in_ok-block.block c.self.invariant.0 c.requests_store_bytes.ensures none
          (λ m. least_is_free s.graph c.in_ok-block.block (first m))),
      omega arith,
      λ b le lt. subst (λ (t : State). has_block t.graph.objects b ≡ true) done
          (taken_after c.self.inside.server.seed s c.args.who c.args.request.now c.in_ok-block.block b c.self.invariant.0 none makes (first makes) le lt),
    )

pub invariant_of-self-else-creates : goal.invariant_of-self-else-creates
invariant_of-self-else-creates c =
    let s = c.self.inside.server.state in
    let none : refusal_of s c.args.who c.args.request.now ≡ None = sym c.refusal.ensures ∙ c.in_default.is in
    let first : creates c.args.request.now ≡ true → IsLeastFreeRoot s.graph.objects c.in_ok-block.block =
    subst (λ (v : Server). creates c.args.request.now ≡ true → IsLeastFreeRoot v.state.graph.objects c.in_ok-block.block) (sym c.self.view_is) (rw c.in_ok-block.ensures.ok_part at c.block_for.ensures.least) in
    let free = λ (m : creates c.args.request.now ≡ true). least_is_free s.graph c.in_ok-block.block (first m) in
    let done = ap (λ x. x.1) c.in_ok-reply.ensures.ok in (
      subst IsState done (outcome_keeps c.self.inside.server.seed s c.args.who c.args.request.now c.in_ok-block.block c.self.invariant.0 c.requests_store_bytes.ensures none free),
      c.self.invariant.1,
      λ b le lt. subst (λ (t : State). has_block t.graph.objects b ≡ true) done
          ((outcome_leaves c.self.inside.server.seed s c.args.who c.self.invariant.0 c.args.request.now c.in_ok-block.block none free).blocks b (c.self.invariant.2 b le lt)),
    )
