use Rattle.std.proofs.Common.{◌≡◌, ◌+◌, ◌<◌, ℕ, suc, IsTrue, List, ◌∷◌, length, drop, get_or, sym, ◌∙◌, ap, subst, length-set, add-one}
use Rattle.pair_disk.proofs.Words.{AreBlocks, Image, IsTornImage, TornPick, and_parts, drop-cons, drop_all, may_tear, picked}
use Rattle.pair_disk.proofs.Images.{blocks_set, image_set}
use Rattle.pair_disk.proofs.replay.tear.Goals as goal

-- the pick at hand, before the later ones
at_hand : (picks : List TornPick) (i : ℕ) (pick : TornPick) → i < length picks → pick ≡ get_or picks i pick → drop i picks ≡ pick ∷ drop (i + 1) picks
at_hand picks i pick on is = drop-cons picks i pick on ∙ ap (λ (p : TornPick). p ∷ drop (suc i) picks) (sym is) ∙ ap (λ (j : ℕ). pick ∷ drop j picks) (sym (add-one i))

pub loop-pick-preserved : goal.loop-pick-preserved
loop-pick-preserved c =
    let i = c.loop-pick.invariant in
    let n : ℕ = c.loop-pick.pick-index in
    let picks : List TornPick = c.args.picks.now in
    let pick : TornPick = c.pick-item.result in
    let was : Image = c.loop-pick.content.items in
    let here = at_hand picks n pick c.loop-pick-test.true c.pick-item.is in
    let put = c.put_pick.ensures.put in
    record {
      puts = ap (λ (j : Image). picked j (drop (n + 1) picks)) put ∙ sym (ap (λ (l : List TornPick). picked was l) here) ∙ i.puts;
      allowed = λ s is may.
          let so = i.allowed s is may in
          let both = and_parts (s.torn pick.block) (may_tear s (drop (n + 1) picks)) (subst (λ (l : List TornPick). IsTrue (may_tear s l)) here so.1) in
          (subst (IsTornImage s) (sym put) (image_set s was pick.block pick.content so.0 both.0 c.put_pick.ensures.block), both.1);
      size = ap (λ (j : Image). length j) put ∙ length-set was pick.block pick.content ∙ i.size;
      blocks = λ are. let P : Image → Type 0 = AreBlocks in subst P (sym put) (blocks_set was pick.block pick.content (i.blocks are) c.put_pick.ensures.block);
    }

pub returns-clause-picked : goal.returns-clause-picked
returns-clause-picked c =
    let l = c.loop-pick in
    sym (ap (λ (rest : List TornPick). picked l.content.items rest) (drop_all l.pick-index c.args.picks.now c.loop-pick-test.false)) ∙ l.invariant.puts

pub returns-clause-allowed : goal.returns-clause-allowed
returns-clause-allowed c = λ s is may. (c.loop-pick.invariant.allowed s is may).0
