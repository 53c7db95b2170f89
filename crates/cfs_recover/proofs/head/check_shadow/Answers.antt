use Rattle.std.proofs.Common.{refl, sym, ◌∙◌, ap, rules}
use Rattle.cfs_recover.proofs.Words.{Root, one_root_block}
use Rattle.cfs_recover.proofs.head.check_shadow.Goals as goal
use Rattle.cfs_recover.proofs.head.check_shadow.Goals.{then-ne-via-then-ne, then-ne-via-else-ne+then-root-own}

pub returns-then-ne : goal.returns-then-ne
returns-then-ne c = (
  refl,
  λ root is kind word.
      let same = one_root_block c.args.content.now root c.in_ok-root.root is c.in_ok-root.ensures in
      let same_kind = sym (ap (λ (r : Root). r.kind) same) ∙ kind in
      let same_word = sym (ap (λ (r : Root). r.word) same) ∙ word in
      elim c.then-ne.branch [
        | then-ne-via-then-ne w ↦ (search rules)
        | then-ne-via-else-ne+then-root-own w ↦ w.if-root-own.true same_word
      ],
)
