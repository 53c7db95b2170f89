use Rattle.std.proofs.Common.{ℕ, ◌≡◌, replicate, refl, sym, ◌∙◌, subst}
use Rattle.block_tree.proofs.Words.{bytes_in}
use Rattle.block_tree.proofs.reads.read_block.Goals as goal

pub returns-then-block-eq0-clause-content : goal.returns-then-block-eq0-clause-content
returns-then-block-eq0-clause-content g c = λ tells.
    c.of-content.ensures ∙ subst (λ (n : ℕ). replicate 512 c.args.fill ≡ bytes_in (g.D.Disk.content c.args.disk.now) c.args.fill n) (sym c.if-block-eq0.true) refl
