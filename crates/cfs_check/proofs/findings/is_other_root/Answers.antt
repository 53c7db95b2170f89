use Rattle.std.proofs.Common.{◌≡◌, ◌≢◌, List, ℕ, MatchBool, sym, ◌∙◌, subst}
use Rattle.cfs_base.specs.Disk.{block_at}
use Rattle.block_tree.specs.Root.{IsRootBlock}
use Rattle.block_tree.specs.declared.root.Root.{Root}
use Rattle.vol_image.specs.Fault.{HasNoRoot}
use Rattle.cfs_check.specs.Findings.{IsSomeRoot}
use Rattle.cfs_check.proofs.RootWords.{told_other, word_is}
use Rattle.cfs_check.proofs.findings.is_other_root.Goals as goal

pub returns-then-word : goal.returns-then-word
returns-then-word c root is = sym (word_is (block_at c.args.image.now c.args.block) root is) ∙ sym c.word.ensures ∙ c.if-word.true

pub returns : goal.returns
returns c =
    let content = block_at c.args.image.now c.args.block in
    let other : (root : Root) → IsRootBlock content root → root.word ≢ c.args.word =
    λ root is same. c.if-word.false (c.word.ensures ∙ word_is content root is ∙ same) in
    told_other content c.args.word c.is_root.result other
    (subst (λ (b : List ℕ). MatchBool c.is_root.result (IsSomeRoot b) (HasNoRoot b)) c.block.ensures c.is_root.ensures)
