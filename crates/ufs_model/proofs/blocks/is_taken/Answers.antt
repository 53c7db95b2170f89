use Rattle.std.proofs.Common.{sym, ◌∙◌}
use Rattle.ufs_model.proofs.RootBlocks.{has_block-none, has_block-some}
use Rattle.ufs_model.proofs.blocks.is_taken.Goals as goal

pub returns-in-Some : goal.returns-in-Some
returns-in-Some c = sym (has_block-some c.args.block c.args.objects.now.entries _ _ (sym (c.range.ensures.between tt) ∙ c.in-Some.ensures.steps))

pub returns-in-None : goal.returns-in-None
returns-in-None c = sym (has_block-none c.args.block c.args.objects.now.entries (sym (c.range.ensures.between tt) ∙ c.in-None.ensures.steps.0))
