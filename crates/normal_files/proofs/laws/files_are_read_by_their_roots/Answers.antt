use Rattle.normal_files.proofs.Words.{length, subst, block_at, IsTree, tree_in}
use Rattle.normal_files.proofs.Laid.{rooted_is, tree_of_laid}
use Rattle.ufs_model.specs.declared.object.Object.TheVariants as objects
use Rattle.normal_files.proofs.laws.files_are_read_by_their_roots.Goals as goal

pub returns : goal.returns
returns c = λ image graph ds id f account at.
    let r = rooted_is image id (objects.File f) (account.objects id (objects.File f) at).no_bit (account.holds.objects id (objects.File f) at) in
    let content = block_at image id.block in
    record {
      owner = id.block;
      root = r.0;
      tree = subst (λ o. IsTree (length image) id.block (tree_in image content) r.0 o) r.2 (tree_of_laid image content r.0 (record { good = r.1.laid.good; spelled = r.1.here }) id.block r.1.here r.1.laid);
    }
