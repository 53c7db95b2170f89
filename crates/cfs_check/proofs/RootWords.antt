-- The word of a root block, read in place.
use Rattle.std.proofs.Common.{◌≡◌, ◌≢◌, Bool, true, false, ℕ, List, Result, Ok, Err, IfOk, MatchBool, take, drop, ◌∙◌, ap}
use Rattle.std.specs.Prelude.{is_ok}
use Rattle.std.specs.Int.{from_be_bytes, w32}
use Rattle.std.proofs.lemmas.Nat.{from_be_bytes-to_be_bytes_4}
use Rattle.block_tree.specs.Root.{IsRootBlock, root_spelling}
use Rattle.block_tree.specs.declared.root.BadRoot.{BadRoot}
use Rattle.block_tree.specs.declared.root.Root.{Root}
use Rattle.vol_image.specs.Fault.{HasNoRoot}
use Rattle.cfs_check.specs.Findings.{IsNoOtherRoot, IsOtherRoot, IsSomeRoot}
use Rattle.cfs_check.specs.Sized.{word_in}

pub word_is : (content : List ℕ) (root : Root) → IsRootBlock content root → word_in content ≡ root.word
unfolding root_spelling
word_is content root is = ap (λ (b : List ℕ). from_be_bytes w32 (take 4 (drop 4 b))) is.spelled ∙ from_be_bytes-to_be_bytes_4 root.word is.good.0.word

-- whether a block decodes tells whether it is a root
pub told_root : (content : List ℕ) (r : Result Root BadRoot) → IfOk r (IsRootBlock content) → ((root : Root) → IsRootBlock content root → r ≡ Ok root) → MatchBool (is_ok r) (IsSomeRoot content) (HasNoRoot content)
told_root content (Ok root) is each = (root, is)
told_root content (Err e) is each = λ root spelled. let same = each root spelled in cc

-- where it isn't this word, whether the block is a root tells whether it is one of another
pub told_other : (content : List ℕ) (word : ℕ) (told : Bool) → ((root : Root) → IsRootBlock content root → root.word ≢ word) → MatchBool told (IsSomeRoot content) (HasNoRoot content)
    → MatchBool told (IsOtherRoot content word) (IsNoOtherRoot content word)
told_other content word true other is = (is.0, is.1, other is.0 is.1)
told_other content word false other none = λ root is. absurd (none root is)
