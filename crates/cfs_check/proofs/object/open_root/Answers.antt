use Rattle.std.proofs.Common.{◌≡◌, inl, inr, ◌<◌, ◌∷◌, [], ◌++◌, ℕ, List, length, refl, sym, ◌∙◌, ap, subst, arith, length-set, append-nil}
use Rattle.std.proofs.lemmas.List.Elements.{Contains-append_cases}
use Rattle.block_tree.specs.Pointers.{levels_below, node_levels, node_pointers, pointers_of}
use Rattle.block_tree.specs.Root.{IsRootBlock}
use Rattle.block_tree.specs.declared.root.Root.{Root}
use Rattle.cfs_base.specs.Disk.{Image, block_at}
use Rattle.std.specs.List.{Contains}
use Rattle.cfs_recover.proofs.Shown.{one_shown_root}
use Rattle.cfs_check.specs.Items.{AtRoot}
use Rattle.vol_image.specs.Fault.{reader, shown_root}
use Rattle.cfs_recover.specs.declared.head.Head.{Head}
use Rattle.cfs_check.specs.Opened.{IsHeadOf, IsShownOrNot}
use Rattle.cfs_check.specs.Twigs.{IsShownBy, Twig, extent_of, rows, twigs_of}
use Rattle.cfs_check.specs.Uses.{Use}
use Rattle.cfs_check.proofs.Known.{knows_more, one_used}
use Rattle.cfs_check.proofs.Noted.{roots_none}
use Rattle.cfs_check.proofs.Twigs.{rows_holders}
use Rattle.cfs_check.proofs.object.open_root.Goals as goal

pub returns-in_default-clause-known : goal.returns-in_default-clause-known
returns-in_default-clause-known c before items knows =
    let image = c.args.image.now in
    let r = c.args.block in
    knows_more image items (AtRoot r) before c.args.survey.now _ knows c.note_root.ensures.faults (ap length c.take.ensures.put ∙ length-set {A = Use} _ _ _)
    (one_used image items (AtRoot r) _ _ r r _ knows.found.size c.take.ensures knows.found.uses (λ inside. (refl, refl, refl)) (λ n s p uses. (uses.2, sym uses.0, sym uses.1)))
    (roots_none _ _ (λ n never. absurd never)) (λ s same. let is : r ≡ s = cc in subst (IsShownOrNot image) is c.note_root.ensures.or_not)

pub returns-clause-known : goal.returns-clause-known
returns-clause-known c before items knows =
    let image = c.args.image.now in
    let r = c.args.block in
    knows_more image items (AtRoot r) before c.args.survey.now _ knows c.note_root.ensures.faults (ap length c.take.ensures.put ∙ length-set {A = Use} _ _ _)
    (one_used image items (AtRoot r) _ _ r r _ knows.found.size c.take.ensures knows.found.uses (λ inside. (refl, refl, refl)) (λ n s p uses. (uses.2, sym uses.0, sym uses.1)))
    (roots_none _ _ (λ n never. absurd never)) (λ s same. let is : r ≡ s = cc in subst (IsShownOrNot image) is c.note_root.ensures.or_not)

-- what was listed is the tree
tree_listed : (image : Image) (r : ℕ) (head : Head) (old new : List Twig) → IsHeadOf image r head
    → (IsRootBlock (block_at image head.from) head.root → new ≡ old ++ rows image (record { owner = r; extent = extent_of head.root }) (levels_below node_levels) head.from 0 (pointers_of node_pointers (block_at image head.from)))
    → new ≡ old ++ twigs_of image r head.root
tree_listed image r head old new is listed =
    listed (subst (λ (n : ℕ). IsRootBlock (block_at image n) head.root) (sym is.from) is.shown.read.spelled)
    ∙ ap (λ (n : ℕ). old ++ rows image (record { owner = r; extent = extent_of head.root }) (levels_below node_levels) n 0 (pointers_of node_pointers (block_at image n))) is.from

pub returns-clause-lists : goal.returns-clause-lists
returns-clause-lists c =
    let image = c.args.image.now in
    let r = c.args.block in
    let head = c.in-Some.head in
    let is = c.in-Some.ensures.shown in
    record {
      added = twigs_of image r head.root;
      is = tree_listed image r head _ _ is c.in_ok-list_tree.ensures;
      all = λ root t shown has. subst (λ (x : Root). Contains (twigs_of image r x) t) (one_shown_root image r root head.root shown.read is.shown.read) has;
      only = λ t has. (head.root, is.shown, has);
    }

pub returns-clause-holders : goal.returns-clause-holders
returns-clause-holders c holders t has =
    let image = c.args.image.now in
    let r = c.args.block in
    let head = c.in-Some.head in
    let is = c.in-Some.ensures.shown in
    elim (Contains-append_cases c.args.twigs.now.items (twigs_of image r head.root) t (subst (λ (ts : List Twig). Contains ts t) (tree_listed image r head _ _ is c.in_ok-list_tree.ensures) has)) [
      | inl was ↦ holders t was
      | inr now ↦ rows_holders image (record { owner = r; extent = extent_of head.root }) (levels_below node_levels) (reader image r) 0 (pointers_of node_pointers (shown_root image r)) (omega (arith, is.from, is.on_disk)) t now
    ]
