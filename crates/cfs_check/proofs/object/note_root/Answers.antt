use Rattle.std.proofs.Common.{◌≡◌, ◌⊎◌, inl, inr, ◌∷◌, ℕ, refl, sym, ◌∙◌, ap, subst, List, Some, None, Option, MatchOption}
use Rattle.block_tree.specs.Root.{IsRootBlock}
use Rattle.block_tree.specs.declared.root.Root.{Root}
use Rattle.cfs_base.specs.Disk.{Image, block_at}
use Rattle.vol_image.specs.Fault.{HasNoRoot, HasRootSlots, IsShownRoot}
use Rattle.cfs_recover.proofs.Shown.{one_shown_root}
use Rattle.cfs_check.specs.Items.{RootFault}
use Rattle.cfs_recover.specs.declared.head.Head.{Head}
use Rattle.cfs_check.specs.Opened.{IsHeadOf}
use Rattle.cfs_check.specs.Twigs.{IsShownBy}
use Rattle.cfs_check.proofs.RootNoted.{no_other, one_other}
use Rattle.cfs_check.proofs.object.note_root.Goals as goal

-- what a block spells is a root
some_root : (content block : List ℕ) (root : Root) → content ≡ block → IsRootBlock content root → ¬ HasNoRoot block
some_root content block root same is none = none root (subst (λ (b : List ℕ). IsRootBlock b root) same is)

pub returns-in_default-clause-faults : goal.returns-in_default-clause-faults
returns-in_default-clause-faults c =
    let image = c.args.image.now in
    let r = c.args.block in
    let none : HasNoRoot (block_at image r) = λ root is. c.in_default.not-Ok root (c.decode.ensures.each_accepted root (subst (λ (b : List ℕ). IsRootBlock b root) (sym c.block.ensures) is)) in
    one_other image r _ _ c.is_in_place.ensures c.has_two_shadows.ensures _ _ _ c.note_if.ensures c.note_if-2.ensures _ 3 c.note_if-in_default.ensures
    (RootFault.NoRoot none) (λ is. refl) (λ root is shown slots. absurd (none shown.own shown.own_spelled))

pub returns-in_err-head-clause-faults : goal.returns-in_err-head-clause-faults
returns-in_err-head-clause-faults c =
    let image = c.args.image.now in
    let r = c.args.block in
    no_other image r _ _ c.is_in_place.ensures c.has_two_shadows.ensures _ _ _ c.note_if.ensures c.note_if-2.ensures
    (some_root _ _ c.in-Ok.own c.block.ensures c.in-Ok.ensures.accepted)
    (λ root is shown none. c.in_err-head.ensures root shown)

pub returns-in_err-head-clause-shown : goal.returns-in_err-head-clause-shown
returns-in_err-head-clause-shown c =
    subst (λ (h : Option Head). MatchOption h ((root : Root) → ¬ IsShownBy c.args.image.now c.args.block root) (IsHeadOf c.args.image.now c.args.block)) (sym c.from_residual.ensures)
    (λ root shown. c.in_err-head.ensures root shown.read)

pub returns-then-is_other_index-clause-faults : goal.returns-then-is_other_index-clause-faults
returns-then-is_other_index-clause-faults c =
    let image = c.args.image.now in
    let r = c.args.block in
    let head = c.in_ok-head.ensures in
    one_other image r _ _ c.is_in_place.ensures c.has_two_shadows.ensures _ _ _ c.note_if.ensures c.note_if-2.ensures _ 6 c.note_if-then-is_other_index.ensures
    (RootFault.OtherIndex c.in_ok-head.head.root c.if-is_other_index.ensures.0 head.root c.if-is_other_index.ensures.1)
    (λ none. absurd (some_root _ _ c.in-Ok.own c.block.ensures c.in-Ok.ensures.accepted none)) (λ root is shown none. refl)

pub returns-then-is_other_index-clause-shown : goal.returns-then-is_other_index-clause-shown
returns-then-is_other_index-clause-shown c root shown =
    let same = one_shown_root c.args.image.now c.args.block root c.in_ok-head.head.root shown.read c.in_ok-head.ensures.root in
    c.if-is_other_index.ensures.1 (subst HasRootSlots same (shown.sort c.if-is_other_index.ensures.0))

pub returns-clause-faults : goal.returns-clause-faults
returns-clause-faults c =
    let image = c.args.image.now in
    let r = c.args.block in
    no_other image r _ _ c.is_in_place.ensures c.has_two_shadows.ensures _ _ _ c.note_if.ensures c.note_if-2.ensures
    (some_root _ _ c.in-Ok.own c.block.ensures c.in-Ok.ensures.accepted)
    (λ root is shown none. c.if-is_other_index.ensures (is, λ slots. none (subst HasRootSlots (sym (one_shown_root image r root c.in_ok-head.head.root shown c.in_ok-head.ensures.root)) slots)))
