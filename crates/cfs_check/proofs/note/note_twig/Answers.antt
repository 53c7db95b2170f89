use Rattle.ufs_model.specs.Numbers.{has_number}
use Rattle.std.proofs.Common.{◌≡◌, ℕ, ◌<◌, ◌≤◌, [], ◌++◌, length, refl, sym, ◌∙◌, ap, arith, append-nil, length-set}
use Rattle.cfs_check.specs.Items.{AtRoot, AtTwig}
use Rattle.cfs_check.specs.Uses.{Use}
use Rattle.cfs_check.proofs.Known.{knows_more, none_used, one_used, past_fault, twig_faults}
use Rattle.cfs_check.proofs.Noted.{roots_none}
use Rattle.cfs_check.proofs.note.note_twig.Goals as goal

pub returns-then-spot-blocks-clause-known : goal.returns-then-spot-blocks-clause-known
returns-then-spot-blocks-clause-known c before items known knows look all =
    let image = c.args.image.now in
    let t = c.args.twig.now in
    let past : length image ≤ t.spot.block = omega (arith, c.if-spot-blocks.true, c.blocks-2.ensures.is) in (
      knows_more image items (AtTwig t) before c.args.survey.now _ knows (past_fault image t _ _ past c.note_if.ensures) refl
          (none_used image items (AtTwig t) _ knows.found.uses (λ n r p below uses. omega (arith, below, uses.3, past)))
          (roots_none _ _ (λ n named. absurd (omega (arith, named.is_leaf.on_disk, past)))) (λ r same. cc),
      record { more = []; is = sym (append-nil _) },
    )

pub returns-clause-known : goal.returns-clause-known
returns-clause-known c before items known knows look all =
    let image = c.args.image.now in
    let t = c.args.twig.now in
    let below : t.spot.block < length image = omega (arith, c.if-spot-blocks.false, c.blocks-2.ensures.is) in
    let roots = c.in_ok-note_names.ensures.named (λ no n is. all n (ap (λ (m : ℕ). has_number m known) (sym is.named.is) ∙ look.content.names_new no is.leaf is.is_leaf is.index is.named.slot is.named.id is.named.before is.named.has is.named.names)) in (
      knows_more image items (AtTwig t) before c.args.survey.now _ knows (twig_faults image known t c.args.found _ _ look below c.note_findings.ensures)
          (ap length c.take.ensures.put ∙ length-set {A = Use} _ _ _)
          (one_used image items (AtTwig t) _ _ t.spot.block t.spot.owner t.spot.place knows.found.size c.take.ensures knows.found.uses (λ inside. (inside, refl, refl, refl)) (λ n r p uses. (uses.3, sym uses.1, sym uses.2)))
          roots (λ r same. cc),
      record { more = roots.more; is = roots.is },
    )
