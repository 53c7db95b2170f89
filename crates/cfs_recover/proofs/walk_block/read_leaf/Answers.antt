use Rattle.std.proofs.Common.{◌≡◌, ◌<◌, ◌≤◌, ℕ, Bool, true, cond, List, length, sym, ◌∙◌, ap, subst, arith}
use Rattle.cfs_recover.proofs.Words.{AreNamed, AreNoted, IsFaultOf, IsFilled, IsNotFilled, Root, reads_within}
use Rattle.cfs_recover.specs.Reads.{is_leaf_read, reads_of_leaf}
use Rattle.cfs_recover.proofs.Objects.{late_byte, slots_named, unread_leaf}
use Rattle.cfs_recover.proofs.Refused.{caused_err, told_err, told_on}
use Rattle.cfs_recover.proofs.walk_block.read_leaf.Goals as goal

pub returns-then-not-is_read-clause-told : goal.returns-then-not-is_read-clause-told
returns-then-not-is_read-clause-told g c image owner done stored walk has last =
    let full = unread_leaf c.args.root.now.kind c.args.root.now.size c.args.twig.number (sym c.is_read.ensures ∙ c.if-not-is_read.true) in
    (walk, record { filled = λ i small past. absurd (omega (arith, full.1, past)); noted = λ index. absurd (full.0 index) })

pub returns-in_err-check_rest-clause-told : goal.returns-in_err-check_rest-clause-told
returns-in_err-check_rest-clause-told g c image owner done stored walk has last =
    let twig = c.args.twig in
    let below : twig.block < length image = omega (arith, stored.size, c.requires) in
    let wrong = c.in_err-check_rest.ensures in
    told_err _ _ _ _ c.from_residual-in_err-check_rest.ensures.1
    (subst (IsFaultOf image) (sym wrong.0) (late_byte image owner c.args.root.now twig has last below (subst (λ (b : List ℕ). IsNotFilled c.args.root.now.size c.args.root.now.fill twig.number b) (c.in_ok-content.ensures.told image stored) wrong.1)))

pub returns-in_err-note_leaf-clause-told : goal.returns-in_err-note_leaf-clause-told
returns-in_err-note_leaf-clause-told g c image owner done stored walk has last =
    let twig = c.args.twig in
    let below : twig.block < length image = omega (arith, stored.size, c.requires) in
    told_on _ _ _ _ _ c.from_residual-in_err-note_leaf.ensures.1
    (c.in_err-note_leaf.ensures.told image done walk (λ index. subst (λ (b : List ℕ). AreNamed image b c.args.root.now.size twig.number twig.block) (sym (c.in_ok-content.ensures.told image stored))
    (slots_named image owner c.args.root.now twig has last index below (stored.blocks twig.block below).long)))
    (λ d wrong. wrong)

pub returns-in_err-note_leaf-clause-cause : goal.returns-in_err-note_leaf-clause-cause
returns-in_err-note_leaf-clause-cause g c = caused_err g.D.Disk _ _ _ _ c.from_residual-in_err-note_leaf.ensures.1 c.in_err-note_leaf.ensures.no_call

pub returns-clause-told : goal.returns-clause-told
returns-clause-told g c image owner done stored walk has last =
    let twig = c.args.twig in
    let below : twig.block < length image = omega (arith, stored.size, c.requires) in
    let bytes = c.in_ok-content.ensures.told image stored in (
      c.in_ok-note_leaf.ensures.told image done walk (λ index. subst (λ (b : List ℕ). AreNamed image b c.args.root.now.size twig.number twig.block) (sym bytes)
          (slots_named image owner c.args.root.now twig has last index below (stored.blocks twig.block below).long)),
      record {
        filled = subst (λ (b : List ℕ). IsFilled c.args.root.now.size c.args.root.now.fill twig.number b) bytes c.in_ok-check_rest.ensures;
        noted = λ index. subst (λ (b : List ℕ). AreNoted c.note_leaf.new.walk b c.args.root.now.size twig.number) bytes (c.in_ok-note_leaf.ensures.noted index);
      },
    )

one_read : (root : Root) (leaf : ℕ) (b : Bool) → b ≡ is_leaf_read root.kind root.size leaf → b ≡ true → 1 ≤ reads_of_leaf root leaf
one_read root leaf b is read = omega (arith, ap {B = ℕ} (λ (c : Bool). cond c 1 0) (sym is ∙ read))

pub returns-in_err-content-clause-few : goal.returns-in_err-content-clause-few
returns-in_err-content-clause-few g c = reads_within g.D.Disk _ _ 1 _ (one_read c.args.root.now c.args.twig.number _ c.is_read.ensures c.if-not-is_read.false) c.in_err-content.ensures.reads

pub returns-in_err-check_rest-clause-few : goal.returns-in_err-check_rest-clause-few
returns-in_err-check_rest-clause-few g c = reads_within g.D.Disk _ _ 1 _ (one_read c.args.root.now c.args.twig.number _ c.is_read.ensures c.if-not-is_read.false) c.in_ok-content.ensures.reads

pub returns-in_err-note_leaf-clause-few : goal.returns-in_err-note_leaf-clause-few
returns-in_err-note_leaf-clause-few g c = reads_within g.D.Disk _ _ 1 _ (one_read c.args.root.now c.args.twig.number _ c.is_read.ensures c.if-not-is_read.false) c.in_ok-content.ensures.reads

pub returns-clause-few : goal.returns-clause-few
returns-clause-few g c = reads_within g.D.Disk _ _ 1 _ (one_read c.args.root.now c.args.twig.number _ c.is_read.ensures c.if-not-is_read.false) c.in_ok-content.ensures.reads
