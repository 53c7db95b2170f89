use Rattle.std.proofs.Common.{◌<◌, ◌≤◌, ◌++◌, ◌∷◌, [], ◌∙◌, ap, ℕ, List, length, arith}
use Rattle.cfs_recover.proofs.Words.{pieces_of}
use Rattle.cfs_recover.proofs.Pieces.{kept_all, kept_begin, kept_push, kept_skip}
use Rattle.cfs_recover.proofs.copies.keep_root.Goals as goal

pub loop-number-init : goal.loop-number-init
loop-number-init c = kept_begin c.args.kept.now.items c.push.new.self.items c.head_piece.result c.args.root.now c.head_piece.ensures c.in_ok-push.ensures.items

pub loop-number-preserved-then-block-eq0 : goal.loop-number-preserved-then-block-eq0
loop-number-preserved-then-block-eq0 c =
    let less : c.loop-number.number < length c.args.root.now.nodes = omega arith in
    kept_skip c.loop-number.number c.args.root.now.nodes less c.loop-number.kept.items (c.args.kept.now.items ++ pieces_of c.args.root.now) c.loop-number.invariant c.if-block-eq0.true

pub loop-number-preserved : goal.loop-number-preserved
loop-number-preserved c =
    let less : c.loop-number.number < length c.args.root.now.nodes = omega arith in
    kept_push c.loop-number.number c.args.root.now.nodes less c.loop-number.kept.items (c.args.kept.now.items ++ pieces_of c.args.root.now) c.loop-number.invariant c.push-in-loop-number.new.self.items c.if-block-eq0.false
    (c.in_ok-push-2.ensures.items ∙ ap (λ (b : List ℕ). c.loop-number.kept.items ++ (record { number = c.loop-number.number; bytes = b }) ∷ []) c.to_be_bytes.ensures)

pub returns : goal.returns
returns c =
    let past : length c.args.root.now.nodes ≤ c.loop-number.number = omega arith in
    kept_all c.loop-number.number c.args.root.now.nodes c.loop-number.kept.items (c.args.kept.now.items ++ pieces_of c.args.root.now) past c.loop-number.invariant
