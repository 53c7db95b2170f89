use Rattle.std.proofs.Common.{◌≡◌, List, ℕ, ◌∙◌, ap, subst, arith}
use Rattle.cfs_base.proofs.Passed.{is_passed}
use Rattle.special_files.proofs.Words.{Drafting, IfOk, Image, bytes_in, reads_within, tells_on}
use Rattle.special_files.proofs.read.ReadLeaves.{leaf_read_is}
use Rattle.special_files.proofs.draft.ObjectDraft.leaf_bytes.Goals as goal

pub returns-clause-bytes : goal.returns-clause-bytes
returns-clause-bytes g c = λ v is.
    let d0 = c.args.disk.now in
    let image = g.D.Disk.content d0 in
    let root = c.args.self.now.root in
    let reads = c.in_ok-block.ensures.turns.reads in
    let now = subst (λ (d : Drafting). IfOk c.read_block.result (λ content. content ≡ bytes_in (g.D.Disk.content c.turn_to.new.disk) d.root.fill c.in_ok-block.block)) c.self.view_is
    (c.read_block.ensures.content (tells_on g.D.Disk d0 c.turn_to.new.disk c.turn_to.new.disk 1 reads v.tells)) in
    subst (λ (bytes : List ℕ). IfOk c.read_block.result (λ content. content ≡ bytes)) (ap (λ (i : Image). bytes_in i root.fill c.in_ok-block.block) reads.content
    ∙ leaf_read_is image root c.args.leaf c.in_ok-block.block (g.met.D.Disk.of_blocks d0 v.tells.honest) (c.in_ok-block.ensures.block v.tells is) (omega (arith, c.in_ok-block.ensures.there, g.met.D.Disk.sized d0 v.tells.honest))) now

pub returns-in_err-block-clause-turns : goal.returns-in_err-block-clause-turns
returns-in_err-block-clause-turns g c = let turns = c.in_err-block.ensures.turns in rw (is_passed _ _ c.from_residual.ensures.1) (record { node = λ tells is. tt; safe = tt; to = tt; refused = turns.refused; untried = turns.untried; sound = turns.sound; reads = reads_within g.D.Disk c.args.disk.now c.turn_to.new.disk 1 2 (omega arith) turns.reads })
