use Rattle.std.proofs.Common.{inl, inr, ℕ, length, Some, sym, ◌∙◌, ap, arith, length-set}
use Rattle.cfs_recover.proofs.Words.{Shadow, cases_eq, stands_for}
use Rattle.cfs_recover.proofs.Stood.{its_owner_alone, stands_for_none, stands_for_one}
use Rattle.cfs_recover.proofs.maps.note_standing.Goals as goal
use Rattle.cfs_recover.proofs.maps.note_standing.Goals.{else-stands-via-then-stands+else-root-blocks, else-stands-via-else-stands}

pub returns-then-root-blocks-clause-told : goal.returns-then-root-blocks-clause-told
returns-then-root-blocks-clause-told c image are entry =
    stands_for_one image c.args.block c.args.entry entry c.args.standing.now are c.note.new.self (sym c.stands.ensures ∙ c.if-stands.true)
    (omega (arith, c.if-root-blocks.true, c.blocks-then-stands.ensures)) c.note.ensures (omega (arith, ap (length {A = Shadow}) c.note.ensures, length-set {A = Shadow}))

pub returns-else-stands-clause-told : goal.returns-else-stands-clause-told
returns-else-stands-clause-told c image are entry =
    stands_for_none image c.args.block c.args.entry entry c.args.standing.now are (λ r below. elim (cases_eq r c.args.entry.owner) [
      | inr other ↦ its_owner_alone image c.args.block c.args.entry entry c.args.standing.now are r other
      | inl same ↦ elim c.else-stands.branch [
        | else-stands-via-then-stands+else-root-blocks w ↦ absurd (omega (arith, same, below, w.if-root-blocks.false, w.blocks-then-stands.ensures))
        | else-stands-via-else-stands w ↦ ap (λ (n : ℕ). stands_for n (Some c.args.entry)) same ∙ sym c.stands.ensures ∙ w.if-stands.false
      ]
    ])
